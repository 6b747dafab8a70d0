use Rattle.std.proofs.Common.{◌+◌, ◌-◌, ◌*◌, ◌≡◌, ap, rules, arith}
use Rattle.records.proofs.Entries.{put_pushed}
use Rattle.records.proofs.queues.push.Goals as goal

pub returns : goal.returns
returns g c =
    let at : c.WORDS.result * c.args.n ≡ g.E.QueueEntry.WORDS * c.args.n = ap (λ w. w * c.args.n) c.WORDS.ensures in
    let size : c.WORDS.result * c.args.n + c.WORDS-2.result - c.WORDS.result * c.args.n
    ≡ g.E.QueueEntry.WORDS = omega (arith, c.WORDS-2.ensures) in
    put_pushed g.met.E.QueueEntry.own_words (g.E.QueueEntry.plain c.args.e) c.requires at size
    (let h = c.store.auto.words in search rules) c.store.ensures
