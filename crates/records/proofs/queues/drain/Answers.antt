use Rattle.std.proofs.Common.{◌+◌, ◌-◌, ◌*◌, ◌≡◌, ap, arith}
use Rattle.records.proofs.Entries.{copied_drained}
use Rattle.records.proofs.queues.drain.Goals as goal

pub returns : goal.returns
returns g c =
    let from : c.WORDS.result * c.args.gone
    ≡ g.E.QueueEntry.WORDS * c.args.gone = ap (λ w. w * c.args.gone) c.WORDS.ensures in
    let from_end = c.WORDS.result * c.args.gone + c.WORDS-2.result * c.args.left in
    let kept : c.WORDS-2.result * c.args.left
    ≡ g.E.QueueEntry.WORDS * c.args.left = ap (λ w. w * c.args.left) c.WORDS-2.ensures in
    let count : from_end - c.WORDS.result * c.args.gone ≡ g.E.QueueEntry.WORDS * c.args.left = omega arith in
    copied_drained g.met.E.QueueEntry.own_words c.copy_within.ensures.len c.requires from count
    c.copy_within.ensures.by_index.0 c.copy_within.ensures.by_index.2
