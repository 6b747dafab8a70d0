use mathlib.Core.Path.{◌≡◌, refl}
use Prim.Native.Nat.{◌+◌, ◌-◌}
use native.Mathlib.Omega.{arith}
use Rattle.rule_laws.specs.Accepted.{settings_sound, books_sound}
use Rattle.primitives.specs.Settings.{settings_of}
use Rattle.records.specs.Books.{tables}
use Rattle.records.specs.Reading.{room}
use Rattle.pending_deposits.specs.Ready.{DepositsReady, deposits_ready}
use Rattle.pending_deposits.proofs.DepositStep.{emptied, waiting}
use Rattle.pending_deposits.proofs.process_pending_balance_deposits.Goals as goal
use Rattle.pending_deposits.proofs.process_pending_balance_deposits.Goals.{Start, then-left-eq0, else-left-eq0}

ready : (c : Start) → DepositsReady (settings_of c.args.sound.settings) c.args.scalars
    (tables c.args.identities.now c.args.validators.now c.args.deposits.now c.args.partials.now
    c.args.consolidations.now)
ready c =
    let a = c.args in
    let S = settings_of a.sound.settings in
    let held = tables a.identities.now a.validators.now a.deposits.now a.partials.now a.consolidations.now in
    deposits_ready S a.scalars held (books_sound S _ c.requires.books_are_sound) (settings_sound S a.sound.sound)
    (room S held c.requires.room)

pub overflow_add-available : goal.overflow_add-available
overflow_add-available c =
    omega (arith, ready (goal.at.overflow_add-available c).Start, c.requires.allowance_is_limit)

pub process_deposits-processed-requires : goal.process_deposits-processed-requires
process_deposits-processed-requires c =
    let ready = ready (goal.at.process_deposits-processed-requires c).Start in
    record { held = (ready.validators, ready.deposits); known = ready.known; sums = ready.sums }

pub drain-requires : goal.drain-requires
drain-requires c = omega (arith, ready (goal.at.drain-requires c).Start)

pub returns : goal.returns
returns c =
    let a = c.args in
    let held = tables a.identities.now a.validators.now a.deposits.now a.partials.now a.consolidations.now in
    let l = c.process_deposits-processed in
    let n = a.scalars.deposits in
    let whole : l.result.next + (n - l.result.next) ≡ n = omega (arith, l.ensures.reached) in
    elim c.if-left-eq0.branch [
      | then-left-eq0 w ↦
          rw w.carry-is
          (emptied (settings_of a.sound.settings) a.scalars held a.allowance.0 _ _ _ _ _ _
          c.requires.allowance_is_limit refl l.ensures whole c.drain.ensures w.if-left-eq0.true)
      | else-left-eq0 w ↦
          rw w.carry-is
          (waiting (settings_of a.sound.settings) a.scalars held a.allowance.0 _ _ _ _ _ _
          c.requires.allowance_is_limit refl l.ensures whole c.drain.ensures (omega (arith, w.if-left-eq0.false)))
    ]
