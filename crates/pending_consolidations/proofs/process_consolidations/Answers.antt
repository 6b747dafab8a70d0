use mathlib.Core.Path.{sym, ◌∙◌}
use mathlib.Core.List.{[]}
use Prim.Native.Nat.{◌<◌, ◌≤◌}
use native.Mathlib.Omega.{arith}
use borrow.Author.Rules.{rules}
use Rattle.records.specs.Layout.{validators_fit}
use Rattle.pending_consolidations.proofs.ConsolidationStep.{consolidating_end, consolidating_drop}
use Rattle.pending_consolidations.proofs.ConsolidationStep.{consolidating_stop, consolidating_more}
use Rattle.pending_consolidations.proofs.ConsolidationStep.{validators_same, source_in, target_in, entry_room}
use Rattle.pending_consolidations.proofs.ConsolidationStep.{held_same}
use Rattle.pending_consolidations.proofs.process_consolidations.Goals as goal
use Rattle.pending_consolidations.proofs.process_consolidations.Goals.{After-entry_at-c}

source_held : (c : After-entry_at-c)
    → c.entry_at-c.result.source_index.0 < validators_fit c.loop-i.validators
source_held c =
    let l = c.loop-i in
    let read = c.entry_at-c in
    let known = source_in l.invariant c.requires c.loop-i-test.true read.result read.ensures in
    omega (arith, known, validators_same l.invariant, l.invariant.validators, c.requires.validators)

pub slashed_at-requires : goal.slashed_at-requires
slashed_at-requires c = source_held (goal.at.slashed_at-requires c).After-entry_at-c

pub loop-i-preserved-then-slashed_at-eq1 : goal.loop-i-preserved-then-slashed_at-eq1
loop-i-preserved-then-slashed_at-eq1 c =
    consolidating_drop c.loop-i.invariant
    c.requires
    c.loop-i-test.true c.entry_at-c.result
    c.entry_at-c.ensures (sym c.slashed_at.ensures ∙ c.if-slashed_at-eq1.true)

pub withdrawable_epoch_at-withdrawable-requires : goal.withdrawable_epoch_at-withdrawable-requires
withdrawable_epoch_at-withdrawable-requires c =
    source_held (goal.at.withdrawable_epoch_at-withdrawable-requires c).After-entry_at-c

pub returns-then-lt : goal.returns-then-lt
returns-then-lt c =
    let later : c.args.scalars.epoch.0 < c.withdrawable_epoch_at-withdrawable.result.0 = search rules in
    consolidating_stop c.loop-i.invariant
    c.requires
    c.loop-i-test.true c.entry_at-c.result
    c.entry_at-c.ensures (λ e. c.if-slashed_at-eq1.false
    (c.slashed_at.ensures ∙ e))
    (omega (arith, later, c.withdrawable_epoch_at-withdrawable.ensures))

pub consolidate-after-requires-clause-known : goal.consolidate-after-requires-clause-known
consolidate-after-requires-clause-known c =
    let l = c.loop-i in
    let read = c.entry_at-c in (
      source_in l.invariant c.requires c.loop-i-test.true read.result read.ensures,
      target_in l.invariant c.requires c.loop-i-test.true read.result read.ensures,
    )

pub consolidate-after-requires-clause-held_small : goal.consolidate-after-requires-clause-held_small
consolidate-after-requires-clause-held_small c =
    let l = c.loop-i in
    λ ps cs. rw (held_same l.after l.identities l.validators l.deposits ps cs c.args.partials.now
    c.args.consolidations.now) l.invariant.held_small

pub consolidate-after-requires-clause-queue_room : goal.consolidate-after-requires-clause-queue_room
consolidate-after-requires-clause-queue_room c =
    let now : c.withdrawable_epoch_at-withdrawable.result.0 ≤ c.args.scalars.epoch.0 = search rules in
    let read = c.entry_at-c in
    entry_room c.loop-i.invariant c.requires c.loop-i-test.true read.result read.ensures
    (λ e. c.if-slashed_at-eq1.false (c.slashed_at.ensures ∙ e))
    (omega (arith, now, c.withdrawable_epoch_at-withdrawable.ensures))

pub loop-i-preserved : goal.loop-i-preserved
loop-i-preserved c =
    let now : c.withdrawable_epoch_at-withdrawable.result.0 ≤ c.args.scalars.epoch.0 = search rules in
    let done = c.consolidate-after in
    consolidating_more c.loop-i.invariant
    c.requires
    c.loop-i-test.true c.entry_at-c.result
    c.entry_at-c.ensures (λ e. c.if-slashed_at-eq1.false
    (c.slashed_at.ensures ∙ e))
    (omega (
      arith,
      now,
      c.withdrawable_epoch_at-withdrawable.ensures,
    )) done.result _ _
    (done.ensures.stepped _ _) (done.ensures.deposits_counted [] [])
    done.auto.identities done.auto.validators done.auto.deposits

pub returns : goal.returns
returns c = consolidating_end c.loop-i.invariant c.loop-i-test.false
