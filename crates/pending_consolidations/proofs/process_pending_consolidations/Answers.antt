use native.Mathlib.Omega.{arith}
use Rattle.rule_laws.specs.Accepted.{books_sound}
use Rattle.primitives.specs.Settings.{settings_of}
use Rattle.records.specs.Books.{tables}
use Rattle.records.specs.Reading.{room}
use Rattle.pending_consolidations.specs.Ready.{ConsolidationsReady, consolidations_ready}
use Rattle.pending_consolidations.proofs.ConsolidationStep.{drained}
use Rattle.pending_consolidations.proofs.process_pending_consolidations.Goals as goal
use Rattle.pending_consolidations.proofs.process_pending_consolidations.Goals.{Start}

ready : (c : Start) → ConsolidationsReady (settings_of c.args.settings) c.args.scalars
    (tables c.args.identities.now c.args.validators.now c.args.deposits.now c.args.partials.now
    c.args.consolidations.now)
ready c =
    let a = c.args in
    let r = c.requires in
    let S = settings_of a.settings in
    let held = tables a.identities.now a.validators.now a.deposits.now a.partials.now a.consolidations.now in
    consolidations_ready S a.scalars held (books_sound S _ r.books_are_sound) (room S held r.room) r.queue_fits

pub process_consolidations-processed-requires : goal.process_consolidations-processed-requires
process_consolidations-processed-requires c = ready (goal.at.process_consolidations-processed-requires c).Start

pub drain-requires : goal.drain-requires
drain-requires c =
    let ready = ready (goal.at.drain-requires c).Start in
    omega (arith, ready.consolidations, c.process_consolidations-processed.ensures.reached)

pub returns : goal.returns
returns c =
    let a = c.args in
    let held = tables a.identities.now a.validators.now a.deposits.now a.partials.now a.consolidations.now in
    let l = c.process_consolidations-processed in
    drained (settings_of a.settings) a.scalars l.result.scalars held _ l.result.next _ _
    l.ensures (omega (arith, l.ensures.reached)) c.drain.ensures
