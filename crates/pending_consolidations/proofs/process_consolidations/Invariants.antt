use Rattle.primitives.specs.Settings.{settings_of}
use Rattle.records.specs.Books.{tables}
use Rattle.pending_consolidations.proofs.ConsolidationStep.{Consolidating}
use Rattle.pending_consolidations.proofs.process_consolidations.Given as goal

abbrev pub invariant-loop-i : goal.invariant-loop-i
invariant-loop-i l =
    Consolidating (settings_of l.settings)
    l.initial.after (tables l.initial.identities l.initial.validators l.initial.deposits l.partials l.consolidations)
    l.after (tables l.identities l.validators l.deposits l.partials l.consolidations) l.i
