use Rattle.primitives.specs.Settings.{settings_of}
use Rattle.records.specs.Books.{tables}
use Rattle.file_format.specs.Words.{words}
use Rattle.file_calls.specs.Ready.{Holds}
use Rattle.runs.specs.Steps.{Carrying}
use Rattle.runs.proofs.carry_out_calls.Given as goal

abbrev pub invariant-loop-i : goal.invariant-loop-i
invariant-loop-i l =
    let first = l.initial in
    let lent = tables first.identities first.validators first.deposits first.partials first.consolidations in
    let left = tables l.identities l.validators l.deposits l.partials l.consolidations in
    Carrying (settings_of l.settings) first.after lent (words first.rest) l.n first.results l.after left (words l.rest)
    l.i l.results
    × Holds l.after left l.sum.0
