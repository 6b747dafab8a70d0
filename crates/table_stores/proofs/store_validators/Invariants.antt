use Rattle.file_format.specs.Words.{words}
use Rattle.table_stores.specs.Stored.{ValidatorsStored}
use Rattle.table_stores.proofs.store_validators.Given as goal

abbrev pub invariant-loop-i : goal.invariant-loop-i
invariant-loop-i l =
    ValidatorsStored (words l.list) l.i l.initial.identities l.initial.validators l.identities l.validators
