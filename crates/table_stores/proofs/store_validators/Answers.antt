use Rattle.table_stores.specs.Laws.{validators_none, validators_more}
use Rattle.table_stores.proofs.store_validators.Goals as goal

pub loop-i-init : goal.loop-i-init
loop-i-init c = validators_none _

pub loop-i-preserved : goal.loop-i-preserved
loop-i-preserved c =
    let p = c.store_validator in
    validators_more _ c.loop-i.invariant (rw c.behind.ensures at p.ensures) p.auto.identities p.auto.validators
