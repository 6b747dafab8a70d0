-- How many words a queue's record has in a file.
use Rattle.std.specs.Prelude.{◌≡◌, refl, length}
use Rattle.rules.specs.Types as rule
use Rattle.file_format.specs.Fields.{number, many}
use Rattle.file_format.specs.Books.{deposit, partial, consolidation}

pub deposit_length : (d : rule.PendingBalanceDeposit) → length (deposit.write d) ≡ 6
unfolding deposit many number
deposit_length d = refl

pub partial_length : (p : rule.PendingPartialWithdrawal) → length (partial.write p) ≡ 9
unfolding partial many number
partial_length p = refl

pub consolidation_length : (c : rule.PendingConsolidation) → length (consolidation.write c) ≡ 6
unfolding consolidation many number
consolidation_length c = refl
