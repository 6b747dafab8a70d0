-- A list that is handed to a call: its length, and what its array reads past its end.
use Rattle.std.specs.Prelude.{◌≡◌, refl, List, [], ◌∷◌, map, ℕ, zero, suc, length}
use Rattle.std.proofs.Common.{ap}
use Rattle.rules.specs.Types as rule
use Rattle.expected_withdrawals.specs.declared.Withdrawal.{Withdrawal}
use Rattle.expected_withdrawals.specs.Expected.{plain_withdrawal, padded, handed_list}

length_padded : (n : ℕ) (ws : List rule.Withdrawal) → length (padded n ws) ≡ n
unfolding padded
length_padded zero ws = refl
length_padded (suc n) [] = ap suc (length_padded n [])
length_padded (suc n) (w ∷ ws) = ap suc (length_padded n ws)

pub length_handed : (list : List Withdrawal) (n : ℕ) → length (handed_list list n) ≡ n
unfolding handed_list
length_handed list n = length_padded n (map plain_withdrawal list)

abbrev pub past : Withdrawal
past = record {
  index = record { 0 = 0 };
  validator_index = record { 0 = 0 };
  address = [];
  amount = record { 0 = 0 };
}
