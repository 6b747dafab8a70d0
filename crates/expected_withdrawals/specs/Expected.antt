-- The expected withdrawals as the code returns them: sixteen records and two counts.
use Rattle.std.specs.Prelude.{List, [], ◌∷◌, map, ℕ, zero, suc, length}
use Rattle.rules.specs.Types as rule
use Rattle.rules.specs.BlockProcessing.{expected_partial_withdrawals, get_expected_withdrawals}
use Rattle.expected_withdrawals.specs.declared.Withdrawal.{Withdrawal}
use Rattle.expected_withdrawals.specs.declared.ExpectedWithdrawals.{ExpectedWithdrawals}

abbrev pub plain_withdrawal : Withdrawal → rule.Withdrawal
plain_withdrawal w = record {
  index = w.index.0;
  validator_index = w.validator_index.0;
  address = w.address;
  amount = w.amount.0;
}

abbrev pub coded_withdrawal : rule.Withdrawal → Withdrawal
coded_withdrawal w = record {
  index = record { 0 = w.index };
  validator_index = record { 0 = w.validator_index };
  address = w.address;
  amount = record { 0 = w.amount };
}

unfoldable pub zeros : ℕ → List ℕ
zeros zero = []
zeros (suc n) = 0 ∷ zeros n

-- what stands past the count
abbrev pub blank : rule.Withdrawal
blank = record { index = 0; validator_index = 0; address = zeros 20; amount = 0 }

-- n records: the first ones of ws, then blank ones
unfoldable pub padded : ℕ → List rule.Withdrawal → List rule.Withdrawal
padded zero ws = []
padded (suc n) [] = blank ∷ padded n []
padded (suc n) (w ∷ ws) = w ∷ padded n ws

-- the withdrawals ws in sixteen records
unfoldable pub sixteen : List rule.Withdrawal → (partials : ℕ) → ExpectedWithdrawals
sixteen ws partials = record {
  list = map coded_withdrawal (padded 16 ws);
  count = length ws;
  partials = partials;
}

abbrev pub no_withdrawals : ExpectedWithdrawals
no_withdrawals = sixteen [] 0

-- what is expected of the books b
unfoldable pub expected_of : rule.Settings → rule.Books → ExpectedWithdrawals
expected_of S b = sixteen (get_expected_withdrawals S b) (length (expected_partial_withdrawals S b))

-- a list that is handed to a call, with its count n; past the sixteen records it is blank
unfoldable pub handed_list : List Withdrawal → ℕ → List rule.Withdrawal
handed_list list n = padded n (map plain_withdrawal list)
