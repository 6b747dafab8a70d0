-- The expected withdrawals listed one by one, as the code's loops list them.
use Rattle.std.specs.Prelude.{Bool, ◌||◌, List, [], ◌∷◌, ℕ, ◌+◌, ◌-◌, min, set, leb, ltb}
use Rattle.lists.specs.Base.{when◌then◌else◌}
use Rattle.rules.specs.Types as rule
use Rattle.rules.specs.Helpers.{withdrawal_address}
use Rattle.rules.specs.BlockProcessing.{is_partial_payable, sweep_amount, partial_withdrawals, sweep_withdrawals}
use Rattle.expected_withdrawals.specs.declared.ExpectedWithdrawals.{ExpectedWithdrawals}
use Rattle.expected_withdrawals.specs.declared.Withdrawal.{Withdrawal}
use Rattle.expected_withdrawals.specs.Expected.{coded_withdrawal}

-- one withdrawal more, as the declared struct
abbrev pub with_withdrawal : ExpectedWithdrawals → Withdrawal → ExpectedWithdrawals
with_withdrawal e w = record {
  list = set e.list e.count w;
  count = e.count + 1;
  partials = e.partials;
}

abbrev pub pushed : ExpectedWithdrawals → rule.Withdrawal → ExpectedWithdrawals
pushed e w = with_withdrawal e (coded_withdrawal w)

unfoldable pub pushes : List rule.Withdrawal → ExpectedWithdrawals → ExpectedWithdrawals
pushes [] e = e
pushes (w ∷ ws) e = pushes ws (pushed e w)

-- all that are listed are partial withdrawals
abbrev pub with_partials_counted : ExpectedWithdrawals → ExpectedWithdrawals
with_partials_counted e = record { list = e.list; count = e.count; partials = e.count }

-- the withdrawal behind n others, of validator i, which is v
abbrev pub withdrawal_of : (first n i : ℕ) → rule.Validator → (amount : ℕ) → rule.Withdrawal
withdrawal_of first n i v amount = record {
  index = first + n;
  validator_index = i;
  address = withdrawal_address v;
  amount = amount;
}

-- ---- one entry of the queue, and one validator of the sweep

abbrev pub partial_amount : rule.Settings → rule.PendingPartialWithdrawal → rule.Validator → ℕ
partial_amount S p v = min (v.balance - S.min_activation_balance) p.amount

-- the entry p, whose validator is v, is listed or passed
unfoldable pub list_partial : rule.Settings → (first : ℕ) → rule.PendingPartialWithdrawal → rule.Validator
    → ExpectedWithdrawals → ExpectedWithdrawals
list_partial S first p v e =
    when is_partial_payable S v
    then pushed e (withdrawal_of first e.count p.index v (partial_amount S p v))
    else e

-- the sweep takes nothing of the others
abbrev pub may_withdraw : (epoch : ℕ) → rule.Validator → Bool
may_withdraw epoch v = leb v.withdrawable_epoch epoch || ltb v.effective_balance v.balance

-- validator i, which is v, is listed or passed
unfoldable pub list_validator : rule.Settings → (epoch first i : ℕ) → rule.Validator
    → ExpectedWithdrawals → ExpectedWithdrawals
list_validator S epoch first i v e =
    let amount = sweep_amount S epoch v in
    when ltb 0 amount then pushed e (withdrawal_of first e.count i v amount) else e

-- ---- what is left of the walk over the queue, and of the sweep, behind what e lists

unfoldable pub list_partials : rule.Settings → rule.Books → List rule.PendingPartialWithdrawal
    → ExpectedWithdrawals → ExpectedWithdrawals
list_partials S b ps e =
    let index = b.next_withdrawal_index + e.count in
    let room = S.max_pending_partials_per_withdrawals_sweep - e.count in
    pushes (partial_withdrawals S b index room ps) e

unfoldable pub list_swept : rule.Settings → rule.Books → (bound i : ℕ)
    → ExpectedWithdrawals → ExpectedWithdrawals
list_swept S b bound i e =
    let index = b.next_withdrawal_index + e.count in
    let room = S.max_withdrawals_per_payload - e.count in
    pushes (sweep_withdrawals S b bound i index room) e
