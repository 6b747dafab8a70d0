-- The deposit loop as what it credits and what it leaves waiting.
use Rattle.std.specs.Prelude.{◌≡◌, refl, Bool, true, false, List, [], ◌∷◌, ◌++◌, ℕ, ◌+◌, ◌-◌, ◌≤◌, ◌<◌, length, drop}
use Rattle.std.specs.Prelude.{ltb}
use Rattle.std.proofs.Common.{ap, ◌∙◌, zero-add, arith, ltb-true, ltb-false}
use Rattle.lists.specs.Base.{when◌then◌else◌, adjust, total, every, empty}
use Rattle.lists.specs.Laws.{by_test, both, join, length_adjust, total_adjust, every_adjust}
use Rattle.rules.specs.Types.{Settings, Validator, PendingBalanceDeposit, Books}
use Rattle.rules.specs.Update.{with_deposit_balance_to_consume, with_validators, with_pending_balance_deposits}
use Rattle.rules.specs.Helpers.{no_validator, increased, get_activation_exit_churn_limit}
use Rattle.rules.specs.EpochProcessing.{Deposited, process_deposits, process_pending_balance_deposits}
use Rattle.rules.specs.Acceptance.{deposit_amounts, deposit_in}
use Rattle.rules.specs.Counting.{affordable}

-- ---- the entries that are credited

pub affordable_prefix : (limit spent : ℕ) (ds : List PendingBalanceDeposit)
    → affordable limit spent ds ++ drop (length (affordable limit spent ds)) ds ≡ ds
affordable_prefix limit spent [] = refl
affordable_prefix limit spent (d ∷ ds) =
    let rest = affordable_prefix limit (spent + d.amount) ds in
    by_test (λ (l : List PendingBalanceDeposit). l ++ drop (length l) (d ∷ ds) ≡ d ∷ ds) (ltb limit (spent + d.amount))
    (λ e. refl)
    (λ e. ap {B = List PendingBalanceDeposit} (λ l. d ∷ l) rest)

pub affordable_every : (t : PendingBalanceDeposit → Bool) (limit spent : ℕ) (ds : List PendingBalanceDeposit)
    → every t ds ≡ true → every t (affordable limit spent ds) ≡ true
affordable_every t limit spent [] p = refl
affordable_every t limit spent (d ∷ ds) p =
    let s = both (t d) (every t ds) p in
    let rest = affordable_every t limit (spent + d.amount) ds s.1 in
    by_test (λ (l : List PendingBalanceDeposit). every t l ≡ true) (ltb limit (spent + d.amount))
    (λ e. refl)
    (λ e. join s.0 rest)

pub affordable_limit : (limit spent : ℕ) (ds : List PendingBalanceDeposit) → spent ≤ limit
    → spent + deposit_amounts (affordable limit spent ds) ≤ limit
affordable_limit limit spent [] h = omega arith
affordable_limit limit spent (d ∷ ds) h =
    by_test (λ (l : List PendingBalanceDeposit). spent + deposit_amounts l ≤ limit) (ltb limit (spent + d.amount))
    (λ e. omega arith)
    (λ e. omega (arith, affordable_limit limit (spent + d.amount) ds (ltb-false limit (spent + d.amount) e)))

-- where an entry waits, what is left over is less than what waits
pub affordable_rest : (limit spent : ℕ) (ds : List PendingBalanceDeposit)
    → empty (drop (length (affordable limit spent ds)) ds) ≡ false
    → limit - (spent + deposit_amounts (affordable limit spent ds))
    ≤ deposit_amounts (drop (length (affordable limit spent ds)) ds)
affordable_rest limit spent [] = λ e. let z : ◌≡◌ {A = ℕ} 0 1 = cc in omega arith
affordable_rest limit spent (d ∷ ds) =
    by_test
    (λ (l : List PendingBalanceDeposit). empty (drop (length l) (d ∷ ds)) ≡ false
    → limit - (spent + deposit_amounts l) ≤ deposit_amounts (drop (length l) (d ∷ ds)))
    (ltb limit (spent + d.amount))
    (λ e q. omega (arith, ltb-true limit (spent + d.amount) e))
    (λ e q. omega (arith, affordable_rest limit (spent + d.amount) ds q))

-- ---- entries credited to validators

abbrev pub credit : List PendingBalanceDeposit → List Validator → List Validator
credit [] vs = vs
credit (d ∷ ds) vs = credit ds (adjust d.index (increased d.amount) vs)

pub credit_total : (n : ℕ) (ds : List PendingBalanceDeposit) (vs : List Validator) → length vs ≡ n
    → every (deposit_in n) ds ≡ true
    → total (λ v. v.balance) (credit ds vs) ≡ total (λ v. v.balance) vs + deposit_amounts ds
credit_total n [] vs e p = omega arith
credit_total n (d ∷ ds) vs e p =
    let s = both (deposit_in n d) (every (deposit_in n) ds) p in
    let h : d.index < n = ltb-true d.index n s.0 in
    let k : d.index < length vs = omega arith in
    let q = length_adjust d.index (increased d.amount) vs ∙ e in
    let rest = credit_total n ds (adjust d.index (increased d.amount) vs) q s.1 in
    let grown = total_adjust (λ (v : Validator). v.balance) d.index (increased d.amount) vs no_validator k in
    omega (arith, rest, grown)

pub credit_length : (ds : List PendingBalanceDeposit) (vs : List Validator) → length (credit ds vs) ≡ length vs
credit_length [] vs = refl
credit_length (d ∷ ds) vs =
    credit_length ds (adjust d.index (increased d.amount) vs)
    ∙ length_adjust d.index (increased d.amount) vs

-- a test that does not look at the balance
pub credit_every : (t : Validator → Bool) → ((v : Validator) (n : ℕ) → t v ≡ true → t (increased n v) ≡ true)
    → (ds : List PendingBalanceDeposit) (vs : List Validator) → every t vs ≡ true → every t (credit ds vs) ≡ true
credit_every t h [] vs p = p
credit_every t h (d ∷ ds) vs p =
    credit_every t h ds (adjust d.index (increased d.amount) vs)
    (every_adjust t d.index (increased d.amount) vs (λ v q. h v d.amount q) p)

-- ---- the loop

-- what the loop leaves where `paid` is credited
abbrev pub deposited : ℕ → (paid ds : List PendingBalanceDeposit) → List Validator → Deposited
deposited spent paid ds vs = record {
  validators = credit paid vs;
  waiting = drop (length paid) ds;
  processed_amount = spent + deposit_amounts paid;
}

pub process_deposits_form : (available spent : ℕ) (ds : List PendingBalanceDeposit) (vs : List Validator)
    → process_deposits available spent ds vs ≡ deposited spent (affordable available spent ds) ds vs
unfolding process_deposits when◌then◌else◌
process_deposits_form available spent [] vs =
    λ i. record { validators = vs; waiting = []; processed_amount = same i }
  where
    same : spent ≡ spent + 0
    same = omega arith
process_deposits_form available spent (d ∷ ds) vs =
    let vs₁ = adjust d.index (increased d.amount) vs in
    go (ltb available (spent + d.amount))
    (process_deposits available (spent + d.amount) ds vs₁)
    (affordable available (spent + d.amount) ds)
    (process_deposits_form available (spent + d.amount) ds vs₁)
  where
    go : (t : Bool) (next : Deposited) (paid : List PendingBalanceDeposit)
        → next ≡ deposited (spent + d.amount) paid ds (adjust d.index (increased d.amount) vs)
        → (when t then record { validators = vs; waiting = d ∷ ds; processed_amount = spent } else next)
        ≡ deposited spent (when t then [] else d ∷ paid) (d ∷ ds) vs
    go true next paid e = λ i. record { validators = vs; waiting = d ∷ ds; processed_amount = same i }
      where
        same : spent ≡ spent + 0
        same = omega arith
    go false next paid e = e ∙ λ i. record {
      validators = credit paid (adjust d.index (increased d.amount) vs);
      waiting = drop (length paid) ds;
      processed_amount = same i;
    }
      where
        same : spent + d.amount + deposit_amounts paid ≡ spent + (d.amount + deposit_amounts paid)
        same = omega arith

-- ---- the step

-- what the step credits
abbrev pub credited_now : Settings → Books → List PendingBalanceDeposit
credited_now S b =
    affordable (b.deposit_balance_to_consume + get_activation_exit_churn_limit S b) 0 b.pending_balance_deposits

abbrev pub waiting_still : Settings → Books → List PendingBalanceDeposit
waiting_still S b = drop (length (credited_now S b)) b.pending_balance_deposits

-- what it carries over
abbrev pub carry_over : Settings → Books → ℕ
carry_over S b =
    let available = b.deposit_balance_to_consume + get_activation_exit_churn_limit S b in
    when empty (waiting_still S b) then 0 else available - deposit_amounts (credited_now S b)

abbrev pub deposit_step : Settings → Books → Books
deposit_step S b =
    with_deposit_balance_to_consume (carry_over S b)
    (with_pending_balance_deposits (waiting_still S b) (with_validators (credit (credited_now S b) b.validators) b))

pub deposit_step_form : (S : Settings) (b : Books) → process_pending_balance_deposits S b ≡ deposit_step S b
unfolding process_pending_balance_deposits
deposit_step_form S b =
    let available = b.deposit_balance_to_consume + get_activation_exit_churn_limit S b in
    ap leaves (process_deposits_form available 0 b.pending_balance_deposits b.validators) ∙ rw zero-add
  where
    leaves : Deposited → Books
    leaves done =
        let available = b.deposit_balance_to_consume + get_activation_exit_churn_limit S b in
        with_deposit_balance_to_consume (when empty done.waiting then 0 else available - done.processed_amount)
        (with_pending_balance_deposits done.waiting (with_validators done.validators b))
