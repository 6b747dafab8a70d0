-- The expected list: at most a payload long, of validators that are there.
use Rattle.std.specs.Prelude.{◌≡◌, refl, Bool, true, List, [], ◌∷◌, ℕ, zero, suc, ◌+◌, ◌-◌, ◌%◌, ◌≤◌, ◌<◌, min, length}
use Rattle.std.specs.Prelude.{ltb}
use Rattle.std.proofs.Common.{◌∙◌, mod-lt, arith, length-append, lt-ltb}
use Rattle.lists.specs.Base.{adjust, every}
use Rattle.lists.specs.Laws.{by_test, both, join, every_append, every_adjust, length_adjust}
use Rattle.rules.specs.Types.{Settings, Validator, PendingPartialWithdrawal, Withdrawal, Books}
use Rattle.rules.specs.Helpers.{count, decreased}
use Rattle.rules.specs.BlockProcessing.{partial_withdrawals, sweep_withdrawals, expected_partial_withdrawals}
use Rattle.rules.specs.BlockProcessing.{get_expected_withdrawals, pay_withdrawals, next_validator_index}
use Rattle.rules.specs.Acceptance.{partial_in}

pub partial_withdrawals_length : (S : Settings) (b : Books) (index room : ℕ) (ps : List PendingPartialWithdrawal)
    → length (partial_withdrawals S b index room ps) ≤ room
partial_withdrawals_length S b index room [] = omega arith
partial_withdrawals_length S b index zero (p ∷ ps) = omega arith
partial_withdrawals_length S b index (suc room) (p ∷ ps) =
    let P : List Withdrawal → Type 0 = λ l. length l ≤ suc room in
    by_test P _ (λ e. omega arith)
    (λ e. by_test P _
    (λ e. omega (arith, partial_withdrawals_length S b (suc index) room ps))
    (λ e. partial_withdrawals_length S b index (suc room) ps))

pub sweep_withdrawals_length : (S : Settings) (b : Books) (bound i index room : ℕ)
    → length (sweep_withdrawals S b bound i index room) ≤ room
sweep_withdrawals_length S b zero i index room = omega arith
sweep_withdrawals_length S b (suc bound) i index zero = omega arith
sweep_withdrawals_length S b (suc bound) i index (suc room) =
    by_test (λ (l : List Withdrawal). length l ≤ suc room) _
    (λ e. omega (arith, sweep_withdrawals_length S b bound ((i + 1) % count b) (suc index) room))
    (λ e. sweep_withdrawals_length S b bound ((i + 1) % count b) index (suc room))

pub expected_length : (S : Settings) (b : Books)
    → S.max_pending_partials_per_withdrawals_sweep ≤ S.max_withdrawals_per_payload
    → length (get_expected_withdrawals S b) ≤ S.max_withdrawals_per_payload
unfolding get_expected_withdrawals expected_partial_withdrawals
expected_length S b h =
    let most = S.max_pending_partials_per_withdrawals_sweep in
    let start = b.next_withdrawal_index in
    let partials = partial_withdrawals S b start most b.pending_partial_withdrawals in
    let bound = min (count b) S.max_validators_per_withdrawals_sweep in
    let room = S.max_withdrawals_per_payload - length partials in
    let cursor = b.next_withdrawal_validator_index in
    simp length-append
    (omega (
      arith,
      partial_withdrawals_length S b start most b.pending_partial_withdrawals,
      sweep_withdrawals_length S b bound cursor (start + length partials) room,
    ))

-- a withdrawal of one of n validators
abbrev pub withdrawal_in : ℕ → Withdrawal → Bool
withdrawal_in n w = ltb w.validator_index n

partial_withdrawals_in : (S : Settings) (b : Books) (n index room : ℕ) (ps : List PendingPartialWithdrawal)
    → every (partial_in n) ps ≡ true → every (withdrawal_in n) (partial_withdrawals S b index room ps) ≡ true
partial_withdrawals_in S b n index room [] p = refl
partial_withdrawals_in S b n index zero (q ∷ ps) p = refl
partial_withdrawals_in S b n index (suc room) (q ∷ ps) p =
    let s = both (partial_in n q) (every (partial_in n) ps) p in
    let P : List Withdrawal → Type 0 = λ l. every (withdrawal_in n) l ≡ true in
    by_test P _ (λ e. refl)
    (λ e. by_test P _
    (λ e. join s.0 (partial_withdrawals_in S b n (suc index) room ps s.1))
    (λ e. partial_withdrawals_in S b n index (suc room) ps s.1))

sweep_withdrawals_in : (S : Settings) (b : Books) (bound i index room : ℕ) → i < count b
    → every (withdrawal_in (count b)) (sweep_withdrawals S b bound i index room) ≡ true
sweep_withdrawals_in S b zero i index room h = refl
sweep_withdrawals_in S b (suc bound) i index zero h = refl
sweep_withdrawals_in S b (suc bound) i index (suc room) h =
    let k : (i + 1) % count b < count b = mod-lt (i + 1) (omega arith) in
    by_test (λ (l : List Withdrawal). every (withdrawal_in (count b)) l ≡ true) _
    (λ e. join (lt-ltb i (count b) h) (sweep_withdrawals_in S b bound ((i + 1) % count b) (suc index) room k))
    (λ e. sweep_withdrawals_in S b bound ((i + 1) % count b) index (suc room) k)

pub expected_in : (S : Settings) (b : Books) → b.next_withdrawal_validator_index < count b
    → every (partial_in (count b)) b.pending_partial_withdrawals ≡ true
    → every (withdrawal_in (count b)) (get_expected_withdrawals S b) ≡ true
unfolding get_expected_withdrawals expected_partial_withdrawals
expected_in S b h p =
    let most = S.max_pending_partials_per_withdrawals_sweep in
    let start = b.next_withdrawal_index in
    let partials = partial_withdrawals S b start most b.pending_partial_withdrawals in
    let bound = min (count b) S.max_validators_per_withdrawals_sweep in
    let room = S.max_withdrawals_per_payload - length partials in
    let cursor = b.next_withdrawal_validator_index in
    every_append (withdrawal_in (count b)) partials (sweep_withdrawals S b bound cursor (start + length partials) room)
    (partial_withdrawals_in S b (count b) start most b.pending_partial_withdrawals p)
    (sweep_withdrawals_in S b bound cursor (start + length partials) room h)

-- ---- payments

pub pay_length : (ws : List Withdrawal) (vs : List Validator) → length (pay_withdrawals ws vs) ≡ length vs
pay_length [] vs = refl
pay_length (w ∷ ws) vs =
    pay_length ws (adjust w.validator_index (decreased w.amount) vs)
    ∙ length_adjust w.validator_index (decreased w.amount) vs

-- a test that does not look at the balance
pub pay_every : (t : Validator → Bool) → ((v : Validator) (n : ℕ) → t v ≡ true → t (decreased n v) ≡ true)
    → (ws : List Withdrawal) (vs : List Validator) → every t vs ≡ true → every t (pay_withdrawals ws vs) ≡ true
pay_every t h [] vs p = p
pay_every t h (w ∷ ws) vs p =
    pay_every t h ws (adjust w.validator_index (decreased w.amount) vs)
    (every_adjust t w.validator_index (decreased w.amount) vs (λ v q. h v w.amount q) p)

pub next_validator_in : (S : Settings) (b : Books) (ws : List Withdrawal) → 0 < count b
    → next_validator_index S b ws < count b
unfolding next_validator_index
next_validator_in S b ws h = by_test (λ (n : ℕ). n < count b) _ (λ e. mod-lt _ h) (λ e. mod-lt _ h)
