-- The laws of handed lists, of the loops over them, and of what follows the payment.
use Rattle.std.specs.Prelude.{◌≡◌, ◌≢◌, Bool, ◌&&◌, List, [], ◌∷◌, map, get_or, drop}
use Rattle.std.proofs.Math.Path.{refl, ap, ap₂}
use Rattle.std.proofs.Common.{sym, ◌∙◌, le_of_suc-le-suc, not-suc-le-zero, add-one, arith, drop_of_length-le, drop-cons}
use Rattle.std.proofs.Math.Bool.{true, false}
use Rattle.std.proofs.lemmas.Bool.{false≢true}
use Prim.Native.Nat.{ℕ, zero, suc, ◌+◌, ◌-◌, ◌%◌, ◌≤◌, ◌<◌, min}
use Rattle.std.proofs.Math.Dec.{eqb}
use Rattle.std.proofs.Math.ListN.{length}
use borrow.Author.Tests.{eq-eqb, ne_eqb, eqb-true, lt-ltb, ltb-true}
use Rattle.lists.specs.Base.{when◌then◌else◌, every, empty, last, same_bytes}
use Rattle.lists.specs.Laws.{by_test, both, join, every_at, every_append, every_weaken}
use Rattle.tables.specs.Rows.{rows}
use Rattle.rules.specs.Types as rule
use Rattle.rules.specs.Update.{with_next_withdrawal, with_pending_partial_withdrawals, with_validators}
use Rattle.rules.specs.Helpers.{count, decreased}
use Rattle.rules.specs.BlockProcessing.{partial_withdrawals, sweep_withdrawals, expected_partial_withdrawals}
use Rattle.rules.specs.BlockProcessing.{get_expected_withdrawals, same_withdrawal, same_withdrawals}
use Rattle.rules.specs.BlockProcessing.{withdrawals_refusal, pay_withdrawals, no_withdrawal, next_index}
use Rattle.rules.specs.BlockProcessing.{next_validator_index, process_withdrawals}
use Rattle.rule_laws.specs.Withdrawals.{partial_withdrawals_length}
use Rattle.primitives.specs.declared.Settings.{Settings}
use Rattle.primitives.specs.declared.Scalars.{Scalars}
use Rattle.primitives.specs.Settings.{settings_of}
use Rattle.primitives.specs.Scalars as scalars
use Rattle.records.specs.Layout.{validator_at, partial_at, validators_past}
use Rattle.records.specs.Stores.{ValidatorAdjusted}
use Rattle.records.specs.Queues.{PartialsDrained}
use Rattle.records.specs.Books.{Tables, tables, books_of, Stepped, partials_of, validators_of}
use Rattle.records.specs.Reading.{validators_count}
use Rattle.expected_withdrawals.specs.declared.Withdrawal.{Withdrawal}
use Rattle.expected_withdrawals.specs.declared.ExpectedWithdrawals.{ExpectedWithdrawals}
use Rattle.expected_withdrawals.specs.Expected.{plain_withdrawal, coded_withdrawal, padded, sixteen, expected_of}
use Rattle.expected_withdrawals.specs.Expected.{handed_list}
use Rattle.expected_withdrawals.specs.Handed.{length_handed, past}
use Rattle.withdrawals.specs.Payment.{Paid, index_below}

-- ---- handed lists

pub getD_handed : (list : List Withdrawal) (n k : ℕ) → k < n → k < length list
    → get_or (handed_list list n) k no_withdrawal ≡ plain_withdrawal (get_or list k past)
unfolding handed_list padded
getD_handed list zero k h l = absurd (not-suc-le-zero h)
getD_handed [] (suc n) k h l = absurd (not-suc-le-zero l)
getD_handed (x ∷ xs) (suc n) zero h l = refl
getD_handed (x ∷ xs) (suc n) (suc k) h l = getD_handed xs n k (le_of_suc-le-suc h) (le_of_suc-le-suc l)

module _ (list : List Withdrawal) (n k : ℕ) where
  pub handed_at : k < n → k < length list
      → drop k (handed_list list n) ≡ plain_withdrawal (get_or list k past) ∷ drop (k + 1) (handed_list list n)
  handed_at h l =
      let r : k < length (handed_list list n) = omega (arith, length_handed list n) in
      rw add-one
      (drop-cons (handed_list list n) k no_withdrawal r
      ∙ ap (λ x. x ∷ drop (suc k) (handed_list list n)) (getD_handed list n k h l))

  pub handed_end : n ≤ k → drop k (handed_list list n) ≡ []
  handed_end h = drop_of_length-le (handed_list list n) {i = k} (omega (arith, length_handed list n))

  pub handed_passes : (t : rule.Withdrawal → Bool) → k < n → k < length list
      → every t (handed_list list n) ≡ true → t (plain_withdrawal (get_or list k past)) ≡ true
  handed_passes t h l e =
      let r : k < length (handed_list list n) = omega (arith, length_handed list n) in
      rw (getD_handed list n k h l) at (every_at t k (handed_list list n) no_withdrawal r e)

-- ---- the comparison

pub differ : (xs ys : List rule.Withdrawal) → length xs ≢ length ys → false ≡ same_withdrawals xs ys
differ [] [] h = absurd (h refl)
differ [] (y ∷ ys) h = refl
differ (x ∷ xs) [] h = refl
differ (x ∷ xs) (y ∷ ys) h = go (same_withdrawal x y) (differ xs ys (λ e. h (ap suc e)))
  where
    go : (t : Bool) → false ≡ same_withdrawals xs ys → false ≡ (t && same_withdrawals xs ys)
    go true e = e
    go false e = refl

-- a handed list with a count above sixteen is not the expected one
pub too_long : (list : List Withdrawal) (n : ℕ) (ws : List rule.Withdrawal) → length ws ≤ 16 → 16 < n
    → same_withdrawals (handed_list list n) ws ≡ false
too_long list n ws h k = sym (differ (handed_list list n) ws (λ e. omega (arith, e, length_handed list n)))

-- ---- lists that pass the comparison are equal

bytes_equal : (a b : List ℕ) → same_bytes a b ≡ true → a ≡ b
bytes_equal [] [] e = refl
bytes_equal [] (y ∷ ys) e = absurd (false≢true e)
bytes_equal (x ∷ xs) [] e = absurd (false≢true e)
bytes_equal (x ∷ xs) (y ∷ ys) e =
    let s = both (eqb x y) (same_bytes xs ys) e in
    ap₂ ◌∷◌ (eqb-true x y s.0) (bytes_equal xs ys s.1)

withdrawal_equal : (x y : rule.Withdrawal) → same_withdrawal x y ≡ true → x ≡ y
withdrawal_equal x y e =
    let index = eqb x.index y.index in
    let validator_index = eqb x.validator_index y.validator_index in
    let address = same_bytes x.address y.address in
    let r = both (index && validator_index && address) (eqb x.amount y.amount) e in
    let q = both (index && validator_index) address r.0 in
    let p = both index validator_index q.0 in
    λ i. record {
      index = eqb-true x.index y.index p.0 i;
      validator_index = eqb-true x.validator_index y.validator_index p.1 i;
      address = bytes_equal x.address y.address q.1 i;
      amount = eqb-true x.amount y.amount r.1 i;
    }

pub same_equal : (xs ys : List rule.Withdrawal) → same_withdrawals xs ys ≡ true → xs ≡ ys
same_equal [] [] e = refl
same_equal [] (y ∷ ys) e = absurd (false≢true e)
same_equal (x ∷ xs) [] e = absurd (false≢true e)
same_equal (x ∷ xs) (y ∷ ys) e =
    let s = both (same_withdrawal x y) (same_withdrawals xs ys) e in
    ap₂ ◌∷◌ (withdrawal_equal x y s.0) (same_equal xs ys s.1)

-- ---- the expected list, as it was returned

padded_back : (n : ℕ) (ws : List rule.Withdrawal) → length ws ≤ n
    → handed_list (map coded_withdrawal (padded n ws)) (length ws) ≡ ws
unfolding handed_list padded
padded_back n [] h = refl
padded_back zero (w ∷ ws) h = absurd (not-suc-le-zero h)
padded_back (suc n) (w ∷ ws) h = ap (λ l. w ∷ l) (padded_back n ws (le_of_suc-le-suc h))

module _ (S : rule.Settings) (b : rule.Books) {e : ExpectedWithdrawals} (q : e ≡ expected_of S b) where
  pub expected_count : e.count ≡ length (get_expected_withdrawals S b)
  unfolding expected_of sixteen
  expected_count = ap (λ (x : ExpectedWithdrawals). x.count) q

  pub expected_partials : e.partials ≡ length (expected_partial_withdrawals S b)
  unfolding expected_of sixteen
  expected_partials = ap (λ (x : ExpectedWithdrawals). x.partials) q

  pub expected_list : e.count ≤ 16 → handed_list e.list e.count ≡ get_expected_withdrawals S b
  unfolding expected_of sixteen
  expected_list h =
      ap (λ (x : ExpectedWithdrawals). handed_list x.list x.count) q
      ∙ padded_back 16 (get_expected_withdrawals S b) (omega (arith, h, expected_count))

  module _ (h : e.count ≤ 16) (ws : List rule.Withdrawal) where
    pub refusal_none : true ≡ same_withdrawals ws (handed_list e.list e.count) → 0 ≡ withdrawals_refusal S b ws
    unfolding withdrawals_refusal when◌then◌else◌
    refusal_none t = rw (← expected_list h) (rw (← t))

    pub refusal_some : false ≡ same_withdrawals ws (handed_list e.list e.count) → 30 ≡ withdrawals_refusal S b ws
    unfolding withdrawals_refusal when◌then◌else◌
    refusal_some t = rw (← expected_list h) (rw (← t))

-- ---- payments

-- k of the withdrawals ws are paid: of the words `old`, `new` came
pub record Paying (n : ℕ) (ws : List rule.Withdrawal) (old new : List ℕ) (k : ℕ) : Type 0 where
  pub size : length new ≡ length old
  pub validators : (ids : List ℕ)
      → pay_withdrawals (drop k ws) (rows n (validator_at ids new)) ≡ pay_withdrawals ws (rows n (validator_at ids old))
  pub past : validators_past n new ≡ validators_past n old

module _ {n : ℕ} {ws : List rule.Withdrawal} {old new : List ℕ} {k : ℕ} (p : Paying n ws old new k) where
  pub paying_more : (w : rule.Withdrawal) → drop k ws ≡ w ∷ drop (k + 1) ws → w.validator_index < n
      → {next : List ℕ} → length next ≡ length new
      → ValidatorAdjusted w.validator_index (decreased w.amount) new next → Paying n ws old next (k + 1)
  paying_more w d i {next} s a = record {
    size = s ∙ p.size;
    validators = λ ids.
        ap (pay_withdrawals (drop (k + 1) ws)) (a.validators ids n)
        ∙ sym (ap (λ l. pay_withdrawals l (rows n (validator_at ids new))) d)
        ∙ p.validators ids;
    past = a.past n i ∙ p.past;
  }

  pub paid_all : drop k ws ≡ [] → Paid n ws old new
  paid_all e = record {
    validators = λ ids. sym (ap (λ l. pay_withdrawals l (rows n (validator_at ids new))) e) ∙ p.validators ids;
    past = p.past;
  }

-- ---- what the expected list holds

module _ (S : rule.Settings) (b : rule.Books) where
  partials_short : (index room : ℕ) (ps : List rule.PendingPartialWithdrawal)
      → length (partial_withdrawals S b index room ps) ≤ length ps
  partials_short index room [] = omega arith
  partials_short index zero (p ∷ ps) = omega arith
  partials_short index (suc room) (p ∷ ps) =
      let P : List rule.Withdrawal → Type 0 = λ l. length l ≤ suc (length ps) in
      by_test P _ (λ e. omega arith)
      (λ e. by_test P _
      (λ e. omega (arith, partials_short (suc index) room ps))
      (λ e. omega (arith, partials_short index (suc room) ps)))

  -- no more partials are paid than wait
  pub expected_partials_short : length (expected_partial_withdrawals S b) ≤ length b.pending_partial_withdrawals
  unfolding expected_partial_withdrawals
  expected_partials_short =
      partials_short b.next_withdrawal_index S.max_pending_partials_per_withdrawals_sweep
      b.pending_partial_withdrawals

  onward : (index room : ℕ) → suc index + room ≡ index + suc room
  onward index room = omega arith

  partials_index : (index room : ℕ) (ps : List rule.PendingPartialWithdrawal)
      → every (index_below (index + room)) (partial_withdrawals S b index room ps) ≡ true
  partials_index index room [] = refl
  partials_index index zero (p ∷ ps) = refl
  partials_index index (suc room) (p ∷ ps) =
      let P : List rule.Withdrawal → Type 0 = λ l. every (index_below (index + suc room)) l ≡ true in
      by_test P _ (λ e. refl)
      (λ e. by_test P _
      (λ e. join (lt-ltb index (index + suc room) (omega arith))
      (rw (onward index room) at (partials_index (suc index) room ps)))
      (λ e. partials_index index (suc room) ps))

  sweep_index : (bound i index room : ℕ)
      → every (index_below (index + room)) (sweep_withdrawals S b bound i index room) ≡ true
  sweep_index zero i index room = refl
  sweep_index (suc bound) i index zero = refl
  sweep_index (suc bound) i index (suc room) =
      by_test (λ (l : List rule.Withdrawal). every (index_below (index + suc room)) l ≡ true) _
      (λ e. join (lt-ltb index (index + suc room) (omega arith))
      (rw (onward index room) at (sweep_index bound ((i + 1) % count b) (suc index) room)))
      (λ e. sweep_index bound ((i + 1) % count b) index (suc room))

  weaker : (m n : ℕ) (ws : List rule.Withdrawal) → m ≤ n
      → every (index_below m) ws ≡ true → every (index_below n) ws ≡ true
  weaker m n ws h e =
      every_weaken (index_below m) (index_below n) ws
      (λ w p. lt-ltb w.index n (omega (arith, ltb-true w.index m p))) e

  pub expected_index : (n : ℕ) → b.next_withdrawal_index + 32 ≤ n
      → S.max_pending_partials_per_withdrawals_sweep ≤ 16 → S.max_withdrawals_per_payload ≤ 16
      → every (index_below n) (get_expected_withdrawals S b) ≡ true
  unfolding get_expected_withdrawals expected_partial_withdrawals
  expected_index n h m k =
      let first = b.next_withdrawal_index in
      let paid = expected_partial_withdrawals S b in
      let most = S.max_pending_partials_per_withdrawals_sweep in
      let room = S.max_withdrawals_per_payload - length paid in
      let bound = min (count b) S.max_validators_per_withdrawals_sweep in
      let cursor = b.next_withdrawal_validator_index in
      let swept = sweep_withdrawals S b bound cursor (first + length paid) room in
      let l = partial_withdrawals_length S b first most b.pending_partial_withdrawals in
      every_append (index_below n) paid swept
      (weaker (first + most) n paid (omega arith) (partials_index first most b.pending_partial_withdrawals))
      (weaker (first + length paid + room) n swept (omega arith)
      (sweep_index bound cursor (first + length paid) room))

-- ---- the last of a handed list

last_of : {A : Type 0} (d c x : A) (xs : List A) → last d (x ∷ xs) ≡ get_or (x ∷ xs) (length xs) c
last_of d c x [] = refl
last_of d c x (y ∷ ys) = last_of x c y ys

last_at : (l : List rule.Withdrawal) → 0 < length l → last no_withdrawal l ≡ get_or l (length l - 1) no_withdrawal
last_at [] h = absurd (not-suc-le-zero h)
last_at (x ∷ xs) h =
    let e : suc (length xs) - 1 ≡ length xs = omega arith in
    rw e (last_of no_withdrawal no_withdrawal x xs)

last_handed : (list : List Withdrawal) (n : ℕ) → 0 < n → n ≤ length list
    → last no_withdrawal (handed_list list n) ≡ plain_withdrawal (get_or list (n - 1) past)
last_handed list n h k =
    let e = length_handed list n in
    last_at (handed_list list n) (omega (arith, e))
    ∙ ap (λ m. get_or (handed_list list n) (m - 1) no_withdrawal) e
    ∙ getD_handed list n (n - 1) (omega arith) (omega arith)

some : (l : List rule.Withdrawal) → 0 < length l → empty l ≡ false
some [] h = absurd (not-suc-le-zero h)
some (x ∷ xs) h = refl

module _ (s : Scalars) (list : List Withdrawal) (t : Tables) where
  pub index_kept : s.next_withdrawal_index.0 ≡ next_index (books_of s t) (handed_list list 0)
  unfolding next_index books_of when◌then◌else◌ handed_list padded
  index_kept = refl

  module _ (n : ℕ) (k : n ≤ length list) where
    pub index_behind : 0 < n
        → (get_or list (n - 1) past).index.0 + 1 ≡ next_index (books_of s t) (handed_list list n)
    unfolding next_index when◌then◌else◌
    index_behind h =
        rw (some (handed_list list n) (omega (arith, length_handed list n)))
        (ap (λ (w : rule.Withdrawal). w.index + 1) (sym (last_handed list n h k)))

    module _ (settings : Settings) where
      pub cursor_behind : 0 < n → n ≡ settings.max_withdrawals_per_payload
          → ((get_or list (n - 1) past).validator_index.0 + 1) % s.validators
          ≡ next_validator_index (settings_of settings) (books_of s t) (handed_list list n)
      unfolding next_validator_index when◌then◌else◌
      cursor_behind h e =
          let full : eqb (length (handed_list list n)) settings.max_withdrawals_per_payload ≡ true =
          eq-eqb _ _ (length_handed list n ∙ e) in
          rw full
          (ap₂ (λ (w : rule.Withdrawal) m. (w.validator_index + 1) % m)
          (sym (last_handed list n h k)) (sym (validators_count s t)))

      pub cursor_on : (n ≡ settings.max_withdrawals_per_payload → ⊥)
          → (s.next_withdrawal_validator_index.0 + settings.max_validators_per_withdrawals_sweep) % s.validators
          ≡ next_validator_index (settings_of settings) (books_of s t) (handed_list list n)
      unfolding next_validator_index books_of when◌then◌else◌
      cursor_on e =
          let short : eqb (length (handed_list list n)) settings.max_withdrawals_per_payload ≡ false =
          ne_eqb _ _ (λ z. e (sym (length_handed list n) ∙ z)) in
          rw short
          (ap (λ m. (s.next_withdrawal_validator_index.0 + settings.max_validators_per_withdrawals_sweep) % m)
          (sym (validators_count s t)))

-- ---- the whole rule

module _ (settings : Settings) (s : Scalars) (ids vs ds ps cs : List ℕ) (ws : List rule.Withdrawal)
    {gone : ℕ} (few : gone ≤ s.partials)
    (listed : gone ≡ length (expected_partial_withdrawals (settings_of settings) (books_of s (tables ids vs ds ps cs))))
  where
    module _ {us qs : List ℕ} {index cursor : ℕ} (paid : Paid s.validators ws vs us)
        (drained : PartialsDrained gone (s.partials - gone) ps qs)
        (i : (t : Tables) → index ≡ next_index (books_of s t) ws)
        (c : (t : Tables) → cursor ≡ next_validator_index (settings_of settings) (books_of s t) ws) where
      queue : rows (s.partials - gone) (partial_at qs)
          ≡ drop (length (expected_partial_withdrawals (settings_of settings) (books_of s (tables ids vs ds ps cs))))
          (partials_of s ps)
      queue =
          let z : gone + (s.partials - gone) ≡ s.partials = omega arith in
          drained.records
          ∙ ap₂ (λ m n. drop m (rows n (partial_at ps))) listed z

      whole : books_of (scalars.with_next_withdrawal s index cursor (s.partials - gone)) (tables ids us ds qs cs)
          ≡ process_withdrawals (settings_of settings) ws (books_of s (tables ids vs ds ps cs))
      unfolding books_of process_withdrawals
      whole =
          let t = tables ids vs ds ps cs in
          let b = books_of s t in
          ap₂
          (λ x y.
          with_next_withdrawal x y
          (with_pending_partial_withdrawals (rows (s.partials - gone) (partial_at qs))
          (with_validators (validators_of s ids us) b)))
          (i t) (c t)
          ∙ ap₂
          (λ x y.
          with_next_withdrawal (next_index b ws) (next_validator_index (settings_of settings) b ws)
          (with_pending_partial_withdrawals x (with_validators y b)))
          queue (paid.validators ids)

      pub stepped : Stepped (process_withdrawals (settings_of settings) ws) s
          (tables ids vs ds ps cs) (tables ids us ds qs cs)
          (scalars.with_next_withdrawal s index cursor (s.partials - gone))
      stepped = record {
        books = whole;
        beyond = record {
          identities = refl;
          validators = paid.past;
          deposits = refl;
          partials = drained.past;
          consolidations = refl;
        };
      }
