-- One effective balance from what the code stores, the loop validator by validator, and the step.
use mathlib.Core.Path.{◌≡◌, refl, sym, ap, ◌∙◌}
use mathlib.Core.Bool.{true, false, ◌||◌}
use mathlib.Core.List.{List, [], ◌∷◌, map}
use Prim.Native.Nat.{ℕ, zero, suc, ◌+◌, ◌-◌, ◌*◌, ◌/◌, ◌%◌, ◌<◌, ◌≤◌, ◌^◌, min}
use native.Mathlib.Nat.{div-le_self, mul-le-mul, le_of_suc-le-suc}
use native.Mathlib.Numerals.{add-one}
use native.Mathlib.Omega.{arith}
use lib.ListN.{length, get_or}
use lib.Dec.{ltb}
use Rattle.lists.specs.Base.{when◌then◌else◌, adjust}
use Rattle.lists.specs.Laws.{adjust_same}
use Rattle.tables.specs.Rows.{rows, length_rows, get_d_rows, rows_adjust}
use Rattle.rules.specs.Types.{Settings, Validator}
use Rattle.rules.specs.Update.{with_effective_balance}
use Rattle.rules.specs.Helpers.{no_validator, get_validator_max_effective_balance}
use Rattle.rules.specs.EpochProcessing.{needs_update, updated, process_effective_balance_updates}
use Rattle.rule_laws.specs.Accepted.{SoundSettings}
use Rattle.primitives.specs.declared.Scalars.{Scalars}
use Rattle.records.specs.Layout.{validator_at, effective_balance_at, balance_at, validators_past}
use Rattle.records.specs.Books.{tables, Stepped, books_of, validators_of}
use Rattle.records.specs.Stores.{ValidatorAdjusted}
use Rattle.epoch_processing.specs.Updates.{downward_threshold, upward_threshold, Updated}

-- ---- one validator

pub needs_read : (S : Settings) (v : Validator) (effective balance downward upward : ℕ)
    → effective ≡ v.effective_balance → balance ≡ v.balance
    → downward ≡ downward_threshold S → upward ≡ upward_threshold S
    → (ltb (balance + downward) effective || ltb (effective + upward) balance) ≡ needs_update S v
unfolding needs_update
needs_read S v effective balance downward upward p q r s = rw (p, q, r, s)

module _ (S : Settings) (i : ℕ) (ids vs : List ℕ) where
  abbrev v : Validator
  v = validator_at ids vs i

  pub not_updated : needs_update S v ≡ false → Updated S i ids vs vs
  unfolding updated when◌then◌else◌
  not_updated e = record {
    validators = λ n h.
        rows_adjust n (validator_at ids vs) (validator_at ids vs) i (updated S) (λ j p q. refl) (λ p. rw e);
    past = λ n h. refl;
  }

  pub updated_at : needs_update S v ≡ true → (x : ℕ)
      → x ≡ min (balance_at vs i - balance_at vs i % S.effective_balance_increment)
      (get_validator_max_effective_balance S v)
      → (new : List ℕ) → ValidatorAdjusted i (with_effective_balance x) vs new → Updated S i ids vs new
  unfolding updated when◌then◌else◌
  updated_at e x q new a = record {
    validators = λ n h.
        a.validators ids n
        ∙ adjust_same i (with_effective_balance x) (updated S) (rows n (validator_at ids vs)) no_validator
        (rw (get_d_rows n (validator_at ids vs) i no_validator h) (rw (e, q)));
    past = a.past;
  }

-- ---- the loop

-- the first i elements changed by f
abbrev map_first : {A : Type 0} → ℕ → (A → A) → List A → List A
map_first zero f xs = xs
map_first (suc i) f [] = []
map_first (suc i) f (x ∷ xs) = f x ∷ map_first i f xs

module _ {A : Type 0} (f : A → A) where
  map_first_more : (i : ℕ) (xs : List A) → adjust i f (map_first i f xs) ≡ map_first (suc i) f xs
  map_first_more zero [] = refl
  map_first_more zero (x ∷ xs) = refl
  map_first_more (suc i) [] = refl
  map_first_more (suc i) (x ∷ xs) = ap {B = List A} (λ l. f x ∷ l) (map_first_more i xs)

  map_first_at : (i : ℕ) (xs : List A) (d : A) → get_or (map_first i f xs) i d ≡ get_or xs i d
  map_first_at zero xs d = refl
  map_first_at (suc i) [] d = refl
  map_first_at (suc i) (x ∷ xs) d = map_first_at i xs d

  map_first_all : (i : ℕ) (xs : List A) → length xs ≤ i → map_first i f xs ≡ map f xs
  map_first_all zero [] h = refl
  map_first_all zero (x ∷ xs) h = let z : ⊥ = omega arith in absurd z
  map_first_all (suc i) [] h = refl
  map_first_all (suc i) (x ∷ xs) h = ap {B = List A} (λ l. f x ∷ l) (map_first_all i xs (le_of_suc-le-suc h))

-- i of the first n validators are updated
pub record Updating (S : Settings) (n : ℕ) (ids old new : List ℕ) (i : ℕ) : Type 0 where
  pub reached : i ≤ n
  pub validators : rows n (validator_at ids new) ≡ map_first i (updated S) (rows n (validator_at ids old))
  pub past : validators_past n new ≡ validators_past n old
  pub size : length new ≡ length old

module _ {S : Settings} {n : ℕ} {ids old new : List ℕ} {i : ℕ} (h : Updating S n ids old new i) where
  -- the validators from i on are as they were
  same : i < n → validator_at ids new i ≡ validator_at ids old i
  same k =
      sym (get_d_rows n (validator_at ids new) i no_validator k)
      ∙ ap (λ l. get_or l i no_validator) h.validators
      ∙ map_first_at (updated S) i (rows n (validator_at ids old)) no_validator
      ∙ get_d_rows n (validator_at ids old) i no_validator k

  pub same_balance : i < n → balance_at new i ≡ balance_at old i
  same_balance k = ap (λ (v : Validator). v.balance) (same k)

  pub same_effective : i < n → effective_balance_at new i ≡ effective_balance_at old i
  same_effective k = ap (λ (v : Validator). v.effective_balance) (same k)

  pub updating_more : i < n → (next : List ℕ) → Updated S i ids new next → length next ≡ length new
      → Updating S n ids old next (i + 1)
  updating_more k next u size = record {
    reached = omega arith;
    validators =
        u.validators n k
        ∙ ap (adjust i (updated S)) h.validators
        ∙ rw (add-one i) (map_first_more (updated S) i (rows n (validator_at ids old)));
    past = u.past n k ∙ h.past;
    size = size ∙ h.size;
  }

-- ---- the step

pub updating_end : (S : Settings) (s : Scalars) (ids old new : List ℕ) (i : ℕ) → s.validators ≤ i
    → Updating S s.validators ids old new i → (ds ps cs : List ℕ)
    → Stepped (process_effective_balance_updates S) s (tables ids old ds ps cs) (tables ids new ds ps cs) s
unfolding books_of process_effective_balance_updates
updating_end S s ids old new i e h ds ps cs = record {
  books =
      rw h.validators
      (rw (map_first_all (updated S) i (validators_of s ids old) (rw length_rows e)));
  beyond = record {
    identities = refl;
    validators = h.past;
    deposits = refl;
    partials = refl;
    consolidations = refl;
  };
}

-- ---- the thresholds

product_small : {a b : ℕ} → a ≤ 2 ^ 44 → b ≤ 2 ^ 16 → a * b ≤ 2 ^ 60
product_small p q = omega (arith, mul-le-mul p q)

module _ (S : Settings) (σ : SoundSettings S) where
  quotient_small : S.effective_balance_increment / S.hysteresis_quotient ≤ 2 ^ 44
  quotient_small = omega (arith, σ.increment, div-le_self S.effective_balance_increment S.hysteresis_quotient)

  pub downward_small : downward_threshold S ≤ 2 ^ 60
  downward_small = product_small quotient_small σ.downward

  pub upward_small : upward_threshold S ≤ 2 ^ 60
  upward_small = product_small quotient_small σ.upward
