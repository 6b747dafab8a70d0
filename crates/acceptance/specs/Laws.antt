-- Laws of conjunctions, and of sums that are tested on the way.
use Rattle.std.specs.Prelude.{◌≡◌, ℕ, ◌+◌, ◌-◌, ◌<◌, ◌≤◌, min, Bool, true, false, ◌&&◌, List, [], ◌∷◌, drop, nat_le}
use Rattle.std.specs.Prelude.{refl, Option, Some, None}
use Rattle.std.proofs.Common.{sym, ap, ◌∙◌, leb-true, leb-false, le-leb}
use native.Mathlib.Omega.{arith}
use Rattle.std.proofs.lemmas.Bool.{lt-leb}
use Rattle.std.proofs.lemmas.Option.{none-some}
use Rattle.lists.specs.Base.{all, total, every}
use Rattle.lists.specs.Laws.{both, join, and_true, and_false, and_assoc, same_test, if_true, if_false}
use Rattle.tables.specs.Rows.{rows, drop_rows_at, drop_rows_end}
use Rattle.rules.specs.Types.{BOUND}
use Rattle.primitives.specs.declared.Gwei.{Gwei}
use Rattle.acceptance.specs.Tests.{tested_sum, bounded}

-- ---- conjunctions

-- tests joined from the left, as the code joins them
abbrev pub chain : Bool → List Bool → Bool
chain t [] = t
chain t (u ∷ us) = chain (t && u) us

pub chained : (t : Bool) (ts : List Bool) → chain t ts ≡ all (t ∷ ts)
unfolding all
chained t [] = sym (and_true t)
chained t (u ∷ us) = chained (t && u) us ∙ sym (and_assoc t u (all us))

-- within both of two numbers
pub leb_both : (a m n : ℕ) → (nat_le a m && nat_le a n) ≡ nat_le a (min m n)
leb_both a m n =
    same_test (nat_le a m && nat_le a n) (nat_le a (min m n))
    (λ e.
    let s = both (nat_le a m) (nat_le a n) e in
    let p = leb-true a m s.0 in
    let q = leb-true a n s.1 in
    le-leb a (min m n) (omega arith))
    (λ e.
    let p = leb-true a (min m n) e in
    join (le-leb a m (omega arith)) (le-leb a n (omega arith)))

-- a sum below a bound, without the sum
pub leb_shift : (x y n : ℕ) → y ≤ n → nat_le x (n - y) ≡ nat_le (x + y) n
leb_shift x y n h = go (nat_le (x + y) n) refl
  where
    go : (t : Bool) → nat_le (x + y) n ≡ t → nat_le x (n - y) ≡ t
    go true e = le-leb x (n - y) (omega (arith, leb-true (x + y) n e))
    go false e = lt-leb x (n - y) (omega (arith, leb-false (x + y) n e))

-- every element passes two tests
pub every_both : {A : Type 0} (t u : A → Bool) (xs : List A)
    → every (λ x. t x && u x) xs ≡ true → (every t xs ≡ true) × (every u xs ≡ true)
every_both t u [] e = (refl, refl)
every_both t u (x ∷ xs) e =
    let here = both (t x && u x) (every (λ y. t y && u y) xs) e in
    let tests = both (t x) (u x) here.0 in
    let rest = every_both t u xs here.1 in
    (join tests.0 rest.0, join tests.1 rest.1)

-- ---- sums within the bound

pub bounded_some : {x : Gwei} {n : ℕ} → x.0 ≡ n → x.0 ≤ BOUND → Some x ≡ bounded n
unfolding bounded
bounded_some {x} {n} e h =
    ap (λ (k : ℕ). Some (record { 0 = k })) e
    ∙ sym (if_true (nat_le n BOUND) _ _ (le-leb n BOUND (omega (arith, e, h))))

pub bounded_none : {n : ℕ} → BOUND < n → None ≡ bounded n
unfolding bounded
bounded_none {n} h = sym (if_false (nat_le n BOUND) _ _ (lt-leb n BOUND h))

abbrev sum_value : Option Gwei → ℕ
sum_value (Some x) = x.0
sum_value None = 0

pub bounded_is : {x : Gwei} {n : ℕ} → Some x ≡ bounded n → (x.0 ≡ n) × (x.0 ≤ BOUND)
bounded_is {x} {n} e = go (nat_le n BOUND) refl
  where
    go : (b : Bool) → nat_le n BOUND ≡ b → (x.0 ≡ n) × (x.0 ≤ BOUND)
    go true h =
        let small = leb-true n BOUND h in
        let same : x.0 ≡ n = ap sum_value (e ∙ sym (bounded_some {x = record { 0 = n }} refl small)) in
        (same, omega (arith, same, small))
    go false h = absurd (none-some _ (bounded_none (leb-false n BOUND h) ∙ sym e))

pub bounded_over : {n : ℕ} → None ≡ bounded n → BOUND < n
bounded_over {n} e = go (nat_le n BOUND) refl
  where
    go : (b : Bool) → nat_le n BOUND ≡ b → BOUND < n
    go true h = absurd (none-some _ (e ∙ sym (bounded_some {x = record { 0 = n }} refl (leb-true n BOUND h))))
    go false h = leb-false n BOUND h

-- ---- sums that are tested

module _ {A : Type 0} (t : A → Bool) (w : A → ℕ) where
  -- no record fails, and the sum is within the bound
  pub tested_within : (sum : ℕ) (xs : List A)
      → every t xs ≡ true → sum + total w xs ≤ BOUND → tested_sum t w sum xs ≡ sum + total w xs
  unfolding tested_sum
  tested_within sum xs p q = if_true _ _ _ (join p (le-leb (sum + total w xs) BOUND q))

  fails : (sum : ℕ) (xs : List A) → every t xs ≡ false → tested_sum t w sum xs ≡ BOUND + 1
  unfolding tested_sum
  fails sum xs e = if_false _ _ _ (ap (λ b. b && nat_le (sum + total w xs) BOUND) e)

  over : (sum : ℕ) (xs : List A) → BOUND < sum + total w xs → tested_sum t w sum xs ≡ BOUND + 1
  unfolding tested_sum
  over sum xs h = if_false _ _ _ (and_false (every t xs) _ (lt-leb (sum + total w xs) BOUND h))

  passes : (sum : ℕ) (x : A) (xs : List A) → t x ≡ true
      → tested_sum t w (sum + w x) xs ≡ tested_sum t w sum (x ∷ xs)
  unfolding tested_sum
  passes sum x xs e =
      let a : sum + w x + total w xs ≡ sum + (w x + total w xs) = omega arith in
      rw (a, e)

  -- the other way: a tested sum that is within the bound
  pub tested_facts : (sum : ℕ) (xs : List A) → tested_sum t w sum xs ≤ BOUND
      → (every t xs ≡ true) × (tested_sum t w sum xs ≡ sum + total w xs)
  tested_facts sum xs h = go (every t xs) refl
    where
      small : (every t xs ≡ true) → (b : Bool) → nat_le (sum + total w xs) BOUND ≡ b
          → tested_sum t w sum xs ≡ sum + total w xs
      small p true e = tested_within sum xs p (leb-true (sum + total w xs) BOUND e)
      small p false e =
          let z : ⊥ = omega (arith, over sum xs (leb-false (sum + total w xs) BOUND e)) in absurd z

      go : (b : Bool) → every t xs ≡ b → (every t xs ≡ true) × (tested_sum t w sum xs ≡ sum + total w xs)
      go true p = (p, small p (nat_le (sum + total w xs) BOUND) refl)
      go false p = let z : ⊥ = omega (arith, fails sum xs p) in absurd z

  -- a loop over a table that tests and adds
  module _ (n : ℕ) (g : ℕ → A) (i sum : ℕ) (start : ℕ)
      (inv : tested_sum t w sum (drop i (rows n g)) ≡ tested_sum t w start (rows n g)) where
    at_record : i < n → tested_sum t w sum (g i ∷ drop (i + 1) (rows n g)) ≡ tested_sum t w start (rows n g)
    at_record h = rw (drop_rows_at n g i h) at inv

    pub tested_more : i < n → t (g i) ≡ true → (x : ℕ) → x ≡ w (g i)
        → tested_sum t w (sum + x) (drop (i + 1) (rows n g)) ≡ tested_sum t w start (rows n g)
    tested_more h p x e = rw e (passes sum (g i) (drop (i + 1) (rows n g)) p ∙ at_record h)

    -- a record that fails, and a sum over the bound, each make the tested sum BOUND + 1, which is none
    pub tested_stop_sum : i < n → t (g i) ≡ false → BOUND + 1 ≡ tested_sum t w start (rows n g)
    tested_stop_sum h p =
        sym (fails sum (g i ∷ drop (i + 1) (rows n g))
        (ap (λ b. b && every t (drop (i + 1) (rows n g))) p)) ∙ at_record h

    pub tested_stop : i < n → t (g i) ≡ false → None ≡ bounded (tested_sum t w start (rows n g))
    tested_stop h p = let e = tested_stop_sum h p in bounded_none (omega (arith, e))

    pub tested_over_sum : i < n → (x : ℕ) → x ≡ w (g i) → BOUND < sum + x → BOUND + 1 ≡ tested_sum t w start (rows n g)
    tested_over_sum h x e p = sym (over sum (g i ∷ drop (i + 1) (rows n g)) (omega arith)) ∙ at_record h

    pub tested_over : i < n → (x : ℕ) → x ≡ w (g i) → BOUND < sum + x
        → None ≡ bounded (tested_sum t w start (rows n g))
    tested_over h x e p = let f = tested_over_sum h x e p in bounded_none (omega (arith, f))

    pub tested_done : n ≤ i → sum ≤ BOUND → Some (record { 0 = sum }) ≡ bounded (tested_sum t w start (rows n g))
    tested_done h p =
        bounded_some
        (sym (tested_within sum [] refl (omega arith) ∙ omega arith) ∙ (rw (drop_rows_end n g i h) at inv)) p
