-- Laws of the functions of Base.
use Rattle.std.specs.Prelude.{◌≡◌, refl, Bool, true, false, not, ◌&&◌, List, [], ◌∷◌, ◌++◌, map, ℕ, zero, suc, ◌+◌, ◌≤◌}
use Rattle.std.specs.Prelude.{◌<◌, length, get_or, take, drop}
use Rattle.std.proofs.Common.{sym, ap, le_of_suc-le-suc, not-suc-le-zero, arith}
use Rattle.lists.specs.Base.{when◌then◌else◌, all, adjust, total, every}

-- ---- tests

-- a claim about an `if` is proved for each branch, with what the test said
pub by_test {ℓ κ} : {A : Type ℓ} (P : A → Type κ) (t : Bool) {x y : A}
    → (t ≡ true → P x) → (t ≡ false → P y) → P (when t then x else y)
unfolding when◌then◌else◌
by_test P true f g = f refl
by_test P false f g = g refl

pub if_true {ℓ} : {A : Type ℓ} (t : Bool) (x y : A) → t ≡ true → (when t then x else y) ≡ x
unfolding when◌then◌else◌
if_true t x y e = rw e

pub if_false {ℓ} : {A : Type ℓ} (t : Bool) (x y : A) → t ≡ false → (when t then x else y) ≡ y
unfolding when◌then◌else◌
if_false t x y e = rw e

pub both : (s t : Bool) → (s && t) ≡ true → (s ≡ true) × (t ≡ true)
both true t e = (refl, e)
both false t e = (e, impossible e)
  where
    impossible : false ≡ true → t ≡ true
    impossible p = cc

pub join : {s t : Bool} → s ≡ true → t ≡ true → (s && t) ≡ true
join p q = rw (p, q)

pub and_true : (t : Bool) → (t && true) ≡ t
and_true true = refl
and_true false = refl

pub and_false : (s t : Bool) → t ≡ false → (s && t) ≡ false
and_false true t e = e
and_false false t e = refl

pub and_assoc : (s t u : Bool) → (s && (t && u)) ≡ (s && t && u)
and_assoc true t u = refl
and_assoc false t u = refl

-- two tests that pass together
pub same_test : (s t : Bool) → (s ≡ true → t ≡ true) → (t ≡ true → s ≡ true) → s ≡ t
same_test true t f g = sym (f refl)
same_test false true f g = g refl
same_test false false f g = refl

pub not_not : (t : Bool) → not t ≡ false → t ≡ true
not_not true e = refl
not_not false e = sym e

-- the n-th of some tests that all pass
pub nth : (ts : List Bool) → all ts ≡ true → (n : ℕ) → get_or ts n true ≡ true
unfolding all
nth [] e n = refl
nth (t ∷ ts) e zero = (both t (all ts) e).0
nth (t ∷ ts) e (suc n) = nth ts (both t (all ts) e).1 n

pub all_none : all [] ≡ true
unfolding all
all_none = refl

pub all_more : (t : Bool) (ts : List Bool) → t ≡ true → all ts ≡ true → all (t ∷ ts) ≡ true
unfolding all
all_more t ts p q = join p q

-- a chain of tests came to 0: this one did not fail, and the rest came to 0
pub passed : (t : Bool) {n r : ℕ} → 0 < n → (when t then n else r) ≡ 0 → (t ≡ false) × (r ≡ 0)
unfolding when◌then◌else◌
passed true h e = let z : ⊥ = omega arith in absurd z
passed false h e = (refl, e)

-- ---- lists

module _ {A : Type 0} where
  pub length_adjust : (i : ℕ) (g : A → A) (xs : List A) → length (adjust i g xs) ≡ length xs
  length_adjust i g [] = refl
  length_adjust zero g (x ∷ xs) = refl
  length_adjust (suc i) g (x ∷ xs) = ap suc (length_adjust i g xs)

  -- what is read at i after a change at i, where the change keeps what is read
  pub read_adjust : {B : Type 0} (f : A → B) (i : ℕ) (g : A → A) (xs : List A) (d : A)
      → ((x : A) → f (g x) ≡ f x) → f (get_or (adjust i g xs) i d) ≡ f (get_or xs i d)
  read_adjust f i g [] d h = refl
  read_adjust f zero g (x ∷ xs) d h = h x
  read_adjust f (suc i) g (x ∷ xs) d h = read_adjust f i g xs d h

  pub adjust_adjust : (i : ℕ) (f g : A → A) (xs : List A) → adjust i f (adjust i g xs) ≡ adjust i (λ x. f (g x)) xs
  adjust_adjust i f g [] = refl
  adjust_adjust zero f g (x ∷ xs) = refl
  adjust_adjust (suc i) f g (x ∷ xs) = ap {B = List A} (λ l. x ∷ l) (adjust_adjust i f g xs)

  -- two changes that agree on the element they are made to
  pub adjust_same : (i : ℕ) (f g : A → A) (xs : List A) (d : A)
      → f (get_or xs i d) ≡ g (get_or xs i d) → adjust i f xs ≡ adjust i g xs
  adjust_same i f g [] d h = refl
  adjust_same zero f g (x ∷ xs) d h = ap {B = List A} (λ y. y ∷ xs) h
  adjust_same (suc i) f g (x ∷ xs) d h = ap {B = List A} (λ l. x ∷ l) (adjust_same i f g xs d h)

  pub total_adjust : (f : A → ℕ) (i : ℕ) (g : A → A) (xs : List A) (d : A) → i < length xs
      → total f (adjust i g xs) + f (get_or xs i d) ≡ total f xs + f (g (get_or xs i d))
  total_adjust f i g [] d h = absurd (not-suc-le-zero h)
  total_adjust f zero g (x ∷ xs) d h = omega arith
  total_adjust f (suc i) g (x ∷ xs) d h = omega (arith, total_adjust f i g xs d (le_of_suc-le-suc h))

  pub total_adjust_same : (f : A → ℕ) (i : ℕ) (g : A → A) (xs : List A)
      → ((x : A) → f (g x) ≡ f x) → total f (adjust i g xs) ≡ total f xs
  total_adjust_same f i g [] h = refl
  total_adjust_same f zero g (x ∷ xs) h = omega (arith, h x)
  total_adjust_same f (suc i) g (x ∷ xs) h = omega (arith, total_adjust_same f i g xs h)

  pub total_append : (f : A → ℕ) (xs ys : List A) → total f (xs ++ ys) ≡ total f xs + total f ys
  total_append f [] ys = omega arith
  total_append f (x ∷ xs) ys = omega (arith, total_append f xs ys)

  pub total_drop : (f : A → ℕ) (n : ℕ) (xs : List A) → total f (drop n xs) ≤ total f xs
  total_drop f zero xs = omega arith
  total_drop f (suc n) [] = omega arith
  total_drop f (suc n) (x ∷ xs) = omega (arith, total_drop f n xs)

  pub total_map_same : (f : A → ℕ) (g : A → A) (xs : List A)
      → ((x : A) → f (g x) ≡ f x) → total f (map g xs) ≡ total f xs
  total_map_same f g [] h = refl
  total_map_same f g (x ∷ xs) h = omega (arith, total_map_same f g xs h, h x)

  pub every_append : (t : A → Bool) (xs ys : List A)
      → every t xs ≡ true → every t ys ≡ true → every t (xs ++ ys) ≡ true
  every_append t [] ys p q = q
  every_append t (x ∷ xs) ys p q =
      let s = both (t x) (every t xs) p in
      join s.0 (every_append t xs ys s.1 q)

  -- one more element decides
  pub every_append_one : (t : A → Bool) (xs : List A) (x : A) → every t xs ≡ true → every t (xs ++ (x ∷ [])) ≡ t x
  every_append_one t [] x p = and_true (t x)
  every_append_one t (y ∷ xs) x p =
      let s = both (t y) (every t xs) p in
      rw s.0 (every_append_one t xs x s.1)

  pub every_adjust : (t : A → Bool) (i : ℕ) (g : A → A) (xs : List A)
      → ((x : A) → t x ≡ true → t (g x) ≡ true) → every t xs ≡ true → every t (adjust i g xs) ≡ true
  every_adjust t i g [] h p = refl
  every_adjust t zero g (x ∷ xs) h p = let s = both (t x) (every t xs) p in join (h x s.0) s.1
  every_adjust t (suc i) g (x ∷ xs) h p =
      let s = both (t x) (every t xs) p in
      join s.0 (every_adjust t i g xs h s.1)

  pub every_drop : (t : A → Bool) (n : ℕ) (xs : List A) → every t xs ≡ true → every t (drop n xs) ≡ true
  every_drop t zero xs p = p
  every_drop t (suc n) [] p = refl
  every_drop t (suc n) (x ∷ xs) p = every_drop t n xs (both (t x) (every t xs) p).1

  pub every_take : (t : A → Bool) (n : ℕ) (xs : List A) → every t xs ≡ true → every t (take n xs) ≡ true
  every_take t zero xs p = refl
  every_take t (suc n) [] p = refl
  every_take t (suc n) (x ∷ xs) p =
      let s = both (t x) (every t xs) p in
      join s.0 (every_take t n xs s.1)

  pub every_map : (t : A → Bool) (g : A → A) (xs : List A)
      → ((x : A) → t x ≡ true → t (g x) ≡ true) → every t xs ≡ true → every t (map g xs) ≡ true
  every_map t g [] h p = refl
  every_map t g (x ∷ xs) h p =
      let s = both (t x) (every t xs) p in
      join (h x s.0) (every_map t g xs h s.1)

  pub every_weaken : (t u : A → Bool) (xs : List A)
      → ((x : A) → t x ≡ true → u x ≡ true) → every t xs ≡ true → every u xs ≡ true
  every_weaken t u [] h p = refl
  every_weaken t u (x ∷ xs) h p =
      let s = both (t x) (every t xs) p in
      join (h x s.0) (every_weaken t u xs h s.1)

  -- two tests that every element passes are one
  pub every_join : (t u : A → Bool) (xs : List A)
      → every t xs ≡ true → every u xs ≡ true → every (λ x. t x && u x) xs ≡ true
  every_join t u [] p q = refl
  every_join t u (x ∷ xs) p q =
      let s = both (t x) (every t xs) p in
      let r = both (u x) (every u xs) q in
      join (join s.0 r.0) (every_join t u xs s.1 r.1)

  pub every_at : (t : A → Bool) (i : ℕ) (xs : List A) (d : A)
      → i < length xs → every t xs ≡ true → t (get_or xs i d) ≡ true
  every_at t i [] d h p = absurd (not-suc-le-zero h)
  every_at t zero (x ∷ xs) d h p = (both (t x) (every t xs) p).0
  every_at t (suc i) (x ∷ xs) d h p = every_at t i xs d (le_of_suc-le-suc h) (both (t x) (every t xs) p).1

  -- one element fails
  pub every_fails : (t : A → Bool) (i : ℕ) (xs : List A) (d : A)
      → i < length xs → t (get_or xs i d) ≡ false → every t xs ≡ false
  every_fails t i [] d h p = absurd (not-suc-le-zero h)
  every_fails t zero (x ∷ xs) d h p = rw p
  every_fails t (suc i) (x ∷ xs) d h p =
      and_false (t x) (every t xs) (every_fails t i xs d (le_of_suc-le-suc h) p)

  pub getD_adjust : (i : ℕ) (g : A → A) (xs : List A) (d : A) → i < length xs
      → get_or (adjust i g xs) i d ≡ g (get_or xs i d)
  getD_adjust i g [] d h = absurd (not-suc-le-zero h)
  getD_adjust zero g (x ∷ xs) d h = refl
  getD_adjust (suc i) g (x ∷ xs) d h = getD_adjust i g xs d (le_of_suc-le-suc h)
