-- The words of a table: stores into one row, and the words that stay as they were.
use Rattle.std.specs.Prelude.{◌≡◌, refl, Bool, true, false, List, ℕ, ◌+◌, ◌-◌, ◌≤◌, ◌<◌, ltb, length, get_or, set, take}
use Rattle.std.specs.Prelude.{drop}
use Rattle.std.proofs.Common.{sym, ◌∙◌, arith, length-set, length-take, length-drop, get_or-set_other, ext_get_or}
use Rattle.std.proofs.Common.{get_or-take, get_or-drop, ltb-true, ltb-false}
use Rattle.std.proofs.Math.ListN.{get_or-eq_default}

-- l and m agree outside the words from lo to hi
pub record Outside (lo hi : ℕ) (l m : List ℕ) : Type 0 where
  pub size : length l ≡ length m
  pub same : (q : ℕ) → (lo ≤ q → q < hi → ⊥) → get_or l q 0 ≡ get_or m q 0

pub outside_none : {lo hi : ℕ} {l : List ℕ} → Outside lo hi l l
outside_none = record { size = refl; same = λ q r. refl }

-- one store earlier: a run of stores is gone through from the last to the first
pub outside_more : {at lo hi : ℕ} {l m : List ℕ} (p x : ℕ) → (lo ≤ at) × (lo ≤ p) × (p < hi)
    → Outside at hi l (set m p x) → Outside lo hi l m
outside_more {at} {lo} {hi} {l} {m} p x a h = record {
  size = h.size ∙ length-set m p x;
  same = λ q r.
      h.same q (λ s t. r (omega (arith, a)) t)
      ∙ get_or-set_other m p q x 0 (λ e. r (omega (arith, e, a)) (omega (arith, e, a)));
}

-- parts of two lists that agree there
pub part_ext : (l m : List ℕ) (at n : ℕ) → length l ≡ length m
    → ((k : ℕ) → k < n → get_or l (at + k) 0 ≡ get_or m (at + k) 0) → take n (drop at l) ≡ take n (drop at m)
part_ext l m at n e h =
    ext_get_or 0 (take n (drop at l)) (take n (drop at m))
    (omega (arith, e, length-take n (drop at l), length-take n (drop at m), length-drop at l, length-drop at m))
    (λ i p.
    let q : i < n = omega (arith, length-take n (drop at l)) in
    get_or-take n (drop at l) i 0 q
    ∙ get_or-drop at l i 0
    ∙ h i q
    ∙ sym (get_or-take n (drop at m) i 0 q ∙ get_or-drop at m i 0))

module _ {lo hi : ℕ} {l m : List ℕ} (o : Outside lo hi l m) where
  -- a part that lies outside
  pub outside_part : (at n : ℕ) → ((q : ℕ) → at ≤ q → q < at + n → lo ≤ q → q < hi → ⊥)
      → take n (drop at l) ≡ take n (drop at m)
  outside_part at n h =
      part_ext l m at n o.size (λ k p. o.same (at + k) (h (at + k) (omega arith) (omega arith)))

  -- the words past the last one stored
  pub outside_drop : (n : ℕ) → hi ≤ n → drop n l ≡ drop n m
  outside_drop n h =
      ext_get_or 0 (drop n l) (drop n m) (omega (arith, o.size, length-drop n l, length-drop n m))
      (λ i p. get_or-drop n l i 0 ∙ o.same (n + i) (λ s t. omega arith) ∙ sym (get_or-drop n m i 0))

  -- the words of a part, counted from its first
  pub outside_within : (at n : ℕ) → Outside (lo - at) (hi - at) (take n (drop at l)) (take n (drop at m))
  outside_within at n = record {
    size = omega (
      arith,
      o.size,
      length-take n (drop at l),
      length-take n (drop at m),
      length-drop at l,
      length-drop at m,
    );
    same = λ q r. go q r (ltb q n) refl;
  }
    where
      within : (k : List ℕ) (q : ℕ) → q < n → get_or (take n (drop at k)) q 0 ≡ get_or k (at + q) 0
      within k q p = get_or-take n (drop at k) q 0 p ∙ get_or-drop at k q 0

      past : (k : List ℕ) (q : ℕ) → n ≤ q → get_or (take n (drop at k)) q 0 ≡ 0
      past k q p = get_or-eq_default (take n (drop at k)) 0 {n = q} (omega (arith, length-take n (drop at k)))

      go : (q : ℕ) → (lo - at ≤ q → q < hi - at → ⊥) → (t : Bool) → ltb q n ≡ t
          → get_or (take n (drop at l)) q 0 ≡ get_or (take n (drop at m)) q 0
      go q r true e =
          let p : q < n = ltb-true q n e in
          within l q p ∙ o.same (at + q) (λ a b. r (omega arith) (omega arith)) ∙ sym (within m q p)
      go q r false e = let p : n ≤ q = ltb-false q n e in past l q p ∙ sym (past m q p)

  -- more words may differ
  pub outside_wider : {from to : ℕ} → ((q : ℕ) → lo ≤ q → q < hi → (from ≤ q) × (q < to)) → Outside from to l m
  outside_wider h = record {
    size = o.size;
    same = λ q r. o.same q (λ a b. r (h q a b).0 (h q a b).1);
  }

  -- two runs of stores
  pub outside_then : {k : List ℕ} → Outside lo hi m k → Outside lo hi l k
  outside_then n = record { size = o.size ∙ n.size; same = λ q r. o.same q r ∙ n.same q r }
