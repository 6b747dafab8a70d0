-- What carrying out a calls file on lent books promises, and what follows from it.
use Rattle.std.specs.Prelude.{◌≡◌, refl, not, List, ℕ, zero, suc, ◌*◌, length, ltb, eqb}
use Rattle.std.proofs.Common.{sym, ◌∙◌, arith, ne_eqb}
use Rattle.std.proofs.Math.Option.{Option, some, none}
use Rattle.lists.specs.Base.{when◌then◌else◌}
use Rattle.rules.specs.Types.{Settings, Books}
use Rattle.rules.specs.Calls.{Operation, Room, handed_refusal, run}
use Rattle.primitives.specs.declared.Scalars.{Scalars}
use Rattle.records.specs.Books.{Tables, books_of, room_of}
use Rattle.carried.specs.Carried.{Demand3Carried}
use Rattle.file_format.specs.File.{read_calls}
use Rattle.file_format.specs.Answers.{over}
use Rattle.table_text.specs.Lines.{lines_words}
use Rattle.runs.specs.Lines.{lines}
use Rattle.runs.specs.InPlace.{InPlace, calls_on, in_place_books, in_place_demand_3, in_place_fixed}

-- ---- the answer

-- 60 where the file is no calls file, 61 where the results have room for less than three numbers a call
abbrev pub listed_answer : (space : ℕ) → Option (List Operation) → ℕ
listed_answer space none = 60
listed_answer space (some os) = when ltb space (3 * length os) then 61 else 0

-- the books first: 1, 3, 2
unfoldable pub carry_out_answer : Settings → Books → Room → (file : List ℕ) → (space : ℕ) → ℕ
carry_out_answer S b r file space =
    let handed = handed_refusal S b r in
    let listed = listed_answer space (read_calls file) in
    when not (eqb handed 0) then handed else listed

-- ---- the promise

-- the operations os carried out; the results begin with a line for each call, and past them they are as they were
pub record Done (S : Settings) (s : Scalars) (t u : Tables) (os : List Operation) (before after : List ℕ)
    (r : Scalars) (count : ℕ) : Type 0 where
  pub chain : InPlace S s t os r u
  pub results : after ≡ over (lines_words (lines S (books_of s t) (calls_on t os))) before
  pub counted : count ≡ length os

-- a refusal changes nothing
pub record CarriedOut (S : Settings) (s : Scalars) (t u : Tables) (file before after : List ℕ) (n : ℕ)
    (r : Scalars) (count : ℕ) : Type 0 where
  pub number : n ≡ carry_out_answer S (books_of s t) (room_of t) file (length before)
  pub done : (os : List Operation) → n ≡ 0 → read_calls file ≡ some os → Done S s t u os before after r count
  pub refused : (n ≡ 0 → ⊥) → (r ≡ s) × ((u ≡ t) × ((after ≡ before) × (count ≡ 0)))

-- ---- what follows

module _ {S : Settings} {s r : Scalars} {t u : Tables} {os : List Operation} {before after : List ℕ} {count : ℕ}
    (d : Done S s t u os before after r count) where
  pub done_books : books_of r u ≡ run S (books_of s t) (calls_on t os)
  done_books = in_place_books d.chain

  pub done_demand_3 : Demand3Carried S (books_of s t) (calls_on t os) (books_of r u)
  done_demand_3 = in_place_demand_3 d.chain

-- ---- no two outcomes

-- what is answered 0 was read
not_read : (h space : ℕ) → 0 ≡ (when not (eqb h 0) then h else listed_answer space none) → ⊥
unfolding when◌then◌else◌
not_read zero space e = omega arith
not_read (suc h) space e =
    let q = rw (ne_eqb (suc h) 0 (λ z. omega arith)) at e in
    omega arith

was_read : (S : Settings) (b : Books) (r : Room) (file : List ℕ) (space : ℕ)
    → 0 ≡ carry_out_answer S b r file space → read_calls file ≡ none → ⊥
unfolding carry_out_answer
was_read S b r file space e p = not_read (handed_refusal S b r) space (rw p at e)

module _ {S : Settings} {s : Scalars} {t : Tables} {file before : List ℕ} where
  pub carried_out_fixed : {u w : Tables} {a b : List ℕ} {n m : ℕ} {r q : Scalars} {c d : ℕ}
      → CarriedOut S s t u file before a n r c → CarriedOut S s t w file before b m q d
      → (n ≡ m) × ((r ≡ q) × ((u ≡ w) × ((a ≡ b) × (c ≡ d))))
  carried_out_fixed {u} {w} {a} {b} {n} {m} {r} {q} {c} {d} x y = go n refl (read_calls file) refl
    where
      same : n ≡ m
      same = x.number ∙ sym y.number

      go : (k : ℕ) → n ≡ k → (o : Option (List Operation)) → read_calls file ≡ o
          → (n ≡ m) × ((r ≡ q) × ((u ≡ w) × ((a ≡ b) × (c ≡ d))))
      go (suc k) e o p =
          let f = x.refused (λ z. omega arith) in
          let g = y.refused (λ z. omega (arith, same)) in (
            same,
            (
              f.0 ∙ sym g.0,
              (f.1.0 ∙ sym g.1.0, (f.1.1.0 ∙ sym g.1.1.0, f.1.1.1 ∙ sym g.1.1.1)),
            ),
          )
      go zero e none p = absurd (was_read S (books_of s t) (room_of t) file (length before) (sym e ∙ x.number) p)
      go zero e (some os) p =
          let f = x.done os e p in
          let g = y.done os (sym same ∙ e) p in
          let i = in_place_fixed f.chain g.chain in
          (same, (i.0, (i.1, (f.results ∙ sym g.results, f.counted ∙ sym g.counted))))
