-- The three promises fix the number, and every number, byte and word that was lent.
use Rattle.std.specs.Prelude.{◌≡◌, refl, Bool, false, ℕ, ◌≤◌, eqb, drop, Ok}
use Rattle.std.proofs.Math.Path.{ap, sym}
use Rattle.std.proofs.Common.{ap₂, ◌∙◌, arith}
use Rattle.std.proofs.Math.Bool.{true}
use mathlib.Core.List.{List, [], ◌++◌}
use Rattle.std.proofs.Math.ListN.{length}
use borrow.Author.Tests.{leb-true, eqb-true, eqb-false}
use Rattle.lists.specs.Base.{all}
use Rattle.lists.specs.Laws.{both}
use Rattle.primitives.specs.Answers.{answer_or}
use Rattle.records.specs.Books.{Tables}
use Rattle.records.specs.Fixed.{SameSizes}
use Rattle.books_reader.specs.declared.Opened.{Opened}
use Rattle.books_reader.specs.Read.{BooksRead}
use Rattle.books_reader.specs.Fixed.{read_fixed}
use Rattle.runs.specs.Promise.{CarriedOut, carried_out_fixed}
use Rattle.slices.specs.Numbers.{settings_in, scalars_in, setting_numbers, settings_same}
use Rattle.slices.specs.Exported.{rules_in, fit}
use Rattle.slices.specs.Fixed.{scalars_fixed}
use Rattle.file_slices.specs.Fitted.{fitted_fit, fitted_done}
use Rattle.file_slices.specs.Read.{read_fit, ExportedRead, read_fit_number, read_done_fit}
use Rattle.file_slices.specs.Written.{ExportedWritten}
use Rattle.file_slices.specs.Carried.{ExportedCarried}

-- slices with the same settings and the same numbers past them
settings_fixed : (x y : List ℕ) → 19 ≤ length x → 19 ≤ length y → settings_in x ≡ settings_in y
    → drop 19 x ≡ drop 19 y → x ≡ y
settings_fixed x y h k e p =
    sym (settings_same x h) ∙ ap₂ (λ s l. setting_numbers s ++ l) e p ∙ settings_same y k

-- ---- the reader

module _ {bs : List ℕ} {t u w : Tables} {x y y' s r r' : List ℕ} {n m : ℕ} (z : SameSizes u w)
    (size_y : length y ≡ length x) (size_y' : length y' ≡ length x) (size_r : length r ≡ length s)
    (size_r' : length r' ≡ length s) (a : ExportedRead bs t u x y s r n) (b : ExportedRead bs t w x y' s r' m) where
  same_number : n ≡ m
  same_number = a.number ∙ sym b.number

  read_done_fixed : n ≡ 0 → (n ≡ m) × ((y ≡ y') × ((r ≡ r') × (u ≡ w)))
  unfolding all
  read_done_fixed e =
      let f : read_fit x s ≡ true = read_done_fit bs t x s (sym a.number ∙ e) in
      let tests = both _ _ f in
      let room_s : 13 ≤ length s = leb-true 13 (length s) tests.0 in
      let room_x : 19 ≤ length x = leb-true 19 (length x) (both _ _ tests.1).0 in
      let k : m ≡ 0 = sym same_number ∙ e in
      let first : Opened = record { settings = settings_in y; scalars = scalars_in r } in
      let one : BooksRead bs t u (Ok first) = record {
        number = sym e ∙ a.number ∙ read_fit_number bs t x s f;
        books = a.books e;
        beyond = a.beyond e;
        refused = tt;
      } in
      let other : BooksRead bs t w (Ok (record { settings = settings_in y'; scalars = scalars_in r' })) = record {
        number = sym k ∙ b.number ∙ read_fit_number bs t x s f;
        books = b.books k;
        beyond = b.beyond k;
        refused = tt;
      } in
      let same = read_fixed z _ _ one other in
      let same_opened : ◌≡◌ {A = Opened} first (record { settings = settings_in y'; scalars = scalars_in r' }) =
      ap (answer_or first) same.0 in
      let same_settings : settings_in y ≡ settings_in y' = ap (λ o. o.settings) same_opened in
      let same_scalars : scalars_in r ≡ scalars_in r' = ap (λ o. o.scalars) same_opened in
      let p = a.past e in
      let q = b.past k in (
        same_number,
        (
          settings_fixed y y' (omega (arith, room_x, size_y)) (omega (arith, room_x, size_y')) same_settings
              (p.0 ∙ sym q.0),
          (
            scalars_fixed r r' (omega (arith, room_s, size_r)) (omega (arith, room_s, size_r')) same_scalars
                (p.1 ∙ sym q.1),
            same.1,
          ),
        ),
      )

  -- no two outcomes of one reading
  pub exported_read_fixed : (n ≡ m) × ((y ≡ y') × ((r ≡ r') × (u ≡ w)))
  exported_read_fixed = go (eqb n 0) refl
    where
      go : (f : Bool) → eqb n 0 ≡ f → (n ≡ m) × ((y ≡ y') × ((r ≡ r') × (u ≡ w)))
      go true e = read_done_fixed (eqb-true n 0 e)
      go false e =
          let h = eqb-false n 0 e in
          let p = a.refused h in
          let q = b.refused (λ k. h (same_number ∙ k)) in
          (same_number, (p.0 ∙ sym q.0, (p.1.0 ∙ sym q.1.0, p.1.1 ∙ sym q.1.1)))

-- ---- the writer

module _ {xs s : List ℕ} {t : Tables} {out last last' : List ℕ} {n m old size size' : ℕ} where
  pub exported_written_fixed : ExportedWritten xs s t out last n old size → ExportedWritten xs s t out last' m old size'
      → (n ≡ m) × ((size ≡ size') × (last ≡ last'))
  exported_written_fixed a b = go (eqb n 0) refl
    where
      same : n ≡ m
      same = a.number ∙ sym b.number

      go : (f : Bool) → eqb n 0 ≡ f → (n ≡ m) × ((size ≡ size') × (last ≡ last'))
      go true e =
          let h = eqb-true n 0 e in
          let p = a.done h in
          let q = b.done (sym same ∙ h) in
          (same, (p.0 ∙ sym q.0, p.1 ∙ sym q.1))
      go false e =
          let h = eqb-false n 0 e in
          let p = a.refused h in
          let q = b.refused (λ k. h (same ∙ k)) in
          (same, (p.0 ∙ sym q.0, p.1 ∙ sym q.1))

-- ---- the calls of a file

module _ {xs s r r' : List ℕ} {t u w : Tables} {file before after after' : List ℕ} {n m old count count' : ℕ}
    (size_r : length r ≡ length s) (size_r' : length r' ≡ length s)
    (a : ExportedCarried xs s r t u file before after n old count)
    (b : ExportedCarried xs s r' t w file before after' m old count') where
  abbrev Same : Type 0
  Same = (n ≡ m) × ((r ≡ r') × ((u ≡ w) × ((after ≡ after') × (count ≡ count'))))

  same_answer : n ≡ m
  same_answer = a.number ∙ sym b.number

  carried_done_fixed : n ≡ 0 → Same
  unfolding all
  carried_done_fixed e =
      let f : fit s [] ≡ true = fitted_done xs s _ (sym a.number ∙ e) in
      let room : 13 ≤ length s = leb-true 13 (length s) (both _ _ f).0 in
      let k : m ≡ 0 = sym same_answer ∙ e in
      let one : CarriedOut (rules_in xs) (scalars_in s) t u file before after n (scalars_in r) count = record {
        number = a.number ∙ fitted_fit xs s _ f;
        done = a.done;
        refused = λ q. absurd (q e);
      } in
      let other : CarriedOut (rules_in xs) (scalars_in s) t w file before after' m (scalars_in r') count' = record {
        number = b.number ∙ fitted_fit xs s _ f;
        done = b.done;
        refused = λ q. absurd (q k);
      } in
      let same = carried_out_fixed one other in (
        same.0,
        (
          scalars_fixed r r' (omega (arith, room, size_r)) (omega (arith, room, size_r')) same.1.0
              (a.past ∙ sym b.past),
          same.1.1,
        ),
      )

  -- no two outcomes of one list of calls
  pub exported_carried_fixed : Same
  exported_carried_fixed = go (eqb n 0) refl
    where
      go : (f : Bool) → eqb n 0 ≡ f → Same
      go true e = carried_done_fixed (eqb-true n 0 e)
      go false e =
          let h = eqb-false n 0 e in
          let p = a.refused h in
          let q = b.refused (λ k. h (same_answer ∙ k)) in (
            same_answer,
            (
              p.0 ∙ sym q.0,
              (p.1.0 ∙ sym q.1.0, (p.1.1.0 ∙ sym q.1.1.0, p.1.1.1 ∙ sym q.1.1.1)),
            ),
          )
