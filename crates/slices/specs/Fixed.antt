-- An exported call's promise fixes its number, every number of the scalars' slice, every byte and word of the tables.
use Rattle.std.specs.Prelude.{◌≡◌, Bool, List, ◌++◌, ℕ, ◌≤◌, drop}
use Rattle.std.proofs.Math.Path.{refl, sym}
use Rattle.std.proofs.Common.{ap₂, ◌∙◌, arith}
use Rattle.std.proofs.Math.Bool.{true, false}
use Rattle.std.proofs.Math.ListN.{length}
use borrow.Author.Tests.{leb-true}
use Rattle.lists.specs.Base.{all}
use Rattle.lists.specs.Laws.{both}
use Rattle.rules.specs.Calls.{Operation}
use Rattle.records.specs.Books.{Tables}
use Rattle.records.specs.Fixed.{SameSizes, called_fixed}
use Rattle.slices.specs.Numbers.{scalars_in, scalar_numbers, stored_same}
use Rattle.slices.specs.Exported.{rules_in, fit, Exported, unfit_refused}

-- slices with the same scalars and the same numbers past them
pub scalars_fixed : (r q : List ℕ) → 13 ≤ length r → 13 ≤ length q → scalars_in r ≡ scalars_in q → drop 13 r ≡ drop 13 q
    → r ≡ q
scalars_fixed r q h k e p =
    sym (stored_same r h) ∙ ap₂ (λ s l. scalar_numbers s ++ l) e p ∙ stored_same q k

module _ {xs : List ℕ} {op : Operation} {others : List Bool} {t u w : Tables} {s r q : List ℕ} {n m : ℕ} where
  -- no two outcomes of one call
  pub exported_fixed : SameSizes u w → length r ≡ length s → length q ≡ length s
      → Exported xs op others t u s r n → Exported xs op others t w s q m → (n ≡ m) × (r ≡ q) × (u ≡ w)
  unfolding all
  exported_fixed z h k a b = go (fit s others) refl
    where
      go : (f : Bool) → fit s others ≡ f → (n ≡ m) × (r ≡ q) × (u ≡ w)
      go true f =
          let o = called_fixed z (a.called f) (b.called f) in
          let room : 13 ≤ length s = leb-true 13 (length s) (both _ _ f).0 in (
            o.0,
            scalars_fixed r q (omega (arith, room, h)) (omega (arith, room, k)) o.1 (a.past ∙ sym b.past),
            o.2,
          )
      go false f =
          let x = a.refused (λ e. unfit_refused (rules_in xs) (sym (a.unfit f) ∙ e)) in
          let y = b.refused (λ e. unfit_refused (rules_in xs) (sym (b.unfit f) ∙ e)) in
          (a.unfit f ∙ sym (b.unfit f), x.0 ∙ sym y.0, x.1 ∙ sym y.1)
