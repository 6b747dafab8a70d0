-- What carrying out a calls file promises, exported.
use Rattle.std.specs.Prelude.{◌≡◌, refl, Bool, true, false, not, List, [], ℕ, length, drop}
use Rattle.std.proofs.Common.{sym, ◌∙◌}
use Rattle.std.proofs.Math.Option.{some}
use Rattle.rules.specs.Calls.{Operation}
use Rattle.primitives.specs.declared.Settings.{Settings}
use Rattle.primitives.specs.declared.Scalars.{Scalars}
use Rattle.primitives.specs.Settings.{settings_of}
use Rattle.records.specs.Books.{Tables, books_of, room_of}
use Rattle.file_format.specs.File.{read_calls}
use Rattle.runs.specs.Promise.{carry_out_answer, Done, CarriedOut}
use Rattle.slices.specs.Numbers.{settings_in, scalars_in, with_scalars}
use Rattle.slices.specs.Exported.{rules_in, fit, fit_true, fit_false, unfit_answer, unfit_refused}
use Rattle.file_slices.specs.Fitted.{fitted, fitted_fit, fitted_unfit}

-- Settings in xs; scalars in s at entry and in r at exit; tables t and u; results `before` and `after`; the number lent
-- for the count held `old` and holds `count`. On 0 the calls of the file are carried out; a refusal changes nothing.
pub record ExportedCarried (xs s r : List ℕ) (t u : Tables) (file before after : List ℕ) (n old count : ℕ) : Type 0
  where
    pub number : n
        ≡ fitted xs s (carry_out_answer (rules_in xs) (books_of (scalars_in s) t) (room_of t) file (length before))
    pub done : (os : List Operation) → n ≡ 0 → read_calls file ≡ some os
        → Done (rules_in xs) (scalars_in s) t u os before after (scalars_in r) count
    pub past : drop 13 r ≡ drop 13 s
    pub refused : (n ≡ 0 → ⊥) → (r ≡ s) × ((u ≡ t) × ((after ≡ before) × (count ≡ old)))

-- ---- laws: f is the computed test of the scalars' length

module _ (xs s : List ℕ) {t : Tables} {file before : List ℕ} {n : ℕ} {f : Bool} {settings : Settings}
    (c : settings ≡ settings_in xs) (e : f ≡ fit s []) where
  pub carried_unfit : {old : ℕ} → not f ≡ true → n ≡ unfit_answer (settings_of settings)
      → ExportedCarried xs s s t t file before before n old old
  carried_unfit z a =
      let unfit : n ≡ unfit_answer (rules_in xs) = rw c at a in
      record {
        number = unfit ∙ sym (fitted_unfit xs s _ (fit_false e z));
        done = λ os q _. absurd (unfit_refused (rules_in xs) (sym unfit ∙ q));
        past = refl;
        refused = λ _. (refl, (refl, (refl, refl)));
      }

  module _ {u : Tables} {after : List ℕ} {scalars left : Scalars} {count : ℕ} (z : not f ≡ false)
      (b : scalars ≡ scalars_in s)
      (w : CarriedOut (settings_of settings) scalars t u file before after n left count) where
    promised : CarriedOut (rules_in xs) (scalars_in s) t u file before after n left count
    promised = rw (c, b) at w

    answered : n
        ≡ fitted xs s (carry_out_answer (rules_in xs) (books_of (scalars_in s) t) (room_of t) file (length before))
    answered = promised.number ∙ sym (fitted_fit xs s _ (fit_true e z))

    pub carried_refused : {old : ℕ} → (n ≡ 0 → ⊥) → ExportedCarried xs s s t u file before after n old old
    carried_refused h =
        let q = promised.refused h in
        record {
          number = answered;
          done = λ os d _. absurd (h d);
          past = refl;
          refused = λ _. (refl, (q.1.0, (q.1.1.0, refl)));
        }

    pub carried_done : {old : ℕ} {r : List ℕ} → n ≡ 0 → r ≡ with_scalars s left
        → ExportedCarried xs s r t u file before after n old count
    carried_done h v =
        rw v
        (record {
          number = answered;
          done = promised.done;
          past = refl;
          refused = λ q. absurd (q h);
        })
