-- What an exported call promises: `Called` of the settings and scalars that its slices hold.
use Rattle.std.specs.Prelude.{◌≡◌, refl, Bool, true, false, not, ◌&&◌, List, [], ◌∷◌, ℕ, suc, ◌≤◌, leb, eqb, length}
use Rattle.std.specs.Prelude.{get_or, drop, Result}
use Rattle.std.proofs.Common.{ap, ◌∙◌, arith, leb-true, eq-eqb, ne_eqb}
use Rattle.std.proofs.Math.Path.{sym}
use Rattle.std.proofs.lemmas.Bool.{false≢true, not-true}
use Rattle.lists.specs.Base.{when◌then◌else◌, all}
use Rattle.lists.specs.Laws.{both, if_true, if_false, by_test, not_not, nth, and_true}
use Rattle.rules.specs.Types as rule
use Rattle.rules.specs.Acceptance.{sound_settings}
use Rattle.rules.specs.Calls.{Operation, handed_refusal}
use Rattle.primitives.specs.Settings.{settings_of}
use Rattle.primitives.specs.declared.Settings.{Settings}
use Rattle.primitives.specs.declared.Scalars.{Scalars}
use Rattle.primitives.specs.declared.answers.Refusal.{Refusal}
use Rattle.primitives.specs.Answers.{answer_number, answer_or}
use Rattle.records.specs.Books.{Tables, Called, books_of, room_of}
use Rattle.slices.specs.Numbers.{settings_in, scalars_in, with_scalars, past_stored, scalars_stored, stored_same}

-- the settings that a slice holds
abbrev pub rules_in : List ℕ → rule.Settings
rules_in xs = settings_of (settings_in xs)

-- the slice s has room for the scalars, and the call's other slices pass their tests
abbrev pub fit : List ℕ → List Bool → Bool
fit s others = all (leb 13 (length s) ∷ others)

-- a slice of a wrong length is a short buffer: 3, after 1 and before 2
unfoldable pub unfit_answer : rule.Settings → ℕ
unfit_answer S = when not (sound_settings S) then 1 else 3

-- settings in xs; scalars in s at entry and in r at exit; tables t at entry and u at exit; the number n
pub record Exported (xs : List ℕ) (op : Operation) (others : List Bool) (t u : Tables) (s r : List ℕ) (n : ℕ)
    : Type 0 where
  pub called : fit s others ≡ true → Called (rules_in xs) op (scalars_in s) t u n (scalars_in r)
  pub unfit : fit s others ≡ false → n ≡ unfit_answer (rules_in xs)
  pub past : drop 13 r ≡ drop 13 s
  pub refused : (n ≡ 0 → ⊥) → (r ≡ s) × (u ≡ t)

-- ---- calls that alter no books

-- their number
unfoldable pub asked_answer : List ℕ → List Bool → Tables → List ℕ → ℕ
asked_answer xs others t s =
    when fit s others then handed_refusal (rules_in xs) (books_of (scalars_in s) t) (room_of t)
    else unfit_answer (rules_in xs)

-- what they leave in a lent result that held `old`: a refusal leaves it as it was
unfoldable pub given : {A : Type 0} → ℕ → A → A → A
given n x old = when eqb n 0 then x else old

-- ---- laws: f is the computed test of the slices' lengths

pub fit_true : {f g : Bool} → f ≡ g → not f ≡ false → g ≡ true
fit_true {f} e n = sym e ∙ not_not f n

pub fit_false : {f g : Bool} → f ≡ g → not f ≡ true → g ≡ false
fit_false {f} e n = sym e ∙ not-true f n

pub fit_two : (a b : Bool) → (a && b) ≡ all (a ∷ b ∷ [])
unfolding all
fit_two true b = sym (and_true b)
fit_two false b = refl

pub fit_three : (a b c : Bool) → ((a && b) && c) ≡ all (a ∷ b ∷ c ∷ [])
unfolding all
fit_three true true c = sym (and_true c)
fit_three true false c = refl
fit_three false b c = refl

-- there is room for the scalars
pub fit_room : {f : Bool} (s : List ℕ) (others : List Bool) → f ≡ fit s others → not f ≡ false → 13 ≤ length s
unfolding all
fit_room s others e n = leb-true 13 (length s) (both _ _ (fit_true e n)).0

-- the other slices pass their tests
pub fit_test : {f : Bool} (s : List ℕ) (others : List Bool) → f ≡ fit s others → not f ≡ false
    → (k : ℕ) → get_or others k true ≡ true
fit_test s others e n k = nth (leb 13 (length s) ∷ others) (fit_true e n) (suc k)

module _ {xs : List ℕ} {op : Operation} {others : List Bool} {t : Tables} {s : List ℕ} {n : ℕ} {f : Bool}
    {settings : Settings} where
  pub exported_unfit : settings ≡ settings_in xs → f ≡ fit s others → not f ≡ true
      → n ≡ unfit_answer (settings_of settings) → Exported xs op others t t s s n
  exported_unfit e g z a = record {
    called = λ h. absurd (false≢true (sym (fit_false g z) ∙ h));
    unfit = λ _. rw e at a;
    past = refl;
    refused = λ _. (refl, refl);
  }

  pub exported_called : {u : Tables} {r : List ℕ} {before after : Scalars}
      → settings ≡ settings_in xs → f ≡ fit s others → not f ≡ false → before ≡ scalars_in s
      → Called (settings_of settings) op before t u n after → r ≡ with_scalars s after
      → Exported xs op others t u s r n
  exported_called {u} {r} {before} {after} e g z b k w = record {
    called = λ _. rw (w, scalars_stored s after) promised;
    unfit = λ h. absurd (false≢true (sym h ∙ fit_true g z));
    past = rw w (past_stored s after);
    refused = λ y.
        let q = promised.refused y in
        (w ∙ ap (with_scalars s) q.0 ∙ stored_same s (fit_room s others g z), q.1);
  }
    where
      promised : Called (rules_in xs) op (scalars_in s) t u n after
      promised = rw (e, b) at k

  -- the scalars of a call that is done are stored
  pub exported_answered : {u : Tables} {r : List ℕ} {before : Scalars} (a : Result Scalars Refusal)
      → settings ≡ settings_in xs → f ≡ fit s others → not f ≡ false → before ≡ scalars_in s
      → Called (settings_of settings) op before t u (answer_number a) (answer_or before a)
      → n ≡ answer_number a → r ≡ with_scalars s (answer_or (scalars_in s) a) → Exported xs op others t u s r n
  exported_answered a e g z b k h w = exported_called e g z b (rw (← h) at k) (rw (← b) at w)

-- by the frame of an exported call: where the slices fit, what the call answered and left; else nothing was called
pub exported_framed : {xs : List ℕ} {op : Operation} {others : List Bool} {t u : Tables} {s r : List ℕ} {n : ℕ}
    {f : Bool}
    → f ≡ fit s others
    → (f ≡ true
    → (a : Result Scalars Refusal)
    × Called (rules_in xs) op (scalars_in s) t u (answer_number a) (answer_or (scalars_in s) a)
    × (n ≡ answer_number a) × (r ≡ with_scalars s (answer_or (scalars_in s) a)))
    → (f ≡ false → (n ≡ unfit_answer (rules_in xs)) × (r ≡ s) × (u ≡ t))
    → Exported xs op others t u s r n
exported_framed {xs} {op} {others} {t} {u} {s} {r} {n} {f} e done kept = go f refl
  where
    go : (g : Bool) → f ≡ g → Exported xs op others t u s r n
    go true h =
        let q = done h in
        exported_answered {settings = settings_in xs} q.0 refl e (ap not h) refl q.1 q.2 q.3
    go false h =
        let q = kept h in
        rw (q.1, q.2) (exported_unfit {settings = settings_in xs} refl e (ap not h) q.0)

-- calls that alter no books
module _ (xs : List ℕ) (others : List Bool) (t : Tables) (s : List ℕ) {n : ℕ} {f : Bool} {settings : Settings} where
  pub asked_unfit : settings ≡ settings_in xs → f ≡ fit s others → not f ≡ true
      → n ≡ unfit_answer (settings_of settings) → n ≡ asked_answer xs others t s
  unfolding asked_answer
  asked_unfit e g z a = (rw e at a) ∙ sym (if_false _ _ _ (fit_false g z))

  pub asked_fit : {before : Scalars} → settings ≡ settings_in xs → f ≡ fit s others → not f ≡ false
      → before ≡ scalars_in s → n ≡ handed_refusal (settings_of settings) (books_of before t) (room_of t)
      → n ≡ asked_answer xs others t s
  unfolding asked_answer
  asked_fit e g z b a = (rw (e, b) at a) ∙ sym (if_true _ _ _ (fit_true g z))

-- the number of a slice of a wrong length
pub sound_unfit : (S : rule.Settings) → sound_settings S ≡ true → 3 ≡ unfit_answer S
unfolding unfit_answer
sound_unfit S e = sym (if_false _ _ _ (ap not e))

pub unsound_unfit : (S : rule.Settings) → sound_settings S ≡ false → 1 ≡ unfit_answer S
unfolding unfit_answer
unsound_unfit S e = sym (if_true _ _ _ (ap not e))

pub unfit_refused : (S : rule.Settings) → unfit_answer S ≡ 0 → ⊥
unfolding unfit_answer
unfit_refused S e = by_test (λ k. k ≡ 0 → ⊥) (not (sound_settings S)) (λ _. omega arith) (λ _. omega arith) e

pub given_refused : {A : Type 0} {n : ℕ} (x : A) {old : A} → (n ≡ 0 → ⊥) → old ≡ given n x old
unfolding given
given_refused {n = n} x z = sym (if_false _ _ _ (ne_eqb n 0 z))

pub given_done : {A : Type 0} {n : ℕ} {x : A} (old : A) → n ≡ 0 → x ≡ given n x old
unfolding given
given_done {n = n} old e = sym (if_true _ _ _ (eq-eqb n 0 e))
