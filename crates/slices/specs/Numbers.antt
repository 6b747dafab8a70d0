-- Settings and scalars at the front of slices of numbers. A number that is missing reads as 0.
use Rattle.std.specs.Prelude.{◌≡◌, refl, List, ◌++◌, ℕ, ◌≤◌, length, get_or, take, drop}
use Rattle.std.proofs.Common.{ap, sym, ◌∙◌, take-append-drop, get_or-take, length-take-le}
use Rattle.tables.specs.Rows.{rows, rows_ext, rows_getD}
use Rattle.primitives.specs.declared.Settings.{Settings}
use Rattle.primitives.specs.declared.Scalars.{Scalars}
pub use Rattle.primitives.specs.Numbers.{settings_in, setting_numbers, scalars_in, scalar_numbers}

-- xs with the settings s in its first nineteen numbers
abbrev pub with_settings : List ℕ → Settings → List ℕ
with_settings xs s = setting_numbers s ++ drop 19 xs

-- xs with the scalars s in its first thirteen numbers
abbrev pub with_scalars : List ℕ → Scalars → List ℕ
with_scalars xs s = scalar_numbers s ++ drop 13 xs

-- ---- laws

-- settings are read from their first nineteen numbers
pub settings_read : (xs : List ℕ) → settings_in (rows 19 (λ k. get_or xs k 0)) ≡ settings_in xs
unfolding rows
settings_read xs = refl

-- scalars that were stored are read back
pub scalars_stored : (xs : List ℕ) (s : Scalars) → scalars_in (with_scalars xs s) ≡ s
scalars_stored xs s = refl

pub past_stored : (xs : List ℕ) (s : Scalars) → drop 13 (with_scalars xs s) ≡ drop 13 xs
past_stored xs s = refl

-- what was read and is stored again changes nothing
first_numbers : (n : ℕ) (xs : List ℕ) → n ≤ length xs → rows n (λ k. get_or xs k 0) ≡ take n xs
first_numbers n xs h =
    rows_ext n (λ k. get_or xs k 0) (λ k. get_or (take n xs) k 0) (λ k p. sym (get_or-take n xs k 0 p))
    ∙ rows_getD (take n xs) n 0 (length-take-le n xs h)

pub stored_same : (xs : List ℕ) → 13 ≤ length xs → with_scalars xs (scalars_in xs) ≡ xs
unfolding rows
stored_same xs h = ap (λ l. l ++ drop 13 xs) (first_numbers 13 xs h) ∙ take-append-drop 13 xs

pub settings_same : (xs : List ℕ) → 19 ≤ length xs → with_settings xs (settings_in xs) ≡ xs
unfolding rows
settings_same xs h = ap (λ l. l ++ drop 19 xs) (first_numbers 19 xs h) ∙ take-append-drop 19 xs
