-- What the printed digits stand for, and the lines that a buffer is read as.
use Rattle.std.specs.Prelude.{◌≡◌, refl, List, [], ◌∷◌, ◌++◌, ℕ, zero, suc, ◌+◌, ◌*◌, ◌-◌, ◌/◌, ◌%◌, ◌^◌, ◌<◌}
use Rattle.std.specs.Prelude.{length, get_or}
use Rattle.std.proofs.Common.{ap, ◌∙◌, arith}
use Rattle.tables.specs.Rows.{rows, rows_ext}
use Rattle.table_text.specs.Lines.{Line, line, lines_words, line_at, lines_of}
use Rattle.table_text.specs.Text.{decimal}

-- the number that digits stand for, behind a number v
abbrev pub value : ℕ → List ℕ → ℕ
value v [] = v
value v (d ∷ ds) = value (v * 10 + (d - 48)) ds

value_append : (v : ℕ) (xs ys : List ℕ) → value v (xs ++ ys) ≡ value (value v xs) ys
value_append v [] ys = refl
value_append v (x ∷ xs) ys = value_append (v * 10 + (x - 48)) xs ys

-- the digits of a number that the width holds stand for it
pub decimal_value : (width n : ℕ) → n < 10 ^ width → value 0 (decimal width n) ≡ n
unfolding decimal
decimal_value zero n h = omega (arith, h)
decimal_value (suc w) n h =
    let front = decimal w (n / 10) in
    let e : value 0 front ≡ n / 10 = decimal_value w (n / 10) (omega (arith, h)) in
    value_append 0 front ((48 + n % 10) ∷ []) ∙ omega (arith, e)

-- a buffer that begins with the words of some lines is read as these lines
pub lines_read : (ls : List Line) (ws : List ℕ) → lines_of (lines_words ls ++ ws) (length ls) ≡ ls
unfolding rows
lines_read [] ws = refl
lines_read (l ∷ ls) ws =
    let all = lines_words (l ∷ ls) ++ ws in
    let rest = lines_words ls ++ ws in
    let at : (k m : ℕ) → 3 * suc k + m ≡ suc (suc (suc (3 * k + m))) = λ k m. omega arith in
    let first : (k : ℕ) → 3 * suc k ≡ suc (suc (suc (3 * k))) = λ k. omega arith in
    let same : (k : ℕ) → line_at all (suc k) ≡ line_at rest k =
    λ k j. line (get_or all (first k j) 0) (get_or all (at k 1 j) 0) (get_or all (at k 2 j) 0) in
    ap {B = List Line} (λ ms. l ∷ ms)
    (rows_ext (length ls) (λ k. line_at all (suc k)) (line_at rest) (λ k h. same k) ∙ lines_read ls ws)
