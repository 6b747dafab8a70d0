-- The table printed: its header and its lines, stored one behind the other.
use Rattle.std.specs.Prelude.{◌≡◌, List, ◌++◌, ℕ, ◌+◌, ◌*◌, ◌≤◌, length}
use Rattle.std.proofs.Math.Path.{refl}
use Rattle.std.proofs.Common.{arith, length-append}
use Rattle.std.proofs.Math.Seq.{sets}
use Rattle.tables.specs.Rows.{length_rows}
use Rattle.table_text.specs.Lines.{line_at, lines_of}
use Rattle.table_text.specs.Text.{ascii, text_lines, table_text, Printed}
use Rattle.table_text.specs.Laws.{stored_behind, length_text_lines, printed}

pub table_printed : (ws : List ℕ) (n : ℕ) (o : List ℕ) {o₁ o₂ : List ℕ} → 23 + 32 * n ≤ length o
    → o₁ ≡ sets o 0 (ascii "call code answer total\n") → o₂ ≡ sets o₁ 23 (text_lines 1 (lines_of ws n))
    → Printed (table_text (lines_of ws n)) o o₂ (23 + 32 * n)
unfolding table_text
table_printed ws n o h p q =
    let header = ascii "call code answer total\n" in
    let lines = text_lines 1 (lines_of ws n) in
    let long : length lines ≡ 32 * n =
    omega (arith, length_text_lines 1 (lines_of ws n), length_rows n (line_at ws)) in
    let size : 23 + 32 * n ≡ length (header ++ lines) = omega (arith, length-append header lines, long) in
    printed (header ++ lines) o (omega (arith, size)) (stored_behind o 0 header lines 23 p q refl) size
