-- The scope text's example: a turn, then twice an exit, with the numbers of its lines.
use Rattle.std.specs.Prelude.{◌≡◌, refl, true, [], ◌∷◌}
use Rattle.rules.specs.Calls.{turn, voluntary_exit}
use Rattle.rules.specs.Examples.{mainnet, call, opened}
use Rattle.file_format.specs.Example.{opening}
use Rattle.table_text.specs.Lines.{lines_words}
use Rattle.runs.specs.Lines.{lines}

pub example_lines :
    lines_words (lines mainnet opening
    (call turn ∷ call (voluntary_exit 0 1000 true) ∷ call (voluntary_exit 0 1000 true) ∷ []))
    ≡ 7 ∷ 0 ∷ 41_000_000_000
    ∷ 4 ∷ 0 ∷ 41_000_000_000
    ∷ 4 ∷ 12 ∷ 41_000_000_000
    ∷ []
unfolding opened
example_lines = refl
