-- Words written from word k of a lent buffer on.
use Rattle.std.specs.Prelude.{List, ◌++◌, ℕ, ◌+◌, ◌*◌, length, take, drop}
use Rattle.file_format.specs.Words.{bytes}

-- the buffer with the words ws from word k on
unfoldable pub put : List ℕ → ℕ → List ℕ → List ℕ
put out k ws = take (k * 4) out ++ (bytes ws ++ drop (k * 4 + length ws * 4) out)
