-- What readers and writers of the two files answer.
use Rattle.std.specs.Prelude.{not, List, [], ◌∷◌, ◌++◌, ℕ, length, drop, ltb, eqb}
use Rattle.std.proofs.Math.Option.{Option, some, none}
use Rattle.lists.specs.Base.{when◌then◌else◌}
use Rattle.rules.specs.Types.{Settings, Books}
use Rattle.rules.specs.Calls.{Operation, Room, handed_refusal}
use Rattle.file_format.specs.Calls.{calls_writable}
use Rattle.file_format.specs.File.{write_books, read_books, write_calls, read_calls}

-- ---- the books file

abbrev pub opened_answer : Room → Option (Settings × Books) → ℕ
opened_answer r none = 60
opened_answer r (some p) = handed_refusal p.0 p.1 r

-- a reader into buffers with this room: 60 over the whole file, then 1, 3, 2
unfoldable pub read_answer : Room → List ℕ → ℕ
read_answer r bs = opened_answer r (read_books bs)

-- a writer into a buffer of `space` bytes: 1, 3, 2, then 61
unfoldable pub write_answer : Settings → Books → Room → (space : ℕ) → ℕ
write_answer S b r space =
    let handed = handed_refusal S b r in
    let short = ltb space (length (write_books S b)) in
    when not (eqb handed 0) then handed
    else when short then 61
    else 0

-- ---- a buffer that begins with these bytes; the bytes past them are as they were

abbrev pub over : (bs out : List ℕ) → List ℕ
over bs out = bs ++ drop (length bs) out

-- ---- a call added to a calls file

-- the calls that the file holds, then o
abbrev pub one_more : List Operation → Operation → List Operation
one_more os o = os ++ (o ∷ [])

abbrev pub added_answer : (space : ℕ) → Operation → Option (List Operation) → ℕ
added_answer space o none = 60
added_answer space o (some os) =
    let short = ltb space (length (write_calls (one_more os o))) in
    when not (calls_writable (one_more os o)) then 60
    else when short then 61
    else 0

-- a writer that adds the call o to the calls file bs, in a buffer of `space` bytes: 60 where bs is no calls file, or no
-- calls file holds one call more; then 61
unfoldable pub add_answer : (bs : List ℕ) → (space : ℕ) → Operation → ℕ
add_answer bs space o = added_answer space o (read_calls bs)
