-- What a writer of a calls file promises. A lent buffer begins with a complete calls file; a call is added at its end.
use Rattle.std.specs.Prelude.{◌≡◌, List, [], ℕ, length, take, ltb}
use Rattle.std.proofs.Math.Option.{some}
use Rattle.lists.specs.Base.{when◌then◌else◌}
use Rattle.rules.specs.Calls.{Operation}
use Rattle.file_format.specs.File.{write_calls, read_calls}
use Rattle.file_format.specs.Answers.{add_answer, one_more, over}

-- ---- the file of no calls

unfoldable pub begin_number : (out : List ℕ) → ℕ
begin_number out = when ltb (length out) (length (write_calls [])) then 61 else 0

-- n is the number, l how many bytes of `last` are the file
pub record Begun (out last : List ℕ) (n l : ℕ) : Type 0 where
  pub number : n ≡ begin_number out
  pub done : n ≡ 0 → (last ≡ over (write_calls []) out) × (l ≡ length (write_calls []))
  pub refused : (n ≡ 0 → ⊥) → (last ≡ out) × (l ≡ 0)

-- ---- the call o, added to the file that the first `size` bytes are

-- 60 too where the buffer is shorter than that
unfoldable pub add_number : (out : List ℕ) (size : ℕ) → Operation → ℕ
add_number out size o =
    let added = add_answer (take size out) (length out) o in
    when ltb (length out) size then 60 else added

pub record Added (o : Operation) (size : ℕ) (out last : List ℕ) (n l : ℕ) : Type 0 where
  pub number : n ≡ add_number out size o
  pub done : n ≡ 0 → (os : List Operation) → read_calls (take size out) ≡ some os
      → (last ≡ over (write_calls (one_more os o)) out) × (l ≡ length (write_calls (one_more os o)))
  pub refused : (n ≡ 0 → ⊥) → (last ≡ out) × (l ≡ size)
