-- What the bytes of opening.w and calls.w stand for: settings, books and calls to carry out, or the number of the
-- refusal. A missing file counts as empty.
use Rattle.std.specs.Prelude.{not, List, map, ℕ, ◌^◌, length, ltb, eqb}
use Rattle.std.proofs.Math.Option.{Option, some, none}
use Rattle.lists.specs.Base.{when◌then◌else◌}
use Rattle.rules.specs.Types.{Settings, Books}
use Rattle.rules.specs.Calls.{Operation, Room, Call, handed_refusal}
use Rattle.file_format.specs.File.{read_books, read_calls}

pub data Files : Type 0 where
  refused : (number : ℕ) → Files
  accepted : Settings → Books → List Call → Files

-- the program has buffers for 256 records of each kind
abbrev pub program_room : Room
program_room = record { validators = 256; deposits = 256; partials = 256; consolidations = 256 }

abbrev pub program_calls : List Operation → List Call
program_calls os = map (λ o. record { room = program_room; operation = o }) os

-- a file of more than 65,536 bytes is not read
abbrev pub short_enough : {A : Type 0} → (List ℕ → Option A) → List ℕ → Option A
short_enough read bs = when ltb (2 ^ 16) (length bs) then none else read bs

abbrev pub with_calls : Settings → Books → Option (List Operation) → Files
with_calls S b none = refused 60
with_calls S b (some os) = accepted S b (program_calls os)

-- the opening is judged before the calls are looked at
abbrev pub opened : Option (Settings × Books) → Option (List Operation) → Files
opened none calls = refused 60
opened (some p) calls =
    let refusal = handed_refusal p.0 p.1 program_room in
    when not (eqb refusal 0) then refused refusal else with_calls p.0 p.1 calls

unfoldable pub files : (opening calls : List ℕ) → Files
files opening calls = opened (short_enough read_books opening) (short_enough read_calls calls)
