-- What a function is told of an array that is handed to it by value: its bytes are below 256.
use Rattle.std.specs.Prelude.{◌≡◌, refl, true, List, [], ◌∷◌, ℕ}
use Rattle.std.specs.Int.{w8}
use mir.Val.{Val}
use denote.Shadow.{shadow}
use denote.Laws.{Is}
use denote.Plain.{UInt}
use denote.Array.{Array, each}
use Rattle.std.proofs.Common.{lt-ltb}
use Rattle.lists.specs.Base.{every}
use Rattle.lists.specs.Laws.{join}
use Rattle.file_format.specs.Words.{is_byte}

each_byte : (xs : List ℕ) (vs : List Val) → shadow (each ℕ (UInt w8).own_val xs vs) → every is_byte xs ≡ true
each_byte [] vs p = refl
each_byte (x ∷ xs) [] p = absurd p
each_byte (x ∷ xs) (v ∷ vs) p = join (lt-ltb x 256 p.0.1) (each_byte xs vs p.1)

pub array_bytes : (n : ℕ) (xs : List ℕ) (vs : List Val) → Is (Array (UInt w8) n) xs vs → every is_byte xs ≡ true
array_bytes n xs vs p = each_byte xs p.0 p.1.1
