-- What a run that was refused leaves: the scalars that it was handed, and no call carried out.
use Rattle.std.specs.Prelude.{ℕ, Result, Ok, Err}
use Rattle.primitives.specs.declared.Scalars.{Scalars}
use Rattle.primitives.specs.declared.answers.Refusal.{Refusal}
use Rattle.runs.specs.declared.Carried.{Carried}

abbrev pub scalars_left : Scalars → Result Carried Refusal → Scalars
scalars_left s (Ok c) = c.scalars
scalars_left s (Err _) = s

abbrev pub calls_done : Result Carried Refusal → ℕ
calls_done (Ok c) = c.count
calls_done (Err _) = 0
