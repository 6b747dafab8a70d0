-- What demand 3 of the exported functions speaks of. A list of calls by slices, each handed the books that the last one
-- left, in the same slices or in others; where the slices do not have their lengths, they may hold anything. What is
-- known of each call is its own promise, `Exported`, and nothing else.
use Rattle.std.specs.Prelude.{◌≡◌, Bool, true, false, List, [], ◌∷◌, ℕ}
use Rattle.rules.specs.Types.{Settings, Books}
use Rattle.rules.specs.Calls.{Operation, Call, answer, after}
use Rattle.records.specs.Books.{Tables, books_of, call_on}
use Rattle.slices.specs.Numbers.{scalars_in}
use Rattle.slices.specs.Exported.{Exported, rules_in, fit, unfit_answer}

-- what a call is handed: a call of the rules where its slices have their lengths
pub data SliceCall : Type 0 where
  fitting : Call → SliceCall
  unfit : SliceCall

-- one whose slices do not fit is refused, and counts nothing
abbrev pub rule_calls : List SliceCall → List Call
rule_calls [] = []
rule_calls (fitting c ∷ cs) = c ∷ rule_calls cs
rule_calls (unfit ∷ cs) = rule_calls cs

abbrev pub slice_answers : Settings → Books → List SliceCall → List ℕ
slice_answers S b [] = []
slice_answers S b (fitting c ∷ cs) = answer S b c ∷ slice_answers S (after S b c) cs
slice_answers S b (unfit ∷ cs) = unfit_answer S ∷ slice_answers S b cs

-- the calls cs are made with the settings in xs from the books b on, answer the numbers ns, and leave the books e
pub data ExportedRun (xs : List ℕ) : Books → List SliceCall → List ℕ → Books → Type 0 where
  none : {b : Books} → ExportedRun xs b [] [] b
  next_fitting : {op : Operation} {others : List Bool} {t u : Tables} {s r : List ℕ} {n : ℕ}
      → Exported xs op others t u s r n → fit s others ≡ true
      → {cs : List SliceCall} {ns : List ℕ} {e : Books} → ExportedRun xs (books_of (scalars_in r) u) cs ns e
      → (b : Books) → books_of (scalars_in s) t ≡ b → ExportedRun xs b (fitting (call_on t op) ∷ cs) (n ∷ ns) e
  next_unfit : {op : Operation} {others : List Bool} {t u : Tables} {s r : List ℕ} {n : ℕ}
      → Exported xs op others t u s r n → fit s others ≡ false
      → {b : Books} {cs : List SliceCall} {ns : List ℕ} {e : Books} → ExportedRun xs b cs ns e
      → ExportedRun xs b (unfit ∷ cs) (n ∷ ns) e
