-- Demand 3 holds of the exported functions: what the calls promise gives the answers and the books of the definitions.
use Rattle.std.specs.Prelude.{◌≡◌, refl, List, ◌∷◌, ℕ}
use Rattle.std.proofs.Common.{ap, ap₂, ◌∙◌}
use Rattle.rules.specs.Types.{Books}
use Rattle.rules.specs.Calls.{run}
use Rattle.conservation.proofs.Demand3.{demand_3}
use Rattle.records.specs.Books.{call_on}
use Rattle.carried.specs.Carried.{Demand3Carried}
use Rattle.slices.specs.Exported.{rules_in}
use Rattle.exported_calls.specs.Exported.{SliceCall, fitting, rule_calls, slice_answers}
use Rattle.exported_calls.specs.Exported.{ExportedRun, none, next_fitting, next_unfit}

-- the answers and the books reached are those of the definitions
pub run_answers : {xs : List ℕ} {b e : Books} {cs : List SliceCall} {ns : List ℕ}
    → ExportedRun xs b cs ns e → ns ≡ slice_answers (rules_in xs) b cs
run_answers none = refl
run_answers {xs} (next_fitting {op} {others} {t} {u} {s} {r} {n} p h {cs} more b q) =
    let c = p.called h in
    let S = rules_in xs in
    ap₂ ◌∷◌ c.number (run_answers more ∙ ap (λ x. slice_answers S x cs) c.books)
    ∙ ap (λ x. slice_answers S x (fitting (call_on t op) ∷ cs)) q
run_answers (next_unfit p h more) = ap₂ ◌∷◌ (p.unfit h) (run_answers more)

pub run_books : {xs : List ℕ} {b e : Books} {cs : List SliceCall} {ns : List ℕ}
    → ExportedRun xs b cs ns e → e ≡ run (rules_in xs) b (rule_calls cs)
run_books none = refl
run_books {xs} (next_fitting {op} {others} {t} {u} {s} {r} {n} p h {cs} more b q) =
    let S = rules_in xs in
    run_books more
    ∙ ap (λ x. run S x (rule_calls cs)) (p.called h).books
    ∙ ap (λ x. run S x (call_on t op ∷ rule_calls cs)) q
run_books (next_unfit p h more) = run_books more

-- Demand 3: each term is counted from the opening books and the calls alone
pub demand_3_exported : {xs : List ℕ} {b e : Books} {cs : List SliceCall} {ns : List ℕ}
    → ExportedRun xs b cs ns e → Demand3Carried (rules_in xs) b (rule_calls cs) e
demand_3_exported {xs} {b} {cs = cs} r =
    let d = demand_3 (rules_in xs) b (rule_calls cs) in
    rw (run_books r) (record { sums = d.sums; order = d.order; spent = d.spent })
