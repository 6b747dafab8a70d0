-- Demand 3 holds of the code: what the calls promise gives the answers and the books of the definitions.
use Rattle.std.specs.Prelude.{◌≡◌, refl, List, ◌∷◌, ℕ}
use Rattle.std.proofs.Common.{ap, ap₂, ◌∙◌}
use Rattle.rules.specs.Types.{Settings}
use Rattle.rules.specs.Calls.{Operation, Call, answers, run}
use Rattle.conservation.proofs.Demand3.{demand_3}
use Rattle.primitives.specs.declared.Scalars.{Scalars}
use Rattle.records.specs.Books.{Tables, books_of}
use Rattle.carried.specs.Carried.{Carried, none, next, Demand3Carried}

-- the answers and the books reached are those of the definitions
pub carried_answers : {S : Settings} {s r : Scalars} {t u : Tables} {cs : List Call} {ns : List ℕ}
    → Carried S s t cs ns r u → ns ≡ answers S (books_of s t) cs
carried_answers none = refl
carried_answers {S} (next {s} {t} {op} {n} c s₂ t₂ e {cs} {ns} more) =
    ap₂ ◌∷◌ c.number (carried_answers more ∙ ap (λ b. answers S b cs) (e ∙ c.books))

pub carried_books : {S : Settings} {s r : Scalars} {t u : Tables} {cs : List Call} {ns : List ℕ}
    → Carried S s t cs ns r u → books_of r u ≡ run S (books_of s t) cs
carried_books none = refl
carried_books {S} (next {s} {t} {op} {n} c s₂ t₂ e {cs} {ns} more) =
    carried_books more ∙ ap (λ b. run S b cs) (e ∙ c.books)

pub demand_3_carried : {S : Settings} {s r : Scalars} {t u : Tables} {cs : List Call} {ns : List ℕ}
    → Carried S s t cs ns r u → Demand3Carried S (books_of s t) cs (books_of r u)
demand_3_carried {S} {s} {t = t} {cs = cs} c =
    let d = demand_3 S (books_of s t) cs in
    rw (carried_books c) (record { sums = d.sums; order = d.order; spent = d.spent })
