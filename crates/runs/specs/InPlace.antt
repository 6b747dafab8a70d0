-- Calls carried out one after another in the same buffers. What is known of each is its own promise, `Called`, and
-- that the buffers keep their lengths; a list of such promises leaves no second outcome.
use Rattle.std.specs.Prelude.{◌≡◌, refl, List, [], ◌∷◌, map, ℕ}
use Rattle.std.proofs.Common.{sym, ap, ◌∙◌}
use Rattle.rules.specs.Types.{Settings}
use Rattle.rules.specs.Calls.{Operation, Call, run}
use Rattle.primitives.specs.declared.Scalars.{Scalars}
use Rattle.records.specs.Books.{Tables, books_of, room_of, call_on, Called}
use Rattle.records.specs.Fixed.{SameSizes, called_fixed}
use Rattle.carried.specs.Carried as carried
use Rattle.carried.specs.Carried.{Carried, Demand3Carried}
use Rattle.carried.proofs.Carried.{carried_books, demand_3_carried}

-- from the scalars s and the tables t on, the operations os leave the scalars r and the tables u
pub data InPlace (S : Settings) : Scalars → Tables → List Operation → Scalars → Tables → Type 0 where
  none : {s : Scalars} {t : Tables} → InPlace S s t [] s t
  next : {s : Scalars} {t : Tables} {op : Operation} {n : ℕ} {s₁ : Scalars} {t₁ : Tables} → Called S op s t t₁ n s₁
      → SameSizes t₁ t → {os : List Operation} {r : Scalars} {u : Tables} → InPlace S s₁ t₁ os r u
      → InPlace S s t (op ∷ os) r u

-- the calls that operations are in these tables
abbrev pub calls_on : Tables → List Operation → List Call
calls_on t os = map (call_on t) os

-- ---- lengths

pub sizes_none : (t : Tables) → SameSizes t t
sizes_none t = record {
  identities = refl;
  validators = refl;
  deposits = refl;
  partials = refl;
  consolidations = refl;
}

pub sizes_then : {t u w : Tables} → SameSizes w u → SameSizes u t → SameSizes w t
sizes_then f g = record {
  identities = f.identities ∙ g.identities;
  validators = f.validators ∙ g.validators;
  deposits = f.deposits ∙ g.deposits;
  partials = f.partials ∙ g.partials;
  consolidations = f.consolidations ∙ g.consolidations;
}

pub sizes_back : {t u : Tables} → SameSizes u t → SameSizes t u
sizes_back f = record {
  identities = sym f.identities;
  validators = sym f.validators;
  deposits = sym f.deposits;
  partials = sym f.partials;
  consolidations = sym f.consolidations;
}

pub same_room : {t u : Tables} → SameSizes u t → room_of u ≡ room_of t
same_room f = rw (f.identities, f.validators, f.deposits, f.partials, f.consolidations)

pub same_calls : {t u : Tables} (os : List Operation) → SameSizes u t → calls_on u os ≡ calls_on t os
same_calls os f = ap (λ r. map (λ op. record { room = r; operation = op }) os) (same_room f)

-- ---- demand 3

-- such calls are public calls carried out, with some answers
pub record AsCarried (S : Settings) (s : Scalars) (t : Tables) (cs : List Call) (r : Scalars) (u : Tables) : Type 0
  where
    pub numbers : List ℕ
    pub chain : Carried S s t cs numbers r u

pub in_place_carried : {S : Settings} {s r : Scalars} {t u : Tables} {os : List Operation}
    → InPlace S s t os r u → AsCarried S s t (calls_on t os) r u
in_place_carried none = record { numbers = []; chain = carried.none }
in_place_carried {S} (next {s} {t} {op} {n} {s₁} {t₁} c z {os} {r} {u} more) =
    let rest : AsCarried S s₁ t₁ (calls_on t os) r u = rw (← same_calls os z) (in_place_carried more) in
    record { numbers = n ∷ rest.numbers; chain = carried.next c s₁ t₁ refl rest.chain }

pub in_place_books : {S : Settings} {s r : Scalars} {t u : Tables} {os : List Operation}
    → InPlace S s t os r u → books_of r u ≡ run S (books_of s t) (calls_on t os)
in_place_books c = carried_books (in_place_carried c).chain

pub in_place_demand_3 : {S : Settings} {s r : Scalars} {t u : Tables} {os : List Operation}
    → InPlace S s t os r u → Demand3Carried S (books_of s t) (calls_on t os) (books_of r u)
in_place_demand_3 c = demand_3_carried (in_place_carried c).chain

-- ---- no two outcomes

pub in_place_fixed : {S : Settings} {s : Scalars} {t : Tables} {os : List Operation} {r q : Scalars} {u w : Tables}
    → InPlace S s t os r u → InPlace S s t os q w → (r ≡ q) × (u ≡ w)
in_place_fixed none none = (refl, refl)
in_place_fixed {S} (next {s₁ = s₁} {t₁} c z {os} {r} {u} more) (next d y {r = q} {u = w} others) =
    let same = called_fixed (sizes_then z (sizes_back y)) c d in
    let others' : InPlace S s₁ t₁ os q w = rw (same.1, same.2) others in
    in_place_fixed more others'
