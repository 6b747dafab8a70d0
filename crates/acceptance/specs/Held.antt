-- What books hold: as the tests find it, and what `held` needs.
use Rattle.std.specs.Prelude.{◌≡◌, ℕ, ◌+◌, ◌≤◌, true, false, List, refl, Option, Some, None}
use Rattle.std.proofs.Common.{ap, ap₂, sym, ◌∙◌, arith}
use Rattle.lists.specs.Base.{when◌then◌else◌, total}
use Rattle.lists.specs.Laws.{if_true, if_false}
use Rattle.tables.specs.Rows.{rows}
use Rattle.tables.specs.Totals.{total_ext}
use Rattle.rules.specs.Types.{BOUND, Settings, Books}
use Rattle.rules.specs.Acceptance.{sound_books, held}
use Rattle.rule_laws.specs.Accepted.{SoundBooks}
use Rattle.primitives.specs.declared.Gwei.{Gwei}
use Rattle.primitives.specs.declared.Scalars.{Scalars}
use Rattle.records.specs.Layout.{validator_at, deposit_at, balance_at, validators_fit, deposits_fit}
use Rattle.records.specs.Books.{Tables, books_of}
use Rattle.records.specs.Reading.{EnoughRoom, validators_count, deposits_count}

-- sound books give what they hold, and unsound ones none
unfoldable pub held_if_sound : Settings → Books → Option Gwei
held_if_sound S b = when sound_books S b then Some (record { 0 = held b }) else None

pub none_held : (S : Settings) (b : Books) → false ≡ sound_books S b → None ≡ held_if_sound S b
unfolding held_if_sound
none_held S b e = sym (if_false _ _ _ (sym e))

pub some_held : (S : Settings) (b : Books) {x : Gwei} → true ≡ sound_books S b → x.0 ≡ held b
    → Some x ≡ held_if_sound S b
unfolding held_if_sound
some_held S b e h = ap (λ (k : ℕ). Some (record { 0 = k })) h ∙ sym (if_true _ _ _ (sym e))

-- the first n balances of a table
abbrev pub balances_in : ℕ → List ℕ → ℕ
balances_in n vs = total (λ x. x) (rows n (balance_at vs))

-- the amounts of the first n deposits of a table
abbrev pub amounts_in : ℕ → List ℕ → ℕ
amounts_in n ds = total (λ d. d.amount) (rows n (deposit_at ds))

pub record HeldReady (s : Scalars) (validators deposits : List ℕ) : Type 0 where
  pub validators_fit : s.validators ≤ validators_fit validators
  pub deposits_fit : s.deposits ≤ deposits_fit deposits
  pub small : balances_in s.validators validators + amounts_in s.deposits deposits ≤ BOUND

-- the other tables do not matter
pub held_form : (s : Scalars) (t : Tables)
    → held (books_of s t) ≡ balances_in s.validators t.validators + amounts_in s.deposits t.deposits
unfolding books_of
held_form s t =
    ap₂ ◌+◌
    (total_ext (λ v. v.balance) (λ x. x) s.validators (validator_at t.identities t.validators)
    (balance_at t.validators) (λ i h. refl))
    refl

pub held_ready : (S : Settings) (s : Scalars) (t : Tables) → EnoughRoom S t → SoundBooks S (books_of s t)
    → HeldReady s t.validators t.deposits
held_ready S s t r k = record {
  validators_fit = omega (arith, r.validators, k.registry_fits, validators_count s t);
  deposits_fit = omega (arith, r.deposits, k.deposits_fit, deposits_count s t);
  small = omega (arith, k.held_small, held_form s t);
}
