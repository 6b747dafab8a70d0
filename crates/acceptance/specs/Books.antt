-- What the passes over the tables show, and sound books: the laws of Sound, of the lists that the tables hold.
use Rattle.std.specs.Prelude.{◌≡◌, ℕ, ◌<◌, ◌≤◌, Bool, true, false}
use Rattle.lists.specs.Base.{every}
use Rattle.tables.specs.Rows.{length_rows}
use Rattle.rules.specs.Types.{BOUND, Settings}
use Rattle.rules.specs.Acceptance.{sound_books, held, consolidation_in}
use Rattle.primitives.specs.declared.Scalars.{Scalars}
use Rattle.records.specs.Books.{Tables, books_of, validators_of, deposits_of, partials_of, consolidations_of}
use Rattle.acceptance.specs.Tests.{scalars_within}
use Rattle.acceptance.specs.Sound as lists
use Rattle.acceptance.specs.Sound.{Counted, BalancesSum, HeldSum, PartialsSum}

module _ (S : Settings) (s : Scalars) (t : Tables) where
  counted : Counted s (validators_of s t.identities t.validators) (deposits_of s t.deposits)
      (partials_of s t.partials) (consolidations_of s t.consolidations)
  counted = record {
    validators = length_rows _ _;
    deposits = length_rows _ _;
    partials = length_rows _ _;
    consolidations = length_rows _ _;
  }

  abbrev Balances : ℕ → Type 0
  Balances = BalancesSum S (validators_of s t.identities t.validators)

  abbrev Held : ℕ → ℕ → Type 0
  Held = HeldSum s (deposits_of s t.deposits)

  abbrev Partials : ℕ → Type 0
  Partials = PartialsSum s (partials_of s t.partials)

  pub scalars_refused : scalars_within S s ≡ false → false ≡ sound_books S (books_of s t)
  unfolding books_of
  scalars_refused = lists.scalars_refused S s _ _ _ _ counted

  pub balances_refused : (sum : ℕ) → Balances sum → BOUND < sum → false ≡ sound_books S (books_of s t)
  unfolding books_of
  balances_refused = lists.balances_refused S s _ _ _ _ counted

  pub held_refused : (start sum : ℕ) → Balances start → Held start sum → BOUND < sum
      → false ≡ sound_books S (books_of s t)
  unfolding books_of
  held_refused = lists.held_refused S s _ _ _ _ counted

  pub partials_refused : (sum : ℕ) → Partials sum → BOUND < sum → false ≡ sound_books S (books_of s t)
  unfolding books_of
  partials_refused = lists.partials_refused S s _ _ _ _ counted

  pub held_known : (start sum : ℕ) → Balances start → start ≤ BOUND → Held start sum → sum ≤ BOUND
      → sum ≡ held (books_of s t)
  unfolding books_of
  held_known = lists.held_known S s _ _ _ _ counted

  -- the passes before the last found nothing: the last decides
  pub consolidations_decide : (start sum amounts : ℕ) (last : Bool) → scalars_within S s ≡ true
      → Balances start → start ≤ BOUND → Held start sum → sum ≤ BOUND → Partials amounts → amounts ≤ BOUND
      → last ≡ every (consolidation_in s.validators) (consolidations_of s t.consolidations)
      → last ≡ sound_books S (books_of s t)
  unfolding books_of
  consolidations_decide = lists.consolidations_decide S s _ _ _ _ counted
