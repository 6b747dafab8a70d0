-- What listing the expected withdrawals requires, and that accepted settings and books in buffers that are long enough
-- give it.
use Rattle.std.specs.Prelude.{List, ℕ, ◌≤◌, ◌<◌, ◌^◌}
use Rattle.std.proofs.Common.{arith}
use Rattle.std.proofs.Math.ListN.{length}
use borrow.Author.Tests.{ltb-true}
use Rattle.lists.specs.Laws.{every_at}
use Rattle.tables.specs.Rows.{get_d_rows}
use Rattle.rules.specs.Types as rule
use Rattle.rules.specs.Helpers.{count}
use Rattle.rules.specs.Acceptance.{partial_in}
use Rattle.rule_laws.specs.Accepted.{SoundSettings, SoundBooks}
use Rattle.primitives.specs.declared.Settings.{Settings}
use Rattle.primitives.specs.declared.Scalars.{Scalars}
use Rattle.primitives.specs.Settings.{settings_of}
use Rattle.records.specs.Layout.{partial_at, identities_fit, validators_fit, partials_fit}
use Rattle.records.specs.Books.{Tables, books_of}
use Rattle.records.specs.Reading.{EnoughRoom, validators_count, partials_count}

-- the sweep: the validators are there, the list has room, and its indices stay within 64 bits
pub record SweepReady (settings : Settings) (s : Scalars) (ids vs : List ℕ) : Type 0 where
  pub identities : s.validators ≤ identities_fit ids
  pub validators : s.validators ≤ validators_fit vs
  pub cursor : s.next_withdrawal_validator_index.0 < s.validators
  pub payload : settings.max_withdrawals_per_payload ≤ 16
  pub index : s.next_withdrawal_index.0 ≤ 2 ^ 62

-- and the walk over the waiting partial withdrawals
pub record Ready (settings : Settings) (s : Scalars) (ids vs ps : List ℕ) : Type 0 where
  pub sweep : SweepReady settings s ids vs
  pub partials : s.partials ≤ partials_fit ps
  pub inside : (j : ℕ) → j < s.partials → (partial_at ps j).index < s.validators
  pub partials_payload :
      settings.max_pending_partials_per_withdrawals_sweep < settings.max_withdrawals_per_payload

module _ (settings : Settings) (s : Scalars) (t : Tables) (σ : SoundSettings (settings_of settings))
    (ρ : EnoughRoom (settings_of settings) t) (β : SoundBooks (settings_of settings) (books_of s t)) where
  sweep_ready : SweepReady settings s t.identities t.validators
  unfolding books_of
  sweep_ready = record {
    identities = omega (arith, β.registry_fits, validators_count s t, ρ.identities);
    validators = omega (arith, β.registry_fits, validators_count s t, ρ.validators);
    cursor = omega (arith, β.cursor_in, validators_count s t);
    payload = σ.payload_sixteen;
    index = β.index_small;
  }

  partial_inside : (j : ℕ) → j < s.partials → (partial_at t.partials j).index < s.validators
  unfolding books_of
  partial_inside j h =
      let b = books_of s t in
      let none : rule.PendingPartialWithdrawal = record { index = 0; amount = 0; withdrawable_epoch = 0 } in
      let k : j < length b.pending_partial_withdrawals = omega (arith, h, partials_count s t) in
      let read = get_d_rows s.partials (partial_at t.partials) j none h in
      let entries = b.pending_partial_withdrawals in
      let test = rw read at (every_at (partial_in (count b)) j entries none k β.partials_in) in
      omega (arith, ltb-true (partial_at t.partials j).index (count b) test, validators_count s t)

  pub ready : Ready settings s t.identities t.validators t.partials
  ready = record {
    sweep = sweep_ready;
    partials = omega (arith, β.partials_fit, partials_count s t, ρ.partials);
    inside = partial_inside;
    partials_payload = σ.partials_payload;
  }
