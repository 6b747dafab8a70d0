-- What the payment requires holds of accepted settings and books in buffers that are long enough, where the handed list
-- is the expected one.
use Rattle.std.specs.Prelude.{◌≡◌, true, List, ℕ, ◌^◌, ◌≤◌, ◌<◌, length}
use Rattle.std.proofs.Common.{arith}
use Rattle.lists.specs.Base.{every}
use Rattle.rules.specs.Types as rule
use Rattle.rules.specs.BlockProcessing.{get_expected_withdrawals, same_withdrawals}
use Rattle.rules.specs.Acceptance.{sound_settings, sound_books}
use Rattle.rules.specs.Calls.{enough_room}
use Rattle.rule_laws.specs.Accepted.{SoundSettings, SoundBooks, settings_sound, books_sound}
use Rattle.rule_laws.specs.Withdrawals.{withdrawal_in, expected_in, expected_length}
use Rattle.primitives.specs.declared.Settings.{Settings}
use Rattle.primitives.specs.declared.Scalars.{Scalars}
use Rattle.primitives.specs.Settings.{settings_of}
use Rattle.records.specs.Layout.{validators_fit, partials_fit}
use Rattle.records.specs.Books.{Tables, books_of, room_of}
use Rattle.records.specs.Reading.{EnoughRoom, room, validators_count, partials_count}
use Rattle.expected_withdrawals.specs.declared.Withdrawal.{Withdrawal}
use Rattle.expected_withdrawals.specs.declared.ExpectedWithdrawals.{ExpectedWithdrawals}
use Rattle.expected_withdrawals.specs.Expected.{expected_of, handed_list}
use Rattle.withdrawals.specs.Payment.{index_below}
use Rattle.expected_withdrawals.specs.Handed.{length_handed}
use Rattle.withdrawals.specs.Laws.{same_equal, expected_count, expected_partials}
use Rattle.withdrawals.specs.Laws.{expected_partials_short, expected_index}

-- the comparison needs no more than a sound payload
pub count_small : (S : rule.Settings) (b : rule.Books) {e : ExpectedWithdrawals} → SoundSettings S
    → e ≡ expected_of S b → e.count ≤ 16
count_small S b σ q =
    omega (
      arith,
      expected_count S b q,
      expected_length S b (omega (arith, σ.partials_payload)),
      σ.payload_sixteen,
    )

-- the first n of the list are paid, and `gone` partial withdrawals leave the queue
pub record Ready (settings : Settings) (s : Scalars) (vs ps : List ℕ) (list : List Withdrawal) (n gone : ℕ) : Type 0
  where
    pub count : n ≤ 16
    pub inside : every (withdrawal_in s.validators) (handed_list list n) ≡ true
    pub index : every (index_below (2 ^ 63)) (handed_list list n) ≡ true
    pub validators : s.validators ≤ validators_fit vs
    pub registry : s.validators ≤ 65536
    pub cursor : s.next_withdrawal_validator_index.0 < s.validators
    pub payload : 0 < settings.max_withdrawals_per_payload
    pub sweep : settings.max_validators_per_withdrawals_sweep ≤ 65536
    pub partials : s.partials ≤ partials_fit ps
    pub few : gone ≤ s.partials

module _ (settings : Settings) (s : Scalars) (t : Tables) (list : List Withdrawal) (n : ℕ) {e : ExpectedWithdrawals}
    (σ : SoundSettings (settings_of settings)) (ρ : EnoughRoom (settings_of settings) t)
    (β : SoundBooks (settings_of settings) (books_of s t)) (q : e ≡ expected_of (settings_of settings) (books_of s t))
    (same : same_withdrawals (handed_list list n)
    (get_expected_withdrawals (settings_of settings) (books_of s t)) ≡ true)
  where
    abbrev b : rule.Books
    b = books_of s t

    agreed : handed_list list n ≡ get_expected_withdrawals (settings_of settings) b
    agreed = same_equal (handed_list list n) (get_expected_withdrawals (settings_of settings) b) same

    count_listed : n ≤ 16
    count_listed =
        let l : length (handed_list list n) ≡ length (get_expected_withdrawals (settings_of settings) b) = rw agreed in
        omega (
          arith,
          l,
          length_handed list n,
          expected_length (settings_of settings) b (omega (arith, σ.partials_payload)),
          σ.payload_sixteen,
        )

    inside_listed : every (withdrawal_in s.validators) (handed_list list n) ≡ true
    inside_listed =
        rw agreed (rw (validators_count s t) at (expected_in (settings_of settings) b β.cursor_in β.partials_in))

    index_listed : every (index_below (2 ^ 63)) (handed_list list n) ≡ true
    index_listed =
        rw agreed
        (expected_index (settings_of settings) b (2 ^ 63) (omega (arith, β.index_small))
        (omega (arith, σ.partials_payload, σ.payload_sixteen)) σ.payload_sixteen)

    cursor_listed : s.next_withdrawal_validator_index.0 < s.validators
    unfolding books_of
    cursor_listed = omega (arith, β.cursor_in, validators_count s t)

    pub ready : Ready settings s t.validators t.partials list n e.partials
    ready = record {
      count = count_listed;
      inside = inside_listed;
      index = index_listed;
      validators = omega (arith, β.registry_fits, validators_count s t, ρ.validators);
      registry = omega (arith, β.registry_fits, validators_count s t, σ.registry_limit.most);
      cursor = cursor_listed;
      payload = σ.payload_some;
      sweep = σ.sweep;
      partials = omega (arith, β.partials_fit, partials_count s t, ρ.partials);
      few = omega (
        arith,
        expected_partials (settings_of settings) b q,
        expected_partials_short (settings_of settings) b,
        partials_count s t,
      );
    }

-- the same from the tests
pub ready_by_tests : (settings : Settings) (s : Scalars) (t : Tables) (list : List Withdrawal) (n : ℕ)
    {e : ExpectedWithdrawals} → sound_settings (settings_of settings) ≡ true
    → enough_room (settings_of settings) (room_of t) ≡ true → sound_books (settings_of settings) (books_of s t) ≡ true
    → e ≡ expected_of (settings_of settings) (books_of s t)
    → same_withdrawals (handed_list list n) (get_expected_withdrawals (settings_of settings) (books_of s t)) ≡ true
    → Ready settings s t.validators t.partials list n e.partials
ready_by_tests settings s t list n σ ρ β q same =
    ready settings s t list n
    (settings_sound (settings_of settings) σ) (room (settings_of settings) t ρ)
    (books_sound (settings_of settings) (books_of s t) β) q same
