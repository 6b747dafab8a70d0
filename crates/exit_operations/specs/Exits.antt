-- A voluntary exit's tests on tables, and the size of an exit's result.
use Rattle.std.specs.Prelude.{◌≡◌, Bool, ℕ, ◌+◌, ◌≤◌, ◌<◌, leb, ltb, eqb}
use Rattle.std.proofs.Math.Path.{refl, sym, ap}
use Rattle.std.proofs.Common.{◌∙◌, arith}
use Rattle.std.proofs.Math.Bool.{true, not}
use borrow.Author.Tests.{ltb-true, eqb-true, lt-ltb, le-ltb, le-leb, lt-leb}
use Rattle.lists.specs.Base.{when◌then◌else◌}
use Rattle.lists.specs.Laws.{passed, not_not}
use Rattle.rules.specs.Types.{FAR, BOUND, Settings, Validator}
use Rattle.rules.specs.Helpers.{at, count, Assignment, is_active_validator, get_pending_balance_to_withdraw}
use Rattle.rules.specs.Helpers.{initiate_validator_exit}
use Rattle.rules.specs.BlockProcessing.{voluntary_exit_refusal}
use Rattle.rules.specs.Calls.{size_refusal}
use Rattle.rule_laws.specs.Accepted.{SoundSettings, SoundBooks}
use Rattle.result_sizes.specs.Size.{size_number}
use Rattle.result_sizes.specs.Block.{exit_size}
use Rattle.primitives.specs.declared.Scalars.{Scalars}
use Rattle.records.specs.Layout.{validator_at, exit_epoch_at}
use Rattle.records.specs.Books.{Tables, books_of}
use Rattle.records.specs.Reading.{validators_count, validator_read}
use Rattle.helpers.specs.Exits.{exit_assignment}
use Rattle.call_answers.specs.Tests.{fails, passes}

-- ---- the tests of a voluntary exit

-- those behind the first, of the validator and of what its partial withdrawals owe it
unfoldable pub exit_tests : Settings → (current_epoch : ℕ) → Validator → (pending epoch : ℕ) → Bool → ℕ
exit_tests S current_epoch v pending epoch valid =
    when not (is_active_validator current_epoch v) then 11
    else when not (eqb v.exit_epoch FAR) then 12
    else when ltb current_epoch epoch then 13
    else when ltb current_epoch (v.activation_epoch + S.shard_committee_period) then 14
    else when not (eqb pending 0) then 15
    else when not valid then 16
    else 0

module _ (S : Settings) (s : Scalars) (t : Tables) (i epoch : ℕ) (valid : Bool) where
  pub exit_unknown : s.validators ≤ i → 10 ≡ voluntary_exit_refusal S (books_of s t) i epoch valid
  unfolding voluntary_exit_refusal
  exit_unknown h = fails _ _ (ap not (le-ltb i (count (books_of s t)) (omega (arith, validators_count s t))))

  by_record : voluntary_exit_refusal S (books_of s t) i epoch valid
      ≡ (when not (ltb i (count (books_of s t))) then 10
      else exit_tests S s.epoch.0 (at (books_of s t).validators i)
      (get_pending_balance_to_withdraw (books_of s t) i)
      epoch valid)
  unfolding voluntary_exit_refusal exit_tests books_of
  by_record = refl

  -- the validator was read as v
  pub exit_known : (v : Validator) (pending : ℕ) → i < s.validators
      → v ≡ validator_at t.identities t.validators i → pending ≡ get_pending_balance_to_withdraw (books_of s t) i
      → {n : ℕ} → n ≡ exit_tests S s.epoch.0 v pending epoch valid
      → n ≡ voluntary_exit_refusal S (books_of s t) i epoch valid
  exit_known v pending h read owed e =
      rw by_record
      (passes _ _ (ap not (lt-ltb i (count (books_of s t)) (omega (arith, validators_count s t))))
      (rw (validator_read s t i h, ← read, ← owed) e))

  -- what a validator that passed them is
  pub exit_allowed : voluntary_exit_refusal S (books_of s t) i epoch valid ≡ 0
      → (i < s.validators) × (exit_epoch_at t.validators i ≡ FAR)
  unfolding voluntary_exit_refusal
  exit_allowed e =
      let v = at (books_of s t).validators i in
      let p = passed (not (ltb i (count (books_of s t)))) (omega arith) e in
      let q = passed (not (is_active_validator (books_of s t).epoch v)) (omega arith) p.1 in
      let r = passed (not (eqb v.exit_epoch FAR)) (omega arith) q.1 in
      let below : i < s.validators =
      omega (arith, validators_count s t, ltb-true i (count (books_of s t)) (not_not _ p.0)) in
      let far : v.exit_epoch ≡ FAR = eqb-true v.exit_epoch FAR (not_not _ r.0) in
      (below, sym (ap (λ (x : Validator). x.exit_epoch) (validator_read s t i below)) ∙ far)

-- ---- the size of an exit's result

module _ (S : Settings) (σ : SoundSettings S) (s : Scalars) (t : Tables) (k : SoundBooks S (books_of s t)) (i : ℕ)
    (known : i < s.validators) (far : exit_epoch_at t.validators i ≡ FAR)
    (a : Assignment) (assigned : a ≡ exit_assignment S i (books_of s t)) where
  number : size_refusal S (initiate_validator_exit S i (books_of s t))
      ≡ size_number true true (leb (a.epoch + S.min_validator_withdrawability_delay) BOUND)
  unfolding exit_assignment
  number =
      exit_size S σ (books_of s t) k i (omega (arith, validators_count s t))
      (ap (λ (x : Validator). x.exit_epoch) (validator_read s t i known) ∙ far)
      ∙ ap
      (λ (x : Assignment). size_number true true (leb (x.epoch + S.min_validator_withdrawability_delay) BOUND))
      (sym assigned)

  pub exit_over : BOUND < a.epoch + S.min_validator_withdrawability_delay
      → 42 ≡ size_refusal S (initiate_validator_exit S i (books_of s t))
  exit_over h = sym (number ∙ ap (size_number true true) (lt-leb _ BOUND h))

  pub exit_within : a.epoch + S.min_validator_withdrawability_delay ≤ BOUND
      → 0 ≡ size_refusal S (initiate_validator_exit S i (books_of s t))
  exit_within h = sym (number ∙ ap (size_number true true) (le-leb _ BOUND h))
