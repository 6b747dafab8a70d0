-- What a request comes to where the queue has room for it.
use mathlib.Core.Path.{◌≡◌, sym, ap, ◌∙◌}
use mathlib.Core.Bool.{false, not, ◌&&◌}
use mathlib.Core.List.{List}
use Prim.Native.Nat.{ℕ, ◌<◌}
use native.Mathlib.Omega.{arith}
use borrow.Author.Tests.{lt-ltb, le-ltb}
use lib.Dec.{eqb}
use Rattle.lists.specs.Base.{when◌then◌else◌}
use Rattle.rules.specs.Types.{Settings, Validator, Books}
use Rattle.rules.specs.Helpers.{position}
use Rattle.rules.specs.BlockProcessing.{request_partial_withdrawal, process_execution_layer_withdrawal_request}
use Rattle.primitives.specs.declared.Scalars.{Scalars}
use Rattle.records.specs.Layout.{validator_at}
use Rattle.records.specs.Books.{Tables, books_of}
use Rattle.records.specs.Reading.{validator_read}
use Rattle.call_answers.specs.Tests.{fails, passes}
use Rattle.request_operations.specs.Requests.{may_request, request_full_exit, request_read}

module _ (S : Settings) (s : Scalars) (t : Tables) (source_address public_key : List ℕ) (amount : ℕ)
    (room : (eqb s.partials S.pending_partial_withdrawals_limit && not (eqb amount 0)) ≡ false) where
  -- no validator has the key
  pub key_unknown : s.validators ≡ position public_key (books_of s t).validators
      → books_of s t ≡ process_execution_layer_withdrawal_request S source_address public_key amount (books_of s t)
  key_unknown none =
      request_read S s t source_address public_key amount s.validators none
      (passes _ _ room (fails _ _ (ap not (le-ltb s.validators s.validators (omega arith)))))

  -- validator i has it, and was read as v
  pub key_known : (i : ℕ) → i ≡ position public_key (books_of s t).validators → i < s.validators
      → (v : Validator) → v ≡ validator_at t.identities t.validators i
      → {x : Books}
      → x ≡ (when not (may_request S s.epoch.0 v source_address) then books_of s t
      else when eqb amount 0 then request_full_exit S i (books_of s t)
      else request_partial_withdrawal S i amount (books_of s t))
      → x ≡ process_execution_layer_withdrawal_request S source_address public_key amount (books_of s t)
  key_known i found known v read e =
      request_read S s t source_address public_key amount i found
      (passes _ _ room
      (passes _ _ (ap not (lt-ltb i s.validators known)) (rw (validator_read s t i known ∙ sym read) e)))
