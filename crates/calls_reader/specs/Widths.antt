-- The fields of each call: how many words they take, and so where the next call begins. us are the words from the
-- call's code on, or from its fields on.
use Rattle.std.specs.Prelude.{◌≡◌, refl, ◌&&◌, List, [], ◌∷◌, ℕ, zero, suc, ◌+◌, ◌*◌, ◌≤◌, ◌<◌, length, get_or, drop}
use Rattle.std.proofs.Math.Path.{sym, ap}
use Rattle.std.proofs.Common.{◌∙◌, arith, drop-drop, length-drop}
use Rattle.std.proofs.Math.Bool.{true}
use Rattle.lists.specs.Laws.{both}
use Rattle.file_format.specs.Words.{payload, is_word}
use Rattle.file_format.specs.Fields.{many}
use Rattle.file_format.specs.Places.{count_at}
use Rattle.file_format.specs.Calls.{signature, amount_fields, receipt_fields, exit_fields, request_fields}
use Rattle.file_format.specs.Calls.{consolidation_fields, withdrawal, withdrawals_fields, call_format, call}
use Rattle.file_format.proofs.FieldsLaws.{impossible, word_only, first_word}
use Rattle.file_format.proofs.AccessLaws.{Fixed, fixed_pair, fixed_number, fixed_flag, fixed_key}
use Rattle.file_format.proofs.AccessLaws.{fixed_credentials, fixed_address, fixed_many}

-- ---- fields that take as many words whatever they hold

fixed_signature : Fixed signature 1
fixed_signature = record { rest = fixed_flag.rest; long = fixed_flag.long }

fixed_amount : Fixed amount_fields 6
fixed_amount = fixed_pair fixed_number fixed_number

fixed_receipt : Fixed receipt_fields 34
fixed_receipt =
    fixed_pair fixed_key
    (fixed_pair fixed_credentials (fixed_pair fixed_number (fixed_pair fixed_number fixed_signature)))

fixed_exit : Fixed exit_fields 7
fixed_exit = fixed_pair fixed_number (fixed_pair fixed_number fixed_signature)

fixed_request : Fixed request_fields 26
fixed_request = fixed_pair fixed_address (fixed_pair fixed_key fixed_number)

fixed_consolidation : Fixed consolidation_fields 10
fixed_consolidation = fixed_pair fixed_number (fixed_pair fixed_number (fixed_pair fixed_number fixed_signature))

pub fixed_withdrawal : Fixed withdrawal 16
unfolding withdrawal
fixed_withdrawal =
    let f = fixed_pair fixed_number (fixed_pair fixed_number (fixed_pair fixed_address fixed_number)) in
    record { rest = f.rest; long = f.long }

-- ---- the words of the fields behind a code

unfoldable pub fields_width : (code : ℕ) → List ℕ → ℕ
fields_width code us = get_or (0 ∷ 6 ∷ 6 ∷ 34 ∷ 7 ∷ 26 ∷ 10 ∷ 0 ∷ (1 + count_at us 0 * 16) ∷ []) code 0

-- the longest call is a list of 16 withdrawals
abbrev pub longest : ℕ
longest = 258

-- a list of withdrawals that is judged good
pub withdrawals_most : (us : List ℕ) → withdrawals_fields.ok us ≡ true → count_at us 0 < 17
withdrawals_most us e =
    let count_ok = is_word 2 17 (get_or us 0 0) in
    (word_only 2 17 (get_or us 0 0) (both count_ok _ e).0).0

fields_rest : (code : ℕ) (us : List ℕ) → (call_format code).rest us ≡ drop (fields_width code us) us
unfolding fields_width
fields_rest zero us = refl
fields_rest (suc zero) us = fixed_amount.rest us
fields_rest (suc (suc zero)) us = fixed_amount.rest us
fields_rest (suc (suc (suc zero))) us = fixed_receipt.rest us
fields_rest (suc (suc (suc (suc zero)))) us = fixed_exit.rest us
fields_rest (suc (suc (suc (suc (suc zero))))) us = fixed_request.rest us
fields_rest (suc (suc (suc (suc (suc (suc zero)))))) us = fixed_consolidation.rest us
fields_rest (suc (suc (suc (suc (suc (suc (suc zero))))))) us = refl
fields_rest (suc (suc (suc (suc (suc (suc (suc (suc zero)))))))) us =
    let n = count_at us 0 in
    (fixed_many withdrawal 16 fixed_withdrawal n).rest (drop 1 us) ∙ drop-drop (n * 16) 1 us
fields_rest (suc (suc (suc (suc (suc (suc (suc (suc (suc code))))))))) us = refl

-- fields that are judged good stand in the file, and are shorter than the longest call
pub record Wide (code : ℕ) (us : List ℕ) : Type 0 where
  pub rest : (call_format code).rest us ≡ drop (fields_width code us) us
  pub long : fields_width code us ≤ length us
  pub small : fields_width code us < longest

withdrawals_wide : (us : List ℕ) → withdrawals_fields.ok us ≡ true → Wide 8 us
unfolding fields_width
withdrawals_wide us e =
    let n = count_at us 0 in
    let s = both (is_word 2 17 (get_or us 0 0)) ((many withdrawal n).ok (drop 1 us)) e in
    let one = first_word 2 17 (omega arith) us s.0 in
    record {
      rest = fields_rest 8 us;
      long = omega (
        arith,
        ap length one,
        length-drop 1 us,
        (fixed_many withdrawal 16 fixed_withdrawal n).long (drop 1 us) s.1,
      );
      small = omega (arith, withdrawals_most us e);
    }

pub fields_wide : (code : ℕ) (us : List ℕ) → (call_format code).ok us ≡ true → Wide code us
unfolding fields_width
fields_wide zero us e = impossible e
fields_wide (suc zero) us e =
    record { rest = fixed_amount.rest us; long = fixed_amount.long us e; small = omega arith }
fields_wide (suc (suc zero)) us e =
    record { rest = fixed_amount.rest us; long = fixed_amount.long us e; small = omega arith }
fields_wide (suc (suc (suc zero))) us e =
    record { rest = fixed_receipt.rest us; long = fixed_receipt.long us e; small = omega arith }
fields_wide (suc (suc (suc (suc zero)))) us e =
    record { rest = fixed_exit.rest us; long = fixed_exit.long us e; small = omega arith }
fields_wide (suc (suc (suc (suc (suc zero))))) us e =
    record { rest = fixed_request.rest us; long = fixed_request.long us e; small = omega arith }
fields_wide (suc (suc (suc (suc (suc (suc zero)))))) us e =
    record { rest = fixed_consolidation.rest us; long = fixed_consolidation.long us e; small = omega arith }
fields_wide (suc (suc (suc (suc (suc (suc (suc zero))))))) us e =
    record { rest = refl; long = omega arith; small = omega arith }
fields_wide (suc (suc (suc (suc (suc (suc (suc (suc zero)))))))) us e = withdrawals_wide us e
fields_wide (suc (suc (suc (suc (suc (suc (suc (suc (suc code))))))))) us e = impossible e

-- ---- the call

abbrev pub code_of : List ℕ → ℕ
code_of us = payload (get_or us 0 0)

-- where the next call begins, counted from this one
unfoldable pub next_place : List ℕ → ℕ
next_place us = 1 + fields_width (code_of us) (drop 1 us)

module _ (us : List ℕ) where
  pub call_ok : call.ok us ≡ is_word 9 9 (get_or us 0 0) && (call_format (code_of us)).ok (drop 1 us)
  unfolding call
  call_ok = refl

  pub call_value : call.value us ≡ (call_format (code_of us)).value (drop 1 us)
  unfolding call
  call_value = refl

  pub call_rest : call.rest us ≡ drop (fields_width (code_of us) (drop 1 us)) (drop 1 us)
  unfolding call
  call_rest = fields_rest (code_of us) (drop 1 us)

  module _ (e : call.ok us ≡ true) where
    call_parts : (is_word 9 9 (get_or us 0 0) ≡ true) × ((call_format (code_of us)).ok (drop 1 us) ≡ true)
    call_parts = both (is_word 9 9 (get_or us 0 0)) _ (sym call_ok ∙ e)

    pub fields_good : (call_format (code_of us)).ok (drop 1 us) ≡ true
    fields_good = call_parts.1

    pub call_wide : Wide (code_of us) (drop 1 us)
    call_wide = fields_wide (code_of us) (drop 1 us) fields_good

    pub next_rest : drop (next_place us) us ≡ call.rest us
    unfolding next_place
    next_rest = sym (call_rest ∙ drop-drop (fields_width (code_of us) (drop 1 us)) 1 us)

    -- the call lies in the file
    pub next_within : next_place us ≤ length us
    unfolding next_place
    next_within =
        let one = first_word 9 9 (omega arith) us call_parts.0 in
        omega (arith, ap length one, length-drop 1 us, call_wide.long)

    pub next_near : next_place us ≤ longest
    unfolding next_place
    next_near = omega (arith, call_wide.small)
