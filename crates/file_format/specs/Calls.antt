-- The calls file: head 2, a count to 9,999, then code and fields of each call.
use Rattle.std.specs.Prelude.{Bool, true, false, List, [], ◌∷◌, ℕ, get_or, eqb}
use Rattle.rules.specs.Types.{Withdrawal}
use Rattle.rules.specs.Calls.{Operation, reward, penalty, deposit_receipt, voluntary_exit, withdrawal_request}
use Rattle.rules.specs.Calls.{consolidation, turn, withdrawals}
use Rattle.rules.specs.Calls.{pending_balance_deposits, pending_consolidations, effective_balance_updates}
use Rattle.file_format.specs.Words.{calls_head}
use Rattle.file_format.specs.Fields.{Format, number, field, flag, ◌⊗◌, by_parts, coded, counted, headed}

-- ---- the fields of each call

-- the flag of a good signature
abbrev pub flag_number : Bool → ℕ
flag_number true = 1
flag_number false = 0

abbrev pub signature : Format Bool
signature = by_parts flag flag_number (λ n. eqb n 1)

-- validator, amount
abbrev pub amount_fields : Format (ℕ × ℕ)
amount_fields = number ⊗ number

-- key, credentials, amount, index, flag
abbrev pub receipt_fields : Format (List ℕ × (List ℕ × (ℕ × (ℕ × Bool))))
receipt_fields = field 48 ⊗ field 32 ⊗ number ⊗ number ⊗ signature

-- validator, epoch, flag
abbrev pub exit_fields : Format (ℕ × (ℕ × Bool))
exit_fields = number ⊗ number ⊗ signature

-- address, key, amount
abbrev pub request_fields : Format (List ℕ × (List ℕ × ℕ))
request_fields = field 20 ⊗ field 48 ⊗ number

-- source, target, epoch, flag
abbrev pub consolidation_fields : Format (ℕ × (ℕ × (ℕ × Bool)))
consolidation_fields = number ⊗ number ⊗ number ⊗ signature

abbrev pub no_fields : Format Unit
no_fields = record { domain = λ u. true; write = λ u. []; ok = λ ws. true; value = λ ws. tt; rest = λ ws. ws }

-- index, validator, address, amount
abbrev pub withdrawal_parts : Withdrawal → ℕ × (ℕ × (List ℕ × ℕ))
withdrawal_parts w = (w.index, (w.validator_index, (w.address, w.amount)))

abbrev pub withdrawal_of : ℕ × (ℕ × (List ℕ × ℕ)) → Withdrawal
withdrawal_of p = record { index = p.0; validator_index = p.1.0; address = p.1.1.0; amount = p.1.1.1 }

unfoldable pub withdrawal : Format Withdrawal
withdrawal = by_parts (number ⊗ number ⊗ field 20 ⊗ number) withdrawal_parts withdrawal_of

-- a count to 16: the limit is the first number that is too large
abbrev pub withdrawals_limit : ℕ
withdrawals_limit = 17

abbrev pub withdrawals_fields : Format (List Withdrawal)
withdrawals_fields = counted withdrawals_limit withdrawal

-- ---- what is written of each operation

pub record Written : Type 0 where
  pub code : ℕ
  -- the domain and the words of the fields
  pub domain : Bool
  pub words : List ℕ

abbrev pub written_as : {A : Type 0} → ℕ → Format A → A → Written
written_as code F a = record { code = code; domain = F.domain a; words = F.write a }

-- the three steps of a turn alone have no code
abbrev pub not_written : Written
not_written = record { code = 0; domain = false; words = [] }

abbrev pub written : Operation → Written
written (reward i amount) = written_as 1 amount_fields (i, amount)
written (penalty i amount) = written_as 2 amount_fields (i, amount)
written (deposit_receipt public_key withdrawal_credentials amount index valid) =
    written_as 3 receipt_fields (public_key, (withdrawal_credentials, (amount, (index, valid))))
written (voluntary_exit i epoch valid) = written_as 4 exit_fields (i, (epoch, valid))
written (withdrawal_request source_address public_key amount) =
    written_as 5 request_fields (source_address, (public_key, amount))
written (consolidation source_index target_index epoch valid) =
    written_as 6 consolidation_fields (source_index, (target_index, (epoch, valid)))
written turn = written_as 7 no_fields tt
written (withdrawals ws) = written_as 8 withdrawals_fields ws
written pending_balance_deposits = not_written
written pending_consolidations = not_written
written effective_balance_updates = not_written

-- ---- what is read behind each code

abbrev pub read_as : {A : Type 0} → Format A → (A → Operation) → Format Operation
read_as F of = record {
  domain = λ o. (written o).domain;
  write = λ o. (written o).words;
  ok = F.ok;
  value = λ ws. of (F.value ws);
  rest = F.rest;
}

abbrev pub receipt_of : List ℕ × (List ℕ × (ℕ × (ℕ × Bool))) → Operation
receipt_of p = deposit_receipt p.0 p.1.0 p.1.1.0 p.1.1.1.0 p.1.1.1.1

abbrev pub exit_of : ℕ × (ℕ × Bool) → Operation
exit_of p = voluntary_exit p.0 p.1.0 p.1.1

abbrev pub request_of : List ℕ × (List ℕ × ℕ) → Operation
request_of p = withdrawal_request p.0 p.1.0 p.1.1

abbrev pub consolidation_of : ℕ × (ℕ × (ℕ × Bool)) → Operation
consolidation_of p = consolidation p.0 p.1.0 p.1.1.0 p.1.1.1

-- no call has this code
abbrev pub no_call : Format Operation
no_call = record { domain = λ o. false; write = λ o. []; ok = λ ws. false; value = λ ws. turn; rest = λ ws. ws }

-- codes 1 to 8
abbrev pub call_formats : List (Format Operation)
call_formats =
    read_as amount_fields (λ p. reward p.0 p.1)
    ∷ read_as amount_fields (λ p. penalty p.0 p.1)
    ∷ read_as receipt_fields receipt_of
    ∷ read_as exit_fields exit_of
    ∷ read_as request_fields request_of
    ∷ read_as consolidation_fields consolidation_of
    ∷ read_as no_fields (λ u. turn)
    ∷ read_as withdrawals_fields withdrawals
    ∷ []

abbrev pub call_format : ℕ → Format Operation
call_format code = get_or (no_call ∷ call_formats) code no_call

-- ---- the file

-- kind 9
unfoldable pub call : Format Operation
call = coded 9 9 call_format (λ o. (written o).code)

-- a count to 9,999
abbrev pub calls_limit : ℕ
calls_limit = 10_000

unfoldable pub calls_format : Format (List Operation)
calls_format = headed calls_head (counted calls_limit call)

-- at most 9,999 calls with codes 1 to 8, numbers below 2^64, keys of 48 bytes, credentials of 32, addresses of 20, at
-- most 16 withdrawals in a list
abbrev pub calls_writable : List Operation → Bool
calls_writable os = calls_format.domain os
