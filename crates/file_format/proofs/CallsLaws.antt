-- The laws of the calls file's format.
use Rattle.std.specs.Prelude.{◌≡◌, refl, Bool, true, false, List, ◌++◌, ℕ, zero, suc, ◌<◌, eqb}
use Rattle.std.proofs.Common.{sym, ap, ◌∙◌, arith, ltb-true}
use Rattle.lists.specs.Base.{every}
use Rattle.rules.specs.Calls.{Operation, reward, penalty, deposit_receipt, voluntary_exit, withdrawal_request}
use Rattle.rules.specs.Calls.{consolidation, turn, withdrawals}
use Rattle.rules.specs.Calls.{pending_balance_deposits, pending_consolidations, effective_balance_updates}
use Rattle.file_format.specs.Words.{calls_head}
use Rattle.file_format.specs.Fields.{Format, flag}
use Rattle.file_format.specs.Calls.{flag_number, signature, amount_fields, receipt_fields, exit_fields}
use Rattle.file_format.specs.Calls.{request_fields, consolidation_fields, no_fields, withdrawal}
use Rattle.file_format.specs.Calls.{withdrawal_parts, withdrawal_of, withdrawals_limit, withdrawals_fields}
use Rattle.file_format.specs.Calls.{receipt_of, exit_of, request_of, consolidation_of}
use Rattle.file_format.specs.Calls.{written, written_as, read_as, call_format, call}
use Rattle.file_format.specs.Calls.{calls_limit, calls_format}
use Rattle.file_format.proofs.FieldsLaws.{fits, Kept, Only, Lawful, impossible, number_lawful, flag_lawful}
use Rattle.file_format.proofs.FieldsLaws.{field_lawful, pair_lawful, parts_lawful, coded_lawful}
use Rattle.file_format.proofs.FieldsLaws.{counted_lawful, headed_lawful}

-- ---- the fields

flag_there : (b : Bool) → eqb (flag_number b) 1 ≡ b
flag_there true = refl
flag_there false = refl

flag_back : (n : ℕ) → flag.domain n ≡ true → flag_number (eqb n 1) ≡ n
unfolding flag
flag_back zero e = refl
flag_back (suc zero) e = refl
flag_back (suc (suc n)) e =
    let h : suc (suc n) < 2 = ltb-true _ _ e in
    let z : ⊥ = omega arith in
    absurd z

signature_lawful : Lawful signature
signature_lawful = parts_lawful flag_number (λ n. eqb n 1) flag_lawful flag_there flag_back

amount_lawful : Lawful amount_fields
amount_lawful = pair_lawful number_lawful number_lawful

receipt_lawful : Lawful receipt_fields
receipt_lawful =
    pair_lawful (field_lawful 48)
    (pair_lawful (field_lawful 32) (pair_lawful number_lawful (pair_lawful number_lawful signature_lawful)))

exit_lawful : Lawful exit_fields
exit_lawful = pair_lawful number_lawful (pair_lawful number_lawful signature_lawful)

request_lawful : Lawful request_fields
request_lawful = pair_lawful (field_lawful 20) (pair_lawful (field_lawful 48) number_lawful)

consolidation_lawful : Lawful consolidation_fields
consolidation_lawful =
    pair_lawful number_lawful (pair_lawful number_lawful (pair_lawful number_lawful signature_lawful))

no_fields_lawful : Lawful no_fields
no_fields_lawful = record {
  kept = λ u e. record { small = refl; ok = λ ws. refl; value = λ ws. refl; rest = λ ws. refl };
  only = λ ws e. record { domain = refl; same = refl };
}

withdrawal_lawful : Lawful withdrawal
unfolding withdrawal
withdrawal_lawful =
    parts_lawful withdrawal_parts withdrawal_of
    (pair_lawful number_lawful (pair_lawful number_lawful (pair_lawful (field_lawful 20) number_lawful)))
    (λ w. refl) (λ p e. refl)

withdrawals_lawful : Lawful withdrawals_fields
withdrawals_lawful = counted_lawful withdrawals_limit (omega arith) withdrawal_lawful

-- ---- a call

-- `of` makes an operation of the fields that are written of it with code c
module _ {A : Type 0} {F : Format A} (f : Lawful F) (of : A → Operation) (c : ℕ)
    (same : (a : A) → written (of a) ≡ written_as c F a) where
  as_kept : (a : A) → F.domain a ≡ true → Kept (read_as F of) (of a)
  as_kept a e =
      let k = f.kept a e in
      let w : (written (of a)).words ≡ F.write a = λ i. (same a i).words in
      record {
        small = ap (every fits) w ∙ k.small;
        ok = λ ws. ap (λ us. F.ok (us ++ ws)) w ∙ k.ok ws;
        value = λ ws. ap (λ us. of (F.value (us ++ ws))) w ∙ ap of (k.value ws);
        rest = λ ws. ap (λ us. F.rest (us ++ ws)) w ∙ k.rest ws;
      }

  as_only : (ws : List ℕ) → F.ok ws ≡ true
      → Only (read_as F of) ws × ((written ((read_as F of).value ws)).code ≡ c)
  as_only ws e =
      let k = f.only ws e in
      let s = same (F.value ws) in
      let o : Only (read_as F of) ws = record {
        domain = (λ i. (s i).domain) ∙ k.domain;
        same = k.same ∙ sym (λ i. (s i).words ++ F.rest ws);
      } in
      (o, λ i. (s i).code)

call_kept : (o : Operation) → (call_format (written o).code).domain o ≡ true
    → Kept (call_format (written o).code) o
call_kept (reward i amount) e = as_kept amount_lawful (λ p. reward p.0 p.1) 1 (λ p. refl) (i, amount) e
call_kept (penalty i amount) e = as_kept amount_lawful (λ p. penalty p.0 p.1) 2 (λ p. refl) (i, amount) e
call_kept (deposit_receipt public_key withdrawal_credentials amount index valid) e =
    as_kept receipt_lawful receipt_of 3 (λ p. refl)
    (public_key, (withdrawal_credentials, (amount, (index, valid)))) e
call_kept (voluntary_exit i epoch valid) e = as_kept exit_lawful exit_of 4 (λ p. refl) (i, (epoch, valid)) e
call_kept (withdrawal_request source_address public_key amount) e =
    as_kept request_lawful request_of 5 (λ p. refl) (source_address, (public_key, amount)) e
call_kept (consolidation source_index target_index epoch valid) e =
    as_kept consolidation_lawful consolidation_of 6 (λ p. refl) (source_index, (target_index, (epoch, valid))) e
call_kept turn e = as_kept no_fields_lawful (λ u. turn) 7 (λ u. refl) tt e
call_kept (withdrawals ws) e = as_kept withdrawals_lawful withdrawals 8 (λ ws. refl) ws e
call_kept pending_balance_deposits e = impossible e
call_kept pending_consolidations e = impossible e
call_kept effective_balance_updates e = impossible e

call_only : (c : ℕ) (ws : List ℕ) → (call_format c).ok ws ≡ true
    → Only (call_format c) ws × ((written ((call_format c).value ws)).code ≡ c)
call_only zero ws e = impossible e
call_only (suc zero) ws e = as_only amount_lawful (λ p. reward p.0 p.1) 1 (λ p. refl) ws e
call_only (suc (suc zero)) ws e = as_only amount_lawful (λ p. penalty p.0 p.1) 2 (λ p. refl) ws e
call_only (suc (suc (suc zero))) ws e = as_only receipt_lawful receipt_of 3 (λ p. refl) ws e
call_only (suc (suc (suc (suc zero)))) ws e = as_only exit_lawful exit_of 4 (λ p. refl) ws e
call_only (suc (suc (suc (suc (suc zero))))) ws e = as_only request_lawful request_of 5 (λ p. refl) ws e
call_only (suc (suc (suc (suc (suc (suc zero)))))) ws e =
    as_only consolidation_lawful consolidation_of 6 (λ p. refl) ws e
call_only (suc (suc (suc (suc (suc (suc (suc zero))))))) ws e =
    as_only no_fields_lawful (λ u. turn) 7 (λ u. refl) ws e
call_only (suc (suc (suc (suc (suc (suc (suc (suc zero)))))))) ws e =
    as_only withdrawals_lawful withdrawals 8 (λ us. refl) ws e
call_only (suc (suc (suc (suc (suc (suc (suc (suc (suc c))))))))) ws e = impossible e

pub call_lawful : Lawful call
unfolding call
call_lawful =
    coded_lawful 9 9 call_format (λ o. (written o).code) (omega arith) (omega arith) (omega arith) call_kept call_only

pub calls_format_lawful : Lawful calls_format
unfolding calls_format
calls_format_lawful = headed_lawful calls_head (omega arith) (counted_lawful calls_limit (omega arith) call_lawful)
