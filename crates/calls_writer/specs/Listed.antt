-- Lists of withdrawals: sixteen records that are handed by value, of which the first n are written.
use Rattle.std.specs.Prelude.{◌≡◌, refl, true, false, List, [], ◌∷◌, ◌++◌, map, ℕ, zero, suc}
use Rattle.std.specs.Prelude.{◌+◌, ◌*◌, ◌≤◌, ◌<◌, length, get_or, eqb}
use Rattle.std.proofs.Common.{sym, ap, ◌∙◌, not-suc-le-zero, le_of_suc-le-suc, arith, length-append}
use Rattle.std.proofs.Common.{lt-ltb, le-ltb, eq-eqb, eqb-true}
use mir.Val.{Val}
use denote.Shadow.{shadow}
use denote.Laws.{Is}
use denote.Array.{Array, each}
use Rattle.lists.specs.Base.{every}
use Rattle.lists.specs.Laws.{both, join}
use Rattle.tables.specs.Rows.{rows}
use Rattle.rules.specs.Types as rule
use Rattle.rules.specs.Calls.{withdrawals}
use Rattle.expected_withdrawals.specs.declared.Withdrawal.{Withdrawal}
use Rattle.expected_withdrawals.specs.Expected.{plain_withdrawal, padded, handed_list}
use Rattle.expected_withdrawals.specs.Handed.{length_handed, past}
use Rattle.expected_withdrawals.specs.contracts.Withdrawal.{the_row}
use Rattle.file_format.specs.Words.{word}
use Rattle.file_format.specs.Fields as fields
use Rattle.file_format.specs.Fields.{number, field, field_words, many}
use Rattle.file_format.specs.Calls.{withdrawal, call}
use Rattle.file_format.proofs.FieldsLaws.{number_fits}
use Rattle.file_format.proofs.AccessLaws.{field_length}
use Rattle.file_format.specs.PutLaws.{put}
use Rattle.file_stores.specs.Laws.{put_none, put_next, put_length, put_row}
use Rattle.calls_writer.specs.Known.{array_bytes}
use Rattle.calls_writer.specs.Fits.{Fits, field_fits}

-- ---- what a function is told of the sixteen records

-- there are sixteen, and each can be written
pub record Listed (list : List Withdrawal) : Type 0 where
  pub whole : length list ≡ 16
  pub fine : every withdrawal.domain (map plain_withdrawal list) ≡ true

withdrawal_known : (w : Withdrawal) (vs : List Val) → Is the_row w vs → withdrawal.domain (plain_withdrawal w) ≡ true
unfolding withdrawal
withdrawal_known w vs p =
    let q = p.1.1 in
    let address = q.1.1.0 in
    let l : length w.address ≡ 20 = address.1.0.1 in
    let b = array_bytes 20 w.address _ address in
    join (number_fits w.index.0 q.0.1.1.0.1)
    (join (number_fits w.validator_index.0 q.1.0.1.1.0.1)
    (join (field_fits 20 w.address l b) (number_fits w.amount.0 q.1.1.1.0.1.1.0.1)))

each_known : (ws : List Withdrawal) (vs : List Val) → shadow (each Withdrawal the_row.own_val ws vs)
    → every withdrawal.domain (map plain_withdrawal ws) ≡ true
each_known [] vs p = refl
each_known (w ∷ ws) [] p = absurd p
each_known (w ∷ ws) (v ∷ vs) p = join (withdrawal_known w (v ∷ []) p.0) (each_known ws vs p.1)

pub list_known : (list : List Withdrawal) (vs : List Val) → Is (Array the_row 16) list vs → Listed list
list_known list vs p = record { whole = p.1.0.1; fine = each_known list p.0 p.1.1 }

-- ---- how many words a withdrawal has

withdrawal_length : (w : rule.Withdrawal) → withdrawal.domain w ≡ true → length (withdrawal.write w) ≡ 16
unfolding withdrawal number field
withdrawal_length w e =
    let s = both (number.domain w.index) _ e in
    let t = both (number.domain w.validator_index) _ s.1 in
    let u = both ((field 20).domain w.address) _ t.1 in
    let v = both (eqb (length w.address) 20) _ u.0 in
    let l : length w.address ≡ 20 = eqb-true _ _ v.0 in
    let a = field_words w.address in
    omega (arith, length-append a (number.write w.amount), field_length w.address)

each_length : (ws : List rule.Withdrawal) → every withdrawal.domain ws ≡ true
    → length (fields.each withdrawal.write ws) ≡ length ws * 16
each_length [] e = omega arith
each_length (w ∷ ws) e =
    let s = both (withdrawal.domain w) (every withdrawal.domain ws) e in
    omega (
      arith,
      length-append (withdrawal.write w) (fields.each withdrawal.write ws),
      withdrawal_length w s.0,
      each_length ws s.1,
    )

-- ---- the handed list

handed_rows : (list : List Withdrawal) (n : ℕ) → n ≤ length list
    → handed_list list n ≡ rows n (λ j. plain_withdrawal (get_or list j past))
unfolding handed_list padded rows
handed_rows list zero h = refl
handed_rows [] (suc n) h = absurd (not-suc-le-zero h)
handed_rows (w ∷ list) (suc n) h =
    ap {B = List rule.Withdrawal} (λ ws. plain_withdrawal w ∷ ws) (handed_rows list n (le_of_suc-le-suc h))

handed_fine : (list : List Withdrawal) (n : ℕ) → n ≤ length list
    → every withdrawal.domain (map plain_withdrawal list) ≡ true
    → every withdrawal.domain (handed_list list n) ≡ true
unfolding handed_list padded
handed_fine list zero h e = refl
handed_fine [] (suc n) h e = absurd (not-suc-le-zero h)
handed_fine (w ∷ list) (suc n) h e =
    let s = both (withdrawal.domain (plain_withdrawal w)) (every withdrawal.domain (map plain_withdrawal list)) e in
    join s.0 (handed_fine list n (le_of_suc-le-suc h) s.1)

pub withdrawals_fits : (list : List Withdrawal) (n : ℕ) → Listed list → n ≤ 16
    → Fits (withdrawals (handed_list list n)) (2 + n * 16)
unfolding call many
withdrawals_fits list n p h =
    let ws = handed_list list n in
    let l = length_handed list n in
    let few : length ws < 17 = omega arith in
    let e = handed_fine list n (omega (arith, p.whole)) p.fine in
    record {
      domain = join (lt-ltb (length ws) 17 few) (join (eq-eqb (length ws) (length ws) refl) e);
      words = omega (arith, each_length ws e, l);
    }

pub withdrawals_many : (list : List Withdrawal) (n : ℕ) → 16 < n
    → call.domain (withdrawals (handed_list list n)) ≡ false
unfolding call
withdrawals_many list n h =
    let ws = handed_list list n in
    let most : 17 ≤ length ws = omega (arith, length_handed list n) in
    rw (le-ltb (length ws) 17 most)

-- ---- one withdrawal put

pub withdrawal_put : (out o₁ o₂ o₃ o₄ : List ℕ) (k : ℕ) (w : Withdrawal) → length w.address ≡ 20
    → (k + 16) * 4 ≤ length out
    → o₁ ≡ put out k (number.write w.index.0) → o₂ ≡ put o₁ (k + 3) (number.write w.validator_index.0)
    → o₃ ≡ put o₂ (k + 6) (field_words w.address) → o₄ ≡ put o₃ (k + 13) (number.write w.amount.0)
    → o₄ ≡ put out k (withdrawal.write (plain_withdrawal w))
unfolding withdrawal number field
withdrawal_put out o₁ o₂ o₃ o₄ k w l h e₁ e₂ e₃ e₄ =
    let i = number.write w.index.0 in
    let v = number.write w.validator_index.0 in
    let a = field_words w.address in
    let g = number.write w.amount.0 in
    let x : length a ≡ 7 = omega (arith, field_length w.address) in
    let l₁ : length o₁ ≡ length out = put_length out o₁ k i e₁ (omega arith) in
    let l₂ : length o₂ ≡ length out = put_length o₁ o₂ (k + 3) v e₂ (omega arith) ∙ l₁ in
    let f₁ = put_next out o₁ o₂ k (k + 3) i v e₁ e₂ refl (omega arith) in
    let f₃ = put_next o₂ o₃ o₄ (k + 6) (k + 13) a g e₃ e₄ (omega arith) (omega arith) in
    put_next out o₂ o₄ k (k + 6) (i ++ v) (a ++ g) f₁ f₃ refl (omega (arith, length-append a g))

-- ---- all of them put, one behind another

fine_at : (list : List Withdrawal) (j : ℕ) → j < length list
    → every withdrawal.domain (map plain_withdrawal list) ≡ true
    → withdrawal.domain (plain_withdrawal (get_or list j past)) ≡ true
fine_at [] j h e = absurd (not-suc-le-zero h)
fine_at (w ∷ list) zero h e = (both (withdrawal.domain (plain_withdrawal w)) _ e).0
fine_at (w ∷ list) (suc j) h e =
    fine_at list j (le_of_suc-le-suc h) (both (withdrawal.domain (plain_withdrawal w)) _ e).1

-- the words of the first i withdrawals
unfoldable pub first_listed : List Withdrawal → ℕ → List ℕ
first_listed list i = fields.each withdrawal.write (rows i (λ j. plain_withdrawal (get_or list j past)))

pub listed_none : (list : List Withdrawal) (out : List ℕ) (k : ℕ) → out ≡ put out k (first_listed list 0)
unfolding first_listed rows
listed_none list out k = put_none out k

pub listed_more : (list : List Withdrawal) (n : ℕ) (out mid last : List ℕ) (k i : ℕ) → Listed list → n ≤ 16 → i < n
    → (k + n * 16) * 4 ≤ length out → mid ≡ put out k (first_listed list i)
    → last ≡ put mid (k + i * 16) (withdrawal.write (plain_withdrawal (get_or list i past)))
    → last ≡ put out k (first_listed list (i + 1))
unfolding first_listed
listed_more list n out mid last k i p m h room e f =
    put_row withdrawal.write 16 n (λ j. plain_withdrawal (get_or list j past))
    (λ j q.
    withdrawal_length (plain_withdrawal (get_or list j past))
    (fine_at list j (omega (arith, p.whole)) p.fine))
    out mid last k i (k + i * 16) h room refl e f

pub listed_done : (list : List Withdrawal) (n : ℕ) (out last : List ℕ) (k i : ℕ) → Listed list → n ≤ 16 → i ≤ n → n ≤ i
    → last ≡ put out k (first_listed list i)
    → last ≡ put out k (fields.each withdrawal.write (handed_list list n))
unfolding first_listed
listed_done list n out last k i p m h l e =
    let q : i ≡ n = omega arith in
    let r = handed_rows list n (omega (arith, p.whole)) in
    e
    ∙ ap (λ j. put out k (first_listed list j)) q
    ∙ ap (λ ws. put out k (fields.each withdrawal.write ws)) (sym r)

-- the code, the count, and the list
pub withdrawals_put : (out o₁ o₂ o₃ : List ℕ) (k : ℕ) (list : List Withdrawal) (n : ℕ) → Listed list → n ≤ 16
    → (k + (2 + n * 16)) * 4 ≤ length out
    → o₁ ≡ put out k (word 9 8 ∷ []) → o₂ ≡ put o₁ (k + 1) (word 2 n ∷ [])
    → o₃ ≡ put o₂ (k + 2) (fields.each withdrawal.write (handed_list list n))
    → o₃ ≡ put out k (call.write (withdrawals (handed_list list n)))
unfolding call many
withdrawals_put out o₁ o₂ o₃ k list n p m h e₁ e₂ e₃ =
    let ws = handed_list list n in
    let us = fields.each withdrawal.write ws in
    let l = length_handed list n in
    let size = each_length ws (handed_fine list n (omega (arith, p.whole)) p.fine) in
    let f = put_next out o₁ o₂ k (k + 1) (word 9 8 ∷ []) (word 2 n ∷ []) e₁ e₂ refl (omega arith) in
    let g =
    put_next out o₂ o₃ k (k + 2) (word 9 8 ∷ word 2 n ∷ []) us f e₃ refl (omega (arith, size)) in
    g ∙ ap (λ c. put out k (word 9 8 ∷ word 2 c ∷ us)) (sym l)
