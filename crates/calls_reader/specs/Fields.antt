-- The facts that the functions are proved by which hand out what a call holds. us are the words from its code on.
use Rattle.std.specs.Prelude.{◌≡◌, Bool, true, List, [], ◌∷◌, map, ℕ, zero, suc, ◌+◌, ◌*◌, ◌≤◌, ◌<◌}
use Rattle.std.specs.Prelude.{length, get_or, drop, set, eqb}
use Rattle.std.proofs.Math.Path.{refl, sym, ap}
use Rattle.std.proofs.Common.{◌∙◌, le_of_suc-le-suc, not-suc-le-zero, add-one, drop-drop}
use native.Mathlib.Omega.{arith}
use Rattle.lists.specs.Laws.{both}
use Rattle.tables.specs.Rows.{rows, rows_snoc, length_rows}
use Rattle.rules.specs.Types as rule
use Rattle.rules.specs.Calls.{reward, penalty, deposit_receipt, voluntary_exit, withdrawal_request}
use Rattle.rules.specs.Calls.{consolidation, withdrawals}
use Rattle.expected_withdrawals.specs.Expected.{plain_withdrawal, coded_withdrawal, padded, sixteen, no_withdrawals}
use Rattle.expected_withdrawals.specs.Expected.{handed_list}
use Rattle.expected_withdrawals.specs.Listing.{pushes}
use Rattle.expected_withdrawals.specs.Laws.{pushes_sixteen}
use Rattle.expected_withdrawals.specs.declared.Withdrawal.{Withdrawal}
use Rattle.expected_withdrawals.specs.declared.ExpectedWithdrawals.{ExpectedWithdrawals}
use Rattle.file_format.specs.Words.{is_word}
use Rattle.file_format.specs.Fields.{Format, ◌⊗◌, number, flag, field}
use Rattle.file_format.specs.Places.{count_at}
use Rattle.file_format.specs.Calls.{signature, amount_fields, receipt_fields, exit_fields, request_fields}
use Rattle.file_format.specs.Calls.{consolidation_fields, withdrawal, withdrawal_of, withdrawals_fields}
use Rattle.file_format.specs.Calls.{receipt_of, exit_of, request_of, consolidation_of, call_format, call}
use Rattle.file_format.proofs.AccessLaws.{Fixed, fixed_at, fixed_number, fixed_key, fixed_credentials}
use Rattle.file_format.proofs.AccessLaws.{fixed_address, many_good, many_value_at}
use Rattle.calls_reader.specs.Widths.{fixed_withdrawal, withdrawals_most, code_of, call_value, fields_good}

-- ---- one field after another: F of n words at word k, then G

module _ {A B : Type 0} {F : Format A} {n : ℕ} (f : Fixed F n) (G : Format B) (k : ℕ) (us : List ℕ)
    (e : (F ⊗ G).ok (drop k us) ≡ true) where
  first_good : F.ok (drop k us) ≡ true
  first_good = (both (F.ok (drop k us)) (G.ok (F.rest (drop k us))) e).0

  then_good : G.ok (drop (k + n) us) ≡ true
  then_good = ap G.ok (sym (fixed_at f k us)) ∙ (both (F.ok (drop k us)) (G.ok (F.rest (drop k us))) e).1

-- what holds of the words from word k on, of a list of those words
module _ {A : Type 0} (F : Format A) (us : List ℕ) (k : ℕ) {vs : List ℕ} (p : vs ≡ drop k us) where
  good_there : F.ok (drop k us) ≡ true → F.ok vs ≡ true
  good_there e = ap F.ok p ∙ e

  read_there : {a : A} → a ≡ F.value vs → a ≡ F.value (drop k us)
  read_there e = e ∙ ap F.value p

abbrev receipt_numbers : Format (ℕ × (ℕ × Bool))
receipt_numbers = number ⊗ number ⊗ signature

-- ---- the fields of the call, whose code is c

module _ (us : List ℕ) where
  value_known : (c : ℕ) → code_of us ≡ c → call.value us ≡ (call_format c).value (drop 1 us)
  value_known c h = call_value us ∙ ap (λ n. (call_format n).value (drop 1 us)) h

  module _ (e : call.ok us ≡ true) where
    good_known : (c : ℕ) → code_of us ≡ c → (call_format c).ok (drop 1 us) ≡ true
    good_known c h = ap (λ n. (call_format n).ok (drop 1 us)) (sym h) ∙ fields_good us e

  -- ---- codes 1 and 2: validator at word 1, amount at 4

  module _ (e : call.ok us ≡ true) (low : 0 < code_of us) (high : code_of us ≤ 2) where
    amount_good : amount_fields.ok (drop 1 us) ≡ true
    amount_good = go (code_of us) refl low high
      where
        go : (c : ℕ) → code_of us ≡ c → 0 < c → c ≤ 2 → amount_fields.ok (drop 1 us) ≡ true
        go zero h l m = let z : ⊥ = omega arith in absurd z
        go (suc zero) h l m = good_known e 1 h
        go (suc (suc zero)) h l m = good_known e 2 h
        go (suc (suc (suc c))) h l m = let z : ⊥ = omega arith in absurd z

    pub amount_validator_ok : {vs : List ℕ} → vs ≡ drop 1 us → number.ok vs ≡ true
    amount_validator_ok p = good_there number us 1 p (first_good fixed_number number 1 us amount_good)

    pub amount_amount_ok : {vs : List ℕ} → vs ≡ drop 4 us → number.ok vs ≡ true
    amount_amount_ok p = good_there number us 4 p (then_good fixed_number number 1 us amount_good)

  module _ {vs xs : List ℕ} {a b : ℕ} (p : vs ≡ drop 1 us) (q : xs ≡ drop 4 us) (r : a ≡ number.value vs)
      (s : b ≡ number.value xs) where
    amount_read : (a, b) ≡ amount_fields.value (drop 1 us)
    amount_read =
        let behind = ap number.value (sym (fixed_at fixed_number 1 us)) in
        λ j. (read_there number us 1 p r j, (read_there number us 4 q s ∙ behind) j)

    pub reward_read : code_of us ≡ 1 → reward a b ≡ call.value us
    reward_read h = ap (λ x. reward x.0 x.1) amount_read ∙ sym (value_known 1 h)

    pub penalty_read : code_of us ≡ 2 → penalty a b ≡ call.value us
    penalty_read h = ap (λ x. penalty x.0 x.1) amount_read ∙ sym (value_known 2 h)

  -- ---- code 3: key at word 1, credentials at 17, amount at 28, index at 31, flag at 34

  module _ (e : call.ok us ≡ true) (h : code_of us ≡ 3) where
    receipt_credentials_good : (field 32 ⊗ receipt_numbers).ok (drop 17 us) ≡ true
    receipt_credentials_good = then_good fixed_key (field 32 ⊗ receipt_numbers) 1 us (good_known e 3 h)

    receipt_numbers_good : receipt_numbers.ok (drop 28 us) ≡ true
    receipt_numbers_good = then_good fixed_credentials receipt_numbers 17 us receipt_credentials_good

    receipt_index_good : (number ⊗ signature).ok (drop 31 us) ≡ true
    receipt_index_good = then_good fixed_number (number ⊗ signature) 28 us receipt_numbers_good

    pub receipt_key_ok : {vs : List ℕ} → vs ≡ drop 1 us → (field 48).ok vs ≡ true
    receipt_key_ok p =
        good_there (field 48) us 1 p (first_good fixed_key (field 32 ⊗ receipt_numbers) 1 us (good_known e 3 h))

    pub receipt_credentials_ok : {vs : List ℕ} → vs ≡ drop 17 us → (field 32).ok vs ≡ true
    receipt_credentials_ok p =
        good_there (field 32) us 17 p (first_good fixed_credentials receipt_numbers 17 us receipt_credentials_good)

    pub receipt_amount_ok : {vs : List ℕ} → vs ≡ drop 28 us → number.ok vs ≡ true
    receipt_amount_ok p =
        good_there number us 28 p (first_good fixed_number (number ⊗ signature) 28 us receipt_numbers_good)

    pub receipt_index_ok : {vs : List ℕ} → vs ≡ drop 31 us → number.ok vs ≡ true
    receipt_index_ok p = good_there number us 31 p (first_good fixed_number signature 31 us receipt_index_good)

  receipt_value : receipt_fields.value (drop 1 us)
      ≡ (
        (field 48).value (drop 1 us),
        (
          (field 32).value (drop 17 us),
          (number.value (drop 28 us), (number.value (drop 31 us), eqb (flag.value (drop 34 us)) 1)),
        ),
      )
  receipt_value =
      let b₁ = fixed_at fixed_key 1 us in
      let b₂ = ap (field 32).rest b₁ ∙ fixed_at fixed_credentials 17 us in
      let b₃ = ap number.rest b₂ ∙ fixed_at fixed_number 28 us in
      let b₄ = ap number.rest b₃ ∙ fixed_at fixed_number 31 us in
      λ j. (
        (field 48).value (drop 1 us),
        (
          (field 32).value (b₁ j),
          (number.value (b₂ j), (number.value (b₃ j), eqb (flag.value (b₄ j)) 1)),
        ),
      )

  pub receipt_read : {xs₁ xs₂ xs₃ xs₄ xs₅ key credentials : List ℕ} {a i f : ℕ} → code_of us ≡ 3 → xs₁ ≡ drop 1 us
      → xs₂ ≡ drop 17 us → xs₃ ≡ drop 28 us → xs₄ ≡ drop 31 us → xs₅ ≡ drop 34 us → key ≡ (field 48).value xs₁
      → credentials ≡ (field 32).value xs₂ → a ≡ number.value xs₃ → i ≡ number.value xs₄ → f ≡ flag.value xs₅
      → deposit_receipt key credentials a i (eqb f 1) ≡ call.value us
  receipt_read h d₁ d₂ d₃ d₄ d₅ e₁ e₂ e₃ e₄ e₅ =
      let p = read_there (field 48) us 1 d₁ e₁ in
      let q = read_there (field 32) us 17 d₂ e₂ in
      let r = read_there number us 28 d₃ e₃ in
      let s = read_there number us 31 d₄ e₄ in
      let t = read_there flag us 34 d₅ e₅ in
      (λ j. deposit_receipt (p j) (q j) (r j) (s j) (eqb (t j) 1))
      ∙ sym (value_known 3 h ∙ ap receipt_of receipt_value)

  -- ---- code 4: validator at word 1, epoch at 4, flag at 7

  module _ (e : call.ok us ≡ true) (h : code_of us ≡ 4) where
    exit_epoch_good : (number ⊗ signature).ok (drop 4 us) ≡ true
    exit_epoch_good = then_good fixed_number (number ⊗ signature) 1 us (good_known e 4 h)

    pub exit_validator_ok : {vs : List ℕ} → vs ≡ drop 1 us → number.ok vs ≡ true
    exit_validator_ok p =
        good_there number us 1 p (first_good fixed_number (number ⊗ signature) 1 us (good_known e 4 h))

    pub exit_epoch_ok : {vs : List ℕ} → vs ≡ drop 4 us → number.ok vs ≡ true
    exit_epoch_ok p = good_there number us 4 p (first_good fixed_number signature 4 us exit_epoch_good)

  exit_value : exit_fields.value (drop 1 us)
      ≡ (number.value (drop 1 us), (number.value (drop 4 us), eqb (flag.value (drop 7 us)) 1))
  exit_value =
      let b₁ = fixed_at fixed_number 1 us in
      let b₂ = ap number.rest b₁ ∙ fixed_at fixed_number 4 us in
      λ j. (number.value (drop 1 us), (number.value (b₁ j), eqb (flag.value (b₂ j)) 1))

  pub exit_read : {xs₁ xs₂ xs₃ : List ℕ} {i a f : ℕ} → code_of us ≡ 4 → xs₁ ≡ drop 1 us → xs₂ ≡ drop 4 us
      → xs₃ ≡ drop 7 us → i ≡ number.value xs₁ → a ≡ number.value xs₂ → f ≡ flag.value xs₃
      → voluntary_exit i a (eqb f 1) ≡ call.value us
  exit_read h d₁ d₂ d₃ e₁ e₂ e₃ =
      let p = read_there number us 1 d₁ e₁ in
      let q = read_there number us 4 d₂ e₂ in
      let r = read_there flag us 7 d₃ e₃ in
      (λ j. voluntary_exit (p j) (q j) (eqb (r j) 1)) ∙ sym (value_known 4 h ∙ ap exit_of exit_value)

  -- ---- code 5: address at word 1, key at 8, amount at 24

  module _ (e : call.ok us ≡ true) (h : code_of us ≡ 5) where
    request_key_good : (field 48 ⊗ number).ok (drop 8 us) ≡ true
    request_key_good = then_good fixed_address (field 48 ⊗ number) 1 us (good_known e 5 h)

    pub request_address_ok : {vs : List ℕ} → vs ≡ drop 1 us → (field 20).ok vs ≡ true
    request_address_ok p =
        good_there (field 20) us 1 p (first_good fixed_address (field 48 ⊗ number) 1 us (good_known e 5 h))

    pub request_key_ok : {vs : List ℕ} → vs ≡ drop 8 us → (field 48).ok vs ≡ true
    request_key_ok p = good_there (field 48) us 8 p (first_good fixed_key number 8 us request_key_good)

    pub request_amount_ok : {vs : List ℕ} → vs ≡ drop 24 us → number.ok vs ≡ true
    request_amount_ok p = good_there number us 24 p (then_good fixed_key number 8 us request_key_good)

  request_value : request_fields.value (drop 1 us)
      ≡ ((field 20).value (drop 1 us), ((field 48).value (drop 8 us), number.value (drop 24 us)))
  request_value =
      let b₁ = fixed_at fixed_address 1 us in
      let b₂ = ap (field 48).rest b₁ ∙ fixed_at fixed_key 8 us in
      λ j. ((field 20).value (drop 1 us), ((field 48).value (b₁ j), number.value (b₂ j)))

  pub request_read : {xs₁ xs₂ xs₃ address key : List ℕ} {a : ℕ} → code_of us ≡ 5 → xs₁ ≡ drop 1 us → xs₂ ≡ drop 8 us
      → xs₃ ≡ drop 24 us → address ≡ (field 20).value xs₁ → key ≡ (field 48).value xs₂ → a ≡ number.value xs₃
      → withdrawal_request address key a ≡ call.value us
  request_read h d₁ d₂ d₃ e₁ e₂ e₃ =
      let p = read_there (field 20) us 1 d₁ e₁ in
      let q = read_there (field 48) us 8 d₂ e₂ in
      let r = read_there number us 24 d₃ e₃ in
      (λ j. withdrawal_request (p j) (q j) (r j)) ∙ sym (value_known 5 h ∙ ap request_of request_value)

  -- ---- code 6: source at word 1, target at 4, epoch at 7, flag at 10

  module _ (e : call.ok us ≡ true) (h : code_of us ≡ 6) where
    consolidation_target_good : (number ⊗ number ⊗ signature).ok (drop 4 us) ≡ true
    consolidation_target_good = then_good fixed_number (number ⊗ number ⊗ signature) 1 us (good_known e 6 h)

    consolidation_epoch_good : (number ⊗ signature).ok (drop 7 us) ≡ true
    consolidation_epoch_good = then_good fixed_number (number ⊗ signature) 4 us consolidation_target_good

    pub consolidation_source_ok : {vs : List ℕ} → vs ≡ drop 1 us → number.ok vs ≡ true
    consolidation_source_ok p =
        good_there number us 1 p (first_good fixed_number (number ⊗ number ⊗ signature) 1 us (good_known e 6 h))

    pub consolidation_target_ok : {vs : List ℕ} → vs ≡ drop 4 us → number.ok vs ≡ true
    consolidation_target_ok p =
        good_there number us 4 p (first_good fixed_number (number ⊗ signature) 4 us consolidation_target_good)

    pub consolidation_epoch_ok : {vs : List ℕ} → vs ≡ drop 7 us → number.ok vs ≡ true
    consolidation_epoch_ok p =
        good_there number us 7 p (first_good fixed_number signature 7 us consolidation_epoch_good)

  consolidation_value : consolidation_fields.value (drop 1 us)
      ≡ (
        number.value (drop 1 us),
        (number.value (drop 4 us), (number.value (drop 7 us), eqb (flag.value (drop 10 us)) 1)),
      )
  consolidation_value =
      let b₁ = fixed_at fixed_number 1 us in
      let b₂ = ap number.rest b₁ ∙ fixed_at fixed_number 4 us in
      let b₃ = ap number.rest b₂ ∙ fixed_at fixed_number 7 us in
      λ j. (number.value (drop 1 us), (number.value (b₁ j), (number.value (b₂ j), eqb (flag.value (b₃ j)) 1)))

  pub consolidation_read : {xs₁ xs₂ xs₃ xs₄ : List ℕ} {s t a f : ℕ} → code_of us ≡ 6 → xs₁ ≡ drop 1 us
      → xs₂ ≡ drop 4 us → xs₃ ≡ drop 7 us → xs₄ ≡ drop 10 us → s ≡ number.value xs₁ → t ≡ number.value xs₂
      → a ≡ number.value xs₃ → f ≡ flag.value xs₄ → consolidation s t a (eqb f 1) ≡ call.value us
  consolidation_read h d₁ d₂ d₃ d₄ e₁ e₂ e₃ e₄ =
      let p = read_there number us 1 d₁ e₁ in
      let q = read_there number us 4 d₂ e₂ in
      let r = read_there number us 7 d₃ e₃ in
      let o = read_there flag us 10 d₄ e₄ in
      (λ j. consolidation (p j) (q j) (r j) (eqb (o j) 1))
      ∙ sym (value_known 6 h ∙ ap consolidation_of consolidation_value)

-- ---- a withdrawal: index, validator at word 3, address at 6, amount at 13

module _ (us : List ℕ) where
  module _ (e : withdrawal.ok us ≡ true) where
    withdrawal_validator_good : (number ⊗ field 20 ⊗ number).ok (drop 3 us) ≡ true
    unfolding withdrawal
    withdrawal_validator_good = then_good fixed_number (number ⊗ field 20 ⊗ number) 0 us e

    withdrawal_address_good : (field 20 ⊗ number).ok (drop 6 us) ≡ true
    withdrawal_address_good = then_good fixed_number (field 20 ⊗ number) 3 us withdrawal_validator_good

    pub withdrawal_index_ok : number.ok us ≡ true
    unfolding withdrawal
    withdrawal_index_ok = first_good fixed_number (number ⊗ field 20 ⊗ number) 0 us e

    pub withdrawal_validator_ok : {vs : List ℕ} → vs ≡ drop 3 us → number.ok vs ≡ true
    withdrawal_validator_ok p =
        good_there number us 3 p (first_good fixed_number (field 20 ⊗ number) 3 us withdrawal_validator_good)

    pub withdrawal_address_ok : {vs : List ℕ} → vs ≡ drop 6 us → (field 20).ok vs ≡ true
    withdrawal_address_ok p =
        good_there (field 20) us 6 p (first_good fixed_address number 6 us withdrawal_address_good)

    pub withdrawal_amount_ok : {vs : List ℕ} → vs ≡ drop 13 us → number.ok vs ≡ true
    withdrawal_amount_ok p =
        good_there number us 13 p (then_good fixed_address number 6 us withdrawal_address_good)

  pub withdrawal_read : {xs₁ xs₂ xs₃ address : List ℕ} {i v a : ℕ} → xs₁ ≡ drop 3 us → xs₂ ≡ drop 6 us
      → xs₃ ≡ drop 13 us → i ≡ number.value us → v ≡ number.value xs₁ → address ≡ (field 20).value xs₂
      → a ≡ number.value xs₃
      → coded_withdrawal (record { index = i; validator_index = v; address = address; amount = a })
      ≡ coded_withdrawal (withdrawal.value us)
  unfolding withdrawal
  withdrawal_read d₁ d₂ d₃ p e₁ e₂ e₃ =
      let b₁ = fixed_at fixed_number 0 us in
      let b₂ = ap number.rest b₁ ∙ fixed_at fixed_number 3 us in
      let b₃ = ap (field 20).rest b₂ ∙ fixed_at fixed_address 6 us in
      let q = read_there number us 3 d₁ e₁ in
      let r = read_there (field 20) us 6 d₂ e₂ in
      let s = read_there number us 13 d₃ e₃ in
      (λ j. coded_withdrawal (record { index = p j; validator_index = q j; address = r j; amount = s j }))
      ∙ sym
      (λ j. coded_withdrawal (withdrawal_of
      (number.value us, (number.value (b₁ j), ((field 20).value (b₂ j), number.value (b₃ j))))))

-- ---- code 8: count at word 1, withdrawal i at 2 + i * 16

abbrev pub withdrawal_there : List ℕ → ℕ → rule.Withdrawal
withdrawal_there us i = withdrawal.value (drop (2 + i * 16) us)

-- the first i of them in sixteen records
abbrev pub listed_there : List ℕ → ℕ → List Withdrawal
listed_there us i = map coded_withdrawal (padded 16 (rows i (withdrawal_there us)))

-- vs are the words from the count on
module _ (us vs : List ℕ) (n : ℕ) (e : call.ok us ≡ true) (h : code_of us ≡ 8) (p : vs ≡ drop 1 us)
    (c : n ≡ count_at vs 0) where
  withdrawals_good : withdrawals_fields.ok (drop 1 us) ≡ true
  withdrawals_good = good_known us e 8 h

  count_there : n ≡ count_at (drop 1 us) 0
  count_there = c ∙ ap (λ xs. count_at xs 0) p

  pub count_most : n ≤ 16
  count_most = omega (arith, count_there, withdrawals_most (drop 1 us) withdrawals_good)

  place : (i : ℕ) → drop (i * 16) (drop 1 (drop 1 us)) ≡ drop (2 + i * 16) us
  place i = ap (drop (i * 16)) (drop-drop 1 1 us) ∙ drop-drop (i * 16) 2 us

  pub withdrawal_good : (i : ℕ) → i < n → {xs : List ℕ} → xs ≡ drop (2 + i * 16) us → withdrawal.ok xs ≡ true
  withdrawal_good i l q =
      let all = (both (is_word 2 17 (get_or (drop 1 us) 0 0)) _ withdrawals_good).1 in
      let few : i < count_at (drop 1 us) 0 = omega (arith, count_there, l) in
      let one = many_good withdrawal 16 fixed_withdrawal _ i (drop 1 (drop 1 us)) few all in
      ap withdrawal.ok (q ∙ sym (place i)) ∙ one

  withdrawals_value : withdrawals (rows n (withdrawal_there us)) ≡ call.value us
  withdrawals_value =
      let m = count_at (drop 1 us) 0 in
      let list = many_value_at withdrawal 16 fixed_withdrawal m (drop 1 (drop 1 us)) in
      sym
      (value_known us 8 h
      ∙ ap withdrawals (list ∙ (λ j. rows (sym count_there j) (λ i. withdrawal.value (place i j)))))

pub listed_none : (us : List ℕ) {e : ExpectedWithdrawals} → e ≡ no_withdrawals → e.list ≡ listed_there us 0
unfolding sixteen rows
listed_none us h = ap (λ e. e.list) h

pub listed_more : (us vs : List ℕ) (i : ℕ) (list : List Withdrawal) (w : Withdrawal) → i < 16
    → list ≡ listed_there us i → vs ≡ drop (2 + i * 16) us → w ≡ coded_withdrawal (withdrawal.value vs)
    → set list i w ≡ listed_there us (i + 1)
unfolding sixteen pushes
listed_more us vs i list w l h p g =
    let xs = rows i (withdrawal_there us) in
    let x = withdrawal_there us i in
    let n : length xs ≡ i = length_rows i (withdrawal_there us) in
    let one = pushes_sixteen (x ∷ []) xs 0 (omega arith) in
    let m = sym n in
    let q = g ∙ ap (λ ys. coded_withdrawal (withdrawal.value ys)) p in
    (λ j. set (h j) (m j) (q j))
    ∙ ap (λ e. e.list) one
    ∙ ap (λ ys. map coded_withdrawal (padded 16 ys)) (sym (rw add-one (rows_snoc i (withdrawal_there us))))

-- the handed list is the list that was put into the records
handed_back : (n : ℕ) (xs : List rule.Withdrawal) → length xs ≤ n
    → padded (length xs) (map plain_withdrawal (map coded_withdrawal (padded n xs))) ≡ xs
unfolding padded
handed_back n [] h = refl
handed_back zero (x ∷ xs) h = absurd (not-suc-le-zero h)
handed_back (suc n) (x ∷ xs) h = ap {B = List rule.Withdrawal} (λ ys. x ∷ ys) (handed_back n xs (le_of_suc-le-suc h))

module _ (us vs : List ℕ) (n i : ℕ) (list : List Withdrawal) (l : list ≡ listed_there us i) (f : i ≤ n) (g : n ≤ i)
    (s : n ≤ 16) where
  handed : handed_list list n ≡ rows n (withdrawal_there us)
  unfolding handed_list
  handed =
      let q : i ≡ n = omega arith in
      let m = length_rows n (withdrawal_there us) in
      let xs = rows n (withdrawal_there us) in
      ap (λ a. padded n (map plain_withdrawal a)) (l ∙ ap (listed_there us) q)
      ∙ ap (λ a. padded a (map plain_withdrawal (map coded_withdrawal (padded 16 xs)))) (sym m)
      ∙ handed_back 16 xs (omega arith)

  pub list_blank : list ≡ map coded_withdrawal (padded 16 (handed_list list n))
  list_blank =
      let q : i ≡ n = omega arith in
      l ∙ ap (listed_there us) q ∙ ap (λ xs. map coded_withdrawal (padded 16 xs)) (sym handed)

  pub withdrawals_read : call.ok us ≡ true → code_of us ≡ 8 → vs ≡ drop 1 us → n ≡ count_at vs 0
      → withdrawals (handed_list list n) ≡ call.value us
  withdrawals_read e h p c = ap withdrawals handed ∙ withdrawals_value us vs n e h p c
