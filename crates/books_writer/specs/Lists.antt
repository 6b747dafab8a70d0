-- Records and counted lists: how many words they have, and their words put one behind another.
use Rattle.std.specs.Prelude.{◌≡◌, true, List, [], ◌∷◌, ◌++◌, ℕ, ◌+◌, ◌*◌, ◌≤◌, ◌<◌, length}
use Rattle.std.proofs.Math.Path.{refl, ap}
use Rattle.std.proofs.Common.{sym, ◌∙◌, length-append, leb-true}
use native.Mathlib.Omega.{arith}
use Rattle.lists.specs.Base.{every}
use Rattle.tables.specs.Rows.{rows, length_rows}
use Rattle.tables.specs.Tests.{every_row}
use Rattle.rules.specs.Types as rule
use Rattle.rules.specs.Acceptance.{is_flag}
use Rattle.records.specs.Layout.{validator_at, slashed_at}
use Rattle.records.specs.Layout.{identities_fit}
use Rattle.records.specs.Stores.{key_length, credentials_length}
use Rattle.records.specs.declared.validator.Validator.{Validator}
use Rattle.records.specs.Plain.{plain_validator}
use Rattle.file_format.specs.Words.{word}
use Rattle.file_format.specs.Fields.{Format, number, flag, field, field_words, each, many}
use Rattle.file_format.specs.Books.{validator, validator_parts, list_of}
use Rattle.file_format.proofs.AccessLaws.{field_length}
use Rattle.file_format.specs.PutLaws.{put}
use Rattle.file_stores.specs.Laws.{put_none, put_next, put_length, put_row, each_length}

-- ---- how many words a record has

pub validator_length : (v : rule.Validator) → length v.public_key ≡ 48 → length v.withdrawal_credentials ≡ 32
    → length (validator.write v) ≡ 46
unfolding validator field flag many number
validator_length v p q =
    let key = field_words v.public_key in
    let credentials = field_words v.withdrawal_credentials in
    let numbers = each number.write (validator_parts v).1.1.1 in
    let rest = flag.write v.slashed ++ numbers in
    omega (
      arith,
      length-append key (credentials ++ rest),
      length-append credentials rest,
      field_length v.public_key,
      field_length v.withdrawal_credentials,
    )

-- a validator within the table of identities
pub validator_at_length : (ids ws : List ℕ) (i : ℕ) → i < identities_fit ids
    → length (validator.write (validator_at ids ws i)) ≡ 46
validator_at_length ids ws i h =
    validator_length (validator_at ids ws i) (key_length ids i h) (credentials_length ids i h)

-- ---- one record put

-- its numbers, behind the flag
abbrev pub six_numbers : Validator → List ℕ
six_numbers v =
    v.effective_balance.0
    ∷ v.activation_eligibility_epoch.0
    ∷ v.activation_epoch.0
    ∷ v.exit_epoch.0
    ∷ v.withdrawable_epoch.0
    ∷ v.balance.0
    ∷ []

pub validator_put : (out o₁ o₂ o₃ o₄ : List ℕ) (k : ℕ) (v : Validator)
    → length v.public_key ≡ 48 → length v.withdrawal_credentials ≡ 32 → (k + 46) * 4 ≤ length out
    → o₁ ≡ put out k (field_words v.public_key)
    → o₂ ≡ put o₁ (k + 16) (field_words v.withdrawal_credentials)
    → o₃ ≡ put o₂ (k + 27) (flag.write v.slashed)
    → o₄ ≡ put o₃ (k + 28) (each number.write (six_numbers v))
    → o₄ ≡ put out k (validator.write (plain_validator v))
unfolding validator field flag many number
validator_put out o₁ o₂ o₃ o₄ k v p q h e₁ e₂ e₃ e₄ =
    let key = field_words v.public_key in
    let credentials = field_words v.withdrawal_credentials in
    let slashed = flag.write v.slashed in
    let numbers = each number.write (six_numbers v) in
    let a : length key ≡ 16 = omega (arith, field_length v.public_key) in
    let b : length credentials ≡ 11 = omega (arith, field_length v.withdrawal_credentials) in
    let l₁ : length o₁ ≡ length out = put_length out o₁ k key e₁ (omega arith) in
    let l₂ : length o₂ ≡ length out = put_length o₁ o₂ (k + 16) credentials e₂ (omega arith) ∙ l₁ in
    let f₃ = put_next o₂ o₃ o₄ (k + 27) (k + 28) slashed numbers e₃ e₄ (omega arith) (omega arith) in
    let m = length-append slashed numbers in
    let n = length-append credentials (slashed ++ numbers) in
    let f₂ =
    put_next o₁ o₂ o₄ (k + 16) (k + 27) credentials (slashed ++ numbers) e₂ f₃ (omega arith) (omega arith) in
    put_next out o₁ o₄ k (k + 16) key (credentials ++ (slashed ++ numbers)) e₁ f₂ (omega arith) (omega arith)

-- ---- a counted list

module _ {A : Type 0} (F : Format A) (m n : ℕ) (g : ℕ → A) (size : (i : ℕ) → i < n → length (F.write (g i)) ≡ m) where
  pub list_length : length ((list_of F).write (rows n g)) ≡ 1 + n * m
  unfolding many
  list_length = omega (arith, each_length F.write m n g size n (omega arith))

-- the words of the first i records
unfoldable pub first_records : {A : Type 0} → Format A → (ℕ → A) → ℕ → List ℕ
first_records F g i = each F.write (rows i g)

pub records_none : {A : Type 0} (F : Format A) (g : ℕ → A) (out : List ℕ) (k : ℕ)
    → out ≡ put out k (first_records F g 0)
unfolding first_records rows
records_none F g out k = put_none out k

module _ {A : Type 0} (F : Format A) (m n : ℕ) (g : ℕ → A) (size : (i : ℕ) → i < n → length (F.write (g i)) ≡ m) where
  pub records_more : (out mid last : List ℕ) (k i : ℕ) (x : A) → i < n → (k + n * m) * 4 ≤ length out
      → mid ≡ put out k (first_records F g i) → x ≡ g i → last ≡ put mid (k + i * m) (F.write x)
      → last ≡ put out k (first_records F g (i + 1))
  unfolding first_records
  records_more out mid last k i x h room e q f =
      put_row F.write m n g size out mid last k i (k + i * m) h room refl e
      (f ∙ ap (λ y. put mid (k + i * m) (F.write y)) q)

  -- the count, then all of them
  pub records_done : (out mid last : List ℕ) (k i : ℕ) → i ≤ n → n ≤ i → (k + 1 + n * m) * 4 ≤ length out
      → mid ≡ put out k (word 2 n ∷ []) → last ≡ put mid (k + 1) (first_records F g i)
      → last ≡ put out k ((list_of F).write (rows n g))
  unfolding first_records many
  records_done out mid last k i h l room e f =
      let q : i ≡ n = omega arith in
      let ws = each F.write (rows n g) in
      let s = each_length F.write m n g size n (omega arith) in
      let f' = f ∙ ap (λ j. put mid (k + 1) (each F.write (rows j g))) q in
      put_next out mid last k (k + 1) (word 2 n ∷ []) ws e f' refl (omega arith)
      ∙ ap (λ c. put out k (word 2 c ∷ ws)) (sym (length_rows n g))

-- the flag of a validator that was read from the tables
pub flag_small : (ids ws : List ℕ) (n i : ℕ) (v : Validator) → plain_validator v ≡ validator_at ids ws i
    → every is_flag (rows n (validator_at ids ws)) ≡ true → i < n → v.slashed < 2
flag_small ids ws n i v q e h =
    let same : v.slashed ≡ slashed_at ws i = ap (λ x. x.slashed) q in
    let s = leb-true (slashed_at ws i) 1 (every_row is_flag n (validator_at ids ws) e i h) in
    omega arith
