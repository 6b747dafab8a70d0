-- Calls that can be written, and how many words each has with its code.
use Rattle.std.specs.Prelude.{◌≡◌, Bool, true, false, List, [], ◌∷◌, ◌++◌, ℕ, ◌+◌, ◌*◌, ◌^◌, ◌≤◌, ◌<◌, length}
use Rattle.std.proofs.Math.Path.{refl}
use Rattle.std.proofs.Common.{◌∙◌, arith, length-append, eq-eqb}
use Rattle.lists.specs.Base.{every}
use Rattle.lists.specs.Laws.{join}
use Rattle.rules.specs.Calls.{Operation, reward, penalty, deposit_receipt, voluntary_exit, withdrawal_request}
use Rattle.rules.specs.Calls.{consolidation, turn}
use Rattle.file_format.specs.Words.{word, is_byte}
use Rattle.file_format.specs.Fields.{number, field, flag, field_words}
use Rattle.file_format.specs.Calls.{signature, amount_fields, call}
use Rattle.file_format.proofs.FieldsLaws.{number_fits}
use Rattle.file_format.proofs.AccessLaws.{field_length}
use Rattle.file_format.specs.PutLaws.{put}
use Rattle.file_stores.specs.Laws.{put_next, put_length}

-- the call o can be written, in w words
pub record Fits (o : Operation) (w : ℕ) : Type 0 where
  pub domain : call.domain o ≡ true
  pub words : length (call.write o) ≡ w

signature_fits : (b : Bool) → signature.domain b ≡ true
unfolding flag
signature_fits true = refl
signature_fits false = refl

pub field_fits : (n : ℕ) (xs : List ℕ) → length xs ≡ n → every is_byte xs ≡ true → (field n).domain xs ≡ true
unfolding field
field_fits n xs l b = join (eq-eqb (length xs) n l) b

pub turn_fits : Fits turn 1
unfolding call
turn_fits = record { domain = refl; words = refl }

pub turn_put : (out mid : List ℕ) (k : ℕ) → mid ≡ put out k (word 9 7 ∷ []) → mid ≡ put out k (call.write turn)
unfolding call
turn_put out mid k e = e

module _ (i amount : ℕ) (p : i < 2 ^ 64) (q : amount < 2 ^ 64) where
  pub reward_fits : Fits (reward i amount) 7
  unfolding call number
  reward_fits = record { domain = join (number_fits i p) (number_fits amount q); words = refl }

  pub penalty_fits : Fits (penalty i amount) 7
  unfolding call number
  penalty_fits = record { domain = join (number_fits i p) (number_fits amount q); words = refl }

pub amount_put : (out o₁ o₂ o₃ : List ℕ) (k code i amount : ℕ) → (k + 7) * 4 ≤ length out
    → o₁ ≡ put out k (word 9 code ∷ []) → o₂ ≡ put o₁ (k + 1) (number.write i)
    → o₃ ≡ put o₂ (k + 4) (number.write amount)
    → o₃ ≡ put out k (word 9 code ∷ amount_fields.write (i, amount))
unfolding number
amount_put out o₁ o₂ o₃ k code i amount h e₁ e₂ e₃ =
    let one = word 9 code in
    let a = put_next out o₁ o₂ k (k + 1) (one ∷ []) (number.write i) e₁ e₂ refl (omega arith) in
    put_next out o₂ o₃ k (k + 4) (one ∷ number.write i) (number.write amount) a e₃ refl (omega arith)

module _ (out mid : List ℕ) (k i amount : ℕ) where
  pub reward_put : mid ≡ put out k (word 9 1 ∷ amount_fields.write (i, amount))
      → mid ≡ put out k (call.write (reward i amount))
  unfolding call
  reward_put e = e

  pub penalty_put : mid ≡ put out k (word 9 2 ∷ amount_fields.write (i, amount))
      → mid ≡ put out k (call.write (penalty i amount))
  unfolding call
  penalty_put e = e

pub exit_fits : (i epoch : ℕ) (valid : Bool) → i < 2 ^ 64 → epoch < 2 ^ 64 → Fits (voluntary_exit i epoch valid) 8
unfolding call number flag
exit_fits i epoch valid p q = record {
  domain = join (number_fits i p) (join (number_fits epoch q) (signature_fits valid));
  words = refl;
}

pub exit_put : (out o₁ o₂ o₃ o₄ : List ℕ) (k i epoch : ℕ) (valid : Bool) → (k + 8) * 4 ≤ length out
    → o₁ ≡ put out k (word 9 4 ∷ []) → o₂ ≡ put o₁ (k + 1) (number.write i)
    → o₃ ≡ put o₂ (k + 4) (number.write epoch) → o₄ ≡ put o₃ (k + 7) (signature.write valid)
    → o₄ ≡ put out k (call.write (voluntary_exit i epoch valid))
unfolding call number flag
exit_put out o₁ o₂ o₃ o₄ k i epoch valid h e₁ e₂ e₃ e₄ =
    let one = word 9 4 in
    let numbers = number.write i ++ number.write epoch in
    let a = put_next out o₁ o₂ k (k + 1) (one ∷ []) (number.write i) e₁ e₂ refl (omega arith) in
    let b = put_next out o₂ o₃ k (k + 4) (one ∷ number.write i) (number.write epoch) a e₃ refl (omega arith) in
    put_next out o₃ o₄ k (k + 7) (one ∷ numbers) (signature.write valid) b e₄ refl (omega arith)

pub consolidation_fits : (source target epoch : ℕ) (valid : Bool) → source < 2 ^ 64 → target < 2 ^ 64 → epoch < 2 ^ 64
    → Fits (consolidation source target epoch valid) 11
unfolding call number flag
consolidation_fits source target epoch valid p q r = record {
  domain =
      join (number_fits source p)
      (join (number_fits target q) (join (number_fits epoch r) (signature_fits valid)));
  words = refl;
}

pub consolidation_put : (out o₁ o₂ o₃ o₄ o₅ : List ℕ) (k source target epoch : ℕ) (valid : Bool)
    → (k + 11) * 4 ≤ length out
    → o₁ ≡ put out k (word 9 6 ∷ []) → o₂ ≡ put o₁ (k + 1) (number.write source)
    → o₃ ≡ put o₂ (k + 4) (number.write target) → o₄ ≡ put o₃ (k + 7) (number.write epoch)
    → o₅ ≡ put o₄ (k + 10) (signature.write valid)
    → o₅ ≡ put out k (call.write (consolidation source target epoch valid))
unfolding call number flag
consolidation_put out o₁ o₂ o₃ o₄ o₅ k source target epoch valid h e₁ e₂ e₃ e₄ e₅ =
    let one = word 9 6 in
    let s = number.write source in
    let t = number.write target in
    let u = number.write epoch in
    let a = put_next out o₁ o₂ k (k + 1) (one ∷ []) s e₁ e₂ refl (omega arith) in
    let b = put_next out o₂ o₃ k (k + 4) (one ∷ s) t a e₃ refl (omega arith) in
    let c = put_next out o₃ o₄ k (k + 7) (one ∷ (s ++ t)) u b e₄ refl (omega arith) in
    put_next out o₄ o₅ k (k + 10) (one ∷ (s ++ (t ++ u))) (signature.write valid) c e₅ refl (omega arith)

pub receipt_fits : (key credentials : List ℕ) (amount index : ℕ) (valid : Bool) → length key ≡ 48
    → every is_byte key ≡ true → length credentials ≡ 32 → every is_byte credentials ≡ true → amount < 2 ^ 64
    → index < 2 ^ 64 → Fits (deposit_receipt key credentials amount index valid) 35
unfolding call field number flag
receipt_fits key credentials amount index valid l b m c p q =
    let k = field_words key in
    let d = field_words credentials in
    let others = number.write amount ++ (number.write index ++ signature.write valid) in
    record {
      domain =
          join (field_fits 48 key l b)
          (join (field_fits 32 credentials m c)
          (join (number_fits amount p) (join (number_fits index q) (signature_fits valid))));
      words =
          omega (
            arith,
            length-append k (d ++ others),
            length-append d others,
            field_length key,
            field_length credentials,
          );
    }

pub receipt_put : (out o₁ o₂ o₃ o₄ o₅ o₆ : List ℕ) (k : ℕ) (key credentials : List ℕ) (amount index : ℕ) (valid : Bool)
    → length key ≡ 48 → length credentials ≡ 32 → (k + 35) * 4 ≤ length out
    → o₁ ≡ put out k (word 9 3 ∷ []) → o₂ ≡ put o₁ (k + 1) (field_words key)
    → o₃ ≡ put o₂ (k + 17) (field_words credentials) → o₄ ≡ put o₃ (k + 28) (number.write amount)
    → o₅ ≡ put o₄ (k + 31) (number.write index) → o₆ ≡ put o₅ (k + 34) (signature.write valid)
    → o₆ ≡ put out k (call.write (deposit_receipt key credentials amount index valid))
unfolding call field number flag
receipt_put out o₁ o₂ o₃ o₄ o₅ o₆ k key credentials amount index valid l m h e₁ e₂ e₃ e₄ e₅ e₆ =
    let one = word 9 3 ∷ [] in
    let b = field_words key in
    let c = field_words credentials in
    let a = number.write amount in
    let i = number.write index in
    let others = a ++ (i ++ signature.write valid) in
    let x : length b ≡ 16 = omega (arith, field_length key) in
    let y : length c ≡ 11 = omega (arith, field_length credentials) in
    let l₁ : length o₁ ≡ length out = put_length out o₁ k one e₁ (omega arith) in
    let l₂ : length o₂ ≡ length out = put_length o₁ o₂ (k + 1) b e₂ (omega arith) ∙ l₁ in
    let l₃ : length o₃ ≡ length out = put_length o₂ o₃ (k + 17) c e₃ (omega arith) ∙ l₂ in
    let f₅ = put_next o₃ o₄ o₅ (k + 28) (k + 31) a i e₄ e₅ (omega arith) (omega arith) in
    let f₄ = put_next o₃ o₅ o₆ (k + 28) (k + 34) (a ++ i) (signature.write valid) f₅ e₆ (omega arith) (omega arith) in
    let f₃ = put_next o₂ o₃ o₆ (k + 17) (k + 28) c others e₃ f₄ (omega arith) (omega arith) in
    let f₂ =
    put_next o₁ o₂ o₆ (k + 1) (k + 17) b (c ++ others) e₂ f₃ (omega arith) (omega (arith, length-append c others)) in
    put_next out o₁ o₆ k (k + 1) one (b ++ (c ++ others)) e₁ f₂ refl
    (omega (arith, length-append b (c ++ others), length-append c others))

pub request_fits : (address key : List ℕ) (amount : ℕ) → length address ≡ 20 → every is_byte address ≡ true
    → length key ≡ 48 → every is_byte key ≡ true → amount < 2 ^ 64 → Fits (withdrawal_request address key amount) 27
unfolding call field number
request_fits address key amount l b m c p =
    let a = field_words address in
    let k = field_words key in
    record {
      domain = join (field_fits 20 address l b) (join (field_fits 48 key m c) (number_fits amount p));
      words =
          omega (
            arith,
            length-append a (k ++ number.write amount),
            length-append k (number.write amount),
            field_length address,
            field_length key,
          );
    }

pub request_put : (out o₁ o₂ o₃ o₄ : List ℕ) (k : ℕ) (address key : List ℕ) (amount : ℕ)
    → length address ≡ 20 → length key ≡ 48 → (k + 27) * 4 ≤ length out
    → o₁ ≡ put out k (word 9 5 ∷ []) → o₂ ≡ put o₁ (k + 1) (field_words address)
    → o₃ ≡ put o₂ (k + 8) (field_words key) → o₄ ≡ put o₃ (k + 24) (number.write amount)
    → o₄ ≡ put out k (call.write (withdrawal_request address key amount))
unfolding call field number
request_put out o₁ o₂ o₃ o₄ k address key amount l m h e₁ e₂ e₃ e₄ =
    let one = word 9 5 ∷ [] in
    let b = field_words address in
    let c = field_words key in
    let a = number.write amount in
    let x : length b ≡ 7 = omega (arith, field_length address) in
    let y : length c ≡ 16 = omega (arith, field_length key) in
    let l₁ : length o₁ ≡ length out = put_length out o₁ k one e₁ (omega arith) in
    let l₂ : length o₂ ≡ length out = put_length o₁ o₂ (k + 1) b e₂ (omega arith) ∙ l₁ in
    let f₃ = put_next o₂ o₃ o₄ (k + 8) (k + 24) c a e₃ e₄ (omega arith) (omega arith) in
    let f₂ = put_next o₁ o₂ o₄ (k + 1) (k + 8) b (c ++ a) e₂ f₃ (omega arith) (omega (arith, length-append c a)) in
    put_next out o₁ o₄ k (k + 1) one (b ++ (c ++ a)) e₁ f₂ refl
    (omega (arith, length-append b (c ++ a), length-append c a))
