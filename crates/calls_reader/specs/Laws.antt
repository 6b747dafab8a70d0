-- The facts that the judging functions are proved by.
use Rattle.std.specs.Prelude.{◌≡◌, refl, Bool, true, false, not, ◌&&◌, List, ℕ, zero, suc, ◌+◌, ◌-◌, ◌*◌, ◌%◌}
use Rattle.std.specs.Prelude.{◌^◌, ◌≤◌, ◌<◌, length, get_or, drop, eqb}
use Rattle.std.proofs.Math.Path.{sym, ap}
use Rattle.std.proofs.Common.{◌∙◌, arith}
use Rattle.std.proofs.lemmas.Bool.{not-true, not-false}
use Rattle.lists.specs.Laws.{and_true, and_assoc}
use Rattle.file_format.specs.Words.{words, payload, is_word}
use Rattle.file_format.specs.Fields.{Format, ◌⊗◌, number, flag, field, many}
use Rattle.file_format.specs.File.{ends, file_ok}
use Rattle.file_format.specs.Places.{count_at}
use Rattle.file_format.specs.Calls.{signature, amount_fields, receipt_fields, exit_fields, request_fields}
use Rattle.file_format.specs.Calls.{consolidation_fields, withdrawal, withdrawals_fields, call_format, call}
use Rattle.file_format.specs.Calls.{calls_format}
use Rattle.file_format.proofs.AccessLaws.{Fixed, fixed_at, fixed_number, fixed_key, fixed_credentials, fixed_address}
use Rattle.calls_reader.specs.Widths.{fields_width, code_of, call_ok, call_rest}
use Rattle.calls_reader.specs.Calls.{calls_ok_at, calls_rest_at}

-- ---- one field after another: F of n words at word k, then G

then_ok : {A B : Type 0} {F : Format A} {n : ℕ} → Fixed F n → (G : Format B) (k : ℕ) (us : List ℕ)
    → (F ⊗ G).ok (drop k us) ≡ F.ok (drop k us) && G.ok (drop (k + n) us)
then_ok {F} f G k us = ap (λ vs. F.ok (drop k us) && G.ok vs) (fixed_at f k us)

module _ (k : ℕ) (us : List ℕ) where
  two_numbers : (many number 2).ok (drop k us) ≡ number.ok (drop k us) && number.ok (drop (k + 3) us)
  unfolding many
  two_numbers =
      ap (λ t. number.ok (drop k us) && t) (and_true _ ∙ ap number.ok (fixed_at fixed_number k us))

  three_numbers : (many number 3).ok (drop k us) ≡ number.ok (drop k us) && (many number 2).ok (drop (k + 3) us)
  unfolding many
  three_numbers =
      let n = number.ok (drop k us) in
      ap (λ vs. n && (many number 2).ok vs) (fixed_at fixed_number k us)

  -- two numbers, then G
  two_then : {B : Type 0} (G : Format B)
      → (number ⊗ number ⊗ G).ok (drop k us) ≡ (many number 2).ok (drop k us) && G.ok (drop (k + 6) us)
  two_then G =
      let p : k + 3 + 3 ≡ k + 6 = omega arith in
      let m = number.ok (drop k us) in
      let n = number.ok (drop (k + 3) us) in
      let g = G.ok (drop (k + 6) us) in
      then_ok fixed_number (number ⊗ G) k us
      ∙ ap (λ t. m && t) (then_ok fixed_number G (k + 3) us ∙ ap (λ q. n && G.ok (drop q us)) p)
      ∙ and_assoc m n g
      ∙ ap (λ t. t && g) (sym two_numbers)

-- three numbers, then G
three_then : {B : Type 0} (G : Format B) (us : List ℕ)
    → (number ⊗ number ⊗ number ⊗ G).ok us ≡ (many number 3).ok us && G.ok (drop 9 us)
three_then G us =
    let m = number.ok us in
    let n = (many number 2).ok (drop 3 us) in
    let g = G.ok (drop 9 us) in
    then_ok fixed_number (number ⊗ number ⊗ G) 0 us
    ∙ ap (λ t. m && t) (two_then 3 us G)
    ∙ and_assoc m n g
    ∙ ap (λ t. t && g) (sym (three_numbers 0 us))

-- ---- the fields of each call, and a withdrawal; vs are the words behind the first fields, xs and ys those further on

amount_judged : (us : List ℕ) (r : Bool) → r ≡ (many number 2).ok us → r ≡ amount_fields.ok us
amount_judged us r e = e ∙ two_numbers 0 us ∙ sym (then_ok fixed_number number 0 us)

pub exit_judged : (us vs : List ℕ) (a b r : Bool) → vs ≡ drop 6 us → a ≡ (many number 2).ok us → b ≡ flag.ok vs
    → r ≡ a && b → r ≡ exit_fields.ok us
exit_judged us vs a b r p e f g = g ∙ (λ i. e i && (f ∙ ap flag.ok p) i) ∙ sym (two_then 0 us signature)

pub consolidation_judged : (us vs : List ℕ) (a b r : Bool) → vs ≡ drop 9 us → a ≡ (many number 3).ok us
    → b ≡ flag.ok vs → r ≡ a && b → r ≡ consolidation_fields.ok us
consolidation_judged us vs a b r p e f g = g ∙ (λ i. e i && (f ∙ ap flag.ok p) i) ∙ sym (three_then signature us)

pub receipt_judged : (us vs xs ys : List ℕ) (a b c d s t r : Bool) → vs ≡ drop 16 us → xs ≡ drop 27 us
    → ys ≡ drop 33 us → a ≡ (field 48).ok us → b ≡ (field 32).ok vs → c ≡ (many number 2).ok xs → d ≡ flag.ok ys
    → s ≡ c && d → t ≡ b && s → r ≡ a && t → r ≡ receipt_fields.ok us
receipt_judged us vs xs ys a b c d s t r p₁ p₂ p₃ e₁ e₂ e₃ e₄ e₅ e₆ e₇ =
    let key = (field 48).ok us in
    let credentials = (field 32).ok (drop 16 us) in
    let y =
    then_ok fixed_credentials (number ⊗ number ⊗ signature) 16 us
    ∙ ap (λ u. credentials && u) (two_then 27 us signature) in
    let z = then_ok fixed_key (field 32 ⊗ number ⊗ number ⊗ signature) 0 us ∙ ap (λ u. key && u) y in
    let u = e₅ ∙ (λ i. (e₃ ∙ ap (many number 2).ok p₂) i && (e₄ ∙ ap flag.ok p₃) i) in
    let v = e₆ ∙ (λ i. (e₂ ∙ ap (field 32).ok p₁) i && u i) in
    e₇ ∙ (λ i. e₁ i && v i) ∙ sym z

pub request_judged : (us vs xs : List ℕ) (a b c s r : Bool) → vs ≡ drop 7 us → xs ≡ drop 23 us
    → a ≡ (field 20).ok us → b ≡ (field 48).ok vs → c ≡ number.ok xs → s ≡ b && c → r ≡ a && s
    → r ≡ request_fields.ok us
request_judged us vs xs a b c s r p₁ p₂ e₁ e₂ e₃ e₄ e₅ =
    let address = (field 20).ok us in
    let z =
    then_ok fixed_address (field 48 ⊗ number) 0 us ∙ ap (λ u. address && u) (then_ok fixed_key number 7 us) in
    let u = e₄ ∙ (λ i. (e₂ ∙ ap (field 48).ok p₁) i && (e₃ ∙ ap number.ok p₂) i) in
    e₅ ∙ (λ i. e₁ i && u i) ∙ sym z

pub withdrawal_judged : (us vs xs : List ℕ) (a b c s r : Bool) → vs ≡ drop 6 us → xs ≡ drop 13 us
    → a ≡ (many number 2).ok us → b ≡ (field 20).ok vs → c ≡ number.ok xs → s ≡ b && c → r ≡ a && s
    → r ≡ withdrawal.ok us
unfolding withdrawal
withdrawal_judged us vs xs a b c s r p₁ p₂ e₁ e₂ e₃ e₄ e₅ =
    let numbers = (many number 2).ok us in
    let z = two_then 0 us (field 20 ⊗ number) ∙ ap (λ u. numbers && u) (then_ok fixed_address number 6 us) in
    let u = e₄ ∙ (λ i. (e₂ ∙ ap (field 20).ok p₁) i && (e₃ ∙ ap number.ok p₂) i) in
    e₅ ∙ (λ i. e₁ i && u i) ∙ sym z

-- ---- the fields behind a code

unfoldable pub fields_ok : (code : ℕ) → List ℕ → Bool
fields_ok code us = (call_format code).ok us

module _ (us : List ℕ) (code : ℕ) (r : Bool) where
  -- the code is c
  fields_known : (c : ℕ) → code ≡ c → r ≡ (call_format c).ok us → r ≡ fields_ok code us
  unfolding fields_ok
  fields_known c e h = h ∙ ap (λ n. (call_format n).ok us) (sym e)

  pub fields_1 : code ≡ 1 → r ≡ (many number 2).ok us → r ≡ fields_ok code us
  fields_1 e h = fields_known 1 e (amount_judged us r h)

  pub fields_2 : code ≡ 2 → r ≡ (many number 2).ok us → r ≡ fields_ok code us
  fields_2 e h = fields_known 2 e (amount_judged us r h)

  pub fields_3 : code ≡ 3 → r ≡ receipt_fields.ok us → r ≡ fields_ok code us
  fields_3 = fields_known 3

  pub fields_4 : code ≡ 4 → r ≡ exit_fields.ok us → r ≡ fields_ok code us
  fields_4 = fields_known 4

  pub fields_5 : code ≡ 5 → r ≡ request_fields.ok us → r ≡ fields_ok code us
  fields_5 = fields_known 5

  pub fields_6 : code ≡ 6 → r ≡ consolidation_fields.ok us → r ≡ fields_ok code us
  fields_6 = fields_known 6

  pub fields_8 : code ≡ 8 → r ≡ withdrawals_fields.ok us → r ≡ fields_ok code us
  fields_8 = fields_known 8

pub fields_7 : (us : List ℕ) (code : ℕ) → code ≡ 7 → true ≡ fields_ok code us
fields_7 us code e = fields_known us code true 7 e refl

-- no call has this code
pub fields_none : (us : List ℕ) (code : ℕ) → (code ≡ 1 → ⊥) → (code ≡ 2 → ⊥) → (code ≡ 3 → ⊥) → (code ≡ 4 → ⊥)
    → (code ≡ 5 → ⊥) → (code ≡ 6 → ⊥) → (code ≡ 7 → ⊥) → (code ≡ 8 → ⊥) → false ≡ fields_ok code us
unfolding fields_ok
fields_none us zero a b c d e f g h = refl
fields_none us (suc zero) a b c d e f g h = absurd (a refl)
fields_none us (suc (suc zero)) a b c d e f g h = absurd (b refl)
fields_none us (suc (suc (suc zero))) a b c d e f g h = absurd (c refl)
fields_none us (suc (suc (suc (suc zero)))) a b c d e f g h = absurd (d refl)
fields_none us (suc (suc (suc (suc (suc zero))))) a b c d e f g h = absurd (e refl)
fields_none us (suc (suc (suc (suc (suc (suc zero)))))) a b c d e f g h = absurd (f refl)
fields_none us (suc (suc (suc (suc (suc (suc (suc zero))))))) a b c d e f g h = absurd (g refl)
fields_none us (suc (suc (suc (suc (suc (suc (suc (suc zero)))))))) a b c d e f g h = absurd (h refl)
fields_none us (suc (suc (suc (suc (suc (suc (suc (suc (suc n))))))))) a b c d e f g h = refl

module _ (us : List ℕ) (code : ℕ) where
  pub width_1 : code ≡ 1 → 6 ≡ fields_width code us
  unfolding fields_width
  width_1 e = rw e

  pub width_2 : code ≡ 2 → 6 ≡ fields_width code us
  unfolding fields_width
  width_2 e = rw e

  pub width_3 : code ≡ 3 → 34 ≡ fields_width code us
  unfolding fields_width
  width_3 e = rw e

  pub width_4 : code ≡ 4 → 7 ≡ fields_width code us
  unfolding fields_width
  width_4 e = rw e

  pub width_5 : code ≡ 5 → 26 ≡ fields_width code us
  unfolding fields_width
  width_5 e = rw e

  pub width_6 : code ≡ 6 → 10 ≡ fields_width code us
  unfolding fields_width
  width_6 e = rw e

pub withdrawals_width : (us : List ℕ) (code n : ℕ) → code ≡ 8 → n ≡ count_at us 0 → 1 + n * 16 ≡ fields_width code us
unfolding fields_width
withdrawals_width us code n e h = rw e (ap (λ m. 1 + m * 16) h)

-- a turn, or no call
pub width_none : (us : List ℕ) (code : ℕ) → (code ≡ 1 → ⊥) → (code ≡ 2 → ⊥) → (code ≡ 3 → ⊥) → (code ≡ 4 → ⊥)
    → (code ≡ 5 → ⊥) → (code ≡ 6 → ⊥) → (code ≡ 8 → ⊥) → 0 ≡ fields_width code us
unfolding fields_width
width_none us zero a b c d e f h = refl
width_none us (suc zero) a b c d e f h = absurd (a refl)
width_none us (suc (suc zero)) a b c d e f h = absurd (b refl)
width_none us (suc (suc (suc zero))) a b c d e f h = absurd (c refl)
width_none us (suc (suc (suc (suc zero)))) a b c d e f h = absurd (d refl)
width_none us (suc (suc (suc (suc (suc zero))))) a b c d e f h = absurd (e refl)
width_none us (suc (suc (suc (suc (suc (suc zero)))))) a b c d e f h = absurd (f refl)
width_none us (suc (suc (suc (suc (suc (suc (suc zero))))))) a b c d e f h = refl
width_none us (suc (suc (suc (suc (suc (suc (suc (suc zero)))))))) a b c d e f h = absurd (h refl)
width_none us (suc (suc (suc (suc (suc (suc (suc (suc (suc n))))))))) a b c d e f h = refl

-- ---- the call

pub call_judged : (us vs : List ℕ) (w : ℕ) (a b r : Bool) → vs ≡ drop 1 us → w ≡ get_or us 0 0 → a ≡ is_word 9 9 w
    → b ≡ fields_ok (w % 2 ^ 28) vs → r ≡ a && b → r ≡ call.ok us
unfolding fields_ok
call_judged us vs w a b r p e f g h =
    h
    ∙ (λ j. f j && g j)
    ∙ (λ j. is_word 9 9 (e j) && (call_format (payload (e j))).ok (p j))
    ∙ sym (call_ok us)

-- the words behind it: vs are those of its fields, xs what is left of them
pub next_found : (us vs xs : List ℕ) (c n : ℕ) → c ≡ code_of us → vs ≡ drop 1 us → n ≡ fields_width c vs
    → xs ≡ drop n vs → xs ≡ call.rest us
next_found us vs xs c n e p h q =
    let m : n ≡ fields_width (code_of us) (drop 1 us) = h ∙ (λ j. fields_width (e j) (p j)) in
    q ∙ (λ j. drop (m j) (p j)) ∙ sym (call_rest us)

-- ---- n calls, then the end word of the words ws

unfoldable pub calls_end_ok : (ws : List ℕ) (n : ℕ) (us : List ℕ) → Bool
calls_end_ok ws n us = (many call n).ok us && ends ws ((many call n).rest us)

pub calls_end_stopped : (ws : List ℕ) (n i : ℕ) (us : List ℕ) (r : Bool) (b : Bool) → i < n
    → calls_end_ok ws (n - i) us ≡ b → r ≡ call.ok us → not r ≡ true → false ≡ b
unfolding calls_end_ok many
calls_end_stopped ws n i us r b l e h g =
    let m : n - i ≡ suc (n - (i + 1)) = omega arith in
    let no : call.ok us ≡ false = sym h ∙ not-true r g in
    let f = rw m at e in
    rw no at f

pub calls_end_more : (ws : List ℕ) (n i : ℕ) (us next : List ℕ) (r : Bool) (b : Bool) → i < n
    → calls_end_ok ws (n - i) us ≡ b → r ≡ call.ok us → not r ≡ false → next ≡ call.rest us
    → calls_end_ok ws (n - (i + 1)) next ≡ b
unfolding calls_end_ok many
calls_end_more ws n i us next r b l e h g q =
    let m : n - i ≡ suc (n - (i + 1)) = omega arith in
    let yes : call.ok us ≡ true = sym h ∙ not-false r g in
    let f = rw m at e in
    let p = rw yes at f in
    ap (λ vs. (many call (n - (i + 1))).ok vs && ends ws ((many call (n - (i + 1))).rest vs)) q ∙ p

pub calls_end_done : (ws : List ℕ) (n i : ℕ) (us : List ℕ) (r b : Bool) → n ≤ i → calls_end_ok ws (n - i) us ≡ b
    → r ≡ ends ws us → r ≡ b
unfolding calls_end_ok many
calls_end_done ws n i us r b l e h =
    let m : n - i ≡ 0 = omega arith in
    h ∙ (rw m at e)

-- ---- the file

pub file_judged : (bs : List ℕ) (w x c : ℕ) (a z s t r : Bool) → w ≡ get_or (words bs) 0 0 → x ≡ get_or (words bs) 1 0
    → a ≡ is_word 2 10000 x → c ≡ count_at (words bs) 1 → z ≡ calls_end_ok (words bs) c (drop 2 (words bs))
    → s ≡ a && z → t ≡ eqb w 0x10000002 && s → r ≡ eqb (length bs % 4) 0 && t → r ≡ file_ok calls_format bs
unfolding file_ok calls_end_ok
file_judged bs w x c a z s t r e₁ e₂ e₃ e₄ e₅ e₆ e₇ e₈ =
    let ws = words bs in
    let n = count_at ws 1 in
    let head = eqb (get_or ws 0 0) 0x10000002 in
    let count_ok = is_word 2 10000 (get_or ws 1 0) in
    let calls_ok = (many call n).ok (drop 2 ws) in
    let end_ok = ends ws ((many call n).rest (drop 2 ws)) in
    let p = e₃ ∙ ap (is_word 2 10000) e₂ in
    let q = e₅ ∙ ap (λ m. (many call m).ok (drop 2 ws) && ends ws ((many call m).rest (drop 2 ws))) e₄ in
    let u = e₆ ∙ (λ j. p j && q j) in
    let v = e₇ ∙ (λ j. eqb (e₁ j) 0x10000002 && u j) in
    let regroup =
    ap (λ b. head && b) (and_assoc count_ok calls_ok end_ok) ∙ and_assoc head (count_ok && calls_ok) end_ok in
    let k = sym (calls_ok_at ws) in
    let l = ap (ends ws) (sym (calls_rest_at ws)) in
    e₈ ∙ ap (λ b. eqb (length bs % 4) 0 && b) (v ∙ regroup ∙ (λ j. k j && l j))
