-- The books file read by places is the books file read from the front.
use Rattle.std.specs.Prelude.{◌≡◌, refl, true, ◌&&◌, List, [], ◌∷◌, ℕ, zero, suc, ◌+◌, ◌*◌, ◌/◌, ◌%◌, ◌^◌, ◌<◌, length}
use Rattle.std.specs.Prelude.{get_or, take, drop}
use Rattle.std.proofs.Common.{sym, ◌∙◌, not-suc-le-zero, add-zero, arith, drop-drop, get_or-drop, take-suc}
use Rattle.std.proofs.Math.Path.{ap}
use Rattle.std.proofs.Math.Nat.{mod-add-mod}
use Rattle.std.proofs.Math.Dec.{eqb}
use Rattle.lists.specs.Base.{when◌then◌else◌, total}
use Rattle.lists.specs.Laws.{both, total_append}
use Rattle.rules.specs.Profiles.{settings_from}
use Rattle.file_format.specs.Words.{word, payload, is_word, wrapping_sum, words}
use Rattle.file_format.specs.Fields.{Format, number, flag, field, field_value, many}
use Rattle.file_format.specs.Books.{settings, validator, validator_of, deposit, partial}
use Rattle.file_format.specs.Books.{consolidation, list_of, books, books_from, books_format}
use Rattle.file_format.specs.Places.{number_at, count_at, deposits_place, partials_place, consolidations_place}
use Rattle.file_format.specs.Places.{end_place, listed_ok, settings_at, books_at}
use Rattle.file_format.specs.PlacesLaws.{byte_at, Good, GoodValidator}
use Rattle.tables.specs.Rows.{rows}
use Rattle.file_format.proofs.AccessLaws.{Fixed, fixed_at, fixed_number, fixed_flag, fixed_key, fixed_credentials}
use Rattle.file_format.proofs.AccessLaws.{fixed_numbers, fixed_validator, fixed_deposit, fixed_partial}
use Rattle.file_format.proofs.AccessLaws.{fixed_consolidation, many_value_at, many_good}
use Rattle.file_format.proofs.AccessLaws.{list_rest, list_value, list_ok, list_long}

-- ---- bytes of the file, and of a field

pub length_words : (bs : List ℕ) → length (words bs) ≡ length bs / 4
length_words [] = refl
length_words (a ∷ []) = refl
length_words (a ∷ b ∷ []) = refl
length_words (a ∷ b ∷ c ∷ []) = refl
length_words (a ∷ b ∷ c ∷ d ∷ bs) = omega (arith, length_words bs)

-- word k is made of bytes 4 k to 4 k + 3
pub word_at : (bs : List ℕ) (k : ℕ) → k < length bs / 4
    → get_or (words bs) k 0
    ≡ get_or bs (k * 4) 0
    + get_or bs (k * 4 + 1) 0 * 256
    + get_or bs (k * 4 + 2) 0 * 65536
    + get_or bs (k * 4 + 3) 0 * 16777216
word_at [] k h = let z : ⊥ = omega arith in absurd z
word_at (a ∷ []) k h = let z : ⊥ = omega arith in absurd z
word_at (a ∷ b ∷ []) k h = let z : ⊥ = omega arith in absurd z
word_at (a ∷ b ∷ c ∷ []) k h = let z : ⊥ = omega arith in absurd z
word_at (a ∷ b ∷ c ∷ d ∷ bs) zero h = refl
word_at (a ∷ b ∷ c ∷ d ∷ bs) (suc k) h =
    let e₀ : suc k * 4 ≡ suc (suc (suc (suc (k * 4)))) = omega arith in
    let e₁ : suc k * 4 + 1 ≡ suc (suc (suc (suc (k * 4 + 1)))) = omega arith in
    let e₂ : suc k * 4 + 2 ≡ suc (suc (suc (suc (k * 4 + 2)))) = omega arith in
    let e₃ : suc k * 4 + 3 ≡ suc (suc (suc (suc (k * 4 + 3)))) = omega arith in
    rw (e₁, e₂, e₃, e₀) (word_at bs k (omega arith))

byte_later : (ws : List ℕ) (j : ℕ) → byte_at (drop 1 ws) j ≡ byte_at ws (suc (suc (suc j)))
byte_later ws j =
    let p : suc (suc (suc j)) / 3 ≡ 1 + j / 3 = omega arith in
    let q : suc (suc (suc j)) % 3 ≡ j % 3 = omega arith in
    let w = get_or-drop 1 ws (j / 3) 0 in
    rw (p, q, w)

pub field_at : (n j : ℕ) (ws : List ℕ) → j < n → get_or (field_value n ws) j 0 ≡ byte_at ws j
unfolding when◌then◌else◌
field_at zero j ws h = absurd (not-suc-le-zero h)
field_at (suc zero) zero ws h = refl
field_at (suc zero) (suc j) ws h = let z : ⊥ = omega arith in absurd z
field_at (suc (suc zero)) zero ws h = refl
field_at (suc (suc zero)) (suc zero) ws h = refl
field_at (suc (suc zero)) (suc (suc j)) ws h = let z : ⊥ = omega arith in absurd z
field_at (suc (suc (suc n))) zero ws h = refl
field_at (suc (suc (suc n))) (suc zero) ws h = refl
field_at (suc (suc (suc n))) (suc (suc zero)) ws h = refl
field_at (suc (suc (suc n))) (suc (suc (suc j))) ws h = field_at n j (drop 1 ws) (omega arith) ∙ byte_later ws j

-- ---- the end word's sum, for a loop

pub sum_step : (ws : List ℕ) (i : ℕ) → i < length ws
    → (wrapping_sum (take i ws) + get_or ws i 0) % 2 ^ 32 ≡ wrapping_sum (take (suc i) ws)
sum_step ws i h =
    let sum : List ℕ → ℕ = total (λ w. w) in
    let e : sum (take (suc i) ws) ≡ sum (take i ws) + get_or ws i 0 =
    ap sum (take-suc ws i 0 h) ∙ total_append (λ w. w) (take i ws) (get_or ws i 0 ∷ []) ∙ omega arith in
    rw e (mod-add-mod (sum (take i ws)) (2 ^ 32) (get_or ws i 0))

-- ---- numbers, and a validator

-- number j of n numbers from word k on
pub numbers_at : (n k : ℕ) (ws : List ℕ)
    → (many number n).value (drop k ws) ≡ rows n (λ j. number_at ws (k + j * 3))
numbers_at n k ws =
    many_value_at number 3 fixed_number n (drop k ws)
    ∙ (λ i. rows n (λ j. number.value (drop-drop (j * 3) k ws i)))

pub number_words_at : (ws : List ℕ) (k : ℕ)
    → number_at ws k
    ≡ payload (get_or ws k 0) + payload (get_or ws (k + 1) 0) * 2 ^ 28 + payload (get_or ws (k + 2) 0) * 2 ^ 56
unfolding number
number_words_at ws k = simp (get_or-drop, add-zero)

pub validator_at : (ws : List ℕ) → validator.value ws ≡ record {
  public_key = (field 48).value ws;
  withdrawal_credentials = (field 32).value (drop 16 ws);
  slashed = flag.value (drop 27 ws);
  effective_balance = number_at ws 28;
  activation_eligibility_epoch = number_at ws 31;
  activation_epoch = number_at ws 34;
  exit_epoch = number_at ws 37;
  withdrawable_epoch = number_at ws 40;
  balance = number_at ws 43;
}
unfolding validator rows
validator_at ws =
    let a = fixed_key.rest ws in
    let b = ap (field 32).rest a ∙ fixed_at fixed_credentials 16 ws in
    let c = ap flag.rest b ∙ fixed_at fixed_flag 27 ws in
    let n = ap (many number 6).value c ∙ numbers_at 6 28 ws in
    λ j. validator_of ((field 48).value ws, ((field 32).value (a j), (flag.value (b j), n j)))

-- ---- the whole file

module _ (ws : List ℕ) where
  scalars_behind : settings.rest (drop 1 ws) ≡ drop 58 ws
  unfolding settings
  scalars_behind = fixed_at (fixed_numbers 19) 1 ws

  validators_behind : (many number 9).rest (settings.rest (drop 1 ws)) ≡ drop 85 ws
  validators_behind = ap (many number 9).rest scalars_behind ∙ fixed_at (fixed_numbers 9) 58 ws

  abbrev after_validators : List ℕ
  after_validators = (list_of validator).rest ((many number 9).rest (settings.rest (drop 1 ws)))

  deposits_behind : after_validators ≡ drop (deposits_place ws) ws
  deposits_behind = ap (list_of validator).rest validators_behind ∙ list_rest validator 46 fixed_validator 85 ws

  partials_behind : (list_of deposit).rest after_validators ≡ drop (partials_place ws) ws
  partials_behind =
      ap (list_of deposit).rest deposits_behind ∙ list_rest deposit 6 fixed_deposit (deposits_place ws) ws

  consolidations_behind : (list_of partial).rest ((list_of deposit).rest after_validators)
      ≡ drop (consolidations_place ws) ws
  consolidations_behind =
      ap (list_of partial).rest partials_behind ∙ list_rest partial 9 fixed_partial (partials_place ws) ws

  pub books_rest : books_format.rest ws ≡ drop (end_place ws) ws
  unfolding books_format settings books
  books_rest =
      ap (list_of consolidation).rest consolidations_behind
      ∙ list_rest consolidation 6 fixed_consolidation (consolidations_place ws) ws

  pub books_value : books_format.value ws ≡ (settings_at ws, books_at ws)
  unfolding books_format settings books
  books_value =
      let s = numbers_at 19 1 ws in
      let x = ap (many number 9).value scalars_behind ∙ numbers_at 9 58 ws in
      let v = ap (list_of validator).value validators_behind ∙ list_value validator 46 fixed_validator 85 ws in
      let d =
      ap (list_of deposit).value deposits_behind ∙ list_value deposit 6 fixed_deposit (deposits_place ws) ws in
      let p =
      ap (list_of partial).value partials_behind ∙ list_value partial 9 fixed_partial (partials_place ws) ws in
      let c =
      ap (list_of consolidation).value consolidations_behind
      ∙ list_value consolidation 6 fixed_consolidation (consolidations_place ws) ws in
      λ j. (settings_from (s j), books_from (x j, (v j, (d j, (p j, c j)))))

  pub books_ok : books_format.ok ws
      ≡ eqb (get_or ws 0 0) (word 1 1)
      && ((many number 19).ok (drop 1 ws)
      && ((many number 9).ok (drop 58 ws)
      && (listed_ok validator 85 ws
      && (listed_ok deposit (deposits_place ws) ws
      && (listed_ok partial (partials_place ws) ws && listed_ok consolidation (consolidations_place ws) ws)))))
  unfolding books_format settings books
  books_ok =
      let head = eqb (get_or ws 0 0) (word 1 1) in
      let s = (many number 19).ok (drop 1 ws) in
      let v = ap (list_of validator).ok validators_behind ∙ list_ok validator 46 fixed_validator 85 ws in
      let d = ap (list_of deposit).ok deposits_behind ∙ list_ok deposit 6 fixed_deposit (deposits_place ws) ws in
      let p = ap (list_of partial).ok partials_behind ∙ list_ok partial 9 fixed_partial (partials_place ws) ws in
      let c =
      ap (list_of consolidation).ok consolidations_behind
      ∙ list_ok consolidation 6 fixed_consolidation (consolidations_place ws) ws in
      λ j. head && (s && ((many number 9).ok (scalars_behind j) && (v j && (d j && (p j && c j)))))

-- ---- a file that was judged good

pub good : (ws : List ℕ) → books_format.ok ws ≡ true → Good ws
good ws e =
    let a = both (eqb (get_or ws 0 0) (word 1 1)) _ (sym (books_ok ws) ∙ e) in
    let b = both ((many number 19).ok (drop 1 ws)) _ a.1 in
    let c = both ((many number 9).ok (drop 58 ws)) _ b.1 in
    let d = both (listed_ok validator 85 ws) _ c.1 in
    let f = both (listed_ok deposit (deposits_place ws) ws) _ d.1 in
    let last = listed_ok consolidation (consolidations_place ws) ws in
    let g = both (listed_ok partial (partials_place ws) ws) last f.1 in
    let p = consolidations_place ws in
    let l = list_ok consolidation 6 fixed_consolidation p ws ∙ g.1 in
    record {
      settings_good = b.0;
      scalars_good = c.0;
      validators_good = d.0;
      deposits_good = f.0;
      partials_good = g.0;
      consolidations_good = g.1;
      long = list_long consolidation 6 fixed_consolidation p ws l;
    }

-- record i of a counted list
pub listed_good : {A : Type 0} (F : Format A) (n : ℕ) → Fixed F n → (p i : ℕ) (ws : List ℕ)
    → listed_ok F p ws ≡ true → i < count_at ws p → F.ok (drop (p + 1 + i * n) ws) ≡ true
listed_good F n f p i ws e h =
    let count_ok = is_word 2 (2 ^ 28) (get_or ws p 0) in
    let s = both count_ok ((many F (count_at ws p)).ok (drop (p + 1) ws)) e in
    ap F.ok (sym (drop-drop (i * n) (p + 1) ws)) ∙ many_good F n f (count_at ws p) i (drop (p + 1) ws) h s.1

-- number j of n numbers from word k on
pub numbers_good : (n k j : ℕ) (ws : List ℕ) → j < n → (many number n).ok (drop k ws) ≡ true
    → number.ok (drop (k + j * 3) ws) ≡ true
numbers_good n k j ws h e =
    ap number.ok (sym (drop-drop (j * 3) k ws)) ∙ many_good number 3 fixed_number n j (drop k ws) h e

pub good_validator : (ws : List ℕ) → validator.ok ws ≡ true → GoodValidator ws
unfolding validator
good_validator ws e =
    let a = fixed_key.rest ws in
    let b = ap (field 32).rest a ∙ fixed_at fixed_credentials 16 ws in
    let c = ap flag.rest b ∙ fixed_at fixed_flag 27 ws in
    let after_key = (field 48).rest ws in
    let after_credentials = (field 32).rest after_key in
    let s = both ((field 48).ok ws) _ e in
    let t = both ((field 32).ok after_key) _ s.1 in
    let u = both (flag.ok after_credentials) ((many number 6).ok (flag.rest after_credentials)) t.1 in
    record {
      key = s.0;
      credentials = ap (field 32).ok (sym a) ∙ t.0;
      slashed = ap flag.ok (sym b) ∙ u.0;
      numbers = λ j h. numbers_good 6 28 j ws h (ap (many number 6).ok (sym c) ∙ u.1);
    }
