-- Random access: a format at word k of a file is that format over `drop k ws`. Formats that take n words, whatever they
-- hold, stand one behind another at places that can be computed.
use Rattle.std.specs.Prelude.{◌≡◌, true, ◌&&◌, List, [], ◌∷◌, get_or, drop}
use Rattle.std.proofs.Math.Path.{refl, sym, ap}
use Rattle.std.proofs.Common.{◌∙◌, le_of_suc-le-suc, not-suc-le-zero, add-zero, zero-add, suc-add, length-append}
use Rattle.std.proofs.Common.{drop-drop, get_or-drop}
use Rattle.std.proofs.Math.Bool.{false}
use Prim.Native.Nat.{ℕ, zero, suc, ◌+◌, ◌*◌, ◌/◌, ◌^◌, ◌≤◌, ◌<◌}
use native.Mathlib.Omega.{arith}
use Rattle.std.proofs.Math.ListN.{length, length-drop}
use Rattle.lists.specs.Laws.{both, and_false, and_true, and_assoc}
use Rattle.file_format.specs.Words.{payload, is_word}
use Rattle.file_format.specs.Fields.{Format, ◌⊗◌, number, flag, field, field_words, field_ok, field_value}
use Rattle.file_format.specs.Fields.{field_rest, many}
use Rattle.file_format.specs.Books.{validator, deposit, partial, consolidation, list_of}
use Rattle.tables.specs.Rows.{rows}
use Rattle.file_format.proofs.FieldsLaws.{first_word, field_only, number_only}

-- ---- formats that take n words

pub record Fixed {A : Type 0} (F : Format A) (n : ℕ) : Type 0 where
  pub rest : (ws : List ℕ) → F.rest ws ≡ drop n ws
  -- fewer words are no value
  pub long : (ws : List ℕ) → F.ok ws ≡ true → n ≤ length ws

-- the words behind F at word k start at word k + n
pub fixed_at : {A : Type 0} {F : Format A} {n : ℕ} → Fixed F n → (k : ℕ) (ws : List ℕ)
    → F.rest (drop k ws) ≡ drop (k + n) ws
fixed_at {n} f k ws = f.rest (drop k ws) ∙ drop-drop n k ws

pub fixed_pair : {A B : Type 0} {F : Format A} {G : Format B} {m n : ℕ} → Fixed F m → Fixed G n → Fixed (F ⊗ G) (m + n)
fixed_pair {F} {G} {m} {n} f g = record {
  rest = λ ws. g.rest (F.rest ws) ∙ ap (drop n) (f.rest ws) ∙ drop-drop n m ws;
  long = λ ws e.
      let s = both (F.ok ws) (G.ok (F.rest ws)) e in
      let p = f.long ws s.0 in
      let q = g.long (F.rest ws) s.1 in
      omega (arith, ap length (f.rest ws), length-drop m ws);
}

one_word : (kind limit : ℕ) → 0 < kind → (ws : List ℕ) → is_word kind limit (get_or ws 0 0) ≡ true → 1 ≤ length ws
one_word kind limit h ws e = omega (arith, ap length (first_word kind limit h ws e))

pub fixed_number : Fixed number 3
unfolding number
fixed_number = record {
  rest = λ ws. refl;
  long = λ ws e. omega (arith, ap length (number_only ws e).same);
}

pub fixed_flag : Fixed flag 1
unfolding flag
fixed_flag = record { rest = λ ws. refl; long = one_word 7 2 (omega arith) }

pub field_length : (xs : List ℕ) → length (field_words xs) ≡ (length xs + 2) / 3
field_length [] = refl
field_length (a ∷ []) = refl
field_length (a ∷ b ∷ []) = refl
field_length (a ∷ b ∷ c ∷ xs) = omega (arith, field_length xs)

field_long : (n : ℕ) (ws : List ℕ) → field_ok n ws ≡ true → (n + 2) / 3 ≤ length ws
field_long n ws e =
    let s = field_only n ws e in
    let xs = field_value n ws in
    omega (arith, s.0, field_length xs, ap length s.2, length-append (field_words xs) (field_rest n ws))

-- a key, credentials, an address
pub fixed_key : Fixed (field 48) 16
unfolding field
fixed_key = record { rest = λ ws. simp drop-drop; long = field_long 48 }

pub fixed_credentials : Fixed (field 32) 11
unfolding field
fixed_credentials = record { rest = λ ws. simp drop-drop; long = field_long 32 }

pub fixed_address : Fixed (field 20) 7
unfolding field
fixed_address = record { rest = λ ws. simp drop-drop; long = field_long 20 }

-- ---- k records of n words

drop_none : {A : Type 0} (n : ℕ) (ws : List A) → drop (0 * n) ws ≡ ws
drop_none n ws =
    let e : 0 * n ≡ 0 = omega arith in
    rw e

drop_more : {A : Type 0} (i n : ℕ) (ws : List A) → drop (i * n) (drop n ws) ≡ drop (suc i * n) ws
drop_more i n ws =
    let e : suc i * n ≡ n + i * n = omega arith in
    rw e (drop-drop (i * n) n ws)

module _ {A : Type 0} (F : Format A) (n : ℕ) (f : Fixed F n) where
  -- record i behind the first is record i + 1
  later : (i : ℕ) (ws : List ℕ) → drop (i * n) (F.rest ws) ≡ drop (suc i * n) ws
  later i ws = ap (drop (i * n)) (f.rest ws) ∙ drop_more i n ws

  many_rest_at : (k : ℕ) (ws : List ℕ) → (many F k).rest ws ≡ drop (k * n) ws
  unfolding many
  many_rest_at zero ws = sym (drop_none n ws)
  many_rest_at (suc k) ws = many_rest_at k (F.rest ws) ∙ later k ws

  many_long : (k : ℕ) (ws : List ℕ) → (many F k).ok ws ≡ true → k * n ≤ length ws
  unfolding many
  many_long zero ws e = omega arith
  many_long (suc k) ws e =
      let s = both (F.ok ws) ((many F k).ok (F.rest ws)) e in
      let p = f.long ws s.0 in
      let q = many_long k (F.rest ws) s.1 in
      omega (arith, ap length (f.rest ws), length-drop n ws)

  pub fixed_many : (k : ℕ) → Fixed (many F k) (k * n)
  fixed_many k = record { rest = many_rest_at k; long = many_long k }

  -- record i stands at word i * n
  pub many_value_at : (k : ℕ) (ws : List ℕ) → (many F k).value ws ≡ rows k (λ i. F.value (drop (i * n) ws))
  unfolding many rows
  many_value_at zero ws = refl
  many_value_at (suc k) ws =
      let z = sym (drop_none n ws) in
      let more = many_value_at k (F.rest ws) ∙ (λ j. rows k (λ i. F.value (later i ws j))) in
      λ j. F.value (z j) ∷ more j

  -- for a loop that judges the records in order
  pub many_step : (k : ℕ) (ws : List ℕ) → (many F (suc k)).ok ws ≡ (many F k).ok ws && F.ok (drop (k * n) ws)
  unfolding many
  many_step zero ws = and_true (F.ok ws) ∙ ap F.ok (sym (drop_none n ws))
  many_step (suc k) ws =
      let first = F.ok ws in
      let middle = (many F k).ok (F.rest ws) in
      ap (λ t. first && t) (many_step k (F.rest ws))
      ∙ and_assoc first middle (F.ok (drop (k * n) (F.rest ws)))
      ∙ ap (λ us. first && middle && F.ok us) (later k ws)

  pub many_broken : (k i : ℕ) (ws : List ℕ) → i < k → F.ok (drop (i * n) ws) ≡ false → (many F k).ok ws ≡ false
  unfolding many
  many_broken zero i ws h e = absurd (not-suc-le-zero h)
  many_broken (suc k) zero ws h e =
      let z : F.ok ws ≡ false = rw drop_none at e in
      rw z
  many_broken (suc k) (suc i) ws h e =
      let z = many_broken k i (F.rest ws) (le_of_suc-le-suc h) (rw later e) in
      and_false (F.ok ws) ((many F k).ok (F.rest ws)) z

  -- what was judged good together is good one by one
  pub many_good : (k i : ℕ) (ws : List ℕ) → i < k → (many F k).ok ws ≡ true → F.ok (drop (i * n) ws) ≡ true
  unfolding many
  many_good zero i ws h e = absurd (not-suc-le-zero h)
  many_good (suc k) zero ws h e = rw drop_none (both (F.ok ws) ((many F k).ok (F.rest ws)) e).0
  many_good (suc k) (suc i) ws h e =
      let s = both (F.ok ws) ((many F k).ok (F.rest ws)) e in
      rw (← later i ws) (many_good k i (F.rest ws) (le_of_suc-le-suc h) s.1)

  -- a + b records are a records, then b records
  pub many_split : (a b : ℕ) (ws : List ℕ)
      → (many F (a + b)).ok ws ≡ (many F a).ok ws && (many F b).ok (drop (a * n) ws)
  unfolding many
  many_split zero b ws = (λ j. (many F (zero-add b j)).ok ws) ∙ ap (many F b).ok (sym (drop_none n ws))
  many_split (suc a) b ws =
      let first = F.ok ws in
      let middle = (many F a).ok (F.rest ws) in
      (λ j. (many F (suc-add a b j)).ok ws)
      ∙ ap (λ t. first && t) (many_split a b (F.rest ws))
      ∙ and_assoc first middle ((many F b).ok (drop (a * n) (F.rest ws)))
      ∙ ap (λ us. first && middle && (many F b).ok us) (later a ws)

-- k records of m numbers each are k * m numbers
pub many_numbers : {A : Type 0} (F : Format A) (m : ℕ) → ((ws : List ℕ) → F.ok ws ≡ (many number m).ok ws)
    → Fixed F (m * 3) → (k : ℕ) (ws : List ℕ) → (many F k).ok ws ≡ (many number (k * m)).ok ws
unfolding many
many_numbers F m h f zero ws =
    let e : 0 * m ≡ 0 = omega arith in
    rw e
many_numbers F m h f (suc k) ws =
    let e : suc k * m ≡ m + k * m = omega arith in
    let a = h ws in
    let b = many_numbers F m h f k (F.rest ws) ∙ ap (many number (k * m)).ok (f.rest ws) in
    rw e ((λ j. a j && b j) ∙ sym (many_split number 3 fixed_number m (k * m) ws))

-- ---- the records of the books file

pub fixed_numbers : (k : ℕ) → Fixed (many number k) (k * 3)
fixed_numbers k = fixed_many number 3 fixed_number k

pub fixed_validator : Fixed validator 46
unfolding validator
fixed_validator =
    let f = fixed_pair fixed_key (fixed_pair fixed_credentials (fixed_pair fixed_flag (fixed_numbers 6))) in
    record { rest = f.rest; long = f.long }

pub fixed_deposit : Fixed deposit 6
unfolding deposit
fixed_deposit = record { rest = (fixed_numbers 2).rest; long = (fixed_numbers 2).long }

pub fixed_partial : Fixed partial 9
unfolding partial
fixed_partial = record { rest = (fixed_numbers 3).rest; long = (fixed_numbers 3).long }

pub fixed_consolidation : Fixed consolidation 6
unfolding consolidation
fixed_consolidation = record { rest = (fixed_numbers 2).rest; long = (fixed_numbers 2).long }

-- ---- a counted list whose count stands at word p

pub get_d_at : (p : ℕ) (ws : List ℕ) → get_or (drop p ws) 0 0 ≡ get_or ws p 0
get_d_at p ws = get_or-drop p ws 0 0 ∙ ap (λ k. get_or ws k 0) (add-zero p)

module _ {A : Type 0} (F : Format A) (n : ℕ) (f : Fixed F n) (p : ℕ) (ws : List ℕ) where
  abbrev count_there : ℕ
  count_there = payload (get_or ws p 0)

  pub list_rest : (list_of F).rest (drop p ws) ≡ drop (p + 1 + payload (get_or ws p 0) * n) ws
  list_rest =
      let w = get_d_at p ws in
      let d = drop-drop 1 p ws in
      (λ j. (many F (payload (w j))).rest (d j))
      ∙ (fixed_many F n f count_there).rest (drop (p + 1) ws)
      ∙ drop-drop (count_there * n) (p + 1) ws

  pub list_value : (list_of F).value (drop p ws)
      ≡ rows (payload (get_or ws p 0)) (λ i. F.value (drop (p + 1 + i * n) ws))
  list_value =
      let w = get_d_at p ws in
      let d = drop-drop 1 p ws in
      (λ j. (many F (payload (w j))).value (d j))
      ∙ many_value_at F n f count_there (drop (p + 1) ws)
      ∙ (λ j. rows count_there (λ i. F.value (drop-drop (i * n) (p + 1) ws j)))

  pub list_ok : (list_of F).ok (drop p ws)
      ≡ is_word 2 (2 ^ 28) (get_or ws p 0) && (many F (payload (get_or ws p 0))).ok (drop (p + 1) ws)
  list_ok =
      let w = get_d_at p ws in
      let d = drop-drop 1 p ws in
      λ j. is_word 2 (2 ^ 28) (w j) && (many F (payload (w j))).ok (d j)

  -- a list that is judged good lies within the file
  pub list_long : (list_of F).ok (drop p ws) ≡ true → p + 1 + payload (get_or ws p 0) * n ≤ length ws
  list_long e =
      let count_ok = is_word 2 (2 ^ 28) (get_or ws p 0) in
      let s = both count_ok ((many F count_there).ok (drop (p + 1) ws)) (sym list_ok ∙ e) in
      let a : is_word 2 (2 ^ 28) (get_or (drop p ws) 0 0) ≡ true = ap (is_word 2 (2 ^ 28)) (get_d_at p ws) ∙ s.0 in
      let u = one_word 2 (2 ^ 28) (omega arith) (drop p ws) a in
      let v = (fixed_many F n f count_there).long (drop (p + 1) ws) s.1 in
      omega (arith, length-drop p ws, length-drop (p + 1) ws)
