-- Formats: how a value stands in the words of a file. The fields of the file, and the ways to make a format of others.
use Rattle.std.specs.Prelude.{Bool, true, ◌&&◌, List, [], ◌∷◌, ◌++◌, ℕ, zero, suc, ◌+◌, ◌*◌, ◌/◌, ◌%◌, ◌^◌, length}
use Rattle.std.specs.Prelude.{get_or, drop, ltb, eqb}
use Rattle.lists.specs.Base.{every}
use Rattle.file_format.specs.Words.{word, payload, is_word, is_byte}

-- A reader judges words first (`ok`), and only then takes the value. A word behind the end reads as 0, which is of no
-- kind, so there are no tests of length.
pub record Format (A : Type 0) : Type 0 where
  -- the values that can be written, and their words
  pub domain : A → Bool
  pub write : A → List ℕ
  -- whether these words begin with a value; the value, and the words behind it
  pub ok : List ℕ → Bool
  pub value : List ℕ → A
  pub rest : List ℕ → List ℕ

-- ---- a number: kinds 3, 4, 5 with the low 28 bits, the next 28, the top 8

abbrev pub number_words : ℕ → List ℕ
number_words n = word 3 (n % 2 ^ 28) ∷ word 4 (n / 2 ^ 28 % 2 ^ 28) ∷ word 5 (n / 2 ^ 28 / 2 ^ 28) ∷ []

unfoldable pub number : Format ℕ
number = record {
  domain = λ n. ltb n (2 ^ 64);
  write = number_words;
  ok = λ ws.
      is_word 3 (2 ^ 28) (get_or ws 0 0) && (is_word 4 (2 ^ 28) (get_or ws 1 0) && is_word 5 (2 ^ 8) (get_or ws 2 0));
  value = λ ws. payload (get_or ws 0 0) + payload (get_or ws 1 0) * 2 ^ 28 + payload (get_or ws 2 0) * 2 ^ 56;
  rest = drop 3;
}

-- ---- a field of n bytes: kind 6, three bytes in the low 24 bits, first highest; the last word ends in zero bytes

abbrev pub three_bytes : (a b c : ℕ) → ℕ
three_bytes a b c = word 6 ((a * 256 + b) * 256 + c)

abbrev pub is_three_bytes : ℕ → Bool
is_three_bytes w = is_word 6 (2 ^ 24) w

abbrev pub first : ℕ → ℕ
first w = payload w / 256 / 256

abbrev pub second : ℕ → ℕ
second w = payload w / 256 % 256

abbrev pub third : ℕ → ℕ
third w = payload w % 256

abbrev pub field_words : List ℕ → List ℕ
field_words [] = []
field_words (a ∷ []) = three_bytes a 0 0 ∷ []
field_words (a ∷ b ∷ []) = three_bytes a b 0 ∷ []
field_words (a ∷ b ∷ c ∷ xs) = three_bytes a b c ∷ field_words xs

abbrev pub field_ok : ℕ → List ℕ → Bool
field_ok zero ws = true
field_ok (suc zero) ws =
    let w = get_or ws 0 0 in
    is_three_bytes w && (eqb (second w) 0 && eqb (third w) 0)
field_ok (suc (suc zero)) ws =
    let w = get_or ws 0 0 in
    is_three_bytes w && eqb (third w) 0
field_ok (suc (suc (suc n))) ws = is_three_bytes (get_or ws 0 0) && field_ok n (drop 1 ws)

abbrev pub field_value : ℕ → List ℕ → List ℕ
field_value zero ws = []
field_value (suc zero) ws = first (get_or ws 0 0) ∷ []
field_value (suc (suc zero)) ws =
    let w = get_or ws 0 0 in
    first w ∷ second w ∷ []
field_value (suc (suc (suc n))) ws =
    let w = get_or ws 0 0 in
    first w ∷ second w ∷ third w ∷ field_value n (drop 1 ws)

abbrev pub field_rest : ℕ → List ℕ → List ℕ
field_rest zero ws = ws
field_rest (suc zero) ws = drop 1 ws
field_rest (suc (suc zero)) ws = drop 1 ws
field_rest (suc (suc (suc n))) ws = field_rest n (drop 1 ws)

abbrev pub is_field : ℕ → List ℕ → Bool
is_field n xs = eqb (length xs) n && every is_byte xs

unfoldable pub field : ℕ → Format (List ℕ)
field n = record {
  domain = is_field n;
  write = field_words;
  ok = field_ok n;
  value = field_value n;
  rest = field_rest n;
}

-- ---- a flag: kind 7, 0 or 1

unfoldable pub flag : Format ℕ
flag = record {
  domain = λ n. ltb n 2;
  write = λ n. word 7 n ∷ [];
  ok = λ ws. is_word 7 2 (get_or ws 0 0);
  value = λ ws. payload (get_or ws 0 0);
  rest = drop 1;
}

-- ---- one after another, and a record by its parts

module _ {A B : Type 0} where
  infixr 60 ◌⊗◌
  abbrev pub ◌⊗◌ : Format A → Format B → Format (A × B)
  F ⊗ G = record {
    domain = λ p. F.domain p.0 && G.domain p.1;
    write = λ p. F.write p.0 ++ G.write p.1;
    ok = λ ws. F.ok ws && G.ok (F.rest ws);
    value = λ ws. (F.value ws, G.value (F.rest ws));
    rest = λ ws. G.rest (F.rest ws);
  }

  -- `parts` takes a value apart, `of` puts it together
  abbrev pub by_parts : Format A → (parts : B → A) (of : A → B) → Format B
  by_parts F parts of = record {
    domain = λ b. F.domain (parts b);
    write = λ b. F.write (parts b);
    ok = F.ok;
    value = λ ws. of (F.value ws);
    rest = F.rest;
  }

-- ---- n values of one format

abbrev pub each : {A : Type 0} → (A → List ℕ) → List A → List ℕ
each f [] = []
each f (x ∷ xs) = f x ++ each f xs

module _ {A : Type 0} (F : Format A) where
  -- behind a `let`, so that the first record that is not ok ends it
  abbrev pub many_ok : ℕ → List ℕ → Bool
  many_ok zero ws = true
  many_ok (suc n) ws =
      let others = many_ok n (F.rest ws) in
      F.ok ws && others

  abbrev pub many_value : ℕ → List ℕ → List A
  many_value zero ws = []
  many_value (suc n) ws = F.value ws ∷ many_value n (F.rest ws)

  abbrev pub many_rest : ℕ → List ℕ → List ℕ
  many_rest zero ws = ws
  many_rest (suc n) ws = many_rest n (F.rest ws)

  unfoldable pub many : ℕ → Format (List A)
  many n = record {
    domain = λ xs. eqb (length xs) n && every F.domain xs;
    write = each F.write;
    ok = many_ok n;
    value = many_value n;
    rest = many_rest n;
  }

-- ---- a word whose payload, below the limit, says what follows

abbrev pub coded : {A : Type 0} (kind limit : ℕ) (formats : ℕ → Format A) (code : A → ℕ) → Format A
coded kind limit formats code = record {
  domain = λ a. ltb (code a) limit && (formats (code a)).domain a;
  write = λ a. word kind (code a) ∷ (formats (code a)).write a;
  ok = λ ws.
      let w = get_or ws 0 0 in
      let follows = (formats (payload w)).ok (drop 1 ws) in
      is_word kind limit w && follows;
  value = λ ws. (formats (payload (get_or ws 0 0))).value (drop 1 ws);
  rest = λ ws. (formats (payload (get_or ws 0 0))).rest (drop 1 ws);
}

-- a count, kind 2, and as many values
abbrev pub counted : {A : Type 0} (limit : ℕ) → Format A → Format (List A)
counted limit F = coded 2 limit (many F) length

-- a head, kind 1, and what it announces
abbrev pub headed : {A : Type 0} (head : ℕ) → Format A → Format A
headed head F = record {
  domain = F.domain;
  write = λ a. word 1 head ∷ F.write a;
  ok = λ ws.
      let follows = F.ok (drop 1 ws) in
      eqb (get_or ws 0 0) (word 1 head) && follows;
  value = λ ws. F.value (drop 1 ws);
  rest = λ ws. F.rest (drop 1 ws);
}
