-- What is written is read, and only what is written is read: each format of Fields, and each way to make one of others.
use Rattle.std.specs.Prelude.{◌≡◌, Bool, true, false, ◌&&◌, ℕ, zero, suc, ◌+◌, ◌*◌, ◌/◌, ◌%◌, ◌^◌, ◌≤◌, ◌<◌, length}
use Rattle.std.specs.Prelude.{get_or, drop, ltb, eqb}
use Rattle.std.proofs.Math.Path.{refl, ap, subst}
use Rattle.std.proofs.Common.{sym, ◌∙◌, arith, ltb-true, eqb-true, lt-ltb, eq-eqb}
use mathlib.Core.List.{List, [], ◌∷◌, ◌++◌, append_assoc}
use Rattle.lists.specs.Base.{every}
use Rattle.lists.specs.Laws.{both, join, every_append}
use Rattle.file_format.specs.Words.{word, payload, is_word, is_byte}
use Rattle.file_format.specs.Fields.{Format, number, number_words, flag, field, field_words, field_ok}
use Rattle.file_format.specs.Fields.{field_value, field_rest, three_bytes, is_three_bytes, first, second, third}
use Rattle.file_format.specs.Fields.{◌⊗◌, by_parts, each, many, many_ok, many_value, many_rest}
use Rattle.file_format.specs.Fields.{coded, counted, headed}

-- ---- the laws of a format

-- a word fits into 32 bits
abbrev pub fits : ℕ → Bool
fits w = ltb w (2 ^ 32)

-- a is written in words, and read from its words with any words behind them
pub record Kept {A : Type 0} (F : Format A) (a : A) : Type 0 where
  pub small : every fits (F.write a) ≡ true
  pub ok : (ws : List ℕ) → F.ok (F.write a ++ ws) ≡ true
  pub value : (ws : List ℕ) → F.value (F.write a ++ ws) ≡ a
  pub rest : (ws : List ℕ) → F.rest (F.write a ++ ws) ≡ ws

-- these words begin with the words of the value that is read from them
pub record Only {A : Type 0} (F : Format A) (ws : List ℕ) : Type 0 where
  pub domain : F.domain (F.value ws) ≡ true
  pub same : ws ≡ F.write (F.value ws) ++ F.rest ws

pub record Lawful {A : Type 0} (F : Format A) : Type 0 where
  pub kept : (a : A) → F.domain a ≡ true → Kept F a
  pub only : (ws : List ℕ) → F.ok ws ≡ true → Only F ws

pub impossible {ℓ} : {A : Type ℓ} → false ≡ true → A
impossible e =
    let z : ◌≡◌ {A = ℕ} 0 1 = cc in
    let y : ⊥ = omega arith in
    absurd y

-- ---- one word

pub word_kept : (kind limit n : ℕ) → limit ≤ 2 ^ 28 → n < limit
    → (is_word kind limit (word kind n) ≡ true) × (payload (word kind n) ≡ n)
word_kept kind limit n l h =
    let e : payload (word kind n) ≡ n = omega arith in
    let k : word kind n / 2 ^ 28 ≡ kind = omega arith in
    (join (eq-eqb _ _ k) (rw e (lt-ltb n limit h)), e)

pub word_fits : (kind n : ℕ) → kind < 16 → n < 2 ^ 28 → fits (word kind n) ≡ true
word_fits kind n h l =
    let k : word kind n < 2 ^ 32 = omega arith in
    lt-ltb _ _ k

pub word_only : (kind limit w : ℕ) → is_word kind limit w ≡ true → (payload w < limit) × (w ≡ word kind (payload w))
word_only kind limit w e =
    let s = both (eqb (w / 2 ^ 28) kind) (ltb (payload w) limit) e in
    let k : w / 2 ^ 28 ≡ kind = eqb-true _ _ s.0 in
    (ltb-true _ _ s.1, omega arith)

-- there is a word of this kind, so there is a first word
pub first_word : (kind limit : ℕ) → 0 < kind → (ws : List ℕ) → is_word kind limit (get_or ws 0 0) ≡ true
    → ws ≡ get_or ws 0 0 ∷ drop 1 ws
first_word kind limit h [] e =
    let k : 0 / 2 ^ 28 ≡ kind = eqb-true _ _ (both (eqb (0 / 2 ^ 28) kind) (ltb (payload 0) limit) e).0 in
    let z : ⊥ = omega arith in
    absurd z
first_word kind limit h (w ∷ ws) e = refl

-- ---- a number

pub number_fits : (n : ℕ) → n < 2 ^ 64 → number.domain n ≡ true
unfolding number
number_fits n h = lt-ltb n (2 ^ 64) h

pub number_kept : (n : ℕ) → number.domain n ≡ true → Kept number n
unfolding number
number_kept n e =
    let h : n < 2 ^ 64 = ltb-true _ _ e in
    let l : n % 2 ^ 28 < 2 ^ 28 = omega arith in
    let m : n / 2 ^ 28 % 2 ^ 28 < 2 ^ 28 = omega arith in
    let t : n / 2 ^ 28 / 2 ^ 28 < 2 ^ 8 = omega arith in
    let a = word_kept 3 (2 ^ 28) (n % 2 ^ 28) (omega arith) l in
    let b = word_kept 4 (2 ^ 28) (n / 2 ^ 28 % 2 ^ 28) (omega arith) m in
    let c = word_kept 5 (2 ^ 8) (n / 2 ^ 28 / 2 ^ 28) (omega arith) t in
    let whole : n % 2 ^ 28 + n / 2 ^ 28 % 2 ^ 28 * 2 ^ 28 + n / 2 ^ 28 / 2 ^ 28 * 2 ^ 56 ≡ n = omega arith in
    record {
      small =
          join (word_fits 3 (n % 2 ^ 28) (omega arith) l)
          (join (word_fits 4 (n / 2 ^ 28 % 2 ^ 28) (omega arith) m)
          (join (word_fits 5 (n / 2 ^ 28 / 2 ^ 28) (omega arith) (omega arith)) refl));
      ok = λ ws. join a.0 (join b.0 c.0);
      value = λ ws. (λ i. a.1 i + b.1 i * 2 ^ 28 + c.1 i * 2 ^ 56) ∙ whole;
      rest = λ ws. refl;
    }

module _ (l m t : ℕ) (p : l < 2 ^ 28) (q : m < 2 ^ 28) (r : t < 2 ^ 8) where
  whole_small : l + m * 2 ^ 28 + t * 2 ^ 56 < 2 ^ 64
  whole_small = omega arith

  -- the words of a number made of three parts
  whole_words : number_words (l + m * 2 ^ 28 + t * 2 ^ 56) ≡ word 3 l ∷ word 4 m ∷ word 5 t ∷ []
  whole_words =
      let n = l + m * 2 ^ 28 + t * 2 ^ 56 in
      let a : n % 2 ^ 28 ≡ l = omega arith in
      let d : n / 2 ^ 28 ≡ m + t * 2 ^ 28 = omega arith in
      let c : n / 2 ^ 28 / 2 ^ 28 ≡ t = omega arith in
      let b : n / 2 ^ 28 % 2 ^ 28 ≡ m = omega arith in
      λ i. word 3 (a i) ∷ word 4 (b i) ∷ word 5 (c i) ∷ []

pub number_only : (ws : List ℕ) → number.ok ws ≡ true → Only number ws
unfolding number
number_only [] e = impossible e
number_only (a ∷ []) e =
    impossible (both (is_word 4 (2 ^ 28) 0) (is_word 5 (2 ^ 8) 0) (both (is_word 3 (2 ^ 28) a) false e).1).0
number_only (a ∷ b ∷ []) e =
    let s = both (is_word 3 (2 ^ 28) a) (is_word 4 (2 ^ 28) b && false) e in
    impossible (both (is_word 4 (2 ^ 28) b) false s.1).1
number_only (a ∷ b ∷ c ∷ ws) e =
    let s = both (is_word 3 (2 ^ 28) a) (is_word 4 (2 ^ 28) b && is_word 5 (2 ^ 8) c) e in
    let t = both (is_word 4 (2 ^ 28) b) (is_word 5 (2 ^ 8) c) s.1 in
    let x = word_only 3 (2 ^ 28) a s.0 in
    let y = word_only 4 (2 ^ 28) b t.0 in
    let z = word_only 5 (2 ^ 8) c t.1 in
    let w = whole_words (payload a) (payload b) (payload c) x.0 y.0 z.0 in
    record {
      domain = lt-ltb _ _ (whole_small (payload a) (payload b) (payload c) x.0 y.0 z.0);
      same = (λ i. x.1 i ∷ y.1 i ∷ z.1 i ∷ ws) ∙ sym (ap (λ us. us ++ ws) w);
    }

pub number_lawful : Lawful number
number_lawful = record { kept = number_kept; only = number_only }

-- ---- a flag

pub flag_lawful : Lawful flag
unfolding flag
flag_lawful = record {
  kept = λ n e.
      let h : n < 2 = ltb-true n 2 e in
      let s = word_kept 7 2 n (omega arith) h in
      record {
        small = join (word_fits 7 n (omega arith) (omega arith)) refl;
        ok = λ ws. s.0;
        value = λ ws. s.1;
        rest = λ ws. refl;
      };
  only = λ ws e.
      let s = word_only 7 2 (get_or ws 0 0) e in
      record {
        domain = lt-ltb _ _ s.0;
        same = first_word 7 2 (omega arith) ws e ∙ ap {B = List ℕ} (λ w. w ∷ drop 1 ws) s.1;
      };
}

-- ---- a field of bytes

three_bytes_kept : (a b c : ℕ) → a < 256 → b < 256 → c < 256
    → let w = three_bytes a b c in
    (fits w ≡ true) × (is_three_bytes w ≡ true) × (first w ≡ a) × (second w ≡ b) × (third w ≡ c)
three_bytes_kept a b c p q r =
    let x = (a * 256 + b) * 256 + c in
    let h : x < 2 ^ 24 = omega arith in
    let s = word_kept 6 (2 ^ 24) x (omega arith) h in
    let d : x / 256 ≡ a * 256 + b = omega arith in
    let e : x / 256 / 256 ≡ a = omega arith in
    let f : x / 256 % 256 ≡ b = omega arith in
    let g : x % 256 ≡ c = omega arith in
    (word_fits 6 x (omega arith) (omega arith), s.0, rw s.1 e, rw s.1 f, rw s.1 g)

three_bytes_only : (ws : List ℕ) → is_three_bytes (get_or ws 0 0) ≡ true
    → let w = get_or ws 0 0 in
    (is_byte (first w) ≡ true)
    × (is_byte (second w) ≡ true)
    × (is_byte (third w) ≡ true)
    × (ws ≡ three_bytes (first w) (second w) (third w) ∷ drop 1 ws)
three_bytes_only ws e =
    let w = get_or ws 0 0 in
    let s = word_only 6 (2 ^ 24) w e in
    let h = s.0 in
    let x : first w < 256 = omega arith in
    let y : second w < 256 = omega arith in
    let z : third w < 256 = omega arith in
    let q : payload w ≡ (first w * 256 + second w) * 256 + third w = omega arith in
    let f = first_word 6 (2 ^ 24) (omega arith) ws e in
    (lt-ltb _ _ x, lt-ltb _ _ y, lt-ltb _ _ z, f ∙ ap {B = List ℕ} (λ n. n ∷ drop 1 ws) (s.1 ∙ ap (word 6) q))

-- the same of a list of bytes, whatever its length
record FieldKept (xs : List ℕ) : Type 0 where
  small : every fits (field_words xs) ≡ true
  ok : (ws : List ℕ) → field_ok (length xs) (field_words xs ++ ws) ≡ true
  value : (ws : List ℕ) → field_value (length xs) (field_words xs ++ ws) ≡ xs
  rest : (ws : List ℕ) → field_rest (length xs) (field_words xs ++ ws) ≡ ws

field_kept : (xs : List ℕ) → every is_byte xs ≡ true → FieldKept xs
field_kept [] e = record { small = refl; ok = λ ws. refl; value = λ ws. refl; rest = λ ws. refl }
field_kept (a ∷ []) e =
    let s = three_bytes_kept a 0 0 (ltb-true _ _ (both (is_byte a) true e).0) (omega arith) (omega arith) in
    record {
      small = join s.0 refl;
      ok = λ ws. join s.1 (join (eq-eqb _ _ s.3) (eq-eqb _ _ s.4));
      value = λ ws i. s.2 i ∷ [];
      rest = λ ws. refl;
    }
field_kept (a ∷ b ∷ []) e =
    let p = both (is_byte a) (is_byte b && true) e in
    let q = both (is_byte b) true p.1 in
    let s = three_bytes_kept a b 0 (ltb-true _ _ p.0) (ltb-true _ _ q.0) (omega arith) in
    record {
      small = join s.0 refl;
      ok = λ ws. join s.1 (eq-eqb _ _ s.4);
      value = λ ws i. s.2 i ∷ s.3 i ∷ [];
      rest = λ ws. refl;
    }
field_kept (a ∷ b ∷ c ∷ xs) e =
    let p = both (is_byte a) (is_byte b && (is_byte c && every is_byte xs)) e in
    let q = both (is_byte b) (is_byte c && every is_byte xs) p.1 in
    let r = both (is_byte c) (every is_byte xs) q.1 in
    let s = three_bytes_kept a b c (ltb-true _ _ p.0) (ltb-true _ _ q.0) (ltb-true _ _ r.0) in
    let f = field_kept xs r.1 in
    record {
      small = join s.0 f.small;
      ok = λ ws. join s.1 (f.ok ws);
      value = λ ws i. s.2 i ∷ s.3 i ∷ s.4 i ∷ f.value ws i;
      rest = f.rest;
    }

pub field_only : (n : ℕ) (ws : List ℕ) → field_ok n ws ≡ true
    → let xs = field_value n ws in
    (length xs ≡ n) × (every is_byte xs ≡ true) × (ws ≡ field_words xs ++ field_rest n ws)
field_only zero ws e = (refl, refl, refl)
field_only (suc zero) ws e =
    let w = get_or ws 0 0 in
    let p = both (is_three_bytes w) (eqb (second w) 0 && eqb (third w) 0) e in
    let q = both (eqb (second w) 0) (eqb (third w) 0) p.1 in
    let s = three_bytes_only ws p.0 in
    let y : second w ≡ 0 = eqb-true _ _ q.0 in
    let z : third w ≡ 0 = eqb-true _ _ q.1 in
    let t = s.3 ∙ (λ i. three_bytes (first w) (y i) (z i) ∷ drop 1 ws) in
    (refl, join s.0 refl, t)
field_only (suc (suc zero)) ws e =
    let w = get_or ws 0 0 in
    let p = both (is_three_bytes w) (eqb (third w) 0) e in
    let s = three_bytes_only ws p.0 in
    let z : third w ≡ 0 = eqb-true _ _ p.1 in
    let t = s.3 ∙ (λ i. three_bytes (first w) (second w) (z i) ∷ drop 1 ws) in
    (refl, join s.0 (join s.1 refl), t)
field_only (suc (suc (suc n))) ws e =
    let w = get_or ws 0 0 in
    let p = both (is_three_bytes w) (field_ok n (drop 1 ws)) e in
    let s = three_bytes_only ws p.0 in
    let f = field_only n (drop 1 ws) p.1 in
    let t = s.3 ∙ ap {B = List ℕ} (λ us. three_bytes (first w) (second w) (third w) ∷ us) f.2 in
    (ap (λ k. suc (suc (suc k))) f.0, join s.0 (join s.1 (join s.2 f.1)), t)

pub field_lawful : (n : ℕ) → Lawful (field n)
unfolding field
field_lawful n = record {
  kept = λ xs e.
      let s = both (eqb (length xs) n) (every is_byte xs) e in
      let q : length xs ≡ n = eqb-true _ _ s.0 in
      let f = field_kept xs s.1 in
      record {
        small = f.small;
        ok = λ ws. rw (← q) (f.ok ws);
        value = λ ws. rw (← q) (f.value ws);
        rest = λ ws. rw (← q) (f.rest ws);
      };
  only = λ ws e.
      let f = field_only n ws e in
      record { domain = join (eq-eqb _ _ f.0) f.1; same = f.2 };
}

-- ---- one after another

module _ {A B : Type 0} where
  pub pair_lawful : {F : Format A} {G : Format B} → Lawful F → Lawful G → Lawful (F ⊗ G)
  pair_lawful {F} {G} f g = record {
    kept = λ p e.
        let s = both (F.domain p.0) (G.domain p.1) e in
        let x = f.kept p.0 s.0 in
        let y = g.kept p.1 s.1 in
        let u = F.write p.0 in
        let v = G.write p.1 in
        record {
          small = every_append fits u v x.small y.small;
          ok = λ ws. rw (append_assoc u v ws, x.rest (v ++ ws)) (join (x.ok (v ++ ws)) (y.ok ws));
          value = λ ws.
              rw (append_assoc u v ws, x.rest (v ++ ws)) (λ i. (x.value (v ++ ws) i, y.value ws i));
          rest = λ ws.
              ap (λ us. G.rest (F.rest us)) (append_assoc u v ws)
              ∙ ap G.rest (x.rest (v ++ ws))
              ∙ y.rest ws;
        };
    only = λ ws e.
        let s = both (F.ok ws) (G.ok (F.rest ws)) e in
        let x = f.only ws s.0 in
        let y = g.only (F.rest ws) s.1 in
        let u = F.write (F.value ws) in
        record {
          domain = join x.domain y.domain;
          same = rw append_assoc (x.same ∙ ap (λ us. u ++ us) y.same);
        };
  }

  -- a record by its parts
  pub parts_lawful : {F : Format A} (parts : B → A) (of : A → B) → Lawful F → ((b : B) → of (parts b) ≡ b)
      → ((a : A) → F.domain a ≡ true → parts (of a) ≡ a) → Lawful (by_parts F parts of)
  parts_lawful {F} parts of f there back = record {
    kept = λ b e.
        let x = f.kept (parts b) e in
        record { small = x.small; ok = x.ok; value = λ ws. ap of (x.value ws) ∙ there b; rest = x.rest };
    only = λ ws e.
        let x = f.only ws e in
        let q = back (F.value ws) x.domain in
        record {
          domain = ap F.domain q ∙ x.domain;
          same = x.same ∙ sym (ap (λ a. F.write a ++ F.rest ws) q);
        };
  }

-- ---- n values of one format

module _ {A : Type 0} {F : Format A} (f : Lawful F) where
  many_kept : (xs : List A) → every F.domain xs ≡ true → Kept (many F (length xs)) xs
  unfolding many
  many_kept [] e = record { small = refl; ok = λ ws. refl; value = λ ws. refl; rest = λ ws. refl }
  many_kept (x ∷ xs) e =
      let s = both (F.domain x) (every F.domain xs) e in
      let k = f.kept x s.0 in
      let m = many_kept xs s.1 in
      let u = F.write x in
      let v = each F.write xs in
      record {
        small = every_append fits u v k.small m.small;
        ok = λ ws. rw (append_assoc u v ws, k.rest (v ++ ws)) (join (k.ok (v ++ ws)) (m.ok ws));
        value = λ ws. rw (append_assoc u v ws, k.rest (v ++ ws)) (λ i. k.value (v ++ ws) i ∷ m.value ws i);
        rest = λ ws.
            ap (λ us. many_rest F (length xs) (F.rest us)) (append_assoc u v ws)
            ∙ ap (many_rest F (length xs)) (k.rest (v ++ ws))
            ∙ m.rest ws;
      }

  many_only : (n : ℕ) (ws : List ℕ) → many_ok F n ws ≡ true
      → let xs = many_value F n ws in
      (length xs ≡ n) × (every F.domain xs ≡ true) × (ws ≡ each F.write xs ++ many_rest F n ws)
  many_only zero ws e = (refl, refl, refl)
  many_only (suc n) ws e =
      let s = both (F.ok ws) (many_ok F n (F.rest ws)) e in
      let k = f.only ws s.0 in
      let m = many_only n (F.rest ws) s.1 in
      let u = F.write (F.value ws) in
      (ap suc m.0, join k.domain m.1, rw append_assoc (k.same ∙ ap (λ us. u ++ us) m.2))

  pub many_lawful : (n : ℕ) → Lawful (many F n)
  unfolding many
  many_lawful n = record {
    kept = λ xs e.
        let s = both (eqb (length xs) n) (every F.domain xs) e in
        subst (λ (k : ℕ). Kept (many F k) xs) (eqb-true (length xs) n s.0) (many_kept xs s.1);
    only = λ ws e.
        let m = many_only n ws e in
        record { domain = join (eq-eqb _ _ m.0) m.1; same = m.2 };
  }

pub many_length : {A : Type 0} (F : Format A) (n : ℕ) (xs : List A) → (many F n).domain xs ≡ true → length xs ≡ n
unfolding many
many_length F n xs e = eqb-true _ _ (both (eqb (length xs) n) (every F.domain xs) e).0

-- ---- a word that says what follows

module _ {A : Type 0} (kind limit : ℕ) (formats : ℕ → Format A) (code : A → ℕ) (some : 0 < kind) (h : kind < 16)
    (l : limit ≤ 2 ^ 28) where
  pub coded_lawful : ((a : A) → (formats (code a)).domain a ≡ true → Kept (formats (code a)) a)
      → ((c : ℕ) (ws : List ℕ) → (formats c).ok ws ≡ true
      → Only (formats c) ws × (code ((formats c).value ws) ≡ c))
      → Lawful (coded kind limit formats code)
  coded_lawful kept only = record {
    kept = λ a e.
        let s = both (ltb (code a) limit) ((formats (code a)).domain a) e in
        let c : code a < limit = ltb-true _ _ s.0 in
        let w = word_kept kind limit (code a) l c in
        let k = kept a s.1 in
        let u = (formats (code a)).write a in
        record {
          small = join (word_fits kind (code a) h (omega arith)) k.small;
          ok = λ ws.
              join w.0 (subst (λ (c : ℕ). (formats c).ok (u ++ ws) ≡ true) (sym w.1) (k.ok ws));
          value = λ ws. subst (λ (c : ℕ). (formats c).value (u ++ ws) ≡ a) (sym w.1) (k.value ws);
          rest = λ ws. subst (λ (c : ℕ). (formats c).rest (u ++ ws) ≡ ws) (sym w.1) (k.rest ws);
        };
    only = λ ws e.
        let x = get_or ws 0 0 in
        let F = formats (payload x) in
        let s = both (is_word kind limit x) (F.ok (drop 1 ws)) e in
        let w = word_only kind limit x s.0 in
        let o = only (payload x) (drop 1 ws) s.1 in
        let a = F.value (drop 1 ws) in
        let front = first_word kind limit some ws s.0 in
        let first = front ∙ ap {B = List ℕ} (λ n. n ∷ drop 1 ws) w.1 in
        record {
          domain = rw o.1 (join (lt-ltb _ _ w.0) o.0.domain);
          same = rw o.1 (first ∙ ap {B = List ℕ} (λ us. word kind (payload x) ∷ us) o.0.same);
        };
  }

pub counted_lawful : {A : Type 0} {F : Format A} (limit : ℕ) → limit ≤ 2 ^ 28 → Lawful F → Lawful (counted limit F)
counted_lawful {F} limit l f =
    coded_lawful 2 limit (many F) length (omega arith) (omega arith) l
    (λ xs e. (many_lawful f (length xs)).kept xs e)
    (λ n ws e.
    let o = (many_lawful f n).only ws e in
    (o, many_length F n ((many F n).value ws) o.domain))

-- ---- a head

pub headed_lawful : {A : Type 0} {F : Format A} (head : ℕ) → head < 2 ^ 28 → Lawful F → Lawful (headed head F)
headed_lawful {A} {F} head h f = record {
  kept = λ a e.
      let k = f.kept a e in
      record {
        small = join (word_fits 1 head (omega arith) h) k.small;
        ok = λ ws. join (eq-eqb (word 1 head) (word 1 head) refl) (k.ok ws);
        value = k.value;
        rest = k.rest;
      };
  only = go;
}
  where
    go : (ws : List ℕ) → (headed head F).ok ws ≡ true → Only (headed head F) ws
    go [] e =
        let k : 0 ≡ word 1 head = eqb-true _ _ (both (eqb 0 (word 1 head)) (F.ok []) e).0 in
        let z : ⊥ = omega arith in
        absurd z
    go (w ∷ ws) e =
        let s = both (eqb w (word 1 head)) (F.ok ws) e in
        let k : w ≡ word 1 head = eqb-true _ _ s.0 in
        let o = f.only ws s.1 in
        record { domain = o.domain; same = λ i. k i ∷ o.same i }
