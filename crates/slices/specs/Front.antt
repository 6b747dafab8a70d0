-- Loops that store over the front of a list, some elements at a time.
use Rattle.std.specs.Prelude.{◌≡◌, List, [], ◌∷◌, ◌++◌, ℕ, zero, suc, ◌+◌, ◌-◌, ◌≤◌, ◌<◌, length, get_or, set, take}
use Rattle.std.specs.Prelude.{drop}
use Rattle.std.proofs.Common.{refl, ap, ap₂, sym, ◌∙◌, add-zero, add-one, add-suc, arith, append_assoc, append-nil}
use Rattle.std.proofs.Common.{length-append, length-set, length-drop, length-take-le, drop-cons}
use Rattle.std.proofs.Math.Seq.{append_snoc}
use Rattle.std.proofs.lemmas.List.{set_at, take_at, drop_at, drop-drop}
use borrow.Rule.Slice.PartMut.{put_mid}
use Rattle.tables.specs.Rows.{rows, length_rows, rows_ext, rows_getD, rows_snoc}

-- g 0, g 1, .., g (j - 1) stand before what l holds past them
pub record Front (l : List ℕ) (g : ℕ → ℕ) (j : ℕ) (m : List ℕ) : Type 0 where
  pub size : length m ≡ length l
  pub words : m ≡ rows j g ++ drop j l

rows_append : (g : ℕ → ℕ) (j n : ℕ) → rows (j + n) g ≡ rows j g ++ rows n (λ k. g (j + k))
unfolding rows
rows_append g j zero = rw add-zero (sym (append-nil (rows j g)))
rows_append g j (suc n) =
    rw add-suc
    (rows_snoc (j + n) g
    ∙ ap (λ q. q ++ (g (j + n) ∷ [])) (rows_append g j n)
    ∙ append_assoc (rows j g) (rows n (λ k. g (j + k))) (g (j + n) ∷ [])
    ∙ ap (λ q. rows j g ++ q) (sym (rows_snoc n (λ k. g (j + k)))))

module _ {l : List ℕ} {g : ℕ → ℕ} where
  pub front_none : Front l g 0 l
  unfolding rows
  front_none = record { size = refl; words = refl }

  -- the elements of xs from place j to e, as a copy into m[j..e] leaves them
  pub front_part : {j : ℕ} {m : List ℕ} (e : ℕ) (xs : List ℕ) → j ≤ e → e ≤ length m
      → length xs ≡ length (take (e - j) (drop j m)) → ((k : ℕ) → k < e - j → get_or xs k 0 ≡ g (j + k))
      → Front l g j m → Front l g e (put_mid j (e - j) m xs)
  front_part {j} {m} e xs le h long same p = record {
    size =
        ap length w ∙ length-append (rows e g) (drop e l)
        ∙ (simp (length_rows, length-drop) (omega (arith, p.size, h)));
    words = w;
  }
    where
      n : length xs ≡ e - j
      n = long ∙ length-take-le (e - j) (drop j m) (simp length-drop (omega (arith, h)))

      whole : j + (e - j) ≡ e
      whole = omega (arith, le)

      xs_rows : xs ≡ rows (e - j) (λ k. g (j + k))
      xs_rows = sym (rows_getD xs (e - j) 0 n) ∙ rows_ext (e - j) _ _ same

      front : rows e g ≡ rows j g ++ xs
      front = rw whole at (rows_append g j (e - j)) ∙ ap (λ q. rows j g ++ q) (sym xs_rows)

      past : drop (e - j) (drop j l) ≡ drop e l
      past = rw whole at (drop-drop (e - j) j l)

      w : put_mid j (e - j) m xs ≡ rows e g ++ drop e l
      w =
          rw p.words
          (ap₂ (λ a b. a ++ (xs ++ drop (e - j) b)) (take_at (rows j g) (drop j l) j (length_rows j g))
          (drop_at (rows j g) (drop j l) j (length_rows j g))
          ∙ ap (λ b. rows j g ++ (xs ++ b)) past
          ∙ sym (append_assoc (rows j g) xs (drop e l))
          ∙ ap (λ a. a ++ drop e l) (sym front))

  -- one more element
  pub front_more : {j : ℕ} {m : List ℕ} {x : ℕ} → j < length l → x ≡ g j → Front l g j m
      → Front l g (j + 1) (set m j x)
  front_more {j} {m} {x} h e p = record {
    size = length-set m j x ∙ p.size;
    words = rw add-one
        (ap (λ q. set q j x) (p.words ∙ ap (λ q. rows j g ++ q) (drop-cons l j 0 h))
        ∙ set_at (rows j g) (get_or l j 0) (drop (suc j) l) x j (length_rows j g)
        ∙ ap (λ y. rows j g ++ y ∷ drop (suc j) l) e
        ∙ sym (append_snoc (rows j g) (g j) (drop (suc j) l))
        ∙ ap (λ q. q ++ drop (suc j) l) (sym (rows_snoc j g)));
  }

  -- three more, as the numbers of one record
  pub front_three : {j : ℕ} {m : List ℕ} (f : ℕ → ℕ) → j + 3 ≤ length m → ((k : ℕ) → k < 3 → f k ≡ g (j + k))
      → Front l g j m → Front l g (j + 3) (set (set (set m j (f 0)) (j + 1) (f 1)) (j + 2) (f 2))
  front_three {j} {m} f h e p =
      let one : Front l g (j + 1) (set m j (f 0)) =
      front_more (omega (arith, p.size)) (e 0 (omega arith) ∙ ap g (add-zero j)) p in
      let second : j + 1 + 1 ≡ j + 2 = omega arith in
      let two : Front l g (j + 2) (set (set m j (f 0)) (j + 1) (f 1)) =
      rw second at (front_more (omega (arith, p.size)) (e 1 (omega arith)) one) in
      let third : j + 2 + 1 ≡ j + 3 = omega arith in
      rw third at (front_more (omega (arith, p.size)) (e 2 (omega arith)) two)
