-- Words written from word k of a lent buffer on, one group after another.
use Rattle.std.specs.Prelude.{◌≡◌, refl, ℕ, ◌+◌, ◌*◌, ◌/◌, ◌%◌, ◌≤◌}
use Rattle.std.proofs.Common.{sym, ◌∙◌, arith, length-drop, length-take-le}
use Rattle.std.proofs.Math.Path.{ap}
use mathlib.Core.List.{List, [], ◌∷◌, ◌++◌, append_assoc}
use Rattle.std.proofs.Math.ListN.{length, take, drop, length-append}
use Rattle.std.proofs.Math.Seq.{drop-append-add, take_at, drop-drop}
use Rattle.std.proofs.lemmas.List.Edits.{sets, sets-eq}
use Rattle.file_format.specs.Words.{bytes}
use Rattle.file_format.specs.PutLaws.{put}
use Rattle.file_format.proofs.FileLaws.{length_bytes}

pub bytes_append : (ws us : List ℕ) → bytes (ws ++ us) ≡ bytes ws ++ bytes us
bytes_append [] us = refl
bytes_append (w ∷ ws) us =
    ap {B = List ℕ} (λ xs. w % 256 ∷ w / 256 % 256 ∷ w / 256 / 256 % 256 ∷ w / 256 / 256 / 256 ∷ xs)
    (bytes_append ws us)

-- one group of words, then another, are the two together
module _ (out : List ℕ) (k : ℕ) (ws us : List ℕ) (fits : (k + length ws + length us) * 4 ≤ length out) where
  front_length : length (take (k * 4) out ++ bytes ws) ≡ (k + length ws) * 4
  front_length =
      omega (
        arith,
        length-append (take (k * 4) out) (bytes ws),
        length-take-le (k * 4) out (omega arith),
        length_bytes ws,
      )

  pub put_put : put (put out k ws) (k + length ws) us ≡ put out k (ws ++ us)
  unfolding put
  put_put =
      let front = take (k * 4) out in
      let behind = drop (k * 4 + length ws * 4) out in
      let rest = drop (k * 4 + length (ws ++ us) * 4) out in
      let n = (k + length ws) * 4 in
      let m = length us * 4 in
      let x : k * 4 + length ws * 4 + m ≡ k * 4 + length (ws ++ us) * 4 = omega (arith, length-append ws us) in
      let y : n + m ≡ length (front ++ bytes ws) + m = omega (arith, front_length) in
      let a = ap (λ z. take n z ++ (bytes us ++ drop (n + m) z)) (sym (append_assoc front (bytes ws) behind)) in
      let b = take_at (front ++ bytes ws) behind n front_length in
      let c =
      ap (λ z. drop z (front ++ bytes ws ++ behind)) y
      ∙ drop-append-add (front ++ bytes ws) behind m
      ∙ drop-drop m (k * 4 + length ws * 4) out
      ∙ ap (λ z. drop z out) x in
      a
      ∙ (λ j. b j ++ (bytes us ++ c j))
      ∙ append_assoc front (bytes ws) (bytes us ++ rest)
      ∙ ap (λ z. front ++ z)
      (sym (append_assoc (bytes ws) (bytes us) rest) ∙ ap (λ z. z ++ rest) (sym (bytes_append ws us)))

pub length_put : (out : List ℕ) (k : ℕ) (ws : List ℕ) → (k + length ws) * 4 ≤ length out
    → length (put out k ws) ≡ length out
unfolding put
length_put out k ws h =
    let n = k * 4 + length ws * 4 in
    omega (
      arith,
      length-append (take (k * 4) out) (bytes ws ++ drop n out),
      length-append (bytes ws) (drop n out),
      length-take-le (k * 4) out (omega arith),
      length_bytes ws,
      length-drop n out,
    )

-- four stores are one word
pub put_word : (out : List ℕ) (k w : ℕ) → (k + 1) * 4 ≤ length out
    → sets out (k * 4) (bytes (w ∷ [])) ≡ put out k (w ∷ [])
unfolding put
put_word out k w h =
    sets-eq (bytes (w ∷ [])) out (k * 4) (omega arith)
    ∙ append_assoc (take (k * 4) out) (bytes (w ∷ [])) (drop (k * 4 + 4) out)
