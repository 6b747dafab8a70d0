-- What a record stored behind others, and records moved down, do to a queue.
use Rattle.std.proofs.Common.{◌≡◌, List, ℕ, ◌+◌, ◌-◌, ◌*◌, ◌/◌, ◌<◌, ◌≤◌, length, get_or, take, drop, refl, ap, sym}
use Rattle.std.proofs.Common.{◌∙◌, arith, take_all, length-take, length-drop, get_or-drop, ext_get_or}
use Rattle.std.proofs.Math.Nat.{mul-le-mul_left, le-div_iff_mul-le}
use Rattle.std.proofs.Math.Seq.{paste}
use Rattle.std.proofs.lemmas.Slice.{put_mid-paste}
use Rattle.std.specs.List.{CopiedTo, SameFrom}
use borrow.Rule.Slice.PartMut.{put_mid}
use Rattle.tables.specs.Rows.{rows_push, rows_drop}
use Rattle.tables.specs.Words.{Outside, outside_part, outside_drop}
use Rattle.records.specs.Bytes.{get_d_part, paste_part, paste_outside}
use Rattle.records.specs.Entries.{OwnWords}
use Rattle.records.specs.Queues.{Pushed, Drained}

-- parts that stand at two places
parts : (us ws : List ℕ) (a b n : ℕ) → a + n ≤ length us → b + n ≤ length ws
    → ((k : ℕ) → k < n → get_or us (a + k) 0 ≡ get_or ws (b + k) 0) → take n (drop a us) ≡ take n (drop b ws)
parts us ws a b n h g e =
    ext_get_or 0 (take n (drop a us)) (take n (drop b ws))
    (omega (arith, length-take n (drop a us), length-drop a us, length-take n (drop b ws), length-drop b ws))
    (λ i p.
    let q : i < n = omega (arith, length-take n (drop a us)) in
    get_d_part us a n i q ∙ e i q ∙ sym (get_d_part ws b n i q))

module _ {A : Type 0} {width : ℕ} {record_at : List ℕ → ℕ → A} (own : OwnWords width record_at) where
  -- the first n records stand within the table
  within : (ws : List ℕ) (n : ℕ) → n ≤ length ws / width → width * n ≤ length ws
  within ws n h = omega (arith, (le-div_iff_mul-le own.some).0 h)

  -- record x stored as the words `part` behind the first n
  module _ {ws part : List ℕ} {n a k : ℕ} (x : A) where
    pub put_pushed : n < length ws / width → a ≡ width * n → k ≡ width → length part ≡ k → record_at part 0 ≡ x
        → Pushed record_at width n x ws (put_mid a k ws part)
    put_pushed h e f size here =
        rw (e, f, put_mid-paste (width * n) width ws part part width refl refl (sym (size ∙ f))) stored
      where
        new : List ℕ
        new = paste ws (width * n) part width

        room : width * n + width ≤ length ws
        room = omega (arith, within ws (n + 1) (omega arith))

        o : Outside (width * n) (width * n + width) new ws
        o = paste_outside ws (width * n) part width room (omega arith)

        stored : Pushed record_at width n x ws new
        stored = record {
          records = rows_push n (record_at ws) (record_at new) x
              (λ j p.
              let below : width * (j + 1) ≤ width * n = mul-le-mul_left width (omega arith) in
              own.words new j
              ∙ ap (λ l. record_at l 0) (outside_part o (width * j) width (λ q a b c d. omega arith))
              ∙ sym (own.words ws j))
              (own.words new n
              ∙ ap (λ l. record_at l 0)
              (paste_part ws (width * n) part width room (omega arith) ∙ take_all width part (omega arith))
              ∙ here);
          past = outside_drop o (width * (n + 1)) (omega arith);
        }

  -- `left` records moved down from behind the first `gone`
  pub copied_drained : {old new : List ℕ} {gone left from count : ℕ} → length new ≡ length old
      → gone + left ≤ length old / width → from ≡ width * gone → count ≡ width * left
      → CopiedTo old new from 0 count → SameFrom old new (0 + count)
      → Drained record_at width gone left old new
  copied_drained {old} {new} {gone} {left} {from} {count} size h e f copied rest = record {
    records = rows_drop gone left (record_at old) (record_at new)
        (λ j p.
        let below : width * (j + 1) ≤ width * left = mul-le-mul_left width (omega arith) in
        own.words new j
        ∙ ap (λ l. record_at l 0)
        (parts new old (width * j) (width * (gone + j)) width (omega (arith, room)) (omega (arith, room))
        (λ k r.
        let s : from + (width * j + k - 0) ≡ width * (gone + j) + k = omega arith in
        copied (width * j + k) 0 (omega arith) (omega arith) ∙ ap (λ m. get_or old m 0) s))
        ∙ sym (own.words old (gone + j)));
    past =
        ext_get_or 0 (drop (width * left) new) (drop (width * left) old)
        (omega (arith, length-drop (width * left) new, length-drop (width * left) old))
        (λ i p.
        get_or-drop (width * left) new i 0
        ∙ rest (width * left + i) 0 (omega arith)
        ∙ sym (get_or-drop (width * left) old i 0));
  }
    where
      room : width * (gone + left) ≤ length old
      room = within old (gone + left) h
