-- The whole file: its length, its parts put one behind another, and what the writer answers.
use Rattle.std.specs.Prelude.{◌≡◌, refl, true, List, [], ◌∷◌, ◌++◌, ℕ, ◌+◌, ◌*◌, ◌≤◌, ◌<◌, ◌^◌, take, drop}
use Rattle.std.proofs.Common.{sym, ◌∙◌, length-append, take_at}
use Rattle.std.proofs.Math.Path.{ap}
use Rattle.std.proofs.Math.Option.{some}
use native.Mathlib.Omega.{arith}
use Rattle.std.proofs.Math.ListN.{length}
use borrow.Author.Tests.{lt-ltb, le-ltb, ne_eqb}
use Rattle.lists.specs.Base.{when◌then◌else◌, every}
use Rattle.rules.specs.Types.{Settings}
use Rattle.rules.specs.Calls.{handed_refusal}
use Rattle.primitives.specs.declared.Scalars.{Scalars}
use Rattle.records.specs.Layout.{validator_at, deposit_at, partial_at, consolidation_at}
use Rattle.records.specs.Books.{Tables, books_of, room_of, consolidations_of, deposits_of, partials_of, validators_of}
use Rattle.records.specs.Reading.{validators_count, deposits_count, partials_count, consolidations_count}
use Rattle.acceptance.specs.Handed.{accepted, facts}
use Rattle.file_format.specs.Words.{words, is_byte, bytes, end_word, with_end}
use Rattle.file_format.specs.Books.{validator, deposit, partial, consolidation, list_of}
use Rattle.file_format.specs.File.{write_file, write_books, read_books}
use Rattle.file_format.proofs.FileLaws.{length_bytes}
use Rattle.file_format.proofs.Theorems.{accepted_read_written}
use Rattle.file_format.specs.Answers.{write_answer, over}
use Rattle.file_format.specs.PutLaws.{put}
use Rattle.file_stores.specs.Laws.{put_next, put_length, put_closed, put_over}
use Rattle.file_records.specs.Sizes.{deposit_length, partial_length, consolidation_length}
use Rattle.books_writer.specs.Parts.{front_words, front_length, lists_words, written_parts}
use Rattle.books_writer.specs.Written.{BooksWritten, file_length, Ready}
use Rattle.books_writer.specs.Lists.{validator_at_length, list_length}
use Rattle.books_writer.specs.Sized.{tables_sized}

-- ---- the file

module _ (S : Settings) (s : Scalars) (t : Tables) (k : Ready s t) where
  abbrev vs : List ℕ
  vs = (list_of validator).write (validators_of s t.identities t.validators)

  abbrev ds : List ℕ
  ds = (list_of deposit).write (deposits_of s t.deposits)

  abbrev ps : List ℕ
  ps = (list_of partial).write (partials_of s t.partials)

  abbrev cs : List ℕ
  cs = (list_of consolidation).write (consolidations_of s t.consolidations)

  vs_length : length vs ≡ 1 + s.validators * 46
  vs_length =
      list_length validator 46 s.validators (validator_at t.identities t.validators)
      (λ i h. validator_at_length t.identities t.validators i (omega (arith, k.identities)))

  ds_length : length ds ≡ 1 + s.deposits * 6
  ds_length = list_length deposit 6 s.deposits (deposit_at t.deposits) (λ i h. deposit_length _)

  ps_length : length ps ≡ 1 + s.partials * 9
  ps_length = list_length partial 9 s.partials (partial_at t.partials) (λ i h. partial_length _)

  cs_length : length cs ≡ 1 + s.consolidations * 6
  cs_length =
      list_length consolidation 6 s.consolidations (consolidation_at t.consolidations)
      (λ i h. consolidation_length _)

  abbrev all_words : List ℕ
  all_words = front_words S s ++ (vs ++ (ds ++ (ps ++ cs)))

  all_length : length all_words
      ≡ 89 + s.validators * 46 + s.deposits * 6 + s.partials * 9 + s.consolidations * 6
  all_length =
      omega (
        arith,
        length-append (front_words S s) (vs ++ (ds ++ (ps ++ cs))),
        length-append vs (ds ++ (ps ++ cs)),
        length-append ds (ps ++ cs),
        length-append ps cs,
        front_length S s,
        vs_length,
        ds_length,
        ps_length,
        cs_length,
      )

  file_words : write_books S (books_of s t) ≡ bytes (with_end all_words)
  unfolding write_file lists_words books_of
  file_words = ap (λ ws. bytes (with_end ws)) (written_parts S s t)

  pub books_length : length (write_books S (books_of s t)) ≡ file_length s
  books_length =
      omega (
        arith,
        ap length file_words,
        length_bytes (with_end all_words),
        length-append all_words (end_word all_words ∷ []),
        all_length,
      )

  -- the front, the four lists, the end word
  pub books_put : (out o₁ o₂ o₃ o₄ o₅ o₆ : List ℕ) → file_length s ≤ length out
      → o₁ ≡ put out 0 (front_words S s)
      → o₂ ≡ put o₁ 85 vs
      → o₃ ≡ put o₂ (86 + s.validators * 46) ds
      → o₄ ≡ put o₃ (86 + s.validators * 46 + 1 + s.deposits * 6) ps
      → o₅ ≡ put o₄ (86 + s.validators * 46 + 1 + s.deposits * 6 + 1 + s.partials * 9) cs
      → let e = 86 + s.validators * 46 + 1 + s.deposits * 6 + 1 + s.partials * 9 + 1 + s.consolidations * 6 in
      o₆ ≡ put o₅ e (end_word (take e (words o₅)) ∷ [])
      → o₆ ≡ over (write_books S (books_of s t)) out
  books_put out o₁ o₂ o₃ o₄ o₅ o₆ h e₁ e₂ e₃ e₄ e₅ e₆ =
      let d = 86 + s.validators * 46 in
      let p = d + 1 + s.deposits * 6 in
      let c = p + 1 + s.partials * 9 in
      let lf = front_length S s in
      let lv = vs_length in
      let ld = ds_length in
      let lp = ps_length in
      let lc = cs_length in
      let n₁ : length o₁ ≡ length out = put_length out o₁ 0 (front_words S s) e₁ (omega arith) in
      let n₂ : length o₂ ≡ length out = put_length o₁ o₂ 85 vs e₂ (omega arith) ∙ n₁ in
      let n₃ : length o₃ ≡ length out = put_length o₂ o₃ d ds e₃ (omega arith) ∙ n₂ in
      let f₄ = put_next o₃ o₄ o₅ p c ps cs e₄ e₅ (omega arith) (omega arith) in
      let m₄ = length-append ps cs in
      let f₃ = put_next o₂ o₃ o₅ d p ds (ps ++ cs) e₃ f₄ (omega arith) (omega arith) in
      let m₃ = length-append ds (ps ++ cs) in
      let f₂ = put_next o₁ o₂ o₅ 85 d vs (ds ++ (ps ++ cs)) e₂ f₃ (omega arith) (omega arith) in
      let m₂ = length-append vs (ds ++ (ps ++ cs)) in
      let f₁ =
      put_next out o₁ o₅ 0 85 (front_words S s) (vs ++ (ds ++ (ps ++ cs))) e₁ f₂ (omega arith) (omega arith) in
      let a = all_length in
      put_closed out o₅ o₆ all_words (c + 1 + s.consolidations * 6) f₁ (omega arith) e₆ (omega arith)
      ∙ put_over out (with_end all_words)
      ∙ ap (λ bs. over bs out) (sym file_words)

-- ---- the answers

module _ (S : Settings) (s : Scalars) (t : Tables) where
  abbrev handed : ℕ
  handed = handed_refusal S (books_of s t) (room_of t)

  pub ready : handed ≡ 0 → Ready s t
  unfolding books_of
  ready h =
      let f = facts S s t h in
      let v = validators_count s t in
      let d = deposits_count s t in
      let p = partials_count s t in
      let c = consolidations_count s t in
      record {
        identities = omega (arith, f.room.identities, f.books.registry_fits);
        validators = omega (arith, f.room.validators, f.books.registry_fits);
        deposits = omega (arith, f.room.deposits, f.books.deposits_fit);
        partials = omega (arith, f.room.partials, f.books.partials_fit);
        consolidations = omega (arith, f.room.consolidations, f.books.consolidations_fit);
        most_validators = omega (arith, f.settings.registry_limit.most, f.books.registry_fits);
        most_deposits = omega (arith, f.settings.deposits_limit.most, f.books.deposits_fit);
        most_partials = omega (arith, f.settings.partials_limit.most, f.books.partials_fit);
        most_consolidations = omega (arith, f.settings.consolidations_limit.most, f.books.consolidations_fit);
        flags = f.books.flags;
      }

  pub handed_refused : (out : List ℕ) (n : ℕ) → n ≡ handed → (n ≡ 0 → ⊥) → BooksWritten S s t out out n 0
  unfolding write_answer when◌then◌else◌
  handed_refused out n e z = record {
    number = rw (← e) (rw (ne_eqb n 0 z));
    done = λ q. absurd (z q);
    refused = λ _. (refl, refl);
    read = λ q. absurd (z q);
  }

  pub buffer_short : (out : List ℕ) → handed ≡ 0 → length out < file_length s → BooksWritten S s t out out 61 0
  unfolding write_answer when◌then◌else◌
  buffer_short out e h =
      let size = length (write_books S (books_of s t)) in
      let q : length out < size = omega (arith, books_length S s t (ready e)) in
      record {
        number = rw (e, lt-ltb (length out) size q);
        done = λ z. absurd (omega arith);
        refused = λ _. (refl, refl);
        read = λ z. absurd (omega arith);
      }

  -- what is written reads back: keys and credentials are bytes, and the receipt start has 64 bits
  written_read : (out last : List ℕ) → handed ≡ 0 → every is_byte t.identities ≡ true
      → s.deposit_receipts_start_index < 2 ^ 64 → last ≡ over (write_books S (books_of s t)) out
      → read_books (take (file_length s) last) ≡ some (S, books_of s t)
  written_read out last e bytes start f =
      let b = books_of s t in
      let a = accepted S b (room_of t) e in
      let file = write_books S b in
      let k = ready e in
      ap (λ bs. read_books (take (file_length s) bs)) f
      ∙ ap read_books (take_at file (drop (length file) out) (file_length s) (books_length S s t k))
      ∙ accepted_read_written S b a.settings a.books (tables_sized s t k bytes start)

  pub all_written : (out last : List ℕ) → handed ≡ 0 → file_length s ≤ length out
      → every is_byte t.identities ≡ true → s.deposit_receipts_start_index < 2 ^ 64
      → last ≡ over (write_books S (books_of s t)) out → BooksWritten S s t out last 0 (file_length s)
  unfolding write_answer when◌then◌else◌
  all_written out last e h bytes start f =
      let size = length (write_books S (books_of s t)) in
      let l = books_length S s t (ready e) in
      let q : size ≤ length out = omega arith in
      record {
        number = rw (e, le-ltb (length out) size q);
        done = λ _. (sym l, f);
        refused = λ z. absurd (z refl);
        read = λ _. written_read out last e bytes start f;
      }
