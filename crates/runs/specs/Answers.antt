-- The answer of carrying out a file by where it comes from: the books, the file, the room in the results, or none.
use Rattle.std.specs.Prelude.{◌≡◌, refl, true, false, List, ℕ, ◌*◌, ◌/◌, ◌≤◌, ◌<◌, length, drop}
use Rattle.std.proofs.Math.Path.{sym, ap}
use Rattle.std.proofs.Common.{◌∙◌, arith, ne_eqb, lt-ltb, le-ltb}
use Rattle.std.proofs.Math.Option.{some}
use Rattle.lists.specs.Base.{when◌then◌else◌}
use Rattle.lists.specs.Laws.{if_true, if_false}
use Rattle.rules.specs.Types as rule
use Rattle.rules.specs.Calls.{Operation, handed_refusal}
use Rattle.primitives.specs.declared.Scalars.{Scalars}
use Rattle.records.specs.Books.{Tables, books_of, room_of}
use Rattle.file_format.specs.Words.{words}
use Rattle.file_format.specs.File.{file_ok, read_file, read_calls}
use Rattle.file_format.specs.Places.{count_at}
use Rattle.file_format.specs.Calls.{calls_format}
use Rattle.calls_reader.specs.Calls.{good_calls, calls_read}
use Rattle.file_calls.specs.Ready.{Accepted, Holds}
use Rattle.runs.specs.Promise.{listed_answer, carry_out_answer, Done, CarriedOut}
use Rattle.runs.specs.Ready.{operations_there}
use Rattle.runs.specs.Judged.{Runnable}
use Rattle.runs.specs.Steps.{many_size}

module _ (S : rule.Settings) (s : Scalars) (t : Tables) (file : List ℕ) where
  module _ (space : ℕ) where
    abbrev answer : ℕ
    answer = carry_out_answer S (books_of s t) (room_of t) file space

    -- ---- refusals

    pub books_refused : {n : ℕ} → n ≡ handed_refusal S (books_of s t) (room_of t) → (n ≡ 0 → ⊥) → n ≡ answer
    unfolding carry_out_answer when◌then◌else◌
    books_refused {n} e z = rw (← e) (rw (ne_eqb n 0 z))

    module _ (h : Accepted S s t) where
      listed : answer ≡ listed_answer space (read_calls file)
      unfolding carry_out_answer when◌then◌else◌
      listed = rw h

      pub file_refused : file_ok calls_format file ≡ false → 60 ≡ answer
      unfolding read_file
      file_refused e = sym (listed ∙ ap (listed_answer space) (if_false _ _ _ e))

      module _ {n : ℕ} (e : file_ok calls_format file ≡ true) (c : n ≡ count_at (words file) 1) where
        abbrev operations : List Operation
        operations = operations_there (drop 2 (words file)) n

        read : read_calls file ≡ some operations
        read = calls_read file e ∙ ap (λ m. some (operations_there (drop 2 (words file)) m)) (sym c)

        size : length operations ≡ n
        size = many_size n _

        pub results_refused : space / 3 < n → 61 ≡ answer
        results_refused l =
            let k : space < 3 * length operations = omega (arith, size) in
            sym (listed ∙ ap (listed_answer space) read ∙ if_true _ 61 0 (lt-ltb _ _ k))

        -- ---- none

        module _ (l : n ≤ space / 3) where
          pub nothing_refused : 0 ≡ answer
          nothing_refused =
              let k : 3 * length operations ≤ space = omega (arith, size) in
              sym (listed ∙ ap (listed_answer space) read ∙ if_false _ 61 0 (le-ltb _ _ k))

          pub all_runnable : {held : ℕ} → Holds s t held → Runnable S s t file space held n
          all_runnable sum = record {
            accepted = h;
            holds = sum;
            calls = rw c (good_calls file e).good;
            read = read;
            room = omega arith;
          }

  -- ---- what was judged, carried out

  module _ {before : List ℕ} where
    pub nothing_done : {n : ℕ} → n ≡ answer (length before) → (n ≡ 0 → ⊥)
        → CarriedOut S s t t file before before n s 0
    nothing_done e z = record {
      number = e;
      done = λ os d r. absurd (z d);
      refused = λ y. (refl, (refl, (refl, refl)));
    }

    pub all_done : {held count : ℕ} → 0 ≡ answer (length before) → Runnable S s t file (length before) held count
        → {u : Tables} {after : List ℕ} {r : Scalars}
        → Done S s t u (operations_there (drop 2 (words file)) count) before after r count
        → CarriedOut S s t u file before after 0 r count
    all_done {held} {count} e j d = record {
      number = e;
      done = λ os z q.
          let same : operations_there (drop 2 (words file)) count ≡ os = cc (j.read, q) in
          rw same at d;
      refused = λ z. absurd (z refl);
    }
