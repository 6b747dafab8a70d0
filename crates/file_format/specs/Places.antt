-- Where everything stands in a books file, by word: the head at 0, 19 settings from 1 on, 9 scalars from 58, the
-- validators' count at 85, then the lists one behind another. ws are the words of a file, places count from 0.
use Rattle.std.specs.Prelude.{Bool, ◌&&◌, List, ℕ, ◌+◌, ◌*◌, ◌^◌, get_or, drop}
use Rattle.rules.specs.Types.{Settings, Books}
use Rattle.rules.specs.Profiles.{settings_from}
use Rattle.file_format.specs.Words.{payload, is_word}
use Rattle.file_format.specs.Fields.{Format, number, many}
use Rattle.file_format.specs.Books.{books_from, validator, deposit, partial, consolidation}
use Rattle.tables.specs.Rows.{rows}

-- the number at word k
abbrev pub number_at : List ℕ → ℕ → ℕ
number_at ws k = number.value (drop k ws)

-- the count at word p
abbrev pub count_at : List ℕ → ℕ → ℕ
count_at ws p = payload (get_or ws p 0)

-- ---- the places of the counts, and of the end word; 46, 6, 9 and 6 words a record

-- the word behind a counted list whose count stands at word p, n words a record
abbrev pub list_end : List ℕ → (p n : ℕ) → ℕ
list_end ws p n = p + 1 + count_at ws p * n

abbrev pub deposits_place : List ℕ → ℕ
deposits_place ws = list_end ws 85 46

abbrev pub partials_place : List ℕ → ℕ
partials_place ws = list_end ws (deposits_place ws) 6

abbrev pub consolidations_place : List ℕ → ℕ
consolidations_place ws = list_end ws (partials_place ws) 9

abbrev pub end_place : List ℕ → ℕ
end_place ws = list_end ws (consolidations_place ws) 6

-- ---- a counted list, its count at word p, n words a record

abbrev pub listed : {A : Type 0} → Format A → (n p : ℕ) → List ℕ → List A
listed F n p ws = rows (count_at ws p) (λ i. F.value (drop (p + 1 + i * n) ws))

abbrev pub listed_ok : {A : Type 0} → Format A → (p : ℕ) → List ℕ → Bool
listed_ok F p ws = is_word 2 (2 ^ 28) (get_or ws p 0) && (many F (count_at ws p)).ok (drop (p + 1) ws)

-- ---- settings and books by places

abbrev pub settings_at : List ℕ → Settings
settings_at ws = settings_from (rows 19 (λ k. number_at ws (1 + k * 3)))

abbrev pub books_at : List ℕ → Books
books_at ws =
    books_from (
      rows 9 (λ k. number_at ws (58 + k * 3)),
      (
        listed validator 46 85 ws,
        (
          listed deposit 6 (deposits_place ws) ws,
          (listed partial 9 (partials_place ws) ws, listed consolidation 6 (consolidations_place ws) ws),
        ),
      ),
    )
