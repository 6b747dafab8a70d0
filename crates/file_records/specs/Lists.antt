-- The lists of a books file, record by record: what a loop over one needs, and what it has gone through at the end.
use Rattle.std.specs.Prelude.{◌≡◌, true, List, ℕ, ◌+◌, ◌*◌, ◌≤◌, ◌<◌, ◌^◌, drop}
use Rattle.std.proofs.Math.Path.{ap}
use Rattle.std.proofs.Common.{◌∙◌, arith, drop-drop}
use Rattle.tables.specs.Rows.{rows}
use Rattle.file_format.specs.Fields.{Format}
use Rattle.file_format.specs.Books.{validator, deposit, partial, consolidation}
use Rattle.file_format.specs.Places.{count_at, listed, listed_ok}
use Rattle.file_format.specs.Places.{deposits_place, partials_place, consolidations_place}
use Rattle.file_format.proofs.AccessLaws.{Fixed, fixed_validator, fixed_deposit, fixed_partial, fixed_consolidation}
use Rattle.file_format.specs.PlacesLaws.{Good}
use Rattle.file_format.proofs.PlacesLaws.{listed_good}

-- so many records from the first word on, n words a record
abbrev pub records_from : {A : Type 0} → Format A → (n count : ℕ) → List ℕ → List A
records_from F n count ws = rows count (λ i. F.value (drop (i * n) ws))

-- they were judged good, and their places are small
pub record Readable {A : Type 0} (F : Format A) (n count : ℕ) (ws : List ℕ) : Type 0 where
  pub small : count * n ≤ 2 ^ 38
  pub good : (i : ℕ) → i < count → F.ok (drop (i * n) ws) ≡ true

-- ---- the records of a counted list stand behind its count

pub behind_count : (p : ℕ) (ws : List ℕ) {list records : List ℕ} → list ≡ drop p ws → records ≡ drop 1 list
    → records ≡ drop (p + 1) ws
behind_count p ws e h = h ∙ ap (drop 1) e ∙ drop-drop 1 p ws

pub listed_from : {A : Type 0} (F : Format A) (n p : ℕ) (ws : List ℕ) {count : ℕ} {records : List ℕ}
    → records ≡ drop (p + 1) ws → count ≡ count_at ws p → records_from F n count records ≡ listed F n p ws
listed_from F n p ws e h =
    (λ j. records_from F n (h j) (e j)) ∙ (λ j. rows (count_at ws p) (λ i. F.value (drop-drop (i * n) (p + 1) ws j)))

readable : {A : Type 0} (F : Format A) (n : ℕ) → Fixed F n → (p : ℕ) (ws : List ℕ) {count : ℕ} {records : List ℕ}
    → records ≡ drop (p + 1) ws → count ≡ count_at ws p → listed_ok F p ws ≡ true → count_at ws p * n ≤ 2 ^ 38
    → Readable F n count records
readable F n f p ws e h ok fits =
    rw (e, h)
    (record {
      small = fits;
      good = λ i l. ap F.ok (drop-drop (i * n) (p + 1) ws) ∙ listed_good F n f p i ws ok l;
    })

module _ (ws : List ℕ) (g : Good ws) {count : ℕ} {records : List ℕ} where
  pub validators_readable : records ≡ drop 86 ws → count ≡ count_at ws 85 → Readable validator 46 count records
  validators_readable e h = readable validator 46 fixed_validator 85 ws e h g.validators_good (omega arith)

  pub deposits_readable : records ≡ drop (deposits_place ws + 1) ws → count ≡ count_at ws (deposits_place ws)
      → Readable deposit 6 count records
  deposits_readable e h =
      readable deposit 6 fixed_deposit (deposits_place ws) ws e h g.deposits_good (omega arith)

  pub partials_readable : records ≡ drop (partials_place ws + 1) ws → count ≡ count_at ws (partials_place ws)
      → Readable partial 9 count records
  partials_readable e h =
      readable partial 9 fixed_partial (partials_place ws) ws e h g.partials_good (omega arith)

  pub consolidations_readable : records ≡ drop (consolidations_place ws + 1) ws
      → count ≡ count_at ws (consolidations_place ws) → Readable consolidation 6 count records
  consolidations_readable e h =
      readable consolidation 6 fixed_consolidation (consolidations_place ws) ws e h g.consolidations_good (omega arith)
