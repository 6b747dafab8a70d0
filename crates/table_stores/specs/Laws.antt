-- The facts that the stores are proved by.
use Rattle.std.specs.Prelude.{◌≡◌, true, List, [], ◌∷◌, ◌++◌, ℕ, ◌+◌, ◌*◌, ◌≤◌, ◌<◌, length, take, drop}
use Rattle.std.proofs.Math.Path.{refl, ap}
use Rattle.std.proofs.Common.{sym, ap₂, ◌∙◌, add-one, arith, length-take, length-drop}
use Rattle.std.proofs.Math.Seq.{paste}
use Rattle.std.proofs.lemmas.List.Edits.{length-paste}
use Rattle.std.proofs.lemmas.Slice.{put_mid-paste}
use borrow.Rule.Slice.PartMut.{put_mid}
use Rattle.tables.specs.Rows.{rows, rows_snoc}
use Rattle.rules.specs.Types.{Validator}
use Rattle.primitives.specs.declared.Scalars.{Scalars}
use Rattle.records.specs.Layout.{validator_at, identities_fit, validators_fit}
use Rattle.records.specs.Past.{drop_more, identities_past_more, validators_past_more}
use Rattle.records.specs.Books.{Tables, books_of}
use Rattle.records.specs.Queues.{Pushed}
use Rattle.records.specs.Stores.{ValidatorPushed, put_validator, validator_stored}
use Rattle.acceptance.specs.Sound.{books_with}
use Rattle.file_format.specs.Words.{words}
use Rattle.file_format.specs.Fields.{field}
use Rattle.file_format.specs.Books.{validator, deposit, partial, consolidation}
use Rattle.file_format.specs.Places.{deposits_place, partials_place, consolidations_place}
use Rattle.file_format.proofs.PlacesLaws as places
use Rattle.file_format.proofs.PlacesLaws.{good_validator}
use Rattle.file_bytes.specs.Laws.{field_size}
use Rattle.file_records.specs.Scalars.{scalars_at}
use Rattle.file_records.specs.Lists.{listed_from}
use Rattle.file_records.specs.Books.{validators_counted, deposits_counted, partials_counted, consolidations_counted}
use Rattle.file_records.specs.Books.{file_validators, file_deposits, file_partials, file_consolidations, file_books}
use Rattle.table_stores.specs.Stored.{Stored, ValidatorsStored, DepositsStored, PartialsStored}
use Rattle.table_stores.specs.Stored.{ConsolidationsStored, BooksStored}

-- ---- a field into its part of a table, w bytes from `at` on

module _ (bs : List ℕ) (n : ℕ) (e : (field n).ok (words bs) ≡ true) (l : List ℕ) (at w : ℕ) where
  abbrev part : List ℕ
  part = take w (drop at l)

  module _ (h : at + n ≤ length l) (q : w ≡ n) where
    part_size : length part ≡ n
    part_size = simp (length-take, length-drop) (omega arith)

    pub part_ok : (field (length part)).ok (words bs) ≡ true
    part_ok = rw part_size e

    pub part_put : {ys : List ℕ} → ys ≡ (field (length part)).value (words bs)
        → put_mid at w l ys ≡ paste l at ((field n).value (words bs)) n
    part_put {ys} p =
        put_mid-paste at w l ys ((field n).value (words bs)) n (rw part_size at p) (sym q) (sym (field_size bs n e))

    pub part_length : {ys : List ℕ} → ys ≡ (field (length part)).value (words bs)
        → length (put_mid at w l ys) ≡ length l
    part_length p =
        ap length (part_put p) ∙ length-paste l at ((field n).value (words bs)) n h (omega (arith, field_size bs n e))

-- ---- the validator at the front of bs, whose credentials are at the front of cs

module _ (bs cs : List ℕ) (e : validator.ok (words bs) ≡ true) (q : words cs ≡ drop 16 (words bs)) where
  pub key_good : (field 48).ok (words bs) ≡ true
  key_good = (good_validator (words bs) e).key

  pub credentials_good : (field 32).ok (words cs) ≡ true
  credentials_good = rw q (good_validator (words bs) e).credentials

  abbrev v : Validator
  v = validator.value (words bs)

  key_there : v.public_key ≡ (field 48).value (words bs)
  key_there = ap (λ (x : Validator). x.public_key) (places.validator_at (words bs))

  credentials_there : v.withdrawal_credentials ≡ (field 32).value (words cs)
  credentials_there =
      ap (λ (x : Validator). x.withdrawal_credentials) (places.validator_at (words bs)) ∙ ap (field 32).value (sym q)

  -- its bytes, and then its numbers
  pub validator_put : (ids vs : List ℕ) (n : ℕ) → n < identities_fit ids → n < validators_fit vs
      → {with_key new_ids new_vs : List ℕ}
      → with_key ≡ paste ids (48 * n) ((field 48).value (words bs)) 48
      → new_ids ≡ paste with_key (48 * identities_fit ids + 32 * n) ((field 32).value (words cs)) 32
      → new_vs ≡ put_validator vs n v
      → ValidatorPushed n v ids vs new_ids new_vs
  validator_put ids vs n f g {with_key} p c r =
      validator_stored ids vs n v f g
      (ap length key_there ∙ field_size bs 48 key_good)
      (ap length credentials_there ∙ field_size cs 32 credentials_good)
      (p ∙ ap (λ x. paste ids (48 * n) x 48) (sym key_there))
      (c ∙ ap (λ x. paste with_key (48 * identities_fit ids + 32 * n) x 32) (sym credentials_there))
      r

-- ---- a loop that stores one record after another

no_rows : {A : Type 0} (g h : ℕ → A) → rows 0 g ≡ rows 0 h
unfolding rows
no_rows g h = refl

-- the rows with one more behind them
one_more : {A : Type 0} (i : ℕ) (g : ℕ → A) {xs : List A} {x : A} → xs ≡ rows i g → x ≡ g i
    → xs ++ (x ∷ []) ≡ rows (i + 1) g
one_more i g e h = rw add-one (ap₂ (λ l y. l ++ (y ∷ [])) e h ∙ sym (rows_snoc i g))

module _ {A : Type 0} (decode : List ℕ → ℕ → A) (width : ℕ) (g : ℕ → A) where
  pub stored_none : {old : List ℕ} → Stored decode width 0 (rows 0 g) old old
  stored_none {old} = record { size = refl; records = no_rows (decode old) g; past = refl }

  pub stored_more : {i : ℕ} {x : A} {old mid new : List ℕ} → Stored decode width i (rows i g) old mid
      → Pushed decode width i x mid new → length new ≡ length mid → x ≡ g i
      → Stored decode width (i + 1) (rows (i + 1) g) old new
  stored_more {i} {x} {old} {mid} {new} s p z e = record {
    size = z ∙ s.size;
    records = p.records ∙ one_more i g s.records e;
    past = p.past ∙ drop_more (width * i) (width * (i + 1)) mid old (omega arith) s.past;
  }

-- ---- the same of the registry's two tables

module _ (ws : List ℕ) where
  abbrev file_validator : ℕ → Validator
  file_validator i = validator.value (drop (i * 46) ws)

  pub validators_none : {ids vs : List ℕ} → ValidatorsStored ws 0 ids vs ids vs
  validators_none {ids} {vs} = record {
    identities_size = refl;
    validators_size = refl;
    validators = no_rows (validator_at ids vs) file_validator;
    identities_past = refl;
    validators_past = refl;
  }

  pub validators_more : {i : ℕ} {ids vs mid_ids mid_vs new_ids new_vs : List ℕ}
      → ValidatorsStored ws i ids vs mid_ids mid_vs
      → ValidatorPushed i (validator.value (drop (i * 46) ws)) mid_ids mid_vs new_ids new_vs
      → length new_ids ≡ length mid_ids → length new_vs ≡ length mid_vs
      → ValidatorsStored ws (i + 1) ids vs new_ids new_vs
  validators_more {i} {ids} {vs} {mid_ids} {mid_vs} s p y z = record {
    identities_size = y ∙ s.identities_size;
    validators_size = z ∙ s.validators_size;
    validators = p.validators ∙ one_more i file_validator s.validators refl;
    identities_past =
        p.identities_past ∙ identities_past_more i (i + 1) mid_ids ids (omega arith) s.identities_past;
    validators_past =
        p.validators_past ∙ validators_past_more i (i + 1) mid_vs vs (omega arith) s.validators_past;
  }

-- ---- the books

module _ (ws : List ℕ) {s : Scalars} (e : s ≡ scalars_at ws) {t u : Tables} where
  pub books_stored : {vs ds ps cs : List ℕ} → vs ≡ drop 86 ws → ds ≡ drop (deposits_place ws + 1) ws
      → ps ≡ drop (partials_place ws + 1) ws → cs ≡ drop (consolidations_place ws + 1) ws
      → ValidatorsStored vs s.validators t.identities t.validators u.identities u.validators
      → DepositsStored ds s.deposits t.deposits u.deposits
      → PartialsStored ps s.partials t.partials u.partials
      → ConsolidationsStored cs s.consolidations t.consolidations u.consolidations
      → BooksStored ws s t u
  unfolding books_of
  books_stored k l m n v d p c =
      let v₀ = v.validators ∙ listed_from validator 46 85 ws k (validators_counted ws e) in
      let d₀ = d.records ∙ listed_from deposit 6 (deposits_place ws) ws l (deposits_counted ws e) in
      let p₀ = p.records ∙ listed_from partial 9 (partials_place ws) ws m (partials_counted ws e) in
      let c₀ = c.records ∙ listed_from consolidation 6 (consolidations_place ws) ws n (consolidations_counted ws e) in
      record {
        books =
            (λ j. books_with s (v₀ j) (d₀ j) (p₀ j) (c₀ j))
            ∙ ap
            (λ x. books_with x (file_validators ws) (file_deposits ws) (file_partials ws) (file_consolidations ws))
            e
            ∙ file_books ws;
        beyond = record {
          identities = v.identities_past;
          validators = v.validators_past;
          deposits = d.past;
          partials = p.past;
          consolidations = c.past;
        };
      }
