-- What the passes over the lists of a books file show, and sound books: the laws of acceptance's Sound, of these lists.
use Rattle.std.specs.Prelude.{◌≡◌, refl, Bool, true, false, ◌&&◌, List, ℕ, zero, suc, ◌+◌, ◌≤◌, ◌<◌, drop}
use Rattle.std.specs.List.{list_all, range_with_len}
use Rattle.std.proofs.Common.{sym, ap, ◌∙◌, arith}
use Rattle.lists.specs.Base.{every}
use Rattle.tables.specs.Rows.{rows, rows_ext, length_rows}
use Rattle.rules.specs.Types.{BOUND, Settings}
use Rattle.rules.specs.Acceptance.{sound_books, deposit_in, consolidation_in}
use Rattle.primitives.specs.declared.Scalars.{Scalars}
use Rattle.acceptance.specs.Tests.{validator_within, partial_within, scalars_within, tested_sum}
use Rattle.acceptance.specs.Sound as lists
use Rattle.acceptance.specs.Sound.{books_with, Counted, BalancesSum, HeldSum, PartialsSum}
use Rattle.file_format.specs.Books.{validator, deposit, partial, consolidation}
use Rattle.file_format.specs.Places.{books_at, deposits_place, partials_place, consolidations_place}
use Rattle.file_records.specs.Scalars.{scalars_at}
use Rattle.file_records.specs.Books.{validators_counted, deposits_counted, partials_counted, consolidations_counted}
use Rattle.file_records.specs.Books.{file_validators, file_deposits, file_partials, file_consolidations, file_books}
use Rattle.file_records.specs.Lists.{records_from, listed_from}

-- ---- records, each tested in its place

module _ {A : Type 0} (t : A → Bool) (g : ℕ → A) where
  all_from : (n i : ℕ) → list_all (λ j. t (g j)) (range_with_len i n) ≡ every t (rows n (λ j. g (i + j)))
  unfolding rows
  all_from zero i = refl
  all_from (suc n) i =
      let here : i + 0 ≡ i = omega arith in
      let later : rows n (λ j. g (i + 1 + j)) ≡ rows n (λ j. g (i + suc j)) =
      rows_ext n _ _ (λ j h. ap g (omega arith)) in
      (λ j. t (g (sym here j)) && (all_from n (i + 1) ∙ ap (every t) later) j)

  -- all of n rows pass
  pub rows_all : (n : ℕ) → list_all (λ j. t (g j)) (range_with_len 0 n) ≡ every t (rows n g)
  rows_all n = all_from n 0 ∙ ap (every t) (rows_ext n (λ j. g (0 + j)) g (λ j h. ap g (omega arith)))

-- ---- sound books

module _ (S : Settings) (ws : List ℕ) {s : Scalars} (e : s ≡ scalars_at ws) where
  counted : Counted s (file_validators ws) (file_deposits ws) (file_partials ws) (file_consolidations ws)
  counted = record {
    validators = length_rows _ _ ∙ sym (validators_counted ws e);
    deposits = length_rows _ _ ∙ sym (deposits_counted ws e);
    partials = length_rows _ _ ∙ sym (partials_counted ws e);
    consolidations = length_rows _ _ ∙ sym (consolidations_counted ws e);
  }

  -- what each pass computes, over the words behind the count

  pub balances_summed : {records : List ℕ} {sum : ℕ} → records ≡ drop 86 ws
      → sum
      ≡ tested_sum (validator_within S.max_effective_balance_electra) (λ v. v.balance) 0
      (records_from validator 46 s.validators records)
      → BalancesSum S (file_validators ws) sum
  balances_summed q h =
      h
      ∙ ap (tested_sum (validator_within S.max_effective_balance_electra) (λ v. v.balance) 0)
      (listed_from validator 46 85 ws q (validators_counted ws e))

  pub held_summed : (start : ℕ) {records : List ℕ} {sum : ℕ} → records ≡ drop (deposits_place ws + 1) ws
      → sum
      ≡ tested_sum (deposit_in s.validators) (λ d. d.amount) start (records_from deposit 6 s.deposits records)
      → HeldSum s (file_deposits ws) start sum
  held_summed start q h =
      h
      ∙ ap (tested_sum (deposit_in s.validators) (λ d. d.amount) start)
      (listed_from deposit 6 (deposits_place ws) ws q (deposits_counted ws e))

  pub partials_summed : {records : List ℕ} {sum : ℕ} → records ≡ drop (partials_place ws + 1) ws
      → sum
      ≡ tested_sum (partial_within s.validators) (λ p. p.amount) 0 (records_from partial 9 s.partials records)
      → PartialsSum s (file_partials ws) sum
  partials_summed q h =
      h
      ∙ ap (tested_sum (partial_within s.validators) (λ p. p.amount) 0)
      (listed_from partial 9 (partials_place ws) ws q (partials_counted ws e))

  pub consolidations_tested : {records : List ℕ} {t : Bool} → records ≡ drop (consolidations_place ws + 1) ws
      → t ≡ every (consolidation_in s.validators) (records_from consolidation 6 s.consolidations records)
      → t ≡ every (consolidation_in s.validators) (file_consolidations ws)
  consolidations_tested q h =
      h
      ∙ ap (every (consolidation_in s.validators))
      (listed_from consolidation 6 (consolidations_place ws) ws q (consolidations_counted ws e))

  -- the books

  abbrev with_scalars : Scalars → Bool
  with_scalars x =
      sound_books S
      (books_with x (file_validators ws) (file_deposits ws) (file_partials ws) (file_consolidations ws))

  same_sound : with_scalars s ≡ sound_books S (books_at ws)
  same_sound = ap with_scalars e ∙ ap (sound_books S) (file_books ws)

  pub scalars_refused : scalars_within S s ≡ false → false ≡ sound_books S (books_at ws)
  scalars_refused h = lists.scalars_refused S s _ _ _ _ counted h ∙ same_sound

  pub balances_refused : (sum : ℕ) → BalancesSum S (file_validators ws) sum → BOUND < sum
      → false ≡ sound_books S (books_at ws)
  balances_refused sum b h = lists.balances_refused S s _ _ _ _ counted sum b h ∙ same_sound

  pub held_refused : (start sum : ℕ) → BalancesSum S (file_validators ws) start
      → HeldSum s (file_deposits ws) start sum → BOUND < sum → false ≡ sound_books S (books_at ws)
  held_refused start sum b d h = lists.held_refused S s _ _ _ _ counted start sum b d h ∙ same_sound

  pub partials_refused : (sum : ℕ) → PartialsSum s (file_partials ws) sum → BOUND < sum
      → false ≡ sound_books S (books_at ws)
  partials_refused sum p h = lists.partials_refused S s _ _ _ _ counted sum p h ∙ same_sound

  -- the passes before the last found nothing: the last decides
  pub consolidations_decide : (start sum amounts : ℕ) (last : Bool) → scalars_within S s ≡ true
      → BalancesSum S (file_validators ws) start → start ≤ BOUND → HeldSum s (file_deposits ws) start sum → sum ≤ BOUND
      → PartialsSum s (file_partials ws) amounts → amounts ≤ BOUND
      → last ≡ every (consolidation_in s.validators) (file_consolidations ws)
      → last ≡ sound_books S (books_at ws)
  consolidations_decide start sum amounts last w b b_small d d_small p p_small c =
      lists.consolidations_decide S s _ _ _ _ counted start sum amounts last w b b_small d d_small p p_small c
      ∙ same_sound
