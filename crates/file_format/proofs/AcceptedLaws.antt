-- Accepted settings and books can be written.
use Rattle.std.specs.Prelude.{◌≡◌, refl, Bool, true, false, ◌&&◌, ◌||◌, List, [], ◌∷◌, ℕ, ◌^◌, ◌≤◌, ◌<◌, length, leb}
use Rattle.std.specs.Prelude.{ltb, eqb}
use Rattle.std.proofs.Common.{arith, ltb-true, leb-true, eqb-true, lt-ltb, le-leb, eq-eqb}
use Rattle.lists.specs.Base.{every, total}
use Rattle.lists.specs.Laws.{both, join, every_weaken, every_join}
use Rattle.rules.specs.Types.{FAR, BOUND, Settings, Validator, Books}
use Rattle.rules.specs.Types.{PendingBalanceDeposit, PendingPartialWithdrawal, PendingConsolidation}
use Rattle.rules.specs.Acceptance.{sound_settings, sound_books, effective_within, is_flag, epoch_within, epochs_within}
use Rattle.rules.specs.Acceptance.{deposit_in, partial_in, consolidation_in, partial_epoch_within}
use Rattle.rules.specs.Acceptance.{balances, deposit_amounts}
use Rattle.rules.specs.Helpers.{count}
use Rattle.rule_laws.specs.Accepted.{Limit, SoundSettings, settings_sound, SoundBooks, books_sound}
use Rattle.file_format.specs.Fields.{Format, number, flag, is_field, field, many}
use Rattle.file_format.specs.Books.{settings, validator, deposit, partial, consolidation, books, books_format}
use Rattle.file_format.specs.Books.{list_of, books_writable, bytes_sized, sized}
use Rattle.file_format.proofs.FieldsLaws.{number_fits}

-- ---- lists

-- no element is over the sum
every_within : {A : Type 0} (f : A → ℕ) (n : ℕ) (xs : List A) → total f xs ≤ n → every (λ x. leb (f x) n) xs ≡ true
every_within f n [] h = refl
every_within f n (x ∷ xs) h = join (le-leb (f x) n (omega arith)) (every_within f n xs (omega arith))

-- ---- numbers

limit_below : (n : ℕ) → Limit n → number.domain n ≡ true
limit_below n l = number_fits n (omega (arith, l.most))

epoch_below : (e : ℕ) → epoch_within e ≡ true → number.domain e ≡ true
epoch_below e h = go (leb e BOUND) refl h
  where
    go : (t : Bool) → leb e BOUND ≡ t → t || eqb e FAR ≡ true → number.domain e ≡ true
    go true p q = number_fits e (omega (arith, leb-true e BOUND p))
    go false p q = number_fits e (omega (arith, eqb-true e FAR q))

-- ---- settings

settings_writable : (S : Settings) → SoundSettings S → settings.domain S ≡ true
unfolding settings many
settings_writable S σ =
    join (number_fits _ (omega (arith, σ.min_activation_balance)))
    (join (number_fits _ (omega (arith, σ.max_effective_balance)))
    (join (number_fits _ (omega (arith, σ.increment)))
    (join (number_fits _ (omega (arith, σ.min_churn)))
    (join (number_fits _ (omega (arith, σ.max_churn)))
    (join (number_fits _ (omega (arith, σ.quotient)))
    (join (number_fits _ (omega (arith, σ.period)))
    (join (number_fits _ (omega (arith, σ.delay)))
    (join (number_fits _ (omega (arith, σ.lookahead)))
    (join (number_fits _ (omega (arith, σ.hysteresis_quotient)))
    (join (number_fits _ (omega (arith, σ.downward)))
    (join (number_fits _ (omega (arith, σ.upward)))
    (join (number_fits _ (omega (arith, σ.partials)))
    (join (number_fits _ (omega (arith, σ.payload)))
    (join (number_fits _ (omega (arith, σ.sweep)))
    (join (limit_below _ σ.registry_limit)
    (join (limit_below _ σ.deposits_limit)
    (join (limit_below _ σ.partials_limit)
    (join (limit_below _ σ.consolidations_limit) refl))))))))))))))))))

-- ---- the lists

-- a list within a limit, of records that can be written
list_writable : {A : Type 0} (F : Format A) (n : ℕ) (xs : List A) → length xs ≤ n → Limit n
    → every F.domain xs ≡ true → (list_of F).domain xs ≡ true
unfolding many
list_writable F n xs h l e =
    let k : length xs < 2 ^ 28 = omega (arith, l.most) in
    join (lt-ltb _ _ k) (join (eq-eqb (length xs) (length xs) refl) e)

-- what accepted books say of each validator
abbrev validator_tests : Settings → Validator → Bool
validator_tests S v =
    bytes_sized v && (is_flag v && (effective_within S v && (epochs_within v && leb v.balance BOUND)))

validator_writable : (S : Settings) → SoundSettings S → (v : Validator) → validator_tests S v ≡ true
    → validator.domain v ≡ true
unfolding validator many field flag
validator_writable S σ v e =
    let a = both (bytes_sized v) _ e in
    let b = both (is_flag v) _ a.1 in
    let c = both (effective_within S v) _ b.1 in
    let d = both (epochs_within v) (leb v.balance BOUND) c.1 in
    let bs = both (is_field 48 v.public_key) (is_field 32 v.withdrawal_credentials) a.0 in
    let n : v.slashed < 2 = omega (arith, leb-true v.slashed 1 b.0) in
    let most = leb-true v.effective_balance S.max_effective_balance_electra c.0 in
    let withdrawable = both _ (epoch_within v.withdrawable_epoch) d.0 in
    let exit = both _ (epoch_within v.exit_epoch) withdrawable.0 in
    let active =
    both (epoch_within v.activation_eligibility_epoch) (epoch_within v.activation_epoch) exit.0 in
    let held = leb-true v.balance BOUND d.1 in
    join bs.0
    (join bs.1
    (join (lt-ltb _ _ n)
    (join (number_fits v.effective_balance (omega (arith, σ.max_effective_balance)))
    (join (epoch_below v.activation_eligibility_epoch active.0)
    (join (epoch_below v.activation_epoch active.1)
    (join (epoch_below v.exit_epoch exit.1)
    (join (epoch_below v.withdrawable_epoch withdrawable.1)
    (join (number_fits v.balance (omega arith)) refl))))))))

deposit_writable : (n : ℕ) → n ≤ 65536 → (d : PendingBalanceDeposit)
    → deposit_in n d && leb d.amount BOUND ≡ true → deposit.domain d ≡ true
unfolding deposit many
deposit_writable n h d e =
    let s = both (deposit_in n d) (leb d.amount BOUND) e in
    let i = ltb-true d.index n s.0 in
    let a = leb-true d.amount BOUND s.1 in
    join (number_fits _ (omega arith)) (join (number_fits _ (omega arith)) refl)

partial_writable : (n : ℕ) → n ≤ 65536 → (p : PendingPartialWithdrawal)
    → partial_in n p && (partial_epoch_within p && leb p.amount BOUND) ≡ true → partial.domain p ≡ true
unfolding partial many
partial_writable n h p e =
    let s = both (partial_in n p) _ e in
    let t = both (partial_epoch_within p) (leb p.amount BOUND) s.1 in
    let i = ltb-true p.index n s.0 in
    let a = leb-true p.amount BOUND t.1 in
    join (number_fits _ (omega arith)) (join (number_fits _ (omega arith)) (join (epoch_below _ t.0) refl))

consolidation_writable : (n : ℕ) → n ≤ 65536 → (c : PendingConsolidation) → consolidation_in n c ≡ true
    → consolidation.domain c ≡ true
unfolding consolidation many
consolidation_writable n h c e =
    let s = both (ltb c.source_index n) (ltb c.target_index n) e in
    let i = ltb-true c.source_index n s.0 in
    let j = ltb-true c.target_index n s.1 in
    join (number_fits _ (omega arith)) (join (number_fits _ (omega arith)) refl)

-- ---- the books

module _ (S : Settings) (b : Books) (σ : SoundSettings S) (k : SoundBooks S b) (e : sized b ≡ true) where
  count_small : count b ≤ 65536
  count_small = omega (arith, k.registry_fits, σ.registry_limit.most)

  validators_writable : (list_of validator).domain b.validators ≡ true
  validators_writable =
      let vs = b.validators in
      let bytes = both (every bytes_sized vs) (ltb b.deposit_receipts_start_index (2 ^ 64)) e in
      let h : balances b ≤ BOUND = omega (arith, k.held_small) in
      list_writable validator S.validator_registry_limit vs k.registry_fits σ.registry_limit
      (every_weaken (validator_tests S) validator.domain vs (validator_writable S σ)
      (every_join bytes_sized _ vs bytes.0
      (every_join is_flag _ vs k.flags
      (every_join (effective_within S) _ vs k.effective
      (every_join epochs_within (λ v. leb v.balance BOUND) vs k.epochs
      (every_within (λ (v : Validator). v.balance) BOUND vs h))))))

  deposits_writable : (list_of deposit).domain b.pending_balance_deposits ≡ true
  deposits_writable =
      let ds = b.pending_balance_deposits in
      let h : deposit_amounts ds ≤ BOUND = omega (arith, k.held_small) in
      let sums = every_within (λ (d : PendingBalanceDeposit). d.amount) BOUND ds h in
      list_writable deposit S.pending_balance_deposits_limit ds k.deposits_fit σ.deposits_limit
      (every_weaken _ deposit.domain ds (deposit_writable (count b) count_small)
      (every_join (deposit_in (count b)) (λ d. leb d.amount BOUND) ds k.deposits_in sums))

  partials_writable : (list_of partial).domain b.pending_partial_withdrawals ≡ true
  partials_writable =
      let ps = b.pending_partial_withdrawals in
      let sums = every_within (λ (p : PendingPartialWithdrawal). p.amount) BOUND ps k.partials_small in
      list_writable partial S.pending_partial_withdrawals_limit ps k.partials_fit σ.partials_limit
      (every_weaken _ partial.domain ps (partial_writable (count b) count_small)
      (every_join (partial_in (count b)) _ ps k.partials_in
      (every_join partial_epoch_within (λ p. leb p.amount BOUND) ps k.partial_epochs sums)))

  consolidations_writable : (list_of consolidation).domain b.pending_consolidations ≡ true
  consolidations_writable =
      let cs = b.pending_consolidations in
      list_writable consolidation S.pending_consolidations_limit cs k.consolidations_fit σ.consolidations_limit
      (every_weaken (consolidation_in (count b)) consolidation.domain cs
      (consolidation_writable (count b) count_small) k.consolidations_in)

  books_domain : books.domain b ≡ true
  unfolding books many
  books_domain =
      let start = both (every bytes_sized b.validators) (ltb b.deposit_receipts_start_index (2 ^ 64)) e in
      let cursor = k.cursor_in in
      let c = count_small in
      let scalars =
      join (number_fits b.epoch (omega (arith, k.epoch_small)))
      (join (number_fits b.next_withdrawal_index (omega (arith, k.index_small)))
      (join (number_fits b.next_withdrawal_validator_index (omega arith))
      (join (number_fits b.deposit_receipts_start_index (ltb-true _ _ start.1))
      (join (number_fits b.deposit_balance_to_consume (omega (arith, k.carry_small)))
      (join (number_fits b.exit_balance_to_consume (omega (arith, k.exit_left_small)))
      (join (number_fits b.earliest_exit_epoch (omega (arith, k.exit_epoch_small)))
      (join (number_fits b.consolidation_balance_to_consume (omega (arith, k.consolidation_left_small)))
      (join (number_fits b.earliest_consolidation_epoch (omega (arith, k.consolidation_epoch_small))) refl))))))))
      in
      join scalars
      (join validators_writable (join deposits_writable (join partials_writable consolidations_writable)))

pub accepted_writable : (S : Settings) (b : Books) → sound_settings S ≡ true → sound_books S b ≡ true → sized b ≡ true
    → books_writable S b ≡ true
unfolding books_format
accepted_writable S b p q e =
    let σ = settings_sound S p in
    join (settings_writable S σ) (books_domain S b σ (books_sound S b q) e)
