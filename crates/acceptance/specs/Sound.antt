-- What the passes over four lists of records show, and sound books. The lists are the tables', or those of a file.
use Rattle.std.specs.Prelude.{◌≡◌, ℕ, ◌<◌, ◌≤◌, Bool, true, false, ◌&&◌, List, length}
use Rattle.std.proofs.Common.{sym, subst, ◌∙◌, arith, ltb-true, leb-true, le-leb, lt-ltb}
use Rattle.lists.specs.Base.{every}
use Rattle.lists.specs.Laws.{nth, all_none, all_more, every_join, same_test}
use Rattle.tables.specs.Tests.{not_so}
use Rattle.rules.specs.Types.{BOUND, Settings, Books, Validator}
use Rattle.rules.specs.Types.{PendingBalanceDeposit, PendingPartialWithdrawal, PendingConsolidation}
use Rattle.rules.specs.Acceptance.{sound_books, held, balances, partial_amounts}
use Rattle.rules.specs.Acceptance.{is_flag, epochs_within, effective_within}
use Rattle.rules.specs.Acceptance.{deposit_in, partial_in, partial_epoch_within, consolidation_in}
use Rattle.rule_laws.specs.Accepted.{SoundBooks, books_sound, books_sound_so}
use Rattle.primitives.specs.declared.Scalars.{Scalars}
use Rattle.acceptance.specs.Tests.{validator_within, partial_within, scalars_within, tested_sum}
use Rattle.acceptance.specs.Laws.{every_both, tested_within, tested_facts}

-- ---- scalars

pub record ScalarsWithin (S : Settings) (s : Scalars) : Type 0 where
  pub some : 0 < s.validators
  pub registry_fits : s.validators ≤ S.validator_registry_limit
  pub deposits_fit : s.deposits ≤ S.pending_balance_deposits_limit
  pub partials_fit : s.partials ≤ S.pending_partial_withdrawals_limit
  pub consolidations_fit : s.consolidations ≤ S.pending_consolidations_limit
  pub cursor_in : s.next_withdrawal_validator_index.0 < s.validators
  pub epoch_small : s.epoch.0 ≤ BOUND
  pub index_small : s.next_withdrawal_index.0 ≤ BOUND
  pub carry_small : s.deposit_balance_to_consume.0 ≤ BOUND
  pub exit_left_small : s.exit_balance_to_consume.0 ≤ BOUND
  pub exit_epoch_small : s.earliest_exit_epoch.0 ≤ BOUND
  pub consolidation_left_small : s.consolidation_balance_to_consume.0 ≤ BOUND
  pub consolidation_epoch_small : s.earliest_consolidation_epoch.0 ≤ BOUND

pub within : (S : Settings) (s : Scalars) → scalars_within S s ≡ true → ScalarsWithin S s
unfolding scalars_within
within S s e = record {
  some = ltb-true _ _ (nth _ e 0);
  registry_fits = leb-true _ _ (nth _ e 1);
  deposits_fit = leb-true _ _ (nth _ e 2);
  partials_fit = leb-true _ _ (nth _ e 3);
  consolidations_fit = leb-true _ _ (nth _ e 4);
  cursor_in = ltb-true _ _ (nth _ e 5);
  epoch_small = leb-true _ _ (nth _ e 6);
  index_small = leb-true _ _ (nth _ e 7);
  carry_small = leb-true _ _ (nth _ e 8);
  exit_left_small = leb-true _ _ (nth _ e 9);
  exit_epoch_small = leb-true _ _ (nth _ e 10);
  consolidation_left_small = leb-true _ _ (nth _ e 11);
  consolidation_epoch_small = leb-true _ _ (nth _ e 12);
}

pub within_so : (S : Settings) (s : Scalars) → ScalarsWithin S s → scalars_within S s ≡ true
unfolding scalars_within
within_so S s k =
    all_more _ _ (lt-ltb _ _ k.some)
    (all_more _ _ (le-leb _ _ k.registry_fits)
    (all_more _ _ (le-leb _ _ k.deposits_fit)
    (all_more _ _ (le-leb _ _ k.partials_fit)
    (all_more _ _ (le-leb _ _ k.consolidations_fit)
    (all_more _ _ (lt-ltb _ _ k.cursor_in)
    (all_more _ _ (le-leb _ _ k.epoch_small)
    (all_more _ _ (le-leb _ _ k.index_small)
    (all_more _ _ (le-leb _ _ k.carry_small)
    (all_more _ _ (le-leb _ _ k.exit_left_small)
    (all_more _ _ (le-leb _ _ k.exit_epoch_small)
    (all_more _ _ (le-leb _ _ k.consolidation_left_small)
    (all_more _ _ (le-leb _ _ k.consolidation_epoch_small) all_none))))))))))))

-- ---- the books of scalars and lists

module _ (s : Scalars) (vs : List Validator) (ds : List PendingBalanceDeposit) (ps : List PendingPartialWithdrawal)
    (cs : List PendingConsolidation) where
  abbrev pub books_with : Books
  books_with = record {
    epoch = s.epoch.0;
    next_withdrawal_index = s.next_withdrawal_index.0;
    next_withdrawal_validator_index = s.next_withdrawal_validator_index.0;
    deposit_receipts_start_index = s.deposit_receipts_start_index;
    deposit_balance_to_consume = s.deposit_balance_to_consume.0;
    exit_balance_to_consume = s.exit_balance_to_consume.0;
    earliest_exit_epoch = s.earliest_exit_epoch.0;
    consolidation_balance_to_consume = s.consolidation_balance_to_consume.0;
    earliest_consolidation_epoch = s.earliest_consolidation_epoch.0;
    validators = vs;
    pending_balance_deposits = ds;
    pending_partial_withdrawals = ps;
    pending_consolidations = cs;
  }

  -- the lists have as many records as the scalars count
  pub record Counted : Type 0 where
    pub validators : length vs ≡ s.validators
    pub deposits : length ds ≡ s.deposits
    pub partials : length ps ≡ s.partials
    pub consolidations : length cs ≡ s.consolidations

-- ---- the sums of the passes, from the sums' equations

-- the sum of the validators' balances
abbrev pub BalancesSum : Settings → List Validator → ℕ → Type 0
BalancesSum S vs sum =
    sum ≡ tested_sum (validator_within S.max_effective_balance_electra) (λ v. v.balance) 0 vs

-- the waiting deposits added to it
abbrev pub HeldSum : Scalars → List PendingBalanceDeposit → ℕ → ℕ → Type 0
HeldSum s ds start sum = sum ≡ tested_sum (deposit_in s.validators) (λ d. d.amount) start ds

abbrev pub PartialsSum : Scalars → List PendingPartialWithdrawal → ℕ → Type 0
PartialsSum s ps sum = sum ≡ tested_sum (partial_within s.validators) (λ p. p.amount) 0 ps

module _ (S : Settings) (s : Scalars) (vs : List Validator) (ds : List PendingBalanceDeposit)
    (ps : List PendingPartialWithdrawal) (cs : List PendingConsolidation) (counted : Counted s vs ds ps cs) where
  abbrev books : Books
  books = books_with s vs ds ps cs

  -- ---- sound books, as the facts that one pass over each list shows

  pub record Tested : Type 0 where
    pub scalars : ScalarsWithin S s
    pub validators :
        every (validator_within S.max_effective_balance_electra) vs ≡ true
    pub deposits : every (deposit_in s.validators) ds ≡ true
    pub partials : every (partial_within s.validators) ps ≡ true
    pub consolidations :
        every (consolidation_in s.validators) cs
        ≡ true
    pub held_small : held books ≤ BOUND
    pub partials_small : partial_amounts books ≤ BOUND

  pub tested : SoundBooks S books → Tested
  tested k = record {
    scalars = record {
      some = omega (arith, k.some, counted.validators);
      registry_fits = omega (arith, k.registry_fits, counted.validators);
      deposits_fit = omega (arith, k.deposits_fit, counted.deposits);
      partials_fit = omega (arith, k.partials_fit, counted.partials);
      consolidations_fit = omega (arith, k.consolidations_fit, counted.consolidations);
      cursor_in = omega (arith, k.cursor_in, counted.validators);
      epoch_small = k.epoch_small;
      index_small = k.index_small;
      carry_small = k.carry_small;
      exit_left_small = k.exit_left_small;
      exit_epoch_small = k.exit_epoch_small;
      consolidation_left_small = k.consolidation_left_small;
      consolidation_epoch_small = k.consolidation_epoch_small;
    };
    validators =
        every_join (λ v. effective_within S v && is_flag v) epochs_within vs
        (every_join (effective_within S) is_flag vs k.effective k.flags) k.epochs;
    deposits = subst (λ n. every (deposit_in n) ds ≡ true) counted.validators k.deposits_in;
    partials =
        every_join (partial_in s.validators) partial_epoch_within ps
        (subst (λ n. every (partial_in n) ps ≡ true) counted.validators k.partials_in)
        k.partial_epochs;
    consolidations =
        subst (λ n. every (consolidation_in n) cs ≡ true) counted.validators
        k.consolidations_in;
    held_small = k.held_small;
    partials_small = k.partials_small;
  }

  pub tested_so : Tested → SoundBooks S books
  tested_so k =
      let w = k.scalars in
      let v = every_both (λ v. effective_within S v && is_flag v) epochs_within vs k.validators in
      let e = every_both (effective_within S) is_flag vs v.0 in
      let p = every_both (partial_in s.validators) partial_epoch_within ps k.partials in
      let n = sym counted.validators in
      record {
        some = omega (arith, w.some, counted.validators);
        registry_fits = omega (arith, w.registry_fits, counted.validators);
        deposits_fit = omega (arith, w.deposits_fit, counted.deposits);
        partials_fit = omega (arith, w.partials_fit, counted.partials);
        consolidations_fit = omega (arith, w.consolidations_fit, counted.consolidations);
        cursor_in = omega (arith, w.cursor_in, counted.validators);
        deposits_in = subst (λ n. every (deposit_in n) ds ≡ true) n k.deposits;
        partials_in = subst (λ n. every (partial_in n) ps ≡ true) n p.0;
        consolidations_in =
            subst (λ n. every (consolidation_in n) cs ≡ true) n k.consolidations;
        effective = e.0;
        flags = e.1;
        epoch_small = w.epoch_small;
        index_small = w.index_small;
        carry_small = w.carry_small;
        exit_left_small = w.exit_left_small;
        exit_epoch_small = w.exit_epoch_small;
        consolidation_left_small = w.consolidation_left_small;
        consolidation_epoch_small = w.consolidation_epoch_small;
        epochs = v.1;
        partial_epochs = p.1;
        held_small = k.held_small;
        partials_small = k.partials_small;
      }

  refuse : (Tested → ⊥) → false ≡ sound_books S books
  refuse h = not_so _ (λ e. h (tested (books_sound S books e)))

  pub scalars_refused : scalars_within S s ≡ false → false ≡ sound_books S books
  scalars_refused e = refuse (λ k. false_true (sym e ∙ within_so S s k.scalars))
    where
      false_true : false ≡ true → ⊥
      false_true p = let z : ◌≡◌ {A = ℕ} 0 1 = cc in omega arith

  balances_sum : (sum : ℕ) → BalancesSum S vs sum → Tested → sum ≡ balances books
  balances_sum sum e k =
      e
      ∙ tested_within (validator_within S.max_effective_balance_electra) (λ v. v.balance) 0 vs
      k.validators (omega (arith, k.held_small))
      ∙ omega arith

  held_sum : (start sum : ℕ) → BalancesSum S vs start → HeldSum s ds start sum → Tested → sum ≡ held books
  held_sum start sum d e k =
      let b = balances_sum start d k in
      e
      ∙ tested_within (deposit_in s.validators) (λ d. d.amount) start ds k.deposits
      (omega (arith, k.held_small))
      ∙ omega arith

  partials_sum : (sum : ℕ) → PartialsSum s ps sum → Tested → sum ≡ partial_amounts books
  partials_sum sum e k =
      e
      ∙ tested_within (partial_within s.validators) (λ p. p.amount) 0 ps k.partials
      (omega (arith, k.partials_small))
      ∙ omega arith

  pub balances_refused : (sum : ℕ) → BalancesSum S vs sum → BOUND < sum → false ≡ sound_books S books
  balances_refused sum e h = refuse (λ k. omega (arith, balances_sum sum e k, k.held_small))

  pub held_refused : (start sum : ℕ) → BalancesSum S vs start → HeldSum s ds start sum → BOUND < sum
      → false ≡ sound_books S books
  held_refused start sum d e h = refuse (λ k. omega (arith, held_sum start sum d e k, k.held_small))

  pub partials_refused : (sum : ℕ) → PartialsSum s ps sum → BOUND < sum → false ≡ sound_books S books
  partials_refused sum e h = refuse (λ k. omega (arith, partials_sum sum e k, k.partials_small))

  -- the sum of the first two passes, where they found nothing
  pub held_known : (start sum : ℕ) → BalancesSum S vs start → start ≤ BOUND → HeldSum s ds start sum → sum ≤ BOUND
      → sum ≡ held books
  held_known start sum b b_small h h_small =
      let v = tested_facts _ _ _ _ (subst (λ x. x ≤ BOUND) b b_small) in
      let d = tested_facts _ _ _ _ (subst (λ x. x ≤ BOUND) h h_small) in
      omega (arith, b, v.1, h, d.1)

  -- the passes before the last found nothing: the last decides
  pub consolidations_decide : (start sum amounts : ℕ) (last : Bool) → scalars_within S s ≡ true
      → BalancesSum S vs start → start ≤ BOUND → HeldSum s ds start sum → sum ≤ BOUND
      → PartialsSum s ps amounts → amounts ≤ BOUND
      → last ≡ every (consolidation_in s.validators) cs
      → last ≡ sound_books S books
  consolidations_decide start sum amounts last w b b_small h h_small p p_small e =
      same_test last (sound_books S books) accept
      (λ r. e ∙ (tested (books_sound S books r)).consolidations)
    where
      accept : last ≡ true → sound_books S books ≡ true
      accept r =
          let v = tested_facts _ _ _ _ (subst (λ x. x ≤ BOUND) b b_small) in
          let d = tested_facts _ _ _ _ (subst (λ x. x ≤ BOUND) h h_small) in
          let q = tested_facts _ _ _ _ (subst (λ x. x ≤ BOUND) p p_small) in
          books_sound_so S books (tested_so
          (record {
            scalars = within S s w;
            validators = v.0;
            deposits = d.0;
            partials = q.0;
            consolidations = sym e ∙ r;
            held_small = omega (arith, held_known start sum b b_small h h_small, h_small);
            partials_small = omega (arith, p, q.1, p_small);
          }))
