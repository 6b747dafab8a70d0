-- One consolidation from its parts, the loop entry by entry, and the step.
use mathlib.Core.Path.{◌≡◌, refl, sym, ap, ◌∙◌}
use mathlib.Core.Bool.{true, false}
use mathlib.Core.List.{List, [], ◌∷◌}
use Prim.Native.Nat.{ℕ, ◌+◌, ◌<◌, ◌≤◌, ◌^◌}
use native.Mathlib.Omega.{arith}
use lib.ListN.{length, drop}
use lib.Dec.{ltb, eqb}
use borrow.Author.Tests.{eq-eqb, ne_eqb, ltb-true, lt-ltb, le-ltb}
use Rattle.lists.specs.Base.{total, every}
use Rattle.lists.specs.Laws.{both, every_drop, total_adjust}
use Rattle.tables.specs.Rows.{rows, length_rows, get_d_rows, drop_rows_at, drop_rows_end}
use Rattle.tables.specs.Totals.{total_at_most}
use Rattle.tables.specs.Tests.{every_row}
use Rattle.rules.specs.Types.{BOUND, Settings, Validator, PendingConsolidation, Books}
use Rattle.rules.specs.Update.{with_pending_consolidations}
use Rattle.rules.specs.Helpers.{at, count, no_validator, increased, decreased, get_active_balance}
use Rattle.rules.specs.Helpers.{switch_to_compounding_validator}
use Rattle.rules.specs.EpochProcessing.{move_active_balance, consolidate, process_consolidations}
use Rattle.rules.specs.EpochProcessing.{process_pending_consolidations}
use Rattle.rules.specs.Acceptance.{balances, held, consolidation_in}
use Rattle.rules.specs.Counting.{excess_entry}
use Rattle.conservation.specs.Proofs.Steps.{switch_flow, consolidate_flow}
use Rattle.primitives.specs.declared.Scalars.{Scalars}
use Rattle.primitives.specs.Scalars.{with_deposits, with_consolidations}
use Rattle.records.specs.declared.queues.PendingConsolidation as declared
use Rattle.records.specs.Layout.{validator_at, consolidation_at}
use Rattle.records.specs.Layout.{slashed_at, withdrawable_epoch_at, balance_at, deposits_fit}
use Rattle.records.specs.Plain.{plain_consolidation}
use Rattle.records.specs.Books.{Tables, tables, Stepped, Beyond, AtMost, books_of, beyond_then}
use Rattle.records.specs.Books.{consolidations_of}
use Rattle.records.specs.Reading.{validator_read, validators_count, deposits_count, epoch_read}
use Rattle.records.specs.Stores.{ValidatorAdjusted}
use Rattle.records.specs.Queues.{ConsolidationsDrained}
use Rattle.pending_consolidations.specs.Consolidations.{Consolidated}
use Rattle.pending_consolidations.specs.Laws.{consolidations_dropped, consolidations_stopped, consolidations_more}
use Rattle.pending_consolidations.specs.Laws.{entry_fits, stepped_then}
use Rattle.pending_consolidations.specs.Ready.{ConsolidationsReady}

abbrev balance_of : Validator → ℕ
balance_of v = v.balance

-- ---- the balance moves

module _ (S : Settings) (s : Scalars) (ids vs : List ℕ) (source target active : ℕ)
    (known : (source < s.validators) × (target < s.validators))
    (read : active ≡ get_active_balance S (validator_at ids vs source))
    (less : List ℕ) (taken : ValidatorAdjusted source (decreased active) vs less) where
  pub target_small : balances (books_of s (tables ids vs [] [] [])) ≤ BOUND → balance_at less target + active < 2 ^ 64
  unfolding books_of
  target_small small =
      let n = s.validators in
      let old = rows n (validator_at ids vs) in
      let q : source < length old = rw length_rows known.0 in
      let here = get_d_rows n (validator_at ids vs) source no_validator known.0 in
      omega (
        arith,
        read,
        small,
        total_at_most balance_of n (validator_at ids vs) source known.0,
        total_at_most balance_of n (validator_at ids less) target known.1,
        ap (total balance_of) (taken.validators ids n),
        total_adjust balance_of source (decreased active) old no_validator q,
      )

  pub moved : (more : List ℕ) → ValidatorAdjusted target (increased active) less more → (ds ps cs : List ℕ)
      → Stepped (move_active_balance S source target) s (tables ids vs ds ps cs) (tables ids more ds ps cs) s
  unfolding move_active_balance books_of
  moved more given ds ps cs = record {
    books =
        simp (
          given.validators ids s.validators,
          taken.validators ids s.validators,
          get_d_rows s.validators (validator_at ids vs) source no_validator known.0,
          ← read,
        );
    beyond = record {
      identities = refl;
      validators = given.past s.validators known.1 ∙ taken.past s.validators known.0;
      deposits = refl;
      partials = refl;
      consolidations = refl;
    };
  }

-- ---- one entry

-- what is held is read in the registry and the deposits alone
pub held_same : (s : Scalars) (ids vs ds ps cs qs bs : List ℕ)
    → held (books_of s (tables ids vs ds ps cs)) ≡ held (books_of s (tables ids vs ds qs bs))
unfolding books_of
held_same s ids vs ds ps cs qs bs = refl

-- the entry that a switch queues is read in the registry alone
entry_same : (S : Settings) (i : ℕ) (s : Scalars) (ids vs ds ps cs qs bs : List ℕ)
    → excess_entry S i (books_of s (tables ids vs ds ps cs)) ≡ excess_entry S i (books_of s (tables ids vs ds qs bs))
unfolding excess_entry books_of
entry_same S i s ids vs ds ps cs qs bs = refl

-- the balances are read in the registry alone
balances_same : (s : Scalars) (ids vs ds ps cs es qs bs : List ℕ)
    → balances (books_of s (tables ids vs ds ps cs)) ≡ balances (books_of s (tables ids vs es qs bs))
unfolding books_of
balances_same s ids vs ds ps cs es qs bs = refl

-- after the switch the balances are within the bound
pub switched_small : (S : Settings) (i : ℕ) (s r : Scalars) (t u : Tables) → i < s.validators
    → held (books_of s t) ≤ BOUND → Stepped (switch_to_compounding_validator S i) s t u r
    → (ds ps cs : List ℕ) → balances (books_of r (tables u.identities u.validators ds ps cs)) ≤ BOUND
switched_small S i s r t u known small step ds ps cs =
    let k : i < count (books_of s t) = rw (validators_count s t) known in
    omega (
      arith,
      small,
      ap held step.books,
      (switch_flow S i (books_of s t) k).sums,
      balances_same r u.identities u.validators ds ps cs u.deposits u.partials u.consolidations,
    )

-- the switch, then the move
pub consolidated : (S : Settings) (c : declared.PendingConsolidation) (s r : Scalars) (t u w : Tables)
    → Stepped (switch_to_compounding_validator S c.target_index.0) s t u r
    → Stepped (move_active_balance S c.source_index.0 c.target_index.0) r u w r
    → Stepped (consolidate S (plain_consolidation c)) s t w r
unfolding consolidate
consolidated S c s r t u w f g =
    let same : AtMost r r =
    record { validators = omega arith; deposits = omega arith; partials = omega arith; consolidations = omega arith } in
    stepped_then same f g

-- ---- the loop

-- i entries are processed: the books were s₀ and t₀, and are s and t but for the queue
pub record Consolidating (S : Settings) (s₀ : Scalars) (t₀ : Tables) (s : Scalars) (t : Tables) (i : ℕ) : Type 0 where
  pub left : process_consolidations S (drop i (consolidations_of s₀ t₀.consolidations)) (books_of s t)
      ≡ process_consolidations S (consolidations_of s₀ t₀.consolidations) (books_of s₀ t₀)
  pub reached : i ≤ s₀.consolidations
  pub counts : s ≡ with_deposits s₀ s.deposits
  pub beyond : Beyond s t t₀
  pub held_small : held (books_of s t) ≤ BOUND
  pub identities : length t.identities ≡ length t₀.identities
  pub validators : length t.validators ≡ length t₀.validators
  pub deposits : length t.deposits ≡ length t₀.deposits

abbrev queue_length : Books → ℕ
queue_length b = length b.pending_balance_deposits

step_read : (S : Settings) (s : Scalars) (t : Tables)
    → process_consolidations S (consolidations_of s t.consolidations) (books_of s t)
    ≡ process_pending_consolidations S (books_of s t)
unfolding process_pending_consolidations books_of
step_read S s t = refl

module _ {S : Settings} {s₀ s : Scalars} {t₀ t : Tables} {i : ℕ} (h : Consolidating S s₀ t₀ s t i) where
  abbrev entries : List PendingConsolidation
  entries = consolidations_of s₀ t₀.consolidations

  -- the loop ends or stops, and the entries from i on wait
  finished : process_consolidations S (drop i entries) (books_of s t)
      ≡ with_pending_consolidations (drop i entries) (books_of s t)
      → Consolidated S s₀ t₀ t s i
  finished e = record {
    loop = sym e ∙ h.left ∙ step_read S s₀ t₀;
    reached = h.reached;
    counts = h.counts;
    beyond = h.beyond;
  }

  pub consolidating_end : s₀.consolidations ≤ i → Consolidated S s₀ t₀ t s s₀.consolidations
  unfolding process_consolidations
  consolidating_end e =
      let all : i ≡ s₀.consolidations = omega (arith, h.reached) in
      rw all at (finished (rw (drop_rows_end s₀.consolidations (consolidation_at t₀.consolidations) i e)))

  pub validators_same : s.validators ≡ s₀.validators
  validators_same = ap (λ (r : Scalars). r.validators) h.counts

  epoch_same : s.epoch.0 ≡ s₀.epoch.0
  epoch_same = ap (λ (r : Scalars). r.epoch.0) h.counts

  -- at the entry c that the code has read
  module _ (ready : ConsolidationsReady S s₀ t₀) (more : i < s₀.consolidations) (c : declared.PendingConsolidation)
      (e : plain_consolidation c ≡ consolidation_at t₀.consolidations i) where
    here : drop i entries ≡ plain_consolidation c ∷ drop (i + 1) entries
    here = rw e (drop_rows_at s₀.consolidations (consolidation_at t₀.consolidations) i more)

    entry_in : consolidation_in s₀.validators (plain_consolidation c) ≡ true
    entry_in =
        ap (consolidation_in s₀.validators) e
        ∙ every_row (consolidation_in s₀.validators) s₀.consolidations (consolidation_at t₀.consolidations)
        ready.known i more

    pub source_in : c.source_index.0 < s.validators
    source_in =
        rw validators_same
        (ltb-true c.source_index.0 s₀.validators
        (both _ (ltb c.target_index.0 s₀.validators) entry_in).0)

    pub target_in : c.target_index.0 < s.validators
    target_in =
        rw validators_same
        (ltb-true c.target_index.0 s₀.validators
        (both (ltb c.source_index.0 s₀.validators) _ entry_in).1)

    abbrev source : Validator
    source = at (books_of s t).validators c.source_index.0

    source_read : source ≡ validator_at t.identities t.validators c.source_index.0
    source_read = validator_read s t c.source_index.0 source_in

    slashed_read : source.slashed ≡ slashed_at t.validators c.source_index.0
    slashed_read = ap (λ (v : Validator). v.slashed) source_read

    withdrawable_read : source.withdrawable_epoch ≡ withdrawable_epoch_at t.validators c.source_index.0
    withdrawable_read = ap (λ (v : Validator). v.withdrawable_epoch) source_read

    pub consolidating_drop : slashed_at t.validators c.source_index.0 ≡ 1
        → Consolidating S s₀ t₀ s t (i + 1)
    consolidating_drop z = record {
      left =
          sym (ap (λ l. process_consolidations S l (books_of s t)) here
          ∙ consolidations_dropped S (plain_consolidation c) _ (books_of s t)
          (eq-eqb source.slashed 1 (slashed_read ∙ z)))
          ∙ h.left;
      reached = omega arith;
      counts = h.counts;
      beyond = h.beyond;
      held_small = h.held_small;
      identities = h.identities;
      validators = h.validators;
      deposits = h.deposits;
    }

    module _ (live : slashed_at t.validators c.source_index.0 ≡ 1 → ⊥) where
      live_read : eqb source.slashed 1 ≡ false
      live_read = ne_eqb source.slashed 1 (λ z. live (sym slashed_read ∙ z))

      pub consolidating_stop : s₀.epoch.0 < withdrawable_epoch_at t.validators c.source_index.0
          → Consolidated S s₀ t₀ t s i
      consolidating_stop z =
          finished
          (rw here
          (consolidations_stopped S (plain_consolidation c) _ (books_of s t) live_read
          (lt-ltb (books_of s t).epoch source.withdrawable_epoch
          (omega (arith, epoch_read s t, epoch_same, withdrawable_read, z)))))

      module _ (due : withdrawable_epoch_at t.validators c.source_index.0 ≤ s₀.epoch.0) where
        due_read : ltb (books_of s t).epoch source.withdrawable_epoch ≡ false
        due_read =
            le-ltb (books_of s t).epoch source.withdrawable_epoch
            (omega (arith, epoch_read s t, epoch_same, withdrawable_read, due))

        waiting_in : every (consolidation_in (count (books_of s t)))
            (plain_consolidation c ∷ drop (i + 1) entries) ≡ true
        waiting_in =
            let l = plain_consolidation c ∷ drop (i + 1) entries in
            ap (λ n. every (consolidation_in n) l) (validators_count s t ∙ validators_same)
            ∙ ap (every (consolidation_in s₀.validators)) (sym here)
            ∙ every_drop (consolidation_in s₀.validators) i entries ready.known

        -- there is room for what the entry queues
        pub entry_room : (ps cs : List ℕ)
            → s.deposits
            + length (excess_entry S c.target_index.0
            (books_of s (tables t.identities t.validators t.deposits ps cs)))
            ≤ deposits_fit t.deposits
        entry_room ps cs =
            let b = books_of s t in
            let same =
            entry_same S c.target_index.0 s t.identities t.validators t.deposits ps cs
            t.partials t.consolidations in
            omega (
              arith,
              ap length same,
              deposits_count s t,
              entry_fits S (plain_consolidation c) (drop (i + 1) entries) b live_read due_read waiting_in,
              ap (λ l. queue_length (process_consolidations S l b)) here,
              ap queue_length (h.left ∙ step_read S s₀ t₀),
              ready.room,
              h.deposits,
            )

        pub consolidating_more : (r : Scalars) (u : Tables) (n : ℕ)
            → Stepped (consolidate S (plain_consolidation c)) s t u r
            → r ≡ with_deposits s (s.deposits + n)
            → length u.identities ≡ length t.identities → length u.validators ≡ length t.validators
            → length u.deposits ≡ length t.deposits
            → Consolidating S s₀ t₀ r u (i + 1)
        consolidating_more r u n step counts l₁ l₂ l₃ =
            let b = books_of s t in
            let cs = drop (i + 1) entries in
            let c₀ = plain_consolidation c in
            let entry = (both _ (every (consolidation_in (count b)) cs) waiting_in).0 in
            let grown : AtMost s r = rw counts (record {
              validators = omega arith;
              deposits = omega arith;
              partials = omega arith;
              consolidations = omega arith;
            }) in
            record {
              left =
                  ap (process_consolidations S cs) step.books
                  ∙ sym (ap (λ l. process_consolidations S l b) here
                  ∙ consolidations_more S c₀ cs b live_read due_read)
                  ∙ h.left;
              reached = omega arith;
              counts =
                  counts
                  ∙ ap (λ (x : Scalars). with_deposits x (s.deposits + n)) h.counts
                  ∙ ap (with_deposits s₀) (sym (ap (λ (x : Scalars). x.deposits) counts));
              beyond = beyond_then grown h.beyond step.beyond;
              held_small =
                  omega (arith, ap held step.books, (consolidate_flow S c₀ b entry).sums, h.held_small);
              identities = l₁ ∙ h.identities;
              validators = l₂ ∙ h.validators;
              deposits = l₃ ∙ h.deposits;
            }

-- ---- the step

drained_books : (s r : Scalars) (t u : Tables) (next left : ℕ) (cs : List ℕ) → next + left ≡ s.consolidations
    → ConsolidationsDrained next left t.consolidations cs
    → books_of (with_consolidations r left) (tables u.identities u.validators u.deposits u.partials cs)
    ≡ with_pending_consolidations (drop next (consolidations_of s t.consolidations)) (books_of r u)
unfolding books_of
drained_books s r t u next left cs rest gone = rw (gone.records, rest)

pub drained : (S : Settings) (s r : Scalars) (t u : Tables) (next left : ℕ) (cs : List ℕ)
    → Consolidated S s t u r next → next + left ≡ s.consolidations
    → ConsolidationsDrained next left t.consolidations cs
    → Stepped (process_pending_consolidations S) s t
    (tables u.identities u.validators u.deposits u.partials cs) (with_consolidations r left)
drained S s r t u next left cs done rest gone = record {
  books = drained_books s r t u next left cs rest gone ∙ done.loop;
  beyond = record {
    identities = done.beyond.identities;
    validators = done.beyond.validators;
    deposits = done.beyond.deposits;
    partials = done.beyond.partials;
    consolidations = gone.past;
  };
}
