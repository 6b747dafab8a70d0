-- Two steps in a row, and the consolidation loop entry by entry.
use Rattle.std.specs.Prelude.{◌≡◌, true, false, List, ◌∷◌, ◌++◌, ◌+◌, ◌≤◌, length, ltb, eqb}
use Rattle.std.proofs.Common.{ap, ◌∙◌, arith, length-append}
use Rattle.lists.specs.Base.{every}
use Rattle.lists.specs.Laws.{if_true, if_false}
use Rattle.rules.specs.Types.{Settings, Validator, PendingConsolidation, Books}
use Rattle.rules.specs.Update.{with_pending_consolidations}
use Rattle.rules.specs.Helpers.{at, count}
use Rattle.rules.specs.EpochProcessing.{consolidate, process_consolidations}
use Rattle.rules.specs.Acceptance.{consolidation_in}
use Rattle.rules.specs.Counting.{excess_entry, excess_entries}
use Rattle.primitives.specs.declared.Scalars.{Scalars}
use Rattle.records.specs.Books.{Tables, Stepped, AtMost, beyond_then}
use Rattle.conservation.specs.Proofs.Steps.{consolidations_flow}

-- two steps, of which the second counts no fewer records
pub stepped_then : {f g : Books → Books} {s r q : Scalars} {t u w : Tables} → AtMost r q
    → Stepped f s t u r → Stepped g r u w q → Stepped (λ b. g (f b)) s t w q
stepped_then {f} {g} m x y = record {
  books = y.books ∙ ap g x.books;
  beyond = beyond_then m x.beyond y.beyond;
}

module _ (S : Settings) (c : PendingConsolidation) (cs : List PendingConsolidation) (b : Books) where
  abbrev source : Validator
  source = at b.validators c.source_index

  pub consolidations_dropped : eqb source.slashed 1 ≡ true
      → process_consolidations S (c ∷ cs) b ≡ process_consolidations S cs b
  unfolding process_consolidations
  consolidations_dropped e = if_true _ _ _ e

  module _ (live : eqb source.slashed 1 ≡ false) where
    pub consolidations_stopped : ltb b.epoch source.withdrawable_epoch ≡ true
        → process_consolidations S (c ∷ cs) b ≡ with_pending_consolidations (c ∷ cs) b
    unfolding process_consolidations
    consolidations_stopped e = if_false _ _ _ live ∙ if_true _ _ _ e

    module _ (due : ltb b.epoch source.withdrawable_epoch ≡ false) where
      pub consolidations_more : process_consolidations S (c ∷ cs) b ≡ process_consolidations S cs (consolidate S c b)
      unfolding process_consolidations
      consolidations_more = if_false _ _ _ live ∙ if_false _ _ _ due

      entries_more : excess_entries S (c ∷ cs) b
          ≡ excess_entry S c.target_index b ++ excess_entries S cs (consolidate S c b)
      unfolding excess_entries
      entries_more = if_false _ _ _ live ∙ if_false _ _ _ due

      -- the queue that the loop leaves holds what this entry queues
      pub entry_fits : every (consolidation_in (count b)) (c ∷ cs) ≡ true
          → length b.pending_balance_deposits + length (excess_entry S c.target_index b)
          ≤ length (process_consolidations S (c ∷ cs) b).pending_balance_deposits
      entry_fits p =
          let queue = b.pending_balance_deposits in
          let entry = excess_entry S c.target_index b in
          let further = excess_entries S cs (consolidate S c b) in
          let order = (consolidations_flow S (c ∷ cs) b p).order in
          let size = ap length order ∙ length-append queue (excess_entries S (c ∷ cs) b) in
          omega (arith, size, ap length entries_more ∙ length-append entry further)
