-- The size of the results of exits and of consolidation calls, from accepted books: only a new epoch can be too large.
use Rattle.std.specs.Prelude.{◌≡◌, refl, Bool, true, false, ◌&&◌, ◌||◌, List, ℕ, ◌≤◌, ◌<◌, length, eqb}
use Rattle.std.proofs.Common.{ap, ◌∙◌, arith}
use Rattle.std.proofs.Math.Dec.{leb}
use borrow.Author.Tests.{leb-true, le-leb, ne_eqb}
use Rattle.lists.specs.Base.{all, adjust, every}
use Rattle.lists.specs.Laws.{both, join, and_true, and_false, every_adjust, every_fails, length_adjust}
use Rattle.lists.specs.Laws.{getD_adjust}
use Rattle.rules.specs.Types.{FAR, BOUND, Validator, Books}
use Rattle.rules.specs.Update.{with_exit}
use Rattle.rules.specs.Helpers.{at, no_validator}
use Rattle.rules.specs.Acceptance.{epoch_within, epochs_within, partial_epoch_within, all_epochs_within}

-- ---- an epoch that is not FAR

pub within : (e : ℕ) → e < FAR → epoch_within e ≡ leb e BOUND
within e h = go (leb e BOUND)
  where
    ne : eqb e FAR ≡ false
    ne = ne_eqb e FAR (omega arith)

    go : (t : Bool) → (t || eqb e FAR) ≡ t
    go true = refl
    go false = ne

-- ---- one validator with new exit epochs

module _ (x w : ℕ) (near : w < FAR) (ordered : x ≤ w) where
  exiting_within : (v : Validator) → w ≤ BOUND → epochs_within v ≡ true → epochs_within (with_exit x w v) ≡ true
  exiting_within v h p =
      let e₁ = epoch_within v.activation_eligibility_epoch in
      let e₂ = epoch_within v.activation_epoch in
      let e₃ = epoch_within v.exit_epoch in
      let s = (both (e₁ && e₂) e₃ (both (e₁ && e₂ && e₃) (epoch_within v.withdrawable_epoch) p).0).0 in
      join
      (join s (within x (omega arith) ∙ le-leb x BOUND (omega arith)))
      (within w near ∙ le-leb w BOUND h)

  exiting_fails : (v : Validator) → leb w BOUND ≡ false → epochs_within (with_exit x w v) ≡ false
  exiting_fails v h =
      let e₁ = epoch_within v.activation_eligibility_epoch in
      let e₂ = epoch_within v.activation_epoch in
      and_false (e₁ && e₂ && epoch_within x) (epoch_within w) (within w near ∙ h)

  pub exiting_every : (i : ℕ) (vs : List Validator) → i < length vs → every epochs_within vs ≡ true
      → every epochs_within (adjust i (with_exit x w) vs) ≡ leb w BOUND
  exiting_every i vs h p = go (leb w BOUND) refl
    where
      go : (t : Bool) → leb w BOUND ≡ t → every epochs_within (adjust i (with_exit x w) vs) ≡ t
      go true e =
          every_adjust epochs_within i (with_exit x w) vs (λ v q. exiting_within v (leb-true w BOUND e) q) p
      go false e =
          let n : i < length (adjust i (with_exit x w) vs) = rw (length_adjust i (with_exit x w) vs) h in
          every_fails epochs_within i (adjust i (with_exit x w) vs) no_validator n
          (rw (getD_adjust i (with_exit x w) vs no_validator h) (exiting_fails (at vs i) e))

  -- the account's epoch is no later than the validator's last
  both_within : (leb x BOUND && leb w BOUND) ≡ leb w BOUND
  both_within = go (leb w BOUND) refl
    where
      go : (t : Bool) → leb w BOUND ≡ t → (leb x BOUND && t) ≡ t
      go true e = let h : w ≤ BOUND = leb-true w BOUND e in rw (le-leb x BOUND (omega arith))
      go false e = and_false (leb x BOUND) false refl

-- ---- where a call assigns an epoch x to an account, and w is the last epoch that it writes

module _ (e : Books) (x w : ℕ) (near : w < FAR) (ordered : x ≤ w) where
  -- the exits' account and a validator
  pub epochs_exit : e.epoch ≤ BOUND → e.next_withdrawal_index ≤ BOUND → e.earliest_exit_epoch ≡ x
      → e.earliest_consolidation_epoch ≤ BOUND → every epochs_within e.validators ≡ leb w BOUND
      → every partial_epoch_within e.pending_partial_withdrawals ≡ true → all_epochs_within e ≡ leb w BOUND
  unfolding all_epochs_within all
  epochs_exit n i a c v p =
      rw (
        le-leb e.epoch BOUND n,
        le-leb e.next_withdrawal_index BOUND i,
        a,
        le-leb e.earliest_consolidation_epoch BOUND c,
        v,
        p,
      )
      (ap (λ (t : Bool). leb x BOUND && t) (and_true (leb w BOUND)) ∙ both_within x w near ordered)

  -- the consolidations' account and a validator
  pub epochs_consolidation : e.epoch ≤ BOUND → e.next_withdrawal_index ≤ BOUND → e.earliest_exit_epoch ≤ BOUND
      → e.earliest_consolidation_epoch ≡ x → every epochs_within e.validators ≡ leb w BOUND
      → every partial_epoch_within e.pending_partial_withdrawals ≡ true → all_epochs_within e ≡ leb w BOUND
  unfolding all_epochs_within all
  epochs_consolidation n i a c v p =
      rw (
        le-leb e.epoch BOUND n,
        le-leb e.next_withdrawal_index BOUND i,
        le-leb e.earliest_exit_epoch BOUND a,
        c,
        v,
        p,
      )
      (ap (λ (t : Bool). leb x BOUND && t) (and_true (leb w BOUND)) ∙ both_within x w near ordered)

  -- the exits' account and a partial withdrawal
  pub epochs_partial : e.epoch ≤ BOUND → e.next_withdrawal_index ≤ BOUND → e.earliest_exit_epoch ≡ x
      → e.earliest_consolidation_epoch ≤ BOUND → every epochs_within e.validators ≡ true
      → every partial_epoch_within e.pending_partial_withdrawals ≡ leb w BOUND → all_epochs_within e ≡ leb w BOUND
  unfolding all_epochs_within all
  epochs_partial n i a c v p =
      rw (
        le-leb e.epoch BOUND n,
        le-leb e.next_withdrawal_index BOUND i,
        a,
        le-leb e.earliest_consolidation_epoch BOUND c,
        v,
        p,
      )
      (ap (λ (t : Bool). leb x BOUND && t) (and_true (leb w BOUND)) ∙ both_within x w near ordered)
