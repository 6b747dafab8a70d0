-- The invariants of the two loops, and a turn of each.
use mathlib.Core.Path.{◌≡◌, ap, ap₂, sym, ◌∙◌}
use mathlib.Core.List.{List, ◌∷◌}
use Prim.Native.Nat.{ℕ, suc, ◌+◌, ◌-◌, ◌%◌, ◌≤◌, ◌<◌, min}
use native.Mathlib.Nat.{mod-lt}
use native.Mathlib.Omega.{arith}
use lib.ListN.{drop}
use Rattle.tables.specs.Rows.{rows, drop_rows_at, drop_rows_end}
use Rattle.rules.specs.Types as rule
use Rattle.primitives.specs.declared.Settings.{Settings}
use Rattle.primitives.specs.declared.Scalars.{Scalars}
use Rattle.primitives.specs.Settings.{settings_of}
use Rattle.records.specs.Layout.{partial_at, validator_at}
use Rattle.records.specs.Books.{books_of, tables}
use Rattle.records.specs.Reading.{validators_count, validator_read}
use Rattle.expected_withdrawals.specs.declared.ExpectedWithdrawals.{ExpectedWithdrawals}
use Rattle.expected_withdrawals.specs.Expected.{no_withdrawals, expected_of}
use Rattle.expected_withdrawals.specs.Listing.{with_partials_counted, list_partial, list_validator}
use Rattle.expected_withdrawals.specs.Listing.{list_partials, list_swept}
use Rattle.expected_withdrawals.specs.Laws.{full_amount, partial_taken, none_taken}
use Rattle.expected_withdrawals.specs.Laws.{partials_end, partials_full, partials_stop, partials_step}
use Rattle.expected_withdrawals.specs.Laws.{sweep_end, sweep_full, sweep_step, all_listed}

-- what the sweep takes of one validator, by the tests of its record
pub ruleset taken = (full_amount, partial_taken, none_taken)

-- ---- the partial withdrawals

module _ (settings : Settings) (s : Scalars) (ids vs ps : List ℕ) where
  abbrev queue : List rule.PendingPartialWithdrawal
  queue = rows s.partials (partial_at ps)

  abbrev books : List ℕ → List ℕ → rule.Books
  books ds cs = books_of s (tables ids vs ds ps cs)

  -- the entries ps are left, behind what e lists
  abbrev left_of : List ℕ → List ℕ → List rule.PendingPartialWithdrawal → ExpectedWithdrawals → ExpectedWithdrawals
  left_of ds cs = list_partials (settings_of settings) (books ds cs)

  pub record Walking (e : ExpectedWithdrawals) (k : ℕ) : Type 0 where
    pub bound : k ≤ s.partials
    pub left : (ds cs : List ℕ) → left_of ds cs (drop k queue) e ≡ left_of ds cs queue no_withdrawals

  module _ {e : ExpectedWithdrawals} {k : ℕ} (w : Walking e k) where
    pub walked_full : settings.max_pending_partials_per_withdrawals_sweep ≤ e.count
        → (ds cs : List ℕ) → e ≡ left_of ds cs queue no_withdrawals
    walked_full h ds cs =
        sym (partials_full (settings_of settings) (books ds cs) (drop k queue) e h) ∙ w.left ds cs

    pub walked_end : s.partials ≤ k → (ds cs : List ℕ) → e ≡ left_of ds cs queue no_withdrawals
    walked_end h ds cs =
        sym
        (ap (λ l. left_of ds cs l e) (drop_rows_end s.partials (partial_at ps) k h)
        ∙ partials_end (settings_of settings) (books ds cs) e)
        ∙ w.left ds cs

    module _ (h : k < s.partials) (r : e.count < settings.max_pending_partials_per_withdrawals_sweep)
        {p : rule.PendingPartialWithdrawal} (q : p ≡ partial_at ps k) where
      split : (ds cs : List ℕ) → left_of ds cs (p ∷ drop (k + 1) queue) e ≡ left_of ds cs queue no_withdrawals
      split ds cs =
          ap (λ x. left_of ds cs (x ∷ drop (k + 1) queue) e) q
          ∙ sym (ap (λ l. left_of ds cs l e) (drop_rows_at s.partials (partial_at ps) k h))
          ∙ w.left ds cs

      pub walked_stop : s.epoch.0 < p.withdrawable_epoch
          → (ds cs : List ℕ) → e ≡ left_of ds cs queue no_withdrawals
      unfolding books_of
      walked_stop l ds cs =
          sym (partials_stop (settings_of settings) (books ds cs) p (drop (k + 1) queue) e r l) ∙ split ds cs

      pub walking_more : {next : ExpectedWithdrawals} → p.withdrawable_epoch ≤ s.epoch.0 → p.index < s.validators
          → next
          ≡ list_partial (settings_of settings) s.next_withdrawal_index.0 p (validator_at ids vs p.index) e
          → Walking next (k + 1)
      unfolding books_of
      walking_more {next} l i t = record {
        bound = omega arith;
        left = λ ds cs.
            ap (left_of ds cs (drop (k + 1) queue)) t
            ∙ sym
            (partials_step (settings_of settings) (books ds cs) p (drop (k + 1) queue) e r
            (validator_at ids vs p.index) l
            (sym (validator_read s (tables ids vs ds ps cs) p.index i)))
            ∙ split ds cs;
      }

-- ---- the sweep

module _ (settings : Settings) (s : Scalars) (ids vs : List ℕ) (listed : ExpectedWithdrawals) where
  abbrev swept : (ds ps cs : List ℕ) → (bound i : ℕ) → ExpectedWithdrawals → ExpectedWithdrawals
  swept ds ps cs = list_swept (settings_of settings) (books_of s (tables ids vs ds ps cs))

  abbrev whole : (ds ps cs : List ℕ) → ExpectedWithdrawals
  whole ds ps cs =
      swept ds ps cs (min s.validators settings.max_validators_per_withdrawals_sweep)
      s.next_withdrawal_validator_index.0 listed

  pub record Sweeping (bound : ℕ) (e : ExpectedWithdrawals) (i k : ℕ) : Type 0 where
    pub most : k ≤ bound
    pub inside : i < s.validators
    pub left : (ds ps cs : List ℕ) → swept ds ps cs (bound - k) i e ≡ whole ds ps cs

  module _ {bound : ℕ} {e : ExpectedWithdrawals} {i k : ℕ} (w : Sweeping bound e i k) where
    pub swept_all : bound ≤ k → (ds ps cs : List ℕ) → e ≡ whole ds ps cs
    swept_all h ds ps cs =
        let z : bound - k ≡ 0 = omega arith in
        sym (sweep_end (settings_of settings) (books_of s (tables ids vs ds ps cs)) i e)
        ∙ (rw z at (w.left ds ps cs))

    pub swept_full : settings.max_withdrawals_per_payload ≤ e.count → (ds ps cs : List ℕ) → e ≡ whole ds ps cs
    swept_full h ds ps cs =
        sym (sweep_full (settings_of settings) (books_of s (tables ids vs ds ps cs)) (bound - k) i e h)
        ∙ w.left ds ps cs

    pub sweeping_more : {next : ExpectedWithdrawals} {j : ℕ} → k < bound
        → e.count < settings.max_withdrawals_per_payload → j ≡ (i + 1) % s.validators
        → next
        ≡ list_validator (settings_of settings) s.epoch.0 s.next_withdrawal_index.0 i
        (validator_at ids vs i) e
        → Sweeping bound next j (k + 1)
    unfolding books_of
    sweeping_more {next} {j} h r d t = record {
      most = omega arith;
      inside = rw d (mod-lt (i + 1) (omega (arith, w.inside)));
      left = turn;
    }
      where
        more : bound - k ≡ suc (bound - (k + 1))
        more = omega arith

        turn : (ds ps cs : List ℕ) → swept ds ps cs (bound - (k + 1)) j next ≡ whole ds ps cs
        turn ds ps cs =
            let t₀ = tables ids vs ds ps cs in
            ap₂ (swept ds ps cs (bound - (k + 1))) (d ∙ ap (λ n. (i + 1) % n) (sym (validators_count s t₀))) t
            ∙ sym
            (sweep_step (settings_of settings) (books_of s t₀) (bound - (k + 1)) i (validator_at ids vs i) e r
            (sym (validator_read s t₀ i w.inside)))
            ∙ (rw more at (w.left ds ps cs))

-- ---- both

module _ (settings : Settings) (s : Scalars) (ids vs ps : List ℕ) where
  pub together : {e r : ExpectedWithdrawals}
      → settings.max_pending_partials_per_withdrawals_sweep ≤ settings.max_withdrawals_per_payload
      → settings.max_withdrawals_per_payload ≤ 16
      → (ds cs : List ℕ) → e ≡ left_of settings s ids vs ps ds cs (queue settings s ids vs ps) no_withdrawals
      → r ≡ whole settings s ids vs (with_partials_counted e) ds ps cs
      → r ≡ expected_of (settings_of settings) (books_of s (tables ids vs ds ps cs))
  unfolding books_of
  together {e} m h ds cs p q =
      let t = tables ids vs ds ps cs in
      q
      ∙ ap₂
      (λ n x.
      list_swept (settings_of settings) (books_of s t) (min n settings.max_validators_per_withdrawals_sweep)
      s.next_withdrawal_validator_index.0 (with_partials_counted x))
      (sym (validators_count s t)) p
      ∙ all_listed (settings_of settings) (books_of s t) m h
