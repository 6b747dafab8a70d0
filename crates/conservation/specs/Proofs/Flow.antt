-- What one change of the books counts, as one statement with three parts, and how two changes in a row add up.
use Rattle.std.specs.Prelude.{◌≡◌, refl, Bool, true, false, List, ◌++◌, ◌+◌, ◌≤◌}
use Rattle.std.proofs.Common.{sym, ap, ◌∙◌, append_assoc, append-nil, add-zero, arith}
use Rattle.lists.specs.Base.{when◌then◌else◌}
use Rattle.lists.specs.Laws.{total_append}
use Rattle.rules.specs.Types.{PendingBalanceDeposit, Books}
use Rattle.rules.specs.Acceptance.{held, balances, deposit_amounts}
use Rattle.rules.specs.Counting.{Counted, nothing, queues, ◌⊕◌}

-- from the books b to the books e, n was counted. The last part is stronger than the theorem's: what is carried over
-- stays within the bound too
pub record Flow (n : Counted) (b e : Books) : Type 0 where
  pub sums : held e + n.taken_out ≡ held b + n.taken_in
  pub order : n.credited ++ e.pending_balance_deposits ≡ b.pending_balance_deposits ++ n.queued
  pub spent : deposit_amounts n.credited + e.deposit_balance_to_consume
      ≤ b.deposit_balance_to_consume + n.allowance

-- no Gwei moved
pub quiet : (b e : Books) → balances e ≡ balances b → e.pending_balance_deposits ≡ b.pending_balance_deposits
    → e.deposit_balance_to_consume ≡ b.deposit_balance_to_consume → Flow nothing b e
quiet b e p q r = record {
  sums = omega (arith, ap deposit_amounts q);
  order = q ∙ sym (append-nil b.pending_balance_deposits);
  spent = omega arith;
}

pub still : (b : Books) → Flow nothing b b
still b = quiet b b refl refl refl

pub then_flow : {m n : Counted} {b c e : Books} → Flow m b c → Flow n c e → Flow (m ⊕ n) b e
then_flow {m} {n} {b} {c} {e} f g = record {
  sums = omega (arith, f.sums, g.sums);
  order =
      append_assoc m.credited n.credited e.pending_balance_deposits
      ∙ ap {B = List PendingBalanceDeposit} (λ l. m.credited ++ l) g.order
      ∙ sym (append_assoc m.credited c.pending_balance_deposits n.queued)
      ∙ ap {B = List PendingBalanceDeposit} (λ l. l ++ n.queued) f.order
      ∙ append_assoc b.pending_balance_deposits m.queued n.queued;
  spent =
      rw (total_append (λ (d : PendingBalanceDeposit). d.amount) m.credited n.credited)
      (omega (arith, f.spent, g.spent));
}

-- nothing counted after a count
pub counted_after : (n : Counted) → n ⊕ nothing ≡ n
counted_after n = λ i. record {
  taken_in = add-zero n.taken_in i;
  taken_out = add-zero n.taken_out i;
  credited = append-nil n.credited i;
  queued = append-nil n.queued i;
  allowance = add-zero n.allowance i;
}

-- one test chooses what is counted and what is left
pub choose : (t : Bool) {m n : Counted} {b e₁ e₂ : Books} → (t ≡ true → Flow m b e₁) → (t ≡ false → Flow n b e₂)
    → Flow (when t then m else n) b (when t then e₁ else e₂)
unfolding when◌then◌else◌
choose true f g = f refl
choose false f g = g refl

-- the same where the test decides only what is queued
pub choose_queued : (t : Bool) {x y : List PendingBalanceDeposit} {b e₁ e₂ : Books} → Flow (queues x) b e₁
    → Flow (queues y) b e₂ → Flow (queues (when t then x else y)) b (when t then e₁ else e₂)
unfolding when◌then◌else◌
choose_queued true f g = f
choose_queued false f g = g
