-- What the bare assignment gives, by its cases.
use Rattle.std.specs.Prelude.{◌≡◌, ℕ, ◌≤◌, ◌<◌, eqb, Result, Ok, Err}
use Rattle.std.proofs.Common.{ap, sym}
use borrow.Author.Tests.{eq-eqb, ne_eqb, lt-ltb, le-ltb}
use Rattle.lists.specs.Base.{when◌then◌else◌}
use Rattle.rules.specs.Types.{BOUND}
use Rattle.rules.specs.Helpers as rule
use Rattle.rules.specs.Helpers.{assign_epoch}
use Rattle.rules.specs.Calls.{assignment_answer}
use Rattle.primitives.specs.declared.answers.Refusal.{Refusal}
use Rattle.primitives.specs.Answers.{answer_number, refusal_not_0, refusal_fixed}
use Rattle.helpers.specs.declared.assignment.Assignment.{Assignment}

-- the declared struct as the rules' record
abbrev pub plain_assignment : Assignment → rule.Assignment
plain_assignment a = record { left = a.left.0; epoch = a.epoch.0 }

abbrev pub no_assignment : rule.Assignment
no_assignment = record { left = 0; epoch = 0 }

-- the assignment of an answer
abbrev pub answer_assignment : Result Assignment Refusal → rule.Assignment
answer_assignment (Ok a) = plain_assignment a
answer_assignment (Err _) = no_assignment

-- number and assignment leave no second answer
pub assignment_fixed : (r s : Result Assignment Refusal) → answer_number r ≡ answer_number s
    → answer_assignment r ≡ answer_assignment s → r ≡ s
assignment_fixed (Ok a) (Ok b) n e =
    ap (λ (x : rule.Assignment). Ok (record { left = record { 0 = x.left }; epoch = record { 0 = x.epoch } })) e
assignment_fixed (Ok a) (Err f) n e = absurd (refusal_not_0 f (sym n))
assignment_fixed (Err d) (Ok b) n e = absurd (refusal_not_0 d n)
assignment_fixed (Err d) (Err f) n e = ap Err (refusal_fixed d f n)

-- a refusal gives no assignment
unfoldable pub assignment_result : (left earliest_epoch activation_exit_epoch churn amount : ℕ) → rule.Assignment
assignment_result left earliest_epoch activation_exit_epoch churn amount =
    when eqb (assignment_answer left earliest_epoch activation_exit_epoch churn amount) 0
    then assign_epoch left earliest_epoch activation_exit_epoch churn amount
    else no_assignment

-- ---- its cases

module _ (left earliest_epoch activation_exit_epoch churn amount : ℕ) where
  pub answer_churn_zero : churn ≡ 0
      → 50 ≡ assignment_answer left earliest_epoch activation_exit_epoch churn amount
  unfolding assignment_answer when◌then◌else◌
  answer_churn_zero h = rw (eq-eqb churn 0 h)

  pub answer_over : {a : rule.Assignment}
      → a ≡ assign_epoch left earliest_epoch activation_exit_epoch churn amount → (churn ≡ 0 → ⊥) → BOUND < a.epoch
      → 42 ≡ assignment_answer left earliest_epoch activation_exit_epoch churn amount
  unfolding assignment_answer when◌then◌else◌
  answer_over {a} e h over = rw (ne_eqb churn 0 h, ← e, lt-ltb BOUND a.epoch over)

  pub answer_done : {a : rule.Assignment}
      → a ≡ assign_epoch left earliest_epoch activation_exit_epoch churn amount → (churn ≡ 0 → ⊥) → a.epoch ≤ BOUND
      → 0 ≡ assignment_answer left earliest_epoch activation_exit_epoch churn amount
  unfolding assignment_answer when◌then◌else◌
  answer_done {a} e h within = rw (ne_eqb churn 0 h, ← e, le-ltb BOUND a.epoch within)

  pub result_refused : {n : ℕ} → n ≡ assignment_answer left earliest_epoch activation_exit_epoch churn amount
      → (n ≡ 0 → ⊥) → no_assignment ≡ assignment_result left earliest_epoch activation_exit_epoch churn amount
  unfolding assignment_result when◌then◌else◌
  result_refused {n} e z = rw (← e) (rw (ne_eqb n 0 z))

  pub result_done : 0 ≡ assignment_answer left earliest_epoch activation_exit_epoch churn amount
      → assign_epoch left earliest_epoch activation_exit_epoch churn amount
      ≡ assignment_result left earliest_epoch activation_exit_epoch churn amount
  unfolding assignment_result when◌then◌else◌
  result_done e = rw (← e)
