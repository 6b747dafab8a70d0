-- The bare assignment that an exported call gives.
use Rattle.std.specs.Prelude.{◌≡◌, ℕ}
use Rattle.std.proofs.Common.{sym, ◌∙◌, eq-eqb}
use Rattle.lists.specs.Laws.{if_true}
use Rattle.rules.specs.Helpers as rule
use Rattle.rules.specs.Helpers.{assign_epoch}
use Rattle.rules.specs.Calls.{assignment_answer}
use Rattle.helpers.specs.Assigned.{assignment_result}

pub assignment_done : (left earliest activation_exit churn amount : ℕ) {n : ℕ} {a : rule.Assignment}
    → n ≡ assignment_answer left earliest activation_exit churn amount → n ≡ 0
    → a ≡ assignment_result left earliest activation_exit churn amount
    → a ≡ assign_epoch left earliest activation_exit churn amount
unfolding assignment_result
assignment_done left earliest activation_exit churn amount h z e =
    e ∙ if_true _ _ _ (eq-eqb (assignment_answer left earliest activation_exit churn amount) 0 (sym h ∙ z))
