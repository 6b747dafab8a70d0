use mathlib.Core.Path.{◌≡◌, ap, sym, ◌∙◌}
use mathlib.Core.List.{[]}
use Rattle.rules.specs.Helpers.{prefix}
use Rattle.primitives.specs.declared.Scalars.{Scalars}
use Rattle.primitives.specs.Settings.{settings_of}
use Rattle.records.specs.Layout.{withdrawal_credentials_at}
use Rattle.compounding.proofs.Switch.{not_switched, none_queued, entries_read, switched}
use Rattle.compounding.proofs.switch_to_compounding_validator.Goals as goal

pub returns-then-prefix_at-ne1 : goal.returns-then-prefix_at-ne1
returns-then-prefix_at-ne1 c =
    let a = c.args in
    let other : prefix (withdrawal_credentials_at a.identities.now a.i.0) ≡ 1 → ⊥ =
    λ e. c.if-prefix_at-ne1.true (c.prefix_at.ensures ∙ e) in
    let S = settings_of a.settings in record {
      by_index_2 = not_switched S a.i.0 a.scalars a.identities.now a.validators.now a.deposits.now
          c.requires.i_lt_validators.0 other;
      by_index_3 = none_queued S a.i.0 a.scalars a.identities.now a.validators.now a.deposits.now
          c.requires.i_lt_validators.0 other;
    }

pub queue_excess_active_balance-requires : goal.queue_excess_active_balance-requires
queue_excess_active_balance-requires c =
    let a = c.args in
    let p = c.requires in
    let compounds =
    sym c.prefix_at.ensures ∙ c.if-prefix_at-ne1.false in
    let entries =
    entries_read (settings_of a.settings) a.i.0 a.scalars a.identities.now a.validators.now
    a.deposits.now p.i_lt_validators.0 compounds in
    record {
      i_lt_validators = (p.i_lt_validators.0, p.i_lt_validators.2);
      i_bound = rw (← entries [] [])
          (p.by_index [] []);
    }

pub returns : goal.returns
returns c =
    let a = c.args in
    let p = c.requires in
    let compounds = sym c.prefix_at.ensures ∙ c.if-prefix_at-ne1.false in
    let S = settings_of a.settings in
    let q = c.queue_excess_active_balance in
    let entries =
    entries_read S a.i.0 a.scalars a.identities.now a.validators.now a.deposits.now
    p.i_lt_validators.0 compounds in record {
      by_index_2 = switched S a.i.0 a.scalars a.identities.now a.validators.now a.deposits.now
          p.i_lt_validators.0 compounds _ _ _ c.set_compounding_prefix.ensures q.result
          (ap (λ (s : Scalars). s.validators) q.ensures.value) q.ensures.by_index;
      by_index_3 = λ ps cs. rw (entries ps cs) q.ensures.value;
    }
