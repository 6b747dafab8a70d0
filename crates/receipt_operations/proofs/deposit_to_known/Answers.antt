use Rattle.std.proofs.Common.{Err, refl, rules, ◌∙◌, ◌≡◌}
use Rattle.primitives.specs.Answers.{refusal_not_0}
use Prim.Native.Nat.{◌+◌}
use native.Mathlib.Omega.{arith}
use lib.Dec.{leb}
use Rattle.primitives.specs.Settings.{settings_of}
use Rattle.records.specs.Plain.{plain_validator}
use Rattle.records.specs.Books.{tables}
use Rattle.call_answers.specs.Answers.{judged_done, judged_refused}
use Rattle.receipt_operations.proofs.Receipts.{known_number, known_stepped, switch_stepped}
use Rattle.receipt_operations.proofs.Receipts.{few_entries, switch_room}
use Rattle.receipt_operations.proofs.Sizes.{sums_known, limit_kept}
use Rattle.receipt_operations.proofs.deposit_to_known.Goals as goal

pub overflow_add-within-2 : goal.overflow_add-within-2
overflow_add-within-2 c =
    let a = c.args in
    let ready = c.requires.receipt_ready in
    omega (
      arith,
      c.queued_by_switch-more.ensures,
      few_entries (settings_of a.settings).min_activation_balance a.v.balance.0 a.switch,
      ready.queued,
      ready.most_queued,
    )

pub returns-in_err-size_number : goal.returns-in_err-size_number
returns-in_err-size_number c =
    let e : c.from_residual.result ≡ Err c.in_err-size_number.field-0.0 = search rules in
    rw e (
    λ ps cs k.
    let a = c.args in
    let t = tables a.identities.now a.validators.now a.deposits.now ps cs in
    let known = c.requires.known_validator in
    judged_refused
    (sums_known
    (leb (a.scalars.deposits + 1 + c.queued_by_switch-more.result) a.settings.pending_balance_deposits_limit)
    c.in_err-size_number.ensures (c.requires.sums_is a.identities.now ps cs)
    ∙ known_number (settings_of a.settings) a.scalars t a.i.0 known.0 (plain_validator a.v) known.1 k a.amount.0
    c.queued_by_switch-more.result a.switch known.2 c.queued_by_switch-more.ensures)
    (refusal_not_0 _))

pub returns-then-not-switch : goal.returns-then-not-switch
returns-then-not-switch c =
    λ ps cs k.
    let a = c.args in
    let t = tables a.identities.now a.validators.now a.deposits.now ps cs in
    let known = c.requires.known_validator in
    judged_done
    (sums_known
    (leb (a.scalars.deposits + 1 + c.queued_by_switch-more.result) a.settings.pending_balance_deposits_limit)
    c.in_ok-size_number.ensures (c.requires.sums_is a.identities.now ps cs)
    ∙ known_number (settings_of a.settings) a.scalars t a.i.0 known.0 (plain_validator a.v) known.1 k a.amount.0
    c.queued_by_switch-more.result a.switch known.2 c.queued_by_switch-more.ensures)
    (known_stepped (settings_of a.settings) a.scalars a.i.0 a.amount.0 a.identities.now
    a.validators.now a.deposits.now _ c.push.ensures ps cs a.switch
    c.if-not-switch.true refl)

pub switch_to_compounding_validator-switched-requires : goal.switch_to_compounding_validator-switched-requires
switch_to_compounding_validator-switched-requires c =
    let a = c.args in
    let known = c.requires.known_validator in
    let ready = c.requires.receipt_ready in
    let fits =
    limit_kept (a.scalars.deposits + 1 + c.queued_by_switch-more.result) a.settings.pending_balance_deposits_limit
    a.sums c.in_ok-size_number.ensures refl in
    record {
      i_lt_validators = (
        omega (arith, known.0),
        omega (arith, ready.registry, ready.identities),
        omega (arith, ready.registry, ready.validators),
      );
      by_index =
          switch_room (settings_of a.settings) a.scalars _ a.i.0
          known.0 (plain_validator a.v) a.identities.now a.validators.now a.deposits.now _
          known.1 (known.2 c.if-not-switch.false) c.queued_by_switch-more.result a.switch c.if-not-switch.false
          c.queued_by_switch-more.ensures (omega (arith, fits, ready.deposits)) c.push.auto.table refl;
    }

pub returns : goal.returns
returns c =
    λ ps cs k.
    let a = c.args in
    let t = tables a.identities.now a.validators.now a.deposits.now ps cs in
    let known = c.requires.known_validator in
    judged_done
    (sums_known
    (leb (a.scalars.deposits + 1 + c.queued_by_switch-more.result) a.settings.pending_balance_deposits_limit)
    c.in_ok-size_number.ensures (c.requires.sums_is a.identities.now ps cs)
    ∙ known_number (settings_of a.settings) a.scalars t a.i.0 known.0 (plain_validator a.v) known.1 k a.amount.0
    c.queued_by_switch-more.result a.switch known.2 c.queued_by_switch-more.ensures)
    (switch_stepped (settings_of a.settings) a.scalars a.i.0 a.amount.0 a.identities.now
    a.validators.now a.deposits.now _ c.push.ensures ps cs a.switch
    c.if-not-switch.false _ refl
    (c.switch_to_compounding_validator-switched.ensures.by_index_3 ps cs)
    (c.switch_to_compounding_validator-switched.ensures.by_index_2 ps cs))
