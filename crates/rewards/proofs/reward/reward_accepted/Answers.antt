use mathlib.Core.Path.{sym, ◌∙◌}
use Prim.Native.Nat.{◌+◌, ◌≤◌, ◌<◌}
use borrow.Author.Tests.{leb-true, leb-false}
use Rattle.rules.specs.Types.{BOUND}
use Rattle.rules.specs.Acceptance.{held}
use Rattle.records.specs.Books.{tables, books_of}
use Rattle.rewards.specs.Rewards.{in_table, balance_fits, reward_unknown, reward_over, reward_done}
use Rattle.rewards.proofs.reward.reward_accepted.Goals as goal

pub returns-then-scalars-i : goal.returns-then-scalars-i
returns-then-scalars-i c = reward_unknown _ _ _ _ _ c.requires.accepted c.if-scalars-i.true

pub returns-then-not-sums : goal.returns-then-not-sums
returns-then-not-sums c =
    let opening = books_of c.args.scalars
    (tables c.args.identities.now c.args.validators.now c.args.deposits.now c.args.partials.now
    c.args.consolidations.now) in
    let over : BOUND < held opening + c.args.amount.0 =
    leb-false _ _ (sym c.requires.sums_within ∙ c.if-not-sums.true) in
    reward_over _ _ _ _ _ c.requires.accepted c.if-scalars-i.false over

pub increase_balance-requires : goal.increase_balance-requires
increase_balance-requires c =
    let opening = books_of c.args.scalars
    (tables c.args.identities.now c.args.validators.now c.args.deposits.now c.args.partials.now
    c.args.consolidations.now) in
    let within : held opening + c.args.amount.0 ≤ BOUND =
    leb-true _ _ (sym c.requires.sums_within ∙ c.if-not-sums.false) in
    let known = c.if-scalars-i.false in record {
      i_bound = in_table _ _ _ _ c.args.amount.0 c.requires.accepted known;
      delta_bound = balance_fits _ _ _ _ _ c.requires.accepted known within;
    }

pub returns : goal.returns
returns c =
    let opening = books_of c.args.scalars
    (tables c.args.identities.now c.args.validators.now c.args.deposits.now c.args.partials.now
    c.args.consolidations.now) in
    let within : held opening + c.args.amount.0 ≤ BOUND =
    leb-true _ _ (sym c.requires.sums_within ∙ c.if-not-sums.false) in
    reward_done _ _ _ _ _ _ _ _ _ _ c.requires.accepted c.if-scalars-i.false within
    c.increase_balance.ensures
