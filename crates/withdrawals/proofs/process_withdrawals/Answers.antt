use native.Mathlib.Omega.{arith}
use Rattle.primitives.specs.Settings.{settings_of}
use Rattle.records.specs.Books.{tables, books_of}
use Rattle.expected_withdrawals.specs.Expected.{handed_list}
use Rattle.withdrawals.specs.Laws.{expected_partials, stepped}
use Rattle.withdrawals.specs.Ready.{Ready, ready_by_tests}
use Rattle.withdrawals.proofs.process_withdrawals.Goals as goal
use Rattle.withdrawals.proofs.process_withdrawals.Goals.{Start}

-- what every step asks for
ready : (c : Start) → Ready c.args.sound.settings c.args.scalars c.args.validators.now c.args.partials.now
    c.args.list c.args.n c.args.expected.partials
ready c =
    let a = c.args in
    let r = c.requires in
    ready_by_tests a.sound.settings a.scalars
    (tables a.identities.now a.validators.now a.deposits.now a.partials.now a.consolidations.now) a.list a.n
    a.sound.sound r.room r.books_are_sound r.expected_value r.same

pub overflow_sub-left : goal.overflow_sub-left
overflow_sub-left c = (ready (goal.at.overflow_sub-left c).Start).few

pub pay_withdrawals-requires : goal.pay_withdrawals-requires
pay_withdrawals-requires c =
    let ready = ready (goal.at.pay_withdrawals-requires c).Start in
    record { held = (ready.validators, ready.count); known = ready.inside }

pub remove_partials-requires : goal.remove_partials-requires
remove_partials-requires c =
    let ready = ready (goal.at.remove_partials-requires c).Start in
    omega (arith, ready.few, ready.partials)

pub next_index-index-requires : goal.next_index-index-requires
next_index-index-requires c =
    let ready = ready (goal.at.next_index-index-requires c).Start in
    record { n_bound = ready.count; n_value = ready.index }

pub next_validator_index-cursor-requires : goal.next_validator_index-cursor-requires
next_validator_index-cursor-requires c =
    let ready = ready (goal.at.next_validator_index-cursor-requires c).Start in
    record {
      payload = (ready.count, ready.payload);
      sweep = ready.sweep;
      cursor = ready.cursor;
      registry = ready.registry;
      known = ready.inside;
    }

pub returns : goal.returns
returns c =
    let a = c.args in
    let lent = tables a.identities.now a.validators.now a.deposits.now a.partials.now a.consolidations.now in
    stepped a.sound.settings a.scalars a.identities.now a.validators.now a.deposits.now a.partials.now
    a.consolidations.now (handed_list a.list a.n) (ready (goal.at.returns c).Start).few
    (expected_partials (settings_of a.sound.settings) (books_of a.scalars lent) c.requires.expected_value)
    c.pay_withdrawals.ensures c.remove_partials.ensures
    c.next_index-index.ensures c.next_validator_index-cursor.ensures
