use Rattle.std.proofs.Common.{◌≡◌, sym, Err, rules}
use Rattle.primitives.specs.Answers.{refusal_not_0}
use Prim.Native.Nat.{◌≤◌, ◌<◌}
use native.Mathlib.Omega.{arith}
use Rattle.rules.specs.Types.{BOUND}
use Rattle.rules.specs.BlockProcessing.{next_index}
use Rattle.records.specs.Books.{tables, books_of}
use Rattle.acceptance.specs.Handed.{accepted}
use Rattle.expected_withdrawals.specs.Expected.{handed_list}
use Rattle.operations.specs.Payments.{listing_ready, listed_count, paying_ready}
use Rattle.operations.specs.Payments.{expected_same, payments_refused, payments_late, payments_done}
use Rattle.operations.proofs.payments.process_withdrawals_accepted.Goals as goal

pub get_expected_withdrawals-expected-requires : goal.get_expected_withdrawals-expected-requires
get_expected_withdrawals-expected-requires c = listing_ready _ _ _ c.requires

-- the list that was computed is the expected one
pub withdrawals_refusal-requires : goal.withdrawals_refusal-requires
withdrawals_refusal-requires c =
    let listed = c.get_expected_withdrawals-expected.ensures c.args.deposits.now c.args.consolidations.now in
    listed_count _ _ _ c.requires listed

pub returns-in_err-withdrawals_refusal : goal.returns-in_err-withdrawals_refusal
returns-in_err-withdrawals_refusal c =
    let e : c.from_residual.result ≡ Err c.in_err-withdrawals_refusal.field-0.0 = search rules in
    let listed = c.get_expected_withdrawals-expected.ensures c.args.deposits.now c.args.consolidations.now in
    rw e (payments_refused _ _ _ _ c.requires _ (c.in_err-withdrawals_refusal.ensures _ _ listed) (refusal_not_0 _))

pub next_index-next-requires : goal.next_index-next-requires
next_index-next-requires c =
    let listed = c.get_expected_withdrawals-expected.ensures c.args.deposits.now c.args.consolidations.now in
    let compared = c.in_ok-withdrawals_refusal.ensures _ _ listed in
    let k = paying_ready _ _ _ c.requires c.args.list c.args.n listed (sym compared) in
    record { n_bound = k.count; n_value = k.index }

pub returns-then-next-gt-BOUND : goal.returns-then-next-gt-BOUND
returns-then-next-gt-BOUND c =
    let a = c.args in
    let lent = tables a.identities.now a.validators.now a.deposits.now a.partials.now a.consolidations.now in
    let listed = c.get_expected_withdrawals-expected.ensures a.deposits.now a.consolidations.now in
    let compared = c.in_ok-withdrawals_refusal.ensures _ _ listed in
    let over : BOUND < next_index (books_of a.scalars lent) (handed_list a.list a.n) =
    omega (arith, c.next_index-next.ensures lent, c.if-next-gt-BOUND.true) in
    payments_late _ _ _ _ c.requires (sym compared) over

pub invariant_of-sound : goal.invariant_of-sound
invariant_of-sound c = record { sound = (accepted _ _ _ c.requires).settings }

pub process_withdrawals-after-requires : goal.process_withdrawals-after-requires
process_withdrawals-after-requires c =
    let listed = c.get_expected_withdrawals-expected.ensures c.args.deposits.now c.args.consolidations.now in
    let compared = c.in_ok-withdrawals_refusal.ensures _ _ listed in
    let k = accepted _ _ _ c.requires in record {
      room = k.room;
      books_are_sound = k.books;
      expected_value = listed;
      same = expected_same _ _ _ _ c.requires (sym compared);
    }

pub returns : goal.returns
returns c =
    let a = c.args in
    let lent = tables a.identities.now a.validators.now a.deposits.now a.partials.now a.consolidations.now in
    let listed = c.get_expected_withdrawals-expected.ensures a.deposits.now a.consolidations.now in
    let compared = c.in_ok-withdrawals_refusal.ensures _ _ listed in
    let within : next_index (books_of a.scalars lent) (handed_list a.list a.n) ≤ BOUND =
    omega (arith, c.next_index-next.ensures lent, c.if-next-gt-BOUND.false) in
    payments_done _ _ _ _ c.requires (sym compared) within
    c.process_withdrawals-after.ensures
