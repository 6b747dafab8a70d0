use mathlib.Core.Path.{ap, ◌∙◌}
use native.Mathlib.Omega.{arith}
use lib.ListN.{length, length-set}
use Rattle.records.specs.Plain.{plain_consolidation}
use Rattle.queue_room.specs.Room.{at_most_one}
use Rattle.queue_room.proofs.Counting.{counting_skip, counting_stop, counting_more, named, consolidation_next}
use Rattle.queue_room.proofs.count_excess_entries.Goals as goal

pub loop-k-preserved-then-slashed_at-eq1 : goal.loop-k-preserved-then-slashed_at-eq1
loop-k-preserved-then-slashed_at-eq1 c =
    let s = c.args.books.now.scalars in
    let cs = c.args.books.now.consolidations.now in
    let l = c.loop-k in
    let read = c.entry_at-c.ensures in
    let e = consolidation_next s.consolidations cs l.k c.loop-k-test.true read in
    let inside =
    named s.validators s.consolidations cs l.k c.loop-k-test.true c.requires.ready.consolidations_inside read in
    record {
      size = l.invariant.size;
      few = omega arith;
      counted = λ b h.
          counting_skip (l.invariant.counted b h) (plain_consolidation c.entry_at-c.result) e inside.0
          c.slashed_at.ensures c.if-slashed_at-eq1.true;
    }

pub returns-then-books-withdrawable_epoch : goal.returns-then-books-withdrawable_epoch
returns-then-books-withdrawable_epoch c =
    let s = c.args.books.now.scalars in
    let cs = c.args.books.now.consolidations.now in
    let l = c.loop-k in
    let read = c.entry_at-c.ensures in
    let e = consolidation_next s.consolidations cs l.k c.loop-k-test.true read in
    let inside =
    named s.validators s.consolidations cs l.k c.loop-k-test.true c.requires.ready.consolidations_inside read in (
      omega (arith, c.loop-k-test.true),
      λ b h.
          counting_stop (l.invariant.counted b h) (plain_consolidation c.entry_at-c.result) e inside.0
          c.slashed_at.ensures c.if-slashed_at-eq1.false c.withdrawable_epoch_at-withdrawable_epoch.ensures
          c.if-books-withdrawable_epoch.true,
    )

pub loop-k-preserved : goal.loop-k-preserved
loop-k-preserved c =
    let s = c.args.books.now.scalars in
    let cs = c.args.books.now.consolidations.now in
    let l = c.loop-k in
    let read = c.entry_at-c.ensures in
    let e = consolidation_next s.consolidations cs l.k c.loop-k-test.true read in
    let inside =
    named s.validators s.consolidations cs l.k c.loop-k-test.true c.requires.ready.consolidations_inside read in
    let done = c.consolidate-entries.ensures in
    record {
      size = ap length done.1 ∙ simp length-set l.invariant.size;
      few = omega (arith, at_most_one _ done.0);
      counted = λ b h.
          counting_more (l.invariant.counted b h) (plain_consolidation c.entry_at-c.result) e inside.0
          c.slashed_at.ensures c.if-slashed_at-eq1.false c.withdrawable_epoch_at-withdrawable_epoch.ensures
          c.if-books-withdrawable_epoch.false (omega (arith, l.invariant.size, c.requires.ready.most_validators))
          inside.1
          done.0 done.1;
    }
