use borrow.Author.Tests.{le-leb, lt-leb, lt-ltb, le-ltb}
use Rattle.lists.specs.Base.{when◌then◌else◌}
use Rattle.records.proofs.registry.active_effective_balance_at.Goals as goal

pub returns-then-epoch-word_at : goal.returns-then-epoch-word_at
unfolding when◌then◌else◌
returns-then-epoch-word_at c = λ ids. simp (lt-leb _ _ (rw c.word_at.ensures at c.if-epoch-word_at.true))

pub returns-then-word_at-epoch : goal.returns-then-word_at-epoch
unfolding when◌then◌else◌
returns-then-word_at-epoch c =
    λ ids.
    simp (
      le-leb _ _ (rw c.word_at.ensures at c.if-epoch-word_at.false),
      le-ltb _ _ (rw c.word_at-2.ensures at c.if-word_at-epoch.true),
    )

pub returns : goal.returns
unfolding when◌then◌else◌
returns c =
    λ ids.
    simp (
      c.word_at-3.ensures,
      le-leb _ _ (rw c.word_at.ensures at c.if-epoch-word_at.false),
      lt-ltb _ _ (rw c.word_at-2.ensures at c.if-word_at-epoch.false),
    )
