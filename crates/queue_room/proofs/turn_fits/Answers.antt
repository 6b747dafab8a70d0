use mathlib.Core.Path.{ap}
use mathlib.Core.List.{[]}
use native.Mathlib.Omega.{arith}
use lib.Dec.{leb}
use Rattle.primitives.specs.Settings.{settings_of}
use Rattle.records.specs.Books.{tables}
use Rattle.queue_room.specs.Ready.{available_small}
use Rattle.queue_room.specs.Room.{available_is, turn_fits_uncounted}
use Rattle.queue_room.proofs.turn_fits.Goals as goal

pub returns-then-most-limit : goal.returns-then-most-limit
returns-then-most-limit c =
    λ ps.
    let b = c.args.books.now in
    turn_fits_uncounted (settings_of c.args.settings) b.scalars
    (tables b.identities.now b.validators.now b.deposits.now ps b.consolidations.now) _ c.if-most-limit.true

pub overflow_add-available : goal.overflow_add-available
overflow_add-available c =
    omega (arith, available_small c.requires.allowance_ready _ (c.requires.allowance_is []))

pub returns : goal.returns
returns c =
    λ ps.
    let b = c.args.books.now in
    let S = settings_of c.args.settings in
    let t = tables b.identities.now b.validators.now b.deposits.now ps b.consolidations.now in
    ap (λ n. leb n S.pending_balance_deposits_limit)
    (c.queue_after_turn-queue.ensures ps (available_is S b.scalars t (c.requires.allowance_is ps)))
