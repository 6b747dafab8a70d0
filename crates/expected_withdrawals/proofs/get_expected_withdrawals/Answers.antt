use native.Mathlib.Omega.{arith}
use Rattle.expected_withdrawals.proofs.Walk.{together}
use Rattle.expected_withdrawals.proofs.get_expected_withdrawals.Goals as goal

pub returns : goal.returns
returns c =
    λ ds cs.
    let a = c.args in
    let r = c.requires in
    let ps = a.books.now.partials.now in
    together a.settings a.books.now.scalars a.books.now.identities.now a.books.now.validators.now ps
    (omega (arith, r.partials_payload)) r.sweep.payload ds cs
    (c.partial_withdrawals-e.ensures ds cs) (c.sweep_withdrawals.ensures ds ps cs)
