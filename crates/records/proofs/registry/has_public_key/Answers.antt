use Rattle.std.proofs.Common.{◌≡◌, ◌+◌, ◌-◌, ◌*◌, ap, ◌∙◌, arith}
use Rattle.lists.specs.Base.{same_bytes}
use Rattle.records.specs.Stores.{key_read}
use Rattle.records.proofs.registry.has_public_key.Goals as goal

pub returns : goal.returns
returns c =
    let a = c.args in
    let size : 48 * a.i.0 + 48 - 48 * a.i.0 ≡ 48 = omega arith in
    (rw size at c.eq.ensures) ∙ ap (same_bytes a.public_key) (key_read a.identities.now a.i.0 c.requires)
