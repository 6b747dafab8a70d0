use mathlib.Core.Path.{◌≡◌}
use lib.ListN.{length}
use borrow.Author.Rules.{rules}
use Rattle.records.specs.Plain.{plain_validator}
use Rattle.records.specs.Stores.{validator_stored}
use Rattle.records.proofs.registry.push_validator.Goals as goal

pub returns : goal.returns
returns c =
    let key-size : length c.args.v.public_key ≡ 48 = search rules in
    let credentials-size : length c.args.v.withdrawal_credentials ≡ 32 = search rules in
    let a = c.args in
    validator_stored a.identities.now a.validators.now a.n (plain_validator a.v)
    c.requires.0 c.requires.1 (key-size) (credentials-size)
    c.put_bytes.ensures (rw c.credentials_place-credentials.ensures at c.put_bytes-2.ensures)
    (rw c.words.ensures at c.put_row.ensures)
