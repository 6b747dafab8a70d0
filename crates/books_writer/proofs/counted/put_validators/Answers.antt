use borrow.Author.Rules.{rules}
use mathlib.Core.Path.{◌≡◌}
use Prim.Native.Nat.{ℕ, ◌<◌}
use lib.ListN.{length}
use Rattle.records.specs.Layout.{validator_at}
use Rattle.file_format.specs.Books.{validator}
use Rattle.file_format.proofs.FileLaws.{bytes_known}
use Rattle.books_writer.specs.Lists.{records_none, records_more, records_done}
use Rattle.books_writer.specs.Lists.{validator_at_length, flag_small}
use Rattle.books_writer.proofs.counted.put_validators.Goals as goal

pub loop-i-init : goal.loop-i-init
loop-i-init c = records_none _ _ _ _

pub put_validator-requires-clause-slashed_bound : goal.put_validator-requires-clause-slashed_bound
put_validator-requires-clause-slashed_bound c =
    let ids = c.args.identities.now in
    let ws = c.args.validators.now in
    flag_small ids ws _ _ _ c.validator_at-v.ensures c.requires.flags (search rules)

pub loop-i-preserved : goal.loop-i-preserved
loop-i-preserved c =
    let ids = c.args.identities.now in
    let ws = c.args.validators.now in
    let size : (i : ℕ) → i < c.args.n → length (validator.write (validator_at ids ws i)) ≡ 46 =
    λ i h. validator_at_length ids ws i (search rules) in
    records_more validator 46 c.args.n _ size _ _ _ _ _ _
    (search rules) (search rules) c.loop-i.invariant c.validator_at-v.ensures
    c.put_validator.ensures

pub returns-clause-bytes : goal.returns-clause-bytes
returns-clause-bytes c = bytes_known c.args.identities.now (λ i. (c.type_inv.identities i).fits)

pub returns-clause-list : goal.returns-clause-list
returns-clause-list c =
    let ids = c.args.identities.now in
    let ws = c.args.validators.now in
    let size : (i : ℕ) → i < c.args.n → length (validator.write (validator_at ids ws i)) ≡ 46 =
    λ i h. validator_at_length ids ws i (search rules) in
    records_done validator 46 c.args.n _ size _ _ _ _ _
    (search rules) (search rules) (search rules) c.put_count.ensures c.loop-i.invariant
