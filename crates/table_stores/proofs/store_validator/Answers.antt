use Rattle.std.proofs.Common.{◌+◌, ◌-◌, ◌*◌, ◌≤◌, length, ap, ◌∙◌, arith}
use Rattle.std.proofs.Math.Seq.{paste}
use borrow.Rule.Slice.PartMut.{put_mid}
use Rattle.file_format.specs.Words.{words}
use Rattle.file_format.specs.Fields.{field}
use Rattle.file_format.proofs.PlacesLaws.{good_validator}
use Rattle.table_stores.specs.Laws.{credentials_good, part_ok, part_put, part_length, validator_put}
use Rattle.table_stores.proofs.store_validator.Goals as goal

pub put_field-requires : goal.put_field-requires
put_field-requires c =
    let a = c.args in
    let at = 48 * a.n in
    part_ok a.rest.now 48 (good_validator _ c.requires.well_formed).key a.identities.now at (at + 48 - at)
    (omega (arith, c.requires.n_fits.0)) (omega arith)

pub put_field-requires-2 : goal.put_field-requires-2
put_field-requires-2 c =
    let a = c.args in
    let bs = a.rest.now in
    let cs = c.behind.result.now in
    let ids = a.identities.now in
    let e = c.requires.well_formed in
    let at = 48 * a.n in
    let size =
    part_length bs 48 (good_validator _ e).key ids at (at + 48 - at)
    (omega (arith, c.requires.n_fits.0)) (omega arith) c.put_field.ensures in
    let place = c.credentials_place-credentials.result in
    part_ok cs 32 (credentials_good bs cs e c.behind.ensures) _ place (place + 32 - place)
    (omega (arith, c.requires.n_fits.0, c.credentials_place-credentials.ensures, size)) (omega arith)

pub returns : goal.returns
returns c =
    let a = c.args in
    let bs = a.rest.now in
    let cs = c.behind.result.now in
    let ids = a.identities.now in
    let e = c.requires.well_formed in
    let good = (good_validator _ e).key in
    let at = 48 * a.n in
    let h : at + 48 ≤ length ids = omega (arith, c.requires.n_fits.0) in
    let size = part_length bs 48 good ids at (at + 48 - at) h (omega arith) c.put_field.ensures in
    let key = part_put bs 48 good ids at (at + 48 - at) h (omega arith) c.put_field.ensures in
    let place = c.credentials_place-credentials.result in
    let found = c.credentials_place-credentials.ensures in
    let with_key = put_mid at (at + 48 - at) ids c.put_field.new.bytes in
    let credentials =
    part_put cs 32 (credentials_good bs cs e c.behind.ensures) with_key place (place + 32 - place)
    (omega (arith, c.requires.n_fits.0, found, size)) (omega arith) c.put_field-2.ensures in
    validator_put bs cs e c.behind.ensures ids a.validators.now a.n c.requires.n_fits.0 c.requires.n_fits.1 key
    (credentials ∙ ap (λ p. paste with_key p ((field 32).value (words cs)) 32) found)
    c.store_words.ensures
