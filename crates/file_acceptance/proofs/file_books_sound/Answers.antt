-- Each pass that fails refuses the books, and the last decides.
use mathlib.Core.Path.{refl, sym, ◌∙◌}
use Rattle.primitives.specs.Settings.{settings_of}
use Rattle.file_format.specs.Words.{words}
use Rattle.file_format.specs.Places.{deposits_place, partials_place, consolidations_place}
use Rattle.file_records.specs.Laws.{file_good}
use Rattle.file_records.specs.Lists.{behind_count, validators_readable, deposits_readable, partials_readable}
use Rattle.file_records.specs.Lists.{consolidations_readable}
use Rattle.file_records.specs.Books.{validators_counted, deposits_counted, partials_counted, consolidations_counted}
use Rattle.acceptance.specs.Laws.{bounded_is, bounded_over}
use Rattle.file_acceptance.specs.Laws.{balances_summed, held_summed, partials_summed, consolidations_tested}
use Rattle.file_acceptance.specs.Laws.{scalars_refused, balances_refused, held_refused, partials_refused}
use Rattle.file_acceptance.specs.Laws.{consolidations_decide}
use Rattle.file_acceptance.proofs.file_books_sound.Goals as goal

pub returns-then-not-scalars_within : goal.returns-then-not-scalars_within
returns-then-not-scalars_within c =
    scalars_refused (settings_of c.args.settings) (words c.args.file.bytes.now) c.requires
    (sym c.scalars_within.ensures ∙ c.if-not-scalars_within.true)

pub sum-requires-clause-readable : goal.sum-requires-clause-readable
sum-requires-clause-readable c =
    let ws = words c.args.file.bytes.now in
    validators_readable ws (file_good _ c.args.file.good)
    (behind_count 85 ws c.lists_of-lists.ensures.validators c.behind-validators.ensures)
    (validators_counted ws c.requires)

pub returns-in_default : goal.returns-in_default
returns-in_default c =
    let S = settings_of c.args.settings in
    let ws = words c.args.file.bytes.now in
    let e = c.requires in
    let validators = behind_count 85 ws c.lists_of-lists.ensures.validators c.behind-validators.ensures in
    balances_refused S ws e _ (balances_summed S ws e validators refl) (bounded_over c.in_default.ensures)

pub sum-requires-2-clause-readable : goal.sum-requires-2-clause-readable
sum-requires-2-clause-readable c =
    let ws = words c.args.file.bytes.now in
    deposits_readable ws (file_good _ c.args.file.good)
    (behind_count (deposits_place ws) ws c.lists_of-lists.ensures.deposits c.behind-deposits.ensures)
    (deposits_counted ws c.requires)

pub sum-requires-2-clause-start_le_bound : goal.sum-requires-2-clause-start_le_bound
sum-requires-2-clause-start_le_bound c = (bounded_is c.in-Some.ensures).1

pub returns-in_default-sum : goal.returns-in_default-sum
returns-in_default-sum c =
    let S = settings_of c.args.settings in
    let ws = words c.args.file.bytes.now in
    let e = c.requires in
    let lists = c.lists_of-lists.ensures in
    let validators = behind_count 85 ws lists.validators c.behind-validators.ensures in
    let deposits = behind_count (deposits_place ws) ws lists.deposits c.behind-deposits.ensures in
    held_refused S ws e _ _ (balances_summed S ws e validators (bounded_is c.in-Some.ensures).0)
    (held_summed S ws e _ deposits refl) (bounded_over c.in_default-sum.ensures)

pub sum-requires-3-clause-readable : goal.sum-requires-3-clause-readable
sum-requires-3-clause-readable c =
    let ws = words c.args.file.bytes.now in
    partials_readable ws (file_good _ c.args.file.good)
    (behind_count (partials_place ws) ws c.lists_of-lists.ensures.partials c.behind-partials.ensures)
    (partials_counted ws c.requires)

pub returns-in_default-sum-2 : goal.returns-in_default-sum-2
returns-in_default-sum-2 c =
    let S = settings_of c.args.settings in
    let ws = words c.args.file.bytes.now in
    let e = c.requires in
    let partials = behind_count (partials_place ws) ws c.lists_of-lists.ensures.partials c.behind-partials.ensures in
    partials_refused S ws e _ (partials_summed S ws e partials refl) (bounded_over c.in_default-sum-2.ensures)

pub consolidations_in-requires : goal.consolidations_in-requires
consolidations_in-requires c =
    let ws = words c.args.file.bytes.now in
    consolidations_readable ws (file_good _ c.args.file.good)
    (behind_count (consolidations_place ws) ws c.lists_of-lists.ensures.consolidations c.behind.ensures)
    (consolidations_counted ws c.requires)

pub returns : goal.returns
returns c =
    let S = settings_of c.args.settings in
    let ws = words c.args.file.bytes.now in
    let e = c.requires in
    let lists = c.lists_of-lists.ensures in
    let validators = behind_count 85 ws lists.validators c.behind-validators.ensures in
    let deposits = behind_count (deposits_place ws) ws lists.deposits c.behind-deposits.ensures in
    let partials = behind_count (partials_place ws) ws lists.partials c.behind-partials.ensures in
    let consolidations = behind_count (consolidations_place ws) ws lists.consolidations c.behind.ensures in
    let balances = bounded_is c.in-Some.ensures in
    let held = bounded_is c.in-Some-sum.ensures in
    let withdrawn = bounded_is c.in-Some-sum-2.ensures in
    consolidations_decide S ws e _ _ _ _ (sym c.scalars_within.ensures ∙ c.if-not-scalars_within.false)
    (balances_summed S ws e validators balances.0) balances.1
    (held_summed S ws e _ deposits held.0) held.1
    (partials_summed S ws e partials withdrawn.0) withdrawn.1
    (consolidations_tested S ws e consolidations c.consolidations_in.ensures)
