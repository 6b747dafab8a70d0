-- The four lists, one after the other.
use Rattle.file_format.specs.Words.{words}
use Rattle.file_format.specs.Places.{deposits_place, partials_place, consolidations_place}
use Rattle.file_records.specs.Laws.{file_good}
use Rattle.file_records.specs.Lists.{behind_count, validators_readable, deposits_readable, partials_readable}
use Rattle.file_records.specs.Lists.{consolidations_readable}
use Rattle.file_records.specs.Books.{validators_counted, deposits_counted, partials_counted, consolidations_counted}
use Rattle.table_stores.specs.Laws.{books_stored}
use Rattle.table_stores.proofs.store_books.Goals as goal

pub store_validators-requires : goal.store_validators-requires
store_validators-requires c =
    let ws = words c.args.file.bytes.now in
    let room = c.requires.fits in
    record {
      readable =
          validators_readable ws (file_good _ c.args.file.good)
          (behind_count 85 ws c.lists_of-lists.ensures.validators c.behind-records.ensures)
          (validators_counted ws c.requires.scalars_read);
      n_fits = (room.identities, room.validators);
    }

pub store_records-requires : goal.store_records-requires
store_records-requires c =
    let ws = words c.args.file.bytes.now in
    record {
      readable =
          deposits_readable ws (file_good _ c.args.file.good)
          (behind_count (deposits_place ws) ws c.lists_of-lists.ensures.deposits c.behind-records-2.ensures)
          (deposits_counted ws c.requires.scalars_read);
      n_fits = c.requires.fits.deposits;
    }

pub store_records-requires-2 : goal.store_records-requires-2
store_records-requires-2 c =
    let ws = words c.args.file.bytes.now in
    record {
      readable =
          partials_readable ws (file_good _ c.args.file.good)
          (behind_count (partials_place ws) ws c.lists_of-lists.ensures.partials c.behind-records-3.ensures)
          (partials_counted ws c.requires.scalars_read);
      n_fits = c.requires.fits.partials;
    }

pub store_records-requires-3 : goal.store_records-requires-3
store_records-requires-3 c =
    let ws = words c.args.file.bytes.now in
    record {
      readable =
          consolidations_readable ws (file_good _ c.args.file.good)
          (behind_count (consolidations_place ws) ws c.lists_of-lists.ensures.consolidations c.behind-records-4.ensures)
          (consolidations_counted ws c.requires.scalars_read);
      n_fits = c.requires.fits.consolidations;
    }

pub returns : goal.returns
returns c =
    let ws = words c.args.file.bytes.now in
    let lists = c.lists_of-lists.ensures in
    books_stored ws c.requires.scalars_read
    (behind_count 85 ws lists.validators c.behind-records.ensures)
    (behind_count (deposits_place ws) ws lists.deposits c.behind-records-2.ensures)
    (behind_count (partials_place ws) ws lists.partials c.behind-records-3.ensures)
    (behind_count (consolidations_place ws) ws lists.consolidations c.behind-records-4.ensures)
    c.store_validators.ensures c.store_records.ensures
    c.store_records-2.ensures c.store_records-3.ensures
