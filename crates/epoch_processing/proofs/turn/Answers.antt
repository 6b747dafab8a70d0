use mathlib.Core.Path.{refl}
use native.Mathlib.Omega.{arith}
use Rattle.rule_laws.specs.Accepted.{SoundBooks, books_sound}
use Rattle.primitives.specs.Settings.{settings_of}
use Rattle.records.specs.Books.{Tables, tables, books_of}
use Rattle.records.specs.Fixed.{SameSizes}
use Rattle.epoch_processing.proofs.TurnStep.{credited_room, credited_sound, credited_fits, consolidated_ready}
use Rattle.epoch_processing.proofs.TurnStep.{epoch_kept, turned}
use Rattle.epoch_processing.proofs.turn.Goals as goal
use Rattle.epoch_processing.proofs.turn.Goals.{After-process_pending_balance_deposits-credited}
use Rattle.epoch_processing.proofs.turn.Goals.{After-process_pending_consolidations-consolidated}

-- the tables at entry, and after the deposits
module _ (c : After-process_pending_balance_deposits-credited) where
  abbrev entry : Tables
  entry =
      let a = c.args in
      tables a.identities.now a.validators.now a.deposits.now a.partials.now a.consolidations.now

  abbrev credited : Tables
  credited =
      let f = c.process_pending_balance_deposits-credited in
      tables c.args.identities.now f.new.validators f.new.deposits c.args.partials.now c.args.consolidations.now

  credited_sizes : SameSizes credited entry
  credited_sizes =
      let f = c.process_pending_balance_deposits-credited in record {
        identities = refl;
        validators = f.auto.validators;
        deposits = f.auto.deposits;
        partials = refl;
        consolidations = refl;
      }

  sound : SoundBooks (settings_of c.args.sound.settings)
      (books_of c.process_pending_balance_deposits-credited.result credited)
  sound =
      let r = c.requires in
      let f = c.process_pending_balance_deposits-credited in
      books_sound (settings_of c.args.sound.settings) _
      (credited_sound (settings_of c.args.sound.settings) c.args.scalars entry c.args.sound.sound r.room
      r.books_are_sound
      r.queue_fits f.result credited f.ensures credited_sizes)

-- and after the consolidations
abbrev consolidated : After-process_pending_consolidations-consolidated → Tables
consolidated c =
    let g = c.process_pending_consolidations-consolidated in
    tables g.new.identities g.new.validators g.new.deposits c.args.partials.now g.new.consolidations

pub process_pending_consolidations-consolidated-requires : goal.process_pending_consolidations-consolidated-requires
process_pending_consolidations-consolidated-requires c =
    let at = goal.at.process_pending_consolidations-consolidated-requires c in
    let d = at.After-process_pending_balance_deposits-credited in
    let a = c.args in
    let r = c.requires in
    let f = c.process_pending_balance_deposits-credited in
    let S = settings_of a.sound.settings in
    record {
      room = credited_room S a.scalars (entry d) c.args.sound.sound r.room r.books_are_sound r.queue_fits
          f.result (credited d) f.ensures (credited_sizes d);
      books_are_sound = credited_sound S a.scalars (entry d) c.args.sound.sound r.room r.books_are_sound
          r.queue_fits f.result (credited d) f.ensures (credited_sizes d);
      queue_fits = credited_fits S a.scalars (entry d) c.args.sound.sound r.room r.books_are_sound r.queue_fits
          f.result (credited d) f.ensures (credited_sizes d);
    }

pub process_effective_balance_updates-updated-requires : goal.process_effective_balance_updates-updated-requires
process_effective_balance_updates-updated-requires c =
    let at = goal.at.process_effective_balance_updates-updated-requires c in
    let d = at.After-process_pending_balance_deposits-credited in
    let a = c.args in
    let r = c.requires in
    let f = c.process_pending_balance_deposits-credited in
    let g = c.process_pending_consolidations-consolidated in
    consolidated_ready (settings_of a.sound.settings) a.scalars (entry d) c.args.sound.sound r.room r.books_are_sound
    r.queue_fits f.result (credited d) f.ensures (credited_sizes d) g.result
    (consolidated at.After-process_pending_consolidations-consolidated) g.ensures
    (record {
      identities = g.auto.identities;
      validators = g.auto.validators;
      deposits = g.auto.deposits;
      partials = refl;
      consolidations = g.auto.consolidations;
    })

pub overflow_add-epoch : goal.overflow_add-epoch
overflow_add-epoch c =
    let at = goal.at.overflow_add-epoch c in
    let d = at.After-process_pending_balance_deposits-credited in
    let a = c.args in
    let f = c.process_pending_balance_deposits-credited in
    let g = c.process_pending_consolidations-consolidated in
    let h = c.process_effective_balance_updates-updated in
    omega (
      arith,
      epoch_kept (settings_of a.sound.settings) a.scalars f.result g.result h.result (entry d) (credited d)
          (consolidated at.After-process_pending_consolidations-consolidated) _ (sound d)
          f.ensures refl g.ensures (h.ensures.stepped _ _ _) h.ensures.scalars_kept,
      c.requires.epoch_fits,
    )

pub returns : goal.returns
returns c =
    let at = goal.at.returns c in
    let d = at.After-process_pending_balance_deposits-credited in
    let a = c.args in
    let f = c.process_pending_balance_deposits-credited in
    let g = c.process_pending_consolidations-consolidated in
    let h = c.process_effective_balance_updates-updated in
    turned (settings_of a.sound.settings) a.scalars f.result g.result h.result (entry d) (credited d)
    (consolidated at.After-process_pending_consolidations-consolidated) _ (sound d)
    f.ensures refl g.ensures (h.ensures.stepped _ _ _) h.ensures.scalars_kept
