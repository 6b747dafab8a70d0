use Rattle.std.proofs.Common.{ap, not, [], ◌∷◌, ◌/◌, leb, length, rules}
use Rattle.rules.specs.Calls.{withdrawals}
use Rattle.expected_withdrawals.specs.Expected.{handed_list}
use Rattle.records.specs.Books.{called_as}
use Rattle.slices.specs.Exported.{fit_room, exported_framed}
use Rattle.solarbasil.proofs.payments.solarbasil_process_withdrawals.Goals as goal

pub exported-requires-clause-room : goal.exported-requires-clause-room
exported-requires-clause-room c =
    λ e. fit_room c.args.scalars.now
    (leb c.args.count (length c.args.records.now / 3) ∷ leb c.args.count (length c.args.addresses.now / 20) ∷ [])
    c.handed_fit-fits.ensures (ap not e)

pub returns : goal.returns
returns c =
    let done = c.exported.ensures in
    exported_framed c.handed_fit-fits.ensures
    (λ e. let q = done.fit e in (
      q.0,
      called_as (ap (λ l. withdrawals (handed_list l c.args.count)) c.withdrawals_from-list.ensures)
          (search rules),
      q.2,
      q.3,
    ))
    (λ e. let q = done.unfit e in (q.0, q.1, search rules))
