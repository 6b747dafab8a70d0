use Rattle.std.proofs.Common.{ap, not, [], rules}
use Rattle.slices.specs.Exported.{fit_room, exported_framed}
use Rattle.solarbasil.proofs.penalty.solarbasil_penalty.Goals as goal

pub exported-requires-clause-room : goal.exported-requires-clause-room
exported-requires-clause-room c = λ e. fit_room c.args.scalars.now [] c.scalars_fit-fits.ensures (ap not e)

pub returns : goal.returns
returns c =
    let done = c.exported.ensures in
    exported_framed c.scalars_fit-fits.ensures
    (λ e. let q = done.fit e in (q.0, search rules, q.2, q.3))
    (λ e. let q = done.unfit e in (q.0, q.1, search rules))
