-- Each pass that gives none refuses the books, and the last decides; the sum is that of the first two.
use Rattle.std.proofs.Common.{◌≡◌, refl, None, sym, ◌∙◌, arith, rules}
use Rattle.primitives.specs.Settings.{settings_of}
use Rattle.records.specs.Lent.{lent_tables}
use Rattle.records.specs.Reading.{EnoughRoom, room}
use Rattle.acceptance.specs.Laws.{bounded_is, bounded_over}
use Rattle.acceptance.specs.Sound.{ScalarsWithin, within}
use Rattle.acceptance.specs.Books.{scalars_refused, balances_refused, held_refused, partials_refused}
use Rattle.acceptance.specs.Books.{consolidations_decide, held_known}
use Rattle.acceptance.specs.Held.{none_held, some_held}
use Rattle.acceptance.proofs.books_held.Goals as goal

pub returns-then-not-scalars_within : goal.returns-then-not-scalars_within
returns-then-not-scalars_within c =
    let b = c.args.books.now in
    none_held _ _
    (scalars_refused (settings_of c.args.settings) b.scalars (lent_tables b)
    (sym c.scalars_within.ensures ∙ c.if-not-scalars_within.true))

pub validators_sum-requires : goal.validators_sum-requires
validators_sum-requires c =
    let b = c.args.books.now in
    let counts : ScalarsWithin (settings_of c.args.settings) b.scalars =
    within _ _ (sym c.scalars_within.ensures ∙ c.if-not-scalars_within.false) in
    let space : EnoughRoom (settings_of c.args.settings) (lent_tables b) = room _ _ c.requires in
    omega (arith, counts, space)

pub returns-in_err-balances : goal.returns-in_err-balances
returns-in_err-balances c =
    let e : c.from_residual.result ≡ None = search rules in
    let b = c.args.books.now in
    rw e (none_held _ _
    (balances_refused (settings_of c.args.settings) b.scalars (lent_tables b) _ refl
    (bounded_over (c.in_err-balances.ensures b.identities.now))))

pub tested_sum-requires : goal.tested_sum-requires
tested_sum-requires c =
    let b = c.args.books.now in
    let counts : ScalarsWithin (settings_of c.args.settings) b.scalars =
    within _ _ (sym c.scalars_within.ensures ∙ c.if-not-scalars_within.false) in
    let space : EnoughRoom (settings_of c.args.settings) (lent_tables b) = room _ _ c.requires in
    ((bounded_is (c.in_ok-balances.ensures b.identities.now)).1, omega (arith, counts, space))

pub returns-in_err-held : goal.returns-in_err-held
returns-in_err-held c =
    let e : c.from_residual-in_err-held.result ≡ None = search rules in
    let b = c.args.books.now in
    rw e (none_held _ _
    (held_refused (settings_of c.args.settings) b.scalars (lent_tables b) _ _
    (bounded_is (c.in_ok-balances.ensures b.identities.now)).0 refl (bounded_over c.in_err-held.ensures)))

pub tested_sum-requires-2 : goal.tested_sum-requires-2
tested_sum-requires-2 c =
    let b = c.args.books.now in
    let counts : ScalarsWithin (settings_of c.args.settings) b.scalars =
    within _ _ (sym c.scalars_within.ensures ∙ c.if-not-scalars_within.false) in
    let space : EnoughRoom (settings_of c.args.settings) (lent_tables b) = room _ _ c.requires in
    (omega arith, omega (arith, counts, space))

pub returns-in_err-tested_sum : goal.returns-in_err-tested_sum
returns-in_err-tested_sum c =
    let e : c.from_residual-in_err-tested_sum.result ≡ None = search rules in
    let b = c.args.books.now in
    rw e (none_held _ _
    (partials_refused (settings_of c.args.settings) b.scalars (lent_tables b) _ refl
    (bounded_over c.in_err-tested_sum.ensures)))

pub consolidations_in-requires : goal.consolidations_in-requires
consolidations_in-requires c =
    let b = c.args.books.now in
    let counts : ScalarsWithin (settings_of c.args.settings) b.scalars =
    within _ _ (sym c.scalars_within.ensures ∙ c.if-not-scalars_within.false) in
    let space : EnoughRoom (settings_of c.args.settings) (lent_tables b) = room _ _ c.requires in
    omega (arith, counts, space)

pub returns-then-not-consolidations_in : goal.returns-then-not-consolidations_in
returns-then-not-consolidations_in c =
    let b = c.args.books.now in
    let v = bounded_is (c.in_ok-balances.ensures b.identities.now) in
    let d = bounded_is c.in_ok-held.ensures in
    let p = bounded_is c.in_ok-tested_sum.ensures in
    none_held _ _
    (sym c.if-not-consolidations_in.true
    ∙ consolidations_decide (settings_of c.args.settings) b.scalars (lent_tables b) _ _ _ _
    (sym c.scalars_within.ensures ∙ c.if-not-scalars_within.false) v.0 v.1 d.0 d.1 p.0 p.1
    c.consolidations_in.ensures)

pub returns : goal.returns
returns c =
    let b = c.args.books.now in
    let S = settings_of c.args.settings in
    let v = bounded_is (c.in_ok-balances.ensures b.identities.now) in
    let d = bounded_is c.in_ok-held.ensures in
    let p = bounded_is c.in_ok-tested_sum.ensures in
    some_held _ _
    (sym c.if-not-consolidations_in.false
    ∙ consolidations_decide S b.scalars (lent_tables b) _ _ _ _
    (sym c.scalars_within.ensures ∙ c.if-not-scalars_within.false) v.0 v.1 d.0 d.1 p.0 p.1
    c.consolidations_in.ensures)
    (held_known S b.scalars (lent_tables b) _ _ v.0 v.1 d.0 d.1)
