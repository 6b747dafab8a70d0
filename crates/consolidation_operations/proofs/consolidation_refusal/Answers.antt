use mathlib.Core.Path.{ap}
use mathlib.Core.Bool.{not}
use borrow.Author.Tests.{lt-ltb, le-ltb, le-leb, lt-leb, eq-eqb, ne_eqb}
use Rattle.primitives.specs.Settings.{settings_of}
use Rattle.records.specs.Plain.{plain_validator}
use Rattle.records.specs.Books.{tables}
use Rattle.call_answers.specs.Tests.{fails, passes}
use Rattle.consolidation_operations.specs.Consolidations.{index_refusal, pair_known, churn_known, consolidation_tests}
use Rattle.consolidation_operations.proofs.consolidation_refusal.Goals as goal

pub returns-then-settings-scalars : goal.returns-then-settings-scalars
unfolding index_refusal
returns-then-settings-scalars c =
    λ ds ps cs.
    let a = c.args in
    let t = tables a.books.now.identities.now a.books.now.validators.now ds ps cs in
    consolidation_tests (settings_of a.settings) a.books.now.scalars t a.source.0 a.target.0 a.epoch.0 a.valid a.churn.0
    (churn_known (settings_of a.settings) a.books.now ds ps cs c.requires.churn_is)
    (fails _ _ (le-leb _ _ c.if-settings-scalars.true))

pub returns-then-churn-settings : goal.returns-then-churn-settings
unfolding index_refusal
returns-then-churn-settings c =
    λ ds ps cs.
    let a = c.args in
    let t = tables a.books.now.identities.now a.books.now.validators.now ds ps cs in
    consolidation_tests (settings_of a.settings) a.books.now.scalars t a.source.0 a.target.0 a.epoch.0 a.valid a.churn.0
    (churn_known (settings_of a.settings) a.books.now ds ps cs c.requires.churn_is)
    (passes _ _ (lt-leb _ _ c.if-settings-scalars.false)
    (fails _ _ (le-leb _ _ c.if-churn-settings.true)))

pub returns-then-source-target : goal.returns-then-source-target
unfolding index_refusal
returns-then-source-target c =
    λ ds ps cs.
    let a = c.args in
    let t = tables a.books.now.identities.now a.books.now.validators.now ds ps cs in
    consolidation_tests (settings_of a.settings) a.books.now.scalars t a.source.0 a.target.0 a.epoch.0 a.valid a.churn.0
    (churn_known (settings_of a.settings) a.books.now ds ps cs c.requires.churn_is)
    (passes _ _ (lt-leb _ _ c.if-settings-scalars.false)
    (passes _ _ (lt-leb _ _ c.if-churn-settings.false)
    (fails _ _ (eq-eqb _ _ c.if-source-target.true))))

pub returns-then-scalars-source : goal.returns-then-scalars-source
unfolding index_refusal
returns-then-scalars-source c =
    λ ds ps cs.
    let a = c.args in
    let t = tables a.books.now.identities.now a.books.now.validators.now ds ps cs in
    consolidation_tests (settings_of a.settings) a.books.now.scalars t a.source.0 a.target.0 a.epoch.0 a.valid a.churn.0
    (churn_known (settings_of a.settings) a.books.now ds ps cs c.requires.churn_is)
    (passes _ _ (lt-leb _ _ c.if-settings-scalars.false)
    (passes _ _ (lt-leb _ _ c.if-churn-settings.false)
    (passes _ _ (ne_eqb _ _ c.if-source-target.false)
    (fails _ _ (ap not (le-ltb _ _ c.if-scalars-source.true))))))

pub returns-then-scalars-target : goal.returns-then-scalars-target
unfolding index_refusal
returns-then-scalars-target c =
    λ ds ps cs.
    let a = c.args in
    let t = tables a.books.now.identities.now a.books.now.validators.now ds ps cs in
    consolidation_tests (settings_of a.settings) a.books.now.scalars t a.source.0 a.target.0 a.epoch.0 a.valid a.churn.0
    (churn_known (settings_of a.settings) a.books.now ds ps cs c.requires.churn_is)
    (passes _ _ (lt-leb _ _ c.if-settings-scalars.false)
    (passes _ _ (lt-leb _ _ c.if-churn-settings.false)
    (passes _ _ (ne_eqb _ _ c.if-source-target.false)
    (passes _ _ (ap not (lt-ltb _ _ c.if-scalars-source.false))
    (fails _ _ (ap not (le-ltb _ _ c.if-scalars-target.true)))))))

pub returns : goal.returns
unfolding index_refusal
returns c =
    λ ds ps cs.
    let a = c.args in
    let t = tables a.books.now.identities.now a.books.now.validators.now ds ps cs in
    consolidation_tests (settings_of a.settings) a.books.now.scalars t a.source.0 a.target.0 a.epoch.0 a.valid a.churn.0
    (churn_known (settings_of a.settings) a.books.now ds ps cs c.requires.churn_is)
    (passes _ _ (lt-leb _ _ c.if-settings-scalars.false)
    (passes _ _ (lt-leb _ _ c.if-churn-settings.false)
    (passes _ _ (ne_eqb _ _ c.if-source-target.false)
    (passes _ _ (ap not (lt-ltb _ _ c.if-scalars-source.false))
    (passes _ _ (ap not (lt-ltb _ _ c.if-scalars-target.false))
    (pair_known (settings_of a.settings) a.books.now.scalars t a.source.0 a.target.0 a.epoch.0 a.valid
    (plain_validator c.validator_at-source_validator.result)
    (plain_validator c.validator_at-target_validator.result) c.if-scalars-source.false c.if-scalars-target.false
    c.validator_at-source_validator.ensures c.validator_at-target_validator.ensures c.pair_refusal.ensures))))))
