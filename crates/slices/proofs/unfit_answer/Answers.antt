use mathlib.Core.Path.{sym, ◌∙◌}
use Rattle.slices.specs.Exported.{sound_unfit, unsound_unfit}
use Rattle.slices.proofs.unfit_answer.Goals as goal

pub returns-then-settings_sound : goal.returns-then-settings_sound
returns-then-settings_sound c =
    c.number.ensures ∙ sound_unfit _ (sym c.settings_sound.ensures ∙ c.if-settings_sound.true)

pub returns-else-settings_sound : goal.returns-else-settings_sound
returns-else-settings_sound c =
    c.number-else-settings_sound.ensures ∙ unsound_unfit _ (sym c.settings_sound.ensures ∙ c.if-settings_sound.false)
