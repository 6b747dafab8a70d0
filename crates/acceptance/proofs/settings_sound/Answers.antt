-- The code joins the definition's tests in its order, from the left.
use Rattle.rules.specs.Acceptance.{sound_settings}
use Rattle.acceptance.specs.Laws.{chained}
use Rattle.acceptance.proofs.settings_sound.Goals as goal

pub returns : goal.returns
unfolding sound_settings
returns c = chained _ _
