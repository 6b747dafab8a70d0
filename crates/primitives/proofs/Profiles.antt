-- The constant rows of chain values are sound, by one computed test.
use Rattle.std.specs.Prelude.{◌≡◌, refl, true, ℕ}
use Rattle.std.proofs.Common.{arith}
use Rattle.lists.specs.Base.{all, every}
use Rattle.lists.specs.Laws.{every_at}
use Rattle.rules.specs.Profiles.{mainnet_row}
use Rattle.rules.specs.Acceptance.{sound_settings}
use Rattle.rule_laws.specs.Accepted.{Limit}
use Rattle.primitives.specs.Settings.{settings_of}
use Rattle.primitives.specs.Profiles.{row_settings, profiles, row_sound, row_settings_sound}

pub profiles_sound : every row_sound profiles ≡ true
unfolding sound_settings all
profiles_sound = refl

pub mainnet_sound : (registry deposits partials consolidations : ℕ)
    → Limit registry → Limit deposits → Limit partials → Limit consolidations
    → sound_settings (settings_of (row_settings mainnet_row registry deposits partials consolidations)) ≡ true
mainnet_sound = row_settings_sound mainnet_row (every_at row_sound 0 profiles mainnet_row (omega arith) profiles_sound)
