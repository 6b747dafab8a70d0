-- The laws of the two walks, as sets that their functions name.
use Rattle.tables.specs.Totals.{total_step, total_end}
use Rattle.helpers.specs.Lookups.{position_more, position_found, position_none, owed_at_most}

pub ruleset position_loop = (position_more, position_found, position_none)

pub ruleset owed_loop = (total_step, total_end, owed_at_most)
