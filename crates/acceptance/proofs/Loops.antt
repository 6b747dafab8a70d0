-- The laws of a loop that tests every record, as a set that its function names.
use Rattle.tables.specs.Tests.{every_more, every_stop, every_done}

pub ruleset every_loop = (every_more, every_stop, every_done)
