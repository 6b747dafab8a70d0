use mathlib.Core.Path.{sym}
use Rattle.records.specs.Books.{called_as}
use Rattle.file_format.specs.Words.{words}
use Rattle.calls_reader.specs.Plain.{turn_read}
use Rattle.file_calls.proofs.turn.Goals as goal

pub returns : goal.returns
returns c = called_as (turn_read (words c.args.call.rest.now) (sym c.requires.code)) c.turn_accepted.ensures
