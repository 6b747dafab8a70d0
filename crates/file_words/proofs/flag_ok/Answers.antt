-- `file_words::flag_ok` meets its contract.
use Rattle.std.proofs.Common.{rules}
use Rattle.file_words.specs.Laws.{flag_judged}
use Rattle.file_words.proofs.flag_ok.Goals as goal

pub returns : goal.returns
returns c = search (flag_judged, rules)
