use Rattle.file_stores.specs.Laws.{number_put}
use Rattle.std.proofs.Common.{rules}
use Rattle.file_stores.proofs.put_number.Goals as goal

pub returns : goal.returns
returns c = search (number_put, rules)
