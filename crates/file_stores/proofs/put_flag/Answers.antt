use Rattle.std.proofs.Common.{rules}
use Rattle.file_stores.specs.Laws.{flag_put}
use Rattle.file_stores.proofs.put_flag.Goals as goal

pub returns : goal.returns
returns c = search (flag_put, rules)
