use Rattle.std.proofs.Common.{rules}
use Rattle.file_stores.specs.Laws.{signature_put}
use Rattle.file_stores.proofs.put_signature.Goals as goal

pub returns : goal.returns
returns c = search (signature_put, rules)
