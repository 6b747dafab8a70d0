use Rattle.std.proofs.Common.{◌*◌}
use Rattle.slices.specs.Withdrawals.{record_number}
use Rattle.slices.specs.Front.{Front}
use Rattle.slices.proofs.withdrawals.store_records.Given as goal

abbrev pub invariant-loop-i : goal.invariant-loop-i
invariant-loop-i l = Front l.initial.records (record_number l.w-items) (3 * l.i) l.records
