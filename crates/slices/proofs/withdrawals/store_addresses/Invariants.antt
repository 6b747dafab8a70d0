use Rattle.std.proofs.Common.{◌*◌}
use Rattle.slices.specs.Withdrawals.{address_byte}
use Rattle.slices.specs.Front.{Front}
use Rattle.slices.proofs.withdrawals.store_addresses.Given as goal

abbrev pub invariant-loop-i : goal.invariant-loop-i
invariant-loop-i l = Front l.initial.addresses (address_byte l.w-items) (20 * l.i) l.addresses
