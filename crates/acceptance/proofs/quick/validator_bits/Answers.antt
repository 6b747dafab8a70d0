use Rattle.std.proofs.Common.{arith}
use lib.Bits.{bit_or}
use Rattle.acceptance.specs.Quick.{or_at_least, epoch_passes, effective_passes}
use Rattle.acceptance.proofs.quick.validator_bits.Goals as goal

pub returns : goal.returns
returns c small =
    let effective = c.effective_balance_at-effective_balance.result.0 in
    let left = c.wrapping_sub_u64-left.result in
    let eligibility = c.wrapping_add_u64-eligibility.result in
    let activation = c.wrapping_add_u64-activation.result in
    let exit = c.wrapping_add_u64-exit.result in
    let withdrawable = c.wrapping_add_u64-withdrawable.result in
    let one = or_at_least effective left in
    let two = or_at_least (bit_or effective left) eligibility in
    let three = or_at_least (bit_or (bit_or effective left) eligibility) activation in
    let four = or_at_least (bit_or (bit_or (bit_or effective left) eligibility) activation) exit in
    let five =
    or_at_least (bit_or (bit_or (bit_or (bit_or effective left) eligibility) activation) exit) withdrawable in
    record {
      effective =
          rw c.effective_balance_at-effective_balance.ensures at
          (effective_passes _ effective left c.wrapping_sub_u64-left.ensures.value (omega arith) (omega arith));
      eligibility =
          let read = c.activation_eligibility_epoch_at in
          rw read.ensures at
          (epoch_passes read.result.0 read.type_inv.1.1.0.1
          (omega (arith, c.wrapping_add_u64-eligibility.ensures.value)));
      activation =
          let read = c.activation_epoch_at in
          rw read.ensures at
          (epoch_passes read.result.0 read.type_inv.1.1.0.1
          (omega (arith, c.wrapping_add_u64-activation.ensures.value)));
      exit =
          let read = c.exit_epoch_at in
          rw read.ensures at
          (epoch_passes read.result.0 read.type_inv.1.1.0.1
          (omega (arith, c.wrapping_add_u64-exit.ensures.value)));
      withdrawable =
          let read = c.withdrawable_epoch_at in
          rw read.ensures at
          (epoch_passes read.result.0 read.type_inv.1.1.0.1
          (omega (arith, c.wrapping_add_u64-withdrawable.ensures.value)));
    }
