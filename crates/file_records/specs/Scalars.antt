-- The scalars of a books file, as the declared struct: the nine numbers, and the four counts.
use Rattle.std.specs.Prelude.{List, ℕ}
use Rattle.primitives.specs.declared.Scalars.{Scalars}
use Rattle.file_format.specs.Places.{number_at, count_at, deposits_place, partials_place, consolidations_place}

unfoldable pub scalars_at : List ℕ → Scalars
scalars_at ws = record {
  epoch = record { 0 = number_at ws 58 };
  next_withdrawal_index = record { 0 = number_at ws 61 };
  next_withdrawal_validator_index = record { 0 = number_at ws 64 };
  deposit_receipts_start_index = number_at ws 67;
  deposit_balance_to_consume = record { 0 = number_at ws 70 };
  exit_balance_to_consume = record { 0 = number_at ws 73 };
  earliest_exit_epoch = record { 0 = number_at ws 76 };
  consolidation_balance_to_consume = record { 0 = number_at ws 79 };
  earliest_consolidation_epoch = record { 0 = number_at ws 82 };
  validators = count_at ws 85;
  deposits = count_at ws (deposits_place ws);
  partials = count_at ws (partials_place ws);
  consolidations = count_at ws (consolidations_place ws);
}
