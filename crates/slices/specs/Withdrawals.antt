-- Withdrawals as slices: three numbers each (index, validator, amount), and twenty bytes each for their addresses.
use Rattle.std.specs.Prelude.{List, [], ◌++◌, ℕ, zero, suc, ◌+◌, ◌*◌, ◌/◌, ◌%◌, get_or, drop}
use Rattle.tables.specs.Rows.{rows}
use Rattle.expected_withdrawals.specs.declared.Withdrawal.{Withdrawal}

-- ---- read

abbrev pub address_at : List ℕ → ℕ → List ℕ
address_at addresses i = rows 20 (λ k. get_or addresses (20 * i + k) 0)

abbrev pub withdrawal_at : List ℕ → List ℕ → ℕ → Withdrawal
withdrawal_at records addresses i = record {
  index = record { 0 = get_or records (3 * i) 0 };
  validator_index = record { 0 = get_or records (3 * i + 1) 0 };
  address = address_at addresses i;
  amount = record { 0 = get_or records (3 * i + 2) 0 };
}

-- the first sixteen; what is missing reads as 0
abbrev pub withdrawals_in : List ℕ → List ℕ → List Withdrawal
withdrawals_in records addresses = rows 16 (withdrawal_at records addresses)

-- ---- stored

-- withdrawal i; the last value stands for one past the sixteen, which is never looked at
abbrev pub record_of : List Withdrawal → ℕ → Withdrawal
record_of ws i = get_or ws i record {
  index = record { 0 = 0 };
  validator_index = record { 0 = 0 };
  address = [];
  amount = record { 0 = 0 };
}

-- number k of a withdrawal
abbrev pub part : Withdrawal → ℕ → ℕ
part w zero = w.index.0
part w (suc zero) = w.validator_index.0
part w (suc (suc k)) = w.amount.0

-- number q of all
abbrev pub record_number : List Withdrawal → ℕ → ℕ
record_number ws q = part (record_of ws (q / 3)) (q % 3)

-- byte q of all addresses
abbrev pub address_byte : List Withdrawal → ℕ → ℕ
address_byte ws q = get_or (record_of ws (q / 20)).address (q % 20) 0

-- the forty-eight numbers of sixteen withdrawals
abbrev pub record_numbers : List Withdrawal → List ℕ
record_numbers ws = rows 48 (record_number ws)

-- the 320 bytes of their addresses
abbrev pub address_bytes : List Withdrawal → List ℕ
address_bytes ws = rows 320 (address_byte ws)

abbrev pub with_records : List ℕ → List Withdrawal → List ℕ
with_records old ws = record_numbers ws ++ drop 48 old

abbrev pub with_addresses : List ℕ → List Withdrawal → List ℕ
with_addresses old ws = address_bytes ws ++ drop 320 old
