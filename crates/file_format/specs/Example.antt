-- The scope text's example as files, computed by the checker; and files in which every field has another value. Words
-- are in hexadecimal: the first digit is the kind.
use Rattle.std.specs.Prelude.{true, false, List, [], ◌∷◌, ℕ, zero, suc, ◌-◌, ◌*◌, ◌^◌}
use Rattle.lists.specs.Base.{when◌then◌else◌}
use Rattle.rules.specs.Types.{Settings, Validator, Books}
use Rattle.rules.specs.Calls.{Operation, reward, penalty, deposit_receipt, voluntary_exit, withdrawal_request}
use Rattle.rules.specs.Calls.{consolidation, turn, withdrawals}
use Rattle.rules.specs.Examples.{G, validator, deposit, partial, pending, books}
use Rattle.file_format.specs.Fields.{number, field, flag, many}
use Rattle.file_format.specs.Books as file
use Rattle.file_format.specs.Calls as calls
use Rattle.file_format.specs.File.{write_file, file_ok, read_file}

unfoldable pub opened : ℕ
unfolding
    when◌then◌else◌ number field flag many file.settings file.validator file.deposit file.partial file.consolidation
    file.books file.books_format calls.withdrawal calls.call calls.calls_format write_file file_ok read_file
opened = 0

-- ---- the example: a turn, then twice an exit

abbrev pub opening : Books
opening = books (validator 1 1 (32 * G) (40 * G) ∷ []) (deposit 0 G ∷ []) [] []

abbrev pub opening_words : List ℕ
opening_words =
    -- head
    0x10000001
    -- settings: 32 G, 2048 G, 1 G, 128 G, 256 G
    ∷ 0x33594000 ∷ 0x40000077 ∷ 0x50000000 ∷ 0x36500000 ∷ 0x40001dcd ∷ 0x50000000
    ∷ 0x3b9aca00 ∷ 0x40000003 ∷ 0x50000000 ∷ 0x3d650000 ∷ 0x400001dc ∷ 0x50000000
    ∷ 0x3aca0000 ∷ 0x400003b9 ∷ 0x50000000
    -- 65536, 256, 256, 4, 4, 1, 5, 8, 16, 16384
    ∷ 0x30010000 ∷ 0x40000000 ∷ 0x50000000 ∷ 0x30000100 ∷ 0x40000000 ∷ 0x50000000
    ∷ 0x30000100 ∷ 0x40000000 ∷ 0x50000000 ∷ 0x30000004 ∷ 0x40000000 ∷ 0x50000000
    ∷ 0x30000004 ∷ 0x40000000 ∷ 0x50000000 ∷ 0x30000001 ∷ 0x40000000 ∷ 0x50000000
    ∷ 0x30000005 ∷ 0x40000000 ∷ 0x50000000 ∷ 0x30000008 ∷ 0x40000000 ∷ 0x50000000
    ∷ 0x30000010 ∷ 0x40000000 ∷ 0x50000000 ∷ 0x30004000 ∷ 0x40000000 ∷ 0x50000000
    -- limits
    ∷ 0x30000100 ∷ 0x40000000 ∷ 0x50000000 ∷ 0x30000100 ∷ 0x40000000 ∷ 0x50000000
    ∷ 0x30000100 ∷ 0x40000000 ∷ 0x50000000 ∷ 0x30000100 ∷ 0x40000000 ∷ 0x50000000
    -- scalars: epoch 1000, the others 0
    ∷ 0x300003e8 ∷ 0x40000000 ∷ 0x50000000 ∷ 0x30000000 ∷ 0x40000000 ∷ 0x50000000
    ∷ 0x30000000 ∷ 0x40000000 ∷ 0x50000000 ∷ 0x30000000 ∷ 0x40000000 ∷ 0x50000000
    ∷ 0x30000000 ∷ 0x40000000 ∷ 0x50000000 ∷ 0x30000000 ∷ 0x40000000 ∷ 0x50000000
    ∷ 0x30000000 ∷ 0x40000000 ∷ 0x50000000 ∷ 0x30000000 ∷ 0x40000000 ∷ 0x50000000
    ∷ 0x30000000 ∷ 0x40000000 ∷ 0x50000000
    -- one validator: key
    ∷ 0x20000001 ∷ 0x60010000 ∷ 0x60000000 ∷ 0x60000000 ∷ 0x60000000 ∷ 0x60000000
    ∷ 0x60000000 ∷ 0x60000000 ∷ 0x60000000 ∷ 0x60000000 ∷ 0x60000000 ∷ 0x60000000
    ∷ 0x60000000 ∷ 0x60000000 ∷ 0x60000000 ∷ 0x60000000 ∷ 0x60000000
    -- credentials, their last word with one byte of padding
    ∷ 0x60010000 ∷ 0x60000000 ∷ 0x60000000 ∷ 0x60000000 ∷ 0x60000000 ∷ 0x60000000
    ∷ 0x60000000 ∷ 0x60000000 ∷ 0x60000000 ∷ 0x60000000 ∷ 0x60000000
    -- not slashed
    ∷ 0x70000000
    -- effective 32 G, eligibility and activation 0
    ∷ 0x33594000 ∷ 0x40000077 ∷ 0x50000000 ∷ 0x30000000 ∷ 0x40000000 ∷ 0x50000000
    ∷ 0x30000000 ∷ 0x40000000 ∷ 0x50000000
    -- exit and withdrawable FAR, balance 40 G
    ∷ 0x3fffffff ∷ 0x4fffffff ∷ 0x500000ff ∷ 0x3fffffff ∷ 0x4fffffff ∷ 0x500000ff
    ∷ 0x302f9000 ∷ 0x40000095 ∷ 0x50000000
    -- one deposit: validator 0, 1 G
    ∷ 0x20000001 ∷ 0x30000000 ∷ 0x40000000 ∷ 0x50000000 ∷ 0x3b9aca00 ∷ 0x40000003
    ∷ 0x50000000
    -- no partials, no consolidations
    ∷ 0x20000000 ∷ 0x20000000
    -- the end
    ∷ 0x8c9a14f6
    ∷ []

abbrev pub example_calls : List Operation
example_calls = turn ∷ voluntary_exit 0 1000 true ∷ voluntary_exit 0 1000 true ∷ []

abbrev pub calls_words : List ℕ
calls_words =
    -- head, three calls
    0x10000002 ∷ 0x20000003
    -- turn
    ∷ 0x90000007
    -- exit of validator 0 at epoch 1000, signature good
    ∷ 0x90000004 ∷ 0x30000000 ∷ 0x40000000 ∷ 0x50000000 ∷ 0x300003e8 ∷ 0x40000000
    ∷ 0x50000000 ∷ 0x70000001
    -- exit of validator 0 at epoch 1000, signature good
    ∷ 0x90000004 ∷ 0x30000000 ∷ 0x40000000 ∷ 0x50000000 ∷ 0x300003e8 ∷ 0x40000000
    ∷ 0x50000000 ∷ 0x70000001
    -- the end
    ∷ 0x800007e6
    ∷ []

-- ---- every field another value

-- start, start + 1, … : n of them
abbrev pub from : (start n : ℕ) → List ℕ
from start zero = []
from start (suc n) = start ∷ from (suc start) n

abbrev pub key : List ℕ
key = from 1 48

abbrev pub credentials : List ℕ
credentials = from 49 32

abbrev pub address : List ℕ
address = from 81 20

abbrev pub varied_settings : Settings
varied_settings = record {
  min_activation_balance = 1;
  max_effective_balance_electra = 2;
  effective_balance_increment = 3;
  min_per_epoch_churn_limit_electra = 4;
  max_per_epoch_activation_exit_churn_limit = 5;
  churn_limit_quotient = 6;
  shard_committee_period = 7;
  min_validator_withdrawability_delay = 8;
  max_seed_lookahead = 9;
  hysteresis_quotient = 10;
  hysteresis_downward_multiplier = 11;
  hysteresis_upward_multiplier = 12;
  max_pending_partials_per_withdrawals_sweep = 13;
  max_withdrawals_per_payload = 14;
  max_validators_per_withdrawals_sweep = 15;
  validator_registry_limit = 16;
  pending_balance_deposits_limit = 17;
  pending_partial_withdrawals_limit = 18;
  pending_consolidations_limit = 19;
}

abbrev pub varied_validator : Validator
varied_validator = record {
  public_key = key;
  withdrawal_credentials = credentials;
  slashed = 1;
  effective_balance = 2 ^ 64 - 1;
  activation_eligibility_epoch = 2 ^ 64 - 2;
  activation_epoch = 2 ^ 64 - 3;
  exit_epoch = 2 ^ 64 - 4;
  withdrawable_epoch = 2 ^ 64 - 5;
  balance = 2 ^ 64 - 6;
}

abbrev pub varied_books : Books
varied_books = record {
  epoch = 20;
  next_withdrawal_index = 21;
  next_withdrawal_validator_index = 22;
  deposit_receipts_start_index = 23;
  deposit_balance_to_consume = 24;
  exit_balance_to_consume = 25;
  earliest_exit_epoch = 26;
  consolidation_balance_to_consume = 27;
  earliest_consolidation_epoch = 28;
  validators = varied_validator ∷ [];
  pending_balance_deposits = deposit 29 30 ∷ [];
  pending_partial_withdrawals = partial 31 32 33 ∷ [];
  pending_consolidations = pending 34 35 ∷ [];
}

abbrev pub varied_words : List ℕ
varied_words =
    -- head
    0x10000001
    -- settings 1 to 19
    ∷ 0x30000001 ∷ 0x40000000 ∷ 0x50000000 ∷ 0x30000002 ∷ 0x40000000 ∷ 0x50000000
    ∷ 0x30000003 ∷ 0x40000000 ∷ 0x50000000 ∷ 0x30000004 ∷ 0x40000000 ∷ 0x50000000
    ∷ 0x30000005 ∷ 0x40000000 ∷ 0x50000000 ∷ 0x30000006 ∷ 0x40000000 ∷ 0x50000000
    ∷ 0x30000007 ∷ 0x40000000 ∷ 0x50000000 ∷ 0x30000008 ∷ 0x40000000 ∷ 0x50000000
    ∷ 0x30000009 ∷ 0x40000000 ∷ 0x50000000 ∷ 0x3000000a ∷ 0x40000000 ∷ 0x50000000
    ∷ 0x3000000b ∷ 0x40000000 ∷ 0x50000000 ∷ 0x3000000c ∷ 0x40000000 ∷ 0x50000000
    ∷ 0x3000000d ∷ 0x40000000 ∷ 0x50000000 ∷ 0x3000000e ∷ 0x40000000 ∷ 0x50000000
    ∷ 0x3000000f ∷ 0x40000000 ∷ 0x50000000 ∷ 0x30000010 ∷ 0x40000000 ∷ 0x50000000
    ∷ 0x30000011 ∷ 0x40000000 ∷ 0x50000000 ∷ 0x30000012 ∷ 0x40000000 ∷ 0x50000000
    ∷ 0x30000013 ∷ 0x40000000 ∷ 0x50000000
    -- scalars 20 to 28
    ∷ 0x30000014 ∷ 0x40000000 ∷ 0x50000000 ∷ 0x30000015 ∷ 0x40000000 ∷ 0x50000000
    ∷ 0x30000016 ∷ 0x40000000 ∷ 0x50000000 ∷ 0x30000017 ∷ 0x40000000 ∷ 0x50000000
    ∷ 0x30000018 ∷ 0x40000000 ∷ 0x50000000 ∷ 0x30000019 ∷ 0x40000000 ∷ 0x50000000
    ∷ 0x3000001a ∷ 0x40000000 ∷ 0x50000000 ∷ 0x3000001b ∷ 0x40000000 ∷ 0x50000000
    ∷ 0x3000001c ∷ 0x40000000 ∷ 0x50000000
    -- one validator: key of the bytes 1 to 48
    ∷ 0x20000001 ∷ 0x60010203 ∷ 0x60040506 ∷ 0x60070809 ∷ 0x600a0b0c ∷ 0x600d0e0f
    ∷ 0x60101112 ∷ 0x60131415 ∷ 0x60161718 ∷ 0x60191a1b ∷ 0x601c1d1e ∷ 0x601f2021
    ∷ 0x60222324 ∷ 0x60252627 ∷ 0x6028292a ∷ 0x602b2c2d ∷ 0x602e2f30
    -- credentials of the bytes 49 to 80
    ∷ 0x60313233 ∷ 0x60343536 ∷ 0x60373839 ∷ 0x603a3b3c ∷ 0x603d3e3f ∷ 0x60404142
    ∷ 0x60434445 ∷ 0x60464748 ∷ 0x60494a4b ∷ 0x604c4d4e ∷ 0x604f5000
    -- slashed, numbers 2^64 - 1 to 2^64 - 6
    ∷ 0x70000001 ∷ 0x3fffffff ∷ 0x4fffffff ∷ 0x500000ff ∷ 0x3ffffffe ∷ 0x4fffffff
    ∷ 0x500000ff ∷ 0x3ffffffd ∷ 0x4fffffff ∷ 0x500000ff ∷ 0x3ffffffc ∷ 0x4fffffff
    ∷ 0x500000ff ∷ 0x3ffffffb ∷ 0x4fffffff ∷ 0x500000ff ∷ 0x3ffffffa ∷ 0x4fffffff
    ∷ 0x500000ff
    -- one deposit: 29, 30
    ∷ 0x20000001 ∷ 0x3000001d ∷ 0x40000000 ∷ 0x50000000 ∷ 0x3000001e ∷ 0x40000000
    ∷ 0x50000000
    -- one partial: 31, 32, 33
    ∷ 0x20000001 ∷ 0x3000001f ∷ 0x40000000 ∷ 0x50000000 ∷ 0x30000020 ∷ 0x40000000
    ∷ 0x50000000 ∷ 0x30000021 ∷ 0x40000000 ∷ 0x50000000
    -- one consolidation: 34, 35
    ∷ 0x20000001 ∷ 0x30000022 ∷ 0x40000000 ∷ 0x50000000 ∷ 0x30000023 ∷ 0x40000000
    ∷ 0x50000000
    -- the end
    ∷ 0x843c5f78
    ∷ []

-- the eight calls
abbrev pub all_calls : List Operation
all_calls =
    reward 1 2
    ∷ penalty 3 4
    ∷ deposit_receipt key credentials 5 6 false
    ∷ voluntary_exit 7 8 true
    ∷ withdrawal_request address key 9
    ∷ consolidation 10 11 12 true
    ∷ turn
    ∷ withdrawals (record { index = 13; validator_index = 14; address = address; amount = 2 ^ 64 - 1 } ∷ [])
    ∷ []

abbrev pub all_calls_words : List ℕ
all_calls_words =
    -- head, eight calls
    0x10000002 ∷ 0x20000008
    -- reward 1, 2
    ∷ 0x90000001 ∷ 0x30000001 ∷ 0x40000000 ∷ 0x50000000 ∷ 0x30000002 ∷ 0x40000000
    ∷ 0x50000000
    -- penalty 3, 4
    ∷ 0x90000002 ∷ 0x30000003 ∷ 0x40000000 ∷ 0x50000000 ∷ 0x30000004 ∷ 0x40000000
    ∷ 0x50000000
    -- receipt: key, credentials, 5, 6, bad signature
    ∷ 0x90000003 ∷ 0x60010203 ∷ 0x60040506 ∷ 0x60070809 ∷ 0x600a0b0c ∷ 0x600d0e0f
    ∷ 0x60101112 ∷ 0x60131415 ∷ 0x60161718 ∷ 0x60191a1b ∷ 0x601c1d1e ∷ 0x601f2021
    ∷ 0x60222324 ∷ 0x60252627 ∷ 0x6028292a ∷ 0x602b2c2d ∷ 0x602e2f30 ∷ 0x60313233
    ∷ 0x60343536 ∷ 0x60373839 ∷ 0x603a3b3c ∷ 0x603d3e3f ∷ 0x60404142 ∷ 0x60434445
    ∷ 0x60464748 ∷ 0x60494a4b ∷ 0x604c4d4e ∷ 0x604f5000 ∷ 0x30000005 ∷ 0x40000000
    ∷ 0x50000000 ∷ 0x30000006 ∷ 0x40000000 ∷ 0x50000000 ∷ 0x70000000
    -- exit 7, 8, good signature
    ∷ 0x90000004 ∷ 0x30000007 ∷ 0x40000000 ∷ 0x50000000 ∷ 0x30000008 ∷ 0x40000000
    ∷ 0x50000000 ∷ 0x70000001
    -- request: address of the bytes 81 to 100, key, 9
    ∷ 0x90000005 ∷ 0x60515253 ∷ 0x60545556 ∷ 0x60575859 ∷ 0x605a5b5c ∷ 0x605d5e5f
    ∷ 0x60606162 ∷ 0x60636400 ∷ 0x60010203 ∷ 0x60040506 ∷ 0x60070809 ∷ 0x600a0b0c
    ∷ 0x600d0e0f ∷ 0x60101112 ∷ 0x60131415 ∷ 0x60161718 ∷ 0x60191a1b ∷ 0x601c1d1e
    ∷ 0x601f2021 ∷ 0x60222324 ∷ 0x60252627 ∷ 0x6028292a ∷ 0x602b2c2d ∷ 0x602e2f30
    ∷ 0x30000009 ∷ 0x40000000 ∷ 0x50000000
    -- consolidation 10, 11, 12, good signature
    ∷ 0x90000006 ∷ 0x3000000a ∷ 0x40000000 ∷ 0x50000000 ∷ 0x3000000b ∷ 0x40000000
    ∷ 0x50000000 ∷ 0x3000000c ∷ 0x40000000 ∷ 0x50000000 ∷ 0x70000001
    -- turn
    ∷ 0x90000007
    -- withdrawals, one: 13, 14, address, 2^64 - 1
    ∷ 0x90000008 ∷ 0x20000001 ∷ 0x3000000d ∷ 0x40000000 ∷ 0x50000000 ∷ 0x3000000e
    ∷ 0x40000000 ∷ 0x50000000 ∷ 0x60515253 ∷ 0x60545556 ∷ 0x60575859 ∷ 0x605a5b5c
    ∷ 0x605d5e5f ∷ 0x60606162 ∷ 0x60636400 ∷ 0x3fffffff ∷ 0x4fffffff ∷ 0x500000ff
    -- the end
    ∷ 0x8aa6e08a
    ∷ []
