-- Keys of 48 bytes and credentials of 32, from a lent table of bytes.
use Rattle.std.specs.Prelude.{◌≡◌, true, List, ℕ, ◌+◌, ◌*◌, ◌≤◌, ◌<◌, ◌^◌, length, take, drop}
use Rattle.std.proofs.Common.{arith, length-take, length-drop, eq-eqb, lt-ltb}
use Rattle.lists.specs.Base.{every}
use Rattle.lists.specs.Laws.{join, every_drop, every_take}
use Rattle.tables.specs.Tests.{every_rows}
use Rattle.primitives.specs.declared.Scalars.{Scalars}
use Rattle.records.specs.Layout.{validator_at, public_key_at, withdrawal_credentials_at, identities_fit}
use Rattle.records.specs.Books.{Tables, books_of}
use Rattle.records.specs.Stores.{key_read, credentials_read}
use Rattle.file_format.specs.Words.{is_byte}
use Rattle.file_format.specs.Fields.{is_field}
use Rattle.file_format.specs.Books.{bytes_sized, sized}
use Rattle.books_writer.specs.Written.{Ready}

-- a part of a table of bytes
part_bytes : (n at : ℕ) (xs : List ℕ) → at + n ≤ length xs → every is_byte xs ≡ true
    → is_field n (take n (drop at xs)) ≡ true
part_bytes n at xs h e =
    let l : length (take n (drop at xs)) ≡ n = omega (arith, length-take n (drop at xs), length-drop at xs) in
    join (eq-eqb _ _ l) (every_take is_byte n (drop at xs) (every_drop is_byte at xs e))

-- keys and credentials from a table of bytes, and a receipt start of 64 bits
pub tables_sized : (s : Scalars) (t : Tables) → Ready s t → every is_byte t.identities ≡ true
    → s.deposit_receipts_start_index < 2 ^ 64 → sized (books_of s t) ≡ true
unfolding books_of
tables_sized s t k e h =
    let ids = t.identities in
    let one : (i : ℕ) → i < s.validators → bytes_sized (validator_at ids t.validators i) ≡ true =
    λ i p.
    let fits : i < identities_fit ids = omega (arith, k.identities) in
    let place = 48 * identities_fit ids + 32 * i in
    let key : is_field 48 (public_key_at ids i) ≡ true =
    rw (key_read ids i fits) at (part_bytes 48 (48 * i) ids (omega arith) e) in
    let credentials : is_field 32 (withdrawal_credentials_at ids i) ≡ true =
    rw (credentials_read ids i fits) at (part_bytes 32 place ids (omega arith) e) in
    join key credentials in
    join (every_rows bytes_sized s.validators (validator_at ids t.validators) one) (lt-ltb _ _ h)
