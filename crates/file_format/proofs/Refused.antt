-- Broken files, computed by the checker: each is refused (60), the file that it was made of is not.
use Rattle.std.specs.Prelude.{◌≡◌, refl, Bool, true, false, not, List, [], ◌∷◌, ◌++◌, ℕ, zero, suc, ◌+◌, ◌-◌, ◌*◌}
use Rattle.std.specs.Prelude.{length, set, take, replicate}
use Rattle.lists.specs.Base.{every}
use Rattle.rules.specs.Examples.{G, with_limits, validator, deposit, books}
use Rattle.file_format.specs.Words.{bytes, with_end}
use Rattle.file_format.specs.Books.{books_format}
use Rattle.file_format.specs.Calls.{calls_format}
use Rattle.file_format.specs.File.{file_ok, write_books}
use Rattle.file_format.specs.Example.{opened, opening_words, calls_words, all_calls_words}

-- the words but the last
abbrev pub without_end : List ℕ → List ℕ
without_end ws = take (length ws - 1) ws

-- word k replaced, and the end word made anew
abbrev pub replaced : List ℕ → (k w : ℕ) → List ℕ
replaced ws k w = bytes (with_end (set (without_end ws) k w))

abbrev pub all_refused : (List ℕ → Bool) → List (List ℕ) → Bool
all_refused ok files = every (λ bs. not (ok bs)) files

-- ---- books files

abbrev pub books_ok : List ℕ → Bool
books_ok bs = file_ok books_format bs

pub books_good : books_ok (bytes opening_words) ≡ true
unfolding opened
books_good = refl

pub books_replaced : all_refused books_ok
    -- the head of a calls file, and a head that is not known
    (replaced opening_words 0 0x10000002
    ∷ replaced opening_words 0 0x10000003
    -- a number's words of another kind, and its third word above 255
    ∷ replaced opening_words 1 0x43594000
    ∷ replaced opening_words 2 0x30000077
    ∷ replaced opening_words 3 0x50000100
    -- kind 6 with a bit above the low 24, and padding that is not zero
    ∷ replaced opening_words 86 0x61010000
    ∷ replaced opening_words 112 0x60000001
    -- a flag above 1
    ∷ replaced opening_words 113 0x70000002
    -- a count of another kind, one of fewer validators than there are, one of more partials
    ∷ replaced opening_words 85 0x30000001
    ∷ replaced opening_words 85 0x20000000
    ∷ replaced opening_words 139 0x20000001
    ∷ []) ≡ true
unfolding opened
books_replaced = refl

pub books_cut : all_refused books_ok
    -- another end sum, another kind of the end word, no end word, a word after it
    (bytes (without_end opening_words ++ (0x8c9a14f7 ∷ []))
    ∷ bytes (without_end opening_words ++ (0x7c9a14f6 ∷ []))
    ∷ bytes (without_end opening_words)
    ∷ bytes (opening_words ++ (0x8c9a14f6 ∷ []))
    -- a byte more, a byte less, no bytes
    ∷ (bytes opening_words ++ (0 ∷ []))
    ∷ take 567 (bytes opening_words)
    ∷ []
    ∷ []) ≡ true
unfolding opened
books_cut = refl

-- two deposits where the settings allow one: such books are answered 2, and their file is not broken
pub over_limit : books_ok (write_books (with_limits 256 1 256 256)
    (books (validator 1 1 (32 * G) (40 * G) ∷ []) (deposit 0 G ∷ deposit 0 G ∷ []) [] [])) ≡ true
unfolding opened
over_limit = refl

-- ---- calls files

abbrev pub calls_ok : List ℕ → Bool
calls_ok bs = file_ok calls_format bs

pub calls_good : calls_ok (bytes calls_words) ≡ true
unfolding opened
calls_good = refl

pub calls_replaced : all_refused calls_ok
    -- the head of a books file
    (replaced calls_words 0 0x10000001
    -- fewer calls and more calls than there are
    ∷ replaced calls_words 1 0x20000002
    ∷ replaced calls_words 1 0x20000004
    -- no code 0, no code 9, no code of another kind
    ∷ replaced calls_words 2 0x90000000
    ∷ replaced calls_words 2 0x90000009
    ∷ replaced calls_words 2 0x20000007
    -- a flag above 1
    ∷ replaced calls_words 10 0x70000002
    -- an address's padding
    ∷ replaced all_calls_words 66 0x60636401
    ∷ []) ≡ true
unfolding opened
calls_replaced = refl

abbrev pub repeated : ℕ → List ℕ → List ℕ
repeated zero ws = []
repeated (suc n) ws = ws ++ repeated n ws

-- a list of n withdrawals, all of zeros
abbrev pub withdrawals_words : ℕ → List ℕ
withdrawals_words n =
    let zero_number : List ℕ = 0x30000000 ∷ 0x40000000 ∷ 0x50000000 ∷ [] in
    let withdrawal = zero_number ++ zero_number ++ replicate 7 0x60000000 ++ zero_number in
    with_end (0x10000002 ∷ 0x20000001 ∷ 0x90000008 ∷ (0x20000000 + n) ∷ repeated n withdrawal)

pub sixteen : calls_ok (bytes (withdrawals_words 16)) ≡ true
unfolding opened
sixteen = refl

pub seventeen : calls_ok (bytes (withdrawals_words 17)) ≡ false
unfolding opened
seventeen = refl

-- n turns
abbrev pub turns_words : ℕ → List ℕ
turns_words n = with_end (0x10000002 ∷ (0x20000000 + n) ∷ replicate n 0x90000007)

pub most_calls : calls_ok (bytes (turns_words 9999)) ≡ true
unfolding opened
most_calls = refl

pub too_many_calls : calls_ok (bytes (turns_words 10000)) ≡ false
unfolding opened
too_many_calls = refl
