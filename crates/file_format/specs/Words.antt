-- The words of a file: the kinds, the end word, and the four bytes of each word.
use Rattle.std.specs.Prelude.{Bool, ◌&&◌, List, [], ◌∷◌, ◌++◌, ℕ, ◌+◌, ◌*◌, ◌/◌, ◌%◌, ◌^◌, ltb, eqb}
use Rattle.lists.specs.Base.{total}

-- ---- one word

-- the top 4 bits are the kind, 28 remain
abbrev pub word : (kind payload : ℕ) → ℕ
word kind payload = kind * 2 ^ 28 + payload

abbrev pub payload : ℕ → ℕ
payload w = w % 2 ^ 28

-- of this kind, and what it carries is below the limit: unused bits are 0
abbrev pub is_word : (kind limit : ℕ) → ℕ → Bool
is_word kind limit w = eqb (w / 2 ^ 28) kind && ltb (payload w) limit

-- ---- kind 1, the head: what a file holds

abbrev pub books_head : ℕ
books_head = 1

abbrev pub calls_head : ℕ
calls_head = 2

-- ---- kind 8, the end

abbrev pub wrapping_sum : List ℕ → ℕ
wrapping_sum ws = total (λ w. w) ws % 2 ^ 32

-- the low 28 bits of the wrapping 32-bit sum of all words before it
abbrev pub end_word : List ℕ → ℕ
end_word ws = word 8 (wrapping_sum ws % 2 ^ 28)

abbrev pub with_end : List ℕ → List ℕ
with_end ws = ws ++ (end_word ws ∷ [])

-- ---- bytes, the lowest first

abbrev pub is_byte : ℕ → Bool
is_byte x = ltb x 256

abbrev pub bytes : List ℕ → List ℕ
bytes [] = []
bytes (w ∷ ws) = w % 256 ∷ w / 256 % 256 ∷ w / 256 / 256 % 256 ∷ w / 256 / 256 / 256 ∷ bytes ws

-- a rest of less than four bytes is no word
abbrev pub words : List ℕ → List ℕ
words [] = []
words (a ∷ []) = []
words (a ∷ b ∷ []) = []
words (a ∷ b ∷ c ∷ []) = []
words (a ∷ b ∷ c ∷ d ∷ xs) = (a + b * 256 + c * 65536 + d * 16777216) ∷ words xs
