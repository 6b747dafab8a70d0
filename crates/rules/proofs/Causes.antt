-- Each answer of a call on books at its cause, and 0 or the next answer just under it: which settings, rooms and books
-- are handed in, and then the calls' own answers. Each part is one list and one theorem.
use Rattle.std.specs.Prelude.{◌≡◌, refl, Bool, true, false, List, [], ◌∷◌, ℕ, ◌+◌, ◌-◌, ◌*◌, ◌^◌, eqb}
use Rattle.lists.specs.Base.{all, every}
use Rattle.rules.specs.Types.{FAR, Settings, Validator, Books}
use Rattle.rules.specs.Types.{PendingBalanceDeposit, PendingPartialWithdrawal, PendingConsolidation}
use Rattle.rules.specs.Update.{with_withdrawal_credentials, with_effective_balance, with_balance, with_exit}
use Rattle.rules.specs.Update.{with_epoch, with_next_withdrawal, with_receipts_start}
use Rattle.rules.specs.Update.{with_deposit_balance_to_consume, with_exit_churn, with_consolidation_churn}
use Rattle.rules.specs.Calls.{Operation, Call, answer, assignment_answer}
use Rattle.rules.specs.Calls.{reward, penalty, deposit_receipt, voluntary_exit, withdrawal_request}
use Rattle.rules.specs.Calls.{consolidation, withdrawals, turn, pending_consolidations}
use Rattle.rules.specs.Examples.{G, mainnet_but, mainnet, with_min_churn, with_limits}
use Rattle.rules.specs.Examples.{key, address, credentials, validator, with_slashed, since}
use Rattle.rules.specs.Examples.{deposit, partial, pending, withdrawal, books, call, opened}

-- ---- settings

payload_of_17 : Settings
payload_of_17 = mainnet_but ((13, 17) ∷ [])

one_of_each : Settings
one_of_each = with_limits 1 1 1 1

-- a consolidation churn of 64 G, 33 G and 32 G
churn_64 : Settings
churn_64 = with_min_churn (320 * G)

churn_33 : Settings
churn_33 = with_min_churn (289 * G)

churn_32 : Settings
churn_32 = with_min_churn (288 * G)

-- ---- books

first : Validator
first = validator 1 1 (32 * G) (32 * G)

second : Validator
second = validator 2 1 (32 * G) (32 * G)

alone : Validator → Books
alone v = books (v ∷ []) [] [] []

pair : Validator → Validator → Books
pair v w = books (v ∷ w ∷ []) [] [] []

partial_waiting : ℕ → Books
partial_waiting amount = books (first ∷ []) [] (partial 0 amount 2000 ∷ []) []

-- the source is withdrawable and the target has one Gwei above the minimum; a deposit of this amount waits
switching : ℕ → Books
switching amount =
    books
    (with_exit 990 995 first ∷ validator 2 1 (32 * G) (32 * G + 1) ∷ [])
    (deposit 0 amount ∷ []) [] (pending 0 1 ∷ [])

-- validator 1 gets a withdrawal of index 5
second_partial : Books
second_partial =
    with_next_withdrawal 5 0 (books (first ∷ validator 2 2 (32 * G) (33 * G) ∷ []) [] (partial 1 (5 * G) 1000 ∷ []) [])

one_partial : Books
one_partial = books (validator 1 2 (32 * G) (33 * G) ∷ []) [] (partial 0 (5 * G) 1000 ∷ []) []

-- ---- calls

-- with room for so many records
within : (validators deposits partials consolidations : ℕ) → Operation → Call
within validators deposits partials consolidations o = record {
  room = record {
    validators = validators;
    deposits = deposits;
    partials = partials;
    consolidations = consolidations;
  };
  operation = o;
}

-- one record less than the limit
short : Operation → Call
short o = within 256 255 256 256 o

exit : ℕ → Bool → Call
exit epoch valid = call (voluntary_exit 0 epoch valid)

consolidate : Call
consolidate = call (consolidation 0 1 1000 true)

receipt : (n prefix amount : ℕ) → Bool → Call
receipt n prefix amount valid = call (deposit_receipt (key n) (credentials prefix 0) amount 0 valid)

consolidations_limit : ℕ → Settings
consolidations_limit consolidations = mainnet_but ((3, 320 * G) ∷ (18, consolidations) ∷ [])

deposits_limit : ℕ → Settings
deposits_limit deposits = with_limits 256 deposits 256 256

-- ---- what is handed in

gives : ℕ → Settings → Books → Call → Bool
gives n S b c = eqb (answer S b c) n

-- what a penalty answers, with these changes of the settings, or with this room, or on these books
changes_give : ℕ → List (ℕ × ℕ) → Bool
changes_give n changes = gives n (mainnet_but changes) (alone first) (call (penalty 0 1))

books_give : ℕ → Books → Bool
books_give n b = gives n mainnet b (call (penalty 0 1))

pub settings_causes : List Bool
settings_causes =
    -- the first five at 2^44, of which two are bounded by others, and above
    every (changes_give 0)
    (((0, 2 ^ 44) ∷ (1, 2 ^ 44) ∷ [])
    ∷ ((2, 2 ^ 44) ∷ (3, 2 ^ 44) ∷ [])
    ∷ ((4, 2 ^ 44) ∷ [])
    ∷ [])
    ∷ every (changes_give 1)
    (((1, 2 ^ 44 + 1) ∷ [])
    ∷ ((3, 2 ^ 44 + 1) ∷ [])
    ∷ ((4, 2 ^ 44 + 1) ∷ [])
    ∷ [])
    -- the next ten at 2^16, of which two are bounded by others, and above
    ∷ every (λ k. changes_give 0 ((k, 2 ^ 16) ∷ [])) (5 ∷ 6 ∷ 7 ∷ 8 ∷ 9 ∷ 10 ∷ 11 ∷ 14 ∷ [])
    ∷ every (λ k. changes_give 1 ((k, 2 ^ 16 + 1) ∷ [])) (5 ∷ 6 ∷ 7 ∷ 8 ∷ 9 ∷ 10 ∷ 11 ∷ 14 ∷ [])
    -- above 0: increment, churn limits, quotients, payload, sweep
    ∷ every (changes_give 0)
    (((2, 1) ∷ (3, 1) ∷ [])
    ∷ ((4, 1) ∷ [])
    ∷ ((5, 1) ∷ [])
    ∷ ((9, 1) ∷ [])
    ∷ ((12, 0) ∷ (13, 1) ∷ [])
    ∷ ((14, 1) ∷ [])
    ∷ [])
    ∷ every (λ k. changes_give 1 ((k, 0) ∷ [])) (2 ∷ 3 ∷ 4 ∷ 5 ∷ 9 ∷ 13 ∷ 14 ∷ [])
    -- the others may be 0
    ∷ every (λ k. changes_give 0 ((k, 0) ∷ [])) (0 ∷ 6 ∷ 7 ∷ 8 ∷ 10 ∷ 11 ∷ 12 ∷ [])
    -- increment and minimum churn, first and second, partials and payload, payload and sixteen
    ∷ every (changes_give 0)
    (((2, 128 * G) ∷ [])
    ∷ ((0, 2048 * G) ∷ [])
    ∷ ((12, 15) ∷ [])
    ∷ ((13, 9) ∷ [])
    ∷ [])
    ∷ every (changes_give 1)
    (((2, 128 * G + 1) ∷ [])
    ∷ ((0, 2048 * G + 1) ∷ [])
    ∷ ((12, 16) ∷ [])
    ∷ ((13, 8) ∷ [])
    ∷ ((13, 17) ∷ [])
    ∷ [])
    -- the limits
    ∷ every (λ k. changes_give 0 ((k, 1) ∷ [])) (15 ∷ 16 ∷ 17 ∷ 18 ∷ [])
    ∷ every (λ k. changes_give 0 ((k, 65536) ∷ [])) (15 ∷ 16 ∷ 17 ∷ 18 ∷ [])
    ∷ every (λ k. changes_give 1 ((k, 0) ∷ [])) (15 ∷ 16 ∷ 17 ∷ 18 ∷ [])
    ∷ every (λ k. changes_give 1 ((k, 65537) ∷ [])) (15 ∷ 16 ∷ 17 ∷ 18 ∷ [])
    ∷ []

pub settings_causes_hold : all settings_causes ≡ true
unfolding settings_causes changes_give gives first alone opened
settings_causes_hold = refl

pub room_causes : List Bool
room_causes =
    gives 0 mainnet (alone first) (within 256 256 256 256 (reward 0 1))
    ∷ gives 3 mainnet (alone first) (within 255 256 256 256 (reward 0 1))
    ∷ gives 3 mainnet (alone first) (within 256 255 256 256 (reward 0 1))
    ∷ gives 3 mainnet (alone first) (within 256 256 255 256 (reward 0 1))
    ∷ gives 3 mainnet (alone first) (within 256 256 256 255 (reward 0 1))
    ∷ []

pub room_causes_hold : all room_causes ≡ true
unfolding room_causes gives first alone within opened
room_causes_hold = refl

-- books of one validator with these queues
queues : List PendingBalanceDeposit → List PendingPartialWithdrawal → List PendingConsolidation → Books
queues ds ps cs = books (first ∷ []) ds ps cs

-- one validator with this epoch in each of its four places
epochs : ℕ → List Books
epochs e =
    alone (since e 0 first)
    ∷ alone (since 0 e first)
    ∷ alone (with_exit e FAR first)
    ∷ alone (with_exit FAR e first)
    ∷ queues [] (partial 0 1 e ∷ []) []
    ∷ []

-- this number in each scalar but the cursor and the receipts' start
scalars : ℕ → List Books
scalars n =
    with_epoch n (alone first)
    ∷ with_next_withdrawal n 0 (alone first)
    ∷ with_deposit_balance_to_consume n (alone first)
    ∷ with_exit_churn n 0 (alone first)
    ∷ with_exit_churn 0 n (alone first)
    ∷ with_consolidation_churn n 0 (alone first)
    ∷ with_consolidation_churn 0 n (alone first)
    ∷ []

pub books_causes : List Bool
books_causes =
    -- no validator; lengths over their limits
    books_give 2 (books [] [] [] [])
    ∷ gives 0 one_of_each (queues (deposit 0 1 ∷ []) (partial 0 1 0 ∷ []) (pending 0 0 ∷ [])) (call (penalty 0 1))
    ∷ every (λ b. gives 2 one_of_each b (call (penalty 0 1)))
    (pair first second
    ∷ queues (deposit 0 1 ∷ deposit 0 1 ∷ []) [] []
    ∷ queues [] (partial 0 1 0 ∷ partial 0 1 0 ∷ []) []
    ∷ queues [] [] (pending 0 0 ∷ pending 0 0 ∷ [])
    ∷ [])
    -- the cursor and the queues' indices
    ∷ every (books_give 2)
    (with_next_withdrawal 0 1 (alone first)
    ∷ queues (deposit 1 0 ∷ []) [] []
    ∷ queues [] (partial 1 0 0 ∷ []) []
    ∷ queues [] [] (pending 1 0 ∷ [])
    ∷ queues [] [] (pending 0 1 ∷ [])
    ∷ [])
    -- the effective balance and the flag
    ∷ books_give 0 (alone (with_slashed 1 (with_effective_balance (2048 * G) first)))
    ∷ books_give 2 (alone (with_effective_balance (2048 * G + 1) first))
    ∷ books_give 2 (alone (with_slashed 2 first))
    -- scalars; the receipts' start may be any number
    ∷ every (books_give 0) (with_receipts_start (2 ^ 62 + 1) (alone first) ∷ scalars (2 ^ 62))
    ∷ every (books_give 2) (scalars (2 ^ 62 + 1))
    -- other epochs
    ∷ every (books_give 0) (epochs (2 ^ 62))
    ∷ every (books_give 0) (epochs FAR)
    ∷ every (books_give 2) (epochs (2 ^ 62 + 1))
    -- sums
    ∷ every (books_give 0)
    (books (with_balance (2 ^ 62 - 1) first ∷ []) (deposit 0 1 ∷ []) [] []
    ∷ queues [] (partial 0 (2 ^ 62 - 1) 0 ∷ partial 0 1 0 ∷ []) []
    ∷ [])
    ∷ every (books_give 2)
    (books (with_balance (2 ^ 62) first ∷ []) (deposit 0 1 ∷ []) [] []
    ∷ queues [] (partial 0 (2 ^ 62) 0 ∷ partial 0 1 0 ∷ []) []
    ∷ [])
    ∷ []

pub books_causes_hold : all books_causes ≡ true
unfolding books_causes books_give gives one_of_each first second alone pair queues epochs scalars opened
books_causes_hold = refl

-- ---- the calls

pub causes : List Bool
causes =
    -- 1, then 3, then 2
    gives 1 payload_of_17 (books [] [] [] []) (short (reward 0 1))
    ∷ gives 3 mainnet (books [] [] [] []) (short (reward 0 1))
    ∷ gives 2 mainnet (books [] [] [] []) (call (reward 0 1))
    -- 10
    ∷ gives 10 mainnet (alone first) (call (reward 1 1))
    ∷ gives 0 mainnet (alone first) (call (reward 0 1))
    ∷ gives 10 mainnet (alone first) (call (penalty 1 1))
    ∷ gives 10 mainnet (alone first) (call (voluntary_exit 1 1000 true))
    -- 11, 12, 13, 14, 15, 16 of an exit
    ∷ gives 11 mainnet (alone (since 0 1001 first)) (exit 1000 true)
    ∷ gives 11 mainnet (alone (with_exit 1000 FAR first)) (exit 1000 true)
    ∷ gives 12 mainnet (alone (with_exit 1001 FAR first)) (exit 1000 true)
    ∷ gives 13 mainnet (alone first) (exit 1001 true)
    ∷ gives 14 mainnet (alone (since 0 1000 first)) (exit 1000 true)
    ∷ gives 14 mainnet (alone (since 0 745 first)) (exit 1000 true)
    ∷ gives 0 mainnet (alone (since 0 744 first)) (exit 1000 true)
    ∷ gives 15 mainnet (partial_waiting 1) (exit 1000 true)
    ∷ gives 0 mainnet (partial_waiting 0) (exit 1000 true)
    -- another validator's partials do not hinder
    ∷ gives 0 mainnet (books (second ∷ first ∷ []) [] (partial 1 1 2000 ∷ []) []) (exit 1000 true)
    ∷ gives 0 mainnet (books (second ∷ first ∷ []) [] (partial 0 1 2000 ∷ []) []) (call (voluntary_exit 1 1000 true))
    ∷ gives 16 mainnet (alone first) (exit 1000 false)
    -- 20, 21, 22, 10, 11, 12, 13, 23, 24, 16 of a consolidation
    ∷ gives 20 (consolidations_limit 1) (books (first ∷ second ∷ []) [] [] (pending 0 1 ∷ [])) consolidate
    ∷ gives 0 (consolidations_limit 2) (books (first ∷ second ∷ []) [] [] (pending 0 1 ∷ [])) consolidate
    ∷ gives 21 churn_32 (pair first second) consolidate
    ∷ gives 0 churn_33 (pair first second) consolidate
    ∷ gives 22 churn_64 (pair first second) (call (consolidation 2 2 1000 true))
    ∷ gives 10 churn_64 (pair first second) (call (consolidation 2 1 1000 true))
    ∷ gives 10 churn_64 (pair first second) (call (consolidation 0 2 1000 true))
    ∷ gives 11 churn_64 (pair (since 0 1001 first) second) consolidate
    ∷ gives 11 churn_64 (pair first (since 0 1001 second)) consolidate
    ∷ gives 12 churn_64 (pair (with_exit 1001 FAR first) second) consolidate
    ∷ gives 12 churn_64 (pair first (with_exit 1001 FAR second)) consolidate
    ∷ gives 13 churn_64 (pair first second) (call (consolidation 0 1 1001 true))
    ∷ gives 23 churn_64 (pair (validator 1 0 (32 * G) (32 * G)) second) consolidate
    ∷ gives 23 churn_64 (pair first (validator 2 3 (32 * G) (32 * G))) consolidate
    ∷ gives 24 churn_64 (pair first (with_withdrawal_credentials (credentials 1 7) second)) consolidate
    ∷ gives 16 churn_64 (pair first second) (call (consolidation 0 1 1000 false))
    -- 30
    ∷ gives 0 mainnet second_partial (call (withdrawals (withdrawal 5 1 G ∷ [])))
    ∷ every (λ ws. gives 30 mainnet second_partial (call (withdrawals ws)))
    ([]
    ∷ (withdrawal 5 1 G ∷ withdrawal 6 1 G ∷ [])
    ∷ (withdrawal 4 1 G ∷ [])
    ∷ (withdrawal 6 1 G ∷ [])
    ∷ (withdrawal 5 0 G ∷ [])
    ∷ (withdrawal 5 2 G ∷ [])
    ∷ (withdrawal 5 1 (G - 1) ∷ [])
    ∷ (withdrawal 5 1 (G + 1) ∷ [])
    ∷ (record { index = 5; validator_index = 1; address = address 1; amount = G } ∷ [])
    ∷ [])
    -- 40: the registry, the queue after a receipt, and after a turn's switch
    ∷ gives 40 one_of_each (alone first) (receipt 2 1 G true)
    ∷ gives 0 one_of_each (alone first) (receipt 2 1 G false)
    ∷ gives 0 one_of_each (alone first) (receipt 1 1 G true)
    ∷ gives 40 one_of_each (books (first ∷ []) (deposit 0 1 ∷ []) [] []) (receipt 1 1 G true)
    ∷ gives 40 (deposits_limit 1) (switching G) (call pending_consolidations)
    ∷ gives 0 (deposits_limit 2) (switching G) (call pending_consolidations)
    ∷ gives 40 (deposits_limit 1) (switching (129 * G)) (call turn)
    ∷ gives 0 (deposits_limit 1) (switching (128 * G)) (call turn)
    -- 41: balances with deposits, and partial amounts; before 42
    ∷ gives 41 mainnet (alone (with_balance (2 ^ 62 - 1) first)) (call (reward 0 2))
    ∷ gives 0 mainnet (alone (with_balance (2 ^ 62 - 1) first)) (call (reward 0 1))
    ∷ gives 41 mainnet (partial_at_most (2 ^ 62)) partial_request
    ∷ gives 0 mainnet (partial_at_most (2 ^ 62 - G)) partial_request
    ∷ gives 41 mainnet (with_exit_churn 0 (2 ^ 62) (partial_at_most (2 ^ 62))) partial_request
    ∷ gives 42 mainnet (with_exit_churn 0 (2 ^ 62) (partial_at_most (2 ^ 62 - G))) partial_request
    -- 42: the epoch; the withdrawable epoch of an exit, a partial and a consolidation; the withdrawal index
    ∷ gives 42 mainnet (with_epoch (2 ^ 62) (alone first)) (call turn)
    ∷ gives 0 mainnet (with_epoch (2 ^ 62 - 1) (alone first)) (call turn)
    ∷ gives 42 mainnet (with_exit_churn (32 * G) (2 ^ 62 - 255) (alone first)) (exit 1000 true)
    ∷ gives 0 mainnet (with_exit_churn (32 * G) (2 ^ 62 - 256) (alone first)) (exit 1000 true)
    ∷ gives 42 mainnet (with_exit_churn G (2 ^ 62 - 255) (partial_at_most 0)) partial_request
    ∷ gives 0 mainnet (with_exit_churn G (2 ^ 62 - 256) (partial_at_most 0)) partial_request
    ∷ gives 42 churn_64 (with_consolidation_churn (32 * G) (2 ^ 62 - 255) (pair first second)) consolidate
    ∷ gives 0 churn_64 (with_consolidation_churn (32 * G) (2 ^ 62 - 256) (pair first second)) consolidate
    ∷ gives 42 mainnet (with_next_withdrawal (2 ^ 62) 0 one_partial) (call (withdrawals (withdrawal (2 ^ 62) 0 G ∷ [])))
    ∷ gives 0 mainnet (with_next_withdrawal (2 ^ 62) 0 (alone first)) (call (withdrawals []))
    -- 50 and 42 of the bare epoch assignment
    ∷ eqb (assignment_answer 1 0 0 0 1) 50
    ∷ eqb (assignment_answer 0 (2 ^ 62) 0 1 1) 42
    ∷ eqb (assignment_answer 1 (2 ^ 62) 0 1 1) 0
    ∷ eqb (assignment_answer 0 FAR 0 1 0) 42
    ∷ []
  where
    -- another validator's partials, and a validator that can withdraw one G
    partial_at_most : ℕ → Books
    partial_at_most amount =
        books (validator 1 2 (32 * G) (33 * G) ∷ second ∷ []) [] (partial 1 amount 2000 ∷ []) []

    partial_request : Call
    partial_request = call (withdrawal_request (address 0) (key 1) G)

pub causes_hold : all causes ≡ true
unfolding causes payload_of_17 one_of_each churn_64 churn_33 churn_32 first second alone pair partial_waiting
    switching second_partial one_partial within short exit consolidate receipt consolidations_limit deposits_limit
    gives opened
causes_hold = refl
