-- The marked edges of the scope text, on the definitions, as one list and one theorem; then edges of our own: the
-- carry, the order of the deposit queue, the seven places where the Electra text decides, the sweep, partial requests,
-- and the receipts' start.
use Rattle.std.specs.Prelude.{◌≡◌, refl, Bool, true, false, ◌&&◌, List, [], ◌∷◌, ◌++◌, map, ℕ, ◌+◌, ◌-◌, ◌*◌, length}
use Rattle.std.specs.Prelude.{get_or, replicate, eqb}
use Rattle.lists.specs.Base.{all, same_bytes}
use Rattle.rules.specs.Types.{FAR, Settings, Validator, Withdrawal, Books}
use Rattle.rules.specs.Update.{with_exit, with_next_withdrawal, with_deposit_balance_to_consume}
use Rattle.rules.specs.Update.{with_receipts_start, with_exit_churn, with_pending_partial_withdrawals}
use Rattle.rules.specs.Helpers.{at, count, Assignment, assign_epoch}
use Rattle.rules.specs.EpochProcessing.{process_pending_balance_deposits, process_pending_consolidations, updated}
use Rattle.rules.specs.BlockProcessing.{get_expected_withdrawals}
use Rattle.rules.specs.Acceptance.{deposit_amounts}
use Rattle.rules.specs.Calls.{Call, answer, after}
use Rattle.rules.specs.Calls.{withdrawal_request, consolidation, withdrawals, voluntary_exit, deposit_receipt}
use Rattle.rules.specs.Examples.{G, mainnet, with_limits, key, address, credentials, validator}
use Rattle.rules.specs.Examples.{with_slashed, since}
use Rattle.rules.specs.Examples.{deposit, partial, pending, books, call, opened}

-- ---- tests on what a rule gives

-- one list behind the other
joined : {A : Type 0} → (A → List ℕ) → List A → List ℕ
joined f [] = []
joined f (x ∷ xs) = f x ++ joined f xs

validator_numbers : Validator → List ℕ
validator_numbers v =
    v.public_key
    ++ v.withdrawal_credentials
    ++ (v.slashed
    ∷ v.effective_balance
    ∷ v.activation_eligibility_epoch
    ∷ v.activation_epoch
    ∷ v.exit_epoch
    ∷ v.withdrawable_epoch
    ∷ v.balance
    ∷ [])

-- all that books hold, each list behind its count
books_numbers : Books → List ℕ
books_numbers b =
    (b.epoch
    ∷ b.next_withdrawal_index
    ∷ b.next_withdrawal_validator_index
    ∷ b.deposit_receipts_start_index
    ∷ b.deposit_balance_to_consume
    ∷ b.exit_balance_to_consume
    ∷ b.earliest_exit_epoch
    ∷ b.consolidation_balance_to_consume
    ∷ b.earliest_consolidation_epoch
    ∷ count b
    ∷ [])
    ++ joined validator_numbers b.validators
    ++ (length b.pending_balance_deposits
    ∷ joined (λ d. d.index ∷ d.amount ∷ []) b.pending_balance_deposits)
    ++ (length b.pending_partial_withdrawals
    ∷ joined (λ p. p.index ∷ p.amount ∷ p.withdrawable_epoch ∷ []) b.pending_partial_withdrawals)
    ++ (length b.pending_consolidations
    ∷ joined (λ c. c.source_index ∷ c.target_index ∷ []) b.pending_consolidations)

same_books : Books → Books → Bool
same_books b c = same_bytes (books_numbers b) (books_numbers c)

-- answered 0, and all is as it was
unchanged : Settings → Books → Call → Bool
unchanged S b c = eqb (answer S b c) 0 && same_books (after S b c) b

assigned : Assignment → (left epoch : ℕ) → Bool
assigned a left epoch = eqb a.left left && eqb a.epoch epoch

effective_becomes : ℕ → ℕ → Bool
effective_becomes balance effective_balance =
    eqb (updated mainnet (validator 1 2 (32 * G) balance)).effective_balance effective_balance

-- the first validator's balance, how many deposits wait, and the carry
deposits_leave : Books → (balance waiting carry : ℕ) → Bool
deposits_leave b balance waiting carry =
    let e = process_pending_balance_deposits mainnet b in
    eqb (at e.validators 0).balance balance
    && eqb (length e.pending_balance_deposits) waiting
    && eqb e.deposit_balance_to_consume carry

one_paid : List Withdrawal → (validator_index amount : ℕ) → Bool
one_paid [] validator_index amount = false
one_paid (w ∷ ws) validator_index amount =
    eqb (length ws) 0 && eqb w.validator_index validator_index && eqb w.amount amount

-- answered 0, and what a validator's exit and withdrawable epochs are then
leaves_epochs : Settings → Books → Call → (i exit_epoch withdrawable_epoch : ℕ) → Bool
leaves_epochs S b c i exit_epoch withdrawable_epoch =
    let v = at (after S b c).validators i in
    eqb (answer S b c) 0 && eqb v.exit_epoch exit_epoch && eqb v.withdrawable_epoch withdrawable_epoch

-- ---- books

-- 30 G and then a second deposit wait behind a carry of 2 G; the allowance is 128 G
waiting : ℕ → Books
waiting amount =
    with_deposit_balance_to_consume (2 * G)
    (books (validator 1 1 (32 * G) (32 * G) ∷ []) (deposit 0 (30 * G) ∷ deposit 0 amount ∷ []) [] [])

target : ℕ → Validator
target balance = validator 2 2 (32 * G) balance

withdrawable : ℕ → Validator
withdrawable balance = with_exit 990 995 (validator 3 1 (32 * G) balance)

-- slashed, and withdrawable
slashed_source : Validator
slashed_source = with_slashed 1 (with_exit 990 995 (validator 1 1 (32 * G) (32 * G)))

-- withdrawable at the next epoch
early_source : Validator
early_source = with_exit 990 1001 (validator 1 1 (32 * G) (32 * G))

-- two sources wait for validator 1; the second is withdrawable
consolidating : Validator → Books
consolidating source =
    books (source ∷ target (40 * G) ∷ withdrawable (32 * G) ∷ []) [] [] (pending 0 1 ∷ pending 2 1 ∷ [])

-- the first is dropped and the second consolidated
first_dropped : Validator → Books
first_dropped source = books (source ∷ target (72 * G) ∷ withdrawable 0 ∷ []) [] [] []

one_partial : Books
one_partial = books (validator 1 2 (32 * G) (33 * G) ∷ []) [] (partial 0 (5 * G) 1000 ∷ []) []

-- room for one partial, which another validator has
one_place : Settings
one_place = with_limits 256 256 1 256

full_queue : Books
full_queue =
    books (validator 1 2 (32 * G) (40 * G) ∷ validator 2 2 (32 * G) (40 * G) ∷ []) [] (partial 1 1 1000 ∷ []) []

request : ℕ → Call
request amount = call (withdrawal_request (address 0) (key 1) amount)

-- 10,240 full validators make a consolidation churn of 64 G
large : Settings
large = with_limits 65536 256 256 256

large_books : Books
large_books =
    let pair : List Validator = validator 1 1 (32 * G) (32 * G) ∷ validator 2 1 (32 * G) (32 * G) ∷ [] in
    books (pair ++ replicate 10240 (validator 3 2 (2048 * G) (2048 * G))) [] [] []

pub marked_edges : List Bool
marked_edges =
    -- an amount of just what is left adds no epoch; one Gwei more adds one
    assigned (assign_epoch (32 * G) 1005 1005 (128 * G) (32 * G)) 0 1005
    ∷ assigned (assign_epoch (32 * G) 1005 1005 (128 * G) (32 * G + 1)) 127_999_999_999 1006
    -- deposits of just carry plus allowance are credited; one Gwei over waits
    ∷ deposits_leave (waiting (100 * G)) (162 * G) 0 0
    ∷ deposits_leave (waiting (100 * G + 1)) (62 * G) 1 (100 * G)
    -- effective balances change outside 31.75 G to 33.25 G
    ∷ effective_becomes 33_250_000_000 (32 * G)
    ∷ effective_becomes 33_250_000_001 (33 * G)
    ∷ effective_becomes 31_750_000_000 (32 * G)
    ∷ effective_becomes 31_749_999_999 (31 * G)
    -- a slashed source is dropped; a source withdrawable at epoch + 1 stops the queue
    ∷ same_books
    (process_pending_consolidations mainnet (consolidating slashed_source)) (first_dropped slashed_source)
    ∷ same_books
    (process_pending_consolidations mainnet (consolidating early_source)) (consolidating early_source)
    -- a partial of 5 G, effective balance 32 G, balance 33 G pays 1 G
    ∷ one_paid (get_expected_withdrawals mainnet one_partial) 0 G
    -- a full partial queue: amount 1 changes nothing, amount 0 still exits
    ∷ unchanged one_place full_queue (request 1)
    ∷ leaves_epochs one_place full_queue (request 0) 0 1005 1261
    -- a consolidation at epoch 1000, churn 64 G, source 32 G, scalars 0
    ∷ leaves_epochs large large_books (call (consolidation 0 1 1000 true)) 0 1005 1261
    ∷ []

pub marked_edges_hold : all marked_edges ≡ true
unfolding marked_edges joined validator_numbers books_numbers same_books unchanged assigned effective_becomes
    deposits_leave one_paid leaves_epochs waiting target withdrawable slashed_source early_source consolidating
    first_dropped one_partial one_place full_queue request large large_books opened
marked_edges_hold = refl

-- ---- edges of our own

-- the validator's prefix, and the amounts that wait
deposit_leaves : Call → Books → (prefix waiting : ℕ) → Bool
deposit_leaves c b prefix waiting =
    let e = after mainnet b c in
    eqb (answer mainnet b c) 0
    && eqb (get_or (at e.validators 0).withdrawal_credentials 0 0) prefix
    && eqb (deposit_amounts e.pending_balance_deposits) waiting
    && eqb (count e) 1

alone : Validator → Books
alone v = books (v ∷ []) [] [] []

exit : Call
exit = call (voluntary_exit 0 1000 true)

receipt : ℕ → Bool → Call
receipt n valid = call (deposit_receipt (key n) (credentials 2 0) 1 0 valid)

no_receipt_yet : Books
no_receipt_yet = with_receipts_start FAR (alone (validator 1 1 (32 * G) (32 * G)))

-- of an unknown key, with a bad signature
receipt_at : ℕ → Call
receipt_at index = call (deposit_receipt (key 2) (credentials 1 0) G index false)

-- seventeen validators with one Gwei to sweep, at withdrawal index 100
sweeping : Books
sweeping = with_next_withdrawal 100 0 (books (replicate 17 (validator 1 1 (32 * G) (32 * G + 1))) [] [] [])

pub further_edges : List Bool
further_edges =
    -- a large deposit is not skipped for a smaller one behind it, and what was left is carried over
    deposits_leave
    (books (validator 1 1 (32 * G) (32 * G) ∷ []) (deposit 0 G ∷ deposit 0 (128 * G) ∷ deposit 0 G ∷ []) [] [])
    (33 * G) 2 (127 * G)
    -- every deposit of the affordable part is credited, and an empty queue clears the carry
    ∷ deposits_leave
    (books (validator 1 1 (32 * G) (32 * G) ∷ []) (deposit 0 G ∷ deposit 0 (2 * G) ∷ deposit 0 (3 * G) ∷ []) [] [])
    (38 * G) 0 0
    -- place 1: an effective balance of just the minimum is paid
    ∷ one_paid
    (get_expected_withdrawals mainnet (books (validator 1 2 (32 * G) (32 * G + 1) ∷ []) [] (partial 0 1 0 ∷ []) []))
    0 1
    -- place 2: the entry's validator is named
    ∷ one_paid
    (get_expected_withdrawals mainnet
    (books (validator 1 1 (32 * G) (32 * G) ∷ validator 2 2 (33 * G) (33 * G) ∷ []) [] (partial 1 1 0 ∷ []) []))
    1 1
    -- place 3: after a full list the cursor stands behind the last validator listed
    ∷ eqb
    (after mainnet sweeping (call (withdrawals (get_expected_withdrawals mainnet sweeping)))
    ).next_withdrawal_validator_index
    16
    -- a list that is not full moves it by the whole sweep, around the registry: 16384 modulo 5
    ∷ eqb
    (after mainnet (books (replicate 5 (validator 1 1 (32 * G) (32 * G))) [] [] []) (call (withdrawals []))
    ).next_withdrawal_validator_index
    4
    -- the next index stands behind the last one listed
    ∷ eqb
    (after mainnet sweeping (call (withdrawals (get_expected_withdrawals mainnet sweeping)))).next_withdrawal_index
    116
    -- place 4: of the consolidation churn of 64 G the source's 32 G are spent
    ∷ eqb (after large large_books (call (consolidation 0 1 1000 true))).consolidation_balance_to_consume (32 * G)
    -- place 5 is a marked edge; place 6: the time active counts from the activation
    ∷ eqb (answer mainnet (alone (since 744 745 (validator 1 1 (32 * G) (32 * G)))) exit) 14
    ∷ eqb (answer mainnet (alone (since FAR 0 (validator 1 1 (32 * G) (32 * G)))) exit) 0
    -- place 7: a bad signature is answered 0, without a switch and without a new validator; a good one switches
    ∷ deposit_leaves (receipt 1 false) (alone (validator 1 1 (32 * G) (33 * G))) 1 1
    ∷ deposit_leaves (receipt 2 false) (alone (validator 1 1 (32 * G) (33 * G))) 1 0
    ∷ deposit_leaves (receipt 1 true) (alone (validator 1 1 (32 * G) (33 * G))) 2 (G + 1)
    -- the first receipt sets the start, even one that adds no validator; a later one leaves it
    ∷ same_books (after mainnet no_receipt_yet (receipt_at 5)) (with_receipts_start 5 no_receipt_yet)
    ∷ same_books
    (after mainnet (with_receipts_start 5 no_receipt_yet) (receipt_at 6)) (with_receipts_start 5 no_receipt_yet)
    -- a source withdrawable at this epoch is consolidated
    ∷ same_books
    (process_pending_consolidations mainnet (consolidating (with_exit 990 1000 (validator 1 1 (32 * G) (32 * G)))))
    (books
    (with_exit 990 1000 (validator 1 1 (32 * G) 0) ∷ target (104 * G) ∷ withdrawable 0 ∷ [])
    [] [] [])
    -- a switch with no more than the minimum queues no entry
    ∷ same_books
    (after mainnet (alone (validator 1 1 (32 * G) (32 * G))) (receipt 1 true))
    (books (validator 1 2 (32 * G) (32 * G) ∷ []) (deposit 0 1 ∷ []) [] [])
    ∷ []

pub further_edges_hold : all further_edges ≡ true
unfolding further_edges joined validator_numbers books_numbers same_books deposits_leave one_paid
    deposit_leaves alone exit receipt no_receipt_yet receipt_at sweeping large large_books target withdrawable
    consolidating opened
further_edges_hold = refl

-- ---- withdrawals: what is swept, paid and asked for

-- the amounts of the expected list
pays : Books → List ℕ → Bool
pays b amounts = same_bytes (map (λ w. w.amount) (get_expected_withdrawals mainnet b)) amounts

-- active since the given epoch
compounding : (activation balance : ℕ) → Books
compounding activation balance = alone (since 0 activation (validator 1 2 (32 * G) balance))

pub withdrawal_edges : List Bool
withdrawal_edges =
    -- the sweep: all of a balance that is withdrawable now; what is above the maximum, at just that effective balance
    pays (alone (with_exit 990 1000 (validator 1 1 (32 * G) G))) (G ∷ [])
    ∷ pays (alone (with_exit 990 1001 (validator 1 1 (32 * G) G))) []
    ∷ pays (alone (with_exit 990 1000 (validator 1 1 (32 * G) 0))) []
    ∷ pays (alone (validator 1 1 (32 * G) (32 * G + 1))) (1 ∷ [])
    ∷ pays (alone (validator 1 1 (32 * G) (32 * G))) []
    ∷ pays (alone (validator 1 1 (31 * G) (33 * G))) []
    ∷ pays (alone (validator 1 2 (32 * G) (33 * G))) []
    ∷ pays (alone (validator 1 2 (2048 * G) (2048 * G + 1))) (1 ∷ [])
    ∷ pays (alone (validator 1 0 (32 * G) (33 * G))) []
    -- a partial is not paid with no more than the minimum there, nor of a validator that exits
    ∷ pays (books (validator 1 2 (32 * G) (32 * G) ∷ []) [] (partial 0 1 0 ∷ []) []) []
    ∷ pays (books (with_exit 1001 1257 (validator 1 2 (32 * G) (33 * G)) ∷ []) [] (partial 0 1 0 ∷ []) []) []
    -- a partial is asked for with nothing above the minimum, too early, by an unknown key
    ∷ unchanged mainnet (compounding 0 (32 * G)) (request 1)
    ∷ unchanged mainnet (compounding 745 (33 * G)) (request 1)
    ∷ unchanged mainnet (compounding 0 (33 * G)) (call (withdrawal_request (address 0) (key 2) 1))
    -- or for another address, without a credential to withdraw, after an exit began
    ∷ unchanged mainnet (compounding 0 (33 * G)) (call (withdrawal_request (address 1) (key 1) 1))
    ∷ unchanged mainnet (alone (validator 1 0 (32 * G) (33 * G))) (request 0)
    ∷ unchanged mainnet (alone (with_exit 1001 1257 (validator 1 2 (32 * G) (33 * G)))) (request 0)
    ∷ unchanged mainnet (alone (with_exit 1001 1257 (validator 1 2 (32 * G) (33 * G)))) (request 1)
    -- and in time
    ∷ same_books
    (after mainnet (compounding 744 (33 * G)) (request 1))
    (with_exit_churn (128 * G - 1) 1005
    (with_pending_partial_withdrawals (partial 0 1 1261 ∷ []) (compounding 744 (33 * G))))
    ∷ []

pub withdrawal_edges_hold : all withdrawal_edges ≡ true
unfolding withdrawal_edges joined validator_numbers books_numbers same_books unchanged pays compounding alone
    request opened
withdrawal_edges_hold = refl
