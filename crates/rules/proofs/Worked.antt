-- Two worked lists of calls, computed by the checker: the example of the scope text, and one in which every term of
-- demand 3 is nonzero.
use Rattle.std.specs.Prelude.{◌≡◌, refl, true, false, List, [], ◌∷◌, map, ◌*◌}
use Rattle.rules.specs.Types.{FAR, Books}
use Rattle.rules.specs.Update.{with_exit, with_next_withdrawal, with_deposit_balance_to_consume}
use Rattle.rules.specs.Acceptance.{held}
use Rattle.rules.specs.Calls.{Call, run, answers}
use Rattle.rules.specs.Calls.{reward, penalty, deposit_receipt, voluntary_exit, withdrawals}
use Rattle.rules.specs.Calls.{turn, pending_balance_deposits}
use Rattle.rules.specs.Counting.{counted}
use Rattle.rules.specs.Examples.{G, mainnet, key, credentials, validator}
use Rattle.rules.specs.Examples.{deposit, partial, pending, withdrawal, books, call, opened}

-- ---- a turn, then twice an exit

pub example : Books
example = books (validator 1 1 (32 * G) (40 * G) ∷ []) (deposit 0 G ∷ []) [] []

pub example_calls : List Call
example_calls = call turn ∷ call (voluntary_exit 0 1000 true) ∷ call (voluntary_exit 0 1000 true) ∷ []

pub example_answers : answers mainnet example example_calls ≡ 0 ∷ 0 ∷ 12 ∷ []
unfolding example example_calls opened
example_answers = refl

pub example_total : held (run mainnet example example_calls) ≡ 41_000_000_000
unfolding example example_calls opened
example_total = refl

-- ---- every term nonzero

-- A carry of 1 G and three waiting deposits, the last too large for the first turn. Validator 0 will be switched by the
-- consolidation from validator 1. Validator 2 is withdrawable and has a partial withdrawal: the two together name more
-- than its balance.
pub opening : Books
opening =
    with_deposit_balance_to_consume G
    (with_next_withdrawal 7 0
    (books
    (validator 1 1 (32 * G) (40 * G)
    ∷ with_exit 990 995 (validator 2 2 (32 * G) (32 * G))
    ∷ with_exit FAR 5 (validator 3 1 (32 * G) (40 * G))
    ∷ validator 4 1 (32 * G) (33 * G)
    ∷ [])
    (deposit 0 (100 * G) ∷ deposit 1 (20 * G) ∷ deposit 2 (64 * G) ∷ [])
    (partial 2 (5 * G) 900 ∷ [])
    (pending 1 0 ∷ [])))

pub worked_calls : List Call
worked_calls =
    call (reward 0 (3 * G))
    -- 32 G are there
    ∷ call (penalty 1 (50 * G))
    -- the last takes the 35 G that are left, and stops at 0
    ∷ call (withdrawals
    (withdrawal 7 2 (5 * G) ∷ withdrawal 8 0 (11 * G) ∷ withdrawal 9 2 (40 * G) ∷ withdrawal 10 3 G ∷ []))
    -- refused: there is no validator 9
    ∷ call (reward 9 (5 * G))
    -- credits 100 G and 20 G; the consolidation switches validator 0 with an excess of 100 G
    ∷ call turn
    ∷ call (reward 3 (2 * G))
    -- switches validator 3 with an excess of 2 G
    ∷ call (deposit_receipt (key 4) (credentials 2 0) (6 * G) 0 true)
    -- an unknown key and a bad signature: answered 0, nothing counted
    ∷ call (deposit_receipt (key 5) (credentials 1 0) (6 * G) 1 false)
    -- credits 64 G; 100 G are too much
    ∷ call pending_balance_deposits
    ∷ []

pub worked_answers : answers mainnet opening worked_calls ≡ 0 ∷ 0 ∷ 0 ∷ 10 ∷ 0 ∷ 0 ∷ 0 ∷ 0 ∷ 0 ∷ []
unfolding opening worked_calls opened
worked_answers = refl

pub worked_counted : counted mainnet opening worked_calls ≡ record {
  taken_in = 11 * G;
  taken_out = 84 * G;
  credited = deposit 0 (100 * G) ∷ deposit 1 (20 * G) ∷ deposit 2 (64 * G) ∷ [];
  queued = deposit 0 (100 * G) ∷ deposit 3 (6 * G) ∷ deposit 3 (2 * G) ∷ [];
  allowance = 256 * G;
}
unfolding opening worked_calls opened
worked_counted = refl

-- 329 G + 11 G - 84 G = 256 G
pub worked_sums : (held opening ≡ 329 * G) × (held (run mainnet opening worked_calls) ≡ 256 * G)
unfolding opening worked_calls opened
worked_sums = (refl, refl)

-- the books reached: balances, and what still waits
pub worked_balances : map (λ v. v.balance) (run mainnet opening worked_calls).validators
    ≡ 52 * G ∷ 0 ∷ 64 * G ∷ 32 * G ∷ []
unfolding opening worked_calls opened
worked_balances = refl

pub worked_waiting : (run mainnet opening worked_calls).pending_balance_deposits
    ≡ deposit 0 (100 * G) ∷ deposit 3 (6 * G) ∷ deposit 3 (2 * G) ∷ []
unfolding opening worked_calls opened
worked_waiting = refl

-- 184 G are credited, within 1 G + 256 G; the rest is carried over
pub worked_carry : (run mainnet opening worked_calls).deposit_balance_to_consume ≡ 73 * G
unfolding opening worked_calls opened
worked_carry = refl
