-- What a function is told of a call that is handed to it by value: it can be written, unless its list is too long.
use Rattle.std.specs.Prelude.{◌≡◌, List, ℕ, ◌+◌, ◌*◌, ◌≤◌}
use Rattle.std.proofs.Common.{arith}
use mir.Val.{Val}
use denote.Laws.{Is}
use Rattle.calls_reader.specs.declared.Call.{Call}
use Rattle.calls_reader.specs.declared.Call.TheVariants.{Reward, Penalty, DepositReceipt, VoluntaryExit}
use Rattle.calls_reader.specs.declared.Call.TheVariants.{WithdrawalRequest, Consolidation, Turn, Withdrawals}
use Rattle.calls_reader.specs.contracts.Call.{the_row}
use Rattle.calls_reader.specs.Plain.{plain_call, IfWithdrawals}
use Rattle.calls_writer.specs.Known.{array_bytes}
use Rattle.calls_writer.specs.Fits.{Fits, turn_fits, reward_fits, penalty_fits, receipt_fits, exit_fits}
use Rattle.calls_writer.specs.Fits.{request_fits, consolidation_fits}
use Rattle.calls_writer.specs.Listed.{Listed, list_known, withdrawals_fits}

-- how many words it has with its code
abbrev pub call_width : Call → ℕ
call_width (Reward a) = 7
call_width (Penalty a) = 7
call_width (DepositReceipt r) = 35
call_width (VoluntaryExit e) = 8
call_width (WithdrawalRequest r) = 27
call_width (Consolidation c) = 11
call_width Turn = 1
call_width (Withdrawals w) = 2 + w.count * 16

-- a list has at most 16 withdrawals
abbrev pub Few : Call → Type 0
Few c = IfWithdrawals c (λ w. w.count ≤ 16)

pub listed_in : (c : Call) (vs : List Val) → Is the_row c vs → IfWithdrawals c (λ w. Listed w.list)
listed_in (Withdrawals w) vs p = list_known w.list _ p.1.1.1.1.0.1.1.0
listed_in (Reward a) vs p = tt
listed_in (Penalty a) vs p = tt
listed_in (DepositReceipt r) vs p = tt
listed_in (VoluntaryExit e) vs p = tt
listed_in (WithdrawalRequest r) vs p = tt
listed_in (Consolidation c) vs p = tt
listed_in Turn vs p = tt

pub call_fits : (c : Call) (vs : List Val) → Is the_row c vs → Few c → Fits (plain_call c) (call_width c)
call_fits (Reward a) vs p few = reward_fits _ _ (omega (arith, p)) (omega (arith, p))
call_fits (Penalty a) vs p few = penalty_fits _ _ (omega (arith, p)) (omega (arith, p))
call_fits (DepositReceipt r) vs p few =
    let fields = p.1.1.1.1.0.1.1 in
    receipt_fits _ _ _ _ _ (omega (arith, p)) (array_bytes 48 r.public_key _ fields.0) (omega (arith, p))
    (array_bytes 32 r.withdrawal_credentials _ fields.1.0) (omega (arith, p)) (omega (arith, p))
call_fits (VoluntaryExit e) vs p few = exit_fits _ _ _ (omega (arith, p)) (omega (arith, p))
call_fits (WithdrawalRequest r) vs p few =
    let fields = p.1.1.1.1.0.1.1 in
    request_fits _ _ _ (omega (arith, p)) (array_bytes 20 r.source_address _ fields.0) (omega (arith, p))
    (array_bytes 48 r.public_key _ fields.1.0) (omega (arith, p))
call_fits (Consolidation c) vs p few =
    consolidation_fits _ _ _ _ (omega (arith, p)) (omega (arith, p)) (omega (arith, p))
call_fits Turn vs p few = turn_fits
call_fits (Withdrawals w) vs p few =
    withdrawals_fits w.list w.count (listed_in (Withdrawals w) vs p) few

pub width_fits : (c : Call) (vs : List Val) → Is the_row c vs → {w : ℕ} → Few c × (w ≡ call_width c)
    → Fits (plain_call c) w
width_fits c vs p {w} f = rw f.1 (call_fits c vs p f.0)
