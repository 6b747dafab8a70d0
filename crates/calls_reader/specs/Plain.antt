-- The rules' operation of each call.
use Rattle.std.specs.Prelude.{◌≡◌, true, map, List, ℕ, zero, suc, drop}
use Rattle.std.proofs.Common.{refl, sym, ap, ◌∙◌}
use Rattle.rules.specs.Calls.{Operation, reward, penalty, deposit_receipt, voluntary_exit, withdrawal_request}
use Rattle.rules.specs.Calls.{consolidation, turn, withdrawals}
use Rattle.expected_withdrawals.specs.Expected.{coded_withdrawal, padded, handed_list}
use Rattle.file_format.specs.Calls.{call, call_format}
use Rattle.file_format.proofs.FieldsLaws.{impossible}
use Rattle.calls_reader.specs.Widths.{code_of, call_value, fields_good}
use Rattle.calls_reader.specs.declared.Kind.{Kind}
use Rattle.calls_reader.specs.declared.Kind.TheVariants as kind
use Rattle.calls_reader.specs.declared.Withdrawals as listed
use Rattle.calls_reader.specs.declared.Call.{Call}
use Rattle.calls_reader.specs.declared.Call.TheVariants.{Reward, Penalty, DepositReceipt, VoluntaryExit}
use Rattle.calls_reader.specs.declared.Call.TheVariants.{WithdrawalRequest, Consolidation, Turn, Withdrawals}

abbrev pub plain_call : Call → Operation
plain_call (Reward a) = reward a.i.0 a.amount.0
plain_call (Penalty a) = penalty a.i.0 a.amount.0
plain_call (DepositReceipt r) =
    deposit_receipt r.public_key r.withdrawal_credentials r.amount.0 r.index r.valid
plain_call (VoluntaryExit e) = voluntary_exit e.i.0 e.epoch.0 e.valid
plain_call (WithdrawalRequest r) = withdrawal_request r.source_address r.public_key r.amount.0
plain_call (Consolidation c) = consolidation c.source_index.0 c.target_index.0 c.epoch.0 c.valid
plain_call Turn = turn
plain_call (Withdrawals w) = withdrawals (handed_list w.list w.count)

-- what holds of a list of withdrawals
abbrev pub IfWithdrawals : Call → (listed.Withdrawals → Type 0) → Type 0
IfWithdrawals (Withdrawals w) P = P w
IfWithdrawals _ P = Unit

-- the records past a list's withdrawals are blank
abbrev pub BlankBehind : Call → Type 0
BlankBehind c = IfWithdrawals c (λ w. w.list ≡ map coded_withdrawal (padded 16 (handed_list w.list w.count)))

-- ---- the code of each kind

abbrev pub kind_code : Kind → ℕ
kind_code kind.Reward = 1
kind_code kind.Penalty = 2
kind_code kind.DepositReceipt = 3
kind_code kind.VoluntaryExit = 4
kind_code kind.WithdrawalRequest = 5
kind_code kind.Consolidation = 6
kind_code kind.Turn = 7
kind_code kind.Withdrawals = 8

-- 7 is the one code left
code_left : (c : ℕ) (us : List ℕ) → (call_format c).ok us ≡ true → (c ≡ 1 → ⊥) → (c ≡ 2 → ⊥) → (c ≡ 3 → ⊥)
    → (c ≡ 4 → ⊥) → (c ≡ 5 → ⊥) → (c ≡ 6 → ⊥) → (c ≡ 8 → ⊥) → 7 ≡ c
code_left zero us e n₁ n₂ n₃ n₄ n₅ n₆ n₈ = impossible e
code_left (suc zero) us e n₁ n₂ n₃ n₄ n₅ n₆ n₈ = absurd (n₁ refl)
code_left (suc (suc zero)) us e n₁ n₂ n₃ n₄ n₅ n₆ n₈ = absurd (n₂ refl)
code_left (suc (suc (suc zero))) us e n₁ n₂ n₃ n₄ n₅ n₆ n₈ = absurd (n₃ refl)
code_left (suc (suc (suc (suc zero)))) us e n₁ n₂ n₃ n₄ n₅ n₆ n₈ = absurd (n₄ refl)
code_left (suc (suc (suc (suc (suc zero))))) us e n₁ n₂ n₃ n₄ n₅ n₆ n₈ = absurd (n₅ refl)
code_left (suc (suc (suc (suc (suc (suc zero)))))) us e n₁ n₂ n₃ n₄ n₅ n₆ n₈ = absurd (n₆ refl)
code_left (suc (suc (suc (suc (suc (suc (suc zero))))))) us e n₁ n₂ n₃ n₄ n₅ n₆ n₈ = refl
code_left (suc (suc (suc (suc (suc (suc (suc (suc zero)))))))) us e n₁ n₂ n₃ n₄ n₅ n₆ n₈ = absurd (n₈ refl)
code_left (suc (suc (suc (suc (suc (suc (suc (suc (suc c))))))))) us e n₁ n₂ n₃ n₄ n₅ n₆ n₈ = impossible e

pub turn_code : (us : List ℕ) {c : ℕ} → call.ok us ≡ true → c ≡ code_of us → (c ≡ 1 → ⊥) → (c ≡ 2 → ⊥)
    → (c ≡ 3 → ⊥) → (c ≡ 4 → ⊥) → (c ≡ 5 → ⊥) → (c ≡ 6 → ⊥) → (c ≡ 8 → ⊥) → 7 ≡ code_of us
turn_code us {c} e q n₁ n₂ n₃ n₄ n₅ n₆ n₈ =
    let good = ap (λ n. (call_format n).ok (drop 1 us)) q ∙ fields_good us e in
    code_left c (drop 1 us) good n₁ n₂ n₃ n₄ n₅ n₆ n₈ ∙ q

pub turn_read : (us : List ℕ) → 7 ≡ code_of us → turn ≡ call.value us
turn_read us e = ap (λ n. (call_format n).value (drop 1 us)) e ∙ sym (call_value us)
