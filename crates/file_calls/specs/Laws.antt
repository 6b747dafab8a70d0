-- A call by its code, and a bound on the sum that the books hold.
use Rattle.std.specs.Prelude.{◌≡◌, refl, List, ℕ, ◌≤◌, drop}
use Rattle.std.proofs.Common.{sym, ap, ◌∙◌, arith}
use Rattle.rules.specs.Types as rule
use Rattle.rules.specs.Types.{BOUND}
use Rattle.primitives.specs.declared.Scalars.{Scalars}
use Rattle.records.specs.Books.{Tables}
use Rattle.acceptance.specs.Handed.{facts}
use Rattle.file_format.specs.Calls.{written, call, call_format}
use Rattle.calls_reader.specs.Widths.{code_of, call_value}
use Rattle.calls_reader.specs.Plain.{kind_code}
use Rattle.calls_reader.specs.declared.Kind.{Kind}
use Rattle.calls_reader.specs.declared.Kind.TheVariants as kind
use Rattle.file_calls.specs.Ready.{Accepted, Holds}

-- ---- us are the words of a call, from its code on

pub of_code : (us : List ℕ) (c : ℕ) → code_of us ≡ c → (call_format c).value (drop 1 us) ≡ call.value us
of_code us c e = ap (λ n. (call_format n).value (drop 1 us)) (sym e) ∙ sym (call_value us)

code_kept : (k : Kind) (us : List ℕ) → kind_code k ≡ (written ((call_format (kind_code k)).value us)).code
code_kept kind.Reward us = refl
code_kept kind.Penalty us = refl
code_kept kind.DepositReceipt us = refl
code_kept kind.VoluntaryExit us = refl
code_kept kind.WithdrawalRequest us = refl
code_kept kind.Consolidation us = refl
code_kept kind.Turn us = refl
code_kept kind.Withdrawals us = refl

-- its code is written as it was read
pub code_written : (k : Kind) (us : List ℕ) → kind_code k ≡ code_of us → kind_code k ≡ (written (call.value us)).code
code_written k us e = code_kept k (drop 1 us) ∙ ap (λ o. (written o).code) (of_code us (kind_code k) (sym e))

-- ---- the sum that the books hold

-- it is within the bound
pub sum_small : (S : rule.Settings) (s : Scalars) (t : Tables) {sum : ℕ} → Accepted S s t → Holds s t sum → sum ≤ BOUND
sum_small S s t h e = omega (arith, e, (facts S s t h).books.held_small)
