-- The number of each answer, and the value that it comes with.
use Rattle.std.specs.Prelude.{◌≡◌, refl, ℕ, Result, Ok, Err, eqb}
use Rattle.std.specs.Result.{result_unwrap_or}
use Rattle.std.proofs.Common.{ap, sym, ◌∙◌, arith}
use Rattle.lists.specs.Base.{when◌then◌else◌}
use Rattle.primitives.specs.declared.Gwei.{Gwei}
use Rattle.primitives.specs.declared.answers.Refusal.{Refusal}
use Rattle.primitives.specs.declared.answers.Refusal.TheVariants.{UnsoundSettings, UnsoundBooks, ShortBuffer}
use Rattle.primitives.specs.declared.answers.Refusal.TheVariants.{NoSuchValidator, NotActive, ExitBegun}
use Rattle.primitives.specs.declared.answers.Refusal.TheVariants.{StatedEpochAhead, ActiveTooShort, PartialsWaiting}
use Rattle.primitives.specs.declared.answers.Refusal.TheVariants.{BadSignature, ConsolidationQueueFull}
use Rattle.primitives.specs.declared.answers.Refusal.TheVariants.{ConsolidationChurnTooLow, SourceIsTarget}
use Rattle.primitives.specs.declared.answers.Refusal.TheVariants.{NoExecutionCredential, AddressesDiffer}
use Rattle.primitives.specs.declared.answers.Refusal.TheVariants.{WithdrawalsNotExpected, ResultOverLimit}
use Rattle.primitives.specs.declared.answers.Refusal.TheVariants.{ResultSumsOverBound, ResultEpochOverBound}
use Rattle.primitives.specs.declared.answers.Refusal.TheVariants.{ChurnZero, BrokenFile, WriterBufferShort}

abbrev pub refusal_number : Refusal → ℕ
refusal_number UnsoundSettings = 1
refusal_number UnsoundBooks = 2
refusal_number ShortBuffer = 3
refusal_number NoSuchValidator = 10
refusal_number NotActive = 11
refusal_number ExitBegun = 12
refusal_number StatedEpochAhead = 13
refusal_number ActiveTooShort = 14
refusal_number PartialsWaiting = 15
refusal_number BadSignature = 16
refusal_number ConsolidationQueueFull = 20
refusal_number ConsolidationChurnTooLow = 21
refusal_number SourceIsTarget = 22
refusal_number NoExecutionCredential = 23
refusal_number AddressesDiffer = 24
refusal_number WithdrawalsNotExpected = 30
refusal_number ResultOverLimit = 40
refusal_number ResultSumsOverBound = 41
refusal_number ResultEpochOverBound = 42
refusal_number ChurnZero = 50
refusal_number BrokenFile = 60
refusal_number WriterBufferShort = 61

-- a call that is done answers 0
abbrev pub answer_number : {A : Type 0} → Result A Refusal → ℕ
answer_number (Ok _) = 0
answer_number (Err e) = refusal_number e

-- its value; d of a refusal
abbrev pub answer_or : {A : Type 0} → A → Result A Refusal → A
answer_or d r = result_unwrap_or r d

-- the sum that comes with an answer; 0 of a refusal
abbrev pub sum_of : Result Gwei Refusal → ℕ
sum_of (Ok x) = x.0
sum_of (Err _) = 0

-- ---- number and value leave no second answer

refusal_of : ℕ → Refusal
refusal_of n =
    when eqb n 1 then UnsoundSettings else
    when eqb n 2 then UnsoundBooks else
    when eqb n 3 then ShortBuffer else
    when eqb n 10 then NoSuchValidator else
    when eqb n 11 then NotActive else
    when eqb n 12 then ExitBegun else
    when eqb n 13 then StatedEpochAhead else
    when eqb n 14 then ActiveTooShort else
    when eqb n 15 then PartialsWaiting else
    when eqb n 16 then BadSignature else
    when eqb n 20 then ConsolidationQueueFull else
    when eqb n 21 then ConsolidationChurnTooLow else
    when eqb n 22 then SourceIsTarget else
    when eqb n 23 then NoExecutionCredential else
    when eqb n 24 then AddressesDiffer else
    when eqb n 30 then WithdrawalsNotExpected else
    when eqb n 40 then ResultOverLimit else
    when eqb n 41 then ResultSumsOverBound else
    when eqb n 42 then ResultEpochOverBound else
    when eqb n 50 then ChurnZero else
    when eqb n 60 then BrokenFile else
    WriterBufferShort

refusal_told : (e : Refusal) → refusal_of (refusal_number e) ≡ e
unfolding refusal_of when◌then◌else◌
refusal_told UnsoundSettings = refl
refusal_told UnsoundBooks = refl
refusal_told ShortBuffer = refl
refusal_told NoSuchValidator = refl
refusal_told NotActive = refl
refusal_told ExitBegun = refl
refusal_told StatedEpochAhead = refl
refusal_told ActiveTooShort = refl
refusal_told PartialsWaiting = refl
refusal_told BadSignature = refl
refusal_told ConsolidationQueueFull = refl
refusal_told ConsolidationChurnTooLow = refl
refusal_told SourceIsTarget = refl
refusal_told NoExecutionCredential = refl
refusal_told AddressesDiffer = refl
refusal_told WithdrawalsNotExpected = refl
refusal_told ResultOverLimit = refl
refusal_told ResultSumsOverBound = refl
refusal_told ResultEpochOverBound = refl
refusal_told ChurnZero = refl
refusal_told BrokenFile = refl
refusal_told WriterBufferShort = refl

pub refusal_not_0 : (e : Refusal) → refusal_number e ≡ 0 → ⊥
refusal_not_0 UnsoundSettings h = omega (arith, h)
refusal_not_0 UnsoundBooks h = omega (arith, h)
refusal_not_0 ShortBuffer h = omega (arith, h)
refusal_not_0 NoSuchValidator h = omega (arith, h)
refusal_not_0 NotActive h = omega (arith, h)
refusal_not_0 ExitBegun h = omega (arith, h)
refusal_not_0 StatedEpochAhead h = omega (arith, h)
refusal_not_0 ActiveTooShort h = omega (arith, h)
refusal_not_0 PartialsWaiting h = omega (arith, h)
refusal_not_0 BadSignature h = omega (arith, h)
refusal_not_0 ConsolidationQueueFull h = omega (arith, h)
refusal_not_0 ConsolidationChurnTooLow h = omega (arith, h)
refusal_not_0 SourceIsTarget h = omega (arith, h)
refusal_not_0 NoExecutionCredential h = omega (arith, h)
refusal_not_0 AddressesDiffer h = omega (arith, h)
refusal_not_0 WithdrawalsNotExpected h = omega (arith, h)
refusal_not_0 ResultOverLimit h = omega (arith, h)
refusal_not_0 ResultSumsOverBound h = omega (arith, h)
refusal_not_0 ResultEpochOverBound h = omega (arith, h)
refusal_not_0 ChurnZero h = omega (arith, h)
refusal_not_0 BrokenFile h = omega (arith, h)
refusal_not_0 WriterBufferShort h = omega (arith, h)

pub refusal_fixed : (e f : Refusal) → refusal_number e ≡ refusal_number f → e ≡ f
refusal_fixed e f h = sym (refusal_told e) ∙ ap refusal_of h ∙ refusal_told f

pub answer_fixed : {A : Type 0} (d : A) (r q : Result A Refusal) → answer_number r ≡ answer_number q
    → answer_or d r ≡ answer_or d q → r ≡ q
answer_fixed d (Ok x) (Ok y) n v = ap Ok v
answer_fixed d (Ok x) (Err f) n v = absurd (refusal_not_0 f (sym n))
answer_fixed d (Err e) (Ok y) n v = absurd (refusal_not_0 e n)
answer_fixed d (Err e) (Err f) n v = ap Err (refusal_fixed e f n)

pub sum_fixed : (r q : Result Gwei Refusal) → answer_number r ≡ answer_number q → sum_of r ≡ sum_of q → r ≡ q
sum_fixed (Ok x) (Ok y) n v = ap (λ (k : ℕ). Ok (record { 0 = k })) v
sum_fixed (Ok x) (Err f) n v = absurd (refusal_not_0 f (sym n))
sum_fixed (Err e) (Ok y) n v = absurd (refusal_not_0 e n)
sum_fixed (Err e) (Err f) n v = ap Err (refusal_fixed e f n)
