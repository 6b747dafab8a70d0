-- What the books hold after a call, from what they held before it: demand 3 of one call says what it took in and out.
use Rattle.std.specs.Prelude.{◌≡◌, Bool, List, [], ◌∷◌, ℕ, ◌+◌, ◌-◌, ◌≤◌, ◌<◌, min, length, drop, ltb, eqb}
use Rattle.std.proofs.Math.Path.{refl, sym, ap}
use Rattle.std.proofs.Common.{◌∙◌, append-nil, length-append, eq-eqb, ne_eqb, eqb-true}
use Rattle.std.proofs.Math.Bool.{true, false}
use native.Mathlib.Omega.{arith}
use Rattle.std.proofs.Math.ListN.{get_or-eq_default}
use Rattle.std.proofs.lemmas.Bool.{eqb-false}
use Rattle.lists.specs.Base.{when◌then◌else◌}
use Rattle.lists.specs.Laws.{if_true, if_false, by_test}
use Rattle.rules.specs.Types.{BOUND, Settings, PendingBalanceDeposit, Books}
use Rattle.rules.specs.Helpers.{at, count, position, no_validator}
use Rattle.rules.specs.Acceptance.{held}
use Rattle.rules.specs.Calls as calls
use Rattle.rules.specs.Calls.{Operation, Call, answer, after, done}
use Rattle.rules.specs.Counting.{Counted, takes_in, receipt_counts, deposit_step_counts, consolidation_step_counts}
use Rattle.rules.specs.Counting.{counts, call_counts}
use Rattle.conservation.proofs.Demand3.{demand_3}
use Rattle.primitives.specs.declared.Scalars.{Scalars}
use Rattle.records.specs.Books.{Tables, books_of, call_on, Called}
use Rattle.records.specs.Layout.{balance_at}
use Rattle.records.specs.Reading.{validators_count, deposits_count, validator_read}
use Rattle.acceptance.specs.Held.{balances_in, amounts_in, held_form}
use Rattle.file_format.specs.Calls.{call, call_format}
use Rattle.calls_reader.specs.Widths.{code_of}
use Rattle.calls_reader.specs.Plain.{kind_code}
use Rattle.calls_reader.specs.declared.Kind.{Kind}
use Rattle.calls_reader.specs.declared.Kind.TheVariants as kind
use Rattle.file_calls.specs.Laws.{of_code}

-- ---- definitions

-- what a penalty takes of the books; any other call counts as 0 here
abbrev pub penalty_taken : Operation → Books → ℕ
penalty_taken (calls.penalty i amount) b = min amount (at b.validators i).balance
penalty_taken (calls.reward i amount) b = 0
penalty_taken (calls.deposit_receipt public_key withdrawal_credentials amount index valid) b = 0
penalty_taken (calls.voluntary_exit i epoch valid) b = 0
penalty_taken (calls.withdrawal_request source_address public_key amount) b = 0
penalty_taken (calls.consolidation source_index target_index epoch valid) b = 0
penalty_taken (calls.withdrawals ws) b = 0
penalty_taken calls.turn b = 0
penalty_taken calls.pending_balance_deposits b = 0
penalty_taken calls.pending_consolidations b = 0
penalty_taken calls.effective_balance_updates b = 0

-- the sum after a call that was done, from the sum before it; `taken` is what a penalty took, `waiting` and `left` are
-- how many deposits wait before and after it, and `anew` is the sum found by adding up
abbrev pub done_sum : Operation → (sum taken waiting left anew : ℕ) → ℕ
done_sum (calls.penalty i amount) sum taken waiting left anew = sum - taken
done_sum (calls.reward i amount) sum taken waiting left anew = sum + amount
done_sum (calls.deposit_receipt public_key withdrawal_credentials amount index valid) sum taken waiting left anew =
    when eqb left waiting then sum else sum + amount
done_sum (calls.voluntary_exit i epoch valid) sum taken waiting left anew = sum
done_sum (calls.withdrawal_request source_address public_key amount) sum taken waiting left anew = sum
done_sum (calls.consolidation source_index target_index epoch valid) sum taken waiting left anew = sum
done_sum (calls.withdrawals ws) sum taken waiting left anew = anew
done_sum calls.turn sum taken waiting left anew = sum
done_sum calls.pending_balance_deposits sum taken waiting left anew = sum
done_sum calls.pending_consolidations sum taken waiting left anew = sum
done_sum calls.effective_balance_updates sum taken waiting left anew = sum

-- the sum after a call that answered n: a refusal moves nothing
unfoldable pub sum_after : Operation → (n sum taken waiting left anew : ℕ) → ℕ
sum_after op n sum taken waiting left anew = when eqb n 0 then done_sum op sum taken waiting left anew else sum

-- ---- demand 3 of one call that is done

record Moved (S : Settings) (b : Books) (op : Operation) (e : Books) : Type 0 where
  pub sums : held e + (counts S b op).taken_out ≡ held b + (counts S b op).taken_in
  pub queue : length (counts S b op).credited + length e.pending_balance_deposits
      ≡ length b.pending_balance_deposits + length (counts S b op).queued

counts_once : (S : Settings) (b : Books) (c : Call) → answer S b c ≡ 0
    → call_counts S b c ≡ counts S b c.operation
unfolding call_counts done
counts_once S b c h = if_true _ _ _ (eq-eqb (answer S b c) 0 h)

moved : (S : Settings) (b : Books) (c : Call) → answer S b c ≡ 0 → Moved S b c.operation (after S b c)
moved S b c h =
    let d = demand_3 S b (c ∷ []) in
    let e = counts_once S b c h in
    let sums = rw e at d.sums in
    let order = rw (e, append-nil (counts S b c.operation).credited, append-nil (counts S b c.operation).queued)
    at d.order in
    let sizes =
    sym (length-append (counts S b c.operation).credited (after S b c).pending_balance_deposits)
    ∙ ap length order
    ∙ length-append b.pending_balance_deposits (counts S b c.operation).queued in
    record { sums = omega (arith, sums); queue = sizes }

-- a receipt takes in its amount just where it queues an entry
record Intake (amount : ℕ) (k : Counted) : Type 0 where
  pub nothing_out : k.taken_out ≡ 0
  pub nothing_credited : length k.credited ≡ 0
  pub aside : length k.queued ≡ 0 → k.taken_in ≡ 0
  pub queued : (length k.queued ≡ 0 → ⊥) → k.taken_in ≡ amount

takes : (amount : ℕ) (d : PendingBalanceDeposit) (ds : List PendingBalanceDeposit)
    → Intake amount (takes_in amount (d ∷ ds))
takes amount d ds = record {
  nothing_out = refl;
  nothing_credited = refl;
  aside = λ z. let f : ⊥ = omega (arith, z) in absurd f;
  queued = λ _. refl;
}

receipt_intake : (S : Settings) (b : Books) (public_key withdrawal_credentials : List ℕ) (amount : ℕ) (valid : Bool)
    → Intake amount (receipt_counts S b public_key withdrawal_credentials amount valid)
unfolding receipt_counts
receipt_intake S b public_key withdrawal_credentials amount valid =
    by_test (Intake amount) (ltb (position public_key b.validators) (count b))
    (λ _. takes amount _ _)
    (λ _. by_test (Intake amount) valid
    (λ _. takes amount _ _)
    (λ _. record {
      nothing_out = refl;
      nothing_credited = refl;
      aside = λ _. refl;
      queued = λ z. absurd (z refl);
    }))

-- ---- the sum after a call

module _ (S : Settings) (b e : Books) {sum waiting left anew : ℕ} (p : sum ≡ held b)
    (w : waiting ≡ length b.pending_balance_deposits) (l : left ≡ length e.pending_balance_deposits)
    (a : anew ≡ held e) where
  receipt_sum : (k : Counted) (amount : ℕ) → Intake amount k
      → held e + k.taken_out ≡ held b + k.taken_in
      → length k.credited + length e.pending_balance_deposits
      ≡ length b.pending_balance_deposits + length k.queued
      → (when eqb left waiting then sum else sum + amount) ≡ held e
  receipt_sum k amount i m q =
      by_test (λ (n : ℕ). n ≡ held e) (eqb left waiting)
      (λ t.
      let z : length k.queued ≡ 0 = omega (arith, eqb-true left waiting t, q, i.nothing_credited, w, l) in
      omega (arith, i.aside z, i.nothing_out, m, p))
      (λ t.
      let z : length k.queued ≡ 0 → ⊥ =
      λ y. eqb-false left waiting t (omega (arith, y, q, i.nothing_credited, w, l)) in
      omega (arith, i.queued z, i.nothing_out, m, p))

  done_sum_known : (op : Operation) → Moved S b op e → done_sum op sum (penalty_taken op b) waiting left anew ≡ held e
  unfolding counts deposit_step_counts consolidation_step_counts
  done_sum_known (calls.reward i amount) m = omega (arith, m.sums, p)
  done_sum_known (calls.penalty i amount) m = omega (arith, m.sums, p)
  done_sum_known (calls.deposit_receipt public_key withdrawal_credentials amount index valid) m =
      receipt_sum _ amount (receipt_intake S b public_key withdrawal_credentials amount valid) m.sums m.queue
  done_sum_known (calls.voluntary_exit i epoch valid) m = omega (arith, m.sums, p)
  done_sum_known (calls.withdrawal_request source_address public_key amount) m = omega (arith, m.sums, p)
  done_sum_known (calls.consolidation source_index target_index epoch valid) m = omega (arith, m.sums, p)
  done_sum_known (calls.withdrawals ws) m = a
  done_sum_known calls.turn m = omega (arith, m.sums, p)
  done_sum_known calls.pending_balance_deposits m = omega (arith, m.sums, p)
  done_sum_known calls.pending_consolidations m = omega (arith, m.sums, p)
  done_sum_known calls.effective_balance_updates m = omega (arith, m.sums, p)

  taken_covered : (op : Operation) → Moved S b op e → penalty_taken op b ≤ sum
  unfolding counts
  taken_covered (calls.penalty i amount) m = omega (arith, m.sums, p)
  taken_covered (calls.reward i amount) m = omega arith
  taken_covered (calls.deposit_receipt public_key withdrawal_credentials amount index valid) m = omega arith
  taken_covered (calls.voluntary_exit i epoch valid) m = omega arith
  taken_covered (calls.withdrawal_request source_address public_key amount) m = omega arith
  taken_covered (calls.consolidation source_index target_index epoch valid) m = omega arith
  taken_covered (calls.withdrawals ws) m = omega arith
  taken_covered calls.turn m = omega arith
  taken_covered calls.pending_balance_deposits m = omega arith
  taken_covered calls.pending_consolidations m = omega arith
  taken_covered calls.effective_balance_updates m = omega arith

-- what is known of the sum before a call is made, and of what the call left
pub record Followed (op : Operation) (n sum taken waiting left anew : ℕ) : Type 0 where
  pub after : sum_after op n sum taken waiting left anew ≡ anew
  pub small : anew ≤ BOUND
  pub covered : n ≡ 0 → taken ≤ sum

module _ {S : Settings} {op : Operation} {s r : Scalars} {t u : Tables} {n : ℕ} where
  call_moved : Called S op s t u n r → n ≡ 0 → Moved S (books_of s t) op (books_of r u)
  call_moved c z = rw c.books (moved S (books_of s t) (call_on t op) (sym c.number ∙ z))

  sum_followed : {sum : ℕ} → Called S op s t u n r → sum ≡ held (books_of s t) → (k : Bool) → eqb n 0 ≡ k
      → (when k then done_sum op sum (penalty_taken op (books_of s t)) s.deposits r.deposits (held (books_of r u))
      else sum)
      ≡ held (books_of r u)
  unfolding when◌then◌else◌
  sum_followed c p true e =
      done_sum_known S (books_of s t) (books_of r u) p (sym (deposits_count s t)) (sym (deposits_count r u)) refl op
      (call_moved c (eqb-true n 0 e))
  sum_followed c p false e =
      let q = c.refused (eqb-false n 0 e) in
      p ∙ (λ j. held (books_of (sym q.0 j) (sym q.1 j)))

  pub followed : {sum : ℕ} → Called S op s t u n r → sum ≡ held (books_of s t) → held (books_of r u) ≤ BOUND
      → Followed op n sum (penalty_taken op (books_of s t)) s.deposits r.deposits (held (books_of r u))
  unfolding sum_after
  followed c p h = record {
    after = sum_followed c p (eqb n 0) refl;
    small = h;
    covered = λ z.
        taken_covered S (books_of s t) (books_of r u) p (sym (deposits_count s t)) (sym (deposits_count r u)) refl op
        (call_moved c z);
  }

  -- the same, with the sum that the tables hold
  pub followed_in : {sum taken : ℕ} → Called S op s t u n r → sum ≡ held (books_of s t) → held (books_of r u) ≤ BOUND
      → taken ≡ penalty_taken op (books_of s t)
      → Followed op n sum taken s.deposits r.deposits
      (balances_in r.validators u.validators + amounts_in r.deposits u.deposits)
  followed_in c p h q = rw (q, ← held_form r u) (followed c p h)

-- ---- the sum after the call of a file, by its kind

module _ (op : Operation) (n sum taken waiting left anew : ℕ) where
  pub sum_refused : (n ≡ 0 → ⊥) → sum ≡ sum_after op n sum taken waiting left anew
  unfolding sum_after
  sum_refused z = sym (if_false _ _ _ (ne_eqb n 0 z))

  -- `o` is the same operation, given in another way
  pub sum_as : (o : Operation) → o ≡ op → n ≡ 0 → {x : ℕ} → x ≡ done_sum o sum taken waiting left anew
      → x ≡ sum_after op n sum taken waiting left anew
  unfolding sum_after
  sum_as o e z {x} q =
      q ∙ ap (λ i. done_sum i sum taken waiting left anew) e ∙ sym (if_true _ _ _ (eq-eqb n 0 z))

module _ {op : Operation} {n sum taken waiting left anew : ℕ} (f : Followed op n sum taken waiting left anew) where
  pub refused_after : (n ≡ 0 → ⊥) → sum ≡ anew
  refused_after z = sum_refused op n sum taken waiting left anew z ∙ f.after

  pub as_after : (o : Operation) → o ≡ op → n ≡ 0 → done_sum o sum taken waiting left anew ≡ anew
  as_after o e z = sum_as op n sum taken waiting left anew o e z refl ∙ f.after

  -- a receipt
  module _ {public_key withdrawal_credentials : List ℕ} {amount index : ℕ} {valid : Bool}
      (e : calls.deposit_receipt public_key withdrawal_credentials amount index valid ≡ op) (z : n ≡ 0) where
    pub none_queued : left ≡ waiting → sum ≡ anew
    none_queued q = sym (if_true _ _ _ (eq-eqb left waiting q)) ∙ as_after _ e z

    pub some_queued : (left ≡ waiting → ⊥) → sum + amount ≡ anew
    some_queued q = sym (if_false _ _ _ (ne_eqb left waiting q)) ∙ as_after _ e z

-- a call that is no reward, penalty, receipt or list of withdrawals moves nothing
steady_sum : (k : Kind) (us : List ℕ) → (k ≡ kind.Reward → ⊥) → (k ≡ kind.Penalty → ⊥)
    → (k ≡ kind.DepositReceipt → ⊥) → (k ≡ kind.Withdrawals → ⊥) → (sum taken waiting left anew : ℕ)
    → sum ≡ done_sum ((call_format (kind_code k)).value us) sum taken waiting left anew
steady_sum kind.Reward us a b c d sum taken waiting left anew = absurd (a refl)
steady_sum kind.Penalty us a b c d sum taken waiting left anew = absurd (b refl)
steady_sum kind.DepositReceipt us a b c d sum taken waiting left anew = absurd (c refl)
steady_sum kind.VoluntaryExit us a b c d sum taken waiting left anew = refl
steady_sum kind.WithdrawalRequest us a b c d sum taken waiting left anew = refl
steady_sum kind.Consolidation us a b c d sum taken waiting left anew = refl
steady_sum kind.Turn us a b c d sum taken waiting left anew = refl
steady_sum kind.Withdrawals us a b c d sum taken waiting left anew = absurd (d refl)

no_penalty : (k : Kind) (us : List ℕ) → (k ≡ kind.Penalty → ⊥) → (b : Books)
    → 0 ≡ penalty_taken ((call_format (kind_code k)).value us) b
no_penalty kind.Reward us a b = refl
no_penalty kind.Penalty us a b = absurd (a refl)
no_penalty kind.DepositReceipt us a b = refl
no_penalty kind.VoluntaryExit us a b = refl
no_penalty kind.WithdrawalRequest us a b = refl
no_penalty kind.Consolidation us a b = refl
no_penalty kind.Turn us a b = refl
no_penalty kind.Withdrawals us a b = refl

-- us are the words of a call, from its code on
module _ (us : List ℕ) {k : Kind} (e : kind_code k ≡ code_of us) where
  pub steady_sum_after : (k ≡ kind.Reward → ⊥) → (k ≡ kind.Penalty → ⊥) → (k ≡ kind.DepositReceipt → ⊥)
      → (k ≡ kind.Withdrawals → ⊥) → (n sum taken waiting left anew : ℕ) → n ≡ 0
      → sum ≡ sum_after (call.value us) n sum taken waiting left anew
  steady_sum_after a b c d n sum taken waiting left anew z =
      sum_as (call.value us) n sum taken waiting left anew _ (of_code us (kind_code k) (sym e)) z
      (steady_sum k (drop 1 us) a b c d sum taken waiting left anew)

  pub steady_after : (k ≡ kind.Reward → ⊥) → (k ≡ kind.Penalty → ⊥) → (k ≡ kind.DepositReceipt → ⊥)
      → (k ≡ kind.Withdrawals → ⊥) → {n sum taken waiting left anew : ℕ}
      → Followed (call.value us) n sum taken waiting left anew → n ≡ 0 → sum ≡ anew
  steady_after a b c d {n} {sum} {taken} {waiting} {left} {anew} f z =
      steady_sum_after a b c d n sum taken waiting left anew z ∙ f.after

  pub other_taken : (k ≡ kind.Penalty → ⊥) → (b : Books) → 0 ≡ penalty_taken (call.value us) b
  other_taken h b =
      no_penalty k (drop 1 us) h b ∙ ap (λ o. penalty_taken o b) (of_code us (kind_code k) (sym e))

-- ---- what a penalty takes, from the tables

module _ (s : Scalars) (t : Tables) (i amount : ℕ) (op : Operation) (e : calls.penalty i amount ≡ op) where
  pub penalty_beyond : s.validators ≤ i → 0 ≡ penalty_taken op (books_of s t)
  penalty_beyond h =
      let n : length (books_of s t).validators ≤ i = omega (arith, validators_count s t) in
      let z = ap (λ v. v.balance) (get_or-eq_default (books_of s t).validators no_validator n) in
      let y : 0 ≡ min amount (at (books_of s t).validators i).balance = omega (arith, z) in
      y ∙ ap (λ o. penalty_taken o (books_of s t)) e

  pub penalty_within : i < s.validators → {x : ℕ} → x ≡ min amount (balance_at t.validators i)
      → x ≡ penalty_taken op (books_of s t)
  penalty_within h q =
      q
      ∙ ap (λ v. min amount v.balance) (sym (validator_read s t i h))
      ∙ ap (λ o. penalty_taken o (books_of s t)) e
