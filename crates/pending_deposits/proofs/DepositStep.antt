-- The crediting of deposits one by one, the deposit loop by what is credited, and the step from what its parts did.
use mathlib.Core.Path.{◌≡◌, refl, sym, ap, ◌∙◌}
use mathlib.Core.Bool.{true}
use mathlib.Core.List.{List, [], ◌∷◌, ◌++◌}
use Prim.Native.Nat.{ℕ, ◌+◌, ◌-◌, ◌<◌, ◌≤◌}
use native.Mathlib.Omega.{arith}
use lib.ListN.{length, drop, length-append}
use lib.Seq.{take-append_seam}
use borrow.Author.Tests.{ltb-true}
use Rattle.lists.specs.Base.{when◌then◌else◌, adjust, total, every, empty}
use Rattle.lists.specs.Laws.{total_adjust, total_append}
use Rattle.tables.specs.Rows.{rows, length_rows, drop_rows_at, drop_rows_end}
use Rattle.tables.specs.Totals.{total_at_most}
use Rattle.tables.specs.Tests.{every_row}
use Rattle.rules.specs.Types.{BOUND, Settings, Validator, PendingBalanceDeposit}
use Rattle.rules.specs.Helpers.{no_validator, increased, get_activation_exit_churn_limit}
use Rattle.rules.specs.EpochProcessing.{process_pending_balance_deposits}
use Rattle.rules.specs.Acceptance.{deposit_amounts, deposit_in}
use Rattle.rules.specs.Counting.{affordable}
use Rattle.rule_laws.specs.Deposits.{affordable_prefix, affordable_every, affordable_limit}
use Rattle.rule_laws.specs.Deposits.{credit, process_deposits_form}
use Rattle.primitives.specs.declared.Scalars.{Scalars}
use Rattle.primitives.specs.Scalars.{with_deposit_balance_to_consume}
use Rattle.records.specs.declared.queues.PendingBalanceDeposit as declared
use Rattle.records.specs.Layout.{validator_at, deposit_at, balance_at, validators_past}
use Rattle.records.specs.Plain.{plain_deposit}
use Rattle.records.specs.Books.{Tables, tables, Stepped, books_of, deposits_of}
use Rattle.records.specs.Stores.{ValidatorAdjusted}
use Rattle.records.specs.Queues.{DepositsDrained}
use Rattle.waiting_deposits.specs.Blocks.{Affordable, take_rows}
use Rattle.pending_deposits.specs.Deposits.{validator_balances, Credited, Processed}

abbrev amount_of : PendingBalanceDeposit → ℕ
amount_of d = d.amount

abbrev balance_of : Validator → ℕ
balance_of v = v.balance

-- ---- the crediting loop

-- i deposits of the first c are credited
pub record Crediting (n c : ℕ) (ds old new : List ℕ) (i : ℕ) : Type 0 where
  pub left : (ids : List ℕ)
      → credit (drop i (rows c (deposit_at ds))) (rows n (validator_at ids new))
      ≡ credit (rows c (deposit_at ds)) (rows n (validator_at ids old))
  pub past : validators_past n new ≡ validators_past n old
  pub size : length new ≡ length old
  pub sums : (ids : List ℕ)
      → validator_balances (rows n (validator_at ids new)) + deposit_amounts (drop i (rows c (deposit_at ds))) ≤ BOUND

module _ {n c : ℕ} {ds old new : List ℕ} {i : ℕ} (h : Crediting n c ds old new i) where
  pub crediting_end : c ≤ i → Credited n c ds old new
  crediting_end e = record {
    validators = λ ids. rw (drop_rows_end c (deposit_at ds) i e) at (h.left ids);
    past = h.past;
  }

  -- at the deposit d that the code has read
  module _ (more : i < c) (d : declared.PendingBalanceDeposit) (e : plain_deposit d ≡ deposit_at ds i)
      (known : every (deposit_in n) (rows c (deposit_at ds)) ≡ true) where
    here : drop i (rows c (deposit_at ds)) ≡ plain_deposit d ∷ drop (i + 1) (rows c (deposit_at ds))
    here = rw e (drop_rows_at c (deposit_at ds) i more)

    amounts : deposit_amounts (drop i (rows c (deposit_at ds)))
        ≡ d.amount.0 + deposit_amounts (drop (i + 1) (rows c (deposit_at ds)))
    amounts = ap (total amount_of) here

    pub index_known : d.index.0 < n
    index_known =
        ltb-true d.index.0 n
        (ap (deposit_in n) e ∙ every_row (deposit_in n) c (deposit_at ds) known i more)

    pub balance_small : balance_at new d.index.0 + d.amount.0 ≤ BOUND
    balance_small =
        omega (
          arith,
          amounts,
          h.sums [],
          total_at_most balance_of n (validator_at [] new) d.index.0 index_known,
        )

    pub crediting_more : (next : List ℕ) → ValidatorAdjusted d.index.0 (increased d.amount.0) new next
        → length next ≡ length new → Crediting n c ds old next (i + 1)
    crediting_more next a size =
        let j = d.index.0 in
        let grown : (ids : List ℕ) → validator_balances (rows n (validator_at ids next))
        ≡ validator_balances (rows n (validator_at ids new)) + d.amount.0
        = λ ids.
        ap validator_balances (a.validators ids n)
        ∙ balances_grown n (validator_at ids new) j d.amount.0 index_known in
        record {
          left = λ ids.
              rw (a.validators ids n)
              (sym (ap (λ l. credit l (rows n (validator_at ids new))) here) ∙ h.left ids);
          past = a.past n index_known ∙ h.past;
          size = size ∙ h.size;
          sums = λ ids. omega (arith, grown ids, amounts, h.sums ids);
        }
      where
        balances_grown : (n : ℕ) (g : ℕ → Validator) (j x : ℕ) → j < n
            → validator_balances (adjust j (increased x) (rows n g)) ≡ validator_balances (rows n g) + x
        balances_grown n g j x p =
            let q : j < length (rows n g) = rw (length_rows n g) p in
            omega (arith, total_adjust balance_of j (increased x) (rows n g) no_validator q)

-- ---- the deposits that are credited, of the first m

module _ (available m count left : ℕ) (ds : List ℕ)
    (is : Affordable available (rows m (deposit_at ds)) count left) where
  abbrev queue_of : List PendingBalanceDeposit
  queue_of = rows m (deposit_at ds)

  abbrev paid : List PendingBalanceDeposit
  paid = affordable available 0 queue_of

  whole : paid ++ drop (length paid) queue_of ≡ queue_of
  whole = affordable_prefix available 0 queue_of

  pub paid_reached : count ≤ m
  paid_reached =
      let sizes = ap length whole in
      let apart = length-append paid (drop (length paid) queue_of) in
      omega (arith, is.count, sizes, apart, length_rows m (deposit_at ds))

  paid_first : paid ≡ rows count (deposit_at ds)
  paid_first =
      sym (take-append_seam paid (drop (length paid) queue_of))
      ∙ rw (whole, ← is.count) (take_rows count m (deposit_at ds) paid_reached)

  pub paid_known : (n : ℕ) → every (deposit_in n) queue_of ≡ true
      → every (deposit_in n) (rows count (deposit_at ds)) ≡ true
  paid_known n h = rw paid_first at (affordable_every (deposit_in n) available 0 queue_of h)

  pub paid_small : (held : ℕ) → held + deposit_amounts queue_of ≤ BOUND
      → held + deposit_amounts (rows count (deposit_at ds)) ≤ BOUND
  paid_small held h =
      let sums = ap deposit_amounts whole in
      let apart = total_append amount_of paid (drop (length paid) queue_of) in
      omega (arith, h, sums, apart, ap deposit_amounts paid_first)

  paid_within : deposit_amounts paid ≤ available
  paid_within = omega (arith, affordable_limit available 0 queue_of (omega arith))

  pub processed : {n : ℕ} {old new : List ℕ} → Credited n count ds old new
      → Processed available n m ds old new (available - left) count
  processed {n} {old} {new} c = record {
    loop = λ ids.
        process_deposits_form available 0 queue_of (rows n (validator_at ids old))
        ∙ λ i. record {
          validators = credited ids i;
          waiting = drop (sym is.count i) queue_of;
          processed_amount = spent i;
        };
    reached = paid_reached;
    within = omega arith;
    past = c.past;
  }
    where
      credited : (ids : List ℕ) → credit paid (rows n (validator_at ids old)) ≡ rows n (validator_at ids new)
      credited ids = ap (λ l. credit l (rows n (validator_at ids old))) paid_first ∙ sym (c.validators ids)

      spent : 0 + deposit_amounts paid ≡ available - left
      spent = omega (arith, is.left, paid_within)

-- ---- the step

module _ (S : Settings) (s : Scalars) (t : Tables) (allowance available amount next left : ℕ) (vs ds : List ℕ)
    (limit : allowance ≡ get_activation_exit_churn_limit S (books_of s t))
    (sum : available ≡ s.deposit_balance_to_consume.0 + allowance)
    (processed : Processed available s.validators s.deposits t.deposits t.validators vs amount next)
    (rest : next + left ≡ s.deposits) (drained : DepositsDrained next left t.deposits ds) where
  -- the tables as the step leaves them
  abbrev tables_after : Tables
  tables_after = tables t.identities vs ds t.partials t.consolidations

  queue : rows left (deposit_at ds) ≡ drop next (deposits_of s t.deposits)
  queue = rw (← rest) drained.records

  stepped : (carry : ℕ)
      → (when empty (drop next (deposits_of s t.deposits)) then 0 else available - amount) ≡ carry
      → Stepped (process_pending_balance_deposits S) s t tables_after (with_deposit_balance_to_consume s carry left)
  unfolding books_of process_pending_balance_deposits
  stepped carry e = record {
    books = simp (← limit, ← sum, processed.loop t.identities, e, queue);
    beyond = record {
      identities = refl;
      validators = processed.past;
      deposits = drained.past;
      partials = refl;
      consolidations = refl;
    };
  }

  -- no deposit waits
  pub emptied : left ≡ 0
      → Stepped (process_pending_balance_deposits S) s t tables_after (with_deposit_balance_to_consume s 0 left)
  unfolding when◌then◌else◌
  emptied e = stepped 0 (rw (drop_rows_end s.deposits (deposit_at t.deposits) next (omega arith)))

  pub waiting : 0 < left
      → Stepped (process_pending_balance_deposits S) s t tables_after
      (with_deposit_balance_to_consume s (available - amount) left)
  unfolding when◌then◌else◌
  waiting e =
      stepped (available - amount) (rw (drop_rows_at s.deposits (deposit_at t.deposits) next (omega arith)))
