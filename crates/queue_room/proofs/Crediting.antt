-- The deposit loop on the switchable balances.
use mathlib.Core.Path.{◌≡◌, refl, sym, ap, ◌∙◌}
use mathlib.Core.Bool.{true}
use mathlib.Core.List.{List, [], ◌∷◌}
use Prim.Native.Nat.{ℕ, ◌+◌, ◌<◌, ◌≤◌}
use native.Mathlib.Omega.{arith}
use lib.ListN.{length, get_or, drop, length-set}
use borrow.Author.Tests.{ltb-true, lt-ltb, le-ltb}
use Rattle.lists.specs.Base.{adjust, total, every}
use Rattle.lists.specs.Laws.{if_true, if_false, length_adjust, total_adjust}
use Rattle.tables.specs.Rows.{rows, length_rows, get_d_rows, drop_rows_at}
use Rattle.tables.specs.Tests.{every_row}
use Rattle.rules.specs.Types.{BOUND, Validator, PendingBalanceDeposit}
use Rattle.rules.specs.Update.{with_balance}
use Rattle.rules.specs.Helpers.{at, no_validator, prefix, increased}
use Rattle.rules.specs.EpochProcessing.{Deposited, process_deposits}
use Rattle.rules.specs.Acceptance.{deposit_amounts, deposit_in}
use Rattle.records.specs.Layout.{validator_at, withdrawal_credentials_at, deposit_at}
use Rattle.queue_room.specs.Laws.{adjust_keeps}
use Rattle.queue_room.specs.Balances.{Switchable, switchable_at_most, credited_balances, switchable_credit}
use Rattle.queue_room.specs.Represented.{DepositsProcessed}

abbrev balances : List Validator → ℕ
balances vs = total (λ v. v.balance) vs

abbrev prefix_of : Validator → ℕ
prefix_of v = prefix v.withdrawal_credentials

member_at_most : (i : ℕ) (vs : List Validator) → i < length vs → (at vs i).balance ≤ balances vs
member_at_most i vs h =
    omega (arith, total_adjust (λ (v : Validator). v.balance) i (with_balance 0) vs no_validator h)

-- k of the deposits ds are credited, and `now` are the validators that this leaves
pub record Crediting (available n : ℕ) (ids : List ℕ) (vs : List Validator) (ds : List PendingBalanceDeposit)
    (w : List ℕ) (processed k : ℕ) : Type 0 where
  pub now : List Validator
  pub left : process_deposits available processed (drop k ds) now ≡ process_deposits available 0 ds vs
  pub registered : length now ≡ n
  pub size : length w ≡ 65536
  pub switchable : Switchable n now w
  pub prefixes : (j : ℕ) → j < n → prefix_of (at now j) ≡ prefix (withdrawal_credentials_at ids j)
  pub held_small : balances now + deposit_amounts (drop k ds) ≤ BOUND
  pub processed_small : processed + deposit_amounts (drop k ds) ≤ BOUND

pub crediting_none : {available : ℕ} (n : ℕ) (ids ws : List ℕ) {ds : List PendingBalanceDeposit} {w : List ℕ}
    → length w ≡ 65536 → Switchable n (rows n (validator_at ids ws)) w
    → balances (rows n (validator_at ids ws)) + deposit_amounts ds ≤ BOUND
    → Crediting available n ids (rows n (validator_at ids ws)) ds w 0 0
crediting_none n ids ws e h small = record {
  now = rows n (validator_at ids ws);
  left = refl;
  registered = length_rows n (validator_at ids ws);
  size = e;
  switchable = h;
  prefixes = λ j p. ap prefix_of (get_d_rows n (validator_at ids ws) j no_validator p);
  held_small = small;
  processed_small = omega arith;
}

module _ {available n : ℕ} {ids : List ℕ} {vs : List Validator} {ds : List PendingBalanceDeposit}
    {w : List ℕ} {processed k : ℕ} (l : Crediting available n ids vs ds w processed k) where
  -- where the loop credits no more
  abbrev stays : Deposited
  stays = record { validators = l.now; waiting = drop k ds; processed_amount = processed }

  processed_so : k ≤ length ds → process_deposits available processed (drop k ds) l.now ≡ stays
      → DepositsProcessed available n ds vs w k
  processed_so h e =
      let f = sym l.left ∙ e in
      record {
        balances = rw (ap (λ (d : Deposited). d.validators) f) l.switchable;
        waiting = ap (λ (d : Deposited). d.waiting) f;
        most = h;
      }

  pub crediting_end : k ≤ length ds → drop k ds ≡ [] → DepositsProcessed available n ds vs w k
  unfolding process_deposits
  crediting_end h e = processed_so h (rw e)

  module _ (d : PendingBalanceDeposit) (e : drop k ds ≡ d ∷ drop (k + 1) ds) where
    pub crediting_small : processed + d.amount ≤ BOUND
    crediting_small = omega (arith, l.processed_small, ap deposit_amounts e)

    pub crediting_stop : k ≤ length ds → available < processed + d.amount → DepositsProcessed available n ds vs w k
    unfolding process_deposits
    crediting_stop h q = processed_so h (rw e (if_true _ _ _ (lt-ltb available (processed + d.amount) q)))

    module _ (i : d.index < n) where
      pub crediting_fits : get_or w d.index 0 + d.amount ≤ BOUND
      crediting_fits =
          omega (
            arith,
            l.held_small,
            ap deposit_amounts e,
            l.switchable.each d.index i,
            switchable_at_most (at l.now d.index),
            member_at_most d.index l.now (rw l.registered i),
          )

      pub crediting_more : n ≤ 65536 → processed + d.amount ≤ available
          → Crediting available n ids vs ds
          (credited_balances d.index (prefix (withdrawal_credentials_at ids d.index)) d.amount w)
          (processed + d.amount) (k + 1)
      unfolding process_deposits
      crediting_more h q =
          let there : d.index < length l.now = rw l.registered i in
          record {
            now = adjust d.index (increased d.amount) l.now;
            left =
                sym (if_false _ _ _ (le-ltb available (processed + d.amount) q))
                ∙ ap (λ x. process_deposits available processed x l.now) (sym e)
                ∙ l.left;
            registered = length_adjust d.index (increased d.amount) l.now ∙ l.registered;
            size = length-set w d.index _ ∙ l.size;
            switchable =
                rw (← l.prefixes d.index i)
                (switchable_credit l.switchable d.index d.amount (omega (arith, l.size)) i there);
            prefixes = λ j p.
                adjust_keeps prefix_of (increased d.amount) (λ v. refl) d.index j l.now no_validator
                ∙ l.prefixes j p;
            held_small =
                omega (
                  arith,
                  l.held_small,
                  ap deposit_amounts e,
                  total_adjust (λ (v : Validator). v.balance) d.index (increased d.amount) l.now no_validator
                      there,
                );
            processed_small = omega (arith, l.processed_small, ap deposit_amounts e);
          }

-- the validator of deposit k is there
pub owner : (n m : ℕ) (ds : List ℕ) (k : ℕ) → k < m → every (deposit_in n) (rows m (deposit_at ds)) ≡ true
    → {d : PendingBalanceDeposit} → d ≡ deposit_at ds k → d.index < n
owner n m ds k h inside {d} e =
    ltb-true d.index n (rw e (every_row (deposit_in n) m (deposit_at ds) inside k h))

-- deposit k is the next one
pub deposit_next : (m : ℕ) (ds : List ℕ) (k : ℕ) → k < m → {d : PendingBalanceDeposit} → d ≡ deposit_at ds k
    → drop k (rows m (deposit_at ds)) ≡ d ∷ drop (k + 1) (rows m (deposit_at ds))
deposit_next m ds k h {d} e = rw e (drop_rows_at m (deposit_at ds) k h)

-- the laws that the check applies by itself
pub ruleset crediting_loop = (crediting_none, crediting_small, owner, deposit_next)
