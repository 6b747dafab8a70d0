-- How many entries a switch to compounding queues.
use Rattle.std.specs.Prelude.{◌≡◌, Bool, ℕ, ◌-◌, ◌<◌, ◌≤◌, ltb}
use Rattle.std.proofs.Math.Path.{refl}
use Rattle.std.proofs.Math.Bool.{true, false}
use mathlib.Core.List.{[], ◌∷◌}
use Rattle.std.proofs.Common.{arith, ltb-true, ltb-false, lt-ltb, le-ltb}
use Rattle.std.proofs.Math.ListN.{length}
use Rattle.lists.specs.Base.{when◌then◌else◌}
use Rattle.lists.specs.Laws.{if_true, if_false}
use Rattle.rules.specs.Types.{Settings, PendingBalanceDeposit, Books}
use Rattle.rules.specs.Helpers.{at, has_eth1_withdrawal_credential}
use Rattle.rules.specs.Counting.{excess_entry}

-- how many queue_excess_active_balance queues at this balance
abbrev pub excess_entry_count : (minimum balance : ℕ) → ℕ
excess_entry_count minimum balance = when ltb minimum balance then 1 else 0

pub entries_low : (minimum balance : ℕ) → balance ≤ minimum → excess_entry_count minimum balance ≡ 0
entries_low minimum balance h = if_false _ _ _ (le-ltb minimum balance h)

pub entries_high : (minimum balance : ℕ) → minimum < balance → excess_entry_count minimum balance ≡ 1
entries_high minimum balance h = if_true _ _ _ (lt-ltb minimum balance h)

-- an excess is above 0 where the balance is above the minimum
excess_some : (least balance : ℕ) → ltb 0 (balance - least) ≡ ltb least balance
excess_some least balance = go (ltb least balance) refl
  where
    go : (t : Bool) → ltb least balance ≡ t → ltb 0 (balance - least) ≡ t
    go true e = let h = ltb-true least balance e in lt-ltb 0 (balance - least) (omega arith)
    go false e = let h = ltb-false least balance e in le-ltb 0 (balance - least) (omega arith)

module _ (S : Settings) (i : ℕ) (b : Books) where
  pub entries_none : has_eth1_withdrawal_credential (at b.validators i) ≡ false → length (excess_entry S i b) ≡ 0
  unfolding excess_entry when◌then◌else◌
  entries_none e = rw e

  pub entries_some : has_eth1_withdrawal_credential (at b.validators i) ≡ true
      → length (excess_entry S i b) ≡ excess_entry_count S.min_activation_balance (at b.validators i).balance
  unfolding excess_entry when◌then◌else◌
  entries_some e =
      rw (e, excess_some S.min_activation_balance (at b.validators i).balance)
      (go (ltb S.min_activation_balance (at b.validators i).balance))
    where
      go : (t : Bool)
          → length {A = PendingBalanceDeposit}
          (when t then record {
            index =
                i;
            amount = (at b.validators i).balance - S.min_activation_balance;
          } ∷ [] else [])
          ≡ (when t then 1 else 0)
      go true = refl
      go false = refl
