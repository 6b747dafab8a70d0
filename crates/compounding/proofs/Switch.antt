-- The switch, from the stores that the code makes.
use mathlib.Core.Path.{◌≡◌, refl, sym, ap, ◌∙◌}
use mathlib.Core.List.{List}
use Prim.Native.Nat.{ℕ, ◌+◌, ◌-◌, ◌<◌, ◌≤◌}
use native.Mathlib.Nat.{add-zero}
use lib.ListN.{length}
use lib.Dec.{eqb}
use borrow.Author.Tests.{eq-eqb, ne_eqb, lt-ltb, le-ltb}
use Rattle.lists.specs.Base.{when◌then◌else◌, adjust}
use Rattle.lists.specs.Laws.{if_true, if_false}
use Rattle.rules.specs.Types.{Settings, Validator}
use Rattle.rules.specs.Update.{with_balance, with_validators}
use Rattle.rules.specs.Helpers.{at, prefix, has_eth1_withdrawal_credential, with_compounding_prefix}
use Rattle.rules.specs.Helpers.{queue_excess_active_balance, switch_to_compounding_validator}
use Rattle.rules.specs.Counting.{excess_entry}
use Rattle.primitives.specs.declared.Scalars.{Scalars}
use Rattle.primitives.specs.Scalars.{with_deposits}
use Rattle.records.specs.Layout.{withdrawal_credentials_at, balance_at}
use Rattle.records.specs.Books.{Stepped, books_of, tables, beyond_none}
use Rattle.records.specs.Reading.{validator_read}
use Rattle.records.specs.Stores.{ValidatorAdjusted, IdentityAdjusted}
use Rattle.records.specs.Queues.{DepositPushed}
use Rattle.compounding.specs.Laws.{excess_entry_count, entries_none, entries_some}

-- ---- the excess

module _ (S : Settings) (i : ℕ) (s : Scalars) (vs ds : List ℕ) (known : i < s.validators) where
  balance_read : (ids ps cs : List ℕ) → (at (books_of s (tables ids vs ds ps cs)).validators i).balance ≡
      balance_at vs i
  balance_read ids ps cs = ap (λ (v : Validator). v.balance) (validator_read s (tables ids vs ds ps cs) i known)

  pub not_queued : balance_at vs i ≤ S.min_activation_balance → (ids ps cs : List ℕ)
      → Stepped (queue_excess_active_balance S i) s (tables ids vs ds ps cs) (tables ids vs ds ps cs) s
  unfolding queue_excess_active_balance
  not_queued h ids ps cs = record {
    books = sym (if_false _ _ _ (rw (balance_read ids ps cs) (le-ltb S.min_activation_balance (balance_at vs i) h)));
    beyond = beyond_none s (tables ids vs ds ps cs);
  }

  pub queued : S.min_activation_balance < balance_at vs i → (new_vs new_ds : List ℕ)
      → ValidatorAdjusted i (with_balance S.min_activation_balance) vs new_vs
      → DepositPushed s.deposits (record {
        index =
            i;
        amount = balance_at vs i - S.min_activation_balance;
      }) ds new_ds
      → (ids ps cs : List ℕ)
      → Stepped (queue_excess_active_balance S i) s (tables ids vs ds ps cs) (tables ids new_vs new_ds ps cs)
      (with_deposits s (s.deposits + 1))
  unfolding queue_excess_active_balance books_of when◌then◌else◌
  queued h new_vs new_ds v d ids ps cs = record {
    books =
        simp (
          balance_read ids ps cs,
          lt-ltb S.min_activation_balance (balance_at vs i) h,
          v.validators ids s.validators,
          d.records,
        );
    beyond = record {
      identities = refl;
      validators = v.past s.validators known;
      deposits = d.past;
      partials = refl;
      consolidations = refl;
    };
  }

-- ---- the switch

module _ (S : Settings) (i : ℕ) (s : Scalars) (ids vs ds : List ℕ) (known : i < s.validators) where
  eth1_read : (ps cs : List ℕ)
      → has_eth1_withdrawal_credential (at (books_of s (tables ids vs ds ps cs)).validators i)
      ≡ eqb (prefix (withdrawal_credentials_at ids i)) 1
  eth1_read ps cs = ap has_eth1_withdrawal_credential (validator_read s (tables ids vs ds ps cs) i known)

  pub not_switched : (prefix (withdrawal_credentials_at ids i) ≡ 1 → ⊥) → (ps cs : List ℕ)
      → Stepped (switch_to_compounding_validator S i) s (tables ids vs ds ps cs) (tables ids vs ds ps cs) s
  unfolding switch_to_compounding_validator
  not_switched h ps cs = record {
    books = sym (if_false _ _ _ (eth1_read ps cs ∙ ne_eqb (prefix (withdrawal_credentials_at ids i)) 1 h));
    beyond = beyond_none s (tables ids vs ds ps cs);
  }

  pub none_queued : (prefix (withdrawal_credentials_at ids i) ≡ 1 → ⊥) → (ps cs : List ℕ)
      → s ≡ with_deposits s (s.deposits + length (excess_entry S i (books_of s (tables ids vs ds ps cs))))
  none_queued h ps cs =
      rw (
        entries_none S i (books_of s (tables ids vs ds ps cs))
            (eth1_read ps cs ∙ ne_eqb (prefix (withdrawal_credentials_at ids i)) 1 h),
        add-zero s.deposits,
      )

  module _ (compounds : prefix (withdrawal_credentials_at ids i) ≡ 1) where
    pub entries_read : (ps cs : List ℕ)
        → length (excess_entry S i (books_of s (tables ids vs ds ps cs)))
        ≡ excess_entry_count S.min_activation_balance (balance_at vs i)
    entries_read ps cs =
        entries_some S i (books_of s (tables ids vs ds ps cs))
        (eth1_read ps cs ∙ eq-eqb (prefix (withdrawal_credentials_at ids i)) 1 compounds)
        ∙ ap (excess_entry_count S.min_activation_balance) (balance_read S i s vs ds known ids ps cs)

    prefixed : (new_ids : List ℕ) → IdentityAdjusted i with_compounding_prefix ids new_ids → (ps cs : List ℕ)
        → books_of s (tables new_ids vs ds ps cs)
        ≡ with_validators (adjust i with_compounding_prefix (books_of s (tables ids vs ds ps cs)).validators)
        (books_of s (tables ids vs ds ps cs))
    unfolding books_of
    prefixed new_ids a ps cs = rw (a.validators vs s.validators)

    pub switched : (new_ids new_vs new_ds : List ℕ) → IdentityAdjusted i with_compounding_prefix ids new_ids
        → (r : Scalars) → r.validators ≡ s.validators
        → ((ids ps cs : List ℕ)
        → Stepped (queue_excess_active_balance S i) s (tables ids vs ds ps cs) (tables ids new_vs new_ds ps cs) r)
        → (ps cs : List ℕ)
        → Stepped (switch_to_compounding_validator S i) s
        (tables ids vs ds ps cs) (tables new_ids new_vs new_ds ps cs) r
    unfolding switch_to_compounding_validator
    switched new_ids new_vs new_ds a r n q ps cs = record {
      books =
          (q new_ids ps cs).books
          ∙ ap (queue_excess_active_balance S i) (prefixed new_ids a ps cs)
          ∙ sym (if_true _ _ _ (eth1_read ps cs ∙ eq-eqb (prefix (withdrawal_credentials_at ids i)) 1 compounds));
      beyond = record {
        identities = a.past r.validators (rw n known);
        validators = (q new_ids ps cs).beyond.validators;
        deposits = (q new_ids ps cs).beyond.deposits;
        partials = refl;
        consolidations = refl;
      };
    }
