-- The withdrawals call: 30 by its own test, 42 by the next withdrawal index.
use Rattle.std.specs.Prelude.{◌≡◌, true, List, ℕ, ◌≤◌, ◌<◌}
use Rattle.std.proofs.Common.{sym, ◌∙◌, arith, le-leb}
use Rattle.std.proofs.lemmas.Bool.{lt-leb}
use Rattle.lists.specs.Laws.{passed, not_not}
use Rattle.rules.specs.Types as rule
use Rattle.rules.specs.Types.{BOUND}
use Rattle.rules.specs.BlockProcessing as block
use Rattle.rules.specs.Calls as calls
use Rattle.rules.specs.Calls.{handed_refusal, own_refusal, result}
use Rattle.rule_laws.specs.Accepted.{SoundSettings, SoundBooks}
use Rattle.primitives.specs.Settings.{settings_of}
use Rattle.primitives.specs.declared.Settings.{Settings}
use Rattle.primitives.specs.declared.Scalars.{Scalars}
use Rattle.records.specs.Books.{Tables, books_of, room_of, Stepped, Called}
use Rattle.records.specs.Reading.{EnoughRoom}
use Rattle.acceptance.specs.Handed.{facts}
use Rattle.expected_withdrawals.specs.declared.Withdrawal.{Withdrawal}
use Rattle.expected_withdrawals.specs.declared.ExpectedWithdrawals.{ExpectedWithdrawals}
use Rattle.expected_withdrawals.specs.Expected.{expected_of, handed_list}
use Rattle.expected_withdrawals.specs.Ready as listing
use Rattle.withdrawals.specs.Ready as paying
use Rattle.withdrawals.specs.Ready.{count_small}
use Rattle.result_sizes.specs.Block.{withdrawals_size}
use Rattle.call_answers.specs.Called.{own_refused, size_refused, call_done}

module _ (S : rule.Settings) (s : Scalars) (t : Tables) (ws : List rule.Withdrawal)
    (h : handed_refusal S (books_of s t) (room_of t) ≡ 0) where
  abbrev b : rule.Books
  b = books_of s t

  -- the list is the expected one
  pub expected_same : block.withdrawals_refusal S b ws ≡ 0
      → block.same_withdrawals ws (block.get_expected_withdrawals S b) ≡ true
  unfolding block.withdrawals_refusal
  expected_same e = not_not _ (passed _ {n = 30} {r = 0} (omega arith) e).0

  pub payments_refused : (n : ℕ) → n ≡ block.withdrawals_refusal S b ws → (n ≡ 0 → ⊥)
      → Called S (calls.withdrawals ws) s t t n s
  unfolding own_refusal
  payments_refused n e z = own_refused S (calls.withdrawals ws) s t n h e z

  pub payments_late : block.withdrawals_refusal S b ws ≡ 0 → BOUND < block.next_index b ws
      → Called S (calls.withdrawals ws) s t t 42 s
  unfolding own_refusal result
  payments_late e l =
      let f = facts S s t h in
      size_refused S (calls.withdrawals ws) s t 42 h e
      (sym (withdrawals_size S f.settings b f.books ws ∙ rw (lt-leb (block.next_index b ws) BOUND l)))
      (omega arith)

  pub payments_done : {u : Tables} {r : Scalars} → block.withdrawals_refusal S b ws ≡ 0
      → block.next_index b ws ≤ BOUND → Stepped (block.process_withdrawals S ws) s t u r
      → Called S (calls.withdrawals ws) s t u 0 r
  unfolding own_refusal result
  payments_done e l d =
      let f = facts S s t h in
      call_done S (calls.withdrawals ws) s t h e
      (withdrawals_size S f.settings b f.books ws ∙ rw (le-leb (block.next_index b ws) BOUND l)) d

-- what the cores ask
module _ (settings : Settings) (s : Scalars) (t : Tables)
    (h : handed_refusal (settings_of settings) (books_of s t) (room_of t) ≡ 0) where
  abbrev S : rule.Settings
  S = settings_of settings

  abbrev σ : SoundSettings S
  σ = (facts S s t h).settings

  abbrev ρ : EnoughRoom S t
  ρ = (facts S s t h).room

  abbrev β : SoundBooks S (books_of s t)
  β = (facts S s t h).books

  pub listing_ready : listing.Ready settings s t.identities t.validators t.partials
  listing_ready = listing.ready settings s t σ ρ β

  pub listed_count : {e : ExpectedWithdrawals} → e ≡ expected_of S (books_of s t) → e.count ≤ 16
  listed_count q = count_small S (books_of s t) σ q

  pub paying_ready : (list : List Withdrawal) (n : ℕ) {e : ExpectedWithdrawals} → e ≡ expected_of S (books_of s t)
      → block.withdrawals_refusal S (books_of s t) (handed_list list n) ≡ 0
      → paying.Ready settings s t.validators t.partials list n e.partials
  paying_ready list n q w =
      paying.ready settings s t list n σ ρ β q (expected_same S s t (handed_list list n) h w)
