-- The three steps alone and the turn: the size of their results decides their answers.
use Rattle.std.specs.Prelude.{◌≡◌, true, false, ℕ, ◌+◌, ◌≤◌, ◌<◌, length, leb}
use Rattle.std.proofs.Math.Path.{refl}
use Rattle.std.proofs.Common.{sym, ◌∙◌, arith}
use borrow.Author.Tests.{le-leb, lt-leb}
use Rattle.rules.specs.Types as rule
use Rattle.rules.specs.Types.{BOUND}
use Rattle.rules.specs.EpochProcessing as steps
use Rattle.rules.specs.Calls as calls
use Rattle.rules.specs.Calls.{handed_refusal, own_refusal, result}
use Rattle.rule_laws.specs.Accepted.{SoundBooks}
use Rattle.primitives.specs.declared.Settings.{Settings}
use Rattle.primitives.specs.declared.Scalars.{Scalars}
use Rattle.primitives.specs.Settings.{settings_of}
use Rattle.records.specs.Books.{Tables, books_of, room_of, Stepped, Called}
use Rattle.records.specs.declared.books.Books.{Books}
use Rattle.records.specs.Lent.{lent_tables, plain_books, lent_room}
use Rattle.records.specs.Reading.{epoch_read}
use Rattle.acceptance.specs.Handed.{facts}
use Rattle.helpers.specs.Ready.{Registry, registry_ready}
use Rattle.queue_room.specs.Ready.{StepReady, TurnReady, AllowanceReady, step_ready, turn_ready, allowance_ready}
use Rattle.queue_room.specs.Ready.{QueueReady, queue_ready}
use Rattle.epoch_processing.specs.Ready.{UpdatesReady, updates_ready}
use Rattle.result_sizes.specs.Epoch.{deposits_size, consolidations_size, effective_size, turn_size}
use Rattle.call_answers.specs.Called.{size_refused, call_done}

module _ (S : rule.Settings) (s : Scalars) (t : Tables) (h : handed_refusal S (books_of s t) (room_of t) ≡ 0) where
  abbrev b : rule.Books
  b = books_of s t

  abbrev k : SoundBooks S b
  k = (facts S s t h).books

  abbrev limit : ℕ
  limit = S.pending_balance_deposits_limit

  -- ---- what the cores ask

  pub registry_known : Registry s t.validators
  registry_known = let f = facts S s t h in registry_ready S s t f.settings f.room f.books

  pub updates_known : UpdatesReady S s t.identities t.validators
  updates_known = let f = facts S s t h in updates_ready S s t f.books f.room

  -- ---- answers

  pub deposits_done : {u : Tables} {r : Scalars} → Stepped (steps.process_pending_balance_deposits S) s t u r
      → Called S calls.pending_balance_deposits s t u 0 r
  unfolding own_refusal result
  deposits_done d = call_done S calls.pending_balance_deposits s t h refl (deposits_size S b k) d

  pub effective_done : {u : Tables} {r : Scalars} → Stepped (steps.process_effective_balance_updates S) s t u r
      → Called S calls.effective_balance_updates s t u 0 r
  unfolding own_refusal result
  effective_done d = call_done S calls.effective_balance_updates s t h refl (effective_size S b k) d

  -- ---- the consolidation step

  pub consolidations_over :
      leb (length (steps.process_pending_consolidations S b).pending_balance_deposits) limit ≡ false
      → Called S calls.pending_consolidations s t t 40 s
  unfolding own_refusal result
  consolidations_over e =
      size_refused S calls.pending_consolidations s t 40 h refl (sym (consolidations_size S b k ∙ rw e)) (omega arith)

  pub consolidations_done : {u : Tables} {r : Scalars}
      → leb (length (steps.process_pending_consolidations S b).pending_balance_deposits) limit ≡ true
      → Stepped (steps.process_pending_consolidations S) s t u r → Called S calls.pending_consolidations s t u 0 r
  unfolding own_refusal result
  consolidations_done e d = call_done S calls.pending_consolidations s t h refl (consolidations_size S b k ∙ rw e) d

  -- ---- the turn

  pub turn_over : leb (length (steps.turn S b).pending_balance_deposits) limit ≡ false → Called S calls.turn s t t 40 s
  unfolding own_refusal result
  turn_over e = size_refused S calls.turn s t 40 h refl (sym (turn_size S b k ∙ rw e)) (omega arith)

  pub turn_late : leb (length (steps.turn S b).pending_balance_deposits) limit ≡ true → BOUND ≤ s.epoch.0
      → Called S calls.turn s t t 42 s
  unfolding own_refusal result
  turn_late e l =
      let late : BOUND < b.epoch + 1 = omega (arith, l, epoch_read s t) in
      size_refused S calls.turn s t 42 h refl (sym (turn_size S b k ∙ rw (e, lt-leb (b.epoch + 1) BOUND late)))
      (omega arith)

  pub turn_done : {u : Tables} {r : Scalars} → leb (length (steps.turn S b).pending_balance_deposits) limit ≡ true
      → s.epoch.0 < BOUND → Stepped (steps.turn S) s t u r → Called S calls.turn s t u 0 r
  unfolding own_refusal result
  turn_done e l d =
      let within : b.epoch + 1 ≤ BOUND = omega (arith, l, epoch_read s t) in
      call_done S calls.turn s t h refl (turn_size S b k ∙ rw (e, le-leb (b.epoch + 1) BOUND within)) d

-- what the tests of answer 40 ask
pub step_known : (S : rule.Settings) (b : Books) → handed_refusal S (plain_books b) (lent_room b) ≡ 0 → StepReady b
step_known S b h = let f = facts S b.scalars (lent_tables b) h in step_ready S b f.settings f.room f.books

pub turn_known : (S : rule.Settings) (b : Books) → handed_refusal S (plain_books b) (lent_room b) ≡ 0 → TurnReady b
turn_known S b h = let f = facts S b.scalars (lent_tables b) h in turn_ready S b f.settings f.room f.books

pub allowance_known : (S : Settings) (s : Scalars) (t : Tables)
    → handed_refusal (settings_of S) (books_of s t) (room_of t) ≡ 0 → AllowanceReady S s
allowance_known S s t h = let f = facts (settings_of S) s t h in allowance_ready S s t f.settings f.books

-- and how many deposits wait at most
pub queue_there : (S : Settings) (s : Scalars) (t : Tables)
    → handed_refusal (settings_of S) (books_of s t) (room_of t) ≡ 0 → QueueReady S s
queue_there S s t h = let f = facts (settings_of S) s t h in queue_ready S s t f.settings f.books
