-- Accepted books after a call, and the answer 2.
use Rattle.std.specs.Prelude.{◌≡◌, true, false, not, ℕ}
use Rattle.std.proofs.Common.{arith}
use Rattle.lists.specs.Laws.{by_test}
use Rattle.rules.specs.Types.{Settings, Books}
use Rattle.rules.specs.BlockProcessing.{withdrawals_refusal, voluntary_exit_refusal, consolidation_refusal}
use Rattle.rules.specs.Acceptance.{sound_books}
use Rattle.rules.specs.Calls as calls
use Rattle.rules.specs.Calls.{Operation, Room, Call, handed_refusal, own_refusal, result, size_refusal}
use Rattle.rules.specs.Calls.{answer, done, after}
use Rattle.rule_laws.specs.Accepted.{SoundBooks, settings_sound, books_sound, books_sound_so}
use Rattle.rule_laws.specs.Accepted.{Fits, Sums, Epochs, fits, sums, epochs}
use Rattle.conservation.specs.Proofs.Answered.{done_passed}
use Rattle.conservation.specs.Proofs.Kept.{Stands, operation_kept}

-- what is kept and what the size tests found make accepted books
standing_sound : (S : Settings) (b : Books) → Stands S b → Fits S b → Sums b → Epochs b → SoundBooks S b
standing_sound S b k f s e =
    let r = k.kept.registry in
    let q = k.kept.queues in
    let a = k.kept.accounts in
    let n = r.size in
    record {
      some = omega (arith, q.cursor_in, n);
      registry_fits = f.registry;
      deposits_fit = f.deposits;
      partials_fit = q.partials_fit;
      consolidations_fit = q.consolidations_fit;
      cursor_in = rw n q.cursor_in;
      deposits_in = rw n q.deposits_in;
      partials_in = rw n q.partials_in;
      consolidations_in = rw n q.consolidations_in;
      effective = r.effective;
      flags = r.flags;
      epoch_small = e.epoch_small;
      index_small = e.index_small;
      carry_small = a.carry_small;
      exit_left_small = a.exit_left_small;
      exit_epoch_small = e.exit_epoch_small;
      consolidation_left_small = a.consolidation_left_small;
      consolidation_epoch_small = e.consolidation_epoch_small;
      epochs = e.epochs;
      partial_epochs = e.partial_epochs;
      held_small = s.held_small;
      partials_small = s.partials_small;
    }

pub after_sound : (S : Settings) (b : Books) (c : Call) → sound_books S b ≡ true → sound_books S (after S b c) ≡ true
unfolding after
after_sound S b c p =
    by_test (λ (e : Books). sound_books S e ≡ true) (done S b c)
    (λ e.
    let q = done_passed S b c e in
    let r = result S b c.operation in
    let k = operation_kept S (settings_sound S q.settings) b c.operation (books_sound S b p) q.tests in
    books_sound_so S r (standing_sound S r k (fits S r q.limits) (sums r q.sums) (epochs r q.epochs)))
    (λ e. p)

-- ---- no other cause answers 2

abbrev Not_2 : ℕ → Type 0
Not_2 n = n ≡ 2 → ⊥

own_not_2 : (S : Settings) (b : Books) (o : Operation) → Not_2 (own_refusal S b o)
unfolding own_refusal withdrawals_refusal voluntary_exit_refusal consolidation_refusal
own_not_2 S b (calls.reward i amount) = by_test Not_2 _ (λ e. omega arith) (λ e. omega arith)
own_not_2 S b (calls.penalty i amount) = by_test Not_2 _ (λ e. omega arith) (λ e. omega arith)
own_not_2 S b (calls.deposit_receipt public_key withdrawal_credentials amount index valid) = omega arith
own_not_2 S b (calls.voluntary_exit i epoch valid) =
    by_test Not_2 _ (λ e. omega arith) λ e.
    by_test Not_2 _ (λ e. omega arith) λ e.
    by_test Not_2 _ (λ e. omega arith) λ e.
    by_test Not_2 _ (λ e. omega arith) λ e.
    by_test Not_2 _ (λ e. omega arith) λ e.
    by_test Not_2 _ (λ e. omega arith) λ e.
    by_test Not_2 _ (λ e. omega arith) λ e. omega arith
own_not_2 S b (calls.withdrawal_request source_address public_key amount) = omega arith
own_not_2 S b (calls.consolidation source_index target_index epoch valid) =
    by_test Not_2 _ (λ e. omega arith) λ e.
    by_test Not_2 _ (λ e. omega arith) λ e.
    by_test Not_2 _ (λ e. omega arith) λ e.
    by_test Not_2 _ (λ e. omega arith) λ e.
    by_test Not_2 _ (λ e. omega arith) λ e.
    by_test Not_2 _ (λ e. omega arith) λ e.
    by_test Not_2 _ (λ e. omega arith) λ e.
    by_test Not_2 _ (λ e. omega arith) λ e.
    by_test Not_2 _ (λ e. omega arith) λ e.
    by_test Not_2 _ (λ e. omega arith) λ e.
    by_test Not_2 _ (λ e. omega arith) λ e.
    by_test Not_2 _ (λ e. omega arith) λ e.
    by_test Not_2 _ (λ e. omega arith) λ e.
    by_test Not_2 _ (λ e. omega arith) λ e. omega arith
own_not_2 S b (calls.withdrawals ws) = by_test Not_2 _ (λ e. omega arith) (λ e. omega arith)
own_not_2 S b calls.turn = omega arith
own_not_2 S b calls.pending_balance_deposits = omega arith
own_not_2 S b calls.pending_consolidations = omega arith
own_not_2 S b calls.effective_balance_updates = omega arith

handed_not_2 : (S : Settings) (b : Books) (r : Room) → sound_books S b ≡ true → Not_2 (handed_refusal S b r)
unfolding handed_refusal
handed_not_2 S b r p =
    by_test Not_2 _ (λ e. omega arith) λ e.
    by_test Not_2 _ (λ e. omega arith) λ e.
    by_test Not_2 _ (λ e q. let z : ◌≡◌ {A = ℕ} 0 1 = clash e in omega arith) λ e. omega arith
  where
    clash : not (sound_books S b) ≡ true → ◌≡◌ {A = ℕ} 0 1
    clash e = let r : false ≡ true = rw p at e in cc

pub not_answered_2 : (S : Settings) (b : Books) (c : Call) → sound_books S b ≡ true → answer S b c ≡ 2 → ⊥
unfolding answer size_refusal
not_answered_2 S b c p =
    by_test Not_2 _ (λ e. handed_not_2 S b c.room p) λ e.
    by_test Not_2 _ (λ e. own_not_2 S b c.operation) λ e.
    by_test Not_2 _ (λ e. omega arith) λ e.
    by_test Not_2 _ (λ e. omega arith) λ e.
    by_test Not_2 _ (λ e. omega arith) λ e. omega arith
