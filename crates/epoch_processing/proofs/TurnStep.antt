-- The turn from its three steps: each starts from accepted books.
use mathlib.Core.Path.{◌≡◌, refl, sym, ap, ◌∙◌}
use mathlib.Core.Bool.{true}
use mathlib.Core.List.{List}
use Prim.Native.Nat.{◌+◌, ◌≤◌}
use native.Mathlib.Omega.{arith}
use lib.ListN.{length, length-append}
use borrow.Author.Tests.{le-leb}
use Rattle.lists.specs.Base.{when◌then◌else◌}
use Rattle.rules.specs.Types.{Settings, Books, PendingPartialWithdrawal}
use Rattle.rules.specs.Update as update
use Rattle.rules.specs.EpochProcessing.{process_pending_balance_deposits, process_pending_consolidations}
use Rattle.rules.specs.EpochProcessing.{process_effective_balance_updates, turn}
use Rattle.rules.specs.Acceptance.{sound_settings, sound_books}
use Rattle.rules.specs.Calls as calls
use Rattle.rules.specs.Calls.{Operation, Room, Call, enough_room, handed_refusal, own_refusal, result, size_refusal}
use Rattle.rules.specs.Calls.{answer, done, after}
use Rattle.rules.specs.Counting.{consolidation_step_counts}
use Rattle.rule_laws.specs.Accepted.{SoundBooks, books_sound}
use Rattle.conservation.specs.Proofs.Steps.{consolidation_flow}
use Rattle.conservation.specs.Proofs.Standing.{after_sound}
use Rattle.result_sizes.specs.Steady.{Steady, deposit_steady, consolidation_steady}
use Rattle.result_sizes.specs.Epoch.{deposits_size, consolidations_size}
use Rattle.primitives.specs.declared.Scalars.{Scalars}
use Rattle.primitives.specs.Scalars.{with_epoch, with_consolidations}
use Rattle.records.specs.Books.{Tables, Stepped, Beyond, AtMost, books_of, room_of, beyond_then}
use Rattle.records.specs.Reading.{EnoughRoom, room, room_so, validators_count, deposits_count, partials_count}
use Rattle.records.specs.Reading.{epoch_read}
use Rattle.records.specs.Fixed.{SameSizes}
use Rattle.epoch_processing.specs.Ready.{UpdatesReady, updates_ready}

-- ---- accepted books stay accepted

module _ (S : Settings) (b : Books) (r : Room) (settings : sound_settings S ≡ true) (room : enough_room S r ≡ true)
    (books : sound_books S b ≡ true) where
  result_sound : (op : Operation) → own_refusal S b op ≡ 0 → size_refusal S (result S b op) ≡ 0
      → sound_books S (result S b op) ≡ true
  unfolding after done answer handed_refusal when◌then◌else◌
  result_sound op own size =
      let c : Call = record { room = r; operation = op } in
      let handed : handed_refusal S b r ≡ 0 = rw (settings, room, books) in
      let answered : answer S b c ≡ 0 = rw (handed, own, size) in
      let left : after S b c ≡ result S b op = rw answered in
      rw left at (after_sound S b c books)

  pub deposits_sound : sound_books S (process_pending_balance_deposits S b) ≡ true
  unfolding own_refusal result
  deposits_sound = result_sound calls.pending_balance_deposits refl (deposits_size S b (books_sound S b books))

  pub consolidations_sound :
      length (process_pending_consolidations S b).pending_balance_deposits ≤ S.pending_balance_deposits_limit
      → sound_books S (process_pending_consolidations S b) ≡ true
  unfolding own_refusal result
  consolidations_sound h =
      result_sound calls.pending_consolidations refl
      (consolidations_size S b (books_sound S b books)
      ∙ rw (le-leb
      (length (process_pending_consolidations S b).pending_balance_deposits) S.pending_balance_deposits_limit h))

-- buffers as long have as much room
pub room_kept : (S : Settings) (t u : Tables) → SameSizes u t → EnoughRoom S t → EnoughRoom S u
room_kept S t u z k = record {
  identities = rw z.identities k.identities;
  validators = rw z.validators k.validators;
  deposits = rw z.deposits k.deposits;
  partials = rw z.partials k.partials;
  consolidations = rw z.consolidations k.consolidations;
}

-- ---- the three steps

-- the queue after the turn is the queue after its consolidation step
pub turn_queue : (S : Settings) (b : Books)
    → (turn S b).pending_balance_deposits
    ≡ (process_pending_consolidations S (process_pending_balance_deposits S b)).pending_balance_deposits
unfolding turn process_effective_balance_updates
turn_queue S b = refl

module _ (S : Settings) (s r q p : Scalars) (t u w x : Tables)
    (known : SoundBooks S (books_of r u))
    (f : Stepped (process_pending_balance_deposits S) s t u r) (same : u.consolidations ≡ t.consolidations)
    (g : Stepped (process_pending_consolidations S) r u w q)
    (h : Stepped (process_effective_balance_updates S) q w x p) (scalars : p ≡ q) where
  deposits_kept : Steady (books_of s t) (books_of r u)
  deposits_kept = rw f.books (deposit_steady S (books_of s t))

  consolidations_kept : Steady (books_of r u) (books_of q w)
  consolidations_kept = rw g.books (consolidation_steady S (books_of r u))

  pub epoch_kept : p.epoch.0 ≡ s.epoch.0
  epoch_kept =
      ap (λ (o : Scalars). o.epoch.0) scalars
      ∙ sym (epoch_read q w)
      ∙ consolidations_kept.epoch
      ∙ deposits_kept.epoch
      ∙ epoch_read s t

  -- the consolidation step drops no deposit
  queue_grown : r.deposits ≤ q.deposits
  unfolding consolidation_step_counts
  queue_grown =
      let b = books_of r u in
      let order = (consolidation_flow S b known.consolidations_in).order in
      let size = ap length (ap (λ (e : Books). e.pending_balance_deposits) g.books ∙ order) in
      omega (
        arith,
        size ∙ length-append b.pending_balance_deposits _,
        deposits_count r u,
        deposits_count q w,
      )

  validators_kept : r.validators ≤ q.validators
  validators_kept = omega (arith, consolidations_kept.size, validators_count r u, validators_count q w)

  partials_kept : r.partials ≤ q.partials
  partials_kept =
      omega (
        arith,
        ap (λ (l : List PendingPartialWithdrawal). length l) consolidations_kept.partials,
        partials_count r u,
        partials_count q w,
      )

  -- the deposit step leaves the consolidations alone, so that their count before it does not matter
  deposits_beyond : Beyond (with_consolidations r q.consolidations) u t
  deposits_beyond = record {
    identities = f.beyond.identities;
    validators = f.beyond.validators;
    deposits = f.beyond.deposits;
    partials = f.beyond.partials;
    consolidations = rw same;
  }

  steps_beyond : Beyond p x t
  steps_beyond =
      let grown : AtMost (with_consolidations r q.consolidations) q =
      record {
        validators = validators_kept;
        deposits = queue_grown;
        partials = partials_kept;
        consolidations = omega arith;
      } in
      let equal : AtMost q p =
      rw scalars
      (record {
        validators =
            omega arith;
        deposits = omega arith;
        partials = omega arith;
        consolidations = omega arith;
      }) in
      beyond_then equal (beyond_then grown deposits_beyond g.beyond) h.beyond

  next_epoch : books_of (with_epoch p (p.epoch.0 + 1)) x
      ≡ (let done = books_of p x in update.with_epoch (done.epoch + 1) done)
  unfolding books_of
  next_epoch = refl

  pub turned : Stepped (turn S) s t x (with_epoch p (p.epoch.0 + 1))
  unfolding turn
  turned = record {
    books =
        next_epoch
        ∙ ap (λ (e : Books). update.with_epoch (e.epoch + 1) e)
        (h.books
        ∙ ap (process_effective_balance_updates S)
        (g.books ∙ ap (process_pending_consolidations S) f.books));
    beyond = record {
      identities = steps_beyond.identities;
      validators = steps_beyond.validators;
      deposits = steps_beyond.deposits;
      partials = steps_beyond.partials;
      consolidations = steps_beyond.consolidations;
    };
  }

-- ---- what the second and the third step ask, from what the steps before them promise

module _ (S : Settings) (s : Scalars) (t : Tables) (settings : sound_settings S ≡ true)
    (space : enough_room S (room_of t) ≡ true) (books : sound_books S (books_of s t) ≡ true)
    (fits : length (turn S (books_of s t)).pending_balance_deposits ≤ S.pending_balance_deposits_limit)
    (r : Scalars) (u : Tables) (f : Stepped (process_pending_balance_deposits S) s t u r) (kept : SameSizes u t) where
  pub credited_room : enough_room S (room_of u) ≡ true
  credited_room = room_so S u (room_kept S t u kept (room S t space))

  pub credited_sound : sound_books S (books_of r u) ≡ true
  credited_sound = rw f.books (deposits_sound S (books_of s t) (room_of t) settings space books)

  pub credited_fits :
      length (process_pending_consolidations S (books_of r u)).pending_balance_deposits
      ≤ S.pending_balance_deposits_limit
  credited_fits =
      let b = books_of s t in
      omega (
        arith,
        fits,
        ap length (turn_queue S b),
        ap (λ (e : Books). length (process_pending_consolidations S e).pending_balance_deposits) f.books,
      )

  module _ (q : Scalars) (w : Tables) (g : Stepped (process_pending_consolidations S) r u w q)
      (sizes : SameSizes w u) where
    pub consolidated_sound : sound_books S (books_of q w) ≡ true
    consolidated_sound =
        rw g.books
        (consolidations_sound S (books_of r u) (room_of u) settings credited_room credited_sound credited_fits)

    pub consolidated_ready : UpdatesReady S q w.identities w.validators
    consolidated_ready =
        updates_ready S q w (books_sound S _ consolidated_sound)
        (room_kept S u w sizes (room S u credited_room))
