-- The facts that the loop over the calls of a file is proved by.
use Rattle.std.specs.Prelude.{◌≡◌, refl, true, List, [], ◌∷◌, ◌++◌, ℕ, zero, suc, ◌+◌, ◌-◌, ◌*◌, ◌≤◌, ◌<◌, length}
use Rattle.std.specs.Prelude.{take, drop, set}
use Rattle.std.proofs.Common.{sym, ap, ◌∙◌, append_assoc, append-nil, arith, length-set, take-append-drop}
use Rattle.std.proofs.Common.{drop-drop, drop-set-lt, take-suc-set}
use Rattle.std.proofs.Math.Nat.{sub-zero}
use Rattle.std.proofs.lemmas.List.{length-map}
use Rattle.rules.specs.Types as rule
use Rattle.rules.specs.Acceptance.{held}
use Rattle.rules.specs.Calls.{Operation, answer, after}
use Rattle.conservation.specs.Accepted.{after_accepted}
use Rattle.primitives.specs.declared.Scalars.{Scalars}
use Rattle.records.specs.Books.{Tables, books_of, room_of, call_on, Called}
use Rattle.records.specs.Fixed.{SameSizes}
use Rattle.acceptance.specs.Handed.{accepted, none_refused, facts}
use Rattle.acceptance.specs.Held.{HeldReady, held_ready}
use Rattle.file_format.specs.Fields.{many}
use Rattle.file_format.specs.Calls.{written, call}
use Rattle.calls_reader.specs.Calls.{call_i_good, calls_good_behind, calls_left_behind, no_calls_left}
use Rattle.table_text.specs.Lines.{lines_words}
use Rattle.runs.specs.Lines.{lines, with_line, lines_length, lines_words_length}
use Rattle.runs.specs.InPlace.{InPlace, none, next, calls_on, sizes_none, sizes_then, same_room}
use Rattle.file_calls.specs.Ready.{Accepted}
use Rattle.runs.specs.Ready.{CallsThere, operations_there, Written}
use Rattle.runs.specs.Promise.{Done}

-- ---- accepted books stay accepted in the same buffers

pub still_accepted : {S : rule.Settings} {op : Operation} {s r : Scalars} {t u : Tables} {n : ℕ}
    → Accepted S s t → Called S op s t u n r → SameSizes u t → Accepted S r u
still_accepted {S} {op} {s} {r} {t} {u} h c z =
    let a = accepted S (books_of s t) (room_of t) h in
    rw (c.books, same_room z)
    (sym (none_refused S (after S (books_of s t) (call_on t op)) (room_of t) (record {
      settings = a.settings;
      room = a.room;
      books = after_accepted S (books_of s t) (call_on t op) a.books;
    })))

pub sum_known : (S : rule.Settings) (s : Scalars) (t : Tables) → Accepted S s t
    → HeldReady s t.validators t.deposits
sum_known S s t h = let f = facts S s t h in held_ready S s t f.room f.books

-- ---- line i of the results

module _ (l : List ℕ) (i a b c : ℕ) (h : 3 * i + 3 ≤ length l) where
  line_front : take (3 * (i + 1)) (with_line l i a b c) ≡ take (3 * i) l ++ (a ∷ b ∷ c ∷ [])
  line_front =
      let m = set l (3 * i) a in
      let n = set m (3 * i + 1) b in
      let p : 3 * (i + 1) ≡ suc (3 * i + 2) = omega arith in
      let q : 3 * i + 2 ≡ suc (3 * i + 1) = omega arith in
      let r : 3 * i + 1 ≡ suc (3 * i) = omega arith in
      let x : take (3 * i + 2) n ≡ take (3 * i + 1) m ++ (b ∷ []) =
      ap (λ j. take j n) q ∙ take-suc-set m (3 * i + 1) b (omega (arith, length-set l (3 * i) a)) in
      let y : take (3 * i + 1) m ≡ take (3 * i) l ++ (a ∷ []) =
      ap (λ j. take j m) r ∙ take-suc-set l (3 * i) a (omega arith) in
      ap (λ j. take j (with_line l i a b c)) p
      ∙ take-suc-set n (3 * i + 2) c (omega (arith, length-set l (3 * i) a, length-set m (3 * i + 1) b))
      ∙ ap (λ f. f ++ (c ∷ [])) (x ∙ ap (λ f. f ++ (b ∷ [])) y)
      ∙ append_assoc (take (3 * i) l ++ (a ∷ [])) (b ∷ []) (c ∷ [])
      ∙ append_assoc (take (3 * i) l) (a ∷ []) (b ∷ c ∷ [])

  line_past : drop (3 * (i + 1)) (with_line l i a b c) ≡ drop (3 * (i + 1)) l
  line_past =
      let m = set l (3 * i) a in
      let n = set m (3 * i + 1) b in
      drop-set-lt (3 * (i + 1)) n (3 * i + 2) c (omega arith)
      ∙ drop-set-lt (3 * (i + 1)) m (3 * i + 1) b (omega arith)
      ∙ drop-set-lt (3 * (i + 1)) l (3 * i) a (omega arith)

  line_length : length (with_line l i a b c) ≡ length l
  line_length =
      let m = set l (3 * i) a in
      let n = set m (3 * i + 1) b in
      length-set n (3 * i + 2) c ∙ length-set m (3 * i + 1) b ∙ length-set l (3 * i) a

-- the call and its line
pub line_written : {S : rule.Settings} {op : Operation} {s r : Scalars} {t u : Tables} {before new : List ℕ} {i : ℕ}
    (n : ℕ) {code total : ℕ} → Called S op s t u n r → new ≡ with_line before i code n total → code ≡ (written op).code
    → total ≡ held (books_of r u) → Written S op s t u before new i r
line_written {before = before} {i = i} n c e f g = record {
  number = n;
  called = c;
  results = e ∙ (λ j. with_line before i (f j) n (g j));
}

-- ---- i calls are carried out, and the operations `left` are left

pub record Running (S : rule.Settings) (s₀ : Scalars) (t₀ : Tables) (os : List Operation) (before : List ℕ)
    (s : Scalars) (t : Tables) (left : List Operation) (results : List ℕ) (i : ℕ) : Type 0 where
  pub chain : (r : Scalars) (u : Tables) → InPlace S s t left r u → InPlace S s₀ t₀ os r u
  pub sizes : SameSizes t t₀
  pub accepted : Accepted S s t
  pub lines : take (3 * i) results ++ lines_words (lines S (books_of s t) (calls_on t₀ left))
      ≡ lines_words (lines S (books_of s₀ t₀) (calls_on t₀ os))
  pub past : drop (3 * i) results ≡ drop (3 * i) before
  pub long : length results ≡ length before

pub running_none : {S : rule.Settings} {s : Scalars} {t : Tables} (os : List Operation) (before : List ℕ)
    → Accepted S s t → Running S s t os before s t os before 0
running_none {S} {s} {t} os before h = record {
  chain = λ r u c. c;
  sizes = sizes_none t;
  accepted = h;
  lines = refl;
  past = refl;
  long = refl;
}

module _ {S : rule.Settings} {s₀ : Scalars} {t₀ : Tables} {os : List Operation} {before : List ℕ} {s : Scalars}
    {t : Tables} {results : List ℕ} {i : ℕ} where
  pub running_more : {op : Operation} {left : List Operation} {u : Tables} {new : List ℕ} {r : Scalars}
      → Running S s₀ t₀ os before s t (op ∷ left) results i → Written S op s t u results new i r → SameSizes u t
      → 3 * i + 3 ≤ length results → Running S s₀ t₀ os before r u left new (i + 1)
  running_more {op} {left} {u} {new} {r} inv w z h = record {
    chain = λ q v c. inv.chain q v (next w.called z c);
    sizes = sizes_then z inv.sizes;
    accepted = still_accepted inv.accepted w.called z;
    lines = one_line;
    past = rw w.results (line_past results i _ _ _ h ∙ behind);
    long = ap length w.results ∙ line_length results i _ _ _ h ∙ inv.long;
  }
    where
      code : ℕ
      code = (written op).code

      rest : List ℕ
      rest = lines_words (lines S (books_of r u) (calls_on t₀ left))

      same_books : books_of r u ≡ after S (books_of s t) (call_on t₀ op)
      same_books =
          w.called.books ∙ ap (λ m. after S (books_of s t) (record { room = m; operation = op })) (same_room inv.sizes)

      same_number : w.number ≡ answer S (books_of s t) (call_on t₀ op)
      same_number =
          w.called.number
          ∙ ap (λ m. answer S (books_of s t) (record { room = m; operation = op })) (same_room inv.sizes)

      one_line : take (3 * (i + 1)) new ++ lines_words (lines S (books_of r u) (calls_on t₀ left))
          ≡ lines_words (lines S (books_of s₀ t₀) (calls_on t₀ os))
      one_line =
          ap (λ f. f ++ lines_words (lines S (books_of r u) (calls_on t₀ left)))
          (ap (take (3 * (i + 1))) w.results ∙ line_front results i _ _ _ h)
          ∙ append_assoc (take (3 * i) results) ((written op).code ∷ w.number ∷ held (books_of r u) ∷ [])
          (lines_words (lines S (books_of r u) (calls_on t₀ left)))
          ∙ (λ j. take (3 * i) results
          ++ ((written op).code ∷ same_number j ∷ held (same_books j)
          ∷ lines_words (lines S (same_books j) (calls_on t₀ left))))
          ∙ inv.lines

      behind : drop (3 * (i + 1)) results ≡ drop (3 * (i + 1)) before
      behind =
          let e : 3 * i + 3 ≡ 3 * (i + 1) = omega arith in
          rw (← e) (sym (drop-drop 3 (3 * i) results) ∙ ap (drop 3) inv.past ∙ drop-drop 3 (3 * i) before)

  pub running_end : Running S s₀ t₀ os before s t [] results i → i ≡ length os → 3 * i ≤ length before
      → Done S s₀ t₀ t os before results s i
  running_end inv e h = record {
    chain = inv.chain s t none;
    results =
        sym (take-append-drop (3 * i) results)
        ∙ ap (λ f. f ++ drop (3 * i) results) (sym (append-nil (take (3 * i) results)) ∙ inv.lines)
        ∙ ap (λ f. whole ++ f) (inv.past ∙ ap (λ m. drop m before) size);
    counted = e;
  }
    where
      whole : List ℕ
      whole = lines_words (lines S (books_of s₀ t₀) (calls_on t₀ os))

      size : 3 * i ≡ length whole
      size = omega (
        arith,
        e,
        lines_words_length (lines S (books_of s₀ t₀) (calls_on t₀ os)),
        lines_length S (books_of s₀ t₀) (calls_on t₀ os),
        length-map os (call_on t₀),
      )

-- ---- the loop over n calls, which the words us begin with: i are carried out, and vs are left

pub many_size : (n : ℕ) (us : List ℕ) → length ((many call n).value us) ≡ n
unfolding many
many_size zero us = refl
many_size (suc n) us = ap suc (many_size n (call.rest us))

pub record Carrying (S : rule.Settings) (s₀ : Scalars) (t₀ : Tables) (us : List ℕ) (n : ℕ) (before : List ℕ)
    (s : Scalars) (t : Tables) (vs : List ℕ) (i : ℕ) (results : List ℕ) : Type 0 where
  pub running : Running S s₀ t₀ (operations_there us n) before s t (operations_there vs (n - i)) results i
  pub good : CallsThere vs (n - i)
  pub most : i ≤ n

pub carrying_none : {S : rule.Settings} {s : Scalars} {t : Tables} {us before : List ℕ} {n : ℕ} → Accepted S s t
    → CallsThere us n → Carrying S s t us n before s t us 0 before
carrying_none {S} {s} {t} {us} {before} {n} h c = record {
  running = rw sub-zero (running_none (operations_there us n) before h);
  good = rw sub-zero c;
  most = omega arith;
}

module _ {S : rule.Settings} {s₀ : Scalars} {t₀ : Tables} {us : List ℕ} {n : ℕ} {before : List ℕ} {s : Scalars}
    {t : Tables} {vs : List ℕ} {i : ℕ} {results : List ℕ} (inv : Carrying S s₀ t₀ us n before s t vs i results) where
  pub carrying_call : i < n → call.ok vs ≡ true
  carrying_call l = call_i_good vs n i l inv.good

  pub carrying_room : i < n → 3 * n ≤ length before → 3 * i + 3 ≤ length results
  carrying_room l h = omega (arith, inv.running.long)

  pub carrying_more : {u : Tables} {new : List ℕ} {r : Scalars} {behind : List ℕ} → i < n → 3 * n ≤ length before
      → Written S (call.value vs) s t u results new i r → SameSizes u t → behind ≡ call.rest vs
      → Carrying S s₀ t₀ us n before r u behind (i + 1) new
  carrying_more {behind = behind} l h w z e = record {
    running = running_more (rw (calls_left_behind vs n i l behind e) at inv.running) w z (carrying_room l h);
    good = calls_good_behind vs n i l behind e inv.good;
    most = omega arith;
  }

  pub carrying_end : n ≤ i → 3 * n ≤ length before → Done S s₀ t₀ t (operations_there us n) before results s n
  carrying_end l h =
      let e : i ≡ n = omega (arith, inv.most) in
      let size : i ≡ length (operations_there us n) = e ∙ sym (many_size n us) in
      let d = running_end (rw (no_calls_left vs n i l) at inv.running) size (omega arith) in
      rw e at d
