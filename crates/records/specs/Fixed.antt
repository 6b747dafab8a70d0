-- A call's promise fixes its number, its scalars, and every byte and word of the buffers.
use Rattle.std.specs.Prelude.{◌≡◌, refl, Bool, true, false, List, [], ◌++◌, ltb, length, get_or, take, drop}
use Rattle.std.proofs.Common.{ap, ap₂, ◌∙◌, take-append-drop, ext_get_or, get_or-drop, drop-drop, ltb-true, ltb-false}
use Rattle.std.proofs.Math.Path.{sym}
use Prim.Native.Nat.{ℕ, zero, suc, ◌+◌, ◌-◌, ◌*◌, ◌/◌, ◌%◌, ◌≤◌, ◌<◌}
use native.Mathlib.Omega.{arith}
use Rattle.std.proofs.Math.ListN.{length-take, length-drop}
use Rattle.tables.specs.Rows.{rows, length_rows, get_d_rows}
use Rattle.rules.specs.Types as rule
use Rattle.rules.specs.Calls.{Operation}
use Rattle.primitives.specs.declared.Scalars.{Scalars}
use Rattle.records.specs.Layout.{column}
use Rattle.records.specs.Layout.{validator_at, deposit_at, partial_at, consolidation_at, word_at}
use Rattle.records.specs.Layout.{key_column, credentials_column, identities_fit, validators_fit}
use Rattle.records.specs.Layout.{identities_past, validators_past}
use Rattle.records.specs.Books.{Tables, tables, books_of, Beyond, Called, validators_of}

-- the scalars that books were read from
scalars_in : rule.Books → Scalars
scalars_in b = record {
  epoch = record { 0 = b.epoch };
  next_withdrawal_index = record { 0 = b.next_withdrawal_index };
  next_withdrawal_validator_index = record { 0 = b.next_withdrawal_validator_index };
  deposit_receipts_start_index = b.deposit_receipts_start_index;
  deposit_balance_to_consume = record { 0 = b.deposit_balance_to_consume };
  exit_balance_to_consume = record { 0 = b.exit_balance_to_consume };
  earliest_exit_epoch = record { 0 = b.earliest_exit_epoch };
  consolidation_balance_to_consume = record { 0 = b.consolidation_balance_to_consume };
  earliest_consolidation_epoch = record { 0 = b.earliest_consolidation_epoch };
  validators = length b.validators;
  deposits = length b.pending_balance_deposits;
  partials = length b.pending_partial_withdrawals;
  consolidations = length b.pending_consolidations;
}

scalars_back : (s : Scalars) (t : Tables) → scalars_in (books_of s t) ≡ s
unfolding books_of scalars_in
scalars_back s t = simp length_rows

-- two lists that agree below n and past it
lists_fixed : (n : ℕ) (l m : List ℕ) → length l ≡ length m → ((q : ℕ) → q < n → get_or l q 0 ≡ get_or m q 0)
    → drop n l ≡ drop n m → l ≡ m
lists_fixed n l m size below past = ext_get_or 0 l m size (λ q p. go q (ltb q n) refl)
  where
    go : (q : ℕ) (t : Bool) → ltb q n ≡ t → get_or l q 0 ≡ get_or m q 0
    go q true e = below q (ltb-true q n e)
    go q false e =
        let p : n ≤ q = ltb-false q n e in
        let k : n + (q - n) ≡ q = omega arith in
        rw k at (sym (get_or-drop n l (q - n) 0) ∙ ap (λ t. get_or t (q - n) 0) past ∙ get_or-drop n m (q - n) 0)

-- record i of two equal tables
row_same : {A : Type 0} (n : ℕ) (g h : ℕ → A) → rows n g ≡ rows n h → (i : ℕ) → i < n → g i ≡ h i
row_same n g h e i p = sym (get_d_rows n g i (g i) p) ∙ ap (λ l. get_or l i (g i)) e ∙ get_d_rows n h i (g i) p

-- ---- words that are fixed record by record

module _ (us ws : List ℕ) where
  abbrev Same : ℕ → Type 0
  Same q = get_or us q 0 ≡ get_or ws q 0

  two_words : (n : ℕ) → ((i : ℕ) → i < n → Same (2 * i) × Same (2 * i + 1)) → (q : ℕ) → q < 2 * n → Same q
  two_words n h q p = go (q % 2) (omega arith) (omega arith)
    where
      both : Same (2 * (q / 2)) × Same (2 * (q / 2) + 1)
      both = h (q / 2) (omega arith)

      go : (k : ℕ) → k < 2 → 2 * (q / 2) + k ≡ q → get_or us q 0 ≡ get_or ws q 0
      go zero l e = let z : 2 * (q / 2) ≡ q = omega arith in rw z at both.0
      go (suc zero) l e = rw e at both.1
      go (suc (suc k)) l e = let z : ⊥ = omega arith in absurd z

  three_words : (n : ℕ) → ((i : ℕ) → i < n → Same (3 * i) × Same (3 * i + 1) × Same (3 * i + 2))
      → (q : ℕ) → q < 3 * n → Same q
  three_words n h q p = go (q % 3) (omega arith) (omega arith)
    where
      all : Same (3 * (q / 3)) × Same (3 * (q / 3) + 1) × Same (3 * (q / 3) + 2)
      all = h (q / 3) (omega arith)

      go : (k : ℕ) → k < 3 → 3 * (q / 3) + k ≡ q → get_or us q 0 ≡ get_or ws q 0
      go zero l e = let z : 3 * (q / 3) ≡ q = omega arith in rw z at all.0
      go (suc zero) l e = rw e at all.1
      go (suc (suc zero)) l e = rw e at all.2
      go (suc (suc (suc k))) l e = let z : ⊥ = omega arith in absurd z

-- ---- the registry's columns

-- two lists whose parts up to n agree, and what follows
joined : (n : ℕ) (l m : List ℕ) → take n l ≡ take n m → drop n l ≡ drop n m → l ≡ m
joined n l m front past = sym (take-append-drop n l) ∙ ap₂ ◌++◌ front past ∙ take-append-drop n m

columns_fixed : (c w : ℕ) (l m : List ℕ) → ((k : ℕ) → k < w → column c k l ≡ column c k m)
    → drop (w * c) l ≡ drop (w * c) m → l ≡ m
columns_fixed c zero l m columns behind = let z : 0 * c ≡ 0 = omega arith in rw z at behind
columns_fixed c (suc w) l m columns behind =
    columns_fixed c w l m (λ k p. columns k (omega arith))
    (joined c (drop (w * c) l) (drop (w * c) m) (columns w (omega arith))
    (drop-drop c (w * c) l ∙ (rw z at behind) ∙ sym (drop-drop c (w * c) m)))
  where
    z : suc w * c ≡ w * c + c
    z = omega arith

module _ (n : ℕ) (us ws : List ℕ) (size : length us ≡ length ws) (ids : List ℕ)
    (same : rows n (validator_at ids us) ≡ rows n (validator_at ids ws)) where
  word_same : (k : ℕ) → k < 7 → (i : ℕ) → i < n → word_at k us i ≡ word_at k ws i
  word_same k b i p = go k b
    where
      v : validator_at ids us i ≡ validator_at ids ws i
      v = row_same n (validator_at ids us) (validator_at ids ws) same i p

      go : (k : ℕ) → k < 7 → word_at k us i ≡ word_at k ws i
      go zero l = ap (λ x. x.slashed) v
      go (suc zero) l = ap (λ x. x.effective_balance) v
      go (suc (suc zero)) l = ap (λ x. x.activation_eligibility_epoch) v
      go (suc (suc (suc zero))) l = ap (λ x. x.activation_epoch) v
      go (suc (suc (suc (suc zero)))) l = ap (λ x. x.exit_epoch) v
      go (suc (suc (suc (suc (suc zero))))) l = ap (λ x. x.withdrawable_epoch) v
      go (suc (suc (suc (suc (suc (suc zero)))))) l = ap (λ x. x.balance) v
      go (suc (suc (suc (suc (suc (suc (suc k))))))) l = let z : ⊥ = omega arith in absurd z

  validators_fixed : validators_past n us ≡ validators_past n ws → us ≡ ws
  unfolding validators_past word_at
  validators_fixed e =
      columns_fixed c 7 us ws
      (λ k b.
      lists_fixed n (column c k us) (column c k ws)
      (omega (
        arith,
        size,
        length-take c (drop (k * c) us),
        length-take c (drop (k * c) ws),
        length-drop (k * c) us,
        length-drop (k * c) ws,
      ))
      (λ i p. rw size at (word_same k b i p))
      (past k b))
      (rw size at (ap (λ x. x.1) e))
    where
      c : ℕ
      c = validators_fit ws

      of : List ℕ → ℕ → List ℕ
      of l k = drop n (column (validators_fit l) k l)

      past : (k : ℕ) → k < 7 → drop n (column (validators_fit ws) k us) ≡ drop n (column (validators_fit ws) k ws)
      past k b =
          rw size at
          (sym (get_d_rows 7 (of us) k [] b) ∙ ap (λ x. get_or x.0 k []) e ∙ get_d_rows 7 (of ws) k [] b)

module _ (n : ℕ) (us ids vs ws : List ℕ) (size : length us ≡ length ids)
    (same : rows n (validator_at us vs) ≡ rows n (validator_at ids ws)) where
  row : (i : ℕ) → i < n → validator_at us vs i ≡ validator_at ids ws i
  row = row_same n (validator_at us vs) (validator_at ids ws) same

  -- each is a table of rows, and so of columns that are one record long
  keys_fixed : drop (48 * n) (key_column us) ≡ drop (48 * n) (key_column ids) → key_column us ≡ key_column ids
  keys_fixed e =
      columns_fixed 48 n (key_column us) (key_column ids)
      (λ i p. let z : i * 48 ≡ 48 * i = omega arith in rw z (ap (λ x. x.public_key) (row i p)))
      (let z : n * 48 ≡ 48 * n = omega arith in rw z e)

  credentials_fixed : drop (32 * n) (credentials_column us) ≡ drop (32 * n) (credentials_column ids)
      → credentials_column us ≡ credentials_column ids
  credentials_fixed e =
      columns_fixed 32 n (credentials_column us) (credentials_column ids)
      (λ i p. let z : i * 32 ≡ 32 * i = omega arith in rw z (ap (λ x. x.withdrawal_credentials) (row i p)))
      (let z : n * 32 ≡ 32 * n = omega arith in rw z e)

  identities_fixed : identities_past n us ≡ identities_past n ids → us ≡ ids
  unfolding identities_past key_column credentials_column
  identities_fixed e =
      joined (48 * identities_fit ids) us ids (rw size at (keys_fixed (ap (λ x. x.0) e)))
      (joined (32 * identities_fit ids) (drop (48 * identities_fit ids) us) (drop (48 * identities_fit ids) ids)
      (rw size at (credentials_fixed (ap (λ x. x.1) e)))
      (drop-drop (32 * identities_fit ids) (48 * identities_fit ids) us
      ∙ (rw (size, z) at (ap (λ x. x.2) e))
      ∙ sym (drop-drop (32 * identities_fit ids) (48 * identities_fit ids) ids)))
    where
      z : 80 * identities_fit ids ≡ 48 * identities_fit ids + 32 * identities_fit ids
      z = omega arith

-- ---- tables and calls

-- the buffers keep their lengths
pub record SameSizes (u w : Tables) : Type 0 where
  pub identities : length u.identities ≡ length w.identities
  pub validators : length u.validators ≡ length w.validators
  pub deposits : length u.deposits ≡ length w.deposits
  pub partials : length u.partials ≡ length w.partials
  pub consolidations : length u.consolidations ≡ length w.consolidations

same_tables : {a b c d e f g h i j : List ℕ} → a ≡ f → b ≡ g → c ≡ h → d ≡ i → e ≡ j
    → tables a b c d e ≡ tables f g h i j
same_tables p q r s t = rw (p, q, r, s, t)

tables_fixed : (r : Scalars) (t u w : Tables) → SameSizes u w → Beyond r u t → Beyond r w t
    → books_of r u ≡ books_of r w → u ≡ w
unfolding books_of
tables_fixed r t u w z f g e = same_tables ids vs ds ps cs
  where
    ids : u.identities ≡ w.identities
    ids =
        identities_fixed r.validators u.identities w.identities u.validators w.validators
        z.identities (ap (λ b. b.validators) e) (f.identities ∙ sym g.identities)

    vs : u.validators ≡ w.validators
    vs =
        validators_fixed r.validators u.validators w.validators z.validators w.identities
        (ap (λ x. validators_of r x u.validators) (sym ids) ∙ ap (λ b. b.validators) e)
        (f.validators ∙ sym g.validators)

    ds : u.deposits ≡ w.deposits
    ds =
        lists_fixed (2 * r.deposits) u.deposits w.deposits z.deposits
        (two_words u.deposits w.deposits r.deposits (λ i p.
        let d =
        row_same r.deposits (deposit_at u.deposits) (deposit_at w.deposits)
        (ap (λ b. b.pending_balance_deposits) e) i p in
        (ap (λ x. x.index) d, ap (λ x. x.amount) d)))
        (f.deposits ∙ sym g.deposits)

    ps : u.partials ≡ w.partials
    ps =
        lists_fixed (3 * r.partials) u.partials w.partials z.partials
        (three_words u.partials w.partials r.partials (λ i p.
        let d =
        row_same r.partials (partial_at u.partials) (partial_at w.partials)
        (ap (λ b. b.pending_partial_withdrawals) e) i p in
        (ap (λ x. x.index) d, ap (λ x. x.amount) d, ap (λ x. x.withdrawable_epoch) d)))
        (f.partials ∙ sym g.partials)

    cs : u.consolidations ≡ w.consolidations
    cs =
        lists_fixed (2 * r.consolidations) u.consolidations w.consolidations z.consolidations
        (two_words u.consolidations w.consolidations r.consolidations (λ i p.
        let d =
        row_same r.consolidations (consolidation_at u.consolidations) (consolidation_at w.consolidations)
        (ap (λ b. b.pending_consolidations) e) i p in
        (ap (λ x. x.source_index) d, ap (λ x. x.target_index) d)))
        (f.consolidations ∙ sym g.consolidations)

-- books that agree, over the same words beyond them, stand in the same scalars and tables
pub books_fixed : {t u w : Tables} {r q : Scalars}
    → SameSizes u w → Beyond r u t → Beyond q w t → books_of r u ≡ books_of q w → (r ≡ q) × (u ≡ w)
books_fixed {t} {u} {w} {r} {q} z f g e = (same, words)
  where
    same : r ≡ q
    same = sym (scalars_back r u) ∙ ap scalars_in e ∙ scalars_back q w

    words : u ≡ w
    words =
        let h : Beyond r w t = rw (← same) at g in
        tables_fixed r t u w z f h (e ∙ ap (λ x. books_of x w) (sym same))

-- no two outcomes of one call
pub called_fixed : {S : rule.Settings} {op : Operation} {s : Scalars} {t u w : Tables} {n m : ℕ} {r q : Scalars}
    → SameSizes u w → Called S op s t u n r → Called S op s t w m q → (n ≡ m) × (r ≡ q) × (u ≡ w)
called_fixed z a b =
    let same = books_fixed z a.beyond b.beyond (a.books ∙ sym b.books) in
    (a.number ∙ sym b.number, same.0, same.1)
