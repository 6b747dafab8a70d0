-- What stores into the identities and the validators' words do to the validators.
use Rattle.std.specs.Prelude.{◌≡◌, refl, ◌≢◌, length, set, take}
use Rattle.std.proofs.Common.{ap, sym, ◌∙◌, arith, length-take, length-drop, take_all, drop-drop, get_or-take}
use Rattle.std.proofs.Common.{ext_get_or}
use mathlib.Core.List.{List, [], ◌∷◌, ◌++◌}
use Prim.Native.Nat.{ℕ, ◌+◌, ◌-◌, ◌*◌, ◌/◌, ◌<◌, ◌≤◌}
use Rattle.std.proofs.Math.ListN.{get_or, drop, length-set}
use Rattle.std.proofs.lemmas.List.{drop-set-add}
use Rattle.std.proofs.Math.Seq.{take-set-lt, paste}
use Rattle.lists.specs.Base.{adjust}
use Rattle.tables.specs.Rows.{rows, rows_ext, rows_adjust, rows_push}
use Rattle.tables.specs.Words.{Outside, outside_none, outside_more, outside_part, outside_drop, outside_within}
use Rattle.tables.specs.Words.{outside_wider, outside_then}
use Rattle.rules.specs.Types.{Validator}
use Rattle.rules.specs.Update.{with_balance, with_effective_balance, with_exit}
use Rattle.rules.specs.Helpers.{prefix, with_compounding_prefix}
use Rattle.records.specs.Bytes.{get_d_part, paste_part, paste_outside}
use Rattle.records.specs.Columns.{column_read, column_within, column_here, column_apart, column_other}
use Rattle.records.specs.Columns.{column_past, columns_behind}
use Rattle.records.specs.Layout.{key_column, credentials_column, public_key_at, withdrawal_credentials_at}
use Rattle.records.specs.Layout.{column, word_at, validator_at}
use Rattle.records.specs.Layout.{identities_fit, validators_fit, identities_past, validators_past}

-- ---- promises

-- validator i is changed by f, in the words alone
pub record ValidatorAdjusted (i : ℕ) (f : Validator → Validator) (old new : List ℕ) : Type 0 where
  pub validators : (ids : List ℕ) (n : ℕ)
      → rows n (validator_at ids new) ≡ adjust i f (rows n (validator_at ids old))
  pub past : (n : ℕ) → i < n → validators_past n new ≡ validators_past n old

-- validator i is changed by f, in the identities alone
pub record IdentityAdjusted (i : ℕ) (f : Validator → Validator) (old new : List ℕ) : Type 0 where
  pub validators : (ws : List ℕ) (n : ℕ)
      → rows n (validator_at new ws) ≡ adjust i f (rows n (validator_at old ws))
  pub past : (n : ℕ) → i < n → identities_past n new ≡ identities_past n old

-- validator v stands behind the first n
pub record ValidatorPushed (n : ℕ) (v : Validator) (ids ws new_ids new_ws : List ℕ) : Type 0 where
  pub validators : rows (n + 1) (validator_at new_ids new_ws) ≡ rows n (validator_at ids ws) ++ (v ∷ [])
  pub identities_past : identities_past (n + 1) new_ids ≡ identities_past (n + 1) ids
  pub validators_past : validators_past (n + 1) new_ws ≡ validators_past (n + 1) ws

-- ---- words

pub word_read : (k : ℕ) (ws : List ℕ) (i : ℕ) → i < validators_fit ws
    → get_or ws (k * validators_fit ws + i) 0 ≡ word_at k ws i
unfolding word_at
word_read k ws i h = sym (column_read (validators_fit ws) k ws i h)

-- where word k of validator i stands
pub word_within : (k : ℕ) (ws : List ℕ) (i : ℕ) → k < 7 → i < validators_fit ws
    → k * validators_fit ws + i < length ws
word_within k ws i b h = omega (arith, column_within 7 (validators_fit ws) k i b h)

-- word k of validator i becomes x
abbrev pub put_word : ℕ → List ℕ → ℕ → ℕ → List ℕ
put_word k ws i x = set ws (k * validators_fit ws + i) x

module _ (k : ℕ) (ws : List ℕ) (i x : ℕ) (b : k < 7) (h : i < validators_fit ws) where
  pub word_here : word_at k (put_word k ws i x) i ≡ x
  unfolding word_at
  word_here =
      rw length-set
      (column_here (validators_fit ws) k ws i x h
      (omega (arith, column_within 7 (validators_fit ws) k (validators_fit ws - 1) b (omega arith))))

  pub word_apart : (j m : ℕ) → j ≢ k → word_at j (put_word k ws i x) m ≡ word_at j ws m
  unfolding word_at
  word_apart j m n = rw length-set (ap (λ l. get_or l m 0) (column_apart (validators_fit ws) k ws i x h j n))

  -- the other validators
  pub word_other : (j m : ℕ) → m ≢ i → word_at j (put_word k ws i x) m ≡ word_at j ws m
  unfolding word_at
  word_other j m n = rw length-set (column_other (validators_fit ws) k ws i x h j m n)

  pub word_past : (n : ℕ) → i < n → validators_past n (put_word k ws i x) ≡ validators_past n ws
  unfolding validators_past
  word_past n l =
      rw length-set
      (λ j. (columns j, columns_behind (validators_fit ws) k ws i x h 7 b j))
    where
      of : List ℕ → ℕ → List ℕ
      of us m = drop n (column (validators_fit ws) m us)

      columns : rows 7 (of (put_word k ws i x)) ≡ rows 7 (of ws)
      columns =
          rows_ext 7 (of (put_word k ws i x)) (of ws) (λ m p. column_past (validators_fit ws) k ws i x h m n l)

-- stores into the words of validator i alone
pub record RowStored (i : ℕ) (us ws : List ℕ) : Type 0 where
  pub size : length us ≡ length ws
  pub other : (j m : ℕ) → m ≢ i → word_at j us m ≡ word_at j ws m
  pub past : (n : ℕ) → i < n → validators_past n us ≡ validators_past n ws

row_none : {i : ℕ} {ws : List ℕ} → RowStored i ws ws
row_none = record { size = refl; other = λ j m n. refl; past = λ n l. refl }

-- one store earlier: a run of stores is gone through from the last to the first
row_more : (k : ℕ) {us ws : List ℕ} {i : ℕ} (x : ℕ) → k < 7 → i < validators_fit ws
    → RowStored i us (put_word k ws i x) → RowStored i us ws
row_more k {us} {ws} {i} x b h r = record {
  size = r.size ∙ length-set ws (k * validators_fit ws + i) x;
  other = λ j m n. r.other j m n ∙ word_other k ws i x b h j m n;
  past = λ n l. r.past n l ∙ word_past k ws i x b h n l;
}

module _ {us ws : List ℕ} {i : ℕ} (r : RowStored i us ws) where
  validator_other : (ids : List ℕ) (j : ℕ) → j ≢ i → validator_at ids us j ≡ validator_at ids ws j
  validator_other ids j q =
      simp (
        r.other 0 j q,
        r.other 1 j q,
        r.other 2 j q,
        r.other 3 j q,
        r.other 4 j q,
        r.other 5 j q,
        r.other 6 j q,
      )

  validator_adjusted : (f : Validator → Validator)
      → ((ids : List ℕ) → validator_at ids us i ≡ f (validator_at ids ws i)) → ValidatorAdjusted i f ws us
  validator_adjusted f here = record {
    validators = λ ids n.
        rows_adjust n (validator_at ids ws) (validator_at ids us) i f
        (λ j p q. validator_other ids j q) (λ p. here ids);
    past = r.past;
  }

-- the row that is stored to; f is the change as a rule names it
module _ {ws : List ℕ} {i : ℕ} {f : Validator → Validator} (h : i < validators_fit ws) where
  pub balance_stored : (x : ℕ)
      → ((ids : List ℕ) → with_balance x (validator_at ids ws i) ≡ f (validator_at ids ws i))
      → ValidatorAdjusted i f ws (put_word 6 ws i x)
  balance_stored x e = validator_adjusted (row_more 6 x (omega arith) h row_none) f (λ ids. here ids ∙ e ids)
    where
      apart : (j : ℕ) → j ≢ 6 → word_at j (put_word 6 ws i x) i ≡ word_at j ws i
      apart j n = word_apart 6 ws i x (omega arith) h j i n

      here : (ids : List ℕ) → validator_at ids (put_word 6 ws i x) i ≡ with_balance x (validator_at ids ws i)
      here ids =
          simp (
            apart 0 (omega arith),
            apart 1 (omega arith),
            apart 2 (omega arith),
            apart 3 (omega arith),
            apart 4 (omega arith),
            apart 5 (omega arith),
            word_here 6 ws i x (omega arith) h,
          )

  pub effective_balance_stored : (x : ℕ)
      → ((ids : List ℕ) → with_effective_balance x (validator_at ids ws i) ≡ f (validator_at ids ws i))
      → ValidatorAdjusted i f ws (put_word 1 ws i x)
  effective_balance_stored x e =
      validator_adjusted (row_more 1 x (omega arith) h row_none) f (λ ids. here ids ∙ e ids)
    where
      apart : (j : ℕ) → j ≢ 1 → word_at j (put_word 1 ws i x) i ≡ word_at j ws i
      apart j n = word_apart 1 ws i x (omega arith) h j i n

      here : (ids : List ℕ)
          → validator_at ids (put_word 1 ws i x) i ≡ with_effective_balance x (validator_at ids ws i)
      here ids =
          simp (
            apart 0 (omega arith),
            word_here 1 ws i x (omega arith) h,
            apart 2 (omega arith),
            apart 3 (omega arith),
            apart 4 (omega arith),
            apart 5 (omega arith),
            apart 6 (omega arith),
          )

  pub exit_stored : (e w : ℕ)
      → ((ids : List ℕ) → with_exit e w (validator_at ids ws i) ≡ f (validator_at ids ws i))
      → ValidatorAdjusted i f ws (put_word 5 (put_word 4 ws i e) i w)
  exit_stored e w same =
      validator_adjusted
      (row_more 4 e (omega arith) h (row_more 5 w (omega arith) h₅ row_none)) f (λ ids. here ids ∙ same ids)
    where
      h₅ : i < validators_fit (put_word 4 ws i e)
      h₅ = rw length-set h

      apart : (j : ℕ) → j ≢ 4 → j ≢ 5 → word_at j (put_word 5 (put_word 4 ws i e) i w) i ≡ word_at j ws i
      apart j m n =
          word_apart 5 (put_word 4 ws i e) i w (omega arith) h₅ j i n ∙ word_apart 4 ws i e (omega arith) h j i m

      exit : word_at 4 (put_word 5 (put_word 4 ws i e) i w) i ≡ e
      exit =
          word_apart 5 (put_word 4 ws i e) i w (omega arith) h₅ 4 i (omega arith) ∙ word_here 4 ws i e (omega arith) h

      here : (ids : List ℕ)
          → validator_at ids (put_word 5 (put_word 4 ws i e) i w) i ≡ with_exit e w (validator_at ids ws i)
      here ids =
          simp (
            apart 0 (omega arith) (omega arith),
            apart 1 (omega arith) (omega arith),
            apart 2 (omega arith) (omega arith),
            apart 3 (omega arith) (omega arith),
            exit,
            word_here 5 (put_word 4 ws i e) i w (omega arith) h₅,
            apart 6 (omega arith) (omega arith),
          )

-- ---- identities

-- a part of the front of a list
part_front : (l : List ℕ) (at m n : ℕ) → at + m ≤ n → take m (drop at (take n l)) ≡ take m (drop at l)
part_front l at m n h =
    ext_get_or 0 (take m (drop at (take n l))) (take m (drop at l))
    (omega (
      arith,
      length-take m (drop at (take n l)),
      length-drop at (take n l),
      length-take n l,
      length-take m (drop at l),
      length-drop at l,
    ))
    (λ i p.
    let q : i < m = omega (arith, length-take m (drop at (take n l))) in
    get_d_part (take n l) at m i q ∙ get_or-take n l (at + i) 0 (omega arith) ∙ sym (get_d_part l at m i q))

-- where the key and the credentials of validator i stand
pub key_read : (ids : List ℕ) (i : ℕ) → i < identities_fit ids → take 48 (drop (48 * i) ids) ≡ public_key_at ids i
unfolding key_column
key_read ids i h = sym (part_front ids (48 * i) 48 (48 * identities_fit ids) (omega arith))

pub credentials_read : (ids : List ℕ) (i : ℕ) → i < identities_fit ids
    → take 32 (drop (48 * identities_fit ids + 32 * i) ids) ≡ withdrawal_credentials_at ids i
unfolding credentials_column
credentials_read ids i h =
    ap (take 32) (sym (drop-drop (32 * i) (48 * identities_fit ids) ids))
    ∙ sym (part_front (drop (48 * identities_fit ids) ids) (32 * i) 32 (32 * identities_fit ids) (omega arith))

pub key_length : (ids : List ℕ) (i : ℕ) → i < identities_fit ids → length (public_key_at ids i) ≡ 48
key_length ids i h =
    ap length (sym (key_read ids i h)) ∙ omega (arith, length-take 48 (drop (48 * i) ids), length-drop (48 * i) ids)

pub credentials_length : (ids : List ℕ) (i : ℕ) → i < identities_fit ids
    → length (withdrawal_credentials_at ids i) ≡ 32
credentials_length ids i h =
    let at = 48 * identities_fit ids + 32 * i in
    ap length (sym (credentials_read ids i h)) ∙ omega (arith, length-take 32 (drop at ids), length-drop at ids)

-- the prefix is the first byte of the credentials
pub prefix_read : (ids : List ℕ) (i : ℕ) → i < identities_fit ids
    → get_or ids (48 * identities_fit ids + 32 * i) 0 ≡ prefix (withdrawal_credentials_at ids i)
prefix_read ids i h =
    let at = 48 * identities_fit ids + 32 * i in
    let z : at + 0 ≡ at = omega arith in
    sym (rw z at (get_d_part ids at 32 0 (omega arith))) ∙ ap prefix (credentials_read ids i h)

-- stores into the bytes of validator i alone
pub record IdentityStored (i : ℕ) (us ids : List ℕ) : Type 0 where
  pub size : length us ≡ length ids
  pub keys : Outside (48 * i) (48 * i + 48) (key_column us) (key_column ids)
  pub credentials : Outside (32 * i) (32 * i + 32) (credentials_column us) (credentials_column ids)
  pub behind : drop (80 * identities_fit us) us ≡ drop (80 * identities_fit ids) ids

identity_then : {i : ℕ} {ids us vs : List ℕ} → IdentityStored i us ids → IdentityStored i vs us
    → IdentityStored i vs ids
identity_then a b = record {
  size = b.size ∙ a.size;
  keys = outside_then b.keys a.keys;
  credentials = outside_then b.credentials a.credentials;
  behind = b.behind ∙ a.behind;
}

module _ {ids us : List ℕ} {lo hi : ℕ} (i : ℕ) (h : i < identities_fit ids) (o : Outside lo hi us ids) where
  key_stored : (48 * i ≤ lo) × (hi ≤ 48 * i + 48) → IdentityStored i us ids
  unfolding key_column credentials_column
  key_stored within = record {
    size = o.size;
    keys = rw o.size (outside_wider (outside_within o 0 (48 * identities_fit ids)) (λ q a b. omega arith));
    credentials =
        rw o.size
        (outside_wider (outside_within o (48 * identities_fit ids) (32 * identities_fit ids)) (λ q a b. omega arith));
    behind = rw o.size (outside_drop o (80 * identities_fit ids) (omega arith));
  }

  credentials_stored : (48 * identities_fit ids + 32 * i ≤ lo) × (hi ≤ 48 * identities_fit ids + 32 * i + 32)
      → IdentityStored i us ids
  unfolding key_column credentials_column
  credentials_stored within = record {
    size = o.size;
    keys = rw o.size (front_same);
    credentials =
        rw o.size
        (outside_wider (outside_within o (48 * identities_fit ids) (32 * identities_fit ids)) (λ q a b. omega arith));
    behind = rw o.size (outside_drop o (80 * identities_fit ids) (omega arith));
  }
    where
      front_same :
          Outside (48 * i) (48 * i + 48) (take (48 * identities_fit ids) us) (take (48 * identities_fit ids) ids)
      front_same =
          rw (outside_part o 0 (48 * identities_fit ids) (λ q a b c d. omega arith)) (outside_none {lo = 48 * i})

module _ {ids us : List ℕ} {i : ℕ} (s : IdentityStored i us ids) where
  identity_other : (ws : List ℕ) (j : ℕ) → j ≢ i → validator_at us ws j ≡ validator_at ids ws j
  identity_other ws j q =
      simp (
        outside_part s.keys (48 * j) 48 (λ k a b c d. omega arith),
        outside_part s.credentials (32 * j) 32 (λ k a b c d. omega arith),
      )

  identity_past : (n : ℕ) → i < n → identities_past n us ≡ identities_past n ids
  unfolding identities_past
  identity_past n l =
      λ j. (
        outside_drop s.keys (48 * n) (omega arith) j,
        outside_drop s.credentials (32 * n) (omega arith) j,
        s.behind j,
      )

  identity_adjusted : (f : Validator → Validator)
      → ((ws : List ℕ) → validator_at us ws i ≡ f (validator_at ids ws i)) → IdentityAdjusted i f ids us
  identity_adjusted f here = record {
    validators = λ ws n.
        rows_adjust n (validator_at ids ws) (validator_at us ws) i f
        (λ j p q. identity_other ws j q) (λ p. here ws);
    past = identity_past;
  }

pub compounding_prefix_stored : {ids : List ℕ} {i : ℕ} → i < identities_fit ids
    → IdentityAdjusted i with_compounding_prefix ids (set ids (48 * identities_fit ids + 32 * i) 2)
compounding_prefix_stored {ids} {i} h = identity_adjusted stored with_compounding_prefix here
  where
    o : Outside (48 * identities_fit ids + 32 * i) (48 * identities_fit ids + 32 * i + 1)
        (set ids (48 * identities_fit ids + 32 * i) 2) ids
    o =
        outside_more (48 * identities_fit ids + 32 * i) 2 (omega arith)
        (outside_none {lo = 48 * identities_fit ids + 32 * i + 1})

    stored : IdentityStored i (set ids (48 * identities_fit ids + 32 * i) 2) ids
    stored = credentials_stored i h o (omega arith)

    key : public_key_at (set ids (48 * identities_fit ids + 32 * i) 2) i ≡ public_key_at ids i
    key =
        sym (key_read (set ids (48 * identities_fit ids + 32 * i) 2) i (rw length-set h))
        ∙ outside_part o (48 * i) 48 (λ k a b c d. omega arith)
        ∙ key_read ids i h

    credentials :
        withdrawal_credentials_at (set ids (48 * identities_fit ids + 32 * i) 2) i
        ≡ set (withdrawal_credentials_at ids i) 0 2
    credentials =
        let at = 48 * identities_fit ids + 32 * i in
        let z : at + 0 ≡ at = omega arith in
        let there : take 32 (drop at (set ids at 2)) ≡ withdrawal_credentials_at (set ids at 2) i =
        rw length-set at (credentials_read (set ids at 2) i (rw length-set h)) in
        sym there
        ∙ ap (take 32) (rw z at (drop-set-add at ids 0 2))
        ∙ take-set-lt 32 (drop at ids) 0 2 (omega arith)
        ∙ ap (λ l. set l 0 2) (credentials_read ids i h)

    here : (ws : List ℕ)
        → validator_at (set ids (48 * identities_fit ids + 32 * i) 2) ws i
        ≡ with_compounding_prefix (validator_at ids ws i)
    here ws = simp (key, credentials)

-- ---- a new row

-- the bytes of validator v, stored behind the first n
abbrev pub put_identity : List ℕ → ℕ → Validator → List ℕ
put_identity ids n v =
    paste (paste ids (48 * n) v.public_key 48) (48 * identities_fit ids + 32 * n) v.withdrawal_credentials 32

module _ (ids : List ℕ) (n : ℕ) (v : Validator) (h : n < identities_fit ids) (key : length v.public_key ≡ 48)
    (credentials : length v.withdrawal_credentials ≡ 32) where
  abbrev with_key : List ℕ
  with_key = paste ids (48 * n) v.public_key 48

  abbrev place : ℕ
  place = 48 * identities_fit ids + 32 * n

  key_put : Outside (48 * n) (48 * n + 48) with_key ids
  key_put = paste_outside ids (48 * n) v.public_key 48 (omega arith) (omega arith)

  credentials_put : Outside place (place + 32) (put_identity ids n v) with_key
  credentials_put =
      paste_outside with_key place v.withdrawal_credentials 32 (omega (arith, key_put.size)) (omega arith)

  same_fit : identities_fit with_key ≡ identities_fit ids
  same_fit = ap (λ m. m / 80) key_put.size

  put_fit : identities_fit (put_identity ids n v) ≡ identities_fit ids
  put_fit = ap (λ m. m / 80) (credentials_put.size ∙ key_put.size)

  pub identity_put : IdentityStored n (put_identity ids n v) ids
  identity_put =
      identity_then
      (key_stored n h key_put (omega arith))
      (credentials_stored n (omega (arith, same_fit)) credentials_put (omega (arith, same_fit)))

  pub public_key_put : public_key_at (put_identity ids n v) n ≡ v.public_key
  public_key_put =
      sym (key_read (put_identity ids n v) n (omega (arith, put_fit)))
      ∙ outside_part credentials_put (48 * n) 48 (λ q a b c d. omega arith)
      ∙ paste_part ids (48 * n) v.public_key 48 (omega arith) (omega arith)
      ∙ take_all 48 v.public_key (omega arith)

  pub withdrawal_credentials_put : withdrawal_credentials_at (put_identity ids n v) n ≡ v.withdrawal_credentials
  withdrawal_credentials_put =
      sym (rw put_fit at (credentials_read (put_identity ids n v) n (omega (arith, put_fit))))
      ∙ paste_part with_key place v.withdrawal_credentials 32 (omega (arith, key_put.size)) (omega arith)
      ∙ take_all 32 v.withdrawal_credentials (omega arith)

-- seven words, in the order of the columns, stored behind the first n
abbrev pub put_words : List ℕ → ℕ → (a b c d e f g : ℕ) → List ℕ
put_words ws n a b c d e f g =
    put_word 6
    (put_word 5 (put_word 4 (put_word 3 (put_word 2 (put_word 1 (put_word 0 ws n a) n b) n c) n d) n e) n f) n g

-- the same, of a list of seven words
abbrev pub put_row : List ℕ → ℕ → List ℕ → List ℕ
put_row ws n r =
    put_words ws n (get_or r 0 0) (get_or r 1 0) (get_or r 2 0) (get_or r 3 0) (get_or r 4 0) (get_or r 5 0)
    (get_or r 6 0)

-- the words of validator v
module _ (ws : List ℕ) (n : ℕ) (v : Validator) where
  abbrev w₁ : List ℕ
  w₁ = put_word 0 ws n v.slashed

  abbrev w₂ : List ℕ
  w₂ = put_word 1 w₁ n v.effective_balance

  abbrev w₃ : List ℕ
  w₃ = put_word 2 w₂ n v.activation_eligibility_epoch

  abbrev w₄ : List ℕ
  w₄ = put_word 3 w₃ n v.activation_epoch

  abbrev w₅ : List ℕ
  w₅ = put_word 4 w₄ n v.exit_epoch

  abbrev w₆ : List ℕ
  w₆ = put_word 5 w₅ n v.withdrawable_epoch

  abbrev pub put_validator : List ℕ
  put_validator = put_word 6 w₆ n v.balance

  module _ (h : n < validators_fit ws) where
    h₁ : n < validators_fit w₁
    h₁ = rw length-set h

    h₂ : n < validators_fit w₂
    h₂ = rw length-set h₁

    h₃ : n < validators_fit w₃
    h₃ = rw length-set h₂

    h₄ : n < validators_fit w₄
    h₄ = rw length-set h₃

    h₅ : n < validators_fit w₅
    h₅ = rw length-set h₄

    h₆ : n < validators_fit w₆
    h₆ = rw length-set h₅

    pub words_put : RowStored n put_validator ws
    words_put =
        row_more 0 v.slashed (omega arith) h
        (row_more 1 v.effective_balance (omega arith) h₁
        (row_more 2 v.activation_eligibility_epoch (omega arith) h₂
        (row_more 3 v.activation_epoch (omega arith) h₃
        (row_more 4 v.exit_epoch (omega arith) h₄
        (row_more 5 v.withdrawable_epoch (omega arith) h₅
        (row_more 6 v.balance (omega arith) h₆ row_none))))))

    -- a word below k is not stored to from w_k on
    below₆ : (j : ℕ) → j < 6 → word_at j put_validator n ≡ word_at j w₆ n
    below₆ j l = word_apart 6 w₆ n v.balance (omega arith) h₆ j n (omega arith)

    below₅ : (j : ℕ) → j < 5 → word_at j put_validator n ≡ word_at j w₅ n
    below₅ j l =
        below₆ j (omega arith) ∙ word_apart 5 w₅ n v.withdrawable_epoch (omega arith) h₅ j n (omega arith)

    below₄ : (j : ℕ) → j < 4 → word_at j put_validator n ≡ word_at j w₄ n
    below₄ j l = below₅ j (omega arith) ∙ word_apart 4 w₄ n v.exit_epoch (omega arith) h₄ j n (omega arith)

    below₃ : (j : ℕ) → j < 3 → word_at j put_validator n ≡ word_at j w₃ n
    below₃ j l = below₄ j (omega arith) ∙ word_apart 3 w₃ n v.activation_epoch (omega arith) h₃ j n (omega arith)

    below₂ : (j : ℕ) → j < 2 → word_at j put_validator n ≡ word_at j w₂ n
    below₂ j l =
        below₃ j (omega arith)
        ∙ word_apart 2 w₂ n v.activation_eligibility_epoch (omega arith) h₂ j n (omega arith)

    below₁ : (j : ℕ) → j < 1 → word_at j put_validator n ≡ word_at j w₁ n
    below₁ j l = below₂ j (omega arith) ∙ word_apart 1 w₁ n v.effective_balance (omega arith) h₁ j n (omega arith)

    validator_put : (ids : List ℕ) → public_key_at ids n ≡ v.public_key
        → withdrawal_credentials_at ids n ≡ v.withdrawal_credentials → validator_at ids put_validator n ≡ v
    validator_put ids p q =
        simp (
          p,
          q,
          below₁ 0 (omega arith) ∙ word_here 0 ws n v.slashed (omega arith) h,
          below₂ 1 (omega arith) ∙ word_here 1 w₁ n v.effective_balance (omega arith) h₁,
          below₃ 2 (omega arith) ∙ word_here 2 w₂ n v.activation_eligibility_epoch (omega arith) h₂,
          below₄ 3 (omega arith) ∙ word_here 3 w₃ n v.activation_epoch (omega arith) h₃,
          below₅ 4 (omega arith) ∙ word_here 4 w₄ n v.exit_epoch (omega arith) h₄,
          below₆ 5 (omega arith) ∙ word_here 5 w₅ n v.withdrawable_epoch (omega arith) h₅,
          word_here 6 w₆ n v.balance (omega arith) h₆,
        )

pub validator_pushed : (ids ws : List ℕ) (n : ℕ) (v : Validator) → n < identities_fit ids → n < validators_fit ws
    → length v.public_key ≡ 48 → length v.withdrawal_credentials ≡ 32
    → ValidatorPushed n v ids ws (put_identity ids n v) (put_validator ws n v)
validator_pushed ids ws n v f g key credentials = record {
  validators =
      rows_push n (validator_at ids ws) (validator_at (put_identity ids n v) (put_validator ws n v)) v below here;
  identities_past = identity_past bytes (n + 1) (omega arith);
  validators_past = (words_put ws n v g).past (n + 1) (omega arith);
}
  where
    bytes : IdentityStored n (put_identity ids n v) ids
    bytes = identity_put ids n v f key credentials

    below : (j : ℕ) → j < n → validator_at (put_identity ids n v) (put_validator ws n v) j ≡ validator_at ids ws j
    below j h =
        identity_other bytes (put_validator ws n v) j (omega arith)
        ∙ validator_other (words_put ws n v g) ids j (omega arith)

    here : validator_at (put_identity ids n v) (put_validator ws n v) n ≡ v
    here =
        validator_put ws n v g (put_identity ids n v)
        (public_key_put ids n v f key credentials) (withdrawal_credentials_put ids n v f key credentials)

-- the same, of the stores one after the other
pub validator_stored : (ids ws : List ℕ) (n : ℕ) (v : Validator) → n < identities_fit ids → n < validators_fit ws
    → length v.public_key ≡ 48 → length v.withdrawal_credentials ≡ 32 → {with_key new_ids new_ws : List ℕ}
    → with_key ≡ paste ids (48 * n) v.public_key 48
    → new_ids ≡ paste with_key (48 * identities_fit ids + 32 * n) v.withdrawal_credentials 32
    → new_ws ≡ put_validator ws n v
    → ValidatorPushed n v ids ws new_ids new_ws
validator_stored ids ws n v f g key credentials p q r = rw (q, p, r) (validator_pushed ids ws n v f g key credentials)
