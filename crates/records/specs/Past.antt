-- What agrees past m records agrees past more.
use Rattle.std.specs.Prelude.{◌≡◌, List, [], ℕ, ◌+◌, ◌-◌, ◌*◌, ◌≤◌, get_or, drop}
use Rattle.std.proofs.Common.{ap, sym, ◌∙◌, arith, drop-drop}
use Rattle.tables.specs.Rows.{rows, rows_ext, get_d_rows}
use Rattle.records.specs.Layout.{column}
use Rattle.records.specs.Layout.{key_column, credentials_column, validators_fit}
use Rattle.records.specs.Layout.{identities_past, validators_past}

pub drop_more : (m n : ℕ) (l k : List ℕ) → m ≤ n → drop m l ≡ drop m k → drop n l ≡ drop n k
drop_more m n l k h e =
    let q : m + (n - m) ≡ n = omega arith in
    rw (← q) (sym (drop-drop (n - m) m l) ∙ ap (drop (n - m)) e ∙ drop-drop (n - m) m k)

pub validators_past_more : (m n : ℕ) (us ws : List ℕ) → m ≤ n
    → validators_past m us ≡ validators_past m ws → validators_past n us ≡ validators_past n ws
unfolding validators_past
validators_past_more m n us ws h e = λ j. (columns j, ap (λ p. p.1) e j)
  where
    of : ℕ → List ℕ → ℕ → List ℕ
    of m l k = drop m (column (validators_fit l) k l)

    columns : rows 7 (of n us) ≡ rows 7 (of n ws)
    columns =
        rows_ext 7 (of n us) (of n ws) (λ k p.
        drop_more m n (column (validators_fit us) k us) (column (validators_fit ws) k ws) h
        (sym (get_d_rows 7 (of m us) k [] p) ∙ ap (λ q. get_or q.0 k []) e ∙ get_d_rows 7 (of m ws) k [] p))

pub identities_past_more : (m n : ℕ) (us ids : List ℕ) → m ≤ n
    → identities_past m us ≡ identities_past m ids → identities_past n us ≡ identities_past n ids
unfolding identities_past
identities_past_more m n us ids h e = λ j. (keys j, credentials j, ap (λ p. p.2) e j)
  where
    keys : drop (48 * n) (key_column us) ≡ drop (48 * n) (key_column ids)
    keys = drop_more (48 * m) (48 * n) (key_column us) (key_column ids) (omega arith) (ap (λ p. p.0) e)

    credentials : drop (32 * n) (credentials_column us) ≡ drop (32 * n) (credentials_column ids)
    credentials =
        drop_more (32 * m) (32 * n) (credentials_column us) (credentials_column ids) (omega arith) (ap (λ p. p.1) e)
