-- The promises leave no second outcome, and what was written is read.
use Rattle.std.specs.Prelude.{◌≡◌, true, not, List, [], ℕ, zero, suc, length, take, drop, ltb}
use Rattle.std.proofs.Math.Path.{refl}
use Rattle.std.proofs.Common.{sym, ap, ◌∙◌, arith, take_at}
use Rattle.std.proofs.Math.Option.{Option, some, none}
use Rattle.lists.specs.Laws.{passed, not_not}
use Rattle.rules.specs.Calls.{Operation}
use Rattle.file_format.specs.Calls.{calls_format, calls_writable}
use Rattle.file_format.specs.File.{write_calls, read_calls}
use Rattle.file_format.specs.Answers.{add_answer, added_answer, one_more}
use Rattle.file_format.proofs.CallsLaws.{calls_format_lawful}
use Rattle.file_format.specs.Fields.{many}
use Rattle.file_format.proofs.FileLaws.{some_same, read_written}
use Rattle.calls_writer.specs.Added.{add_number, Begun, Added}

-- ---- the file of no calls

pub begun_fixed : (out last₁ last₂ : List ℕ) (n₁ n₂ l₁ l₂ : ℕ) → Begun out last₁ n₁ l₁ → Begun out last₂ n₂ l₂
    → (n₁ ≡ n₂) × (last₁ ≡ last₂) × (l₁ ≡ l₂)
begun_fixed out last₁ last₂ zero n₂ l₁ l₂ p q =
    let e : 0 ≡ n₂ = p.number ∙ sym q.number in
    let a = p.done refl in
    let b = q.done (sym e) in
    (e, a.0 ∙ sym b.0, a.1 ∙ sym b.1)
begun_fixed out last₁ last₂ (suc n) n₂ l₁ l₂ p q =
    let e : suc n ≡ n₂ = p.number ∙ sym q.number in
    let a = p.refused (λ z. omega arith) in
    let b = q.refused (λ z. omega arith) in
    (e, a.0 ∙ sym b.0, a.1 ∙ sym b.1)

-- ---- a call added

-- the answer 0 is given of a calls file only
pub record Taken (o : Operation) (bs : List ℕ) : Type 0 where
  pub os : List Operation
  pub read : read_calls bs ≡ some os
  pub writable : calls_writable (one_more os o) ≡ true

module _ (o : Operation) (bs : List ℕ) (space : ℕ) where
  taken_of : (r : Option (List Operation)) → read_calls bs ≡ r → added_answer space o r ≡ 0 → Taken o bs
  taken_of none e h = let z : ⊥ = omega arith in absurd z
  taken_of (some os) e h =
      let w = calls_writable (one_more os o) in
      let s = passed (not w) (omega arith) h in
      record { os = os; read = e; writable = not_not w s.0 }

  taken_answer : add_answer bs space o ≡ 0 → Taken o bs
  unfolding add_answer
  taken_answer h = taken_of (read_calls bs) refl h

pub taken : (o : Operation) (size : ℕ) (out : List ℕ) → add_number out size o ≡ 0 → Taken o (take size out)
unfolding add_number
taken o size out h =
    taken_answer o (take size out) (length out) (passed (ltb (length out) size) (omega arith) h).1

-- number, every byte and length
pub added_fixed : (o : Operation) (size : ℕ) (out last₁ last₂ : List ℕ) (n₁ n₂ l₁ l₂ : ℕ)
    → Added o size out last₁ n₁ l₁ → Added o size out last₂ n₂ l₂ → (n₁ ≡ n₂) × (last₁ ≡ last₂) × (l₁ ≡ l₂)
added_fixed o size out last₁ last₂ zero n₂ l₁ l₂ p q =
    let e : 0 ≡ n₂ = p.number ∙ sym q.number in
    let t = taken o size out (sym p.number) in
    let a = p.done refl t.os t.read in
    let b = q.done (sym e) t.os t.read in
    (e, a.0 ∙ sym b.0, a.1 ∙ sym b.1)
added_fixed o size out last₁ last₂ (suc n) n₂ l₁ l₂ p q =
    let e : suc n ≡ n₂ = p.number ∙ sym q.number in
    let a = p.refused (λ z. omega arith) in
    let b = q.refused (λ z. omega arith) in
    (e, a.0 ∙ sym b.0, a.1 ∙ sym b.1)

-- ---- what was written is read: the first l bytes are a calls file again

none_writable : calls_writable [] ≡ true
unfolding calls_format many
none_writable = refl

pub begun_read : (out last : List ℕ) (l : ℕ) → Begun out last 0 l → read_calls (take l last) ≡ some []
begun_read out last l p =
    let a = p.done refl in
    let bs = write_calls [] in
    ap (λ xs. read_calls (take l xs)) a.0
    ∙ ap read_calls (take_at bs (drop (length bs) out) l (sym a.1))
    ∙ read_written calls_format_lawful [] none_writable

pub added_read : (o : Operation) (size : ℕ) (out last : List ℕ) (l : ℕ) → Added o size out last 0 l
    → (os : List Operation) → read_calls (take size out) ≡ some os → read_calls (take l last) ≡ some (one_more os o)
added_read o size out last l p os r =
    let a = p.done refl os r in
    let t = taken o size out (sym p.number) in
    let same : t.os ≡ os = some_same (sym t.read ∙ r) in
    let bs = write_calls (one_more os o) in
    let good = ap (λ xs. calls_writable (one_more xs o)) (sym same) ∙ t.writable in
    ap (λ xs. read_calls (take l xs)) a.0
    ∙ ap read_calls (take_at bs (drop (length bs) out) l (sym a.1))
    ∙ read_written calls_format_lawful (one_more os o) good
