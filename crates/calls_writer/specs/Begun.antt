-- The file of no calls.
use Rattle.std.specs.Prelude.{◌≡◌, refl, List, [], ◌∷◌, ℕ, ◌≤◌, ◌<◌, length, take, ltb}
use Rattle.std.proofs.Common.{sym, ap, ◌∙◌, arith, lt-ltb, le-ltb}
use Rattle.lists.specs.Base.{when◌then◌else◌}
use Rattle.lists.specs.Laws.{if_true, if_false}
use Rattle.file_format.specs.Words.{word, calls_head, end_word, with_end, words}
use Rattle.file_format.specs.Fields.{many}
use Rattle.file_format.specs.Calls.{calls_format}
use Rattle.file_format.specs.File.{write_file, write_calls}
use Rattle.file_format.specs.PutLaws.{put}
use Rattle.file_stores.specs.Laws.{put_next, put_closed, put_over}
use Rattle.calls_writer.specs.Added.{begin_number, Begun}

none_length : length (write_calls []) ≡ 12
unfolding write_file calls_format many
none_length = refl

begin_is : (out : List ℕ) → begin_number out ≡ (when ltb (length out) 12 then 61 else 0)
unfolding begin_number
begin_is out = ap (λ n. when ltb (length out) n then 61 else 0) none_length

pub begun_short : (out : List ℕ) → length out < 12 → Begun out out 61 0
begun_short out h = record {
  number = sym (begin_is out ∙ if_true _ _ _ (lt-ltb (length out) 12 h));
  done = λ e. let z : ⊥ = omega arith in absurd z;
  refused = λ e. (refl, refl);
}

pub begun_done : (out o₁ o₂ o₃ : List ℕ) → 12 ≤ length out → o₁ ≡ put out 0 (0x10000002 ∷ [])
    → o₂ ≡ put o₁ 1 (word 2 0 ∷ []) → o₃ ≡ put o₂ 2 (end_word (take 2 (words o₂)) ∷ []) → Begun out o₃ 0 12
unfolding write_file calls_format many
begun_done out o₁ o₂ o₃ h e₁ e₂ e₃ =
    let us = word 1 calls_head ∷ word 2 0 ∷ [] in
    let a = put_next out o₁ o₂ 0 1 (word 1 calls_head ∷ []) (word 2 0 ∷ []) e₁ e₂ refl (omega arith) in
    let b = put_closed out o₂ o₃ us 2 a refl e₃ (omega arith) in
    record {
      number = sym (begin_is out ∙ if_false _ _ _ (le-ltb (length out) 12 h));
      done = λ e. (b ∙ put_over out (with_end us), sym none_length);
      refused = λ e. absurd (e refl);
    }
