-- `file_bytes::put_field` meets its contract.
use Rattle.std.proofs.Common.{◌≡◌, ℕ, ◌+◌, ◌-◌, ◌*◌, ◌/◌, ◌%◌, ◌<◌, length, take, get_or, ◌∙◌, arith}
use Rattle.file_format.specs.Words.{words}
use Rattle.file_format.specs.Fields.{field}
use Rattle.file_bytes.specs.Laws.{field_size, field_inside, word_bytes, put_more, put_all}
use Rattle.file_bytes.proofs.put_field.Goals as goal

pub three_bytes-requires : goal.three_bytes-requires
three_bytes-requires c =
    let a = c.args in
    field_inside a.rest.now (length a.bytes.now) c.requires c.loop-i.i (omega arith)

pub loop-i-preserved : goal.loop-i-preserved
loop-i-preserved c =
    let a = c.args in
    let bs = a.rest.now in
    let l = a.bytes.now in
    let i = c.loop-i.i in
    let small : (q : ℕ) → get_or bs q 0 < 256 = λ q. omega (arith, c.type_inv.rest q) in
    let three = word_bytes bs (length l) c.requires i (omega arith) small 3 (omega arith) (omega arith) in
    let long = field_size bs (length l) c.requires in
    let w : i * 3 + 3 - i * 3 ≡ 3 = omega arith in
    rw w
    (put_more l ((field (length l)).value (words bs)) _ _ (i * 3) 3 ((i + 1) * 3) (omega (arith, long))
    c.loop-i.invariant (c.copy_from_slice.ensures.after ∙ c.three_bytes.ensures ∙ three) (omega arith))

pub three_bytes-last-requires : goal.three_bytes-last-requires
three_bytes-last-requires c =
    let a = c.args in
    let n = length a.bytes.now in
    field_inside a.rest.now n c.requires (n / 3) (omega arith)

pub returns-then-left-gt0 : goal.returns-then-left-gt0
returns-then-left-gt0 c =
    let a = c.args in
    let bs = a.rest.now in
    let l = a.bytes.now in
    let m = c.loop-i.bytes in
    let n = length l in
    let v = (field n).value (words bs) in
    let full = n / 3 * 3 in
    let left = length m - full in
    let long = field_size bs n c.requires in
    let done : c.loop-i.i ≡ n / 3 = omega arith in
    let small : (q : ℕ) → get_or bs q 0 < 256 = λ q. omega (arith, c.type_inv.rest q) in
    let last = word_bytes bs n c.requires (n / 3) (omega arith) small left (omega arith) (omega arith) in
    let few : length m % 3 ≡ left = omega arith in
    let bytes = (λ j. take (few j) (c.three_bytes-last.ensures j)) ∙ last in
    let put = c.copy_from_slice-then-left-gt0.ensures.after ∙ bytes in
    put_all l v _ n (omega arith) (omega (arith, long))
    (put_more l v m _ full left n (omega (arith, long)) (rw done at c.loop-i.invariant) put (omega arith))

pub returns-else-left-gt0 : goal.returns-else-left-gt0
returns-else-left-gt0 c =
    let a = c.args in
    let n = length a.bytes.now in
    let long = field_size a.rest.now n c.requires in
    put_all a.bytes.now ((field n).value (words a.rest.now)) c.loop-i.bytes (c.loop-i.i * 3) (omega arith)
    (omega (arith, long)) c.loop-i.invariant
