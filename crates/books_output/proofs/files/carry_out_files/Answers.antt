-- The opening is judged before the calls are looked at, and they are carried out on what was read into the tables.
use borrow.Author.Rules.{rules}
use mathlib.Core.Path.{refl}
use native.Mathlib.Omega.{arith}
use Rattle.std.proofs.Common.{◌≡◌, Err}
use Rattle.primitives.specs.Answers.{refusal_not_0}
use Rattle.books_output.proofs.Laws.{program_buffers, calls_too_long, calls_refused, calls_carried}
use Rattle.books_output.proofs.files.carry_out_files.Goals as goal

pub returns-then-calls-gt-MOST_BYTES : goal.returns-then-calls-gt-MOST_BYTES
returns-then-calls-gt-MOST_BYTES c =
    calls_too_long c.in_ok-opened.ensures c.args.calls.now (omega (arith, c.if-calls-gt-MOST_BYTES.true))

pub returns-in_err-carried : goal.returns-in_err-carried
returns-in_err-carried c =
    let e : c.from_residual-in_err-carried.result ≡ Err c.in_err-carried.field-0.0 = search rules in
    rw e
    (calls_refused c.in_ok-opened.ensures c.args.calls.now (omega (arith, c.if-calls-gt-MOST_BYTES.false))
    (program_buffers _ _ _ _ _ (omega arith) (omega arith) (omega arith) (omega arith) (omega arith))
    (omega arith) c.in_err-carried.ensures (refusal_not_0 _))

pub returns : goal.returns
returns c =
    let r = c.carry_out.auto in
    calls_carried c.in_ok-opened.ensures c.args.calls.now (omega (arith, c.if-calls-gt-MOST_BYTES.false))
    (program_buffers _ _ _ _ _ (omega arith) (omega arith) (omega arith) (omega arith) (omega arith))
    (omega arith) c.in_ok-carried.ensures refl
    (record {
      identities = r.identities;
      validators = r.validators;
      deposits = r.deposits;
      partials = r.partials;
      consolidations = r.consolidations;
    })
