use mathlib.Core.Path.{◌≡◌}
use mathlib.Core.Bool.{true}
use borrow.Author.Rules.{rules}
use Rattle.lists.specs.Base.{every}
use Rattle.file_format.specs.Words.{is_byte}
use Rattle.file_format.proofs.FileLaws.{bytes_known}
use Rattle.calls_writer.specs.Opened.{part_length, opened_long, opened_broken, opened_full}
use Rattle.calls_writer.specs.Opened.{opened_short, opened_done}
use Rattle.calls_writer.proofs.open.Goals as goal

pub returns-then-out-size : goal.returns-then-out-size
returns-then-out-size c = search (opened_long, rules)

pub returns-then-not-calls_file_ok : goal.returns-then-not-calls_file_ok
returns-then-not-calls_file_ok c = search (opened_broken, rules)

pub returns-then-count-ge9999 : goal.returns-then-count-ge9999
returns-then-count-ge9999 c =
    let small : every is_byte c.args.out.now ≡ true = bytes_known c.args.out.now (search rules) in
    search (opened_full, small, rules)

pub returns-then-out-size-2 : goal.returns-then-out-size-2
returns-then-out-size-2 c =
    let small : every is_byte c.args.out.now ≡ true = bytes_known c.args.out.now (search rules) in
    opened_short _ _ _ _ _ small c.if-out-size.false c.calls_file_ok.ensures
    c.if-not-calls_file_ok.false c.calls_count-count.ensures c.if-count-ge9999.false c.if-out-size-2.true

pub returns : goal.returns
returns c =
    let small : every is_byte c.args.out.now ≡ true = bytes_known c.args.out.now (search rules) in
    opened_done _ _ _ _ _ small c.if-out-size.false c.calls_file_ok.ensures
    c.if-not-calls_file_ok.false c.calls_count-count.ensures c.if-count-ge9999.false c.if-out-size-2.false
