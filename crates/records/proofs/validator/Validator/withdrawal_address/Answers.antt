use Rattle.std.proofs.Common.{◌≡◌, ◌∙◌, length, drop, length-drop, take_all, rules, arith}
use Rattle.records.proofs.validator.Validator.withdrawal_address.Goals as goal

pub returns : goal.returns
returns c =
    let w = c.args.self.withdrawal_credentials in
    let l : length w ≡ 32 = search rules in
    c.bytes_at.ensures ∙ take_all 20 (drop 12 w) (omega (arith, length-drop 12 w))
