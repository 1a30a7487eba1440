use Rattle.std.proofs.Common.{◌∙◌, arith}
use Rattle.sm3.specs.Sm3Laws.{whole_hash, answer_hashed, answer-refused}
use Rattle.sm3.proofs.sm3.Goals as goal

pub returns-then-len-gt4294967295 : goal.returns-then-len-gt4294967295
returns-then-len-gt4294967295 c = answer-refused c.args.message.now (omega arith)

pub returns : goal.returns
returns c =
    let message = c.args.message.now in
    answer_hashed message (omega (arith, c.if-len-gt4294967295.false)) (c.digest.ensures ∙ whole_hash message c.start.ensures c.last_value.ensures)
