use Rattle.std.proofs.Common.{arith}
use Rattle.script.specs.RowsLaws.{hexed_none, hexed_more, hexed_all}
use Rattle.script.proofs.rows.put_hex.Goals as goal

pub loop-b-init : goal.loop-b-init
loop-b-init c = hexed_none c.args.out.now c.args.at c.args.bytes.now

pub loop-b-preserved : goal.loop-b-preserved
loop-b-preserved c =
    hexed_more c.args.out.now c.args.at c.args.bytes.now c.loop-b.out c.loop-b.end c.loop-b.b-index c.loop-b.invariant c.loop-b-test.true (omega arith)
    c.hex_digit.ensures c.hex_digit-in-loop-b.ensures

pub returns : goal.returns
returns c =
    hexed_all c.args.out.now c.args.at c.args.bytes.now c.loop-b.out c.loop-b.end c.loop-b.b-index c.loop-b.invariant c.loop-b-test.false
