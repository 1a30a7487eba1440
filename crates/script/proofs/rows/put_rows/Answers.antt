use Rattle.script.specs.RowsLaws.{rowed_none, row_within, rowed_more}
use Rattle.script.proofs.rows.put_rows.Goals as goal

pub loop-i-init : goal.loop-i-init
loop-i-init c = rowed_none c.args.out.now c.args.at c.args.table.now c.args.rows

pub bounds-out-end : goal.bounds-out-end
bounds-out-end c =
    row_within c.args.out.now c.args.at c.args.table.now c.args.rows c.loop-i.out c.loop-i.end c.loop-i.i c.loop-i.invariant c.loop-i-test.true
    c.requires.rows_value c.requires.rows_in_bounds c.put_hex-end.auto.out c.put_hex-end.ensures

pub loop-i-preserved : goal.loop-i-preserved
loop-i-preserved c =
    rowed_more c.args.out.now c.args.at c.args.table.now c.args.rows c.loop-i.out c.loop-i.end c.loop-i.i c.loop-i.invariant c.loop-i-test.true
    c.requires.rows_value c.requires.rows_in_bounds c.put_hex-end.auto.out c.put_hex-end.ensures
