use Rattle.std.proofs.Common.{take, drop, take-add}
use Rattle.std.proofs.KnownBytes.{Consumes-trans}
use Rattle.desk_lines.proofs.file.read_full.Goals as goal

pub loop-len-preserved : goal.loop-len-preserved
loop-len-preserved g c =
    let len = c.loop-len.len in
    let got = c.in_ok-got.got in
    let table = c.read_behind.new.table in
    record {
      upper_bound = c.in_ok-got.ensures.upper_bound;
      taken =
          rw (take-add len got table, c.in_ok-got.ensures.front)
          (Consumes-trans (g.F.Read.remaining c.args.file.now) (g.F.Read.remaining c.loop-len.file) (g.F.Read.remaining c.read_behind.new.file)
          (take len c.loop-len.table) (take got (drop len table)) c.loop-len.invariant.taken c.in_ok-got.ensures.taken);
    }
