use Rattle.std.proofs.Common.{◌≤◌, ◌-◌, length, take}
use Rattle.std.specs.Io.KnownBytes.{Consumes}
use Rattle.desk_lines.proofs.file.read_full.Given as goal

abbrev pub invariant-loop-len : goal.invariant-loop-len
invariant-loop-len g l =
    record { upper_bound : l.len ≤ length l.table; taken : Consumes (g.F.Read.remaining l.initial.file) (g.F.Read.remaining l.file) (take l.len l.table) }

abbrev pub decreases-loop-len : goal.decreases-loop-len
decreases-loop-len g l = length l.table - l.len
