use Prim.Native.Nat.{◌-◌, ◌≤◌}
use Rattle.std.proofs.Math.Path.{◌≡◌}
use Rattle.std.specs.Prelude.{length}
use Rattle.row.specs.declared.finding.Wanted.TheVariants.{Serial}
use Rattle.row.specs.Finding.{passes, first_from}
use Rattle.row.proofs.finding.first_with.Given as goal

abbrev pub invariant-loop-at : goal.invariant-loop-at
invariant-loop-at l = (l.at ≤ length l.table) × (first_from l.width (passes l.table (Serial l.wanted)) l.table l.at ≡ first_from l.width (passes l.table (Serial l.wanted)) l.table 0)

abbrev pub decreases-loop-at : goal.decreases-loop-at
decreases-loop-at l = length l.table - l.at
