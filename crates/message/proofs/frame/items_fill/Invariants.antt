use Prim.Native.Nat.{◌-◌, ◌≤◌}
use Rattle.std.proofs.Math.Path.{◌≡◌}
use Rattle.message.specs.Walking.{items_fill}
use Rattle.message.proofs.frame.items_fill.Given as goal

abbrev pub invariant-loop : goal.invariant-loop
invariant-loop l = (l.at ≤ 65815) × (items_fill (l.count - l.counter) l.message l.at ≡ items_fill l.count l.message l.start)
