use Rattle.std.proofs.Common.{◌≡◌, length, take}
use Rattle.sm3.specs.Sm3.{words_at}
use Rattle.sm3.proofs.block.load.Given as goal

abbrev pub invariant-loop-j : goal.invariant-loop-j
invariant-loop-j l = record { size : length l.w ≡ 68; words : take l.j l.w ≡ words_at l.j l.m l.at }
