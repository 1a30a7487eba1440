use Rattle.std.proofs.Common.{◌≡◌, ◌+◌, ◌*◌, ◌^◌, ◌≤◌, drop}
use Rattle.otp.specs.Numbers.{number_from}
use Rattle.otp.proofs.number.number_shown.Given as goal

abbrev pub invariant-loop-b : goal.invariant-loop-b
invariant-loop-b l = (l.x + 23 ≤ 23 * 10 ^ l.b-index) × (number_from l.x (drop l.b-index l.digits) ≡ number_from 0 l.digits)
