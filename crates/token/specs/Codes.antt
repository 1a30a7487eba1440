-- The numbers and values that document 01 gives to each answer, and document 02 to those that it adds.
use Rattle.token.specs.Answers.{Answer}
use Rattle.std.specs.Prelude.{ℕ, ◌-◌, cond, List, [], ◌∷◌, leb, Ok, Err}
use Rattle.window.specs.declared.Offset.{Offset}
use Rattle.window.specs.Window.{farthest}
use Rattle.token.specs.declared.answers.Content.{Content}
use Rattle.token.specs.declared.answers.Refusal.{Refusal}

abbrev pub refusal_number : Refusal → ℕ
refusal_number Refusal.BadMessage = 0x9001
refusal_number Refusal.BadMac = 0x9002
refusal_number Refusal.NoService = 0x9004
refusal_number Refusal.BadArgument = 0x9005
refusal_number Refusal.AlreadyLoaded = 0x8411
refusal_number Refusal.TableFull = 0x8410
refusal_number Refusal.Unknown = 0x8402
refusal_number Refusal.Damaged = 0x8403
refusal_number Refusal.Ready = 0x8409
refusal_number Refusal.Locked = 0x8404
refusal_number Refusal.Suspended = 0x8405
refusal_number Refusal.Inactive = 0x8406
refusal_number Refusal.Void = 0x8407
refusal_number Refusal.Expired = 0x8408
refusal_number Refusal.NextAtLogin = 0x8001
refusal_number Refusal.NextWanted = 0x8101
refusal_number Refusal.UsedAtLogin = 0x8004
refusal_number Refusal.Used = 0x8104
refusal_number Refusal.WrongAtLogin = 0x8002
refusal_number Refusal.Wrong = 0x8102
refusal_number Refusal.WrongAtSync = 0x8105

abbrev pub number_of : Answer → ℕ
number_of (Ok success) = success.number
number_of (Err refusal) = refusal_number refusal

-- a signed number, as d is
pub data Signed : Type 0 where
  plus : ℕ → Signed
  minus : ℕ → Signed

-- the offset d that is held as d + 600
unfoldable pub signed_of : Offset → Signed
signed_of d = cond (leb farthest d.0) (plus (d.0 - farthest)) (minus (farthest - d.0))

-- a checked success carries the step and d; a query the state, the errors and the last use
unfoldable pub values_of : Content → List Signed
values_of Content.Plain = []
values_of (Content.Checked step d) = plus step.0 ∷ signed_of d ∷ []
values_of (Content.Queried status) = plus status.state ∷ plus status.errors ∷ plus status.last_use.0 ∷ []
