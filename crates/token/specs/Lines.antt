-- Part 5's table (document 01): for each request the states that it needs, its check, its success, and what follows.
use Rattle.std.specs.Prelude.{ℕ, Bool, true, false, ◌&&◌, cond, eqb, leb, Option, Some, None}
use Rattle.window.specs.declared.Size.TheVariants.{Small, Large}
use Rattle.window.specs.declared.asked.Asked.TheVariants.{One, Challenged, Two}
use Rattle.token.specs.declared.answers.Refusal.{Refusal}
use Rattle.token.specs.declared.lines.Request.{Request}
use Rattle.token.specs.declared.lines.Fails.{Fails}
use Rattle.token.specs.declared.lines.States.{States}
use Rattle.token.specs.declared.lines.Way.{Way}
use Rattle.token.specs.declared.lines.Way.TheVariants.{Changes, Tells, Checks}
use Rattle.token.specs.declared.lines.After.{After}
use Rattle.token.specs.declared.lines.After.TheVariants.{Kept, Becomes, Voided}
use Rattle.token.specs.declared.lines.Line.{Line}

-- the states (Part 4)
abbrev pub empty : ℕ
empty = 0

abbrev pub inactive : ℕ
inactive = 1

abbrev pub ready : ℕ
ready = 2

abbrev pub locked_by_errors : ℕ
locked_by_errors = 3

abbrev pub locked_by_hand : ℕ
locked_by_hand = 4

abbrev pub suspended : ℕ
suspended = 5

abbrev pub void : ℕ
void = 6

-- what a password that several fresh steps have is called (document 02, Ask 5), which no pair is, a used one and a wrong one; whether errors lock the token,
-- and whether a double press is none (document 02, Ask 4)
abbrev pub at_login : Fails
at_login = record { several = Refusal.NextAtLogin; used = Refusal.UsedAtLogin; wrong = Refusal.WrongAtLogin; locks = true; forgives = true }

abbrev pub at_sync : Fails
at_sync = record { several = Refusal.NextWanted; used = Refusal.Used; wrong = Refusal.WrongAtSync; locks = false; forgives = false }

abbrev pub elsewhere : Fails
elsewhere = record { several = Refusal.NextWanted; used = Refusal.Used; wrong = Refusal.Wrong; locks = false; forgives = false }

-- the states from one to another
abbrev pub from_to : ℕ → ℕ → Option States
from_to lowest highest = Some (record { lowest = lowest; highest = highest })

abbrev pub listed : Option States → Way → ℕ → After → Line
listed needs way success after = record { needs = needs; way = way; success = success; after = after }

-- the table: the needed states from .. to .., what is done, the success, and what follows
abbrev pub line_of : Request → Line
line_of (Request.Login p) = listed (from_to ready ready) (Checks (One Small p) at_login) 0x0001 Kept
line_of (Request.ChallengeLogin p) = listed (from_to ready ready) (Checks (Challenged Small p) at_login) 0x0002 Kept
line_of (Request.Activate p q) = listed (from_to inactive inactive) (Checks (Two Large p q) elsewhere) 0x0101 (Becomes ready)
line_of Request.Lock = listed (from_to ready ready) Changes 0x0102 (Becomes locked_by_hand)
line_of (Request.Unlock p) = listed (from_to locked_by_errors locked_by_hand) (Checks (One Small p) elsewhere) 0x0103 (Becomes ready)
line_of Request.Suspend = listed (from_to ready locked_by_hand) Changes 0x0104 (Becomes suspended)
line_of (Request.Resume p) = listed (from_to suspended suspended) (Checks (One Small p) elsewhere) 0x0105 (Becomes ready)
line_of (Request.Sync size p q) = listed (from_to ready locked_by_hand) (Checks (Two size p q) at_sync) 0x0108 Kept
line_of Request.Void = listed (from_to inactive suspended) Changes 0x010a Voided
line_of Request.Query = listed None Tells 0x010b Kept

-- any state where none is needed
abbrev pub allowed : Option States → ℕ → Bool
allowed None state = true
allowed (Some needed) state = leb needed.lowest state && leb state needed.highest

-- the state is not the needed one; an empty row is no row, and the desk finds none such
abbrev pub state_refusal : ℕ → Refusal
state_refusal state =
    cond (eqb state ready) Refusal.Ready
    (cond (eqb state suspended) Refusal.Suspended
    (cond (eqb state inactive) Refusal.Inactive
    (cond (eqb state void) Refusal.Void
    (cond (eqb state empty) Refusal.Unknown Refusal.Locked))))
