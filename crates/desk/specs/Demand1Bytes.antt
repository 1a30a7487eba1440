-- The first demand by bytes (docs/OFFER.md): for each code, which offsets of which row may differ from before, what each then holds, and that every other
-- byte of the table is the same. Offsets and numbers are document 01's: "Accepted step" of Part 3, the row of Part 4, "Success, and what follows" and the
-- wait of Part 5, and "Left in the table"; the double press is document 02's. `Demand1BytesLaws` and `OtherBytesLaws` have the proofs.
use Rattle.token.specs.Answers.{Answer}
use Rattle.std.specs.Prelude.{ℕ, ◌+◌, ◌-◌, ◌/◌, min, ◌≡◌, Bool, false, ◌&&◌, ◌||◌, cond, List, [], ◌∷◌, ◌++◌, eqb, leb, length, get_or, replicate, take, drop, Some, None}
use Rattle.std.proofs.Math.Option
use Rattle.words.specs.Bytes.{AreBytes, be_at, be_bytes, put}
use Rattle.words.specs.Lists.{one_of}
use Rattle.window.specs.declared.Track.{Track}
use Rattle.window.specs.PasswordAt.{PasswordRule}
use Rattle.row.specs.Row.{row_bytes}
use Rattle.row.specs.Table.{Place, find_row, find_empty}
use Rattle.token.specs.Codes.{number_of}
use Rattle.desk.specs.declared.Particulars.{Particulars}
use Rattle.desk.specs.Requests.{Request, DeskCall}
use Rattle.desk.specs.Desk.{desk_after, checked_of}
use Rattle.desk.specs.Press.{pressed}
use Rattle.desk.specs.Demand1.{at_place}

-- ---- bytes at offsets of a row

-- bytes that stand at an offset of the row afterwards
pub record Change : Type 0 where
  pub offset : ℕ
  pub bytes : List ℕ

abbrev pub change : ℕ → List ℕ → Change
change offset bytes = record { offset = offset; bytes = bytes }

-- the table s after changes of the row at a place, one after the other: `put` replaces these bytes and no other
abbrev pub laid : List ℕ → ℕ → List Change → List ℕ
laid s at [] = s
laid s at (c ∷ cs) = laid (put s (at + c.offset) c.bytes) at cs

abbrev pub state : ℕ → Change
state x = change 0 (x ∷ [])

abbrev pub errors : ℕ → Change
errors x = change 6 (x ∷ [])

abbrev pub zero_key : Change
zero_key = change 16 (replicate 32 0)

abbrev pub next : ℕ → Change
next x = change 48 (be_bytes 8 x)

-- d + 600
abbrev pub offset : ℕ → Change
offset x = change 56 (be_bytes 2 x)

abbrev pub locked_at : ℕ → Change
locked_at x = change 72 (be_bytes 8 x)

abbrev pub last_use : ℕ → Change
last_use x = change 80 (be_bytes 8 x)

-- the codes that leave all bytes unchanged
abbrev pub unchanged_codes : List ℕ
unchanged_codes = 0x9001 ∷ 0x9002 ∷ 0x9004 ∷ 0x9005 ∷ 0x8411 ∷ 0x8410 ∷ 0x8402 ∷ 0x8403 ∷ 0x010b ∷ []

-- ---- a call that names the token whose row stands at a place of the table s

module _ (s : List ℕ) (at : ℕ) where
  -- what the row holds before the call: the byte at an offset, and the number in k bytes from there on
  abbrev pub byte : ℕ → ℕ
  byte i = get_or s (at + i) 0

  abbrev pub number : ℕ → ℕ → ℕ
  number k i = be_at k s (at + i)

  -- kind, algorithm, digits, period, next and d + 600, by which a check knows the candidates, and the key
  abbrev pub track : Track
  track =
      record {
        scheme = record { kind = byte 1; algorithm = byte 2; digits = byte 3 };
        period = byte 4;
        next = record { 0 = number 8 48 };
        offset = record { 0 = number 2 56 };
      }

  abbrev pub key : List ℕ
  key = take (byte 7) (drop (at + 16) s)

  module _ (clock : ℕ) where
    -- state 3, now at or after `locked at`, and now - `locked at` at least the wait
    abbrev pub wait_run_out : Bool
    wait_run_out = eqb (byte 0) 3 && (leb (number 8 72) clock && leb (number 4 60) (clock - number 8 72))

    -- then the row becomes ready with errors 0
    abbrev pub ran_out : List Change
    ran_out = cond wait_run_out (state 2 ∷ errors 0 ∷ locked_at 0 ∷ []) []

    -- errors + 1, at most 255
    abbrev pub one_more : ℕ
    one_more = min 255 (cond wait_run_out 0 (byte 6) + 1)

    -- if that is at least the limit, a login's error locks: state 3 with `locked at` = now
    abbrev pub lock_at_limit : List Change
    lock_at_limit = cond (leb (byte 5) one_more) (state 3 ∷ locked_at clock ∷ []) []

    -- accepted step a: next = a + 1, errors 0, last use = now, and for a time token d = a - T
    abbrev pub accepted_step : ℕ → List Change
    accepted_step a = next (a + 1) ∷ errors 0 ∷ last_use clock ∷ cond (eqb (byte 1) 0) (offset (a + 600 - clock / byte 4) ∷ []) []

    -- what a code leaves besides a wait run out: nothing at a double press, used and wrong, at a login and elsewhere, then the successes; 0103, 0104 and 010a
    -- may leave state 3, which zeroes `locked at`, 0 in every other state
    abbrev pub besides : Bool → ℕ → ℕ → List Change
    besides press code a =
        cond (eqb code 0x8004 && press) []
        (cond (one_of code (0x8004 ∷ 0x8002 ∷ [])) (errors one_more ∷ lock_at_limit)
        (cond (one_of code (0x8104 ∷ 0x8102 ∷ 0x8105 ∷ [])) (errors one_more ∷ [])
        (cond (one_of code (0x0001 ∷ 0x0002 ∷ 0x0108 ∷ [])) (accepted_step a)
        (cond (one_of code (0x0101 ∷ 0x0105 ∷ [])) (state 2 ∷ accepted_step a)
        (cond (eqb code 0x0103) (state 2 ∷ locked_at 0 ∷ accepted_step a)
        (cond (eqb code 0x0102) (state 4 ∷ [])
        (cond (eqb code 0x0104) (state 5 ∷ locked_at 0 ∷ [])
        (cond (eqb code 0x010a) (state 6 ∷ locked_at 0 ∷ zero_key ∷ []) []))))))))

    -- by the code, the accepted step, and whether it is a double press; 8409, 8404 to 8408, 8001 and 8101 leave only a wait run out
    abbrev pub left_by : Bool → ℕ → ℕ → List Change
    left_by press code a = cond (one_of code unchanged_codes) [] (ran_out ++ besides press code a)

-- ---- a load

-- all 96 bytes: state 1, kind, algorithm, digits, period, limit, errors 0, key length; serial; key, zero-filled; next 0; d 0, held as 600; zeros; wait; expiry; zeros
abbrev pub loaded : Particulars → List ℕ → List Change
loaded p key =
    change 0 (1 ∷ p.scheme.kind ∷ p.scheme.algorithm ∷ p.scheme.digits ∷ p.period ∷ p.limit ∷ 0 ∷ length key ∷ [])
    ∷ change 8 (be_bytes 8 p.serial)
    ∷ change 16 (key ++ replicate (32 - length key) 0)
    ∷ change 48 (replicate 8 0)
    ∷ change 56 (0x02 ∷ 0x58 ∷ [])
    ∷ change 58 (replicate 2 0)
    ∷ change 60 (be_bytes 4 p.wait)
    ∷ change 64 (be_bytes 8 p.expiry.0)
    ∷ change 72 (replicate 24 0)
    ∷ []

-- ---- what each offset holds

-- a load takes the first empty row; the serial's row is the first one not empty that has it
abbrev pub row_of : DeskCall → List ℕ → Place
row_of (DeskCall.load p _) s = find_empty row_bytes s
row_of (DeskCall.named request serial clock) s = find_row row_bytes s serial

-- the accepted step that an answer carries, else 0
abbrev pub step_in : Answer → ℕ
step_in answer = (Option.get_or (checked_of answer) (record { 0 = 0 }, record { 0 = 0 })).0.0

-- the request is a double press
abbrev pub press_in : PasswordRule → Request → List ℕ → ℕ → ℕ → Bool
press_in passwords request s at clock = pressed passwords (track s at) (key s at) clock request

abbrev pub changes_for : PasswordRule → DeskCall → List ℕ → ℕ → Answer → List Change
changes_for passwords (DeskCall.load p key) s at answer = cond (eqb (number_of answer) 0x0140) (loaded p key) []
changes_for passwords (DeskCall.named request serial clock) s at answer = left_by s at clock (press_in passwords request s at clock) (number_of answer) (step_in answer)

-- the table after an answer; where there is no such row, it is unchanged
abbrev pub left_in : PasswordRule → DeskCall → List ℕ → Answer → List ℕ
left_in passwords call s answer = at_place s (row_of call s) (λ at. laid s at (changes_for passwords call s at answer))

abbrev pub Demand1Bytes : Type 0
Demand1Bytes =
    (passwords : PasswordRule) (call : DeskCall) (s : List ℕ) → AreBytes s
    → (desk_after passwords call s).table ≡ left_in passwords call s (desk_after passwords call s).answer

-- ---- which offsets may differ

-- a part of a row, from its first offset to its last
pub record Part : Type 0 where
  pub first : ℕ
  pub last : ℕ

abbrev pub part : ℕ → ℕ → Part
part first last = record { first = first; last = last }

-- nothing; a load; an accepted step; a void; any other code
abbrev pub parts_of : ℕ → List Part
parts_of code =
    cond (one_of code unchanged_codes) []
    (cond (eqb code 0x0140) (part 0 95 ∷ [])
    (cond (one_of code (0x0001 ∷ 0x0002 ∷ 0x0101 ∷ 0x0103 ∷ 0x0105 ∷ 0x0108 ∷ [])) (part 0 0 ∷ part 6 6 ∷ part 48 57 ∷ part 72 87 ∷ [])
    (cond (eqb code 0x010a) (part 0 0 ∷ part 6 6 ∷ part 16 47 ∷ part 72 79 ∷ []) (part 0 0 ∷ part 6 6 ∷ part 72 79 ∷ []))))

-- the byte i of the table lies in one of these parts of the row
abbrev pub in_parts : Place → List Part → ℕ → Bool
in_parts None parts i = false
in_parts (Some at) [] i = false
in_parts (Some at) (p ∷ parts) i = (leb (at + p.first) i && leb i (at + p.last)) || in_parts (Some at) parts i

abbrev pub OtherBytesStay : Type 0
OtherBytesStay =
    (passwords : PasswordRule) (call : DeskCall) (s : List ℕ) → AreBytes s
    → (length (desk_after passwords call s).table ≡ length s)
    × ((i : ℕ) → in_parts (row_of call s) (parts_of (number_of (desk_after passwords call s).answer)) i ≡ false → get_or (desk_after passwords call s).table i 0 ≡ get_or s i 0)
