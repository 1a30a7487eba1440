-- The set cases of document 01, as a table with one proof over the definitions.
use Rattle.std.specs.Prelude.{ℕ, ◌-◌, ◌^◌, ◌≡◌, refl, Bool, true, not, ◌&&◌, List, [], ◌∷◌, ◌++◌, eqb, replicate, Some, None}
use Rattle.words.specs.Bytes.{be_at, be_bytes}
use Rattle.words.specs.Lists.{same_bytes}
use Rattle.window.specs.declared.Size.TheVariants.{Small}
use Rattle.window.specs.Window.{time_candidate, event_candidate, candidate}
use Rattle.window.specs.WindowTable.{time_track, event_track, candidates_from}
use Rattle.window.specs.declared.Outcome.{Outcome}
use Rattle.row.specs.declared.Row.{Row}
use Rattle.token.specs.States.{wait_over, waited, failed}
use Rattle.token.specs.declared.lines.Request.{Request}
use Rattle.token.specs.declared.deciding.Left.{Left}
use Rattle.token.specs.Lines.{line_of}
use Rattle.token.specs.Deciding.{deciding}
use Rattle.otp.specs.Typed.{as_password}
use Rattle.otp.specs.Password.{factor_bytes, id_of, filled, block_sum, word_sum, cut, decimals, shown}

-- a case: document 01's number of it, and a test that computes
pub record Case : Type 0 where
  pub number : ℕ
  pub holds : Bool

abbrev pub case : ℕ → Bool → Case
case n b = record { number = n; holds = b }

abbrev pub all_hold : List Case → Bool
all_hold [] = true
all_hold (c ∷ cs) = c.holds && all_hold cs

-- the words of cases 1 and 2, and those of case 3 as Annex C.1 prints them
abbrev pub four_words : List ℕ
four_words = be_bytes 16 0x880d6ae77ecf8ee5235c7198e13f159c

abbrev pub eight_words : List ℕ
eight_words = be_bytes 32 0x25e0b00d750eb01258ef7db5375626414aefe7fd826ac07e3e5eb3e8d8ebba4b

-- ASCII digits
abbrev pub text446720 : List ℕ
text446720 = 0x34 ∷ 0x34 ∷ 0x36 ∷ 0x37 ∷ 0x32 ∷ 0x30 ∷ []

abbrev pub text5678 : List ℕ
text5678 = 0x35 ∷ 0x36 ∷ 0x37 ∷ 0x38 ∷ []

-- a token in a state: limit 3, two errors, wait 60, locked at 1000 if locked by errors
abbrev pub token_in : ℕ → ℕ → Row
token_in state locked =
    record {
      state = state;
      track = event_track 7;
      limit = 3;
      errors = 2;
      key_length = 16;
      serial = 9;
      wait = 60;
      expiry = record { 0 = 5000 };
      locked_at = record { 0 = locked };
      last_use = record { 0 = 500 };
    }

-- a token without errors whose limit is 1
abbrev pub limit_one : Row → Row
limit_one r =
    record {
      state = r.state;
      track = r.track;
      limit = 1;
      errors = 0;
      key_length = r.key_length;
      serial = r.serial;
      wait = r.wait;
      expiry = r.expiry;
      locked_at = r.locked_at;
      last_use = r.last_use;
    }

-- the state of a row that is stored
abbrev pub state_left : Left → ℕ
state_left Left.Same = 0
state_left (Left.Stored r) = r.state
state_left (Left.Voided r) = r.state

abbrev pub set_cases : List Case
set_cases =
    case 1 (eqb (cut four_words) 0x0b788100 && same_bytes (shown 6 four_words) text446720)
    ∷ case 2 (same_bytes (shown 10 four_words) (0x30 ∷ 0x31 ∷ 0x39 ∷ 0x32 ∷ text446720))
    ∷ case 3 (eqb (cut eight_words) 0x0fda1ac3)
    ∷ case 4 (same_bytes (filled (id_of (Some 1340783053) (Some 1234) text5678)) (be_bytes 16 0x000000004feab9cd000004d235363738))
    ∷ case 5 (same_bytes (filled (id_of (Some 1) None [])) (replicate 7 0 ++ (1 ∷ replicate 8 0)))
    ∷ case 6 (same_bytes (block_sum (replicate 16 0xff) (be_bytes 16 1)) (replicate 16 0))
    ∷ case 7 (same_bytes (candidates_from 0 20 (time_track 60 600) 119 Small) (0 ∷ 1 ∷ 2 ∷ 3 ∷ []))
    ∷ case 8 (same_bytes (candidates_from 0 30 (event_track 5) 0 Small) (4 ∷ 5 ∷ 6 ∷ 7 ∷ 8 ∷ 9 ∷ 10 ∷ 11 ∷ 12 ∷ 13 ∷ 14 ∷ []))
    ∷ case 9 (same_bytes (candidates_from (2 ^ 32 - 20) 40 (event_track (2 ^ 32 - 1)) 0 Small) ((2 ^ 32 - 2) ∷ (2 ^ 32 - 1) ∷ []))
    ∷ case 10 (same_bytes (candidates_from 1590 20 (time_track 1 1200) 1000 Small) (1598 ∷ 1599 ∷ 1600 ∷ []))
    ∷ case 11 ((not (wait_over (token_in 3 1000) 999) && not (wait_over (token_in 3 1000) 1059)) && wait_over (token_in 3 1000) 1060)
    ∷ case 12 (eqb (state_left (deciding (line_of (Request.Login (as_password text446720))) (limit_one (token_in 2 0)) 1000 (λ k asked. Outcome.Wrong)).left) 3)
    ∷ []

pub set-cases-hold : all_hold set_cases ≡ true
unfolding factor_bytes id_of filled block_sum word_sum cut decimals shown same_bytes be_at be_bytes candidates_from candidate time_candidate event_candidate wait_over waited failed deciding
set-cases-hold = refl
