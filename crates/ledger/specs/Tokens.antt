-- Between the desk and the ledger machine: the desk on a list of tokens in place of bytes. No statement of the buyer's rests on it.
use Rattle.token.specs.Answers.{Answer, successful}
use Rattle.std.specs.Prelude.{ℕ, ◌-◌, ◌*◌, ◌^◌, ◌<◌, ◌≡◌, Bool, true, false, ◌&&◌, cond, List, [], ◌∷◌, ◌++◌, eqb, ltb, length, take, drop, replicate, Err}
use Rattle.words.specs.Lists.{all_zero}
use Rattle.window.specs.PasswordAt.{PasswordRule}
use Rattle.row.specs.declared.Row.{Row}
use Rattle.row.specs.Row.{row_bytes, key_bytes, last_state, numbers_ok, render}
use Rattle.row.specs.Table.{zero_filled}
use Rattle.row.specs.StoreLaws.{SameParticulars}
use Rattle.token.specs.declared.answers.Content.{Content}
use Rattle.token.specs.declared.answers.Refusal.{Refusal}
use Rattle.token.specs.declared.deciding.Left.{Left}
use Rattle.token.specs.declared.deciding.Decision.{Decision}
use Rattle.token.specs.Deciding.{decided}
use Rattle.desk.specs.declared.Particulars.{Particulars}
use Rattle.desk.specs.Requests.{Request, DeskCall, clock_ok, request_ok, valued, challenge_of, loaded_row, load_ok}

-- a row's numbers, and its key with the zeros behind it
pub record Token : Type 0 where
  pub row : Row
  pub key : List ℕ

-- an answer, and the tokens after it
pub record TokensAfter : Type 0 where
  pub answer : Answer
  pub tokens : List Token

-- a request to a token, and what it leaves of the token
abbrev pub decided_on : PasswordRule → Request → ℕ → Token → Decision
decided_on passwords request clock t = decided passwords (valued request) t.row (take t.row.key_length t.key) clock (challenge_of request)

abbrev pub kept : Token → Left → Token
kept t Left.Same = t
kept t (Left.Stored r) = record { row = r; key = t.key }
kept t (Left.Voided r) = record { row = r; key = replicate key_bytes 0 }

abbrev pub behind_token : Token → TokensAfter → TokensAfter
behind_token t after = record { answer = after.answer; tokens = t ∷ after.tokens }

-- the first token with the serial serves
unfoldable pub served_among : PasswordRule → Request → ℕ → ℕ → List Token → TokensAfter
served_among passwords request serial clock [] = record { answer = Err Refusal.Unknown; tokens = [] }
served_among passwords request serial clock (t ∷ ts) =
    cond (eqb t.row.serial serial)
    (record { answer = (decided_on passwords request clock t).answer; tokens = kept t (decided_on passwords request clock t).left ∷ ts })
    (behind_token t (served_among passwords request serial clock ts))

unfoldable pub has_token : ℕ → List Token → Bool
has_token serial [] = false
has_token serial (t ∷ ts) = cond (eqb t.row.serial serial) true (has_token serial ts)

abbrev pub loaded_token : Particulars → List ℕ → Token
loaded_token p key = record { row = loaded_row p key; key = zero_filled key }

abbrev pub loaded_among : ℕ → Particulars → List ℕ → List Token → TokensAfter
loaded_among rows p key ts =
    cond (has_token p.serial ts) (record { answer = Err Refusal.AlreadyLoaded; tokens = ts })
    (cond (ltb (length ts) rows)
    (record { answer = successful 0x0140 Content.Plain; tokens = ts ++ (loaded_token p key ∷ []) })
    (record { answer = Err Refusal.TableFull; tokens = ts }))

unfoldable pub tokens_after : PasswordRule → ℕ → DeskCall → List Token → TokensAfter
tokens_after passwords rows (DeskCall.load p key) ts = cond (load_ok p key) (loaded_among rows p key ts) (record { answer = Err Refusal.BadArgument; tokens = ts })
tokens_after passwords rows (DeskCall.named request serial clock) ts =
    cond (clock_ok clock && request_ok request) (served_among passwords request serial clock ts) (record { answer = Err Refusal.BadArgument; tokens = ts })

-- ---- the table of a list of tokens, in rows of a width

-- a row is followed by zeros up to the width
abbrev pub wide_row : ℕ → Token → List ℕ
wide_row width t = render t.row t.key ++ replicate (width - row_bytes) 0

unfoldable pub rendered : ℕ → List Token → List ℕ
rendered width [] = []
rendered width (t ∷ ts) = wide_row width t ++ rendered width ts

unfoldable pub table_with : ℕ → ℕ → List Token → List ℕ
table_with width rows ts = rendered width ts ++ replicate ((rows - length ts) * width) 0

-- ---- what holds of each token

-- a row in range that is not empty
pub record Live (r : Row) : Type 0 where
  pub numbers : numbers_ok last_state r ≡ true
  pub taken : 0 < r.state

-- the row x that a call leaves in place of r
pub record Leaves (r x : Row) : Type 0 where
  pub same : SameParticulars x r
  pub live : Live x

-- a token that the desk goes on with: its row is well formed and not empty
pub record Serviceable (t : Token) : Type 0 where
  pub live : Live t.row
  pub serial : t.row.serial < 2 ^ 64
  pub long : length t.key ≡ key_bytes
  pub filled : all_zero (drop t.row.key_length t.key) ≡ true

abbrev pub AllServiceable : List Token → Type 0
AllServiceable [] = Unit {0}
AllServiceable (t ∷ ts) = Serviceable t × AllServiceable ts
