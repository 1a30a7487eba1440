-- The tokens of a history, and one more call: the desk on tokens gives the ledger machine's answer and the tokens of the longer history.
use Rattle.token.specs.Answers.{Answer, successful}
use Prim.Native.Nat.{ℕ, suc, ◌-◌, ◌≤◌}
use Rattle.std.specs.Prelude.{◌≡◌, Bool, true, false, ◌&&◌, cond, eqb, ltb, length, Err}
use Rattle.std.proofs.Math.Path.{refl, ap}
use Rattle.std.proofs.Common.{sym, ◌∙◌, mul_comm}
use mathlib.Core.List.{List, [], ◌∷◌, ◌++◌, append-nil}
use Rattle.std.proofs.Math.Option.{Option, none, some}
use borrow.Author.Tests.{eqb-true, eq-eqb}
use Rattle.words.specs.BoolLaws.{by-test, and_right}
use Rattle.window.specs.PasswordAt.{PasswordRule}
use Rattle.row.specs.Row.{row_bytes}
use Rattle.token.specs.declared.answers.Content.{Content}
use Rattle.token.specs.declared.answers.Refusal.{Refusal}
use Rattle.token.specs.Codes.{refusal_number}
use Rattle.desk.specs.declared.Particulars.{Particulars}
use Rattle.desk.specs.Requests.{Request, DeskCall, clock_ok, request_ok, load_ok}
use Rattle.ledger.specs.Ledger.{Entry, Loaded, Reading, names, entries_of, loads, load_of, marks, entered, reading, requested_of, loaded_of, answer_to, row_of, key_of, rows_of, table_of}
use Rattle.ledger.specs.Tokens.{Token, TokensAfter, AllServiceable, served_among, has_token, loaded_token, loaded_among, tokens_after, rendered, table_with}
use Rattle.ledger.specs.HistoryTokens.{with_entry, token_of, tokens_of, after_entry, Distinct, Consistent}
use Rattle.ledger.proofs.LoadsLaws.{first_differs, rest-missing, flipped, named-loads}
use Rattle.ledger.proofs.TokenLaws.{unnamed_stays, refused-stays, named-entries, bad_argument_enters, request_token}

-- ---- entries that leave a list of tokens

tokens_equal : {t u : Token} {ts us : List Token} → t ≡ u → ts ≡ us → ◌≡◌ {A = List Token} (t ∷ ts) (u ∷ us)
tokens_equal p q = cc

module _ (passwords : PasswordRule) (e : Entry) (history : List Entry) where
  -- none of them has the serial that the entry names
  apart_stay : (serial : ℕ) → ((n : ℕ) → names e.call n ≡ eqb serial n) → (ls : List Loaded) → load_of serial ls ≡ none → tokens_of passwords ls (e ∷ history) ≡ tokens_of passwords ls history
  unfolding tokens_of
  apart_stay serial named [] missing = refl
  apart_stay serial named (l ∷ ls) missing =
      tokens_equal
      (unnamed_stays passwords e history l (named l.particulars.serial ∙ flipped l.particulars.serial serial (first_differs serial l ls missing)))
      (apart_stay serial named ls (rest-missing serial l ls missing))

  -- a refusal by which no reading changes
  refused_stay : {f : Refusal} → e.answer ≡ Err f → ((l : Loaded) (older : List Entry) (r : Reading) → entered passwords l older e.call (Err f) r ≡ r)
      → (ls : List Loaded) → tokens_of passwords ls (e ∷ history) ≡ tokens_of passwords ls history
  unfolding tokens_of
  refused_stay a still [] = refl
  refused_stay a still (l ∷ ls) = tokens_equal (refused-stays passwords e history l a (still l)) (refused_stay a still ls)

-- ---- a request

serial-test : (passwords : PasswordRule) (l : Loaded) (history : List Entry) (serial : ℕ) → eqb (token_of passwords history l).row.serial serial ≡ eqb l.particulars.serial serial
unfolding row_of
serial-test passwords l history serial = refl

after_equal : {a b : Answer} {ts us : List Token} → a ≡ b → ts ≡ us → ◌≡◌ {A = TokensAfter} (record { answer = a; tokens = ts }) (record { answer = b; tokens = us })
after_equal p q = cc

module _ (passwords : PasswordRule) (history : List Entry) (request : Request) (serial clock : ℕ) (ok : request_ok request ≡ true) (a : Answer) where
  served-among : (ls : List Loaded) → Distinct ls → AllServiceable (tokens_of passwords ls history) → a ≡ requested_of passwords history clock request (load_of serial ls)
      → served_among passwords request serial clock (tokens_of passwords ls history)
      ≡ record { answer = a; tokens = tokens_of passwords ls (with_entry (DeskCall.named request serial clock) a history) }
  unfolding served_among tokens_of load_of
  served-among [] apart good q = rw q
  served-among (l ∷ ls) apart good q =
      by-test (eqb l.particulars.serial serial)
      (λ t. let e = eqb-true l.particulars.serial serial t in
      let law = request_token passwords l history request serial clock a (sym e) ok good.0 (rw t at q) in
      rw (serial-test passwords l history serial ∙ t)
      (after_equal law.0 (tokens_equal law.1 (sym (apart_stay passwords _ history serial (λ n. refl) ls (rw e at apart.0))))))
      (λ f. rw (serial-test passwords l history serial ∙ f, served-among ls apart.1 good.1 (rw f at q))
      (after_equal refl (tokens_equal (sym (unnamed_stays passwords _ history l (flipped l.particulars.serial serial f))) refl)))

-- ---- a load

abbrev is_loaded : Option Loaded → Bool
is_loaded none = false
is_loaded (some l) = true

module _ (passwords : PasswordRule) (history : List Entry) where
  has-token : (serial : ℕ) (ls : List Loaded) → has_token serial (tokens_of passwords ls history) ≡ is_loaded (load_of serial ls)
  unfolding has_token tokens_of load_of
  has-token serial [] = refl
  has-token serial (l ∷ ls) =
      by-test (eqb l.particulars.serial serial)
      (λ t. rw (serial-test passwords l history serial, t))
      (λ f. rw (serial-test passwords l history serial, f) (has-token serial ls))

  length-tokens : (ls : List Loaded) → length (tokens_of passwords ls history) ≡ length ls
  unfolding tokens_of
  length-tokens [] = refl
  length-tokens (l ∷ ls) = ap suc (length-tokens ls)

  append-tokens : (ls ms : List Loaded) → tokens_of passwords (ls ++ ms) history ≡ tokens_of passwords ls history ++ tokens_of passwords ms history
  unfolding tokens_of
  append-tokens [] ms = refl
  append-tokens (l ∷ ls) ms = tokens_equal refl (append-tokens ls ms)

module _ (passwords : PasswordRule) (p : Particulars) (key : List ℕ) (history : List Entry) where
  abbrev loading : Entry
  loading = record { call = DeskCall.load p key; answer = successful 0x0140 Content.Plain }

  new_token : marks (entries_of p.serial history) ≡ marks [] → token_of passwords (loading ∷ history) (record { particulars = p; key = key }) ≡ loaded_token p key
  unfolding row_of key_of reading marks
  new_token u = rw (named-entries p.serial loading history (eq-eqb p.serial p.serial refl), u)

  tokens-loaded : (rows : ℕ) → Consistent rows history → load_of p.serial (loads history) ≡ none
      → tokens_of passwords (loads history) history ++ (loaded_token p key ∷ []) ≡ tokens_of passwords (loads (loading ∷ history)) (loading ∷ history)
  unfolding loads tokens_of
  tokens-loaded rows c missing =
      rw (
        append-tokens passwords (loading ∷ history) (loads history) (record { particulars = p; key = key } ∷ []),
        apart_stay passwords loading history p.serial (λ n. refl) (loads history) missing,
        new_token (c.unmarked p.serial missing),
      )

  load-refused : (f : Refusal) → eqb (refusal_number f) 0x0140 ≡ false
      → record { answer = Err f; tokens = tokens_of passwords (loads history) history } ≡ after_entry passwords (DeskCall.load p key) (Err f) history
  unfolding loads
  load-refused f n =
      rw (n, append-nil (loads history), refused_stay passwords (record { call = DeskCall.load p key; answer = Err f }) history refl (λ l older r. rw n) (loads history))

  loaded-among : (rows : ℕ) → Consistent rows history
      → loaded_among rows p key (tokens_of passwords (loads history) history)
      ≡ after_entry passwords (DeskCall.load p key) (loaded_of rows (loads history) (load_of p.serial (loads history))) history
  loaded-among rows c =
      rw (has-token passwords history p.serial (loads history), length-tokens passwords history (loads history)) (beside (load_of p.serial (loads history)) refl)
    where
      beside : (o : Option Loaded) → load_of p.serial (loads history) ≡ o
          → cond (is_loaded o) (record { answer = Err Refusal.AlreadyLoaded; tokens = tokens_of passwords (loads history) history })
          (cond (ltb (length (loads history)) rows)
          (record { answer = successful 0x0140 Content.Plain; tokens = tokens_of passwords (loads history) history ++ (loaded_token p key ∷ []) })
          (record { answer = Err Refusal.TableFull; tokens = tokens_of passwords (loads history) history }))
          ≡ after_entry passwords (DeskCall.load p key) (loaded_of rows (loads history) o) history
      beside (some l) e = load-refused Refusal.AlreadyLoaded refl
      beside none e =
          by-test (ltb (length (loads history)) rows)
          (λ t. rw t (after_equal refl (tokens-loaded rows c e)))
          (λ f. rw f (load-refused Refusal.TableFull refl))

-- ---- a call

module _ (passwords : PasswordRule) (rows : ℕ) (history : List Entry) where
  pub history_step : (call : DeskCall) → Consistent rows history → AllServiceable (tokens_of passwords (loads history) history)
      → tokens_after passwords rows call (tokens_of passwords (loads history) history) ≡ after_entry passwords call (answer_to passwords rows history call) history
  unfolding tokens_after answer_to
  history_step (DeskCall.load p key) c good =
      by-test (load_ok p key) (λ t. rw t (loaded-among passwords p key history rows c)) (λ f. rw f (load-refused passwords p key history Refusal.BadArgument refl))
  history_step (DeskCall.named request serial clock) c good =
      by-test (clock_ok clock && request_ok request)
      (λ t. let a = requested_of passwords history clock request (load_of serial (loads history)) in
      rw (t, named-loads request serial clock a history)
      (served-among passwords history request serial clock (and_right (clock_ok clock) _ t) a (loads history) c.distinct good refl))
      (λ f. rw (f, named-loads request serial clock (Err Refusal.BadArgument) history)
      (after_equal refl (sym (refused_stay passwords _ history refl (λ l older r. bad_argument_enters passwords l older request serial clock r) (loads history)))))

-- ---- the table

pub tokens-fit : (passwords : PasswordRule) (rows : ℕ) (history : List Entry) → Consistent rows history → length (tokens_of passwords (loads history) history) ≤ rows
tokens-fit passwords rows history c = rw (length-tokens passwords history (loads history)) c.room

rendered-rows : (passwords : PasswordRule) (history : List Entry) (ls : List Loaded) → rendered row_bytes (tokens_of passwords ls history) ≡ rows_of passwords ls history
unfolding rendered tokens_of rows_of
rendered-rows passwords history [] = refl
rendered-rows passwords history (l ∷ ls) = rw (rendered-rows passwords history ls, append-nil)

-- the ledger machine's table is that of its tokens
pub history_table : (passwords : PasswordRule) (rows : ℕ) (history : List Entry) → table_with row_bytes rows (tokens_of passwords (loads history) history) ≡ table_of passwords rows history
unfolding table_with table_of
history_table passwords rows history =
    rw (rendered-rows passwords history (loads history), length-tokens passwords history (loads history), mul_comm (rows - length (loads history)) row_bytes)
