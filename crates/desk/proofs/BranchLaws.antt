-- The branches of a call, walked once: what is shown of each answer that the call may come to, with what is known there, holds of the call's result.
use Rattle.token.specs.Answers.{Answer, successful}
use Rattle.std.specs.Prelude.{ℕ, zero, suc, ◌+◌, ◌<◌, ◌≡◌, refl, true, false, ◌&&◌, List, eqb, leb, get_or, Some, None, Err}
use Rattle.std.proofs.Common.{arith, leb-true}
use Rattle.std.proofs.lemmas.Bool.{not-true}
use Rattle.words.specs.BoolLaws.{and_left, and_right, either, either-by, clash}
use Rattle.otp.specs.declared.typed.Password.{Password}
use Rattle.window.specs.declared.Size.{Size}
use Rattle.window.specs.declared.Step.{Step}
use Rattle.window.specs.declared.Track.{Track}
use Rattle.window.specs.declared.Outcome.{Outcome}
use Rattle.window.specs.declared.asked.Asked.{Asked}
use Rattle.window.specs.PasswordAt.{PasswordRule}
use Rattle.window.specs.Asked.{outcome_of}
use Rattle.window.proofs.Meaning.{pair_means}
use Rattle.row.specs.declared.Row.{Row}
use Rattle.row.specs.Row.{row_bytes, last_state, row_at, number_tests, numbers_ok, well_formed}
use Rattle.row.specs.Table.{Place, is_empty, has_serial, find_row, find_empty, located_at, located, write_row}
use Rattle.row.specs.FoundLaws.{found-has}
use Rattle.token.specs.declared.answers.Content.{Content}
use Rattle.token.specs.declared.answers.Refusal.{Refusal}
use Rattle.token.specs.declared.lines.Fails.{Fails}
use Rattle.token.specs.declared.lines.Way.{Way}
use Rattle.token.specs.declared.lines.Line.{Line}
use Rattle.token.specs.declared.deciding.Decision.{Decision}
use Rattle.token.specs.Lines.{empty, line_of, allowed, state_refusal}
use Rattle.token.specs.States.{wait_over, waited}
use Rattle.token.specs.Deciding.{refusing, changing, telling, judging, doing, permitted, deciding, decided}
use Rattle.desk.specs.declared.Particulars.{Particulars}
use Rattle.desk.specs.Requests.{Request, DeskCall, table_ok, clock_ok, request_ok, valued, challenge_of, loaded_row, load_ok}
use Rattle.desk.specs.Desk.{Result, result_of, refused, loaded_at, loaded_beside, secret_at, stored, served_at, served_from, desk_after}
use Rattle.desk.proofs.ServingLaws.{numbers_of}

-- ---- a decision by a line of Part 5's table, on the row that a wait has left

-- only of one password can there be several steps
abbrev pub IfSingle : Asked → Type 0 → Type 0
IfSingle (Asked.One size p) X = X
IfSingle (Asked.Challenged size p) X = X
IfSingle (Asked.Two size p q) X = Unit {0}

pub if_single : {X : Type 0} (asked : Asked) → X → IfSingle asked X
if_single (Asked.One size p) x = x
if_single (Asked.Challenged size p) x = x
if_single (Asked.Two size p q) x = tt

-- a check by which no pair has several
abbrev pub NoPairSeveral : (Track → Asked → Outcome) → Type 0
NoPairSeveral check = (k : Track) (size : Size) (p q : Password) → check k (Asked.Two size p q) ≡ Outcome.Several → ⊥

module _ (l : Line) (w : Row) (clock : ℕ) (P : Decision → Type 0) where
  -- it holds of a check's answers
  pub record Judged (asked : Asked) (f : Fails) (o : Outcome) : Type 0 where
    pub expired : leb w.expiry.0 clock ≡ true → P (refusing Refusal.Expired w)
    pub accepted : leb w.expiry.0 clock ≡ false → (a : Step) → o ≡ Outcome.Accepted a → P (judging l f w clock (Outcome.Accepted a))
    pub several : IfSingle asked (leb w.expiry.0 clock ≡ false → o ≡ Outcome.Several → P (judging l f w clock Outcome.Several))
    pub again : leb w.expiry.0 clock ≡ false → o ≡ Outcome.Again → P (judging l f w clock Outcome.Again)
    pub used : leb w.expiry.0 clock ≡ false → o ≡ Outcome.Used → P (judging l f w clock Outcome.Used)
    pub wrong : leb w.expiry.0 clock ≡ false → o ≡ Outcome.Wrong → P (judging l f w clock Outcome.Wrong)

  module _ (check : Track → Asked → Outcome) where
    -- it holds of a way's answers
    abbrev pub Done : Way → Type 0
    Done Way.Changes = P (changing l w)
    Done Way.Tells = P (telling l w)
    Done (Way.Checks asked f) = Judged asked f (check w.track asked)

    severals : NoPairSeveral check → {X : Type 0} (asked : Asked) → check w.track asked ≡ Outcome.Several → IfSingle asked X → X
    severals none (Asked.One size p) e x = x
    severals none (Asked.Challenged size p) e x = x
    severals none (Asked.Two size p q) e x = absurd (none w.track size p q e)

    judging-holds : NoPairSeveral check → (asked : Asked) (f : Fails) (o : Outcome) → check w.track asked ≡ o → Judged asked f o → leb w.expiry.0 clock ≡ false
        → P (judging l f w clock o)
    judging-holds none asked f (Outcome.Accepted a) e j t = j.accepted t a refl
    judging-holds none asked f Outcome.Several e j t = severals none asked e j.several t refl
    judging-holds none asked f Outcome.Again e j t = j.again t refl
    judging-holds none asked f Outcome.Used e j t = j.used t refl
    judging-holds none asked f Outcome.Wrong e j t = j.wrong t refl

    doing-holds : NoPairSeveral check → (way : Way) → Done way → P (doing l w clock check way)
    doing-holds none Way.Changes d = d
    doing-holds none Way.Tells d = d
    doing-holds none (Way.Checks asked f) d = either-by P (leb w.expiry.0 clock) d.expired (judging-holds none asked f (check w.track asked) refl d)

    pub line-holds : NoPairSeveral check → (allowed l.needs w.state ≡ false → P (refusing (state_refusal w.state) w)) → (allowed l.needs w.state ≡ true → Done l.way)
        → P (permitted l w clock check)
    line-holds none unfit made = either-by P (allowed l.needs w.state) (λ t. doing-holds none l.way (made t)) unfit

-- ---- the calls

-- a load's arguments are in range
pub record LoadFit (p : Particulars) (key s : List ℕ) : Type 0 where
  pub table : table_ok row_bytes s ≡ true
  pub values : load_ok p key ≡ true

-- so are those of a call that names a token
pub record Fit (request : Request) (clock : ℕ) (s : List ℕ) : Type 0 where
  pub table : table_ok row_bytes s ≡ true
  pub timely : clock_ok clock ≡ true
  pub arguments : request_ok request ≡ true

-- and it goes on with the well_formed_lem row at a place
pub record Reached (request : Request) (serial clock : ℕ) (s : List ℕ) (at : ℕ) : Type 0 where
  pub fit : Fit request clock s
  pub found : find_row row_bytes s serial ≡ Some at
  pub formed : well_formed last_state s at ≡ true

-- the row at a place once a wait has run out
abbrev pub row_now : List ℕ → ℕ → ℕ → Row
row_now s at clock = waited (row_at s at) clock

-- the request's line of Part 5's table
abbrev pub line_for : Request → Line
line_for request = line_of (valued request)

-- the request's check of the row at a place
abbrev pub check_at : PasswordRule → Request → List ℕ → ℕ → ℕ → Track → Asked → Outcome
check_at passwords request s at clock k asked = outcome_of passwords k clock (secret_at s at) (challenge_of request) asked

pub no-pair-several : (passwords : PasswordRule) (request : Request) (s : List ℕ) (at clock : ℕ) → NoPairSeveral (check_at passwords request s at clock)
no-pair-several passwords request s at clock k size p q e = (pair_means k clock size _ _).several.0 e

-- it holds of what the request, made in a state that it needs, comes to
abbrev pub Made : PasswordRule → Request → List ℕ → ℕ → ℕ → (Result → Type 0) → Type 0
Made passwords request s at clock P =
    Done (line_for request) (row_now s at clock) clock (λ d. P (stored s at d)) (check_at passwords request s at clock) (line_for request).way

module _ (passwords : PasswordRule) (s : List ℕ) (P : Result → Type 0) where
  -- it holds of a load's answers
  pub record LoadHolds (p : Particulars) (key : List ℕ) : Type 0 where
    pub bad : table_ok row_bytes s && load_ok p key ≡ false → P (refused Refusal.BadArgument s)
    pub taken : LoadFit p key s → (other : ℕ) → find_row row_bytes s p.serial ≡ Some other → P (refused Refusal.AlreadyLoaded s)
    pub full : LoadFit p key s → find_row row_bytes s p.serial ≡ None → find_empty row_bytes s ≡ None
        → P (refused Refusal.TableFull s)
    pub made : LoadFit p key s → find_row row_bytes s p.serial ≡ None → (at : ℕ) → find_empty row_bytes s ≡ Some at
        → P (result_of (successful 0x0140 Content.Plain) (write_row s at (loaded_row p key) key))

  module _ (p : Particulars) (key : List ℕ) (h : LoadHolds p key) where
    pub load-holds : P (desk_after passwords (DeskCall.load p key) s)
    unfolding desk_after
    load-holds = either-by P (table_ok row_bytes s && load_ok p key) (λ t. beside (record { table = search (and_left); values = search (and_right) }) (find_row row_bytes s p.serial) refl) h.bad
      where
        placed : LoadFit p key s → find_row row_bytes s p.serial ≡ None → (place : Place) → find_empty row_bytes s ≡ place
            → P (loaded_at p key s place)
        placed fit none (Some at) e = h.made fit none at e
        placed fit none None e = h.full fit none e

        beside : LoadFit p key s → (place : Place) → find_row row_bytes s p.serial ≡ place → P (loaded_beside p key s place)
        beside fit (Some other) e = h.taken fit other e
        beside fit None e = placed fit e (find_empty row_bytes s) refl

  module _ (request : Request) (serial clock : ℕ) where
    -- it holds of the answers to a call that names a token
    pub record NamedHolds : Type 0 where
      pub bad : table_ok row_bytes s && (clock_ok clock && request_ok request) ≡ false → P (refused Refusal.BadArgument s)
      pub unknown : Fit request clock s → find_row row_bytes s serial ≡ None → P (refused Refusal.Unknown s)
      pub damaged : Fit request clock s → (at : ℕ) → find_row row_bytes s serial ≡ Some at → well_formed last_state s at ≡ false → P (refused Refusal.Damaged s)
      pub unfit : (at : ℕ) → Reached request serial clock s at → allowed (line_for request).needs (row_now s at clock).state ≡ false
          → P (stored s at (refusing (state_refusal (row_now s at clock).state) (row_now s at clock)))
      pub made : (at : ℕ) → Reached request serial clock s at → allowed (line_for request).needs (row_now s at clock).state ≡ true
          → Made passwords request s at clock P

    module _ (h : NamedHolds) where
      reached-holds : (at : ℕ) → Reached request serial clock s at → P (served_at passwords (valued request) (challenge_of request) clock s at (row_at s at))
      unfolding served_at decided deciding
      reached-holds at r = line-holds (line_for request) (row_now s at clock) clock (λ d. P (stored s at d)) (check_at passwords request s at clock) (no-pair-several passwords request s at clock) (h.unfit at r) (h.made at r)

      placed-holds : Fit request clock s → (place : Place) → find_row row_bytes s serial ≡ place
          → P (served_from passwords (valued request) (challenge_of request) clock s (located_at last_state s place))
      placed-holds fit (Some at) e =
          either-by (λ x. P (served_from passwords (valued request) (challenge_of request) clock s x)) (well_formed last_state s at)
          (λ ok. reached-holds at (record { fit = fit; found = e; formed = ok })) (h.damaged fit at e)
      placed-holds fit None e = h.unknown fit e

      pub named-holds : P (desk_after passwords (DeskCall.named request serial clock) s)
      unfolding desk_after located
      named-holds =
          either-by P (table_ok row_bytes s && (clock_ok clock && request_ok request))
          (λ t. placed-holds
          (record { table = search (and_left); timely = search (and_left, and_right); arguments = search (and_right) })
          (find_row row_bytes s serial) refl)
          h.bad

-- ---- a claim about the answer alone, which holds of every refusal: the successes are left

module _ (Q : Answer → Type 0) where
  -- it holds of a way's success
  abbrev pub Succeeds : Line → Row → ℕ → (Track → Asked → Outcome) → Way → Type 0
  Succeeds l w clock check Way.Changes = Q (changing l w).answer
  Succeeds l w clock check Way.Tells = Q (telling l w).answer
  Succeeds l w clock check (Way.Checks asked f) = (a : Step) → check w.track asked ≡ Outcome.Accepted a → Q (judging l f w clock (Outcome.Accepted a)).answer

  module _ (refusals : (f : Refusal) → Q (Err f)) (passwords : PasswordRule) (s : List ℕ) where
    succeeds-done : (l : Line) (w : Row) (clock : ℕ) (check : Track → Asked → Outcome) (way : Way) → Succeeds l w clock check way
        → Done l w clock (λ d. Q d.answer) check way
    succeeds-done l w clock check Way.Changes q = q
    succeeds-done l w clock check Way.Tells q = q
    succeeds-done l w clock check (Way.Checks asked f) q =
        record {
          expired = λ t. refusals Refusal.Expired;
          accepted = λ t. q;
          several = if_single asked (λ t e. refusals f.several);
          again = λ t e. refusals f.used;
          used = λ t e. refusals f.used;
          wrong = λ t e. refusals f.wrong;
        }

    pub load-answer-holds : (p : Particulars) (key : List ℕ) → Q (successful 0x0140 Content.Plain) → Q (desk_after passwords (DeskCall.load p key) s).answer
    load-answer-holds p key q =
        load-holds passwords s (λ x. Q x.answer) p key
        (record { bad = λ t. refusals _; taken = λ t other e. refusals _; full = λ t none e. refusals _; made = λ t none at e. q })

    pub named-answer-holds : (request : Request) (serial clock : ℕ)
        → ((at : ℕ) → Reached request serial clock s at → Succeeds (line_for request) (row_now s at clock) clock (check_at passwords request s at clock) (line_for request).way)
        → Q (desk_after passwords (DeskCall.named request serial clock) s).answer
    named-answer-holds request serial clock q =
        named-holds passwords s (λ x. Q x.answer) request serial clock
        (record {
          bad = λ t. refusals _;
          unknown = λ fit e. refusals _;
          damaged = λ fit at e f. refusals _;
          unfit = λ at r f. refusals _;
          made = λ at r t. succeeds-done (line_for request) (row_now s at clock) clock (check_at passwords request s at clock) (line_for request).way (q at r);
        })

-- what holds of each refusal
pub by-refusal : (P : Refusal → Type 0) → P Refusal.BadMessage → P Refusal.BadMac → P Refusal.NoService → P Refusal.BadArgument → P Refusal.AlreadyLoaded → P Refusal.TableFull → P Refusal.Unknown → P Refusal.Damaged → P Refusal.Ready → P Refusal.Locked → P Refusal.Suspended
    → P Refusal.Inactive → P Refusal.Void → P Refusal.Expired → P Refusal.NextAtLogin → P Refusal.NextWanted → P Refusal.UsedAtLogin → P Refusal.Used → P Refusal.WrongAtLogin → P Refusal.Wrong → P Refusal.WrongAtSync
    → (f : Refusal) → P f
by-refusal P x y z a b c d e f g h i j k l m n o p q r Refusal.BadMessage = x
by-refusal P x y z a b c d e f g h i j k l m n o p q r Refusal.BadMac = y
by-refusal P x y z a b c d e f g h i j k l m n o p q r Refusal.NoService = z
by-refusal P x y z a b c d e f g h i j k l m n o p q r Refusal.BadArgument = a
by-refusal P x y z a b c d e f g h i j k l m n o p q r Refusal.AlreadyLoaded = b
by-refusal P x y z a b c d e f g h i j k l m n o p q r Refusal.TableFull = c
by-refusal P x y z a b c d e f g h i j k l m n o p q r Refusal.Unknown = d
by-refusal P x y z a b c d e f g h i j k l m n o p q r Refusal.Damaged = e
by-refusal P x y z a b c d e f g h i j k l m n o p q r Refusal.Ready = f
by-refusal P x y z a b c d e f g h i j k l m n o p q r Refusal.Locked = g
by-refusal P x y z a b c d e f g h i j k l m n o p q r Refusal.Suspended = h
by-refusal P x y z a b c d e f g h i j k l m n o p q r Refusal.Inactive = i
by-refusal P x y z a b c d e f g h i j k l m n o p q r Refusal.Void = j
by-refusal P x y z a b c d e f g h i j k l m n o p q r Refusal.Expired = k
by-refusal P x y z a b c d e f g h i j k l m n o p q r Refusal.NextAtLogin = l
by-refusal P x y z a b c d e f g h i j k l m n o p q r Refusal.NextWanted = m
by-refusal P x y z a b c d e f g h i j k l m n o p q r Refusal.UsedAtLogin = n
by-refusal P x y z a b c d e f g h i j k l m n o p q r Refusal.Used = o
by-refusal P x y z a b c d e f g h i j k l m n o p q r Refusal.WrongAtLogin = p
by-refusal P x y z a b c d e f g h i j k l m n o p q r Refusal.Wrong = q
by-refusal P x y z a b c d e f g h i j k l m n o p q r Refusal.WrongAtSync = r

-- ---- a row that is found and well formed is in one of the states 1 to 6

abbrev pub Standing : ℕ → Type 0
Standing state = (eqb state empty ≡ false) × (state < 7)

waited_standing : (r : Row) (clock : ℕ) → Standing r.state → Standing (waited r clock).state
unfolding waited
waited_standing r clock h = either (λ (x : Row). Standing x.state) (wait_over r clock) (refl, omega arith) h

pub reached_standing : {request : Request} {serial clock : ℕ} {s : List ℕ} {at : ℕ} → Reached request serial clock s at → Standing (row_now s at clock).state
unfolding row_at has_serial numbers_ok number_tests
reached_standing {serial = serial} {clock = clock} {s = s} {at = at} r =
    let taken = and_left _ _ (found-has row_bytes s serial at r.found) in
    let known : leb (get_or s (at + 0) 0) 6 ≡ true = search (and_left, numbers_of last_state s at r.formed) in
    waited_standing (row_at s at) clock (not-true (is_empty s at) taken, omega (arith, leb-true (get_or s (at + 0) 0) 6 known))

-- what holds in each of these states
pub by_state : (P : ℕ → Type 0) → P 1 → P 2 → P 3 → P 4 → P 5 → P 6 → (state : ℕ) → Standing state → P state
by_state P a b c d e f zero h = clash {b = true} refl h.0
by_state P a b c d e f (suc zero) h = a
by_state P a b c d e f (suc (suc zero)) h = b
by_state P a b c d e f (suc (suc (suc zero))) h = c
by_state P a b c d e f (suc (suc (suc (suc zero)))) h = d
by_state P a b c d e f (suc (suc (suc (suc (suc zero))))) h = e
by_state P a b c d e f (suc (suc (suc (suc (suc (suc zero)))))) h = f
by_state P a b c d e f (suc (suc (suc (suc (suc (suc (suc n))))))) h = absurd (omega arith)
