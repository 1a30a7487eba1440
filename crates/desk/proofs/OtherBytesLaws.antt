-- Besides the offsets listed for a code (`Demand1Bytes`), every byte of the table stays.
use Rattle.token.specs.Answers.{Answer}
use Rattle.std.specs.Prelude.{ℕ, ◌+◌, ◌≤◌, ◌<◌, ◌≡◌, Bool, true, false, ◌&&◌, ◌||◌, ◌⊎◌, eqb, leb, length, get_or, Some, None}
use Rattle.std.proofs.Math.Path.{refl}
use Rattle.std.proofs.Common.{◌∙◌, inl, inr, arith, leb-true, leb-false}
use mathlib.Core.List.{List, [], ◌∷◌, ◌++◌}
use Rattle.words.specs.Bytes.{put, be_bytes}
use Rattle.words.specs.PutLaws.{put-length, get_or-put}
use Rattle.words.specs.BoolLaws.{by-test, and_left, and_right, or_left, or_right, either, and_both, clash}
use Rattle.window.specs.declared.Track.{Track}
use Rattle.window.specs.declared.Outcome.{Outcome}
use Rattle.window.specs.declared.asked.Asked.{Asked}
use Rattle.window.specs.PasswordAt.{PasswordRule}
use Rattle.row.specs.declared.Row.{Row}
use Rattle.row.specs.Table.{Place}
use Rattle.row.specs.Row.{row_bytes}
use Rattle.row.specs.FoundLaws.{found_within, empty-within}
use Rattle.row.specs.WriteLaws.{length-zero_filled}
use Rattle.token.specs.declared.answers.Refusal.{Refusal}
use Rattle.token.specs.Codes.{refusal_number, number_of}
use Rattle.desk.specs.declared.Particulars.{Particulars}
use Rattle.desk.specs.Requests.{Request, DeskCall}
use Rattle.desk.specs.Desk.{desk_after}
use Rattle.desk.proofs.LoadLaws.{loaded-key-short}
use Rattle.desk.proofs.BranchLaws.{row_now, check_at, load-holds, line_for, Succeeds, named-answer-holds, by-refusal}
use Rattle.desk.proofs.Demand1BytesLaws.{demand_1_bytes}
use Rattle.desk.specs.Demand1Bytes.{Change, laid, state, errors, next, locked_at, last_use, byte, wait_run_out, ran_out, one_more, accepted_step, besides, left_by, loaded, row_of, step_in, press_in, changes_for, left_in, Part, parts_of, in_parts, OtherBytesStay}
use Rattle.desk.proofs.LaidLaws.{end}

-- a change lies in one of the parts
abbrev within : List Part → Change → Bool
within [] c = false
within (p ∷ parts) c = (leb p.first c.offset && leb (end c) (p.last + 1)) || within parts c

-- and in the row
abbrev fitting : List Part → Change → Bool
fitting parts c = leb (end c) row_bytes && within parts c

abbrev all_fitting : List Part → List Change → Bool
all_fitting parts [] = true
all_fitting parts (c ∷ cs) = fitting parts c && all_fitting parts cs

-- a table keeps its length, and every byte outside the parts
abbrev Stays : Place → List Part → List ℕ → List ℕ → Type 0
Stays place parts s t = (length t ≡ length s) × ((i : ℕ) → in_parts place parts i ≡ false → get_or t i 0 ≡ get_or s i 0)

-- what lies outside the parts lies outside a change within them
outside : (at i : ℕ) (parts : List Part) (c : Change) → within parts c ≡ true → in_parts (Some at) parts i ≡ false
    → (i < at + c.offset) ⊎ (at + c.offset + length c.bytes ≤ i)
outside at i [] c t f = clash t refl
outside at i (p ∷ parts) c t f =
    let low = leb p.first c.offset in
    let high = leb (end c) (p.last + 1) in
    let after = leb (at + p.first) i in
    let before = leb i (at + p.last) in
    let rest = in_parts (Some at) parts i in
    by-test (low && high)
    (λ b.
    let l = leb-true p.first c.offset (and_left _ _ b) in
    let h = leb-true (end c) (p.last + 1) (and_right low _ b) in
    by-test after
    (λ g. let k = leb-false i (at + p.last) (rw g at (or_left (after && before) rest f)) in inr (omega arith))
    (λ g. let k = leb-false (at + p.first) i g in inl (omega arith)))
    (λ b. outside at i parts c (rw b at t) (or_right (after && before) rest f))

module _ (at : ℕ) (parts : List Part) where
  laid-stays : (s : List ℕ) (cs : List Change) → at + row_bytes ≤ length s → all_fitting parts cs ≡ true → Stays (Some at) parts s (laid s at cs)
  laid-stays s [] room t = (refl, λ i f. refl)
  laid-stays s (c ∷ cs) room t =
      let place = at + c.offset in
      let first = and_left _ _ t in
      let fits = leb-true (end c) row_bytes (and_left _ _ first) in
      let kept : length (put s place c.bytes) ≡ length s = put-length s place c.bytes (omega arith) in
      let later = laid-stays (put s place c.bytes) cs (rw kept room) (and_right (fitting parts c) _ t) in
      let stays : (i : ℕ) → in_parts (Some at) parts i ≡ false → get_or (put s place c.bytes) i 0 ≡ get_or s i 0 =
      λ i f. get_or-put s place c.bytes i (omega arith) (outside at i parts c (and_right (leb (end c) row_bytes) _ first) f) in
      (later.0 ∙ kept, λ i f. later.1 i f ∙ stays i f)

append-fitting : (parts : List Part) (cs ds : List Change) → all_fitting parts cs ≡ true → all_fitting parts ds ≡ true → all_fitting parts (cs ++ ds) ≡ true
append-fitting parts [] ds p q = q
append-fitting parts (c ∷ cs) ds p q =
    and_both (and_left (fitting parts c) (all_fitting parts cs) p) (append-fitting parts cs ds (and_right (fitting parts c) (all_fitting parts cs) p) q)

-- ---- every code's changes lie in its parts

module _ (s : List ℕ) (at clock : ℕ) (press : Bool) where
  abbrev Covered : ℕ → ℕ → Type 0
  Covered code a = all_fitting (parts_of code) (left_by s at clock press code a) ≡ true

  -- a wait run out, and what comes besides
  waited_covered : (parts : List Part) (cs : List Change) → all_fitting parts (state 2 ∷ errors 0 ∷ locked_at 0 ∷ []) ≡ true → all_fitting parts cs ≡ true
      → all_fitting parts (ran_out s at clock ++ cs) ≡ true
  waited_covered parts cs p q =
      append-fitting parts (ran_out s at clock) cs (either (λ (l : List Change). all_fitting parts l ≡ true) (wait_run_out s at clock) p refl) q

  login-fits : all_fitting (parts_of 0x8002) (besides s at clock press 0x8002 0) ≡ true
  unfolding be_bytes
  login-fits =
      either (λ (l : List Change). all_fitting (parts_of 0x8002) (errors (one_more s at clock) ∷ l) ≡ true) (leb (byte s at 5) (one_more s at clock)) refl refl

  used-fits : all_fitting (parts_of 0x8004) (besides s at clock press 0x8004 0) ≡ true
  used-fits = either (λ (l : List Change). all_fitting (parts_of 0x8004) l ≡ true) press refl login-fits

  step_fits : (a : ℕ) → all_fitting (parts_of 0x0001) (accepted_step s at clock a) ≡ true
  unfolding be_bytes
  step_fits a =
      either (λ (l : List Change). all_fitting (parts_of 0x0001) (next (a + 1) ∷ errors 0 ∷ last_use clock ∷ l) ≡ true) (eqb (byte s at 1) 0) refl refl

  refusal_covered : (f : Refusal) → Covered (refusal_number f) 0
  unfolding be_bytes
  refusal_covered =
      let kept = waited_covered (parts_of 0x8408) [] refl refl in
      let used = waited_covered (parts_of 0x8004) (besides s at clock press 0x8004 0) refl used-fits in
      let wrong = waited_covered (parts_of 0x8002) (besides s at clock press 0x8002 0) refl login-fits in
      let counted = waited_covered (parts_of 0x8104) (besides s at clock press 0x8104 0) refl refl in
      by-refusal (λ f. Covered (refusal_number f) 0) refl refl refl refl refl refl refl refl kept kept kept kept kept kept kept kept used counted wrong counted counted

  abbrev AnswerCovered : Answer → Type 0
  AnswerCovered answer = Covered (number_of answer) (step_in answer)

  success_covered : (w : Row) (check : Track → Asked → Outcome) (request : Request) → Succeeds AnswerCovered (line_for request) w clock check (line_for request).way
  unfolding be_bytes
  success_covered w check (Request.login password) = λ a e. waited_covered (parts_of 0x0001) (besides s at clock press 0x0001 a.0) refl (step_fits a.0)
  success_covered w check (Request.challenge_login challenge password) = λ a e. waited_covered (parts_of 0x0002) (besides s at clock press 0x0002 a.0) refl (step_fits a.0)
  success_covered w check (Request.activate password following) = λ a e. waited_covered (parts_of 0x0101) (besides s at clock press 0x0101 a.0) refl (step_fits a.0)
  success_covered w check Request.lock = waited_covered (parts_of 0x0102) (besides s at clock press 0x0102 0) refl refl
  success_covered w check (Request.unlock password) = λ a e. waited_covered (parts_of 0x0103) (besides s at clock press 0x0103 a.0) refl (step_fits a.0)
  success_covered w check Request.suspend = waited_covered (parts_of 0x0104) (besides s at clock press 0x0104 0) refl refl
  success_covered w check (Request.resume password) = λ a e. waited_covered (parts_of 0x0105) (besides s at clock press 0x0105 a.0) refl (step_fits a.0)
  success_covered w check (Request.sync choice password following) = λ a e. waited_covered (parts_of 0x0108) (besides s at clock press 0x0108 a.0) refl (step_fits a.0)
  success_covered w check Request.void = waited_covered (parts_of 0x010a) (besides s at clock press 0x010a 0) refl refl
  success_covered w check Request.query = refl

load_fits : (p : Particulars) (key : List ℕ) → length key ≤ 32 → all_fitting (parts_of 0x0140) (loaded p key) ≡ true
unfolding be_bytes
load_fits p key short = rw (length-zero_filled key short)

-- ---- the calls

module _ (passwords : PasswordRule) (s : List ℕ) where
  changes_covered : (call : DeskCall) (at : ℕ)
      → all_fitting (parts_of (number_of (desk_after passwords call s).answer)) (changes_for passwords call s at (desk_after passwords call s).answer) ≡ true
  changes_covered (DeskCall.load p key) at =
      load-holds passwords s (λ x. all_fitting (parts_of (number_of x.answer)) (changes_for passwords (DeskCall.load p key) s at x.answer) ≡ true) p key
      (record {
        bad = λ t. refl;
        taken = λ fit other e. refl;
        full = λ fit none e. refl;
        made = λ fit none by e. load_fits p key (loaded-key-short p key fit.values);
      })
  changes_covered (DeskCall.named request serial clock) at =
      let press = press_in passwords request s at clock in
      named-answer-holds (AnswerCovered s at clock press) (refusal_covered s at clock press) passwords s request serial clock (λ by r. success_covered s at clock press (row_now s by clock) (check_at passwords request s by clock) request)

  row_within : (call : DeskCall) (at : ℕ) → row_of call s ≡ Some at → at + row_bytes ≤ length s
  row_within (DeskCall.load p key) at e = empty-within row_bytes s (omega arith) at e
  row_within (DeskCall.named request serial clock) at e = found_within row_bytes s serial (omega arith) at e

  stays_in : (call : DeskCall) (place : Place) → row_of call s ≡ place → Stays place (parts_of (number_of (desk_after passwords call s).answer)) s (left_in passwords call s (desk_after passwords call s).answer)
  stays_in call (Some at) e =
      let answer = (desk_after passwords call s).answer in
      rw e (laid-stays at (parts_of (number_of answer)) s (changes_for passwords call s at answer) (row_within call at e) (changes_covered call at))
  stays_in call None e = rw e (refl, λ i f. refl)

pub other-bytes_stay : OtherBytesStay
other-bytes_stay passwords call s bytes = rw (demand_1_bytes passwords call s bytes) (stays_in passwords s call (row_of call s) refl)
