-- Demand 2 (`Demand2`): a checked call that is ready to be judged tells accepted, several, used and wrong apart, exactly.
use Rattle.std.specs.Prelude.{ℕ, suc, ◌+◌, ◌≤◌, ◌<◌, ◌≡◌, refl, Bool, true, false, ◌&&◌, not, ◌⊎◌, List, [], ◌∷◌, eqb, leb, ltb}
use Rattle.std.proofs.Common.{sym, ap, subst, ◌∙◌, inl, inr, ⊎_elim, arith}
use Rattle.std.proofs.Math.Option.{Option, none, some, get_or}
use borrow.Author.Tests.{eq-eqb, eqb-true, eqb-false, leb-true, ltb-true, le-leb, lt-ltb, lt-leb, not-true}
use Rattle.words.specs.BoolLaws.{by-test, and_false, and_left, and_right, either, and_both, clash, or_true, impossible}
use Rattle.words.specs.Entries.{every}
use Rattle.words.specs.Lists.{one_of}
use Rattle.words.specs.Exactly.{Exactly}
use Rattle.otp.specs.Typed.{password_ok, as_password}
use Rattle.otp.specs.TypedLaws.{digits-back}
use Rattle.window.specs.declared.Size.{Size}
use Rattle.window.specs.declared.Size.TheVariants.{Small, Medium, Large}
use Rattle.window.specs.declared.Step.{Step}
use Rattle.window.specs.declared.Offset.{Offset}
use Rattle.window.specs.declared.Track.{Track}
use Rattle.window.specs.declared.Outcome.{Outcome}
use Rattle.window.specs.declared.asked.Asked.{Asked}
use Rattle.window.specs.declared.asked.Asked.TheVariants.{One, Challenged, Two}
use Rattle.window.specs.Window.{candidate}
use Rattle.window.specs.PasswordAt.{PasswordRule, has_by}
use Rattle.window.specs.Check.{fresh_hit}
use Rattle.window.specs.Asked.{one_asked, two_asked}
use Rattle.window.proofs.Meaning.{Means, MeansFirst, MeansOnly, found-used, single_means, pair_means}
use Rattle.row.specs.declared.Row.{Row}
use Rattle.row.specs.Row.{row_at}
use Rattle.row.specs.Table.{located}
use Rattle.token.specs.declared.lines.Fails.{Fails}
use Rattle.token.specs.declared.lines.Way.{Way}
use Rattle.token.specs.declared.lines.Line.{Line}
use Rattle.token.specs.Lines.{at_login, at_sync, elsewhere, allowed}
use Rattle.token.specs.Codes.{refusal_number, number_of}
use Rattle.token.specs.States.{wait_over, waited}
use Rattle.token.specs.StatesLaws.{waited-track}
use Rattle.token.specs.Deciding.{judging, deciding, decided}
use Rattle.desk.specs.Requests.{Request, DeskCall, challenge_given, request_ok}
use Rattle.desk.specs.Desk.{secret_at, served_at, desk_after, checked_of}
use Rattle.desk.proofs.BranchLaws.{row_now, line_for, check_at}
use Rattle.desk.specs.Demand2.{Checking, alone, in_row, Ready, Hits, next_at, SomeFresh, Verdict, Demand2, login, challenge_login, activate, unlock, resume, sync_medium, sync_large}

-- ---- what a check means, by whether it knows several matches

abbrev Searched : Option ℕ → (ℕ → Bool) → ℕ → ℕ → Outcome → Type 0
Searched (some code) hit ahead next o = MeansOnly hit ahead next o
Searched none hit ahead next o = MeansFirst hit ahead next o

-- for passwords as they were typed
module _ (passwords : PasswordRule) (key : List ℕ) (k : Track) (clock : ℕ) (size : Size) where
  abbrev has : List ℕ → List ℕ → ℕ → Bool
  has challenge presented = has_by passwords k.scheme key challenge presented

  one_searched : (challenge p : List ℕ) → password_ok p ≡ true
      → MeansOnly (alone challenge p has (candidate k clock size)) 0 k.next.0 (one_asked passwords k clock key size challenge (as_password p))
  one_searched challenge p ok = rw (digits-back p ok) (single_means k clock size (has challenge p))

  two_searched : (p q : List ℕ) → password_ok p && password_ok q ≡ true
      → MeansFirst (in_row p q has (candidate k clock size)) 1 k.next.0 (two_asked passwords k clock key size (as_password p) (as_password q))
  two_searched p q ok =
      rw (digits-back p (and_left _ _ ok), digits-back q (and_right (password_ok p) _ ok)) (pair_means k clock size (has [] p) (has [] q))

-- ---- the codes of a check are those of the request's line, and tell its outcomes apart

abbrev several_fits : Option ℕ → ℕ → Bool
several_fits none code = true
several_fits (some several) code = eqb code several

abbrev codes_fit : Line → Fails → Checking → Bool
codes_fit l f c =
    ((eqb l.success c.success && eqb (refusal_number f.used) c.used) && (eqb (refusal_number f.wrong) c.wrong && several_fits c.several (refusal_number f.several)))
    && (((ltb c.success c.used && ltb c.success c.wrong) && (not (eqb c.used c.wrong) && ltb c.success (refusal_number f.several)))
    && (ltb (refusal_number f.several) c.used && ltb (refusal_number f.several) c.wrong))

record Coded (l : Line) (f : Fails) (c : Checking) : Type 0 where
  success : l.success ≡ c.success
  several : several_fits c.several (refusal_number f.several) ≡ true
  used : refusal_number f.used ≡ c.used
  wrong : refusal_number f.wrong ≡ c.wrong
  success-several : c.success < refusal_number f.several
  success-used : c.success < c.used
  success-wrong : c.success < c.wrong
  several-used : refusal_number f.several < c.used
  several-wrong : refusal_number f.several < c.wrong
  used-wrong : c.used ≡ c.wrong → ⊥

coded : (l : Line) (f : Fails) (c : Checking) → codes_fit l f c ≡ true → Coded l f c
coded l f c t =
    record {
      success = search (and_left, and_right, eqb-true) depth 8;
      several = search (and_left, and_right) depth 8;
      used = search (and_left, and_right, eqb-true) depth 8;
      wrong = search (and_left, and_right, eqb-true) depth 8;
      success-several = search (and_left, and_right, ltb-true) depth 8;
      success-used = search (and_left, and_right, ltb-true) depth 8;
      success-wrong = search (and_left, and_right, ltb-true) depth 8;
      several-used = search (and_left, and_right, ltb-true) depth 8;
      several-wrong = search (and_left, and_right, ltb-true) depth 8;
      used-wrong = search (and_left, and_right, eqb-false, not-true) depth 8;
    }

module _ (l : Line) (f : Fails) (row : Row) (clock : ℕ) (c : Checking) (codes : Coded l f c) where
  abbrev code : Outcome → ℕ
  code o = number_of (judging l f row clock o).answer

  says-accepted : (o : Outcome) → code o ≡ c.success → (a : Step) × (o ≡ Outcome.Accepted a)
  says-accepted (Outcome.Accepted a) e = (a, refl)
  says-accepted Outcome.Several e = absurd (omega arith)
  says-accepted Outcome.Again e = absurd (omega arith)
  says-accepted Outcome.Used e = absurd (omega arith)
  says-accepted Outcome.Wrong e = absurd (omega arith)

  says-several : (o : Outcome) → code o ≡ refusal_number f.several → o ≡ Outcome.Several
  says-several (Outcome.Accepted a) e = absurd (omega arith)
  says-several Outcome.Several e = refl
  says-several Outcome.Again e = absurd (omega arith)
  says-several Outcome.Used e = absurd (omega arith)
  says-several Outcome.Wrong e = absurd (omega arith)

  says-used : (o : Outcome) → code o ≡ c.used → (o ≡ Outcome.Again) ⊎ (o ≡ Outcome.Used)
  says-used (Outcome.Accepted a) e = absurd (omega arith)
  says-used Outcome.Several e = absurd (omega arith)
  says-used Outcome.Again e = inl refl
  says-used Outcome.Used e = inr refl
  says-used Outcome.Wrong e = absurd (omega arith)

  says-wrong : (o : Outcome) → code o ≡ c.wrong → o ≡ Outcome.Wrong
  says-wrong (Outcome.Accepted a) e = absurd (omega arith)
  says-wrong Outcome.Several e = absurd (omega arith)
  says-wrong Outcome.Again e = absurd (omega arith)
  says-wrong Outcome.Used e = absurd (omega arith)
  says-wrong Outcome.Wrong e = refl

  -- one of the codes is said, where those of several are known
  says-one : (several : List ℕ) (o : Outcome) → (o ≡ Outcome.Several → one_of (refusal_number f.several) several ≡ true) → one_of (code o) (c.success ∷ c.used ∷ c.wrong ∷ several) ≡ true
  says-one several (Outcome.Accepted a) m = rw (codes.success, eq-eqb c.success c.success refl)
  says-one several Outcome.Several m =
      rw (m refl, or_true (eqb (refusal_number f.several) c.wrong), or_true (eqb (refusal_number f.several) c.used)) (or_true (eqb (refusal_number f.several) c.success))
  says-one several Outcome.Again m = rw (codes.used, eq-eqb c.used c.used refl) (or_true (eqb c.used c.success))
  says-one several Outcome.Used m = rw (codes.used, eq-eqb c.used c.used refl) (or_true (eqb c.used c.success))
  says-one several Outcome.Wrong m =
      rw (codes.wrong, eq-eqb c.wrong c.wrong refl, or_true (eqb c.wrong c.used)) (or_true (eqb c.wrong c.success))

  module _ (hit : ℕ → Bool) (next : ℕ) (o : Outcome) where
    fresh : (x : ℕ) → next ≤ x → hit x ≡ true → fresh_hit hit next x ≡ true
    fresh x l t = and_both (le-leb next x l) t

    not_fresh : (x : ℕ) → (next ≤ x → hit x ≡ false) → fresh_hit hit next x ≡ false
    not_fresh x h = by-test (leb next x) (λ t. rw (h (leb-true next x t)) (and_false (leb next x))) (λ t. rw t)

    late : {x : ℕ} → fresh_hit hit next x ≡ true → next ≤ x
    late {x} t = leb-true next x (and_left _ _ t)

    matched : {x : ℕ} → fresh_hit hit next x ≡ true → hit x ≡ true
    matched {x} t = and_right (leb next x) _ t

    -- used and wrong, whatever is chosen among fresh hits
    module _ {Chosen : ℕ → Type 0} {Many : Type 0} (means : Means Chosen Many hit c.ahead next o) where
      used-told : Exactly (code o ≡ c.used) (((x : ℕ) → next ≤ x → hit x ≡ false) × ((x : ℕ) × ((x < next) × (hit x ≡ true))))
      used-told = (
        λ e.
            let u = (found-used means).0 (says-used o e) in
            let x = u.1.0 in
            let t = u.1.1 in
            (λ y l. rw (le-leb next y l) at (u.0 y), (x, (ltb-true x next (and_left _ _ t), and_right (ltb x next) _ t))),
        λ h.
            let x = h.1 in
            ⊎_elim (λ (e : o ≡ Outcome.Again). rw e codes.used) (λ (e : o ≡ Outcome.Used). rw e codes.used)
            ((found-used means).1 (λ y. not_fresh y (h.0 y)) x.0 (and_both (lt-ltb x.0 next x.1.0) x.1.1)),
      )

      wrong-told : Exactly (code o ≡ c.wrong) ((x : ℕ) → hit x ≡ false)
      wrong-told = (λ e. means.wrong.0 (says-wrong o e), λ h. rw (means.wrong.1 h) codes.wrong)

      -- an accepted step is carried
      carried : {x : ℕ} → Chosen x → (d : Offset) × (checked_of (judging l f row clock o).answer ≡ some (record { 0 = x + c.ahead }, d))
      carried {x} chosen = rw (means.accepted.1 x chosen) (_, refl)

    -- of two passwords

    first-accepted : (means : MeansFirst hit c.ahead next o) → Exactly (code o ≡ c.success) (SomeFresh next hit)
    first-accepted means = (
      λ e.
          let a = says-accepted o e in
          let x = means.accepted.0 a.0 a.1 in
          let t = x.1.1.passes in
          (x.0, (late t, matched t)),
      λ x. by-outcome x.0 (fresh x.0 x.1.0 x.1.1) o refl,
    )
      where
        by-outcome : (x : ℕ) → fresh_hit hit next x ≡ true → (p : Outcome) → o ≡ p → code o ≡ c.success
        by-outcome x t (Outcome.Accepted a) e = rw e codes.success
        by-outcome x t Outcome.Several e = absurd (means.several.0 e)
        by-outcome x t Outcome.Again e = clash t ((means.again.0 e).0 x)
        by-outcome x t Outcome.Used e = clash t ((means.used.0 e).0 x)
        by-outcome x t Outcome.Wrong e = clash (matched t) (means.wrong.0 e x)

    first_verdict : c.several ≡ none → MeansFirst hit c.ahead next o → Verdict (judging l f row clock o).answer c next hit
    first_verdict e means =
        record {
          accepted = rw e (first-accepted means);
          smallest = λ s x m t before. carried means (record { passes = fresh x m t; before = λ y b. not_fresh y (λ n. before y n b) });
          several = λ several es. let z : none ≡ some several = sym e ∙ es in impossible (cc);
          used = used-told means;
          wrong = wrong-told means;
          listed = rw e (says-one [] o (λ u. absurd (means.several.0 u)));
        }

    -- of one

    only_verdict : (several : ℕ) → c.several ≡ some several → MeansOnly hit c.ahead next o → Verdict (judging l f row clock o).answer c next hit
    only_verdict several e means =
        let called : refusal_number f.several ≡ several = eqb-true (refusal_number f.several) several (rw e at codes.several) in
        record {
          accepted = rw e (
            λ s.
                let a = says-accepted o s in
                let x = means.accepted.0 a.0 a.1 in
                let t = x.1.1.passes in
                (x.0, (late t, (matched t, λ y m u. x.1.1.alone y (fresh y m u)))),
            λ x. rw (means.accepted.1 x.0 (record { passes = fresh x.0 x.1.0 x.1.1.0; alone = λ y t. x.1.1.1 y (late t) (matched t) })) codes.success,
          );
          smallest = λ s x m t before.
              let a = says-accepted o s in
              let z = means.accepted.0 a.0 a.1 in
              let same : x ≡ z.0 = z.1.1.alone x (fresh x m t) in
              carried means (rw same z.1.1);
          several = λ other eo.
              let same : other ≡ several = some_same (sym eo ∙ e) in (
                λ s. let r = means.several.0 (says-several o (s ∙ same ∙ sym called)) in (r.0, (r.1.0, (late r.1.1.1.0, (r.1.1.0, (matched r.1.1.1.0, matched r.1.1.1.1))))),
                λ r. rw (means.several.1 (r.0, (r.1.0, (r.1.1.1.0, (fresh r.0 r.1.1.0 r.1.1.1.1.0, fresh r.1.0 (omega (arith, r.1.1.0, r.1.1.1.0)) r.1.1.1.1.1))))) (called ∙ sym same),
              );
          used = used-told means;
          wrong = wrong-told means;
          listed = rw e (says-one (several ∷ []) o (λ u. rw (called, eq-eqb several several refl)));
        }
      where
        some_same : {x y : ℕ} → some x ≡ some y → x ≡ y
        some_same {x} {y} e = ap (λ (o : Option ℕ). get_or o 0) e

    judged_verdict : Searched c.several hit c.ahead next o → Verdict (judging l f row clock o).answer c next hit
    judged_verdict means = by-several c.several refl means
      where
        by-several : (several : Option ℕ) → c.several ≡ several → Searched several hit c.ahead next o → Verdict (judging l f row clock o).answer c next hit
        by-several none e means = first_verdict e means
        by-several (some several) e means = only_verdict several e means

-- ---- a ready call is judged

-- the call is made in the check's states
abbrev made : Line → Checking → Bool
made l c = every (λ i state. allowed l.needs state) 0 c.states

-- a number of a list passes a test that all of the list pass
listed-passes : (test : ℕ → Bool) (xs : List ℕ) (i x : ℕ) → every (λ j y. test y) i xs ≡ true → one_of x xs ≡ true → test x ≡ true
listed-passes test [] i x t m = cc
listed-passes test (y ∷ xs) i x t m =
    by-test (eqb x y) (λ e. rw (eqb-true x y e) (and_left _ _ t))
    (λ e. listed-passes test xs (suc i) x (and_right (test y) _ t) (rw e at m))

waited-expiry : (r : Row) (clock : ℕ) → (waited r clock).expiry ≡ r.expiry
unfolding waited
waited-expiry r clock = either (λ (x : Row). x.expiry ≡ r.expiry) (wait_over r clock) refl refl

module _ (passwords : PasswordRule) {request : Request} {c : Checking} {serial clock : ℕ} {s : List ℕ} {at : ℕ} (ready : Ready request c serial clock s at)
    (asked : Asked) (f : Fails) (way : (line_for request).way ≡ Way.Checks asked f) (fit : codes_fit (line_for request) f c ≡ true) (needs : made (line_for request) c ≡ true) where
  abbrev row : Row
  row = row_now s at clock

  abbrev outcome : Outcome
  outcome = check_at passwords request s at clock row.track asked

  answer-judged : (desk_after passwords (DeskCall.named request serial clock) s).answer ≡ (judging (line_for request) f row clock outcome).answer
  unfolding desk_after located served_at decided deciding
  answer-judged =
      let a = listed-passes (allowed (line_for request).needs) c.states 0 row.state needs ready.state in
      let t = lt-leb (row_at s at).expiry.0 clock ready.unexpired in
      rw (ready.table, ready.timely, ready.arguments, ready.found, ready.formed, a, way, waited-expiry (row_at s at) clock, t)

  -- what of a row's track matches
  abbrev hits : Track → ℕ → Bool
  hits k x = c.matches (λ challenge presented. has_by passwords k.scheme (secret_at s at) challenge presented) (candidate k clock c.size) x

  ready-judged : Searched c.several (hits row.track) c.ahead row.track.next.0 outcome
      → Verdict (desk_after passwords (DeskCall.named request serial clock) s).answer c (next_at s at) (Hits passwords c clock s at)
  ready-judged checks =
      subst (λ (k : Track). Verdict (desk_after passwords (DeskCall.named request serial clock) s).answer c k.next.0 (hits k)) (waited-track (row_at s at) clock)
      (rw answer-judged (judged_verdict (line_for request) f row clock c (coded (line_for request) f c fit) (hits row.track) row.track.next.0 outcome checks))

pub demand_2 : Demand2
unfolding request_ok
demand_2 passwords request c (login {p = p}) serial clock s at ready =
    ready-judged passwords ready (One Small (as_password p)) at_login refl refl refl (one_searched passwords (secret_at s at) _ _ _ [] p ready.arguments)
demand_2 passwords request c (challenge_login {q = q} {p = p}) serial clock s at ready =
    ready-judged passwords ready (Challenged Small (as_password p)) at_login refl refl refl
    (one_searched passwords (secret_at s at) _ _ _ q p (and_right (challenge_given q) _ ready.arguments))
demand_2 passwords request c (activate {p = p} {f = f}) serial clock s at ready =
    ready-judged passwords ready (Two Large (as_password p) (as_password f)) elsewhere refl refl refl (two_searched passwords (secret_at s at) _ _ _ p f ready.arguments)
demand_2 passwords request c (unlock {p = p}) serial clock s at ready =
    ready-judged passwords ready (One Small (as_password p)) elsewhere refl refl refl (one_searched passwords (secret_at s at) _ _ _ [] p ready.arguments)
demand_2 passwords request c (resume {p = p}) serial clock s at ready =
    ready-judged passwords ready (One Small (as_password p)) elsewhere refl refl refl (one_searched passwords (secret_at s at) _ _ _ [] p ready.arguments)
demand_2 passwords request c (sync_medium {p = p} {f = f}) serial clock s at ready =
    ready-judged passwords ready (Two Medium (as_password p) (as_password f)) at_sync refl refl refl (two_searched passwords (secret_at s at) _ _ _ p f ready.arguments)
demand_2 passwords request c (sync_large {p = p} {f = f}) serial clock s at ready =
    ready-judged passwords ready (Two Large (as_password p) (as_password f)) at_sync refl refl refl (two_searched passwords (secret_at s at) _ _ _ p f ready.arguments)
