-- The ways through dl_check.
use Rattle.std.specs.Prelude.{ℕ, ◌≤◌, ◌<◌, ◌^◌, ◌≡◌, Bool, not, ◌&&◌, List, [], ◌∷◌, eqb, ltb, length, drop, set, Option, Some, None}
use Rattle.std.proofs.Math.Path.{refl, sym}
use Rattle.std.proofs.Common.{ap, ◌∙◌, arith}
use Rattle.std.proofs.Math.Bool.{true, false}
use borrow.Author.Tests.{not-true, not-false, ltb-true, eq-eqb, ne_eqb, eqb-true}
use Rattle.words.specs.BoolLaws.{and_left, and_right, and_true, and_false, by-test, impossible}
use Rattle.words.specs.Codes.{bad_argument}
use Rattle.words.specs.Output.{Left}
use Rattle.otp.specs.declared.typed.Password.{Password}
use Rattle.otp.specs.Typed.{password_ok, typed_of}
use Rattle.otp.specs.TypedLaws.{digits-back, typed-is, typed-bad}
use Rattle.window.specs.declared.Size.{Size}
use Rattle.window.specs.declared.Track.{Track}
use Rattle.window.specs.declared.Swept.{Swept}
use Rattle.window.specs.declared.asked.Asked.{Asked}
use Rattle.window.specs.Window.{Sound}
use Rattle.window.specs.PasswordAt.{password_at, in_range}
use Rattle.window.specs.Asked.{outcome_of}
use Rattle.window.specs.Sweep.{computed_of, fresh_of}
use Rattle.row.specs.Row.{track_ok}
use Rattle.row.specs.RangeLaws.{track-sound}
use Rattle.desk.specs.Requests.{clock_ok}
use Rattle.capi.specs.Stored.{left}
use Rattle.capi.specs.Checked.{size_of, check_numbers_ok, passwords_ok, check_arguments_ok, asked_of, presented_of, check_of, check_computed, check_fresh, checked, outcome_left, outcome_counted, room_for, check_left}

-- ---- what is asked

module _ (size : Size) (challenge presented following : List ℕ) {x : Option Password} (first : x ≡ typed_of presented) where
  pub presented-bad : x ≡ None → None ≡ presented_of size challenge presented following
  unfolding presented_of passwords_ok
  presented-bad b = rw (typed-bad presented first b)

  module _ {p : Password} (is : x ≡ Some p) where
    ok : password_ok presented ≡ true
    ok = (typed-is presented first is).0

    pub presented-one : length following ≡ 0 → length challenge ≡ 0 → Some (Asked.One size p) ≡ presented_of size challenge presented following
    unfolding presented_of passwords_ok
    presented-one n e = rw (ok, eq-eqb (length following) 0 n, eq-eqb (length challenge) 0 e, (typed-is presented first is).1)

    pub presented-challenged : length following ≡ 0 → (length challenge ≡ 0 → ⊥) → Some (Asked.Challenged size p) ≡ presented_of size challenge presented following
    unfolding presented_of passwords_ok
    presented-challenged n e = rw (ok, eq-eqb (length following) 0 n, ne_eqb (length challenge) 0 e, (typed-is presented first is).1)

    module _ (n : length following ≡ 0 → ⊥) {y : Option Password} (second : y ≡ typed_of following) where
      pub following-bad : y ≡ None → None ≡ presented_of size challenge presented following
      unfolding presented_of passwords_ok
      following-bad b = rw (ok, ne_eqb (length following) 0 n, typed-bad following second b, and_false (eqb (length challenge) 0))

      module _ {q : Password} (and : y ≡ Some q) where
        pub presented_two : length challenge ≤ 0 → Some (Asked.Two size p q) ≡ presented_of size challenge presented following
        unfolding presented_of passwords_ok
        presented_two e =
            rw (ok, ne_eqb (length following) 0 n, eq-eqb (length challenge) 0 (omega arith), (typed-is following second and).0, (typed-is presented first is).1, (typed-is following second and).1)

        pub pair-challenged : 0 < length challenge → None ≡ presented_of size challenge presented following
        unfolding presented_of passwords_ok
        pair-challenged l = rw (ok, ne_eqb (length following) 0 n, ne_eqb (length challenge) 0 (λ e. omega arith))

-- ---- what the check finds

no_bytes : (s : List ℕ) → length s ≡ 0 → s ≡ []
no_bytes [] e = refl
no_bytes (x ∷ s) e = absurd (omega arith)

-- what is asked has the outcome and the fresh matches of the passwords as presented
asked-found : (k : Track) (clock : ℕ) (size : Size) (key challenge presented following : List ℕ) → passwords_ok challenge presented following ≡ true
    → (outcome_of password_at k clock key challenge (asked_of size challenge presented following) ≡ check_of k clock size key challenge presented following)
    × (fresh_of password_at k clock key challenge (asked_of size challenge presented following) ≡ check_fresh k clock size key challenge presented following)
unfolding passwords_ok check_of check_fresh
asked-found k clock size key challenge presented following t =
    let first = digits-back presented (and_left _ _ t) in
    by-test (eqb (length following) 0)
    (λ n. by-test (eqb (length challenge) 0)
    (λ e. rw (n, e, first, no_bytes challenge (eqb-true (length challenge) 0 e)) (refl, refl))
    (λ e. rw (n, e, first) (refl, refl)))
    (λ n.
    let rest : eqb (length challenge) 0 && password_ok following ≡ true = rw n at (and_right (password_ok presented) _ t) in
    rw (n, first, digits-back following (and_right (eqb (length challenge) 0) _ rest)) (refl, refl))

-- and computes as many
asked-computed : (k : Track) (clock : ℕ) (size : Size) (key challenge presented following : List ℕ) → passwords_ok challenge presented following ≡ true
    → computed_of password_at k clock key challenge (asked_of size challenge presented following) ≡ check_computed k clock size key challenge presented following
unfolding computed_of check_computed
asked-computed k clock size key challenge presented following t =
    rw (asked-found k clock size key challenge presented following t).0
    (by-test (eqb (length following) 0)
    (λ n. by-test (eqb (length challenge) 0)
    (λ e. rw (n, e, and_true (eqb (length presented) k.scheme.digits)))
    (λ e. rw (n, e, and_true (eqb (length presented) k.scheme.digits))))
    (λ n. rw n))

module _ (k : Track) (clock size : ℕ) (key challenge step computed fresh : List ℕ) {b : Bool} (tested : b ≡ check_numbers_ok k clock size key challenge) where
  abbrev room : Bool
  room = room_for step computed fresh

  pub check_refused : (presented following : List ℕ) → not (b && room) ≡ true → checked bad_argument step computed fresh ≡ check_left k clock size key challenge presented following step computed fresh
  unfolding check_arguments_ok check_left
  check_refused presented following t = rw (← tested, turned b (passwords_ok challenge presented following) room (not-true (b && room) t))
    where
      turned : (b p o : Bool) → b && o ≡ false → b && p && o ≡ false
      turned false p o e = refl
      turned true p o e = rw (e, and_false p)

  module _ (t : not (b && room) ≡ false) where
    passed : b && room ≡ true
    passed = not-false (b && room) t

    ranged : check_numbers_ok k clock size key challenge ≡ true
    ranged = sym tested ∙ and_left _ _ passed

    roomy : room ≡ true
    roomy = and_right b _ passed

    pub step_room : 0 < length step
    step_room = ltb-true 0 (length step) (and_left _ _ roomy)

    pub computed-room : 0 < length computed
    computed-room = ltb-true 0 (length computed) (and_left _ _ (and_right (ltb 0 (length step)) _ roomy))

    pub fresh-room : 0 < length fresh
    fresh-room = ltb-true 0 (length fresh) (and_right (ltb 0 (length computed)) _ (and_right (ltb 0 (length step)) _ roomy))

    -- what the check asks for
    pub check_asked : Sound k clock × (in_range k.scheme key challenge ≡ true)
    unfolding check_numbers_ok
    check_asked =
        let r : check_numbers_ok k clock size key challenge ≡ true = ranged in
        let c : clock_ok clock ≡ true = search (and_left, and_right) depth 8 in
        let o : track_ok k ≡ true = search (and_left, and_right) depth 8 in
        let i : in_range k.scheme key challenge ≡ true = search (and_left, and_right) depth 8 in
        (track-sound k o clock (ltb-true clock (2 ^ 40) c), i)

    module _ (presented following : List ℕ) {z : Size} {x : Option Asked} (sized : z ≡ size_of size) (read : x ≡ presented_of z challenge presented following) where
      pub check_unread : x ≡ None → checked bad_argument step computed fresh ≡ check_left k clock size key challenge presented following step computed fresh
      unfolding presented_of check_arguments_ok check_left
      check_unread e =
          by-test (passwords_ok challenge presented following)
          (λ p. let y : Some (asked_of z challenge presented following) ≡ None = sym (read ∙ rw p) ∙ e in impossible (cc))
          (λ p. rw (p, and_false (check_numbers_ok k clock size key challenge)))

      pub check_made : {asked : Asked} {r : Swept} → x ≡ Some asked → r.outcome ≡ outcome_of password_at k clock key challenge asked
          → r.computed ≡ computed_of password_at k clock key challenge asked → r.fresh ≡ fresh_of password_at k clock key challenge asked
          → outcome_counted r.outcome r.computed r.fresh step computed fresh ≡ check_left k clock size key challenge presented following step computed fresh
      unfolding presented_of check_arguments_ok check_left
      check_made {asked} e m c f =
          by-test (passwords_ok challenge presented following)
          (λ p.
          let y : Some (asked_of z challenge presented following) ≡ Some asked = sym (read ∙ rw p) ∙ e in
          let a : asked ≡ asked_of z challenge presented following = cc in
          let found = asked-found k clock z key challenge presented following p in
          rw (ranged, p, roomy, m, c, f, a, found.0, asked-computed k clock z key challenge presented following p, found.1, sized))
          (λ p. let y : None ≡ Some asked = sym (read ∙ rw p) ∙ e in impossible (cc))

-- the first element is written
pub write_first : (s : List ℕ) (x : ℕ) → 0 < length s → set s 0 x ≡ x ∷ drop 1 s
write_first [] x h = absurd (omega arith)
write_first (y ∷ s) x h = refl

-- every output is written
pub all-written : (step computed fresh : List ℕ) (r : Swept) {code : ℕ} {after : List ℕ} → 0 < length computed → 0 < length fresh → left code after ≡ outcome_left r.outcome step
    → checked code after (set computed 0 r.computed) (set fresh 0 r.fresh) ≡ outcome_counted r.outcome r.computed r.fresh step computed fresh
all-written step computed fresh r h g e =
    rw (write_first computed r.computed h, write_first fresh r.fresh g) (ap (λ (x : Left). checked x.code x.out (r.computed ∷ drop 1 computed) (r.fresh ∷ drop 1 fresh)) e)
