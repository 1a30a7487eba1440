-- Cuts of consecutive steps: they are the password's, and pieces of them are put one behind the other.
use Rattle.std.specs.Prelude.{◌≡◌, ℕ, ◌+◌, ◌-◌, ◌^◌, ◌<◌, ◌≤◌, Bool, true, ◌&&◌, List, [], ◌∷◌, ◌++◌, length, take, drop, ◌==◌, ◌≢◌, nat_le, slice_set}
use Rattle.std.proofs.Common.{zero-le, sym, ap, ◌∙◌, append_assoc, append-nil, not-suc-le-zero, arith, eqb-true, leb-true, length-append, length-drop, drop_of_length-le, take_at, take_all, drop_at, drop-drop}
use Rattle.std.proofs.Math.Path.{refl}
use Rattle.std.proofs.Math.Nat.{sub-zero}
use Rattle.std.proofs.Math.Seq.{drop-length}
use Rattle.words.specs.BoolLaws.{and_left, and_right}
use Rattle.sm3.specs.Sm3.{sm3_of}
use Rattle.otp.specs.Password.{algorithm_sm3, id_of, filled, chained, cut, Factor}
use Rattle.otp.specs.PasswordLaws.{keyed_hashed, keyed-chained}
use Rattle.otp.specs.Chain.{prepared}
use Rattle.otp.specs.StepCuts.{time_at, count_at, step_id, hashed_cut, cut_by, cuts_from}
use Rattle.otp.specs.StepCutsLaws.{step_cut_lem, length-cuts_from, cuts_from-append, same_cuts}
use Rattle.otp.specs.CutLists.{step_cut, Put}

-- ---- the cuts are the password's

module _ (algorithm : ℕ) (key challenge : List ℕ) (timed : Bool) (s : ℕ) where
  -- with a challenge or without
  module _ {time count : Factor} {r : ℕ} (et : time ≡ time_at timed s) (ec : count ≡ count_at timed s) where
    pub cut_hashed : algorithm ≡ algorithm_sm3 → r ≡ cut (sm3_of (key ++ filled (id_of time count challenge))) → r ≡ step_cut algorithm key challenge timed s
    unfolding step_cut
    cut_hashed a e = e ∙ rw (et, ec) (keyed_hashed algorithm key (filled (id_of (time_at timed s) (count_at timed s) challenge)) a)

    pub cut-chained : (algorithm ≢ algorithm_sm3) → r ≡ cut (chained key (filled (id_of time count challenge))) → r ≡ step_cut algorithm key challenge timed s
    unfolding step_cut
    cut-chained a e = e ∙ rw (et, ec) (keyed-chained algorithm key (filled (id_of (time_at timed s) (count_at timed s) challenge)) a)

  -- without a challenge
  module _ (none : length challenge ≤ 0) where
    hashed_cut-is : algorithm ≡ algorithm_sm3 → hashed_cut key timed s ≡ step_cut algorithm key challenge timed s
    unfolding step_cut step_id
    hashed_cut-is a = rw (drop_of_length-le challenge none) (keyed_hashed algorithm key (filled (step_id timed s)) a)

    keyed-cut-is : {keys : List ℕ} → (algorithm ≢ algorithm_sm3) → keys ≡ prepared key → s < 2 ^ 64 → cut_by keys timed s ≡ step_cut algorithm key challenge timed s
    unfolding step_cut step_id
    keyed-cut-is a e h = rw (drop_of_length-le challenge none, e) (sym (step_cut_lem key timed s h) ∙ keyed-chained algorithm key (filled (step_id timed s)) a)

-- ---- pieces

-- the places from n on, as a call is lent them
abbrev left_of : ℕ → List ℕ → List ℕ
left_of n out = take (length out - n) (drop n out)

left_is : (n : ℕ) (out : List ℕ) → left_of n out ≡ drop n out
left_is n out = take_all (length out - n) (drop n out) (rw length-drop (omega arith))

pub length-left : (n : ℕ) (out : List ℕ) → length (left_of n out) ≡ length out - n
length-left n out = rw (left_is n out) (length-drop n out)

-- the first n places, as a call is lent them
abbrev first_of : ℕ → List ℕ → List ℕ
first_of n list = take (n - 0) (drop 0 list)

module _ (cut_at : ℕ → ℕ) (s : ℕ) where
  pub put-none : (out : List ℕ) → Put cut_at 0 s out out
  unfolding cuts_from
  put-none out = record { fits = zero-le; are = refl }

  pub put_one : (out : List ℕ) {x : ℕ} → 0 < length out → x ≡ cut_at s → Put cut_at 1 s out (slice_set out 0 x)
  unfolding cuts_from
  put_one [] h e = absurd (not-suc-le-zero h)
  put_one (c ∷ out) h e = record { fits = h; are = rw e }

  pub put_list : (n : ℕ) (out : List ℕ) {made after : List ℕ} → n ≤ length out → made ≡ cuts_from cut_at n s → after ≡ made ++ drop (length made) out → Put cut_at n s out after
  put_list n out h e p = record { fits = h; are = p ∙ rw (e, length-cuts_from cut_at n s) }

  pub put-length : {n : ℕ} {out after : List ℕ} → Put cut_at n s out after → length after ≡ length out
  put-length {n} p = rw (p.are, length-append, length-cuts_from cut_at n s, length-drop) (let h = p.fits in omega arith)

  pub put_all : {n : ℕ} {out after : List ℕ} → length out ≤ n → Put cut_at n s out after → after ≡ cuts_from cut_at (length out) s
  put_all {n} {out} l p =
      let h = p.fits in
      let e : n ≡ length out = omega arith in
      p.are ∙ rw (drop_of_length-le out l, append-nil, e)

  -- a piece behind n that are put, in what is left
  module _ {n : ℕ} {out now : List ℕ} (p : Put cut_at n s out now) where
    pub put-room : {bound : ℕ} → s + length out < bound → s + n + length (left_of n now) < bound
    put-room h = let fits = p.fits in rw (length-left n now, put-length p) (omega arith)

    pub put_more : {m : ℕ} {part : List ℕ} → Put cut_at m (s + n) (left_of n now) part → Put cut_at (n + m) s out (take n now ++ (part ++ drop (length now - n) (drop n now)))
    put_more {m} {part} q =
        let made = cuts_from cut_at n s in
        let rest : drop n now ≡ drop n out = rw p.are (drop_at made (drop n out) n (length-cuts_from cut_at n s)) in
        let left : left_of n now ≡ drop n out = left_is n now ∙ rest in
        let none : drop (length now - n) (drop n now) ≡ [] = drop_of_length-le (drop n now) {i = length now - n} (rw length-drop (omega arith)) in
        let room : m ≤ length out - n = rw (left, length-drop) at q.fits in
        let behind : part ≡ cuts_from cut_at m (s + n) ++ drop (n + m) out = q.are ∙ rw (left, drop-drop) in
        record {
          fits = let h = p.fits in omega arith;
          are = rw (none, append-nil, behind, cuts_from-append cut_at n m s, p.are, take_at made (drop n out) n (length-cuts_from cut_at n s)) (simp append_assoc);
        }

    pub put_rest : {part : List ℕ} → part ≡ cuts_from cut_at (length (left_of n now)) (s + n) → take n now ++ (part ++ drop (length now - n) (drop n now)) ≡ cuts_from cut_at (length out) s
    put_rest {part} e =
        let l = length-left n now in
        let k = put-length p in
        let q : Put cut_at (length (left_of n now)) (s + n) (left_of n now) part = record { fits = omega arith; are = e ∙ rw (drop-length (left_of n now), append-nil) } in
        put_all (omega arith) (put_more q)

-- a piece made without a challenge
module _ (algorithm : ℕ) (key challenge : List ℕ) (timed : Bool) (n s : ℕ) (out : List ℕ) {after : List ℕ} (none : length challenge ≤ 0) where
  -- the first n of the hashes made
  pub hashed_put : (made : List ℕ) → n ≤ length out → after ≡ first_of n made ++ drop (length (first_of n made)) out → algorithm ≡ algorithm_sm3
      → take n made ≡ cuts_from (hashed_cut key timed) n s → Put (step_cut algorithm key challenge timed) n s out after
  hashed_put made fits copied a e =
      let cut_at = step_cut algorithm key challenge timed in
      let same = same_cuts (hashed_cut key timed) cut_at n s (s + n) (omega arith) (λ x l. hashed_cut-is algorithm key challenge timed x none a) in
      put_list cut_at s n out fits (e ∙ same) (copied ∙ rw (sub-zero n))

  pub keyed-put : {keys : List ℕ} → (algorithm ≢ algorithm_sm3) → keys ≡ prepared key → s + n ≤ 2 ^ 64 → Put (cut_by keys timed) n s out after
      → Put (step_cut algorithm key challenge timed) n s out after
  keyed-put {keys} a k h p =
      let cut_at = step_cut algorithm key challenge timed in
      let e = same_cuts (cut_by keys timed) cut_at n s (2 ^ 64) h (λ x l. keyed-cut-is algorithm key challenge timed x none a k l) in
      record { fits = p.fits; are = p.are ∙ ap (λ (cuts : List ℕ). cuts ++ drop n out) e }

-- where several hashes are made
pub several-left : (challenge out : List ℕ) → (length challenge == 0) && nat_le 2 (length out) ≡ true → (length challenge ≤ 0) × (2 ≤ length out)
several-left challenge out t =
    let none = eqb-true (length challenge) 0 (and_left (length challenge == 0) _ t) in
    (omega arith, leb-true 2 (length out) (and_right (length challenge == 0) _ t))
