-- What the printing functions return.
use Prim.Native.Nat.{ℕ, zero, suc, ◌+◌, ◌-◌, ◌/◌, ◌%◌, ◌^◌, ◌≤◌, ◌<◌}
use Rattle.std.specs.Prelude.{◌≡◌, refl, ltb, set, take, drop, replicate}
use Rattle.std.proofs.Common.{◌∙◌, div-lt_iff_lt-mul, lt_of_lt_of_le, zero-lt-suc, add-one, lit≤, length-append, length-drop, drop-cons, drop-set-lt, get_or-set_same, take_all}
use mathlib.Core.List.{List, [], ◌∷◌, ◌++◌, append-nil}
use Rattle.std.proofs.Math.Nat.{pow-suc}
use native.Mathlib.Omega.{arith}
use borrow.Author.Tests.{lt-ltb, le-ltb, le-leb, lt-leb}
use Rattle.std.proofs.Math.ListN.{length, length-set}
use Rattle.std.proofs.Math.Seq.{append_snoc}
use Rattle.words.specs.BoolLaws.{by-test}
use Rattle.window.specs.declared.Offset.{Offset}
use Rattle.window.specs.Window.{farthest}
use Rattle.token.specs.Codes.{signed_of}
use Rattle.call_lines.specs.Line.{decimal_digits, decimal_text, signed_text}

-- ---- decimal digits

-- what the loop of `digits_of` keeps: the digits of what is left, with those that it stored, are those of x
pub record Stored (x : ℕ) (bytes : List ℕ) (start rest : ℕ) : Type 0 where
  pub size : length bytes ≡ 20
  pub within : start < 20
  pub bound : rest < 10 ^ (start + 1)
  pub whole : decimal_digits (start + 1) rest ++ drop (start + 1) bytes ≡ decimal_text x

-- the digit at start, and those behind it
behind : (bytes : List ℕ) (start d : ℕ) → start < length bytes → drop start (set bytes start d) ≡ d ∷ drop (suc start) bytes
behind bytes start d l =
    let m : start < length (set bytes start d) = rw length-set l in
    rw (drop-cons (set bytes start d) start 0 m, get_or-set_same bytes start d 0 l, drop-set-lt (suc start) bytes start d (omega arith))

pub stored-none : (x : ℕ) → x < 2 ^ 64 → Stored x (replicate 20 0) 19 x
stored-none x l =
    record { size = refl; within = omega arith; bound = lt_of_lt_of_le l (lit≤ tt); whole = append-nil (decimal_digits 20 x) }

module _ (x : ℕ) (bytes : List ℕ) where
  pub start_positive : (start rest : ℕ) → Stored x bytes start rest → 10 ≤ rest → 0 < start
  start_positive zero rest s h = let b = s.bound in absurd (omega arith)
  start_positive (suc k) rest s h = omega arith

  pub stored_more : (start rest : ℕ) → Stored x bytes start rest → 10 ≤ rest → Stored x (set bytes start (rest % 10 + 0x30)) (start - 1) (rest / 10)
  unfolding decimal_digits
  stored_more zero rest s h = absurd (omega (arith, start_positive zero rest s h))
  stored_more (suc k) rest s h =
      let w = s.within in
      let z = s.size in
      let m : suc k < length bytes = omega arith in
      let e : suc k - 1 + 1 ≡ suc k = omega arith in
      record {
        size = rw length-set z;
        within = omega arith;
        bound = rw e ((div-lt_iff_lt-mul (zero-lt-suc 9)).1 (rw (add-one (suc k), pow-suc 10 (suc k)) at s.bound));
        whole =
            rw (e, behind bytes (suc k) (rest % 10 + 0x30) m, ← append_snoc (decimal_digits (suc k) (rest / 10)) (rest % 10 + 0x30) (drop (suc (suc k)) bytes))
            (rw (add-one (suc k), le-ltb rest 10 h) at s.whole);
      }

  pub stored_last : (start rest : ℕ) → Stored x bytes start rest → rest < 10
      → take (20 - start) (drop start (set bytes start (rest + 0x30))) ≡ decimal_text x
  unfolding decimal_digits
  stored_last start rest s h =
      let m : start < length bytes = let z = s.size in let w = s.within in omega arith in
      take_all (20 - start) (drop start (set bytes start (rest + 0x30))) (rw (length-drop, length-set) (let z = s.size in omega arith))
      ∙ rw (behind bytes start (rest + 0x30) m) (rw (add-one start, lt-ltb rest 10 h) at s.whole)

-- fewer digits for a smaller number
digits-few : (n k x : ℕ) → x < 10 ^ suc k → length (decimal_digits n x) ≤ suc k
unfolding decimal_digits
digits-few zero k x l = omega arith
digits-few (suc n) zero x l = let h : x < 10 = omega arith in rw (lt-ltb x 10 h) (omega arith)
digits-few (suc n) (suc k) x l =
    let few = digits-few n k (x / 10) ((div-lt_iff_lt-mul (zero-lt-suc 9)).1 (rw (pow-suc 10 (suc k)) at l)) in
    by-test (ltb x 10)
    (λ t. rw t (omega arith))
    (λ f. rw (f, length-append (decimal_digits n (x / 10)) ((x % 10 + 0x30) ∷ [])) (omega arith))

pub decimal_few : (k x : ℕ) → x < 10 ^ suc k → length (decimal_text x) ≤ suc k
decimal_few k x l = digits-few 20 k x l

-- ---- values

pub offset-plus : (offset : Offset) → farthest ≤ offset.0 → decimal_text (offset.0 - farthest) ≡ signed_text (signed_of offset)
unfolding signed_of
offset-plus offset l = rw (le-leb farthest offset.0 l)

pub offset-minus : (offset : Offset) → offset.0 < farthest → 0x2d ∷ decimal_text (farthest - offset.0) ≡ signed_text (signed_of offset)
unfolding signed_of
offset-minus offset l = rw (lt-leb farthest offset.0 l)
