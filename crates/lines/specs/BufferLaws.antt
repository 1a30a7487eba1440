-- What the functions on the buffers return.
use Rattle.std.specs.Prelude.{ℕ, ◌+◌, ◌-◌, ◌≤◌, ◌<◌, ◌≡◌, refl, List, ◌++◌, nat_le, length, take, drop, Some, None}
use Rattle.std.proofs.Common.{append_assoc, arith, leb-false, length-append, length-take-le, take_at}
use Rattle.words.specs.BoolLaws.{by-test, impossible}
use Rattle.words.specs.PutLaws.{put-part}
use Rattle.lines.specs.Lines.{kept, Put}

-- ---- the output

-- a text was copied into the part of the output that is as long
pub text-put : (s : List ℕ) (at : ℕ) (b : List ℕ) {part : List ℕ} → at + length b ≤ length s
    → part ≡ b ++ drop (length b) (take (at + length b - at) (drop at s))
    → Put s at b (take at s ++ (part ++ drop (at + length b - at) (drop at s))) (at + length b)
text-put s at b h e =
    let l : length (take at s ++ b) ≡ at + length b = rw (length-append, length-take-le at s (omega arith)) in
    record {
      place = refl;
      front = rw (put-part s at b h e, ← append_assoc (take at s) b (drop (at + length b) s)) (take_at (take at s ++ b) (drop (at + length b) s) (at + length b) l);
    }

-- one text behind the other
pub put_join : {s middle after a b : List ℕ} {at end last : ℕ} → Put s at a middle end → Put middle end b after last → Put s at (a ++ b) after last
put_join {s} {middle} {after} {a} {b} {at} f g =
    record {
      place = rw length-append (omega (arith, f.place, g.place));
      front = rw (g.front, f.front, append_assoc (take at s) a b);
    }

-- ---- the pending line

-- what is kept is the line
pub kept-line : (n : ℕ) {line : List ℕ} (p : List ℕ) → Some line ≡ kept n p → line ≡ p
kept-line n {line} p held =
    by-test (nat_le (length p) n)
    (λ t. let e : Some line ≡ Some p = rw t at held in cc)
    (λ f. let z : Some line ≡ None = rw f at held in impossible (cc))

-- what is not kept is longer
pub kept-long : (n : ℕ) (p : List ℕ) → None ≡ kept n p → n < length p
kept-long n p held =
    by-test (nat_le (length p) n)
    (λ t. let z : None ≡ Some p = rw t at held in impossible (cc))
    (λ f. leb-false (length p) n f)
