-- Laws of a part put over a list.
use Rattle.std.specs.Prelude.{ℕ, ◌+◌, ◌-◌, ◌≤◌, ◌<◌, ◌≡◌, ◌⊎◌, List, [], ◌∷◌, ◌++◌, length, get_or, set, take, drop}
use Rattle.std.proofs.Common.{sym, ap, subst, ◌∙◌, inl, inr, append_assoc, append-nil, add-zero, add-one, arith, length-append, length-drop, take-append-drop, drop_of_length-le, length-take-le, take_at, drop_at, drop-drop, get_or-take, get_or-drop, get_or-append-add}
use Rattle.std.proofs.Math.ListN.{get_or-append}
use Rattle.std.proofs.lemmas.List.{set_split}
use Rattle.words.specs.Bytes.{put}

pub put_nothing : (s : List ℕ) (at : ℕ) → s ≡ put s at []
put_nothing s at = rw add-zero (sym (take-append-drop at s))

pub put-length : (s : List ℕ) (at : ℕ) (b : List ℕ) → at + length b ≤ length s → length (put s at b) ≡ length s
put-length s at b h = rw (length-append, length-take-le at s (omega arith), length-append, length-drop) (omega arith)

-- what is put behind another part
pub put_on : (s : List ℕ) (at : ℕ) (a b : List ℕ) → at + length a ≤ length s → put (put s at a) (at + length a) b ≡ put s at (a ++ b)
put_on s at a b h =
    let l : length (take at s ++ a) ≡ at + length a = rw (length-append, length-take-le at s (omega arith)) in
    let whole : put s at a ≡ (take at s ++ a) ++ drop (at + length a) s = sym (append_assoc (take at s) a (drop (at + length a) s)) in
    let front : take (at + length a) (put s at a) ≡ take at s ++ a = rw whole (take_at (take at s ++ a) (drop (at + length a) s) (at + length a) l) in
    let back : drop (at + length a + length b) (put s at a) ≡ drop (at + length (a ++ b)) s =
    (let e : at + length (a ++ b) ≡ at + length a + length b = rw length-append (omega arith) in
    rw (e, ← drop-drop (length b) (at + length a) (put s at a), whole, drop_at (take at s ++ a) (drop (at + length a) s) (at + length a) l)
    (drop-drop (length b) (at + length a) s)) in
    rw (front, back) (simp append_assoc)

-- a part of a lent buffer, copied over and given back
pub put-part : (s : List ℕ) (at : ℕ) (b : List ℕ) {part : List ℕ} → at + length b ≤ length s
    → part ≡ b ++ drop (length b) (take (at + length b - at) (drop at s))
    → take at s ++ (part ++ drop (at + length b - at) (drop at s)) ≡ put s at b
put-part s at b h e =
    let n : at + length b - at ≡ length b = omega arith in
    let l : length (take (length b) (drop at s)) ≡ length b = length-take-le (length b) (drop at s) (rw length-drop (omega arith)) in
    let m : length (take (length b) (drop at s)) ≤ length b = omega arith in
    rw (e, n, drop_of_length-le (take (length b) (drop at s)) m, drop-drop (length b) at s, append-nil b)

pub set-put : (s : List ℕ) (at x : ℕ) → at < length s → set s at x ≡ put s at (x ∷ [])
set-put s at x h = set_split s at x h ∙ rw (add-one at)

-- a part put elsewhere leaves an element
pub get_or-put : (s : List ℕ) (at : ℕ) (b : List ℕ) (i : ℕ) → at + length b ≤ length s → (i < at) ⊎ (at + length b ≤ i) → get_or (put s at b) i 0 ≡ get_or s i 0
get_or-put s at b i h (inl l) =
    let n : length (take at s) ≡ at = length-take-le at s (omega arith) in
    get_or-append (take at s) (b ++ drop (at + length b) s) 0 i (omega arith) ∙ get_or-take at s i 0 l
get_or-put s at b i h (inr l) =
    let front = take at s ++ b in
    let rest = drop (at + length b) s in
    let n : length front ≡ at + length b = rw (length-append, length-take-le at s (omega arith)) in
    let e : i ≡ length front + (i - (at + length b)) = omega arith in
    let f : at + length b + (i - (at + length b)) ≡ i = omega arith in
    ap (λ (t : List ℕ). get_or t i 0) (sym (append_assoc (take at s) b rest))
    ∙ ap (λ (k : ℕ). get_or (front ++ rest) k 0) e
    ∙ get_or-append-add front rest (i - (at + length b)) 0
    ∙ get_or-drop (at + length b) s (i - (at + length b)) 0
    ∙ ap (λ (k : ℕ). get_or s k 0) f

-- ---- two parts, one after the other

-- a part put where as many elements stand between two lists
put_seam : (p q t : List ℕ) (at : ℕ) (b : List ℕ) → length p ≡ at → length q ≡ length b → put (p ++ (q ++ t)) at b ≡ p ++ (b ++ t)
put_seam p q t at b l m = rw (take_at p (q ++ t) at l, ← drop-drop (length b) at (p ++ (q ++ t)), drop_at p (q ++ t) at l, drop_at q t (length b) m)

-- a part put over one of the same length
pub put-over : (s : List ℕ) (at : ℕ) (a b : List ℕ) → length a ≡ length b → at + length a ≤ length s → put (put s at a) at b ≡ put s at b
put-over s at a b e h = put_seam (take at s) a (drop (at + length a) s) at b (length-take-le at s (omega arith)) e ∙ rw e

put-fourth : (p q r y t : List ℕ) (at : ℕ) (b : List ℕ) → length p + length q + length r ≡ at → length y ≡ length b
    → put (p ++ (q ++ (r ++ (y ++ t)))) at b ≡ p ++ (q ++ (r ++ (b ++ t)))
put-fourth p q r y t at b l m =
    let f : length ((p ++ q) ++ r) ≡ at = rw (length-append, length-append) l in
    let e : (u : List ℕ) → p ++ (q ++ (r ++ u)) ≡ ((p ++ q) ++ r) ++ u = λ u. simp append_assoc in
    rw (e (y ++ t), e (b ++ t)) (put_seam ((p ++ q) ++ r) y t at b f m)

-- a list in five parts, of which the second and the fourth are replaced in either order
put_parts : (p x m y t : List ℕ) (at by : ℕ) (a b : List ℕ) → length p ≡ at → length x ≡ length a → at + length a + length m ≡ by → length y ≡ length b
    → put (put (p ++ (x ++ (m ++ (y ++ t)))) at a) by b ≡ put (put (p ++ (x ++ (m ++ (y ++ t)))) by b) at a
put_parts p x m y t at by a b lp lx lm ly =
    rw (
      put_seam p x (m ++ (y ++ t)) at a lp lx,
      put-fourth p a m y t by b (omega arith) ly,
      put-fourth p x m y t by b (omega arith) ly,
      put_seam p x (m ++ (b ++ t)) at a lp lx,
    )

five_parts : (s : List ℕ) (i j k l : ℕ) → s ≡ take i s ++ (take j (drop i s) ++ (take k (drop (i + j) s) ++ (take l (drop (i + j + k) s) ++ drop (i + j + k + l) s)))
five_parts s i j k l =
    rw (
      ← drop-drop l (i + j + k) s,
      take-append-drop l (drop (i + j + k) s),
      ← drop-drop k (i + j) s,
      take-append-drop k (drop (i + j) s),
      ← drop-drop j i s,
      take-append-drop j (drop i s),
    )
    (sym (take-append-drop i s))

-- parts that lie apart are put in either order
pub put-apart : (s : List ℕ) (at by : ℕ) (a b : List ℕ) → at + length a ≤ by → by + length b ≤ length s → put (put s at a) by b ≡ put (put s by b) at a
put-apart s at by a b l h =
    let between = by - (at + length a) in
    let part : ℕ → ℕ → List ℕ = λ j k. take k (drop j s) in
    let long : (j k : ℕ) → j + k ≤ length s → length (part j k) ≡ k = λ j k r. length-take-le k (drop j s) (rw length-drop (omega arith)) in
    let n : at + length a + length (part (at + length a) between) ≡ by = omega (arith, long (at + length a) between (omega arith)) in
    subst (λ (z : List ℕ). put (put z at a) by b ≡ put (put z by b) at a) (sym (five_parts s at (length a) between (length b)))
    (put_parts (take at s) (part at (length a)) (part (at + length a) between) (part (at + length a + between) (length b)) (drop (at + length a + between + length b) s)
    at by a b (length-take-le at s (omega arith)) (long at (length a) (omega arith)) n (long (at + length a + between) (length b) (omega arith)))
