-- The candidates are exactly the steps of a computed range, possibly empty.
use Rattle.std.specs.Prelude.{ℕ, suc, ◌+◌, ◌-◌, ◌^◌, ◌≤◌, ◌<◌, ◌≡◌, refl, Bool, true, false, cond, ◌&&◌, eqb, leb, ltb}
use Rattle.std.proofs.Common.{sym, le_trans, div-le_self, arith, leb-true, ltb-true, le-leb, lt-ltb}
use Rattle.std.proofs.Math.Nat.{max-le, le-min, le-max_left, le-max_right, min-le_left, min-le_right}
use Rattle.words.specs.BoolLaws.{and_left, and_right, and_both}
use Rattle.window.specs.declared.Size.{Size}
use Rattle.window.specs.declared.Size.TheVariants.{Small, Medium, Large}
use Rattle.window.specs.declared.Track.{Track}
use Rattle.window.specs.Window.{time_token, step_at, distance, time_width, event_width, farthest, time_candidate, event_candidate, candidate, beyond, Sound}
use Rattle.window.specs.Range.{time_first, time_end, event_first, event_end, first_step, end_step}

-- two tests agree where each follows from the other
pub agree : (a b : Bool) → (a ≡ true → b ≡ true) → (b ≡ true → a ≡ true) → a ≡ b
agree true b p q = sym (p refl)
agree false true p q = q refl
agree false false p q = refl

-- numbers that lie at most w apart
near : (a b w : ℕ) → distance a b ≤ w → (a ≤ b + w) × (b ≤ a + w)
near a b w h = (omega arith, omega arith)

nearby : (a b w : ℕ) → a ≤ b + w → b ≤ a + w → distance a b ≤ w
nearby a b w p q = omega arith

-- s is in the range
first-le : (t offset w s : ℕ) → t + offset ≤ s + farthest + w → t ≤ s + farthest → time_first t offset w ≤ s
first-le t offset w s p q =
    let a : t + offset - (farthest + w) ≤ s = omega arith in
    let b : t - farthest ≤ s = omega arith in
    max-le a b

lt-end : (t offset w s : ℕ) → s + farthest ≤ t + offset + w → s ≤ t + farthest → s < time_end t offset w
lt-end t offset w s p q =
    let a : suc s ≤ t + offset + w + 1 - farthest = omega arith in
    let b : suc s ≤ t + farthest + 1 = omega arith in
    le-min a b

from_first : (t offset w s : ℕ) → time_first t offset w ≤ s → (t + offset ≤ s + farthest + w) × (t ≤ s + farthest)
from_first t offset w s h =
    let a = le_trans (le-max_left (t + offset - (farthest + w)) (t - farthest)) h in
    let b = le_trans (le-max_right (t + offset - (farthest + w)) (t - farthest)) h in
    (omega (arith, a), omega (arith, b))

from_end : (t offset w s : ℕ) → s < time_end t offset w → (s + farthest ≤ t + offset + w) × (s ≤ t + farthest)
from_end t offset w s h =
    let a = le_trans h (min-le_left (t + offset + w + 1 - farthest) (t + farthest + 1)) in
    let b = le_trans h (min-le_right (t + offset + w + 1 - farthest) (t + farthest + 1)) in
    (omega (arith, a), omega (arith, b))

time-range : (t offset w s : ℕ) → time_candidate t offset w s ≡ leb (time_first t offset w) s && ltb s (time_end t offset w)
unfolding time_candidate
time-range t offset w s =
    agree (leb (distance (s + farthest) (t + offset)) w && leb (distance s t) farthest) (leb (time_first t offset w) s && ltb s (time_end t offset w))
    (λ h.
    let p = near (s + farthest) (t + offset) w (leb-true (distance (s + farthest) (t + offset)) w (and_left _ _ h)) in
    let q = near s t farthest (leb-true (distance s t) farthest (and_right (leb (distance (s + farthest) (t + offset)) w) _ h)) in
    and_both (le-leb (time_first t offset w) s (first-le t offset w s p.1 q.1)) (lt-ltb s (time_end t offset w) (lt-end t offset w s p.0 q.0)))
    (λ h.
    let p = from_first t offset w s (leb-true (time_first t offset w) s (and_left _ _ h)) in
    let q = from_end t offset w s (ltb-true s (time_end t offset w) (and_right (leb (time_first t offset w) s) _ h)) in
    and_both (le-leb (distance (s + farthest) (t + offset)) w (nearby (s + farthest) (t + offset) w q.0 p.0))
    (le-leb (distance s t) farthest (nearby s t farthest q.1 p.1)))

event_range : (next w s : ℕ) → event_candidate next w s ≡ leb (event_first next) s && ltb s (event_end next w)
unfolding event_candidate
event_range next w s =
    agree ((leb next (s + 1) && ltb s (next + w)) && ltb s (2 ^ 32)) (leb (event_first next) s && ltb s (event_end next w))
    (λ h.
    let ab = and_left _ _ h in
    let p = leb-true next (s + 1) (and_left _ _ ab) in
    let q = ltb-true s (next + w) (and_right (leb next (s + 1)) _ ab) in
    let r = ltb-true s (2 ^ 32) (and_right (leb next (s + 1) && ltb s (next + w)) _ h) in
    and_both (le-leb (event_first next) s (omega arith)) (lt-ltb s (event_end next w) (omega arith)))
    (λ h.
    let p = leb-true (event_first next) s (and_left _ _ h) in
    let q = ltb-true s (event_end next w) (and_right (leb (event_first next) s) _ h) in
    and_both (and_both (le-leb next (s + 1) (omega arith)) (lt-ltb s (next + w) (omega arith))) (lt-ltb s (2 ^ 32) (omega arith)))

-- the law: for both kinds, every offset, every clock and every next
pub candidates_are-range : (k : Track) (clock : ℕ) (size : Size) (s : ℕ) → candidate k clock size s ≡ leb (first_step k clock size) s && ltb s (end_step k clock size)
unfolding candidate first_step end_step
candidates_are-range k clock size s = pick (eqb k.scheme.kind time_token)
  where
    pick : (b : Bool)
        → cond b (time_candidate (step_at clock k.period) k.offset.0 (time_width size) s) (event_candidate k.next.0 (event_width size) s)
        ≡ leb (cond b (time_first (step_at clock k.period) k.offset.0 (time_width size)) (event_first k.next.0)) s
        && ltb s (cond b (time_end (step_at clock k.period) k.offset.0 (time_width size)) (event_end k.next.0 (event_width size)))
    pick true = time-range (step_at clock k.period) k.offset.0 (time_width size) s
    pick false = event_range k.next.0 (event_width size) s

-- no candidate lies at or above `beyond`
pub end_below : (k : Track) (clock : ℕ) (size : Size) → end_step k clock size ≤ beyond k clock
unfolding end_step beyond
end_below k clock size = pick (eqb k.scheme.kind time_token)
  where
    pick : (b : Bool)
        → cond b (time_end (step_at clock k.period) k.offset.0 (time_width size)) (event_end k.next.0 (event_width size))
        ≤ cond b (step_at clock k.period + farthest + 1) (2 ^ 32)
    pick true = omega arith
    pick false = omega arith

-- no step of a window comes near 2^64
pub first_small : (k : Track) (clock : ℕ) (size : Size) → Sound k clock → first_step k clock size ≤ 2 ^ 41
unfolding first_step
first_small k clock size good = pick (eqb k.scheme.kind time_token)
  where
    pick : (b : Bool) → cond b (time_first (step_at clock k.period) k.offset.0 (time_width size)) (event_first k.next.0) ≤ 2 ^ 41
    pick true = omega (arith, good.timely, good.within, div-le_self clock k.period)
    pick false = omega (arith, good.counted)

-- the largest window is an event token's: the last used step, and 50
pub candidates_few : (k : Track) (clock : ℕ) (size : Size) → end_step k clock size - first_step k clock size ≤ 51
unfolding first_step end_step
candidates_few k clock size = pick (eqb k.scheme.kind time_token)
  where
    time_narrow : (size : Size) → time_width size ≤ 10
    time_narrow Small = omega arith
    time_narrow Medium = omega arith
    time_narrow Large = omega arith

    event_narrow : (size : Size) → event_width size ≤ 50
    event_narrow Small = omega arith
    event_narrow Medium = omega arith
    event_narrow Large = omega arith

    pick : (b : Bool)
        → cond b (time_end (step_at clock k.period) k.offset.0 (time_width size)) (event_end k.next.0 (event_width size))
        - cond b (time_first (step_at clock k.period) k.offset.0 (time_width size)) (event_first k.next.0) ≤ 51
    pick true = omega (arith, time_narrow size)
    pick false = omega (arith, event_narrow size)
