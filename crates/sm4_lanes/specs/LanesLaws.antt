-- Laws of several blocks: a step of each is a step more for each.
use Rattle.std.specs.Prelude.{ℕ, ◌≡◌, ◌+◌, ◌<◌, List, ◌++◌, length, get_or, set, take, drop, map}
use Rattle.std.proofs.Common.{sym, add-one, arith, length-append, length-drop}
use Rattle.std.proofs.Math.Seq.{length-take-le}
use Rattle.std.proofs.lemmas.List.{map-id, length-map, get_or_default}
use Rattle.std.proofs.lemmas.List.Edits.{map_over_more}
use Rattle.std.proofs.lemmas.Simd.{map-map}
use Rattle.sm4.specs.Sm4.{linear, linear_key, step, steps, ck, round_keys}
use Rattle.sm4.specs.Schedule.{Expanded}
use Rattle.sm4.specs.ScheduleLaws.{round_key_made, expanded_more}
use Rattle.sm4.specs.declared.round.Quad.{Quad}

-- ---- a loop that takes each block through a step

pub map_at : (f : Quad → Quad) (blocks s : List Quad) (l : ℕ) (d : Quad) {q : Quad} → l < length blocks → s ≡ map f (take l blocks) ++ drop l blocks
    → q ≡ f (get_or s l d) → set s l q ≡ map f (take (l + 1) blocks) ++ drop (l + 1) blocks
map_at f blocks s l d h e eq =
    let long : l < length s = rw (e, length-append, length-map, length-drop) (omega (arith, length-take-le l blocks (omega arith))) in
    rw eq (map_over_more f blocks s l (get_or s l d) h e (get_or_default s l d (get_or s l d) long))

-- ---- under round keys that are stored

module _ (ks : List ℕ) (blocks : List Quad) where
  pub each_none : blocks ≡ map (steps linear ks 0) blocks
  unfolding steps
  each_none = sym (map-id blocks)

  pub each_more : (n : ℕ) {s t : List Quad} {m : ℕ} → s ≡ map (steps linear ks n) blocks → t ≡ map (step linear (get_or ks n 0)) s → n + 1 ≡ m
      → t ≡ map (steps linear ks m) blocks
  unfolding steps
  each_more n es et em = rw (← em, add-one, et, es) (map-map (step linear (get_or ks n 0)) (steps linear ks n) blocks)

-- ---- under a fresh key

-- a step of the key schedule, and of each block with the key that it gives
pub fresh_more : (key : List ℕ) (blocks : List Quad) (n : ℕ) {k next : Quad} {s t : List Quad} {keys after : List ℕ} {m : ℕ}
    → Expanded key n k keys × (s ≡ map (steps linear (round_keys key) n) blocks) → n < 32 → next ≡ step linear_key (ck n) k → after ≡ set keys n next.d
    → t ≡ map (step linear next.d) s → n + 1 ≡ m → Expanded key m next after × (t ≡ map (steps linear (round_keys key) m) blocks)
fresh_more key blocks n x h e ea et em =
    (expanded_more key n x.0 h e ea em, each_more (round_keys key) blocks n x.1 (rw (round_key_made key n x.0 h e) et) em)
