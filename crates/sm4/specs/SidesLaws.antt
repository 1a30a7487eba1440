-- A block's rounds beside the key schedule: each round takes the key as soon as it is made.
use Rattle.std.specs.Prelude.{ℕ, zero, suc, ◌+◌, ◌≤◌, ◌<◌, ◌≡◌, refl, List, get_or, set}
use Rattle.std.proofs.Common.{add-one, arith}
use Rattle.sm4.specs.Sm4.{linear, linear_key, step, steps, words_of, masked, ck, cks, round_keys}
use Rattle.sm4.specs.Sm4Laws.{round-key-is}
use Rattle.sm4.specs.Schedule.{Expanded}
use Rattle.sm4.specs.ScheduleLaws.{round_key_made, expanded_more}
use Rattle.sm4.specs.Sides.{side_steps}
use Rattle.sm4.specs.declared.round.Quad.{Quad}

-- side by side they are the key schedule, and the rounds with its keys
pub sides_are : (key : List ℕ) (x : Quad) (n : ℕ) → n ≤ 32
    → side_steps n (record { key = masked (words_of key); state = x })
    ≡ record { key = steps linear_key cks n (masked (words_of key)); state = steps linear (round_keys key) n x }
unfolding side_steps steps
sides_are key x zero h = refl
sides_are key x (suc n) h =
    let k : get_or (round_keys key) n 0 ≡ (step linear_key (get_or cks n 0) (steps linear_key cks n (masked (words_of key)))).d = round-key-is key n h in
    rw (sides_are key x n (omega arith), k)

-- a step of both, in the code
pub sides_more : (key : List ℕ) (block : Quad) (n : ℕ) {k next q r : Quad} {keys after : List ℕ} {m : ℕ}
    → Expanded key n k keys × (q ≡ steps linear (round_keys key) n block) → n < 32 → next ≡ step linear_key (ck n) k → after ≡ set keys n next.d
    → r ≡ step linear next.d q → n + 1 ≡ m → Expanded key m next after × (r ≡ steps linear (round_keys key) m block)
unfolding steps
sides_more key block n x h e ea er em =
    (expanded_more key n x.0 h e ea em, rw (← em, add-one, round_key_made key n x.0 h e, ← x.1) er)
