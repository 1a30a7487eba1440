-- Laws of the key schedule: a step more, its round key, and all of them.
use Rattle.std.specs.Prelude.{ℕ, suc, ◌+◌, ◌-◌, ◌≤◌, ◌<◌, ◌≡◌, List, ◌++◌, length, get_or, set, take}
use Rattle.std.proofs.Common.{sym, ◌∙◌, append-nil, add-one, arith, length-set, take-suc-set, take_all}
use Rattle.std.proofs.Math.Seq.{append_snoc}
use Rattle.sm4.specs.Sm4.{linear_key, step, steps, words_of, masked, ck, cks, keys_from, round_keys}
use Rattle.sm4.specs.Sm4Laws.{cks-at, round-key-is}
use Rattle.sm4.specs.Schedule.{Expanded}
use Rattle.sm4.specs.declared.round.Quad.{Quad}

module _ (key : List ℕ) where
  pub expanded_none : {w k : Quad} {keys : List ℕ} → length keys ≡ 32 → w ≡ words_of key → k ≡ masked w → Expanded key 0 k keys
  unfolding steps round_keys
  expanded_none l ew ek = record { words = rw (ek, ew); room = l; stored = rw (ek, ew) }

  module _ (n : ℕ) {k next : Quad} {keys : List ℕ} (x : Expanded key n k keys) (h : n < 32) (e : next ≡ step linear_key (ck n) k) where
    stepped : next ≡ steps linear_key cks (n + 1) (masked (words_of key))
    unfolding steps
    stepped = rw (add-one, cks-at n h, ← x.words) e

    -- the round key is the last word (7.3)
    pub round_key_made : get_or (round_keys key) n 0 ≡ next.d
    round_key_made = round-key-is key n h ∙ rw (← add-one n, ← stepped)

    stored_more : take (n + 1) (set keys n next.d) ++ keys_from (32 - (n + 1)) (n + 1) next ≡ take n keys ++ keys_from (32 - n) n k
    unfolding keys_from
    stored_more =
        let f : 32 - n ≡ suc (32 - suc n) = omega arith in
        let l : n < length keys = omega (arith, x.room) in
        rw (add-one, take-suc-set, f, ← e) (append_snoc (take n keys) next.d (keys_from (32 - suc n) (suc n) next))

    pub expanded_more : {after : List ℕ} {m : ℕ} → after ≡ set keys n next.d → n + 1 ≡ m → Expanded key m next after
    expanded_more ea em = rw (← em, ea) (record { words = stepped; room = rw length-set x.room; stored = stored_more ∙ x.stored })

  pub expanded_all : {n : ℕ} {k : Quad} {keys : List ℕ} → Expanded key n k keys → n ≡ 32 → keys ≡ round_keys key
  unfolding keys_from
  expanded_all {n} {k} {keys} x e =
      let l : length keys ≤ 32 = omega (arith, x.room) in
      let all : take n keys ++ keys_from (32 - n) n k ≡ keys = rw (e, take_all 32 keys l) (append-nil keys) in
      sym all ∙ x.stored
