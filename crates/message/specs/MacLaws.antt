-- The MAC: over the header without it, then the body.
use Rattle.std.specs.Prelude.{ℕ, ◌-◌, ◌≤◌, ◌≡◌, Bool, true, false, not, List, ◌++◌, length, get_or, take, drop}
use Rattle.std.proofs.Common.{◌∙◌, arith, length-append, length-drop, take_all}
use borrow.Author.Tests.{not-true, not-false}
use Rattle.words.specs.Bytes.{be_bytes, put_be, put}
use Rattle.words.specs.BytesLaws.{length-be_bytes, put_be-put}
use Rattle.words.specs.Lists.{same_bytes}
use Rattle.sm3.specs.Sm3.{digest, sm3_of}
use Rattle.message.specs.Message.{marked, without_mac, mac_fits}

pub length-digest : (m : List ℕ) → length (sm3_of m) ≡ 32
unfolding sm3_of digest
length-digest m = simp (length-append, length-be_bytes)

-- the body is all behind the header
without_is : (s : List ℕ) → take (21 - 0) (drop 0 s) ++ take (length s - 25) (drop 25 s) ≡ without_mac s
without_is s =
    let body : take (length s - 25) (drop 25 s) ≡ drop 25 s = take_all (length s - 25) (drop 25 s) (rw length-drop (omega arith)) in
    rw body

module _ (s : List ℕ) where
  module _ {b : Bool} (mark : b ≡ marked (get_or s 1 0)) where
    pub mac_unmarked : not b ≡ true → true ≡ mac_fits s
    unfolding mac_fits
    mac_unmarked n = rw (← mark, not-true b n)

    pub mac_marked : {digest : List ℕ} {r : Bool} → not b ≡ false
        → digest ≡ sm3_of (take (21 - 0) (drop 0 s) ++ take (length s - 25) (drop 25 s)) → r ≡ same_bytes (take (25 - 21) (drop 21 s)) (take (32 - 28) (drop 28 digest))
        → r ≡ mac_fits s
    unfolding mac_fits
    mac_marked {digest} n e p =
        let made : digest ≡ sm3_of (without_mac s) = rw (without_is s) at e in
        let last : take (32 - 28) (drop 28 digest) ≡ drop 28 digest = take_all 4 (drop 28 digest) (rw (length-drop, made, length-digest (without_mac s)) (omega arith)) in
        p ∙ rw (last, made, ← mark, not-false b n)

  pub mac_laid : (word : ℕ) {after : List ℕ} → be_bytes 4 word ≡ drop 28 (sm3_of (take (21 - 0) (drop 0 s) ++ take (length s - 25) (drop 25 s))) → 25 ≤ length s
      → after ≡ put_be 4 s 21 word → after ≡ put s 21 (drop 28 (sm3_of (without_mac s)))
  mac_laid word e room p = p ∙ put_be-put 4 s 21 word room ∙ rw (e, without_is s)
