-- Laws of SM3's padding, in the form in which the code needs them.
use Rattle.std.specs.Prelude.{◌≡◌, ℕ, suc, ◌+◌, ◌-◌, ◌*◌, ◌/◌, ◌%◌, ◌<◌, ◌≤◌, Bool, true, false, cond, List, ◌∷◌, ◌++◌, length, drop, replicate, nat_lt, slice_set, refl}
use Rattle.std.proofs.Common.{◌∙◌, append_assoc, arith, lt-ltb, le-ltb, ltb-true, ltb-false, length-append}
use Rattle.std.proofs.lemmas.List.{length-replicate, replicate-append-replicate, set_at, drop-append-le}
use Rattle.words.specs.ListsLaws.{drop_zeros}
use Rattle.words.specs.BoolLaws.{by-test}
use Rattle.words.specs.Bytes.{be_bytes, put_be}
use Rattle.words.specs.BytesLaws.{length-be_bytes, put_be_seam}
use Rattle.sm3.specs.Sm3.{zeros_after, padded}
use Rattle.sm3.specs.Rounds.{last_blocks, ended}

pub last_blocks_one : (l : ℕ) → l % 64 < 56 → 1 ≡ last_blocks l
unfolding last_blocks
last_blocks_one l h = rw (lt-ltb (l % 64) 56 h)

pub last_blocks_two : (l : ℕ) → 56 ≤ l % 64 → 2 ≡ last_blocks l
unfolding last_blocks
last_blocks_two l h = rw (le-ltb (l % 64) 56 h)

-- the last blocks hold the rest of the message, the byte 80, the zeros and the length
pub last_blocks_fill : (l : ℕ) → l % 64 + 9 + zeros_after l ≡ 64 * last_blocks l
unfolding last_blocks zeros_after
last_blocks_fill l =
    by-test (nat_lt (l % 64) 56)
    (λ t. let h : l % 64 < 56 = ltb-true (l % 64) 56 t in rw t (omega arith))
    (λ t. let h : 56 ≤ l % 64 = ltb-false (l % 64) 56 t in rw t (omega arith))

pub last_blocks_fit : (l : ℕ) → 64 * last_blocks l ≤ 128
unfolding last_blocks
last_blocks_fit l = bound (nat_lt (l % 64) 56)
  where
    bound : (b : Bool) → 64 * cond b 1 2 ≤ 128
    bound true = omega arith
    bound false = omega arith

-- the buffer with the rest of the message, the byte 80 and the length stored
end-filled : (src : List ℕ) (r z n x : ℕ) → length src ≡ r → r + 9 + z ≡ n → n ≤ 128
    → put_be 8 (slice_set (src ++ replicate (128 - r) 0) r 0x80) (n - 8) x
    ≡ (src ++ (0x80 ∷ (replicate z 0 ++ be_bytes 8 x))) ++ replicate {A = ℕ} (128 - n) 0
end-filled src r z n x l e f =
    let zeros : replicate {A = ℕ} (128 - r) 0 ≡ 0 ∷ (replicate z 0 ++ (replicate 8 0 ++ replicate (128 - n) 0)) =
    (let k : 128 - r ≡ suc (z + (8 + (128 - n))) = omega arith in
    rw (k, replicate-append-replicate 8 (128 - n), replicate-append-replicate z (8 + (128 - n)))) in
    let stored : slice_set (src ++ replicate (128 - r) 0) r 0x80 ≡ (src ++ (0x80 ∷ replicate z 0)) ++ (replicate 8 0 ++ replicate (128 - n) 0) =
    rw (zeros, set_at src 0 (replicate z 0 ++ (replicate 8 0 ++ replicate (128 - n) 0)) 0x80 r l, append_assoc src (0x80 ∷ replicate z 0)) in
    let place : length (src ++ (0x80 ∷ replicate z 0)) ≡ n - 8 = rw (length-append, l, length-replicate z) (omega arith) in
    rw stored
    (put_be_seam 8 (src ++ (0x80 ∷ replicate z 0)) (replicate 8 0) (replicate (128 - n) 0) (n - 8) x place refl
    ∙ simp append_assoc)

-- what stands after the whole blocks of the padded message
pub padded-rest : (m : List ℕ) → drop (64 * (length m / 64)) (padded m) ≡ ended (drop (64 * (length m / 64)) m) (length m)
unfolding padded ended
padded-rest m = drop-append-le (64 * (length m / 64)) m (0x80 ∷ (replicate (zeros_after (length m)) 0 ++ be_bytes 8 (8 * length m))) (omega arith)

-- what the code does with its buffer: the tail copied over zeros, the byte 80, the length
pub end_of : (tail : List ℕ) (l blocks : ℕ) {copied end : List ℕ} → length tail ≡ l % 64 → blocks ≡ last_blocks l
    → copied ≡ tail ++ drop (length tail) (replicate 128 0)
    → end ≡ put_be 8 (slice_set copied (length tail) 0x80) (64 * blocks - 8) (8 * l)
    → end ≡ ended tail l ++ replicate {A = ℕ} (128 - 64 * blocks) 0
unfolding ended
end_of tail l blocks {copied} e b p q =
    let fill : length tail + 9 + zeros_after l ≡ 64 * blocks = rw (e, b) (last_blocks_fill l) in
    let room : 64 * blocks ≤ 128 = rw b (last_blocks_fit l) in
    let copy : copied ≡ tail ++ replicate (128 - length tail) 0 = rw (p, drop_zeros (length tail) 128) in
    rw (q, copy) (end-filled tail (length tail) (zeros_after l) (64 * blocks) (8 * l) refl fill room)

pub length-ended : (tail : List ℕ) (l : ℕ) → length tail ≡ l % 64 → length (ended tail l) ≡ 64 * last_blocks l
unfolding ended
length-ended tail l e =
    let fill : l % 64 + 9 + zeros_after l ≡ 64 * last_blocks l = last_blocks_fill l in
    rw (length-append, length-append, length-replicate, length-be_bytes) (omega arith)
