-- The hash of two parts: what is put together, and what is hashed where it lies.
use Rattle.std.specs.Prelude.{◌≡◌, ℕ, ◌+◌, ◌-◌, ◌*◌, ◌/◌, ◌%◌, ◌<◌, ◌≤◌, List, [], ◌++◌, length, take, drop, replicate, refl}
use Rattle.std.proofs.Math.Path.{sym, ap}
use Rattle.std.proofs.Common.{◌∙◌, append_assoc, append-nil, arith, length-append, length-take, length-drop, drop_of_length-le, take-append-drop, take_all, take_at, drop_at, drop-drop, length-take-le}
use Rattle.std.proofs.Math.Seq.{drop-append-add}
use Rattle.words.specs.Bytes.{be_bytes}
use Rattle.words.specs.ListsLaws.{drop_zeros}
use Rattle.sm3.specs.declared.Registers.{Registers}
use Rattle.sm3.specs.Sm3.{padded, iterated, iv, digest, sm3_of}
use Rattle.sm3.specs.Rounds.{last_blocks, last_value, digest_from}
use Rattle.sm3.specs.Sm3Laws.{hash_sum_of, iterated-append, digest-from_of}

-- head and then body, copied to the front of a buffer
pub join_of : (head body out : List ℕ) {n : ℕ} {copied part : List ℕ} → n ≡ length out → copied ≡ head ++ drop (length head) out
    → part ≡ body ++ drop (length body) (take (n - length head) (drop (length head) copied))
    → take (length head) copied ++ (part ++ drop (n - length head) (drop (length head) copied)) ≡ (head ++ body) ++ drop (length head + length body) out
join_of head body out {n} {copied} {part} e p q =
    let k = length head in
    let front : take k copied ≡ head = rw p (take_at head (drop k out) k refl) in
    let behind : drop k copied ≡ drop k out = rw p (drop_at head (drop k out) k refl) in
    let size : length (drop k out) ≤ n - k = rw (length-drop k out, e) (omega arith) in
    let all : take (n - k) (drop k out) ≡ drop k out = take_all (n - k) (drop k out) size in
    let none : drop (n - k) (drop k out) ≡ [] = drop_of_length-le (drop k out) size in
    let then : part ≡ body ++ drop (k + length body) out = q ∙ rw (behind, all, drop-drop (length body) k out) in
    rw (front, behind, none, then, append-nil) (sym (append_assoc head body (drop (k + length body) out)))

-- ---- the last four bytes of a digest

pub last-four : (r : Registers) (m : List ℕ) → digest r ≡ sm3_of m → be_bytes 4 r.h ≡ drop 28 (sm3_of m)
unfolding digest be_bytes
last-four r m e = ap (drop 28) e

-- parts for which two blocks have room
module _ (head body : List ℕ) {all : List ℕ} (put : all ≡ (head ++ body) ++ drop (length head + length body) (replicate 128 0)) where
  abbrev size : ℕ
  size = length head + length body

  pub zeros_behind : drop size all ≡ replicate (128 - size) 0
  zeros_behind = rw put (drop_at (head ++ body) (drop size (replicate 128 0)) size (length-append head body) ∙ drop_zeros size 128)

  pub short_hash : {blocks : ℕ} {filled : List ℕ} {start last : Registers} → length all ≡ 128 → size < 120 → blocks ≡ size / 64 + last_blocks size
      → filled ≡ padded (take size all) ++ replicate {A = ℕ} (128 - 64 * blocks) 0 → start ≡ iv → last ≡ iterated blocks filled start
      → digest last ≡ sm3_of (head ++ body)
  unfolding sm3_of last_value
  short_hash {blocks} {filled} {start} {last} l few b f s e =
      let front : take size all ≡ head ++ body = rw put (take_at (head ++ body) (drop size (replicate 128 0)) size (length-append head body)) in
      let found : last ≡ last_value (head ++ body) = rw front at (hash_sum_of all size l few b f s e) in
      ap digest found

-- others: a block of head and the front of body, then the rest of body
module _ (head body : List ℕ) (few : length head ≤ 64) (many : 64 ≤ length head + length body) where
  abbrev taken : ℕ
  taken = 64 - length head

  abbrev rest : List ℕ
  rest = take (length body - taken) (drop taken body)

  pub rest-length : length rest % 64 ≡ (length head + length body) % 64
  rest-length = rw (length-take, length-drop) (omega arith)

  pub long_hash : {first : List ℕ} {start value : Registers} (last : Registers)
      → (let front = take (taken - 0) (drop 0 body) in first ≡ (head ++ front) ++ drop (length head + length front) (replicate 64 0))
      → start ≡ iv → value ≡ iterated 1 first start → digest last ≡ digest_from value rest (length head + length body) → digest last ≡ sm3_of (head ++ body)
  long_hash {first} {start} {value} last f s v e =
      let m = head ++ body in
      let front = take taken body in
      let room : length head + length front ≡ 64 = rw (length-take-le taken body (omega arith)) (omega arith) in
      let none : taken - 0 ≡ taken = omega arith in
      let block : first ≡ head ++ front = f ∙ rw (none, room) (append-nil (head ++ front)) in
      let joined : first ++ drop taken body ≡ m = rw (block, append_assoc head front (drop taken body), take-append-drop taken body) in
      let full : 64 * 1 ≤ length first = rw (block, length-append head front, room) (omega arith) in
      let after : value ≡ iterated 1 m iv = v ∙ rw (s, ← joined) (sym (iterated-append 1 first (drop taken body) iv full)) in
      let place : length head + taken ≡ 64 = omega arith in
      let behind : rest ≡ drop (64 * 1) m =
      take_all (length body - taken) (drop taken body) (rw (length-drop taken body) (omega arith))
      ∙ sym (rw place at (drop-append-add head body taken)) in
      let long : 64 * 1 ≤ length m = rw (length-append head body) many in
      e ∙ rw (after, behind, ← length-append head body) (digest-from_of m 1 long)
