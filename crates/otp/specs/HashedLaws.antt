-- Laws of the SM3 way (6.2.2): key and ID laid into a buffer of zeros, and the cut of their hash.
use Rattle.std.specs.Prelude.{◌≡◌, ℕ, ◌+◌, ◌-◌, ◌%◌, ◌^◌, ◌<◌, ◌≤◌, max, List, ◌++◌, length, take, drop, replicate}
use Rattle.std.proofs.Common.{sym, ◌∙◌, append_assoc, zero-add, arith, take_at, drop_at}
use Rattle.std.proofs.Math.ListN.{length-append}
use Rattle.std.proofs.lemmas.List.{length-replicate, replicate-append-replicate}
use Rattle.words.specs.Bytes.{be_at, be_bytes, put}
use Rattle.words.specs.PutLaws.{put_on}
use Rattle.sm3.specs.Sm3.{digest, sm3_of}
use Rattle.sm3.specs.Rounds.{last_value, word_total}
use Rattle.sm3.specs.declared.Registers.{Registers}
use Rattle.otp.specs.Password.{filled, word_sum, cut}
use Rattle.otp.specs.ChainLaws.{zeros_laid}

-- the word of four bytes
word_of : (x : ℕ) → be_at 4 (be_bytes 4 x) 0 ≡ x % 2 ^ 32
unfolding be_at be_bytes
word_of x = omega arith

-- a sum p that stands for x, with one word more
word_more : (p x y : ℕ) → p % 2 ^ 32 ≡ x % 2 ^ 32 → (p + y % 2 ^ 32) % 2 ^ 32 ≡ (x + y) % 2 ^ 32
word_more p x y e = omega arith

mod-mod : (x : ℕ) → x % 2 ^ 32 % 2 ^ 32 ≡ x % 2 ^ 32
mod-mod x = omega arith

-- the cut of a digest is the sum of its words
cut-digest : (r : Registers) → cut (digest r) ≡ word_total r
unfolding cut word_sum digest be_at be_bytes
cut-digest r =
    let a : be_at 4 (digest r) 0 ≡ r.a % 2 ^ 32 = word_of r.a in
    let b : be_at 4 (digest r) 4 ≡ r.b % 2 ^ 32 = word_of r.b in
    let c : be_at 4 (digest r) 8 ≡ r.c % 2 ^ 32 = word_of r.c in
    let d : be_at 4 (digest r) 12 ≡ r.d % 2 ^ 32 = word_of r.d in
    let e : be_at 4 (digest r) 16 ≡ r.e % 2 ^ 32 = word_of r.e in
    let f : be_at 4 (digest r) 20 ≡ r.f % 2 ^ 32 = word_of r.f in
    let g : be_at 4 (digest r) 24 ≡ r.g % 2 ^ 32 = word_of r.g in
    let h : be_at 4 (digest r) 28 ≡ r.h % 2 ^ 32 = word_of r.h in
    let two = r.a % 2 ^ 32 + r.b % 2 ^ 32 in
    let three = two + r.c % 2 ^ 32 in
    let four = three + r.d % 2 ^ 32 in
    let five = four + r.e % 2 ^ 32 in
    let six = five + r.f % 2 ^ 32 in
    let second = word_more (r.a % 2 ^ 32) r.a r.b (mod-mod r.a) in
    let third = word_more two (r.a + r.b) r.c second in
    let fourth = word_more three (r.a + r.b + r.c) r.d third in
    let fifth = word_more four (r.a + r.b + r.c + r.d) r.e fourth in
    let sixth = word_more five (r.a + r.b + r.c + r.d + r.e) r.f fifth in
    let seventh = word_more six (r.a + r.b + r.c + r.d + r.e + r.f) r.g sixth in
    rw (zero-add, a, b, c, d, e, f, g, h) (word_more (six + r.g % 2 ^ 32) (r.a + r.b + r.c + r.d + r.e + r.f + r.g) r.h seventh)

pub cut_hash : (m : List ℕ) → cut (sm3_of m) ≡ word_total (last_value m)
unfolding sm3_of last_value
cut_hash m = cut-digest (last_value m)

-- key and ID laid into zeros: the message up to the end of the filled ID, then zeros
module _ (key id : List ℕ) {first all : List ℕ} {at end : ℕ} (k : length key ≤ 32) (l : length id ≤ 44) (a : at ≡ 0 + length key)
    (f : first ≡ put (replicate 128 0) 0 key) (e : end ≡ at + max 16 (length id)) (p : all ≡ put first at id) where
  message-length : length (key ++ filled id) ≡ end
  unfolding filled
  message-length = rw (length-append, length-append, length-replicate) (omega arith)

  laid : all ≡ (key ++ filled id) ++ replicate (128 - end) 0
  unfolding filled
  laid =
      let z = replicate {A = ℕ} 128 0 in
      let both : all ≡ (key ++ id) ++ replicate (128 - length (key ++ id)) 0 =
      p ∙ rw (f, a) (put_on z 0 key id (rw (length-replicate 128) (omega arith)) ∙ zeros_laid 128 (key ++ id) (rw length-append (omega arith))) in
      let parts : replicate {A = ℕ} (128 - length (key ++ id)) 0 ≡ replicate (16 - length id) 0 ++ replicate (128 - end) 0 =
      (let n : 128 - length (key ++ id) ≡ (16 - length id) + (128 - end) = rw length-append (omega arith) in
      rw n (sym (replicate-append-replicate (16 - length id) (128 - end) 0))) in
      both ∙ rw parts (simp append_assoc)

  pub laid-room : end < 120
  laid-room = omega arith

  pub laid-behind : drop end all ≡ replicate (128 - end) 0
  laid-behind = rw laid (drop_at (key ++ filled id) (replicate (128 - end) 0) end message-length)

  pub laid-message : take end all ≡ key ++ filled id
  laid-message = rw laid (take_at (key ++ filled id) (replicate (128 - end) 0) end message-length)

  pub hashed_of : {r : ℕ} → r ≡ word_total (last_value (take end all)) → r ≡ cut (sm3_of (key ++ filled id))
  hashed_of h = h ∙ rw laid-message (sym (cut_hash (key ++ filled id)))
