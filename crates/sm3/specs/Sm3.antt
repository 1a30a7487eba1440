-- The hash SM3, in the order of GB/T 32905-2016. Words are 32 bits wide, and their sums drop the carry (document 01, Part 1).
use Rattle.std.specs.Prelude.{ℕ, zero, suc, Result, Ok, Err, ◌+◌, ◌-◌, ◌*◌, ◌/◌, ◌%◌, ◌^◌, cond, List, [], ◌∷◌, ◌++◌, length, replicate, bit_and, bit_or, nat_lt, slice_index, slice_index_or}
use Rattle.words.specs.Bytes.{be_at, be_bytes}
use Rattle.words.specs.declared.codes.BadArgument.{BadArgument}
use Rattle.words.specs.Words.{◌⊕◌, ◌⊞◌, ◌⋘◌}
use Rattle.sm3.specs.declared.Registers.{Registers}

-- ---- 4 Constants and functions

-- 4.1 the initial value IV
abbrev pub iv : Registers
iv =
    record {
      a = 0x7380166f;
      b = 0x4914b2b9;
      c = 0x172442d7;
      d = 0xda8a0600;
      e = 0xa96f30bc;
      f = 0x163138aa;
      g = 0xe38dee4d;
      h = 0xb0fb0e4e;
    }

-- 4.2 the constant T of round j
abbrev pub constant : ℕ → ℕ
constant j = cond (nat_lt j 16) 0x79cc4519 0x7a879d8a

-- 4.3 the Boolean functions FF and GG of round j
abbrev pub parity : ℕ → ℕ → ℕ → ℕ
parity x y z = x ⊕ y ⊕ z

abbrev pub majority : ℕ → ℕ → ℕ → ℕ
majority x y z = bit_or (bit_or (bit_and x y) (bit_and x z)) (bit_and y z)

abbrev pub choice : ℕ → ℕ → ℕ → ℕ
choice x y z = bit_or (bit_and x y) (bit_and (2 ^ 32 - 1 - x) z)

unfoldable pub ff : ℕ → ℕ → ℕ → ℕ → ℕ
ff j x y z = cond (nat_lt j 16) (parity x y z) (majority x y z)

unfoldable pub gg : ℕ → ℕ → ℕ → ℕ → ℕ
gg j x y z = cond (nat_lt j 16) (parity x y z) (choice x y z)

-- 4.4 the permutations P0 and P1
abbrev pub p0 : ℕ → ℕ
p0 x = x ⊕ (x ⋘ 9) ⊕ (x ⋘ 17)

abbrev pub p1 : ℕ → ℕ
p1 x = x ⊕ (x ⋘ 15) ⊕ (x ⋘ 23)

-- ---- 5 The algorithm

-- 5.2 padding: after l bytes and the byte 80, the fewest zero bytes that leave 8 bytes of a block of 64 for the length
unfoldable pub zeros_after : ℕ → ℕ
zeros_after l = (119 - l % 64) % 64

-- the message, the bit 1, zeros, and the message's length in bits as 64 bits
unfoldable pub padded : List ℕ → List ℕ
padded m = m ++ (0x80 ∷ (replicate (zeros_after (length m)) 0 ++ be_bytes 8 (8 * length m)))

-- 5.3.2 message expansion: n words from the place at on, and W_j from those before it
unfoldable pub words_at : ℕ → List ℕ → ℕ → List ℕ
words_at zero s at = []
words_at (suc n) s at = words_at n s at ++ (be_at 4 s (at + 4 * n) ∷ [])

unfoldable pub next_word : List ℕ → ℕ → ℕ
next_word w j =
    p1 (slice_index_or w (j - 16) 0 ⊕ slice_index_or w (j - 9) 0 ⊕ (slice_index_or w (j - 3) 0 ⋘ 15)) ⊕ (slice_index_or w (j - 13) 0 ⋘ 7) ⊕ slice_index_or w (j - 6) 0

-- n words more after a block's sixteen
unfoldable pub expand : ℕ → List ℕ → List ℕ
expand zero b = b
expand (suc n) b = let w = expand n b in w ++ (next_word w (16 + n) ∷ [])

-- 5.3.3 compression: a round with FF, GG, the constant rotated, W_j and W'_j
unfoldable pub round_with : ℕ → ℕ → ℕ → ℕ → ℕ → Registers → Registers
round_with ff gg t w w' r =
    let rotated = r.a ⋘ 12 in
    let ss1 = (rotated ⊞ r.e ⊞ t) ⋘ 7 in
    let ss2 = ss1 ⊕ rotated in
    let tt1 = ff ⊞ r.d ⊞ ss2 ⊞ w' in
    let tt2 = gg ⊞ r.h ⊞ ss1 ⊞ w in
    record {
      a = tt1;
      b = r.a;
      c = r.b ⋘ 9;
      d = r.c;
      e = p0 tt2;
      f = r.e;
      g = r.f ⋘ 19;
      h = r.g;
    }

-- round j with the words W_0 .. W_67; W'_j = W_j ⊕ W_j+4
unfoldable pub round : ℕ → List ℕ → Registers → Registers
round j w r =
    round_with
    (ff j r.a r.b r.c)
    (gg j r.e r.f r.g)
    (constant j ⋘ (j % 32))
    (slice_index w j)
    (slice_index_or w j 0 ⊕ slice_index_or w (j + 4) 0)
    r

-- the first j rounds
unfoldable pub rounds : ℕ → List ℕ → Registers → Registers
rounds zero w r = r
rounds (suc j) w r = round j w (rounds j w r)

abbrev pub xored : Registers → Registers → Registers
xored r v =
    record {
      a = r.a ⊕ v.a;
      b = r.b ⊕ v.b;
      c = r.c ⊕ v.c;
      d = r.d ⊕ v.d;
      e = r.e ⊕ v.e;
      f = r.f ⊕ v.f;
      g = r.g ⊕ v.g;
      h = r.h ⊕ v.h;
    }

-- the compression function CF on the value V and a block's sixteen words
unfoldable pub compressed : Registers → List ℕ → Registers
compressed v block = xored (rounds 64 (expand 52 block) v) v

-- 5.3.1 iteration over the first n blocks of s
unfoldable pub iterated : ℕ → List ℕ → Registers → Registers
iterated zero s v = v
iterated (suc i) s v = compressed (iterated i s v) (words_at 16 s (64 * i))

-- 5.4 the hash value: the eight registers in bytes
unfoldable pub digest : Registers → List ℕ
digest r =
    be_bytes 4 r.a
    ++ (be_bytes 4 r.b
    ++ (be_bytes 4 r.c
    ++ (be_bytes 4 r.d ++ (be_bytes 4 r.e ++ (be_bytes 4 r.f ++ (be_bytes 4 r.g ++ be_bytes 4 r.h))))))

unfoldable pub sm3_of : List ℕ → List ℕ
sm3_of m = let p = padded m in digest (iterated (length p / 64) p iv)

-- the function's whole answer: a message of 2^32 bytes or more is a bad argument (document 01, Part 1)
unfoldable pub sm3_answer : List ℕ → Result (List ℕ) BadArgument
sm3_answer m = cond (nat_lt (length m) (2 ^ 32)) (Ok (sm3_of m)) (Err (record {}))
