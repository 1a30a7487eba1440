-- How the code hashes: constants laid once, rounds by fours along with the expansion, and the last blocks. `Sm3Laws` and `PaddingLaws` show that this is the standard's.
use Rattle.std.specs.Prelude.{◌≡◌, ℕ, zero, suc, ◌+◌, ◌*◌, ◌/◌, ◌%◌, ◌^◌, cond, List, [], ◌∷◌, ◌++◌, length, drop, replicate, nat_lt, slice_set}
use Rattle.words.specs.Bytes.{be_bytes}
use Rattle.words.specs.Words.{◌⊕◌, ◌⋘◌}
use Rattle.sm3.specs.declared.Registers.{Registers}
use Rattle.sm3.specs.Sm3.{constant, ff, gg, round_with, round, next_word, iterated, zeros_after, padded, iv, digest}

abbrev pub constants : List ℕ
constants =
    0x79cc4519 ∷ 0xf3988a32 ∷ 0xe7311465 ∷ 0xce6228cb ∷ 0x9cc45197 ∷ 0x3988a32f ∷ 0x7311465e ∷ 0xe6228cbc ∷
    0xcc451979 ∷ 0x988a32f3 ∷ 0x311465e7 ∷ 0x6228cbce ∷ 0xc451979c ∷ 0x88a32f39 ∷ 0x11465e73 ∷ 0x228cbce6 ∷
    0x9d8a7a87 ∷ 0x3b14f50f ∷ 0x7629ea1e ∷ 0xec53d43c ∷ 0xd8a7a879 ∷ 0xb14f50f3 ∷ 0x629ea1e7 ∷ 0xc53d43ce ∷
    0x8a7a879d ∷ 0x14f50f3b ∷ 0x29ea1e76 ∷ 0x53d43cec ∷ 0xa7a879d8 ∷ 0x4f50f3b1 ∷ 0x9ea1e762 ∷ 0x3d43cec5 ∷
    0x7a879d8a ∷ 0xf50f3b14 ∷ 0xea1e7629 ∷ 0xd43cec53 ∷ 0xa879d8a7 ∷ 0x50f3b14f ∷ 0xa1e7629e ∷ 0x43cec53d ∷
    0x879d8a7a ∷ 0x0f3b14f5 ∷ 0x1e7629ea ∷ 0x3cec53d4 ∷ 0x79d8a7a8 ∷ 0xf3b14f50 ∷ 0xe7629ea1 ∷ 0xcec53d43 ∷
    0x9d8a7a87 ∷ 0x3b14f50f ∷ 0x7629ea1e ∷ 0xec53d43c ∷ 0xd8a7a879 ∷ 0xb14f50f3 ∷ 0x629ea1e7 ∷ 0xc53d43ce ∷
    0x8a7a879d ∷ 0x14f50f3b ∷ 0x29ea1e76 ∷ 0x53d43cec ∷ 0xa7a879d8 ∷ 0x4f50f3b1 ∷ 0x9ea1e762 ∷ 0x3d43cec5 ∷
    []

-- round j on the word W_j and the word W_j+4 ahead of it
unfoldable pub round_on : ℕ → ℕ → ℕ → Registers → Registers
round_on j word ahead r = round_with (ff j r.a r.b r.c) (gg j r.e r.f r.g) (constant j ⋘ (j % 32)) word (word ⊕ ahead) r

-- the rounds j to j + 3
abbrev pub four_rounds : ℕ → List ℕ → Registers → Registers
four_rounds j w r = round (j + 3) w (round (j + 2) w (round (j + 1) w (round j w r)))

-- n rounds from round j on
unfoldable pub rounds_from : ℕ → ℕ → List ℕ → Registers → Registers
rounds_from zero j w r = r
rounds_from (suc n) j w r = round (j + n) w (rounds_from n j w r)

-- w with n words more stored from place j on
unfoldable pub grown : ℕ → List ℕ → ℕ → List ℕ
grown zero w j = w
grown (suc n) w j = let v = grown n w j in slice_set v (j + n) (next_word v (j + n))

-- i rounds from round s on, with the words that go along
pub record Reached (i s : ℕ) (w₀ : List ℕ) (r₀ : Registers) (w : List ℕ) (r : Registers) : Type 0 where
  pub words : w ≡ grown i w₀ (s + 16)
  pub registers : r ≡ rounds_from i s w r₀

-- the value V after the last block
unfoldable pub last_value : List ℕ → Registers
last_value m = let p = padded m in iterated (length p / 64) p iv

-- the sum of a value's words, modulo 2^32
abbrev pub word_total : Registers → ℕ
word_total r = (r.a + r.b + r.c + r.d + r.e + r.f + r.g + r.h) % 2 ^ 32

-- the blocks of a padded message of l bytes after its l / 64 whole ones
unfoldable pub last_blocks : ℕ → ℕ
last_blocks l = cond (nat_lt (l % 64) 56) 1 2

-- tail with the padding of a message of l bytes
unfoldable pub ended : List ℕ → ℕ → List ℕ
ended tail l = tail ++ (0x80 ∷ (replicate (zeros_after l) 0 ++ be_bytes 8 (8 * l)))

-- the digest of a message of l bytes, from the value after its first blocks and what follows those
unfoldable pub digest_from : Registers → List ℕ → ℕ → List ℕ
digest_from v rest l =
    let whole = length rest / 64 in
    digest (iterated (last_blocks l) (ended (drop (64 * whole) rest) l) (iterated whole rest v))
