-- SM3's padding at every length, and the hash at its greatest (document 01, Part 1: 0 to 2^32 - 1 bytes), stated over the length: no message of that
-- length is computed.
use Rattle.std.specs.Prelude.{◌≡◌, ℕ, Ok, ◌+◌, ◌%◌, true, ◌&&◌, List, [], ◌∷◌, ◌++◌, length, replicate, ◌==◌, nat_lt, refl}
use Rattle.words.specs.Bytes.{be_bytes}
use Rattle.words.specs.Codes.{code_of}
use Rattle.words.specs.Entries.{every}
use Rattle.sm3.specs.Sm3.{zeros_after, padded, sm3_of, sm3_answer}

-- after l bytes, the byte 80 and the fewest zeros, 8 bytes end a block of 64; the entries are the lengths from 0 to 63, modulo 64
pub zeros_fill_block : every (λ l entry. ((l + 1 + zeros_after l + 8) % 64 == 0) && nat_lt (zeros_after l) 64) 0 (replicate 64 0) ≡ true
unfolding zeros_after
zeros_fill_block = refl

-- 2^32 - 1 bytes: the padding ends in their length in bits, 7fffffff8 hexadecimal, as 8 bytes
pub longest_padding : (m : List ℕ) → length m ≡ 0xffffffff → padded m ≡ m ++ (0x80 ∷ (replicate 56 0 ++ (0x00 ∷ 0x00 ∷ 0x00 ∷ 0x07 ∷ 0xff ∷ 0xff ∷ 0xff ∷ 0xf8 ∷ [])))
unfolding padded zeros_after be_bytes
longest_padding m e = rw e refl

-- 2^32 - 1 bytes are taken
pub longest-taken : (m : List ℕ) → length m ≡ 0xffffffff → sm3_answer m ≡ Ok (sm3_of m)
unfolding sm3_answer
longest-taken m e = rw e refl

-- and 2^32 bytes are refused
pub longer-refused : (m : List ℕ) → length m ≡ 0x100000000 → code_of (sm3_answer m) ≡ 0x9005
unfolding sm3_answer
longer-refused m e = rw e refl
