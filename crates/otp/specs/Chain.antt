-- The SM4 way (6.2.3) as the code goes it: the round keys made once, and every output as four words.
use Rattle.std.specs.Prelude.{ℕ, zero, suc, ◌+◌, ◌*◌, ◌%◌, ◌^◌, List, take}
use Rattle.words.specs.Bytes.{be_bytes}
use Rattle.sm4.specs.Sm4.{words_of, encrypt_with, round_keys}
use Rattle.sm4.specs.declared.round.Quad.{Quad}
use Rattle.otp.specs.Password.{block_at, block_sum}

-- the round keys of a key, whose first 16 bytes serve
abbrev pub prepared : List ℕ → List ℕ
prepared key = round_keys (take 16 key)

-- the output of block i under round keys
unfoldable pub chain : List ℕ → List ℕ → ℕ → List ℕ
chain keys s zero = encrypt_with keys (block_at s 0)
chain keys s (suc i) = encrypt_with keys (block_sum (chain keys s i) (block_at s (suc i)))

-- four words as one number of 128 bits
abbrev pub words_number : Quad → ℕ
words_number q = (q.a * 2 ^ 32 + q.b) * 2 ^ 64 + (q.c * 2 ^ 32 + q.d)

-- the words of the sum of two blocks, from theirs
abbrev pub words_sum : Quad → Quad → Quad
words_sum p q = words_of (be_bytes 16 ((words_number p + words_number q) % 2 ^ 128))
