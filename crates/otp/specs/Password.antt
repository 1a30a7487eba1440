-- The password, in the order of document 01, Part 2 (GM/T 0021-2012, 6.1 to 6.3).
use Rattle.std.specs.Prelude.{ℕ, zero, suc, ◌+◌, ◌-◌, ◌*◌, ◌/◌, ◌%◌, ◌^◌, Bool, true, false, cond, ◌&&◌, ◌||◌, List, [], ◌∷◌, ◌++◌, length, take, drop, replicate, ◌==◌, nat_le, nat_lt, Option, Some, None, is_some}
use Rattle.words.specs.Bytes.{be_at, be_bytes}
use Rattle.words.specs.Lists.{all_within}
use Rattle.words.specs.Codes.{done, bad_argument}
use Rattle.words.specs.Output.{Left, stored}
use Rattle.sm3.specs.Sm3.{sm3_of}
use Rattle.sm4.specs.Sm4.{sm4_of}

-- ---- ID (6.1)

-- a factor, the time T or the event count C, may be absent
abbrev pub Factor : Type 0
Factor = Option ℕ

-- T has 8 bytes and C has 4; an absent one takes no place
unfoldable pub factor_bytes : ℕ → Factor → List ℕ
factor_bytes width None = []
factor_bytes width (Some x) = be_bytes width x

-- T, then C, then Q
unfoldable pub id_of : Factor → Factor → List ℕ → List ℕ
id_of time count challenge = factor_bytes 8 time ++ (factor_bytes 4 count ++ challenge)

-- under 16 bytes: zeros at the end up to 16
unfoldable pub filled : List ℕ → List ℕ
filled id = id ++ replicate (16 - length id) 0

-- ---- the algorithm's output (6.2)

-- 6.2.3: zeros at the end up to a multiple of 16
unfoldable pub to_blocks : List ℕ → List ℕ
to_blocks s = s ++ replicate ((16 - length s % 16) % 16) 0

unfoldable pub block_at : List ℕ → ℕ → List ℕ
block_at s i = take 16 (drop (16 * i) s)

-- the sum of two blocks as 128-bit numbers, the carry dropped
unfoldable pub block_sum : List ℕ → List ℕ → List ℕ
block_sum a b = be_bytes 16 ((be_at 16 a 0 + be_at 16 b 0) % 2 ^ 128)

-- the output of block i: the first block is encrypted, each output is added to the next block, and the sum encrypted;
-- the key's first 16 bytes serve every block
unfoldable pub output_of : List ℕ → List ℕ → ℕ → List ℕ
output_of key s zero = sm4_of (take 16 key) (block_at s 0)
output_of key s (suc i) = sm4_of (take 16 key) (block_sum (output_of key s i) (block_at s (suc i)))

-- the last output counts
unfoldable pub chained : List ℕ → List ℕ → List ℕ
chained key id = let s = to_blocks id in output_of key s (length s / 16 - 1)

-- the document's numbers of the algorithms
abbrev pub algorithm_sm3 : ℕ
algorithm_sm3 = 3

abbrev pub algorithm_sm4 : ℕ
algorithm_sm4 = 4

-- 6.2.2: SM3 hashes key then ID; 6.2.3: SM4 goes block by block
unfoldable pub keyed : ℕ → List ℕ → List ℕ → List ℕ
keyed algorithm key id = cond (algorithm == algorithm_sm3) (sm3_of (key ++ id)) (chained key id)

-- ---- the cut (6.3)

-- the sum of the first n 4-byte words
unfoldable pub word_sum : ℕ → List ℕ → ℕ
word_sum zero s = 0
word_sum (suc n) s = word_sum n s + be_at 4 s (4 * n)

-- all words of an output, modulo 2^32
unfoldable pub cut : List ℕ → ℕ
cut s = word_sum (length s / 4) s % 2 ^ 32

-- n ASCII digits of x, with leading zeros
unfoldable pub decimals : ℕ → ℕ → List ℕ
decimals zero x = []
decimals (suc n) x = decimals n (x / 10) ++ ((48 + x % 10) ∷ [])

unfoldable pub shown : ℕ → List ℕ → List ℕ
shown n output = decimals n (cut output % 10 ^ n)

-- ---- the password

unfoldable pub password_of : ℕ → List ℕ → Factor → Factor → List ℕ → ℕ → List ℕ
password_of algorithm key time count challenge n = shown n (keyed algorithm key (filled (id_of time count challenge)))

-- ---- arguments in range

abbrev pub is_below : ℕ → Factor → Bool
is_below limit None = true
is_below limit (Some x) = nat_lt x limit

-- 4 to 32 bytes, each 21 to 7e hexadecimal; an empty challenge is none
unfoldable pub challenge_ok : List ℕ → Bool
challenge_ok q = length q == 0 || ((nat_le 4 (length q) && nat_le (length q) 32) && all_within 0x21 0x7e q)

unfoldable pub arguments_ok : ℕ → List ℕ → Factor → Factor → List ℕ → ℕ → Bool
arguments_ok algorithm key time count challenge n =
    (algorithm == algorithm_sm3 || algorithm == algorithm_sm4)
    && (nat_le 16 (length key) && nat_le (length key) 32)
    && (is_some time || is_some count)
    && is_below (2 ^ 32) count
    && challenge_ok challenge
    && (nat_le 6 n && nat_le n 10)

-- the whole answer: the password at the front of the output, or a bad argument and no byte changed
unfoldable pub password_answer : ℕ → List ℕ → Factor → Factor → List ℕ → ℕ → List ℕ → Left
password_answer algorithm key time count challenge n out =
    stored (cond (arguments_ok algorithm key time count challenge n) done bad_argument) (password_of algorithm key time count challenge n) out
