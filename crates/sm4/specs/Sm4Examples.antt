-- The first example of GB/T 32907, annex A, and its block encrypted sixteen times, which meets every entry of the S-box.
use Rattle.std.specs.Prelude.{ℕ, zero, suc, ◌≡◌, refl, List, [], ◌∷◌}
use Rattle.words.specs.Words.{◌⋘◌}
use Rattle.words.specs.Bytes.{be_at, be_bytes}
use Rattle.sm4.specs.Sbox.{sbox, substitute}
use Rattle.sm4.specs.Sm4.{word, tau, linear, round, step, steps, words_of, reversed, encrypt_with, linear_key, masked, ck_byte, ck, keys_from, round_keys, sm4_of}

-- the key, which is also the block
abbrev pub example : List ℕ
example = 0x01 ∷ 0x23 ∷ 0x45 ∷ 0x67 ∷ 0x89 ∷ 0xab ∷ 0xcd ∷ 0xef ∷ 0xfe ∷ 0xdc ∷ 0xba ∷ 0x98 ∷ 0x76 ∷ 0x54 ∷ 0x32 ∷ 0x10 ∷ []

pub example-encrypted
    : sm4_of example example
    ≡ 0x68 ∷ 0x1e ∷ 0xdf ∷ 0x34 ∷ 0xd2 ∷ 0x06 ∷ 0x96 ∷ 0x5e ∷ 0x86 ∷ 0xb3 ∷ 0xe9 ∷ 0x4f ∷ 0x53 ∷ 0x6e ∷ 0x42 ∷ 0x46 ∷ []
unfolding ◌⋘◌ be_at be_bytes sbox word substitute tau linear round step steps words_of reversed encrypt_with linear_key masked ck_byte ck keys_from round_keys sm4_of
example-encrypted = refl

-- a block encrypted n times under the round keys ks
abbrev pub repeatedly : ℕ → List ℕ → List ℕ → List ℕ
repeatedly zero ks block = block
repeatedly (suc n) ks block = repeatedly n ks (encrypt_with ks block)

-- one encryption meets 167 of the 256 entries, sixteen meet them all; no two entries can be exchanged without another result
pub example-sixteen
    : repeatedly 16 (round_keys example) example
    ≡ 0xd9 ∷ 0x76 ∷ 0xc9 ∷ 0x2b ∷ 0x3f ∷ 0x78 ∷ 0x58 ∷ 0xcb ∷ 0x69 ∷ 0x6d ∷ 0xb1 ∷ 0x38 ∷ 0x03 ∷ 0x98 ∷ 0x1f ∷ 0x5d ∷ []
unfolding ◌⋘◌ be_at be_bytes sbox word substitute tau linear round step steps words_of reversed encrypt_with linear_key masked ck_byte ck keys_from round_keys sm4_of
example-sixteen = refl
