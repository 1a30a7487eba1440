-- Worked passwords (document 01, Part 2), as a table with one proof: the document's line, a row of the standard's Annex B, and passwords under a key of
-- 32 bytes whose values OpenSSL's hash and cipher gave. A slip that definition and code share, such as the key's other half or the other cipher, shows here.
use Rattle.std.specs.Prelude.{◌≡◌, ℕ, Bool, true, ◌&&◌, List, [], ◌∷◌, refl, Some, None}
use Rattle.words.specs.Bytes.{be_at, be_bytes}
use Rattle.words.specs.Words.{◌⋘◌}
use Rattle.words.specs.Lists.{same_bytes}
use Rattle.sm3.specs.Sm3 as sm3
use Rattle.sm3.specs.Sm3.{sm3_of, padded, zeros_after, words_at, next_word, expand, round_with, rounds, ff, gg, compressed, iterated, digest}
use Rattle.sm4.specs.Sbox.{sbox, substitute}
use Rattle.sm4.specs.Sm4 as sm4
use Rattle.sm4.specs.Sm4.{word, tau, linear, step, steps, words_of, reversed, encrypt_with, linear_key, masked, ck_byte, ck, keys_from, round_keys, sm4_of}
use Rattle.otp.specs.Password.{factor_bytes, id_of, filled, to_blocks, block_at, block_sum, output_of, chained, keyed, word_sum, cut, decimals, shown, password_of, Factor}

-- a password with everything that it is made of
pub record Worked : Type 0 where
  pub algorithm : ℕ
  pub key : List ℕ
  pub time : Factor
  pub count : Factor
  pub challenge : List ℕ
  pub digits : ℕ
  pub password : List ℕ

abbrev pub holds : Worked → Bool
holds w = same_bytes (password_of w.algorithm w.key w.time w.count w.challenge w.digits) w.password

abbrev pub all_hold : List Worked → Bool
all_hold [] = true
all_hold (w ∷ ws) = holds w && all_hold ws

abbrev pub short_key : List ℕ
short_key = be_bytes 16 0x1234567890abcdef1234567890abcdef

abbrev pub long_key : List ℕ
long_key = be_bytes 32 0x000102030405060708090a0b0c0d0e0f101112131415161718191a1b1c1d1e1f

-- challenges of 4, 20 and 32 bytes: with T and C their ID has one block of SM4, two and three
abbrev pub short_challenge : List ℕ
short_challenge = be_bytes 4 0x35363738

abbrev pub middle_challenge : List ℕ
middle_challenge = be_bytes 20 0x4142434445464748494a4b4c4d4e4f5051525354

abbrev pub long_challenge : List ℕ
long_challenge = be_bytes 32 0x303132333435363738393a3b3c3d3e3f404142434445464748494a4b4c4d4e4f

-- passwords in ASCII: 446720 is 34 34 36 37 32 30. Those of ten digits but the last have a sum of at least 1,410,065,408, which is 10^10 held in 32 bits
abbrev pub worked_passwords : List Worked
worked_passwords =
    record { algorithm = 4; key = short_key; time = Some 1340783053; count = Some 1234; challenge = short_challenge; digits = 6; password = be_bytes 6 0x343436373230 }
    ∷ record { algorithm = 3; key = short_key; time = Some 1313998979; count = Some 1234; challenge = short_challenge; digits = 6; password = be_bytes 6 0x383134303935 }
    ∷ record { algorithm = 4; key = long_key; time = Some 1340783053; count = None; challenge = []; digits = 7; password = be_bytes 7 0x31373634333234 }
    ∷ record { algorithm = 4; key = long_key; time = Some 1340783053; count = Some 1234; challenge = short_challenge; digits = 8; password = be_bytes 8 0x3031383335353332 }
    ∷ record { algorithm = 3; key = long_key; time = None; count = Some 4711; challenge = []; digits = 9; password = be_bytes 9 0x303030363738393631 }
    ∷ record { algorithm = 4; key = long_key; time = Some 1340783053; count = Some 1234; challenge = middle_challenge; digits = 10; password = be_bytes 10 0x31393039303335393435 }
    ∷ record { algorithm = 4; key = long_key; time = Some 1340783053; count = Some 1234; challenge = long_challenge; digits = 10; password = be_bytes 10 0x33333738303935363437 }
    ∷ record { algorithm = 3; key = long_key; time = Some 1340783053; count = Some 1234; challenge = short_challenge; digits = 10; password = be_bytes 10 0x31383838383539313932 }
    ∷ record { algorithm = 3; key = long_key; time = Some 1340783053; count = Some 1234; challenge = long_challenge; digits = 10; password = be_bytes 10 0x31353337313931303132 }
    ∷ []

pub worked_passwords_hold : all_hold worked_passwords ≡ true
unfolding be_at be_bytes ◌⋘◌ same_bytes
    sm3_of padded zeros_after words_at next_word expand sm3.round round_with rounds ff gg compressed iterated digest
    sbox substitute word tau linear sm4.round step steps words_of reversed encrypt_with linear_key masked ck_byte ck keys_from round_keys sm4_of
    factor_bytes id_of filled to_blocks block_at block_sum output_of chained keyed word_sum cut decimals shown password_of
worked_passwords_hold = refl
