-- The standard's examples (GB/T 32905-2016, Annex A), computed from the definition.
use Rattle.std.specs.Prelude.{◌≡◌, ℕ, zero, suc, List, [], ◌∷◌, refl}
use Rattle.words.specs.Bytes.{be_at, be_bytes}
use Rattle.words.specs.Words.{◌⋘◌}
use Rattle.sm3.specs.Sm3.{sm3_of, padded, zeros_after, words_at, next_word, expand, round, round_with, rounds, ff, gg, compressed, iterated, digest}

-- A.1: the three bytes "abc"
pub example_abc : sm3_of (0x61 ∷ 0x62 ∷ 0x63 ∷ []) ≡ be_bytes 32 0x66c7f0f462eeedd9d1f2d46bdc10e4e24167c4875cf2f7a2297da02b8f4ba8e0
unfolding sm3_of padded zeros_after words_at next_word expand round round_with rounds ff gg compressed iterated digest be_at be_bytes ◌⋘◌
example_abc = refl

abbrev pub repeated : ℕ → List ℕ
repeated zero = []
repeated (suc n) = 0x61 ∷ 0x62 ∷ 0x63 ∷ 0x64 ∷ repeated n

-- A.2: the 64 bytes "abcd" sixteen times
pub example_abcd : sm3_of (repeated 16) ≡ be_bytes 32 0xdebe9ff92275b8a138604889c18e5a4d6fdb70e5387e5765293dcba39c0c5732
unfolding sm3_of padded zeros_after words_at next_word expand round round_with rounds ff gg compressed iterated digest be_at be_bytes ◌⋘◌
example_abcd = refl
