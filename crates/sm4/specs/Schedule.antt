-- The key schedule on its way (7.3): the words K_n to K_n+3, and the round keys so far, with room for all.
use Rattle.std.specs.Prelude.{ℕ, ◌≡◌, ◌-◌, ◌++◌, List, length, take}
use Rattle.sm4.specs.Sm4.{linear_key, steps, masked, words_of, cks, keys_from, round_keys}
use Rattle.sm4.specs.declared.round.Quad.{Quad}

-- after n steps from a key
pub record Expanded (key : List ℕ) (n : ℕ) (k : Quad) (keys : List ℕ) : Type 0 where
  pub words : k ≡ steps linear_key cks n (masked (words_of key))
  pub room : length keys ≡ 32
  pub stored : take n keys ++ keys_from (32 - n) n k ≡ round_keys key
