-- 32-bit words: the operations that GB/T 32905 and GB/T 32907 name.
use Rattle.std.specs.Prelude.{ℕ, ◌+◌, ◌*◌, ◌-◌, ◌/◌, ◌%◌, ◌^◌}
use Rattle.std.specs.Int.Bits.{bit_xor}

infixl 61 ◌⊕◌
infixl 63 ◌⊞◌
infixl 66 ◌⋘◌
-- exclusive or
abbrev pub ◌⊕◌ : ℕ → ℕ → ℕ
x ⊕ y = bit_xor x y

-- the sum without the carry out of 32 bits (document 01, Part 1)
abbrev pub ◌⊞◌ : ℕ → ℕ → ℕ
x ⊞ y = (x + y) % 2 ^ 32

-- x rotated left by n bits, n at most 32
unfoldable pub ◌⋘◌ : ℕ → ℕ → ℕ
x ⋘ n = x * 2 ^ n % 2 ^ 32 + x / 2 ^ (32 - n)
