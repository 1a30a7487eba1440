-- What the loops over a piece of the input keep, and what `fill` returns.
use Rattle.std.specs.Prelude.{ℕ, ◌+◌, ◌-◌, ◌*◌, ◌≤◌, ◌<◌, ◌≡◌, true, false, ◌&&◌, Option, List, ◌++◌, leb, ltb, length, take, drop}
use Rattle.std.proofs.Common.{arith, ltb-true, ltb-false, leb-true, leb-false, length-drop, take-add, take_all}
use Rattle.words.specs.BoolLaws.{by-test, and_left, and_right}
use Rattle.window.specs.PasswordAt.{PasswordRule}
use Rattle.script.specs.Script.{Stage, Follows}
use Rattle.script.specs.Sizes.{most_text, output_bytes}
use Rattle.script.specs.ScriptLaws.{follows-none, follows_join}

-- ---- parts of a piece

-- what is left of a piece
abbrev pub rest : List ℕ → ℕ → List ℕ
rest piece at = take (length piece - at) (drop at piece)

rest_of : (piece : List ℕ) (at : ℕ) → rest piece at ≡ drop at piece
rest_of piece at = let d = length-drop at piece in take_all (length piece - at) (drop at piece) (omega arith)

pub rest-length : (piece : List ℕ) (at : ℕ) → length (rest piece at) ≡ length piece - at
rest-length piece at = rw (rest_of piece at) (length-drop at piece)

-- a piece that is not read to its end has bytes left
pub piece_left : (piece : List ℕ) (at : ℕ) → at < length piece → 1 ≤ length (rest piece at)
piece_left piece at l = omega (arith, rest-length piece at)

-- the first bytes of a piece and the next ones
pub next-bytes : (piece : List ℕ) (at used : ℕ) → take (at + used) piece ≡ take at piece ++ take used (rest piece at)
next-bytes piece at used = rw (rest_of piece at) (take-add at used piece)

module _ (passwords : PasswordRule) where
  -- ---- a piece, until the output is full

  -- what the loop of `fill` keeps
  pub record Filling (line₀ : Option (List ℕ)) (stage : Stage) (piece out₀ : List ℕ) (line : Option (List ℕ)) (after : Stage) (out : List ℕ) (at end : ℕ) : Type 0 where
    pub within : at ≤ length piece
    pub room : end ≤ output_bytes
    pub begun : end ≤ most_text * at
    pub follows : Follows passwords line₀ (take at piece) line stage after out₀ 0 out end

  pub filling_begin : (line : Option (List ℕ)) (stage : Stage) (piece out : List ℕ) → Filling line stage piece out line stage out 0 0
  filling_begin line stage piece out =
      record {
        within = omega arith;
        room = omega arith;
        begun = omega arith;
        follows = follows-none passwords line stage out 0;
      }

  module _ {line₀ : Option (List ℕ)} {stage : Stage} {piece out₀ : List ℕ} {line : Option (List ℕ)} {after : Stage} {out : List ℕ} {at end : ℕ}
      (filling : Filling line₀ stage piece out₀ line after out at end) where
    -- the loop's test
    pub filling_open : ltb at (length piece) && leb end 65536 ≡ true → (at < length piece) × (end ≤ 65536)
    filling_open t =
        let a = ltb at (length piece) in
        let b = leb end 65536 in
        (ltb-true at (length piece) (and_left _ _ t), leb-true end 65536 (and_right a _ t))

    pub filling_more : {line' : Option (List ℕ)} {out' : List ℕ} {used end' : ℕ} {after' : Stage} → ltb at (length piece) && leb end 65536 ≡ true
        → used ≤ length (rest piece at) → (1 ≤ length (rest piece at) → 1 ≤ used) → end' ≤ end + most_text
        → Follows passwords line (take used (rest piece at)) line' after after' out end out' end'
        → Filling line₀ stage piece out₀ line' after' out' (at + used) end'
    filling_more {used = used} t part begins room f =
        let more = filling_open t in
        let some = begins (piece_left piece at more.0) in
        let m = rest-length piece at in
        record {
          within = omega arith;
          room = omega arith;
          begun = omega (arith, filling.begun);
          follows = rw (next-bytes piece at used) (follows_join passwords filling.follows f);
        }

    -- a piece that is not empty was read from
    pub filling_used : ltb at (length piece) && leb end 65536 ≡ false → 1 ≤ length piece → 1 ≤ at
    filling_used over l =
        by-test (ltb at (length piece))
        (λ t. omega (arith, filling.begun, leb-false end 65536 (rw t at over)))
        (λ f. omega (arith, ltb-false at (length piece) f))
