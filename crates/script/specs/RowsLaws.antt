-- What the functions on `rows` and `table` lines return, over what the functions that they call ensure.
use Prim.Native.Nat.{ℕ, zero, suc, ◌+◌, ◌-◌, ◌*◌, ◌/◌, ◌%◌, ◌^◌, ◌≤◌, ◌<◌}
use Rattle.std.specs.Prelude.{◌≡◌, refl, Bool, ◌&&◌, eqb, ltb, leb, length, drop, set, Option, None, Some}
use Rattle.std.specs.Bool.{then_some}
use Rattle.std.specs.Cmp.Lexicographic.{pointwise}
use Rattle.std.proofs.Math.Path.{sym}
use Rattle.std.proofs.Common.{◌∙◌, le-leb, leb-true, ltb-false, length-append, length-drop, length-take-le, take_all, take-suc, drop-drop}
use Rattle.std.proofs.Math.Bool.{true, false, cond}
use mathlib.Core.List.{List, [], ◌∷◌, ◌++◌, append_assoc, append-nil}
use Rattle.std.proofs.Math.Numerals.{add-one}
use native.Mathlib.Omega.{arith}
use Rattle.std.proofs.lemmas.Bool.{lt-leb}
use Rattle.std.proofs.Math.ListN.{take, get_or, length-set}
use Rattle.std.proofs.Math.Seq.{take-suc-set}
use Rattle.words.specs.Lists.{same_bytes}
use Rattle.words.specs.BoolLaws.{by-test, and_false, impossible}
use Rattle.text.specs.Text.{hex_digit, comma, decimal_of, bounded, number_in}
use Rattle.lines.specs.Lines.{line_feed, Put}
use Rattle.lines.specs.BufferLaws.{put_join}
use Rattle.row.specs.Row.{row_bytes}
use Rattle.script.specs.Sizes.{row_text}
use Rattle.script.specs.Script.{hex_text, rows_text, few_rows, rows_of}

-- ---- the line `rows,N`

abbrev pub rows_word : List ℕ
rows_word = 0x72 ∷ 0x6f ∷ 0x77 ∷ 0x73 ∷ comma ∷ []

same-pointwise : (a b : List ℕ) → pointwise eqb a b ≡ same_bytes a b
unfolding same_bytes
same-pointwise [] [] = refl
same-pointwise [] (y ∷ b) = refl
same-pointwise (x ∷ a) [] = refl
same-pointwise (x ∷ a) (y ∷ b) = rw (same-pointwise a b)

-- a number of so few rows has 64 bits
few-bounded : (d : Option ℕ) → few_rows (bounded d) ≡ few_rows d
unfolding bounded
few-bounded None = refl
few-bounded (Some n) =
    by-test (ltb n (2 ^ 64))
    (λ t. rw t)
    (λ f. let l = ltb-false n (2 ^ 64) f in rw (f, lt-leb n 256 (omega arith), and_false (leb 1 n)))

pub some-tested : (b : Bool) (n : ℕ) → then_some b n ≡ cond b (Some n) None
some-tested true n = refl
some-tested false n = refl

module _ (line : List ℕ) (fits : length line ≤ 4096) where
  pub rows-other : pointwise eqb (take 5 line) rows_word ≡ false → rows_of line ≡ None
  unfolding rows_of
  rows-other e = rw (le-leb (length line) 4096 fits, ← same-pointwise, e)

  pub rows_numbered : pointwise eqb (take 5 line) rows_word ≡ true → rows_of line ≡ few_rows (number_in (drop 5 line))
  unfolding rows_of
  rows_numbered e = rw (le-leb (length line) 4096 fits, ← same-pointwise, e, few-bounded)

few-rows : (d : Option ℕ) {n : ℕ} → few_rows d ≡ Some n → (1 ≤ n) × (n ≤ 256)
few-rows None e = impossible (cc)
few-rows (Some k) {n} e =
    by-test (leb 1 k && leb k 256)
    (λ t. let same : Some k ≡ Some n = rw t at e in let s : k ≡ n = cc in let b = both (leb 1 k) (leb k 256) t in
    let l = leb-true 1 k b.0 in let m = leb-true k 256 b.1 in (omega arith, omega arith))
    (λ f. let h : None ≡ Some n = rw f at e in impossible (cc))
  where
    both : (a b : Bool) → a && b ≡ true → (a ≡ true) × (b ≡ true)
    both true b e = (refl, e)
    both false b e = impossible (cc)

pub rows_bounds : (line : List ℕ) {n : ℕ} → rows_of line ≡ Some n → (1 ≤ n) × (n ≤ 256)
unfolding rows_of
rows_bounds line {n} e =
    by-test (leb (length line) 4096 && same_bytes (take 5 line) rows_word)
    (λ t. few-rows (decimal_of (drop 5 line)) (rw t at e))
    (λ f. let h : None ≡ Some n = rw f at e in impossible (cc))

-- ---- the output

-- a text and a line feed behind it
pub line-put : {s : List ℕ} {at : ℕ} {text after : List ℕ} {end : ℕ} → Put s at text after end → end < length after
    → Put s at (text ++ (line_feed ∷ [])) (set after end line_feed) (end + 1)
line-put {s} {at} {text} {after} {end} put l =
    record {
      place = rw length-append (omega (arith, put.place));
      front = rw (add-one, take-suc-set after end line_feed l, put.front, append_assoc (take at s) text (line_feed ∷ []));
    }

-- ---- the table as text

hex_join : (a b : List ℕ) → hex_text (a ++ b) ≡ hex_text a ++ hex_text b
unfolding hex_text
hex_join [] b = refl
hex_join (x ∷ a) b = rw (hex_join a b)

hex_length : (s : List ℕ) → length (hex_text s) ≡ 2 * length s
unfolding hex_text
hex_length [] = refl
hex_length (x ∷ s) = let e = hex_length s in omega arith

-- what the loop of `put_hex` keeps: the digits of the first i bytes stand from at to end
pub record Hexed (out₀ : List ℕ) (at : ℕ) (bytes out : List ℕ) (end i : ℕ) : Type 0 where
  pub size : length out ≡ length out₀
  pub within : i ≤ length bytes
  pub place : end ≡ at + 2 * i
  pub front : take end out ≡ take at out₀ ++ hex_text (take i bytes)

module _ (out₀ : List ℕ) (at : ℕ) (bytes : List ℕ) where
  pub hexed_none : Hexed out₀ at bytes out₀ at 0
  unfolding hex_text
  hexed_none = record { size = refl; within = omega arith; place = omega arith; front = sym (append-nil (take at out₀)) }

  module _ (out : List ℕ) (end i : ℕ) (hexed : Hexed out₀ at bytes out end i) where
    pub hexed_more : {high low : ℕ} → i < length bytes → end + 1 < length out → high ≡ hex_digit (get_or bytes i 0 / 16) → low ≡ hex_digit (get_or bytes i 0 % 16)
        → Hexed out₀ at bytes (set (set out end high) (end + 1) low) (end + 2) (i + 1)
    unfolding hex_text
    hexed_more {high} {low} l room h k =
        let b = get_or bytes i 0 in
        let e : end + 2 ≡ suc (end + 1) = omega arith in
        let s = length-set out end high in
        let first : take (end + 1) (set out end high) ≡ take end out ++ (high ∷ []) = rw add-one (take-suc-set out end high (omega arith)) in
        let both : take (suc (end + 1)) (set (set out end high) (end + 1) low) ≡ take (end + 1) (set out end high) ++ (low ∷ []) = take-suc-set (set out end high) (end + 1) low (omega arith) in
        let more : take (i + 1) bytes ≡ take i bytes ++ (b ∷ []) = rw add-one (take-suc bytes i 0 l) in
        record {
          size = length-set (set out end high) (end + 1) low ∙ s ∙ hexed.size;
          within = omega arith;
          place = omega (arith, hexed.place);
          front = rw (
            e,
            both,
            first,
            hexed.front,
            more,
            hex_join (take i bytes) (b ∷ []),
            h,
            k,
            append_assoc (take at out₀ ++ hex_text (take i bytes)) (hex_digit (b / 16) ∷ []) (hex_digit (b % 16) ∷ []),
            append_assoc (take at out₀) (hex_text (take i bytes)) (hex_digit (b / 16) ∷ hex_digit (b % 16) ∷ []),
          );
        }

    pub hexed_all : length bytes ≤ i → Put out₀ at (hex_text bytes) out end
    hexed_all l =
        record {
          place = rw (hex_length bytes) (omega (arith, hexed.place, hexed.within));
          front = rw (take_all i bytes l) at hexed.front;
        }

-- a row more
rows_more : (i : ℕ) (s : List ℕ) → rows_text (suc i) s ≡ rows_text i s ++ (hex_text (take row_bytes (drop (row_bytes * i) s)) ++ (line_feed ∷ []))
unfolding rows_text
rows_more zero s = append-nil (hex_text (take row_bytes s) ++ (line_feed ∷ []))
rows_more (suc i) s =
    let e : row_bytes * suc i ≡ row_bytes + row_bytes * i = omega arith in
    rw (
      rows_more i (drop row_bytes s),
      e,
      drop-drop (row_bytes * i) row_bytes s,
      append_assoc
          (hex_text (take row_bytes s) ++ (line_feed ∷ []))
          (rows_text i (drop row_bytes s))
          (hex_text (take row_bytes (drop (row_bytes + row_bytes * i) s)) ++ (line_feed ∷ [])),
    )

-- what the loop of `put_rows` keeps
pub record Rowed (out₀ : List ℕ) (at : ℕ) (table : List ℕ) (rows : ℕ) (out : List ℕ) (end i : ℕ) : Type 0 where
  pub size : length out ≡ length out₀
  pub within : i ≤ rows
  pub place : end ≡ at + row_text * i
  pub printed : Put out₀ at (rows_text i table) out end

module _ (out₀ : List ℕ) (at : ℕ) (table : List ℕ) (rows : ℕ) where
  pub rowed_none : Rowed out₀ at table rows out₀ at 0
  unfolding rows_text
  rowed_none =
      record {
        size = refl;
        within = omega arith;
        place = omega arith;
        printed = record { place = omega arith; front = sym (append-nil (take at out₀)) };
      }

  module _ (out : List ℕ) (end i : ℕ) (rowed : Rowed out₀ at table rows out end i) where
    row-length : i < rows → row_bytes * rows ≡ length table → length (take (row_bytes * i + row_bytes - row_bytes * i) (drop (row_bytes * i) table)) ≡ row_bytes
    row-length l whole =
        let d = length-drop (row_bytes * i) table in
        let z : row_bytes * i + row_bytes - row_bytes * i ≡ row_bytes = omega arith in
        rw z (length-take-le row_bytes (drop (row_bytes * i) table) (omega arith))

    pub row_room : i < rows → row_bytes * rows ≡ length table → at + row_text * rows ≤ length out₀
        → end + 2 * length (take (row_bytes * i + row_bytes - row_bytes * i) (drop (row_bytes * i) table)) ≤ length out
    row_room l whole room = rw (row-length l whole) (omega (arith, rowed.place, rowed.size))

    pub rowed_all : rows ≤ i → Put out₀ at (rows_text rows table) out end × (end ≡ at + row_text * rows)
    rowed_all l = let e : i ≡ rows = omega (arith, rowed.within) in (rw e at rowed.printed, rw e at rowed.place)

    module _ {out' : List ℕ} {stop : ℕ} (l : i < rows) (whole : row_bytes * rows ≡ length table) (room : at + row_text * rows ≤ length out₀) (kept : length out' ≡ length out)
        (put : Put out end (hex_text (take (row_bytes * i + row_bytes - row_bytes * i) (drop (row_bytes * i) table))) out' stop) where
      pub row-end : stop ≡ end + 2 * row_bytes
      row-end = rw (hex_length (take (row_bytes * i + row_bytes - row_bytes * i) (drop (row_bytes * i) table)), row-length l whole) at put.place

      pub row_within : stop < length out'
      row_within = omega (arith, row-end, kept, rowed.place, rowed.size)

      pub rowed_more : Rowed out₀ at table rows (set out' stop line_feed) (stop + 1) (i + 1)
      rowed_more =
          let z : row_bytes * i + row_bytes - row_bytes * i ≡ row_bytes = omega arith in
          record {
            size = length-set out' stop line_feed ∙ kept ∙ rowed.size;
            within = omega arith;
            place = omega (arith, row-end, rowed.place);
            printed = rw (add-one, rows_more i table) (put_join rowed.printed (line-put (rw z at put) row_within));
          }
