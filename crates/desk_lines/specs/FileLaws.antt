-- What reading the table in a file gives.
use Rattle.std.specs.Prelude.{ℕ, ◌+◌, ◌*◌, ◌/◌, ◌%◌, ◌≤◌, ◌<◌, ◌≡◌, Bool, true, false, ◌||◌, not, List, [], ◌∷◌, ◌++◌, eqb, leb, ltb, length, take, Option, None, Some, IfSome}
use Rattle.std.proofs.Common.{refl, sym, ap, ◌∙◌, arith, append-nil, length-append, length-take-le, eqb-true, leb-true, leb-false, ltb-true, ltb-false}
use Rattle.std.specs.Io.KnownBytes.{Consumes, IsAtEnd}
use Rattle.words.specs.BoolLaws.{or_left, or_right, by-test}
use Rattle.row.specs.Row.{row_bytes}
use Rattle.script.specs.Sizes.{table_bytes}
use Rattle.desk_lines.specs.File.{file_table, rows_stage, file_stage}

table_all : (bytes : List ℕ) → leb (length bytes) table_bytes ≡ true → eqb (length bytes % row_bytes) 0 ≡ true → file_table bytes ≡ bytes
unfolding file_table
table_all bytes l e = rw (l, e) refl

too_long : (bytes : List ℕ) → leb (length bytes) table_bytes ≡ false → file_table bytes ≡ []
unfolding file_table
too_long bytes l = rw l refl

not_rows : (bytes : List ℕ) → eqb (length bytes % row_bytes) 0 ≡ false → file_table bytes ≡ []
unfolding file_table
not_rows bytes e = by-test (leb (length bytes) table_bytes) (λ t. rw (t, e) refl) (λ f. rw f refl)

-- the first len bytes of a file were read into a table, and got more behind them, none at its end
pub record FileRead (known rest after : Option (List ℕ)) (table : List ℕ) (len got : ℕ) : Type 0 where
  pub whole : length table ≡ table_bytes
  pub bound : len ≤ length table
  pub taken : Consumes known rest (take len table)
  pub end : len < length table → IsAtEnd rest
  pub more : List ℕ
  pub counted : length more ≡ got
  pub behind : Consumes rest after more
  pub over : got ≡ 0 → IsAtEnd after

pub file_read : (known rest after : Option (List ℕ)) {table : List ℕ} (last : List ℕ) {len got : ℕ} → length table ≡ table_bytes → len ≤ length table
    → Consumes known rest (take len table) → (len < length table → IsAtEnd rest) → length last ≡ 1 → got ≡ length (take got last)
    → Consumes rest after (take got last) → (got ≡ 0 → 0 < length last → IsAtEnd after) → FileRead known rest after table len got
file_read known rest after last {got = got} whole bound taken end one counted behind over =
    record {
      whole = whole;
      bound = bound;
      taken = taken;
      end = end;
      more = take got last;
      counted = sym counted;
      behind = behind;
      over = λ e. over e (omega arith);
    }

nothing : (s : List ℕ) → length s ≡ 0 → s ≡ []
nothing [] e = refl
nothing (b ∷ s) e = absurd (omega (arith, e))

denied : (b : Bool) → not b ≡ true → b ≡ false
denied true e = sym e
denied false e = refl

granted : (b : Bool) → not b ≡ false → b ≡ true
granted true e = refl
granted false e = sym e

module _ (xs ys zs : List ℕ) {table : List ℕ} {len got : ℕ} (f : FileRead (Some xs) (Some ys) (Some zs) table len got) where
  -- the file goes on behind a full table
  goes_on : 0 < got → [] ≡ file_table xs
  goes_on l =
      let left : length ys ≡ length f.more + length zs = ap length f.behind ∙ length-append f.more zs in
      let front = length-take-le len table f.bound in
      let all : length xs ≡ length (take len table) + length ys = ap length f.taken ∙ length-append (take len table) ys in
      by-test (ltb len (length table))
      (λ t. let none : length ys ≡ 0 = ap length (f.end (ltb-true len (length table) t)) in absurd (omega (arith, f.counted)))
      (λ full.
      let long : leb (length xs) table_bytes ≡ false = by-test (leb (length xs) table_bytes)
      (λ t. absurd (omega (arith, leb-true (length xs) table_bytes t, ltb-false len (length table) full, f.whole, f.counted)))
      (λ h. h) in
      sym (too_long xs long))

  -- the file ends behind the bytes that were read
  module _ (e : got ≡ 0) where
    ends : xs ≡ take len table
    ends =
        let none : ys ≡ [] = f.behind ∙ ap (λ s. s ++ zs) (nothing f.more (f.counted ∙ e)) ∙ f.over e in
        f.taken ∙ ap (λ s. take len table ++ s) none ∙ append-nil (take len table)

    size : length xs ≡ len
    size = ap length ends ∙ length-take-le len table f.bound

  -- what the test says behind the reads
  refused : ltb 0 got || not (eqb (len % row_bytes) 0) ≡ true → [] ≡ file_table xs
  refused e =
      by-test (ltb 0 got) (λ t. goes_on (ltb-true 0 got t))
      (λ n.
      let z : got ≡ 0 = omega (arith, ltb-false 0 got n) in
      let odd = denied (eqb (len % row_bytes) 0) (rw n at e) in
      sym (not_rows xs (rw (size z) odd)))

  accepted : ltb 0 got || not (eqb (len % row_bytes) 0) ≡ false → take (row_bytes * (len / row_bytes)) table ≡ file_table xs
  accepted e =
      let z : got ≡ 0 = omega (arith, ltb-false 0 got (or_left (ltb 0 got) (not (eqb (len % row_bytes) 0)) e)) in
      let even = granted (eqb (len % row_bytes) 0) (or_right (ltb 0 got) (not (eqb (len % row_bytes) 0)) e) in
      let whole : row_bytes * (len / row_bytes) ≡ len = omega (arith, eqb-true (len % row_bytes) 0 even) in
      let few : leb (length xs) table_bytes ≡ true = by-test (leb (length xs) table_bytes) (λ t. t)
      (λ h. absurd (omega (arith, leb-false (length xs) table_bytes h, size z, f.bound, f.whole))) in
      rw whole (sym (ends z) ∙ sym (table_all xs few (rw (size z) even)))

pub no_table : (known rest after : Option (List ℕ)) {table : List ℕ} {len got : ℕ} → FileRead known rest after table len got
    → ltb 0 got || not (eqb (len % row_bytes) 0) ≡ true → IfSome known (λ xs. rows_stage [] ≡ file_stage xs)
no_table None rest after f e = tt
no_table (Some xs) None after f e = absurd f.taken
no_table (Some xs) (Some ys) None f e = absurd f.behind
no_table (Some xs) (Some ys) (Some zs) f e = ap rows_stage (refused xs ys zs f e)

pub table_read : (known rest after : Option (List ℕ)) {table : List ℕ} {len got : ℕ} → FileRead known rest after table len got
    → ltb 0 got || not (eqb (len % row_bytes) 0) ≡ false
    → IfSome known (λ xs. rows_stage (take (row_bytes * (len / row_bytes)) table) ≡ file_stage xs)
table_read None rest after f e = tt
table_read (Some xs) None after f e = absurd f.taken
table_read (Some xs) (Some ys) None f e = absurd f.behind
table_read (Some xs) (Some ys) (Some zs) f e = ap rows_stage (accepted xs ys zs f e)
