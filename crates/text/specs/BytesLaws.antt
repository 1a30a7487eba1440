-- A few bytes with zeros behind them: more bytes are put where the zeros begin.
use Rattle.std.specs.Prelude.{◌≡◌, ℕ, ◌+◌, ◌-◌, ◌≤◌, List, ◌++◌, length, take, drop, replicate}
use Rattle.std.proofs.Common.{arith, append-nil, drop-drop, drop_of_length-le, length-take, length-take-le, take-append-drop}
use Rattle.std.proofs.lemmas.Slice.{take-put_mid, drop-put_mid}
use borrow.Rule.Slice.PartMut.{put_mid}
use Rattle.words.specs.ListsLaws.{drop_zeros}

module _ (n len : ℕ) (padded more : List ℕ) {part : List ℕ} (size : length padded ≡ n) (room : len + length more ≤ n)
    (copied : part ≡ more ++ drop (length more) (take (len + length more - len) (drop len padded))) where
  part-is : part ≡ more
  part-is =
      let e : len + length more - len ≡ length more = omega arith in
      let l : length (take (length more) (drop len padded)) ≤ length more = rw length-take (omega arith) in
      rw (copied, e, drop_of_length-le (take (length more) (drop len padded)) l, append-nil more)

  pub with-more : take (len + length more) (put_mid len (len + length more - len) padded part) ≡ take len padded ++ more
  with-more = let e = part-is in rw (e, take-put_mid len (len + length more - len) padded more (len + length more) (omega arith) (omega arith))

  pub with-zeros : drop len padded ≡ replicate (n - len) 0
      → drop (len + length more) (put_mid len (len + length more - len) padded part) ≡ replicate (n - (len + length more)) 0
  with-zeros zeros =
      let e = part-is in
      let k : n - len - length more ≡ n - (len + length more) = omega arith in
      rw (e, drop-put_mid len (len + length more - len) padded more (len + length more) (omega arith) (omega arith) (omega arith), ← drop-drop (length more) len padded, zeros, drop_zeros (length more) (n - len), k)

-- how many bytes there are, and the whole array, from the bytes alone
pub bytes-back : (n len : ℕ) (padded : List ℕ) → len ≤ n → length padded ≡ n → drop len padded ≡ replicate (n - len) 0
    → (length (take len padded) ≡ len) × (take len padded ++ replicate (n - len) 0 ≡ padded)
bytes-back n len padded room size zeros = (length-take-le len padded (omega arith), rw (← zeros) (take-append-drop len padded))
