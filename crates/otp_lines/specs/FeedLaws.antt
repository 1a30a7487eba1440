-- What each function of the code returns, over what the functions that it calls ensure.
use Rattle.std.specs.Prelude.{ℕ, Option, Some, None, ◌+◌, ◌-◌, ◌*◌, ◌≤◌, ◌<◌, ◌≡◌, Bool, false, length, drop, set, replicate}
use Rattle.std.proofs.Math.Path.{refl}
use Rattle.std.proofs.Common.{sym, ap, ◌∙◌, add-one, arith, length-append, length-drop, take-append-drop, length-take-le, take-add, take_all, take-suc-set, take-take}
use mathlib.Core.List.{List, [], ◌∷◌, ◌++◌, flatten, append_assoc, append-nil}
use Rattle.std.proofs.Math.ListN.{take}
use Rattle.std.proofs.lemmas.List.{length-replicate}
use Rattle.std.proofs.Math.Seq.{take-append-add, take-append_seam, take-length}
use Rattle.words.specs.Search.{index_of, slice}
use Rattle.password_lines.specs.Line.{line_answer, refusal}
use Rattle.password_lines.specs.LineLaws.{long-line, answer-length}
use Rattle.lines.specs.Lines.{line_feed, behind, cut, last, kept, Put}
use Rattle.lines.specs.LinesLaws.{pieces_do_not_matter, cut_line, cut-rest}
use Rattle.lines.specs.BufferLaws.{kept-line, kept-long}
use Rattle.words.specs.BoolLaws.{clash}
use Rattle.otp_lines.specs.Stream.{answered, fed, finished, longest, Follows, Leaves, Answers}
use Rattle.otp_lines.specs.StreamLaws.{answered_join}

-- ---- the output

-- an answer has room in ten bytes
pub padded-length : (line : List ℕ) {text padded : List ℕ} → text ≡ line_answer line → padded ≡ text ++ replicate (10 - length text) 0
    → (length padded ≡ 10) × (length text ≤ 10)
padded-length line answer zeros =
    let l : length (line_answer line) ≤ 10 = (answer-length line).1 in
    rw (zeros, answer, length-append, length-replicate) (omega arith)

-- the bytes were put with the zeros behind the answer, and the line feed upon the first of those
module _ (s : List ℕ) (at : ℕ) (line : List ℕ) {text padded after : List ℕ} {end : ℕ} (answer : text ≡ line_answer line)
    (zeros : padded ≡ text ++ replicate (10 - length text) 0) (room : at ≤ length s) (bytes : Put s at padded after end) where
  text-put-front : take (at + length text) after ≡ take at s ++ line_answer line
  text-put-front =
      let p = bytes.place in
      let n : length padded ≡ length text + (10 - length text) = rw (zeros, length-append, length-replicate) refl in
      let l : at + length text ≤ end = omega arith in
      let e = length-take-le at s room in
      let front : take (length text) padded ≡ text = rw zeros (take-append_seam text (replicate (10 - length text) 0)) in
      sym (take-take (at + length text) end after l)
      ∙ rw (bytes.front, ← answer) (rw e at (take-append-add (take at s) padded (length text)) ∙ ap (λ (t : List ℕ). take at s ++ t) front)

  pub answer-put : {n : ℕ} → n ≡ length text → at + n < length after → Put s at (answered line) (set after (at + n) line_feed) (at + n + 1)
  answer-put {n} e l =
      let same = ap length answer in
      let front : take (at + n) after ≡ take at s ++ line_answer line = rw e text-put-front in
      record {
        place = rw length-append (omega arith);
        front = rw (add-one, take-suc-set, front) (append_assoc (take at s) (line_answer line) (line_feed ∷ []));
      }

-- ---- the pending line

-- what is not kept is refused
pub pending-long : (s : List ℕ) (at : ℕ) {after : List ℕ} {end : ℕ} (p : List ℕ) → None ≡ kept longest p
    → Put s at (refusal ++ (line_feed ∷ [])) after end → Put s at (answered p) after end
pending-long s at p held d = rw (long-line p (kept-long longest p held)) d

pub finish_none : (p : List ℕ) → Some [] ≡ kept longest p → [] ≡ finished p
unfolding last flatten
finish_none p held = rw (← kept-line longest p held)

pub finish_line : {line : Option (List ℕ)} (s : List ℕ) {after : List ℕ} {end : ℕ} (p : List ℕ) → line ≡ kept longest p → (line ≡ Some [] → ⊥)
    → Put s 0 (answered p) after end → take end after ≡ finished p
unfolding last flatten
finish_line s [] held z d = absurd (z held)
finish_line s (b ∷ p) held z d = rw (append-nil (answered (b ∷ p))) d.front

-- ---- a piece of the input

-- what the loop of `feed` keeps: the piece up to at is fed, and end is where the next line feed stands
pub record Feeding (line₀ : Option (List ℕ)) (piece out₀ : List ℕ) (line : Option (List ℕ)) (out : List ℕ) (written at end : ℕ) : Type 0 where
  pub same_size : length out ≡ length out₀
  pub room : written ≤ 11 * at
  pub start : at ≤ end
  pub within : end ≤ length piece
  pub found : end ≡ at + index_of line_feed (slice at (length piece) piece)
  pub follows : Follows line₀ (take at piece) line (take written out)

module _ (line₀ : Option (List ℕ)) (piece out₀ : List ℕ) where
  pub feeding_begin : {end : ℕ} → end ≡ 0 + index_of line_feed (slice 0 (length piece) piece) → end ≤ length piece
      → Feeding line₀ piece out₀ line₀ out₀ 0 0 end
  unfolding cut flatten
  feeding_begin e w =
      record {
        same_size = refl;
        room = omega arith;
        start = omega arith;
        within = w;
        found = e;
        follows = record { pending = λ p h. h; printed = λ p h. refl };
      }

  module _ (line : Option (List ℕ)) (out : List ℕ) (written at end : ℕ) (feeding : Feeding line₀ piece out₀ line out written at end) where
    index_is : end ≡ at + index_of line_feed (drop at piece)
    unfolding slice
    index_is = rw take-length at feeding.found

    -- the piece up to the next line feed
    cut_up : (p : List ℕ) → end < length piece
        → cut p (take (end + 1) piece)
        ≡ behind (cut p (take at piece)).whole (record { whole = ((cut p (take at piece)).pending ++ take (end - at) (drop at piece)) ∷ []; pending = [] })
    cut_up p l =
        let e = index_is in
        let d = length-drop at piece in
        let f : end + 1 ≡ at + (index_of line_feed (drop at piece) + 1) = omega arith in
        let g : end - at ≡ index_of line_feed (drop at piece) = omega arith in
        rw (
          f,
          take-add at (index_of line_feed (drop at piece) + 1) piece,
          pieces_do_not_matter p (take at piece) (take (index_of line_feed (drop at piece) + 1) (drop at piece)),
          cut_line (cut p (take at piece)).pending (drop at piece) (omega arith),
          g,
        )

    fed_up : (p : List ℕ) → end < length piece
        → fed p (take (end + 1) piece) ≡ fed p (take at piece) ++ answered ((cut p (take at piece)).pending ++ take (end - at) (drop at piece))
    unfolding flatten
    fed_up p l =
        let line = (cut p (take at piece)).pending ++ take (end - at) (drop at piece) in
        rw (cut_up p l, answered_join (cut p (take at piece)).whole (line ∷ []), append-nil (answered line))

    -- the rest of the piece, without a line feed
    cut-over : (p : List ℕ) → length piece ≤ end
        → cut p piece ≡ record { whole = (cut p (take at piece)).whole; pending = (cut p (take at piece)).pending ++ take (end - at) (drop at piece) }
    cut-over p l =
        let e = index_is in
        let d = length-drop at piece in
        let w = feeding.within in
        let m : length (drop at piece) ≤ end - at = omega arith in
        rw (take_all (end - at) (drop at piece) m)
        (ap (cut p) (sym (take-append-drop at piece)) ∙ pieces_do_not_matter p (take at piece) (drop at piece)
        ∙ rw (cut-rest (cut p (take at piece)).pending (drop at piece) (omega arith), append-nil (cut p (take at piece)).whole))

    pub feeding_line : {line' : Option (List ℕ)} {out' : List ℕ} {r next : ℕ} → end < length piece
        → length out' ≡ length out → r ≤ written + 11 → line' ≡ kept longest []
        → ((p : List ℕ) → line ≡ kept longest p → Put out written (answered (p ++ take (end - at) (drop at piece))) out' r)
        → next ≡ end + 1 + index_of line_feed (slice (end + 1) (length piece) piece) → next ≤ length piece
        → Feeding line₀ piece out₀ line' out' r (end + 1) next
    feeding_line l size kept none answer found within =
        record {
          same_size = size ∙ feeding.same_size;
          room = omega (arith, feeding.room, feeding.start);
          start = omega arith;
          within = within;
          found = found;
          follows =
              record {
                pending = λ p h. rw (cut_up p l) none;
                printed = λ p h. rw (fed_up p l, ← feeding.follows.printed p h)
                    (answer (cut p (take at piece)).pending (feeding.follows.pending p h)).front;
              };
        }

    pub feeding_end : {line' : Option (List ℕ)} → length piece ≤ end
        → ((p : List ℕ) → line ≡ kept longest p → line' ≡ kept longest (p ++ take (end - at) (drop at piece)))
        → Follows line₀ piece line' (take written out)
    feeding_end l longer =
        record {
          pending = λ p h. rw (cut-over p l) (longer (cut p (take at piece)).pending (feeding.follows.pending p h));
          printed = λ p h. rw (cut-over p l) (feeding.follows.printed p h);
        }

-- ---- the input

-- a piece was fed that stands at the front of what it was read into
pub next-fed : (line : Option (List ℕ)) (piece : List ℕ) (read : ℕ) {after : Option (List ℕ)} {text : List ℕ}
    → Follows line (take (read - 0) (drop 0 piece)) after text → Follows line (take read piece) after text
next-fed line piece read f = let z : read - 0 ≡ read = omega arith in rw z at f

pub input_stopped : {line : Option (List ℕ)} {text : List ℕ} {ok : Bool} → ok ≡ false → Leaves line → Answers ok line text
input_stopped f l = record { left = l; printed = λ t. clash t f }

pub input-ended : {line : Option (List ℕ)} {text : List ℕ} (ok : Bool) → Leaves line → ((p : List ℕ) → line ≡ kept longest p → text ≡ finished p) → Answers ok line text
input-ended ok l answer = record { left = l; printed = λ t. answer (cut [] l.input).pending l.pending }
