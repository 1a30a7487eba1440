-- What the functions on lines and pieces return, over what the functions that they call ensure.
use Rattle.std.specs.Prelude.{ℕ, ◌+◌, ◌*◌, ◌/◌, ◌≤◌, ◌<◌, ◌≡◌, Bool, cond, take, drop, set, replicate}
use Rattle.std.proofs.Math.Path.{refl, sym, ap}
use Rattle.std.proofs.Common.{◌∙◌, length-take-le, take_at}
use Rattle.std.proofs.Math.Bool.{true, false}
use mathlib.Core.List.{List, [], ◌∷◌, ◌++◌, append-nil}
use Rattle.std.specs.Prelude.{Option, None, Some}
use native.Mathlib.Omega.{arith}
use Rattle.std.proofs.lemmas.Bool.{lt-leb}
use Rattle.std.proofs.Math.ListN.{length}
use Rattle.std.proofs.lemmas.List.{length-replicate}
use Rattle.std.proofs.Math.Seq.{take-length}
use Rattle.words.specs.ListsLaws.{same_lengths}
use Rattle.words.specs.BoolLaws.{by-test, either}
use Rattle.lines.specs.Lines.{line_feed, cut, last, kept, Put}
use Rattle.lines.specs.LinesLaws.{cut_line, cut-rest}
use Rattle.lines.specs.BufferLaws.{kept-line, kept-long}
use Rattle.words.specs.Search.{index_of, slice}
use Rattle.window.specs.PasswordAt.{PasswordRule}
use Rattle.row.specs.Row.{row_bytes}
use Rattle.call_lines.specs.Line.{line_after, Printing, left}
use Rattle.call_lines.specs.LineLaws.{not_made_lem, line-long}
use Rattle.script.specs.Script.{rows_text, rows_of, is_table, Stage, Served, serves, later_line, first_line, served, stage_in, Serves, Follows}
use Rattle.script.specs.ScriptLaws.{serves-one, serves-none}
use Rattle.script.specs.RowsLaws.{line-put}
use Rattle.script.specs.Sizes.{longest}

-- ---- a line's answer

module _ (passwords : PasswordRule) (line s : List ℕ) {text after : List ℕ} (answered : left text after ≡ line_after passwords line s) where
  pub answer-left : after ≡ (line_after passwords line s).table
  answer-left = ap (λ (l : Printing). l.table) answered

  pub answer-put : {out out' : List ℕ} {at end : ℕ} → Put out at text out' end → end < length out'
      → Put out at ((line_after passwords line s).text ++ (line_feed ∷ [])) (set out' end line_feed) (end + 1)
  answer-put put l = rw (← answered) (line-put put l)

-- ---- a line that is not the first, or no `rows` line

module _ (passwords : PasswordRule) (line s : List ℕ) where
  later-stage : (later_line passwords line s).stage ≡ record { fresh = false; table = (later_line passwords line s).stage.table }
  unfolding later_line
  later-stage = either (λ (r : Served). r.stage ≡ record { fresh = false; table = r.stage.table }) (is_table line) refl refl

  module _ (rows : ℕ) {right : Bool} (whole : row_bytes * rows ≡ length s) (same : right ≡ is_table line) where
    later-table : right ≡ true → later_line passwords line s ≡ serves (rows_text rows s) s
    unfolding later_line
    later-table t =
        let is : is_table line ≡ true = sym same ∙ t in
        let count : length s / row_bytes ≡ rows = rw (← whole) (omega arith) in
        rw (is, count)

    later-call : right ≡ false → later_line passwords line s ≡ serves ((line_after passwords line s).text ++ (line_feed ∷ [])) (line_after passwords line s).table
    unfolding later_line
    later-call f = let is : is_table line ≡ false = sym same ∙ f in rw is

    pub table-printed : {out out' : List ℕ} {at end : ℕ} → right ≡ true → Put out at (rows_text rows s) out' end
        → Put out at (later_line passwords line s).text out' end × (s ≡ (later_line passwords line s).stage.table)
    table-printed t put = rw (later-table t) (put, refl)

    pub call-printed : {out out' after : List ℕ} {at end : ℕ} → right ≡ false
        → Put out at ((line_after passwords line s).text ++ (line_feed ∷ [])) out' end → after ≡ (line_after passwords line s).table
        → Put out at (later_line passwords line s).text out' end × (after ≡ (later_line passwords line s).stage.table)
    call-printed f put left = rw (later-call f) (put, left)

-- ---- a line

module _ (passwords : PasswordRule) (fresh : Bool) (rows : ℕ) (line table : List ℕ) {asked : Option ℕ} (ask : asked ≡ cond fresh (rows_of line) None) where
  served-by : served passwords line (stage_in fresh rows table) ≡ first_line passwords asked line (take (row_bytes * rows) table)
  unfolding served
  served-by =
      by-test fresh
      (λ t. let e : asked ≡ rows_of line = rw t at ask in rw (t, e))
      (λ f. let e : asked ≡ None = rw f at ask in rw (f, e))

  pub rows_made : (out : List ℕ) (at : ℕ) {n : ℕ} {part : List ℕ} → asked ≡ Some n → row_bytes * n ≤ length table
      → part ≡ replicate (length (take (row_bytes * n) table)) 0
      → Serves passwords (line ∷ []) (stage_in fresh rows table) (stage_in false n (part ++ drop (row_bytes * n) table)) out at out at
  rows_made out at {n} {part} e room cleared =
      let zeros : part ≡ replicate (row_bytes * n) 0 = rw (length-take-le (row_bytes * n) table room) at cleared in
      let long : length part ≡ row_bytes * n = ap length zeros ∙ length-replicate (row_bytes * n) 0 in
      let first : served passwords line (stage_in fresh rows table) ≡ serves [] (replicate (row_bytes * n) 0) = rw (served-by, e) in
      serves-one passwords
      (rw first (record { place = omega arith; front = rw (append-nil (take at out)) }))
      (rw (first, take_at part (drop (row_bytes * n) table) (row_bytes * n) long, zeros))

  abbrev later : List ℕ → Stage
  later t = record { fresh = false; table = t }

  pub line_made : {out out' part : List ℕ} {at end : ℕ} → asked ≡ None → row_bytes * rows ≤ length table → length part ≡ length (take (row_bytes * rows) table)
      → Put out at (later_line passwords line (take (row_bytes * rows) table)).text out' end
      → part ≡ (later_line passwords line (take (row_bytes * rows) table)).stage.table
      → Serves passwords (line ∷ []) (stage_in fresh rows table) (stage_in false rows (part ++ drop (row_bytes * rows) table)) out at out' end
  line_made {part = part} e room kept put left =
      let long : length part ≡ row_bytes * rows = kept ∙ length-take-le (row_bytes * rows) table room in
      let unasked : served passwords line (stage_in fresh rows table) ≡ later_line passwords line (take (row_bytes * rows) table) = rw (served-by, e) in
      serves-one passwords
      (rw unasked put)
      (rw (unasked, later-stage passwords line (take (row_bytes * rows) table), take_at part (drop (row_bytes * rows) table) (row_bytes * rows) long) (ap (λ (t : List ℕ). later t) left))

-- ---- the pending line

abbrev refusal_text : List ℕ
refusal_text = 0x39 ∷ 0x30 ∷ 0x30 ∷ 0x35 ∷ line_feed ∷ []

module _ (passwords : PasswordRule) (p : List ℕ) (held : None ≡ kept longest p) where
  long-served : (stage : Stage) → served passwords p stage ≡ serves refusal_text stage.table
  unfolding served later_line rows_of
  long-served stage =
      let m = kept-long longest p held in
      let other : is_table p ≡ false = same_lengths p (0x74 ∷ 0x61 ∷ 0x62 ∷ 0x6c ∷ 0x65 ∷ []) (λ e. absurd (omega arith)) in
      rw (lt-leb (length p) 4096 m, other, not_made_lem passwords p stage.table (line-long p m)) (either (λ (r : Served). r ≡ serves refusal_text stage.table) stage.fresh refl refl)

  pub pending-long : (fresh : Bool) (rows : ℕ) (table : List ℕ) {out out' : List ℕ} {at end : ℕ} → Put out at refusal_text out' end
      → Serves passwords (p ∷ []) (stage_in fresh rows table) (stage_in false rows table) out at out' end
  pending-long fresh rows table put =
      serves-one passwords (rw (long-served (stage_in fresh rows table)) put) (rw (long-served (stage_in fresh rows table)))

pub pending-short : (passwords : PasswordRule) {line : List ℕ} (p : List ℕ) → Some line ≡ kept longest p → {stage after : Stage} {out out' : List ℕ} {at end : ℕ}
    → Serves passwords (line ∷ []) stage after out at out' end → Serves passwords (p ∷ []) stage after out at out' end
pending-short passwords p held f = rw (← kept-line longest p held) f

-- ---- a piece of the input

module _ (passwords : PasswordRule) (line : Option (List ℕ)) (piece : List ℕ) {found : ℕ} (index : found ≡ 0 + index_of line_feed (slice 0 (length piece) piece))
    {line' : Option (List ℕ)} (longer : (p : List ℕ) → line ≡ kept longest p → line' ≡ kept longest (p ++ take found piece)) where
  index_is : found ≡ index_of line_feed piece
  unfolding slice
  index_is = let e : found ≡ 0 + index_of line_feed piece = rw take-length at index in omega arith

  pub piece_pending : (stage : Stage) (out : List ℕ) (at : ℕ) → found ≡ length piece
      → Follows passwords line (take found piece) line' stage stage out at out at
  piece_pending stage out at e =
      let all : take found piece ≡ piece = rw (e, take-length) in
      let over : (p : List ℕ) → cut p piece ≡ record { whole = []; pending = p ++ piece } = λ p. cut-rest p piece (sym index_is ∙ e) in
      record {
        pending = λ p h. rw (all, over p) (rw all at (longer p h));
        serving = λ p h. rw (all, over p) (serves-none passwords stage out at);
      }

  pub piece_line : {stage after : Stage} {out out' : List ℕ} {at end : ℕ} → found < length piece
      → ((p : List ℕ) → line' ≡ kept longest p → Serves passwords (p ∷ []) stage after out at out' end)
      → Follows passwords line (take (found + 1) piece) (Some []) stage after out at out' end
  piece_line l answer =
      let i = index_is in
      let up : (p : List ℕ) → cut p (take (found + 1) piece) ≡ record { whole = (p ++ take found piece) ∷ []; pending = [] } = λ p. rw i (cut_line p piece (rw i at l)) in
      record {
        pending = λ p h. rw (up p) refl;
        serving = λ p h. rw (up p) (answer (p ++ take found piece) (longer p h));
      }

-- ---- the end of the input

module _ (passwords : PasswordRule) {line : Option (List ℕ)} where
  pub end_none : (stage : Stage) (out : List ℕ) (p : List ℕ) → line ≡ kept longest p → line ≡ Some [] → Serves passwords (last p) stage stage out 0 out 0
  unfolding last
  end_none stage out p held z = rw (← kept-line longest p (sym z ∙ held)) (serves-none passwords stage out 0)

  pub end_line : {stage after : Stage} {out out' : List ℕ} {end : ℕ} (p : List ℕ) → line ≡ kept longest p → (line ≡ Some [] → ⊥)
      → Serves passwords (p ∷ []) stage after out 0 out' end → Serves passwords (last p) stage after out 0 out' end
  unfolding last
  end_line [] held z f = absurd (z held)
  end_line (b ∷ p) held z f = f
