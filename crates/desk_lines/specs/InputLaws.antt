-- What the functions over the pieces of the input, and over the whole of it, keep and return.
use Rattle.std.specs.Prelude.{ℕ, ◌+◌, ◌≤◌, ◌≡◌, refl, Bool, true, false, ◌||◌, not, Option, List, [], ◌++◌, length, take}
use Rattle.std.proofs.Common.{append-nil, arith}
use Rattle.lines.specs.Lines.{cut, last, kept}
use Rattle.lines.specs.LinesLaws.{lines_cut}
use Rattle.words.specs.BoolLaws.{clash}
use Rattle.window.specs.PasswordAt.{PasswordRule}
use Rattle.script.specs.Sizes.{longest}
use Rattle.script.specs.Script.{Stage, Serves, Follows}
use Rattle.script.specs.ScriptLaws.{served_join}
use Rattle.script.specs.FillLaws.{rest, rest-length, next-bytes}
use Rattle.desk_lines.specs.Input.{Advances, Leaves, ServesInput}
use Rattle.desk_lines.specs.AdvanceLaws.{follows-advances, advances-none, advances_join}

module _ (passwords : PasswordRule) where
  -- ---- a piece

  -- what the loop of `serve_piece` keeps
  pub record Serving (line₀ : Option (List ℕ)) (stage : Stage) (piece : List ℕ) (line : Option (List ℕ)) (after : Stage) (at : ℕ) : Type 0 where
    pub within : at ≤ length piece
    pub advances : Advances passwords line₀ (take at piece) line stage after

  pub serving_begin : (line : Option (List ℕ)) (stage : Stage) (piece : List ℕ) → Serving line stage piece line stage 0
  serving_begin line stage piece = record { within = omega arith; advances = advances-none passwords line stage }

  pub serving_more : {line₀ : Option (List ℕ)} {stage : Stage} {piece : List ℕ} {line : Option (List ℕ)} {after : Stage} {at : ℕ}
      → Serving line₀ stage piece line after at
      → {line' : Option (List ℕ)} {out out' : List ℕ} {used end : ℕ} {after' : Stage} → used ≤ length (rest piece at)
      → Follows passwords line (take used (rest piece at)) line' after after' out 0 out' end
      → Serving line₀ stage piece line' after' (at + used)
  serving_more {piece = piece} {at = at} serving {used = used} part f =
      let m = rest-length piece at in
      record {
        within = omega (arith, serving.within);
        advances = rw (next-bytes piece at used) (advances_join passwords serving.advances (follows-advances passwords f));
      }

  -- ---- the input

  -- the lines that were served are the first of the input
  pub input_stopped : {stage : Stage} {line : Option (List ℕ)} {after : Stage} → Leaves passwords stage line after → ServesInput passwords false stage after
  input_stopped l =
      record {
        input = l.input;
        lines = (cut [] l.input).whole;
        rest = last (cut [] l.input).pending;
        split = lines_cut l.input;
        all = λ t. clash t refl;
        staged = l.staged;
      }

  -- the end of the input ended the line that was pending, so that they are all of its lines
  pub input-ended : (ok : Bool) {stage : Stage} {line : Option (List ℕ)} {middle after : Stage} {out out' : List ℕ} {end : ℕ} → Leaves passwords stage line middle
      → ((p : List ℕ) → line ≡ kept longest p → Serves passwords (last p) middle after out 0 out' end) → ServesInput passwords ok stage after
  input-ended ok {stage} l finish =
      let p = (cut [] l.input).pending in
      let whole = (cut [] l.input).whole in
      record {
        input = l.input;
        lines = whole ++ last p;
        rest = [];
        split = rw (append-nil (whole ++ last p)) (lines_cut l.input);
        all = λ t. refl;
        staged = rw (served_join passwords whole (last p) stage, ← l.staged) (finish p l.pending).staged;
      }

  -- all lines were served, whatever became of the file then
  pub input_kept : (saved ok : Bool) {stage after : Stage} → ok ≡ true → ServesInput passwords ok stage after → ServesInput passwords saved stage after
  input_kept saved ok e s =
      record { input = s.input; lines = s.lines; rest = s.rest; split = s.split; all = λ _. s.all e; staged = s.staged }

  pub input_saved : (saved : Bool) (ok none : Bool) {stage after : Stage} → not ok || none ≡ false → ServesInput passwords ok stage after → ServesInput passwords saved stage after
  input_saved saved ok none e = input_kept saved ok (none-failed ok none e)
    where
      none-failed : (ok none : Bool) → not ok || none ≡ false → ok ≡ true
      none-failed true none e = refl
      none-failed false none e = clash refl e
