-- The pending line and the table after pieces of the input, whatever became of what was printed.
use Rattle.std.specs.Prelude.{ℕ, ◌≡◌, Option, Some, List, [], ◌++◌}
use Rattle.std.proofs.Math.Path.{refl}
use Rattle.lines.specs.Lines.{cut}
use Rattle.lines.specs.LinesLaws.{pieces_do_not_matter}
use Rattle.window.specs.PasswordAt.{PasswordRule}
use Rattle.script.specs.Script.{Stage, served_all, Follows}
use Rattle.script.specs.ScriptLaws.{served_join}
use Rattle.desk_lines.specs.Input.{Advances, Leaves}

module _ (passwords : PasswordRule) where
  pub follows-advances : {line line' : Option (List ℕ)} {piece : List ℕ} {stage after : Stage} {out out' : List ℕ} {at end : ℕ}
      → Follows passwords line piece line' stage after out at out' end → Advances passwords line piece line' stage after
  follows-advances f = record { pending = f.pending; staged = λ p h. (f.serving p h).staged }

  pub advances-none : (line : Option (List ℕ)) (stage : Stage) → Advances passwords line [] line stage stage
  unfolding cut served_all
  advances-none line stage = record { pending = λ p h. h; staged = λ p h. refl }

  -- the table after one piece and then another
  staged_join : (p a b : List ℕ) (stage : Stage) {middle after : Stage} → middle ≡ (served_all passwords (cut p a).whole stage).stage
      → after ≡ (served_all passwords (cut (cut p a).pending b).whole middle).stage → after ≡ (served_all passwords (cut p (a ++ b)).whole stage).stage
  staged_join p a b stage e f = rw (pieces_do_not_matter p a b, served_join passwords (cut p a).whole (cut (cut p a).pending b).whole stage, ← e) f

  pub advances_join : {line line₁ line₂ : Option (List ℕ)} {a b : List ℕ} {stage middle after : Stage}
      → Advances passwords line a line₁ stage middle → Advances passwords line₁ b line₂ middle after
      → Advances passwords line (a ++ b) line₂ stage after
  advances_join {a = a} {b} {stage = stage} f g =
      record {
        pending = λ p h. rw (pieces_do_not_matter p a b) (g.pending (cut p a).pending (f.pending p h));
        staged = λ p h. staged_join p a b stage (f.staged p h) (g.staged (cut p a).pending (f.pending p h));
      }

  pub leaves_none : (stage : Stage) → Leaves passwords stage (Some []) stage
  unfolding cut served_all
  leaves_none stage = record { input = []; pending = refl; staged = refl }

  -- a piece behind the input so far
  pub leaves_more : {line line' : Option (List ℕ)} {piece : List ℕ} {stage middle after : Stage}
      → Leaves passwords stage line middle → Advances passwords line piece line' middle after → Leaves passwords stage line' after
  leaves_more {piece = piece} {stage = stage} l f =
      let p = (cut [] l.input).pending in
      record {
        input = l.input ++ piece;
        pending = rw (pieces_do_not_matter [] l.input piece) (f.pending p l.pending);
        staged = staged_join [] l.input piece stage l.staged (f.staged p l.pending);
      }
