-- What goes from a reader to a writer, turn by turn.
use Rattle.std.specs.Prelude.{ℕ, ◌+◌, ◌≡◌, List, [], ◌++◌, take, Option, None, Some, IfSome}
use Rattle.std.proofs.Common.{refl}
use Rattle.std.proofs.KnownBytes.{Appends-nil, Appends-trans, Consumes-nil, Consumes-trans, Consumes-whole}
use Rattle.std.specs.Io.KnownBytes.{Appends, Consumes, IsAtEnd}
use Rattle.lines.specs.Lines.{lines_of, cut, last, kept}
use Rattle.lines.specs.LinesLaws.{pieces_do_not_matter, lines_cut}
use Rattle.window.specs.PasswordAt.{PasswordRule}
use Rattle.script.specs.Sizes.{longest}
use Rattle.script.specs.Script.{Stage, served_all, start, output_of, Serves, Follows}
use Rattle.script.specs.ScriptLaws.{served_join}
use Rattle.script.specs.FillLaws.{rest, next-bytes}
use Rattle.desk_lines.specs.Input.{Advances, Writes, Passes, ServesAll}

module _ (passwords : PasswordRule) where
  -- ---- a piece

  pub writes_none : (line : Option (List ℕ)) (stage : Stage) (old : Option (List ℕ)) → Writes passwords line [] stage old old
  unfolding cut served_all
  writes_none line stage old = record { printed = λ p h. Appends-nil old }

  -- lines were served to the front of the output, and that was written out
  front_printed : {lines : List (List ℕ)} {stage after : Stage} {out out' : List ℕ} {end : ℕ} (old new : Option (List ℕ))
      → Serves passwords lines stage after out 0 out' end → Appends old new (take end out') → Appends old new (served_all passwords lines stage).text
  front_printed old new serves written = rw serves.printed.front at written

  pub writes_more : {line line' line'' : Option (List ℕ)} {out out' : List ℕ} {end : ℕ} (piece : List ℕ) (at used : ℕ) {stage middle after : Stage} {old new : Option (List ℕ)} (new' : Option (List ℕ))
      → Writes passwords line (take at piece) stage old new → Advances passwords line (take at piece) line' stage middle
      → Follows passwords line' (take used (rest piece at)) line'' middle after out 0 out' end → Appends new new' (take end out')
      → Writes passwords line (take (at + used) piece) stage old new'
  writes_more piece at used {stage} {old = old} {new} new' writes advances follows written =
      record {
        printed = λ p h.
            let a = take at piece in
            let b = take used (rest piece at) in
            let q = (cut p a).pending in
            let next = front_printed new new' (follows.serving q (advances.pending p h)) written in
            rw (
              next-bytes piece at used,
              pieces_do_not_matter p a b,
              served_join passwords (cut p a).whole (cut q b).whole stage,
              ← advances.staged p h,
            )
            (Appends-trans old new new' _ _ (writes.printed p h) next);
      }

  -- ---- all turns

  pub passes_none : (known old : Option (List ℕ)) (stage : Stage) → Passes passwords known known old old stage (Some []) stage
  unfolding cut served_all
  passes_none known old stage =
      record { input = []; taken = Consumes-nil known; pending = refl; printed = Appends-nil old; staged = refl }

  pub passes_more : {known rest rest' old new new' : Option (List ℕ)} {line line' : Option (List ℕ)} {piece : List ℕ} {stage middle after : Stage}
      → Passes passwords known rest old new stage line middle → Advances passwords line piece line' middle after
      → Writes passwords line piece middle new new' → Consumes rest rest' piece
      → Passes passwords known rest' old new' stage line' after
  passes_more {known} {rest} {rest'} {old} {new} {new'} {piece = piece} {stage} passes advances writes taken =
      let p = (cut [] passes.input).pending in
      let whole = (cut [] passes.input).whole in
      record {
        input = passes.input ++ piece;
        taken = Consumes-trans known rest rest' passes.input piece passes.taken taken;
        pending = rw (pieces_do_not_matter [] passes.input piece) (advances.pending p passes.pending);
        printed =
            rw (pieces_do_not_matter [] passes.input piece, served_join passwords whole (cut p piece).whole stage, ← passes.staged)
            (Appends-trans old new new' _ _ passes.printed (writes.printed p passes.pending));
        staged =
            rw (pieces_do_not_matter [] passes.input piece, served_join passwords whole (cut p piece).whole stage, ← passes.staged)
            (advances.staged p passes.pending);
      }

  -- the end of the input ends the line that was pending, and then all of its lines are served
  pub passes_all : {known rest old new : Option (List ℕ)} (new' : Option (List ℕ)) {line : Option (List ℕ)} {out out' : List ℕ} {end : ℕ} {stage middle after : Stage}
      → Passes passwords known rest old new stage line middle → IsAtEnd rest
      → ((p : List ℕ) → line ≡ kept longest p → Serves passwords (last p) middle after out 0 out' end) → Appends new new' (take end out')
      → ServesAll passwords known old new' stage after
  passes_all {known} {rest} {old} {new} new' {stage = stage} {after = after} passes end finish written =
      let p = (cut [] passes.input).pending in
      let whole = (cut [] passes.input).whole in
      let serves = finish p passes.pending in
      Consumes-whole known rest passes.input
      (λ xs. Appends old new' (served_all passwords (lines_of xs) stage).text × (after ≡ (served_all passwords (lines_of xs) stage).stage))
      passes.taken end (
        rw (lines_cut passes.input, served_join passwords whole (last p) stage, ← passes.staged)
            (Appends-trans old new new' _ _ passes.printed (front_printed new new' serves written)),
        rw (lines_cut passes.input, served_join passwords whole (last p) stage, ← passes.staged) serves.staged,
      )

  pub output_printed : (known old new : Option (List ℕ)) (after : Stage) → ServesAll passwords known old new start after
      → IfSome known (λ xs. Appends old new (output_of passwords xs))
  unfolding output_of
  output_printed None old new after serves = tt
  output_printed (Some xs) old new after serves = serves.0
