-- What goes from a reader to a writer, turn by turn.
use Rattle.std.specs.Prelude.{ℕ, ◌≡◌, List, [], ◌++◌, Option, Some, IfSome, refl}
use mathlib.Core.List.{flatten}
use Rattle.std.proofs.KnownBytes.{Appends-nil, Appends-trans, Consumes-nil, Consumes-trans, Consumes-whole}
use Rattle.std.specs.Io.KnownBytes.{Appends, Consumes, IsAtEnd}
use Rattle.lines.specs.Lines.{cut, kept}
use Rattle.lines.specs.LinesLaws.{pieces_do_not_matter}
use Rattle.otp_lines.specs.Stream.{output_of, fed, finished, longest, Follows, Passes}
use Rattle.otp_lines.specs.StreamLaws.{fed_pieces, stream_is_output}

pub passes_none : (known old : Option (List ℕ)) → Passes known known old old (Some [])
unfolding cut flatten
passes_none known old =
    record { input = []; taken = Consumes-nil known; pending = refl; printed = Appends-nil old }

pub passes_more : {known rest rest' old new new' line line' : Option (List ℕ)} {piece text : List ℕ}
    → Passes known rest old new line → Follows line piece line' text → Consumes rest rest' piece → Appends new new' text
    → Passes known rest' old new' line'
passes_more {known} {rest} {rest'} {old} {new} {new'} {piece = piece} {text = text} passes follows taken written =
    let p = (cut [] passes.input).pending in
    record {
      input = passes.input ++ piece;
      taken = Consumes-trans known rest rest' passes.input piece passes.taken taken;
      pending = rw (pieces_do_not_matter [] passes.input piece) (follows.pending p passes.pending);
      printed =
          rw (fed_pieces [] passes.input piece, ← follows.printed p passes.pending)
          (Appends-trans old new new' (fed [] passes.input) text passes.printed written);
    }

-- the end of the input prints what is left, and then all of its output stands behind what the writer held
pub passes_all : {known rest old new : Option (List ℕ)} (new' : Option (List ℕ)) {line : Option (List ℕ)} {text : List ℕ} → Passes known rest old new line → IsAtEnd rest
    → ((p : List ℕ) → line ≡ kept longest p → text ≡ finished p) → Appends new new' text → IfSome known (λ xs. Appends old new' (output_of xs))
passes_all {known} {rest} {old} {new} new' {text = text} passes end last written =
    let printed = Appends-trans old new new' (fed [] passes.input) text passes.printed written in
    Consumes-whole known rest passes.input (λ xs. Appends old new' (output_of xs)) passes.taken end
    (rw (← stream_is_output passes.input, ← last (cut [] passes.input).pending passes.pending) printed)
