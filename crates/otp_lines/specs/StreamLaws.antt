-- What is printed at the ends of lines and of the input, and that it never changes with how the input is cut into pieces.
use Rattle.std.specs.Prelude.{ℕ, ◌≡◌, refl, Option, Some}
use mathlib.Core.List.{List, [], ◌∷◌, ◌++◌, flatten, append_assoc}
use Rattle.text.specs.Text.{fields_of}
use Rattle.password_lines.specs.Line.{line_answer, refusal}
use Rattle.lines.specs.Lines.{line_feed, lines_of, cut, last, kept}
use Rattle.lines.specs.LinesLaws.{pieces_do_not_matter, lines_cut}
use Rattle.otp_lines.specs.Stream.{answered, answered_all, output_of, fed, finished, longest, Follows, Leaves}

pub nothing_printed : output_of [] ≡ []
unfolding output_of lines_of flatten
nothing_printed = refl

-- an empty line is refused
pub empty-line : answered [] ≡ refusal ++ (line_feed ∷ [])
unfolding line_answer fields_of
empty-line = refl

pub answered_join : (a b : List (List ℕ)) → answered_all (a ++ b) ≡ answered_all a ++ answered_all b
unfolding flatten
answered_join [] b = refl
answered_join (line ∷ a) b = rw (answered_join a b, append_assoc (answered line) (answered_all a) (answered_all b))

-- two pieces print what they print as one
pub fed_pieces : (p a b : List ℕ) → fed p (a ++ b) ≡ fed p a ++ fed (cut p a).pending b
fed_pieces p a b = rw (pieces_do_not_matter p a b) (answered_join (cut p a).whole (cut (cut p a).pending b).whole)

-- the input in one piece, and then its end, prints the output
pub stream_is_output : (input : List ℕ) → fed [] input ++ finished (cut [] input).pending ≡ output_of input
unfolding output_of
stream_is_output input = rw (lines_cut input, answered_join (cut [] input).whole (last (cut [] input).pending))

-- ---- what the calls of `feed` and `finish` say together

pub follows-none : (line : Option (List ℕ)) → Follows line [] line []
unfolding cut flatten
follows-none line = record { pending = λ p h. h; printed = λ p h. refl }

pub follows_join : {line middle after : Option (List ℕ)} {a b t u : List ℕ}
    → Follows line a middle t → Follows middle b after u → Follows line (a ++ b) after (t ++ u)
follows_join {a = a} {b} f g =
    record {
      pending = λ p h. rw (pieces_do_not_matter p a b) (g.pending (cut p a).pending (f.pending p h));
      printed = λ p h. rw (fed_pieces p a b, f.printed p h, g.printed (cut p a).pending (f.pending p h));
    }

-- from where nothing is pending to the end of the input the output is printed
pub follows_output : {input : List ℕ} {after : Option (List ℕ)} {text last : List ℕ}
    → Follows (Some []) input after text → ((p : List ℕ) → after ≡ kept longest p → last ≡ finished p) → text ++ last ≡ output_of input
follows_output {input} f g =
    rw (f.printed [] refl, g (cut [] input).pending (f.pending [] refl)) (stream_is_output input)

-- ---- what the loop over the pieces keeps

pub leaves_none : Leaves (Some [])
unfolding cut
leaves_none = record { input = []; pending = refl }

-- a piece behind the input so far
pub leaves_more : {line after : Option (List ℕ)} {piece text : List ℕ} → Leaves line → Follows line piece after text → Leaves after
leaves_more {piece = piece} l f =
    record {
      input = l.input ++ piece;
      pending = rw (pieces_do_not_matter [] l.input piece) (f.pending (cut [] l.input).pending l.pending);
    }
