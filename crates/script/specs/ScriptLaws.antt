-- What is printed does not change with how the input is cut into pieces, nor with when what was printed so far is written out.
use Rattle.std.specs.Prelude.{ℕ, ◌≡◌, take, Option, Some}
use Rattle.std.proofs.Math.Path.{refl, ap}
use Rattle.std.proofs.Common.{sym, ◌∙◌, arith}
use mathlib.Core.List.{List, [], ◌∷◌, ◌++◌, append_assoc, append-nil}
use Rattle.lines.specs.Lines.{cut, last, kept, Put}
use Rattle.lines.specs.LinesLaws.{pieces_do_not_matter, lines_cut}
use Rattle.lines.specs.BufferLaws.{put_join}
use Rattle.window.specs.PasswordAt.{PasswordRule}
use Rattle.script.specs.Sizes.{longest}
use Rattle.script.specs.Script.{Stage, following, served, served_all, start, output_of, Serves, Follows}

module _ (passwords : PasswordRule) where
  -- lines behind others
  pub served_join : (a b : List (List ℕ)) (stage : Stage)
      → served_all passwords (a ++ b) stage ≡ following (served_all passwords a stage).text (served_all passwords b (served_all passwords a stage).stage)
  unfolding served_all
  served_join [] b stage = refl
  served_join (line ∷ a) b stage =
      let first = served passwords line stage in
      let rest = served_all passwords a first.stage in
      rw (served_join a b first.stage, append_assoc first.text rest.text (served_all passwords b rest.stage).text)

  served-one : (line : List ℕ) (stage : Stage) → served_all passwords (line ∷ []) stage ≡ served passwords line stage
  unfolding served_all
  served-one line stage = rw (append-nil (served passwords line stage).text)

  -- a line was served
  pub serves-one : {line : List ℕ} {stage after : Stage} {out out' : List ℕ} {at end : ℕ}
      → Put out at (served passwords line stage).text out' end → after ≡ (served passwords line stage).stage
      → Serves passwords (line ∷ []) stage after out at out' end
  serves-one {line} {stage} put staged = record { printed = rw (served-one line stage) put; staged = rw (served-one line stage) staged }

  -- none was
  pub serves-none : (stage : Stage) (out : List ℕ) (at : ℕ) → Serves passwords [] stage stage out at out at
  unfolding served_all
  serves-none stage out at = record { printed = record { place = omega arith; front = rw (append-nil (take at out)) }; staged = refl }

  pub serves_join : {a b : List (List ℕ)} {stage middle after : Stage} {out out₁ out₂ : List ℕ} {at end stop : ℕ}
      → Serves passwords a stage middle out at out₁ end → Serves passwords b middle after out₁ end out₂ stop
      → Serves passwords (a ++ b) stage after out at out₂ stop
  serves_join {a} {b} {stage} f g =
      record {
        printed = rw (served_join a b stage, ← f.staged) (put_join f.printed g.printed);
        staged = rw (served_join a b stage, ← f.staged) g.staged;
      }

  pub follows-none : (line : Option (List ℕ)) (stage : Stage) (out : List ℕ) (at : ℕ) → Follows passwords line [] line stage stage out at out at
  unfolding cut
  follows-none line stage out at = record { pending = λ p h. h; serving = λ p h. serves-none stage out at }

  pub follows_join : {line line₁ line₂ : Option (List ℕ)} {a b : List ℕ} {stage middle after : Stage} {out out₁ out₂ : List ℕ} {at end stop : ℕ}
      → Follows passwords line a line₁ stage middle out at out₁ end → Follows passwords line₁ b line₂ middle after out₁ end out₂ stop
      → Follows passwords line (a ++ b) line₂ stage after out at out₂ stop
  follows_join {a = a} {b} f g =
      record {
        pending = λ p h. rw (pieces_do_not_matter p a b) (g.pending (cut p a).pending (f.pending p h));
        serving = λ p h. rw (pieces_do_not_matter p a b) (serves_join (f.serving p h) (g.serving (cut p a).pending (f.pending p h)));
      }

  -- what the lines printed since the output was last written out stands at its front
  pub served-text : {lines : List (List ℕ)} {stage after : Stage} {out out' : List ℕ} {end : ℕ}
      → Serves passwords lines stage after out 0 out' end → take end out' ≡ (served_all passwords lines stage).text
  served-text f = f.printed.front

  -- what was written out before and after is written one behind the other
  pub written_join : {a b : List (List ℕ)} {stage middle after : Stage} {out out₁ out₂ out₃ : List ℕ} {end stop : ℕ}
      → Serves passwords a stage middle out 0 out₁ end → Serves passwords b middle after out₂ 0 out₃ stop
      → take end out₁ ++ take stop out₃ ≡ (served_all passwords (a ++ b) stage).text
  written_join {a} {b} {stage} f g = rw (served_join a b stage, ← f.staged, served-text f, served-text g)

  -- from an empty buffer to the end of the input the output is printed
  pub follows_output : {input : List ℕ} {line' : Option (List ℕ)} {middle after : Stage} {out out₁ out₂ out₃ : List ℕ} {end stop : ℕ}
      → Follows passwords (Some []) input line' start middle out 0 out₁ end
      → ((p : List ℕ) → line' ≡ kept longest p → Serves passwords (last p) middle after out₂ 0 out₃ stop)
      → take end out₁ ++ take stop out₃ ≡ output_of passwords input
  unfolding output_of
  follows_output {input} f g =
      written_join (f.serving [] refl) (g (cut [] input).pending (f.pending [] refl))
      ∙ ap (λ (ls : List (List ℕ)). (served_all passwords ls start).text) (sym (lines_cut input))
