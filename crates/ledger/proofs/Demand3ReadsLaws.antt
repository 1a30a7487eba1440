-- The proofs of the third demand for what is read into calls.
use Rattle.token.specs.Answers.{Answer}
use Rattle.std.specs.Prelude.{ℕ, ◌*◌, ◌≡◌, replicate}
use Rattle.std.proofs.Math.Path.{refl}
use Rattle.std.proofs.Common.{ap, ◌∙◌}
use mathlib.Core.List.{List, [], ◌∷◌}
use Rattle.words.specs.BoolLaws.{clash}
use Rattle.window.specs.PasswordAt.{PasswordRule}
use Rattle.row.specs.Row.{row_bytes}
use Rattle.desk.specs.Desk.{Run, desk_after, run}
use Rattle.desk.specs.Reads.{Reads, read_after}
use Rattle.ledger.specs.Demand3.{answers_of, accepted_steps, AfterVoid}
use Rattle.ledger.proofs.Demand3Laws.{demand_3, steps_rise, void_accepts_nothing}
use Rattle.ledger.specs.ReadRuns.{run_reads, calls_in, in_place, with_refusals}
use Rattle.ledger.specs.Demand3Reads.{ReadsAreCalls, Demand3Reads, answers_to, steps_accepted, ReadStepsRise, BehindVoid, ReadVoidAcceptsNothing}

pub reads-are-calls : ReadsAreCalls
unfolding read_after run_reads run in_place
reads-are-calls passwords [] s = refl
reads-are-calls passwords (Reads.serves call ∷ asked) s = rw (reads-are-calls passwords asked (desk_after passwords call s).table)
reads-are-calls passwords (Reads.refuses refusal ∷ asked) s = rw (reads-are-calls passwords asked s)

pub demand_3_reads : Demand3Reads
demand_3_reads passwords rows some few asked =
    reads-are-calls passwords asked (replicate {A = ℕ} (row_bytes * rows) 0) ∙ ap (with_refusals asked) (demand_3 passwords rows some few (calls_in asked))

-- ---- the answers in their places

module _ (serial : ℕ) where
  -- a refusal accepts no step
  steps_in_place : (asked : List Reads) (answers : List Answer) → steps_accepted serial asked (in_place asked answers) ≡ accepted_steps serial (calls_in asked) answers
  unfolding steps_accepted in_place accepted_steps
  steps_in_place [] answers = refl
  steps_in_place (Reads.refuses refusal ∷ asked) answers = steps_in_place asked answers
  steps_in_place (Reads.serves call ∷ asked) [] = refl
  steps_in_place (Reads.serves call ∷ asked) (answer ∷ answers) = rw (steps_in_place asked answers)

  -- nor does it make a token void
  void_in_place : (asked : List Reads) (answers : List Answer)
      → AfterVoid serial (λ later given. accepted_steps serial later given ≡ []) (calls_in asked) answers
      → BehindVoid serial (λ later given. steps_accepted serial later given ≡ []) asked (in_place asked answers)
  unfolding in_place
  void_in_place [] answers h = tt
  void_in_place (Reads.refuses refusal ∷ asked) answers h = (λ t. clash t refl, void_in_place asked answers h)
  void_in_place (Reads.serves call ∷ asked) [] h = tt
  void_in_place (Reads.serves call ∷ asked) (answer ∷ answers) h = (λ t. steps_in_place asked answers ∙ h.0 t, void_in_place asked answers h.1)

answers_in_place : (passwords : PasswordRule) (rows : ℕ) (asked : List Reads) → answers_to passwords rows asked ≡ in_place asked (answers_of passwords rows (calls_in asked))
answers_in_place passwords rows asked = ap (λ (r : Run). r.answers) (reads-are-calls passwords asked (replicate {A = ℕ} (row_bytes * rows) 0))

pub read-steps_rise : ReadStepsRise
read-steps_rise passwords rows some few asked serial =
    rw (answers_in_place passwords rows asked, steps_in_place serial asked (answers_of passwords rows (calls_in asked))) (steps_rise passwords rows some few (calls_in asked) serial)

pub read-void_accepts_nothing : ReadVoidAcceptsNothing
read-void_accepts_nothing passwords rows some few asked serial =
    rw (answers_in_place passwords rows asked)
    (void_in_place serial asked (answers_of passwords rows (calls_in asked)) (void_accepts_nothing passwords rows some few (calls_in asked) serial))
