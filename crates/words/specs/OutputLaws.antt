-- The ways through a store.
use Rattle.std.specs.Prelude.{ℕ, Result, Ok, Err, ◌≤◌, ◌<◌, ◌≡◌, refl, List, ◌++◌, length, drop}
use borrow.Author.Tests.{eq-eqb, ne_eqb, le-leb, lt-leb}
use Rattle.words.specs.Codes.{done, bad_argument}
use Rattle.words.specs.declared.codes.BadArgument.{BadArgument}
use Rattle.words.specs.Output.{Left, stored, answer_left}

module _ (code : ℕ) (result out : List ℕ) where
  pub stored-refusal : (code ≡ done → ⊥) → (bad_argument ≡ (stored code result out).code) × (out ≡ (stored code result out).out)
  unfolding stored
  stored-refusal h = rw (ne_eqb code done h) (refl, refl)

  pub stored_short : code ≡ done → length out < length result
      → (bad_argument ≡ (stored code result out).code) × (out ≡ (stored code result out).out)
  unfolding stored
  stored_short e h = rw (eq-eqb code done e, lt-leb (length result) (length out) h) (refl, refl)

  pub stored-whole : {after : List ℕ} → code ≡ done → length result ≤ length out → after ≡ result ++ drop (length result) out
      → (done ≡ (stored code result out).code) × (after ≡ (stored code result out).out)
  unfolding stored
  stored-whole e h p = rw (eq-eqb code done e, le-leb (length result) (length out) h) (refl, p)

-- an answer that is a result, and one that is a refusal
module _ {answer : Result (List ℕ) BadArgument} (out : List ℕ) where
  pub left-given : {result : List ℕ} → answer ≡ Ok result → stored done result out ≡ answer_left answer out
  unfolding answer_left
  left-given e = rw e

  pub left-refused : {refusal : BadArgument} → answer ≡ Err refusal → ◌≡◌ {A = Left} (record { code = bad_argument; out = out }) (answer_left answer out)
  unfolding answer_left
  left-refused e = rw e
