-- What is given and left, from its parts.
use Rattle.std.specs.Prelude.{ℕ, ◌≡◌, refl, Bool, true, false, ◌&&◌, cond, eqb, Result, Ok, Err, List, ◌++◌, length, drop, leb}
use Rattle.std.proofs.Math.Path.{sym}
use borrow.Author.Tests.{eqb-true}
use Rattle.words.specs.Codes.{done, bad_argument}
use Rattle.words.specs.Output.{Left, stored, answer_left}
use Rattle.words.specs.declared.codes.BadArgument.{BadArgument}
use Rattle.capi.specs.Stored.{left, code_left, out_left}

pub left_both : {l : Left} {code : ℕ} {out : List ℕ} → (code ≡ l.code) × (out ≡ l.out) → left code out ≡ l
left_both e = rw (e.0, e.1)

-- code and output by the same test
by_test : (b : Bool) (put out : List ℕ) → left (cond b done bad_argument) (cond b put out) ≡ cond b (left done put) (left bad_argument out)
by_test true put out = refl
by_test false put out = refl

-- the same of a result that is stored
pub left_answer : (made : Result (List ℕ) BadArgument) (out : List ℕ) {code : ℕ} {after : List ℕ} → code ≡ code_left made out → after ≡ out_left made out
    → left code after ≡ answer_left made out
unfolding answer_left stored
left_answer (Ok made) out ec eo = rw (ec, eo) (by_test (leb (length made) (length out)) (made ++ drop (length made) out) out)
left_answer (Err refusal) out ec eo = rw (ec, eo)

-- a result that is not stored is a bad argument
pub stored_not : (code : ℕ) (result out : List ℕ) → false ≡ eqb (stored code result out).code done → bad_argument ≡ (stored code result out).code
unfolding stored
stored_not code result out = by_cases (eqb code done && leb (length result) (length out))
  where
    by_cases : (b : Bool) → false ≡ eqb (cond b (left done (result ++ drop (length result) out)) (left bad_argument out)).code done
        → bad_argument ≡ (cond b (left done (result ++ drop (length result) out)) (left bad_argument out)).code
    by_cases true e = absurd (cc)
    by_cases false e = refl

-- what is done has its code
pub coded : (code : ℕ) → true ≡ eqb code done → done ≡ code
coded code e = sym (eqb-true code done (sym e))
