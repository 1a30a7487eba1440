-- What a function that stores its result in a lent output leaves there.
use Rattle.std.specs.Prelude.{ℕ, Result, Ok, Err, ◌&&◌, cond, List, ◌++◌, eqb, leb, length, drop}
use Rattle.words.specs.Codes.{done, bad_argument, code_of}
use Rattle.words.specs.declared.codes.BadArgument.{BadArgument}

-- the code, and the output after the call
pub record Left : Type 0 where
  pub code : ℕ
  pub out : List ℕ

-- A result goes to the front of the output, and the rest stays. A refusal, and an output shorter than the result, leave it as it was.
unfoldable pub stored : ℕ → List ℕ → List ℕ → Left
stored code result out =
    cond (eqb code done && leb (length result) (length out))
    (record { code = done; out = result ++ drop (length result) out })
    (record { code = bad_argument; out = out })

-- the same of a function that gives its result or refuses
unfoldable pub answer_left : Result (List ℕ) BadArgument → List ℕ → Left
answer_left (Ok result) out = stored done result out
answer_left (Err refusal) out = record { code = code_of {A = List ℕ} (Err refusal); out = out }
