-- What a call says: a success with its number and what it carries, or a refusal.
use Rattle.std.specs.Prelude.{ℕ, Result, Ok}
use Rattle.row.specs.declared.reading.Unserved.{Unserved}
use Rattle.token.specs.declared.answers.Content.{Content}
use Rattle.token.specs.declared.answers.Success.{Success}
use Rattle.token.specs.declared.answers.Refusal.{Refusal}

abbrev pub Answer : Type 0
Answer = Result Success Refusal

abbrev pub successful : ℕ → Content → Answer
successful number content = Ok (record { number = number; content = content })

-- there is no row to serve
abbrev pub missing : Unserved → Refusal
missing Unserved.Unknown = Refusal.Unknown
missing Unserved.Damaged = Refusal.Damaged
