-- What was read, where `ok_or` and `?` refuse a line that is not so made.
use Rattle.std.specs.Prelude.{◌≡◌, refl, Option, Some, None, Result, Ok, Err}
use Rattle.std.specs.Option.{ok_or}
use Rattle.std.proofs.Common.{sym, ap, ◌∙◌}
use Rattle.words.specs.BoolLaws.{impossible}
use Rattle.token.specs.declared.answers.Refusal.{Refusal}

pub option-given : {T : Type 0} (o : Option T) {r : Result T Refusal} → r ≡ ok_or o Refusal.BadArgument → {x : T} → r ≡ Ok x → o ≡ Some x
option-given None e {x} h = let z : Err Refusal.BadArgument ≡ Ok x = sym e ∙ h in impossible (cc)
option-given (Some y) e {x} h = let z : Ok y ≡ Ok x = sym e ∙ h in let w : y ≡ x = cc in ap Some w

pub option-refused : {T : Type 0} (o : Option T) {r : Result T Refusal} → r ≡ ok_or o Refusal.BadArgument → {f : Refusal} → r ≡ Err f
    → (o ≡ None) × (f ≡ Refusal.BadArgument)
option-refused None e {f} h = let z : Err Refusal.BadArgument ≡ Err f = sym e ∙ h in let w : f ≡ Refusal.BadArgument = cc in (refl, w)
option-refused (Some y) e {f} h = let z : Ok y ≡ Err f = sym e ∙ h in impossible (cc)
