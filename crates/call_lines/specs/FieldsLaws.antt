-- The fields of a line, found by their numbers.
use Rattle.std.specs.Prelude.{◌≡◌, ℕ, ◌+◌, ◌-◌, ◌<◌, Bool, List, [], ◌∷◌, eqb, length, drop, Option, Some, None, IfNone, IfSome}
use Rattle.std.specs.Option.{is_some}
use Rattle.std.proofs.Common.{Bor, not, sym, ap, ◌∙◌, arith, length-drop, drop-drop}
use Rattle.std.proofs.Math.Bool.{true, false}
use borrow.Author.Tests.{eq-eqb, ne_eqb}
use Rattle.words.specs.BoolLaws.{impossible}
use Rattle.text.specs.Text.{fields_of}
use Rattle.text.specs.TextLaws.{fields_positive}

module _ {F : Type 0} (fields : List F) (i : ℕ) {left more : List F} {f : F} (at : left ≡ drop i fields) (first : left ≡ f ∷ more) where
  -- behind the field of number i stand the fields from number i + 1 on
  pub next-fields : more ≡ drop (i + 1) fields
  next-fields = ap (drop 1) (sym first ∙ at) ∙ drop-drop 1 i fields

  -- all fields are those in front of it, itself, and those behind it
  pub count-is : length fields ≡ i + 1 + length more
  count-is = let h = ap length (sym first ∙ at) ∙ length-drop i fields in omega arith

-- the field of number n - 1 is the last exactly where the fields are n
pub last-test : (fields : List (List ℕ)) (n : ℕ) (line f : List ℕ) (o : Option (Bor (List ℕ))) (last : Bool) → 0 < n → fields_of line ≡ drop (n - 1) fields
    → IfNone o (fields_of line ≡ f ∷ []) → IfSome o (λ rest. fields_of line ≡ f ∷ fields_of rest.now) → is_some o ≡ not last
    → last ≡ eqb (length fields) n
last-test fields n line f None true l at first none is = let count = count-is fields (n - 1) at first in rw (eq-eqb (length fields) n (omega arith))
last-test fields n line f None false l at first none is = impossible (cc)
last-test fields n line f (Some rest) true l at none first is = impossible (cc)
last-test fields n line f (Some rest) false l at none first is =
    let count = count-is fields (n - 1) at first in
    let more = fields_positive rest.now in
    rw (ne_eqb (length fields) n (λ e. omega arith))
