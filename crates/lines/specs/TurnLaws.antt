-- A turn of a program that reads a piece of its input and writes out what it prints, and what went well in it.
use Rattle.std.specs.Prelude.{ℕ, ◌-◌, ◌≡◌, List, [], eqb, take, drop, Bool, true, false, not, ◌||◌, Option, Result, Ok, Err, OnOk, is_ok}
use Rattle.std.proofs.Common.{arith, refl, eqb-true}
use Rattle.std.proofs.KnownBytes.{Consumes-nil, Consumes-kept}
use Rattle.std.specs.Io.KnownBytes.{Appends, Consumes, Keeps}
use Rattle.words.specs.BoolLaws.{clash}

pub on_ok : {T E P : Type 0} (r : Result T E) → (is_ok r ≡ true → P) → OnOk r P
on_ok (Ok x) p = p refl
on_ok (Err e) p = tt

pub from_ok : {T E P : Type 0} (r : Result T E) → OnOk r P → is_ok r ≡ true → P
from_ok (Ok x) p t = p
from_ok (Err e) p t = clash t refl

pub went_well : (failed ok : Bool) → ok ≡ not failed → failed ≡ false → ok ≡ true
went_well failed ok e h = rw (e, h) refl

-- a loop over the turns ends by one that failed or read nothing
pub turn_ends : (failed ok : Bool) (read : ℕ) → ok ≡ not failed → failed || eqb read 0 ≡ true → ok ≡ true → read ≡ 0
turn_ends true ok read e h t = clash t e
turn_ends false ok read e h t = eqb-true read 0 h

pub turn_goes_on : (failed ok : Bool) (read : ℕ) → ok ≡ not failed → failed || eqb read 0 ≡ false → ok ≡ true
turn_goes_on true ok read e h = clash refl h
turn_goes_on false ok read e h = e

-- a read that failed took nothing
pub nothing_taken : (known rest : Option (List ℕ)) → Keeps known rest → Consumes known rest []
nothing_taken known rest k = Consumes-kept known known rest [] (Consumes-nil known) k

-- what was written out stands at the front of the output
pub front_written : {T E : Type 0} (r : Result T E) (old new : Option (List ℕ)) (end : ℕ) (out : List ℕ)
    → OnOk r (Appends old new (take (end - 0) (drop 0 out))) → OnOk r (Appends old new (take end out))
front_written r old new end out w = let z : end - 0 ≡ end = omega arith in rw z at w
