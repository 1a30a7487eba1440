-- Truth values: what conjunctions, disjunctions and choices give.
use Rattle.std.specs.Prelude.{ℕ, ◌≡◌, refl, Bool, true, false, cond, ◌&&◌, ◌||◌}
use Rattle.std.proofs.Common.{sym, ◌∙◌, arith}

-- what holds where two different constructors are equal: `impossible (cc)`
pub impossible : {X : Type 0} → ◌≡◌ {A = ℕ} 0 1 → X
impossible e = absurd (omega arith)

pub and_left : (a b : Bool) → a && b ≡ true → a ≡ true
and_left true b t = search
and_left false b t = cc

pub and_right : (a b : Bool) → a && b ≡ true → b ≡ true
and_right true b t = t
and_right false b t = cc

pub or_left : (a b : Bool) → a || b ≡ false → a ≡ false
or_left true b t = t
or_left false b t = refl

pub or_right : (a b : Bool) → a || b ≡ false → b ≡ false
or_right true b t = cc
or_right false b t = t

pub and_both : {a b : Bool} → a ≡ true → b ≡ true → a && b ≡ true
and_both p q = rw (p, q)

pub and_true : (b : Bool) → b && true ≡ b
and_true true = refl
and_true false = refl

pub and_false : (b : Bool) → b && false ≡ false
and_false true = refl
and_false false = refl

pub and_assoc : (a b c : Bool) → (a && b) && c ≡ a && (b && c)
and_assoc true b c = refl
and_assoc false b c = refl

pub or_true : (b : Bool) → b || true ≡ true
or_true true = refl
or_true false = refl

-- a test that is true and false
pub clash : {X : Type 0} {b : Bool} → b ≡ true → b ≡ false → X
clash t f = let z : true ≡ false = sym t ∙ f in impossible (cc)

-- a test comes out one way or the other
pub by-test : {A : Type 0} (b : Bool) → (b ≡ true → A) → (b ≡ false → A) → A
by-test true p q = p refl
by-test false p q = q refl

pub either-by : {A : Type 0} (P : A → Type 0) (b : Bool) {x y : A} → (b ≡ true → P x) → (b ≡ false → P y) → P (cond b x y)
either-by P true p q = p refl
either-by P false p q = q refl

pub either : {A : Type 0} (P : A → Type 0) (b : Bool) {x y : A} → P x → P y → P (cond b x y)
either P b p q = either-by P b (λ t. p) (λ t. q)
