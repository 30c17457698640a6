-- What a chain that finds no fault says of its parts.
use Rattle.std.proofs.Common.{◌≡◌, Bool, true, false, Result, Ok, Err, refl, ap}
use Rattle.mlir_lex.specs.declared.fault.Fault.{Fault}
use Rattle.mlir_lex.specs.Chain.{and_then, demand}

pub then_ok : {A B : Type 0} (r : Result A Fault) (f : A → Result B Fault) (y : B) → and_then r f ≡ Ok y → (x : A) × (r ≡ Ok x) × (f x ≡ Ok y)
then_ok (Ok x) f y h = (x, refl, h)
then_ok (Err e) f y h = absurd (cc h)

abbrev got : {A : Type 0} → A → Result A Fault → A
got d (Ok x) = x
got d (Err e) = d

pub ok_same : {A : Type 0} (x y : A) → ◌≡◌ {A = Result A Fault} (Ok x) (Ok y) → x ≡ y
ok_same x y h = ap (got x) h

pub demand_ok : (b : Bool) (e : Fault) (u : Unit {0}) → demand b e ≡ Ok u → b ≡ true
demand_ok true e u h = refl
demand_ok false e u h = absurd (cc h)
