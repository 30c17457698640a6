-- What is there is there.
use Rattle.std.proofs.Common.{◌≡◌, ℕ, zero, suc, ◌<◌, ◌&&◌, ◌==◌, true, false, Bool, List, [], ◌∷◌, length, map, get_or, Option, Some, None, refl, ap, arith}
use Rattle.std.specs.Prelude.{IsSome}
use Rattle.mlir_ir.specs.declared.tree.Op.{Op}
use Rattle.mlir_meaning.specs.Grids.{Each, same_point}

pub is_there_or : (x : Option Op) → x ≡ None → IsSome x → ⊥
is_there_or None q s = absurd cc
is_there_or (Some o) q s = absurd cc

pub not_absent : (x : Option Op) (o : Op) → None ≡ x → x ≡ Some o → ⊥
not_absent None o q s = absurd cc
not_absent (Some p) o q s = absurd cc

-- points of unequal lengths differ
no : (t u : Bool) → false ≡ u → false ≡ (t && u)
no true u h = h
no false u h = refl

pub differ : (a b : List ℕ) → (length a ≡ length b → ⊥) → false ≡ same_point a b
differ [] [] h = absurd (h refl)
differ [] (y ∷ b) h = refl
differ (x ∷ a) [] h = refl
differ (x ∷ a) (y ∷ b) h = no (x == y) (same_point a b) (differ a b (λ e. h (ap suc e)))

-- what holds of each image holds of the image of each
pub each_image : {A B : Type 0} (P : B → Type 0) (f : A → B) (xs : List A) (i : ℕ) (d : A) → i < length xs → Each P (map f xs) → P (f (get_or xs i d))
each_image P f [] i d l h = absurd (omega (arith, l))
each_image P f (x ∷ xs) zero d l h = h.0
each_image P f (x ∷ xs) (suc i) d l h = each_image P f xs i d (omega (arith, l)) h.1
