-- A result that is like its output is typed.
use Rattle.std.proofs.Common.{◌≡◌, ℕ, ◌==◌, true, false, List, [], ◌∷◌, ◌++◌, length, Option, Some, None, IfSome, refl, sym, subst, ◌∙◌, arith, eqb-true}
use Rattle.std.proofs.lemmas.Bool.{and_parts}
use Rattle.mlir_ir.specs.declared.tree.Extent.{Extent}
use Rattle.mlir_ir.specs.declared.tree.Extent.TheVariants.{Fixed, Any}
use Rattle.mlir_ir.specs.declared.tree.Ty.{Ty}
use Rattle.mlir_ir.specs.declared.tree.Ty.TheVariants.{Scalar, Tensor, Vector}
use Rattle.mlir_ir.specs.declared.tree.ValueId.{ValueId}
use Rattle.mlir_meaning.specs.States.{State, made}
use Rattle.mlir_meaning.specs.declared.values.Datum.{Datum}
use Rattle.mlir_meaning.specs.declared.values.Datum.TheVariants.{Number, Bits, Cells}
use Rattle.mlir_verify.specs.Place.{type_among}
use Rattle.mlir_verify.specs.Tensors.{is_alike, result_type}
use Rattle.mlir_verify.specs.Extents.{are_same_extents, has_extents_of}
use Rattle.mlir_verify.proofs.Broadcasts.{same_first}
use Rattle.verified_runs.specs.Typed.{IsSized, Holds, HoldsIn, AreTyped, IsTypedRun}
use Rattle.verified_runs.proofs.Defined.{defined_typed}

-- the sizes of equal extents
sized_same : (xs ys : List Extent) (ns : List ℕ) → are_same_extents xs ys ≡ true → IsSized xs ns → IsSized ys ns
sized_same [] [] [] e h = tt
sized_same [] [] (n ∷ ns) e h = absurd h
sized_same [] (y ∷ ys) ns e h = absurd (let l = eqb-true 0 (length (y ∷ ys)) (and_parts (0 == length (y ∷ ys)) _ e).0 in omega arith)
sized_same (x ∷ xs) [] ns e h = absurd (let l = eqb-true (length (x ∷ xs)) 0 (and_parts (length (x ∷ xs) == 0) _ e).0 in omega arith)
sized_same (Fixed m ∷ xs) (y ∷ ys) [] e h = absurd h
sized_same (Any ∷ xs) (y ∷ ys) [] e h = absurd h
sized_same (Fixed m ∷ xs) (Fixed k ∷ ys) (n ∷ ns) e h =
    let both = and_parts (m == k) (are_same_extents xs ys) (sym (same_first (Fixed m) (Fixed k) xs ys) ∙ e) in
    (h.0 ∙ eqb-true m k both.0, sized_same xs ys ns both.1 h.1)
sized_same (Fixed m ∷ xs) (Any ∷ ys) (n ∷ ns) e h = absurd (let q = sym (same_first (Fixed m) Any xs ys) ∙ e in cc)
sized_same (Any ∷ xs) (Fixed k ∷ ys) (n ∷ ns) e h = absurd (let q = sym (same_first Any (Fixed k) xs ys) ∙ e in cc)
sized_same (Any ∷ xs) (Any ∷ ys) (n ∷ ns) e h = absurd (let q = sym (same_first Any Any xs ys) ∙ e in cc)

pub tensor_same : (xs ys : List Extent) (v w : ℕ) (d : Datum) → (v == w) ≡ true → are_same_extents xs ys ≡ true → Holds (Tensor xs v) d → Holds (Tensor ys w) d
tensor_same xs ys v w (Cells u g) e s h = subst (λ n. Holds (Tensor ys n) (Cells u g)) (eqb-true v w e) (h.0, sized_same xs ys g.extents s h.1, h.2)
tensor_same xs ys v w (Number n) e s h = absurd h
tensor_same xs ys v w (Bits b) e s h = absurd h

-- the types are alike, and so what is of the one is of the other
pub alike_holds : (o p : Option Ty) (d : Datum) → is_alike o p ≡ true → has_extents_of o p ≡ true → HoldsIn o d → HoldsIn p d
alike_holds (Some (Tensor xs v)) (Some (Tensor ys w)) d a e h = tensor_same xs ys v w d (and_parts (v == w) _ a).0 e h
alike_holds (Some (Tensor xs v)) (Some (Scalar s)) d a e h = absurd cc
alike_holds (Some (Tensor xs v)) (Some (Vector ys w)) d a e h = absurd cc
alike_holds (Some (Tensor xs v)) None d a e h = absurd cc
alike_holds (Some (Scalar s)) p d a e h = absurd cc
alike_holds (Some (Vector xs v)) p d a e h = absurd cc
alike_holds None p d a e h = absurd cc

-- a result of this type, or a trap
abbrev pub MayHold : Option Ty → Option Datum → Type 0
MayHold None x = ⊥
MayHold (Some t) x = IfSome x (Holds t)

alike_may : (o p : Option Ty) (x : Option Datum) → is_alike o p ≡ true → has_extents_of o p ≡ true → MayHold o x → MayHold p x
alike_may (Some t) (Some u) (Some d) a e h = alike_holds (Some t) (Some u) d a e h
alike_may (Some t) (Some u) None a e h = tt
alike_may None p x a e h = absurd h
alike_may (Some (Tensor xs v)) None x a e h = absurd cc
alike_may (Some (Scalar s)) None x a e h = absurd cc
alike_may (Some (Vector xs v)) None x a e h = absurd cc

-- a result that is a tensor of its output's type for each such output
pub output_may : (o p : Option Ty) (d : Datum) (x : Option Datum) → is_alike o p ≡ true → has_extents_of o p ≡ true → HoldsIn o d →
    ((es : List Extent) (w : ℕ) → o ≡ Some (Tensor es w) → Holds (Tensor es w) d → IfSome x (Holds (Tensor es w))) → MayHold p x
output_may (Some (Tensor xs v)) p d x a e h k = alike_may (Some (Tensor xs v)) p x a e (k xs v refl h)
output_may (Some (Scalar s)) p d x a e h k = absurd cc
output_may (Some (Vector xs v)) p d x a e h k = absurd cc
output_may None p d x a e h k = absurd cc

-- the run goes on with it
pub made_typed : (scope rs : List (ValueId × Ty)) (wanted : List Ty) (s : State) (x : Option Datum) → MayHold (result_type rs) x → AreTyped (type_among scope) s →
    IsTypedRun false (type_among (scope ++ rs)) wanted (made rs s x)
made_typed scope [] wanted s x h k = absurd h
made_typed scope (r ∷ q ∷ rs) wanted s x h k = absurd h
made_typed scope (r ∷ []) wanted s None h k = tt
made_typed scope (r ∷ []) wanted s (Some d) h k = (refl, defined_typed scope (r ∷ []) (d ∷ []) s.values (h, tt) k)
