-- What a generic gives has as many cells as points, each a value of its width.
use Rattle.std.proofs.Common.{◌≡◌, ℕ, ◌^◌, ◌<◌, List, [], ◌∷◌, ◌++◌, map, length, Option, Some, IfSome, option_map, option_and_then, fold, filter, refl, sym, subst, ◌∙◌, arith}
use Rattle.affine_maps.specs.Shape.{MapShape}
use Rattle.payload_ops.specs.Shape.{PayloadShape}
use Rattle.mlir_ir.specs.declared.tree.Extent.{Extent}
use Rattle.mlir_ir.specs.declared.tree.Ty.TheVariants.{Tensor}
use Rattle.mlir_meaning.specs.Grids.{points, at, all_some, settled, same_point, Each}
use Rattle.mlir_meaning.specs.declared.values.Grid.{Grid}
use Rattle.mlir_meaning.specs.Points.{map_point}
use Rattle.mlir_meaning.specs.declared.values.Datum.{Datum}
use Rattle.mlir_meaning.specs.declared.values.Datum.TheVariants.{Number, Bits, Cells}
use Rattle.mlir_meaning.specs.Structured.{generic_step, generic_element, generic_box, output_map, generic_result}
use Rattle.mlir_meaning.proofs.Grids.{points_length}
use Rattle.verified_runs.specs.Typed.{IsSized, AreCells, Holds}
use Rattle.verified_runs.proofs.Inputs.{KeepsWidth, tensor_reads, if_mapped, if_then}

folds : (w : ℕ) (step : ℕ → List ℕ → Option ℕ) → KeepsWidth w step → (ps : List (List ℕ)) (o : Option ℕ) → IfSome o (λ v. v < 2 ^ w) →
    IfSome (fold (λ (o : Option ℕ) p. option_and_then (λ b. step b p) o) o ps) (λ v. v < 2 ^ w)
folds w step k [] o h = h
folds w step k (p ∷ ps) o h = folds w step k ps (option_and_then (λ b. step b p) o) (if_then o (λ b. step b p) (λ v. v < 2 ^ w) (λ v. v < 2 ^ w) h (λ a small. k a p small))

all_there : {X : Type 0} (P : ℕ → Type 0) (h : X → Option ℕ) (xs : List X) → ((x : X) → IfSome (h x) P) →
    IfSome (all_some (map h xs)) (λ cs. (length cs ≡ length xs) × Each P cs)
all_there P h [] each = (refl, tt)
all_there P h (x ∷ xs) each =
    if_then (h x) (λ a. option_map (λ rest. a ∷ rest) (all_some (map h xs))) P _ (each x) (λ a small.
    if_mapped (all_some (map h xs)) (λ rest. a ∷ rest) (λ cs. (length cs ≡ length xs) × Each P cs) (λ cs. (length cs ≡ length (x ∷ xs)) × Each P cs) (all_there P h xs each)
    (λ rest k. (omega (arith, k.0), (small, k.1))))

-- a table with cells of w bits
pub table_typed : (es : List Extent) (w : ℕ) (ns : List ℕ) (h : List ℕ → Option ℕ) → IsSized es ns → ((p : List ℕ) → IfSome (h p) (λ v. v < 2 ^ w)) →
    IfSome (option_map (Cells w) (settled ns h)) (Holds (Tensor es w))
table_typed es w ns h sized each =
    let full : List ℕ → Type 0 = λ cs. (length cs ≡ length (points ns)) × Each (λ c. c < 2 ^ w) cs in
    if_mapped (settled ns h) (Cells w) (λ g. IsSized es g.extents × AreCells w g) (Holds (Tensor es w))
    (if_mapped (all_some (map h (points ns))) (λ cells. let g : Grid = record { extents = ns; cells = cells } in g) full (λ g. IsSized es g.extents × AreCells w g)
    (all_there (λ c. c < 2 ^ w) h (points ns) each) (λ cs k. (sized, (k.0 ∙ points_length ns, k.1))))
    (λ g k. (refl, k.0, k.1))

pub generic_typed : (maps : List MapShape) (dims : ℕ) (ins : List Datum) (captured : List ℕ) (payload : PayloadShape) (es : List Extent) (w : ℕ) (out : Datum) →
    KeepsWidth w (generic_step maps ins captured payload) → Holds (Tensor es w) out → IfSome (generic_result maps dims ins out captured payload) (Holds (Tensor es w))
unfolding generic_result
generic_typed maps dims ins captured payload es w (Cells v g) k h =
    let box = generic_box maps dims (ins ++ Cells v g ∷ []) in
    let step = generic_step maps ins captured payload in
    let out_point = map_point (output_map maps ins) in
    subst (λ n. IfSome (option_map (Cells n) (settled g.extents (generic_element out_point step box g))) (Holds (Tensor es w))) (sym h.0)
    (table_typed es w g.extents (generic_element out_point step box g) h.1
    (λ e. folds w step k (filter (λ p. same_point (out_point p) e) (points box)) (Some (at g e)) (tensor_reads es w (Cells v g) h e)))
generic_typed maps dims ins captured payload es w (Number n) k h = absurd h
generic_typed maps dims ins captured payload es w (Bits b) k h = absurd h
