-- The step `interchange`: new dimension k is old dimension order[k], in maps, iterators and `linalg.index`.
use Rattle.std.specs.Prelude.{ℕ, ◌==◌, ◌&&◌, ◌||◌, not, is_some, nat_lt, nat_le, ℤ, Bool, true, false, List, [], ◌∷◌, map, filter, length, Option, Some, None, if◌then◌else◌, slice_index_or}
use Rattle.std.specs.List.{list_all}
use Rattle.affine_maps.specs.Shape.{MapShape}
use Rattle.affine_maps.specs.declared.map.Expr.{Expr}
use Rattle.payload_laws.specs.Combiners.{combiner_of}
use Rattle.payload_ops.specs.Shape.{PayloadShape}
use Rattle.payload_ops.specs.declared.step.PayloadStep.{PayloadStep}
use Rattle.payload_ops.specs.declared.step.StepOp.{StepOp}
use Rattle.payload_ops.specs.declared.step.StepOp.TheVariants.{Index}
use Rattle.mlir_ir.specs.declared.tree.Iter.{Iter}
use Rattle.mlir_ir.specs.declared.tree.Iter.TheVariants.{Parallel, Reduction}
use Rattle.mlir_ir.specs.declared.tree.Op.{Op}
use Rattle.mlir_ir.specs.declared.tree.OpKind.{OpKind, Generic}
use Rattle.mlir_meaning.specs.Grids.{count_up, same_point}
use Rattle.mlir_meaning.specs.Points.{place_of}
use Rattle.verified_runs.specs.Edits.{Edit, Step, anew}
use Rattle.verified_runs.specs.Forms.{Structured, kind_of}

-- ORDERS
-- the new dimension of an old one
abbrev pub turned : List ℕ → ℕ → ℕ
turned order d = place_of d 0 order

-- the old dimension of a new one
abbrev pub origin : List ℕ → ℕ → ℕ
origin order k = slice_index_or order k 0

-- each old dimension stands in the order, and each place is that of what stands there
abbrev pub stands_once : List ℕ → ℕ → ℕ → Bool
stands_once order n k = nat_lt (turned order k) n && (origin order (turned order k) == k) && (nat_lt (origin order k) n && (turned order (origin order k) == k))

-- a permutation of n dimensions
abbrev pub is_order : List ℕ → ℕ → Bool
is_order order n = (length order == n) && list_all (stands_once order n) (count_up 0 n)

-- the coordinates of a point, and extents, from one order to the other
abbrev pub old_point : List ℕ → List ℕ → List ℕ
old_point order q = map (λ d. slice_index_or q (turned order d) 0) (count_up 0 (length order))

abbrev pub new_point : List ℕ → List ℕ → List ℕ
new_point order p = map (λ k. slice_index_or p (origin order k) 0) (count_up 0 (length order))

-- THE FORM
-- terms stand in rising order of their dimensions
abbrev pub insert_term : ℕ × ℤ → List (ℕ × ℤ) → List (ℕ × ℤ)
insert_term t [] = t ∷ []
insert_term t (u ∷ us) = if nat_le t.0 u.0 then t ∷ u ∷ us else u ∷ insert_term t us

abbrev pub turned_terms : List ℕ → List (ℕ × ℤ) → List (ℕ × ℤ)
turned_terms order [] = []
turned_terms order (t ∷ ts) = insert_term (turned order t.0, t.1) (turned_terms order ts)

abbrev pub turned_expr : List ℕ → Expr → Expr
turned_expr order e = record { constant = e.constant; terms = turned_terms order e.terms }

abbrev pub turned_map : List ℕ → MapShape → MapShape
turned_map order m = record { dims = m.dims; results = map (turned_expr order) m.results }

abbrev pub turned_op : List ℕ → StepOp → StepOp
turned_op order (Index d) = Index (turned order d)
turned_op order op = op

abbrev pub turned_step : List ℕ → PayloadStep → PayloadStep
turned_step order s = record { ty = s.ty; op = turned_op order s.op }

abbrev pub turned_payload : List ℕ → PayloadShape → PayloadShape
turned_payload order p = record { ins = p.ins; out = p.out; steps = map (turned_step order) p.steps; yielded = p.yielded }

abbrev pub iterator_at : List Iter → ℕ → Iter
iterator_at iterators d = slice_index_or iterators d Parallel

abbrev pub interchanged : List ℕ → Structured → Structured
interchanged order g = record {
  maps = map (turned_map order) g.maps;
  iterators = map (iterator_at g.iterators) order;
  ins = g.ins;
  outs = g.outs;
  captured = g.captured;
  payload = turned_payload order g.payload;
}

-- RULES
abbrev pub is_reduction : Iter → Bool
is_reduction Parallel = false
is_reduction Reduction = true

-- the reduction dimensions, in this order of all dimensions
abbrev pub reductions_in : List Iter → List ℕ → List ℕ
reductions_in iterators ds = filter (λ d. is_reduction (iterator_at iterators d)) ds

-- they keep their order among themselves (the test is that of equal lists of numbers)
abbrev pub keeps_reductions : List ℕ → List Iter → Bool
keeps_reductions order iterators = same_point (reductions_in iterators order) (reductions_in iterators (count_up 0 (length order)))

abbrev pub breaks_permutation : List ℕ → Structured → Bool
breaks_permutation order g = not (is_order order (length g.iterators))

abbrev pub breaks_reduction_order : List ℕ → Structured → Bool
breaks_reduction_order order g = not (keeps_reductions order g.iterators) && not (is_some (combiner_of g.payload))

-- THE STEP
abbrev pub as_generic : OpKind → Option Structured
as_generic (Generic maps iterators ins outs captured payload) =
    Some (record { maps = maps; iterators = iterators; ins = ins; outs = outs; captured = captured; payload = payload })
as_generic _ = None

abbrev pub interchanges : List ℕ → ℕ → ℕ → Option Structured → Op → Option Edit
interchanges order op value None o = None
interchanges order op value (Some g) o =
    if breaks_permutation order g || breaks_reduction_order order g then None else Some (anew op value (kind_of (interchanged order g)) o)

-- where a rule is broken, nothing is formed
abbrev pub interchange : List ℕ → ℕ → ℕ → Step
interchange order op value scope o = interchanges order op value (as_generic o.kind) o
