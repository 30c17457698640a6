-- An operation whose uses are renamed is printable where it was before, by rows that give the new values the old types.
use Rattle.std.proofs.Common.{◌≡◌, ℕ, ◌<◌, List, [], ◌∷◌, map, refl, ap, sym, subst, ◌∙◌}
use Rattle.std.specs.List.{AllByRecursion}
use Rattle.std.proofs.lemmas.List.{length-map}
use Rattle.mlir_ir.specs.Count.{operands}
use Rattle.mlir_ir.specs.declared.tree.OpKind.{OpKind, Constant, Empty, Generic, Fill, Matmul, BatchMatmul, Transpose, Broadcast, Return}
use Rattle.mlir_ir.specs.declared.tree.Ty.{Ty}
use Rattle.mlir_ir.specs.declared.tree.ValueId.{ValueId}
use Rattle.mlir_meaning.specs.Grids.{Each}
use Rattle.mlir_meaning.specs.Renaming.{value, values, defined, renamed}
use Rattle.mlir_meaning.proofs.Through.{each_left, each_right}
use Rattle.mlir_print.specs.Names.{Row}
use Rattle.mlir_roundtrip.specs.Printable.{IsValueType, IsDefined, IsTensorValue, IsPrintableMove, elem_in, IsPrintableKind, IsPrintableLine, IsPrintableReturn}
use Rattle.mlir_roundtrip.proofs.Rows.{constant_type, tensor_value}
use Rattle.printable_steps.proofs.Types.{typed_by, AreValues, defined_value, type_kept, defined_kept, tensor_kept, scalar_kept, elem_kept}

module _ (f : ℕ → ℕ) (rows other : List Row) where
  -- the type of the renamed use is that of the use
  abbrev pub Same : ValueId → Type 0
  Same v = typed_by other (f v.0) ≡ typed_by rows v.0

  all_defined : (vs : List ValueId) → Each Same vs → AllByRecursion (IsDefined rows) vs → AllByRecursion (IsDefined other) (values f vs)
  all_defined [] h k = tt
  all_defined (v ∷ vs) h k = (defined_kept rows other v (value f v) h.0 k.0, all_defined vs h.1 k.1)

  all_tensors : (vs : List ValueId) → Each Same vs → AllByRecursion (IsTensorValue rows) vs → AllByRecursion (IsTensorValue other) (values f vs)
  all_tensors [] h k = tt
  all_tensors (v ∷ vs) h k = (tensor_kept rows other v (value f v) h.0 k.0, all_tensors vs h.1 k.1)

  all_elems : (vs : List ValueId) → Each Same vs → map (elem_in other) (values f vs) ≡ map (elem_in rows) vs
  all_elems [] h = refl
  all_elems (v ∷ vs) h = λ j. elem_kept rows other v (value f v) h.0 j ∷ all_elems vs h.1 j

  move_kept : (ty : Ty) (a out : ValueId) (axes : List ℕ) → Same a → Same out → IsPrintableMove rows ty a out axes → IsPrintableMove other ty (value f a) (value f out) axes
  move_kept ty a out axes h k p = record {
    source = tensor_kept rows other a (value f a) h p.source;
    output = tensor_kept rows other out (value f out) k p.output;
    result = p.result ∙ sym (type_kept rows other out (value f out) k);
    near = p.near;
  }

  pub kind_kept : (ty : Ty) (kind : OpKind) → Each Same (operands kind) → IsPrintableKind rows ty kind → IsPrintableKind other ty (renamed (λ k. k) f (λ k. k) kind)
  unfolding renamed
  kind_kept ty (Constant cells) h p = p
  kind_kept ty (Empty sizes) h p = (ap (values f) p.0, p.1)
  kind_kept ty (Generic maps its ins out captured payload) h p =
      let inputs = each_left Same ins (out ∷ captured) h in
      let output = (each_right Same ins (out ∷ captured) h).0 in
      record {
        result = p.result;
        maps_printable = p.maps_printable;
        few_iterators = p.few_iterators;
        not_captured = ap (values f) p.not_captured;
        few = subst (λ k. k < 64) (sym (length-map ins (value f))) p.few;
        ins_defined = all_defined ins inputs p.ins_defined;
        output = tensor_kept rows other out (value f out) output p.output;
        ins_typed = p.ins_typed ∙ sym (all_elems ins inputs);
        out_typed = p.out_typed ∙ sym (elem_kept rows other out (value f out) output);
        payload = p.payload;
        steps = p.steps;
        few_steps = p.few_steps;
      }
  kind_kept ty (Fill v out) h p = record { result = p.result; value = scalar_kept rows other v (value f v) h.0 p.value; output = tensor_kept rows other out (value f out) h.1.0 p.output }
  kind_kept ty (Matmul a b out) h p = record {
    result = p.result;
    left = tensor_kept rows other a (value f a) h.0 p.left;
    right = tensor_kept rows other b (value f b) h.1.0 p.right;
    output = tensor_kept rows other out (value f out) h.1.1.0 p.output;
  }
  kind_kept ty (BatchMatmul a b out) h p = record {
    result = p.result;
    left = tensor_kept rows other a (value f a) h.0 p.left;
    right = tensor_kept rows other b (value f b) h.1.0 p.right;
    output = tensor_kept rows other out (value f out) h.1.1.0 p.output;
  }
  kind_kept ty (Transpose a out order) h p = move_kept ty a out order h.0 h.1.0 p
  kind_kept ty (Broadcast a out dims) h p = move_kept ty a out dims h.0 h.1.0 p
  kind_kept ty kind h p = absurd p

  pub line_kept : (rs : List (ValueId × Ty)) (kind : OpKind) → Each Same (operands kind) → IsPrintableLine rows rs kind → IsPrintableLine other (defined (λ k. k) f (λ k. k) rs) (renamed (λ k. k) f (λ k. k) kind)
  line_kept [] kind h p = absurd p
  line_kept (r ∷ []) kind h p = kind_kept r.1 kind h p
  line_kept (r ∷ (s ∷ rs)) kind h p = absurd p

  pub return_kept : (kind : OpKind) → Each Same (operands kind) → IsPrintableReturn rows kind → IsPrintableReturn other (renamed (λ k. k) f (λ k. k) kind)
  unfolding renamed
  return_kept (Return vs) h p = all_tensors vs h p
  return_kept kind h p = absurd p

-- the type of a printable operation's result is a value's
move_value : (rows : List Row) → AreValues rows → (ty : Ty) (a out : ValueId) (axes : List ℕ) → IsPrintableMove rows ty a out axes → IsValueType ty
move_value rows h ty a out axes p = subst IsValueType (sym p.result) (defined_value rows h out (p.output).is_defined)

pub kind_value : (rows : List Row) → AreValues rows → (ty : Ty) (kind : OpKind) → IsPrintableKind rows ty kind → IsValueType ty
kind_value rows h ty (Constant cells) p = constant_type ty cells p
kind_value rows h ty (Empty sizes) p = tensor_value ty p.1
kind_value rows h ty (Generic maps its ins out captured payload) p = tensor_value ty p.result
kind_value rows h ty (Fill v out) p = tensor_value ty p.result
kind_value rows h ty (Matmul a b out) p = tensor_value ty p.result
kind_value rows h ty (BatchMatmul a b out) p = tensor_value ty p.result
kind_value rows h ty (Transpose a out order) p = move_value rows h ty a out order p
kind_value rows h ty (Broadcast a out dims) p = move_value rows h ty a out dims p
kind_value rows h ty kind p = absurd p
