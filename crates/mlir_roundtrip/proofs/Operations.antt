-- The operations that are read are printable.
use Rattle.std.proofs.Common.{◌≡◌, ◌<◌, ◌≤◌, subst, ℕ, ◌+◌, suc, Bool, true, false, ◌&&◌, List, [], ◌∷◌, map, length, Option, Some, None, Ok, refl, sym, ap, ◌∙◌, arith, nat_lt, codes}
use Rattle.std.specs.List.{AllByRecursion}
use Rattle.std.specs.Str.{bytes_eq}
use Rattle.std.proofs.lemmas.Bool.{and_parts, eqb-true, leb-true, ltb-true}
use Rattle.mlir_base.specs.declared.types.ElemTy.{ElemTy}
use Rattle.payload_ops.specs.declared.step.Arg.{Arg}
use Rattle.payload_ops.specs.declared.step.PayloadStep.{PayloadStep}
use Rattle.payload_ops.specs.Shape.{PayloadShape}
use Rattle.payload_ops.specs.Payload.{IsPayload}
use Rattle.mlir_ir.specs.declared.tree.Ty.{Ty}
use Rattle.mlir_ir.specs.declared.tree.ValueId.{ValueId}
use Rattle.mlir_ir.specs.declared.tree.Iter.{Iter}
use Rattle.mlir_ir.specs.declared.tree.OpKind.{OpKind}
use Rattle.mlir_ir.specs.declared.tree.OpKind.TheVariants as kinds
use Rattle.mlir_base.specs.declared.limit.Which.TheVariants as limits
use Rattle.text_format.specs.declared.lexeme.Lexeme.TheVariants as lexemes
use Rattle.text_format.specs.declared.front.Kind.TheVariants as tokens
use Rattle.text_format.specs.Token.{TokenShape}
use Rattle.text_format.specs.Types.{is_some, element_of, extents_of}
use Rattle.text_format.specs.Classes.{is_kind}
use Rattle.text_format.specs.Formats.{spell_some, list_before}
use Rattle.mlir_syntax.specs.declared.tree.literals.SignedNumber.{SignedNumber}
use Rattle.mlir_syntax.specs.declared.tree.generics.IteratorType.{IteratorType}
use Rattle.mlir_syntax.specs.declared.tree.generics.NextInput.{NextInput}
use Rattle.mlir_syntax.specs.declared.tree.generics.Inputs.{Inputs}
use Rattle.mlir_syntax.specs.declared.tree.generics.Output.{Output}
use Rattle.mlir_syntax.specs.declared.tree.generics.Operands.{Operands}
use Rattle.mlir_syntax.specs.declared.tree.generics.Generic.{Generic}
use Rattle.mlir_syntax.specs.declared.tree.structured.Fill.{Fill}
use Rattle.mlir_syntax.specs.declared.tree.structured.Factors.{Factors}
use Rattle.mlir_syntax.specs.declared.tree.structured.Matmul.{Matmul}
use Rattle.mlir_syntax.specs.declared.tree.structured.BatchMatmul.{BatchMatmul}
use Rattle.mlir_syntax.specs.declared.tree.structured.SourceAndOutput.{SourceAndOutput}
use Rattle.mlir_syntax.specs.declared.tree.structured.Transpose.{Transpose}
use Rattle.mlir_syntax.specs.declared.tree.structured.Broadcast.{Broadcast}
use Rattle.mlir_syntax.specs.declared.tree.operations.Operation.{Operation}
use Rattle.mlir_syntax.specs.declared.tree.operations.Operation.TheVariants as operations
use Rattle.mlir_syntax.specs.declared.tree.payloads.Region.{Region}
use Rattle.mlir_syntax.specs.Maps as map_grammar
use Rattle.mlir_syntax.specs.Generics as generic_grammar
use Rattle.mlir_syntax.specs.Structured as structured_grammar
use Rattle.mlir_syntax.specs.Operations as operation_grammar
use Rattle.mlir_lex.specs.declared.fault.Fault.TheVariants.{Limit, Number}
use Rattle.mlir_lex.specs.Chain.{demand, each}
use Rattle.mlir_scope.specs.Names.{Entry}
use Rattle.mlir_scope.specs.Types.{type_at, elem_of}
use Rattle.mlir_scope.specs.Literals.{digits_value, is_negative, place_of_number}
use Rattle.mlir_scope.specs.Scope.{value, same_operand, typed_as, value_id, type_of, operand_of}
use Rattle.mlir_payload.specs.Payload.{parts_of, payload_of}
use Rattle.mlir_scope.specs.Maps.{AliasShape, map_of, AreMaps}
use Rattle.mlir_resolve.specs.Generics.{iterator_in, iterator_of, iterators_from, more_inputs, inputs_of, input_types, typed_inputs, typed_output, operands_of, generic_with, generic_of}
use Rattle.mlir_resolve.specs.Structured.{is_axis, axis_of, typed_id, output_of, fill_of, factors_of, product_of, moved_of, transpose_of, broadcast_of}
use Rattle.mlir_resolve.specs.Operations.{kind_of}
use Rattle.mlir_scope.proofs.Keeps.{then_ok}
use Rattle.mlir_payload.proofs.Fitting.{parts_fit}
use Rattle.mlir_print.specs.Names.{Row}
use Rattle.mlir_print.specs.Renumbered.{number_in, kind_renumbered}
use Rattle.mlir_roundtrip.specs.Printable.{IsDefined, row_in, elem_in, IsTensorValue, IsScalarValue, IsPrintableProduct, IsPrintableKind, IsPrintableStep}
use Rattle.mlir_roundtrip.proofs.ReadTypes.{ok_same, demanded, type_row}
use Rattle.mlir_roundtrip.proofs.Typed.{tensor_typed, scalar_typed}
use Rattle.mlir_roundtrip.proofs.Values.{Reads, value_row, row_defined, row_number, row_elem, row_type}
use Rattle.mlir_roundtrip.proofs.StepsRead.{parts_are}
use Rattle.mlir_roundtrip.proofs.Symbols.{AreLeaves, leaves_left, leaves_right}
use Rattle.mlir_roundtrip.proofs.MapUses.{maps_are}
use Rattle.mlir_roundtrip.proofs.ConstantsRead.{IsConstant, constant_is, constant_kind}

-- ---- the tokens of types

-- the token writes a tensor's type
abbrev pub IsRanked : TokenShape → Type 0
IsRanked t = is_some (extents_of t.text) ≡ true

abbrev IsElement : TokenShape → Type 0
IsElement t = is_some (element_of t.text) ≡ true

pub ranked : (t : TokenShape) → (is_kind tokens.Shaped t.kind && is_some (extents_of t.text)) ≡ true → IsRanked t
ranked t h = (and_parts (is_kind tokens.Shaped t.kind) (is_some (extents_of t.text)) h).1

element : (t : TokenShape) → (is_kind tokens.Word t.kind && is_some (element_of t.text)) ≡ true → IsElement t
element t h = (and_parts (is_kind tokens.Word t.kind) (is_some (element_of t.text)) h).1

abbrev OperationIs : Operation → Type 0
OperationIs o = AreLeaves (operation_grammar.operation.spell o)

fill_types : (f : Fill) → OperationIs (operations.Fill f) → IsElement f.value_type × IsRanked f.output.ty
unfolding operation_grammar.operation operation_grammar.named structured_grammar.fill generic_grammar.output
fill_types f h = (element f.value_type h.1.1.0, ranked f.output.ty h.1.1.1.1.0)

factor_types : (f : Factors) → AreLeaves (structured_grammar.factors.spell f) → IsRanked f.left_type × IsRanked f.right_type × IsRanked f.output.ty
unfolding structured_grammar.factors generic_grammar.output
factor_types f h = (ranked f.left_type h.1.1.0, ranked f.right_type h.1.1.1.0, ranked f.output.ty h.1.1.1.1.1.0)

matmul_types : (m : Matmul) → OperationIs (operations.Matmul m) → IsRanked m.factors.left_type × IsRanked m.factors.right_type × IsRanked m.factors.output.ty
unfolding operation_grammar.operation operation_grammar.named structured_grammar.matmul
matmul_types m h = factor_types m.factors h.1

batch_matmul_types : (m : BatchMatmul) → OperationIs (operations.BatchMatmul m) → IsRanked m.factors.left_type × IsRanked m.factors.right_type × IsRanked m.factors.output.ty
unfolding operation_grammar.operation operation_grammar.named structured_grammar.batch_matmul
batch_matmul_types m h = factor_types m.factors h.1

moved_types : (s : SourceAndOutput) → AreLeaves (structured_grammar.source_and_output.spell s) → IsRanked s.source_type × IsRanked s.output.ty
unfolding structured_grammar.source_and_output generic_grammar.output
moved_types s h = (ranked s.source_type h.1.0, ranked s.output.ty h.1.1.1.0)

transpose_types : (t : Transpose) → OperationIs (operations.Transpose t) → IsRanked t.operands.source_type × IsRanked t.operands.output.ty
unfolding operation_grammar.operation operation_grammar.named structured_grammar.transpose
transpose_types t h = moved_types t.operands (leaves_left (structured_grammar.source_and_output.spell t.operands) _ h.1)

broadcast_types : (t : Broadcast) → OperationIs (operations.Broadcast t) → IsRanked t.operands.source_type × IsRanked t.operands.output.ty
unfolding operation_grammar.operation operation_grammar.named structured_grammar.broadcast
broadcast_types t h = moved_types t.operands (leaves_left (structured_grammar.source_and_output.spell t.operands) _ h.1)

operands_type : (o : Operands) → AreLeaves (generic_grammar.operands.spell o) → IsRanked o.output.ty
unfolding generic_grammar.operands generic_grammar.output
operands_type o h = let out = leaves_right (spell_some generic_grammar.inputs o.inputs) _ h in ranked o.output.ty out.1.0

generic_type : (g : Generic) → OperationIs (operations.Generic g) → IsRanked g.operands.output.ty
unfolding operation_grammar.operation generic_grammar.generic
generic_type g h =
    let its = leaves_right ((list_before lexemes.CloseBracket map_grammar.map_use).spell g.maps) _ h.1 in
    let rest = leaves_right ((list_before lexemes.CloseBracket generic_grammar.iterator_type).spell g.iterators) _ its in
    operands_type g.operands (leaves_left (generic_grammar.operands.spell g.operands) _ rest)

module _ (base : ℕ) where
  -- ---- values

  -- a value under its number
  pub record ValueRead (rows : List Row) (v : ValueId) : Type 0 where
    pub is_defined : IsDefined rows v
    pub number : number_in base rows v ≡ v

  pub value_is : (rows : List Row) (env : List Entry) → Reads base rows env → (t : TokenShape) (v : ValueId) → value_id env t ≡ Ok v → ValueRead rows v
  value_is rows env r t v h =
      let x = then_ok (value env t) _ v h in
      let row = value_row base rows env r t x.0 x.1 in
      subst (λ (u : ValueId). ValueRead rows u) (ok_same (record { 0 = x.0.0 }) v x.2) (record { is_defined = row_defined base rows x.0.0 x.0.1 row; number = row_number base rows x.0.0 x.0.1 row })

  type_is : (rows : List Row) (env : List Entry) → Reads base rows env → (t : TokenShape) (v : ValueId) (ty : Ty) → value_id env t ≡ Ok v → type_of env t ≡ Ok ty → ty ≡ (row_in rows v).ty
  type_is rows env r t v ty h k =
      let x = then_ok (value env t) _ v h in
      let y = then_ok (value env t) _ ty k in
      let row = value_row base rows env r t y.0 y.1 in
      let same : record { 0 = y.0.0 } ≡ v = ap (λ (p : ℕ × Ty). record { 0 = p.0 }) (ok_same y.0 x.0 (sym y.1 ∙ x.1)) ∙ ok_same (record { 0 = x.0.0 }) v x.2 in
      sym (ok_same y.0.1 ty y.2) ∙ row_type base rows y.0.0 y.0.1 row ∙ ap (λ (u : ValueId). (row_in rows u).ty) same

  -- the type that is written for it
  operand_typed : (rows : List Row) (env : List Entry) → Reads base rows env → (name ty : TokenShape) (v : ValueId) (u : Unit {0}) → value_id env name ≡ Ok v → typed_as env name ty ≡ Ok u → same_operand (row_in rows v).ty ty ≡ Ok u
  operand_typed rows env r name ty v u h k =
      let x = then_ok (value env name) _ v h in
      let y = then_ok (value env name) _ u k in
      let row = value_row base rows env r name y.0 y.1 in
      let same : record { 0 = y.0.0 } ≡ v = ap (λ (p : ℕ × Ty). record { 0 = p.0 }) (ok_same y.0 x.0 (sym y.1 ∙ x.1)) ∙ ok_same (record { 0 = x.0.0 }) v x.2 in
      ap (λ (t : Ty). same_operand t ty) (sym (row_type base rows y.0.0 y.0.1 row ∙ ap (λ (w : ValueId). (row_in rows w).ty) same)) ∙ y.2

  pub tensor_is : (rows : List Row) (env : List Entry) → Reads base rows env → (name ty : TokenShape) (v : ValueId) (u : Unit {0}) → IsRanked ty → value_id env name ≡ Ok v → typed_as env name ty ≡ Ok u → IsTensorValue rows v
  tensor_is rows env r name ty v u c h k =
      let d = value_is rows env r name v h in
      record { is_defined = d.is_defined; is_tensor = tensor_typed (row_in rows v).ty ty u c (operand_typed rows env r name ty v u h k) }

  -- a tensor that is written with its type, and a scalar that is
  record TensorRead (rows : List Row) (v : ValueId) : Type 0 where
    tensor : IsTensorValue rows v
    number : number_in base rows v ≡ v

  typed_tensor : (rows : List Row) (env : List Entry) → Reads base rows env → (name ty : TokenShape) (v : ValueId) → IsRanked ty → typed_id env name ty ≡ Ok v → TensorRead rows v
  typed_tensor rows env r name ty v c h =
      let a = then_ok (value_id env name) _ v h in
      let b = then_ok (typed_as env name ty) _ v a.2 in
      let d = value_is rows env r name a.0 a.1 in
      subst (λ (u : ValueId). TensorRead rows u) (ok_same a.0 v b.2) (record { tensor = tensor_is rows env r name ty a.0 b.0 c a.1 b.1; number = d.number })

  record ScalarRead (rows : List Row) (v : ValueId) : Type 0 where
    scalar : IsScalarValue rows v
    number : number_in base rows v ≡ v

  typed_scalar : (rows : List Row) (env : List Entry) → Reads base rows env → (name ty : TokenShape) (v : ValueId) → IsElement ty → typed_id env name ty ≡ Ok v → ScalarRead rows v
  typed_scalar rows env r name ty v c h =
      let a = then_ok (value_id env name) _ v h in
      let b = then_ok (typed_as env name ty) _ v a.2 in
      let d = value_is rows env r name a.0 a.1 in
      subst (λ (u : ValueId). ScalarRead rows u) (ok_same a.0 v b.2)
      (record { scalar = record { is_defined = d.is_defined; is_scalar = scalar_typed (row_in rows a.0).ty ty b.0 c (operand_typed rows env r name ty a.0 b.0 a.1 b.1) }; number = d.number })

  -- ---- operands of a generic operation

  -- an operand, with its element type
  pub record IsOperand (rows : List Row) (o : ValueId × ElemTy) : Type 0 where
    pub is_defined : IsDefined rows o.0
    pub number : number_in base rows o.0 ≡ o.0
    pub elem : o.1 ≡ elem_in rows o.0

  id_is : (env : List Entry) (t : TokenShape) (x : ℕ × Ty) → value env t ≡ Ok x → value_id env t ≡ Ok (record { 0 = x.0 })
  id_is env t x h = rw h refl

  operand_is : (rows : List Row) (env : List Entry) → Reads base rows env → (k : ℕ) (t : TokenShape) (o : ValueId × ElemTy) → operand_of env k t ≡ Ok o → IsOperand rows o × (nat_lt k 64 ≡ true) × (value_id env t ≡ Ok o.0)
  operand_is rows env r k t o h =
      let a = then_ok (value env t) _ o h in
      let b = then_ok (demand (nat_lt k 64) (Limit limits.Operands t.start)) _ o a.2 in
      let row = value_row base rows env r t a.0 a.1 in
      let id = id_is env t a.0 a.1 in (
        subst (λ (x : ValueId × ElemTy). IsOperand rows x) (ok_same (record { 0 = a.0.0 }, elem_of a.0.1) o b.2)
            (record { is_defined = row_defined base rows a.0.0 a.0.1 row; number = row_number base rows a.0.0 a.0.1 row; elem = row_elem base rows a.0.0 a.0.1 row }),
        demanded (nat_lt k 64) (Limit limits.Operands t.start) b.0 b.1,
        subst (λ (x : ValueId × ElemTy). value_id env t ≡ Ok x.0) (ok_same (record { 0 = a.0.0 }, elem_of a.0.1) o b.2) id,
      )

  abbrev AreOperands : List Row → List (ValueId × ElemTy) → Type 0
  AreOperands rows os = AllByRecursion (IsOperand rows) os

  more_are : (rows : List Row) (env : List Entry) → Reads base rows env → (k : ℕ) (ns : List NextInput) (os : List (ValueId × ElemTy)) → more_inputs env k ns ≡ Ok os → AreOperands rows os
  more_are rows env r k [] os h = subst (λ (xs : List (ValueId × ElemTy)). AreOperands rows xs) (ok_same [] os h) tt
  more_are rows env r k (n ∷ ns) os h =
      let a = then_ok (operand_of env k n.name) _ os h in
      let b = then_ok (more_inputs env (suc k) ns) _ os a.2 in
      subst (λ (xs : List (ValueId × ElemTy)). AreOperands rows xs) (ok_same (a.0 ∷ b.0) os b.2) ((operand_is rows env r k n.name a.0 a.1).0, more_are rows env r (suc k) ns b.0 b.1)

  inputs_are : (rows : List Row) (env : List Entry) → Reads base rows env → (i : Option Inputs) (os : List (ValueId × ElemTy)) → typed_inputs env i ≡ Ok os → AreOperands rows os
  unfolding typed_inputs
  inputs_are rows env r None os h = subst (λ (xs : List (ValueId × ElemTy)). AreOperands rows xs) (ok_same [] os h) tt
  inputs_are rows env r (Some i) os h =
      let x = then_ok (inputs_of env i) _ os h in
      let y = then_ok (input_types env i) _ os x.2 in
      let a = then_ok (operand_of env 0 i.first) _ x.0 x.1 in
      let b = then_ok (more_inputs env 1 i.more) _ x.0 a.2 in
      subst (λ (xs : List (ValueId × ElemTy)). AreOperands rows xs) (ok_same x.0 os y.2)
      (subst (λ (xs : List (ValueId × ElemTy)). AreOperands rows xs) (ok_same (a.0 ∷ b.0) x.0 b.2) ((operand_is rows env r 0 i.first a.0 a.1).0, more_are rows env r 1 i.more b.0 b.1))

  record OutputRead (rows : List Row) (k : ℕ) (o : ValueId × ElemTy) : Type 0 where
    operand : IsOperand rows o
    tensor : IsTensorValue rows o.0
    few : k < 64

  output_is : (rows : List Row) (env : List Entry) → Reads base rows env → (k : ℕ) (out : Output) (o : ValueId × ElemTy) → IsRanked out.ty → typed_output env k out ≡ Ok o → OutputRead rows k o
  output_is rows env r k out o c h =
      let a = then_ok (operand_of env k out.name) _ o h in
      let b = then_ok (typed_as env out.name out.ty) _ o a.2 in
      let i = operand_is rows env r k out.name a.0 a.1 in
      subst (λ (x : ValueId × ElemTy). OutputRead rows k x) (ok_same a.0 o b.2) (record { operand = i.0; tensor = tensor_is rows env r out.name out.ty a.0.0 b.0 c i.2 b.1; few = ltb-true k 64 i.1 })

  record OperandsRead (rows : List Row) (o : List (ValueId × ElemTy) × (ValueId × ElemTy)) : Type 0 where
    ins : AreOperands rows o.0
    out : OutputRead rows (length o.0) o.1

  operands_are : (rows : List Row) (env : List Entry) → Reads base rows env → (o : Operands) (x : List (ValueId × ElemTy) × (ValueId × ElemTy)) → IsRanked o.output.ty → operands_of env o ≡ Ok x → OperandsRead rows x
  operands_are rows env r o x c h =
      let a = then_ok (typed_inputs env o.inputs) _ x h in
      let b = then_ok (typed_output env (length a.0) o.output) _ x a.2 in
      subst (λ (y : List (ValueId × ElemTy) × (ValueId × ElemTy)). OperandsRead rows y) (ok_same (a.0, b.0) x b.2)
      (record { ins = inputs_are rows env r o.inputs a.0 a.1; out = output_is rows env r (length a.0) o.output b.0 c b.1 })

  all_defined : (rows : List Row) (os : List (ValueId × ElemTy)) → AreOperands rows os → AllByRecursion (IsDefined rows) (map (λ (o : ValueId × ElemTy). o.0) os)
  all_defined rows [] h = tt
  all_defined rows (o ∷ os) h = (h.0.is_defined, all_defined rows os h.1)

  all_numbers : (rows : List Row) (os : List (ValueId × ElemTy)) → AreOperands rows os → map (number_in base rows) (map (λ (o : ValueId × ElemTy). o.0) os) ≡ map (λ (o : ValueId × ElemTy). o.0) os
  all_numbers rows [] h = refl
  all_numbers rows (o ∷ os) h = ap (λ v. v ∷ map (number_in base rows) (map (λ (o : ValueId × ElemTy). o.0) os)) h.0.number ∙ ap (λ vs. o.0 ∷ vs) (all_numbers rows os h.1)

  all_elems : (rows : List Row) (os : List (ValueId × ElemTy)) → AreOperands rows os → map (λ (o : ValueId × ElemTy). o.1) os ≡ map (elem_in rows) (map (λ (o : ValueId × ElemTy). o.0) os)
  all_elems rows [] h = refl
  all_elems rows (o ∷ os) h = ap (λ e. e ∷ map (λ (o : ValueId × ElemTy). o.1) os) h.0.elem ∙ ap (λ es. elem_in rows o.0 ∷ es) (all_elems rows os h.1)

  length_map : {A B : Type 0} (f : A → B) (xs : List A) → length (map f xs) ≡ length xs
  length_map f [] = refl
  length_map f (x ∷ xs) = ap suc (length_map f xs)

  iterators_few : (k : ℕ) (is : List IteratorType) (its : List Iter) → k ≤ 12 → iterators_from k is ≡ Ok its → k + length its ≤ 12
  iterators_few k [] its le h = subst (λ (xs : List Iter). k + length xs ≤ 12) (ok_same [] its h) (omega arith)
  iterators_few k (i ∷ is) its le h =
      let a = then_ok (iterator_of k i) _ its h in
      let b = then_ok (iterators_from (suc k) is) _ its a.2 in
      let d = then_ok (demand (nat_lt k 12) (Limit limits.Loops i.word.start)) (λ _. Ok (iterator_in (bytes_eq i.word.text (codes "\"parallel\"")))) a.0 a.1 in
      let lt = ltb-true k 12 (demanded (nat_lt k 12) (Limit limits.Loops i.word.start) d.0 d.1) in
      let more = iterators_few (suc k) is b.0 (omega arith) b.1 in
      subst (λ (xs : List Iter). k + length xs ≤ 12) (ok_same (a.0 ∷ b.0) its b.2) (omega (arith, more))

  -- ---- payloads

  record PayloadRead (ins : List ElemTy) (out : ElemTy) (p : PayloadShape) : Type 0 where
    is_ins : p.ins ≡ ins
    is_out : p.out ≡ out
    fits : IsPayload p
    steps : AllByRecursion IsPrintableStep p.steps
    few : length p.steps ≤ 1024

  abbrev whole : List ElemTy → ElemTy → List PayloadStep × Arg → PayloadShape
  whole ins out q = record { ins = ins; out = out; steps = q.0; yielded = q.1 }

  payload_is : (rows : List Row) (env : List Entry) → Reads base rows env → (alias : List AliasShape) → AreMaps alias → (ins : List ElemTy) (out : ElemTy) (region : Region) (p : PayloadShape) → payload_of alias env ins out region ≡ Ok p → PayloadRead ins out p
  payload_is rows env r alias usable ins out region p h =
      let a = then_ok (parts_of alias env ins out region) _ p h in
      let s = parts_are alias env ins out region a.0 r.outer usable a.1 in
      subst (λ (x : PayloadShape). PayloadRead ins out x) (ok_same (whole ins out a.0) p a.2)
      (record { is_ins = refl; is_out = refl; fits = parts_fit alias env ins out region a.0 usable r.outer a.1; steps = s.0; few = s.1 })

  -- ---- operations

  -- what was read of an operation
  pub record KindRead (rows : List Row) (k : Ty × OpKind) : Type 0 where
    pub printable : IsPrintableKind rows k.0 k.1
    pub number : kind_renumbered (number_in base rows) k.1 ≡ k.1

  generic_is : (rows : List Row) (env : List Entry) → Reads base rows env → (alias : List AliasShape) (g : Generic) (k : Ty × OpKind) → AreMaps alias → IsRanked g.operands.output.ty → generic_of alias env g ≡ Ok k → KindRead rows k
  generic_is rows env r alias g k usable t h =
      let a = then_ok (each (map_of alias) g.maps) _ k h in
      let i = then_ok (iterators_from 0 g.iterators) _ k a.2 in
      let b = then_ok (operands_of env g.operands) _ k i.2 in
      let c = then_ok (payload_of alias env (map (λ (v : ValueId × ElemTy). v.1) b.0.0) b.0.1.1 g.region) _ k b.2 in
      let d = then_ok (type_at g.result_type) _ k c.2 in
      let o = operands_are rows env r g.operands b.0 t b.1 in
      let p = payload_is rows env r alias usable (map (λ (v : ValueId × ElemTy). v.1) b.0.0) b.0.1.1 g.region c.0 c.1 in
      let len = length_map (λ (v : ValueId × ElemTy). v.0) b.0.0 in
      let loops = iterators_few 0 g.iterators i.0 (omega arith) i.1 in
      subst (λ (x : Ty × OpKind). KindRead rows x) (ok_same (d.0, generic_with a.0 i.0 b.0.0 b.0.1.0 c.0) k d.2)
      (record {
        printable = record {
          result = type_row g.result_type d.0 d.1;
          maps_printable = maps_are alias g.maps a.0 usable a.1;
          few_iterators = omega arith;
          not_captured = refl;
          few = omega (arith, o.out.few, len);
          ins_defined = all_defined rows b.0.0 o.ins;
          output = o.out.tensor;
          ins_typed = p.is_ins ∙ all_elems rows b.0.0 o.ins;
          out_typed = p.is_out ∙ o.out.operand.elem;
          payload = p.fits;
          steps = p.steps;
          few_steps = p.few;
        };
        number = ap (λ vs. kinds.Generic a.0 i.0 vs (number_in base rows b.0.1.0) [] c.0) (all_numbers rows b.0.0 o.ins) ∙ ap (λ v. kinds.Generic a.0 i.0 (map (λ (v : ValueId × ElemTy). v.0) b.0.0) v [] c.0) o.out.operand.number;
      })

  fill_is : (rows : List Row) (env : List Entry) → Reads base rows env → (f : Fill) (k : Ty × OpKind) → IsElement f.value_type × IsRanked f.output.ty → fill_of env f ≡ Ok k → KindRead rows k
  fill_is rows env r f k t h =
      let a = then_ok (typed_id env f.value f.value_type) _ k h in
      let b = then_ok (output_of env f.output) _ k a.2 in
      let c = then_ok (type_at f.result_type) _ k b.2 in
      let v = typed_scalar rows env r f.value f.value_type a.0 t.0 a.1 in
      let o = typed_tensor rows env r f.output.name f.output.ty b.0 t.1 b.1 in
      subst (λ (x : Ty × OpKind). KindRead rows x) (ok_same (c.0, kinds.Fill a.0 b.0) k c.2)
      (record { printable = record { result = type_row f.result_type c.0 c.1; value = v.scalar; output = o.tensor }; number = ap (λ u. kinds.Fill u (number_in base rows b.0)) v.number ∙ ap (λ u. kinds.Fill a.0 u) o.number })

  record FactorsRead (rows : List Row) (x : ValueId × (ValueId × ValueId)) : Type 0 where
    left : TensorRead rows x.0
    right : TensorRead rows x.1.0
    output : TensorRead rows x.1.1

  factors_are : (rows : List Row) (env : List Entry) → Reads base rows env → (f : Factors) (x : ValueId × (ValueId × ValueId)) → IsRanked f.left_type × IsRanked f.right_type × IsRanked f.output.ty → factors_of env f ≡ Ok x → FactorsRead rows x
  factors_are rows env r f x t h =
      let a = then_ok (value_id env f.left) _ x h in
      let b = then_ok (value_id env f.right) _ x a.2 in
      let u = then_ok (typed_as env f.left f.left_type) _ x b.2 in
      let v = then_ok (typed_as env f.right f.right_type) _ x u.2 in
      let o = then_ok (output_of env f.output) _ x v.2 in
      let left = value_is rows env r f.left a.0 a.1 in
      let right = value_is rows env r f.right b.0 b.1 in
      subst (λ (y : ValueId × (ValueId × ValueId)). FactorsRead rows y) (ok_same (a.0, (b.0, o.0)) x o.2)
      (record {
        left = record { tensor = tensor_is rows env r f.left f.left_type a.0 u.0 t.0 a.1 u.1; number = left.number };
        right = record { tensor = tensor_is rows env r f.right f.right_type b.0 v.0 t.1 b.1 v.1; number = right.number };
        output = typed_tensor rows env r f.output.name f.output.ty o.0 t.2 o.1;
      })

  record ProductRead (rows : List Row) (ty : Ty) (a b o : ValueId) : Type 0 where
    printable : IsPrintableProduct rows ty a b o
    numbers : (kind : ValueId → ValueId → ValueId → OpKind) → kind (number_in base rows a) (number_in base rows b) (number_in base rows o) ≡ kind a b o

  product_is : (kind : ValueId → ValueId → ValueId → OpKind) (rows : List Row) (env : List Entry) → Reads base rows env → (f : Factors) (k : Ty × OpKind) → IsRanked f.left_type × IsRanked f.right_type × IsRanked f.output.ty
      → ((ty : Ty) (a b o : ValueId) → ProductRead rows ty a b o → KindRead rows (ty, kind a b o)) → product_of kind env f ≡ Ok k → KindRead rows k
  product_is kind rows env r f k t g h =
      let a = then_ok (factors_of env f) _ k h in
      let c = then_ok (type_at f.result_type) _ k a.2 in
      let x = factors_are rows env r f a.0 t a.1 in
      subst (λ (y : Ty × OpKind). KindRead rows y) (ok_same (c.0, kind a.0.0 a.0.1.0 a.0.1.1) k c.2)
      (g c.0 a.0.0 a.0.1.0 a.0.1.1 (record {
        printable = record { result = type_row f.result_type c.0 c.1; left = x.left.tensor; right = x.right.tensor; output = x.output.tensor };
        numbers = λ n. ap (λ u. n u (number_in base rows a.0.1.0) (number_in base rows a.0.1.1)) x.left.number ∙ ap (λ u. n a.0.0 u (number_in base rows a.0.1.1)) x.right.number ∙ ap (λ u. n a.0.0 a.0.1.0 u) x.output.number;
      }))

  axis_near : (b : Bool) (n : ℕ) → is_axis b n ≡ true → n ≤ 1048576
  axis_near false n h = leb-true n 1048576 h
  axis_near true n h = let z = eqb-true n 0 h in omega arith

  axes_are : (xs : List SignedNumber) (axes : List ℕ) → each axis_of xs ≡ Ok axes → AllByRecursion (λ n. n ≤ 1048576) axes
  axes_are [] axes h = subst (λ (ns : List ℕ). AllByRecursion (λ n. n ≤ 1048576) ns) (ok_same [] axes h) tt
  axes_are (x ∷ xs) axes h =
      let a = then_ok (axis_of x) _ axes h in
      let b = then_ok (each axis_of xs) _ axes a.2 in
      let d = then_ok (demand (is_axis (is_negative x.sign) (digits_value x.digits.text)) (Number (place_of_number x) (place_of_number x))) (λ _. Ok (digits_value x.digits.text)) a.0 a.1 in
      let near = axis_near (is_negative x.sign) (digits_value x.digits.text) (demanded _ _ d.0 d.1) in
      subst (λ (ns : List ℕ). AllByRecursion (λ n. n ≤ 1048576) ns) (ok_same (a.0 ∷ b.0) axes b.2) (subst (λ n. n ≤ 1048576) (ok_same (digits_value x.digits.text) a.0 d.2) near, axes_are xs b.0 b.1)

  record MovedRead (rows : List Row) (x : ValueId × (ValueId × Ty)) : Type 0 where
    source : TensorRead rows x.0
    output : TensorRead rows x.1.0
    ty : x.1.1 ≡ (row_in rows x.1.0).ty

  moved_is : (rows : List Row) (env : List Entry) → Reads base rows env → (s : SourceAndOutput) (x : ValueId × (ValueId × Ty)) → IsRanked s.source_type × IsRanked s.output.ty → moved_of env s ≡ Ok x → MovedRead rows x
  moved_is rows env r s x t h =
      let a = then_ok (typed_id env s.source s.source_type) _ x h in
      let o = then_ok (output_of env s.output) _ x a.2 in
      let ty = then_ok (type_of env s.output.name) _ x o.2 in
      let id = then_ok (value_id env s.output.name) _ o.0 o.1 in
      let typed = then_ok (typed_as env s.output.name s.output.ty) _ o.0 id.2 in
      let same = ok_same id.0 o.0 typed.2 in
      subst (λ (y : ValueId × (ValueId × Ty)). MovedRead rows y) (ok_same (a.0, (o.0, ty.0)) x ty.2)
      (record {
        source = typed_tensor rows env r s.source s.source_type a.0 t.0 a.1;
        output = typed_tensor rows env r s.output.name s.output.ty o.0 t.1 o.1;
        ty = type_is rows env r s.output.name id.0 ty.0 id.1 ty.1 ∙ ap (λ (v : ValueId). (row_in rows v).ty) same;
      })

  transpose_is : (rows : List Row) (env : List Entry) → Reads base rows env → (t : Transpose) (k : Ty × OpKind) → IsRanked t.operands.source_type × IsRanked t.operands.output.ty → transpose_of env t ≡ Ok k → KindRead rows k
  transpose_is rows env r t k c h =
      let a = then_ok (moved_of env t.operands) _ k h in
      let b = then_ok (each axis_of t.axes) _ k a.2 in
      let m = moved_is rows env r t.operands a.0 c a.1 in
      subst (λ (x : Ty × OpKind). KindRead rows x) (ok_same (a.0.1.1, kinds.Transpose a.0.0 a.0.1.0 b.0) k b.2)
      (record {
        printable = record { source = m.source.tensor; output = m.output.tensor; result = m.ty; near = axes_are t.axes b.0 b.1 };
        number = ap (λ u. kinds.Transpose u (number_in base rows a.0.1.0) b.0) m.source.number ∙ ap (λ u. kinds.Transpose a.0.0 u b.0) m.output.number;
      })

  broadcast_is : (rows : List Row) (env : List Entry) → Reads base rows env → (t : Broadcast) (k : Ty × OpKind) → IsRanked t.operands.source_type × IsRanked t.operands.output.ty → broadcast_of env t ≡ Ok k → KindRead rows k
  broadcast_is rows env r t k c h =
      let a = then_ok (moved_of env t.operands) _ k h in
      let b = then_ok (each axis_of t.axes) _ k a.2 in
      let m = moved_is rows env r t.operands a.0 c a.1 in
      subst (λ (x : Ty × OpKind). KindRead rows x) (ok_same (a.0.1.1, kinds.Broadcast a.0.0 a.0.1.0 b.0) k b.2)
      (record {
        printable = record { source = m.source.tensor; output = m.output.tensor; result = m.ty; near = axes_are t.axes b.0 b.1 };
        number = ap (λ u. kinds.Broadcast u (number_in base rows a.0.1.0) b.0) m.source.number ∙ ap (λ u. kinds.Broadcast a.0.0 u b.0) m.output.number;
      })

  constant_number : (rows : List Row) (o : OpKind) → IsConstant o → kind_renumbered (number_in base rows) o ≡ o
  constant_number rows (kinds.Constant cells) h = refl
  constant_number rows o h = absurd h

  pub kind_is : (rows : List Row) (env : List Entry) → Reads base rows env → (alias : List AliasShape) (o : Operation) (k : Ty × OpKind) → AreMaps alias → OperationIs o → kind_of alias env o ≡ Ok k → KindRead rows k
  unfolding kind_of
  kind_is rows env r alias (operations.Constant c) k usable t h = record { printable = constant_is rows c.literal k h; number = constant_number rows k.1 (constant_kind c.literal k h) }
  kind_is rows env r alias (operations.Empty e) k usable t h =
      let b = then_ok (type_at e.ty) _ k h in
      subst (λ (x : Ty × OpKind). KindRead rows x) (ok_same (b.0, kinds.Empty []) k b.2) (record { printable = (refl, type_row e.ty b.0 b.1); number = refl })
  kind_is rows env r alias (operations.Generic g) k usable t h = generic_is rows env r alias g k usable (generic_type g t) h
  kind_is rows env r alias (operations.Fill f) k usable t h = fill_is rows env r f k (fill_types f t) h
  kind_is rows env r alias (operations.Matmul m) k usable t h = product_is kinds.Matmul rows env r m.factors k (matmul_types m t) (λ ty a b o p. record { printable = p.printable; number = p.numbers kinds.Matmul }) h
  kind_is rows env r alias (operations.BatchMatmul m) k usable t h = product_is kinds.BatchMatmul rows env r m.factors k (batch_matmul_types m t) (λ ty a b o p. record { printable = p.printable; number = p.numbers kinds.BatchMatmul }) h
  kind_is rows env r alias (operations.Transpose t) k usable c h = transpose_is rows env r t k (transpose_types t c) h
  kind_is rows env r alias (operations.Broadcast t) k usable c h = broadcast_is rows env r t k (broadcast_types t c) h
