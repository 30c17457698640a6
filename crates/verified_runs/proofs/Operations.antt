-- An operation that passes, run in a typed state, gives a typed state, typed results of its body, or the trap.
use Rattle.std.proofs.Common.{◌≡◌, ℕ, suc, ◌+◌, ◌*◌, ◌^◌, ◌<◌, ◌≤◌, ◌==◌, Bool, true, false, List, [], ◌∷◌, ◌++◌, map, length, get_or, Option, Some, None, IfSome, option_and_then, refl, ap, sym, subst, ◌∙◌, arith, eqb-true, pow_pos, ltb-true, length-append, zero-add}
use Rattle.std.specs.Prelude.{nat_lt, if◌then◌else◌}
use Rattle.std.specs.List.{list_all, zip}
use Rattle.std.proofs.lemmas.Bool.{and_parts}
use Rattle.affine_maps.specs.Shape.{MapShape}
use Rattle.payload_ops.specs.Bits.{binary_of}
use Rattle.mlir_base.specs.Types.{bits_of}
use Rattle.payload_ops.specs.Shape.{PayloadShape}
use Rattle.payload_ops.specs.Values.{Given, arg_value, op_value, step_value, steps_values, payload_value}
use Rattle.mlir_base.specs.declared.types.ElemTy.{ElemTy}
use Rattle.mlir_base.specs.declared.types.ElemTy.TheVariants.{Int, Index}
use Rattle.payload_ops.specs.declared.kinds.BinOp.{BinOp}
use Rattle.payload_ops.specs.declared.kinds.BinOp.TheVariants.{Addi, Muli, Andi, Ori}
use Rattle.payload_ops.specs.declared.step.Arg.{Arg}
use Rattle.payload_ops.specs.declared.step.Arg.TheVariants.{Input, Out, Step}
use Rattle.payload_ops.specs.declared.step.StepOp.TheVariants.{Binary, SignExtend}
use Rattle.payload_ops.specs.declared.step.PayloadStep.{PayloadStep}
use Rattle.payload_ops.proofs.BinaryLemmas.{binary_of-lt}
use Rattle.mlir_ir.specs.Shape.{volume}
use Rattle.mlir_ir.specs.declared.tree.Extent.{Extent}
use Rattle.mlir_ir.specs.declared.tree.Extent.TheVariants.{Fixed, Any}
use Rattle.mlir_ir.specs.declared.tree.Ty.{Ty}
use Rattle.mlir_ir.specs.declared.tree.Ty.TheVariants.{Scalar, Tensor, Vector}
use Rattle.mlir_ir.specs.declared.tree.ValueId.{ValueId}
use Rattle.mlir_ir.specs.declared.tree.OpKind.{OpKind, Constant, Empty, Generic, Fill, Matmul, BatchMatmul, Transpose, Broadcast, Return}
use Rattle.mlir_meaning.specs.Grids.{points, Each}
use Rattle.mlir_meaning.specs.States.{State, width_of, made}
use Rattle.mlir_meaning.specs.declared.values.Datum.{Datum}
use Rattle.mlir_meaning.specs.declared.values.Datum.TheVariants.{Number, Bits, Cells}
use Rattle.mlir_meaning.specs.Structured.{elements, generic_step, copying, step_of, last_step, multiply_add, fill_form, transpose_form, broadcast_form, matmul_form, batch_matmul_form, rank_of, fill_result, matmul_result, batch_matmul_result, transpose_result, broadcast_result}
use Rattle.mlir_meaning.specs.Points.{map_point}
use Rattle.mlir_meaning.specs.Moves.{empty_of}
use Rattle.mlir_meaning.specs.Meaning.{sized_extents, type_extents, type_width, values_in, sizes_in, captured_in, constant_of, kind_meaning}
use Rattle.mlir_meaning.specs.Meaning as means
use Rattle.mlir_meaning.proofs.Grids.{tabulate_full}
use Rattle.mlir_verify.specs.Place.{Types, type_among}
use Rattle.mlir_verify.specs.Built.{is_built_kind}
use Rattle.mlir_verify.specs.Ends.{is_return}
use Rattle.mlir_verify.specs.Constants.{Constants, are_cells, has_cells}
use Rattle.mlir_verify.specs.Tensors.{elements as cell_count, result_type, is_tensor, is_alike, are_as_wide, has_elements}
use Rattle.mlir_verify.specs.Named.{is_element}
use Rattle.mlir_verify.specs.Types.{is_typed}
use Rattle.mlir_verify.specs.Extents.{keeps_extents, has_extents_of, keeps_output}
use Rattle.verified_runs.specs.Typed.{IsSized, Holds, HoldsIn, HoldAll, AreTyped, IsTypedRun}
use Rattle.verified_runs.proofs.Inputs.{Reads, KeepsWidth, tensor_reads, scalar_reads, as_wide, inputs_read, payload_keeps, if_mapped}
use Rattle.verified_runs.proofs.Tables.{generic_typed}
use Rattle.verified_runs.proofs.Outputs.{MayHold, alike_holds, output_may, made_typed}

-- CONSTANTS AND EMPTY TENSORS
below_all : (w : ℕ) (cells : List ℕ) → are_cells w cells ≡ true → Each (λ c. c < 2 ^ w) cells
below_all w [] h = tt
below_all w (c ∷ cells) h = let both = and_parts (nat_lt c (2 ^ w)) (are_cells w cells) h in (ltb-true c (2 ^ w) both.0, below_all w cells both.1)

sized : (es : List Extent) (sizes : List ℕ) → IsSized es (sized_extents es sizes)
sized [] sizes = tt
sized (Fixed n ∷ es) sizes = (refl, sized es sizes)
sized (Any ∷ es) [] = sized es []
sized (Any ∷ es) (n ∷ sizes) = sized es sizes

counted : (es : List Extent) → volume (sized_extents es []) ≡ cell_count es
counted [] = refl
counted (Fixed n ∷ es) = λ j. n * counted es j
counted (Any ∷ es) = λ j. 0 * counted es j

first_below : (w : ℕ) (cells : List ℕ) → Each (λ c. c < 2 ^ w) cells → get_or cells 0 0 < 2 ^ w
first_below w [] h = pow_pos w
first_below w (c ∷ cells) h = h.0

constant_holds : (T : Ty) (cells : List ℕ) → has_cells (Some T) cells ≡ true → Holds T (constant_of cells T)
unfolding constant_of
constant_holds (Scalar (Int w)) cells h = first_below w cells (below_all w cells (and_parts _ _ h).1)
constant_holds (Scalar Index) cells h = absurd cc
constant_holds (Tensor es w) cells h =
    let both = and_parts (length cells == cell_count es) (are_cells w cells) h in
    (refl, sized es [], (eqb-true _ _ both.0 ∙ sym (counted es), below_all w cells both.1))
constant_holds (Vector es w) cells h = absurd cc

constant_may : (rs : List (ValueId × Ty)) (cells : List ℕ) → has_cells (result_type rs) cells ≡ true → MayHold (result_type rs) (Some (constant_of cells (means.result_type rs)))
constant_may [] cells h = absurd cc
constant_may (r ∷ []) cells h = constant_holds r.1 cells h
constant_may (r ∷ q ∷ rs) cells h = absurd cc

zeros : (w : ℕ) (ps : List (List ℕ)) → Each (λ c. c < 2 ^ w) (map (λ (p : List ℕ). 0) ps)
zeros w [] = tt
zeros w (p ∷ ps) = (pow_pos w, zeros w ps)

empty_holds : (T : Ty) (sizes : List ℕ) → is_tensor (Some T) ≡ true → Holds T (Cells (type_width T) (empty_of (type_extents T sizes)))
unfolding empty_of
empty_holds (Tensor es w) sizes h = (refl, sized es sizes, (tabulate_full (sized_extents es sizes) (λ p. 0), zeros w (points (sized_extents es sizes))))
empty_holds (Scalar e) sizes h = absurd cc
empty_holds (Vector es w) sizes h = absurd cc

empty_may : (rs : List (ValueId × Ty)) (sizes : List ℕ) → is_tensor (result_type rs) ≡ true →
    MayHold (result_type rs) (Some (Cells (type_width (means.result_type rs)) (empty_of (type_extents (means.result_type rs) sizes))))
empty_may [] sizes h = absurd cc
empty_may (r ∷ []) sizes h = empty_holds r.1 sizes h
empty_may (r ∷ q ∷ rs) sizes h = absurd cc

-- PAYLOADS OF THE NAMED OPERATIONS
width_is : (es : List Extent) (w : ℕ) (d : Datum) → Holds (Tensor es w) d → width_of d ≡ w
width_is es w (Cells v g) h = h.0
width_is es w (Number n) h = absurd h
width_is es w (Bits b) h = absurd h

copying_keeps : (maps : List MapShape) (d : Datum) (v w : ℕ) → 1 ≤ length maps → Reads (Int w) d → KeepsWidth w (generic_step maps (d ∷ []) [] (copying v))
copying_keeps [] d v w l h a p small = absurd (omega arith)
copying_keeps (m ∷ ms) d v w l h a p small = h (map_point m p)

-- a payload that yields its last step, which joins two values, gives a value of that step's width
pushed : (w : ℕ) (done : List ℕ) (k : ℕ) → k ≡ length done → (o : Option ℕ) → IfSome o (λ v. v < 2 ^ w) → IfSome (option_and_then (λ v. Some (done ++ v ∷ [])) o) (λ all. get_or all k 0 < 2 ^ w)
pushed w done k e None h = tt
pushed w done k e (Some v) h = subst (λ n. n < 2 ^ w) (sym (ap (λ n. get_or (done ++ v ∷ []) n 0) e ∙ at_end done)) h where
  at_end : (xs : List ℕ) → get_or (xs ++ v ∷ []) (length xs) 0 ≡ v
  at_end [] = refl
  at_end (x ∷ xs) = at_end xs

any_then : (o : Option ℕ) (f : ℕ → Option (List ℕ)) (Q : List ℕ → Type 0) → ((v : ℕ) → IfSome (f v) Q) → IfSome (option_and_then f o) Q
any_then None f Q h = tt
any_then (Some v) f Q h = h v

last_below : (p : PayloadShape) (g : Given) (op : BinOp) (a b : Arg) (w : ℕ) (front : List PayloadStep) (done : List ℕ) →
    IfSome (steps_values p g (front ++ step_of w (Binary op a b) ∷ []) done) (λ all. get_or all (length done + length front) 0 < 2 ^ w)
unfolding op_value
last_below p g op a b w [] done = pushed w done (length done + 0) (omega arith) (binary_of op w (arg_value g done a) (arg_value g done b)) (binary_of-lt op w (arg_value g done a) (arg_value g done b))
last_below p g op a b w (s ∷ front) done =
    any_then (step_value p g done s) (λ v. steps_values p g (front ++ step_of w (Binary op a b) ∷ []) (done ++ v ∷ [])) (λ all. get_or all (length done + length (s ∷ front)) 0 < 2 ^ w)
    (λ v. let place : length (done ++ v ∷ []) + length front ≡ length done + length (s ∷ front) = omega (arith, length-append done (v ∷ [])) in
    subst (λ k. IfSome (steps_values p g (front ++ step_of w (Binary op a b) ∷ []) (done ++ v ∷ [])) (λ all. get_or all k 0 < 2 ^ w)) place (last_below p g op a b w front (done ++ v ∷ [])))

yielded_below : (narrow width : ℕ) (front : List PayloadStep) (op : BinOp) (a b : Arg) (w : ℕ) (g : Given) →
    IfSome (payload_value (record { ins = Int narrow ∷ Int narrow ∷ []; out = Int width; steps = front ++ step_of w (Binary op a b) ∷ []; yielded = Step (length front) }) g) (λ v. v < 2 ^ w)
yielded_below narrow width front op a b w g =
    let p : PayloadShape = record { ins = Int narrow ∷ Int narrow ∷ []; out = Int width; steps = front ++ step_of w (Binary op a b) ∷ []; yielded = Step (length front) } in
    if_mapped (steps_values p g p.steps []) (λ done. get_or done (length front) 0) (λ done. get_or done (length front) 0 < 2 ^ w) (λ v. v < 2 ^ w)
    (subst (λ k. IfSome (steps_values p g p.steps []) (λ all. get_or all k 0 < 2 ^ w)) (zero-add (length front)) (last_below p g op a b w front [])) (λ done h. h)

product_below : (narrow width : ℕ) (b c : Bool) → (width == 1) ≡ b → (g : Given) →
    let steps : List PayloadStep =
    if b then step_of 1 (Binary Andi (Input 0) (Input 1)) ∷ step_of 1 (Binary Ori Out (Step 0)) ∷ []
    else if c then
    step_of width (SignExtend (Input 0)) ∷ step_of width (SignExtend (Input 1)) ∷ step_of width (Binary Muli (Step 0) (Step 1)) ∷ step_of width (Binary Addi Out (Step 2)) ∷ []
    else step_of width (Binary Muli (Input 0) (Input 1)) ∷ step_of width (Binary Addi Out (Step 0)) ∷ [] in
    IfSome (payload_value (record { ins = Int narrow ∷ Int narrow ∷ []; out = Int width; steps = steps; yielded = last_step steps }) g) (λ v. v < 2 ^ width)
product_below narrow width true c e g =
    let p : PayloadShape = record { ins = Int narrow ∷ Int narrow ∷ []; out = Int width; steps = step_of 1 (Binary Andi (Input 0) (Input 1)) ∷ step_of 1 (Binary Ori Out (Step 0)) ∷ []; yielded = Step 1 } in
    subst (λ n. IfSome (payload_value p g) (λ v. v < 2 ^ n)) (sym (eqb-true width 1 e)) (yielded_below narrow width (step_of 1 (Binary Andi (Input 0) (Input 1)) ∷ []) Ori Out (Step 0) 1 g)
product_below narrow width false true e g =
    yielded_below narrow width (step_of width (SignExtend (Input 0)) ∷ step_of width (SignExtend (Input 1)) ∷ step_of width (Binary Muli (Step 0) (Step 1)) ∷ []) Addi Out (Step 2) width g
product_below narrow width false false e g = yielded_below narrow width (step_of width (Binary Muli (Input 0) (Input 1)) ∷ []) Addi Out (Step 0) width g

multiply_keeps : (maps : List MapShape) (ins : List Datum) (narrow width w : ℕ) → width ≡ w → KeepsWidth w (generic_step maps ins [] (multiply_add narrow width))
multiply_keeps maps ins narrow width w e = subst (λ n. KeepsWidth n (generic_step maps ins [] (multiply_add narrow width))) e
    (λ a p small. product_below narrow width (width == 1) (nat_lt narrow width) refl (record { point = p; outer = []; ins = elements ins maps p; out = a }))

-- inputs
element_reads : (o p : Option Ty) (d : Datum) → is_element o p ≡ true → HoldsIn o d → (es : List Extent) (w : ℕ) → p ≡ Some (Tensor es w) → Reads (Int w) d
element_reads (Some (Scalar (Int v))) (Some (Tensor fs u)) d i h es w e =
    as_wide v w d (ap (λ (n : ℕ). v == n) (let q = e in cc) ∙ i) (scalar_reads v d h)
element_reads (Some (Scalar Index)) p d i h es w e = absurd cc
element_reads (Some (Tensor fs u)) p d i h es w e = absurd cc
element_reads (Some (Vector fs u)) p d i h es w e = absurd cc
element_reads None p d i h es w e = absurd cc
element_reads (Some (Scalar (Int v))) None d i h es w e = absurd cc
element_reads (Some (Scalar (Int v))) (Some (Scalar x)) d i h es w e = absurd cc
element_reads (Some (Scalar (Int v))) (Some (Vector fs u)) d i h es w e = absurd cc

source_reads : (o p : Option Ty) (d : Datum) → are_as_wide o p ≡ true → HoldsIn o d → (es : List Extent) (w : ℕ) → p ≡ Some (Tensor es w) → Reads (Int w) d
source_reads (Some (Tensor fs v)) (Some (Tensor gs u)) d i h es w e = as_wide v w d (ap (λ (n : ℕ). v == n) (let q = e in cc) ∙ i) (tensor_reads fs v d h)
source_reads (Some (Tensor fs v)) None d i h es w e = absurd cc
source_reads (Some (Tensor fs v)) (Some (Scalar x)) d i h es w e = absurd cc
source_reads (Some (Tensor fs v)) (Some (Vector gs u)) d i h es w e = absurd cc
source_reads (Some (Scalar x)) p d i h es w e = absurd cc
source_reads (Some (Vector fs u)) p d i h es w e = absurd cc
source_reads None p d i h es w e = absurd cc

alike_wide : (o p : Option Ty) → is_alike o p ≡ true → are_as_wide o p ≡ true
alike_wide (Some (Tensor fs v)) (Some (Tensor gs u)) h = (and_parts (v == u) _ h).0
alike_wide (Some (Tensor fs v)) None h = absurd cc
alike_wide (Some (Tensor fs v)) (Some (Scalar x)) h = absurd cc
alike_wide (Some (Tensor fs v)) (Some (Vector gs u)) h = absurd cc
alike_wide (Some (Scalar x)) p h = absurd cc
alike_wide (Some (Vector fs u)) p h = absurd cc
alike_wide None p h = absurd cc

payload_wide : (o : Option Ty) (e : ElemTy) (es : List Extent) (w : ℕ) → has_elements o e ≡ true → o ≡ Some (Tensor es w) → bits_of e ≡ w
payload_wide (Some (Tensor fs v)) (Int u) es w h q = sym (eqb-true v u h) ∙ (let p = q in cc)
payload_wide (Some (Tensor fs v)) Index es w h q = absurd cc
payload_wide (Some (Scalar x)) e es w h q = absurd cc
payload_wide (Some (Vector fs u)) e es w h q = absurd cc
payload_wide None e es w h q = absurd cc

values_count : (e : ℕ → Datum) (vs : List ValueId) → length (values_in e vs) ≡ length vs
values_count e [] = refl
values_count e (v ∷ vs) = ap suc (values_count e vs)

-- THE NAMED OPERATIONS
fill_typed : (value out : Datum) (es : List Extent) (w : ℕ) → Reads (Int w) value → Holds (Tensor es w) out → IfSome (fill_result value out) (Holds (Tensor es w))
unfolding fill_form
fill_typed value out es w r h =
    let f = fill_form (width_of out) (rank_of out) in
    generic_typed f.maps (length f.iterators) (value ∷ []) [] f.payload es w out (copying_keeps f.maps value (width_of out) w (omega arith) r) h

transpose_typed : (order : List ℕ) (source out : Datum) (es : List Extent) (w : ℕ) → Reads (Int w) source → Holds (Tensor es w) out → IfSome (transpose_result order source out) (Holds (Tensor es w))
unfolding transpose_form
transpose_typed order source out es w r h =
    let f = transpose_form (width_of out) order in
    generic_typed f.maps (length f.iterators) (source ∷ []) [] f.payload es w out (copying_keeps f.maps source (width_of out) w (omega arith) r) h

broadcast_typed : (dims : List ℕ) (source out : Datum) (es : List Extent) (w : ℕ) → Reads (Int w) source → Holds (Tensor es w) out → IfSome (broadcast_result dims source out) (Holds (Tensor es w))
unfolding broadcast_form
broadcast_typed dims source out es w r h =
    let f = broadcast_form (width_of out) (rank_of out) dims in
    generic_typed f.maps (length f.iterators) (source ∷ []) [] f.payload es w out (copying_keeps f.maps source (width_of out) w (omega arith) r) h

matmul_typed : (x y out : Datum) (es : List Extent) (w : ℕ) → Holds (Tensor es w) out → IfSome (matmul_result x y out) (Holds (Tensor es w))
unfolding matmul_form
matmul_typed x y out es w h =
    let f = matmul_form (width_of x) (width_of out) in
    generic_typed f.maps (length f.iterators) (x ∷ y ∷ []) [] f.payload es w out (multiply_keeps f.maps (x ∷ y ∷ []) (width_of x) (width_of out) w (width_is es w out h)) h

batch_matmul_typed : (x y out : Datum) (es : List Extent) (w : ℕ) → Holds (Tensor es w) out → IfSome (batch_matmul_result x y out) (Holds (Tensor es w))
unfolding batch_matmul_form
batch_matmul_typed x y out es w h =
    let f = batch_matmul_form (width_of x) (width_of out) in
    generic_typed f.maps (length f.iterators) (x ∷ y ∷ []) [] f.payload es w out (multiply_keeps f.maps (x ∷ y ∷ []) (width_of x) (width_of out) w (width_is es w out h)) h

-- THE TERMINATOR
returned : (t : Types) (s : State) → AreTyped t s → (vs : List ValueId) (wanted : List Ty) → length vs ≡ length wanted →
    list_all (λ (x : ValueId × Ty). is_alike (t (x.0).0) (Some x.1)) (zip vs wanted) ≡ true → list_all (λ (x : ValueId × Ty). has_extents_of (t (x.0).0) (Some x.1)) (zip vs wanted) ≡ true →
    HoldAll wanted (values_in s.values vs)
returned t s k [] [] l a e = tt
returned t s k [] (u ∷ us) l a e = absurd (omega arith)
returned t s k (v ∷ vs) [] l a e = absurd (omega arith)
returned t s k (v ∷ vs) (u ∷ us) l a e =
    let alikes = and_parts (is_alike (t v.0) (Some u)) _ a in
    let sames = and_parts (has_extents_of (t v.0) (Some u)) _ e in
    (alike_holds (t v.0) (Some u) (s.values v.0) alikes.0 sames.0 (k v.0), returned t s k vs us (omega arith) alikes.1 sames.1)

-- THE KINDS
module _ (scope rs : List (ValueId × Ty)) (wanted : List Ty) (s : State) (k : AreTyped (type_among scope) s) where
  abbrev Typed : OpKind → Type 0
  Typed kind = IsTypedRun (is_return kind) (type_among (scope ++ rs)) wanted (kind_meaning kind rs s)

  made_runs : (x : Option Datum) → MayHold (result_type rs) x → IsTypedRun false (type_among (scope ++ rs)) wanted (made rs s x)
  made_runs x h = made_typed scope rs wanted s x h k

  -- an operation with a destination
  onto : (outs : ValueId) (x : Option Datum) → is_alike (type_among scope outs.0) (result_type rs) ≡ true → keeps_output (type_among scope) rs outs ≡ true →
      ((es : List Extent) (w : ℕ) → type_among scope outs.0 ≡ Some (Tensor es w) → Holds (Tensor es w) (s.values outs.0) → IfSome x (Holds (Tensor es w))) →
      IsTypedRun false (type_among (scope ++ rs)) wanted (made rs s x)
  onto outs x a e h = made_runs x (output_may (type_among scope outs.0) (result_type rs) (s.values outs.0) x a e (k outs.0) h)

  -- a loop adds a case: its body passes in the scope with its arguments, and each turn begins in a state that is typed there
  pub kind_typed : (kind : OpKind) (constants : Constants) → is_built_kind kind ≡ true → is_typed (type_among scope) constants wanted rs kind ≡ true →
      keeps_extents (type_among scope) wanted rs kind ≡ true → Typed kind
  unfolding kind_meaning is_typed keeps_extents
  kind_typed (Constant cells) c b t e = made_runs _ (constant_may rs cells t)
  kind_typed (Empty sizes) c b t e = made_runs _ (empty_may rs (sizes_in s.values sizes) (and_parts _ _ t).1)
  kind_typed (Generic maps iterators ins outs captured payload) c b t e =
      let both = and_parts _ _ t in
      let generic = and_parts _ _ both.0 in
      let payloads = and_parts _ _ generic.1 in
      let counts = eqb-true (length maps) (suc (length ins)) (and_parts _ _ generic.0).0 in
      let inputs = and_parts (length ins == length payload.ins) _ payloads.0 in
      onto outs _ both.1 (and_parts _ _ e).1 (λ es w q h.
      generic_typed maps (length iterators) (values_in s.values ins) (captured_in s.values captured) payload es w (s.values outs.0)
      (payload_keeps maps (values_in s.values ins) (captured_in s.values captured) payload w (and_parts _ _ (and_parts _ _ payloads.1).1).1 (payload_wide _ payload.out es w (and_parts _ _ payloads.1).0 q)
      (inputs_read (type_among scope) c s.values k ins payload.ins (eqb-true _ _ inputs.0) inputs.1) (omega (arith, counts, values_count s.values ins))) h)
  kind_typed (Fill value outs) c b t e =
      let both = and_parts _ _ t in
      onto outs _ both.1 e (λ es w q h. fill_typed (s.values value.0) (s.values outs.0) es w (element_reads (type_among scope value.0) (type_among scope outs.0) _ (and_parts _ _ both.0).0 (k value.0) es w q) h)
  kind_typed (Matmul x y outs) c b t e =
      onto outs _ (and_parts _ _ t).1 (and_parts _ _ e).1 (λ es w q h. matmul_typed (s.values x.0) (s.values y.0) (s.values outs.0) es w h)
  kind_typed (BatchMatmul x y outs) c b t e =
      onto outs _ (and_parts _ _ t).1 (and_parts _ _ e).1 (λ es w q h. batch_matmul_typed (s.values x.0) (s.values y.0) (s.values outs.0) es w h)
  kind_typed (Transpose source outs order) c b t e =
      let both = and_parts _ _ t in
      onto outs _ both.1 (and_parts _ _ e).1 (λ es w q h. transpose_typed order (s.values source.0) (s.values outs.0) es w
      (source_reads (type_among scope source.0) (type_among scope outs.0) _
      (alike_wide (type_among scope source.0) (type_among scope outs.0) (and_parts (is_alike (type_among scope source.0) (type_among scope outs.0)) _ both.0).0) (k source.0) es w q) h)
  kind_typed (Broadcast source outs dims) c b t e =
      let both = and_parts _ _ t in
      onto outs _ both.1 (and_parts _ _ e).1 (λ es w q h. broadcast_typed dims (s.values source.0) (s.values outs.0) es w
      (source_reads (type_among scope source.0) (type_among scope outs.0) _ (and_parts _ _ both.0).0 (k source.0) es w q) h)
  kind_typed (Return vs) c b t e =
      let both = and_parts _ _ t in
      (refl, returned (type_among scope) s k vs wanted (eqb-true _ _ (and_parts _ _ both.0).1) both.1 e)
  kind_typed kind c b t e = absurd cc
