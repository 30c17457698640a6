-- Each token of a payload's region is of the class that the grammar wants there.
use Rattle.std.proofs.Common.{◌≡◌, ◌<◌, ◌^◌, ℕ, ◌+◌, suc, zero, true, List, [], ◌∷◌, ◌++◌, map, length, Some, refl, sym, subst, arith, append_assoc, false, ◌∙◌, ℤ, pos, negsuc, Bool, Option, nat_le}
use Rattle.std.specs.List.{AllByRecursion}
use Rattle.std.specs.Prelude.{slice_get}
use Rattle.std.proofs.lemmas.Bool.{and_parts, leb-true}
use Rattle.mlir_base.specs.declared.types.ElemTy.{ElemTy}
use Rattle.mlir_base.specs.declared.types.ElemTy.TheVariants.{Int, Index}
use Rattle.payload_ops.specs.declared.step.Arg.{Arg}
use Rattle.payload_ops.specs.declared.step.Arg.TheVariants.{Input, Out, Step as StepArg}
use Rattle.payload_ops.specs.declared.step.StepOp.{StepOp}
use Rattle.payload_ops.specs.declared.step.PayloadStep.{PayloadStep}
use Rattle.payload_ops.specs.Shape.{PayloadShape}
use Rattle.payload_ops.specs.Payload.{arg_type, has_type, op_fits, steps_fit, payload_fits, have_one_type}
use Rattle.mlir_base.specs.Types.{bits_of, is_elem}
use Rattle.affine_maps.specs.Shape.{MapShape}
use Rattle.text_format.specs.declared.class.Class.TheVariants as classes
use Rattle.text_format.specs.declared.class.Position.TheVariants as places
use Rattle.text_format.specs.declared.front.Kind.TheVariants.{Word}
use Rattle.text_format.specs.Pieces.{Piece}
use Rattle.mlir_print.specs.declared.names.Given.{Given}
use Rattle.mlir_print.specs.declared.names.Given.TheVariants.{Argument}
use Rattle.mlir_print.specs.Names.{local_name}
use Rattle.mlir_print.specs.Maps.{linear_map}
use Rattle.text_format.specs.Writers.{each_of, commas}
use Rattle.mlir_print.specs.Payloads.{next_args_at, block_args_at, apply_operand_at, apply_at, step_at, steps_at, region_at, elem_or, type_in as arg_type_in, operation_at as step_operation_at}
use Rattle.text_format.specs.Classes.{holds}
use Rattle.text_format.specs.Types.{is_some, element_of}
use Rattle.payload_ops.specs.declared.kinds.BinOp.{BinOp}
use Rattle.payload_ops.specs.declared.kinds.BinOp.TheVariants as binaries
use Rattle.payload_ops.specs.declared.kinds.Predicate.{Predicate}
use Rattle.payload_ops.specs.declared.kinds.Predicate.TheVariants as predicates
use Rattle.payload_ops.specs.declared.step.StepOp.TheVariants as ops
use Rattle.payload_ops.specs.Bits.{signed_of}
use Rattle.mlir_scope.specs.declared.words.Cast.{Cast}
use Rattle.mlir_scope.specs.declared.words.Cast.TheVariants as changes
use Rattle.mlir_scope.specs.Words.{binary_text, predicate_text, cast_text}
use Rattle.mlir_scope.specs.Literals.{is_written}
use Rattle.mlir_print.specs.Literals.{truth_text, number_at, literal_if, literal_at}
use Rattle.mlir_roundtrip.specs.Printable.{IsPrintableOp, IsPrintableStep}
use Rattle.mlir_roundtrip.proofs.Fits.{arg_text, cast_found, mapped, narrowing_found, one_found, widening_found}
use Rattle.mlir_roundtrip.proofs.Readable.{elem_some}
use Rattle.mlir_roundtrip.proofs.Rows.{IsSmall}
use Rattle.mlir_roundtrip.proofs.Regions.{all_last}
use Rattle.text_format.proofs.Written.{AreFit, LeavesFit, both_fit, commas_fit, each_fit}
use Rattle.mlir_roundtrip.proofs.Leaves.{IsWrittenElem, given_new}

-- ---- payloads

at_place : (P : ElemTy → Type 0) (es : List ElemTy) (j : ℕ) (e : ElemTy) → AllByRecursion P es → slice_get es j ≡ Some e → P e
at_place P [] j e a h = absurd (cc h)
at_place P (x ∷ es) zero e a h = let k : x ≡ e = cc h in subst P k a.0
at_place P (x ∷ es) (suc j) e a h = at_place P es j e a.1 h

step_place : (P : ElemTy → Type 0) (ss : List PayloadStep) (j : ℕ) (s : PayloadStep) → AllByRecursion (λ t. P t.ty) ss → slice_get ss j ≡ Some s → P s.ty
step_place P [] j s a h = absurd (cc h)
step_place P (x ∷ ss) zero s a h = let k : x ≡ s = cc h in subst (λ (y : PayloadStep). P y.ty) k a.0
step_place P (x ∷ ss) (suc j) s a h = step_place P ss j s a.1 h

-- what holds of the operands' types holds of each argument's
arg_has : (P : ElemTy → Type 0) (ins : List ElemTy) (out : ElemTy) (earlier : List PayloadStep) → AllByRecursion P ins → P out → AllByRecursion (λ t. P t.ty) earlier → (x : Arg) (t : ElemTy) → arg_type ins out earlier x ≡ Some t → P t
arg_has P ins out earlier si so se (Input j) t h = at_place P ins j t si h
arg_has P ins out earlier si so se Out t h = let e : out ≡ t = cc h in subst P e so
arg_has P ins out earlier si so se (StepArg j) t h =
    let m = mapped (λ (s : PayloadStep). s.ty) (slice_get earlier j) t h in
    subst P m.2 (step_place P earlier j m.0 se m.1)

type_written : (e : ElemTy) → is_written e ≡ true → IsWrittenElem e
type_written (Int w) h = let p = and_parts (nat_le 1 w) (nat_le w 64) h in elem_some w (leb-true 1 w p.0) (leb-true w 64 p.1)
type_written Index h = refl

next_args_fit : (a : ℕ) (es : List ElemTy) (out : ElemTy) → a + length es < 2 ^ 64 → AllByRecursion IsWrittenElem es → IsWrittenElem out → AreFit (next_args_at a es out)
next_args_fit a [] out s h o = ((refl, (given_new (Argument a) (omega arith), (o, tt))), tt)
next_args_fit a (e ∷ es) out s h o = ((refl, (given_new (Argument a) (omega arith), (h.0, tt))), next_args_fit (a + 1) es out (omega arith) h.1 o)

block_args_fit : (a : ℕ) (es : List ElemTy) (out : ElemTy) → a + length es < 2 ^ 64 → AllByRecursion IsWrittenElem es → IsWrittenElem out → LeavesFit (block_args_at a es out).pieces
block_args_fit a [] out s h o = (given_new (Argument a) (omega arith), (o, (refl, tt)))
block_args_fit a (e ∷ es) out s h o = (given_new (Argument a) (omega arith), (h.0, both_fit (each_of (next_args_at (a + 1) es out)).pieces _ (each_fit (next_args_at (a + 1) es out) (next_args_fit (a + 1) es out (omega arith) h.1 o)) (refl, tt)))

-- ---- steps

binary_fits : (op : BinOp) → holds (classes.BinaryName places.PayloadStep) Word (binary_text op) ≡ true
binary_fits binaries.Addi = refl
binary_fits binaries.Subi = refl
binary_fits binaries.Muli = refl
binary_fits binaries.Divsi = refl
binary_fits binaries.Divui = refl
binary_fits binaries.Remsi = refl
binary_fits binaries.Remui = refl
binary_fits binaries.Andi = refl
binary_fits binaries.Ori = refl
binary_fits binaries.Xori = refl
binary_fits binaries.Shli = refl
binary_fits binaries.Shrsi = refl
binary_fits binaries.Shrui = refl
binary_fits binaries.Maxsi = refl
binary_fits binaries.Maxui = refl
binary_fits binaries.Minsi = refl
binary_fits binaries.Minui = refl

predicate_fits : (k : Predicate) → holds classes.Predicate Word (predicate_text k) ≡ true
predicate_fits predicates.Eq = refl
predicate_fits predicates.Ne = refl
predicate_fits predicates.Slt = refl
predicate_fits predicates.Sle = refl
predicate_fits predicates.Sgt = refl
predicate_fits predicates.Sge = refl
predicate_fits predicates.Ult = refl
predicate_fits predicates.Ule = refl
predicate_fits predicates.Ugt = refl
predicate_fits predicates.Uge = refl

cast_fits : (k : Cast) → holds (classes.CastName places.PayloadStep) Word (cast_text k) ≡ true
cast_fits changes.SignExtend = refl
cast_fits changes.ZeroExtend = refl
cast_fits changes.Truncate = refl

truth_fits : (v : ℕ) → holds classes.Boolean Word (truth_text v) ≡ true
truth_fits zero = refl
truth_fits (suc v) = refl

number_fits : (z : ℤ) (ps : List Piece) → LeavesFit ps → LeavesFit ((number_at z).pieces ++ ps)
number_fits (pos n) ps h = (refl, h)
number_fits (negsuc n) ps h = (refl, (refl, h))

literal_fits_if : (b : Bool) (e : ElemTy) (v : ℕ) → IsWrittenElem e → LeavesFit (literal_if b e v).pieces
literal_fits_if true e v h = (truth_fits v, tt)
literal_fits_if false e v h = number_fits (signed_of (bits_of e) v) _ (h, tt)

pub literal_fits : (e : ElemTy) (v : ℕ) → IsWrittenElem e → LeavesFit (literal_at e v).pieces
literal_fits e v h = literal_fits_if (is_elem e (Int 1)) e v h

-- the texts of the types that a step writes for its operands
abbrev IsFitStep : (Arg → List ℕ) → StepOp → Type 0
IsFitStep type (ops.Compare k x y) = is_some (element_of (type x)) ≡ true
IsFitStep type (ops.SignExtend x) = is_some (element_of (type x)) ≡ true
IsFitStep type (ops.ZeroExtend x) = is_some (element_of (type x)) ≡ true
IsFitStep type (ops.Truncate x) = is_some (element_of (type x)) ≡ true
IsFitStep type (ops.IndexCast x) = is_some (element_of (type x)) ≡ true
IsFitStep type o = Unit {0}

operands_fit : (name : Arg → Given) (ts : List (Arg × ℤ)) → AreFit (map (apply_operand_at name) ts)
operands_fit name [] = tt
operands_fit name (t ∷ ts) = ((refl, tt), operands_fit name ts)

apply_fit : (al : List MapShape) (name : Arg → Given) (m : MapShape) (ts : List (Arg × ℤ)) → LeavesFit (apply_at al name m ts).pieces
apply_fit al name m ts = (refl, (refl, both_fit (commas (map (apply_operand_at name) ts)).pieces _ (commas_fit (map (apply_operand_at name) ts) (operands_fit name ts)) tt))

step_operation_fit : (al : List MapShape) (name : Arg → Given) (type : Arg → List ℕ) (e : ElemTy) (o : StepOp) → IsWrittenElem e → IsPrintableOp e o → IsFitStep type o → LeavesFit (step_operation_at al name type e o).pieces
step_operation_fit al name type e (ops.Const v) h i f = (refl, literal_fits e v h)
step_operation_fit al name type e (ops.Index k) h i f = (refl, (refl, tt))
step_operation_fit al name type e (ops.Captured k) h i f = absurd i
step_operation_fit al name type e (ops.Linear c ts) h i f = apply_fit al name (linear_map c ts) ts
step_operation_fit al name type e (ops.Binary op x y) h i f = (binary_fits op, (refl, (refl, (h, tt))))
step_operation_fit al name type e (ops.Compare k x y) h i f = (refl, (predicate_fits k, (refl, (refl, (f, tt)))))
step_operation_fit al name type e (ops.Select c x y) h i f = (refl, (refl, (refl, (refl, (h, tt)))))
step_operation_fit al name type e (ops.SignExtend x) h i f = (cast_fits changes.SignExtend, (refl, (f, (h, tt))))
step_operation_fit al name type e (ops.ZeroExtend x) h i f = (cast_fits changes.ZeroExtend, (refl, (f, (h, tt))))
step_operation_fit al name type e (ops.Truncate x) h i f = (cast_fits changes.Truncate, (refl, (f, (h, tt))))
step_operation_fit al name type e (ops.IndexCast x) h i f = (refl, (refl, (f, (h, tt))))

step_fit : (al : List MapShape) (name : Arg → Given) (type : Arg → List ℕ) (k : ℕ) (s : PayloadStep) → IsSmall (name (StepArg k)) → IsPrintableStep s → IsFitStep type s.op → LeavesFit (step_at al name type k s.ty s.op).pieces
step_fit al name type k s m i f = (given_new (name (StepArg k)) m, step_operation_fit al name type s.ty s.op (type_written s.ty i.ty) i.op f)

-- what an argument names has a type that is written
abbrev AreTyped : (Arg → List ℕ) → (Arg → Option ElemTy) → Type 0
AreTyped type at = (x : Arg) (t : ElemTy) → at x ≡ Some t → is_some (element_of (type x)) ≡ true

fit_step : (type : Arg → List ℕ) (at : Arg → Option ElemTy) (e : ElemTy) (o : StepOp) → AreTyped type at → op_fits at e o ≡ true → IsFitStep type o
fit_step type at e (ops.Const v) k h = tt
fit_step type at e (ops.Index j) k h = tt
fit_step type at e (ops.Captured j) k h = tt
fit_step type at e (ops.Linear c ts) k h = tt
fit_step type at e (ops.Binary op x y) k h = tt
fit_step type at e (ops.Compare c x y) k h = let f = one_found (at x) (at y) (and_parts (is_elem e (Int 1)) (have_one_type (at x) (at y)) h).1 in k x f.0 f.1
fit_step type at e (ops.Select c x y) k h = tt
fit_step type at e (ops.SignExtend x) k h = let f = widening_found (at x) e h in k x f.0 f.1
fit_step type at e (ops.ZeroExtend x) k h = let f = widening_found (at x) e h in k x f.0 f.1
fit_step type at e (ops.Truncate x) k h = let f = narrowing_found (at x) e h in k x f.0 f.1
fit_step type at e (ops.IndexCast x) k h = let f = cast_found (at x) e h in k x f.0 f.1

abbrev types_of : List ElemTy → ElemTy → List PayloadStep → Arg → List ℕ
types_of ins out all x = elem_or (arg_type ins out all x)

steps_written : (al : List MapShape) (a r : ℕ) (ins : List ElemTy) (out : ElemTy) (all ss earlier : List PayloadStep) (k : ℕ) → all ≡ earlier ++ ss → r + (k + length ss) < 2 ^ 64 → AllByRecursion IsWrittenElem ins → IsWrittenElem out → AllByRecursion (λ t. IsWrittenElem t.ty) earlier
    → steps_fit ins out ss earlier ≡ true → AllByRecursion IsPrintableStep ss → AreFit (steps_at al (local_name a (length ins) r) (types_of ins out all) k ss)
steps_written al a r ins out all [] earlier k ends s gs go ge f i = tt
steps_written al a r ins out all (t ∷ ss) earlier k ends s gs go ge f i =
    let p = and_parts (op_fits (arg_type ins out earlier) t.ty t.op) (steps_fit ins out ss (earlier ++ t ∷ [])) f in
    let typed : AreTyped (types_of ins out all) (arg_type ins out earlier) =
    λ x u q. subst (λ (text : List ℕ). is_some (element_of text) ≡ true) (sym (arg_text ins out earlier (t ∷ ss) all x u ends q)) (arg_has IsWrittenElem ins out earlier gs go ge x u q)
    in
    let longer : all ≡ (earlier ++ t ∷ []) ++ ss = ends ∙ sym (append_assoc earlier (t ∷ []) ss) in (
      step_fit al (local_name a (length ins) r) (types_of ins out all) k t (omega arith) i.0 (fit_step (types_of ins out all) (arg_type ins out earlier) t.ty t.op typed p.0),
      steps_written al a r ins out all ss (earlier ++ t ∷ []) (k + 1) longer (omega arith) gs go (all_last (λ (u : PayloadStep). IsWrittenElem u.ty) earlier t ge (type_written t.ty i.0.ty)) p.1 i.1,
    )

pub region_fit : (al : List MapShape) (a r : ℕ) (p : PayloadShape) → a + length p.ins < 2 ^ 64 → r + length p.steps < 2 ^ 64 → AllByRecursion IsWrittenElem p.ins → IsWrittenElem p.out → payload_fits p ≡ true → AllByRecursion IsPrintableStep p.steps → LeavesFit (region_at al a r p).pieces
region_fit al a r p sa sr gs go f s =
    let q = and_parts (steps_fit p.ins p.out p.steps []) (has_type (arg_type p.ins p.out p.steps p.yielded) p.out) f in
    both_fit (block_args_at a p.ins p.out).pieces _ (block_args_fit a p.ins p.out sa gs go)
    (both_fit (each_of (steps_at al (local_name a (length p.ins) r) (arg_type_in p) 0 p.steps)).pieces _ (each_fit (steps_at al (local_name a (length p.ins) r) (arg_type_in p) 0 p.steps) (steps_written al a r p.ins p.out p.steps p.steps [] 0 refl (omega arith) gs go tt q.0 s)) (refl, (refl, (go, tt))))
