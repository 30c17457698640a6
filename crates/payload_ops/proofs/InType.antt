-- Values stay in their types: what a step gives is a value of the step's type, and what a payload gives one of its output's.
use Rattle.std.proofs.Common.{◌≡◌, ℕ, zero, suc, ◌^◌, ◌<◌, ◌≤◌, Bool, true, false, if◌then◌else◌, ◌==◌, IsTrue, List, [], ◌∷◌, ◌++◌, map, length, Option, Some, None, IfSome, option_map, option_and_then, slice_get, slice_index_or, refl, sym, ap, subst, ◌∙◌, arith, append_assoc, append-nil, mod-lt, pow_pos, pow_mono, lt-ltb, ltb-true, eqb-true}
use Rattle.std.proofs.lemmas.Bool.{and_parts, and_from, false≢true}
use Rattle.std.proofs.lemmas.Option.{none-some, same_Some, slice_get-map}
use Rattle.std.proofs.lemmas.List.{map-append}
use Rattle.std.specs.List.{list_all}
use Rattle.payload_ops.proofs.Words.{reduce-lt}
use Rattle.payload_ops.proofs.BinaryLemmas.{binary_of-lt}
use Rattle.mlir_base.specs.Types.{bits_of, is_value, is_elem}
use Rattle.payload_ops.specs.Payload.{is_narrower, arg_type, has_type, is_widening, op_fits, steps_fit, IsPayload}
use Rattle.payload_ops.specs.Shape.{PayloadShape}
use Rattle.payload_ops.specs.Values.{Given, arg_value, arg_bits, bit_of, is_supplied, op_value, step_value, steps_values, payload_value, values_fit, IsGiven}
use Rattle.mlir_base.specs.declared.types.ElemTy.{ElemTy}
use Rattle.mlir_base.specs.declared.types.ElemTy.TheVariants.{Int, Index as IndexType}
use Rattle.payload_ops.specs.declared.step.Arg.{Arg}
use Rattle.payload_ops.specs.declared.step.Arg.TheVariants.{Input, Out, Step}
use Rattle.payload_ops.specs.declared.step.PayloadStep.{PayloadStep}
use Rattle.payload_ops.specs.declared.step.StepOp.{StepOp}
use Rattle.payload_ops.specs.declared.step.StepOp.TheVariants.{Const, Index, Captured, Linear, Binary, Compare, Select, SignExtend, ZeroExtend, Truncate, IndexCast}

abbrev pub types_of : List PayloadStep → List ElemTy
types_of steps = map (λ (s : PayloadStep). s.ty) steps

pub value-lt : (t : ElemTy) (v : ℕ) → IsTrue (is_value t v) → v < 2 ^ bits_of t
value-lt t v h = ltb-true v (2 ^ bits_of t) h

pub lt-value : (t : ElemTy) (v : ℕ) → v < 2 ^ bits_of t → IsTrue (is_value t v)
lt-value t v h = lt-ltb v (2 ^ bits_of t) h

-- a list of values with one more
pub values_fit-push : (ts : List ElemTy) (vs : List ℕ) (t : ElemTy) (v : ℕ) → IsTrue (values_fit ts vs) → IsTrue (is_value t v) → IsTrue (values_fit (ts ++ t ∷ []) (vs ++ v ∷ []))
values_fit-push [] [] t v h k = and_from _ _ k refl
values_fit-push [] (w ∷ vs) t v h k = absurd (false≢true h)
values_fit-push (u ∷ ts) [] t v h k = absurd (false≢true h)
values_fit-push (u ∷ ts) (w ∷ vs) t v h k = let parts = and_parts (is_value u w) (values_fit ts vs) h in and_from _ _ parts.0 (values_fit-push ts vs t v parts.1 k)

pub values_fit-length : (ts : List ElemTy) (vs : List ℕ) → IsTrue (values_fit ts vs) → length ts ≡ length vs
values_fit-length [] [] h = refl
values_fit-length [] (w ∷ vs) h = absurd (false≢true h)
values_fit-length (u ∷ ts) [] h = absurd (false≢true h)
values_fit-length (u ∷ ts) (w ∷ vs) h = ap suc (values_fit-length ts vs (and_parts (is_value u w) (values_fit ts vs) h).1)

pub values_fit-at : (ts : List ElemTy) (vs : List ℕ) (k : ℕ) (t : ElemTy) → IsTrue (values_fit ts vs) → slice_get ts k ≡ Some t → slice_index_or vs k 0 < 2 ^ bits_of t
values_fit-at [] vs k t h e = absurd (none-some t e)
values_fit-at (u ∷ ts) [] k t h e = absurd (false≢true h)
values_fit-at (u ∷ ts) (w ∷ vs) zero t h e = subst (λ (x : ElemTy). w < 2 ^ bits_of x) (same_Some u t e) (value-lt u w (and_parts (is_value u w) (values_fit ts vs) h).0)
values_fit-at (u ∷ ts) (w ∷ vs) (suc k) t h e = values_fit-at ts vs k t (and_parts (is_value u w) (values_fit ts vs) h).1 e

pub is_elem-bits : (t u : ElemTy) → IsTrue (is_elem t u) → bits_of t ≡ bits_of u
is_elem-bits (Int v) (Int w) h = eqb-true v w h
is_elem-bits (Int v) IndexType h = absurd (false≢true h)
is_elem-bits IndexType (Int w) h = absurd (false≢true h)
is_elem-bits IndexType IndexType h = refl

-- what has a type has one of as many bits
pub has_type-bits : (o : Option ElemTy) (t : ElemTy) → IsTrue (has_type o t) → (u : ElemTy) × (o ≡ Some u) × (bits_of u ≡ bits_of t)
has_type-bits None t h = absurd (false≢true h)
has_type-bits (Some u) t h = (u, refl, is_elem-bits u t h)

narrower-lt : (u t : ElemTy) → IsTrue (is_narrower u t) → bits_of u < bits_of t
narrower-lt (Int v) (Int w) h = ltb-true v w h
narrower-lt (Int v) IndexType h = absurd (false≢true h)
narrower-lt IndexType t h = absurd (false≢true h)

widening-bits : (o : Option ElemTy) (t : ElemTy) → IsTrue (is_widening o t) → (u : ElemTy) × (o ≡ Some u) × (bits_of u < bits_of t)
widening-bits None t h = absurd (false≢true h)
widening-bits (Some u) t h = (u, refl, narrower-lt u t h)

bit_of-lt : (b : Bool) → bit_of b < 2
bit_of-lt true = omega arith
bit_of-lt false = omega arith

at_bits : (n : ℕ) (t u : ElemTy) → IsTrue (is_elem t u) → n < 2 ^ bits_of u → n < 2 ^ bits_of t
at_bits n t u h k = subst (λ (b : ℕ). n < 2 ^ b) (sym (is_elem-bits t u h)) k

-- an operation on values of their types gives a value of the operation's type
module _ (at : Arg → Option ElemTy) (value bits : Arg → ℕ) (point outer : List ℕ) (t : ElemTy) (typed : (a : Arg) (u : ElemTy) → at a ≡ Some u → value a < 2 ^ bits_of u) where
  taken : (a : Arg) → IsTrue (has_type (at a) t) → value a < 2 ^ bits_of t
  taken a h = let found = has_type-bits (at a) t h in subst (λ (b : ℕ). value a < 2 ^ b) found.2 (typed a found.0 found.1)

  widened : (a : Arg) → IsTrue (is_widening (at a) t) → value a < 2 ^ bits_of t
  widened a h =
      let found = widening-bits (at a) t h in
      let small = typed a found.0 found.1 in
      let shorter : bits_of found.0 ≤ bits_of t = omega (arith, found.2) in
      let most = pow_mono shorter in omega arith

  chosen : (b : Bool) (x y n : ℕ) → x < n → y < n → (if b then x else y) < n
  chosen true x y n h k = h
  chosen false x y n h k = k

  pub op_value-lt : (op : StepOp) → IsTrue (op_fits at t op) → IfSome (op_value value bits point outer t op) (λ v. v < 2 ^ bits_of t)
  unfolding op_value
  op_value-lt (Const v) h = value-lt t v h
  op_value-lt (Index d) h = at_bits _ t IndexType h (mod-lt _ (pow_pos 64))
  op_value-lt (Captured k) h = at_bits _ t IndexType h (mod-lt _ (pow_pos 64))
  op_value-lt (Linear constant terms) h = at_bits _ t IndexType (and_parts _ _ (and_parts _ _ h).0).0 (reduce-lt 64 _)
  op_value-lt (Binary op a b) h = binary_of-lt op (bits_of t) (value a) (value b)
  op_value-lt (Compare p a b) h = at_bits _ t (Int 1) (and_parts _ _ h).0 (bit_of-lt _)
  op_value-lt (Select c a b) h =
      let front = and_parts _ _ (and_parts _ _ h).0 in
      chosen (value c == 0) (value b) (value a) (2 ^ bits_of t) (taken b (and_parts _ _ h).1) (taken a front.1)
  op_value-lt (SignExtend a) h = reduce-lt (bits_of t) _
  op_value-lt (ZeroExtend a) h = widened a h
  op_value-lt (Truncate a) h = mod-lt (value a) (pow_pos (bits_of t))
  op_value-lt (IndexCast a) h = reduce-lt (bits_of t) _

-- an argument that has a type has a value of it
pub arg_value-lt : (p : PayloadShape) (g : Given) (earlier : List PayloadStep) (done : List ℕ) → IsTrue (values_fit p.ins g.ins) → IsTrue (is_value p.out g.out)
    → IsTrue (values_fit (types_of earlier) done) → (a : Arg) (t : ElemTy) → arg_type p.ins p.out earlier a ≡ Some t → arg_value g done a < 2 ^ bits_of t
arg_value-lt p g earlier done ins out steps (Input k) t e = values_fit-at p.ins g.ins k t ins e
arg_value-lt p g earlier done ins out steps Out t e = subst (λ (u : ElemTy). g.out < 2 ^ bits_of u) (same_Some p.out t e) (value-lt p.out g.out out)
arg_value-lt p g earlier done ins out steps (Step k) t e =
    values_fit-at (types_of earlier) done k t steps (slice_get-map (λ (s : PayloadStep). s.ty) earlier k ∙ e)

some_then : {A B : Type 0} (o : Option A) (f : A → Option B) (Q : B → Type 0) → ((x : A) → o ≡ Some x → IfSome (f x) Q) → IfSome (option_and_then f o) Q
some_then None f Q h = tt
some_then (Some x) f Q h = h x refl

step_value-lt : (p : PayloadShape) (g : Given) (earlier : List PayloadStep) (done : List ℕ) (s : PayloadStep) → IsTrue (values_fit p.ins g.ins) → IsTrue (is_value p.out g.out)
    → IsTrue (values_fit (types_of earlier) done) → IsTrue (op_fits (arg_type p.ins p.out earlier) s.ty s.op) → (v : ℕ) → step_value p g done s ≡ Some v → IsTrue (is_value s.ty v)
step_value-lt p g earlier done s ins out steps fits v e =
    let P : Option ℕ → Type 0 = λ o. IfSome o (λ x. x < 2 ^ bits_of s.ty) in
    lt-value s.ty v (subst P e (op_value-lt (arg_type p.ins p.out earlier) (arg_value g done) (arg_bits p) g.point g.outer s.ty (arg_value-lt p g earlier done ins out steps) s.op fits))

-- the values of all steps are values of their types
pub steps_values-fit : (p : PayloadShape) (g : Given) (rest earlier : List PayloadStep) (done : List ℕ) → IsTrue (values_fit p.ins g.ins) → IsTrue (is_value p.out g.out)
    → IsTrue (values_fit (types_of earlier) done) → IsTrue (steps_fit p.ins p.out rest earlier) → IfSome (steps_values p g rest done) (λ all. IsTrue (values_fit (types_of (earlier ++ rest)) all))
steps_values-fit p g [] earlier done ins out steps fits = subst (λ (e : List PayloadStep). IsTrue (values_fit (types_of e) done)) (sym (append-nil earlier)) steps
steps_values-fit p g (s ∷ rest) earlier done ins out steps fits =
    let parts = and_parts (op_fits (arg_type p.ins p.out earlier) s.ty s.op) (steps_fit p.ins p.out rest (earlier ++ s ∷ [])) fits in
    let Q : List PayloadStep → List ℕ → Type 0 = λ e all. IsTrue (values_fit (types_of e) all) in
    some_then (step_value p g done s) (λ v. steps_values p g rest (done ++ v ∷ [])) (Q (earlier ++ s ∷ rest)) (λ v e.
    let more = values_fit-push (types_of earlier) done s.ty v steps (step_value-lt p g earlier done s ins out steps parts.0 v e) in
    let types = map-append (λ (x : PayloadStep). x.ty) earlier (s ∷ []) in
    subst (λ (l : List PayloadStep). IfSome (steps_values p g rest (done ++ v ∷ [])) (Q l)) (append_assoc earlier (s ∷ []) rest)
    (steps_values-fit p g rest (earlier ++ s ∷ []) (done ++ v ∷ []) ins out (subst (λ (ts : List ElemTy). IsTrue (values_fit ts (done ++ v ∷ []))) (sym types) more) parts.1))

-- what is given, part by part
pub record Parts (p : PayloadShape) (g : Given) : Type 0 where
  pub ins : IsTrue (values_fit p.ins g.ins)
  pub out : IsTrue (is_value p.out g.out)
  pub supplied : IsTrue (list_all (λ (s : PayloadStep). is_supplied (length g.point) (length g.outer) s.op) p.steps)

pub given-parts : (p : PayloadShape) (g : Given) → IsGiven p g → Parts p g
given-parts p g h =
    let both = and_parts _ _ h in
    let front = and_parts _ _ both.0 in
    record { ins = front.0; out = front.1; supplied = both.1 }

-- what a payload gives is a value of its output's type
pub payload_value-fits : (p : PayloadShape) (g : Given) → IsPayload p → IsGiven p g → IfSome (payload_value p g) (λ v. IsTrue (is_value p.out v))
payload_value-fits p g fits given =
    let parts = given-parts p g given in
    let both = and_parts _ _ fits in
    let found = has_type-bits (arg_type p.ins p.out p.steps p.yielded) p.out both.1 in
    mapped (steps_values p g p.steps []) (λ done. arg_value g done p.yielded) _ _ (steps_values-fit p g p.steps [] [] parts.ins parts.out refl both.0) (λ done typed.
    let small = arg_value-lt p g p.steps done parts.ins parts.out typed p.yielded found.0 found.1 in
    lt-value p.out (arg_value g done p.yielded) (subst (λ (b : ℕ). arg_value g done p.yielded < 2 ^ b) found.2 small))
  where
    mapped : {A B : Type 0} (o : Option A) (f : A → B) (P : A → Type 0) (Q : B → Type 0) → IfSome o P → ((x : A) → P x → Q (f x)) → IfSome (option_map f o) Q
    mapped None f P Q h k = tt
    mapped (Some x) f P Q h k = k x h
