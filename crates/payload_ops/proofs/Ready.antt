-- What the evaluation of a payload knows of an argument: where its value stands, and which type it has.
use Rattle.std.proofs.Common.{◌≡◌, ℕ, zero, suc, ◌^◌, ◌<◌, Bool, ◌&&◌, IsTrue, List, [], ◌∷◌, take, drop, length, Option, Some, None, IfSome, IsSome, is_some, option_map, slice_get, refl, sym, ap, subst, ◌∙◌, arith, take-append-drop, ltb-true}
use Rattle.std.proofs.lemmas.Bool.{and_parts, false≢true}
use Rattle.std.proofs.lemmas.Option.{none-some, same_Some, slice_get_within}
use Rattle.std.proofs.lemmas.List.{length-map}
use Rattle.std.specs.Option.{option_map_or}
use Rattle.std.specs.List.{list_all}
use Rattle.payload_ops.proofs.Steps.{steps_fit-append}
use Rattle.payload_ops.proofs.InType.{types_of, values_fit-length, has_type-bits, arg_value-lt, steps_values-fit, given-parts}
use Rattle.payload_ops.specs.Evaluation.{IsReady, IsNext}
use Rattle.mlir_base.specs.Types.{bits_of}
use Rattle.payload_ops.specs.Payload.{arg_type, has_type, have_one_type, is_widening, is_narrowing, is_cast, term_fits, op_fits, steps_fit, IsPayload}
use Rattle.payload_ops.specs.Shape.{PayloadShape}
use Rattle.payload_ops.specs.Values.{Given, arg_value, arg_bits, is_supplied, steps_values, values_fit}
use Rattle.mlir_base.specs.declared.types.ElemTy.{ElemTy}
use Rattle.mlir_base.specs.declared.types.ElemTy.TheVariants.{Int}
use Rattle.payload_ops.specs.declared.step.Arg.{Arg}
use Rattle.payload_ops.specs.declared.step.Arg.TheVariants.{Input, Out, Step}
use Rattle.payload_ops.specs.declared.step.PayloadStep.{PayloadStep}
use Rattle.payload_ops.specs.declared.step.StepOp.{StepOp}
use Rattle.payload_ops.specs.declared.step.StepOp.TheVariants.{Const, Index, Captured, Linear, Binary, Compare, Select, SignExtend, ZeroExtend, Truncate, IndexCast}

pub some_is : {X : Type 0} (o : Option X) → IsSome o → (x : X) × (o ≡ Some x)
some_is None h = absurd (false≢true h)
some_is (Some x) h = (x, refl)

mapped_is : {X Y : Type 0} (f : X → Y) (o : Option X) (y : Y) → option_map f o ≡ Some y → (x : X) × (o ≡ Some x)
mapped_is f None y e = absurd (none-some y e)
mapped_is f (Some x) y e = (x, refl)

slice_get-take : {X : Type 0} (n : ℕ) (xs : List X) (k : ℕ) (x : X) → slice_get (take n xs) k ≡ Some x → slice_get xs k ≡ Some x
slice_get-take zero xs k x e = absurd (none-some x e)
slice_get-take (suc n) [] k x e = absurd (none-some x e)
slice_get-take (suc n) (y ∷ ys) zero x e = e
slice_get-take (suc n) (y ∷ ys) (suc k) x e = slice_get-take n ys k x e

-- an argument of the first n steps has its type among all steps too
pub arg_type-take : (ins : List ElemTy) (out : ElemTy) (steps : List PayloadStep) (n : ℕ) (a : Arg) (t : ElemTy) → arg_type ins out (take n steps) a ≡ Some t → arg_type ins out steps a ≡ Some t
arg_type-take ins out steps n (Input k) t e = e
arg_type-take ins out steps n Out t e = e
arg_type-take ins out steps n (Step k) t e =
    let found = mapped_is (λ (s : PayloadStep). s.ty) (slice_get (take n steps) k) t e in
    let whole = slice_get-take n steps k found.0 found.1 in
    ap (option_map (λ (s : PayloadStep). s.ty)) (whole ∙ sym found.1) ∙ e

-- the first n steps fit, and the rest after them
fit_parts : (ins : List ElemTy) (out : ElemTy) (steps : List PayloadStep) (n : ℕ) → IsTrue (steps_fit ins out steps [])
    → IsTrue (steps_fit ins out (take n steps) [] && steps_fit ins out (drop n steps) (take n steps))
fit_parts ins out steps n h = sym (steps_fit-append ins out (take n steps) (drop n steps) []) ∙ ap (λ l. steps_fit ins out l []) (take-append-drop n steps) ∙ h

-- what is known of an argument that names something: its value stands in its list and is one of its type
pub record Reads (p : PayloadShape) (g : Given) (done : List ℕ) (a : Arg) (t : ElemTy) : Type 0 where
  pub in_type : arg_value g done a < 2 ^ bits_of t
  pub bits : arg_bits p a ≡ bits_of t

module _ (p : PayloadShape) (g : Given) (done : List ℕ) (ready : IsReady p g done) where
  typed : IsTrue (values_fit (types_of (take (length done) p.steps)) done)
  typed =
      let parts = given-parts p g ready.given in
      let fits = and_parts _ _ ready.fits in
      let front = and_parts _ _ (fit_parts p.ins p.out p.steps (length done) fits.0) in
      let Q : List ℕ → Type 0 = λ all. IsTrue (values_fit (types_of (take (length done) p.steps)) all) in
      let all : IfSome (steps_values p g (take (length done) p.steps) []) Q = steps_values-fit p g (take (length done) p.steps) [] [] parts.ins parts.out refl front.0 in
      subst (λ (o : Option (List ℕ)). IfSome o Q) ready.values all

  pub reads : (a : Arg) (t : ElemTy) → arg_type p.ins p.out (take (length done) p.steps) a ≡ Some t → Reads p g done a t
  reads a t e =
      let parts = given-parts p g ready.given in
      record {
        in_type = arg_value-lt p g (take (length done) p.steps) done parts.ins parts.out typed a t e;
        bits = ap (λ o. option_map_or bits_of o 0) (arg_type-take p.ins p.out p.steps (length done) a t e);
      }

  -- the value of an argument that names something is one of its type
  pub arg-in_type : (a : Arg) → IsSome (arg_type p.ins p.out (take (length done) p.steps) a) → arg_value g done a < 2 ^ arg_bits p a
  arg-in_type a h =
      let found = some_is (arg_type p.ins p.out (take (length done) p.steps) a) h in
      let read = reads a found.0 found.1 in
      subst (λ (b : ℕ). arg_value g done a < 2 ^ b) (sym read.bits) read.in_type

  pub input-lt : (k : ℕ) → IsSome (slice_get p.ins k) → k < length g.ins
  input-lt k h =
      let found = some_is (slice_get p.ins k) h in
      let parts = given-parts p g ready.given in
      let same = values_fit-length p.ins g.ins parts.ins in
      let within = slice_get_within p.ins k found.0 found.1 in
      omega arith

  pub step-lt : (k : ℕ) → IsSome (option_map (λ (s : PayloadStep). s.ty) (slice_get (take (length done) p.steps) k)) → k < length done
  step-lt k h =
      let front = take (length done) p.steps in
      let typed_as = some_is (option_map (λ (s : PayloadStep). s.ty) (slice_get front k)) h in
      let found = mapped_is (λ (s : PayloadStep). s.ty) (slice_get front k) typed_as.0 typed_as.1 in
      let within = slice_get_within front k found.0 found.1 in
      let same = values_fit-length (types_of front) done typed in
      let mapped = length-map front (λ (s : PayloadStep). s.ty) in
      omega arith

-- an argument names something, and its type has n bits
pub record Names (p : PayloadShape) (done : List ℕ) (a : Arg) (n : ℕ) : Type 0 where
  pub named : IsSome (arg_type p.ins p.out (take (length done) p.steps) a)
  pub whole : IsSome (arg_type p.ins p.out p.steps a)
  pub bits : arg_bits p a ≡ n

names : (p : PayloadShape) (done : List ℕ) (a : Arg) (t : ElemTy) → arg_type p.ins p.out (take (length done) p.steps) a ≡ Some t → Names p done a (bits_of t)
names p done a t e =
    let whole = arg_type-take p.ins p.out p.steps (length done) a t e in
    record { named = ap is_some e; whole = ap is_some whole; bits = ap (λ o. option_map_or bits_of o 0) whole }

names_own : (p : PayloadShape) (done : List ℕ) (a : Arg) → IsSome (arg_type p.ins p.out (take (length done) p.steps) a) → Names p done a (arg_bits p a)
names_own p done a h =
    let found = some_is (arg_type p.ins p.out (take (length done) p.steps) a) h in
    let n = names p done a found.0 found.1 in
    record { named = h; whole = n.whole; bits = refl }

names_type : (p : PayloadShape) (done : List ℕ) (a : Arg) (t : ElemTy) → IsTrue (has_type (arg_type p.ins p.out (take (length done) p.steps) a) t) → Names p done a (bits_of t)
names_type p done a t h =
    let found = has_type-bits (arg_type p.ins p.out (take (length done) p.steps) a) t h in
    subst (λ (b : ℕ). Names p done a b) found.2 (names p done a found.0 found.1)

-- what the parts of an operation name
abbrev pub Uses : PayloadShape → Given → List ℕ → ElemTy → StepOp → Type 0
Uses p g done t (Const v) = Unit {0}
Uses p g done t (Index d) = d < length g.point
Uses p g done t (Captured k) = k < length g.outer
Uses p g done t (Linear constant terms) = IsTrue (list_all (term_fits (arg_type p.ins p.out (take (length done) p.steps))) terms)
Uses p g done t (Binary op a b) = Names p done a (bits_of t) × Names p done b (bits_of t)
Uses p g done t (Compare predicate a b) = Names p done a (arg_bits p a) × Names p done b (arg_bits p a)
Uses p g done t (Select c a b) = Names p done c 1 × Names p done a (bits_of t) × Names p done b (bits_of t)
Uses p g done t (SignExtend a) = Names p done a (arg_bits p a)
Uses p g done t (ZeroExtend a) = Names p done a (arg_bits p a)
Uses p g done t (Truncate a) = Names p done a (arg_bits p a)
Uses p g done t (IndexCast a) = Names p done a (arg_bits p a)

widening-some : (o : Option ElemTy) (t : ElemTy) → IsTrue (is_widening o t) → IsSome o
widening-some None t h = h
widening-some (Some u) t h = refl

narrowing-some : (o : Option ElemTy) (t : ElemTy) → IsTrue (is_narrowing o t) → IsSome o
narrowing-some None t h = h
narrowing-some (Some u) t h = refl

cast-some : (o : Option ElemTy) (t : ElemTy) → IsTrue (is_cast o t) → IsSome o
cast-some None t h = h
cast-some (Some u) t h = refl

one_type : (p : PayloadShape) (done : List ℕ) (a b : Arg) → IsTrue (have_one_type (arg_type p.ins p.out (take (length done) p.steps) a) (arg_type p.ins p.out (take (length done) p.steps) b))
    → Names p done a (arg_bits p a) × Names p done b (arg_bits p a)
one_type p done a b h = by (arg_type p.ins p.out (take (length done) p.steps) a) refl h
  where
    by : (o : Option ElemTy) → arg_type p.ins p.out (take (length done) p.steps) a ≡ o → IsTrue (have_one_type o (arg_type p.ins p.out (take (length done) p.steps) b))
        → Names p done a (arg_bits p a) × Names p done b (arg_bits p a)
    by None e k = absurd (false≢true k)
    by (Some t) e k =
        let first = names p done a t e in
        (names_own p done a first.named, subst (λ (n : ℕ). Names p done b n) (sym first.bits) (names_type p done b t k))

uses_of : (p : PayloadShape) (g : Given) (done : List ℕ) (t : ElemTy) (op : StepOp) → IsTrue (is_supplied (length g.point) (length g.outer) op)
    → IsTrue (op_fits (arg_type p.ins p.out (take (length done) p.steps)) t op) → Uses p g done t op
uses_of p g done t (Const v) s h = tt
uses_of p g done t (Index d) s h = ltb-true d (length g.point) s
uses_of p g done t (Captured k) s h = ltb-true k (length g.outer) s
uses_of p g done t (Linear constant terms) s h = (and_parts _ _ h).1
uses_of p g done t (Binary op a b) s h = let parts = and_parts _ _ h in (names_type p done a t parts.0, names_type p done b t parts.1)
uses_of p g done t (Compare predicate a b) s h = one_type p done a b (and_parts _ _ h).1
uses_of p g done t (Select c a b) s h =
    let parts = and_parts _ _ h in
    let front = and_parts _ _ parts.0 in
    (names_type p done c (Int 1) front.0, names_type p done a t front.1, names_type p done b t parts.1)
uses_of p g done t (SignExtend a) s h = names_own p done a (widening-some (arg_type p.ins p.out (take (length done) p.steps) a) t h)
uses_of p g done t (ZeroExtend a) s h = names_own p done a (widening-some (arg_type p.ins p.out (take (length done) p.steps) a) t h)
uses_of p g done t (Truncate a) s h = names_own p done a (narrowing-some (arg_type p.ins p.out (take (length done) p.steps) a) t h)
uses_of p g done t (IndexCast a) s h = names_own p done a (cast-some (arg_type p.ins p.out (take (length done) p.steps) a) t h)

drop-at : {X : Type 0} (n : ℕ) (xs : List X) (x : X) → slice_get xs n ≡ Some x → drop n xs ≡ x ∷ drop (suc n) xs
drop-at zero [] x e = absurd (none-some x e)
drop-at zero (y ∷ ys) x e = ap (λ z. z ∷ ys) (same_Some y x e)
drop-at (suc n) [] x e = absurd (none-some x e)
drop-at (suc n) (y ∷ ys) x e = drop-at n ys x e

list_all-at : {X : Type 0} (f : X → Bool) (xs : List X) (n : ℕ) (x : X) → IsTrue (list_all f xs) → slice_get xs n ≡ Some x → IsTrue (f x)
list_all-at f [] n x h e = absurd (none-some x e)
list_all-at f (y ∷ ys) zero x h e = subst (λ z. IsTrue (f z)) (same_Some y x e) (and_parts (f y) (list_all f ys) h).0
list_all-at f (y ∷ ys) (suc n) x h e = list_all-at f ys n x (and_parts (f y) (list_all f ys) h).1 e

-- the next step fits those before it
pub next-fits : (p : PayloadShape) (done : List ℕ) (s : PayloadStep) → IsPayload p → slice_get p.steps (length done) ≡ Some s → IsTrue (op_fits (arg_type p.ins p.out (take (length done) p.steps)) s.ty s.op)
next-fits p done s fits e =
    let whole = and_parts _ _ fits in
    let back = (and_parts _ _ (fit_parts p.ins p.out p.steps (length done) whole.0)).1 in
    let P : List PayloadStep → Type 0 = λ l. IsTrue (steps_fit p.ins p.out l (take (length done) p.steps)) in
    (and_parts _ _ (subst P (drop-at (length done) p.steps s e) back)).0

pub uses : {p : PayloadShape} {g : Given} {done : List ℕ} {s : PayloadStep} {op : StepOp} → IsNext p g done s → s.op ≡ op → Uses p g done s.ty op
uses {p} {g} {done} {s} {op} next is =
    let parts = given-parts p g next.ready.given in
    let supplied = list_all-at (λ (x : PayloadStep). is_supplied (length g.point) (length g.outer) x.op) p.steps (length done) s parts.supplied next.step in
    subst (λ (o : StepOp). Uses p g done s.ty o) is (uses_of p g done s.ty s.op supplied (next-fits p done s next.ready.fits next.step))
