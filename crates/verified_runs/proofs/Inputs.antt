-- What a payload is given at a point is in its types, and what it gives is in its output's type.
use Rattle.std.proofs.Common.{◌≡◌, ℕ, ◌^◌, ◌<◌, ◌≤◌, ◌==◌, Bool, true, IsTrue, List, [], ◌∷◌, length, Option, Some, None, IfSome, option_map, option_and_then, refl, subst, arith, eqb-true, pow_pos}
use Rattle.std.specs.Prelude.{⊤}
use Rattle.std.specs.List.{list_all, zip}
use Rattle.std.proofs.lemmas.Bool.{and_parts, and_from}
use Rattle.affine_maps.specs.Shape.{MapShape}
use Rattle.mlir_base.specs.Types.{bits_of}
use Rattle.payload_ops.specs.Payload.{arg_type, IsPayload}
use Rattle.payload_ops.specs.Shape.{PayloadShape}
use Rattle.payload_ops.specs.Values.{Given, arg_value, steps_values, payload_value, values_fit}
use Rattle.mlir_base.specs.declared.types.ElemTy.{ElemTy}
use Rattle.mlir_base.specs.declared.types.ElemTy.TheVariants.{Int, Index}
use Rattle.payload_ops.proofs.InType.{lt-value, has_type-bits, arg_value-lt, steps_values-fit}
use Rattle.mlir_ir.specs.declared.tree.Extent.{Extent}
use Rattle.mlir_ir.specs.declared.tree.Ty.{Ty}
use Rattle.mlir_ir.specs.declared.tree.Ty.TheVariants.{Scalar, Tensor, Vector}
use Rattle.mlir_ir.specs.declared.tree.ValueId.{ValueId}
use Rattle.mlir_meaning.proofs.Grids.{at-each}
use Rattle.mlir_meaning.specs.Points.{map_point}
use Rattle.mlir_meaning.specs.States.{element}
use Rattle.mlir_meaning.specs.declared.values.Datum.{Datum}
use Rattle.mlir_meaning.specs.declared.values.Datum.TheVariants.{Number, Bits, Cells}
use Rattle.mlir_meaning.specs.Structured.{elements, generic_step}
use Rattle.mlir_meaning.specs.Meaning.{values_in}
use Rattle.mlir_verify.specs.Place.{Types}
use Rattle.mlir_verify.specs.Constants.{Constants}
use Rattle.mlir_verify.specs.Types.{is_input}
use Rattle.verified_runs.specs.Typed.{Holds, HoldsIn}
use Rattle.verified_runs.proofs.Defined.{AllHold}

-- every element is a value of the type
abbrev pub Reads : ElemTy → Datum → Type 0
Reads e d = (p : List ℕ) → element d p < 2 ^ bits_of e

abbrev pub AllRead : List ElemTy → List Datum → Type 0
AllRead [] [] = ⊤
AllRead (e ∷ es) (d ∷ ds) = Reads e d × AllRead es ds
AllRead _ _ = ⊥

pub tensor_reads : (es : List Extent) (w : ℕ) (d : Datum) → Holds (Tensor es w) d → Reads (Int w) d
tensor_reads es w (Cells v g) h p = at-each (λ c. c < 2 ^ w) g h.2.1 (pow_pos w) p
tensor_reads es w (Number n) h p = absurd h
tensor_reads es w (Bits b) h p = absurd h

pub scalar_reads : (w : ℕ) (d : Datum) → Holds (Scalar (Int w)) d → Reads (Int w) d
scalar_reads w (Bits b) h p = h
scalar_reads w (Number n) h p = absurd h
scalar_reads w (Cells v g) h p = absurd h

pub as_wide : (v w : ℕ) (d : Datum) → (v == w) ≡ true → Reads (Int v) d → Reads (Int w) d
as_wide v w d e h = subst (λ n. Reads (Int n) d) (eqb-true v w e) h

input_reads : (o : Option Ty) (constant : Bool) (e : ElemTy) (d : Datum) → is_input o constant e ≡ true → HoldsIn o d → Reads e d
input_reads (Some (Tensor es v)) constant (Int w) d i h = as_wide v w d i (tensor_reads es v d h)
input_reads (Some (Scalar (Int v))) constant (Int w) d i h = as_wide v w d (and_parts (v == w) constant i).0 (scalar_reads v d h)
input_reads (Some (Tensor es v)) constant Index d i h = absurd cc
input_reads (Some (Scalar (Int v))) constant Index d i h = absurd cc
input_reads (Some (Scalar Index)) constant e d i h = absurd cc
input_reads (Some (Vector es v)) constant e d i h = absurd cc
input_reads None constant e d i h = absurd cc

pub inputs_read : (t : Types) (constants : Constants) (values : ℕ → Datum) → AllHold t values → (ins : List ValueId) (es : List ElemTy) → length ins ≡ length es →
    list_all (λ (x : ValueId × ElemTy). is_input (t (x.0).0) (constants (x.0).0) x.1) (zip ins es) ≡ true → AllRead es (values_in values ins)
inputs_read t constants values k [] [] l h = tt
inputs_read t constants values k [] (e ∷ es) l h = absurd (omega arith)
inputs_read t constants values k (v ∷ ins) [] l h = absurd (omega arith)
inputs_read t constants values k (v ∷ ins) (e ∷ es) l h =
    let both = and_parts (is_input (t v.0) (constants v.0) e) _ h in
    (input_reads (t v.0) (constants v.0) e (values v.0) both.0 (k v.0), inputs_read t constants values k ins es (omega arith) both.1)

elements_fit : (es : List ElemTy) (ds : List Datum) (ms : List MapShape) (p : List ℕ) → AllRead es ds → length ds ≤ length ms → IsTrue (values_fit es (elements ds ms p))
elements_fit [] [] ms p h l = refl
elements_fit [] (d ∷ ds) ms p h l = absurd h
elements_fit (e ∷ es) [] ms p h l = absurd h
elements_fit (e ∷ es) (d ∷ ds) [] p h l = absurd (omega arith)
elements_fit (e ∷ es) (d ∷ ds) (m ∷ ms) p h l = and_from _ _ (lt-value e _ (h.0 (map_point m p))) (elements_fit es ds ms p h.1 (omega arith))

pub if_mapped : {A B : Type 0} (o : Option A) (f : A → B) (P : A → Type 0) (Q : B → Type 0) → IfSome o P → ((x : A) → P x → Q (f x)) → IfSome (option_map f o) Q
if_mapped None f P Q h k = tt
if_mapped (Some x) f P Q h k = k x h

pub if_then : {A B : Type 0} (o : Option A) (f : A → Option B) (P : A → Type 0) (Q : B → Type 0) → IfSome o P → ((x : A) → P x → IfSome (f x) Q) → IfSome (option_and_then f o) Q
if_then None f P Q h k = tt
if_then (Some x) f P Q h k = k x h

pub if_any : {A : Type 0} (o : Option A) → IfSome o (λ x. ⊤)
if_any None = tt
if_any (Some x) = tt

-- what a payload gives, whatever its dimensions and captured values are
pub payload_gives : (p : PayloadShape) (g : Given) → IsPayload p → IsTrue (values_fit p.ins g.ins) → g.out < 2 ^ bits_of p.out → IfSome (payload_value p g) (λ v. v < 2 ^ bits_of p.out)
payload_gives p g fits ins out =
    let both = and_parts _ _ fits in
    let found = has_type-bits (arg_type p.ins p.out p.steps p.yielded) p.out both.1 in
    if_mapped (steps_values p g p.steps []) (λ done. arg_value g done p.yielded) _ (λ v. v < 2 ^ bits_of p.out)
    (steps_values-fit p g p.steps [] [] ins (lt-value p.out g.out out) refl both.0)
    (λ done typed. subst (λ (b : ℕ). arg_value g done p.yielded < 2 ^ b) found.2 (arg_value-lt p g p.steps done ins (lt-value p.out g.out out) typed p.yielded found.0 found.1))

-- a step of a fold keeps elements of w bits
abbrev pub KeepsWidth : ℕ → (ℕ → List ℕ → Option ℕ) → Type 0
KeepsWidth w step = (a : ℕ) (p : List ℕ) → a < 2 ^ w → IfSome (step a p) (λ v. v < 2 ^ w)

pub payload_keeps : (maps : List MapShape) (ins : List Datum) (captured : List ℕ) (payload : PayloadShape) (w : ℕ) → IsPayload payload → bits_of payload.out ≡ w →
    AllRead payload.ins ins → length ins ≤ length maps → KeepsWidth w (generic_step maps ins captured payload)
payload_keeps maps ins captured payload w fits e reads l = subst (λ n. KeepsWidth n (generic_step maps ins captured payload)) e
    (λ a p small. payload_gives payload (record { point = p; outer = captured; ins = elements ins maps p; out = a }) fits (elements_fit payload.ins ins maps p reads l) small)
