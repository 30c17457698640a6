-- Bodies that pass, run from typed states.
use Rattle.std.proofs.Common.{◌≡◌, ℕ, ◌<◌, Bool, true, false, List, [], ◌∷◌, ◌++◌, map, length, Some, None, option_map, option_and_then, refl, sym, subst, ◌∙◌, arith, lt-ltb, eq-eqb}
use Rattle.std.specs.Prelude.{not, if◌then◌else◌, ◌^◌, nat_lt, ◌==◌}
use Rattle.std.specs.List.{list_all}
use Rattle.std.proofs.lemmas.Bool.{and_parts, and_from}
use Rattle.mlir_ir.specs.Shape.{TensorShape, volume}
use Rattle.mlir_ir.specs.declared.tree.Op.{Op}
use Rattle.mlir_ir.specs.declared.tree.Ty.{Ty}
use Rattle.mlir_ir.specs.declared.tree.Ty.TheVariants.{Scalar, Tensor, Vector}
use Rattle.mlir_ir.specs.declared.tree.ValueId.{ValueId}
use Rattle.mlir_meaning.specs.Grids.{Each, all_some}
use Rattle.mlir_meaning.specs.States.{State, Outcome, Goes, Ends, Fails, then_goes}
use Rattle.mlir_meaning.specs.declared.values.Datum.{Datum}
use Rattle.mlir_meaning.specs.declared.values.Datum.TheVariants.{Number, Bits, Cells}
use Rattle.mlir_meaning.specs.Meaning.{kind_meaning, run, datum_of, is_tensor, tensor_of, initial_state, answer_results, answer_of, meaning}
use Rattle.mlir_meaning.specs.Contexts.{Context, Here, InFor, InForall, for_op, forall_op, plug, Reaches}
use Rattle.mlir_verify.specs.Place.{Types, type_among, is_empty}
use Rattle.mlir_verify.specs.Built.{is_built_type, is_built_kind, is_built}
use Rattle.mlir_verify.specs.Ends.{is_return}
use Rattle.mlir_verify.specs.Extents.{breaks_extents}
use Rattle.mlir_verify.specs.Tensors.{is_fixed_tensor}
use Rattle.mlir_verify.proofs.Standing.{first-None}
use Rattle.verified_runs.specs.Typed.{Holds, HoldsIn, HoldAll, AreTyped, IsTypedRun, types_of, AreOf, IsTypedAnswer}
use Rattle.verified_runs.specs.Passes.{Scope, OpPasses, BodyPasses, scope_after, scope_in}
use Rattle.verified_runs.specs.Laws.{ComesTyped, PlacePasses, EndsTyped}
use Rattle.verified_runs.proofs.Defined.{all_set}
use Rattle.verified_runs.proofs.Operations.{kind_typed}

not_false : (b : Bool) → not b ≡ false → b ≡ true
not_false true e = refl
not_false false e = absurd cc

pub op_typed : (scope : Scope) (wanted : List Ty) (o : Op) (s : State) → OpPasses scope wanted o → AreTyped (type_among scope) s →
    IsTypedRun (is_return o.kind) (type_among (scope ++ o.results)) wanted (kind_meaning o.kind o.results s)
unfolding is_built breaks_extents
op_typed scope wanted o s h k =
    kind_typed scope o.results wanted s k o.kind h.constants (and_parts _ _ h.built).0 h.typed (not_false _ h.extents)

is_nonempty : {A : Type 0} (xs : List A) → is_empty xs ≡ false → 0 < length xs
is_nonempty [] e = absurd cc
is_nonempty (x ∷ xs) e = omega arith

module _ (wanted : List Ty) where
  other_types : (t u : Types) (p : Outcome) → IsTypedRun true t wanted p → IsTypedRun true u wanted p
  other_types t u (Goes v) e = absurd (let q = e.0 in cc)
  other_types t u (Ends ds) e = e
  other_types t u (Fails x) e = e

  ends_then : (b : Bool) (os : List Op) (t u : Types) (p : Outcome) → IsTypedRun b t wanted p → b ≡ is_empty os →
      ((v : State) → 0 < length os → AreTyped t v → IsTypedRun true t wanted (run os v)) → IsTypedRun true u wanted (then_goes p (run os))
  ends_then b os t u (Goes v) g e rest = other_types t u (run os v) (rest v (is_nonempty os (sym e ∙ g.0)) g.1)
  ends_then b os t u (Ends ds) g e rest = (refl, g.1)
  ends_then b os t u (Fails x) g e rest = g

  -- a body that isn't empty ends
  pub run_typed : (os : List Op) (scope : Scope) (s : State) → 0 < length os → BodyPasses scope wanted os → AreTyped (type_among scope) s →
      IsTypedRun true (type_among scope) wanted (run os s)
  unfolding run
  run_typed [] scope s l h k = absurd (omega arith)
  run_typed (o ∷ os) scope s l h k =
      ends_then (is_return o.kind) os (type_among (scope ++ o.results)) (type_among scope) (kind_meaning o.kind o.results s) (op_typed scope wanted o s h.0 k) h.1
      (λ u n g. run_typed os (scope ++ o.results) u n h.2 g)

  goes_then : (b : Bool) (before : List Op) (t : Types) (p : Outcome) (u : State) (A : Type 0) → IsTypedRun b t wanted p → then_goes p (run before) ≡ Goes u →
      ((v : State) → AreTyped t v → run before v ≡ Goes u → A) → A
  goes_then b before t (Goes v) u A g e rest = rest v g.1 e
  goes_then b before t (Ends ds) u A g e rest = absurd cc
  goes_then b before t (Fails x) u A g e rest = absurd cc

  -- after the front of a body
  front_typed : (before rest : List Op) (scope : Scope) (s u : State) → BodyPasses scope wanted (before ++ rest) → AreTyped (type_among scope) s → run before s ≡ Goes u →
      AreTyped (type_among (scope_after scope before)) u
  unfolding run
  front_typed [] rest scope s u h k e = let q : s ≡ u = cc in subst (AreTyped (type_among scope)) q k
  front_typed (o ∷ before) rest scope s u h k e =
      goes_then (is_return o.kind) before (type_among (scope ++ o.results)) (kind_meaning o.kind o.results s) u _ (op_typed scope wanted o s h.0 k) e
      (λ t g q. front_typed before rest (scope ++ o.results) t u h.2 g q)

  pub rest_passes : (before rest : List Op) (scope : Scope) → BodyPasses scope wanted (before ++ rest) → BodyPasses (scope_after scope before) wanted rest
  rest_passes [] rest scope h = h
  rest_passes (o ∷ before) rest scope h = rest_passes before rest (scope ++ o.results) h.2

  -- No loop is built. Where loops are, the two cases of `comes` go on: the state before the loop is typed by `front_typed`; a turn begins in
  -- `for_state`, which is typed by `defined_typed`, since the carried values are the starts, or what a turn before ended with (an induction
  -- over `TurnBegins`, by `run_typed` of the inner body); the rest is `comes` inside. A loop's own clause of `kind_typed` is that induction
  -- over `turns`, so `kind_typed` and a `row_typed` are then a mutual pair, with a bridge from the row to the list of operations.
  pub no_for : (scope : Scope) (l : _) (body : List Op) → OpPasses scope wanted (for_op l body) → ⊥
  unfolding is_built
  no_for scope l body h = absurd (let q = (and_parts (is_built_kind (for_op l body).kind) (list_all (λ (r : ValueId × Ty). is_built_type r.1) l.results) h.built).0 in cc)

  pub no_forall : (scope : Scope) (l : _) (body : List Op) → OpPasses scope wanted (forall_op l body) → ⊥
  unfolding is_built
  no_forall scope l body h = absurd (let q = (and_parts (is_built_kind (forall_op l body).kind) (list_all (λ (r : ValueId × Ty). is_built_type r.1) l.results) h.built).0 in cc)

  pub comes : (k : Context) (xs : List Op) (scope : Scope) (s u : State) → BodyPasses scope wanted (plug k xs) → AreTyped (type_among scope) s → Reaches k xs s u →
      AreTyped (type_among (scope_in scope k)) u
  comes (Here before after) xs scope s u h t r = front_typed before (xs ++ after) scope s u h t r
  comes (InFor before l inner after) xs scope s u h t r = absurd (no_for _ l _ (rest_passes before _ scope h).0)
  comes (InForall before l inner after) xs scope s u h t r = absurd (no_forall _ l _ (rest_passes before _ scope h).0)

  pub passes_at : (k : Context) (o : Op) (os : List Op) (scope : Scope) → BodyPasses scope wanted (plug k (o ∷ os)) → (w : List Ty) × OpPasses (scope_in scope k) w o
  passes_at (Here before after) o os scope h = (wanted, (rest_passes before _ scope h).0)
  passes_at (InFor before l inner after) o os scope h = absurd (no_for _ l _ (rest_passes before _ scope h).0)
  passes_at (InForall before l inner after) o os scope h = absurd (no_forall _ l _ (rest_passes before _ scope h).0)

-- THE BEGINNING
begins : (params : Scope) (inputs : List TensorShape) → AreOf (types_of params) inputs → AreTyped (type_among params) (initial_state params inputs)
begins params inputs h = λ v.
    subst (λ o. HoldsIn o ((initial_state params inputs).values v)) (first-None (type_among params v))
    (all_set params (map datum_of inputs) h (λ v. None) (λ v. Bits 0) (λ v. tt) v)

pub comes_typed : ComesTyped
comes_typed f k xs inputs u h e i r =
    comes f.results k xs f.params (initial_state f.params inputs) u (subst (BodyPasses f.params f.results) e h.body) (begins f.params inputs i) r

pub place_passes : PlacePasses
place_passes f k o os h e = passes_at f.results k o os f.params (subst (BodyPasses f.params f.results) e h.body)

-- THE END
all_below : (w : ℕ) (cells : List ℕ) → Each (λ c. c < 2 ^ w) cells → list_all (λ c. nat_lt c (2 ^ w)) cells ≡ true
all_below w [] h = refl
all_below w (c ∷ cells) h = and_from (nat_lt c (2 ^ w)) (list_all (λ c. nat_lt c (2 ^ w)) cells) (lt-ltb c (2 ^ w) h.0) (all_below w cells h.1)

abbrev IsTensorOf : Ty → Datum → Type 0
IsTensorOf T d = (t : TensorShape) × (tensor_of d ≡ Some t) × Holds T (datum_of t)

one_tensor : (T : Ty) (d : Datum) → is_fixed_tensor T ≡ true → Holds T d → IsTensorOf T d
one_tensor (Tensor es w) (Cells v g) f h =
    let t : TensorShape = record { extents = g.extents; elem = v; cells = g.cells } in
    let cells : is_tensor v g ≡ true =
    and_from (length g.cells == volume g.extents) _ (eq-eqb _ _ h.2.0) (subst (λ n. list_all (λ c. nat_lt c (2 ^ n)) g.cells ≡ true) (sym h.0) (all_below w g.cells h.2.1)) in
    (t, (λ j. if cells j then Some t else None), h)
one_tensor (Tensor es w) (Number n) f h = absurd h
one_tensor (Tensor es w) (Bits b) f h = absurd h
one_tensor (Scalar e) d f h = absurd cc
one_tensor (Vector es w) d f h = absurd cc

abbrev AreTensorsOf : List Ty → List Datum → Type 0
AreTensorsOf ts ds = (tensors : List TensorShape) × (all_some (map tensor_of ds) ≡ Some tensors) × AreOf ts tensors

more_tensors : (T : Ty) (ts : List Ty) (d : Datum) (ds : List Datum) → IsTensorOf T d → AreTensorsOf ts ds → AreTensorsOf (T ∷ ts) (d ∷ ds)
more_tensors T ts d ds a b =
    (a.0 ∷ b.0, (λ j. option_and_then (λ x. option_map (λ rest. x ∷ rest) (b.1 j)) (a.1 j)), (a.2, b.2))

tensors_of : (ts : List Ty) (ds : List Datum) → list_all is_fixed_tensor ts ≡ true → HoldAll ts ds → AreTensorsOf ts ds
tensors_of [] [] f h = ([], refl, tt)
tensors_of [] (d ∷ ds) f h = absurd h
tensors_of (T ∷ ts) [] f h = absurd h
tensors_of (T ∷ ts) (d ∷ ds) f h =
    let both = and_parts (is_fixed_tensor T) _ f in
    more_tensors T ts d ds (one_tensor T d both.0 h.0) (tensors_of ts ds both.1 h.1)

answer_typed : (t : Types) (wanted : List Ty) → list_all is_fixed_tensor wanted ≡ true → (p : Outcome) → IsTypedRun true t wanted p → IsTypedAnswer wanted (answer_of p)
answer_typed t wanted f (Goes s) h = absurd (let q = h.0 in cc)
answer_typed t wanted f (Ends ds) h =
    let all = tensors_of wanted ds f h.1 in subst (λ o. IsTypedAnswer wanted (answer_results o)) (sym all.1) all.2
answer_typed t wanted f (Fails x) h = h

pub ends_typed : EndsTyped
unfolding meaning
ends_typed f inputs h i =
    answer_typed (type_among f.params) f.results (and_parts _ _ h.signature).1 _
    (run_typed f.results f.body f.params (initial_state f.params inputs) h.ends h.body (begins f.params inputs i))
