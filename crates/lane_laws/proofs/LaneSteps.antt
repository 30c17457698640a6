-- A payload's steps as operations on vectors.
use Rattle.std.proofs.Common.{◌≡◌, ℕ, zero, suc, ◌+◌, ◌<◌, ◌==◌, ◌%◌, ◌^◌, Bool, true, List, [], ◌∷◌, ◌++◌, map, length, get_or, Option, Some, None, ⊎_elim, refl, ap, sym, ◌∙◌, subst, arith}
use Rattle.std.specs.Prelude.{option_map, option_and_then, if◌then◌else◌, slice_get}
use Rattle.std.specs.Option.{option_map_or}
use Rattle.std.proofs.lemmas.List.{map-append, length-append}
use Rattle.payload_ops.specs.Bits.{reduce, signed_of, binary_of, compares}
use Rattle.payload_laws.specs.Combiners.{value_after}
use Rattle.mlir_base.specs.Types.{bits_of}
use Rattle.payload_ops.specs.Shape.{PayloadShape}
use Rattle.payload_ops.specs.Values.{Given, arg_value, arg_bits, bit_of, op_value, steps_values, payload_value}
use Rattle.mlir_base.specs.declared.types.ElemTy.{ElemTy}
use Rattle.payload_ops.specs.declared.step.Arg.{Arg}
use Rattle.payload_ops.specs.declared.step.Arg.TheVariants.{Input, Out, Step}
use Rattle.payload_ops.specs.declared.step.PayloadStep.{PayloadStep}
use Rattle.payload_ops.specs.declared.step.StepOp.{StepOp}
use Rattle.payload_ops.specs.declared.step.StepOp.TheVariants.{Const, Index, Captured, Linear, Binary, Compare, Select, SignExtend, ZeroExtend, Truncate, IndexCast}
use Rattle.mlir_meaning.specs.declared.values.Datum.{Datum}
use Rattle.mlir_meaning.specs.declared.values.Datum.TheVariants.{Bits, Cells}
use Rattle.mlir_meaning.specs.Grids.{tabulate, settled, InBox}
use Rattle.mlir_meaning.specs.States.{element, width_of}
use Rattle.mlir_meaning.specs.Vectors.{lane_payload, lane_value, elementwise_result}
use Rattle.mlir_meaning.proofs.Grids.{at-tabulate}
use Rattle.mlir_meaning.proofs.Settled.{HasCells, HasTrap, view}
use Rattle.lane_laws.specs.Lanes.{lane_args, lane_op, lane_arg, lane_step, lane_steps, OnLanes, IsHere, AreOnLanes, IsLanePayload, AreVectors, lane_given}

get_same : {A B : Type 0} (f : A → B) (xs : List A) (k : ℕ) (d : A) → get_or (map f xs) k (f d) ≡ f (get_or xs k d)
get_same f [] k d = refl
get_same f (x ∷ xs) zero d = refl
get_same f (x ∷ xs) (suc k) d = get_same f xs k d

-- TWO GIVENS that agree on what is used
module _ (payload : PayloadShape) (N : ℕ → Bool) (o : Bool) (count : ℕ) (g h : Given) (ins_agree : (k : ℕ) → N k ≡ true → k < count → get_or g.ins k 0 ≡ get_or h.ins k 0) (out_agrees : o ≡ true → g.out ≡ h.out) where
  same_arg : (n : ℕ) (done : List ℕ) (a : Arg) → IsHere N o count n a → arg_value g done a ≡ arg_value h done a
  same_arg n done (Input k) u = ins_agree k u.0 u.1
  same_arg n done Out u = out_agrees u
  same_arg n done (Step k) u = refl

  same_op : (n : ℕ) (done : List ℕ) (t : ElemTy) (op : StepOp) → OnLanes (IsHere N o count n) op →
      op_value (arg_value g done) (arg_bits payload) g.point g.outer t op ≡ op_value (arg_value h done) (arg_bits payload) h.point h.outer t op
  unfolding op_value
  same_op n done t (Const v) u = refl
  same_op n done t (Binary op a b) u = λ j. binary_of op (bits_of t) (same_arg n done a u.0 j) (same_arg n done b u.1 j)
  same_op n done t (Compare q a b) u = λ j. Some (bit_of (compares q (arg_bits payload a) (same_arg n done a u.0 j) (same_arg n done b u.1 j)))
  same_op n done t (Select c a b) u = λ j. Some (if same_arg n done c u.0 j == 0 then same_arg n done b u.2 j else same_arg n done a u.1 j)
  same_op n done t (SignExtend a) u = λ j. Some (reduce (bits_of t) (signed_of (arg_bits payload a) (same_arg n done a u j)))
  same_op n done t (ZeroExtend a) u = λ j. Some (same_arg n done a u j)
  same_op n done t (Truncate a) u = ap (λ v. Some (v % 2 ^ bits_of t)) (same_arg n done a u)
  same_op n done t (Index d) u = absurd u
  same_op n done t (Captured k) u = absurd u
  same_op n done t (Linear c ts) u = absurd u
  same_op n done t (IndexCast a) u = absurd u

  same_steps : (n : ℕ) (steps : List PayloadStep) → AreOnLanes N o count n steps → (done : List ℕ) → steps_values payload g steps done ≡ steps_values payload h steps done
  same_steps n [] u done = refl
  same_steps n (s ∷ rest) u done = λ j. option_and_then (λ v. same_steps (suc n) rest u.1 (done ++ v ∷ []) j) (same_op n done s.ty s.op u.0 j)

pub same_value : (payload : PayloadShape) (N : ℕ → Bool) (o : Bool) (g h : Given) → IsLanePayload N o payload → ((k : ℕ) → N k ≡ true → k < length payload.ins → get_or g.ins k 0 ≡ get_or h.ins k 0) → (o ≡ true → g.out ≡ h.out) →
    payload_value payload g ≡ payload_value payload h
same_value payload N o g h is ins_agree out_agrees =
    let count : ℕ = length payload.ins in
    λ j. option_map (λ done. same_arg payload N o count g h ins_agree out_agrees (length payload.steps) done payload.yielded is.yielded j)
    (same_steps payload N o count g h ins_agree out_agrees 0 payload.steps is.steps [] j)

-- and so the value of an argument after all steps
pub same_after : (payload : PayloadShape) (N : ℕ → Bool) (o : Bool) (g h : Given) → AreOnLanes N o (length payload.ins) 0 payload.steps → (t : Arg) → IsHere N o (length payload.ins) (length payload.steps) t →
    ((k : ℕ) → N k ≡ true → k < length payload.ins → get_or g.ins k 0 ≡ get_or h.ins k 0) → (o ≡ true → g.out ≡ h.out) → value_after payload g t ≡ value_after payload h t
same_after payload N o g h steps t here ins_agree out_agrees =
    let count : ℕ = length payload.ins in
    λ j. option_map (λ done. same_arg payload N o count g h ins_agree out_agrees (length payload.steps) done t here j)
    (same_steps payload N o count g h ins_agree out_agrees 0 payload.steps steps [] j)

-- ONE OPERATION AT A LANE
-- a payload of one step gives that step's value
one_step : (q : PayloadShape) (g : Given) (r : Option ℕ) → option_map (λ done. get_or done 0 0) (option_and_then (λ v. Some ([] ++ v ∷ [])) r) ≡ r
one_step q g None = refl
one_step q g (Some v) = refl

-- the operation on vectors at a lane is the operation on their elements
lane_is : (value bits : Arg → ℕ) (vector : Arg → Datum) (point outer p : List ℕ) (t : ElemTy) (op : StepOp) (P : Arg → Type 0) → OnLanes P op → ((a : Arg) → P a → element (vector a) p ≡ value a) →
    ((a : Arg) → P a → width_of (vector a) ≡ bits a) → lane_value (lane_op op) (map vector (lane_args op)) (bits_of t) p ≡ op_value value bits point outer t op
unfolding op_value
lane_is value bits vector point outer p t (Binary op a b) P u v w =
    one_step (lane_payload (Binary op (Input 0) (Input 1)) (vector a ∷ vector b ∷ []) (bits_of t)) (lane_given [] (Bits 0) []) (binary_of op (bits_of t) (element (vector a) p) (element (vector b) p))
    ∙ (λ j. binary_of op (bits_of t) (v a u.0 j) (v b u.1 j))
lane_is value bits vector point outer p t (Compare q a b) P u v w = λ j. Some (bit_of (compares q (w a u.0 j) (v a u.0 j) (v b u.1 j)))
lane_is value bits vector point outer p t (Select k a b) P u v w = λ j. Some (if v k u.0 j == 0 then v b u.2 j else v a u.1 j)
lane_is value bits vector point outer p t (SignExtend a) P u v w = λ j. Some (reduce (bits_of t) (signed_of (w a u j) (v a u j)))
lane_is value bits vector point outer p t (ZeroExtend a) P u v w = λ j. Some (v a u j)
lane_is value bits vector point outer p t (Truncate a) P u v w = ap (λ n. Some (n % 2 ^ bits_of t)) (v a u)
lane_is value bits vector point outer p t (Const n) P u v w = refl
lane_is value bits vector point outer p t (Index d) P u v w = absurd u
lane_is value bits vector point outer p t (Captured k) P u v w = absurd u
lane_is value bits vector point outer p t (Linear n ts) P u v w = absurd u
lane_is value bits vector point outer p t (IndexCast a) P u v w = absurd u

-- one step's vector, if no lane traps
settled_step : (lanes : List ℕ) (width : ℕ) (h value : List ℕ → Option ℕ) → ((p : List ℕ) → InBox lanes p → h p ≡ value p) → ((p : List ℕ) → InBox lanes p → value p ≡ None → ⊥) →
    (made : Datum) × (option_map (Cells width) (settled lanes h) ≡ Some made) × (width_of made ≡ width) × ((p : List ℕ) → InBox lanes p → value p ≡ Some (element made p))
settled_step lanes width h value same never =
    ⊎_elim
    (λ (c : HasCells lanes h). (Cells width (record { extents = lanes; cells = c.cells }), ap (option_map (Cells width)) c.settles, refl, λ p b. sym (same p b) ∙ c.reads p b))
    (λ (t : HasTrap lanes h). absurd (never t.point t.inside (sym (same t.point t.inside) ∙ t.missing))) (view lanes h)

module _ (lanes : List ℕ) (payload : PayloadShape) (N : ℕ → Bool) (o : Bool) (ins : List Datum) (out : Datum) (typed : AreVectors N o payload ins out) where
  -- the element of an argument's vector, and its width
  arg_is : (done : List Datum) (p : List ℕ) (a : Arg) → element (lane_arg ins out done a) p ≡ arg_value (lane_given ins out p) (map (λ v. element v p) done) a
  arg_is done p (Input k) = sym (get_same (λ v. element v p) ins k (Bits 0))
  arg_is done p Out = refl
  arg_is done p (Step k) = sym (get_same (λ v. element v p) done k (Bits 0))

  abbrev AreWide : List Datum → Type 0
  AreWide done = (k : ℕ) → k < length done → width_of (get_or done k (Bits 0)) ≡ arg_bits payload (Step k)

  wide_arg : (done : List Datum) → AreWide done → (a : Arg) → IsHere N o (length payload.ins) (length done) a → width_of (lane_arg ins out done a) ≡ arg_bits payload a
  wide_arg done w (Input k) u = typed.inputs k u.0 u.1
  wide_arg done w Out u = typed.output u
  wide_arg done w (Step k) u = w k u

  abbrev Value : List Datum → ElemTy → StepOp → List ℕ → Option ℕ
  Value done t op p = op_value (arg_value (lane_given ins out p) (map (λ v. element v p) done)) (arg_bits payload) [] [] t op

  abbrev Made : List Datum → ElemTy → StepOp → Option Datum → Type 0
  Made done t op r = (made : Datum) × (r ≡ Some made) × (width_of made ≡ bits_of t) × ((p : List ℕ) → InBox lanes p → Value done t op p ≡ Some (element made p))

  by_lanes : (done : List Datum) → AreWide done → (t : ElemTy) (op : StepOp) → OnLanes (IsHere N o (length payload.ins) (length done)) op →
      ((p : List ℕ) → InBox lanes p → Value done t op p ≡ None → ⊥) → Made done t op (elementwise_result (lane_op op) (map (lane_arg ins out done) (lane_args op)) (bits_of t) lanes)
  unfolding elementwise_result
  by_lanes done w t op u never =
      settled_step lanes (bits_of t) (lane_value (lane_op op) (map (lane_arg ins out done) (lane_args op)) (bits_of t)) (Value done t op)
      (λ p b. lane_is (arg_value (lane_given ins out p) (map (λ v. element v p) done)) (arg_bits payload) (lane_arg ins out done) [] [] p t op
      (IsHere N o (length payload.ins) (length done)) u (λ a h. arg_is done p a) (wide_arg done w)) never

  step_made : (done : List Datum) → AreWide done → (t : ElemTy) (op : StepOp) → OnLanes (IsHere N o (length payload.ins) (length done)) op →
      ((p : List ℕ) → InBox lanes p → Value done t op p ≡ None → ⊥) → Made done t op (lane_step (lane_arg ins out done) lanes (bits_of t) op)
  unfolding op_value
  step_made done w t (Const n) u never = (Cells (bits_of t) (tabulate lanes (λ p. n)), refl, refl, λ p b. ap (λ v. Some v) (sym (at-tabulate lanes p (λ p. n) b)))
  step_made done w t (Binary op a b) u never = by_lanes done w t (Binary op a b) u never
  step_made done w t (Compare q a b) u never = by_lanes done w t (Compare q a b) u never
  step_made done w t (Select c a b) u never = by_lanes done w t (Select c a b) u never
  step_made done w t (SignExtend a) u never = by_lanes done w t (SignExtend a) u never
  step_made done w t (ZeroExtend a) u never = by_lanes done w t (ZeroExtend a) u never
  step_made done w t (Truncate a) u never = by_lanes done w t (Truncate a) u never
  step_made done w t (Index d) u never = absurd u
  step_made done w t (Captured k) u never = absurd u
  step_made done w t (Linear n ts) u never = absurd u
  step_made done w t (IndexCast a) u never = absurd u

  -- ALL STEPS
  pub record LaneRun (steps : List PayloadStep) (done : List Datum) : Type 0 where
    pub all : List Datum
    pub runs : lane_steps ins out lanes steps done ≡ Some all
    pub values : (p : List ℕ) → InBox lanes p → steps_values payload (lane_given ins out p) steps (map (λ v. element v p) done) ≡ Some (map (λ v. element v p) all)

  wide_more : (done : List Datum) (v : Datum) → AreWide done → width_of v ≡ arg_bits payload (Step (length done)) → AreWide (done ++ v ∷ [])
  wide_more done v w e k l = by done k (λ m. w k m) (λ m. subst (λ n. width_of v ≡ arg_bits payload (Step n)) m e) (omega (arith, l, length-append done (v ∷ [])))
    where
      by : (done : List Datum) (k : ℕ) {n : ℕ} → (k < length done → width_of (get_or done k (Bits 0)) ≡ n) → (length done ≡ k → width_of v ≡ n) → k < length done + 1 → width_of (get_or (done ++ v ∷ []) k (Bits 0)) ≡ n
      by [] zero f g l = g refl
      by [] (suc k) f g l = absurd (omega arith)
      by (x ∷ done) zero f g l = f (omega arith)
      by (x ∷ done) (suc k) f g l = by done k (λ m. f (omega arith)) (λ m. g (ap suc m)) (omega arith)

  pub all_run : (steps : List PayloadStep) (done : List Datum) → AreWide done → ((j : ℕ) → j < length steps → slice_get payload.steps (length done + j) ≡ slice_get steps j) → AreOnLanes N o (length payload.ins) (length done) steps →
      ((p : List ℕ) → InBox lanes p → steps_values payload (lane_given ins out p) steps (map (λ v. element v p) done) ≡ None → ⊥) → LaneRun steps done
  all_run [] done w place u never = record { all = done; runs = refl; values = λ p b. refl }
  all_run (s ∷ rest) done w place u never =
      let m : Made done s.ty s.op (lane_step (lane_arg ins out done) lanes (bits_of s.ty) s.op) =
      step_made done w s.ty s.op u.0 (λ p b e. never p b (λ j. option_and_then (λ v. steps_values payload (lane_given ins out p) rest (map (λ v. element v p) done ++ v ∷ [])) (e j))) in
      let longer : length (done ++ m.0 ∷ []) ≡ suc (length done) = omega (arith, length-append done (m.0 ∷ [])) in
      let next : (p : List ℕ) → InBox lanes p → steps_values payload (lane_given ins out p) (s ∷ rest) (map (λ v. element v p) done) ≡ steps_values payload (lane_given ins out p) rest (map (λ v. element v p) (done ++ m.0 ∷ [])) =
      λ p b. (λ j. option_and_then (λ v. steps_values payload (lane_given ins out p) rest (map (λ v. element v p) done ++ v ∷ [])) (m.3 p b j))
      ∙ ap (steps_values payload (lane_given ins out p) rest) (sym (map-append (λ v. element v p) done (m.0 ∷ []))) in
      let zero_in : length done + 0 ≡ length done = omega arith in
      let type_at : slice_get payload.steps (length done) ≡ Some s = (λ j. slice_get payload.steps (sym zero_in j)) ∙ place 0 (omega arith) in
      let r : LaneRun rest (done ++ m.0 ∷ []) = all_run rest (done ++ m.0 ∷ [])
      (wide_more done m.0 w (m.2 ∙ sym (ap (λ o. option_map_or bits_of (option_map (λ (s : PayloadStep). s.ty) o) 0) type_at)))
      (λ j l. (let e : length (done ++ m.0 ∷ []) + j ≡ length done + suc j = omega (arith, longer) in λ k. slice_get payload.steps (e k)) ∙ place (suc j) (omega arith))
      (subst (λ n. AreOnLanes N o (length payload.ins) n rest) (sym longer) u.1)
      (λ p b e. never p b (next p b ∙ e)) in
      record {
        all = r.all;
        runs = (λ j. option_and_then (λ v. lane_steps ins out lanes rest (done ++ v ∷ [])) (m.1 j)) ∙ r.runs;
        values = λ p b. next p b ∙ r.values p b;
      }

  -- the whole payload: its vector has at each lane what the payload gives there
  pub record LaneResult : Type 0 where
    pub all : List Datum
    pub runs : lane_steps ins out lanes payload.steps [] ≡ Some all
    pub gives : (p : List ℕ) → InBox lanes p → payload_value payload (lane_given ins out p) ≡ Some (element (lane_arg ins out all payload.yielded) p)

  pub lanes_give : IsLanePayload N o payload → ((g : Given) → payload_value payload g ≡ None → ⊥) → LaneResult
  lanes_give is never =
      let r : LaneRun payload.steps [] = all_run payload.steps [] (λ k l. absurd (omega arith)) (λ j l. let e : 0 + j ≡ j = omega arith in λ k. slice_get payload.steps (e k)) is.steps
      (λ p b e. never (lane_given ins out p) (ap (option_map (λ done. arg_value (lane_given ins out p) done payload.yielded)) e)) in
      record {
        all = r.all;
        runs = r.runs;
        gives = λ p b. ap (option_map (λ done. arg_value (lane_given ins out p) done payload.yielded)) (r.values p b) ∙ ap (λ v. Some v) (sym (arg_is r.all p payload.yielded));
      }
