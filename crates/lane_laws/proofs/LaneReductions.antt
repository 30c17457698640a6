-- The steps of a reduction's payload that stand on vectors, and the mask that chooses its terms.
use Rattle.std.proofs.Common.{◌≡◌, ℕ, zero, suc, ◌+◌, ◌<◌, ◌≤◌, ◌==◌, Bool, true, false, ◌&&◌, List, [], ◌∷◌, length, take, Some, refl, ap, sym, ◌∙◌, subst, arith}
use Rattle.std.specs.Prelude.{option_map, if◌then◌else◌, slice_get}
use Rattle.std.proofs.lemmas.Bool.{false≢true, and_parts}
use Rattle.std.proofs.lemmas.Option.{none-some, same_Some}
use Rattle.payload_laws.specs.Combiners.{combining, avoids, op_avoids, steps_avoid, other_than_out}
use Rattle.payload_ops.specs.Shape.{PayloadShape}
use Rattle.payload_ops.specs.Values.{bit_of, op_value}
use Rattle.payload_ops.specs.declared.kinds.Combiner.{Combiner}
use Rattle.payload_ops.specs.declared.step.Arg.{Arg}
use Rattle.payload_ops.specs.declared.step.Arg.TheVariants.{Input, Out, Step}
use Rattle.payload_ops.specs.declared.step.PayloadStep.{PayloadStep}
use Rattle.payload_ops.specs.declared.step.StepOp.{StepOp}
use Rattle.payload_ops.specs.declared.step.StepOp.TheVariants.{Const, Index, Captured, Linear, Binary, Compare, Select, SignExtend, ZeroExtend, Truncate, IndexCast}
use Rattle.payload_laws.proofs.Combiners.{Joins, joins_of}
use Rattle.mlir_meaning.specs.declared.values.Grid.{Grid}
use Rattle.mlir_meaning.specs.declared.values.Datum.TheVariants.{Cells}
use Rattle.mlir_meaning.specs.Grids.{at, tabulate, is_inside, InBox}
use Rattle.mlir_meaning.specs.Vectors.{mask_of, lane_value, elementwise_result}
use Rattle.mlir_meaning.proofs.Grids.{at-tabulate, settled_some, inside_true}
use Rattle.lane_laws.specs.Lanes.{OnLanes, IsHere, AreOnLanes, IsLanePayload, IsChosen}

-- WITHOUT THE OUTPUT
module _ (N : ℕ → Bool) (count y : ℕ) where
  here_still : (n : ℕ) (a : Arg) → IsHere N true count n a → avoids y a ≡ true → IsHere N false count n a
  here_still n (Input k) h e = h
  here_still n Out h e = absurd (false≢true e)
  here_still n (Step k) h e = h

  op_still : (n : ℕ) (op : StepOp) → OnLanes (IsHere N true count n) op → op_avoids y op ≡ true → OnLanes (IsHere N false count n) op
  op_still n (Const v) h e = tt
  op_still n (Binary op a b) h e = let p = and_parts (avoids y a) (avoids y b) e in (here_still n a h.0 p.0, here_still n b h.1 p.1)
  op_still n (Compare q a b) h e = let p = and_parts (avoids y a) (avoids y b) e in (here_still n a h.0 p.0, here_still n b h.1 p.1)
  op_still n (Select c a b) h e =
      let p = and_parts (avoids y c && avoids y a) (avoids y b) e in
      let q = and_parts (avoids y c) (avoids y a) p.0 in (here_still n c h.0 q.0, here_still n a h.1 q.1, here_still n b h.2 p.1)
  op_still n (SignExtend a) h e = here_still n a h e
  op_still n (ZeroExtend a) h e = here_still n a h e
  op_still n (Truncate a) h e = here_still n a h e
  op_still n (Index d) h e = absurd h
  op_still n (Captured k) h e = absurd h
  op_still n (Linear k ts) h e = absurd h
  op_still n (IndexCast a) h e = absurd h

  steps_still : (n m : ℕ) (steps : List PayloadStep) → AreOnLanes N true count n steps → steps_avoid y (take m steps) ≡ true → AreOnLanes N false count n (take m steps)
  steps_still n zero steps h e = tt
  steps_still n (suc m) [] h e = tt
  steps_still n (suc m) (s ∷ rest) h e =
      let p = and_parts (op_avoids y s.op) (steps_avoid y (take m rest)) e in (op_still n s.op h.0 p.0, steps_still (suc n) m rest h.1 p.1)

  step_here : (n k : ℕ) (steps : List PayloadStep) (s : PayloadStep) → AreOnLanes N true count n steps → slice_get steps k ≡ Some s → OnLanes (IsHere N true count (n + k)) s.op
  step_here n k [] s h e = absurd (none-some s e)
  step_here n zero (x ∷ rest) s h e =
      let z : n ≡ n + 0 = omega arith in subst (λ m. OnLanes (IsHere N true count m) s.op) z (subst (λ (q : PayloadStep). OnLanes (IsHere N true count n) q.op) (same_Some x s e) h.0)
  step_here n (suc k) (x ∷ rest) s h e = let z : suc n + k ≡ n + suc k = omega arith in subst (λ m. OnLanes (IsHere N true count m) s.op) z (step_here (suc n) k rest s h.1 e)

  other_here : (n : ℕ) (a b t : Arg) → IsHere N true count n a → IsHere N true count n b → other_than_out a b ≡ Some t → IsHere N false count n t
  other_here n Out Out t h k e = absurd (none-some t e)
  other_here n Out (Input i) t h k e = subst (IsHere N false count n) (same_Some (Input i) t e) k
  other_here n Out (Step i) t h k e = subst (IsHere N false count n) (same_Some (Step i) t e) k
  other_here n (Input i) Out t h k e = subst (IsHere N false count n) (same_Some (Input i) t e) h
  other_here n (Step i) Out t h k e = subst (IsHere N false count n) (same_Some (Step i) t e) h
  other_here n (Input i) (Input j) t h k e = absurd (none-some t e)
  other_here n (Input i) (Step j) t h k e = absurd (none-some t e)
  other_here n (Step i) (Input j) t h k e = absurd (none-some t e)
  other_here n (Step i) (Step j) t h k e = absurd (none-some t e)

  here_more : (n m : ℕ) (t : Arg) → n ≤ m → IsHere N false count n t → IsHere N true count m t
  here_more n m (Input k) l h = h
  here_more n m Out l h = refl
  here_more n m (Step k) l h = omega (arith, h, l)

get_within : {A : Type 0} (xs : List A) (k : ℕ) (x : A) → slice_get xs k ≡ Some x → k < length xs
get_within [] k x e = absurd (none-some x e)
get_within (y ∷ xs) zero x e = omega arith
get_within (y ∷ xs) (suc k) x e = omega (arith, get_within xs k x e)

-- the steps before the one that joins stand on vectors, and so does the term
pub record ReducesAt (N : ℕ → Bool) (payload : PayloadShape) (t : Arg) : Type 0 where
  pub y : ℕ
  pub within : y ≤ length payload.steps
  pub steps : AreOnLanes N false (length payload.ins) 0 (take y payload.steps)
  pub here : IsHere N false (length payload.ins) y t
  pub later : IsHere N true (length payload.ins) (length payload.steps) t

pub reduces_at : (N : ℕ → Bool) (payload : PayloadShape) (c : Combiner) (t : Arg) → IsLanePayload N true payload → combining payload.steps payload.yielded ≡ Some (c, t) → ReducesAt N payload t
reduces_at N payload c t is found =
    let j : Joins payload c t = joins_of payload c t found in
    let count : ℕ = length payload.ins in
    let l : j.y < length payload.steps = get_within payload.steps j.y j.s j.at in
    let args = subst (OnLanes (IsHere N true count j.y)) j.is (let z : 0 + j.y ≡ j.y = omega arith in subst (λ m. OnLanes (IsHere N true count m) j.s.op) z (step_here N count j.y 0 j.y payload.steps j.s is.steps j.at)) in
    let here : IsHere N false count j.y t = other_here N count j.y j.y j.a j.b t args.0 args.1 j.other in
    record { y = j.y; within = omega (arith, l); steps = steps_still N count j.y 0 j.y payload.steps is.steps j.before; here = here; later = here_more N count j.y j.y (length payload.steps) t (omega (arith, l)) here }

-- CHOOSING TERMS
pub record Chooses (box vs : List ℕ) (width e : ℕ) (T : Grid) : Type 0 where
  pub grid : Grid
  pub is : elementwise_result (Select (Input 0) (Input 1) (Input 2)) (Cells 1 (mask_of box vs) ∷ Cells width T ∷ Cells width (tabulate vs (λ p. e)) ∷ []) width vs ≡ Some (Cells width grid)
  pub chosen : IsChosen box vs e T grid

pub mask_chooses : (box vs : List ℕ) (width e : ℕ) (T : Grid) → Chooses box vs width e T
unfolding elementwise_result mask_of op_value
mask_chooses box vs width e T = record {
  grid = tabulate vs (λ p. if is_inside box p then at T p else e);
  is = ap (option_map (Cells width)) (settled_some vs
      (lane_value (Select (Input 0) (Input 1) (Input 2)) (Cells 1 (tabulate vs (λ p. bit_of (is_inside box p))) ∷ Cells width T ∷ Cells width (tabulate vs (λ p. e)) ∷ []) width)
      (λ p. if is_inside box p then at T p else e)
      (λ p b. (λ j. Some (if at-tabulate vs p (λ p. bit_of (is_inside box p)) b j == 0 then at-tabulate vs p (λ p. e) b j else at T p)) ∙ ap (λ v. Some v) (bit (is_inside box p) (at T p) e)));
  chosen = record { extents = refl; reads = λ p b. at-tabulate vs p (λ p. if is_inside box p then at T p else e) b };
} where
  bit : (b : Bool) (x e : ℕ) → (if bit_of b == 0 then e else x) ≡ (if b then x else e)
  bit true x e = refl
  bit false x e = refl

-- no mask is needed where the lanes are the box
pub none_chosen : (box vs : List ℕ) (e : ℕ) (T : Grid) → box ≡ vs → T.extents ≡ vs → IsChosen box vs e T T
none_chosen box vs e T same extents = record { extents = extents; reads = λ p b. λ j. if sym (inside_true box p (subst (λ es. InBox es p) (sym same) b)) j then at T p else e }
