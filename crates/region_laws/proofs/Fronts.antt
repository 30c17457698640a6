-- A step in front for each captured value, and what a payload yields.
use Rattle.std.proofs.Common.{◌≡◌, ℕ, ◌<◌, ◌%◌, ◌^◌, eqb-true, true, List, [], ◌∷◌, ◌++◌, map, get_or, Option, Some, None, refl, ap, sym, ◌∙◌, arith, append_assoc, zero, suc}
use Rattle.std.specs.Prelude.{option_map, slice_get}
use Rattle.std.proofs.lemmas.Bool.{and_parts}
use Rattle.std.proofs.lemmas.List.{append-nil}
use Rattle.std.proofs.lemmas.Option.{none-some, slice_get-get_or}
use Rattle.payload_ops.specs.Payload.{IsPayload, has_type, steps_fit}
use Rattle.mlir_base.specs.Types.{is_elem}
use Rattle.payload_ops.specs.Shape.{PayloadShape}
use Rattle.payload_ops.specs.Values.{Given, op_value, steps_values}
use Rattle.mlir_base.specs.declared.types.ElemTy.{ElemTy}
use Rattle.mlir_base.specs.declared.types.ElemTy.TheVariants.{Int, Index as IndexType}
use Rattle.payload_ops.specs.declared.step.PayloadStep.{PayloadStep}
use Rattle.mlir_meaning.specs.Grids.{count_up}
use Rattle.point_laws.proofs.Tables.{tabled_at, tabled_length}
use Rattle.payload_forms.specs.Moved.{captured_step}
use Rattle.region_laws.proofs.Moves.{type_in}

pub no_step : (i : ℕ) (t : ElemTy) → option_map (λ (s : PayloadStep). s.ty) (slice_get {X = PayloadStep} [] i) ≡ Some t → ⊥
no_step zero t e = none-some t e
no_step (suc i) t e = none-some t e

module _ (p : PayloadShape) (g : Given) where
  abbrev pub captured_values : ℕ → List ℕ
  captured_values c = map (λ i. get_or g.outer i 0 % 2 ^ 64) (count_up 0 c)

  pub front_run : (is done : List ℕ) → steps_values p g (map captured_step is) done ≡ Some (done ++ map (λ i. get_or g.outer i 0 % 2 ^ 64) is)
  unfolding op_value
  front_run [] done = ap Some (sym (append-nil done))
  front_run (i ∷ is) done = front_run is (done ++ (get_or g.outer i 0 % 2 ^ 64) ∷ []) ∙ ap Some (append_assoc done ((get_or g.outer i 0 % 2 ^ 64) ∷ []) (map (λ i. get_or g.outer i 0 % 2 ^ 64) is))

  pub front_fits : (is : List ℕ) (pre : List PayloadStep) → steps_fit p.ins p.out (map captured_step is) pre ≡ true
  front_fits [] pre = refl
  front_fits (i ∷ is) pre = front_fits is (pre ++ captured_step i ∷ [])

pub front_at : (c k : ℕ) → k < c → slice_get (map captured_step (count_up 0 c)) k ≡ Some (captured_step k)
front_at c k l = slice_get-get_or (map captured_step (count_up 0 c)) k (captured_step 0) (omega (arith, tabled_length captured_step c)) ∙ ap Some (tabled_at captured_step c k (captured_step 0) l)

same_type : (t u : ElemTy) → is_elem t u ≡ true → t ≡ u
same_type (Int v) (Int w) h = ap Int (eqb-true v w h)
same_type (Int v) IndexType h = absurd cc
same_type IndexType (Int w) h = absurd cc
same_type IndexType IndexType h = refl

pub yields : (p : PayloadShape) → IsPayload p → type_in p p.steps p.yielded ≡ Some p.out
yields p h = by (type_in p p.steps p.yielded) refl (and_parts (steps_fit p.ins p.out p.steps []) _ h).1 where
  by : (o : Option ElemTy) → type_in p p.steps p.yielded ≡ o → has_type o p.out ≡ true → o ≡ Some p.out
  by None q h = absurd cc
  by (Some t) q h = ap Some (same_type t p.out h)
