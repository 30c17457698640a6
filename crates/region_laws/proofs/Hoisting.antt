-- A payload with a step for each captured value in front, and other steps for its dimensions, gives what it gave.
use Rattle.std.proofs.Common.{◌≡◌, ℕ, ◌+◌, ◌-◌, ◌<◌, ◌%◌, ◌^◌, ◌&&◌, true, List, [], ◌∷◌, ◌++◌, length, get_or, Option, Some, None, refl, ap, sym, subst, ◌∙◌, arith, ltb-true, zero-add}
use Rattle.std.specs.Prelude.{option_map, option_and_then, ⊤}
use Rattle.std.proofs.lemmas.Bool.{and_parts}
use Rattle.std.proofs.lemmas.List.{append-nil, get_or_at}
use Rattle.mlir_base.specs.Types.{is_elem}
use Rattle.payload_ops.specs.Payload.{IsPayload, has_type, steps_fit}
use Rattle.payload_ops.specs.Shape.{PayloadShape}
use Rattle.payload_ops.specs.Values.{Given, arg_value, op_value, steps_values, payload_value, is_supplied}
use Rattle.mlir_base.specs.declared.types.ElemTy.{ElemTy}
use Rattle.mlir_base.specs.declared.types.ElemTy.TheVariants.{Int, Index as IndexType}
use Rattle.payload_ops.specs.declared.step.Arg.{Arg}
use Rattle.payload_ops.specs.declared.step.Arg.TheVariants.{Input, Out, Step}
use Rattle.payload_ops.specs.declared.step.PayloadStep.{PayloadStep}
use Rattle.payload_ops.specs.declared.step.StepOp.{StepOp}
use Rattle.payload_ops.specs.declared.step.StepOp.TheVariants.{Const, Index, Captured, Linear, Binary, Compare, Select, SignExtend, ZeroExtend, Truncate, IndexCast}
use Rattle.payload_ops.proofs.StepsLemmas.{steps_values-append}
use Rattle.mlir_meaning.specs.Grids.{count_up, Each}
use Rattle.mlir_meaning.proofs.Defining.{each_any}
use Rattle.point_laws.proofs.Tables.{tabled_at, tabled_length}
use Rattle.payload_forms.specs.Moved.{args_of, captured_step, own_index, blocks}
use Rattle.payload_forms.specs.Captured.{fronts, hoisted_to, hoisted}
use Rattle.region_laws.proofs.Moves.{each_then, Both, steps_fit-append, type_in, type_new}
use Rattle.region_laws.proofs.Alike.{Typed, Agree, Alike, Indexes, Supplied, blocks_alike}
use Rattle.region_laws.proofs.Fronts.{no_step, captured_values, front_run, front_fits, front_at, yields}
use Rattle.region_laws.specs.Laws.{HoistedGives}

abbrev pub IsAny : Arg → Type 0
IsAny a = ⊤

module _ (indices : ℕ → ℕ → List PayloadStep) (c width caps : ℕ) (f : ℕ → ℕ) (p : PayloadShape) (good : IsPayload p) (supplied : Each (λ (s : PayloadStep). is_supplied width caps s.op ≡ true) p.steps)
    (below : (k : ℕ) → k < caps → f k < c) (old new : Given) (same_ins : new.ins ≡ old.ins) (same_out : new.out ≡ old.out) (same : (k : ℕ) → k < caps → get_or new.outer (f k) 0 ≡ get_or old.outer k 0) where
  abbrev p' : PayloadShape
  p' = hoisted indices c f p

  abbrev fs : List PayloadStep
  fs = fronts c

  abbrev to : Arg → Arg
  to = hoisted_to indices c f p

  abbrev known : List ℕ
  known = captured_values p' new c

  known_length : length known ≡ length fs
  known_length = tabled_length (λ i. get_or new.outer i 0 % 2 ^ 64) c ∙ sym (tabled_length captured_step c)

  module _ (indexes : (d : ℕ) → d < width → (pre' mid : List PayloadStep) → pre' ≡ fs ++ mid → Indexes p p' old new to ([], known) fs IsAny indices f d pre') where
    op_supplied : (op : StepOp) → is_supplied width caps op ≡ true → Supplied p p' old new to ([], known) fs IsAny indices f op
    op_supplied (Index d) h = indexes d (ltb-true d width h)
    op_supplied (Captured k) h =
        let l : k < caps = ltb-true k caps h in
        (front_at c (f k) (below k l), tabled_at (λ i. get_or new.outer i 0 % 2 ^ 64) c (f k) 0 (below k l) ∙ ap (λ x. x % 2 ^ 64) (same k l))
    op_supplied (Const n) h = tt
    op_supplied (Linear c ts) h = tt
    op_supplied (Binary op a b) h = tt
    op_supplied (Compare c a b) h = tt
    op_supplied (Select c a b) h = tt
    op_supplied (SignExtend a) h = tt
    op_supplied (ZeroExtend a) h = tt
    op_supplied (Truncate a) h = tt
    op_supplied (IndexCast a) h = tt

    alike : (post : List PayloadStep) × Alike p p' old new to ([], known) IsAny IsAny [] fs p.steps (blocks indices to (length fs) p.steps) p.steps post
    alike = blocks_alike p p' old new to ([], known) fs IsAny indices f known_length p.steps [] fs [] (sym (append-nil fs))
        (and_parts (steps_fit p.ins p.out p.steps []) _ good).0
        (λ i l. ap (λ x. to (Step x)) (zero-add i))
        (each_then (λ (s : PayloadStep). is_supplied width caps s.op ≡ true) (λ (s : PayloadStep). Supplied p p' old new to ([], known) fs IsAny indices f s.op) (λ s h. op_supplied s.op h) p.steps supplied)
        (each_any (λ (s : PayloadStep). Each IsAny (args_of s.op)) (λ s. each_any IsAny (λ a. tt) (args_of s.op)) p.steps)

    typed : Typed p p' old new to ([], known) IsAny [] fs
    typed (Input i) t n e = e
    typed Out t n e = e
    typed (Step i) t n e = absurd (no_step i t e)

    agrees : Agree p p' old new to ([], known) IsAny [] fs [] known
    agrees = record { values = value; long = refl; long' = known_length; old_rest = []; old_begins = refl; rest = []; begins = sym (append-nil known) } where
      value : (a : Arg) (t : ElemTy) → ⊤ → type_in p [] a ≡ Some t → arg_value new known (to a) ≡ arg_value old [] a
      value (Input i) t n e = λ j. get_or (same_ins j) i 0
      value Out t n e = same_out
      value (Step i) t n e = absurd (no_step i t e)

    same_value : (x y : Option (List ℕ)) → Both (Agree p p' old new to ([], known) IsAny p.steps alike.0) x y →
        option_map (λ done. arg_value new done (to p.yielded)) y ≡ option_map (λ done. arg_value old done p.yielded) x
    same_value None None h = refl
    same_value (Some d) (Some d') h = ap Some (h.values p.yielded p.out tt (yields p good))
    same_value None (Some d') h = absurd h
    same_value (Some d) None h = absurd h

    pub hoisted_here : payload_value p' new ≡ payload_value p old
    hoisted_here =
        ap (option_map (λ done. arg_value new done (to p.yielded)))
        (steps_values-append p' new fs (blocks indices to (length fs) p.steps) [] ∙ ap (option_and_then (steps_values p' new (blocks indices to (length fs) p.steps))) (front_run p' new (count_up 0 c) []))
        ∙ same_value (steps_values p old p.steps []) (steps_values p' new (blocks indices to (length fs) p.steps) known)
        (alike.1.runs typed ([], sym (append-nil p.steps)) ([], sym (append-nil alike.0 ∙ alike.1.is')) [] known agrees)

    pub hoisted_fits : IsPayload p'
    hoisted_fits =
        let steps : steps_fit p'.ins p'.out p'.steps [] ≡ true = steps_fit-append p'.ins p'.out fs (blocks indices to (length fs) p.steps) [] (front_fits p' new (count_up 0 c) []) (alike.1.fits typed) in
        let type_of : type_in p' p'.steps (to p.yielded) ≡ Some p.out =
        subst (λ l. type_in p' l (to p.yielded) ≡ Some p.out) alike.1.is' (alike.1.typed typed p.yielded p.out tt (yields p good)) in
        λ i. steps i && ((λ k. has_type (type_of k) p.out) ∙ self p.out) i
      where
        self : (t : ElemTy) → is_elem t t ≡ true
        self (Int w) = grind arith
        self IndexType = refl

-- each `linalg.index` stays
pub hoisted_gives : HoistedGives
unfolding op_value
hoisted_gives c width caps f p good supplied below point outer own ins out same =
    let new : Given = record { point = point; outer = outer; ins = ins; out = out } in
    let old : Given = record { point = point; outer = own; ins = ins; out = out } in
    hoisted_here own_index c width caps f p good supplied below old new refl refl same
    (λ d l pre' mid m. record {
      fits = refl;
      typed = type_new (hoisted own_index c f p) pre' (record { ty = IndexType; op = Index d }) [] (length pre' + 1 - 1) (omega arith);
      runs = λ done past k b. (
        (get_or point d 0 % 2 ^ 64) ∷ [],
        refl,
        refl,
        (let e : length done ≡ length pre' + 1 - 1 = omega (arith, k) in get_or_at done (get_or point d 0 % 2 ^ 64) [] 0 (length pre' + 1 - 1) e),
      );
    })
