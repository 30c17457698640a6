-- A payload with a combiner joins the output's element with a term that does not depend on it.
use Rattle.std.proofs.Common.{◌≡◌, ℕ, suc, ◌+◌, ◌<◌, ◌≤◌, ◌%◌, ◌^◌, ◌==◌, Bool, true, false, if◌then◌else◌, ℤ, pos, ◌+ℤ◌, ◌*ℤ◌, List, [], ◌∷◌, ◌++◌, length, get_or, take, drop, Option, Some, None, refl, ap, sym, ◌∙◌, subst, arith, length-append, ⊎_elim, ◌⊎◌, inl, inr, ◌≢◌, zero-add}
use Rattle.std.proofs.lemmas.List.{get_or_append_left, get_or-append_right, get_or_past, get_or-take, length-take-le}
use Rattle.std.proofs.lemmas.Bool.{and_parts, not-true, eqb-false, eqb-true, cases_lt, false≢true, not_from_false, ne_eqb}
use Rattle.std.proofs.lemmas.Option.{none-some, same_Some, slice_get_within, some_pair_parts}
use Rattle.std.specs.Prelude.{◌&&◌, slice_get}
use Rattle.std.specs.List.{list_all}
use Rattle.std.specs.Option.{option_and_then, option_map}
use Rattle.payload_ops.specs.Bits.{on_values, binary_of, reduce, signed_of, compares}
use Rattle.payload_ops.specs.Combine.{operation_of, joined}
use Rattle.payload_laws.specs.Combiners.{combiner_of_operation, avoids, op_avoids, steps_avoid, other_than_out, joins, others_avoid, combining, value_after}
use Rattle.payload_laws.specs.Laws.{with_out, JoinsTerm, IsApartFromOut}
use Rattle.payload_ops.specs.Payload.{IsPayload, has_type, arg_type, op_fits}
use Rattle.mlir_base.specs.Types.{bits_of, is_elem}
use Rattle.payload_ops.specs.Shape.{PayloadShape}
use Rattle.payload_ops.specs.Values.{Given, arg_value, arg_bits, terms_sum, bit_of, op_value, step_value, steps_values}
use Rattle.payload_ops.specs.declared.kinds.BinOp.{BinOp}
use Rattle.payload_ops.specs.declared.kinds.BinOp.TheVariants.{Addi, Subi, Muli, Divsi, Divui, Remsi, Remui, Andi, Ori, Xori, Shli, Shrsi, Shrui, Maxsi, Maxui, Minsi, Minui}
use Rattle.payload_ops.specs.declared.kinds.Combiner.{Combiner}
use Rattle.payload_ops.specs.declared.kinds.Combiner.TheVariants.{Add, Mul, And, Or, Xor, MaxS, MaxU, MinS, MinU}
use Rattle.mlir_base.specs.declared.types.ElemTy.{ElemTy}
use Rattle.mlir_base.specs.declared.types.ElemTy.TheVariants.{Int, Index as IndexType}
use Rattle.payload_ops.specs.declared.step.Arg.{Arg}
use Rattle.payload_ops.specs.declared.step.Arg.TheVariants.{Input, Out, Step}
use Rattle.payload_ops.specs.declared.step.PayloadStep.{PayloadStep}
use Rattle.payload_ops.specs.declared.step.StepOp.{StepOp}
use Rattle.payload_ops.specs.declared.step.StepOp.TheVariants.{Const, Index, Captured, Linear, Binary, Compare, Select, SignExtend, ZeroExtend, Truncate, IndexCast}
use Rattle.payload_laws.proofs.Fitted.{around, slice_get-take, and_then_same, and_then_assoc, fits_at, steps_values-append, value_at}
use Rattle.payload_laws.proofs.Joined.{joined_comm}

-- ---- the operations of combiners
pub combiner_operation : (op : BinOp) (c : Combiner) → combiner_of_operation op ≡ Some c → op ≡ operation_of c
combiner_operation Addi c e = ap operation_of (same_Some Add c e)
combiner_operation Muli c e = ap operation_of (same_Some Mul c e)
combiner_operation Andi c e = ap operation_of (same_Some And c e)
combiner_operation Ori c e = ap operation_of (same_Some Or c e)
combiner_operation Xori c e = ap operation_of (same_Some Xor c e)
combiner_operation Maxsi c e = ap operation_of (same_Some MaxS c e)
combiner_operation Maxui c e = ap operation_of (same_Some MaxU c e)
combiner_operation Minsi c e = ap operation_of (same_Some MinS c e)
combiner_operation Minui c e = ap operation_of (same_Some MinU c e)
combiner_operation Subi c e = absurd (none-some c e)
combiner_operation Divsi c e = absurd (none-some c e)
combiner_operation Divui c e = absurd (none-some c e)
combiner_operation Remsi c e = absurd (none-some c e)
combiner_operation Remui c e = absurd (none-some c e)
combiner_operation Shli c e = absurd (none-some c e)
combiner_operation Shrsi c e = absurd (none-some c e)
combiner_operation Shrui c e = absurd (none-some c e)

pub joined_is : (c : Combiner) (w a b : ℕ) → binary_of (operation_of c) w a b ≡ Some (joined c w a b)
unfolding on_values
joined_is Add w a b = refl
joined_is Mul w a b = refl
joined_is And w a b = refl
joined_is Or w a b = refl
joined_is Xor w a b = refl
joined_is MaxS w a b = refl
joined_is MaxU w a b = refl
joined_is MinS w a b = refl
joined_is MinU w a b = refl

-- ---- what `combining` finds
pub record Joins (p : PayloadShape) (c : Combiner) (t : Arg) : Type 0 where
  pub y : ℕ
  pub s : PayloadStep
  pub a : Arg
  pub b : Arg
  pub yields : p.yielded ≡ Step y
  pub before : steps_avoid y (take y p.steps) ≡ true
  pub after : steps_avoid y (drop (suc y) p.steps) ≡ true
  pub at : slice_get p.steps y ≡ Some s
  pub is : s.op ≡ Binary (operation_of c) a b
  pub other : other_than_out a b ≡ Some t

record JoinsBy (o : StepOp) (c : Combiner) (t : Arg) : Type 0 where
  a : Arg
  b : Arg
  is : o ≡ Binary (operation_of c) a b
  other : other_than_out a b ≡ Some t

joins_by : (o : StepOp) (c : Combiner) (t : Arg) → joins o ≡ Some (c, t) → JoinsBy o c t
joins_by (Binary op a b) c t e = found (combiner_of_operation op) (other_than_out a b) refl refl e
  where
    found : (k : Option Combiner) (o : Option Arg) → combiner_of_operation op ≡ k → other_than_out a b ≡ o → option_and_then {U = Combiner × Arg} (λ c. option_map {U = Combiner × Arg} (λ t. (c, t)) o) k ≡ Some (c, t) → JoinsBy (Binary op a b) c t
    found None o f h e = absurd (none-some _ e)
    found (Some d) None f h e = absurd (none-some _ e)
    found (Some d) (Some u) f h e =
        let parts : (d ≡ c) × (u ≡ t) = some_pair_parts d c u t e in
        record { a = a; b = b; is = ap (λ k. Binary k a b) (combiner_operation op d f ∙ ap operation_of parts.0); other = h ∙ ap (λ x. Some x) parts.1 }
joins_by (Const n) c t e = absurd (none-some _ e)
joins_by (Index n) c t e = absurd (none-some _ e)
joins_by (Captured n) c t e = absurd (none-some _ e)
joins_by (Linear n ts) c t e = absurd (none-some _ e)
joins_by (Compare q a b) c t e = absurd (none-some _ e)
joins_by (Select n a b) c t e = absurd (none-some _ e)
joins_by (SignExtend a) c t e = absurd (none-some _ e)
joins_by (ZeroExtend a) c t e = absurd (none-some _ e)
joins_by (Truncate a) c t e = absurd (none-some _ e)
joins_by (IndexCast a) c t e = absurd (none-some _ e)

joins_in : (p : PayloadShape) (c : Combiner) (t : Arg) (x : Arg) → p.yielded ≡ x → combining p.steps x ≡ Some (c, t) → Joins p c t
joins_in p c t (Input k) y e = absurd (none-some _ e)
joins_in p c t Out y e = absurd (none-some _ e)
joins_in p c t (Step k) y e = found (others_avoid k p.steps) (slice_get p.steps k) refl refl e
  where
    found : (clean : Bool) (o : Option PayloadStep) → others_avoid k p.steps ≡ clean → slice_get p.steps k ≡ o → option_and_then (λ (s : PayloadStep). if clean then joins s.op else None) o ≡ Some (c, t) → Joins p c t
    found clean None f h e = absurd (none-some _ e)
    found false (Some s) f h e = absurd (none-some _ e)
    found true (Some s) f h e =
        let parts = and_parts (steps_avoid k (take k p.steps)) (steps_avoid k (drop (suc k) p.steps)) f in
        let by : JoinsBy s.op c t = joins_by s.op c t e in
        record { y = k; s = s; a = by.a; b = by.b; yields = y; before = parts.0; after = parts.1; at = h; is = by.is; other = by.other }

pub joins_of : (p : PayloadShape) (c : Combiner) (t : Arg) → combining p.steps p.yielded ≡ Some (c, t) → Joins p c t
joins_of p c t e = joins_in p c t p.yielded refl e

-- ---- the term
other_cases : (a b t : Arg) → other_than_out a b ≡ Some t → (((a ≡ Out) × (b ≡ t)) ⊎ ((a ≡ t) × (b ≡ Out))) × (t ≢ Out)
other_cases Out Out t e = absurd (none-some t e)
other_cases Out (Input k) t e = (inl (refl, same_Some (Input k) t e), λ h. cc)
other_cases Out (Step k) t e = (inl (refl, same_Some (Step k) t e), λ h. cc)
other_cases (Input k) Out t e = (inr (same_Some (Input k) t e, refl), λ h. cc)
other_cases (Step k) Out t e = (inr (same_Some (Step k) t e, refl), λ h. cc)
other_cases (Input k) (Input l) t e = absurd (none-some t e)
other_cases (Input k) (Step l) t e = absurd (none-some t e)
other_cases (Step k) (Input l) t e = absurd (none-some t e)
other_cases (Step k) (Step l) t e = absurd (none-some t e)

-- an argument other than the output's element names an input or one of the first n steps
abbrev pub IsBefore : ℕ → Arg → Type 0
IsBefore n (Input k) = Unit {0}
IsBefore n Out = ⊥
IsBefore n (Step k) = k < n

typed_before : (ins : List ElemTy) (out : ElemTy) (steps : List PayloadStep) (n : ℕ) (t : Arg) (ty : ElemTy) → t ≢ Out → has_type (arg_type ins out (take n steps) t) ty ≡ true → IsBefore n t
typed_before ins out steps n (Input k) ty h e = tt
typed_before ins out steps n Out ty h e = h refl
typed_before ins out steps n (Step k) ty h e = found (slice_get (take n steps) k) refl e
  where
    found : (o : Option PayloadStep) → slice_get (take n steps) k ≡ o → has_type (option_map (λ (s : PayloadStep). s.ty) o) ty ≡ true → k < n
    found None f e = absurd (false≢true e)
    found (Some s) f e = (slice_get-take steps n k s f).0

pub same_elem : (s t : ElemTy) → is_elem s t ≡ true → bits_of s ≡ bits_of t
same_elem (Int v) (Int w) e = eqb-true v w e
same_elem (Int v) IndexType e = absurd (false≢true e)
same_elem IndexType (Int w) e = absurd (false≢true e)
same_elem IndexType IndexType e = refl

value_before : (g : Given) (all : List ℕ) (n : ℕ) (t : Arg) → IsBefore n t → arg_value g (take n all) t ≡ arg_value g all t
value_before g all n (Input k) h = refl
value_before g all n Out h = refl
value_before g all n (Step k) h = get_or-take n all k 0 h

pub term_before : (p : PayloadShape) (c : Combiner) (t : Arg) → IsPayload p → (j : Joins p c t) → IsBefore j.y t
term_before p c t h j =
    let fits : has_type (arg_type p.ins p.out (take j.y p.steps) j.a) j.s.ty && has_type (arg_type p.ins p.out (take j.y p.steps) j.b) j.s.ty ≡ true =
    subst (λ o. op_fits (arg_type p.ins p.out (take j.y p.steps)) j.s.ty o ≡ true) j.is (fits_at p.ins p.out p.steps [] (and_parts _ _ h).0 j.y j.s j.at) in
    let both = and_parts _ _ fits in
    let cases = other_cases j.a j.b t j.other in
    ⊎_elim
    (λ (e : (j.a ≡ Out) × (j.b ≡ t)). typed_before p.ins p.out p.steps j.y t j.s.ty cases.1 (subst (λ x. has_type (arg_type p.ins p.out (take j.y p.steps) x) j.s.ty ≡ true) e.1 both.1))
    (λ (e : (j.a ≡ t) × (j.b ≡ Out)). typed_before p.ins p.out p.steps j.y t j.s.ty cases.1 (subst (λ x. has_type (arg_type p.ins p.out (take j.y p.steps) x) j.s.ty ≡ true) e.0 both.0))
    cases.0

pub step_bits : (p : PayloadShape) (c : Combiner) (t : Arg) → IsPayload p → (j : Joins p c t) → bits_of j.s.ty ≡ bits_of p.out
step_bits p c t h j =
    let yields : has_type (arg_type p.ins p.out p.steps (Step j.y)) p.out ≡ true = subst (λ x. has_type (arg_type p.ins p.out p.steps x) p.out ≡ true) j.yields (and_parts _ _ h).1 in
    same_elem j.s.ty p.out (subst (λ o. has_type (option_map (λ (s : PayloadStep). s.ty) o) p.out ≡ true) j.at yields)

-- the joining step joins the output's element with the term
joining_value : (c : Combiner) (w : ℕ) (g : Given) (done : List ℕ) (a b t : Arg) → other_than_out a b ≡ Some t →
    binary_of (operation_of c) w (arg_value g done a) (arg_value g done b) ≡ Some (joined c w g.out (arg_value g done t))
joining_value c w g done a b t e =
    ⊎_elim
    (λ (f : (a ≡ Out) × (b ≡ t)). (λ j. binary_of (operation_of c) w (arg_value g done (f.0 j)) (arg_value g done (f.1 j))) ∙ joined_is c w g.out (arg_value g done t))
    (λ (f : (a ≡ t) × (b ≡ Out)). (λ j. binary_of (operation_of c) w (arg_value g done (f.0 j)) (arg_value g done (f.1 j))) ∙ joined_is c w (arg_value g done t) g.out
    ∙ ap (λ v. Some v) (joined_comm c w (arg_value g done t) g.out))
    (other_cases a b t e).0

joining_step : (p : PayloadShape) (c : Combiner) (t : Arg) (j : Joins p c t) (g : Given) (done : List ℕ) →
    step_value p g done j.s ≡ Some (joined c (bits_of j.s.ty) g.out (arg_value g done t))
unfolding op_value
joining_step p c t j g done =
    ap (op_value (arg_value g done) (arg_bits p) g.point g.outer j.s.ty) j.is ∙ joining_value c (bits_of j.s.ty) g done j.a j.b t j.other

pub joins_term : (p : PayloadShape) (c : Combiner) (t : Arg) → IsPayload p → combining p.steps p.yielded ≡ Some (c, t) → (g : Given) → JoinsTerm p g c t
joins_term p c t h e g =
    let j : Joins p c t = joins_of p c t e in
    ap (λ x. option_map (λ done. arg_value g done x) (steps_values p g p.steps [])) j.yields ∙ each (steps_values p g p.steps []) refl
  where
    each : (o : Option (List ℕ)) → steps_values p g p.steps [] ≡ o →
        option_map (λ done. arg_value g done (Step (joins_of p c t e).y)) o ≡ option_map (joined c (bits_of p.out) g.out) (option_map (λ done. arg_value g done t) o)
    each None f = refl
    each (Some all) f =
        let j : Joins p c t = joins_of p c t e in
        let here : step_value p g (take j.y all) j.s ≡ Some (get_or all j.y 0) = subst (λ n. step_value p g (take n all) j.s ≡ Some (get_or all n 0)) (zero-add j.y) (value_at p g p.steps [] all f j.y j.s j.at) in
        sym here ∙ joining_step p c t j g (take j.y all)
        ∙ (λ i. Some (joined c (step_bits p c t h j i) g.out (value_before g all j.y t (term_before p c t h j) i)))

-- ---- the term does not depend on the output's element
module _ (p : PayloadShape) (g : Given) (out y : ℕ) where
  abbrev Alike : List ℕ → List ℕ → Type 0
  Alike d e = (length d ≡ length e) × ((k : ℕ) → (k ≡ y → ⊥) → get_or d k 0 ≡ get_or e k 0)

  arg_alike : (d e : List ℕ) → Alike d e → (x : Arg) → avoids y x ≡ true → arg_value (with_out g out) d x ≡ arg_value g e x
  arg_alike d e h (Input k) c = refl
  arg_alike d e h Out c = absurd (false≢true c)
  arg_alike d e h (Step k) c = h.1 k (eqb-false k y (not-true (k == y) c))

  terms_alike : (d e : List ℕ) → Alike d e → (ts : List (Arg × ℤ)) → list_all (λ (t : Arg × ℤ). avoids y t.0) ts ≡ true →
      terms_sum (arg_value (with_out g out) d) ts ≡ terms_sum (arg_value g e) ts
  terms_alike d e h [] c = refl
  terms_alike d e h (t ∷ ts) c = let parts = and_parts _ _ c in λ j. (t.1 *ℤ pos (arg_alike d e h t.0 parts.0 j)) +ℤ terms_alike d e h ts parts.1 j

  op_alike : (d e : List ℕ) → Alike d e → (ty : ElemTy) (op : StepOp) → op_avoids y op ≡ true →
      op_value (arg_value (with_out g out) d) (arg_bits p) g.point g.outer ty op ≡ op_value (arg_value g e) (arg_bits p) g.point g.outer ty op
  unfolding op_value
  op_alike d e h ty (Const n) c = refl
  op_alike d e h ty (Index n) c = refl
  op_alike d e h ty (Captured n) c = refl
  op_alike d e h ty (Linear n ts) c = λ j. Some (reduce 64 (n +ℤ terms_alike d e h ts c j))
  op_alike d e h ty (Binary op a b) c = let parts = and_parts _ _ c in λ j. binary_of op (bits_of ty) (arg_alike d e h a parts.0 j) (arg_alike d e h b parts.1 j)
  op_alike d e h ty (Compare q a b) c = let parts = and_parts _ _ c in λ j. Some (bit_of (compares q (arg_bits p a) (arg_alike d e h a parts.0 j) (arg_alike d e h b parts.1 j)))
  op_alike d e h ty (Select n a b) c =
      let parts = and_parts _ _ c in
      let front = and_parts _ _ parts.0 in
      λ j. Some (if arg_alike d e h n front.0 j == 0 then arg_alike d e h b parts.1 j else arg_alike d e h a front.1 j)
  op_alike d e h ty (SignExtend a) c = λ j. Some (reduce (bits_of ty) (signed_of (arg_bits p a) (arg_alike d e h a c j)))
  op_alike d e h ty (ZeroExtend a) c = λ j. Some (arg_alike d e h a c j)
  op_alike d e h ty (Truncate a) c = λ j. Some (arg_alike d e h a c j % 2 ^ bits_of ty)
  op_alike d e h ty (IndexCast a) c = λ j. Some (reduce (bits_of ty) (signed_of (arg_bits p a) (arg_alike d e h a c j)))

  -- one more value on both sides: the same one, or any two in place y
  alike_same : (d e : List ℕ) (v : ℕ) → Alike d e → Alike (d ++ v ∷ []) (e ++ v ∷ [])
  alike_same d e v h = (
    omega (arith, h.0, length-append d (v ∷ []), length-append e (v ∷ [])),
    λ k n. ⊎_elim
        (λ (l : k < length d). get_or_append_left d (v ∷ []) 0 k l ∙ h.1 k n ∙ sym (get_or_append_left e (v ∷ []) 0 k (omega (arith, h.0))))
        (λ (l : length d ≤ k). get_or-append_right d (v ∷ []) (length d) k 0 refl l ∙ sym (get_or-append_right e (v ∷ []) (length d) k 0 (sym h.0) l))
        (cases_lt k (length d)),
  )

  alike_here : (d e : List ℕ) (v w : ℕ) → length d ≡ y → Alike d e → Alike (d ++ v ∷ []) (e ++ w ∷ [])
  alike_here d e v w l h = (
    omega (arith, h.0, length-append d (v ∷ []), length-append e (w ∷ [])),
    λ k n. ⊎_elim
        (λ (b : k < length d). get_or_append_left d (v ∷ []) 0 k b ∙ h.1 k n ∙ sym (get_or_append_left e (w ∷ []) 0 k (omega (arith, h.0))))
        (λ (b : length d ≤ k). let past : length d < k = omega (arith, λ (f : k ≡ y). n f) in
        get_or_past (d ++ v ∷ []) k 0 (omega (arith, length-append d (v ∷ []))) ∙ sym (get_or_past (e ++ w ∷ []) k 0 (omega (arith, h.0, length-append e (w ∷ [])))))
        (cases_lt k (length d)),
  )

  steps_alike : {A : Type 0} (m : ℕ) (K L : List ℕ → Option A) → ((d e : List ℕ) → length d ≡ m → Alike d e → K d ≡ L e) → (ss : List PayloadStep) (d e : List ℕ) →
      length d + length ss ≡ m → Alike d e → steps_avoid y ss ≡ true → option_and_then K (steps_values p (with_out g out) ss d) ≡ option_and_then L (steps_values p g ss e)
  steps_alike m K L same [] d e l h c = same d e (omega arith) h
  steps_alike m K L same (s ∷ ss) d e l h c =
      let parts = and_parts _ _ c in
      ap (λ o. option_and_then K (option_and_then (λ v. steps_values p (with_out g out) ss (d ++ v ∷ [])) o)) (op_alike d e h s.ty s.op parts.0)
      ∙ and_then_assoc (step_value p g e s) (λ v. steps_values p (with_out g out) ss (d ++ v ∷ [])) K
      ∙ and_then_same (step_value p g e s) _ _ (λ v _. steps_alike m K L same ss (d ++ v ∷ []) (e ++ v ∷ []) (omega (arith, length-append d (v ∷ []))) (alike_same d e v h) parts.1)
      ∙ sym (and_then_assoc (step_value p g e s) (λ v. steps_values p g ss (e ++ v ∷ [])) L)

-- the value of a payload's term after all steps, by the steps before step y, step y, and those after it
value_by : (p : PayloadShape) (g : Given) (t : Arg) (y : ℕ) (s : PayloadStep) → slice_get p.steps y ≡ Some s →
    value_after p g t ≡ option_and_then (λ d. option_and_then (λ done. Some (arg_value g done t)) (steps_values p g (s ∷ drop (suc y) p.steps) d)) (steps_values p g (take y p.steps) [])
value_by p g t y s at =
    ap (λ ss. option_and_then (λ done. Some (arg_value g done t)) (steps_values p g ss [])) (around p.steps y s at)
    ∙ ap (option_and_then (λ done. Some (arg_value g done t))) (steps_values-append p g (take y p.steps) (s ∷ drop (suc y) p.steps) [])
    ∙ and_then_assoc (steps_values p g (take y p.steps) []) (steps_values p g (s ∷ drop (suc y) p.steps)) (λ done. Some (arg_value g done t))

term_avoids : (y : ℕ) (t : Arg) → IsBefore y t → avoids y t ≡ true
term_avoids y (Input k) h = refl
term_avoids y Out h = absurd h
term_avoids y (Step k) h = not_from_false (k == y) (ne_eqb k y (λ e. omega arith))

pub term_apart : (p : PayloadShape) (c : Combiner) (t : Arg) → IsPayload p → combining p.steps p.yielded ≡ Some (c, t) → (g : Given) → IsApartFromOut p g t
term_apart p c t h e g out =
    let j : Joins p c t = joins_of p c t e in
    let other : Given = with_out g out in
    let post : List PayloadStep = drop (suc j.y) p.steps in
    let m : ℕ = length (take j.y p.steps) in
    let is_y : m ≡ j.y = length-take-le j.y p.steps (omega (arith, slice_get_within p.steps j.y j.s j.at)) in
    let w : ℕ = bits_of j.s.ty in
    let term : (d e : List ℕ) → Alike p g out j.y d e → arg_value other d t ≡ arg_value g e t = λ d e a. arg_alike p g out j.y d e a t (term_avoids j.y t (term_before p c t h j)) in
    let here : (d e : List ℕ) → length d ≡ m → Alike p g out j.y d e →
    option_and_then (λ done. Some (arg_value other done t)) (steps_values p other (j.s ∷ post) d) ≡ option_and_then (λ done. Some (arg_value g done t)) (steps_values p g (j.s ∷ post) e) =
    λ d e l a.
    let v : ℕ = joined c w out (arg_value other d t) in
    let u : ℕ = joined c w g.out (arg_value g e t) in
    ap (λ o. option_and_then (λ done. Some (arg_value other done t)) (option_and_then (λ v. steps_values p other post (d ++ v ∷ [])) o)) (joining_step p c t j other d)
    ∙ steps_alike p g out j.y (length (d ++ v ∷ []) + length post) (λ done. Some (arg_value other done t)) (λ done. Some (arg_value g done t)) (λ x z _ b. ap (λ n. Some n) (term x z b))
    post (d ++ v ∷ []) (e ++ u ∷ []) refl (alike_here p g out j.y d e v u (l ∙ is_y) a) j.after
    ∙ sym (ap (λ o. option_and_then (λ done. Some (arg_value g done t)) (option_and_then (λ v. steps_values p g post (e ++ v ∷ [])) o)) (joining_step p c t j g e)) in
    value_by p other t j.y j.s j.at
    ∙ steps_alike p g out j.y m _ _ here (take j.y p.steps) [] [] (zero-add m) (refl, λ k n. refl) j.before
    ∙ sym (value_by p g t j.y j.s j.at)
