-- An `affine.apply` in a payload gives the value of its expression, modulo 2^64.
use Rattle.std.proofs.Common.{◌≡◌, ℕ, suc, ◌+◌, ◌-◌, ◌*◌, ◌/◌, ◌%◌, ◌^◌, ◌&&◌, true, ℤ, pos, negsuc, ◌+ℤ◌, ◌*ℤ◌, List, [], ◌∷◌, ◌++◌, map, length, get_or, Some, refl, ap, sym, subst, ◌∙◌, arith, length-append, append_assoc}
use Rattle.std.specs.Prelude.{option_and_then}
use Rattle.std.specs.List.{list_all}
use Rattle.std.proofs.Math.Nat.{div-add-mod, mul_comm}
use Rattle.std.proofs.Math.IntN.{pos-*ℤ-pos}
use Rattle.std.proofs.lemmas.Bool.{and_parts}
use Rattle.std.proofs.lemmas.Int.{ints}
use Rattle.std.proofs.lemmas.List.{length-map, append-nil, get_or_at}
use Rattle.affine_maps.specs.Value.{coordinate, weighted_sum, value_at}
use Rattle.affine_maps.specs.declared.map.Expr.{Expr}
use Rattle.affine_maps.proofs.Integers.{add_over_mul, mul_assoc}
use Rattle.payload_ops.specs.Bits.{reduce}
use Rattle.mlir_base.specs.Numbers.{is_coefficient}
use Rattle.payload_ops.specs.Payload.{has_type, term_fits, steps_fit}
use Rattle.payload_ops.specs.Shape.{PayloadShape}
use Rattle.payload_ops.specs.Values.{Given, arg_value, terms_sum, op_value, steps_values}
use Rattle.mlir_base.specs.declared.types.ElemTy.TheVariants.{Index as IndexType}
use Rattle.payload_ops.specs.declared.step.Arg.TheVariants.{Step}
use Rattle.payload_ops.specs.declared.step.PayloadStep.{PayloadStep}
use Rattle.payload_ops.proofs.StepsLemmas.{steps_values-append}
use Rattle.payload_ops.proofs.Words.{reduce_same}
use Rattle.point_laws.proofs.Tables.{get_or-pos}
use Rattle.payload_forms.specs.Moved.{index_step, linear_step}
use Rattle.payload_forms.specs.Joined.{numbered_terms, applied}
use Rattle.fuse_laws.specs.Joined.{AreSmall}
use Rattle.region_laws.proofs.Moves.{steps_fit-append, type_in, type_new}

-- NUMBERS MODULO 2^64
abbrev Near : ℤ → ℤ → Type 0
Near a b = (j : ℕ) × (k : ℕ) × (a +ℤ pos (j * 2 ^ 64) ≡ b +ℤ pos (k * 2 ^ 64))

near_product : (z a b : ℤ) → b ≡ (z *ℤ pos (2 ^ 64)) +ℤ a → Near a b
near_product (pos n) a b e = (n, 0, omega (arith, ints))
near_product (negsuc n) a b e = (0, suc n, omega (arith, ints))

near_term : (c : ℤ) (x : ℕ) → Near (c *ℤ pos (x % 2 ^ 64)) (c *ℤ pos x)
near_term c x =
    let d = x / 2 ^ 64 in
    let r = x % 2 ^ 64 in
    let whole : pos (2 ^ 64 * d) ≡ pos d *ℤ pos (2 ^ 64) = ap pos (mul_comm (2 ^ 64) d) ∙ sym (pos-*ℤ-pos d (2 ^ 64)) in
    near_product (c *ℤ pos d) (c *ℤ pos r) (c *ℤ pos x)
    (ap (λ y. c *ℤ pos y) (sym (div-add-mod x (2 ^ 64))) ∙ add_over_mul c (pos (2 ^ 64 * d)) (pos r)
    ∙ ap (λ y. c *ℤ y +ℤ c *ℤ pos r) whole ∙ ap (λ y. y +ℤ c *ℤ pos r) (sym (mul_assoc c (pos d) (pos (2 ^ 64)))))

near_sum : (a b c d : ℤ) → Near a b → Near c d → Near (a +ℤ c) (b +ℤ d)
near_sum a b c d (j, k, e) (i, l, f) = (j + i, k + l, omega (arith, ints, e, f))

-- THE STEPS
module _ (p : PayloadShape) (g : Given) where
  abbrev index_values : List (ℕ × ℤ) → List ℕ
  index_values ts = map (λ (t : ℕ × ℤ). get_or g.point t.0 0 % 2 ^ 64) ts

  abbrev indexes : List (ℕ × ℤ) → List PayloadStep
  indexes ts = map (λ (t : ℕ × ℤ). index_step t.0) ts

  indexes_run : (ts : List (ℕ × ℤ)) (done : List ℕ) → steps_values p g (indexes ts) done ≡ Some (done ++ index_values ts)
  unfolding op_value
  indexes_run [] done = ap Some (sym (append-nil done))
  indexes_run (t ∷ ts) done = indexes_run ts (done ++ (get_or g.point t.0 0 % 2 ^ 64) ∷ []) ∙ ap Some (append_assoc done ((get_or g.point t.0 0 % 2 ^ 64) ∷ []) (index_values ts))

  sum_near : (ts : List (ℕ × ℤ)) (done more : List ℕ) → Near (terms_sum (arg_value g (done ++ (index_values ts ++ more))) (numbered_terms (length done) ts)) (weighted_sum ts (coordinate (map pos g.point)))
  sum_near [] done more = (0, 0, refl)
  sum_near (t ∷ ts) done more =
      let v = get_or g.point t.0 0 % 2 ^ 64 in
      let here : get_or (done ++ v ∷ (index_values ts ++ more)) (length done) 0 ≡ v = get_or_at done v (index_values ts ++ more) 0 (length done) refl in
      let longer : length (done ++ v ∷ []) ≡ suc (length done) = omega (arith, length-append done (v ∷ [])) in
      let rest : Near (terms_sum (arg_value g (done ++ v ∷ (index_values ts ++ more))) (numbered_terms (suc (length done)) ts)) (weighted_sum ts (coordinate (map pos g.point))) =
      subst (λ (n : ℕ). Near (terms_sum (arg_value g (done ++ v ∷ (index_values ts ++ more))) (numbered_terms n ts)) (weighted_sum ts (coordinate (map pos g.point)))) longer
      (subst (λ (l : List ℕ). Near (terms_sum (arg_value g l) (numbered_terms (length (done ++ v ∷ [])) ts)) (weighted_sum ts (coordinate (map pos g.point)))) (append_assoc done (v ∷ []) (index_values ts ++ more))
      (sum_near ts (done ++ v ∷ []) more)) in
      near_sum _ _ _ _
      (subst (λ (x : ℤ). Near (t.1 *ℤ pos (get_or (done ++ v ∷ (index_values ts ++ more)) (length done) 0)) (t.1 *ℤ x)) (sym (get_or-pos g.point t.0))
      (subst (λ (x : ℕ). Near (t.1 *ℤ pos x) (t.1 *ℤ pos (get_or g.point t.0 0))) (sym here) (near_term t.1 (get_or g.point t.0 0)))) rest

  abbrev pub apply_value : Expr → ℕ
  apply_value e = reduce 64 (value_at e (map pos g.point))

  linear_value : (e : Expr) (done : List ℕ) → reduce 64 (e.constant +ℤ terms_sum (arg_value g (done ++ index_values e.terms)) (numbered_terms (length done) e.terms)) ≡ apply_value e
  linear_value e done =
      let n = near_sum e.constant e.constant _ _ (0, 0, refl) (sum_near e.terms done []) in
      ap (λ l. reduce 64 (e.constant +ℤ terms_sum (arg_value g l) (numbered_terms (length done) e.terms))) (ap (λ l. done ++ l) (sym (append-nil (index_values e.terms))))
      ∙ reduce_same 64 _ _ n.0 n.1 n.2

  pub applied_run : (e : Expr) (n : ℕ) (done : List ℕ) → length done ≡ n → steps_values p g (applied e n) done ≡ Some (done ++ (index_values e.terms ++ apply_value e ∷ []))
  unfolding op_value
  applied_run e n done l =
      steps_values-append p g (indexes e.terms) (linear_step e.constant (numbered_terms n e.terms) ∷ []) done
      ∙ ap (option_and_then (steps_values p g (linear_step e.constant (numbered_terms n e.terms) ∷ []))) (indexes_run e.terms done)
      ∙ ap (λ v. Some ((done ++ index_values e.terms) ++ v ∷ [])) (ap (λ m. reduce 64 (e.constant +ℤ terms_sum (arg_value g (done ++ index_values e.terms)) (numbered_terms m e.terms))) (sym l) ∙ linear_value e done)
      ∙ ap Some (append_assoc done (index_values e.terms) (apply_value e ∷ []))

  pub applied_length : (e : Expr) (n : ℕ) → length (applied e n) ≡ suc (length e.terms)
  applied_length e n = omega (arith, length-append (indexes e.terms) (linear_step e.constant (numbered_terms n e.terms) ∷ []), length-map e.terms (λ (t : ℕ × ℤ). index_step t.0))

  indexes_fit : (ts : List (ℕ × ℤ)) (pre : List PayloadStep) → steps_fit p.ins p.out (indexes ts) pre ≡ true
  indexes_fit [] pre = refl
  indexes_fit (t ∷ ts) pre = indexes_fit ts (pre ++ index_step t.0 ∷ [])

  terms_good : (ts : List (ℕ × ℤ)) (pre more : List PayloadStep) → list_all (λ (t : ℕ × ℤ). is_coefficient t.1) ts ≡ true →
      list_all (term_fits (type_in p (pre ++ (indexes ts ++ more)))) (numbered_terms (length pre) ts) ≡ true
  terms_good [] pre more h = refl
  terms_good (t ∷ ts) pre more h =
      let both : (is_coefficient t.1 ≡ true) × (list_all (λ (t : ℕ × ℤ). is_coefficient t.1) ts ≡ true) = and_parts _ _ h in
      let whole = pre ++ index_step t.0 ∷ (indexes ts ++ more) in
      let longer : length (pre ++ index_step t.0 ∷ []) ≡ suc (length pre) = omega (arith, length-append pre (index_step t.0 ∷ [])) in
      let rest : list_all (term_fits (type_in p whole)) (numbered_terms (suc (length pre)) ts) ≡ true =
      subst (λ (n : ℕ). list_all (term_fits (type_in p whole)) (numbered_terms n ts) ≡ true) longer
      (subst (λ l. list_all (term_fits (type_in p l)) (numbered_terms (length (pre ++ index_step t.0 ∷ [])) ts) ≡ true) (append_assoc pre (index_step t.0 ∷ []) (indexes ts ++ more)) (terms_good ts (pre ++ index_step t.0 ∷ []) more both.1)) in
      let first : term_fits (type_in p whole) (Step (length pre), t.1) ≡ true = (λ j. has_type (type_new p pre (index_step t.0) (indexes ts ++ more) (length pre) refl j) IndexType && is_coefficient t.1) ∙ both.0 in
      λ j. first j && rest j

  pub applied_fits : (e : Expr) (pre : List PayloadStep) → AreSmall e → steps_fit p.ins p.out (applied e (length pre)) pre ≡ true
  applied_fits e pre h =
      steps_fit-append p.ins p.out (indexes e.terms) (linear_step e.constant (numbered_terms (length pre) e.terms) ∷ []) pre (indexes_fit e.terms pre)
      (λ j. (h.0 j && terms j) && true)
    where
      terms : list_all (term_fits (type_in p (pre ++ indexes e.terms))) (numbered_terms (length pre) e.terms) ≡ true
      terms = subst (λ l. list_all (term_fits (type_in p l)) (numbered_terms (length pre) e.terms) ≡ true) (ap (λ l. pre ++ l) (append-nil (indexes e.terms))) (terms_good e.terms pre [] h.1)

  pub applied_typed : (e : Expr) (pre : List PayloadStep) → type_in p (pre ++ applied e (length pre)) (Step (length pre + length (applied e (length pre)) - 1)) ≡ Some IndexType
  applied_typed e pre =
      let last = linear_step e.constant (numbered_terms (length pre) e.terms) in
      let at : length pre + length (applied e (length pre)) - 1 ≡ length (pre ++ indexes e.terms) = omega (arith, applied_length e (length pre), length-append pre (indexes e.terms), length-map e.terms (λ (t : ℕ × ℤ). index_step t.0)) in
      ap (λ l. type_in p l (Step (length pre + length (applied e (length pre)) - 1))) (sym (append_assoc pre (indexes e.terms) (last ∷ [])))
      ∙ type_new p (pre ++ indexes e.terms) last [] (length pre + length (applied e (length pre)) - 1) at

  pub applied_at : (e : Expr) (n : ℕ) (done : List ℕ) → length done ≡ n → get_or (done ++ (index_values e.terms ++ apply_value e ∷ [])) (n + length (applied e n) - 1) 0 ≡ apply_value e
  applied_at e n done l =
      let at : n + length (applied e n) - 1 ≡ length (done ++ index_values e.terms) = omega (arith, l, applied_length e n, length-append done (index_values e.terms), length-map e.terms (λ (t : ℕ × ℤ). get_or g.point t.0 0 % 2 ^ 64)) in
      ap (λ ws. get_or ws (n + length (applied e n) - 1) 0) (sym (append_assoc done (index_values e.terms) (apply_value e ∷ [])))
      ∙ get_or_at (done ++ index_values e.terms) (apply_value e) [] 0 (n + length (applied e n) - 1) (sym at)

  pub values_length : (e : Expr) (n : ℕ) → length (index_values e.terms ++ apply_value e ∷ []) ≡ length (applied e n)
  values_length e n = omega (arith, length-append (index_values e.terms) (apply_value e ∷ []), length-map e.terms (λ (t : ℕ × ℤ). get_or g.point t.0 0 % 2 ^ 64), applied_length e n)
