-- A value with one use, after that use is gone.
use Rattle.std.proofs.Common.{◌≡◌, ℕ, map, length, ◌<◌, zero, suc, ◌+◌, ◌≤◌, ◌==◌, Bool, true, false, not, List, [], ◌∷◌, ◌++◌, Some, refl, ap, sym, ◌∙◌, cond, arith, eq-eqb}
use Rattle.std.specs.Prelude.{slice_get, if◌then◌else◌}
use Rattle.std.proofs.lemmas.List.Sums.{sum_by-cons, sum_by-append}
use Rattle.std.proofs.lemmas.Option.{same_Some, none-some}
use Rattle.mlir_ir.specs.Count.{operands, names, uses_kind, uses_row, uses_op}
use Rattle.mlir_ir.specs.declared.tree.Op.{Op}
use Rattle.mlir_ir.specs.declared.tree.OpKind.{OpKind, For', Forall', Row_of-Op, end_of-Op, more_of-Op}
use Rattle.mlir_ir.specs.declared.tree.ValueId.{ValueId}
use Rattle.mlir_meaning.specs.Grids.{Each}
use Rattle.mlir_meaning.specs.Names.{AreIn, ReadsOnly, RowReadsOnly, OpsReadOnly}
use Rattle.mlir_meaning.specs.Laws.{all_but}
use Rattle.mlir_meaning.proofs.Grids.{each-append}
use Rattle.mlir_meaning.proofs.Through.{each_left, each_right}
use Rattle.affine_maps.specs.Permutation.{is_among}
use Rattle.verified_runs.specs.Forms.{Structured, kind_of}
use Rattle.payload_forms.specs.Joined.{spliced}
use Rattle.pair_laws.specs.Pairs.{numbers_of, with_value, once, captured_of, joint_of, joined_rest, used_of, value_at_place, fused_op}
use Rattle.pair_laws.proofs.Forming.{used_below}
use Rattle.affine_maps.specs.Shape.{MapShape}

module _ (v : ValueId) where
  abbrev N : ℕ → Bool
  N = all_but v

  none_named : (vs : List ValueId) → names v vs ≡ 0 → AreIn N vs
  none_named [] h = tt
  none_named (w ∷ ws) h = one (w.0 == v.0) (none_named ws) (sym (sum_by-cons (λ (x : ValueId). cond (x.0 == v.0) 1 0) w ws) ∙ h)
    where
      one : (b : Bool) → (names v ws ≡ 0 → AreIn N ws) → cond b 1 0 + names v ws ≡ 0 → (not b ≡ true) × AreIn N ws
      one true rest e = absurd (omega arith)
      one false rest e = (refl, rest (omega arith))

  left_zero : (m n : ℕ) → m + n ≡ 0 → m ≡ 0
  left_zero m n h = omega arith

  right_zero : (m n : ℕ) → m + n ≡ 0 → n ≡ 0
  right_zero m n h = omega arith

  mutual
    unfolding ReadsOnly

    unused : (kind : OpKind) → uses_kind v kind ≡ 0 → ReadsOnly N kind
    unused (For' i l u s c shape row) h = (none_named (operands (For' i l u s c shape row)) (left_zero _ _ h), unused_row row (right_zero _ _ h))
    unused (Forall' i l u s c shape row) h = (none_named (operands (Forall' i l u s c shape row)) (left_zero _ _ h), unused_row row (right_zero _ _ h))
    unused kind h = none_named (operands kind) h

    unused_row : {n : _} (row : Row_of-Op n) → uses_row v row ≡ 0 → RowReadsOnly N row
    unused_row end_of-Op h = tt
    unused_row (more_of-Op id rs kind rest) h = (unused kind (left_zero _ _ h), unused_row rest (right_zero _ _ h))

  pub unused_ops : (os : List Op) → uses_op v os ≡ 0 → OpsReadOnly N os
  unused_ops [] h = tt
  unused_ops (o ∷ os) h =
      let e : uses_kind v o.kind + uses_op v os ≡ 0 = sym (sum_by-cons (λ (o : Op). uses_kind v o.kind) o os) ∙ h in
      (unused o.kind (left_zero _ _ e), unused_ops os (right_zero _ _ e))

  uses-cons : (o : Op) (os : List Op) → uses_op v (o ∷ os) ≡ uses_kind v o.kind + uses_op v os
  uses-cons o os = sum_by-cons (λ (o : Op). uses_kind v o.kind) o os

  uses-append : (xs ys : List Op) → uses_op v (xs ++ ys) ≡ uses_op v xs + uses_op v ys
  uses-append xs ys = sum_by-append (λ (o : Op). uses_kind v o.kind) xs ys

  names-append : (xs ys : List ValueId) → names v (xs ++ ys) ≡ names v xs + names v ys
  names-append xs ys = sum_by-append (λ (x : ValueId). cond (x.0 == v.0) 1 0) xs ys

  names-cons : (x : ValueId) (xs : List ValueId) → names v (x ∷ xs) ≡ cond (x.0 == v.0) 1 0 + names v xs
  names-cons x xs = sum_by-cons (λ (x : ValueId). cond (x.0 == v.0) 1 0) x xs

  -- the use at place k, and the others
  names_at : (k : ℕ) (xs : List ValueId) → slice_get xs k ≡ Some v → names v xs ≡ suc (names v (spliced k [] xs))
  names_at zero [] e = absurd (none-some v e)
  names_at (suc k) [] e = absurd (none-some v e)
  names_at zero (x ∷ xs) e =
      let one : ℕ = 1 in
      let here : cond (x.0 == v.0) 1 0 ≡ one = ap (λ (b : Bool). cond b one 0) (eq-eqb x.0 v.0 (ap (λ (w : ValueId). w.0) (same_Some x v e))) in
      omega (arith, names-cons x xs, here)
  names_at (suc k) (x ∷ xs) e = omega (arith, names-cons x xs, names_at k xs e, names-cons x (spliced k [] xs))

  spliced_in : (k : ℕ) (ys xs : List ValueId) → AreIn N ys → AreIn N (spliced k [] xs) → AreIn N (spliced k ys xs)
  spliced_in k ys [] h j = tt
  spliced_in zero ys (x ∷ xs) h j = each-append (λ (w : ValueId). N w.0 ≡ true) ys xs h j
  spliced_in (suc k) ys (x ∷ xs) h j = (j.0, spliced_in k ys xs h j.1)

  with_in : (seen : List ValueId) (x : ValueId) → AreIn N seen → N x.0 ≡ true → AreIn N (with_value seen x)
  with_in seen x h e = by (is_among x.0 (numbers_of seen)) where
    by : (b : Bool) → AreIn N (if b then seen else seen ++ x ∷ [])
    by true = h
    by false = each-append (λ (w : ValueId). N w.0 ≡ true) seen (x ∷ []) h (e, tt)

  once_in : (seen vs : List ValueId) → AreIn N seen → AreIn N vs → AreIn N (once seen vs)
  once_in seen [] h j = h
  once_in seen (x ∷ vs) h j = once_in (with_value seen x) vs (with_in seen x h j.0) j.1

  one_in : (vs : List ValueId) (i : ℕ) → i < length vs → AreIn N vs → N (value_at_place vs i).0 ≡ true
  one_in [] i l h = absurd (omega arith)
  one_in (x ∷ vs) zero l h = h.0
  one_in (x ∷ vs) (suc i) l h = one_in vs i (omega arith) h.1

  chosen_in : (vs : List ValueId) (is : List ℕ) → Each (λ i. i < length vs) is → AreIn N vs → AreIn N (map (value_at_place vs) is)
  chosen_in vs [] b h = tt
  chosen_in vs (i ∷ is) b h = (one_in vs i b.0 h, chosen_in vs is b.1 h)

  module _ (p c : Structured) (k : ℕ) (m : MapShape) (ds : List ℕ) (operand : slice_get c.ins k ≡ Some v) where
    fused_reads : uses_kind v (kind_of p) ≡ 0 → uses_kind v (kind_of c) ≡ 1 → ReadsOnly N (kind_of (fused_op p c k m ds))
    unfolding ReadsOnly
    fused_reads h j =
        let ps : AreIn N (p.ins ++ (p.outs ∷ p.captured)) = none_named (p.ins ++ (p.outs ∷ p.captured)) h in
        let pi = each_left (λ (w : ValueId). N w.0 ≡ true) p.ins (p.outs ∷ p.captured) ps in
        let pr = each_right (λ (w : ValueId). N w.0 ≡ true) p.ins (p.outs ∷ p.captured) ps in
        let count = names-append c.ins (c.outs ∷ c.captured) in
        let at = names_at k c.ins operand in
        let rest : AreIn N (c.outs ∷ c.captured) = none_named (c.outs ∷ c.captured) (omega (arith, j, count, at)) in
        let others : AreIn N (spliced k [] c.ins) = none_named (spliced k [] c.ins) (omega (arith, j, count, at)) in
        each-append (λ (w : ValueId). N w.0 ≡ true) (spliced k p.ins c.ins) (c.outs ∷ (fused_op p c k m ds).captured) (spliced_in k p.ins c.ins pi others) (
          rest.0,
          chosen_in (captured_of p c) (used_of p c k m ds) (used_below (length (captured_of p c)) (joined_rest (joint_of p c k m ds) p.payload c.payload) [] tt)
              (once_in [] (p.captured ++ c.captured) tt (each-append (λ (w : ValueId). N w.0 ≡ true) p.captured c.captured pr.1 rest.1)),
        )

    uses_some : 1 ≤ uses_kind v (kind_of c)
    uses_some = omega (arith, names-append c.ins (c.outs ∷ c.captured), names_at k c.ins operand)

    module _ (before mid after : List Op) (po co : Op) (p_kind : po.kind ≡ kind_of p) (c_kind : co.kind ≡ kind_of c)
        (one : uses_op v (before ++ (po ∷ (mid ++ (co ∷ after)))) ≡ 1) where
      abbrev sum : ℕ
      sum = uses_op v before + (uses_kind v (kind_of p) + (uses_op v mid + (uses_kind v (kind_of c) + uses_op v after)))

      sum_is : sum ≡ 1
      sum_is =
          (λ j. uses_op v before + (uses_kind v (sym p_kind j) + (uses_op v mid + (uses_kind v (sym c_kind j) + uses_op v after))))
          ∙ (λ j. uses_op v before + (uses_kind v po.kind + (uses_op v mid + sym (uses-cons co after) j)))
          ∙ (λ j. uses_op v before + (uses_kind v po.kind + sym (uses-append mid (co ∷ after)) j))
          ∙ (λ j. uses_op v before + sym (uses-cons po (mid ++ (co ∷ after))) j)
          ∙ sym (uses-append before (po ∷ (mid ++ (co ∷ after)))) ∙ one

      pub unused_front : OpsReadOnly N before
      unused_front = unused_ops before (omega (arith, sum_is, uses_some))

      pub unused_rest : OpsReadOnly N (mid ++ (record { id = co.id; results = co.results; kind = kind_of (fused_op p c k m ds) } ∷ after))
      unused_rest =
          each-append (λ (o : Op). ReadsOnly N o.kind) mid (record { id = co.id; results = co.results; kind = kind_of (fused_op p c k m ds) } ∷ after)
          (unused_ops mid (omega (arith, sum_is, uses_some)))
          (fused_reads (omega (arith, sum_is, uses_some)) (omega (arith, sum_is, uses_some)), unused_ops after (omega (arith, sum_is, uses_some)))
