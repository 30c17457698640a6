-- A function with its pairs fused defines no number anew, and keeps the limits.
use Rattle.std.proofs.Common.{◌≡◌, ℕ, zero, suc, ◌&&◌, true, false, List, [], ◌∷◌, ◌++◌, length, Option, Some, None, refl, ap, sym, subst, ◌∙◌, append_assoc}
use Rattle.std.specs.Prelude.{Ok, ⊤}
use Rattle.std.specs.List.{flat_map, list_all}
use Rattle.std.proofs.lemmas.Bool.{and_parts}
use Rattle.std.proofs.lemmas.Grind.{flat_map-append}
use Rattle.std.proofs.lemmas.List.{map-append}
use Rattle.std.proofs.lemmas.List.Folds.{list_all-append}
use Rattle.mlir_ir.specs.Shape.{FuncShape}
use Rattle.mlir_ir.specs.declared.tree.Op.{Op}
use Rattle.mlir_ir.specs.declared.tree.Ty.{Ty}
use Rattle.mlir_ir.specs.declared.tree.ValueId.{ValueId}
use Rattle.mlir_meaning.specs.Grids.{Each}
use Rattle.mlir_verify.specs.Limits.{has_few_dimensions, has_small_signature, is_small_op, is_small_type}
use Rattle.mlir_verify.specs.Names.{arguments, defined_by, ids, numbers, redefines}
use Rattle.verified_runs.specs.Forms.{kind_of}
use Rattle.pair_laws.specs.FuseAll.{first_pair, fuse_all, fuse_from, fuse_next, fuse_pair, fused_of, Pair}
use Rattle.pair_laws.proofs.Ending.{goes_on, same_ok}
use Rattle.pair_laws.proofs.Found.{IsFound, pair_found}
use Rattle.step_results.specs.Modules.{is_small_func}
use Rattle.step_results.proofs.Numbers.{among_parts, own_both, own_parts, still_own}

-- FEWER NUMBERS
all_true : (xs : List ℕ) → Each (λ (v : ℕ). ⊤) xs
all_true [] = tt
all_true (x ∷ xs) = (tt, all_true xs)

fewer : (xs ds ys : List ℕ) → redefines (xs ++ (ds ++ ys)) [] ≡ false → redefines (xs ++ ys) [] ≡ false
fewer xs ds ys h =
    let parts = own_parts xs (ds ++ ys) [] h in
    let rest = own_parts ds ys xs parts.1 in
    own_both xs ys [] parts.0 (still_own (λ (v : ℕ). ⊤) ys (xs ++ ds) xs (λ v t e. (among_parts v xs ds e).0) (all_true ys) rest.1)

regroup : (xs n b d r ys : List ℕ) → xs ++ ((n ++ (b ++ (d ++ r))) ++ ys) ≡ (xs ++ (n ++ b)) ++ (d ++ (r ++ ys))
regroup xs n b d r ys =
    ap (λ l. xs ++ l) (append_assoc n (b ++ (d ++ r)) ys ∙ ap (λ l. n ++ l) (append_assoc b (d ++ r) ys ∙ ap (λ l. b ++ l) (append_assoc d r ys))
    ∙ sym (append_assoc n b (d ++ (r ++ ys))))
    ∙ sym (append_assoc xs (n ++ b) (d ++ (r ++ ys)))

without : (xs n b d r ys : List ℕ) → redefines (xs ++ ((n ++ (b ++ (d ++ r))) ++ ys)) [] ≡ false → redefines (xs ++ ((n ++ (b ++ r)) ++ ys)) [] ≡ false
without xs n b d r ys h =
    ap (λ l. redefines l []) (regroup xs n b [] r ys) ∙ fewer (xs ++ (n ++ b)) d (r ++ ys) (ap (λ l. redefines l []) (sym (regroup xs n b d r ys)) ∙ h)

abbrev pub defined : FuncShape → List ℕ
defined f = numbers f.params ++ flat_map defined_by f.body

pub record Shrinks (f g : FuncShape) : Type 0 where
  pub values : (xs ys : List ℕ) → redefines (xs ++ (defined f ++ ys)) [] ≡ false → redefines (xs ++ (defined g ++ ys)) [] ≡ false
  pub ops : (xs ys : List ℕ) → redefines (xs ++ (ids f.body ++ ys)) [] ≡ false → redefines (xs ++ (ids g.body ++ ys)) [] ≡ false
  pub small : is_small_func f ≡ true → is_small_func g ≡ true

shrinks_none : (f g : FuncShape) → f ≡ g → Shrinks f g
shrinks_none f g e = subst (Shrinks f) e (record { values = λ xs ys h. h; ops = λ xs ys h. h; small = λ h. h })

-- ONE PAIR
module _ (f : FuncShape) (x : Pair) (first : first_pair f ≡ Some x) where
  abbrev found : IsFound f.params f.body x
  found = pair_found f x first

  abbrev new : Op
  new = record { id = x.consumer.id; results = x.consumer.results; kind = kind_of (fused_of x) }

  same_defined : defined_by x.consumer ≡ defined_by new
  same_defined = λ j. numbers x.consumer.results ++ arguments (found.c_kind j)

  body_defines : flat_map defined_by f.body ≡ flat_map defined_by x.before ++ (defined_by x.producer ++ flat_map defined_by (x.mid ++ (new ∷ x.after)))
  body_defines =
      ap (flat_map defined_by) found.is ∙ flat_map-append defined_by x.before (x.producer ∷ (x.mid ++ (x.consumer ∷ x.after)))
      ∙ ap (λ l. flat_map defined_by x.before ++ (defined_by x.producer ++ l))
      (flat_map-append defined_by x.mid (x.consumer ∷ x.after) ∙ (λ j. flat_map defined_by x.mid ++ (same_defined j ++ flat_map defined_by x.after))
      ∙ sym (flat_map-append defined_by x.mid (new ∷ x.after)))

  number : Op → ℕ
  number o = o.id.0

  body_ids : ids f.body ≡ ids x.before ++ ((x.producer.id.0 ∷ []) ++ ids (x.mid ++ (new ∷ x.after)))
  body_ids =
      ap ids found.is ∙ map-append (λ (o : Op). o.id.0) x.before (x.producer ∷ (x.mid ++ (x.consumer ∷ x.after)))
      ∙ ap (λ l. ids x.before ++ (x.producer.id.0 ∷ l))
      (map-append (λ (o : Op). o.id.0) x.mid (x.consumer ∷ x.after) ∙ sym (map-append (λ (o : Op). o.id.0) x.mid (new ∷ x.after)))

  same_small : is_small_op x.consumer ≡ is_small_op new
  same_small = λ j. list_all (λ (r : ValueId × Ty). is_small_type r.1) x.consumer.results && has_few_dimensions (found.c_kind j)

  body_small : list_all is_small_op f.body ≡ true → list_all is_small_op (fuse_pair f x).body ≡ true
  body_small h =
      let rest = x.mid ++ (x.consumer ∷ x.after) in
      let all = and_parts (list_all is_small_op x.before) (list_all is_small_op (x.producer ∷ rest))
      (sym (ap (list_all is_small_op) found.is ∙ list_all-append is_small_op x.before (x.producer ∷ rest)) ∙ h) in
      let behind = (and_parts (is_small_op x.producer) (list_all is_small_op rest) all.1).1 in
      list_all-append is_small_op x.before (x.mid ++ (new ∷ x.after))
      ∙ (λ j. all.0 j && (list_all-append is_small_op x.mid (new ∷ x.after)
      ∙ (λ i. list_all is_small_op x.mid && (sym same_small i && list_all is_small_op x.after)) ∙ sym (list_all-append is_small_op x.mid (x.consumer ∷ x.after)) ∙ behind) j)

  pub pair_shrinks : Shrinks f (fuse_pair f x)
  pair_shrinks =
      let rest = flat_map defined_by (x.mid ++ (new ∷ x.after)) in
      record {
        values = λ xs ys h.
            (λ j. redefines (xs ++ ((numbers f.params ++ flat_map-append defined_by x.before (x.mid ++ (new ∷ x.after)) j) ++ ys)) [])
            ∙ without xs (numbers f.params) (flat_map defined_by x.before) (defined_by x.producer) rest ys
            ((λ j. redefines (xs ++ ((numbers f.params ++ sym body_defines j) ++ ys)) []) ∙ h);
        ops = λ xs ys h.
            (λ j. redefines (xs ++ (map-append (λ (o : Op). o.id.0) x.before (x.mid ++ (new ∷ x.after)) j ++ ys)) [])
            ∙ without xs [] (ids x.before) (x.producer.id.0 ∷ []) (ids (x.mid ++ (new ∷ x.after))) ys
            ((λ j. redefines (xs ++ (sym body_ids j ++ ys)) []) ∙ h);
        small = λ h.
            let parts = and_parts (has_small_signature f) (list_all is_small_op f.body) h in
            λ j. parts.0 j && body_small parts.1 j;
      }

then_shrinks : (f g k : FuncShape) → Shrinks f g → Shrinks g k → Shrinks f k
then_shrinks f g k a b = record {
  values = λ xs ys h. b.values xs ys (a.values xs ys h);
  ops = λ xs ys h. b.ops xs ys (a.ops xs ys h);
  small = λ h. b.small (a.small h);
}

-- ALL
all_shrink : (n : ℕ) (f g : FuncShape) → fuse_from n f ≡ Ok g → Shrinks f g
all_shrink zero f g h = shrinks_none f g (same_ok f g (fuse_from zero f) refl h)
all_shrink (suc n) f g h = by (λ e k. all_shrink n e g k) (first_pair f) refl h where
  by : ((e : FuncShape) → fuse_from n e ≡ Ok g → Shrinks e g) → (o : Option Pair) → first_pair f ≡ o → fuse_next (fuse_from n) f o ≡ Ok g → Shrinks f g
  by again None q k = shrinks_none f g (same_ok f g (fuse_next (fuse_from n) f None) refl k)
  by again (Some x) q k = then_shrinks f (fuse_pair f x) g (pair_shrinks f x q) (again (fuse_pair f x) (goes_on (fuse_from n) f g x k).rest)

pub fused_shrinks : (f g : FuncShape) → fuse_all f ≡ Ok g → Shrinks f g
fused_shrinks f g h = all_shrink (length f.body) f g h
