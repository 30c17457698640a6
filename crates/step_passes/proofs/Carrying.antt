-- Exchanges as the code makes them: what is left of them, operation by operation.
use Rattle.std.proofs.Common.{◌≡◌, ℕ, ◌==◌, ◌+◌, Bool, true, false, List, [], ◌∷◌, ◌++◌, length, Option, Some, None, refl, ap, sym, subst, ◌∙◌, append_assoc, append-nil}
use Rattle.std.specs.Prelude.{if◌then◌else◌}
use Rattle.std.proofs.lemmas.List.{length-append, map-append}
use Rattle.std.proofs.lemmas.List.Concat.{flat_map-append}
use Rattle.affine_maps.specs.Permutation.{is_among}
use Rattle.mlir_ir.specs.Count.{first}
use Rattle.mlir_ir.specs.Shape.{FuncShape}
use Rattle.mlir_ir.specs.declared.tree.Op.{Op}
use Rattle.mlir_verify.specs.Names.{redefines, ids}
use Rattle.verified_runs.proofs.ReusedBodies.{or_false}
use Rattle.step_results.proofs.Numbers.{among_parts, own_parts}
use Rattle.step_passes.specs.declared.exchange.Exchange.{Exchange}
use Rattle.step_passes.specs.declared.pending.Pending as code
use Rattle.step_passes.specs.OnePass.{exchange_of, Names, put, put_by, passed_ops, passed_func}
use Rattle.step_passes.specs.Pending.{pending_at, AreLeft, all_ids, PassesFunc}
use Rattle.step_passes.proofs.Walking.{names_after, passed_append}

pub none_left : {X : Type 0} → (xs : List X) → length xs ≡ 0 → xs ≡ []
none_left [] h = refl
none_left (x ∷ xs) h = absurd cc

pub one_longer : {X Y : Type 0} → (xs : List X) (ys : List Y) (x : X) (y : Y) → length xs ≡ length ys → length (xs ++ x ∷ []) ≡ length (ys ++ y ∷ [])
one_longer xs ys x y h = length-append xs (x ∷ []) ∙ ap (λ n. n + 1) h ∙ sym (length-append ys (y ∷ []))

-- one that stands last, by what is behind it
pub last_added : (xs : List Exchange) (x : Exchange) (i : ℕ) (e : Option Exchange) → first (exchange_of (xs ++ x ∷ []) i) e ≡ first (exchange_of xs i) (if x.target.0 == i then Some x else e)
last_added [] x i e = by_test (x.target.0 == i) where
  by_test : (b : Bool) → first (if b then Some x else None) e ≡ (if b then Some x else e)
  by_test true = refl
  by_test false = refl
last_added (y ∷ xs) x i e = by_test (y.target.0 == i) (last_added xs x i e) where
  by_test : (b : Bool) → first (exchange_of (xs ++ x ∷ []) i) e ≡ first (exchange_of xs i) (if x.target.0 == i then Some x else e) →
      first (if b then Some y else exchange_of (xs ++ x ∷ []) i) e ≡ first (if b then Some y else exchange_of xs i) (if x.target.0 == i then Some x else e)
  by_test true rest = refl
  by_test false rest = rest

names_more : (xs : List Exchange) (g : Names) (os : List Op) (o : Op) → names_after xs g (os ++ o ∷ []) ≡ (put_by xs (names_after xs g os) o).1
names_more xs g [] o = refl
names_more xs g (p ∷ os) o = names_more xs (put_by xs g p).1 os o

-- one operation more has stood
pub one_less : (xs : List Exchange) (gone : List ℕ) (i : ℕ) (p q : code.Pending) → AreLeft xs gone p → ((k : ℕ) → pending_at q k ≡ (if i == k then None else pending_at p k)) →
    AreLeft xs (gone ++ i ∷ []) q
one_less xs gone i p q h step k a =
    let parts = among_parts k gone (i ∷ []) a in
    step k ∙ (λ j. if (or_false (i == k) false parts.1).0 j then None else pending_at p k) ∙ h k parts.0

-- an operation of a body
pub record Walked (xs : List Exchange) (gone : List ℕ) (os new : List Op) (g : Names) (p : code.Pending) : Type 0 where
  pub ops : new ≡ passed_ops xs (λ n. n) os
  pub names : g ≡ names_after xs (λ n. n) os
  pub left : AreLeft xs (gone ++ ids os) p

pub walked_first : (xs : List Exchange) (gone : List ℕ) (g : Names) (p : code.Pending) → ((w : ℕ) → g w ≡ w) → AreLeft xs gone p → Walked xs gone [] [] g p
walked_first xs gone g p own h = record {
  ops = refl;
  names = λ j w. own w j;
  left = subst (λ (ns : List ℕ). AreLeft xs ns p) (sym (append-nil gone)) h;
}

pub walked_more : (xs : List Exchange) (gone : List ℕ) (os back new : List Op) (o put_op : Op) (g h : Names) (p q : code.Pending) →
    redefines (ids (os ++ (o ∷ back))) gone ≡ false → Walked xs gone os new g p → (put_op ≡ (put (pending_at p o.id.0) g o o.results).0) × (h ≡ (put (pending_at p o.id.0) g o o.results).1) →
    ((k : ℕ) → pending_at q k ≡ (if o.id.0 == k then None else pending_at p k)) → Walked xs gone (os ++ o ∷ []) (new ++ put_op ∷ []) h q
walked_more xs gone os back new o put_op g h p q own w puts step = record {
  ops =
      (λ j. w.ops j ++ (puts.0 ∙ ap (λ (r : Op × Names). r.0) same) j ∷ [])
      ∙ sym (passed_append xs (λ n. n) os (o ∷ []));
  names = puts.1 ∙ ap (λ (r : Op × Names). r.1) same ∙ sym (names_more xs (λ n. n) os o);
  left = subst (λ (ns : List ℕ). AreLeft xs ns q) (append_assoc gone (ids os) (o.id.0 ∷ []) ∙ ap (λ ns. gone ++ ns) (sym (map-append (λ (o : Op). o.id.0) os (o ∷ []))))
      (one_less xs (gone ++ ids os) o.id.0 p q w.left step);
} where
  new_number : is_among o.id.0 (gone ++ ids os) ≡ false
  new_number =
      (or_false (is_among o.id.0 (gone ++ ids os)) (redefines (ids back) ((gone ++ ids os) ++ o.id.0 ∷ []))
      (own_parts (ids os) (ids (o ∷ back)) gone (ap (λ ns. redefines ns gone) (sym (map-append (λ (o : Op). o.id.0) os (o ∷ back))) ∙ own)).1).0

  same : put (pending_at p o.id.0) g o o.results ≡ put_by xs (names_after xs (λ n. n) os) o
  same = (λ j. put (w.left o.id.0 new_number j) (w.names j) o o.results)

-- one function more has been passed
pub passed_more : (xs : List Exchange) (before back : List FuncShape) (f new : FuncShape) (p q : code.Pending) →
    redefines (all_ids (before ++ (f ∷ back))) [] ≡ false → AreLeft xs (all_ids before) p → PassesFunc p f q new →
    (new ≡ passed_func xs f) × AreLeft xs (all_ids (before ++ f ∷ [])) q
passed_more xs before back f new p q own left passes =
    let of : FuncShape → List ℕ = λ f. ids f.body in
    let parts = own_parts (all_ids before) (all_ids (f ∷ back)) [] (ap (λ ns. redefines ns []) (sym (flat_map-append of before (f ∷ back))) ∙ own) in
    let here = own_parts (ids f.body) (all_ids back) (all_ids before) parts.1 in
    let done = passes xs (all_ids before) here.0 left in (
      done.0,
      subst (λ (ns : List ℕ). AreLeft xs ns q)
          (ap (λ ns. all_ids before ++ ns) (sym (append-nil (ids f.body))) ∙ sym (flat_map-append of before (f ∷ []))) done.1,
    )
