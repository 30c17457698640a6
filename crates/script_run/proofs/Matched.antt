-- What is matched in a verified module: different targets that stand in it.
use Rattle.std.proofs.Common.{◌≡◌, ℕ, ◌+◌, ◌==◌, ◌≤◌, ◌&&◌, Bool, true, false, List, [], ◌∷◌, ◌++◌, map, length, append_assoc, append-nil, Option, Some, None, refl, ap, sym, subst, ◌∙◌, arith, eq-eqb, lt-ltb}
use Rattle.std.specs.Prelude.{◌||◌, is_some, nat_lt}
use Rattle.std.specs.List.{list_all, flat_map}
use Rattle.std.proofs.lemmas.Bool.{or_parts, ne_eqb}
use Rattle.std.proofs.lemmas.List.{map-append}
use Rattle.std.proofs.lemmas.List.Concat.{flat_map-append}
use Rattle.std.proofs.lemmas.List.Folds.{list_all-append, list_any-append}
use Rattle.affine_maps.specs.Permutation.{is_among}
use Rattle.mlir_ir.specs.Count.{first, find_op, find_in}
use Rattle.mlir_ir.specs.Shape.{FuncShape}
use Rattle.mlir_ir.specs.declared.tree.Module.{Module}
use Rattle.mlir_ir.specs.declared.tree.Op.{Op}
use Rattle.mlir_ir.specs.declared.tree.OpId.{OpId}
use Rattle.mlir_ir.specs.declared.tree.OpKind.{OpKind, For', Forall'}
use Rattle.mlir_meaning.specs.Grids as grids
use Rattle.mlir_verify.specs.Built.{is_built_kind}
use Rattle.mlir_verify.specs.Names.{ids, ids_at, breaks_names, repeats_params}
use Rattle.mlir_verify.specs.Place.{Place, place_at, places_of, places_from, is_first}
use Rattle.mlir_verify.specs.Rules.{broken, IsVerified}
use Rattle.mlir_verify.proofs.Verified.{Each, verified_places, all_pass}
use Rattle.verified_runs.specs.Passes.{FuncPasses}
use Rattle.verified_runs.proofs.Verified.{verified_passes}
use Rattle.transform_handles.specs.Items.{Item, operation, items_inside, items_of, items_from, function_tree, matched, is_listed}
use Rattle.transform_handles.specs.Names.{is_named}
use Rattle.transform_handles.specs.Targets.{is_same, is_one_of}
use Rattle.transform_handles.specs.declared.target.Target.{Target}
use Rattle.transform_handles.specs.declared.target.Target.TheVariants.{Root, Function, Operation}
use Rattle.script_run.specs.Sessions.{stands_in, are_different, are_targets}
use Rattle.script_run.proofs.Named.{different_last, different_picked, all_picked}
use Rattle.script_run.proofs.Bodies.{AreFlat, flat, among_found}

pub none_inside : (kind : OpKind) (around : List Target) → is_built_kind kind ≡ true → items_inside kind around ≡ []
none_inside (For' var lower upper step carried shape row) around b = absurd cc
none_inside (Forall' vars lower upper step shared shape row) around b = absurd cc
none_inside kind around b = refl

abbrev pub the_target : Item → Target
the_target x = x.target

-- the operations of a body
abbrev numbered : List Op → List Target
numbered os = map (λ (o : Op). Operation o.id) os

ops_items : (os : List Op) (around : List Target) → AreFlat os → map the_target (items_of os around) ≡ numbered os
ops_items [] around h = refl
ops_items (o ∷ os) around h =
    (λ j. map the_target ((operation o.id o.kind around ∷ none_inside o.kind (Operation o.id ∷ around) h.0 j) ++ items_of os around))
    ∙ ap (λ (ts : List Target). Operation o.id ∷ ts) (ops_items os around h.1)

-- the functions from number k on, each before its operations
abbrev listed : ℕ → List FuncShape → List Target
listed k [] = []
listed k (f ∷ fs) = (Function k ∷ numbered f.body) ++ listed (k + 1) fs

pub funcs_flat : (fs : List FuncShape) → grids.Each FuncPasses fs → grids.Each (λ (f : FuncShape). AreFlat f.body) fs
funcs_flat [] h = tt
funcs_flat (f ∷ fs) h = (flat f.body f.params f.results (h.0).body, funcs_flat fs h.1)

items_listed : (fs : List FuncShape) (k : ℕ) → grids.Each (λ (f : FuncShape). AreFlat f.body) fs → map the_target (items_from k fs) ≡ listed k fs
items_listed [] k h = refl
items_listed (f ∷ fs) k h =
    map-append the_target (function_tree k f) (items_from (k + 1) fs)
    ∙ (λ j. (Function k ∷ ops_items f.body (Function k ∷ Root ∷ []) h.0 j) ++ items_listed fs (k + 1) h.1 j)

-- WHAT STANDS
module _ (m : Module) where
  ops_stand : (os : List Op) → ((i : OpId) → is_among i.0 (ids os) ≡ true → stands_in m (Operation i) ≡ true) → list_all (stands_in m) (numbered os) ≡ true
  ops_stand [] h = refl
  ops_stand (o ∷ os) h =
      let here = h o.id (λ j. eq-eqb o.id.0 o.id.0 refl j || is_among o.id.0 (ids os)) in
      let rest = ops_stand os (λ i e. h i (or_second (o.id.0 == i.0) (is_among i.0 (ids os)) e)) in
      λ j. here j && rest j
    where
      or_second : (a b : Bool) → b ≡ true → (a || b) ≡ true
      or_second true b e = refl
      or_second false b e = e

  funcs_stand : (fs : List FuncShape) (k : ℕ) → k + length fs ≡ length m.funcs → ((i : OpId) → is_some (find_in i fs) ≡ true → stands_in m (Operation i) ≡ true) → list_all (stands_in m) (listed k fs) ≡ true
  funcs_stand [] k l h = refl
  funcs_stand (f ∷ fs) k l h =
      let here : nat_lt k (length m.funcs) ≡ true = lt-ltb k (length m.funcs) (omega (arith, l)) in
      let ops = ops_stand f.body (λ i e. h i (left (find_op i f.body) (find_in i fs) (among_found i f.body e))) in
      let rest = funcs_stand fs (k + 1) (omega (arith, l)) (λ i e. h i (right (find_op i f.body) (find_in i fs) e)) in
      list_all-append (stands_in m) (Function k ∷ numbered f.body) (listed (k + 1) fs) ∙ (λ j. (here j && ops j) && rest j)
    where
      left : (a b : Option Op) → is_some a ≡ true → is_some (first a b) ≡ true
      left (Some x) b e = refl
      left None b e = absurd cc

      right : (a b : Option Op) → is_some b ≡ true → is_some (first a b) ≡ true
      right (Some x) b e = refl
      right None b e = e

-- WHAT IS DIFFERENT
abbrev Passing : Place → Type 0
Passing p = broken p ≡ None

-- an operation's number isn't that of one before it
number_new : (p : Place) → Passing p → is_among p.op.id.0 (ids_at p.before p.earlier) ≡ false
unfolding breaks_names
number_new p e = (or_parts _ _ (or_parts (is_first p && repeats_params p.before p.func) _ (all_pass p e).0).1).0

-- the targets so far: the operations of these numbers, and functions below k
record SoFar (k : ℕ) (numbers : List ℕ) (ts : List Target) : Type 0 where
  different : are_different ts ≡ true
  operations : (i : OpId) → is_one_of (Operation i) ts ≡ is_among i.0 numbers
  functions : (n : ℕ) → k ≤ n → is_one_of (Function n) ts ≡ false

or_false : (a : Bool) → (a || false) ≡ a
or_false true = refl
or_false false = refl

one_more : (ts : List Target) (t u : Target) → is_one_of u (ts ++ t ∷ []) ≡ (is_one_of u ts || is_one_of u (t ∷ []))
one_more ts t u = list_any-append (λ (w : Target). is_same w u) ts (t ∷ [])

number_last : (n : ℕ) (ns : List ℕ) (k : ℕ) → is_among n (ns ++ k ∷ []) ≡ (is_among n ns || is_among n (k ∷ []))
number_last n ns k = list_any-append (λ (m : ℕ). m == n) ns (k ∷ [])

op_added : (k : ℕ) (ns : List ℕ) (ts : List Target) (i : OpId) → SoFar k ns ts → is_among i.0 ns ≡ false → SoFar k (ns ++ i.0 ∷ []) (ts ++ Operation i ∷ [])
op_added k ns ts i s new = record {
  different = different_last ts (Operation i) s.different (s.operations i ∙ new);
  operations = λ j. one_more ts (Operation i) (Operation j) ∙ (λ q. s.operations j q || is_among j.0 (i.0 ∷ [])) ∙ sym (number_last j.0 ns i.0);
  functions = λ n l. one_more ts (Operation i) (Function n) ∙ (λ q. s.functions n l q || false);
}

function_added : (k : ℕ) (ns : List ℕ) (ts : List Target) → SoFar k ns ts → SoFar (k + 1) ns (ts ++ Function k ∷ [])
function_added k ns ts s = record {
  different = different_last ts (Function k) s.different (s.functions k (omega arith));
  operations = λ j. one_more ts (Function k) (Operation j) ∙ or_false (is_one_of (Operation j) ts) ∙ s.operations j;
  functions = λ n l.
      one_more ts (Function k) (Function n)
      ∙ (λ q. s.functions n (omega (arith, l)) q || (ne_eqb k n (λ e. absurd (omega (arith, e, l))) q || false));
}

module _ (before : List FuncShape) (f : FuncShape) where
  abbrev known : List Op → List ℕ
  known earlier = ids_at before earlier

  earlier_ids : (earlier : List Op) (o : Op) → known (earlier ++ o ∷ []) ≡ known earlier ++ o.id.0 ∷ []
  earlier_ids earlier o =
      ap (λ (ns : List ℕ). flat_map (λ (g : FuncShape). ids g.body) before ++ ns) (map-append (λ (x : Op). x.id.0) earlier (o ∷ []))
      ∙ sym (append_assoc (flat_map (λ (g : FuncShape). ids g.body) before) (ids earlier) (o.id.0 ∷ []))

  ops_added : (os earlier : List Op) (k : ℕ) (ts : List Target) → Each Passing (places_of os earlier before f) → SoFar k (known earlier) ts → SoFar k (known (earlier ++ os)) (ts ++ numbered os)
  ops_added [] earlier k ts h s = subst (λ (us : List Target). SoFar k (known (earlier ++ [])) us) (sym (append-nil ts)) (subst (λ (os : List Op). SoFar k (known os) ts) (sym (append-nil earlier)) s)
  ops_added (o ∷ os) earlier k ts h s =
      let one = op_added k (known earlier) ts o.id s (number_new (place_at before f earlier o os) h.0) in
      let more = ops_added os (earlier ++ o ∷ []) k (ts ++ Operation o.id ∷ []) h.1 (subst (λ (ns : List ℕ). SoFar k ns (ts ++ Operation o.id ∷ [])) (sym (earlier_ids earlier o)) one) in
      subst (λ (us : List Target). SoFar k (known (earlier ++ (o ∷ os))) us) (append_assoc ts (Operation o.id ∷ []) (numbered os))
      (subst (λ (es : List Op). SoFar k (known es) ((ts ++ Operation o.id ∷ []) ++ numbered os)) (append_assoc earlier (o ∷ []) os) more)

each_front : {X : Type 0} (P : X → Type 0) (xs ys : List X) → Each P (xs ++ ys) → Each P xs × Each P ys
each_front P [] ys h = (tt, h)
each_front P (x ∷ xs) ys h = let r = each_front P xs ys h.1 in ((h.0, r.0), r.1)

abbrev all_ids : List FuncShape → List ℕ
all_ids fs = flat_map (λ (f : FuncShape). ids f.body) fs

all_ids_last : (before : List FuncShape) (f : FuncShape) → all_ids before ++ ids f.body ≡ all_ids (before ++ f ∷ [])
all_ids_last before f =
    ap (λ (ns : List ℕ). all_ids before ++ ns) (sym (append-nil (ids f.body))) ∙ sym (flat_map-append (λ (g : FuncShape). ids g.body) before (f ∷ []))

funcs_added : (fs before : List FuncShape) (k : ℕ) (ts : List Target) → Each Passing (places_from fs before) → SoFar k (all_ids before) ts → are_different (ts ++ listed k fs) ≡ true
funcs_added [] before k ts h s = ap are_different (append-nil ts) ∙ s.different
funcs_added (f ∷ fs) before k ts h s =
    let parts = each_front Passing (places_of f.body [] before f) (places_from fs (before ++ f ∷ [])) h in
    let front = ts ++ Function k ∷ [] in
    let start = subst (λ (ns : List ℕ). SoFar (k + 1) ns front) (sym (append-nil (all_ids before))) (function_added k (all_ids before) ts s) in
    let ops = subst (λ (ns : List ℕ). SoFar (k + 1) ns (front ++ numbered f.body)) (all_ids_last before f) (ops_added before f f.body [] (k + 1) front parts.0 start) in
    let rest = funcs_added fs (before ++ f ∷ []) (k + 1) (front ++ numbered f.body) parts.1 ops in
    ap are_different
    (sym (append_assoc ts (Function k ∷ numbered f.body) (listed (k + 1) fs)) ∙ ap (λ (us : List Target). us ++ listed (k + 1) fs) (sym (append_assoc ts (Function k ∷ []) (numbered f.body))))
    ∙ rest

pub matched_targets : (m : Module) (names : List (List ℕ)) (ts : List Target) → IsVerified m → are_targets m (matched names ts m.funcs) ≡ true
unfolding matched
matched_targets m names ts verified =
    let bodies = funcs_flat m.funcs (verified_passes m verified) in
    let test = is_listed (is_named names) (λ t. is_one_of t ts) in
    let all = items_listed m.funcs 0 bodies in
    let stand = ap (list_all (stands_in m)) all ∙ funcs_stand m m.funcs 0 (omega arith) (λ i e. e) in
    let start : SoFar 0 [] [] = record { different = refl; operations = λ i. refl; functions = λ n l. refl } in
    let differ = ap are_different all ∙ funcs_added m.funcs [] 0 [] (verified_places m verified) start in
    λ j. all_picked the_target test (stands_in m) (items_from 0 m.funcs) stand j && different_picked the_target test (items_from 0 m.funcs) differ j
