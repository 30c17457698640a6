-- What fusing in functions leaves of a verified module.
use Rattle.std.proofs.Common.{◌≡◌, ℕ, zero, suc, ◌==◌, ◌+◌, ◌<◌, ◌&&◌, Bool, true, false, cond, not, List, [], ◌∷◌, ◌++◌, map, length, Option, Some, None, Result, Ok, Err, refl, ap, sym, subst, ◌∙◌, arith, eq-eqb, eqb-true, ltb-true}
use Rattle.std.specs.Prelude.{◌||◌, is_some, filter, nat_lt, slice_get, if◌then◌else◌}
use Rattle.std.specs.List.{list_all, list_any}
use Rattle.std.proofs.lemmas.Bool.{and_parts, or_parts, ne_eqb, eqb-false}
use Rattle.std.proofs.lemmas.Option.{same_Some, none-some}
use Rattle.std.proofs.lemmas.List.Folds.{list_any-append}
use Rattle.mlir_base.specs.declared.limit.Which.{Which}
use Rattle.mlir_ir.specs.Count.{first, find_op, find_in}
use Rattle.mlir_ir.specs.Shape.{FuncShape}
use Rattle.mlir_ir.specs.declared.tree.Module.{Module}
use Rattle.mlir_ir.specs.declared.tree.Op.{Op}
use Rattle.mlir_ir.specs.declared.tree.OpId.{OpId}
use Rattle.mlir_ir.specs.declared.tree.OpKind.{OpKind}
use Rattle.mlir_meaning.specs.Grids.{Each}
use Rattle.mlir_verify.specs.Rules.{IsVerified}
use Rattle.verified_runs.proofs.Verified.{verified_passes}
use Rattle.pair_laws.specs.FuseAll.{fuse_all, Stop, MayTrap, LargeNumber}
use Rattle.fuse_elementwise.specs.Fused.{with_func, formed_by, fused_at, fused_in}
use Rattle.fuse_elementwise.proofs.Formed.{fused_verifies}
use Rattle.rewrite_base.specs.declared.error.StepError.{StepError}
use Rattle.rewrite_base.specs.Limits.{limit_of}
use Rattle.transform_handles.specs.Items.{Item, operation, items_inside, items_of, items_from, function, picked, is_listed, inside}
use Rattle.transform_handles.specs.Targets.{is_same, is_one_of}
use Rattle.transform_handles.specs.declared.target.Target.{Target}
use Rattle.transform_handles.specs.declared.target.Target.TheVariants.{Root, Function, Operation}
use Rattle.script_run.specs.Outcomes.{and_then}
use Rattle.script_run.specs.Sessions.{stands_in, are_different, are_targets}
use Rattle.script_run.specs.Steps.{TargetStep, within, fused_as, fuse_at, behind, at_each}
use Rattle.script_run.specs.Transforms.{function_stands}
use Rattle.script_run.proofs.Bodies.{AreFlat, nothing_inside}
use Rattle.script_run.proofs.Kept.{IsKept, Gave, same_ok}
use Rattle.script_run.proofs.Matched.{the_target, none_inside, funcs_flat}
use Rattle.script_run.proofs.Named.{some_of, not_true, same_sym}

-- WHAT A STEP LEAVES
module _ (Q : Module → Type 0) where
  -- the second module verifies and keeps Q; what is no target and stands inside none stands in it, and so do the targets that are given, which are different
  pub record Leaves (m n : Module) (ts all : List Target) : Type 0 where
    pub verified : IsVerified n
    pub others : (t : Target) → stands_in m t ≡ true → is_one_of t (ts ++ inside ts m.funcs) ≡ false → stands_in n t ≡ true
    pub stand : list_all (stands_in n) all ≡ true
    pub different : are_different all ≡ true
    pub kept : Q m → Q n

  -- what a step owes
  abbrev pub Stays : TargetStep → Type 0
  Stays step = (ts : List Target) (m n : Module) (all : List Target) → IsVerified m → are_targets m ts ≡ true → at_each step ts m ≡ Ok (n, all) → Leaves m n ts all

  pub gave_leaves : (m n : Module) (ts all : List Target) → Gave Q m n ts all → Leaves m n ts all
  gave_leaves m n ts all g = record {
    verified = g.verified;
    others = λ t s d. g.others t s (or_parts (is_one_of t ts) (is_one_of t (inside ts m.funcs)) (sym (list_any-append (λ (u : Target). is_same u t) ts (inside ts m.funcs)) ∙ d)).0;
    stand = g.stand;
    different = g.different;
    kept = g.kept;
  }

-- INSIDE FUNCTIONS
module _ (p : Item → Bool) (t : Target) where
  picked_parts : (xs ys : List Item) → is_one_of t (picked p (xs ++ ys)) ≡ false → (is_one_of t (picked p xs) ≡ false) × (is_one_of t (picked p ys) ≡ false)
  picked_parts [] ys e = (refl, e)
  picked_parts (x ∷ xs) ys e = by_test (p x) refl (picked_parts xs ys) where
    by_test : (b : Bool) → p x ≡ b → (is_one_of t (picked p (xs ++ ys)) ≡ false → (is_one_of t (picked p xs) ≡ false) × (is_one_of t (picked p ys) ≡ false)) →
        (is_one_of t (picked p (x ∷ xs)) ≡ false) × (is_one_of t (picked p ys) ≡ false)
    by_test true q rest =
        let both = or_parts (is_same x.target t) (is_one_of t (picked p (xs ++ ys))) (sym (λ j. is_one_of t (map the_target (cond (q j) (x ∷ filter p (xs ++ ys)) (filter p (xs ++ ys))))) ∙ e) in
        let more = rest both.1 in
        ((λ j. is_one_of t (map the_target (cond (q j) (x ∷ filter p xs) (filter p xs)))) ∙ (λ j. both.0 j || more.0 j), more.1)
    by_test false q rest =
        let more = rest (sym (λ j. is_one_of t (map the_target (cond (q j) (x ∷ filter p (xs ++ ys)) (filter p (xs ++ ys))))) ∙ e) in
        ((λ j. is_one_of t (map the_target (cond (q j) (x ∷ filter p xs) (filter p xs)))) ∙ more.0, more.1)

-- an operation that isn't picked from a body isn't found there
not_picked : (p : Item → Bool) (i : OpId) (around : List Target) → ((j : OpId) (kind : OpKind) → p (operation j kind around) ≡ true) → (os : List Op) → AreFlat os →
    is_one_of (Operation i) (picked p (items_of os around)) ≡ false → is_some (find_op i os) ≡ false
not_picked p i around all [] flat e = refl
not_picked p i around all (o ∷ os) flat e =
    let x = operation o.id o.kind around in
    let one = sym (λ j. is_one_of (Operation i) (picked p ((x ∷ none_inside o.kind (Operation o.id ∷ around) flat.0 j) ++ items_of os around))) ∙ e in
    let both = or_parts (o.id.0 == i.0) (is_one_of (Operation i) (picked p (items_of os around)))
    (sym (λ j. is_one_of (Operation i) (map the_target (cond (all o.id o.kind j) (x ∷ filter p (items_of os around)) (filter p (items_of os around))))) ∙ one) in
    (λ j. is_some (if both.0 j then Some o else first (nothing_inside i o.kind flat.0 j) (find_op i os))) ∙ not_picked p i around all os flat.1 both.1

-- nor in a function that is a target
inside_free : (ts : List Target) (i : OpId) (fs : List FuncShape) (base k n : ℕ) (f : FuncShape) → Each (λ (g : FuncShape). AreFlat g.body) fs → slice_get fs k ≡ Some f → n ≡ base + k →
    is_one_of (Function n) ts ≡ true → is_one_of (Operation i) (picked (is_listed (λ _. true) (λ t. is_one_of t ts)) (items_from base fs)) ≡ false → is_some (find_op i f.body) ≡ false
inside_free ts i [] base zero n f flat e s h q = absurd (none-some f e)
inside_free ts i [] base (suc k) n f flat e s h q = absurd (none-some f e)
inside_free ts i (g ∷ fs) base zero n f flat e s h q =
    let p = is_listed (λ _. true) (λ t. is_one_of t ts) in
    let around = Function base ∷ Root ∷ [] in
    let first_one = (picked_parts p (Operation i) (function base ∷ items_of g.body around) (items_from (base + 1) fs) q).0 in
    let body = (picked_parts p (Operation i) (function base ∷ []) (items_of g.body around) first_one).1 in
    let same : n ≡ base = omega (arith, s) in
    let here : is_one_of (Function base) ts ≡ true = sym (λ j. is_one_of (Function (same j)) ts) ∙ h in
    ap (λ (x : FuncShape). is_some (find_op i x.body)) (sym (same_Some g f e))
    ∙ not_picked p i around (λ j kind. λ a. (here a || (is_one_of Root ts || false)) && true) g.body flat.0 body
inside_free ts i (g ∷ fs) base (suc k) n f flat e s h q =
    let p = is_listed (λ _. true) (λ t. is_one_of t ts) in
    inside_free ts i fs (base + 1) k n f flat.1 e (omega (arith, s)) h (picked_parts p (Operation i) (function base ∷ items_of g.body (Function base ∷ Root ∷ [])) (items_from (base + 1) fs) q).1

-- ONE FUNCTION
put_count : (k : ℕ) (g : FuncShape) (fs : List FuncShape) → length (with_func k g fs) ≡ length fs
put_count k g [] = refl
put_count zero g (f ∷ fs) = refl
put_count (suc k) g (f ∷ fs) = ap suc (put_count k g fs)

put_other : (k j : ℕ) (g : FuncShape) (fs : List FuncShape) → (k == j) ≡ false → slice_get (with_func k g fs) j ≡ slice_get fs j
put_other k j g [] d = refl
put_other zero zero g (f ∷ fs) d = absurd cc
put_other zero (suc j) g (f ∷ fs) d = refl
put_other (suc k) zero g (f ∷ fs) d = refl
put_other (suc k) (suc j) g (f ∷ fs) d = put_other k j g fs (ne_eqb k j (λ e. eqb-false (suc k) (suc j) d (ap suc e)))

-- what doesn't stand in the function stands in another
stands_elsewhere : (i : OpId) (k : ℕ) (f g : FuncShape) (fs : List FuncShape) → slice_get fs k ≡ Some f → is_some (find_op i f.body) ≡ false → is_some (find_in i fs) ≡ true →
    is_some (find_in i (with_func k g fs)) ≡ true
stands_elsewhere i k f g [] e d s = absurd cc
stands_elsewhere i zero f g (h ∷ fs) e d s = by_new (find_op i g.body) (by_old (find_op i h.body) refl) where
  by_old : (x : Option Op) → find_op i h.body ≡ x → is_some (find_in i fs) ≡ true
  by_old None q = sym (λ j. is_some (first (q j) (find_in i fs))) ∙ s
  by_old (Some o) q = absurd (let z : true ≡ false = sym (λ j. is_some (q j)) ∙ ap (λ (x : FuncShape). is_some (find_op i x.body)) (same_Some h f e) ∙ d in cc)

  by_new : (x : Option Op) → is_some (find_in i fs) ≡ true → is_some (first x (find_in i fs)) ≡ true
  by_new None r = r
  by_new (Some o) r = refl
stands_elsewhere i (suc k) f g (h ∷ fs) e d s = by_here (find_op i h.body) refl (stands_elsewhere i k f g fs e d) where
  by_here : (x : Option Op) → find_op i h.body ≡ x → (is_some (find_in i fs) ≡ true → is_some (find_in i (with_func k g fs)) ≡ true) → is_some (find_in i (with_func (suc k) g (h ∷ fs))) ≡ true
  by_here None q rest = (λ j. is_some (first (q j) (find_in i (with_func k g fs)))) ∙ rest (sym (λ j. is_some (first (q j) (find_in i fs))) ∙ s)
  by_here (Some o) q rest = λ j. is_some (first (q j) (find_in i (with_func k g fs)))

-- THE STEP AT A FUNCTION
pub record IsFused (k : ℕ) (m n : Module) (given : List Target) : Type 0 where
  pub formed : fused_in k m ≡ Ok n
  pub limit : limit_of m n ≡ None
  pub given_is : given ≡ Function k ∷ []

within_ok : (k : ℕ) (m formed n : Module) (given : List Target) (l : Option Which) → fused_in k m ≡ Ok formed → limit_of m formed ≡ l → within l formed (Function k ∷ []) ≡ Ok (n, given) → IsFused k m n given
within_ok k m formed n given (Some which) f d e = absurd cc
within_ok k m formed n given None f d e =
    let same = same_ok (formed, Function k ∷ []) (n, given) e in
    subst (λ (x : Module × List Target). IsFused k m x.0 x.1) same (record { formed = f; limit = d; given_is = refl })

is_fused_as : (k : ℕ) (m n : Module) (given : List Target) (r : Result Module Stop) → fused_in k m ≡ r → fused_as k m r ≡ Ok (n, given) → IsFused k m n given
is_fused_as k m n given (Ok formed) d e = within_ok k m formed n given (limit_of m formed) d refl e
is_fused_as k m n given (Err (MayTrap i)) d e = absurd cc
is_fused_as k m n given (Err LargeNumber) d e = absurd cc

pub is_fused : (k : ℕ) (m n : Module) (given : List Target) → fuse_at (Function k) m ≡ Ok (n, given) → IsFused k m n given
is_fused k m n given e = is_fused_as k m n given (fused_in k m) refl e

-- the function that was put in its place
record IsPut (k : ℕ) (m n : Module) : Type 0 where
  pub old : FuncShape
  pub new : FuncShape
  pub there : slice_get m.funcs k ≡ Some old
  pub put : n.funcs ≡ with_func k new m.funcs

abbrev module_or : Module → Result Module Stop → Module
module_or d (Ok z) = z
module_or d (Err z) = d

pub ok_module : (a b : Module) → ◌≡◌ {A = Result Module Stop} (Ok a) (Ok b) → a ≡ b
ok_module a b e = ap (module_or a) e

there_is : (fs : List FuncShape) (k : ℕ) → k < length fs → (f : FuncShape) × (slice_get fs k ≡ Some f)
there_is [] k l = absurd (omega (arith, l))
there_is (f ∷ fs) zero l = (f, refl)
there_is (f ∷ fs) (suc k) l = there_is fs k (omega (arith, l))

is_put : (k : ℕ) (m n : Module) → nat_lt k (length m.funcs) ≡ true → fused_in k m ≡ Ok n → IsPut k m n
is_put k m n l e = by_func (there_is m.funcs k (ltb-true k (length m.funcs) l)) where
  by_form : (f : FuncShape) → slice_get m.funcs k ≡ Some f → (r : Result FuncShape Stop) → fuse_all f ≡ r → formed_by k m r ≡ Ok n → IsPut k m n
  by_form f t (Err x) d h = absurd cc
  by_form f t (Ok g) d h = record { old = f; new = g; there = t; put = ap (λ (x : Module). x.funcs) (sym (ok_module (record { funcs = with_func k g m.funcs }) n h)) }

  by_func : (f : FuncShape) × (slice_get m.funcs k ≡ Some f) → IsPut k m n
  by_func x = by_form x.0 x.1 (fuse_all x.0) refl (sym (λ j. fused_at k m (x.1 j)) ∙ e)

pub count_stays : (k : ℕ) (m n : Module) → nat_lt k (length m.funcs) ≡ true → fused_in k m ≡ Ok n → length n.funcs ≡ length m.funcs
count_stays k m n l e = let p = is_put k m n l e in ap length p.put ∙ put_count k p.new m.funcs

-- AT EACH FUNCTION
-- the operation stands in none of the functions among targets
abbrev Apart : OpId → List Target → List FuncShape → Type 0
Apart i ts fs = (k : ℕ) (f : FuncShape) → is_one_of (Function k) ts ≡ true → slice_get fs k ≡ Some f → is_some (find_op i f.body) ≡ false

abbrev is_function : Target → Bool
is_function Root = false
is_function (Function k) = true
is_function (Operation i) = false

either_one : (a b : Bool) → (a || b) ≡ true → (a ≡ false → b ≡ true)
either_one true b e = λ d. absurd (let z : true ≡ false = d in cc)
either_one false b e = λ d. e

apart_there : (t u : Target) (ts : List Target) → is_one_of t ts ≡ false → is_one_of u ts ≡ true → is_same t u ≡ false
apart_there t u ts a b = by_test (is_same t u) refl where
  moved : (k : ℕ) (n : ℕ) → (k == n) ≡ true → is_one_of (Function n) ts ≡ is_one_of (Function k) ts
  moved k n e = ap (λ (x : ℕ). is_one_of (Function x) ts) (sym (eqb-true k n e))

  by_kind : (t u : Target) → is_same t u ≡ true → is_one_of t ts ≡ false → is_one_of u ts ≡ true → is_same t u ≡ false
  by_kind Root Root e x y = absurd (let z : true ≡ false = sym y ∙ x in cc)
  by_kind Root (Function n) e x y = refl
  by_kind Root (Operation j) e x y = refl
  by_kind (Function k) Root e x y = refl
  by_kind (Function k) (Function n) e x y = absurd (let z : true ≡ false = sym y ∙ moved k n e ∙ x in cc)
  by_kind (Function k) (Operation j) e x y = refl
  by_kind (Operation i) Root e x y = refl
  by_kind (Operation i) (Function n) e x y = refl
  by_kind (Operation i) (Operation j) e x y =
      absurd (let z : true ≡ false = sym y ∙ ap (λ (x : ℕ). is_one_of (Operation (record { 0 = x })) ts) (sym (eqb-true i.0 j.0 e)) ∙ x in cc)

  by_test : (b : Bool) → is_same t u ≡ b → is_same t u ≡ false
  by_test false e = e
  by_test true e = by_kind t u e a b

pub still_stand : (m o : Module) (ts : List Target) → length o.funcs ≡ length m.funcs → list_all (function_stands m) ts ≡ true → list_all (function_stands o) ts ≡ true
still_stand m o [] l s = refl
still_stand m o (Root ∷ ts) l s = still_stand m o ts l s
still_stand m o (Operation i ∷ ts) l s = still_stand m o ts l s
still_stand m o (Function k ∷ ts) l s =
    let parts = and_parts (nat_lt k (length m.funcs)) (list_all (function_stands m) ts) s in
    λ j. (ap (nat_lt k) l ∙ parts.0) j && still_stand m o ts l parts.1 j

pub ranged : (m : Module) (ts : List Target) → list_all (stands_in m) ts ≡ true → list_all (function_stands m) ts ≡ true
ranged m [] s = refl
ranged m (Root ∷ ts) s = ranged m ts s
ranged m (Function k ∷ ts) s = let parts = and_parts (nat_lt k (length m.funcs)) (list_all (stands_in m) ts) s in λ j. parts.0 j && ranged m ts parts.1 j
ranged m (Operation i ∷ ts) s = ranged m ts (and_parts (is_some (find_in i m.funcs)) (list_all (stands_in m) ts) s).1

module _ (Q : Module → Type 0) (kept : IsKept Q) where
  record FusesAll (m n : Module) (ts all : List Target) : Type 0 where
    pub verified : IsVerified n
    pub given : all ≡ ts
    pub functions : list_all is_function ts ≡ true
    pub count : length n.funcs ≡ length m.funcs
    pub others : (i : OpId) → stands_in m (Operation i) ≡ true → Apart i ts m.funcs → stands_in n (Operation i) ≡ true
    pub keeps : Q m → Q n

  fused_first : (k : ℕ) (ts : List Target) (m o n : Module) (all : List Target) → IsVerified m → nat_lt k (length m.funcs) ≡ true → is_one_of (Function k) ts ≡ false → fused_in k m ≡ Ok o → limit_of m o ≡ None →
      FusesAll o n ts all → FusesAll m n (Function k ∷ ts) (Function k ∷ all)
  fused_first k ts m o n all verified l alone f limit rest =
      let p = is_put k m o l f in
      record {
        verified = rest.verified;
        given = ap (λ (us : List Target). Function k ∷ us) rest.given;
        functions = rest.functions;
        count = rest.count ∙ count_stays k m o l f;
        others = λ i s apart.
            let free = apart k p.old (λ j. eq-eqb k k refl j || is_one_of (Function k) ts) p.there in
            let here : stands_in o (Operation i) ≡ true = ap (λ (fs : List FuncShape). is_some (find_in i fs)) p.put ∙ stands_elsewhere i k p.old p.new m.funcs p.there free s in
            rest.others i here (λ n g a t.
            let differ : (k == n) ≡ false = apart_there (Function k) (Function n) ts alone a in
            apart n g (with_rest (k == n) (is_one_of (Function n) ts) a) (sym (put_other k n p.new m.funcs differ) ∙ ap (λ (fs : List FuncShape). slice_get fs n) (sym p.put) ∙ t));
        keeps = λ q. rest.keeps (kept.fuse m o k verified q f limit);
      }
    where
      with_rest : (a b : Bool) → b ≡ true → (a || b) ≡ true
      with_rest true b h = refl
      with_rest false b h = h

  functions_stand : (m o : Module) (ts : List Target) → length o.funcs ≡ length m.funcs → list_all (stands_in m) ts ≡ true → list_all is_function ts ≡ true → list_all (stands_in o) ts ≡ true
  functions_stand m o [] l s h = refl
  functions_stand m o (Root ∷ ts) l s h = absurd cc
  functions_stand m o (Operation i ∷ ts) l s h = absurd cc
  functions_stand m o (Function k ∷ ts) l s h =
      let parts = and_parts (nat_lt k (length m.funcs)) (list_all (stands_in m) ts) s in
      λ j. (ap (nat_lt k) l ∙ parts.0) j && functions_stand m o ts l parts.1 h j

  fuses_all : (ts : List Target) (m n : Module) (all : List Target) → IsVerified m → list_all (function_stands m) ts ≡ true → are_different ts ≡ true → at_each fuse_at ts m ≡ Ok (n, all) → FusesAll m n ts all
  fuses_all [] m n all verified s d e =
      subst (λ (x : Module × List Target). FusesAll m x.0 [] x.1) (same_ok (m, []) (n, all) e)
      (record { verified = verified; given = refl; functions = refl; count = refl; others = λ i s apart. s; keeps = λ q. q })
  fuses_all (Root ∷ ts) m n all verified s d e = absurd cc
  fuses_all (Operation i ∷ ts) m n all verified s d e = absurd cc
  fuses_all (Function k ∷ ts) m n all verified s d e = by_first (λ o v r. fuses_all ts o v r) (fuse_at (Function k) m) refl e where
    parts : (nat_lt k (length m.funcs) ≡ true) × (list_all (function_stands m) ts ≡ true)
    parts = and_parts (nat_lt k (length m.funcs)) (list_all (function_stands m) ts) s

    differ : (not (is_one_of (Function k) ts) ≡ true) × (are_different ts ≡ true)
    differ = and_parts (not (is_one_of (Function k) ts)) (are_different ts) d

    Again : Type 0
    Again = (o n : Module) (all : List Target) → IsVerified o → list_all (function_stands o) ts ≡ true → are_different ts ≡ true → at_each fuse_at ts o ≡ Ok (n, all) → FusesAll o n ts all

    by_rest : Again → (o : Module) (given : List Target) → IsFused k m o given → (q : Result (Module × List Target) StepError) → at_each fuse_at ts o ≡ q → behind given q ≡ Ok (n, all) →
        FusesAll m n (Function k ∷ ts) all
    by_rest again o given f (Err x) h g = absurd cc
    by_rest again o given f (Ok q) h g =
        let one = fused_verifies k m o verified f.formed in
        let more = again o q.0 q.1 one (still_stand m o ts (count_stays k m o parts.0 f.formed) parts.1) differ.1 h in
        subst (λ (x : Module × List Target). FusesAll m x.0 (Function k ∷ ts) x.1)
        (ap (λ (us : List Target). (q.0, us ++ q.1)) (sym f.given_is) ∙ same_ok (q.0, given ++ q.1) (n, all) g)
        (fused_first k ts m o q.0 q.1 verified parts.0 (not_true (is_one_of (Function k) ts) differ.0) f.formed f.limit more)

    by_first : Again → (r : Result (Module × List Target) StepError) → fuse_at (Function k) m ≡ r → and_then r (λ q. behind q.1 (at_each fuse_at ts q.0)) ≡ Ok (n, all) → FusesAll m n (Function k ∷ ts) all
    by_first again (Err x) h g = absurd cc
    by_first again (Ok q) h g = by_rest again q.0 q.1 (is_fused k m q.0 q.1 h) (at_each fuse_at ts q.0) refl g

  -- a step on functions
  pub fuses_leave : Stays Q fuse_at
  unfolding inside
  fuses_leave ts m n all verified a e =
      let both = and_parts (list_all (stands_in m) ts) (are_different ts) a in
      let f = fuses_all ts m n all verified (ranged m ts both.0) both.1 e in
      record {
        verified = f.verified;
        others = λ t s d. still m n ts f verified t s (or_parts (is_one_of t ts) (is_one_of t (inside ts m.funcs)) (sym (list_any-append (λ (u : Target). is_same u t) ts (inside ts m.funcs)) ∙ d)).1;
        stand = ap (list_all (stands_in n)) f.given ∙ functions_stand m n ts f.count both.0 f.functions;
        different = ap are_different f.given ∙ both.1;
        kept = f.keeps;
      }
    where
      still : (m n : Module) (ts : List Target) → FusesAll m n ts all → IsVerified m → (t : Target) → stands_in m t ≡ true → is_one_of t (inside ts m.funcs) ≡ false → stands_in n t ≡ true
      still m n ts f verified Root s d = refl
      still m n ts f verified (Function k) s d = ap (nat_lt k) f.count ∙ s
      still m n ts f verified (Operation i) s d = f.others i s (λ k g h t. inside_free ts i m.funcs 0 k k g (funcs_flat m.funcs (verified_passes m verified)) t (omega arith) h d)
