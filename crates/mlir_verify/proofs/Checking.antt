-- One operation and one body, against the places of the module.
use Rattle.std.proofs.Common.{◌≡◌, ℕ, ◌+◌, ◌<◌, ◌==◌, Bool, true, false, List, [], ◌∷◌, ◌++◌, length, drop, take, get_or, refl, ap, sym, ◌∙◌, subst, Option, Some, None, Result, Ok, Err, append-nil, add-one, arith, inl, inr, length-drop}
use Rattle.std.proofs.lemmas.List.{length-take}
use Rattle.std.specs.Prelude.{◌||◌, ◌&&◌, not, if◌then◌else◌}
use Rattle.mlir_base.specs.declared.memory.Memory.{Memory}
use Rattle.std.proofs.Math.Seq.{take-suc}
use Rattle.std.proofs.lemmas.Bool.Decides.{eqb_tells}
use Rattle.mlir_ir.specs.Shape.{FuncShape}
use Rattle.mlir_ir.specs.Count.{first, operands}
use Rattle.mlir_ir.specs.declared.tree.Op.{Op}
use Rattle.mlir_ir.specs.declared.tree.OpId.{OpId}
use Rattle.mlir_verify.specs.declared.rule.Rule.{Rule}
use Rattle.mlir_verify.specs.declared.rule.Rule.TheVariants.{V1}
use Rattle.mlir_verify.specs.declared.rule.Refused.{Refused}
use Rattle.mlir_verify.specs.declared.rule.Refused.TheVariants as Refusal
use Rattle.std.specs.BTreeSet.{BTreeSet}
use Rattle.std.specs.List.{flat_map, list_all}
use Rattle.std.proofs.lemmas.Bool.{and_parts, and_from}
use Rattle.mlir_verify.specs.declared.scope.Scope.{Scope}
use Rattle.mlir_verify.specs.declared.walk.Seen.{Seen}
use Rattle.mlir_verify.specs.Place.{Place, Types, place_at, places_of, places_from, type_among, type_of, scope_at, is_empty, is_first, is_last}
use Rattle.affine_maps.specs.Permutation.{is_among}
use Rattle.mlir_verify.specs.Names.{redefines, in_scope, breaks_names, breaks_own_names, defined_by, defined_in, defined_at, ids, ids_at, numbers, repeats_params}
use Rattle.mlir_verify.specs.Rules.{broken, stands_at, first_broken, first_broken_of, has_body, IsVerified, AnswersVerify}
use Rattle.mlir_ir.specs.declared.tree.Module.{Module}
use Rattle.mlir_verify.specs.Scope.{types_in, constants_in, IsSet, Adds}
use Rattle.mlir_verify.specs.Constants.{constants_before, constants_at, constants_of}
use Rattle.mlir_verify.specs.Stages.{broken_below}
use Rattle.mlir_verify.specs.Walk.{NamesOp, Stands, IsBefore, ChecksOp, ChecksFunc, ChecksFuncs, EntersFunc}
use Rattle.mlir_verify.proofs.Adding.{set_at}
use Rattle.mlir_verify.proofs.Lowest.{broken-at}
use Rattle.mlir_verify.proofs.Standing.{defined_at-last, defined_in-last, ids-last, ids_at-last, scope_at-last, constants_at-last, type_among-append, first_broken_of-append, first-None}
use Rattle.mlir_verify.proofs.Walks.{opened}

names_decide : (p : Place) → repeats_params p.before p.func ≡ false → breaks_names p ≡ breaks_own_names (type_of p) p.op (defined_at p.before p.func p.earlier) (ids_at p.before p.earlier)
unfolding breaks_names
names_decide p e = by_first (is_first p) where
  own : Bool
  own = breaks_own_names (type_of p) p.op (defined_at p.before p.func p.earlier) (ids_at p.before p.earlier)

  by_first : (b : Bool) → ((b && repeats_params p.before p.func) || breaks_own_names (type_of p) p.op (defined_at p.before p.func p.earlier) (ids_at p.before p.earlier)) ≡ breaks_own_names (type_of p) p.op (defined_at p.before p.func p.earlier) (ids_at p.before p.earlier)
  by_first true = ap (λ c. c || breaks_own_names (type_of p) p.op (defined_at p.before p.func p.earlier) (ids_at p.before p.earlier)) e
  by_first false = refl

-- what taking in the numbers of an operation says, for every list of numbers that the sets have
abbrev pub Named : Bool → Seen → Seen → Scope → Op → Type 0
Named b seen new scope o = (values ops : List ℕ) → IsSet seen.values values → IsSet seen.ops ops → NamesOp (Ok b) new (types_in scope) o values ops

same_types : (seen : Seen) (scope : Scope) (before : List FuncShape) (f : FuncShape) (earlier : List Op) (o : Op) (later : List Op) → Stands seen scope before f earlier →
    types_in scope ≡ type_of (place_at before f earlier o later)
same_types seen scope before f earlier o later s = λ j v. s.types v j

same_constants : (seen : Seen) (scope : Scope) (before : List FuncShape) (f : FuncShape) (earlier : List Op) (o : Op) (later : List Op) → Stands seen scope before f earlier →
    constants_in scope ≡ constants_before (place_at before f earlier o later)
same_constants seen scope before f earlier o later s = λ j v. s.constants v j

pub op_breaks_names : (seen new : Seen) (scope : Scope) (before : List FuncShape) (f : FuncShape) (earlier : List Op) (o : Op) (later : List Op) (b : Bool) →
    Stands seen scope before f earlier → b ≡ false → Named b seen new scope o → broken (place_at before f earlier o later) ≡ Some V1
op_breaks_names seen new scope before f earlier o later false s t n =
    let p : Place = place_at before f earlier o later in
    let h = names_decide p s.params
    ∙ sym (ap (λ (x : Types). breaks_own_names x o (defined_at before f earlier) (ids_at before earlier)) (same_types seen scope before f earlier o later s))
    ∙ n (defined_at before f earlier) (ids_at before earlier) s.values s.ops in
    broken-at p ∙ ap (λ c. if c then Some V1 else broken_below (is_first p) (is_last p) (type_of p) (constants_before p) p.func p.op) h
op_breaks_names seen new scope before f earlier o later true s t n = absurd (let q : true ≡ false = t in cc)

pub op_broken : (seen new : Seen) (scope : Scope) (before : List FuncShape) (f : FuncShape) (earlier : List Op) (o : Op) (later : List Op) (b first_ last_ : Bool) →
    Stands seen scope before f earlier → b ≡ true → Named b seen new scope o → is_empty earlier ≡ first_ → is_empty later ≡ last_ →
    broken (place_at before f earlier o later) ≡ broken_below first_ last_ (types_in scope) (constants_in scope) f o
op_broken seen new scope before f earlier o later true first_ last_ s t n e g =
    let p : Place = place_at before f earlier o later in
    let ty = same_types seen scope before f earlier o later s in
    let h = names_decide p s.params
    ∙ sym (ap (λ (x : Types). breaks_own_names x o (defined_at before f earlier) (ids_at before earlier)) ty)
    ∙ (n (defined_at before f earlier) (ids_at before earlier) s.values s.ops).0 in
    broken-at p ∙ ap (λ c. if c then Some V1 else broken_below (is_first p) (is_last p) (type_of p) (constants_before p) p.func p.op) h
    ∙ (λ j. broken_below (e j) (g j) (type_of p) (constants_before p) f o) ∙ sym (λ j. broken_below first_ last_ (ty j) (same_constants seen scope before f earlier o later s j) f o)
op_broken seen new scope before f earlier o later false first_ last_ s t n e g = absurd (let q : false ≡ true = t in cc)

pub op_stands : (seen new : Seen) (scope after : Scope) (before : List FuncShape) (f : FuncShape) (earlier : List Op) (o : Op) (b : Bool) →
    Stands seen scope before f earlier → b ≡ true → Named b seen new scope o →
    ((v : ℕ) → types_in after v ≡ first (type_among o.results v) (types_in scope v)) →
    ((known : List ℕ) → IsSet scope.constants known → IsSet after.constants (known ++ constants_of o)) → Stands new after before f (earlier ++ o ∷ [])
op_stands seen new scope after before f earlier o true s t n g k =
    let a = n (defined_at before f earlier) (ids_at before earlier) s.values s.ops in
    record {
      values = set_at new.values _ _ (sym (defined_at-last before f earlier o)) a.1;
      ops = set_at new.ops _ _ (sym (ids_at-last before earlier o)) a.2;
      types = λ v. g v ∙ ap (first (type_among o.results v)) (s.types v) ∙ sym (type_among-append (scope_at f earlier) o.results v)
          ∙ ap (λ l. type_among l v) (sym (scope_at-last f earlier o));
      constants = set_at after.constants _ _ (sym (constants_at-last earlier o)) (k (constants_at earlier) s.constants);
      params = s.params;
    }
op_stands seen new scope after before f earlier o false s t n g k = absurd (let q : false ≡ true = t in cc)

-- the places that are left open at the next operation
pub places_open : (os : List Op) (i : ℕ) (o : Op) (before : List FuncShape) (f : FuncShape) → i < length os → o ≡ get_or os i o →
    first_broken_of (places_of (drop i os) (take i os) before f)
    ≡ stands_at o.id (broken (place_at before f (take i os) o (drop (i + 1) os))) (first_broken_of (places_of (drop (i + 1) os) (take i os ++ o ∷ []) before f))
places_open os i o before f h e = ap (λ x. first_broken_of (places_of x (take i os) before f)) (opened os i o h e)

-- the last operation is that with nothing left
pub last_is : (os : List Op) (i : ℕ) → i < length os → is_empty (drop (i + 1) os) ≡ (i + 1 == length os)
last_is os i h = by_rest (drop (i + 1) os) refl where
  by_rest : (ys : List Op) → drop (i + 1) os ≡ ys → is_empty ys ≡ (i + 1 == length os)
  by_rest [] e = elim (eqb_tells (i + 1) (length os)) as (λ _. true ≡ (i + 1 == length os)) [ inl t ↦ sym t.0 | inr t ↦ absurd (t.1 (omega (arith, length-drop (i + 1) os, ap length e))) ]
  by_rest (y ∷ ys) e = elim (eqb_tells (i + 1) (length os)) as (λ _. false ≡ (i + 1 == length os)) [ inl t ↦ absurd (let q = t.1 in omega (arith, length-drop (i + 1) os, ap length e)) | inr t ↦ sym t.0 ]

-- the first operation is that with nothing before
pub first_is : (os : List Op) (i : ℕ) → i < length os → is_empty (take i os) ≡ (i == 0)
first_is os i h = by_front (take i os) refl where
  by_front : (ys : List Op) → take i os ≡ ys → is_empty ys ≡ (i == 0)
  by_front [] e = elim (eqb_tells i 0) as (λ _. true ≡ (i == 0)) [ inl t ↦ sym t.0 | inr t ↦ absurd (t.1 (omega (arith, length-take i os, ap length e))) ]
  by_front (y ∷ ys) e = elim (eqb_tells i 0) as (λ _. false ≡ (i == 0)) [ inl t ↦ absurd (let q = t.1 in omega (arith, length-take i os, ap length e)) | inr t ↦ sym t.0 ]

-- an operation at which a rule fails is the first of its function
pub func_fails : (e : Refused) (seen after : Seen) (scope : Scope) (before : List FuncShape) (f : FuncShape) (earlier : List Op) (o : Op) (later : List Op) (rest : Option (Rule × OpId)) →
    ChecksOp (Err e) seen scope (place_at before f earlier o later) →
    stands_at o.id (broken (place_at before f earlier o later)) rest ≡ first_broken_of (places_of f.body [] before f) → ChecksFunc (Err e) after before f
func_fails (Refusal.Rule r i) seen after scope before f earlier o later rest a g =
    sym g ∙ ap (λ b. stands_at o.id b rest) a.0 ∙ ap (λ (k : OpId). Some (r, k)) (sym a.1)
func_fails Refusal.Memory seen after scope before f earlier o later rest a g = tt

pub enter_fails : (e : Refused) (seen after : Seen) (scope : Scope) (before : List FuncShape) (f : FuncShape) → EntersFunc (Err e) seen scope before f → ChecksFunc (Err e) after before f
enter_fails (Refusal.Rule r i) seen after scope before f a = a
enter_fails Refusal.Memory seen after scope before f a = tt

-- parameters that repeat a number stand at the first operation
pub params_fail : (os : List Op) (o : Op) (before : List FuncShape) (f : FuncShape) → 0 < length os → o ≡ get_or os 0 o → repeats_params before f ≡ true →
    first_broken_of (places_of os [] before f) ≡ Some (V1, o.id)
unfolding breaks_names
params_fail [] o before f h e r = absurd (omega arith)
params_fail (x ∷ os) o before f h e r =
    let p : Place = place_at before f [] x os in
    let b : breaks_names p ≡ true = ap (λ c. c || breaks_own_names (type_of p) x (defined_at before f []) (ids_at before [])) r in
    let k : broken p ≡ Some V1 = broken-at p ∙ ap (λ c. if c then Some V1 else broken_below (is_first p) (is_last p) (type_of p) (constants_before p) p.func p.op) b in
    ap (λ (c : Option Rule). stands_at x.id c (first_broken_of (places_of os ([] ++ x ∷ []) before f))) k ∙ ap (λ (y : Op). Some (V1, y.id)) (sym e)

-- what is known at the start of a function
pub func_stands : (seen : Seen) (scope after : Scope) (before : List FuncShape) (f : FuncShape) (ops : BTreeSet ℕ) → IsSet ops (flat_map (λ (g : FuncShape). ids g.body) before) → seen.ops ≡ ops →
    IsSet seen.values (defined_in before ++ numbers f.params) → repeats_params before f ≡ false →
    ((v : ℕ) → types_in scope v ≡ None) → ((v : ℕ) → types_in after v ≡ first (type_among f.params v) (types_in scope v)) →
    IsSet scope.constants [] → after.constants ≡ scope.constants → Stands seen after before f []
func_stands seen scope after before f ops s o v r n t c e = record {
  values = set_at seen.values _ _ (sym (append-nil (defined_in before ++ numbers f.params))) v;
  ops = set_at seen.ops _ _ (sym (append-nil (flat_map (λ (g : FuncShape). ids g.body) before))) (subst (λ (x : BTreeSet ℕ). IsSet x (flat_map (λ (g : FuncShape). ids g.body) before)) (sym o) s);
  types = λ q. t q ∙ ap (first (type_among f.params q)) (n q) ∙ first-None (type_among f.params q) ∙ ap (λ l. type_among l q) (sym (append-nil f.params));
  constants = subst (λ (x : BTreeSet ℕ). IsSet x []) (sym e) c;
  params = r;
}

-- what is known after a function
pub func_ends : (seen : Seen) (scope : Scope) (before : List FuncShape) (f : FuncShape) (os : List Op) → os ≡ f.body → Stands seen scope before f os → IsBefore seen (before ++ f ∷ [])
func_ends seen scope before f os e s = record {
  values = set_at seen.values _ _ (ap (defined_at before f) e ∙ sym (defined_in-last before f)) s.values;
  ops = set_at seen.ops _ _ (ap (ids_at before) e ∙ sym (ids-last before f)) s.ops;
}

-- the functions that are left open at the next function
pub funcs_open : (fs : List FuncShape) (i : ℕ) (f : FuncShape) → i < length fs → f ≡ get_or fs i f →
    first_broken_of (places_from (drop i fs) (take i fs))
    ≡ first (first_broken_of (places_of f.body [] (take i fs) f)) (first_broken_of (places_from (drop (i + 1) fs) (take i fs ++ f ∷ [])))
funcs_open fs i f h e =
    ap (λ x. first_broken_of (places_from x (take i fs))) (opened fs i f h e)
    ∙ first_broken_of-append (places_of f.body [] (take i fs) f) (places_from (drop (i + 1) fs) (take i fs ++ f ∷ []))

pub funcs_fail : (e : Refused) (seen : Seen) (before : List FuncShape) (f : FuncShape) (rest : Option (Rule × OpId)) (fs : List FuncShape) →
    ChecksFunc (Err e) seen before f → first (first_broken_of (places_of f.body [] before f)) rest ≡ first_broken_of (places_from fs []) → ChecksFuncs (Err e) fs
funcs_fail (Refusal.Rule r i) seen before f rest fs a g = sym g ∙ ap (λ b. first b rest) a
funcs_fail Refusal.Memory seen before f rest fs a g = tt

pub taken : {A : Type 0} (xs : List A) (i : ℕ) (x : A) → i < length xs → x ≡ get_or xs i x → take (i + 1) xs ≡ take i xs ++ x ∷ []
taken xs i x h e = rw add-one (take-suc xs i x h) ∙ ap (λ y. take i xs ++ y ∷ []) (sym e)

or_false : (b c : Bool) → (b || false) ≡ c → b ≡ c
or_false true c e = e
or_false false c e = e

-- a number that redefines alone is among those known, and else it isn't
pub one_repeats : (n : ℕ) (known : List ℕ) (b : Bool) → redefines (n ∷ []) known ≡ b → is_among n known ≡ b
one_repeats n known b e = or_false (is_among n known) b e

-- an operation's numbers: its own is new, and its operands are in scope
pub op_named : (r : Result Bool Memory) (seen : Seen) (t : Types) (o : Op) (values ops : List ℕ) → is_among o.id.0 ops ≡ false → in_scope t (operands o.kind) ≡ true →
    IsSet seen.ops (ops ++ o.id.0 ∷ []) → Adds r seen.values (defined_by o) values → NamesOp r seen t o values ops
op_named (Ok true) seen t o values ops a b s x = ((λ j. a j || (not (b j) || x.0 j)), x.1, s)
op_named (Ok false) seen t o values ops a b s x = λ j. a j || (not (b j) || x j)
op_named (Err e) seen t o values ops a b s x = tt

pub op_named_twice : (t : Types) (o : Op) (values ops : List ℕ) → is_among o.id.0 ops ≡ true → breaks_own_names t o values ops ≡ true
op_named_twice t o values ops a = ap (λ b. b || (not (in_scope t (operands o.kind)) || redefines (defined_by o) values)) a

pub op_out_of_scope : (t : Types) (o : Op) (values ops : List ℕ) → is_among o.id.0 ops ≡ false → in_scope t (operands o.kind) ≡ false → breaks_own_names t o values ops ≡ true
op_out_of_scope t o values ops a b = λ j. a j || (not (b j) || redefines (defined_by o) values)

pub bodies_last : (fs : List FuncShape) (f : FuncShape) → list_all has_body fs ≡ true → has_body f ≡ true → list_all has_body (fs ++ f ∷ []) ≡ true
bodies_last [] f a b = and_from _ _ b refl
bodies_last (g ∷ fs) f a b = let both = and_parts (has_body g) _ a in and_from _ _ both.0 (bodies_last fs f both.1 b)

pub verify_passes : (m : Module) (fs : List FuncShape) → fs ≡ m.funcs → (first_broken_of (places_from fs []) ≡ None) × (list_all has_body fs ≡ true) → IsVerified m
unfolding first_broken
verify_passes m fs e a = (ap (λ x. first_broken_of (places_from x [])) (sym e) ∙ a.0, ap (list_all has_body) (sym e) ∙ a.1)

pub verify_fails : (e : Refused) (m : Module) (fs : List FuncShape) → fs ≡ m.funcs → ChecksFuncs (Err e) fs → AnswersVerify m (Err e)
unfolding first_broken
verify_fails (Refusal.Rule r i) m fs e a = ap (λ x. first_broken_of (places_from x [])) (sym e) ∙ a
verify_fails Refusal.Memory m fs e a = tt
