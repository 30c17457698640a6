-- What a walk over a module notes of targets is what is told of them there.
use Rattle.std.proofs.Common.{◌≡◌, ℕ, ◌<◌, ◌+◌, ◌==◌, ◌&&◌, not, Bool, true, false, List, [], ◌∷◌, ◌++◌, length, take, get_or, Option, Some, None, refl, ap, sym, subst, ◌∙◌, eqb-true}
use Rattle.std.specs.Prelude.{is_some, if◌then◌else◌}
use Rattle.std.specs.BTreeSet as sorted
use Rattle.std.specs.BTreeSet.{BTreeSet}
use Rattle.std.specs.Ordering.{nat_cmp}
use Rattle.std.proofs.lemmas.Bool.{and_parts}
use Rattle.std.proofs.lemmas.List.{take_more}
use Rattle.mlir_ir.specs.Count.{first}
use Rattle.mlir_ir.specs.Shape.{FuncShape}
use Rattle.mlir_ir.specs.declared.tree.Op.{Op}
use Rattle.mlir_ir.specs.declared.tree.OpId.{OpId}
use Rattle.mlir_verify.specs.Place.{Types, type_among}
use Rattle.mlir_edits.proofs.Scopes.{first_none, first_first}
use Rattle.verified_runs.specs.Passes.{Scope, scope_after}
use Rattle.step_passes.specs.declared.index.Index.{Index}
use Rattle.step_passes.specs.declared.told.Told as code
use Rattle.step_passes.specs.Exchanging.{Exchanging}
use Rattle.step_passes.specs.Noting.{noted_in, IsNoted, told_here, Notes}
use Rattle.step_passes.specs.Planned.{Told, told_at, told_in, told_among}
use Rattle.step_passes.specs.Telling.{Tells}

-- one walk and then another
pub notes_then : (w : BTreeSet ℕ) (a b c : OpId → Option Told) (s t u : Index) → ((i : OpId) → first (a i) (b i) ≡ c i) → Notes w a s t →
    Notes w b t u → Notes w c s u
notes_then w a b c s t u same h k i before asked noted =
    subst (λ x. IsNoted x (noted_in u i)) (first_first before (a i) (b i) ∙ ap (first before) (same i)) (k i (first before (a i)) asked (h i before asked noted))

-- nothing was told
pub notes_nothing : (w : BTreeSet ℕ) (s : Index) → Notes w (λ i. None) s s
notes_nothing w s i before asked noted = subst (λ x. IsNoted x (noted_in s i)) (sym (first_none before)) noted

told_before : (before x : Option Told) (c : Option code.Told) → is_some c ≡ true → IsNoted before c → IsNoted (first before x) c
told_before None x None k h = absurd cc
told_before None x (Some c) k h = absurd h
told_before (Some t) x c k h = h

not_there : (before : Option Told) (c : Option code.Told) → is_some c ≡ false → IsNoted before c → before ≡ None
not_there None c k h = refl
not_there (Some t) None k h = absurd h
not_there (Some t) (Some c) k h = absurd cc

is_there : (a b : Bool) → a ≡ true → (a && not b) ≡ false → b ≡ true
is_there true true h k = refl
is_there true false h k = absurd cc
is_there false b h k = absurd cc

not_true : (b : Bool) → not b ≡ true → b ≡ false
not_true true h = absurd cc
not_true false h = refl

module _ (e : Exchanging) (t : Types) (o : Op) (w : BTreeSet ℕ) where
  same_number : (i : OpId) → (o.id.0 == i.0) ≡ true → o.id ≡ i
  same_number i q = λ j. record { 0 = eqb-true o.id.0 i.0 q j }

  -- an operation that isn't wanted, or whose number was met before
  pub notes_elsewhere : (s : Index) → (sorted.contains nat_cmp w o.id.0 && not (is_some (noted_in s o.id))) ≡ false →
      Notes w (told_here e t o) s s
  notes_elsewhere s h i before asked noted = by_test (o.id.0 == i.0) refl where
    by_test : (b : Bool) → (o.id.0 == i.0) ≡ b → IsNoted (first before (if b then Some (told_at e t o.kind) else None)) (noted_in s i)
    by_test true q =
        let same = same_number i q in
        let there = is_there _ _ (ap (λ (x : OpId). sorted.contains nat_cmp w x.0) same ∙ asked) h in
        told_before before (Some (told_at e t o.kind)) (noted_in s i) (ap (λ x. is_some (noted_in s x)) (sym same) ∙ there) noted
    by_test false q = subst (λ x. IsNoted x (noted_in s i)) (sym (first_none before)) noted

  -- a new one
  pub notes_new : (s u : Index) (c : code.Told) → (sorted.contains nat_cmp w o.id.0 && not (is_some (noted_in s o.id))) ≡ true →
      Tells (told_at e t o.kind) c →
      ((i : OpId) → noted_in u i ≡ (if o.id.0 == i.0 then Some c else noted_in s i)) → Notes w (told_here e t o) s u
  notes_new s u c h tells puts i before asked noted = by_test (o.id.0 == i.0) refl where
    by_test : (b : Bool) → (o.id.0 == i.0) ≡ b → IsNoted (first before (if b then Some (told_at e t o.kind) else None)) (noted_in u i)
    by_test true q =
        let absent = not_true _ (and_parts (sorted.contains nat_cmp w o.id.0) _ h).1 in
        let none = not_there before (noted_in s i) (ap (λ x. is_some (noted_in s x)) (sym (same_number i q)) ∙ absent) noted in
        subst (λ x. IsNoted (first x (Some (told_at e t o.kind))) (noted_in u i)) (sym none)
        (subst (IsNoted (Some (told_at e t o.kind))) (sym (puts i ∙ (λ j. if q j then Some c else noted_in s i))) tells)
    by_test false q =
        subst (λ x. IsNoted x (noted_in u i)) (sym (first_none before))
        (subst (IsNoted before) (sym (puts i ∙ (λ j. if q j then Some c else noted_in s i))) noted)

-- A BODY
told_in_more : (e : Exchanging) (i : OpId) (os : List Op) (o : Op) (scope : Scope) →
    first (told_in e i scope os) (told_here e (type_among (scope_after scope os)) o i) ≡ told_in e i scope (os ++ (o ∷ []))
told_in_more e i [] o scope = refl
told_in_more e i (p ∷ os) o scope = by_test (p.id.0 == i.0) (told_in_more e i os o (scope ++ p.results)) where
  by_test : (b : Bool) → first (told_in e i (scope ++ p.results) os) (told_here e (type_among (scope_after (scope ++ p.results) os)) o i) ≡ told_in e i (scope ++ p.results) (os ++ (o ∷ [])) →
      first (if b then Some (told_at e (type_among scope) p.kind) else told_in e i (scope ++ p.results) os) (told_here e (type_among (scope_after (scope ++ p.results) os)) o i)
      ≡ (if b then Some (told_at e (type_among scope) p.kind) else told_in e i (scope ++ p.results) (os ++ (o ∷ [])))
  by_test true h = refl
  by_test false h = h

pub body_goes : (e : Exchanging) (w : BTreeSet ℕ) (params : Scope) (os : List Op) (k : ℕ) (o : Op) (t : Types) (s u v : Index) →
    k < length os → o ≡ get_or os k o →
    ((n : ℕ) → t n ≡ type_among (scope_after params (take k os)) n) → Notes w (λ i. told_in e i params (take k os)) s u → Notes w (told_here e t o) u v →
    Notes w (λ i. told_in e i params (take (k + 1) os)) s v
body_goes e w params os k o t s u v l g types h here =
    notes_then w (λ i. told_in e i params (take k os)) (told_here e t o) (λ i. told_in e i params (take (k + 1) os)) s u v
    (λ i.
    ap (λ x. first (told_in e i params (take k os)) (told_here e x o i)) (λ j n. types n j)
    ∙ told_in_more e i (take k os) o params
    ∙ ap (told_in e i params) (ap (λ (p : Op). take k os ++ p ∷ []) g ∙ sym (take_more os k o l)))
    h here

-- A MODULE
told_among_more : (e : Exchanging) (i : OpId) (fs : List FuncShape) (f : FuncShape) →
    first (told_among e i fs) (told_in e i f.params f.body) ≡ told_among e i (fs ++ (f ∷ []))
told_among_more e i [] f = sym (first_none (told_in e i f.params f.body))
told_among_more e i (g ∷ fs) f =
    first_first (told_in e i g.params g.body) (told_among e i fs) (told_in e i f.params f.body)
    ∙ ap (first (told_in e i g.params g.body)) (told_among_more e i fs f)

pub funcs_go : (e : Exchanging) (w : BTreeSet ℕ) (fs : List FuncShape) (k : ℕ) (f : FuncShape) (s u v : Index) → k < length fs →
    f ≡ get_or fs k f →
    Notes w (λ i. told_among e i (take k fs)) s u → Notes w (λ i. told_in e i f.params f.body) u v →
    Notes w (λ i. told_among e i (take (k + 1) fs)) s v
funcs_go e w fs k f s u v l g h here =
    notes_then w (λ i. told_among e i (take k fs)) (λ i. told_in e i f.params f.body) (λ i. told_among e i (take (k + 1) fs)) s u v
    (λ i. told_among_more e i (take k fs) f ∙ ap (told_among e i) (ap (λ (p : FuncShape). take k fs ++ p ∷ []) g ∙ sym (take_more fs k f l)))
    h here
