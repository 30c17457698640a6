-- A step that forms one printable generic forms printable files.
use Rattle.std.proofs.Common.{◌≡◌, ℕ, ◌<◌, ◌≤◌, ◌==◌, true, false, cond, List, [], ◌∷◌, ◌++◌, map, length, length-append, Some, ⊎_elim, refl, ap, sym, subst, ◌∙◌, arith, eq-eqb, nat_eq}
use Rattle.std.specs.Prelude.{if◌then◌else◌}
use Rattle.std.specs.List.{AllByRecursion, list_all}
use Rattle.std.proofs.lemmas.Bool.{and_parts, ne_eqb}
use Rattle.std.proofs.lemmas.Bool.Decides.{eqb_tells}
use Rattle.mlir_ir.specs.Shape.{FuncShape}
use Rattle.mlir_ir.specs.declared.tree.Op.{Op}
use Rattle.mlir_ir.specs.declared.tree.OpId.{OpId}
use Rattle.mlir_ir.specs.declared.tree.OpKind.{OpKind}
use Rattle.mlir_ir.specs.declared.tree.Ty.{Ty}
use Rattle.mlir_ir.specs.declared.tree.ValueId.{ValueId}
use Rattle.mlir_meaning.specs.Grids.{Each}
use Rattle.mlir_meaning.specs.Renaming.{reused_ops}
use Rattle.mlir_meaning.specs.States.{names_of}
use Rattle.mlir_meaning.proofs.Through.{each_right}
use Rattle.mlir_verify.specs.Ends.{is_return}
use Rattle.mlir_verify.specs.Limits.{is_small_op, is_small_type, has_few_dimensions, has_small_signature}
use Rattle.mlir_verify.specs.Place.{is_empty}
use Rattle.mlir_verify.specs.Rules.{IsVerified}
use Rattle.verified_runs.specs.Edits.{Edit, Step, moved, renumbered, anew, edited_func}
use Rattle.verified_runs.specs.Forms.{Structured, kind_of}
use Rattle.verified_runs.specs.Fresh.{above_body, above_func, fresh_value, fresh_op}
use Rattle.verified_runs.specs.Passes.{Scope, OpPasses, BodyPasses, FuncPasses, scope_after}
use Rattle.verified_runs.proofs.Places.{alone}
use Rattle.verified_runs.proofs.Results.{new_numbers}
use Rattle.verified_runs.proofs.Runs.{rest_passes}
use Rattle.verified_runs.proofs.Steps.{above_part, added}
use Rattle.structured_steps.specs.Steps.{formed}
use Rattle.step_results.specs.Modules.{is_small_func}
use Rattle.step_results.proofs.Edits.{small_middle, small_target}
use Rattle.step_results.proofs.Modules.{verified_module}
use Rattle.step_results.proofs.Small.{middle_above}
use Rattle.step_results.proofs.Spots.{func_with, Spot, spot}
use Rattle.mlir_file.specs.declared.file.File.{File}
use Rattle.mlir_print.specs.declared.names.Given.{Given}
use Rattle.mlir_print.specs.declared.names.Given.TheVariants.{Result}
use Rattle.mlir_print.specs.Names.{Names, Row, row_of, nothing}
use Rattle.mlir_print.specs.Operations.{names_after, next}
use Rattle.mlir_print.specs.Canonical.{names_in}
use Rattle.mlir_roundtrip.specs.Printable.{IsTensorType, IsPrintableKind, IsPrintableLine, ArePrintableOps, IsPrintableFunc, ArePrintable, AreNew, operations_in, IsPrintable}
use Rattle.printable_steps.specs.Laws.{with_module}
use Rattle.printable_steps.proofs.Types.{typed_by, Agree, AreValues, typed_last, params_agree, params_values}
use Rattle.printable_steps.proofs.Bodies.{front_kept, closed, Follows, rest_kept}
use Rattle.printable_steps.proofs.Generics.{PrintsFew, generic_prints}

-- the edit is one generic, which has a text
pub record FormsPrintable (n k : ℕ) (o : Op) (ty : Ty) (e : Edit) : Type 0 where
  pub generic : Structured
  pub is : e ≡ anew k n (kind_of generic) o
  pub result : IsTensorType ty
  pub few : PrintsFew generic

-- what a step owes at a printable line
abbrev pub Prints : ℕ → ℕ → Step → Type 0
Prints n k step = (scope : Scope) (wanted : List Ty) (o : Op) (e : Edit) (rows : List Row) (r : ValueId × Ty) → OpPasses scope wanted o → is_small_op o ≡ true → Agree rows scope → AreValues rows →
    o.results ≡ r ∷ [] → IsPrintableKind rows r.1 o.kind → step scope o ≡ Some e → FormsPrintable n k o r.1 e

-- it forms one operation, and none at a terminator
abbrev pub FormsOne : Step → Type 0
FormsOne step = (scope : Scope) (o : Op) (e : Edit) → step scope o ≡ Some e → (is_return o.kind ≡ false) × (length e.ops ≡ 1)

-- the one result of a line
line_one : (rows : List Row) (rs : Scope) (kind : OpKind) → IsPrintableLine rows rs kind → (r : ValueId × Ty) × (rs ≡ r ∷ []) × IsPrintableKind rows r.1 kind
line_one rows [] kind h = absurd h
line_one rows (r ∷ []) kind h = (r, refl, h)
line_one rows (r ∷ (s ∷ rs)) kind h = absurd h

-- the types behind the new operation are those behind the target
follows_new : (n : ℕ) (rows : List Row) (r : ValueId × Ty) (g h : Given) →
    Follows n (moved (names_of (r ∷ [])) (names_of (renumbered n (r ∷ [])))) (rows ++ row_of r.0 g r.1 ∷ []) (rows ++ row_of (record { 0 = n }) h r.1 ∷ [])
follows_new n rows r g h v l = ⊎_elim
    (λ t. let e = t.1 in
    typed_last rows (row_of (record { 0 = n }) h r.1) (if v == (r.0).0 then n else v) ∙ (λ j. cond (nat_eq n (if t.0 j then n else v)) (Some r.1) (typed_by rows (if t.0 j then n else v)))
    ∙ (λ j. cond (eq-eqb n n refl j) (Some r.1) (typed_by rows n)) ∙ sym (λ j. cond (eq-eqb (r.0).0 v (sym e) j) (Some r.1) (typed_by rows v)) ∙ sym (typed_last rows (row_of r.0 g r.1) v))
    (λ t. let e = t.1 in
    typed_last rows (row_of (record { 0 = n }) h r.1) (if v == (r.0).0 then n else v) ∙ (λ j. cond (nat_eq n (if t.0 j then n else v)) (Some r.1) (typed_by rows (if t.0 j then n else v)))
    ∙ (λ j. cond (ne_eqb n v (λ q. absurd (omega (arith, q, l))) j) (Some r.1) (typed_by rows v)) ∙ sym (λ j. cond (ne_eqb (r.0).0 v (λ q. e (sym q)) j) (Some r.1) (typed_by rows v))
    ∙ sym (typed_last rows (row_of r.0 g r.1) v))
    (eqb_tells v (r.0).0)

next_new : (n : ℕ) (x : Names) (rs : Scope) (r : ValueId × Ty) (old new : OpKind) → rs ≡ r ∷ [] →
    Follows n (moved (names_of rs) (names_of (renumbered n rs))) (names_after x rs old).rows (names_after x (renumbered n rs) new).rows
next_new n x rs r old new e =
    subst (λ qs. Follows n (moved (names_of qs) (names_of (renumbered n qs))) (names_after x qs old).rows (names_after x (renumbered n qs) new).rows) (sym e)
    (follows_new n x.rows r (Result x.results) (Result x.results))

some_left : (os : List Op) → is_empty os ≡ false → 0 < length os
some_left [] e = absurd cc
some_left (o ∷ os) e = omega arith

reused_length : (f : ℕ → ℕ) (os : List Op) → length (reused_ops f os) ≡ length os
reused_length f [] = refl
reused_length f (o ∷ os) = omega (arith, reused_length f os)

-- ONE FUNCTION
module _ (n k : ℕ) (step : Step) (prints : Prints n k step) (single : FormsOne step) (f : FuncShape) (passes : FuncPasses f) (above : above_func f ≤ n) (small : is_small_func f ≡ true)
    (before after : List Op) (target : Op) (body : f.body ≡ before ++ (target ∷ after)) (e : Edit) (gives : step (scope_after f.params before) target ≡ Some e) where
  abbrev scope : Scope
  scope = scope_after f.params before

  -- the body with an edit
  abbrev pub with_edit : Edit → List Op
  with_edit d = before ++ (d.ops ++ reused_ops (moved (names_of target.results) d.values) after)

  whole : BodyPasses scope f.results (target ∷ after)
  whole = rest_passes f.results before (target ∷ after) f.params (subst (BodyPasses f.params f.results) body passes.body)

  ops_small : list_all is_small_op (before ++ (target ∷ after)) ≡ true
  ops_small = subst (λ os. list_all is_small_op os ≡ true) body (and_parts (has_small_signature f) (list_all is_small_op f.body) small).1

  after_above : above_body after ≤ n
  after_above = (above_part before after target n (subst (λ os. above_body os ≤ n) body (let l : above_body f.body ≤ n = omega (arith, above) in l))).1

  abbrev rest_of : Edit → List Op
  rest_of d = d.ops ++ reused_ops (moved (names_of target.results) d.values) after

  -- something follows a target that isn't a terminator
  follows : 0 < length after
  follows = some_left after (sym whole.1 ∙ (single scope target e gives).0)

  rest_length : length (rest_of e) ≡ length (target ∷ after)
  rest_length =
      let own = (single scope target e gives).1 in
      let whole_length = length-append e.ops (reused_ops (moved (names_of target.results) e.values) after) in
      let q = reused_length (moved (names_of target.results) e.values) after in
      omega (arith, own, whole_length, q)

  body_length : length (with_edit e) ≡ length f.body
  body_length =
      let a = length-append before (rest_of e) in
      let b = length-append before (target ∷ after) in
      let c = ap (λ (os : List Op). length os) body in
      omega (arith, a, b, c, rest_length)

  module _ (m : Names) (agree : Agree m.rows scope) (values : AreValues m.rows) (line : IsPrintableLine m.rows target.results target.kind) (rest : ArePrintableOps (next m target) after)
      (now : FuncPasses (func_with f (with_edit e))) (now_small : is_small_func (func_with f (with_edit e)) ≡ true) where
    one : (r : ValueId × Ty) × (target.results ≡ r ∷ []) × IsPrintableKind m.rows r.1 target.kind
    one = line_one m.rows target.results target.kind line

    forms : FormsPrintable n k target (one.0).1 e
    forms = prints scope f.results target e m.rows one.0 whole.0 (small_target before after target ops_small) agree values one.1 one.2 gives

    abbrev new_op : Op
    new_op = record { id = record { 0 = k }; results = renumbered n target.results; kind = kind_of forms.generic }

    abbrev g : ℕ → ℕ
    g = moved (names_of target.results) (names_of (renumbered n target.results))

    abbrev rest_ops : List Op
    rest_ops = reused_ops g after

    edited : FuncPasses (func_with f (before ++ (new_op ∷ rest_ops))) × (is_small_func (func_with f (before ++ (new_op ∷ rest_ops))) ≡ true)
    edited = subst (λ d. FuncPasses (func_with f (with_edit d)) × (is_small_func (func_with f (with_edit d)) ≡ true)) forms.is (now, now_small)

    new_passes : OpPasses scope f.results new_op
    new_passes = (rest_passes f.results before (new_op ∷ rest_ops) f.params (edited.0).body).0

    new_small : is_small_op new_op ≡ true
    new_small = small_target before rest_ops new_op (and_parts (has_small_signature f) (list_all is_small_op (before ++ (new_op ∷ rest_ops))) edited.1).1

    new_line : IsPrintableLine m.rows (renumbered n target.results) (kind_of forms.generic)
    new_line =
        subst (λ rs. IsPrintableLine m.rows (renumbered n rs) (kind_of forms.generic)) (sym one.1)
        (generic_prints m.rows scope agree new_passes.constants f.results (renumbered n target.results) (one.0).1 forms.generic new_passes.typed new_passes.known forms.result
        (and_parts (list_all (λ (r : ValueId × Ty). is_small_type r.1) (renumbered n target.results)) (has_few_dimensions (kind_of forms.generic)) new_small).1 forms.few)

    new_rest : ArePrintableOps m (new_op ∷ rest_ops)
    new_rest = closed m new_op rest_ops (let q = reused_length g after in let l = follows in omega (arith, l, q)) new_line
        (rest_kept n g after (next m target) (next m new_op) (next_new n m target.results one.0 target.kind (kind_of forms.generic) one.1)
        (alone n f.results target.results (names_of (renumbered n target.results)) (new_numbers n target.results) after (scope ++ target.results) whole.2 (added scope target.results) after_above)
        after_above rest)

    edit_printable : ArePrintableOps m (rest_of e)
    edit_printable = subst (λ d. ArePrintableOps m (rest_of d)) (sym forms.is) new_rest

  pub func_printable : IsPrintableFunc f → FuncPasses (func_with f (with_edit e)) → is_small_func (func_with f (with_edit e)) ≡ true → IsPrintableFunc (func_with f (with_edit e))
  func_printable p now now_small =
      let few = p.few_ops in
      record {
        name = p.name;
        few_params = p.few_params;
        params = p.params;
        few_results = p.few_results;
        results = p.results;
        few_ops = omega (arith, few, body_length);
        ops = front_kept before (names_in f) f.params target after (rest_of e) (params_agree f.params nothing [] (λ v. refl)) (params_values f.params nothing (λ v T q. absurd cc) p.params) follows
            (let l = rest_length in omega (arith, l)) (subst (ArePrintableOps (names_in f)) body p.ops) (λ m a v line rest. edit_printable m a v line rest now now_small);
      }

-- FILES
all_middle : {X : Type 0} (P : X → Type 0) (front back : List X) (x : X) → AllByRecursion P (front ++ (x ∷ back)) → P x
all_middle P [] back x h = h.0
all_middle P (y ∷ front) back x h = all_middle P front back x h.1

all_replaced : {X : Type 0} (P : X → Type 0) (front back : List X) (x y : X) → P y → AllByRecursion P (front ++ (x ∷ back)) → AllByRecursion P (front ++ (y ∷ back))
all_replaced P [] back x y k h = (k, h.1)
all_replaced P (z ∷ front) back x y k h = (h.0, all_replaced P front back x y k h.1)

names_replaced : (names : List (List ℕ)) (front back : List FuncShape) (f : FuncShape) (body : List Op) → AreNew names (front ++ (f ∷ back)) → AreNew names (front ++ (func_with f body ∷ back))
names_replaced names [] back f body h = h
names_replaced names (g ∷ front) back f body h = (h.0, names_replaced (names ++ g.name ∷ []) front back f body h.1)

counts_replaced : (front back : List FuncShape) (f : FuncShape) (body : List Op) → length body ≡ length f.body → operations_in (front ++ (func_with f body ∷ back)) ≡ operations_in (front ++ (f ∷ back))
counts_replaced [] back f body e = omega (arith, e)
counts_replaced (g ∷ front) back f body e = let rest = counts_replaced front back f body e in omega (arith, rest)

module _ (f : File) (i : OpId) (step : Step) (prints : Prints (fresh_value f.module.funcs) (fresh_op f.module.funcs) step) (single : FormsOne step)
    (printable : IsPrintable f) (verified : IsVerified f.module) (now : IsVerified (formed i step f.module)) where
  abbrev fs : List FuncShape
  fs = f.module.funcs

  abbrev with_funcs : List FuncShape → File
  with_funcs gs = record { «module» = record { funcs = gs }; script = f.script }

  at_spot : (s : Spot i step fs) → IsPrintable (with_funcs (map (edited_func i step) fs))
  at_spot s =
      let n = fresh_value fs in
      let was = verified_module f.module verified in
      let is = verified_module (formed i step f.module) now in
      let body = s.before ++ (s.edit.ops ++ reused_ops (moved (names_of s.target.results) s.edit.values) s.after) in
      let funcs = subst ArePrintable s.is printable.funcs in
      let passes = (each_right FuncPasses s.front (s.func ∷ s.back) (subst (Each FuncPasses) s.is was.funcs)).0 in
      let above = middle_above s.front s.back s.func n (let l : fresh_value fs ≤ n = omega arith in subst (λ gs. fresh_value gs ≤ n) s.is l) in
      let small = small_middle s.front s.back s.func (subst (λ gs. list_all is_small_func gs ≡ true) s.is was.small) in
      let new_passes = (each_right FuncPasses s.front (func_with s.func body ∷ s.back) (subst (Each FuncPasses) s.formed is.funcs)).0 in
      let new_small = small_middle s.front s.back (func_with s.func body) (subst (λ gs. list_all is_small_func gs ≡ true) s.formed is.small) in
      let few : operations_in (s.front ++ (s.func ∷ s.back)) ≤ 65536 = subst (λ gs. operations_in gs ≤ 65536) s.is printable.few_ops in
      let same = counts_replaced s.front s.back s.func body (body_length n (fresh_op fs) step prints single s.func passes above small s.before s.after s.target s.body s.edit s.gives) in
      subst (λ gs. IsPrintable (with_funcs gs)) (sym s.formed)
      (record {
        funcs = all_replaced IsPrintableFunc s.front s.back s.func (func_with s.func body)
            (func_printable n (fresh_op fs) step prints single s.func passes above small s.before s.after s.target s.body s.edit s.gives (all_middle IsPrintableFunc s.front s.back s.func funcs) new_passes new_small) funcs;
        names = names_replaced [] s.front s.back s.func body (subst (AreNew []) s.is printable.names);
        few_ops = omega (arith, few, same);
        script = printable.script;
      })

  pub formed_printable : IsPrintable (with_module f (formed i step f.module))
  formed_printable = ⊎_elim (λ same. subst (λ gs. IsPrintable (with_funcs gs)) (sym same) printable) at_spot (spot i step fs [] ((verified_module f.module verified).numbers).ops)
