-- A step takes a session to a session, and keeps of its module what each step at one operation keeps.
use Rattle.std.proofs.Common.{◌≡◌, ℕ, ◌==◌, ◌&&◌, Bool, true, false, List, [], ◌∷◌, ◌++◌, map, length, Option, Some, None, Result, Ok, Err, refl, ap, sym, subst, ◌∙◌}
use Rattle.std.specs.Prelude.{if◌then◌else◌}
use Rattle.std.specs.List.{list_all, list_any}
use Rattle.std.proofs.lemmas.Bool.{and_parts, or_parts}
use Rattle.std.proofs.lemmas.Option.{same_Some}
use Rattle.std.proofs.lemmas.List.Folds.{list_all-append, list_any-append}
use Rattle.mlir_ir.specs.Count.{first}
use Rattle.mlir_ir.specs.declared.tree.Module.{Module}
use Rattle.mlir_verify.specs.Rules.{IsVerified}
use Rattle.rewrite_base.specs.declared.error.StepError.{StepError}
use Rattle.structured_steps.specs.declared.rule.StepRule.TheVariants.{HandleCount}
use Rattle.transform_handles.specs.Handles.{Row, row_if, row_of, targets_in, named, kept, left, consumed}
use Rattle.transform_handles.specs.Items.{matched, inside}
use Rattle.transform_handles.specs.Targets.{is_same, is_one_of}
use Rattle.transform_handles.specs.declared.target.Target.{Target}
use Rattle.script_read.specs.declared.script.HandleId.{HandleId}
use Rattle.script_read.specs.declared.script.Step.{Step}
use Rattle.script_read.specs.declared.script.StepKind.{StepKind}
use Rattle.script_read.specs.declared.script.StepKind.TheVariants.{Match, Split, Generalize, Interchange, FuseElementwise}
use Rattle.script_run.specs.Outcomes.{and_then, demand}
use Rattle.script_run.specs.Sessions.{SessionShape, stands_in, are_different, are_targets, are_named, IsSession}
use Rattle.script_run.specs.Steps.{StepAt, TargetStep, at_target, at_each, generalize_at, interchange_at, fuse_at, live_or, result_rows, with_rows, moved_on, matches, splits, transforms, after_kind, after}
use Rattle.script_run.proofs.Named.{all_of}
use Rattle.script_run.proofs.Matched.{matched_targets}
use Rattle.script_run.proofs.Kept.{IsKept, Keeps, Gave, each_gives, generalize_keeps, interchange_keeps, same_ok}
use Rattle.script_run.proofs.Fused.{Leaves, Stays, gave_leaves, fuses_leave}

-- ROWS
abbrev pub is_sound : Module → Row → Bool
is_sound m r = are_named m r.1

row_found : (m : Module) (rows : List Row) (h : ℕ) (r : Row) → list_all (is_sound m) rows ≡ true → row_of rows h ≡ Some r → is_sound m r ≡ true
row_found m [] h r a e = absurd cc
row_found m (p ∷ rows) h r a e = by_later (row_of rows h) refl (row_found m rows h r) where
  parts : (is_sound m p ≡ true) × (list_all (is_sound m) rows ≡ true)
  parts = and_parts (is_sound m p) (list_all (is_sound m) rows) a

  by_test : (b : Bool) → row_if b p ≡ Some r → is_sound m r ≡ true
  by_test true q = ap (is_sound m) (sym (same_Some p r q)) ∙ parts.0
  by_test false q = absurd cc

  by_later : (x : Option Row) → row_of rows h ≡ x → (list_all (is_sound m) rows ≡ true → row_of rows h ≡ Some r → is_sound m r ≡ true) → is_sound m r ≡ true
  by_later (Some q) d rest = rest parts.1 (d ∙ sym (λ j. first (d j) (row_if (p.0 == h) p)) ∙ e)
  by_later None d rest = by_test (p.0 == h) (sym (λ j. first (d j) (row_if (p.0 == h) p)) ∙ e)

pub named_targets : (m : Module) (rows : List Row) (h : ℕ) (ts : List Target) → list_all (is_sound m) rows ≡ true → named rows h ≡ Some ts → are_targets m ts ≡ true
named_targets m rows h ts a e = by_row (row_of rows h) refl where
  by_row : (x : Option Row) → row_of rows h ≡ x → are_targets m ts ≡ true
  by_row None d = absurd (let z : ◌≡◌ {A = Option (List Target)} None (Some ts) = sym (λ j. targets_in (d j)) ∙ e in cc)
  by_row (Some r) d = ap (are_named m) (sym (sym (λ j. targets_in (d j)) ∙ e)) ∙ row_found m rows h r a d

-- result handles name what was given
new_rows : (m : Module) (results : List HandleId) (given : List (List Target)) → list_all (are_targets m) given ≡ true → list_all (is_sound m) (result_rows results given) ≡ true
new_rows m [] given h = refl
new_rows m (r ∷ results) [] h = new_rows m results [] refl
new_rows m (r ∷ results) (ts ∷ given) h =
    let parts = and_parts (are_targets m ts) (list_all (are_targets m) given) h in
    λ j. parts.0 j && new_rows m results given parts.1 j

singles : (m : Module) (ts : List Target) → list_all (stands_in m) ts ≡ true → list_all (are_targets m) (map (λ (t : Target). t ∷ []) ts) ≡ true
singles m [] h = refl
singles m (t ∷ ts) h =
    let parts = and_parts (stands_in m t) (list_all (stands_in m) ts) h in
    λ j. ((parts.0 j && true) && true) && singles m ts parts.1 j

-- what lives after targets were consumed names others, which stand in the module that was formed
rows_stay : (m n : Module) (gone : Target → Bool) (rows : List Row) → ((t : Target) → stands_in m t ≡ true → gone t ≡ false → stands_in n t ≡ true) →
    list_all (is_sound m) rows ≡ true → list_all (is_sound n) (map (left gone) rows) ≡ true
rows_stay m n gone [] stay h = refl
rows_stay m n gone (r ∷ rows) stay h =
    let parts = and_parts (is_sound m r) (list_all (is_sound m) rows) h in
    λ j. by_targets r.1 parts.0 j && rows_stay m n gone rows stay parts.1 j
  where
    by_death : (b : Bool) (ts : List Target) → list_any gone ts ≡ b → are_targets m ts ≡ true → are_named n (kept gone (Some ts)) ≡ true
    by_death true ts d s = λ j. are_named n (if d j then None else Some ts)
    by_death false ts d s =
        let both = and_parts (list_all (stands_in m) ts) (are_different ts) s in
        (λ j. are_named n (if d j then None else Some ts)) ∙ (λ j. all_of (stands_in m) (stands_in n) gone ts stay both.0 d j && both.1 j)

    by_targets : (x : Option (List Target)) → are_named m x ≡ true → are_named n (kept gone x) ≡ true
    by_targets None s = refl
    by_targets (Some ts) s = by_death (list_any gone ts) ts refl s

abbrev pub single : Target → List Target
single t = t ∷ []

pub matched_rows : (m : Module) (names : List (List ℕ)) (ts : List Target) (results : List HandleId) → IsVerified m → list_all (is_sound m) (result_rows results (matched names ts m.funcs ∷ [])) ≡ true
matched_rows m names ts results verified = new_rows m results (matched names ts m.funcs ∷ []) (λ j. matched_targets m names ts verified j && true)

pub single_rows : (m : Module) (ts : List Target) (results : List HandleId) → are_targets m ts ≡ true → list_all (is_sound m) (result_rows results (map single ts)) ≡ true
single_rows m ts results a = new_rows m results (map single ts) (singles m ts (and_parts (list_all (stands_in m) ts) (are_different ts) a).0)

pub with_session : (x : SessionShape) (rows : List Row) → IsSession x → list_all (is_sound x.module) rows ≡ true → IsSession (with_rows x rows)
with_session x rows s h = (s.0, list_all-append (is_sound x.module) x.rows rows ∙ (λ j. s.1 j && h j))

-- STEPS
module _ (Q : Module → Type 0) where
  -- a session, whose module keeps Q
  abbrev pub GoesTo : SessionShape → SessionShape → Type 0
  GoesTo x y = IsSession y × (Q x.module → Q y.module)

  reads_keep : (x : SessionShape) (rows : List Row) → IsSession x → list_all (is_sound x.module) rows ≡ true → GoesTo x (with_rows x rows)
  reads_keep x rows s h = (with_session x rows s h, λ q. q)

  pub moves_keep : (x : SessionShape) (ts all : List Target) (n : Module) (results : List HandleId) → IsSession x → Leaves Q x.module n ts all → GoesTo x (moved_on ts n (result_rows results (all ∷ [])) x)
  unfolding consumed
  moves_keep x ts all n results s g =
      let gone = λ (t : Target). is_one_of t (ts ++ inside ts x.module.funcs) in
      let stay = rows_stay x.module n gone x.rows g.others s.1 in
      let given : list_all (are_targets n) (all ∷ []) ≡ true = λ j. (g.stand j && g.different j) && true in
      let new = new_rows n results (all ∷ []) given in
      ((g.verified, list_all-append (is_sound n) (map (left gone) x.rows) (result_rows results (all ∷ [])) ∙ (λ j. stay j && new j)), g.kept)

  -- a step on a handle: it lives, and its targets stand in the module
  on_handle : {P : Type 0} (x y : SessionShape) (h : HandleId) (f : List Target → Result SessionShape StepError) → IsSession x → (o : Option (List Target)) → named x.rows h.0 ≡ o →
      and_then (live_or o) f ≡ Ok y → ((ts : List Target) → are_targets x.module ts ≡ true → f ts ≡ Ok y → P) → P
  on_handle x y h f s None d e k = absurd cc
  on_handle x y h f s (Some ts) d e k = k ts (named_targets x.module x.rows h.0 ts s.1 d) e

  matches_keep : (names : List (List ℕ)) (h : HandleId) (results : List HandleId) (x y : SessionShape) → IsSession x → matches names h results x ≡ Ok y → GoesTo x y
  matches_keep names h results x y s e =
      on_handle x y h (λ ts. Ok (with_rows x (result_rows results (matched names ts x.module.funcs ∷ [])))) s (named x.rows h.0) refl e (λ ts a f.
      subst (GoesTo x) (same_ok (with_rows x (result_rows results (matched names ts x.module.funcs ∷ []))) y f)
      (reads_keep x (result_rows results (matched names ts x.module.funcs ∷ [])) s (matched_rows x.module names ts results s.0)))

  splits_by : (b : Bool) (ts : List Target) (results : List HandleId) (x y : SessionShape) → IsSession x → are_targets x.module ts ≡ true →
      and_then (demand b HandleCount) (λ _. Ok (with_rows x (result_rows results (map (λ (t : Target). t ∷ []) ts)))) ≡ Ok y → GoesTo x y
  splits_by false ts results x y s a e = absurd cc
  splits_by true ts results x y s a e =
      subst (GoesTo x) (same_ok (with_rows x (result_rows results (map (λ (t : Target). t ∷ []) ts))) y e)
      (reads_keep x (result_rows results (map (λ (t : Target). t ∷ []) ts)) s (single_rows x.module ts results a))

  splits_keep : (h : HandleId) (results : List HandleId) (x y : SessionShape) → IsSession x → splits h results x ≡ Ok y → GoesTo x y
  splits_keep h results x y s e =
      on_handle x y h (λ ts. and_then (demand (length ts == length results) HandleCount) (λ _. Ok (with_rows x (result_rows results (map (λ (t : Target). t ∷ []) ts))))) s (named x.rows h.0) refl e
      (λ ts a f. splits_by (length ts == length results) ts results x y s a f)

  transforms_by : (step : TargetStep) → Stays Q step → (ts : List Target) (results : List HandleId) (x y : SessionShape) → IsSession x → are_targets x.module ts ≡ true →
      (r : Result (Module × List Target) StepError) → at_each step ts x.module ≡ r → and_then r (λ q. Ok (moved_on ts q.0 (result_rows results (q.1 ∷ [])) x)) ≡ Ok y → GoesTo x y
  transforms_by step keeps ts results x y s a (Err z) d e = absurd cc
  transforms_by step keeps ts results x y s a (Ok r) d e =
      subst (GoesTo x) (same_ok (moved_on ts r.0 (result_rows results (r.1 ∷ [])) x) y e) (moves_keep x ts r.1 r.0 results s (keeps ts x.module r.0 r.1 s.0 a d))

  transforms_keep : (step : TargetStep) → Stays Q step → (h : HandleId) (results : List HandleId) (x y : SessionShape) → IsSession x → transforms step h results x ≡ Ok y → GoesTo x y
  transforms_keep step keeps h results x y s e =
      on_handle x y h (λ ts. and_then (at_each step ts x.module) (λ q. Ok (moved_on ts q.0 (result_rows results (q.1 ∷ [])) x))) s (named x.rows h.0) refl e
      (λ ts a f. transforms_by step keeps ts results x y s a (at_each step ts x.module) refl f)

  pub exchange_stays : (step : StepAt) → Keeps Q step → Stays Q (at_target step)
  exchange_stays step keeps ts m n all verified a e = gave_leaves Q m n ts all (each_gives Q step keeps ts m n all verified a e)

  kind_keeps : IsKept Q → (kind : StepKind) (results : List HandleId) (x y : SessionShape) → IsSession x → after_kind kind results x ≡ Ok y → GoesTo x y
  kind_keeps k (Match names inside) results x y s e = matches_keep names inside results x y s e
  kind_keeps k (Split h) results x y s e = splits_keep h results x y s e
  kind_keeps k (Generalize h) results x y s e = transforms_keep (at_target generalize_at) (exchange_stays generalize_at (generalize_keeps Q k)) h results x y s e
  kind_keeps k (Interchange h order) results x y s e = transforms_keep (at_target (interchange_at order)) (exchange_stays (interchange_at order) (interchange_keeps Q k order)) h results x y s e
  kind_keeps k (FuseElementwise h) results x y s e = transforms_keep fuse_at (fuses_leave Q k) h results x y s e
  kind_keeps k kind results x y s e = subst (GoesTo x) (same_ok x y e) (s, λ q. q)

  pub step_keeps : IsKept Q → (t : Step) (x y : SessionShape) → IsSession x → after t x ≡ Ok y → GoesTo x y
  unfolding after
  step_keeps k t x y s e = kind_keeps k t.kind t.results x y s e
