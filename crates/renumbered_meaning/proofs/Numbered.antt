-- A function under the numbers of its text is one whose values are renamed.
use Rattle.std.proofs.Common.{◌≡◌, ◌⊎◌, inl, inr, ℕ, ◌+◌, ◌==◌, ◌||◌, suc, Bool, true, false, List, [], ◌∷◌, ◌++◌, length, map, Option, Some, None, refl, ap, sym, subst, ◌∙◌, arith, append_assoc, append-nil, length-append}
use Rattle.std.specs.Prelude.{unwrap_or, is_some, if◌then◌else◌}
use Rattle.std.specs.List.{flat_map}
use Rattle.std.proofs.lemmas.Bool.{and_parts, eq-eqb}
use Rattle.affine_maps.specs.Permutation.{is_among}
use Rattle.mlir_ir.specs.Count.{first, operands}
use Rattle.mlir_ir.specs.declared.tree.Op.{Op}
use Rattle.mlir_ir.specs.declared.tree.OpKind.{OpKind, Constant, Empty, Generic, Fill, Matmul, BatchMatmul, Transpose, Broadcast, Return}
use Rattle.mlir_ir.specs.declared.tree.Ty.{Ty}
use Rattle.mlir_ir.specs.declared.tree.ValueId.{ValueId}
use Rattle.mlir_meaning.specs.Grids.{Each}
use Rattle.mlir_meaning.specs.Names.{AreIn}
use Rattle.mlir_meaning.specs.Renaming.{value, values, defined, renamed, renamed_ops}
use Rattle.mlir_meaning.specs.States.{names_of}
use Rattle.mlir_meaning.proofs.Through.{each_left, each_right}
use Rattle.mlir_print.specs.Names.{Names, Row, spot}
use Rattle.mlir_print.specs.Operations.{names_after, next}
use Rattle.mlir_print.specs.Renumbered.{number_in, kind_renumbered, results_renumbered, ops_renumbered}
use Rattle.mlir_roundtrip.specs.Printable.{IsPrintableLine, ArePrintableOps}
use Rattle.mlir_verify.specs.Built.{is_built_kind}
use Rattle.mlir_verify.specs.Names.{numbers, in_scope, arguments, defined_by, redefines}
use Rattle.mlir_verify.specs.Place.{type_among}
use Rattle.verified_runs.specs.Passes.{Scope, BodyPasses}
use Rattle.verified_runs.proofs.Places.{built_kind}
use Rattle.verified_runs.proofs.ReusedBodies.{or_false}
use Rattle.step_results.proofs.Numbers.{among_append, among_left, among_right, known_absent, own_parts}
use Rattle.step_results.proofs.Small.{no_arguments}
use Rattle.renumbered_meaning.proofs.Spots.{placed, number_at, kept_place, own_place, stands, values_of, spot_placed}
use Rattle.renumbered_meaning.proofs.Alike.{AreAlike}

-- what an operation reads and defines is among these values
pub record IsWithin (N : ℕ → Bool) (o : Op) : Type 0 where
  pub reads : AreIn N (operands o.kind)
  pub defines : AreIn N (names_of o.results)

among_here : (n : ℕ) (xs ys : List ℕ) → is_among n (xs ++ n ∷ ys) ≡ true
among_here n xs ys = among_right n xs (n ∷ ys) ((λ j. eq-eqb n n refl j || is_among n ys))

pub values_more : (rows : List Row) (r : Row) → values_of (rows ++ r ∷ []) ≡ values_of rows ++ r.value ∷ []
values_more [] r = refl
values_more (x ∷ rows) r = λ j. x.value ∷ values_more rows r j

values_length : (rows : List Row) → length (values_of rows) ≡ length rows
values_length [] = refl
values_length (x ∷ rows) = ap suc (values_length rows)

numbers_more : (scope rs : Scope) → numbers (scope ++ rs) ≡ numbers scope ++ numbers rs
numbers_more [] rs = refl
numbers_more (x ∷ scope) rs = λ j. (x.0).0 ∷ numbers_more scope rs j

or_true : (c : Bool) → (c || true) ≡ true
or_true true = refl
or_true false = refl

-- a value with a type in scope is among the numbers there
typed_among : (ds : Scope) (v : ℕ) → is_some (type_among ds v) ≡ true → is_among v (numbers ds) ≡ true
typed_among [] v h = absurd cc
typed_among (d ∷ ds) v h = by_rest (typed_among ds v) (type_among ds v) ((d.0).0 == v) refl refl h
  where
    by_rest : (is_some (type_among ds v) ≡ true → is_among v (numbers ds) ≡ true) → (o : Option Ty) (b : Bool) → type_among ds v ≡ o → ((d.0).0 == v) ≡ b →
        is_some (first (type_among ds v) (if (d.0).0 == v then Some d.1 else None)) ≡ true → ((d.0).0 == v || is_among v (numbers ds)) ≡ true
    by_rest rest (Some t) b e q k = (λ j. (d.0).0 == v || rest (λ i. is_some (e i)) j) ∙ or_true ((d.0).0 == v)
    by_rest rest None true e q k = λ j. q j || is_among v (numbers ds)
    by_rest rest None false e q k = absurd (let z : false ≡ true = sym (λ j. is_some (first (e j) (if q j then Some d.1 else None))) ∙ k in cc)

known_among : (ds : Scope) (vs : List ValueId) → in_scope (type_among ds) vs ≡ true → Each (λ v. is_among v.0 (numbers ds) ≡ true) vs
known_among ds [] h = tt
known_among ds (v ∷ vs) h =
    let p = and_parts (is_some (type_among ds v.0)) (in_scope (type_among ds) vs) h in
    (typed_among ds v.0 p.0, known_among ds vs p.1)

-- `all` are the values that a function defines, in order, and their numbers begin at `base`
module _ (base : ℕ) (all : List ℕ) where
  abbrev pub num : ℕ → ℕ
  num v = unwrap_or (placed base all v) base

  abbrev pub back : ℕ → ℕ
  back p = number_at base all p

  abbrev pub is_own : ℕ → Bool
  is_own v = is_among v all

  pub returns : (v : ℕ) → is_own v ≡ true → back (num v) ≡ v
  returns v h = let s = stands base all v h in (λ j. number_at base all (unwrap_or (s.is j) base)) ∙ s.holds

  -- a value that is defined before has the number of its row
  known_number : (rows : List Row) (rest : List ℕ) (v : ValueId) → all ≡ values_of rows ++ rest → is_among v.0 rest ≡ false → number_in base rows v ≡ value num v
  known_number rows rest v e h =
      let same : spot base rows v.0 ≡ placed base all v.0 = spot_placed base rows v.0 ∙ sym (kept_place base (values_of rows) rest v.0 h) ∙ sym (ap (λ ns. placed base ns v.0) e) in
      λ j. record { 0 = unwrap_or (same j) base }

  -- and one that is defined next, the number of the next row
  own_number : (before : List ℕ) (v : ℕ) (after : List ℕ) → all ≡ before ++ v ∷ after → is_among v after ≡ false → num v ≡ base + length before
  own_number before v after e h = ap (λ ns. unwrap_or (placed base ns v) base) e ∙ ap (λ o. unwrap_or o base) (own_place base before v after h)

  -- a number isn't repeated behind itself
  not_behind : (before : List ℕ) (v : ℕ) (after : List ℕ) → redefines (v ∷ after) before ≡ false → (is_among v after ≡ false) × (redefines after (before ++ v ∷ []) ≡ false)
  not_behind before v after h =
      let p = or_false (is_among v before) _ h in
      (known_absent v after (before ++ v ∷ []) p.1 (among_here v before []), p.1)

  -- PARAMETERS
  pub params_named : (ids : ℕ → ℕ) (before : List ℕ) (ps : Scope) (rest : List ℕ) → all ≡ before ++ (numbers ps ++ rest) → redefines (numbers ps ++ rest) before ≡ false →
      (b : ℕ) → b ≡ base + length before → results_renumbered b ps ≡ defined ids num num ps
  params_named ids before [] rest e h b n = refl
  params_named ids before (p ∷ ps) rest e h b n =
      let own = not_behind before (p.0).0 (numbers ps ++ rest) h in
      let here : b ≡ num (p.0).0 = n ∙ sym (own_number before (p.0).0 (numbers ps ++ rest) e own.0) in
      let more = length-append before ((p.0).0 ∷ []) in
      let later = params_named ids (before ++ (p.0).0 ∷ []) ps rest (e ∙ sym (append_assoc before ((p.0).0 ∷ []) (numbers ps ++ rest))) own.1 (suc b) (omega (arith, n, more)) in
      λ j. (record { 0 = here j }, p.1) ∷ later j

  -- KINDS
  all_named : (h : ValueId → ValueId) (vs : List ValueId) → Each (λ v. h v ≡ value num v) vs → map h vs ≡ values num vs
  all_named h [] e = refl
  all_named h (v ∷ vs) e = λ j. e.0 j ∷ all_named h vs e.1 j

  kind_named : (ids : ℕ → ℕ) (h : ValueId → ValueId) (kind : OpKind) → is_built_kind kind ≡ true → Each (λ v. h v ≡ value num v) (operands kind) → kind_renumbered h kind ≡ renamed ids num num kind
  unfolding renamed
  kind_named ids h (Constant cells) b e = refl
  kind_named ids h (Empty sizes) b e = λ j. Empty (all_named h sizes e j)
  kind_named ids h (Generic maps its ins outs captured p) b e =
      let left = each_left (λ v. h v ≡ value num v) ins (outs ∷ captured) e in
      let right = each_right (λ v. h v ≡ value num v) ins (outs ∷ captured) e in
      λ j. Generic maps its (all_named h ins left j) (right.0 j) (all_named h captured right.1 j) p
  kind_named ids h (Fill v outs) b e = λ j. Fill (e.0 j) (e.1.0 j)
  kind_named ids h (Matmul x y outs) b e = λ j. Matmul (e.0 j) (e.1.0 j) (e.1.1.0 j)
  kind_named ids h (BatchMatmul x y outs) b e = λ j. BatchMatmul (e.0 j) (e.1.0 j) (e.1.1.0 j)
  kind_named ids h (Transpose source outs order) b e = λ j. Transpose (e.0 j) (e.1.0 j) order
  kind_named ids h (Broadcast source outs dims) b e = λ j. Broadcast (e.0 j) (e.1.0 j) dims
  kind_named ids h (Return vs) b e = λ j. Return (all_named h vs e j)
  kind_named ids h kind b e = absurd cc

  -- OPERATIONS
  operands_named : (rows : List Row) (rest : List ℕ) (vs : List ValueId) → all ≡ values_of rows ++ rest → redefines rest (values_of rows) ≡ false →
      Each (λ v. is_among v.0 (values_of rows) ≡ true) vs → Each (λ v. number_in base rows v ≡ value num v) vs
  operands_named rows rest [] e h k = tt
  operands_named rows rest (v ∷ vs) e h k = (known_number rows rest v e (known_absent v.0 rest (values_of rows) h k.0), operands_named rows rest vs e h k.1)

  -- an operation with one result, or with none, and the rows behind it
  pub record Goes (ids : ℕ → ℕ) (n : Names) (rs : Scope) (kind : OpKind) (rest : List ℕ) : Type 0 where
    pub results : results_renumbered (length n.rows + base) rs ≡ defined ids num num rs
    pub rows : values_of (names_after n rs kind).rows ≡ values_of n.rows ++ numbers rs

  goes_none : (ids : ℕ → ℕ) (n : Names) (rs : Scope) (kind : OpKind) (rest : List ℕ) → rs ≡ [] → Goes ids n rs kind rest
  goes_none ids n rs kind rest e = subst (λ qs. Goes ids n qs kind rest) (sym e) (record { results = refl; rows = sym (append-nil (values_of n.rows)) })

  goes_line : (ids : ℕ → ℕ) (n : Names) (rs : Scope) (kind : OpKind) (rest : List ℕ) → IsPrintableLine n.rows rs kind →
      all ≡ values_of n.rows ++ (numbers rs ++ rest) → redefines (numbers rs ++ rest) (values_of n.rows) ≡ false → Goes ids n rs kind rest
  goes_line ids n [] kind rest p e h = absurd p
  goes_line ids n (r ∷ []) kind rest p e h =
      let own = not_behind (values_of n.rows) (r.0).0 rest h in
      let size = values_length n.rows in
      let count : base + length (values_of n.rows) ≡ length n.rows + base = omega (arith, size) in
      let here : length n.rows + base ≡ num (r.0).0 = sym (own_number (values_of n.rows) (r.0).0 rest e own.0 ∙ count) in
      record {
        results = λ j. (record { 0 = here j }, r.1) ∷ [];
        rows = values_more n.rows _;
      }
  goes_line ids n (r ∷ (s ∷ rs)) kind rest p e h = absurd p

  goes : (ids : ℕ → ℕ) (n : Names) (o : Op) (os : List Op) (rest : List ℕ) → ArePrintableOps n (o ∷ os) →
      all ≡ values_of n.rows ++ (numbers o.results ++ rest) → redefines (numbers o.results ++ rest) (values_of n.rows) ≡ false → Goes ids n o.results o.kind rest
  goes ids n o [] rest p e h = goes_none ids n o.results o.kind rest p.0
  goes ids n o (q ∷ os) rest p e h = goes_line ids n o.results o.kind rest p.0 e h

  later : (n : Names) (o : Op) (os : List Op) → ArePrintableOps n (o ∷ os) → (os ≡ []) ⊎ ArePrintableOps (next n o) os
  later n o [] p = inl refl
  later n o (q ∷ os) p = inr p.1

  -- what a body defines, where its operations have no arguments of their own
  defines_results : (o : Op) (os : List Op) → is_built_kind o.kind ≡ true → flat_map defined_by (o ∷ os) ≡ numbers o.results ++ flat_map defined_by os
  defines_results o os b = ap (λ xs. (numbers o.results ++ xs) ++ flat_map defined_by os) (no_arguments o.kind b) ∙ ap (λ xs. xs ++ flat_map defined_by os) (append-nil (numbers o.results))

  pub ops_named : (ids : ℕ → ℕ) (k : ℕ) (n : Names) (scope : Scope) (wanted : List Ty) (os : List Op) → BodyPasses scope wanted os → (os ≡ []) ⊎ ArePrintableOps n os →
      numbers scope ≡ values_of n.rows → all ≡ values_of n.rows ++ flat_map defined_by os → redefines (flat_map defined_by os) (values_of n.rows) ≡ false →
      AreAlike (renamed_ops ids num num os) (ops_renumbered base k n os)
  ops_named ids k n scope wanted [] b p s e h = tt
  ops_named ids k n scope wanted (o ∷ os) b (inl none) s e h = absurd (cc none)
  ops_named ids k n scope wanted (o ∷ os) b (inr p) s e h =
      let built = built_kind scope wanted o b.0 in
      let parts = defines_results o os built in
      let e' : all ≡ values_of n.rows ++ (numbers o.results ++ flat_map defined_by os) = e ∙ (λ j. values_of n.rows ++ parts j) in
      let h' : redefines (numbers o.results ++ flat_map defined_by os) (values_of n.rows) ≡ false = (λ j. redefines (sym parts j) (values_of n.rows)) ∙ h in
      let g = goes ids n o os (flat_map defined_by os) p e' h' in
      let known : Each (λ v. is_among v.0 (values_of n.rows) ≡ true) (operands o.kind) =
      subst (λ ns. Each (λ v. is_among v.0 ns ≡ true) (operands o.kind)) s (known_among scope (operands o.kind) (b.0).known) in
      let uses = operands_named n.rows (flat_map defined_by (o ∷ os)) (operands o.kind) e h known in (
        g.results,
        kind_named ids (number_in base n.rows) o.kind built uses,
        ops_named ids (suc k) (next n o) (scope ++ o.results) wanted os b.2 (later n o os p)
            (numbers_more scope o.results ∙ (λ j. s j ++ numbers o.results) ∙ sym g.rows)
            (e' ∙ sym (append_assoc (values_of n.rows) (numbers o.results) (flat_map defined_by os)) ∙ (λ j. sym g.rows j ++ flat_map defined_by os))
            ((λ j. redefines (flat_map defined_by os) (g.rows j)) ∙ (own_parts (numbers o.results) (flat_map defined_by os) (values_of n.rows) h').1),
      )

  -- WHAT IS NAMED
  abbrev pub Own : List ℕ → Type 0
  Own ns = (v : ℕ) → is_among v ns ≡ true → is_own v ≡ true

  pub own_names : (rs : Scope) → Own (numbers rs) → AreIn is_own (names_of rs)
  own_names [] h = tt
  own_names (r ∷ rs) h = (h (r.0).0 (λ j. eq-eqb (r.0).0 (r.0).0 refl j || is_among (r.0).0 (numbers rs)), own_names rs (λ v k. h v (among_right v ((r.0).0 ∷ []) (numbers rs) k)))

  own_known : (ns : List ℕ) (vs : List ValueId) → Own ns → Each (λ v. is_among v.0 ns ≡ true) vs → AreIn is_own vs
  own_known ns [] h k = tt
  own_known ns (v ∷ vs) h k = (h v.0 k.0, own_known ns vs h k.1)

  either_own : (xs ys : List ℕ) → Own xs → Own ys → Own (xs ++ ys)
  either_own xs ys h k w m = by_left (is_among w xs) refl (sym (among_append w xs ys) ∙ m)
    where
      by_left : (b : Bool) → is_among w xs ≡ b → (is_among w xs || is_among w ys) ≡ true → is_own w ≡ true
      by_left true e q = h w e
      by_left false e q = k w (sym (λ j. e j || is_among w ys) ∙ q)

  pub within : (scope : Scope) (wanted : List Ty) (os : List Op) → BodyPasses scope wanted os → Own (numbers scope) → Own (flat_map defined_by os) → Each (IsWithin is_own) os
  within scope wanted [] b s d = tt
  within scope wanted (o ∷ os) b s d =
      let results : Own (numbers o.results) = λ v m. d v (among_left v (defined_by o) (flat_map defined_by os) (among_left v (numbers o.results) (arguments o.kind) m)) in (
        record {
          reads = own_known (numbers scope) (operands o.kind) s (known_among scope (operands o.kind) (b.0).known);
          defines = own_names o.results results;
        },
        within (scope ++ o.results) wanted os b.2
            (subst Own (sym (numbers_more scope o.results)) (either_own (numbers scope) (numbers o.results) s results))
            (λ v m. d v (among_right v (defined_by o) (flat_map defined_by os) m)),
      )
