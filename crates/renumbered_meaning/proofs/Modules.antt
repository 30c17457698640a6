-- The functions of a verified module under the numbers of its text.
use Rattle.std.proofs.Common.{◌≡◌, inr, ℕ, ◌+◌, suc, Bool, true, false, List, [], ◌∷◌, ◌++◌, length, refl, ap, sym, ◌∙◌, arith, append_assoc, append-nil}
use Rattle.std.specs.List.{flat_map}
use Rattle.mlir_ir.specs.Shape.{FuncShape, TensorShape}
use Rattle.mlir_ir.specs.Count.{operands}
use Rattle.mlir_ir.specs.declared.tree.Op.{Op}
use Rattle.mlir_ir.specs.declared.tree.OpKind.{OpKind, For', Forall'}
use Rattle.mlir_meaning.specs.Grids.{Each}
use Rattle.mlir_meaning.specs.Meaning.{answer_of, initial_state, meaning}
use Rattle.mlir_meaning.specs.Names.{AreIn, OpsReadOnly, OpsDefineOnly, ReadsOnly}
use Rattle.mlir_meaning.specs.Renaming.{renamed_ops, defined}
use Rattle.mlir_meaning.specs.States.{names_of}
use Rattle.mlir_meaning.proofs.Renamed.{renaming_keeps}
use Rattle.mlir_print.specs.Canonical.{names_in, after_params}
use Rattle.mlir_print.specs.declared.names.Given.TheVariants.{Argument}
use Rattle.mlir_print.specs.Names.{Names, row_of, nothing, with_argument}
use Rattle.mlir_print.specs.Renumbered.{results_renumbered, ops_renumbered, func_renumbered, funcs_renumbered, values_in}
use Rattle.mlir_roundtrip.specs.Printable.{IsPrintableFunc, ArePrintable}
use Rattle.mlir_verify.specs.Built.{is_built_kind}
use Rattle.mlir_verify.specs.Names.{numbers, defined_by, defined_in, redefines}
use Rattle.verified_runs.specs.Passes.{Scope, BodyPasses, FuncPasses}
use Rattle.verified_runs.specs.Typed.{types_of}
use Rattle.verified_runs.proofs.Places.{built_kind, defines_none}
use Rattle.step_results.proofs.Modules.{verified_module}
use Rattle.step_results.proofs.Numbers.{among_left, among_right, own_parts, still_own}
use Rattle.renumbered_meaning.specs.Laws.{MeansTheSame, MeanTheSame, RenumberedMeans}
use Rattle.renumbered_meaning.proofs.Spots.{values_of}
use Rattle.renumbered_meaning.proofs.Alike.{AreAlike, alike_run}
use Rattle.renumbered_meaning.proofs.Numbered.{num, back, is_own, returns, params_named, ops_named, own_names, IsWithin, within, values_more}

params_values : (n : Names) (ps : Scope) → values_of (after_params n ps).rows ≡ values_of n.rows ++ numbers ps
params_values n [] = sym (append-nil (values_of n.rows))
params_values n (p ∷ ps) =
    params_values (with_argument n p.0 p.1) ps ∙ (λ j. values_more n.rows (row_of p.0 (Argument n.args) p.1) j ++ numbers ps) ∙ append_assoc (values_of n.rows) ((p.0).0 ∷ []) (numbers ps)

types_kept : (b : ℕ) (ps : Scope) → types_of (results_renumbered b ps) ≡ types_of ps
types_kept b [] = refl
types_kept b (p ∷ ps) = λ j. p.1 ∷ types_kept (suc b) ps j

reads_kind : (N : ℕ → Bool) (kind : OpKind) → is_built_kind kind ≡ true → AreIn N (operands kind) → ReadsOnly N kind
unfolding ReadsOnly
reads_kind N (For' var lower upper step carried shape row) b h = absurd cc
reads_kind N (Forall' vars lower upper step shared shape row) b h = absurd cc
reads_kind N kind b h = h

-- a function, and its numbers: none stands twice
module _ (base k : ℕ) (f : FuncShape) (p : IsPrintableFunc f) (h : FuncPasses f) (own : redefines (numbers f.params ++ flat_map defined_by f.body) [] ≡ false) where
  abbrev same : ℕ → ℕ
  same i = i

  abbrev to : ℕ → ℕ
  to = num base (numbers f.params ++ flat_map defined_by f.body)

  abbrev from : ℕ → ℕ
  from = back base (numbers f.params ++ flat_map defined_by f.body)

  abbrev N : ℕ → Bool
  N = is_own base (numbers f.params ++ flat_map defined_by f.body)

  back_again : (v : ℕ) → N v ≡ true → from (to v) ≡ v
  back_again = returns base (numbers f.params ++ flat_map defined_by f.body)

  params_new : results_renumbered base f.params ≡ defined same to to f.params
  params_new = params_named base (numbers f.params ++ flat_map defined_by f.body) same [] f.params (flat_map defined_by f.body) refl own base (omega arith)

  rows_are : values_of (names_in f).rows ≡ numbers f.params
  rows_are = params_values nothing f.params

  body_new : AreAlike (renamed_ops same to to f.body) (ops_renumbered base k (names_in f) f.body)
  body_new = ops_named base (numbers f.params ++ flat_map defined_by f.body) same k (names_in f) f.params f.results f.body h.body (inr p.ops) (sym rows_are)
      (λ j. sym rows_are j ++ flat_map defined_by f.body)
      ((λ j. redefines (flat_map defined_by f.body) (rows_are j)) ∙ (own_parts (numbers f.params) (flat_map defined_by f.body) [] own).1)

  own_params : AreIn N (names_of f.params)
  own_params = own_names base (numbers f.params ++ flat_map defined_by f.body) f.params (λ v m. among_left v (numbers f.params) (flat_map defined_by f.body) m)

  all_within : Each (IsWithin N) f.body
  all_within = within base (numbers f.params ++ flat_map defined_by f.body) f.params f.results f.body h.body
      (λ v m. among_left v (numbers f.params) (flat_map defined_by f.body) m) (λ v m. among_right v (numbers f.params) (flat_map defined_by f.body) m)

  reads_all : (scope : Scope) (os : List Op) → BodyPasses scope f.results os → Each (IsWithin N) os → OpsReadOnly N os
  reads_all scope [] b w = tt
  reads_all scope (o ∷ os) b w = (reads_kind N o.kind (built_kind scope f.results o b.0) (w.0).reads, reads_all (scope ++ o.results) os b.2 w.1)

  defines_all : (scope : Scope) (os : List Op) → BodyPasses scope f.results os → Each (IsWithin N) os → OpsDefineOnly (λ v. N v ≡ true) os
  defines_all scope [] b w = tt
  defines_all scope (o ∷ os) b w = (((w.0).defines, defines_none (λ v. N v ≡ true) o.kind (built_kind scope f.results o b.0)), defines_all (scope ++ o.results) os b.2 w.1)

  means_new : (inputs : List TensorShape) → meaning (func_renumbered base k f) inputs ≡ meaning f inputs
  unfolding meaning
  means_new inputs =
      (λ j. answer_of (alike_run (renamed_ops same to to f.body) (ops_renumbered base k (names_in f) f.body) body_new j (initial_state (params_new j) inputs)))
      ∙ renaming_keeps N same to f inputs
      (record { params = own_params; reads = reads_all f.params f.body h.body all_within; defines = defines_all f.params f.body h.body all_within })
      (λ v w hv hw e. sym (back_again v hv) ∙ ap from e ∙ back_again w hw)

  pub same_new : MeansTheSame f (func_renumbered base k f)
  same_new = record { name = refl; params = types_kept base f.params; results = refl; means = λ inputs typed. means_new inputs }

-- ---- modules

each_all : (ns : List ℕ) → Each (λ n. Unit {0}) ns
each_all [] = tt
each_all (n ∷ ns) = (tt, each_all ns)

-- the numbers of a function among those of others
own_first : (f : FuncShape) (fs : List FuncShape) (known : List ℕ) → redefines (defined_in (f ∷ fs)) known ≡ false →
    (redefines (numbers f.params ++ flat_map defined_by f.body) [] ≡ false) × (redefines (defined_in fs) (known ++ (numbers f.params ++ flat_map defined_by f.body)) ≡ false)
own_first f fs known e =
    let parts = own_parts (numbers f.params ++ flat_map defined_by f.body) (defined_in fs) known e in
    (still_own (λ n. Unit {0}) (numbers f.params ++ flat_map defined_by f.body) known [] (λ v t q. refl) (each_all (numbers f.params ++ flat_map defined_by f.body)) parts.0, parts.1)

funcs_same : (fs : List FuncShape) (base k : ℕ) (known : List ℕ) → ArePrintable fs → Each FuncPasses fs → redefines (defined_in fs) known ≡ false → MeanTheSame fs (funcs_renumbered base k fs)
funcs_same [] base k known p h e = tt
funcs_same (f ∷ fs) base k known p h e =
    let own = own_first f fs known e in
    (same_new base k f p.0 h.0 own.0, funcs_same fs (base + values_in f) (k + length f.body) (known ++ (numbers f.params ++ flat_map defined_by f.body)) p.1 h.1 own.1)

pub renumbered_means : RenumberedMeans
renumbered_means f p v =
    let m = verified_module f.module v in
    funcs_same f.module.funcs 0 0 [] p.funcs m.funcs (m.numbers).values
