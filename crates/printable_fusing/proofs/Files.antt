-- A printable file is printable after the pairs of one function are fused.
use Rattle.std.proofs.Common.{◌≡◌, ℕ, zero, suc, ◌≤◌, List, [], ◌∷◌, ◌++◌, length, Option, Some, None, Result, Ok, Err, refl, ap, sym, subst, ◌∙◌, arith}
use Rattle.std.specs.Prelude.{slice_get}
use Rattle.std.proofs.lemmas.Option.{same_Some, none-some}
use Rattle.mlir_ir.specs.Shape.{FuncShape}
use Rattle.mlir_ir.specs.declared.tree.Module.{Module}
use Rattle.mlir_meaning.specs.Grids.{Each}
use Rattle.mlir_verify.specs.Rules.{IsVerified}
use Rattle.verified_runs.specs.Passes.{FuncPasses}
use Rattle.verified_runs.proofs.Verified.{verified_passes}
use Rattle.pair_laws.specs.FuseAll.{Stop, fuse_all}
use Rattle.fuse_elementwise.specs.Fused.{with_func, formed_by, fused_at, fused_in}
use Rattle.mlir_scope.specs.Names.{place}
use Rattle.mlir_file.specs.declared.file.File.{File}
use Rattle.mlir_roundtrip.specs.Printable.{ArePrintable, AreNew, operations_in, IsPrintable}
use Rattle.printable_steps.specs.Laws.{with_module}
use Rattle.printable_fusing.specs.Laws.{FusedPrintable}
use Rattle.printable_fusing.proofs.Functions.{Prints, fused_prints}

-- ONE FUNCTION OF A LIST
func_there : (fs : List FuncShape) (n : ℕ) (f : FuncShape) → Each FuncPasses fs → slice_get fs n ≡ Some f → FuncPasses f
func_there [] zero f h e = absurd (none-some f e)
func_there [] (suc n) f h e = absurd (none-some f e)
func_there (g ∷ fs) zero f h e = subst FuncPasses (same_Some g f e) h.0
func_there (g ∷ fs) (suc n) f h e = func_there fs n f h.1 e

module _ (f g : FuncShape) (prints : Prints f g) where
  printable_put : (fs : List FuncShape) (n : ℕ) → slice_get fs n ≡ Some f → ArePrintable fs → ArePrintable (with_func n g fs)
  printable_put [] n e h = tt
  printable_put (k ∷ fs) zero e h = (prints.printable (subst (λ (x : FuncShape). ArePrintable (x ∷ [])) (same_Some k f e) (h.0, tt)).0, h.1)
  printable_put (k ∷ fs) (suc n) e h = (h.0, printable_put fs n e h.1)

  names_put : (names : List (List ℕ)) (fs : List FuncShape) (n : ℕ) → slice_get fs n ≡ Some f →
      AreNew names fs → AreNew names (with_func n g fs)
  names_put names [] n e h = tt
  names_put names (k ∷ fs) zero e h =
      let same : k.name ≡ g.name = ap (λ (x : FuncShape). x.name) (same_Some k f e) ∙ sym prints.name in
      subst (λ (name : List ℕ). (place 0 names name ≡ None) × AreNew (names ++ name ∷ []) fs) same h
  names_put names (k ∷ fs) (suc n) e h = (h.0, names_put (names ++ k.name ∷ []) fs n e h.1)

  count_put : (fs : List FuncShape) (n : ℕ) → slice_get fs n ≡ Some f → operations_in (with_func n g fs) ≤ operations_in fs
  count_put [] n e = omega arith
  count_put (k ∷ fs) zero e =
      let l = prints.few in
      let same : length k.body ≡ length f.body = ap (λ (x : FuncShape). length x.body) (same_Some k f e) in
      omega (arith, l, same)
  count_put (k ∷ fs) (suc n) e = let l = count_put fs n e in omega (arith, l)

-- THE FILE
abbrev module_or : Module → Result Module Stop → Module
module_or m (Ok formed) = formed
module_or m (Err e) = m

abbrev formed_ok : Module → Result Module Stop
formed_ok m = Ok m

ok_same : (a b : Module) → formed_ok a ≡ formed_ok b → a ≡ b
ok_same a b h = ap (λ (r : Result Module Stop). module_or a r) h

module _ (f : File) (n : ℕ) (printable : IsPrintable f) (verified : IsVerified f.module) where
  put_printable : (a b : FuncShape) → slice_get f.module.funcs n ≡ Some a → fuse_all a ≡ Ok b →
      IsPrintable (with_module f (record { funcs = with_func n b f.module.funcs }))
  put_printable a b there all =
      let prints = fused_prints a b (func_there f.module.funcs n a (verified_passes f.module verified) there) all in
      let l = printable.few_ops in
      let m = count_put a b prints f.module.funcs n there in
      record {
        funcs = printable_put a b prints f.module.funcs n there printable.funcs;
        names = names_put a b prints [] f.module.funcs n there printable.names;
        few_ops = omega (arith, l, m);
        script = printable.script;
      }

  formed_printable : (formed : Module) → fused_in n f.module ≡ Ok formed → IsPrintable (with_module f formed)
  formed_printable formed h = by (slice_get f.module.funcs n) refl h where
    by_all : (a : FuncShape) → slice_get f.module.funcs n ≡ Some a → (r : Result FuncShape Stop) → fuse_all a ≡ r →
        formed_by n f.module r ≡ Ok formed → IsPrintable (with_module f formed)
    by_all a q (Ok b) e k =
        subst (λ (m : Module). IsPrintable (with_module f m)) (ok_same (record { funcs = with_func n b f.module.funcs }) formed k)
        (put_printable a b q e)
    by_all a q (Err s) e k = absurd cc

    by : (o : Option FuncShape) → slice_get f.module.funcs n ≡ o → fused_at n f.module o ≡ Ok formed → IsPrintable (with_module f formed)
    by None q k = subst (λ (m : Module). IsPrintable (with_module f m)) (ok_same f.module formed k) printable
    by (Some a) q k = by_all a q (fuse_all a) refl k

pub fused_printable : FusedPrintable
fused_printable f n formed printable verified h = formed_printable f n printable verified formed h
