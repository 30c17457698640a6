-- The module with a function's pairs fused.
use Rattle.std.proofs.Common.{◌≡◌, ℕ, zero, suc, ◌<◌, ◌&&◌, true, false, List, [], ◌∷◌, ◌++◌, take, drop, length, get_or, Option, Some, None, refl, ap, sym, subst, ◌∙◌, arith}
use Rattle.std.specs.Prelude.{Result, Ok, Err, slice_get, insert, remove}
use Rattle.std.specs.List.{flat_map, list_all}
use Rattle.std.proofs.lemmas.Bool.{and_parts}
use Rattle.std.proofs.lemmas.Grind.{flat_map-append}
use Rattle.std.proofs.lemmas.List.Folds.{list_all-append}
use Rattle.std.proofs.lemmas.Option.{same_Some, none-some}
use Rattle.mlir_ir.specs.Shape.{FuncShape}
use Rattle.mlir_ir.specs.declared.tree.Module.{Module}
use Rattle.mlir_meaning.specs.Grids.{Each}
use Rattle.mlir_meaning.proofs.Grids.{each-append}
use Rattle.mlir_meaning.proofs.Through.{each_left, each_right}
use Rattle.mlir_verify.specs.Names.{ids, redefines}
use Rattle.mlir_verify.specs.Rules.{IsVerified}
use Rattle.verified_runs.specs.Passes.{FuncPasses}
use Rattle.pair_laws.specs.FuseAll.{fuse_all, Stop}
use Rattle.pair_laws.proofs.Keeping.{fuse_all_keeps, fuse_all_passes}
use Rattle.step_results.specs.Modules.{is_small_func, ModulePasses}
use Rattle.step_results.proofs.Modules.{module_verifies, verified_module}
use Rattle.fuse_elementwise.specs.Fused.{with_func, formed_by, fused_at, fused_in, AnswersModule, FusedKeepsMeaning, FusedVerifies, KeepMeanings}
use Rattle.fuse_elementwise.specs.Turns.{AnswersFunc}
use Rattle.fuse_elementwise.specs.declared.turn.Stopped.{Stopped}
use Rattle.fuse_elementwise.specs.declared.turn.Stopped.TheVariants.{MayTrap, LargeNumber, Memory}
use Rattle.fuse_elementwise.proofs.Searching.{parts_at}
use Rattle.fuse_elementwise.proofs.Shrinking.{defined, fused_shrinks}

abbrev answered : {A E : Type 0} → Result A E → A → A
answered (Ok a) b = a
answered (Err e) b = b

abbrev formed_ok : Module → Result Module Stop
formed_ok m = Ok m

ok_same : (a b : Module) → formed_ok a ≡ formed_ok b → a ≡ b
ok_same a b h = ap (λ (r : Result Module Stop). answered r a) h

-- PLACES
pub func_there : (fs : List FuncShape) (n : ℕ) (f : FuncShape) → n < length fs → f ≡ get_or fs n f → slice_get fs n ≡ Some f
func_there [] n f l e = absurd (omega (arith, l))
func_there (g ∷ fs) zero f l e = ap (λ g. Some g) (sym e)
func_there (g ∷ fs) (suc n) f l e = func_there fs n f (omega (arith, l)) e

pub func_passes : (fs : List FuncShape) (n : ℕ) (f : FuncShape) → Each FuncPasses fs → slice_get fs n ≡ Some f → FuncPasses f
func_passes [] zero f h e = absurd (none-some f e)
func_passes [] (suc n) f h e = absurd (none-some f e)
func_passes (g ∷ fs) zero f h e = subst FuncPasses (same_Some g f e) h.0
func_passes (g ∷ fs) (suc n) f h e = func_passes fs n f h.1 e

pub func_put : (fs : List FuncShape) (n : ℕ) (g : FuncShape) → n < length fs → insert (remove fs n) n g ≡ with_func n g fs
func_put [] n g l = absurd (omega (arith, l))
func_put (f ∷ fs) zero g l = refl
func_put (f ∷ fs) (suc n) g l = ap (λ l. f ∷ l) (func_put fs n g (omega (arith, l)))

put_parts : (fs : List FuncShape) (n : ℕ) (f g : FuncShape) → slice_get fs n ≡ Some f → with_func n g fs ≡ take n fs ++ (g ∷ drop (suc n) fs)
put_parts [] zero f g e = absurd (none-some f e)
put_parts [] (suc n) f g e = absurd (none-some f e)
put_parts (h ∷ fs) zero f g e = refl
put_parts (h ∷ fs) (suc n) f g e = ap (λ l. h ∷ l) (put_parts fs n f g e)

-- IT VERIFIES
module _ (n : ℕ) (m : Module) (f g : FuncShape) (verified : IsVerified m) (there : slice_get m.funcs n ≡ Some f) (all : fuse_all f ≡ Ok g) where
  abbrev front : List FuncShape
  front = take n m.funcs

  abbrev back : List FuncShape
  back = drop (suc n) m.funcs

  parts : m.funcs ≡ front ++ (f ∷ back)
  parts = parts_at m.funcs n f there

  old : ModulePasses m
  old = verified_module m verified

  abbrev own_ids : FuncShape → List ℕ
  own_ids f = ids f.body

  values : redefines (flat_map defined (front ++ (g ∷ back))) [] ≡ false
  values =
      ap (λ l. redefines l []) (flat_map-append defined front (g ∷ back))
      ∙ (fused_shrinks f g all).values (flat_map defined front) (flat_map defined back)
      (ap (λ l. redefines l []) (sym (ap (flat_map defined) parts ∙ flat_map-append defined front (f ∷ back))) ∙ old.numbers.values)

  ops : redefines (flat_map own_ids (front ++ (g ∷ back))) [] ≡ false
  ops =
      ap (λ l. redefines l []) (flat_map-append own_ids front (g ∷ back))
      ∙ (fused_shrinks f g all).ops (flat_map own_ids front) (flat_map own_ids back)
      (ap (λ l. redefines l []) (sym (ap (flat_map own_ids) parts ∙ flat_map-append own_ids front (f ∷ back))) ∙ old.numbers.ops)

  passes : Each FuncPasses (front ++ (g ∷ back))
  passes =
      let split = subst (Each FuncPasses) parts old.funcs in
      let rest = each_right FuncPasses front (f ∷ back) split in
      each-append FuncPasses front (g ∷ back) (each_left FuncPasses front (f ∷ back) split) (fuse_all_passes f g rest.0 all, rest.1)

  small : list_all is_small_func (front ++ (g ∷ back)) ≡ true
  small =
      let split = and_parts (list_all is_small_func front) (list_all is_small_func (f ∷ back))
      (sym (ap (list_all is_small_func) parts ∙ list_all-append is_small_func front (f ∷ back)) ∙ old.small) in
      let rest = and_parts (is_small_func f) (list_all is_small_func back) split.1 in
      list_all-append is_small_func front (g ∷ back) ∙ (λ j. split.0 j && ((fused_shrinks f g all).small rest.0 j && rest.1 j))

  pub put_verifies : IsVerified (record { funcs = with_func n g m.funcs })
  put_verifies =
      subst (λ (fs : List FuncShape). IsVerified (record { funcs = fs })) (sym (put_parts m.funcs n f g there))
      (module_verifies (record { funcs = front ++ (g ∷ back) }) (record { funcs = passes; numbers = record { values = values; ops = ops }; small = small }))

-- WHAT IS FORMED
module _ (P : Module → Type 0) (n : ℕ) (m : Module) (same : P m)
    (put : (f g : FuncShape) → slice_get m.funcs n ≡ Some f → fuse_all f ≡ Ok g → P (record { funcs = with_func n g m.funcs })) where
  by_formed : (formed : Module) → fused_in n m ≡ Ok formed → P formed
  by_formed formed h = by (slice_get m.funcs n) refl h where
    by_all : (f : FuncShape) → slice_get m.funcs n ≡ Some f → (r : Result FuncShape Stop) → fuse_all f ≡ r → formed_by n m r ≡ Ok formed → P formed
    by_all f q (Ok g) e k = subst P (ok_same (record { funcs = with_func n g m.funcs }) formed k) (put f g q e)
    by_all f q (Err s) e k = absurd cc

    by : (o : Option FuncShape) → slice_get m.funcs n ≡ o → fused_at n m o ≡ Ok formed → P formed
    by None q k = subst P (ok_same m formed k) same
    by (Some f) q k = by_all f q (fuse_all f) refl k

pub fused_verifies : FusedVerifies
fused_verifies n m formed verified h = by_formed IsVerified n m verified (λ f g q e. put_verifies n m f g verified q e) formed h

-- IT MEANS THE SAME
same_meanings : (fs : List FuncShape) → KeepMeanings fs fs
same_meanings [] = tt
same_meanings (f ∷ fs) = ((λ inputs typed. refl), same_meanings fs)

put_keeps : (fs : List FuncShape) (n : ℕ) (f g : FuncShape) → Each FuncPasses fs → slice_get fs n ≡ Some f → fuse_all f ≡ Ok g → KeepMeanings fs (with_func n g fs)
put_keeps [] zero f g h q e = absurd (none-some f q)
put_keeps [] (suc n) f g h q e = absurd (none-some f q)
put_keeps (k ∷ fs) zero f g h q e =
    let same = same_Some k f q in ((λ inputs typed. fuse_all_keeps k g h.0 (ap fuse_all same ∙ e) inputs typed), same_meanings fs)
put_keeps (k ∷ fs) (suc n) f g h q e = ((λ inputs typed. refl), put_keeps fs n f g h.1 q e)

pub fused_keeps : FusedKeepsMeaning
fused_keeps n m formed verified h =
    by_formed (λ (x : Module). KeepMeanings m.funcs x.funcs) n m (same_meanings m.funcs) (λ f g q e. put_keeps m.funcs n f g (verified_module m verified).funcs q e) formed h

-- THE CODE'S ANSWER
pub fused_is : (n : ℕ) (m : Module) (f g : FuncShape) → slice_get m.funcs n ≡ Some f → fuse_all f ≡ Ok g → fused_in n m ≡ Ok (record { funcs = with_func n g m.funcs })
fused_is n m f g q e = ap (fused_at n m) q ∙ ap (formed_by n m) e

pub stopped_is : (n : ℕ) (m : Module) (f : FuncShape) (e : Stopped) → slice_get m.funcs n ≡ Some f → AnswersFunc f (Err e) → AnswersModule n m (Err e)
stopped_is n m f (MayTrap i) q h = ap (fused_at n m) q ∙ ap (formed_by n m) h
stopped_is n m f LargeNumber q h = ap (fused_at n m) q ∙ ap (formed_by n m) h
stopped_is n m f Memory q h = tt
