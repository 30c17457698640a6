-- A function that passes the verifier means what it meant after its first pair is fused, and after all are.
use Rattle.std.proofs.Common.{◌≡◌, ℕ, zero, suc, List, ◌∷◌, ◌++◌, length, Option, Some, None, Ok, refl, ap, sym, subst, ◌∙◌}
use Rattle.mlir_ir.specs.Count.{uses_op}
use Rattle.mlir_ir.specs.Shape.{FuncShape, TensorShape}
use Rattle.mlir_meaning.specs.Meaning.{meaning}
use Rattle.mlir_verify.specs.Place.{type_among}
use Rattle.verified_runs.specs.Typed.{AreOf, AreTyped, types_of}
use Rattle.verified_runs.specs.Passes.{FuncPasses}
use Rattle.pair_laws.specs.FuseAll.{Pair, first_pair, fuse_pair, fuse_next, fuse_from}
use Rattle.pair_laws.specs.Pairs.{Stands}
use Rattle.pair_laws.specs.Laws.{FirstPairStands, FirstPairKeepsMeaning, FuseAllPasses, FuseAllKeepsMeaning}
use Rattle.pair_laws.proofs.Ending.{same_ok, goes_on}
use Rattle.pair_laws.proofs.Found.{IsFound, pair_found}
use Rattle.pair_laws.proofs.Formed.{fused_passes}
use Rattle.pair_laws.proofs.Pairing.{pair_keeps}
use Rattle.pair_laws.proofs.Premises.{p_types, produces_there, pairs_there}
use Rattle.pair_laws.proofs.Scopes.{scope_after-append}
use Rattle.pair_laws.proofs.Uses.{unused_front, unused_rest}

pub first_pair_stands : FirstPairStands
first_pair_stands f x passes found safe = stands (pair_found f x found) where
  stands : IsFound f.params f.body x → Stands f x.before x.mid x.after x.producer x.consumer x.p x.c x.k x.m x.ds
  stands i =
      let one : uses_op i.result (x.before ++ (x.producer ∷ (x.mid ++ (x.consumer ∷ x.after)))) ≡ 1 = ap (uses_op i.result) (sym i.is) ∙ i.one_use in
      record {
        passes = passes;
        body = i.is;
        p_kind = i.p_kind;
        c_kind = i.c_kind;
        result = i.result;
        ty = i.ty;
        defines_it = i.defines_it;
        operand = i.operand;
        fits = (p_types f x passes i).payload;
        no_trap = safe;
        produces = λ u typed. produces_there f x passes i u typed;
        pairs = λ u typed. pairs_there f x passes i u (subst (λ s. AreTyped (type_among s) u) (scope_after-append f.params x.before (x.producer ∷ x.mid)) typed);
        unused_before = unused_front i.result x.p x.c x.k x.m x.ds i.operand x.before x.mid x.after x.producer x.consumer i.p_kind i.c_kind one;
        unused_after = unused_rest i.result x.p x.c x.k x.m x.ds i.operand x.before x.mid x.after x.producer x.consumer i.p_kind i.c_kind one;
      }

pub first_pair_keeps : FirstPairKeepsMeaning
first_pair_keeps f x passes found safe =
    pair_keeps f x.before x.mid x.after x.producer x.consumer x.p x.c x.k x.m x.ds (first_pair_stands f x passes found safe)

passes_all : (n : ℕ) (f g : FuncShape) → FuncPasses f → fuse_from n f ≡ Ok g → FuncPasses g
passes_all zero f g passes h = subst FuncPasses (same_ok f g (fuse_from zero f) refl h) passes
passes_all (suc n) f g passes h = by (λ e w k. passes_all n e g w k) (first_pair f) refl h where
  by : ((e : FuncShape) → FuncPasses e → fuse_from n e ≡ Ok g → FuncPasses g) → (o : Option Pair) → first_pair f ≡ o → fuse_next (fuse_from n) f o ≡ Ok g → FuncPasses g
  by again None q k = subst FuncPasses (same_ok f g (fuse_next (fuse_from n) f None) refl k) passes
  by again (Some x) q k = let on = goes_on (fuse_from n) f g x k in again (fuse_pair f x) (fused_passes f x passes q on.small) on.rest

pub fuse_all_passes : FuseAllPasses
fuse_all_passes f g passes h = passes_all (length f.body) f g passes h

keeps : (n : ℕ) (f g : FuncShape) → FuncPasses f → fuse_from n f ≡ Ok g → (inputs : List TensorShape) → AreOf (types_of f.params) inputs → meaning g inputs ≡ meaning f inputs
keeps zero f g passes h inputs typed = ap (λ x. meaning x inputs) (sym (same_ok f g (fuse_from zero f) refl h))
keeps (suc n) f g passes h inputs typed = by (λ x w k. keeps n (fuse_pair f x) g w k inputs typed) (first_pair f) refl h where
  by : ((x : Pair) → FuncPasses (fuse_pair f x) → fuse_from n (fuse_pair f x) ≡ Ok g → meaning g inputs ≡ meaning (fuse_pair f x) inputs) →
      (o : Option Pair) → first_pair f ≡ o → fuse_next (fuse_from n) f o ≡ Ok g → meaning g inputs ≡ meaning f inputs
  by again None q k = ap (λ x. meaning x inputs) (sym (same_ok f g (fuse_next (fuse_from n) f None) refl k))
  by again (Some x) q k =
      let on = goes_on (fuse_from n) f g x k in again x (fused_passes f x passes q on.small) on.rest ∙ first_pair_keeps f x passes q on.no_trap inputs typed

pub fuse_all_keeps : FuseAllKeepsMeaning
fuse_all_keeps f g passes h inputs typed = keeps (length f.body) f g passes h inputs typed
