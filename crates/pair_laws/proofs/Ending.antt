-- Fusing pairs ends in a function without one.
use Rattle.std.proofs.Common.{◌≡◌, ℕ, zero, suc, ◌≤◌, Bool, true, false, ◌∷◌, ◌++◌, length, Option, Some, None, Result, Ok, Err, refl, ap, sym, ◌∙◌, arith, length-append}
use Rattle.std.specs.Prelude.{if◌then◌else◌}
use Rattle.payload_laws.specs.Known.{may_trap}
use Rattle.mlir_ir.specs.Shape.{FuncShape}
use Rattle.verified_runs.specs.Forms.{kind_of}
use Rattle.pair_laws.specs.FuseAll.{Pair, fused_of, first_pair, fuse_pair, Stop, MayTrap, LargeNumber, has_small_maps, fuse_next, fuse_from}
use Rattle.pair_laws.specs.Laws.{FuseAllEnds}
use Rattle.pair_laws.proofs.Found.{IsFound, pair_found}

-- NONE IS LEFT
fewer : (f : FuncShape) (x : Pair) → IsFound f.params f.body x → suc (length (fuse_pair f x).body) ≡ length f.body
fewer f x i = omega (
  arith,
  ap length i.is,
  length-append x.before (x.producer ∷ (x.mid ++ (x.consumer ∷ x.after))),
  length-append x.mid (x.consumer ∷ x.after),
  length-append x.before (x.mid ++ (record { id = x.consumer.id; results = x.consumer.results; kind = kind_of (fused_of x) } ∷ x.after)),
  length-append x.mid (record { id = x.consumer.id; results = x.consumer.results; kind = kind_of (fused_of x) } ∷ x.after),
)

no_pair : (f : FuncShape) → length f.body ≤ 0 → (o : Option Pair) → first_pair f ≡ o → o ≡ None
no_pair f l None h = refl
no_pair f l (Some x) h = absurd (let e = fewer f x (pair_found f x h) in omega (arith, e, l))

abbrev answered : Result FuncShape Stop → FuncShape → FuncShape
answered (Ok f) g = f
answered (Err e) g = g

pub same_ok : (f g : FuncShape) (r : Result FuncShape Stop) → r ≡ Ok f → r ≡ Ok g → f ≡ g
same_ok f g r h k = ap (λ x. answered x f) (sym h ∙ k)

-- where fusing a pair goes on
pub record GoesOn (again : FuncShape → Result FuncShape Stop) (f g : FuncShape) (x : Pair) : Type 0 where
  pub no_trap : may_trap x.p.payload ≡ false
  pub small : has_small_maps (fused_of x) ≡ true
  pub rest : again (fuse_pair f x) ≡ Ok g

pub goes_on : (again : FuncShape → Result FuncShape Stop) (f g : FuncShape) (x : Pair) → fuse_next again f (Some x) ≡ Ok g → GoesOn again f g x
goes_on again f g x h = by (may_trap x.p.payload) refl (has_small_maps (fused_of x)) refl h where
  by : (b : Bool) → may_trap x.p.payload ≡ b → (c : Bool) → has_small_maps (fused_of x) ≡ c →
      (if b then Err (MayTrap x.producer.id) else (if c then again (fuse_pair f x) else Err LargeNumber)) ≡ Ok g → GoesOn again f g x
  by true p c q k = absurd cc
  by false p true q k = record { no_trap = p; small = q; rest = k }
  by false p false q k = absurd cc

ends : (n : ℕ) (f g : FuncShape) → length f.body ≤ n → fuse_from n f ≡ Ok g → first_pair g ≡ None
ends zero f g l h = ap first_pair (sym (same_ok f g (fuse_from zero f) refl h)) ∙ no_pair f l (first_pair f) refl
ends (suc n) f g l h = by (λ e m k. ends n e g m k) (first_pair f) refl h where
  by : ((e : FuncShape) → length e.body ≤ n → fuse_from n e ≡ Ok g → first_pair g ≡ None) → (o : Option Pair) → first_pair f ≡ o → fuse_next (fuse_from n) f o ≡ Ok g → first_pair g ≡ None
  by again None q k = ap first_pair (sym (same_ok f g (fuse_next (fuse_from n) f None) refl k)) ∙ q
  by again (Some x) q k = again (fuse_pair f x) (let e = fewer f x (pair_found f x q) in omega (arith, e, l)) (goes_on (fuse_from n) f g x k).rest

pub fuse_all_ends : FuseAllEnds
fuse_all_ends f g h = ends (length f.body) f g (omega arith) h
