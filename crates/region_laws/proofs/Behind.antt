-- No captured value stands behind those in front, and what a payload yields isn't one.
use Rattle.std.proofs.Common.{◌≡◌, ℕ, ◌+◌, List, [], ◌∷◌, map, Option, ⊎_elim, ap, sym, ◌∙◌, ltb-true}
use Rattle.std.specs.Prelude.{option_map, nat_lt}
use Rattle.std.proofs.lemmas.Bool.{cases_Bool}
use Rattle.std.proofs.lemmas.Option.{same_Some}
use Rattle.payload_ops.specs.Payload.{IsPayload}
use Rattle.mlir_base.specs.declared.types.ElemTy.{ElemTy}
use Rattle.mlir_base.specs.declared.types.ElemTy.TheVariants.{Int, Index as IndexType}
use Rattle.payload_ops.specs.declared.step.Arg.{Arg}
use Rattle.payload_ops.specs.declared.step.Arg.TheVariants.{Input, Out, Step}
use Rattle.payload_ops.specs.declared.step.PayloadStep.{PayloadStep}
use Rattle.payload_ops.specs.declared.step.StepOp.{StepOp}
use Rattle.payload_ops.specs.declared.step.StepOp.TheVariants.{Const, Index, Captured, Linear, Binary, Compare, Select, SignExtend, ZeroExtend, Truncate, IndexCast}
use Rattle.mlir_meaning.specs.Grids.{count_up, Each}
use Rattle.mlir_meaning.proofs.Grids.{each-append}
use Rattle.payload_forms.specs.Moved.{captured_step, block, blocks, width}
use Rattle.payload_forms.specs.Captured.{in_front}
use Rattle.region_laws.specs.Captured.{IsBehind, IsNotCaptured}
use Rattle.region_laws.proofs.Moves.{get_left}
use Rattle.region_laws.proofs.Fronts.{front_at, yields}

abbrev pub AreFree : List PayloadStep → Type 0
AreFree = Each (λ (s : PayloadStep). IsNotCaptured s.op)

module _ (indices : ℕ → ℕ → List PayloadStep) (free : (d n : ℕ) → AreFree (indices d n)) (to : Arg → Arg) where
  block_free : (n : ℕ) (t : ElemTy) (op : StepOp) → AreFree (block indices to n t op)
  block_free n t (Index d) = free d n
  block_free n t (Captured k) = tt
  block_free n t (Const c) = (tt, tt)
  block_free n t (Linear c ts) = (tt, tt)
  block_free n t (Binary op a b) = (tt, tt)
  block_free n t (Compare c a b) = (tt, tt)
  block_free n t (Select c a b) = (tt, tt)
  block_free n t (SignExtend a) = (tt, tt)
  block_free n t (ZeroExtend a) = (tt, tt)
  block_free n t (Truncate a) = (tt, tt)
  block_free n t (IndexCast a) = (tt, tt)

  pub blocks_free : (n : ℕ) (ss : List PayloadStep) → AreFree (blocks indices to n ss)
  blocks_free n [] = tt
  blocks_free n (s ∷ ss) = each-append (λ (s : PayloadStep). IsNotCaptured s.op) (block indices to n s.ty s.op) (blocks indices to (n + width indices n s.op) ss) (block_free n s.ty s.op) (blocks_free (n + width indices n s.op) ss)

-- what a payload yields isn't a captured value, since that is an `index`
pub behind_yield : (c : ℕ) (ins : List ElemTy) (out : ElemTy) (rest : List PayloadStep) (w : ℕ) → out ≡ Int w → (yielded : Arg) → IsPayload (in_front c ins out rest yielded) → IsBehind c yielded
behind_yield c ins out rest w e (Input i) h = tt
behind_yield c ins out rest w e Out h = tt
behind_yield c ins out rest w e (Step i) h = ⊎_elim
    (λ t. absurd (not_index (same_Some IndexType out
    (sym (ap (λ (o : Option PayloadStep). option_map (λ (s : PayloadStep). s.ty) o) (get_left (map captured_step (count_up 0 c)) rest i (captured_step i) (front_at c i (ltb-true i c t))))
    ∙ yields (in_front c ins out rest (Step i)) h) ∙ e)))
    (λ f. f) (cases_Bool (nat_lt i c))
  where
    not_index : IndexType ≡ Int w → ⊥
    not_index q = cc
