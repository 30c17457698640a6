-- The payload of a fused generic has a text: the steps of both have one, and those that stand for a dimension of the producer name
-- dimensions that are there.
use Rattle.std.proofs.Common.{◌≡◌, ℕ, suc, ◌+◌, ◌≤◌, true, ℤ, List, [], ◌∷◌, ◌++◌, map, length, refl, arith, ltb-true}
use Rattle.std.specs.List.{AllByRecursion, list_all}
use Rattle.std.proofs.lemmas.Bool.{and_parts}
use Rattle.affine_maps.specs.Shape.{MapShape}
use Rattle.affine_maps.specs.declared.map.Expr.{Expr}
use Rattle.mlir_base.specs.declared.types.ElemTy.{ElemTy}
use Rattle.payload_ops.specs.declared.step.Arg.{Arg}
use Rattle.payload_ops.specs.declared.step.PayloadStep.{PayloadStep}
use Rattle.payload_ops.specs.declared.step.StepOp.{StepOp}
use Rattle.payload_ops.specs.declared.step.StepOp.TheVariants.{Const, Index, Captured}
use Rattle.mlir_meaning.specs.Grids.{Each, count_up}
use Rattle.mlir_meaning.proofs.Grids.{each-append}
use Rattle.mlir_verify.specs.Types.{names_present}
use Rattle.verified_runs.specs.Forms.{Structured}
use Rattle.payload_forms.specs.Moved.{index_step, captured_step, linear_step, own_index, width, block, blocks}
use Rattle.payload_forms.specs.Joined.{Joint, numbered_terms, applied, expr_at, producer_index, producer_to, producer_steps, consumer_base, consumer_to, consumer_steps, front}
use Rattle.payload_forms.specs.Captured.{named, placed_steps, placed_to}
use Rattle.pair_laws.specs.Pairs.{captured_of, joint_of, joined_rest, fused_op}
use Rattle.mlir_scope.specs.Literals.{is_near, is_written}
use Rattle.mlir_roundtrip.specs.Printable.{IsPrintableOp, IsPrintableStep}

-- what the text asks of a step beside that it names dimensions which are there, and nothing captured
abbrev IsWrittenOp : ElemTy → StepOp → Type 0
IsWrittenOp e (Const v) = is_near e v ≡ true
IsWrittenOp e op = Unit {0}

pub record IsWritten (s : PayloadStep) : Type 0 where
  pub ty : is_written s.ty ≡ true
  pub op : IsWrittenOp s.ty s.op

abbrev pub AreWritten : List PayloadStep → Type 0
AreWritten = Each IsWritten

op_written : (e : ElemTy) (op : StepOp) → IsPrintableOp e op → IsWrittenOp e op
op_written e (Const v) h = h
op_written e op h = tt

pub steps_written : (ss : List PayloadStep) → AllByRecursion IsPrintableStep ss → AreWritten ss
steps_written [] h = tt
steps_written (s ∷ ss) h = (record { ty = (h.0).ty; op = op_written s.ty s.op (h.0).op }, steps_written ss h.1)

module _ (dims : ℕ) (few : dims ≤ 12) where
  op_printable : (e : ElemTy) (op : StepOp) → names_present dims 0 op ≡ true → IsWrittenOp e op → IsPrintableOp e op
  op_printable e (Const v) h w = w
  op_printable e (Index d) h w = let l = ltb-true d dims h in omega (arith, l, few)
  op_printable e (Captured k) h w = absurd (let l = ltb-true k 0 h in omega (arith, l))
  op_printable e op h w = tt

  pub steps_printable : (ss : List PayloadStep) → list_all (λ (s : PayloadStep). names_present dims 0 s.op) ss ≡ true → AreWritten ss →
      AllByRecursion IsPrintableStep ss
  steps_printable [] h w = tt
  steps_printable (s ∷ ss) h w =
      let both = and_parts (names_present dims 0 s.op) (list_all (λ (s : PayloadStep). names_present dims 0 s.op) ss) h in
      (record { ty = (w.0).ty; op = op_printable s.ty s.op both.0 (w.0).op }, steps_printable ss both.1 w.1)

-- STEPS THAT MOVE
module _ (indices : ℕ → ℕ → List PayloadStep) (to : Arg → Arg) (own : (d n : ℕ) → AreWritten (indices d n)) where
  block_written : (n : ℕ) (t : ElemTy) (op : StepOp) → is_written t ≡ true → IsWrittenOp t op → AreWritten (block indices to n t op)
  block_written n t (Const v) h w = (record { ty = h; op = w }, tt)
  block_written n t (Index d) h w = own d n
  block_written n t (Captured k) h w = tt
  block_written n t op h w = (record { ty = h; op = tt }, tt)

  blocks_written : (n : ℕ) (ss : List PayloadStep) → AreWritten ss → AreWritten (blocks indices to n ss)
  blocks_written n [] h = tt
  blocks_written n (s ∷ ss) h =
      each-append IsWritten (block indices to n s.ty s.op) (blocks indices to (n + width indices n s.op) ss)
      (block_written n s.ty s.op (h.0).ty (h.0).op) (blocks_written (n + width indices n s.op) ss h.1)

own_written : (d n : ℕ) → AreWritten (own_index d n)
own_written d n = (record { ty = refl; op = tt }, tt)

terms_written : (ts : List (ℕ × ℤ)) → AreWritten (map (λ (t : ℕ × ℤ). index_step t.0) ts)
terms_written [] = tt
terms_written (t ∷ ts) = (record { ty = refl; op = tt }, terms_written ts)

applied_written : (e : Expr) (n : ℕ) → AreWritten (applied e n)
applied_written e n =
    each-append IsWritten (map (λ (t : ℕ × ℤ). index_step t.0) e.terms) (linear_step e.constant (numbered_terms n e.terms) ∷ [])
    (terms_written e.terms) (record { ty = refl; op = tt }, tt)

captured_written : (ks : List ℕ) → AreWritten (map captured_step ks)
captured_written [] = tt
captured_written (k ∷ ks) = (record { ty = refl; op = tt }, captured_written ks)

placed_written : (c : ℕ) (to : Arg → Arg) (n : ℕ) (seen : List ℕ) (ss : List PayloadStep) → AreWritten ss →
    AreWritten (placed_steps c to n seen ss)
placed_written c to n seen [] h = tt
placed_written c to n seen (s ∷ ss) h =
    let count = length (named c seen s) in
    let own = block own_index to (n + count) s.ty s.op in
    let rest = placed_steps c to (suc (n + count)) (seen ++ named c seen s) ss in
    each-append IsWritten (map captured_step (count_up (length seen) count)) (own ++ rest) (captured_written (count_up (length seen) count))
    (each-append IsWritten own rest (block_written own_index to own_written (n + count) s.ty s.op (h.0).ty (h.0).op)
    (placed_written c to (suc (n + count)) (seen ++ named c seen s) ss h.1))

-- THE FUSED GENERIC
module _ (p c : Structured) (k : ℕ) (m : MapShape) (ds : List ℕ) where
  abbrev j : Joint
  j = joint_of p c k m ds

  abbrev rest : List PayloadStep
  rest = joined_rest j p.payload c.payload

  pub fused_written : AreWritten p.payload.steps → AreWritten c.payload.steps → AreWritten (fused_op p c k m ds).payload.steps
  fused_written hp hc =
      placed_written (length (captured_of p c)) (placed_to (length (captured_of p c)) rest) 0 [] rest
      (each-append IsWritten (producer_steps j p.payload c.payload) (consumer_steps j p.payload c.payload)
      (blocks_written (producer_index j.exprs) (producer_to j p.payload c.payload) (λ d n. applied_written (expr_at j.exprs d) n)
      (length (front j p.payload c.payload)) p.payload.steps hp)
      (blocks_written own_index (consumer_to j p.payload c.payload) own_written (consumer_base j p.payload c.payload) c.payload.steps hc))
