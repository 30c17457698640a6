-- The payload of two generics, of which one uses the other's result.
use Rattle.std.specs.Prelude.{ℕ, zero, suc, ◌+◌, ◌==◌, ℤ, pos, List, [], ◌∷◌, ◌++◌, map, length, if◌then◌else◌, slice_index_or}
use Rattle.affine_maps.specs.declared.map.Expr.{Expr}
use Rattle.payload_ops.specs.Shape.{PayloadShape}
use Rattle.payload_ops.specs.declared.step.Arg.{Arg}
use Rattle.payload_ops.specs.declared.step.Arg.TheVariants.{Input, Out, Step}
use Rattle.payload_ops.specs.declared.step.PayloadStep.{PayloadStep}
use Rattle.mlir_meaning.specs.Grids.{count_up}
use Rattle.payload_forms.specs.Moved.{index_step, captured_step, linear_step, own_index, numbers, blocks, number_at}

-- entry k of a list gives way to the entries of another one: operands, maps, types and values
abbrev pub spliced : {A : Type 0} → ℕ → List A → List A → List A
spliced k ys [] = []
spliced zero ys (x ∷ xs) = ys ++ xs
spliced (suc k) ys (x ∷ xs) = x ∷ spliced k ys xs

-- the new place of another entry i, where n entries stand in the place of entry k
abbrev pub other : ℕ → ℕ → ℕ → ℕ
other zero n zero = 0
other zero n (suc i) = n + i
other (suc k) n zero = 0
other (suc k) n (suc i) = suc (other k n i)

-- an expression as an `affine.apply`: a `linalg.index` for each dimension that it uses, and a linear step, from
-- number n on
abbrev pub numbered_terms : ℕ → List (ℕ × ℤ) → List (Arg × ℤ)
numbered_terms n [] = []
numbered_terms n (t ∷ ts) = (Step n, t.1) ∷ numbered_terms (suc n) ts

abbrev pub applied : Expr → ℕ → List PayloadStep
applied e n = map (λ (t : ℕ × ℤ). index_step t.0) e.terms ++ linear_step e.constant (numbered_terms n e.terms) ∷ []

abbrev pub expr_at : List Expr → ℕ → Expr
expr_at es d = slice_index_or es d (record { constant = pos 0; terms = [] })

-- a `linalg.index` of the producer, by the consumer's dimensions
abbrev pub producer_index : List Expr → ℕ → ℕ → List PayloadStep
producer_index es d n = applied (expr_at es d) n

-- what two payloads are joined by: the consumer's input, the producer's dimensions as expressions of the
-- consumer's, the number of captured values of both together, and where among these those of each stand
pub record Joint : Type 0 where
  pub input : ℕ
  pub exprs : List Expr
  pub captured : ℕ
  pub of_producer : ℕ → ℕ
  pub of_consumer : ℕ → ℕ

module _ (j : Joint) (producer consumer : PayloadShape) where
  -- a step for each captured value
  abbrev pub front : List PayloadStep
  front = map captured_step (count_up 0 j.captured)

  -- the producer's steps
  abbrev pub producer_to : Arg → Arg
  producer_to (Input i) = Input (j.input + i)
  producer_to Out = Out
  producer_to (Step i) =
      Step (number_at (numbers (producer_index j.exprs) j.of_producer (length front) producer.steps) i)

  abbrev pub producer_steps : List PayloadStep
  producer_steps = blocks (producer_index j.exprs) producer_to (length front) producer.steps

  -- the consumer's
  abbrev pub consumer_base : ℕ
  consumer_base = length (front ++ producer_steps)

  abbrev pub consumer_to : Arg → Arg
  consumer_to (Input i) = if i == j.input then producer_to producer.yielded
      else Input (other j.input (length producer.ins) i)
  consumer_to Out = Out
  consumer_to (Step i) = Step (number_at (numbers own_index j.of_consumer consumer_base consumer.steps) i)

  abbrev pub consumer_steps : List PayloadStep
  consumer_steps = blocks own_index consumer_to consumer_base consumer.steps

  abbrev pub joined : PayloadShape
  joined = record {
    ins = spliced j.input producer.ins consumer.ins;
    out = consumer.out;
    steps = (front ++ producer_steps) ++ consumer_steps;
    yielded = consumer_to consumer.yielded;
  }
