-- What two payloads owe that are joined.
use Rattle.std.specs.Prelude.{◌≡◌, ℕ, ◌<◌, ◌%◌, ◌^◌, ℤ, pos, true, List, map, slice_get, slice_index_or, Some, ⊤}
use Rattle.std.specs.List.{list_all}
use Rattle.affine_maps.specs.Value.{value_at}
use Rattle.payload_ops.specs.Bits.{reduce}
use Rattle.mlir_base.specs.Numbers.{is_in_range, is_coefficient}
use Rattle.payload_ops.specs.Payload.{IsPayload}
use Rattle.payload_ops.specs.Values.{is_supplied}
use Rattle.affine_maps.specs.declared.map.Expr.{Expr}
use Rattle.payload_ops.specs.Shape.{PayloadShape}
use Rattle.payload_ops.specs.declared.step.Arg.{Arg}
use Rattle.payload_ops.specs.declared.step.Arg.TheVariants.{Input, Out, Step}
use Rattle.payload_ops.specs.declared.step.PayloadStep.{PayloadStep}
use Rattle.mlir_meaning.specs.Grids.{Each}
use Rattle.payload_forms.specs.Moved.{args_of}
use Rattle.payload_forms.specs.Joined.{Joint, expr_at}

-- neither the steps nor the yield name the output's element
abbrev pub IsNotOut : Arg → Type 0
IsNotOut (Input i) = ⊤
IsNotOut Out = ⊥
IsNotOut (Step i) = ⊤

abbrev pub IsApart : PayloadShape → Type 0
IsApart p = Each (λ (s : PayloadStep). Each IsNotOut (args_of s.op)) p.steps × IsNotOut p.yielded

-- the numbers of an expression are those of a linear step
abbrev pub AreSmall : Expr → Type 0
AreSmall e = (is_in_range e.constant ≡ true) × (list_all (λ (t : ℕ × ℤ). is_coefficient t.1) e.terms ≡ true)

-- the producer has `dims` dimensions and `caps` captured values, the consumer has `others`; of_producer and
-- of_consumer give their places
pub record Fit (j : Joint) (dims caps width others : ℕ) (producer consumer : PayloadShape) : Type 0 where
  pub producer_fits : IsPayload producer
  pub consumer_fits : IsPayload consumer
  pub input : slice_get consumer.ins j.input ≡ Some producer.out
  pub apart : IsApart producer
  pub small : (d : ℕ) → d < dims → AreSmall (expr_at j.exprs d)
  pub producer_supplied : Each (λ (s : PayloadStep). is_supplied dims caps s.op ≡ true) producer.steps
  pub consumer_supplied : Each (λ (s : PayloadStep). is_supplied width others s.op ≡ true) consumer.steps
  pub of_producer : (k : ℕ) → k < caps → j.of_producer k < j.captured
  pub of_consumer : (k : ℕ) → k < others → j.of_consumer k < j.captured

-- at the consumer's point p the producer stands at q, and the captured values of each are among those of both
pub record Meets (j : Joint) (dims caps others : ℕ) (p q outer of_producer of_consumer : List ℕ) : Type 0 where
  pub points : (d : ℕ) → d < dims → reduce 64 (value_at (expr_at j.exprs d) (map pos p)) ≡ slice_index_or q d 0 % 2 ^ 64
  pub producer_outer : (k : ℕ) → k < caps → slice_index_or outer (j.of_producer k) 0 ≡ slice_index_or of_producer k 0
  pub consumer_outer : (k : ℕ) → k < others → slice_index_or outer (j.of_consumer k) 0 ≡ slice_index_or of_consumer k 0
