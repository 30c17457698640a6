-- The code's names of arguments are those of the joined payload.
use Rattle.std.proofs.Common.{◌≡◌, ℕ, ◌+◌, ◌==◌, List, length, refl, ap, sym, ◌∙◌, length-append}
use Rattle.std.specs.Prelude.{if◌then◌else◌}
use Rattle.payload_ops.specs.Shape.{PayloadShape}
use Rattle.payload_ops.specs.declared.step.Arg.{Arg}
use Rattle.payload_ops.specs.declared.step.Arg.TheVariants.{Input, Out, Step}
use Rattle.payload_ops.specs.declared.step.PayloadStep.{PayloadStep}
use Rattle.payload_forms.specs.declared.joining.Joining.{Joining}
use Rattle.payload_forms.specs.declared.renaming.Inputs.TheVariants.{After, Spliced}
use Rattle.payload_forms.specs.Moved.{numbers, blocks, number_at, own_index}
use Rattle.payload_forms.specs.Joined.{other, producer_index, front, producer_to, producer_steps, consumer_base, consumer_to, consumer_steps}
use Rattle.payload_forms.specs.Names.{renamed, joint}
use Rattle.payload_forms.proofs.Tables.{front_length}

module _ (j : Joining) (p c : PayloadShape) where
  abbrev producer_names : Arg → Arg
  producer_names = renamed (After j.input) (numbers (producer_index j.exprs.now) (number_at j.of_producer.now) j.captured p.steps)

  first : j.captured ≡ length (front (joint j) p c)
  first = sym (front_length j.captured)

  producer_same : (a : Arg) → producer_names a ≡ producer_to (joint j) p c a
  producer_same (Input i) = refl
  producer_same Out = refl
  producer_same (Step i) = ap (λ n. Step (number_at (numbers (producer_index j.exprs.now) (number_at j.of_producer.now) n p.steps) i)) first

  pub producer_yields : producer_names p.yielded ≡ producer_to (joint j) p c p.yielded
  producer_yields = producer_same p.yielded

  pub producer_blocks : blocks (producer_index j.exprs.now) producer_names j.captured p.steps ≡ producer_steps (joint j) p c
  producer_blocks = λ i. blocks (producer_index j.exprs.now) (λ a. producer_same a i) (first i) p.steps

  module _ (rest : List PayloadStep) (begins : rest ≡ producer_steps (joint j) p c) (n : ℕ) (count : n ≡ length p.ins) (value : Arg) (is : value ≡ producer_to (joint j) p c p.yielded) (base : ℕ) (here : base ≡ j.captured + length rest) where
    abbrev consumer_names : Arg → Arg
    consumer_names = renamed (Spliced j.input n value) (numbers own_index (number_at j.of_consumer.now) base c.steps)

    next : base ≡ consumer_base (joint j) p c
    next = here ∙ (λ i. first i + length (begins i)) ∙ sym (length-append (front (joint j) p c) (producer_steps (joint j) p c))

    consumer_same : (a : Arg) → consumer_names a ≡ consumer_to (joint j) p c a
    consumer_same (Input i) = λ k. if i == j.input then is k else Input (other j.input (count k) i)
    consumer_same Out = refl
    consumer_same (Step i) = ap (λ m. Step (number_at (numbers own_index (number_at j.of_consumer.now) m c.steps) i)) next

    pub consumer_yields : consumer_names c.yielded ≡ consumer_to (joint j) p c c.yielded
    consumer_yields = consumer_same c.yielded

    pub consumer_blocks : blocks own_index consumer_names base c.steps ≡ consumer_steps (joint j) p c
    consumer_blocks = λ i. blocks own_index (λ a. consumer_same a i) (next i) c.steps
