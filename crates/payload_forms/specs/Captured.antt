-- The captured values of a payload: a step for each of them in front, or one for each that is used, right before
-- its first use.
use Rattle.std.specs.Prelude.{ℕ, suc, ◌+◌, ◌-◌, not, ◌&&◌, nat_lt, List, [], ◌∷◌, ◌++◌, map, length, slice_index_or, if◌then◌else◌}
use Rattle.payload_ops.specs.Shape.{PayloadShape}
use Rattle.mlir_base.specs.declared.types.ElemTy.{ElemTy}
use Rattle.payload_ops.specs.declared.step.Arg.{Arg}
use Rattle.payload_ops.specs.declared.step.Arg.TheVariants.{Input, Out, Step}
use Rattle.payload_ops.specs.declared.step.PayloadStep.{PayloadStep}
use Rattle.mlir_meaning.specs.Grids.{count_up}
use Rattle.mlir_meaning.specs.Points.{has, place_of}
use Rattle.payload_forms.specs.Moved.{args_of, captured_step, own_index, numbers, block, blocks, number_at}

-- IN FRONT: a step for each of c captured values; captured value k of the payload is value f k there, and each
-- `linalg.index` becomes the steps that `indices` gives
abbrev pub fronts : ℕ → List PayloadStep
fronts c = map captured_step (count_up 0 c)

module _ (indices : ℕ → ℕ → List PayloadStep) (c : ℕ) (f : ℕ → ℕ) (p : PayloadShape) where
  abbrev pub hoisted_to : Arg → Arg
  hoisted_to (Input i) = Input i
  hoisted_to Out = Out
  hoisted_to (Step i) = Step (number_at (numbers indices f (length (fronts c)) p.steps) i)

  -- the steps behind those in front
  abbrev pub hoisted_rest : List PayloadStep
  hoisted_rest = blocks indices hoisted_to (length (fronts c)) p.steps

  abbrev pub hoisted : PayloadShape
  hoisted = record { ins = p.ins; out = p.out; steps = fronts c ++ hoisted_rest; yielded = hoisted_to p.yielded }

-- AT THE FIRST USE: from a payload that has a step for each of c captured values in front. `seen` are the captured
-- values that have a step so far.
module _ (c : ℕ) where
  -- the captured value that an argument is, if it has no step yet
  abbrev pub news_of : List ℕ → Arg → List ℕ
  news_of seen (Input i) = []
  news_of seen Out = []
  news_of seen (Step i) = if nat_lt i c && not (has seen i) then i ∷ [] else []

  -- those of an operation's arguments, in their order
  abbrev pub news : List ℕ → List Arg → List ℕ
  news seen [] = []
  news seen (a ∷ more) = news_of seen a ++ news (seen ++ news_of seen a) more

  abbrev pub named : List ℕ → PayloadStep → List ℕ
  named seen s = news seen (args_of s.op)

  -- the captured values that are used, in order of first use
  abbrev pub used : List ℕ → List PayloadStep → List ℕ
  used seen [] = seen
  used seen (s ∷ ss) = used (seen ++ named seen s) ss

  -- the numbers of their steps, from n on, and those of the other steps
  abbrev pub spots : ℕ → List ℕ → List PayloadStep → List ℕ
  spots n seen [] = []
  spots n seen (s ∷ ss) = count_up n (length (named seen s))
      ++ spots (suc (n + length (named seen s))) (seen ++ named seen s) ss

  abbrev pub others : ℕ → List ℕ → List PayloadStep → List ℕ
  others n seen [] = []
  others n seen (s ∷ ss) = (n + length (named seen s))
      ∷ others (suc (n + length (named seen s))) (seen ++ named seen s) ss

  abbrev pub placed_steps : (Arg → Arg) → ℕ → List ℕ → List PayloadStep → List PayloadStep
  placed_steps to n seen [] = []
  placed_steps to n seen (s ∷ ss) =
      map captured_step (count_up (length seen) (length (named seen s)))
      ++ (block own_index to (n + length (named seen s)) s.ty s.op
      ++ placed_steps to (suc (n + length (named seen s))) (seen ++ named seen s) ss)

  -- `rest` are the steps behind those in front
  abbrev pub placed_to : List PayloadStep → Arg → Arg
  placed_to rest (Input i) = Input i
  placed_to rest Out = Out
  placed_to rest (Step i) = Step (if nat_lt i c then slice_index_or (spots 0 [] rest) (place_of i 0 (used [] rest)) 0
      else slice_index_or (others 0 [] rest) (i - c) 0)

  abbrev pub in_front : List ElemTy → ElemTy → List PayloadStep → Arg → PayloadShape
  in_front ins out rest yielded =
      record { ins = ins; out = out; steps = fronts c ++ rest; yielded = yielded }

  abbrev pub placed : List ElemTy → ElemTy → List PayloadStep → Arg → PayloadShape
  placed ins out rest yielded =
      record { ins = ins; out = out; steps = placed_steps (placed_to rest) 0 [] rest; yielded = placed_to rest yielded }
