-- The laws of combiners, and of payloads of which something is known before they run.
use Rattle.std.specs.Prelude.{◌≡◌, ◌≢◌, ℕ, ◌<◌, ◌^◌, List, Option, Some, None, slice_get, slice_index_or}
use Rattle.std.specs.Option.{option_map}
use Rattle.payload_ops.specs.Combine.{joined}
use Rattle.payload_laws.specs.Combiners.{value_after}
use Rattle.mlir_base.specs.Types.{bits_of}
use Rattle.payload_ops.specs.Shape.{PayloadShape}
use Rattle.payload_ops.specs.Values.{Given, payload_value}
use Rattle.payload_ops.specs.declared.kinds.Combiner.{Combiner}
use Rattle.payload_ops.specs.declared.step.Arg.{Arg}

abbrev pub IsAssociative : (ℕ → ℕ → ℕ) → Type 0
IsAssociative join = (a b c : ℕ) → join (join a b) c ≡ join a (join b c)

abbrev pub IsCommutative : (ℕ → ℕ → ℕ) → Type 0
IsCommutative join = (a b : ℕ) → join a b ≡ join b a

-- on values of w bits, and on either side
abbrev pub IsNeutral : ℕ → (ℕ → ℕ → ℕ) → ℕ → Type 0
IsNeutral w join e = (a : ℕ) → a < 2 ^ w → (join e a ≡ a) × (join a e ≡ a)

-- the same with another element of the output
abbrev pub with_out : Given → ℕ → Given
with_out g out = record g { out = out }

-- what the payload gives is the combiner of the output's element and the term
abbrev pub JoinsTerm : PayloadShape → Given → Combiner → Arg → Type 0
JoinsTerm p g c t = payload_value p g ≡ option_map (joined c (bits_of p.out) g.out) (value_after p g t)

-- neither the term nor whether a step traps depends on the output's element
abbrev pub IsApartFromOut : PayloadShape → Given → Arg → Type 0
IsApartFromOut p g t = (out : ℕ) → value_after p (with_out g out) t ≡ value_after p g t

-- the inputs that are known have those values; nothing is said of the others
abbrev pub AgreesWith : List (Option ℕ) → List ℕ → Type 0
AgreesWith pads ins = (k v : ℕ) → slice_get pads k ≡ Some (Some v) → slice_index_or ins k 0 ≡ v

-- a payload that cannot trap gives a value, whatever it is given
abbrev pub NeverTraps : PayloadShape → Type 0
NeverTraps p = (g : Given) → payload_value p g ≢ None

-- whatever the point, the unknown inputs and the captured values are, each value of the output's element stays
abbrev pub KeepsOutput : PayloadShape → List (Option ℕ) → Type 0
KeepsOutput p pads = (g : Given) → AgreesWith pads g.ins → g.out < 2 ^ bits_of p.out → payload_value p g ≡ Some g.out
