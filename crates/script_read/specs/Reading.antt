-- What the tokens of a text stand for from one of them on, and their first fault.
use Rattle.std.specs.Prelude.{◌≡◌, ◌<◌, ◌⊎◌, ℕ, ◌-◌, List, [], ◌∷◌, ◌++◌, drop, length, Result, Ok, Err}
use Rattle.text_format.specs.declared.span.Span.{Span}
use Rattle.text_format.specs.Parsing.{tokens_in}
use Rattle.text_format.specs.Token.{TokenShape}
use Rattle.text_format.specs.Formats.{State, Stop, Item, at_end, live}
use Rattle.text_format.specs.Laws.{IsItem, Matches, reason}
use Rattle.text_format.specs.Places.{Begins}
use Rattle.mlir_lex.specs.declared.fault.Fault.{Fault}
use Rattle.mlir_lex.specs.declared.read_error.ReadError.{ReadError}
use Rattle.mlir_lex.specs.declared.read_error.ReadError.TheVariants as errors
use Rattle.mlir_lex.specs.Faults.{reach_of, fault_error, stop_error, first_of}
use Rattle.script_syntax.specs.declared.tree.lines.Sequence.{Sequence}
use Rattle.script_syntax.specs.Lines.{sequence}
use Rattle.script_read.specs.declared.script.Script.{Script}
use Rattle.script_read.specs.Resolve.{resolve}

-- the tokens from number `first` on, each with its text
abbrev pub tokens_behind : List ℕ → List Span → ℕ → List TokenShape
tokens_behind source ts first = tokens_in source (drop first ts)

-- The tokens from `first` up to `next`, which isn't one of them, stand for the script.
pub record StandsFor (source : List ℕ) (ts : List Span) (first : ℕ) (script : Script) (next : ℕ) : Type 0 where
  pub tree : Sequence
  pub used : List TokenShape
  pub left : List TokenShape
  pub parts : tokens_behind source ts first ≡ used ++ left
  pub spelled : Matches (sequence.spell tree) used
  pub resolved : resolve tree ≡ Ok script
  pub count : next ≡ length ts - length left

-- ---- the first fault

abbrev pub with_next : ℕ → Result Script ReadError → Result (Script × ℕ) ReadError
with_next next (Ok s) = Ok (s, next)
with_next next (Err e) = Err e

-- what a tree and the state behind it say, where the text has so many tokens
abbrev pub of_tree : ℕ → Sequence × State → Result (Script × ℕ) ReadError
of_tree count r = with_next (count - length r.1.rest) (first_of (resolve r.0) r.1.stop)

-- the script that stands at the token `first`, and the number of the token behind it, or the first fault
unfoldable pub reading : List ℕ → List Span → ℕ → Result (Script × ℕ) ReadError
reading source ts first = of_tree (length ts) (sequence.read (live (length source) (tokens_behind source ts first)))

-- the script was read, unless memory ran out
abbrev pub Gives : Script → ℕ → Result (Script × ℕ) ReadError → Type 0
Gives s next (Ok r) = (r.0 ≡ s) × (r.1 ≡ next)
Gives s next (Err e) = e ≡ errors.Memory

-- ---- what a fault is

-- the token is refused as what some script has behind these tokens, and no script goes on with it
abbrev pub StopsAt : ℕ → List TokenShape → List TokenShape → Stop → Type 0
StopsAt end before [] p = (p ≡ at_end end) × Begins sequence before
StopsAt end before (t ∷ after) p =
    (p.at ≡ t.start) × Begins sequence before × (Begins sequence (before ++ t ∷ []) → ⊥)
    × ((x : Sequence) × (pre : List Item) × (i : Item) × (tail : List Item) × (sequence.spell x ≡ pre ++ i ∷ tail) × Matches pre before × (p.why ≡ reason i t))

-- a stop of the reading: the first token with which no script goes on, or the end, where more is wanted
abbrev pub Stops : List ℕ → List Span → ℕ → ReadError → Type 0
Stops source ts first e =
    (p : Stop) × (before : List TokenShape) × (after : List TokenShape) × (tokens_behind source ts first ≡ before ++ after) × StopsAt (length source) before after p × (e ≡ stop_error p)

-- each token but those behind the place, or behind the script, is spelled
abbrev pub Leads : List TokenShape → List Item → ℕ → Type 0
Leads [] is at = Unit {0}
Leads (t ∷ ts) [] at = Unit {0}
Leads (t ∷ ts) (i ∷ is) at = (at < t.start) ⊎ (IsItem i t × Leads ts is at)

-- a fault of a tree that the tokens spell as far as the fault, at least
abbrev pub Finds : List ℕ → List Span → ℕ → ReadError → Type 0
Finds source ts first e = (tree : Sequence) × (x : Fault) × (resolve tree ≡ Err x) × (e ≡ fault_error x) × Leads (tokens_behind source ts first) (sequence.spell tree) (reach_of x)

abbrev pub HasFault : List ℕ → List Span → ℕ → ReadError → Type 0
HasFault source ts first e = Stops source ts first e ⊎ Finds source ts first e

-- the fault that is told is there
abbrev pub Tells : List ℕ → List Span → ℕ → Result (Script × ℕ) ReadError → Type 0
Tells source ts first (Ok r) = Unit {0}
Tells source ts first (Err errors.Memory) = Unit {0}
Tells source ts first (Err e) = HasFault source ts first e
