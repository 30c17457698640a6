-- The scripts whose canonical text reads back: those that some text stands for, up to the numbers of handles.
use Rattle.std.specs.Prelude.{◌≡◌, ◌<◌, ◌≤◌, true, ℕ, suc, ℤ, pos, negsuc, List, [], ◌∷◌, ◌++◌, length, Ok, Option, Some, None}
use Rattle.std.specs.List.{AllByRecursion}
use Rattle.mlir_base.specs.Types.{minus_one, least_signed}
use Rattle.text_format.specs.declared.span.Span.{Span}
use Rattle.text_format.specs.Tokens.{tokens_of}
use Rattle.script_read.specs.declared.script.HandleId.{HandleId}
use Rattle.script_read.specs.declared.script.PadArgs.{PadArgs}
use Rattle.script_read.specs.declared.script.StepKind.{StepKind}
use Rattle.script_read.specs.declared.script.StepKind.TheVariants as kinds
use Rattle.script_read.specs.declared.script.Step.{Step}
use Rattle.script_read.specs.declared.script.Script.{Script}
use Rattle.script_read.specs.Numbers.{most_size}
use Rattle.script_read.specs.Kinds.{is_match_name}
use Rattle.script_read.specs.Reading.{StandsFor}
use Rattle.script_text.specs.declared.names.Row.{Row}
use Rattle.script_text.specs.Names.{look, start, rows_of, next_of}

-- the whole text stands for the script
pub record IsTextOf (source : List ℕ) (script : Script) : Type 0 where
  pub tokens : List Span
  pub lexed : tokens_of source ≡ Ok tokens
  pub stands : StandsFor source tokens 0 script (length tokens)

-- the handle is defined before
abbrev pub IsDefined : List Row → HandleId → Type 0
IsDefined rows h = (r : Row) × (look rows h.0 ≡ Some r)

abbrev pub AreSizes : List ℕ → Type 0
AreSizes ns = AllByRecursion (λ n. n ≤ most_size) ns

-- a number that a literal of iN may be
abbrev pub IsLiteral : ℤ → ℕ → Type 0
IsLiteral (pos n) w = n ≤ minus_one w
IsLiteral (negsuc n) w = suc n ≤ least_signed w

abbrev pub IsPadValue : ℤ × ℕ → Type 0
IsPadValue v = (0 < v.1) × (v.1 ≤ 64) × IsLiteral v.0 v.1

pub record ArePadArgs (a : PadArgs) : Type 0 where
  pub values : AllByRecursion IsPadValue a.values
  pub dims : AreSizes a.dims
  pub multiples : AreSizes a.multiples

abbrev pub AreVectorSizes : Option (List ℕ) → Type 0
AreVectorSizes None = Unit {0}
AreVectorSizes (Some ns) = AreSizes ns

-- what is in the step may stand in a text, behind these handles
abbrev pub IsPrintableKind : List Row → StepKind → Type 0
IsPrintableKind rows (kinds.Match names h) = AllByRecursion (λ n. is_match_name n ≡ true) names × IsDefined rows h
IsPrintableKind rows (kinds.Split h) = IsDefined rows h
IsPrintableKind rows (kinds.Generalize h) = IsDefined rows h
IsPrintableKind rows (kinds.Interchange h ns) = IsDefined rows h × AreSizes ns
IsPrintableKind rows (kinds.TileFor h ns) = IsDefined rows h × AreSizes ns
IsPrintableKind rows (kinds.TileForall h ns) = IsDefined rows h × AreSizes ns
IsPrintableKind rows (kinds.FuseInto p h) = IsDefined rows p × IsDefined rows h
IsPrintableKind rows (kinds.Pad h a) = IsDefined rows h × ArePadArgs a
IsPrintableKind rows (kinds.Pack h ns) = IsDefined rows h × AreSizes ns
IsPrintableKind rows (kinds.Vectorize h ns) = IsDefined rows h × AreVectorSizes ns
IsPrintableKind rows (kinds.FuseElementwise h) = IsDefined rows h

-- how many results a step may have
abbrev pub HasResults : StepKind → ℕ → Type 0
HasResults (kinds.Split h) n = 0 < n
HasResults (kinds.TileFor h ns) n = 0 < n
HasResults (kinds.TileForall h ns) n = n ≡ 2
HasResults (kinds.FuseInto p h) n = n ≡ 2
HasResults (kinds.Pad h a) n = n ≡ 3
HasResults (kinds.Vectorize h ns) n = n ≡ 0
HasResults k n = n ≡ 1

pub record IsPrintableStep (rows : List Row) (s : Step) : Type 0 where
  pub count : HasResults s.kind (length s.results)
  pub kind : IsPrintableKind rows s.kind

-- the steps behind these handles, where the next results have number n
abbrev pub ArePrintable : List Row → ℕ → List Step → Type 0
ArePrintable rows n [] = Unit {0}
ArePrintable rows n (s ∷ ss) = IsPrintableStep rows s × ArePrintable (rows ++ rows_of n s.results) (next_of n s.results) ss

pub record IsPrintable (s : Script) : Type 0 where
  pub few : length s.steps ≤ 1024
  pub steps : ArePrintable (start s.root) 0 s.steps
