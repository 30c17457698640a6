-- The grammar of steps, without the types at their end (MLIR Transform dialect).
use Rattle.text_format.specs.declared.class.Class.{Class}
use Rattle.text_format.specs.declared.class.Class.TheVariants.{Exactly, Name, Value}
use Rattle.text_format.specs.declared.class.Position.TheVariants as at
use Rattle.text_format.specs.declared.lexeme.Lexeme.{Lexeme}
use Rattle.text_format.specs.declared.lexeme.Lexeme.TheVariants.{OpenBrace, CloseBrace, OpenBracket, CloseBracket, Comma, Colon, Equals, StructuredMatch, TileUsingFor, FuseIntoContainingOp, StructuredPad, StructuredVectorize, Ops, In, Into, TileSizes, VectorSizes, PaddingValues, PaddingDimensions, PadToMultipleOf, CopyBackOp, QuotedNone, AnyOp, To, ApplyRegisteredPass, FuseElementwiseOps}
use Rattle.text_format.specs.Formats.{Format, leaf, only, before, ◌▸◌, ◌⊗◌, as_record, optional, list_before}
use Rattle.script_syntax.specs.declared.tree.steps.HandleStep.{HandleStep}
use Rattle.script_syntax.specs.declared.tree.steps.MatchStep.{MatchStep}
use Rattle.script_syntax.specs.declared.tree.steps.SizedStep.{SizedStep}
use Rattle.script_syntax.specs.declared.tree.steps.TileForStep.{TileForStep}
use Rattle.script_syntax.specs.declared.tree.steps.FuseStep.{FuseStep}
use Rattle.script_syntax.specs.declared.tree.steps.Multiples.{Multiples}
use Rattle.script_syntax.specs.declared.tree.steps.PadStep.{PadStep}
use Rattle.script_syntax.specs.declared.tree.steps.VectorSizes as sizes
use Rattle.script_syntax.specs.declared.tree.steps.VectorizeStep.{VectorizeStep}
use Rattle.script_syntax.specs.Literals.{pad_value, quoted_name, numbers}

-- the name of a step, behind the names of its results
abbrev pub step_name : Lexeme → Class
step_name l = Name at.ScriptStep l

-- transform.split_handle %h
unfoldable pub handle_step : Lexeme → Format HandleStep
handle_step l = as_record (λ x. record { name = x.0; target = x.1 }) (λ s. (s.name, s.target)) (leaf (step_name l) ⊗ leaf Value)

-- transform.apply_registered_pass "linalg-fuse-elementwise-ops" to %h
unfoldable pub pass_step : Format HandleStep
pass_step = as_record (λ x. record { name = x.0; target = x.1 }) (λ s. (s.name, s.target)) (leaf (step_name ApplyRegisteredPass) ⊗ FuseElementwiseOps ▸ To ▸ leaf Value)

-- transform.structured.match ops{["linalg.generic"]} in %h
unfoldable pub match_step : Format MatchStep
match_step = as_record (λ x. record { name = x.0; names = x.1.0; target = x.1.1 }) (λ s. (s.name, (s.names, s.target)))
    (leaf (step_name StructuredMatch) ⊗ Ops ▸ OpenBrace ▸ OpenBracket ▸ list_before CloseBracket quoted_name ⊗ CloseBrace ▸ In ▸ leaf Value)

-- transform.structured.pack %h packed_sizes = [8, 0]
unfoldable pub sized_step : Lexeme → Lexeme → Format SizedStep
sized_step l word = as_record (λ x. record { name = x.0; target = x.1.0; sizes = x.1.1 }) (λ s. (s.name, (s.target, s.sizes)))
    (leaf (step_name l) ⊗ leaf Value ⊗ word ▸ Equals ▸ numbers)

-- transform.structured.tile_using_forall %h tile_sizes [4, 8]
unfoldable pub tiled_step : Lexeme → Lexeme → Format SizedStep
tiled_step l word = as_record (λ x. record { name = x.0; target = x.1.0; sizes = x.1.1 }) (λ s. (s.name, (s.target, s.sizes)))
    (leaf (step_name l) ⊗ leaf Value ⊗ word ▸ numbers)

-- transform.structured.tile_using_for %h tile_sizes [4, 8]
unfoldable pub tile_for_step : Format TileForStep
tile_for_step = as_record (λ x. record { name = x.0; target = x.1.0; word = x.1.1.0; sizes = x.1.1.1 }) (λ s. (s.name, (s.target, (s.word, s.sizes))))
    (leaf (step_name TileUsingFor) ⊗ leaf Value ⊗ optional (Exactly TileSizes) (leaf (Exactly TileSizes)) numbers)

-- transform.structured.fuse_into_containing_op %p into %h
unfoldable pub fuse_step : Format FuseStep
fuse_step = as_record (λ x. record { name = x.0; producer = x.1.0; containing = x.1.1 }) (λ s. (s.name, (s.producer, s.containing)))
    (leaf (step_name FuseIntoContainingOp) ⊗ leaf Value ⊗ Into ▸ leaf Value)

-- pad_to_multiple_of = [8],
unfoldable pub multiples : Format Multiples
multiples = as_record (λ x. record { list = x }) (λ m. m.list) (PadToMultipleOf ▸ Equals ▸ before Comma numbers)

-- transform.structured.pad %h {padding_values = [0 : i32], padding_dimensions = [0], pad_to_multiple_of = [8], copy_back_op = "none"}
unfoldable pub pad_step : Format PadStep
pad_step = as_record (λ x. record { name = x.0; target = x.1.0; values = x.1.1.0; dimensions = x.1.1.1.0; multiples = x.1.1.1.1.0 }) (λ s. (s.name, (s.target, (s.values, (s.dimensions, (s.multiples, tt))))))
    (leaf (step_name StructuredPad)
    ⊗ leaf Value
    ⊗ OpenBrace ▸ PaddingValues ▸ Equals ▸ OpenBracket ▸ list_before CloseBracket pad_value
    ⊗ Comma ▸ PaddingDimensions ▸ Equals ▸ numbers
    ⊗ Comma ▸ optional (Exactly PadToMultipleOf) multiples (CopyBackOp ▸ Equals ▸ QuotedNone ▸ only CloseBrace))

-- vector_sizes [8, 8]
unfoldable pub vector_sizes : Format sizes.VectorSizes
vector_sizes = as_record (λ x. record { list = x }) (λ s. s.list) (VectorSizes ▸ numbers)

-- transform.structured.vectorize %h vector_sizes [8, 8] : !transform.any_op
unfoldable pub vectorize_step : Format VectorizeStep
vectorize_step = as_record (λ x. record { name = x.0; target = x.1.0; sizes = x.1.1.0 }) (λ s. (s.name, (s.target, (s.sizes, tt))))
    (leaf (Name at.ScriptStatement StructuredVectorize) ⊗ leaf Value ⊗ optional (Exactly VectorSizes) vector_sizes (Colon ▸ only AnyOp))
