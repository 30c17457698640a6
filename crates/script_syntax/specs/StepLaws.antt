-- The laws of steps: each production's follow from those of its parts.
use Rattle.std.specs.Prelude.{refl}
use Rattle.text_format.specs.declared.class.Class.TheVariants.{Exactly, Name, Value}
use Rattle.text_format.specs.declared.class.Position.TheVariants as at
use Rattle.text_format.specs.declared.lexeme.Lexeme.{Lexeme}
use Rattle.text_format.specs.declared.lexeme.Lexeme.TheVariants.{OpenBrace, CloseBrace, OpenBracket, CloseBracket, Comma, Colon, Equals, StructuredMatch, TileUsingFor, FuseIntoContainingOp, StructuredPad, StructuredVectorize, Ops, In, Into, TileSizes, VectorSizes, PaddingValues, PaddingDimensions, PadToMultipleOf, CopyBackOp, QuotedNone, AnyOp, To, ApplyRegisteredPass, FuseElementwiseOps}
use Rattle.text_format.specs.Laws.{IsExact}
use Rattle.text_format.specs.Exact.{leaf-exact, only-exact, before-exact, record-exact, ◌⊠◌, ◌▹◌}
use Rattle.text_format.specs.Many.{optional-exact, list-exact}
use Rattle.script_syntax.specs.Literals.{numbers, quoted_name}
use Rattle.script_syntax.specs.LiteralLaws.{pad_value-exact, pad_value_avoids, quoted_name-exact, numbers-exact}
use Rattle.script_syntax.specs.Steps.{step_name, handle_step, pass_step, match_step, sized_step, tiled_step, tile_for_step, fuse_step, multiples, pad_step, vector_sizes, vectorize_step}

pub handle_step-exact : (l : Lexeme) → IsExact (handle_step l)
unfolding handle_step
handle_step-exact l = record-exact _ _ _ (λ _. refl) (λ _. refl) (leaf-exact (step_name l) ⊠ leaf-exact Value)

pub pass_step-exact : IsExact pass_step
unfolding pass_step
pass_step-exact = record-exact _ _ _ (λ _. refl) (λ _. refl) (leaf-exact (step_name ApplyRegisteredPass) ⊠ FuseElementwiseOps ▹ To ▹ leaf-exact Value)

pub match_step-exact : IsExact match_step
unfolding match_step quoted_name
match_step-exact = record-exact _ _ _ (λ _. refl) (λ _. refl)
    (leaf-exact (step_name StructuredMatch) ⊠ Ops ▹ OpenBrace ▹ OpenBracket ▹ list-exact CloseBracket quoted_name-exact (λ _. refl) refl ⊠ CloseBrace ▹ In ▹ leaf-exact Value)

pub sized_step-exact : (l word : Lexeme) → IsExact (sized_step l word)
unfolding sized_step
sized_step-exact l word = record-exact _ _ _ (λ _. refl) (λ _. refl) (leaf-exact (step_name l) ⊠ leaf-exact Value ⊠ word ▹ Equals ▹ numbers-exact)

pub tiled_step-exact : (l word : Lexeme) → IsExact (tiled_step l word)
unfolding tiled_step
tiled_step-exact l word = record-exact _ _ _ (λ _. refl) (λ _. refl) (leaf-exact (step_name l) ⊠ leaf-exact Value ⊠ word ▹ numbers-exact)

pub tile_for_step-exact : IsExact tile_for_step
unfolding tile_for_step numbers
tile_for_step-exact = record-exact _ _ _ (λ _. refl) (λ _. refl)
    (leaf-exact (step_name TileUsingFor) ⊠ leaf-exact Value ⊠ optional-exact (Exactly TileSizes) (leaf-exact (Exactly TileSizes)) numbers-exact (λ _. refl) (λ _. refl))

pub fuse_step-exact : IsExact fuse_step
unfolding fuse_step
fuse_step-exact = record-exact _ _ _ (λ _. refl) (λ _. refl) (leaf-exact (step_name FuseIntoContainingOp) ⊠ leaf-exact Value ⊠ Into ▹ leaf-exact Value)

pub multiples-exact : IsExact multiples
unfolding multiples
multiples-exact = record-exact _ _ _ (λ _. refl) (λ _. refl) (PadToMultipleOf ▹ Equals ▹ before-exact Comma numbers-exact)

pub pad_step-exact : IsExact pad_step
unfolding pad_step multiples
pad_step-exact = record-exact _ _ _ (λ _. refl) (λ _. refl)
    (leaf-exact (step_name StructuredPad)
    ⊠ leaf-exact Value
    ⊠ OpenBrace ▹ PaddingValues ▹ Equals ▹ OpenBracket ▹ list-exact CloseBracket pad_value-exact pad_value_avoids refl
    ⊠ Comma ▹ PaddingDimensions ▹ Equals ▹ numbers-exact
    ⊠ Comma ▹ optional-exact (Exactly PadToMultipleOf) multiples-exact (CopyBackOp ▹ Equals ▹ QuotedNone ▹ only-exact CloseBrace) (λ _. refl) (λ _. refl))

pub vector_sizes-exact : IsExact vector_sizes
unfolding vector_sizes
vector_sizes-exact = record-exact _ _ _ (λ _. refl) (λ _. refl) (VectorSizes ▹ numbers-exact)

pub vectorize_step-exact : IsExact vectorize_step
unfolding vectorize_step vector_sizes
vectorize_step-exact = record-exact _ _ _ (λ _. refl) (λ _. refl)
    (leaf-exact (Name at.ScriptStatement StructuredVectorize) ⊠ leaf-exact Value ⊠ optional-exact (Exactly VectorSizes) vector_sizes-exact (Colon ▹ only-exact AnyOp) (λ _. refl) (λ _. refl))
