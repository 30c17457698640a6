-- The tokens that a production fixes, each with its kind and its bytes.
use Rattle.std.specs.Prelude.{ℕ, List, codes}
use Rattle.text_format.specs.declared.front.Kind.{Kind}
use Rattle.text_format.specs.declared.front.Kind.TheVariants.{Word, Symbol, Block, TypeWord, Quoted, Mark}
use Rattle.text_format.specs.declared.lexeme.Lexeme.{Lexeme}
use Rattle.text_format.specs.declared.lexeme.Lexeme.TheVariants.{OpenParenthesis, CloseParenthesis, OpenBrace, CloseBrace, OpenBracket, CloseBracket, Less, Greater, Comma, Colon, Equals, Arrow, Module, FuncFunc, Return, FuncReturn, AffineMap, D0, TensorEmpty, LinalgGeneric, IndexingMaps, IteratorTypes, Parallel, Ins, Outs, Bb0, ArithAddi, LinalgYield, Minus, Plus, Times, True, False, Dense, Index, ArithConstant, ArithCmpi, ArithSelect, ArithIndexCast, LinalgIndex, AffineApply, LinalgFill, LinalgMatmul, LinalgBatchMatmul, LinalgTranspose, LinalgBroadcast, Permutation, Dimensions, Attributes, WithNamedSequence, NamedSequence, Readonly, TransformYield, StructuredMatch, StructuredGeneralize, StructuredInterchange, TileUsingFor, TileUsingForall, FuseIntoContainingOp, StructuredPad, StructuredPack, StructuredVectorize, SplitHandle, ApplyRegisteredPass, Ops, In, Into, To, IteratorInterchange, TileSizes, PackedSizes, VectorSizes, PaddingValues, PaddingDimensions, PadToMultipleOf, CopyBackOp, AnyOp, TransformMain, QuotedNone, FuseElementwiseOps}

abbrev pub lexeme_kind : Lexeme → Kind
lexeme_kind OpenParenthesis = Mark
lexeme_kind CloseParenthesis = Mark
lexeme_kind OpenBrace = Mark
lexeme_kind CloseBrace = Mark
lexeme_kind OpenBracket = Mark
lexeme_kind CloseBracket = Mark
lexeme_kind Less = Mark
lexeme_kind Greater = Mark
lexeme_kind Comma = Mark
lexeme_kind Colon = Mark
lexeme_kind Equals = Mark
lexeme_kind Arrow = Mark
lexeme_kind Minus = Mark
lexeme_kind Plus = Mark
lexeme_kind Times = Mark
lexeme_kind Parallel = Quoted
lexeme_kind QuotedNone = Quoted
lexeme_kind FuseElementwiseOps = Quoted
lexeme_kind AnyOp = TypeWord
lexeme_kind TransformMain = Symbol
lexeme_kind Bb0 = Block
lexeme_kind _ = Word

abbrev pub lexeme_text : Lexeme → List ℕ
lexeme_text OpenParenthesis = codes "("
lexeme_text CloseParenthesis = codes ")"
lexeme_text OpenBrace = codes "{"
lexeme_text CloseBrace = codes "}"
lexeme_text OpenBracket = codes "["
lexeme_text CloseBracket = codes "]"
lexeme_text Less = codes "<"
lexeme_text Greater = codes ">"
lexeme_text Comma = codes ","
lexeme_text Colon = codes ":"
lexeme_text Equals = codes "="
lexeme_text Arrow = codes "->"
lexeme_text Minus = codes "-"
lexeme_text Plus = codes "+"
lexeme_text Times = codes "*"
lexeme_text Module = codes "module"
lexeme_text FuncFunc = codes "func.func"
lexeme_text Return = codes "return"
lexeme_text FuncReturn = codes "func.return"
lexeme_text AffineMap = codes "affine_map"
lexeme_text D0 = codes "d0"
lexeme_text TensorEmpty = codes "tensor.empty"
lexeme_text LinalgGeneric = codes "linalg.generic"
lexeme_text IndexingMaps = codes "indexing_maps"
lexeme_text IteratorTypes = codes "iterator_types"
lexeme_text Parallel = codes "\"parallel\""
lexeme_text Ins = codes "ins"
lexeme_text Outs = codes "outs"
lexeme_text Bb0 = codes "^bb0"
lexeme_text ArithAddi = codes "arith.addi"
lexeme_text LinalgYield = codes "linalg.yield"
lexeme_text True = codes "true"
lexeme_text False = codes "false"
lexeme_text Dense = codes "dense"
lexeme_text Index = codes "index"
lexeme_text ArithConstant = codes "arith.constant"
lexeme_text ArithCmpi = codes "arith.cmpi"
lexeme_text ArithSelect = codes "arith.select"
lexeme_text ArithIndexCast = codes "arith.index_cast"
lexeme_text LinalgIndex = codes "linalg.index"
lexeme_text AffineApply = codes "affine.apply"
lexeme_text LinalgFill = codes "linalg.fill"
lexeme_text LinalgMatmul = codes "linalg.matmul"
lexeme_text LinalgBatchMatmul = codes "linalg.batch_matmul"
lexeme_text LinalgTranspose = codes "linalg.transpose"
lexeme_text LinalgBroadcast = codes "linalg.broadcast"
lexeme_text Permutation = codes "permutation"
lexeme_text Dimensions = codes "dimensions"
lexeme_text Attributes = codes "attributes"
lexeme_text WithNamedSequence = codes "transform.with_named_sequence"
lexeme_text NamedSequence = codes "transform.named_sequence"
lexeme_text Readonly = codes "transform.readonly"
lexeme_text TransformYield = codes "transform.yield"
lexeme_text StructuredMatch = codes "transform.structured.match"
lexeme_text StructuredGeneralize = codes "transform.structured.generalize"
lexeme_text StructuredInterchange = codes "transform.structured.interchange"
lexeme_text TileUsingFor = codes "transform.structured.tile_using_for"
lexeme_text TileUsingForall = codes "transform.structured.tile_using_forall"
lexeme_text FuseIntoContainingOp = codes "transform.structured.fuse_into_containing_op"
lexeme_text StructuredPad = codes "transform.structured.pad"
lexeme_text StructuredPack = codes "transform.structured.pack"
lexeme_text StructuredVectorize = codes "transform.structured.vectorize"
lexeme_text SplitHandle = codes "transform.split_handle"
lexeme_text ApplyRegisteredPass = codes "transform.apply_registered_pass"
lexeme_text Ops = codes "ops"
lexeme_text In = codes "in"
lexeme_text Into = codes "into"
lexeme_text To = codes "to"
lexeme_text IteratorInterchange = codes "iterator_interchange"
lexeme_text TileSizes = codes "tile_sizes"
lexeme_text PackedSizes = codes "packed_sizes"
lexeme_text VectorSizes = codes "vector_sizes"
lexeme_text PaddingValues = codes "padding_values"
lexeme_text PaddingDimensions = codes "padding_dimensions"
lexeme_text PadToMultipleOf = codes "pad_to_multiple_of"
lexeme_text CopyBackOp = codes "copy_back_op"
lexeme_text AnyOp = codes "!transform.any_op"
lexeme_text TransformMain = codes "@__transform_main"
lexeme_text QuotedNone = codes "\"none\""
lexeme_text FuseElementwiseOps = codes "\"linalg-fuse-elementwise-ops\""
