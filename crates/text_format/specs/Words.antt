-- The words of the profile, and the operations that are not read yet.
use Rattle.std.specs.Prelude.{ℕ, Bool, false, List, [], ◌∷◌, ◌||◌, codes}
use Rattle.std.specs.Str.{bytes_eq}
use Rattle.std.specs.List.{list_any}
use Rattle.text_format.specs.declared.class.Position.{Position}
use Rattle.text_format.specs.declared.class.Position.TheVariants.{Item, Statement, Operation, PayloadStatement, PayloadStep, ScriptStatement, ScriptStep}

-- the text is one of the words
abbrev pub is_among : List (List ℕ) → List ℕ → Bool
is_among words text = list_any (bytes_eq text) words

-- of files, functions and maps
abbrev pub structure_words : List (List ℕ)
structure_words = codes "module" ∷ codes "attributes" ∷ codes "func.func" ∷ codes "func.return" ∷ codes "return" ∷ codes "affine_map" ∷ []

-- of operations
abbrev pub keyword_words : List (List ℕ)
keyword_words = codes "ins" ∷ codes "outs" ∷ codes "indexing_maps" ∷ codes "iterator_types" ∷ codes "iter_args" ∷ codes "shared_outs" ∷ codes "to" ∷ codes "step" ∷ codes "in" ∷ codes "into" ∷ codes "low" ∷ codes "high" ∷ codes "permutation" ∷ codes "dimensions" ∷ codes "padding_value" ∷ codes "outer_dims_perm" ∷ codes "inner_dims_pos" ∷ codes "inner_tiles" ∷ codes "in_bounds" ∷ codes "permutation_map" ∷ codes "dense" ∷ codes "true" ∷ codes "false" ∷ codes "index" ∷ []

-- of tensors
abbrev pub tensor_words : List (List ℕ)
tensor_words = codes "tensor.empty" ∷ codes "tensor.extract_slice" ∷ codes "tensor.insert_slice" ∷ codes "tensor.pad" ∷ codes "tensor.yield" ∷ codes "tensor.parallel_insert_slice" ∷ codes "linalg.generic" ∷ codes "linalg.fill" ∷ codes "linalg.matmul" ∷ codes "linalg.batch_matmul" ∷ codes "linalg.transpose" ∷ codes "linalg.broadcast" ∷ codes "linalg.pack" ∷ codes "linalg.unpack" ∷ codes "linalg.index" ∷ codes "linalg.yield" ∷ []

-- of loops, maps and vectors
abbrev pub loop_words : List (List ℕ)
loop_words = codes "affine.apply" ∷ codes "affine.min" ∷ codes "scf.for" ∷ codes "scf.forall" ∷ codes "scf.yield" ∷ codes "scf.forall.in_parallel" ∷ codes "vector.create_mask" ∷ codes "vector.transfer_read" ∷ codes "vector.transfer_write" ∷ codes "vector.multi_reduction" ∷ []

-- of arithmetic
abbrev pub arith_words : List (List ℕ)
arith_words = codes "arith.constant" ∷ codes "arith.addi" ∷ codes "arith.subi" ∷ codes "arith.muli" ∷ codes "arith.divsi" ∷ codes "arith.divui" ∷ codes "arith.remsi" ∷ codes "arith.remui" ∷ codes "arith.andi" ∷ codes "arith.ori" ∷ codes "arith.xori" ∷ codes "arith.shli" ∷ codes "arith.shrsi" ∷ codes "arith.shrui" ∷ codes "arith.maxsi" ∷ codes "arith.maxui" ∷ codes "arith.minsi" ∷ codes "arith.minui" ∷ codes "arith.cmpi" ∷ codes "arith.select" ∷ codes "arith.extsi" ∷ codes "arith.extui" ∷ codes "arith.trunci" ∷ codes "arith.index_cast" ∷ []

-- predicates and combiners
abbrev pub choice_words : List (List ℕ)
choice_words = codes "eq" ∷ codes "ne" ∷ codes "slt" ∷ codes "sle" ∷ codes "sgt" ∷ codes "sge" ∷ codes "ult" ∷ codes "ule" ∷ codes "ugt" ∷ codes "uge" ∷ codes "add" ∷ codes "mul" ∷ codes "and" ∷ codes "or" ∷ codes "xor" ∷ codes "maxsi" ∷ codes "maxui" ∷ codes "minsi" ∷ codes "minui" ∷ []

-- where an item of a file begins (MLIR LangRef, "Top level Productions")
abbrev pub item_words : List (List ℕ)
item_words = codes "func.func" ∷ codes "module" ∷ []

-- truth values
abbrev pub boolean_words : List (List ℕ)
boolean_words = codes "true" ∷ codes "false" ∷ []

-- the predicates of a comparison (Arith manual, "arith.cmpi")
abbrev pub predicate_words : List (List ℕ)
predicate_words = codes "eq" ∷ codes "ne" ∷ codes "slt" ∷ codes "sle" ∷ codes "sgt" ∷ codes "sge" ∷ codes "ult" ∷ codes "ule" ∷ codes "ugt" ∷ codes "uge" ∷ []

-- operations on two integers
abbrev pub binary_words : List (List ℕ)
binary_words = codes "arith.addi" ∷ codes "arith.subi" ∷ codes "arith.muli" ∷ codes "arith.divsi" ∷ codes "arith.divui" ∷ codes "arith.remsi" ∷ codes "arith.remui" ∷ codes "arith.andi" ∷ codes "arith.ori" ∷ codes "arith.xori" ∷ codes "arith.shli" ∷ codes "arith.shrsi" ∷ codes "arith.shrui" ∷ codes "arith.maxsi" ∷ codes "arith.maxui" ∷ codes "arith.minsi" ∷ codes "arith.minui" ∷ []

-- operations that change an integer's width
abbrev pub cast_words : List (List ℕ)
cast_words = codes "arith.extsi" ∷ codes "arith.extui" ∷ codes "arith.trunci" ∷ []

-- of scripts
abbrev pub script_words : List (List ℕ)
script_words = codes "transform.named_sequence" ∷ codes "transform.with_named_sequence" ∷ codes "transform.readonly" ∷ codes "transform.yield" ∷ codes "transform.split_handle" ∷ codes "transform.apply_registered_pass" ∷ codes "transform.structured.match" ∷ codes "transform.structured.generalize" ∷ codes "transform.structured.interchange" ∷ codes "transform.structured.tile_using_for" ∷ codes "transform.structured.tile_using_forall" ∷ codes "transform.structured.fuse_into_containing_op" ∷ codes "transform.structured.pad" ∷ codes "transform.structured.pack" ∷ codes "transform.structured.vectorize" ∷ []

-- of a script's steps
abbrev pub script_keyword_words : List (List ℕ)
script_keyword_words = codes "ops" ∷ codes "iterator_interchange" ∷ codes "tile_sizes" ∷ codes "packed_sizes" ∷ codes "vector_sizes" ∷ codes "padding_values" ∷ codes "padding_dimensions" ∷ codes "pad_to_multiple_of" ∷ codes "copy_back_op" ∷ []

-- operations that are not read yet: where a statement begins in a function
abbrev pub unbuilt_statements : List (List ℕ)
unbuilt_statements = codes "scf.for" ∷ codes "scf.forall" ∷ []

-- operations that are not read yet: behind the results of an operation in a function
abbrev pub unbuilt_operations : List (List ℕ)
unbuilt_operations = codes "affine.apply" ∷ codes "affine.min" ∷ codes "tensor.extract_slice" ∷ codes "tensor.insert_slice" ∷ codes "tensor.pad" ∷ codes "linalg.pack" ∷ codes "linalg.unpack" ∷ codes "scf.for" ∷ codes "scf.forall" ∷ codes "vector.create_mask" ∷ codes "vector.transfer_read" ∷ codes "vector.transfer_write" ∷ codes "vector.multi_reduction" ∷ []

abbrev pub unbuilt_elementwise : List (List ℕ)
unbuilt_elementwise = codes "arith.addi" ∷ codes "arith.subi" ∷ codes "arith.muli" ∷ codes "arith.divsi" ∷ codes "arith.divui" ∷ codes "arith.remsi" ∷ codes "arith.remui" ∷ codes "arith.andi" ∷ codes "arith.ori" ∷ codes "arith.xori" ∷ codes "arith.shli" ∷ codes "arith.shrsi" ∷ codes "arith.shrui" ∷ codes "arith.maxsi" ∷ codes "arith.maxui" ∷ codes "arith.minsi" ∷ codes "arith.minui" ∷ codes "arith.cmpi" ∷ codes "arith.select" ∷ codes "arith.extsi" ∷ codes "arith.extui" ∷ codes "arith.trunci" ∷ []

-- the name of an operation that the profile has at the position, and that is not read yet; each step of a payload is read
abbrev pub is_unbuilt : Position → List ℕ → Bool
is_unbuilt Item text = false
is_unbuilt Statement text = is_among unbuilt_statements text
is_unbuilt Operation text = is_among unbuilt_operations text || is_among unbuilt_elementwise text
is_unbuilt PayloadStatement text = false
is_unbuilt PayloadStep text = false
is_unbuilt ScriptStatement text = false
is_unbuilt ScriptStep text = false

-- a word of the profile that is no integer type
unfoldable pub profile_words : List ℕ → Bool
profile_words text =
    is_among structure_words text || is_among keyword_words text || is_among tensor_words text || is_among loop_words text
    || is_among arith_words text || is_among choice_words text || is_among script_words text || is_among script_keyword_words text
