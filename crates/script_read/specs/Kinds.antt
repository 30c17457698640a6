-- What a step's text stands for, one chain in the order of its tokens (Transform dialect).
use Rattle.std.specs.Prelude.{ℕ, ◌-◌, Bool, ◌||◌, List, [], ◌∷◌, length, map, take, drop, codes, Result, Ok, Err, Option, Some, None}
use Rattle.text_format.specs.Words.{is_among}
use Rattle.text_format.specs.Token.{TokenShape}
use Rattle.mlir_lex.specs.declared.fault.Fault.{Fault}
use Rattle.mlir_lex.specs.declared.fault.Fault.TheVariants.{Unsupported}
use Rattle.mlir_lex.specs.Chain.{and_then, demand, each}
use Rattle.script_syntax.specs.declared.tree.literals.Signed.{Signed}
use Rattle.script_syntax.specs.declared.tree.literals.QuotedName.{QuotedName}
use Rattle.script_syntax.specs.declared.tree.steps.HandleStep.{HandleStep}
use Rattle.script_syntax.specs.declared.tree.steps.MatchStep.{MatchStep}
use Rattle.script_syntax.specs.declared.tree.steps.SizedStep.{SizedStep}
use Rattle.script_syntax.specs.declared.tree.steps.TileForStep.{TileForStep}
use Rattle.script_syntax.specs.declared.tree.steps.FuseStep.{FuseStep}
use Rattle.script_syntax.specs.declared.tree.steps.Multiples.{Multiples}
use Rattle.script_syntax.specs.declared.tree.steps.PadStep.{PadStep}
use Rattle.script_syntax.specs.declared.tree.steps.VectorSizes as sizes
use Rattle.script_syntax.specs.declared.tree.steps.VectorizeStep.{VectorizeStep}
use Rattle.script_syntax.specs.declared.tree.results.OneResult.{OneResult}
use Rattle.script_syntax.specs.declared.tree.results.OneResult.TheVariants as one
use Rattle.script_syntax.specs.declared.tree.results.TwoResults.{TwoResults}
use Rattle.script_syntax.specs.declared.tree.results.TwoResults.TheVariants as two
use Rattle.script_syntax.specs.declared.tree.results.ThreeResults.{ThreeResults}
use Rattle.script_syntax.specs.declared.tree.results.ThreeResults.TheVariants as three
use Rattle.script_syntax.specs.declared.tree.results.ManyResults.{ManyResults}
use Rattle.script_syntax.specs.declared.tree.results.ManyResults.TheVariants as any
use Rattle.script_read.specs.declared.script.HandleId.{HandleId}
use Rattle.script_read.specs.declared.script.PadArgs.{PadArgs}
use Rattle.script_read.specs.declared.script.StepKind.{StepKind}
use Rattle.script_read.specs.declared.script.StepKind.TheVariants as kinds
use Rattle.script_read.specs.Names.{Entry}
use Rattle.script_read.specs.Numbers.{sizes_of, pad_value_of}
use Rattle.script_read.specs.Scope.{handle}

-- ---- names of operations that are matched: those with which the texts of operations begin, and functions

abbrev pub match_words : List (List ℕ)
match_words = codes "func.func" ∷ codes "return" ∷ codes "affine.apply" ∷ codes "affine.min" ∷ codes "tensor.empty" ∷ codes "tensor.extract_slice" ∷ codes "tensor.insert_slice" ∷ codes "tensor.pad" ∷ codes "tensor.parallel_insert_slice" ∷ codes "linalg.generic" ∷ codes "linalg.fill" ∷ codes "linalg.matmul" ∷ codes "linalg.batch_matmul" ∷ codes "linalg.transpose" ∷ codes "linalg.broadcast" ∷ codes "linalg.pack" ∷ codes "linalg.unpack" ∷ codes "scf.for" ∷ codes "scf.forall" ∷ codes "scf.yield" ∷ codes "vector.create_mask" ∷ codes "vector.transfer_read" ∷ codes "vector.transfer_write" ∷ codes "vector.multi_reduction" ∷ []

abbrev pub match_arith_words : List (List ℕ)
match_arith_words = codes "arith.constant" ∷ codes "arith.addi" ∷ codes "arith.subi" ∷ codes "arith.muli" ∷ codes "arith.divsi" ∷ codes "arith.divui" ∷ codes "arith.remsi" ∷ codes "arith.remui" ∷ codes "arith.andi" ∷ codes "arith.ori" ∷ codes "arith.xori" ∷ codes "arith.shli" ∷ codes "arith.shrsi" ∷ codes "arith.shrui" ∷ codes "arith.maxsi" ∷ codes "arith.maxui" ∷ codes "arith.minsi" ∷ codes "arith.minui" ∷ codes "arith.cmpi" ∷ codes "arith.select" ∷ codes "arith.extsi" ∷ codes "arith.extui" ∷ codes "arith.trunci" ∷ []

abbrev pub is_match_name : List ℕ → Bool
is_match_name text = is_among match_words text || is_among match_arith_words text

-- what stands between the quotes
abbrev pub unquoted : List ℕ → List ℕ
unquoted text = take (length text - 2) (drop 1 text)

abbrev pub name_of : QuotedName → Result (List ℕ) Fault
name_of q = and_then (demand (is_match_name (unquoted q.text.text)) (Unsupported q.text.start)) (λ _. Ok (unquoted q.text.text))

-- ---- steps, whose handles lie below `next`

abbrev pub sized : List Entry → ℕ → TokenShape → List Signed → Result (HandleId × List ℕ) Fault
sized env next target list = and_then (handle env next target) (λ h. and_then (sizes_of list) (λ ns. Ok (h, ns)))

abbrev pub match_of : List Entry → ℕ → MatchStep → Result StepKind Fault
match_of env next s = and_then (each name_of s.names) (λ names. and_then (handle env next s.target) (λ h. Ok (kinds.Match names h)))

abbrev pub split_of : List Entry → ℕ → HandleStep → Result StepKind Fault
split_of env next s = and_then (handle env next s.target) (λ h. Ok (kinds.Split h))

abbrev pub tile_for_of : List Entry → ℕ → TileForStep → Result StepKind Fault
tile_for_of env next s = and_then (sized env next s.target s.sizes) (λ x. Ok (kinds.TileFor x.0 x.1))

abbrev pub tile_forall_of : List Entry → ℕ → SizedStep → Result StepKind Fault
tile_forall_of env next s = and_then (sized env next s.target s.sizes) (λ x. Ok (kinds.TileForall x.0 x.1))

abbrev pub fuse_of : List Entry → ℕ → FuseStep → Result StepKind Fault
fuse_of env next s = and_then (handle env next s.producer) (λ p. and_then (handle env next s.containing) (λ h. Ok (kinds.FuseInto p h)))

-- multiples that are left out are 1
abbrev pub multiples_of : List ℕ → Option Multiples → Result (List ℕ) Fault
multiples_of dims None = Ok (map (λ _. 1) dims)
multiples_of dims (Some m) = sizes_of m.list

abbrev pub pad_args_of : PadStep → Result PadArgs Fault
pad_args_of s =
    and_then (each pad_value_of s.values) (λ values. and_then (sizes_of s.dimensions) (λ dims. and_then (multiples_of dims s.multiples) (λ multiples.
    Ok (record { values = values; dims = dims; multiples = multiples }))))

abbrev pub pad_of : List Entry → ℕ → PadStep → Result StepKind Fault
pad_of env next s = and_then (handle env next s.target) (λ h. and_then (pad_args_of s) (λ args. Ok (kinds.Pad h args)))

abbrev pub vector_sizes_of : Option sizes.VectorSizes → Result (Option (List ℕ)) Fault
vector_sizes_of None = Ok None
vector_sizes_of (Some v) = and_then (sizes_of v.list) (λ ns. Ok (Some ns))

abbrev pub vectorize_of : List Entry → ℕ → VectorizeStep → Result StepKind Fault
vectorize_of env next s = and_then (handle env next s.target) (λ h. and_then (vector_sizes_of s.sizes) (λ ns. Ok (kinds.Vectorize h ns)))

-- ---- by the number of results

abbrev pub one_name : OneResult → TokenShape
one_name (one.Match s) = s.name
one_name (one.Split s) = s.name
one_name (one.Generalize s) = s.name
one_name (one.TileFor s) = s.name
one_name (one.Interchange s) = s.name
one_name (one.Pack s) = s.name
one_name (one.FuseElementwise s) = s.name

abbrev pub one_of : List Entry → ℕ → OneResult → Result StepKind Fault
one_of env next (one.Match s) = match_of env next s
one_of env next (one.Split s) = split_of env next s
one_of env next (one.Generalize s) = and_then (handle env next s.target) (λ h. Ok (kinds.Generalize h))
one_of env next (one.TileFor s) = tile_for_of env next s
one_of env next (one.Interchange s) = and_then (sized env next s.target s.sizes) (λ x. Ok (kinds.Interchange x.0 x.1))
one_of env next (one.Pack s) = and_then (sized env next s.target s.sizes) (λ x. Ok (kinds.Pack x.0 x.1))
one_of env next (one.FuseElementwise s) = and_then (handle env next s.target) (λ h. Ok (kinds.FuseElementwise h))

abbrev pub two_name : TwoResults → TokenShape
two_name (two.Split s) = s.name
two_name (two.TileFor s) = s.name
two_name (two.TileForall s) = s.name
two_name (two.FuseInto s) = s.name

abbrev pub two_of : List Entry → ℕ → TwoResults → Result StepKind Fault
two_of env next (two.Split s) = split_of env next s
two_of env next (two.TileFor s) = tile_for_of env next s
two_of env next (two.TileForall s) = tile_forall_of env next s
two_of env next (two.FuseInto s) = fuse_of env next s

abbrev pub three_name : ThreeResults → TokenShape
three_name (three.Split s) = s.name
three_name (three.TileFor s) = s.name
three_name (three.Pad s) = s.name

abbrev pub three_of : List Entry → ℕ → ThreeResults → Result StepKind Fault
three_of env next (three.Split s) = split_of env next s
three_of env next (three.TileFor s) = tile_for_of env next s
three_of env next (three.Pad s) = pad_of env next s

abbrev pub many_name : ManyResults → TokenShape
many_name (any.Split s) = s.name
many_name (any.TileFor s) = s.name

abbrev pub many_of : List Entry → ℕ → ManyResults → Result StepKind Fault
many_of env next (any.Split s) = split_of env next s
many_of env next (any.TileFor s) = tile_for_of env next s
