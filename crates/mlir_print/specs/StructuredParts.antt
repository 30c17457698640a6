-- The bytes of structured operations that have a name of their own, in the order in which they are written.
use Rattle.std.specs.Prelude.{ℕ, List, [], ◌∷◌, ◌++◌, codes, decimal}
use Rattle.mlir_ir.specs.declared.tree.Ty.{Ty}
use Rattle.mlir_ir.specs.declared.tree.ValueId.{ValueId}
use Rattle.mlir_print.specs.Types.{ty_text}
use Rattle.mlir_print.specs.Names.{Row, name_in, type_in}
use Rattle.mlir_print.specs.GenericParts.{outs_text}

-- `ins(%a : T)`
unfoldable pub source_text : List Row → ValueId → List ℕ
source_text rows a = codes "ins(" ++ (name_in rows a ++ (codes " : " ++ (type_in rows a ++ codes ")")))

-- `ins(%a : T) outs(%o : T)`
unfoldable pub moved_text : List Row → ValueId → ValueId → List ℕ
moved_text rows a out = source_text rows a ++ (codes " " ++ outs_text rows out)

-- `outs(%o : T) -> T`
unfoldable pub into_text : List Row → Ty → ValueId → List ℕ
into_text rows ty out = outs_text rows out ++ (codes " -> " ++ ty_text ty)

unfoldable pub fill_text : List Row → Ty → ValueId → ValueId → List ℕ
fill_text rows ty v out = codes "linalg.fill " ++ (source_text rows v ++ (codes " " ++ into_text rows ty out))

-- `%a, %b`
unfoldable pub two_names_text : List Row → ValueId → ValueId → List ℕ
two_names_text rows a b = name_in rows a ++ (codes ", " ++ name_in rows b)

unfoldable pub two_types_text : List Row → ValueId → ValueId → List ℕ
two_types_text rows a b = type_in rows a ++ (codes ", " ++ type_in rows b)

unfoldable pub factors_text : List Row → Ty → ValueId → ValueId → ValueId → List ℕ
factors_text rows ty a b out = codes "ins(" ++ (two_names_text rows a b ++ (codes " : " ++ (two_types_text rows a b ++ (codes ") " ++ into_text rows ty out))))

abbrev pub matmul_text : List Row → Ty → ValueId → ValueId → ValueId → List ℕ
matmul_text rows ty a b out = codes "linalg.matmul " ++ factors_text rows ty a b out

abbrev pub batch_matmul_text : List Row → Ty → ValueId → ValueId → ValueId → List ℕ
batch_matmul_text rows ty a b out = codes "linalg.batch_matmul " ++ factors_text rows ty a b out

-- between commas; `before` stands before the first
abbrev pub axes_text : List ℕ → List ℕ → List ℕ
axes_text before [] = []
axes_text before (n ∷ ns) = before ++ (decimal n ++ axes_text (codes ", ") ns)

unfoldable pub transpose_text : List Row → ValueId → ValueId → List ℕ → List ℕ
transpose_text rows a out order = codes "linalg.transpose " ++ (moved_text rows a out ++ (codes " permutation = [" ++ (axes_text [] order ++ codes "]")))

unfoldable pub broadcast_text : List Row → ValueId → ValueId → List ℕ → List ℕ
broadcast_text rows a out dims = codes "linalg.broadcast " ++ (moved_text rows a out ++ (codes " dimensions = [" ++ (axes_text [] dims ++ codes "]")))
