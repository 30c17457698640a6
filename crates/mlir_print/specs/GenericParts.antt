-- The bytes of generic operations, in the order in which they are written.
use Rattle.std.specs.Prelude.{ℕ, ◌+◌, List, [], ◌∷◌, ◌++◌, codes}
use Rattle.payload_ops.specs.Shape.{PayloadShape}
use Rattle.affine_maps.specs.Shape.{MapShape}
use Rattle.mlir_ir.specs.declared.tree.Ty.{Ty}
use Rattle.mlir_ir.specs.declared.tree.ValueId.{ValueId}
use Rattle.mlir_ir.specs.declared.tree.Iter.{Iter}
use Rattle.mlir_print.specs.Types.{ty_text}
use Rattle.mlir_print.specs.Names.{Names, Row, name_in, type_in}
use Rattle.mlir_print.specs.Returns.{values_text, types_text}
use Rattle.mlir_print.specs.Generics.{iterator_text}
use Rattle.mlir_print.specs.MapParts.{uses_text}
use Rattle.mlir_print.specs.PayloadParts.{region_text}

unfoldable pub ins_text : List Row → List ValueId → List ℕ
ins_text rows ins = codes "ins(" ++ (values_text rows [] ins ++ (codes " : " ++ (types_text rows [] ins ++ codes ")")))

unfoldable pub outs_text : List Row → ValueId → List ℕ
outs_text rows out = codes "outs(" ++ (name_in rows out ++ (codes " : " ++ (type_in rows out ++ codes ")")))

abbrev pub operands_text : List Row → List ValueId → ValueId → List ℕ
operands_text rows [] out = outs_text rows out
operands_text rows (v ∷ vs) out = ins_text rows (v ∷ vs) ++ (codes " " ++ outs_text rows out)

-- between commas; `before` stands before the first
abbrev pub iterators_text : List ℕ → List Iter → List ℕ
iterators_text before [] = []
iterators_text before (i ∷ is) = before ++ (iterator_text i ++ iterators_text (codes ", ") is)

unfoldable pub maps_text : List (List ℕ) → List MapShape → List ℕ
maps_text ts maps = codes "{indexing_maps = [" ++ (uses_text ts [] maps ++ codes "]")

unfoldable pub traits_text : List (List ℕ) → List MapShape → List Iter → List ℕ
traits_text ts maps its = maps_text ts maps ++ (codes ", iterator_types = [" ++ (iterators_text [] its ++ codes "]}"))

unfoldable pub head_text : List (List ℕ) → List Row → List MapShape → List Iter → List ValueId → ValueId → List ℕ
head_text ts rows maps its ins out = codes "linalg.generic " ++ (traits_text ts maps its ++ (codes " " ++ operands_text rows ins out))

unfoldable pub tail_text : List (List ℕ) → Names → Ty → PayloadShape → List ℕ
tail_text ts n ty p = codes " {\n    " ++ (region_text ts n.args (n.results + 1) p ++ (codes "\n    } -> " ++ ty_text ty))

unfoldable pub generic_text : List (List ℕ) → Names → Ty → List MapShape → List Iter → List ValueId → ValueId → PayloadShape → List ℕ
generic_text ts n ty maps its ins out p = head_text ts n.rows maps its ins out ++ tail_text ts n ty p
