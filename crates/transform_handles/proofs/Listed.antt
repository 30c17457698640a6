-- What a search lists, by what its sets hold.
use Rattle.std.proofs.Common.{◌≡◌, ℕ, true, List, ◌++◌, map, Some, None, Result, Ok, Err, ◌∙◌}
use Rattle.std.specs.Prelude.{IfOk}
use Rattle.mlir_base.specs.declared.memory.Memory.{Memory}
use Rattle.mlir_ir.specs.Shape.{FuncShape}
use Rattle.transform_handles.specs.declared.name_set.NameSet.{NameSet}
use Rattle.transform_handles.specs.declared.target.Target.{Target}
use Rattle.transform_handles.specs.declared.target_set.TargetSet.{TargetSet}
use Rattle.transform_handles.specs.Names.{HoldsNames}
use Rattle.transform_handles.specs.Targets.{Holds, has}
use Rattle.transform_handles.specs.Handles.{Row, left, consumed}
use Rattle.transform_handles.specs.Items.{picked, is_listed, items_from, matched, inside}
use Rattle.transform_handles.specs.Matching.{wants}

pub lists_inside : (r : Result (List Target) Memory) (s : TargetSet) (ts : List Target) (fs gs : List FuncShape) → gs ≡ fs → Holds s ts →
    IfOk r (λ f. f ≡ picked (wants (record { names = None; targets = s })) (items_from 0 gs)) → IfOk r (λ f. f ≡ inside ts fs)
unfolding inside
lists_inside (Ok f) s ts fs gs e h a = a ∙ (λ j. picked (is_listed (λ _. true) (λ t. h t j)) (items_from 0 (e j)))
lists_inside (Err x) s ts fs gs e h a = tt

pub lists_matched : (r : Result (List Target) Memory) (n : NameSet) (s : TargetSet) (names : List (List ℕ)) (ts : List Target) (fs gs : List FuncShape) → gs ≡ fs → HoldsNames n.names names → Holds s ts →
    IfOk r (λ f. f ≡ picked (wants (record { names = Some n; targets = s })) (items_from 0 gs)) → IfOk r (λ f. f ≡ matched names ts fs)
unfolding matched
lists_matched (Ok f) n s names ts fs gs e g h a = a ∙ (λ j. picked (is_listed (λ x. g x j) (λ t. h t j)) (items_from 0 (e j)))
lists_matched (Err x) n s names ts fs gs e g h a = tt

-- rows die as the set says, and so as the targets say
pub dies_as : (s : TargetSet) (ts : List Target) (fs : List FuncShape) (rows : List Row) → Holds s (ts ++ inside ts fs) → map (left (has s)) rows ≡ consumed ts fs rows
unfolding consumed
dies_as s ts fs rows h = λ j. map (left (λ t. h t j)) rows
