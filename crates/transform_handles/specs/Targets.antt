-- What a handle names (Transform manual, "Transform Dialect": a handle stands for a list of payload operations), and sets of it.
use Rattle.std.specs.Prelude.{◌≡◌, ◌==◌, Bool, true, false, List}
use Rattle.std.specs.BTreeSet as sorted
use Rattle.std.specs.List.{list_any}
use Rattle.std.specs.Ordering.{nat_cmp}
use Rattle.transform_handles.specs.declared.target.Target.{Target}
use Rattle.transform_handles.specs.declared.target.Target.TheVariants.{Root, Function, Operation}
use Rattle.transform_handles.specs.declared.target_set.TargetSet.{TargetSet}

abbrev pub is_same : Target → Target → Bool
is_same Root Root = true
is_same (Function k) (Function n) = k == n
is_same (Operation i) (Operation j) = i.0 == j.0
is_same _ _ = false

abbrev pub is_one_of : Target → List Target → Bool
is_one_of t = list_any (λ u. is_same u t)

-- whether a set has a target
abbrev pub has : TargetSet → Target → Bool
has s Root = s.root
has s (Function k) = sorted.contains nat_cmp s.functions k
has s (Operation i) = sorted.contains nat_cmp s.operations i.0

-- the set has these targets and no others
abbrev pub Holds : TargetSet → List Target → Type 0
Holds s ts = (t : Target) → has s t ≡ is_one_of t ts
