-- What a walk over the operations keeps: which numbers were defined, the types of the values in scope, and which are constants.
use Rattle.std.specs.Prelude.{◌≡◌, ℕ, Bool, true, false, List, ◌++◌, Result, Ok, Err, ⊤, option_copied}
use Rattle.std.specs.BTreeMap as tree
use Rattle.std.specs.BTreeSet as sorted
use Rattle.std.specs.BTreeSet.{BTreeSet}
use Rattle.std.specs.Ordering.{nat_cmp}
use Rattle.mlir_verify.specs.declared.scope.Scope.{Scope}
use Rattle.mlir_base.specs.declared.memory.Memory.{Memory}
use Rattle.mlir_verify.specs.Place.{Types}
use Rattle.mlir_verify.specs.Constants.{Constants}
use Rattle.affine_maps.specs.Permutation.{is_among}
use Rattle.mlir_verify.specs.Names.{redefines}

abbrev pub types_in : Scope → Types
types_in s v = option_copied (tree.get nat_cmp s.types v)

abbrev pub constants_in : Scope → Constants
constants_in s v = sorted.contains nat_cmp s.constants v

-- a set that has these numbers and no others
abbrev pub IsSet : BTreeSet ℕ → List ℕ → Type 0
IsSet s known = (q : ℕ) → sorted.contains nat_cmp s q ≡ is_among q known

-- the set after numbers were added to those known before: `false` where one redefines
abbrev pub Adds : Result Bool Memory → BTreeSet ℕ → List ℕ → List ℕ → Type 0
Adds (Ok true) s ns known = (redefines ns known ≡ false) × IsSet s (known ++ ns)
Adds (Ok false) s ns known = redefines ns known ≡ true
Adds (Err e) s ns known = ⊤
