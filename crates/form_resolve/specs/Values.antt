-- Which values the parts of a form stand for: those that its wants ask for, within their limits.
use Rattle.std.specs.Prelude.{◌≡◌, ◌<◌, ◌≤◌, ◌+◌, ℕ, zero, suc, true, false, pos, List, [], ◌∷◌, length}
use Rattle.std.specs.List.{AllByRecursion}
use Rattle.affine_maps.specs.Map.{IsMap}
use Rattle.mlir_ir.specs.declared.tree.Idx.{Idx}
use Rattle.mlir_ir.specs.declared.tree.Idx.TheVariants as indices
use Rattle.form_table.specs.declared.want.Element.{Element}
use Rattle.form_table.specs.declared.want.Element.TheVariants as elements
use Rattle.form_table.specs.declared.want.Role.TheVariants.{Used, TypeOf, ResultType, OutputType, Held, Repeated}
use Rattle.form_table.specs.declared.want.Want.{Want}
use Rattle.form_table.specs.declared.want.Want.TheVariants as wants
use Rattle.form_resolve.specs.declared.value.Value.{Value}
use Rattle.form_resolve.specs.declared.value.Value.TheVariants.{Id, MoreIds, Typed, Numbers, Indices, Maps, Iterators, Literal, There}

-- a number of an index entry is an axis
abbrev pub IsIndex : Idx → Type 0
IsIndex (indices.Value v) = Unit {0}
IsIndex (indices.Literal z) = (n : ℕ) × (z ≡ pos n) × (n ≤ 1048576)

-- the entries of a list that the operation holds
abbrev pub IsHeld : Element → Value → Type 0
IsHeld elements.Literal (Numbers ns) = AllByRecursion (λ n. n ≤ 1048576) ns
IsHeld elements.Index (Indices is) = AllByRecursion IsIndex is
IsHeld elements.Map (Maps ms) = AllByRecursion IsMap ms
IsHeld (elements.Leaf c) (Iterators is) = length is ≤ 12
IsHeld e v = ⊥

-- Behind so many values that are used, the value for a want stands first, where it has one, and those for the others behind it.
-- At most 64 values are used.
abbrev pub IsFirst : Want → ℕ → List Value → (ℕ → ℕ → List Value → Type 0) → Type 0
IsFirst (wants.Fixed l) u vs go = go zero u vs
IsFirst wants.Space u vs go = go zero u vs
IsFirst (wants.Kept l) u vs go = go zero u vs
IsFirst (wants.One e Used) u (Id v ty ∷ vs) go = (u < 64) × go zero (suc u) vs
IsFirst (wants.One e (TypeOf k)) u vs go = go zero u vs
IsFirst (wants.One e ResultType) u (Typed ty ∷ vs) go = go zero u vs
IsFirst (wants.One e OutputType) u (Typed ty ∷ vs) go = go zero u vs
IsFirst (wants.One e Held) u (Literal ∷ vs) go = go zero u vs
IsFirst (wants.Listed e close Held) u (v ∷ vs) go = IsHeld e v × go zero u vs
IsFirst (wants.Listed e close (Repeated n)) u vs go = go zero u vs
IsFirst (wants.More e Used) u (MoreIds us ∷ vs) go = (u + length us ≤ 64) × go zero (u + length us) vs
IsFirst (wants.More e (TypeOf k)) u vs go = go zero u vs
IsFirst wants.Dense u (Literal ∷ vs) go = go zero u vs
IsFirst (wants.Maybe l n) u (There true ∷ vs) go = go zero u vs
IsFirst (wants.Maybe l n) u (There false ∷ vs) go = go n u vs
IsFirst (wants.Jump n) u vs go = go n u vs
IsFirst w u vs go = ⊥

-- the values are those for the wants, where the first k are left out, behind so many that are used
unfoldable pub AreFor : List Want → ℕ → ℕ → List Value → Type 0
AreFor [] k u [] = Unit {0}
AreFor [] k u (v ∷ vs) = ⊥
AreFor (w ∷ ws) (suc k) u vs = AreFor ws k u vs
AreFor (w ∷ ws) zero u vs = IsFirst w u vs (λ n m us. AreFor ws n m us)
