-- The parts that a form's text has, and which forms have a meaning for each of their parts.
use Rattle.std.specs.Prelude.{ℕ, zero, suc, Bool, true, false, ◌&&◌, nat_lt, List, [], ◌∷◌, Option, Some, None}
use Rattle.std.specs.List.{AllByRecursion}
use Rattle.text_format.specs.declared.class.Class.TheVariants.{Iterator}
use Rattle.form_table.specs.declared.part.Entry.{Entry}
use Rattle.form_table.specs.declared.part.Entry.TheVariants as entries
use Rattle.form_table.specs.declared.part.Next.{Next}
use Rattle.form_table.specs.declared.part.Part.{Part}
use Rattle.form_table.specs.declared.part.Part.TheVariants as parts
use Rattle.form_table.specs.declared.want.Element.{Element}
use Rattle.form_table.specs.declared.want.Element.TheVariants.{Leaf, Literal, Index, Map}
use Rattle.form_table.specs.declared.want.Role.{Role}
use Rattle.form_table.specs.declared.want.Role.TheVariants.{Used, TypeOf, ResultType, OutputType, Held, Repeated}
use Rattle.form_table.specs.declared.want.Want.{Want}
use Rattle.form_table.specs.declared.want.Want.TheVariants as wants

-- ---- parts

abbrev pub IsEntry : Element → Entry → Type 0
IsEntry (Leaf c) (entries.Token t) = Unit {0}
IsEntry Literal (entries.Number minus digits) = Unit {0}
IsEntry Index (entries.Token t) = Unit {0}
IsEntry Index (entries.Number minus digits) = Unit {0}
IsEntry Map (entries.Token t) = Unit {0}
IsEntry Map (entries.Map m) = Unit {0}
IsEntry e x = ⊥

abbrev pub AreEntries : Element → List Next → Type 0
AreEntries e xs = AllByRecursion (λ x. IsEntry e x.entry) xs

-- a list without a first entry has none
abbrev pub IsList : Element → Option Entry → List Next → Type 0
IsList e None [] = Unit {0}
IsList e None (x ∷ xs) = ⊥
IsList e (Some x) xs = IsEntry e x × AreEntries e xs

-- the part is one for the want
abbrev pub IsPart : Want → Part → Type 0
IsPart (wants.One e r) (parts.One x) = IsEntry e x
IsPart (wants.Kept l) (parts.One (entries.Token t)) = Unit {0}
IsPart (wants.Listed e close r) (parts.Listed o xs t) = IsList e o xs
IsPart (wants.More e r) (parts.More xs) = AreEntries e xs
IsPart wants.Dense (parts.Dense ds) = Unit {0}
IsPart (wants.Maybe l n) (parts.There b) = Unit {0}
IsPart w p = ⊥

-- how many wants are left out behind a part
abbrev pub left_out : Want → Part → ℕ
left_out (wants.Maybe l n) (parts.There false) = n
left_out w p = zero

-- how many wants are left out behind one that has no part
abbrev pub silent : Want → Option ℕ
silent (wants.Fixed l) = Some zero
silent wants.Space = Some zero
silent (wants.Jump n) = Some n
silent w = None

abbrev pub IsNextPart : Want → Option ℕ → List Part → (ℕ → List Part → Type 0) → Type 0
IsNextPart w (Some n) ps go = go n ps
IsNextPart w None [] go = ⊥
IsNextPart w None (p ∷ ps) go = IsPart w p × go (left_out w p) ps

-- the parts are those of the wants, where the first k are left out
unfoldable pub AreParts : List Want → ℕ → List Part → Type 0
AreParts [] k [] = Unit {0}
AreParts [] k (p ∷ ps) = ⊥
AreParts (w ∷ ws) (suc k) ps = AreParts ws k ps
AreParts (w ∷ ws) zero ps = IsNextPart w (silent w) ps (λ n qs. AreParts ws n qs)

-- ---- forms

-- a part that stands alone has a meaning in its role, behind so many values that are used
abbrev pub one_means : Element → Role → ℕ → Bool
one_means (Leaf c) Used u = true
one_means (Leaf c) (TypeOf k) u = nat_lt k u
one_means (Leaf c) ResultType u = true
one_means (Leaf c) OutputType u = nat_lt 0 u
one_means Literal Held u = true
one_means e r u = false

abbrev pub list_means : Element → Role → Bool
list_means Literal Held = true
list_means Index Held = true
list_means Map Held = true
list_means (Leaf Iterator) Held = true
list_means Literal (Repeated n) = true
list_means e r = false

abbrev pub more_means : Element → Role → Bool
more_means (Leaf c) Used = true
more_means (Leaf c) (TypeOf k) = true
more_means e r = false

abbrev pub want_means : Want → ℕ → Bool
want_means (wants.One e r) u = one_means e r u
want_means (wants.Listed e close r) u = list_means e r
want_means (wants.More e r) u = more_means e r
want_means w u = true

abbrev pub used_behind : Want → ℕ → ℕ
used_behind (wants.One e Used) u = suc u
used_behind w u = u

-- each part has a meaning, where the first k wants are left out and at least so many values are used
abbrev pub all_mean : List Want → ℕ → ℕ → Bool
all_mean [] k u = true
all_mean (w ∷ ws) (suc k) u = all_mean ws k u
all_mean (wants.Jump n ∷ ws) zero u = all_mean ws n u
all_mean (wants.Maybe l n ∷ ws) zero u = all_mean ws zero u && all_mean ws n u
all_mean (w ∷ ws) zero u = want_means w u && all_mean ws zero (used_behind w u)
