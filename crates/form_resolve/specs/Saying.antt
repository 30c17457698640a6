-- Which fields stand for which values, in names and aliases in scope.
use Rattle.std.specs.Prelude.{◌≡◌, ◌-◌, ℕ, zero, suc, true, false, List, [], ◌∷◌, ◌++◌, length, drop, Result, Ok, Some}
use Rattle.mlir_base.specs.declared.types.ElemTy.{ElemTy}
use Rattle.mlir_ir.specs.declared.tree.Iter.{Iter}
use Rattle.mlir_ir.specs.declared.tree.Ty.{Ty}
use Rattle.mlir_ir.specs.declared.tree.ValueId.{ValueId}
use Rattle.text_format.specs.declared.class.Class.TheVariants.{Iterator}
use Rattle.text_format.specs.Token.{TokenShape}
use Rattle.form_table.specs.declared.part.Entry as table
use Rattle.form_table.specs.declared.field.Word.{Word}
use Rattle.form_table.specs.declared.field.Word.TheVariants as words
use Rattle.form_table.specs.declared.field.Field.{Field}
use Rattle.form_table.specs.declared.field.Field.TheVariants as fields
use Rattle.form_table.specs.declared.want.Element.{Element}
use Rattle.form_table.specs.declared.want.Element.TheVariants as elements
use Rattle.form_table.specs.declared.want.Role.TheVariants.{Used, TypeOf, ResultType, OutputType, Held, Repeated}
use Rattle.form_table.specs.declared.want.Want.{Want}
use Rattle.form_table.specs.declared.want.Want.TheVariants as wants
use Rattle.form_laws.specs.Fields.{word_of}
use Rattle.mlir_lex.specs.declared.fault.Fault.{Fault}
use Rattle.mlir_scope.specs.Names.{Entry}
use Rattle.mlir_scope.specs.Maps.{AliasShape}
use Rattle.mlir_scope.specs.Scope.{type_of, typed_as, operand_of}
use Rattle.mlir_scope.specs.Types.{type_at}
use Rattle.form_resolve.specs.declared.value.Value.{Value}
use Rattle.form_resolve.specs.declared.value.Value.TheVariants.{Id, MoreIds, Typed, Numbers, Indices, Maps, Iterators, Literal, There}
use Rattle.form_resolve.specs.Entries.{axis, index, is_number, map_entry, iterator_entry}

-- ---- words

-- wherever it is written, the word stands for this
abbrev pub StandsFor : {B : Type 0} → (table.Entry → Result B Fault) → Word → B → Type 0
StandsFor f w y = (x : table.Entry) → word_of x ≡ Some w → f x ≡ Ok y

abbrev pub StandFor : {B : Type 0} → (table.Entry → Result B Fault) → List Word → List B → Type 0
StandFor f [] [] = Unit {0}
StandFor f [] (y ∷ ys) = ⊥
StandFor f (w ∷ ws) [] = ⊥
StandFor f (w ∷ ws) (y ∷ ys) = StandsFor f w y × StandFor f ws ys

-- from iterator k on
abbrev pub AreIterators : ℕ → List Word → List Iter → Type 0
AreIterators k [] [] = Unit {0}
AreIterators k [] (i ∷ is) = ⊥
AreIterators k (w ∷ ws) [] = ⊥
AreIterators k (w ∷ ws) (i ∷ is) = StandsFor (iterator_entry k) w i × AreIterators (suc k) ws is

-- all of them are this number
abbrev pub AreRepeated : ℕ → ℕ → List Word → Type 0
AreRepeated n zero [] = Unit {0}
AreRepeated n (suc k) [] = ⊥
AreRepeated n zero (w ∷ ws) = ⊥
AreRepeated n (suc k) (w ∷ ws) = StandsFor (is_number n) w tt × AreRepeated n k ws

-- ---- names and types

-- behind so many operands, the name is that of a value with elements of this type
abbrev pub IsUse : List Entry → ℕ → List ℕ → ValueId × ElemTy → Type 0
IsUse env k name v = (t : TokenShape) → t.text ≡ name → operand_of env k t ≡ Ok v

abbrev pub AreUses : List Entry → ℕ → List Word → List (ValueId × ElemTy) → Type 0
AreUses env k [] [] = Unit {0}
AreUses env k [] (v ∷ vs) = ⊥
AreUses env k (w ∷ ws) [] = ⊥
AreUses env k (words.Text s ∷ ws) (v ∷ vs) = IsUse env k s.text v × AreUses env (suc k) ws vs
AreUses env k (words.Number b n ∷ ws) (v ∷ vs) = ⊥

-- the type is that of the value of this name
abbrev pub IsTypeOf : List Entry → List ℕ → List ℕ → Type 0
IsTypeOf env name ty = (t u : TokenShape) → t.text ≡ name → u.text ≡ ty → typed_as env t u ≡ Ok tt

-- that of the first of these names
abbrev pub IsTypeAt : List Entry → List (List ℕ) → List ℕ → Type 0
IsTypeAt env [] ty = ⊥
IsTypeAt env (name ∷ names) ty = IsTypeOf env name ty

abbrev pub AreTypes : List Entry → List (List ℕ) → List Word → Type 0
AreTypes env [] [] = Unit {0}
AreTypes env [] (w ∷ ws) = ⊥
AreTypes env (name ∷ names) [] = ⊥
AreTypes env (name ∷ names) (words.Text s ∷ ws) = IsTypeOf env name s.text × AreTypes env names ws
AreTypes env (name ∷ names) (words.Number b n ∷ ws) = ⊥

-- the first of these names is that of a value of this type
abbrev pub HasType : List Entry → List (List ℕ) → Ty → Type 0
HasType env [] ty = ⊥
HasType env (name ∷ names) ty = (t : TokenShape) → t.text ≡ name → type_of env t ≡ Ok ty

-- the text is that of this type
abbrev pub IsWrittenType : List ℕ → Ty → Type 0
IsWrittenType text ty = (t : TokenShape) → t.text ≡ text → type_at t ≡ Ok ty

-- ---- fields

-- what is written so far: the names of values that are used, and how many entries the last list has
pub record Told : Type 0 where
  pub names : List (List ℕ)
  pub count : ℕ

abbrev pub nothing_told : Told
nothing_told = record { names = []; count = zero }

abbrev pub with_names : Told → List (List ℕ) → Told
with_names t ns = record { names = t.names ++ ns; count = t.count }

abbrev pub told_count : Told → ℕ → Told
told_count t n = record { names = t.names; count = n }

abbrev pub last_name : List (List ℕ) → List (List ℕ)
last_name names = drop (length names - 1) names

abbrev pub texts_of : List Word → List (List ℕ)
texts_of [] = []
texts_of (words.Text s ∷ ws) = s.text ∷ texts_of ws
texts_of (words.Number b n ∷ ws) = texts_of ws

-- the entries of a list that the operation holds
abbrev pub HoldWords : List AliasShape → List Entry → Element → List Word → Value → Type 0
HoldWords aliases env elements.Literal us (Numbers ns) = StandFor axis us ns
HoldWords aliases env elements.Index us (Indices is) = StandFor (index env) us is
HoldWords aliases env elements.Map us (Maps ms) = StandFor (map_entry aliases) us ms
HoldWords aliases env (elements.Leaf Iterator) us (Iterators is) = AreIterators zero us is
HoldWords aliases env e us v = ⊥

-- the fields are written for the wants, where the first k are left out, and stand for the values
unfoldable pub Say : List AliasShape → List Entry → List Want → ℕ → Told → List Field → List Value → Type 0
Say al env [] k t [] [] = Unit {0}
Say al env (w ∷ ws) (suc k) t fs vs = Say al env ws k t fs vs
Say al env (wants.Fixed l ∷ ws) zero t fs vs = Say al env ws zero t fs vs
Say al env (wants.Space ∷ ws) zero t fs vs = Say al env ws zero t fs vs
Say al env (wants.Kept l ∷ ws) zero t fs vs = Say al env ws zero t fs vs
Say al env (wants.Jump n ∷ ws) zero t fs vs = Say al env ws n t fs vs
Say al env (wants.One e Used ∷ ws) zero t (fields.One (words.Text s) ∷ fs) (Id v ty ∷ vs) = IsUse env (length t.names) s.text (v, ty) × Say al env ws zero (with_names t (s.text ∷ [])) fs vs
Say al env (wants.One e (TypeOf k) ∷ ws) zero t (fields.One (words.Text s) ∷ fs) vs = IsTypeAt env (drop k t.names) s.text × Say al env ws zero t fs vs
Say al env (wants.One e ResultType ∷ ws) zero t (fields.One (words.Text s) ∷ fs) (Typed ty ∷ vs) = IsWrittenType s.text ty × Say al env ws zero t fs vs
Say al env (wants.One e OutputType ∷ ws) zero t (fields.One (words.Text s) ∷ fs) (Typed ty ∷ vs) = IsTypeAt env (last_name t.names) s.text × HasType env (last_name t.names) ty × Say al env ws zero t fs vs
Say al env (wants.One e Held ∷ ws) zero t (fields.One (words.Number b n) ∷ fs) (Literal ∷ vs) = Say al env ws zero t fs vs
Say al env (wants.Listed e close Held ∷ ws) zero t (fields.Several us ∷ fs) (v ∷ vs) = HoldWords al env e us v × Say al env ws zero (told_count t (length us)) fs vs
Say al env (wants.Listed e close (Repeated n) ∷ ws) zero t (fields.Several us ∷ fs) vs = AreRepeated n t.count us × Say al env ws zero t fs vs
Say al env (wants.More e Used ∷ ws) zero t (fields.Several us ∷ fs) (MoreIds xs ∷ vs) = AreUses env (length t.names) us xs × Say al env ws zero (with_names t (texts_of us)) fs vs
Say al env (wants.More e (TypeOf k) ∷ ws) zero t (fields.Several us ∷ fs) vs = AreTypes env (drop k t.names) us × Say al env ws zero t fs vs
Say al env (wants.Dense ∷ ws) zero t (fields.Dense ts ∷ fs) (Literal ∷ vs) = Say al env ws zero t fs vs
Say al env (wants.Maybe l n ∷ ws) zero t (fields.There true ∷ fs) (There true ∷ vs) = Say al env ws zero t fs vs
Say al env (wants.Maybe l n ∷ ws) zero t (fields.There false ∷ fs) (There false ∷ vs) = Say al env ws n t fs vs
Say al env ws k t fs vs = ⊥
