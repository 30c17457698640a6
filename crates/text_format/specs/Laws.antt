-- What every format keeps, as one record of laws.
use Rattle.std.specs.Prelude.{◌≡◌, ◌≤◌, ℕ, Bool, true, false, List, [], ◌∷◌, ◌++◌, length, ◌⊎◌, Option, Some, None}
use Rattle.text_format.specs.declared.class.Class.{Class}
use Rattle.text_format.specs.declared.class.Class.TheVariants.{Exactly}
use Rattle.text_format.specs.declared.class.Reason.{Reason}
use Rattle.text_format.specs.Token.{TokenShape}
use Rattle.text_format.specs.Lexemes.{lexeme_kind, lexeme_text}
use Rattle.text_format.specs.Classes.{fits, refusal, within, apart}
use Rattle.text_format.specs.Formats.{State, Stop, Item, Fixed, Leaf, class_of, live, stopped, at_token, at_end, Format}

-- the token may stand in the item's place
abbrev pub IsItem : Item → TokenShape → Type 0
IsItem (Fixed l) t = (t.kind ≡ lexeme_kind l) × (t.text ≡ lexeme_text l)
IsItem (Leaf c u) t = (fits c t ≡ true) × (t ≡ u)

-- the tokens are those that are spelled
abbrev pub Matches : List Item → List TokenShape → Type 0
Matches [] [] = Unit {0}
Matches [] (t ∷ ts) = ⊥
Matches (i ∷ is) [] = ⊥
Matches (i ∷ is) (t ∷ ts) = IsItem i t × Matches is ts

-- some tokens match the items
abbrev pub Filled : List Item → Type 0
Filled [] = Unit {0}
Filled (Fixed l ∷ is) = Filled is
Filled (Leaf c u ∷ is) = (fits c u ≡ true) × Filled is

-- why the token can't stand in the item's place
abbrev pub reason : Item → TokenShape → Reason
reason i t = refusal (class_of i) t

-- Reading takes the items from the front of the tokens, all of them or up to a token that doesn't fit, or the end.
-- Behind that the tree is filled up.
abbrev pub ConsumesFrom : ℕ → List Item → List TokenShape → State → Type 0
ConsumesFrom end [] ts s = s ≡ live end ts
ConsumesFrom end (i ∷ is) [] s = Filled (i ∷ is) × (s ≡ stopped (at_end end) end [])
ConsumesFrom end (i ∷ is) (t ∷ ts) s =
    (IsItem i t × ConsumesFrom end is ts s) ⊎ (Filled (i ∷ is) × (fits (class_of i) t ≡ false) × (s ≡ stopped (at_token (class_of i) t) end (t ∷ ts)))

abbrev pub ConsumesBy : Option Stop → ℕ → List Item → List TokenShape → State → Type 0
ConsumesBy None end is ts s = ConsumesFrom end is ts s
ConsumesBy (Some p) end is ts s = Filled is × (s ≡ stopped p end ts)

abbrev pub Consumes : List Item → State → State → Type 0
Consumes is old new = ConsumesBy old.stop old.end is old.rest new

-- what is read is spelled so
abbrev pub Reads : {A : Type 0} → Format A → Type 0
Reads f = (s : State) → Consumes (f.spell (f.read s).0) s (f.read s).1

-- what is read is spelled so; what is spelled so is read; tokens that begin as a tree is spelled are read, whatever comes after them
pub record IsExact {A : Type 0} (f : Format A) : Type 0 where
  pub reads : (s : State) → Consumes (f.spell (f.read s).0) s (f.read s).1
  pub again : (end : ℕ) (x : A) (ts rest : List TokenShape) → Matches (f.spell x) ts → f.read (live end (ts ++ rest)) ≡ (x, live end rest)
  pub greedy : (end : ℕ) (x : A) (pre tail : List Item) (ts rest : List TokenShape) → f.spell x ≡ pre ++ tail → Matches pre ts → length (f.read (live end (ts ++ rest))).1.rest ≤ length rest

-- the first item is one of the class, or none of it
abbrev pub begins : Class → List Item → Bool
begins c [] = false
begins c (Fixed l ∷ is) = within (Exactly l) c
begins c (Leaf d u ∷ is) = within d c

abbrev pub avoids : Class → List Item → Bool
avoids c [] = false
avoids c (Fixed l ∷ is) = apart (Exactly l) c
avoids c (Leaf d u ∷ is) = apart d c
