-- A format is how a tree is spelled, and how it is read. Reading always gives a tree: behind the first fault it is filled up.
use Rattle.std.specs.Prelude.{ℕ, zero, suc, Bool, false, List, [], ◌∷◌, ◌++◌, length, if◌then◌else◌, ◌⊎◌, Option, Some, None}
use Rattle.std.proofs.Common.{inl, inr}
use Rattle.text_format.specs.declared.lexeme.Lexeme.{Lexeme}
use Rattle.text_format.specs.declared.lexeme.Lexeme.TheVariants.{Comma}
use Rattle.text_format.specs.declared.class.Class.{Class}
use Rattle.text_format.specs.declared.class.Class.TheVariants.{Exactly}
use Rattle.text_format.specs.declared.class.Reason.{Reason}
use Rattle.text_format.specs.declared.class.Reason.TheVariants.{Syntax}
use Rattle.text_format.specs.Token.{TokenShape}
use Rattle.text_format.specs.Classes.{fits, refusal, missing}

-- where reading stopped, and why
pub record Stop : Type 0 where
  pub at : ℕ
  pub why : Reason

-- what is left to read, whether reading stopped, and the length of the text
pub record State : Type 0 where
  pub rest : List TokenShape
  pub stop : Option Stop
  pub end : ℕ

-- a fixed token, or a token of a class
pub data Item : Type 0 where
  Fixed : Lexeme → Item
  Leaf : Class → TokenShape → Item

-- the class whose tokens may stand in the item's place
abbrev pub class_of : Item → Class
class_of (Fixed l) = Exactly l
class_of (Leaf c u) = c

abbrev pub live : ℕ → List TokenShape → State
live end ts = record { rest = ts; stop = None; end = end }

abbrev pub stopped : Stop → ℕ → List TokenShape → State
stopped p end ts = record { rest = ts; stop = Some p; end = end }

-- a token that doesn't fit, and the end of the text, where one is wanted
abbrev pub at_token : Class → TokenShape → Stop
at_token c t = record { at = t.start; why = refusal c t }

abbrev pub at_end : ℕ → Stop
at_end end = record { at = end; why = Syntax }

-- ---- one token

abbrev pub sees_in : Class → List TokenShape → Bool
sees_in c [] = false
sees_in c (t ∷ ts) = fits c t

abbrev pub sees_by : Option Stop → Class → List TokenShape → Bool
sees_by None c ts = sees_in c ts
sees_by (Some p) c ts = false

-- A token of the class comes next.
unfoldable pub sees : Class → State → Bool
sees c s = sees_by s.stop c s.rest

abbrev pub leaf_in : Class → ℕ → List TokenShape → TokenShape × State
leaf_in c end [] = (missing c end, stopped (at_end end) end [])
leaf_in c end (t ∷ ts) = if fits c t then (t, live end ts) else (missing c t.start, stopped (at_token c t) end (t ∷ ts))

abbrev pub leaf_by : Option Stop → Class → ℕ → List TokenShape → TokenShape × State
leaf_by None c end ts = leaf_in c end ts
leaf_by (Some p) c end ts = (missing c p.at, stopped p end ts)

-- A token of the class.
unfoldable pub leaf_at : Class → State → TokenShape × State
leaf_at c s = leaf_by s.stop c s.end s.rest

-- A fixed token.
abbrev pub after_fixed : Lexeme → State → State
after_fixed l s = (leaf_at (Exactly l) s).1

-- ---- formats

pub record Format (A : Type 0) : Type 0 where
  pub spell : A → List Item
  pub read : State → A × State

abbrev pub leaf : Class → Format TokenShape
leaf c = record { spell = λ t. Leaf c t ∷ []; read = leaf_at c }

-- a fixed token, of which nothing is kept
abbrev pub only : Lexeme → Format (Unit {0})
only l = record { spell = λ _. Fixed l ∷ []; read = λ s. (tt, after_fixed l s) }

-- one after the other
infixr 22 ◌⊗◌
abbrev pub ◌⊗◌ : {A B : Type 0} → Format A → Format B → Format (A × B)
f ⊗ g = record { spell = λ x. f.spell x.0 ++ g.spell x.1; read = λ s. (((f.read s).0, (g.read (f.read s).1).0), (g.read (f.read s).1).1) }

-- the same under other names
abbrev pub as_record : {A B : Type 0} → (A → B) → (B → A) → Format A → Format B
as_record make parts f = record { spell = λ y. f.spell (parts y); read = λ s. (make (f.read s).0, (f.read s).1) }

-- a fixed token, and then the format
infixr 22 ◌▸◌
abbrev pub ◌▸◌ : {A : Type 0} → Lexeme → Format A → Format A
l ▸ f = as_record (λ x. x.1) (λ y. (tt, y)) (only l ⊗ f)

-- the format, and then a fixed token
abbrev pub before : {A : Type 0} → Lexeme → Format A → Format A
before l f = as_record (λ x. x.0) (λ y. (y, tt)) (f ⊗ only l)

-- ---- by the token that comes next

abbrev pub spell_either : {A B : Type 0} → Format A → Format B → A ⊎ B → List Item
spell_either f g (inl x) = f.spell x
spell_either f g (inr y) = g.spell y

abbrev pub first_read : {A B : Type 0} → A × State → (A ⊎ B) × State
first_read r = (inl r.0, r.1)

abbrev pub second_read : {A B : Type 0} → B × State → (A ⊎ B) × State
second_read r = (inr r.0, r.1)

-- the first where a token of the class comes next, and else the second
abbrev pub either : {A B : Type 0} → Class → Format A → Format B → Format (A ⊎ B)
either c f g = record { spell = spell_either f g; read = λ s. if sees c s then first_read (f.read s) else second_read (g.read s) }

abbrev pub spell_some : {A : Type 0} → Format A → Option A → List Item
spell_some f None = []
spell_some f (Some x) = f.spell x

abbrev pub some_read : {A : Type 0} → A × State → Option A × State
some_read r = (Some r.0, r.1)

-- An item where a token of the class comes next.
unfoldable pub optional_at : {A : Type 0} → Class → Format A → State → Option A × State
optional_at c f s = if sees c s then some_read (f.read s) else (None, s)

-- the first where a token of the class comes next, and in any case the second
abbrev pub optional : {A B : Type 0} → Class → Format A → Format B → Format (Option A × B)
optional c f g = record { spell = λ x. spell_some f x.0 ++ g.spell x.1; read = λ s. (((optional_at c f s).0, (g.read (optional_at c f s).1).0), (g.read (optional_at c f s).1).1) }

-- ---- many

abbrev pub spell_many : {A : Type 0} → Format A → List A → List Item
spell_many f [] = []
spell_many f (x ∷ xs) = f.spell x ++ spell_many f xs

abbrev pub onto : {A : Type 0} → A → List A × State → List A × State
onto x r = (x ∷ r.0, r.1)

-- as long as a token of the class comes next; at most n of them
unfoldable pub many_in : {A : Type 0} → Class → Format A → ℕ → State → List A × State
many_in c f zero s = ([], s)
many_in c f (suc n) s = if sees c s then onto (f.read s).0 (many_in c f n (f.read s).1) else ([], s)

-- how many tokens can be read
abbrev pub weight_by : Option Stop → List TokenShape → ℕ
weight_by None ts = length ts
weight_by (Some p) ts = 0

abbrev pub weight : State → ℕ
weight s = weight_by s.stop s.rest

-- Items, as long as a token of the class comes next.
abbrev pub many_at : {A : Type 0} → Class → Format A → State → List A × State
many_at c f s = many_in c f (weight s) s

-- the first as long as a token of the class comes next, and then the second
abbrev pub many : {A B : Type 0} → Class → Format A → Format B → Format (List A × B)
many c f g = record { spell = λ x. spell_many f x.0 ++ g.spell x.1; read = λ s. (((many_at c f s).0, (g.read (many_at c f s).1).0), (g.read (many_at c f s).1).1) }

-- ---- lists

-- any number, each behind a comma, up to the closing token
abbrev pub others_before : {A : Type 0} → Lexeme → Format A → Format (List A)
others_before close f = as_record (λ x. x.0) (λ xs. (xs, tt)) (many (Exactly Comma) (Comma ▸ f) (only close))

abbrev pub list_made : {A : Type 0} → Unit {0} ⊎ (A × List A) → List A
list_made (inl _) = []
list_made (inr x) = x.0 ∷ x.1

abbrev pub list_parts : {A : Type 0} → List A → Unit {0} ⊎ (A × List A)
list_parts [] = inl tt
list_parts (x ∷ xs) = inr (x, xs)

-- any number between commas, up to the closing token
unfoldable pub list_before : {A : Type 0} → Lexeme → Format A → Format (List A)
list_before close f = as_record list_made list_parts (either (Exactly close) (only close) (f ⊗ others_before close f))

-- ---- lists with their closing token

-- any number, each behind a comma, and the closing token
abbrev pub others_with : {A : Type 0} → Lexeme → Format A → Format (List A × TokenShape)
others_with close f = many (Exactly Comma) (Comma ▸ f) (leaf (Exactly close))

abbrev pub closed_made : {A : Type 0} → TokenShape ⊎ (A × (List A × TokenShape)) → List A × TokenShape
closed_made (inl t) = ([], t)
closed_made (inr x) = (x.0 ∷ x.1.0, x.1.1)

abbrev pub closed_parts : {A : Type 0} → List A → TokenShape → TokenShape ⊎ (A × (List A × TokenShape))
closed_parts [] t = inl t
closed_parts (x ∷ xs) t = inr (x, (xs, t))

-- any number between commas, and the closing token
unfoldable pub list_with_close : {A : Type 0} → Lexeme → Format A → Format (List A × TokenShape)
list_with_close close f = as_record closed_made (λ y. closed_parts y.0 y.1) (either (Exactly close) (leaf (Exactly close)) (f ⊗ others_with close f))
