-- The grammar of the parts of an operation's text, by its form.
use Rattle.std.specs.Prelude.{ℕ, zero, suc, true, false, List, [], ◌∷◌, ◌⊎◌, Option, Some, None}
use Rattle.std.proofs.Common.{inl, inr}
use Rattle.text_format.specs.declared.class.Class.{Class}
use Rattle.text_format.specs.declared.class.Class.TheVariants.{Exactly, DenseToken}
use Rattle.text_format.specs.declared.lexeme.Lexeme.{Lexeme}
use Rattle.text_format.specs.declared.lexeme.Lexeme.TheVariants.{Comma}
use Rattle.text_format.specs.Token.{TokenShape}
use Rattle.text_format.specs.Formats.{Format, Item, leaf, ◌▸◌, ◌⊗◌, as_record, either, many}
use Rattle.form_table.specs.declared.part.DensePiece.{DensePiece}
use Rattle.form_table.specs.declared.part.Entry.{Entry}
use Rattle.form_table.specs.declared.part.Next.{Next}
use Rattle.form_table.specs.declared.part.Part.{Part}
use Rattle.form_table.specs.declared.part.Part.TheVariants.{One, Listed, More, Dense, There}
use Rattle.form_table.specs.declared.part.Row.{Row}
use Rattle.form_table.specs.declared.want.Element.{Element}
use Rattle.form_table.specs.declared.want.Element.TheVariants.{Leaf}
use Rattle.form_table.specs.declared.want.Want.{Want}
use Rattle.form_table.specs.declared.want.Want.TheVariants as wants
use Rattle.form_table.specs.declared.want.Opcode.{Opcode}
use Rattle.form_table.specs.Entries.{dense_piece, entry, next}
use Rattle.form_table.specs.Variant.{never, as_variant}
use Rattle.form_table.specs.Form.{form}

-- ---- one part

abbrev pub as_one : Part → Option Entry
as_one (One e) = Some e
as_one p = None

abbrev pub one : Element → Format Part
one e = as_variant One as_one (entry e)

-- the closing token alone, or an entry, those behind it, and the closing token
abbrev pub listed_made : TokenShape ⊎ (Entry × (List Next × TokenShape)) → Part
listed_made (inl t) = Listed None [] t
listed_made (inr x) = Listed (Some x.0) x.1.0 x.1.1

abbrev pub as_listed : Part → Option (TokenShape ⊎ (Entry × (List Next × TokenShape)))
as_listed (Listed None [] t) = Some (inl t)
as_listed (Listed (Some e) ns t) = Some (inr (e, (ns, t)))
as_listed p = None

-- any number between commas, and the closing token
unfoldable pub listed : Element → Lexeme → Format Part
listed e close = as_variant listed_made as_listed (either (Exactly close) (leaf (Exactly close)) (entry e ⊗ many (Exactly Comma) (next e) (leaf (Exactly close))))

-- ---- several

-- no more parts
abbrev pub spell_end : List Part → List Item
spell_end [] = []
spell_end (p ∷ ps) = never ∷ []

abbrev pub at_end : Format (List Part)
at_end = record { spell = spell_end; read = λ s. ([], s) }

abbrev pub first_parts : List Part → Option (Part × List Part)
first_parts [] = None
first_parts (p ∷ ps) = Some (p, ps)

-- a part, and those behind it
abbrev pub then_parts : Format Part → Format (List Part) → Format (List Part)
then_parts f g = as_variant (λ x. x.0 ∷ x.1) first_parts (f ⊗ g)

abbrev pub more_made : List Next × List Part → List Part
more_made x = More x.0 ∷ x.1

abbrev pub as_more : List Part → Option (List Next × List Part)
as_more (More ns ∷ ps) = Some (ns, ps)
as_more ps = None

-- entries behind another, and the parts behind them
abbrev pub then_more : Element → Format (List Part) → Format (List Part)
then_more e g = as_variant more_made as_more (many (Exactly Comma) (next e) g)

abbrev pub dense_made : List DensePiece × List Part → List Part
dense_made x = Dense x.0 ∷ x.1

abbrev pub as_dense : List Part → Option (List DensePiece × List Part)
as_dense (Dense ds ∷ ps) = Some (ds, ps)
as_dense ps = None

-- the tokens of a dense literal, and the parts behind them
abbrev pub then_dense : Format (List Part) → Format (List Part)
then_dense g = as_variant dense_made as_dense (many DenseToken dense_piece g)

-- what was chosen stands before the parts
abbrev pub chosen_made : List Part ⊎ List Part → List Part
chosen_made (inl ps) = There true ∷ ps
chosen_made (inr ps) = There false ∷ ps

abbrev pub as_chosen : List Part → Option (List Part ⊎ List Part)
as_chosen (There true ∷ ps) = Some (inl ps)
as_chosen (There false ∷ ps) = Some (inr ps)
as_chosen ps = None

abbrev pub chosen : Lexeme → Format (List Part) → Format (List Part) → Format (List Part)
chosen l f g = as_variant chosen_made as_chosen (either (Exactly l) f g)

-- the parts for these wants, where the first k are left out
unfoldable pub formats : List Want → ℕ → Format (List Part)
formats [] k = at_end
formats (w ∷ ws) (suc k) = formats ws k
formats (wants.Fixed l ∷ ws) zero = l ▸ formats ws zero
formats (wants.Space ∷ ws) zero = formats ws zero
formats (wants.Kept l ∷ ws) zero = then_parts (one (Leaf (Exactly l))) (formats ws zero)
formats (wants.One e r ∷ ws) zero = then_parts (one e) (formats ws zero)
formats (wants.Listed e close r ∷ ws) zero = then_parts (listed e close) (formats ws zero)
formats (wants.More e r ∷ ws) zero = then_more e (formats ws zero)
formats (wants.Dense ∷ ws) zero = then_dense (formats ws zero)
formats (wants.Maybe l n ∷ ws) zero = chosen l (formats ws zero) (formats ws n)
formats (wants.Jump n ∷ ws) zero = formats ws n

-- the name, a token of the class, and what stands behind the name of this operation
unfoldable pub row : Class → Opcode → Format Row
row c o = as_record (λ x. record { name = x.0; parts = x.1 }) (λ r. (r.name, r.parts)) (leaf c ⊗ formats (form o) zero)
