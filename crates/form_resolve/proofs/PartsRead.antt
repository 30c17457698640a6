-- What is read is a part for each want: one induction over the wants.
use Rattle.std.proofs.Common.{◌≡◌, ℕ, zero, suc, Bool, true, false, cond, List, [], ◌∷◌, ◌⊎◌, inl, inr, Option, sym, subst}
use Rattle.text_format.specs.declared.class.Class.TheVariants.{Exactly}
use Rattle.text_format.specs.declared.lexeme.Lexeme.{Lexeme}
use Rattle.text_format.specs.declared.lexeme.Lexeme.TheVariants.{Comma}
use Rattle.text_format.specs.Token.{TokenShape}
use Rattle.text_format.specs.Formats.{State, sees, first_read, second_read, onto, many_in, weight}
use Rattle.form_table.specs.declared.part.Entry.{Entry}
use Rattle.form_table.specs.declared.part.WrittenMap.{WrittenMap}
use Rattle.form_table.specs.declared.part.Next.{Next}
use Rattle.form_table.specs.declared.part.Part.{Part}
use Rattle.form_table.specs.declared.part.Part.TheVariants as parts
use Rattle.form_table.specs.declared.want.Element.{Element}
use Rattle.form_table.specs.declared.want.Element.TheVariants.{Leaf, Literal, Index, Map}
use Rattle.form_table.specs.declared.want.Role.{Role}
use Rattle.form_table.specs.declared.want.Want.{Want}
use Rattle.form_table.specs.declared.want.Want.TheVariants as wants
use Rattle.form_table.specs.Entries.{entry, next, made_index, made_map}
use Rattle.form_table.specs.Parts.{listed, listed_made, chosen_made, formats}
use Rattle.form_resolve.specs.Forms.{IsEntry, AreEntries, IsPart, AreParts}

-- ---- entries

index_made : (x : TokenShape ⊎ (Option TokenShape × TokenShape)) → IsEntry Index (made_index x)
index_made (inl t) = tt
index_made (inr x) = tt

map_made : (x : TokenShape ⊎ WrittenMap) → IsEntry Map (made_map x)
map_made (inl t) = tt
map_made (inr m) = tt

entry_read : (e : Element) (s : State) → IsEntry e ((entry e).read s).0
unfolding entry
entry_read (Leaf c) s = tt
entry_read Literal s = tt
entry_read Index s = index_made _
entry_read Map s = map_made _

kept_read : (l : Lexeme) (s : State) → IsPart (wants.Kept l) (parts.One ((entry (Leaf (Exactly l))).read s).0)
unfolding entry
kept_read l s = tt

next_read : (e : Element) (s : State) → IsEntry e ((next e).read s).0.entry
unfolding next
next_read e s = entry_read e _

many_if : (e : Element) (b : Bool) (x : Next) (r : List Next × State) (s : State) → IsEntry e x.entry → AreEntries e r.0 → AreEntries e (cond b (onto x r) ([], s)).0
many_if e true x r s h k = (h, k)
many_if e false x r s h k = tt

many_read : (e : Element) (n : ℕ) (s : State) → AreEntries e (many_in (Exactly Comma) (next e) n s).0
unfolding many_in
many_read e zero s = tt
many_read e (suc n) s = let r = (next e).read s in many_if e (sees (Exactly Comma) s) r.0 (many_in (Exactly Comma) (next e) n r.1) s (next_read e s) (many_read e n r.1)

-- ---- lists

list_if : (e : Element) (close : Lexeme) (r : Role) (b : Bool) (t : TokenShape × State) (x : (Entry × (List Next × TokenShape)) × State) → IsEntry e x.0.0 → AreEntries e x.0.1.0 → IsPart (wants.Listed e close r) (listed_made (cond b (first_read t) (second_read x)).0)
list_if e close r true t x h k = tt
list_if e close r false t x h k = (h, k)

list_read : (e : Element) (close : Lexeme) (r : Role) (s : State) → IsPart (wants.Listed e close r) ((listed e close).read s).0
unfolding listed
list_read e close r s = list_if e close r (sees (Exactly close) s) _ _ (entry_read e s) (many_read e (weight ((entry e).read s).1) ((entry e).read s).1)

-- ---- parts

choice_if : (l : Lexeme) (ws : List Want) (n : ℕ) (b : Bool) (x y : List Part × State) → AreParts ws zero x.0 → AreParts ws n y.0 → AreParts (wants.Maybe l n ∷ ws) zero (chosen_made (cond b (first_read x) (second_read y)).0)
unfolding AreParts
choice_if l ws n true x y h k = (tt, h)
choice_if l ws n false x y h k = (tt, k)

read_parts : (ws : List Want) (k : ℕ) (s : State) → AreParts ws k ((formats ws k).read s).0
unfolding AreParts formats
read_parts [] k s = tt
read_parts (w ∷ ws) (suc k) s = read_parts ws k s
read_parts (wants.Fixed l ∷ ws) zero s = read_parts ws zero _
read_parts (wants.Space ∷ ws) zero s = read_parts ws zero s
read_parts (wants.Jump n ∷ ws) zero s = read_parts ws n s
read_parts (wants.Kept l ∷ ws) zero s = (kept_read l s, read_parts ws zero _)
read_parts (wants.One e r ∷ ws) zero s = (entry_read e s, read_parts ws zero _)
read_parts (wants.Listed e close r ∷ ws) zero s = (list_read e close r s, read_parts ws zero _)
read_parts (wants.More e r ∷ ws) zero s = (many_read e (weight s) s, read_parts ws zero _)
read_parts (wants.Dense ∷ ws) zero s = (tt, read_parts ws zero _)
read_parts (wants.Maybe l n ∷ ws) zero s = choice_if l ws n (sees (Exactly l) s) ((formats ws zero).read s) ((formats ws n).read s) (read_parts ws zero s) (read_parts ws n s)

pub parts_read : (ws : List Want) (s : State) (x : List Part) (t : State) → (x, t) ≡ (formats ws zero).read s → AreParts ws zero x
parts_read ws s x t e = subst (λ (r : List Part × State). AreParts ws zero r.0) (sym e) (read_parts ws zero s)
