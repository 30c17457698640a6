-- The laws of the parts of an operation's text: one induction over its form.
use Rattle.std.specs.Prelude.{◌≡◌, ℕ, zero, suc, Bool, true, false, ◌&&◌, List, [], ◌∷◌, ◌++◌, length, ◌≤◌, ◌⊎◌, Some, None}
use Rattle.std.proofs.Common.{refl, sym, ap, subst, inl, inr, arith}
use Rattle.std.proofs.lemmas.Bool.{and_parts}
use Rattle.text_format.specs.declared.class.Class.{Class}
use Rattle.text_format.specs.declared.class.Class.TheVariants.{Exactly, DenseToken}
use Rattle.text_format.specs.declared.lexeme.Lexeme.{Lexeme}
use Rattle.text_format.specs.declared.lexeme.Lexeme.TheVariants.{Comma, QuotedNone}
use Rattle.text_format.specs.Token.{TokenShape}
use Rattle.text_format.specs.Classes.{within, apart, missing}
use Rattle.text_format.specs.Formats.{Item, live, leaf, Format, either, ◌⊗◌, many}
use Rattle.text_format.specs.Laws.{Matches, IsExact, begins, avoids}
use Rattle.text_format.specs.Apart.{fixed_fits}
use Rattle.text_format.specs.Exact.{nothing, none_read, leaf-exact, record-exact, either-exact, ◌⊠◌, ◌▹◌}
use Rattle.text_format.specs.Many.{many-exact, either_avoids, avoids_append}
use Rattle.form_table.specs.declared.part.DensePiece.{DensePiece}
use Rattle.form_table.specs.declared.part.Entry.{Entry}
use Rattle.form_table.specs.declared.part.Next.{Next}
use Rattle.form_table.specs.declared.part.Part.{Part}
use Rattle.form_table.specs.declared.part.Part.TheVariants.{One, Listed, More, Dense, There}
use Rattle.form_table.specs.declared.want.Element.{Element}
use Rattle.form_table.specs.declared.want.Element.TheVariants.{Leaf}
use Rattle.form_table.specs.declared.want.Want.{Want}
use Rattle.form_table.specs.declared.want.Want.TheVariants as wants
use Rattle.form_table.specs.declared.want.Opcode.{Opcode}
use Rattle.form_table.specs.declared.want.Opcode.TheVariants as opcodes
use Rattle.form_table.specs.Entries.{dense_piece, entry, next, dense_piece-exact, entry-exact, next-exact, entry_apart, entry_avoids, variant_avoids}
use Rattle.form_table.specs.Variant.{never, no_token, variant-exact}
use Rattle.form_table.specs.Form.{form, tail}
use Rattle.form_table.specs.Parts.{as_one, one, listed_made, as_listed, listed, spell_end, at_end, first_parts, then_parts, as_more, then_more, as_dense, then_dense, chosen_made, as_chosen, formats, row}

-- ---- one part

one_forth : (p : Part) (e : Entry) → as_one p ≡ Some e → One e ≡ p
one_forth (One x) e h = cc h
one_forth (Listed o ns t) e h = absurd (cc h)
one_forth (More ns) e h = absurd (cc h)
one_forth (Dense ds) e h = absurd (cc h)
one_forth (There b) e h = absurd (cc h)

pub one-exact : (e : Element) → IsExact (one e)
one-exact e = variant-exact (record { back = λ x. refl; forth = one_forth }) (entry-exact e)

listed_back : (x : TokenShape ⊎ (Entry × (List Next × TokenShape))) → as_listed (listed_made x) ≡ Some x
listed_back (inl t) = refl
listed_back (inr x) = refl

listed_forth : (p : Part) (x : TokenShape ⊎ (Entry × (List Next × TokenShape))) → as_listed p ≡ Some x → listed_made x ≡ p
listed_forth (One y) x h = absurd (cc h)
listed_forth (Listed None [] t) x h = let k : inl t ≡ x = cc h in ap listed_made (sym k)
listed_forth (Listed None (n ∷ ns) t) x h = absurd (cc h)
listed_forth (Listed (Some e) ns t) x h = let k : inr (e, (ns, t)) ≡ x = cc h in ap listed_made (sym k)
listed_forth (More ns) x h = absurd (cc h)
listed_forth (Dense ds) x h = absurd (cc h)
listed_forth (There b) x h = absurd (cc h)

pub next_begins : (e : Element) (n : Next) → begins (Exactly Comma) ((next e).spell n) ≡ true
unfolding next
next_begins e n = refl

-- no entry is taken for the closing token, nor that for a comma
abbrev pub is_closed : Element → Lexeme → Bool
is_closed e close = (entry_apart e (Exactly close) && apart (Exactly QuotedNone) (Exactly close)) && apart (Exactly close) (Exactly Comma)

pub listed-exact : (e : Element) (close : Lexeme) → is_closed e close ≡ true → IsExact (listed e close)
unfolding listed
listed-exact e close h =
    let w = and_parts (entry_apart e (Exactly close) && apart (Exactly QuotedNone) (Exactly close)) (apart (Exactly close) (Exactly Comma)) h in
    let v = and_parts (entry_apart e (Exactly close)) (apart (Exactly QuotedNone) (Exactly close)) w.0 in
    variant-exact (record { back = listed_back; forth = listed_forth })
    (either-exact (Exactly close) (leaf-exact (Exactly close)) (entry-exact e ⊠ many-exact (Exactly Comma) (next-exact e) (leaf-exact (Exactly close)) (next_begins e) (λ t. w.1))
    (λ u. fixed_fits close (missing (Exactly close) 0) (refl, refl))
    (λ x. avoids_append (Exactly close) ((entry e).spell x.0) ((many (Exactly Comma) (next e) (leaf (Exactly close))).spell x.1) (entry_avoids (Exactly close) e v.1 v.0 x.0)))

-- ---- several

end_again : (end : ℕ) (ps : List Part) (ts rest : List TokenShape) → Matches (spell_end ps) ts → at_end.read (live end (ts ++ rest)) ≡ (ps, live end rest)
end_again end [] ts rest m = ap (λ (y : List TokenShape). at_end.read (live end (y ++ rest))) (none_read ts m)
end_again end (p ∷ ps) ts rest m = absurd (no_token [] ts m)

end_greedy : (ps : List Part) (pre tail : List Item) (ts rest : List TokenShape) → spell_end ps ≡ pre ++ tail → Matches pre ts → length (ts ++ rest) ≤ length rest
end_greedy ps [] tail ts rest e m = omega (arith, ap (λ (y : List TokenShape). length (y ++ rest)) (none_read ts m))
end_greedy [] (i ∷ pre) tail ts rest e m = absurd (cc e)
end_greedy (p ∷ ps) (i ∷ pre) tail ts rest e m =
    let h : never ≡ i = cc e in
    absurd (no_token pre ts (subst (λ j. Matches (j ∷ pre) ts) (sym h) m))

end-exact : IsExact at_end
end-exact = record {
  reads = λ s. nothing s.stop s.end s.rest;
  again = λ end ps ts rest m. end_again end ps ts rest m;
  greedy = λ end ps pre tail ts rest e m. end_greedy ps pre tail ts rest e m;
}

first_forth : (ps : List Part) (x : Part × List Part) → first_parts ps ≡ Some x → x.0 ∷ x.1 ≡ ps
first_forth [] x e = absurd (cc e)
first_forth (p ∷ ps) x e = let h : (p, ps) ≡ x = cc e in ap (λ (y : Part × List Part). y.0 ∷ y.1) (sym h)

pub then_parts-exact : {f : Format Part} {g : Format (List Part)} → IsExact f → IsExact g → IsExact (then_parts f g)
then_parts-exact p q = variant-exact (record { back = λ x. refl; forth = first_forth }) (p ⊠ q)

more_forth : (ps : List Part) (x : List Next × List Part) → as_more ps ≡ Some x → More x.0 ∷ x.1 ≡ ps
more_forth [] x h = absurd (cc h)
more_forth (One e ∷ ps) x h = absurd (cc h)
more_forth (Listed o ns t ∷ ps) x h = absurd (cc h)
more_forth (More ns ∷ ps) x h = let k : (ns, ps) ≡ x = cc h in ap (λ (y : List Next × List Part). More y.0 ∷ y.1) (sym k)
more_forth (Dense ds ∷ ps) x h = absurd (cc h)
more_forth (There b ∷ ps) x h = absurd (cc h)

then_more-exact : (e : Element) {g : Format (List Part)} → IsExact g → ((ps : List Part) → avoids (Exactly Comma) (g.spell ps) ≡ true) → IsExact (then_more e g)
then_more-exact e q h = variant-exact (record { back = λ x. refl; forth = more_forth }) (many-exact (Exactly Comma) (next-exact e) q (next_begins e) h)

dense_forth : (ps : List Part) (x : List DensePiece × List Part) → as_dense ps ≡ Some x → Dense x.0 ∷ x.1 ≡ ps
dense_forth [] x h = absurd (cc h)
dense_forth (One e ∷ ps) x h = absurd (cc h)
dense_forth (Listed o ns t ∷ ps) x h = absurd (cc h)
dense_forth (More ns ∷ ps) x h = absurd (cc h)
dense_forth (Dense ds ∷ ps) x h = let k : (ds, ps) ≡ x = cc h in ap (λ (y : List DensePiece × List Part). Dense y.0 ∷ y.1) (sym k)
dense_forth (There b ∷ ps) x h = absurd (cc h)

then_dense-exact : {g : Format (List Part)} → IsExact g → ((ps : List Part) → avoids DenseToken (g.spell ps) ≡ true) → IsExact (then_dense g)
unfolding dense_piece
then_dense-exact q h = variant-exact (record { back = λ x. refl; forth = dense_forth }) (many-exact DenseToken dense_piece-exact q (λ x. refl) h)

chosen_back : (x : List Part ⊎ List Part) → as_chosen (chosen_made x) ≡ Some x
chosen_back (inl ps) = refl
chosen_back (inr ps) = refl

chosen_forth : (ps : List Part) (x : List Part ⊎ List Part) → as_chosen ps ≡ Some x → chosen_made x ≡ ps
chosen_forth [] x e = absurd (cc e)
chosen_forth (One t ∷ ps) x e = absurd (cc e)
chosen_forth (Listed o ns t ∷ ps) x e = absurd (cc e)
chosen_forth (More ns ∷ ps) x e = absurd (cc e)
chosen_forth (Dense ds ∷ ps) x e = absurd (cc e)
chosen_forth (There true ∷ ps) x e = let h : Some (inl ps) ≡ Some x = e in let k : inl ps ≡ x = cc h in ap chosen_made (sym k)
chosen_forth (There false ∷ ps) x e = let h : Some (inr ps) ≡ Some x = e in let k : inr ps ≡ x = cc h in ap chosen_made (sym k)

-- ---- what may follow

-- what is spelled begins with the token
abbrev pub leads : Lexeme → List Want → Bool
leads l [] = false
leads l (wants.Fixed m ∷ ws) = within (Exactly m) (Exactly l)
leads l (wants.Space ∷ ws) = leads l ws
leads l (w ∷ ws) = false

-- what is spelled begins with no token of the class
abbrev pub follows : Class → List Want → ℕ → Bool
follows c [] k = false
follows c (w ∷ ws) (suc k) = follows c ws k
follows c (wants.Fixed m ∷ ws) zero = apart (Exactly m) c
follows c (wants.Space ∷ ws) zero = follows c ws zero
follows c (wants.Kept m ∷ ws) zero = apart (Exactly m) c
follows c (wants.One e r ∷ ws) zero = entry_apart e c
follows c (wants.Maybe m n ∷ ws) zero = follows c ws zero && follows c ws n
follows c (wants.Jump n ∷ ws) zero = follows c ws n
follows c (w ∷ ws) zero = false

-- the same where the parts aren't those of the form
abbrev pub goes_on : Class → List Want → ℕ → Bool
goes_on c ws k = follows c ws k && apart (Exactly QuotedNone) c

-- each choice is told by the token that comes next, and each list ends where a token says so
abbrev pub is_told : List Want → ℕ → Bool
is_told [] k = true
is_told (w ∷ ws) (suc k) = is_told ws k
is_told (wants.Listed e close r ∷ ws) zero = is_closed e close && is_told ws zero
is_told (wants.More e r ∷ ws) zero = goes_on (Exactly Comma) ws zero && is_told ws zero
is_told (wants.Dense ∷ ws) zero = goes_on DenseToken ws zero && is_told ws zero
is_told (wants.Maybe l n ∷ ws) zero = (leads l ws && goes_on (Exactly l) ws n) && (is_told ws zero && is_told ws n)
is_told (wants.Jump n ∷ ws) zero = is_told ws n
is_told (w ∷ ws) zero = is_told ws zero

leads-sound : (l : Lexeme) (ws : List Want) → leads l ws ≡ true → (ps : List Part) → begins (Exactly l) ((formats ws zero).spell ps) ≡ true
unfolding formats
leads-sound l [] h ps = absurd (cc h)
leads-sound l (wants.Fixed m ∷ ws) h ps = h
leads-sound l (wants.Space ∷ ws) h ps = leads-sound l ws h ps
leads-sound l (wants.Kept m ∷ ws) h ps = absurd (cc h)
leads-sound l (wants.One e r ∷ ws) h ps = absurd (cc h)
leads-sound l (wants.Listed e c r ∷ ws) h ps = absurd (cc h)
leads-sound l (wants.More e r ∷ ws) h ps = absurd (cc h)
leads-sound l (wants.Dense ∷ ws) h ps = absurd (cc h)
leads-sound l (wants.Maybe m n ∷ ws) h ps = absurd (cc h)
leads-sound l (wants.Jump n ∷ ws) h ps = absurd (cc h)

-- a part that begins so, and those behind it
one_first : (c : Class) (e : Element) (g : Format (List Part)) → apart (Exactly QuotedNone) c ≡ true → entry_apart e c ≡ true → (ps : List Part) → avoids c ((then_parts (one e) g).spell ps) ≡ true
one_first c e g r h ps =
    variant_avoids c (one e ⊗ g) r
    (λ x. avoids_append c ((one e).spell x.0) (g.spell x.1) (variant_avoids c (entry e) r (entry_avoids c e r h) (as_one x.0))) (first_parts ps)

follows-sound : (c : Class) (ws : List Want) (k : ℕ) → apart (Exactly QuotedNone) c ≡ true → follows c ws k ≡ true → (ps : List Part) → avoids c ((formats ws k).spell ps) ≡ true
unfolding formats
follows-sound c [] k r h ps = absurd (cc h)
follows-sound c (w ∷ ws) (suc k) r h ps = follows-sound c ws k r h ps
follows-sound c (wants.Fixed m ∷ ws) zero r h ps = h
follows-sound c (wants.Space ∷ ws) zero r h ps = follows-sound c ws zero r h ps
follows-sound c (wants.Kept m ∷ ws) zero r h ps = one_first c (Leaf (Exactly m)) (formats ws zero) r h ps
follows-sound c (wants.One e x ∷ ws) zero r h ps = one_first c e (formats ws zero) r h ps
follows-sound c (wants.Listed e m x ∷ ws) zero r h ps = absurd (cc h)
follows-sound c (wants.More e x ∷ ws) zero r h ps = absurd (cc h)
follows-sound c (wants.Dense ∷ ws) zero r h ps = absurd (cc h)
follows-sound c (wants.Maybe m n ∷ ws) zero r h ps =
    let w = and_parts (follows c ws zero) (follows c ws n) h in
    variant_avoids c (either (Exactly m) (formats ws zero) (formats ws n)) r (either_avoids c (formats ws zero) (formats ws n) (follows-sound c ws zero r w.0) (follows-sound c ws n r w.1)) (as_chosen ps)
follows-sound c (wants.Jump n ∷ ws) zero r h ps = follows-sound c ws n r h ps

goes_on-sound : (c : Class) (ws : List Want) (k : ℕ) → goes_on c ws k ≡ true → (ps : List Part) → avoids c ((formats ws k).spell ps) ≡ true
goes_on-sound c ws k h ps = let w = and_parts (follows c ws k) (apart (Exactly QuotedNone) c) h in follows-sound c ws k w.1 w.0 ps

pub formats-exact : (ws : List Want) (k : ℕ) → is_told ws k ≡ true → IsExact (formats ws k)
unfolding formats
formats-exact [] k h = end-exact
formats-exact (w ∷ ws) (suc k) h = formats-exact ws k h
formats-exact (wants.Fixed l ∷ ws) zero h = l ▹ formats-exact ws zero h
formats-exact (wants.Space ∷ ws) zero h = formats-exact ws zero h
formats-exact (wants.Kept l ∷ ws) zero h = then_parts-exact (one-exact (Leaf (Exactly l))) (formats-exact ws zero h)
formats-exact (wants.One e r ∷ ws) zero h = then_parts-exact (one-exact e) (formats-exact ws zero h)
formats-exact (wants.Listed e close r ∷ ws) zero h =
    let w = and_parts (is_closed e close) (is_told ws zero) h in
    then_parts-exact (listed-exact e close w.0) (formats-exact ws zero w.1)
formats-exact (wants.More e r ∷ ws) zero h =
    let w = and_parts (goes_on (Exactly Comma) ws zero) (is_told ws zero) h in
    then_more-exact e (formats-exact ws zero w.1) (goes_on-sound (Exactly Comma) ws zero w.0)
formats-exact (wants.Dense ∷ ws) zero h =
    let w = and_parts (goes_on DenseToken ws zero) (is_told ws zero) h in
    then_dense-exact (formats-exact ws zero w.1) (goes_on-sound DenseToken ws zero w.0)
formats-exact (wants.Maybe l n ∷ ws) zero h =
    let w = and_parts (leads l ws && goes_on (Exactly l) ws n) (is_told ws zero && is_told ws n) h in
    let a = and_parts (leads l ws) (goes_on (Exactly l) ws n) w.0 in
    let b = and_parts (is_told ws zero) (is_told ws n) w.1 in
    variant-exact (record { back = chosen_back; forth = chosen_forth })
    (either-exact (Exactly l) (formats-exact ws zero b.0) (formats-exact ws n b.1) (leads-sound l ws a.0) (goes_on-sound (Exactly l) ws n a.1))
formats-exact (wants.Jump n ∷ ws) zero h = formats-exact ws n h

-- ---- the table

form_told : (o : Opcode) → is_told (form o) zero ≡ true
form_told opcodes.Constant = refl
form_told opcodes.Empty = refl
form_told opcodes.ExtractSlice = refl
form_told opcodes.Generic = refl
form_told opcodes.Fill = refl
form_told opcodes.Matmul = refl
form_told opcodes.BatchMatmul = refl
form_told opcodes.Transpose = refl
form_told opcodes.Broadcast = refl

pub form-exact : (o : Opcode) → IsExact (formats (form o) zero)
form-exact o = formats-exact (form o) zero (form_told o)

pub tail-exact : (o : Opcode) → IsExact (formats (tail o) zero)
tail-exact opcodes.Generic = formats-exact (tail opcodes.Generic) zero refl
tail-exact opcodes.Constant = formats-exact [] zero refl
tail-exact opcodes.Empty = formats-exact [] zero refl
tail-exact opcodes.ExtractSlice = formats-exact [] zero refl
tail-exact opcodes.Fill = formats-exact [] zero refl
tail-exact opcodes.Matmul = formats-exact [] zero refl
tail-exact opcodes.BatchMatmul = formats-exact [] zero refl
tail-exact opcodes.Transpose = formats-exact [] zero refl
tail-exact opcodes.Broadcast = formats-exact [] zero refl

pub row-exact : (c : Class) (o : Opcode) → IsExact (row c o)
unfolding row
row-exact c o = record-exact _ _ _ (λ _. refl) (λ _. refl) (leaf-exact c ⊠ form-exact o)
