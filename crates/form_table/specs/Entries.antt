-- The grammar of entries: tokens, numbers, index entries and maps, and their laws.
use Rattle.std.specs.Prelude.{◌≡◌, Bool, true, ◌&&◌, ◌⊎◌, Option, Some, None, refl}
use Rattle.std.proofs.Common.{inl, inr, sym, ap}
use Rattle.std.proofs.lemmas.Bool.{and_parts}
use Rattle.text_format.specs.declared.class.Class.{Class}
use Rattle.text_format.specs.declared.class.Class.TheVariants.{Exactly, Value, Number, Alias, MapToken, DenseToken}
use Rattle.text_format.specs.declared.lexeme.Lexeme.TheVariants.{Comma, Less, Greater, AffineMap, Minus, QuotedNone}
use Rattle.text_format.specs.Token.{TokenShape}
use Rattle.text_format.specs.Classes.{apart}
use Rattle.text_format.specs.Formats.{State, Format, leaf, ◌⊗◌, as_record, either, optional, many}
use Rattle.text_format.specs.Laws.{IsExact, avoids}
use Rattle.text_format.specs.Exact.{leaf-exact, record-exact, either-exact, ◌⊠◌}
use Rattle.text_format.specs.Many.{optional-exact, many-exact, optional_avoids, either_avoids}
use Rattle.form_table.specs.declared.part.MapPiece.{MapPiece}
use Rattle.form_table.specs.declared.part.WrittenMap.{WrittenMap}
use Rattle.form_table.specs.declared.part.DensePiece.{DensePiece}
use Rattle.form_table.specs.declared.part.Entry.{Entry}
use Rattle.form_table.specs.declared.part.Entry.TheVariants as entries
use Rattle.form_table.specs.declared.part.Next.{Next}
use Rattle.form_table.specs.declared.want.Element.{Element}
use Rattle.form_table.specs.declared.want.Element.TheVariants as elements
use Rattle.form_table.specs.Variant.{spell_if, as_variant, variant-exact}

-- a token of a written map
unfoldable pub map_piece : Format MapPiece
map_piece = as_record (λ t. record { token = t }) (λ p. p.token) (leaf MapToken)

-- affine_map<tokens>; which tokens make a map is told where the tree is resolved
unfoldable pub written_map : Format WrittenMap
written_map = as_record (λ x. record { keyword = x.0; less = x.1.0; tokens = x.1.1.0; greater = x.1.1.1 }) (λ m. (m.keyword, (m.less, (m.tokens, m.greater))))
    (leaf (Exactly AffineMap) ⊗ leaf (Exactly Less) ⊗ many MapToken map_piece (leaf (Exactly Greater)))

-- a token of a dense literal
unfoldable pub dense_piece : Format DensePiece
dense_piece = as_record (λ t. record { token = t }) (λ p. p.token) (leaf DenseToken)

-- -5
unfoldable pub literal : Format (Option TokenShape × TokenShape)
literal = optional (Exactly Minus) (leaf (Exactly Minus)) (leaf Number)

abbrev pub as_token : Entry → Option TokenShape
as_token (entries.Token t) = Some t
as_token e = None

abbrev pub made_number : Option TokenShape × TokenShape → Entry
made_number x = entries.Number x.0 x.1

abbrev pub number_read : (Option TokenShape × TokenShape) × State → Entry × State
number_read r = (made_number r.0, r.1)

abbrev pub as_number : Entry → Option (Option TokenShape × TokenShape)
as_number (entries.Number m d) = Some (m, d)
as_number e = None

abbrev pub made_index : TokenShape ⊎ (Option TokenShape × TokenShape) → Entry
made_index (inl t) = entries.Token t
made_index (inr x) = entries.Number x.0 x.1

abbrev pub as_index : Entry → Option (TokenShape ⊎ (Option TokenShape × TokenShape))
as_index (entries.Token t) = Some (inl t)
as_index (entries.Number m d) = Some (inr (m, d))
as_index e = None

abbrev pub made_map : TokenShape ⊎ WrittenMap → Entry
made_map (inl t) = entries.Token t
made_map (inr m) = entries.Map m

abbrev pub as_map : Entry → Option (TokenShape ⊎ WrittenMap)
as_map (entries.Token t) = Some (inl t)
as_map (entries.Map m) = Some (inr m)
as_map e = None

unfoldable pub entry : Element → Format Entry
entry (elements.Leaf c) = as_variant entries.Token as_token (leaf c)
entry elements.Literal = as_variant made_number as_number literal
entry elements.Index = as_variant made_index as_index (either Value (leaf Value) literal)
entry elements.Map = as_variant made_map as_map (either Alias (leaf Alias) written_map)

-- , entry
unfoldable pub next : Element → Format Next
next e = as_record (λ x. record { comma = x.0; entry = x.1 }) (λ n. (n.comma, n.entry)) (leaf (Exactly Comma) ⊗ entry e)

-- ---- laws

pub map_piece-exact : IsExact map_piece
unfolding map_piece
map_piece-exact = record-exact _ _ _ (λ _. refl) (λ _. refl) (leaf-exact MapToken)

pub written_map-exact : IsExact written_map
unfolding written_map map_piece
written_map-exact = record-exact _ _ _ (λ _. refl) (λ _. refl)
    (leaf-exact (Exactly AffineMap) ⊠ leaf-exact (Exactly Less) ⊠ many-exact MapToken map_piece-exact (leaf-exact (Exactly Greater)) (λ _. refl) (λ _. refl))

pub dense_piece-exact : IsExact dense_piece
unfolding dense_piece
dense_piece-exact = record-exact _ _ _ (λ _. refl) (λ _. refl) (leaf-exact DenseToken)

pub literal-exact : IsExact literal
unfolding literal
literal-exact = optional-exact (Exactly Minus) (leaf-exact (Exactly Minus)) (leaf-exact Number) (λ _. refl) (λ _. refl)

literal_value : (x : Option TokenShape × TokenShape) → avoids Value (literal.spell x) ≡ true
unfolding literal
literal_value x = optional_avoids Value (leaf (Exactly Minus)) (leaf Number) (λ _. refl) (λ _. refl) x

map_alias : (m : WrittenMap) → avoids Alias (written_map.spell m) ≡ true
unfolding written_map
map_alias m = refl

token_forth : (e : Entry) (t : TokenShape) → as_token e ≡ Some t → entries.Token t ≡ e
token_forth (entries.Token u) t h = cc h
token_forth (entries.Number m d) t h = absurd (cc h)
token_forth (entries.Map m) t h = absurd (cc h)

number_forth : (e : Entry) (x : Option TokenShape × TokenShape) → as_number e ≡ Some x → made_number x ≡ e
number_forth (entries.Token u) x h = absurd (cc h)
number_forth (entries.Number m d) x h = let k : (m, d) ≡ x = cc h in ap made_number (sym k)
number_forth (entries.Map m) x h = absurd (cc h)

index_back : (x : TokenShape ⊎ (Option TokenShape × TokenShape)) → as_index (made_index x) ≡ Some x
index_back (inl t) = refl
index_back (inr x) = refl

index_forth : (e : Entry) (x : TokenShape ⊎ (Option TokenShape × TokenShape)) → as_index e ≡ Some x → made_index x ≡ e
index_forth (entries.Token t) x h = let k : inl t ≡ x = cc h in ap made_index (sym k)
index_forth (entries.Number m d) x h = let k : inr (m, d) ≡ x = cc h in ap made_index (sym k)
index_forth (entries.Map m) x h = absurd (cc h)

map_back : (x : TokenShape ⊎ WrittenMap) → as_map (made_map x) ≡ Some x
map_back (inl t) = refl
map_back (inr m) = refl

map_forth : (e : Entry) (x : TokenShape ⊎ WrittenMap) → as_map e ≡ Some x → made_map x ≡ e
map_forth (entries.Token t) x h = let k : inl t ≡ x = cc h in ap made_map (sym k)
map_forth (entries.Number m d) x h = absurd (cc h)
map_forth (entries.Map m) x h = let k : inr m ≡ x = cc h in ap made_map (sym k)

pub entry-exact : (e : Element) → IsExact (entry e)
unfolding entry
entry-exact (elements.Leaf c) = variant-exact (record { back = λ x. refl; forth = token_forth }) (leaf-exact c)
entry-exact elements.Literal = variant-exact (record { back = λ x. refl; forth = number_forth }) literal-exact
entry-exact elements.Index = variant-exact (record { back = index_back; forth = index_forth }) (either-exact Value (leaf-exact Value) literal-exact (λ _. refl) literal_value)
entry-exact elements.Map = variant-exact (record { back = map_back; forth = map_forth }) (either-exact Alias (leaf-exact Alias) written_map-exact (λ _. refl) map_alias)

pub next-exact : (e : Element) → IsExact (next e)
unfolding next
next-exact e = record-exact _ _ _ (λ _. refl) (λ _. refl) (leaf-exact (Exactly Comma) ⊠ entry-exact e)

-- ---- how an entry begins

abbrev pub number_apart : Class → Bool
number_apart c = apart (Exactly Minus) c && apart Number c

-- no entry begins with a token of the class
abbrev pub entry_apart : Element → Class → Bool
entry_apart (elements.Leaf d) c = apart d c
entry_apart elements.Literal c = number_apart c
entry_apart elements.Index c = apart Value c && number_apart c
entry_apart elements.Map c = apart Alias c && apart (Exactly AffineMap) c

-- what isn't of a variant is spelled by no token
pub variant_avoids : {A : Type 0} (c : Class) (f : Format A) → apart (Exactly QuotedNone) c ≡ true → ((x : A) → avoids c (f.spell x) ≡ true) → (o : Option A) → avoids c (spell_if f o) ≡ true
variant_avoids c f r p None = r
variant_avoids c f r p (Some x) = p x

number_avoids : (c : Class) → number_apart c ≡ true → (x : Option TokenShape × TokenShape) → avoids c (literal.spell x) ≡ true
unfolding literal
number_avoids c h x =
    let w = and_parts (apart (Exactly Minus) c) (apart Number c) h in
    optional_avoids c (leaf (Exactly Minus)) (leaf Number) (λ _. w.0) (λ _. w.1) x

map_avoids : (c : Class) → apart (Exactly AffineMap) c ≡ true → (m : WrittenMap) → avoids c (written_map.spell m) ≡ true
unfolding written_map
map_avoids c h m = h

pub entry_avoids : (c : Class) (e : Element) → apart (Exactly QuotedNone) c ≡ true → entry_apart e c ≡ true → (x : Entry) → avoids c ((entry e).spell x) ≡ true
unfolding entry
entry_avoids c (elements.Leaf d) r h x = variant_avoids c (leaf d) r (λ _. h) (as_token x)
entry_avoids c elements.Literal r h x = variant_avoids c literal r (number_avoids c h) (as_number x)
entry_avoids c elements.Index r h x =
    let w = and_parts (apart Value c) (number_apart c) h in
    variant_avoids c (either Value (leaf Value) literal) r (either_avoids c (leaf Value) literal (λ _. w.0) (number_avoids c w.1)) (as_index x)
entry_avoids c elements.Map r h x =
    let w = and_parts (apart Alias c) (apart (Exactly AffineMap) c) h in
    variant_avoids c (either Alias (leaf Alias) written_map) r (either_avoids c (leaf Alias) written_map (λ _. w.0) (map_avoids c w.1)) (as_map x)
