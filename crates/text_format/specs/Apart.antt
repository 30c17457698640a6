-- What a class holds beside another holds of each token, and so of what is read next.
use Rattle.std.specs.Prelude.{◌≡◌, ◌<◌, ℕ, zero, suc, Bool, true, false, not, ◌||◌, List, [], ◌∷◌, ◌++◌, length, ◌⊎◌}
use Rattle.std.specs.Str.{bytes_eq}
use Rattle.std.specs.List.{list_all, list_any}
use Rattle.std.proofs.Common.{refl, sym, ap, ◌∙◌, inl, inr, arith}
use Rattle.std.proofs.lemmas.Bool.{and_parts, and_from, eqb-true, eq-eqb}
use Rattle.std.proofs.lemmas.Slice.Eq.{bytes_eq-Decides}
use Rattle.text_format.specs.declared.front.Kind.{Kind}
use Rattle.text_format.specs.declared.front.Kind.TheVariants as kinds
use Rattle.text_format.specs.declared.lexeme.Lexeme.{Lexeme}
use Rattle.text_format.specs.declared.class.Class.{Class}
use Rattle.text_format.specs.declared.class.Class.TheVariants.{Exactly, Name, Value, NewValue, NewValueAt, Alias, Symbol, TensorType, ElementType, OperandType, IntegerType, Number, Boolean, Iterator, Predicate, BinaryName, CastName, Quoted, MapToken, DenseToken, ItemStart, StepStart, DenseType}
use Rattle.text_format.specs.Token.{TokenShape}
use Rattle.text_format.specs.Lexemes.{lexeme_kind, lexeme_text}
use Rattle.text_format.specs.Types.{extents_of}
use Rattle.text_format.specs.Classes.{kind_code, is_kind, texts_of, Test, Any, Unnumbered, Ranked, Element, Integer, OneOf, Is, passes, Part, part, in_part, main_part, other_parts, in_parts, holds, fits, missing, is_stronger, in_stronger, in_some, in_class, part_within, parts_within, within, avoids_text, avoids_test, avoids_parts, avoids_class, lacks, part_apart, parts_apart, apart}
use Rattle.text_format.specs.Formats.{Item, Fixed, Leaf, class_of, live, sees}
use Rattle.text_format.specs.Laws.{IsItem, Matches, begins, avoids}

-- ---- kinds

abbrev kind_with : ℕ → Kind
kind_with zero = kinds.Word
kind_with (suc zero) = kinds.Value
kind_with (suc (suc zero)) = kinds.Alias
kind_with (suc (suc (suc zero))) = kinds.Symbol
kind_with (suc (suc (suc (suc zero)))) = kinds.Block
kind_with (suc (suc (suc (suc (suc zero))))) = kinds.TypeWord
kind_with (suc (suc (suc (suc (suc (suc zero)))))) = kinds.Shaped
kind_with (suc (suc (suc (suc (suc (suc (suc zero))))))) = kinds.Number
kind_with (suc (suc (suc (suc (suc (suc (suc (suc zero)))))))) = kinds.Quoted
kind_with _ = kinds.Mark

kind_back : (k : Kind) → kind_with (kind_code k) ≡ k
kind_back kinds.Word = refl
kind_back kinds.Value = refl
kind_back kinds.Alias = refl
kind_back kinds.Symbol = refl
kind_back kinds.Block = refl
kind_back kinds.TypeWord = refl
kind_back kinds.Shaped = refl
kind_back kinds.Number = refl
kind_back kinds.Quoted = refl
kind_back kinds.Mark = refl

kind_from : (wanted k : Kind) → is_kind wanted k ≡ true → k ≡ wanted
kind_from wanted k e = sym (kind_back k) ∙ ap kind_with (eqb-true _ _ e) ∙ kind_back wanted

kind_is : (wanted k : Kind) → k ≡ wanted → is_kind wanted k ≡ true
kind_is wanted k e = eq-eqb _ _ (ap kind_code e)

-- ---- items

ranked_fits : (at : ℕ) → fits TensorType (missing TensorType at) ≡ true
unfolding extents_of
ranked_fits at = refl

pub fixed_item : (l : Lexeme) (t : TokenShape) → fits (Exactly l) t ≡ true → IsItem (Fixed l) t
fixed_item l t e =
    let p = and_parts (is_kind (lexeme_kind l) t.kind) (bytes_eq t.text (lexeme_text l)) e in
    (kind_from _ _ p.0, (bytes_eq-Decides t.text (lexeme_text l)).0 p.1)

pub fixed_fits : (l : Lexeme) (t : TokenShape) → IsItem (Fixed l) t → fits (Exactly l) t ≡ true
fixed_fits l t p = and_from _ _ (kind_is _ _ p.0) ((bytes_eq-Decides t.text (lexeme_text l)).1 p.1)

pub item_fits : (i : Item) (t : TokenShape) → IsItem i t → fits (class_of i) t ≡ true
item_fits (Fixed l) t p = fixed_fits l t p
item_fits (Leaf c u) t p = p.0

pub missing_fits : (c : Class) (at : ℕ) → fits c (missing c at) ≡ true
missing_fits (Exactly l) at = fixed_fits l (missing (Exactly l) at) (refl, refl)
missing_fits (Name p l) at = fixed_fits l (missing (Exactly l) at) (refl, refl)
missing_fits Value at = refl
missing_fits NewValue at = refl
missing_fits (NewValueAt p) at = refl
missing_fits StepStart at = refl
missing_fits Alias at = refl
missing_fits Symbol at = refl
missing_fits TensorType at = ranked_fits at
missing_fits ElementType at = refl
missing_fits OperandType at = ranked_fits at
missing_fits IntegerType at = refl
missing_fits Number at = refl
missing_fits Boolean at = refl
missing_fits Iterator at = refl
missing_fits Predicate at = refl
missing_fits (BinaryName p) at = refl
missing_fits (CastName p) at = refl
missing_fits Quoted at = refl
missing_fits MapToken at = refl
missing_fits DenseToken at = refl
missing_fits DenseType at = ranked_fits at
missing_fits ItemStart at = refl

-- ---- truth values

either_true : (a b : Bool) → (a || b) ≡ true → (a ≡ true) ⊎ (b ≡ true)
either_true true b e = inl refl
either_true false b e = inr e

first_true : (a b : Bool) → a ≡ true → (a || b) ≡ true
first_true a b e = ap (λ x. x || b) e

second_true : (a b : Bool) → b ≡ true → (a || b) ≡ true
second_true true b e = refl
second_true false b e = e

-- two truth values that are not both true
not_both : (a b : Bool) → (a ≡ true → b ≡ true → ⊥) → a ≡ true → b ≡ false
not_both a true h p = absurd (h p refl)
not_both a false h p = refl

both_ways : (a : Bool) → a ≡ true → not a ≡ true → ⊥
both_ways true e f = absurd cc
both_ways false e f = absurd cc

-- what holds of each listed text holds of one that is among them
listed : (ws : List (List ℕ)) (P : List ℕ → Bool) (text : List ℕ) → list_all P ws ≡ true → list_any (bytes_eq text) ws ≡ true → P text ≡ true
listed [] P text a e = absurd cc
listed (w ∷ ws) P text a e =
    let p = and_parts (P w) (list_all P ws) a in
    elim (either_true (bytes_eq text w) (list_any (bytes_eq text) ws) e) [
      | inl h ↦ ap P ((bytes_eq-Decides text w).0 h) ∙ p.0
      | inr h ↦ listed ws P text p.1 h
    ]

-- ---- a class within another

stronger-sound : (s t : Test) (text : List ℕ) → is_stronger s t ≡ true → passes s text ≡ true → passes t text ≡ true
stronger-sound s Any text e p = refl
stronger-sound Any Unnumbered text e p = absurd cc
stronger-sound Unnumbered Unnumbered text e p = p
stronger-sound Ranked Unnumbered text e p = absurd cc
stronger-sound Element Unnumbered text e p = absurd cc
stronger-sound Integer Unnumbered text e p = absurd cc
stronger-sound (OneOf x) Unnumbered text e p = absurd cc
stronger-sound (Is x) Unnumbered text e p = absurd cc
stronger-sound Any Ranked text e p = absurd cc
stronger-sound Unnumbered Ranked text e p = absurd cc
stronger-sound Ranked Ranked text e p = p
stronger-sound Element Ranked text e p = absurd cc
stronger-sound Integer Ranked text e p = absurd cc
stronger-sound (OneOf x) Ranked text e p = absurd cc
stronger-sound (Is x) Ranked text e p = absurd cc
stronger-sound Any Element text e p = absurd cc
stronger-sound Unnumbered Element text e p = absurd cc
stronger-sound Ranked Element text e p = absurd cc
stronger-sound Element Element text e p = p
stronger-sound Integer Element text e p = absurd cc
stronger-sound (OneOf x) Element text e p = absurd cc
stronger-sound (Is x) Element text e p = absurd cc
stronger-sound Any Integer text e p = absurd cc
stronger-sound Unnumbered Integer text e p = absurd cc
stronger-sound Ranked Integer text e p = absurd cc
stronger-sound Element Integer text e p = absurd cc
stronger-sound Integer Integer text e p = p
stronger-sound (OneOf x) Integer text e p = absurd cc
stronger-sound (Is x) Integer text e p = absurd cc
stronger-sound Any (OneOf y) text e p = absurd cc
stronger-sound Unnumbered (OneOf y) text e p = absurd cc
stronger-sound Ranked (OneOf y) text e p = absurd cc
stronger-sound Element (OneOf y) text e p = absurd cc
stronger-sound Integer (OneOf y) text e p = absurd cc
stronger-sound (OneOf x) (OneOf y) text e p = absurd cc
stronger-sound (Is x) (OneOf y) text e p = absurd cc
stronger-sound Any (Is y) text e p = absurd cc
stronger-sound Unnumbered (Is y) text e p = absurd cc
stronger-sound Ranked (Is y) text e p = absurd cc
stronger-sound Element (Is y) text e p = absurd cc
stronger-sound Integer (Is y) text e p = absurd cc
stronger-sound (OneOf x) (Is y) text e p = absurd cc
stronger-sound (Is x) (Is y) text e p = absurd cc

in_stronger-sound : (k : Kind) (s : Test) (p : Part) (text : List ℕ) → in_stronger k s p ≡ true → passes s text ≡ true → in_part p k text ≡ true
in_stronger-sound k s p text e h =
    let a = and_parts (is_kind p.kind k) (is_stronger s p.test) e in
    and_from _ _ a.0 (stronger-sound s p.test text a.1 h)

in_some-sound : (k : Kind) (s : Test) (ps : List Part) (text : List ℕ) → in_some k s ps ≡ true → passes s text ≡ true → in_parts ps k text ≡ true
in_some-sound k s [] text e h = absurd cc
in_some-sound k s (p ∷ ps) text e h =
    elim (either_true (in_stronger k s p) (in_some k s ps) e) [
      | inl a ↦ first_true _ _ (in_stronger-sound k s p text a h)
      | inr a ↦ second_true _ _ (in_some-sound k s ps text a h)
    ]

in_class-sound : (k : Kind) (s : Test) (d : Class) (text : List ℕ) → in_class k s d ≡ true → passes s text ≡ true → holds d k text ≡ true
in_class-sound k s d text e h =
    elim (either_true (in_some k s (other_parts d)) (in_stronger k s (main_part d)) e) [
      | inl a ↦ first_true _ _ (in_some-sound k s (other_parts d) text a h)
      | inr a ↦ second_true _ _ (in_stronger-sound k s (main_part d) text a h)
    ]

part_within-sound : (k : Kind) (s : Test) (d : Class) (text : List ℕ) → part_within k s d ≡ true → passes s text ≡ true → holds d k text ≡ true
part_within-sound k Any d text e h = in_class-sound k Any d text e h
part_within-sound k Unnumbered d text e h = in_class-sound k Unnumbered d text e h
part_within-sound k Ranked d text e h = in_class-sound k Ranked d text e h
part_within-sound k Element d text e h = in_class-sound k Element d text e h
part_within-sound k Integer d text e h = in_class-sound k Integer d text e h
part_within-sound k (OneOf list) d text e h = listed (texts_of list) (holds d k) text e h
part_within-sound k (Is l) d text e h = ap (holds d k) ((bytes_eq-Decides text (lexeme_text l)).0 h) ∙ e

-- a token of the part is of the class
from_part : (p : Part) (d : Class) (k : Kind) (text : List ℕ) → part_within p.kind p.test d ≡ true → in_part p k text ≡ true → holds d k text ≡ true
from_part p d k text e h =
    let a = and_parts (is_kind p.kind k) (passes p.test text) h in
    ap (λ x. holds d x text) (kind_from p.kind k a.0) ∙ part_within-sound p.kind p.test d text e a.1

from_parts : (ps : List Part) (d : Class) (k : Kind) (text : List ℕ) → parts_within ps d ≡ true → in_parts ps k text ≡ true → holds d k text ≡ true
from_parts [] d k text e h = absurd cc
from_parts (p ∷ ps) d k text e h =
    let w = and_parts (part_within p.kind p.test d) (parts_within ps d) e in
    elim (either_true (in_part p k text) (in_parts ps k text) h) [
      | inl a ↦ from_part p d k text w.0 a
      | inr a ↦ from_parts ps d k text w.1 a
    ]

pub within-sound : (c d : Class) (t : TokenShape) → within c d ≡ true → fits c t ≡ true → fits d t ≡ true
within-sound c d t e h =
    let w = and_parts (parts_within (other_parts c) d) (part_within (main_part c).kind (main_part c).test d) e in
    elim (either_true (in_parts (other_parts c) t.kind t.text) (in_part (main_part c) t.kind t.text) h) [
      | inl a ↦ from_parts (other_parts c) d t.kind t.text w.0 a
      | inr a ↦ from_part (main_part c) d t.kind t.text w.1 a
    ]

-- ---- a class apart from another

-- where kinds are different
other_kind : (k m x : Kind) → not (is_kind m k) ≡ true → x ≡ k → is_kind m x ≡ true → ⊥
other_kind k m x e h p = both_ways (is_kind m k) (ap (is_kind m) (sym h) ∙ p) e

-- a token of one part is none of a text, and so isn't that text
avoids_test-sound : (k : Kind) (s : Test) (m : Kind) (t : Test) (x : Kind) (text : List ℕ) → avoids_test k s m t ≡ true → in_part (part k s) x text ≡ true → in_part (part m t) x text ≡ true → ⊥
avoids_test-sound k s m Any x text e a b = let y = and_parts (is_kind k x) (passes s text) a in let z = and_parts (is_kind m x) (passes Any text) b in other_kind k m x e (kind_from k x y.0) z.0
avoids_test-sound k s m Unnumbered x text e a b = let y = and_parts (is_kind k x) (passes s text) a in let z = and_parts (is_kind m x) (passes Unnumbered text) b in other_kind k m x e (kind_from k x y.0) z.0
avoids_test-sound k s m Ranked x text e a b = let y = and_parts (is_kind k x) (passes s text) a in let z = and_parts (is_kind m x) (passes Ranked text) b in other_kind k m x e (kind_from k x y.0) z.0
avoids_test-sound k s m Element x text e a b = let y = and_parts (is_kind k x) (passes s text) a in let z = and_parts (is_kind m x) (passes Element text) b in other_kind k m x e (kind_from k x y.0) z.0
avoids_test-sound k s m Integer x text e a b = let y = and_parts (is_kind k x) (passes s text) a in let z = and_parts (is_kind m x) (passes Integer text) b in other_kind k m x e (kind_from k x y.0) z.0
avoids_test-sound k s m (OneOf list) x text e a b =
    let z = and_parts (is_kind m x) (passes (OneOf list) text) b in
    both_ways (in_part (part k s) m text) (ap (λ y. in_part (part k s) y text) (sym (kind_from m x z.0)) ∙ a) (listed (texts_of list) (avoids_text k s m) text e z.1)
avoids_test-sound k s m (Is l) x text e a b =
    let z = and_parts (is_kind m x) (passes (Is l) text) b in
    both_ways (in_part (part k s) m text) (ap (λ y. in_part (part k s) y text) (sym (kind_from m x z.0)) ∙ a) (ap (avoids_text k s m) ((bytes_eq-Decides text (lexeme_text l)).0 z.1) ∙ e)

avoids_parts-sound : (k : Kind) (s : Test) (ps : List Part) (x : Kind) (text : List ℕ) → avoids_parts k s ps ≡ true → in_part (part k s) x text ≡ true → in_parts ps x text ≡ true → ⊥
avoids_parts-sound k s [] x text e a b = absurd cc
avoids_parts-sound k s (p ∷ ps) x text e a b =
    let w = and_parts (avoids_test k s p.kind p.test) (avoids_parts k s ps) e in
    elim (either_true (in_part p x text) (in_parts ps x text) b) [
      | inl h ↦ avoids_test-sound k s p.kind p.test x text w.0 a h
      | inr h ↦ avoids_parts-sound k s ps x text w.1 a h
    ]

avoids_class-sound : (k : Kind) (s : Test) (d : Class) (x : Kind) (text : List ℕ) → avoids_class k s d ≡ true → in_part (part k s) x text ≡ true → holds d x text ≡ true → ⊥
avoids_class-sound k s d x text e a b =
    let w = and_parts (avoids_parts k s (other_parts d)) (avoids_test k s (main_part d).kind (main_part d).test) e in
    elim (either_true (in_parts (other_parts d) x text) (in_part (main_part d) x text) b) [
      | inl h ↦ avoids_parts-sound k s (other_parts d) x text w.0 a h
      | inr h ↦ avoids_test-sound k s (main_part d).kind (main_part d).test x text w.1 a h
    ]

part_apart-sound : (k : Kind) (s : Test) (d : Class) (x : Kind) (text : List ℕ) → part_apart k s d ≡ true → in_part (part k s) x text ≡ true → holds d x text ≡ true → ⊥
part_apart-sound k Any d x text e a b = avoids_class-sound k Any d x text e a b
part_apart-sound k Unnumbered d x text e a b = avoids_class-sound k Unnumbered d x text e a b
part_apart-sound k Ranked d x text e a b = avoids_class-sound k Ranked d x text e a b
part_apart-sound k Element d x text e a b = avoids_class-sound k Element d x text e a b
part_apart-sound k Integer d x text e a b = avoids_class-sound k Integer d x text e a b
part_apart-sound k (OneOf list) d x text e a b =
    let y = and_parts (is_kind k x) (passes (OneOf list) text) a in
    both_ways (holds d k text) (ap (λ z. holds d z text) (sym (kind_from k x y.0)) ∙ b) (listed (texts_of list) (lacks d k) text e y.1)
part_apart-sound k (Is l) d x text e a b =
    let y = and_parts (is_kind k x) (passes (Is l) text) a in
    both_ways (holds d k text) (ap (λ z. holds d z text) (sym (kind_from k x y.0)) ∙ b) (ap (lacks d k) ((bytes_eq-Decides text (lexeme_text l)).0 y.1) ∙ e)

parts_apart-sound : (ps : List Part) (d : Class) (x : Kind) (text : List ℕ) → parts_apart ps d ≡ true → in_parts ps x text ≡ true → holds d x text ≡ true → ⊥
parts_apart-sound [] d x text e a b = absurd cc
parts_apart-sound (p ∷ ps) d x text e a b =
    let w = and_parts (part_apart p.kind p.test d) (parts_apart ps d) e in
    elim (either_true (in_part p x text) (in_parts ps x text) a) [
      | inl h ↦ part_apart-sound p.kind p.test d x text w.0 h b
      | inr h ↦ parts_apart-sound ps d x text w.1 h b
    ]

never_both : (c d : Class) (t : TokenShape) → apart c d ≡ true → fits c t ≡ true → fits d t ≡ true → ⊥
never_both c d t e a b =
    let w = and_parts (parts_apart (other_parts c) d) (part_apart (main_part c).kind (main_part c).test d) e in
    elim (either_true (in_parts (other_parts c) t.kind t.text) (in_part (main_part c) t.kind t.text) a) [
      | inl h ↦ parts_apart-sound (other_parts c) d t.kind t.text w.0 h b
      | inr h ↦ part_apart-sound (main_part c).kind (main_part c).test d t.kind t.text w.1 h b
    ]

pub apart-sound : (c d : Class) (t : TokenShape) → apart c d ≡ true → fits c t ≡ true → fits d t ≡ false
apart-sound c d t e p = not_both (fits c t) (fits d t) (never_both c d t e) p

-- ---- what comes next

begins_item : (c : Class) (i : Item) (is : List Item) (t : TokenShape) → begins c (i ∷ is) ≡ true → IsItem i t → fits c t ≡ true
begins_item c (Fixed l) is t e p = within-sound (Exactly l) c t e (fixed_fits l t p)
begins_item c (Leaf d u) is t e p = within-sound d c t e p.0

avoids_item : (c : Class) (i : Item) (is : List Item) (t : TokenShape) → avoids c (i ∷ is) ≡ true → IsItem i t → fits c t ≡ false
avoids_item c (Fixed l) is t e p = apart-sound (Exactly l) c t e (fixed_fits l t p)
avoids_item c (Leaf d u) is t e p = apart-sound d c t e p.0

pub begins_sees : (c : Class) (end : ℕ) (is : List Item) (ts rest : List TokenShape) → begins c is ≡ true → Matches is ts → sees c (live end (ts ++ rest)) ≡ true
unfolding sees
begins_sees c end [] ts rest e m = absurd cc
begins_sees c end (i ∷ is) [] rest e m = absurd m
begins_sees c end (i ∷ is) (t ∷ ts) rest e m = begins_item c i is t e m.0

pub avoids_sees : (c : Class) (end : ℕ) (is : List Item) (ts rest : List TokenShape) → avoids c is ≡ true → Matches is ts → sees c (live end (ts ++ rest)) ≡ false
unfolding sees
avoids_sees c end [] ts rest e m = absurd cc
avoids_sees c end (i ∷ is) [] rest e m = absurd m
avoids_sees c end (i ∷ is) (t ∷ ts) rest e m = avoids_item c i is t e m.0

pub nonempty : (c : Class) (is : List Item) (ts : List TokenShape) → begins c is ≡ true → Matches is ts → 0 < length ts
nonempty c [] ts e m = absurd cc
nonempty c (i ∷ is) [] e m = absurd m
nonempty c (i ∷ is) (t ∷ ts) e m = omega arith

-- an item begins so whatever follows
pub begins_front : (c : Class) (p : Item) (pre tail : List Item) → begins c (p ∷ (pre ++ tail)) ≡ true → begins c (p ∷ pre) ≡ true
begins_front c (Fixed l) pre tail e = e
begins_front c (Leaf d u) pre tail e = e

pub avoids_front : (c : Class) (p : Item) (pre tail : List Item) → avoids c (p ∷ (pre ++ tail)) ≡ true → avoids c (p ∷ pre) ≡ true
avoids_front c (Fixed l) pre tail e = e
avoids_front c (Leaf d u) pre tail e = e
