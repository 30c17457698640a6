-- Parts whose fields stand for values are resolved to these values: one induction over the form.
use Rattle.std.proofs.Common.{◌≡◌, ℕ, zero, suc, ◌-◌, Bool, true, false, List, [], ◌∷◌, ◌++◌, map, length, drop, length-append, Result, Ok, Option, Some, None, refl, sym, ap, ◌∙◌, subst, arith, append_assoc}
use Rattle.std.proofs.lemmas.Bool.{lt-ltb}
use Rattle.std.proofs.lemmas.List.{length-map, append-nil}
use Rattle.mlir_base.specs.declared.types.ElemTy.{ElemTy}
use Rattle.mlir_ir.specs.declared.tree.Iter.{Iter}
use Rattle.mlir_ir.specs.declared.tree.Ty.{Ty}
use Rattle.mlir_ir.specs.declared.tree.ValueId.{ValueId}
use Rattle.text_format.specs.declared.class.Class.TheVariants as classes
use Rattle.text_format.specs.declared.lexeme.Lexeme.{Lexeme}
use Rattle.text_format.specs.Token.{TokenShape}
use Rattle.form_table.specs.declared.part.DensePiece.{DensePiece}
use Rattle.form_table.specs.declared.part.Entry as table
use Rattle.form_table.specs.declared.part.Entry.TheVariants as entries
use Rattle.form_table.specs.declared.part.Next.{Next}
use Rattle.form_table.specs.declared.part.Part.{Part}
use Rattle.form_table.specs.declared.part.Part.TheVariants as parts
use Rattle.form_table.specs.declared.field.Word.{Word}
use Rattle.form_table.specs.declared.field.Word.TheVariants as words
use Rattle.form_table.specs.declared.field.Field.{Field}
use Rattle.form_table.specs.declared.field.Field.TheVariants as fields
use Rattle.form_table.specs.declared.want.Element.{Element}
use Rattle.form_table.specs.declared.want.Element.TheVariants as elements
use Rattle.form_table.specs.declared.want.Role.{Role}
use Rattle.form_table.specs.declared.want.Role.TheVariants.{Used, TypeOf, ResultType, OutputType, Held, Repeated}
use Rattle.form_table.specs.declared.want.Want.{Want}
use Rattle.form_table.specs.declared.want.Want.TheVariants as wants
use Rattle.form_table.specs.Spelling.{SpellingShape}
use Rattle.form_laws.specs.Fields.{and_also, spelling_of, word_of, words_of, listed_words, spellings_of, fields_of}
use Rattle.form_resolve.specs.declared.value.Value.{Value}
use Rattle.form_resolve.specs.declared.value.Value.TheVariants.{Id, MoreIds, Typed, Numbers, Indices, Maps, Iterators, Literal, There}
use Rattle.form_resolve.specs.declared.value.Seen.{Seen}
use Rattle.mlir_lex.specs.declared.fault.Fault.{Fault}
use Rattle.mlir_lex.specs.Chain.{and_then, each}
use Rattle.mlir_scope.specs.Names.{Entry}
use Rattle.mlir_scope.specs.Maps.{AliasShape}
use Rattle.mlir_scope.specs.Scope.{operand_of}
use Rattle.form_resolve.specs.Entries.{axis, index, is_number, behind, listed, entry_place, one_repeated, more_repeated, entries_repeated, map_entry, iterators_from, iterators_of, use_of, next_use, more_uses, type_entry, more_types, typed_at, type_of_at, last_of}
use Rattle.form_resolve.proofs.Steps.{resolved_part}
use Rattle.form_resolve.specs.Forms.{silent}
use Rattle.form_resolve.specs.Resolving.{with_used, with_count, with_missing, token_stands, held_stand, stands, with_some, resolved}
use Rattle.form_resolve.specs.Saying.{StandFor, AreIterators, AreRepeated, IsUse, AreUses, IsTypeAt, AreTypes, HasType, IsWrittenType, Told, with_names, told_count, last_name, texts_of, HoldWords, Say}

-- ---- options

parted : {A B : Type 0} (o : Option A) (f : A → Option B) (y : B) → and_also o f ≡ Some y → (x : A) × (o ≡ Some x) × (f x ≡ Some y)
parted None f y h = absurd (cc h)
parted (Some x) f y h = (x, refl, h)

some_same : {A : Type 0} (x y : A) → ◌≡◌ {A = Option A} (Some x) (Some y) → x ≡ y
some_same x y h = cc h

-- the entries say these words
abbrev Worded : List Next → List Word → Type 0
Worded [] [] = Unit {0}
Worded [] (w ∷ ws) = ⊥
Worded (x ∷ xs) [] = ⊥
Worded (x ∷ xs) (w ∷ ws) = (word_of x.entry ≡ Some w) × Worded xs ws

worded : (xs : List Next) (ws : List Word) → words_of xs ≡ Some ws → Worded xs ws
worded [] ws h = subst (λ us. Worded [] us) (some_same [] ws h) tt
worded (x ∷ xs) ws h =
    let a = parted (word_of x.entry) _ ws h in
    let b = parted (words_of xs) _ ws a.2 in
    subst (λ us. Worded (x ∷ xs) us) (some_same (a.0 ∷ b.0) ws b.2) (a.1, worded xs b.0 b.1)

abbrev ListWorded : Option table.Entry → List Next → List Word → Type 0
ListWorded None xs ws = Worded xs ws
ListWorded (Some x) xs [] = ⊥
ListWorded (Some x) xs (w ∷ ws) = (word_of x ≡ Some w) × Worded xs ws

list_worded : (o : Option table.Entry) (xs : List Next) (ws : List Word) → listed_words o xs ≡ Some ws → ListWorded o xs ws
list_worded None xs ws h = worded xs ws h
list_worded (Some x) xs ws h =
    let a = parted (word_of x) _ ws h in
    let b = parted (words_of xs) _ ws a.2 in
    subst (λ us. ListWorded (Some x) xs us) (some_same (a.0 ∷ b.0) ws b.2) (a.1, worded xs b.0 b.1)

-- ---- lists

each_said : {B : Type 0} (f : table.Entry → Result B Fault) (xs : List Next) (ws : List Word) (ys : List B) → Worded xs ws → StandFor f ws ys → each (λ (x : Next). f x.entry) xs ≡ Ok ys
each_said f [] [] [] h k = refl
each_said f [] [] (y ∷ ys) h k = absurd k
each_said f [] (w ∷ ws) ys h k = absurd h
each_said f (x ∷ xs) [] ys h k = absurd h
each_said f (x ∷ xs) (w ∷ ws) [] h k = absurd k
each_said f (x ∷ xs) (w ∷ ws) (y ∷ ys) h k = rw (k.0 x.entry h.0, each_said f xs ws ys h.1 k.1) refl

listed_said : {B : Type 0} (f : table.Entry → Result B Fault) (o : Option table.Entry) (xs : List Next) (ws : List Word) (ys : List B) → ListWorded o xs ws → StandFor f ws ys → listed f o xs ≡ Ok ys
listed_said f None xs ws ys h k = ap (behind []) (each_said f xs ws ys h k)
listed_said f (Some x) xs [] ys h k = absurd h
listed_said f (Some x) xs (w ∷ ws) [] h k = absurd k
listed_said f (Some x) xs (w ∷ ws) (y ∷ ys) h k = rw (k.0 x h.0, each_said f xs ws ys h.1 k.1) refl

iterators_said : (n : ℕ) (xs : List Next) (ws : List Word) (is : List Iter) → Worded xs ws → AreIterators n ws is → iterators_from n xs ≡ Ok is
iterators_said n [] [] [] h k = refl
iterators_said n [] [] (i ∷ is) h k = absurd k
iterators_said n [] (w ∷ ws) is h k = absurd h
iterators_said n (x ∷ xs) [] is h k = absurd h
iterators_said n (x ∷ xs) (w ∷ ws) [] h k = absurd k
iterators_said n (x ∷ xs) (w ∷ ws) (i ∷ is) h k = rw (k.0 x.entry h.0, iterators_said (suc n) xs ws is h.1 k.1) refl

all_iterators_said : (o : Option table.Entry) (xs : List Next) (ws : List Word) (is : List Iter) → ListWorded o xs ws → AreIterators zero ws is → iterators_of o xs ≡ Ok is
all_iterators_said None xs ws is h k = ap (behind []) (iterators_said zero xs ws is h k)
all_iterators_said (Some x) xs [] is h k = absurd h
all_iterators_said (Some x) xs (w ∷ ws) [] h k = absurd k
all_iterators_said (Some x) xs (w ∷ ws) (i ∷ is) h k = rw (k.0 x h.0, iterators_said 1 xs ws is h.1 k.1) refl

one_said : (n k at : ℕ) (x : table.Entry) → is_number n x ≡ Ok tt → one_repeated n (suc k) at x ≡ Ok k
one_said n k at x e = let z : suc k - 1 ≡ k = omega arith in let b = lt-ltb 0 (suc k) (omega arith) in rw (b, e, z) refl

repeated_said : (n k : ℕ) (xs : List Next) (ws : List Word) → Worded xs ws → AreRepeated n k ws → more_repeated n k xs ≡ Ok zero
repeated_said n zero [] [] h r = refl
repeated_said n (suc k) [] [] h r = absurd r
repeated_said n k [] (w ∷ ws) h r = absurd h
repeated_said n k (x ∷ xs) [] h r = absurd h
repeated_said n zero (x ∷ xs) (w ∷ ws) h r = absurd r
repeated_said n (suc k) (x ∷ xs) (w ∷ ws) h r = rw (one_said n k x.comma.start x.entry (r.0 x.entry h.0), repeated_said n k xs ws h.1 r.1) refl

all_repeated_said : (n k : ℕ) (o : Option table.Entry) (xs : List Next) (ws : List Word) → ListWorded o xs ws → AreRepeated n k ws → entries_repeated n k o xs ≡ Ok zero
all_repeated_said n k None xs ws h r = repeated_said n k xs ws h r
all_repeated_said n k (Some x) xs [] h r = absurd h
all_repeated_said n zero (Some x) xs (w ∷ ws) h r = absurd r
all_repeated_said n (suc k) (Some x) xs (w ∷ ws) h r = rw (one_said n k (entry_place x) x (r.0 x h.0), repeated_said n k xs ws h.1 r.1) refl

-- ---- tokens

abbrev IsToken : table.Entry → List ℕ → Type 0
IsToken x text = (t : TokenShape) × (x ≡ entries.Token t) × (t.text ≡ text)

token_said : (x : table.Entry) (s : SpellingShape) → word_of x ≡ Some (words.Text s) → IsToken x s.text
token_said (entries.Token t) s h = let e : spelling_of t ≡ s = cc h in (t, refl, ap (λ (u : SpellingShape). u.text) e)
token_said (entries.Number m d) s h = absurd (cc h)
token_said (entries.Map m) s h = absurd (cc h)

number_said : (x : table.Entry) (b : Bool) (n : ℕ) → word_of x ≡ Some (words.Number b n) → (m : Option TokenShape) × (d : TokenShape) × (x ≡ entries.Number m d)
number_said (entries.Token t) b n h = absurd (cc h)
number_said (entries.Number m d) b n h = (m, d, refl)
number_said (entries.Map m) b n h = absurd (cc h)

abbrev texts : List TokenShape → List (List ℕ)
texts ts = map (λ t. t.text) ts

texts_drop : (k : ℕ) (ts : List TokenShape) → texts (drop k ts) ≡ drop k (texts ts)
texts_drop zero ts = refl
texts_drop (suc k) [] = refl
texts_drop (suc k) (t ∷ ts) = texts_drop k ts

texts_append : (ts us : List TokenShape) → texts (ts ++ us) ≡ texts ts ++ texts us
texts_append [] us = refl
texts_append (t ∷ ts) us = ap (λ xs. t.text ∷ xs) (texts_append ts us)

dropped : (k : ℕ) (ts : List TokenShape) (names : List (List ℕ)) → texts ts ≡ names → texts (drop k ts) ≡ drop k names
dropped k ts names e = texts_drop k ts ∙ ap (drop k) e

last_text : (ts : List TokenShape) (names : List (List ℕ)) → texts ts ≡ names → texts (last_of ts) ≡ last_name names
last_text ts names e = dropped (length ts - 1) ts names e ∙ ap (λ n. drop (n - 1) names) (sym (length-map ts (λ t. t.text)) ∙ ap length e)

type_said : (env : List Entry) (ts : List TokenShape) (names : List (List ℕ)) (ty : TokenShape) (text : List ℕ) → texts ts ≡ names → ty.text ≡ text → IsTypeAt env names text → typed_at env ts ty ≡ Ok tt
type_said env [] [] ty text e f h = absurd h
type_said env [] (n ∷ ns) ty text e f h = absurd (cc e)
type_said env (t ∷ ts) [] ty text e f h = absurd (cc e)
type_said env (t ∷ ts) (n ∷ ns) ty text e f h = h t ty (cc e) f

type_had : (env : List Entry) (ts : List TokenShape) (names : List (List ℕ)) (ty : Ty) → texts ts ≡ names → HasType env names ty → type_of_at env ts ≡ Ok ty
type_had env [] [] ty e h = absurd h
type_had env [] (n ∷ ns) ty e h = absurd (cc e)
type_had env (t ∷ ts) [] ty e h = absurd (cc e)
type_had env (t ∷ ts) (n ∷ ns) ty e h = h t (cc e)

types_said : (env : List Entry) (ts : List TokenShape) (names : List (List ℕ)) (xs : List Next) (ws : List Word) → texts ts ≡ names → Worded xs ws → AreTypes env names ws → more_types env ts xs ≡ Ok zero
types_said env [] [] [] [] e h k = refl
types_said env [] [] [] (w ∷ ws) e h k = absurd h
types_said env [] [] (x ∷ xs) [] e h k = absurd h
types_said env [] [] (x ∷ xs) (w ∷ ws) e h k = absurd k
types_said env [] (n ∷ ns) xs ws e h k = absurd (cc e)
types_said env (t ∷ ts) [] xs ws e h k = absurd (cc e)
types_said env (t ∷ ts) (n ∷ ns) xs [] e h k = absurd k
types_said env (t ∷ ts) (n ∷ ns) [] (w ∷ ws) e h k = absurd h
types_said env (t ∷ ts) (n ∷ ns) (x ∷ xs) (words.Number b m ∷ ws) e h k = absurd k
types_said env (t ∷ ts) (n ∷ ns) (x ∷ xs) (words.Text s ∷ ws) e h k =
    let u = token_said x.entry s h.0 in
    let one : type_entry env t x.entry ≡ Ok tt = ap (type_entry env t) u.1 ∙ k.0 t u.0 (cc e) u.2 in
    rw (one, types_said env ts ns xs ws (cc e) h.1 k.1) refl

-- ---- values that are used

-- the names of the values are these
abbrev Names : List (List ℕ) → List TokenShape → Type 0
Names names ts = texts ts ≡ names

use_said : (env : List Entry) (ts : List TokenShape) (n : ℕ) (x : table.Entry) (s : SpellingShape) (v : ValueId × ElemTy) → length ts ≡ n → word_of x ≡ Some (words.Text s) → IsUse env n s.text v
    → (t : TokenShape) × (x ≡ entries.Token t) × (t.text ≡ s.text) × (use_of env ts t ≡ Ok (ts ++ t ∷ [], v))
use_said env ts n x s v e h k =
    let u = token_said x s h in
    let found : operand_of env (length ts) u.0 ≡ Ok v = ap (λ m. operand_of env m u.0) e ∙ k u.0 u.2 in
    (u.0, u.1, u.2, rw found refl)

length_last : (ts : List TokenShape) (t : TokenShape) (n : ℕ) → length ts ≡ n → length (ts ++ t ∷ []) ≡ suc n
length_last ts t n e = omega (arith, length-append ts (t ∷ []), e)

uses_said : (env : List Entry) (ts : List TokenShape) (n : ℕ) (xs : List Next) (ws : List Word) (vs : List (ValueId × ElemTy)) → length ts ≡ n → Worded xs ws → AreUses env n ws vs
    → (us : List TokenShape) × (texts us ≡ texts_of ws) × (more_uses env ts xs ≡ Ok (ts ++ us, vs))
uses_said env ts n [] [] [] e h k = ([], refl, ap (λ us. Ok (us, [])) (sym (append-nil ts)))
uses_said env ts n [] [] (v ∷ vs) e h k = absurd k
uses_said env ts n [] (w ∷ ws) vs e h k = absurd h
uses_said env ts n (x ∷ xs) [] vs e h k = absurd h
uses_said env ts n (x ∷ xs) (w ∷ ws) [] e h k = absurd k
uses_said env ts n (x ∷ xs) (words.Number b m ∷ ws) (v ∷ vs) e h k = absurd k
uses_said env ts n (x ∷ xs) (words.Text s ∷ ws) (v ∷ vs) e h k =
    let a = use_said env ts n x.entry s v e h.0 k.0 in
    let one : next_use env ts x.entry ≡ Ok (ts ++ a.0 ∷ [], v) = ap (next_use env ts) a.1 ∙ a.3 in
    let b = uses_said env (ts ++ a.0 ∷ []) (suc n) xs ws vs (length_last ts a.0 n e) h.1 k.1 in
    (a.0 ∷ b.0, rw (a.2, b.1) refl, rw (one, b.2, append_assoc ts (a.0 ∷ []) b.0) refl)

-- ---- one part

-- what is seen has been told so
pub record Knows (t : Told) (s : Seen) : Type 0 where
  pub names : texts s.used ≡ t.names
  pub count : s.count ≡ t.count
  pub none_missing : s.missing ≡ zero

count_known : (t : Told) (s : Seen) → Knows t s → length s.used ≡ length t.names
count_known t s k = sym (length-map s.used (λ u. u.text)) ∙ ap length k.names

module _ (al : List AliasShape) (env : List Entry) where
  -- what stands for a part, and what has been told and seen then
  pub record Said (w : Want) (s : Seen) (p : Part) (o : Option Value) (n : ℕ) (t : Told) : Type 0 where
    pub after : Seen
    pub stood : stands al env w s p ≡ Ok (o, (n, after))
    pub known : Knows t after

  used_said : (e : Element) (t : Told) (s : Seen) (x : table.Entry) (u : SpellingShape) (v : ValueId) (ty : ElemTy) → Knows t s → word_of x ≡ Some (words.Text u) → IsUse env (length t.names) u.text (v, ty)
      → Said (wants.One e Used) s (parts.One x) (Some (Id v ty)) zero (with_names t (u.text ∷ []))
  unfolding stands token_stands
  used_said e t s x u v ty k h is =
      let a = use_said env s.used (length t.names) x u (v, ty) (count_known t s k) h is in
      record {
        after = with_used s (s.used ++ a.0 ∷ []);
        stood = ap (λ y. stands al env (wants.One e Used) s (parts.One y)) a.1 ∙ rw a.3 refl;
        known = record { names = texts_append s.used (a.0 ∷ []) ∙ ap (λ ns. ns ++ a.0.text ∷ []) k.names ∙ ap (λ n. t.names ++ n ∷ []) a.2; count = k.count; none_missing = k.none_missing };
      }

  type_of_said : (e : Element) (n : ℕ) (t : Told) (s : Seen) (x : table.Entry) (u : SpellingShape) → Knows t s → word_of x ≡ Some (words.Text u) → IsTypeAt env (drop n t.names) u.text → Said (wants.One e (TypeOf n)) s (parts.One x) None zero t
  unfolding stands token_stands
  type_of_said e n t s x u k h ty =
      let a = token_said x u h in
      let b = type_said env (drop n s.used) (drop n t.names) a.0 u.text (dropped n s.used t.names k.names) a.2 ty in
      record { after = s; stood = ap (λ y. stands al env (wants.One e (TypeOf n)) s (parts.One y)) a.1 ∙ rw b refl; known = k }

  result_said : (e : Element) (t : Told) (s : Seen) (x : table.Entry) (u : SpellingShape) (ty : Ty) → Knows t s → word_of x ≡ Some (words.Text u) → IsWrittenType u.text ty → Said (wants.One e ResultType) s (parts.One x) (Some (Typed ty)) zero t
  unfolding stands token_stands
  result_said e t s x u ty k h is =
      let a = token_said x u h in
      let b = is a.0 a.2 in
      record { after = s; stood = ap (λ y. stands al env (wants.One e ResultType) s (parts.One y)) a.1 ∙ rw b refl; known = k }

  output_said : (e : Element) (t : Told) (s : Seen) (x : table.Entry) (u : SpellingShape) (ty : Ty) → Knows t s → word_of x ≡ Some (words.Text u) → IsTypeAt env (last_name t.names) u.text → HasType env (last_name t.names) ty
      → Said (wants.One e OutputType) s (parts.One x) (Some (Typed ty)) zero t
  unfolding stands token_stands
  output_said e t s x u ty k h is has =
      let a = token_said x u h in
      let l = last_text s.used t.names k.names in
      let b = type_said env (last_of s.used) (last_name t.names) a.0 u.text l a.2 is in
      let c = type_had env (last_of s.used) (last_name t.names) ty l has in
      record { after = s; stood = ap (λ y. stands al env (wants.One e OutputType) s (parts.One y)) a.1 ∙ rw (b, c) refl; known = k }

  literal_said : (e : Element) (t : Told) (s : Seen) (x : table.Entry) (b : Bool) (n : ℕ) → Knows t s → word_of x ≡ Some (words.Number b n) → Said (wants.One e Held) s (parts.One x) (Some Literal) zero t
  unfolding stands
  literal_said e t s x b n k h =
      let a = number_said x b n h in
      record { after = s; stood = ap (λ y. stands al env (wants.One e Held) s (parts.One y)) a.2; known = k }

  counted : (t : Told) (s : Seen) (n m : ℕ) → n ≡ m → Knows t s → Knows (told_count t m) (with_count s n)
  counted t s n m e k = record { names = k.names; count = e; none_missing = k.none_missing }

  lengths : {B : Type 0} (f : table.Entry → Result B Fault) (ws : List Word) (ys : List B) → StandFor f ws ys → length ys ≡ length ws
  lengths f [] [] h = refl
  lengths f [] (y ∷ ys) h = absurd h
  lengths f (w ∷ ws) [] h = absurd h
  lengths f (w ∷ ws) (y ∷ ys) h = ap suc (lengths f ws ys h.1)

  iterator_lengths : (n : ℕ) (ws : List Word) (is : List Iter) → AreIterators n ws is → length is ≡ length ws
  iterator_lengths n [] [] h = refl
  iterator_lengths n [] (i ∷ is) h = absurd h
  iterator_lengths n (w ∷ ws) [] h = absurd h
  iterator_lengths n (w ∷ ws) (i ∷ is) h = ap suc (iterator_lengths (suc n) ws is h.1)

  held_said : (e : Element) (close : Lexeme) (t : Told) (s : Seen) (o : Option table.Entry) (xs : List Next) (c : TokenShape) (us : List Word) (v : Value) → Knows t s → ListWorded o xs us → HoldWords al env e us v
      → Said (wants.Listed e close Held) s (parts.Listed o xs c) (Some v) zero (told_count t (length us))
  unfolding stands held_stand
  held_said elements.Literal close t s o xs c us (Numbers ns) k h is = record { after = with_count s (length ns); stood = rw (listed_said axis o xs us ns h is) refl; known = counted t s (length ns) (length us) (lengths axis us ns is) k }
  held_said elements.Index close t s o xs c us (Indices ns) k h is = record { after = with_count s (length ns); stood = rw (listed_said (index env) o xs us ns h is) refl; known = counted t s (length ns) (length us) (lengths (index env) us ns is) k }
  held_said elements.Map close t s o xs c us (Maps ns) k h is = record { after = with_count s (length ns); stood = rw (listed_said (map_entry al) o xs us ns h is) refl; known = counted t s (length ns) (length us) (lengths (map_entry al) us ns is) k }
  held_said (elements.Leaf classes.Iterator) close t s o xs c us (Iterators ns) k h is = record { after = with_count s (length ns); stood = rw (all_iterators_said o xs us ns h is) refl; known = counted t s (length ns) (length us) (iterator_lengths zero us ns is) k }
  held_said e close t s o xs c us v k h is = absurd is

  repeat_said : (e : Element) (close : Lexeme) (n : ℕ) (t : Told) (s : Seen) (o : Option table.Entry) (xs : List Next) (c : TokenShape) (us : List Word) → Knows t s → ListWorded o xs us → AreRepeated n t.count us
      → Said (wants.Listed e close (Repeated n)) s (parts.Listed o xs c) None zero t
  unfolding stands
  repeat_said e close n t s o xs c us k h is =
      let a : entries_repeated n s.count o xs ≡ Ok zero = ap (λ m. entries_repeated n m o xs) k.count ∙ all_repeated_said n t.count o xs us h is in
      record { after = s; stood = rw a refl; known = k }

  more_used_said : (e : Element) (t : Told) (s : Seen) (xs : List Next) (us : List Word) (vs : List (ValueId × ElemTy)) → Knows t s → Worded xs us → AreUses env (length t.names) us vs
      → Said (wants.More e Used) s (parts.More xs) (Some (MoreIds vs)) zero (with_names t (texts_of us))
  unfolding stands
  more_used_said e t s xs us vs k h is =
      let a = uses_said env s.used (length t.names) xs us vs (count_known t s k) h is in
      record {
        after = with_used s (s.used ++ a.0);
        stood = rw a.2 refl;
        known = record { names = texts_append s.used a.0 ∙ ap (λ ns. ns ++ texts a.0) k.names ∙ ap (λ ns. t.names ++ ns) a.1; count = k.count; none_missing = k.none_missing };
      }

  more_types_said : (e : Element) (n : ℕ) (t : Told) (s : Seen) (xs : List Next) (us : List Word) → Knows t s → Worded xs us → AreTypes env (drop n t.names) us → Said (wants.More e (TypeOf n)) s (parts.More xs) None zero t
  unfolding stands
  more_types_said e n t s xs us k h is =
      let a = types_said env (drop n s.used) (drop n t.names) xs us (dropped n s.used t.names k.names) h is in
      record { after = with_missing s zero; stood = rw a refl; known = record { names = k.names; count = k.count; none_missing = refl } }

  -- ---- several

  then_value : (w : Want) → silent w ≡ None → (ws : List Want) (s : Seen) (p : Part) (ps : List Part) (v : Value) (n : ℕ) (t : Told) (vs : List Value) (d : Said w s p (Some v) n t) → resolved al env ws n d.after ps ≡ Ok vs → resolved al env (w ∷ ws) zero s (p ∷ ps) ≡ Ok (v ∷ vs)
  then_value w q ws s p ps v n t vs d h = resolved_part al env w q ws s p ps ∙ ap (λ r. and_then r (λ y. with_some y.0 (resolved al env ws y.1.0 y.1.1 ps))) d.stood ∙ ap (λ r. and_then r (λ us. Ok (v ∷ us))) h

  then_none : (w : Want) → silent w ≡ None → (ws : List Want) (s : Seen) (p : Part) (ps : List Part) (n : ℕ) (t : Told) (vs : List Value) (d : Said w s p None n t) → resolved al env ws n d.after ps ≡ Ok vs → resolved al env (w ∷ ws) zero s (p ∷ ps) ≡ Ok vs
  then_none w q ws s p ps n t vs d h = resolved_part al env w q ws s p ps ∙ ap (λ r. and_then r (λ y. with_some y.0 (resolved al env ws y.1.0 y.1.1 ps))) d.stood ∙ h

  abbrev left_out : ℕ → Bool → ℕ
  left_out n true = zero
  left_out n false = n

  abbrev Behind : List Want → Type 0
  Behind ws = (k : ℕ) (t : Told) (s : Seen) (ps : List Part) (fs : List Field) (vs : List Value) → Knows t s → fields_of ws k ps ≡ Some fs → Say al env ws k t fs vs → resolved al env ws k s ps ≡ Ok vs

  one_goes : (e : Element) (r : Role) (ws : List Want) (t : Told) (s : Seen) (x : table.Entry) (ps : List Part) (w : Word) (fs : List Field) (vs : List Value) → Knows t s → word_of x ≡ Some w → fields_of ws zero ps ≡ Some fs
      → Say al env (wants.One e r ∷ ws) zero t (fields.One w ∷ fs) vs → Behind ws → resolved al env (wants.One e r ∷ ws) zero s (parts.One x ∷ ps) ≡ Ok vs
  unfolding Say
  one_goes e Used ws t s x ps (words.Text u) fs (Id v ty ∷ vs) kn h f is go =
      let d = used_said e t s x u v ty kn h is.0 in
      then_value (wants.One e Used) refl ws s (parts.One x) ps (Id v ty) zero (with_names t (u.text ∷ [])) vs d (go zero (with_names t (u.text ∷ [])) d.after ps fs vs d.known f is.1)
  one_goes e (TypeOf n) ws t s x ps (words.Text u) fs vs kn h f is go =
      let d = type_of_said e n t s x u kn h is.0 in
      then_none (wants.One e (TypeOf n)) refl ws s (parts.One x) ps zero t vs d (go zero t d.after ps fs vs d.known f is.1)
  one_goes e ResultType ws t s x ps (words.Text u) fs (Typed ty ∷ vs) kn h f is go =
      let d = result_said e t s x u ty kn h is.0 in
      then_value (wants.One e ResultType) refl ws s (parts.One x) ps (Typed ty) zero t vs d (go zero t d.after ps fs vs d.known f is.1)
  one_goes e OutputType ws t s x ps (words.Text u) fs (Typed ty ∷ vs) kn h f is go =
      let d = output_said e t s x u ty kn h is.0 is.1 in
      then_value (wants.One e OutputType) refl ws s (parts.One x) ps (Typed ty) zero t vs d (go zero t d.after ps fs vs d.known f is.2)
  one_goes e Held ws t s x ps (words.Number b n) fs (Literal ∷ vs) kn h f is go =
      let d = literal_said e t s x b n kn h in
      then_value (wants.One e Held) refl ws s (parts.One x) ps Literal zero t vs d (go zero t d.after ps fs vs d.known f is)
  one_goes e r ws t s x ps w fs vs kn h f is go = absurd is

  listed_goes : (e : Element) (close : Lexeme) (r : Role) (ws : List Want) (t : Told) (s : Seen) (o : Option table.Entry) (xs : List Next) (c : TokenShape) (ps : List Part) (us : List Word) (fs : List Field) (vs : List Value) → Knows t s → ListWorded o xs us → fields_of ws zero ps ≡ Some fs
      → Say al env (wants.Listed e close r ∷ ws) zero t (fields.Several us ∷ fs) vs → Behind ws → resolved al env (wants.Listed e close r ∷ ws) zero s (parts.Listed o xs c ∷ ps) ≡ Ok vs
  unfolding Say
  listed_goes e close Held ws t s o xs c ps us fs (v ∷ vs) kn h f is go =
      let d = held_said e close t s o xs c us v kn h is.0 in
      then_value (wants.Listed e close Held) refl ws s (parts.Listed o xs c) ps v zero (told_count t (length us)) vs d (go zero (told_count t (length us)) d.after ps fs vs d.known f is.1)
  listed_goes e close (Repeated n) ws t s o xs c ps us fs vs kn h f is go =
      let d = repeat_said e close n t s o xs c us kn h is.0 in
      then_none (wants.Listed e close (Repeated n)) refl ws s (parts.Listed o xs c) ps zero t vs d (go zero t d.after ps fs vs d.known f is.1)
  listed_goes e close r ws t s o xs c ps us fs vs kn h f is go = absurd is

  more_goes : (e : Element) (r : Role) (ws : List Want) (t : Told) (s : Seen) (xs : List Next) (ps : List Part) (us : List Word) (fs : List Field) (vs : List Value) → Knows t s → Worded xs us → fields_of ws zero ps ≡ Some fs
      → Say al env (wants.More e r ∷ ws) zero t (fields.Several us ∷ fs) vs → Behind ws → resolved al env (wants.More e r ∷ ws) zero s (parts.More xs ∷ ps) ≡ Ok vs
  unfolding Say
  more_goes e Used ws t s xs ps us fs (MoreIds is ∷ vs) kn h f say go =
      let d = more_used_said e t s xs us is kn h say.0 in
      then_value (wants.More e Used) refl ws s (parts.More xs) ps (MoreIds is) zero (with_names t (texts_of us)) vs d (go zero (with_names t (texts_of us)) d.after ps fs vs d.known f say.1)
  more_goes e (TypeOf n) ws t s xs ps us fs vs kn h f say go =
      let d = more_types_said e n t s xs us kn h say.0 in
      then_none (wants.More e (TypeOf n)) refl ws s (parts.More xs) ps zero t vs d (go zero t d.after ps fs vs d.known f say.1)
  more_goes e r ws t s xs ps us fs vs kn h f say go = absurd say

  kept_goes : (l : Lexeme) (ws : List Want) (t : Told) (s : Seen) (x : table.Entry) (ps : List Part) (fs : List Field) (vs : List Value) → Knows t s → fields_of ws zero ps ≡ Some fs → Say al env ws zero t fs vs → Behind ws
      → resolved al env (wants.Kept l ∷ ws) zero s (parts.One x ∷ ps) ≡ Ok vs
  unfolding stands
  kept_goes l ws t s x ps fs vs kn f is go =
      let d : Said (wants.Kept l) s (parts.One x) None zero t = record { after = s; stood = rw kn.none_missing refl; known = kn } in
      then_none (wants.Kept l) refl ws s (parts.One x) ps zero t vs d (go zero t s ps fs vs kn f is)

  dense_goes : (ws : List Want) (t : Told) (s : Seen) (ds : List DensePiece) (ps : List Part) (g : Field) (fs : List Field) (vs : List Value) → Knows t s → fields_of ws zero ps ≡ Some fs → Say al env (wants.Dense ∷ ws) zero t (g ∷ fs) vs → Behind ws
      → resolved al env (wants.Dense ∷ ws) zero s (parts.Dense ds ∷ ps) ≡ Ok vs
  unfolding stands Say
  dense_goes ws t s ds ps (fields.Dense ts) fs (Literal ∷ vs) kn f is go =
      let d : Said wants.Dense s (parts.Dense ds) (Some Literal) zero t = record { after = s; stood = refl; known = kn } in
      then_value wants.Dense refl ws s (parts.Dense ds) ps Literal zero t vs d (go zero t s ps fs vs kn f is)
  dense_goes ws t s ds ps g fs vs kn f is go = absurd is

  choice_goes : (l : Lexeme) (n : ℕ) (ws : List Want) (t : Told) (s : Seen) (b : Bool) (ps : List Part) (fs : List Field) (vs : List Value) → Knows t s → fields_of ws (left_out n b) ps ≡ Some fs → Say al env (wants.Maybe l n ∷ ws) zero t (fields.There b ∷ fs) vs → Behind ws
      → resolved al env (wants.Maybe l n ∷ ws) zero s (parts.There b ∷ ps) ≡ Ok vs
  unfolding stands Say
  choice_goes l n ws t s true ps fs (There true ∷ vs) kn f is go =
      let d : Said (wants.Maybe l n) s (parts.There true) (Some (There true)) zero t = record { after = s; stood = refl; known = kn } in
      then_value (wants.Maybe l n) refl ws s (parts.There true) ps (There true) zero t vs d (go zero t s ps fs vs kn f is)
  choice_goes l n ws t s false ps fs (There false ∷ vs) kn f is go =
      let d : Said (wants.Maybe l n) s (parts.There false) (Some (There false)) n t = record { after = s; stood = refl; known = kn } in
      then_value (wants.Maybe l n) refl ws s (parts.There false) ps (There false) n t vs d (go n t s ps fs vs kn f is)
  choice_goes l n ws t s b ps fs vs kn f is go = absurd is

  pub said_resolves : (ws : List Want) (k : ℕ) (t : Told) (s : Seen) (ps : List Part) (fs : List Field) (vs : List Value) → Knows t s → fields_of ws k ps ≡ Some fs → Say al env ws k t fs vs → resolved al env ws k s ps ≡ Ok vs
  unfolding Say resolved fields_of
  said_resolves [] k t s [] [] [] kn h is = refl
  said_resolves [] k t s [] [] (v ∷ vs) kn h is = absurd is
  said_resolves [] k t s [] (f ∷ fs) vs kn h is = absurd (cc h)
  said_resolves [] k t s (p ∷ ps) fs vs kn h is = absurd (cc h)
  said_resolves (w ∷ ws) (suc k) t s ps fs vs kn h is = said_resolves ws k t s ps fs vs kn h is
  said_resolves (wants.Fixed l ∷ ws) zero t s ps fs vs kn h is = said_resolves ws zero t s ps fs vs kn h is
  said_resolves (wants.Space ∷ ws) zero t s ps fs vs kn h is = said_resolves ws zero t s ps fs vs kn h is
  said_resolves (wants.Jump n ∷ ws) zero t s ps fs vs kn h is = said_resolves ws n t s ps fs vs kn h is
  said_resolves (wants.Kept l ∷ ws) zero t s (parts.One x ∷ ps) fs vs kn h is = kept_goes l ws t s x ps fs vs kn h is (λ k t s ps fs vs a b c. said_resolves ws k t s ps fs vs a b c)
  said_resolves (wants.One e r ∷ ws) zero t s (parts.One x ∷ ps) fs vs kn h is =
      let a = parted (word_of x) _ fs h in
      let b = parted (fields_of ws zero ps) _ fs a.2 in
      one_goes e r ws t s x ps a.0 b.0 vs kn a.1 b.1 (subst (λ gs. Say al env (wants.One e r ∷ ws) zero t gs vs) (sym (some_same (fields.One a.0 ∷ b.0) fs b.2)) is) (λ k t s ps fs vs a b c. said_resolves ws k t s ps fs vs a b c)
  said_resolves (wants.Listed e close r ∷ ws) zero t s (parts.Listed o xs c ∷ ps) fs vs kn h is =
      let a = parted (listed_words o xs) _ fs h in
      let b = parted (fields_of ws zero ps) _ fs a.2 in
      listed_goes e close r ws t s o xs c ps a.0 b.0 vs kn (list_worded o xs a.0 a.1) b.1 (subst (λ gs. Say al env (wants.Listed e close r ∷ ws) zero t gs vs) (sym (some_same (fields.Several a.0 ∷ b.0) fs b.2)) is) (λ k t s ps fs vs a b c. said_resolves ws k t s ps fs vs a b c)
  said_resolves (wants.More e r ∷ ws) zero t s (parts.More xs ∷ ps) fs vs kn h is =
      let a = parted (words_of xs) _ fs h in
      let b = parted (fields_of ws zero ps) _ fs a.2 in
      more_goes e r ws t s xs ps a.0 b.0 vs kn (worded xs a.0 a.1) b.1 (subst (λ gs. Say al env (wants.More e r ∷ ws) zero t gs vs) (sym (some_same (fields.Several a.0 ∷ b.0) fs b.2)) is) (λ k t s ps fs vs a b c. said_resolves ws k t s ps fs vs a b c)
  said_resolves (wants.Dense ∷ ws) zero t s (parts.Dense ds ∷ ps) fs vs kn h is =
      let b = parted (fields_of ws zero ps) _ fs h in
      dense_goes ws t s ds ps (fields.Dense (spellings_of ds)) b.0 vs kn b.1 (subst (λ gs. Say al env (wants.Dense ∷ ws) zero t gs vs) (sym (some_same (fields.Dense (spellings_of ds) ∷ b.0) fs b.2)) is) (λ k t s ps fs vs a b c. said_resolves ws k t s ps fs vs a b c)
  said_resolves (wants.Maybe l n ∷ ws) zero t s (parts.There true ∷ ps) fs vs kn h is =
      let b = parted (fields_of ws zero ps) _ fs h in
      choice_goes l n ws t s true ps b.0 vs kn b.1 (subst (λ gs. Say al env (wants.Maybe l n ∷ ws) zero t gs vs) (sym (some_same (fields.There true ∷ b.0) fs b.2)) is) (λ k t s ps fs vs a b c. said_resolves ws k t s ps fs vs a b c)
  said_resolves (wants.Maybe l n ∷ ws) zero t s (parts.There false ∷ ps) fs vs kn h is =
      let b = parted (fields_of ws n ps) _ fs h in
      choice_goes l n ws t s false ps b.0 vs kn b.1 (subst (λ gs. Say al env (wants.Maybe l n ∷ ws) zero t gs vs) (sym (some_same (fields.There false ∷ b.0) fs b.2)) is) (λ k t s ps fs vs a b c. said_resolves ws k t s ps fs vs a b c)
  said_resolves ws zero t s ps fs vs kn h is = absurd (cc h)
