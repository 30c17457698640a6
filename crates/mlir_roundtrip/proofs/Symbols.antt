-- Behind the @ of a symbol that was lexed stands a word, and each token of a tree is of its class.
use Rattle.std.proofs.Common.{◌≡◌, ℕ, ◌+◌, ◌-◌, suc, zero, Bool, true, false, cond, ◌&&◌, List, [], ◌∷◌, ◌++◌, take, drop, length, Ok, Err, refl, sym, ap, subst, ◌∙◌, arith, nat_eq}
use Rattle.std.proofs.Common.{Result as Answer}
use Rattle.std.specs.List.{AllByRecursion, list_all}
use Rattle.std.proofs.lemmas.Bool.{and_from, and_parts, cond-true}
use Rattle.text_format.specs.declared.front.Kind.{Kind}
use Rattle.text_format.specs.declared.front.Kind.TheVariants.{Word, Value, Symbol, Shaped, Number, Quoted, Mark}
use Rattle.text_format.specs.declared.front.ByteClass.TheVariants.{WordByte, ValueByte, Digit, Printable, LineBefore}
use Rattle.text_format.specs.declared.front.Front.{Front}
use Rattle.text_format.specs.declared.front.Front.TheVariants as fronts
use Rattle.text_format.specs.declared.span.Span.{Span}
use Rattle.text_format.specs.declared.class.Class.{Class}
use Rattle.text_format.specs.declared.class.Class.TheVariants as classes
use Rattle.text_format.specs.declared.lexeme.Lexeme.TheVariants.{CloseParenthesis}
use Rattle.text_format.specs.Bytes.{is_blank, is_digit, is_sign, is_mark, next_is, is_closed, is_shape_start, result_number, is_letter, is_word_byte, run, letter_next, sign_kind, shaped_front, word_front, value_front, sign_front, quoted_front, mark_front, comment_front, front}
use Rattle.text_format.specs.Types.{is_word}
use Rattle.text_format.specs.Token.{TokenShape}
use Rattle.text_format.specs.Tokens as lexed
use Rattle.text_format.specs.Tokens.{tokens_from, by_front, before_others, with_text}
use Rattle.text_format.specs.Parsing.{tokens_in}
use Rattle.text_format.specs.Classes.{is_kind, fits}
use Rattle.text_format.specs.Formats.{Item, Fixed, Leaf, spell_some, spell_many, list_before}
use Rattle.text_format.specs.Laws.{IsItem, Matches}
use Rattle.mlir_syntax.specs.declared.tree.operations.Statement.{Statement}
use Rattle.mlir_syntax.specs.declared.tree.files.Function.{Function}
use Rattle.mlir_syntax.specs.declared.tree.files.Item as items
use Rattle.mlir_syntax.specs.declared.tree.files.Item.TheVariants as kinds
use Rattle.mlir_syntax.specs.declared.tree.files.Text.{Text}
use Rattle.mlir_syntax.specs.Operations as operation_grammar
use Rattle.mlir_syntax.specs.Files as file_grammar
use Rattle.mlir_read.specs.Resolve.{symbol_of}
use Rattle.mlir_syntax.specs.declared.tree.files.FunctionsEnd.{FunctionsEnd}
use Rattle.mlir_syntax.specs.declared.tree.files.ModuleRest.{ModuleRest}
use Rattle.mlir_syntax.specs.declared.tree.files.ModuleRest.TheVariants as rests
use Rattle.mlir_syntax.specs.declared.tree.files.Enclosed.{Enclosed}
use Rattle.script_syntax.specs.Lines.{sequence}

-- ---- one token

-- what is told of a symbol's token, behind its first byte
abbrev IsWordBehind : List ℕ → Front → Type 0
IsWordBehind rest (fronts.Token Symbol k) = (letter_next rest ≡ true) × (k ≡ run WordByte rest + 1)
IsWordBehind rest f = Unit {0}

either_front : (rest : List ℕ) (b : Bool) (x y : Front) → IsWordBehind rest x → IsWordBehind rest y → IsWordBehind rest (cond b x y)
either_front rest true x y h k = h
either_front rest false x y h k = k

of_kind : (rest : List ℕ) (kind : Kind) → letter_next rest ≡ true → IsWordBehind rest (fronts.Token kind (run WordByte rest + 1))
of_kind rest Symbol e = (e, refl)
of_kind rest kind e = tt

sign_if : (rest : List ℕ) (kind : Kind) (b : Bool) → letter_next rest ≡ b → IsWordBehind rest (cond b (fronts.Token kind (run WordByte rest + 1)) (fronts.Byte 0))
sign_if rest kind true e = of_kind rest kind e
sign_if rest kind false e = tt

comment_word : (rest : List ℕ) → IsWordBehind rest (comment_front rest)
unfolding comment_front
comment_word rest = either_front rest (next_is 47 rest) (fronts.Skip (run (LineBefore 10) rest + 1)) (fronts.Byte 0) tt tt

shaped_word : (rest bytes : List ℕ) → IsWordBehind rest (shaped_front bytes)
unfolding shaped_front
shaped_word rest bytes = either_front rest (is_closed 62 bytes) (fronts.Token Shaped (7 + run (LineBefore 62) bytes + 1)) fronts.Unclosed tt tt

word_word : (rest bytes : List ℕ) → IsWordBehind rest (word_front bytes)
unfolding word_front
word_word rest bytes = either_front rest (is_shape_start bytes) (shaped_front (drop 7 bytes)) (fronts.Token Word (run WordByte bytes)) (shaped_word rest (drop 7 bytes)) tt

value_word : (rest : List ℕ) → IsWordBehind rest (value_front rest)
unfolding value_front
value_word rest = either_front rest (nat_eq (run ValueByte rest) 0) (fronts.Byte 0) (fronts.Token Value (run ValueByte rest + result_number (drop (run ValueByte rest) rest) + 1)) tt tt

sign_word : (b : ℕ) (rest : List ℕ) → IsWordBehind rest (sign_front b rest)
unfolding sign_front
sign_word b rest = sign_if rest (sign_kind b) (letter_next rest) refl

quoted_word : (rest : List ℕ) → IsWordBehind rest (quoted_front rest)
unfolding quoted_front
quoted_word rest = either_front rest (next_is 34 (drop (run Printable rest) rest)) (fronts.Token Quoted (run Printable rest + 2)) (cond (is_closed 34 rest) (fronts.Byte (run Printable rest + 1)) fronts.Unclosed) tt
    (either_front rest (is_closed 34 rest) (fronts.Byte (run Printable rest + 1)) fronts.Unclosed tt tt)

mark_word : (b : ℕ) (rest : List ℕ) → IsWordBehind rest (mark_front b rest)
unfolding mark_front
mark_word b rest = either_front rest (nat_eq b 45 && next_is 62 rest) (fronts.Token Mark 2) (cond (is_mark b) (fronts.Token Mark 1) (fronts.Byte 0)) tt (either_front rest (is_mark b) (fronts.Token Mark 1) (fronts.Byte 0) tt tt)

abbrev quoted_or : ℕ → List ℕ → Front
quoted_or b rest = cond (nat_eq b 34) (quoted_front rest) (mark_front b rest)

abbrev sign_or : ℕ → List ℕ → Front
sign_or b rest = cond (is_sign b) (sign_front b rest) (quoted_or b rest)

abbrev value_or : ℕ → List ℕ → Front
value_or b rest = cond (nat_eq b 37) (value_front rest) (sign_or b rest)

abbrev number_or : ℕ → List ℕ → Front
number_or b rest = cond (is_digit b) (fronts.Token Number (run Digit rest + 1)) (value_or b rest)

abbrev word_or : ℕ → List ℕ → Front
word_or b rest = cond (is_letter b) (word_front (b ∷ rest)) (number_or b rest)

abbrev comment_or : ℕ → List ℕ → Front
comment_or b rest = cond (nat_eq b 47) (comment_front rest) (word_or b rest)

front_word : (b : ℕ) (rest : List ℕ) → IsWordBehind rest (front b rest)
unfolding front
front_word b rest =
    either_front rest (is_blank b) (fronts.Skip 1) (comment_or b rest) tt
    (either_front rest (nat_eq b 47) (comment_front rest) (word_or b rest) (comment_word rest)
    (either_front rest (is_letter b) (word_front (b ∷ rest)) (number_or b rest) (word_word rest (b ∷ rest))
    (either_front rest (is_digit b) (fronts.Token Number (run Digit rest + 1)) (value_or b rest) tt
    (either_front rest (nat_eq b 37) (value_front rest) (sign_or b rest) (value_word rest)
    (either_front rest (is_sign b) (sign_front b rest) (quoted_or b rest) (sign_word b rest)
    (either_front rest (nat_eq b 34) (quoted_front rest) (mark_front b rest) (quoted_word rest) (mark_word b rest)))))))

-- ---- runs

run_if : (x : ℕ) (xs : List ℕ) (b : Bool) → is_word_byte x ≡ b → list_all is_word_byte (take (run WordByte xs) xs) ≡ true → list_all is_word_byte (take (cond b (suc (run WordByte xs)) 0) (x ∷ xs)) ≡ true
run_if x xs true e h = and_from (is_word_byte x) (list_all is_word_byte (take (run WordByte xs) xs)) e h
run_if x xs false e h = refl

run_words : (xs : List ℕ) → list_all is_word_byte (take (run WordByte xs) xs) ≡ true
unfolding run
run_words [] = refl
run_words (x ∷ xs) = run_if x xs (is_word_byte x) refl (run_words xs)

letter_word : (b : ℕ) → is_letter b ≡ true → is_word_byte b ≡ true
letter_word b e = rw e refl

run_letter : (c : ℕ) (cs : List ℕ) → is_letter c ≡ true → run WordByte (c ∷ cs) ≡ suc (run WordByte cs)
unfolding run
run_letter c cs e = cond-true (is_word_byte c) (suc (run WordByte cs)) 0 (letter_word c e)

taken_word : (rest : List ℕ) → letter_next rest ≡ true → is_word (take (run WordByte rest) rest) ≡ true
taken_word [] e = absurd (cc e)
taken_word (c ∷ cs) e = ap (λ k. is_word (take k (c ∷ cs))) (run_letter c cs e) ∙ and_from (is_letter c) (list_all is_word_byte (take (run WordByte cs) cs)) e (run_words cs)

symbol_word : (b : ℕ) (rest : List ℕ) (k : ℕ) → letter_next rest ≡ true → k ≡ run WordByte rest + 1 → is_word (drop 1 (take k (b ∷ rest))) ≡ true
symbol_word b rest k e h =
    let z : k ≡ suc (run WordByte rest) = omega (arith, h) in
    ap (λ n. is_word (drop 1 (take n (b ∷ rest)))) z ∙ taken_word rest e

-- ---- all tokens

abbrev IsSymbolWord : TokenShape → Type 0
IsSymbolWord t = t.kind ≡ Symbol → is_word (drop 1 t.text) ≡ true

abbrev SymbolsAreWords : List ℕ → List Span → Type 0
SymbolsAreWords source ts = AllByRecursion (λ t. IsSymbolWord (with_text source t)) ts

drop_more : (n k : ℕ) (xs : List ℕ) → drop k (drop n xs) ≡ drop (n + k) xs
drop_more zero k xs = let z : k ≡ 0 + k = omega arith in ap (λ j. drop j xs) z
drop_more (suc n) k [] = drop_none k ∙ sym (drop_none (suc n + k))
  where
    drop_none : (j : ℕ) → drop {A = ℕ} j [] ≡ []
    drop_none zero = refl
    drop_none (suc j) = refl
drop_more (suc n) k (x ∷ xs) = let z : suc (n + k) ≡ suc n + k = omega arith in drop_more n k xs ∙ ap (λ j. drop j (x ∷ xs)) z

abbrev got : List Span → Answer (List Span) lexed.Fault → List Span
got d (Ok x) = x
got d (Err e) = d

ok_spans : (xs ys : List Span) → ◌≡◌ {A = Answer (List Span) lexed.Fault} (Ok xs) (Ok ys) → xs ≡ ys
ok_spans xs ys h = ap (got xs) h

others : (t : Span) (r : Answer (List Span) lexed.Fault) (ts : List Span) → before_others t r ≡ Ok ts → (us : List Span) × (r ≡ Ok us) × (t ∷ us ≡ ts)
others t (Ok us) ts h = (us, refl, ok_spans (t ∷ us) ts h)
others t (Err e) ts h = absurd (cc h)

text_here : (source : List ℕ) (at k : ℕ) (bytes : List ℕ) → drop at source ≡ bytes → take ((at + k) - at) (drop at source) ≡ take k bytes
text_here source at k bytes e = let z : (at + k) - at ≡ k = omega arith in ap (λ j. take j (drop at source)) z ∙ ap (take k) e

one_symbol : (source : List ℕ) (at b : ℕ) (rest : List ℕ) (kind : Kind) (k : ℕ) → drop at source ≡ b ∷ rest → IsWordBehind rest (fronts.Token kind k) → IsSymbolWord (with_text source (record { kind = kind; start = at; end = at + k }))
one_symbol source at b rest kind k e h s =
    let w = subst (λ q. IsWordBehind rest (fronts.Token q k)) s h in
    ap (λ (x : List ℕ). is_word (drop 1 x)) (text_here source at k (b ∷ rest) e) ∙ symbol_word b rest k w.0 w.1

by_item : (source : List ℕ) (at b : ℕ) (rest : List ℕ) (go : ℕ → Answer (List Span) lexed.Fault) (f : Front) (ts : List Span) → drop at source ≡ b ∷ rest → IsWordBehind rest f → ((k : ℕ) (us : List Span) → go k ≡ Ok us → SymbolsAreWords source us) → by_front at go f ≡ Ok ts → SymbolsAreWords source ts
by_item source at b rest go (fronts.Skip k) ts e h ih g = ih k ts g
by_item source at b rest go (fronts.Token kind k) ts e h ih g =
    let o = others (record { kind = kind; start = at; end = at + k }) (go k) ts g in
    subst (λ (xs : List Span). SymbolsAreWords source xs) o.2 (one_symbol source at b rest kind k e h, ih k o.0 o.1)
by_item source at b rest go (fronts.Byte k) ts e h ih g = absurd (cc g)
by_item source at b rest go fronts.Unclosed ts e h ih g = absurd (cc g)

symbols : (n at : ℕ) (bytes source : List ℕ) (ts : List Span) → drop at source ≡ bytes → tokens_from n at bytes ≡ Ok ts → SymbolsAreWords source ts
unfolding tokens_from
symbols zero at bytes source ts e h = subst (λ (xs : List Span). SymbolsAreWords source xs) (ok_spans [] ts h) tt
symbols (suc n) at [] source ts e h = subst (λ (xs : List Span). SymbolsAreWords source xs) (ok_spans [] ts h) tt
symbols (suc n) at (b ∷ rest) source ts e h =
    by_item source at b rest (λ k. tokens_from n (at + k) (drop k (b ∷ rest))) (front b rest) ts e (front_word b rest)
    (λ k us g. symbols n (at + k) (drop k (b ∷ rest)) source us (sym (drop_more at k source) ∙ ap (drop k) e) g) h

shapes_words : (source : List ℕ) (ts : List Span) → SymbolsAreWords source ts → AllByRecursion IsSymbolWord (tokens_in source ts)
shapes_words source [] h = tt
shapes_words source (t ∷ ts) h = (h.0, shapes_words source ts h.1)

-- ---- the leaves of a tree

-- what is known of a token of the class
abbrev pub IsLeaf : Class → TokenShape → Type 0
IsLeaf classes.Symbol u = is_word (drop 1 u.text) ≡ true
IsLeaf c u = fits c u ≡ true

-- what is known of the tokens that are kept
abbrev pub AreLeaves : List Item → Type 0
AreLeaves [] = Unit {0}
AreLeaves (Fixed l ∷ is) = AreLeaves is
AreLeaves (Leaf c u ∷ is) = IsLeaf c u × AreLeaves is

is_symbol : (k : Kind) → is_kind Symbol k ≡ true → k ≡ Symbol
is_symbol Symbol h = refl
is_symbol k h = absurd (cc h)

leaf_is : (c : Class) (u t : TokenShape) → IsItem (Leaf c u) t → IsSymbolWord t → IsLeaf c u
leaf_is classes.Symbol u t m s = subst (λ (x : TokenShape). is_word (drop 1 x.text) ≡ true) m.1 (s (is_symbol t.kind (and_parts (is_kind Symbol t.kind) true m.0).0))
leaf_is c u t m s = subst (λ (x : TokenShape). fits c x ≡ true) m.1 m.0

leaves_are : (is : List Item) (ts : List TokenShape) → Matches is ts → AllByRecursion IsSymbolWord ts → AreLeaves is
leaves_are [] [] m s = tt
leaves_are [] (t ∷ ts) m s = absurd m
leaves_are (i ∷ is) [] m s = absurd m
leaves_are (Fixed l ∷ is) (t ∷ ts) m s = leaves_are is ts m.1 s.1
leaves_are (Leaf c u ∷ is) (t ∷ ts) m s = (leaf_is c u t m.0 s.0, leaves_are is ts m.1 s.1)

pub leaves_right : (xs ys : List Item) → AreLeaves (xs ++ ys) → AreLeaves ys
leaves_right [] ys h = h
leaves_right (Fixed l ∷ xs) ys h = leaves_right xs ys h
leaves_right (Leaf c u ∷ xs) ys h = leaves_right xs ys h.1

pub leaves_left : (xs ys : List Item) → AreLeaves (xs ++ ys) → AreLeaves xs
leaves_left [] ys h = tt
leaves_left (Fixed l ∷ xs) ys h = leaves_left xs ys h
leaves_left (Leaf c u ∷ xs) ys h = (h.0, leaves_left xs ys h.1)

-- ---- functions and files

abbrev pub StatementIs : Statement → Type 0
StatementIs s = AreLeaves (operation_grammar.statement.spell s)

-- its name is a word, and its tokens are of their classes
pub record FunctionIs (f : Function) : Type 0 where
  pub name : is_word (symbol_of f.name) ≡ true
  pub statements : AllByRecursion StatementIs f.statements
  pub returned : AreLeaves (file_grammar.returned.spell f.returned)

-- the functions behind a script
abbrev pub RestIs : ModuleRest → Type 0
RestIs (rests.End t) = Unit {0}
RestIs (rests.Script q e) = AllByRecursion FunctionIs e.functions
RestIs (rests.Nested m e) = AllByRecursion FunctionIs e.functions

abbrev pub ItemIs : items.Item → Type 0
ItemIs (kinds.Alias a) = Unit {0}
ItemIs (kinds.Function f) = FunctionIs f
ItemIs (kinds.Module m) = AllByRecursion FunctionIs m.functions × RestIs m.rest

statements_are : (ss : List Statement) → AreLeaves (spell_many operation_grammar.statement ss) → AllByRecursion StatementIs ss
statements_are [] h = tt
statements_are (s ∷ ss) h = (leaves_left (operation_grammar.statement.spell s) (spell_many operation_grammar.statement ss) h, statements_are ss (leaves_right (operation_grammar.statement.spell s) (spell_many operation_grammar.statement ss) h))

function_is : (f : Function) → AreLeaves (file_grammar.function.spell f) → FunctionIs f
unfolding file_grammar.function
function_is f h =
    let params = leaves_right ((list_before CloseParenthesis file_grammar.param).spell f.params) _ h.1.1 in
    let body = leaves_right (spell_some file_grammar.result_types f.results) _ params in
    let end = leaves_right (spell_many operation_grammar.statement f.statements) _ body in
    record {
      name = h.1.0;
      statements = statements_are f.statements (leaves_left (spell_many operation_grammar.statement f.statements) _ body);
      returned = leaves_right (file_grammar.return_name.spell f.return_name) (file_grammar.returned.spell f.returned) end;
    }

functions_are : (fs : List Function) → AreLeaves (spell_many file_grammar.function fs) → AllByRecursion FunctionIs fs
functions_are [] h = tt
functions_are (f ∷ fs) h =
    (function_is f (leaves_left (file_grammar.function.spell f) (spell_many file_grammar.function fs) h), functions_are fs (leaves_right (file_grammar.function.spell f) (spell_many file_grammar.function fs) h))

end_is : (e : FunctionsEnd) → AreLeaves (file_grammar.functions_end.spell e) → AllByRecursion FunctionIs e.functions
unfolding file_grammar.functions_end
end_is e h = functions_are e.functions (leaves_left (spell_many file_grammar.function e.functions) _ h)

rest_is : (r : ModuleRest) → AreLeaves (file_grammar.module_rest.spell r) → RestIs r
unfolding file_grammar.module_rest
rest_is (rests.End t) h = tt
rest_is (rests.Script q e) h = end_is e (leaves_right (sequence.spell q) (file_grammar.functions_end.spell e) h)
rest_is (rests.Nested m e) h = end_is e (leaves_right (file_grammar.script_module.spell m) (file_grammar.functions_end.spell e) h)

enclosed_is : (m : Enclosed) → AreLeaves (file_grammar.enclosed.spell m) → AllByRecursion FunctionIs m.functions × RestIs m.rest
unfolding file_grammar.enclosed
enclosed_is m h =
    let a = (leaves_right (spell_some file_grammar.module_attributes m.attributes) _ h.1).1 in
    (functions_are m.functions (leaves_left (spell_many file_grammar.function m.functions) (file_grammar.module_rest.spell m.rest) a), rest_is m.rest (leaves_right (spell_many file_grammar.function m.functions) (file_grammar.module_rest.spell m.rest) a))

item_is : (i : items.Item) → AreLeaves (file_grammar.item.spell i) → ItemIs i
unfolding file_grammar.item
item_is (kinds.Alias a) h = tt
item_is (kinds.Function f) h = function_is f h
item_is (kinds.Module m) h = enclosed_is m h

items_are : (is : List items.Item) → AreLeaves (spell_many file_grammar.item is) → AllByRecursion ItemIs is
items_are [] h = tt
items_are (i ∷ is) h = (item_is i (leaves_left (file_grammar.item.spell i) (spell_many file_grammar.item is) h), items_are is (leaves_right (file_grammar.item.spell i) (spell_many file_grammar.item is) h))

text_is : (t : Text) → AreLeaves (file_grammar.text.spell t) → AllByRecursion ItemIs t.items
unfolding file_grammar.text
text_is t h = items_are t.items h

-- in a tree that the tokens of a text spell, the functions' names are words, and the tokens are of their classes
pub spelled_items : (source : List ℕ) (t : Text) (ts : List Span) → lexed.tokens_of source ≡ Ok ts → Matches (file_grammar.text.spell t) (tokens_in source ts) → AllByRecursion ItemIs t.items
spelled_items source t ts e m = text_is t (leaves_are (file_grammar.text.spell t) (tokens_in source ts) m (shapes_words source ts (symbols (length source) 0 source source ts refl e)))
