-- Classes of tokens: what fits, why a token is refused, and what stands for one that is missing.
use Rattle.std.specs.Prelude.{ℕ, Bool, true, false, not, ◌&&◌, ◌||◌, ◌==◌, List, [], ◌∷◌, nat_eq, codes}
use Rattle.std.specs.Str.{bytes_eq}
use Rattle.std.specs.List.{list_any, list_all}
use Rattle.text_format.specs.declared.front.Kind.{Kind}
use Rattle.text_format.specs.declared.front.Kind.TheVariants as kinds
use Rattle.text_format.specs.declared.lexeme.Lexeme.{Lexeme}
use Rattle.text_format.specs.declared.lexeme.Lexeme.TheVariants.{StructuredVectorize}
use Rattle.text_format.specs.declared.class.Class.{Class}
use Rattle.text_format.specs.declared.class.Class.TheVariants.{Exactly, Name, Value, NewValue, NewValueAt, Alias, Symbol, TensorType, ElementType, OperandType, IntegerType, Number, Boolean, Iterator, Predicate, BinaryName, CastName, Quoted, MapToken, DenseToken, ItemStart, StepStart, DenseType}
use Rattle.text_format.specs.declared.class.Position.{Position}
use Rattle.text_format.specs.declared.class.Position.TheVariants.{Item, ScriptStatement}
use Rattle.text_format.specs.declared.class.Reason.{Reason}
use Rattle.text_format.specs.declared.class.Reason.TheVariants.{Unsupported, Syntax}
use Rattle.text_format.specs.Token.{TokenShape}
use Rattle.text_format.specs.Lexemes.{lexeme_kind, lexeme_text}
use Rattle.text_format.specs.Types.{is_some, width_of, element_of, extents_of, has_other_element, is_any_tensor}
use Rattle.text_format.specs.Words.{is_among, boolean_words, predicate_words, binary_words, cast_words, profile_words, is_unbuilt, item_words}

abbrev pub kind_code : Kind → ℕ
kind_code kinds.Word = 0
kind_code kinds.Value = 1
kind_code kinds.Alias = 2
kind_code kinds.Symbol = 3
kind_code kinds.Block = 4
kind_code kinds.TypeWord = 5
kind_code kinds.Shaped = 6
kind_code kinds.Number = 7
kind_code kinds.Quoted = 8
kind_code kinds.Mark = 9

abbrev pub is_kind : Kind → Kind → Bool
is_kind wanted k = nat_eq (kind_code k) (kind_code wanted)

-- ---- what fits

-- the name of a value that may be defined has no `#`
abbrev pub is_numbered : List ℕ → Bool
is_numbered text = list_any (λ b. b == 35) text

-- texts that a class lists
pub data Listed : Type 0 where
  Booleans : Listed
  Iterators : Listed
  Predicates : Listed
  Binaries : Listed
  Casts : Listed
  -- where an item of a file begins that is no alias
  Items : Listed
  -- the marks of a map's text, without the < and > around it
  MapMarks : Listed
  -- the marks of a dense literal's text, without the < and > around it
  DenseMarks : Listed

-- the quoted iterator types (Linalg manual, "linalg.generic")
abbrev pub iterator_texts : List (List ℕ)
iterator_texts = codes "\"parallel\"" ∷ codes "\"reduction\"" ∷ []

abbrev pub map_marks : List (List ℕ)
map_marks = codes "(" ∷ codes ")" ∷ codes "[" ∷ codes "]" ∷ codes "," ∷ codes "->" ∷ codes "+" ∷ codes "-" ∷ codes "*" ∷ []

abbrev pub dense_marks : List (List ℕ)
dense_marks = codes "-" ∷ codes "[" ∷ codes "]" ∷ codes "," ∷ []

abbrev pub texts_of : Listed → List (List ℕ)
texts_of Booleans = boolean_words
texts_of Iterators = iterator_texts
texts_of Predicates = predicate_words
texts_of Binaries = binary_words
texts_of Casts = cast_words
texts_of Items = item_words
texts_of MapMarks = map_marks
texts_of DenseMarks = dense_marks

-- what is asked of the text
pub data Test : Type 0 where
  Any : Test
  Unnumbered : Test
  Ranked : Test
  Element : Test
  Integer : Test
  OneOf : Listed → Test
  Is : Lexeme → Test

abbrev pub passes : Test → List ℕ → Bool
passes Any text = true
passes Unnumbered text = not (is_numbered text)
passes Ranked text = is_some (extents_of text)
passes Element text = is_some (element_of text)
passes Integer text = is_some (width_of text)
passes (OneOf list) text = is_among (texts_of list) text
passes (Is l) text = bytes_eq text (lexeme_text l)

-- tokens of one kind whose text passes
pub record Part : Type 0 where
  pub kind : Kind
  pub test : Test

abbrev pub part : Kind → Test → Part
part k t = record { kind = k; test = t }

abbrev pub in_part : Part → Kind → List ℕ → Bool
in_part p k text = is_kind p.kind k && passes p.test text

-- the main part of a class. A class whose tokens are of several kinds has others besides
abbrev pub main_part : Class → Part
main_part (Exactly l) = part (lexeme_kind l) (Is l)
main_part (Name p l) = part (lexeme_kind l) (Is l)
main_part Value = part kinds.Value Any
main_part NewValue = part kinds.Value Unnumbered
main_part (NewValueAt p) = part kinds.Value Unnumbered
main_part StepStart = part kinds.Value Unnumbered
main_part Alias = part kinds.Alias Any
main_part Symbol = part kinds.Symbol Any
main_part TensorType = part kinds.Shaped Ranked
main_part ElementType = part kinds.Word Element
main_part OperandType = part kinds.Shaped Ranked
main_part IntegerType = part kinds.Word Integer
main_part Number = part kinds.Number Any
main_part Boolean = part kinds.Word (OneOf Booleans)
main_part Iterator = part kinds.Quoted (OneOf Iterators)
main_part Predicate = part kinds.Word (OneOf Predicates)
main_part (BinaryName p) = part kinds.Word (OneOf Binaries)
main_part (CastName p) = part kinds.Word (OneOf Casts)
main_part Quoted = part kinds.Quoted Any
main_part MapToken = part kinds.Number Any
main_part DenseToken = part kinds.Number Any
main_part DenseType = part kinds.Shaped Ranked
main_part ItemStart = part kinds.Word (OneOf Items)

abbrev pub other_parts : Class → List Part
other_parts StepStart = part kinds.Word (Is StructuredVectorize) ∷ []
other_parts OperandType = part kinds.Word Integer ∷ []
other_parts MapToken = part kinds.Word Any ∷ part kinds.Mark (OneOf MapMarks) ∷ []
other_parts DenseToken = part kinds.Word (OneOf Booleans) ∷ part kinds.Mark (OneOf DenseMarks) ∷ []
other_parts ItemStart = part kinds.Alias Any ∷ []
other_parts _ = []

abbrev pub in_parts : List Part → Kind → List ℕ → Bool
in_parts [] k text = false
in_parts (p ∷ ps) k text = in_part p k text || in_parts ps k text

-- a token of this kind with this text is of the class
abbrev pub holds : Class → Kind → List ℕ → Bool
holds c k text = in_parts (other_parts c) k text || in_part (main_part c) k text

abbrev pub fits : Class → TokenShape → Bool
fits c t = holds c t.kind t.text

-- ---- why a token that doesn't fit is refused

-- a word of the profile
unfoldable pub is_profile_word : List ℕ → Bool
is_profile_word text = is_some (width_of text) || profile_words text

abbrev pub reason_if : Bool → Reason
reason_if true = Unsupported
reason_if false = Syntax

-- where the name of an operation is wanted: a word that the profile hasn't, or an operation that isn't read yet
unfoldable pub is_unsupported_name : Position → TokenShape → Bool
is_unsupported_name p t = is_kind kinds.Word t.kind && (not (is_profile_word t.text) || is_unbuilt p t.text)

-- where an element type is wanted: a word that the profile hasn't, or a dialect's type
unfoldable pub is_unsupported_element : TokenShape → Bool
is_unsupported_element t =
    (is_kind kinds.Word t.kind && not (is_profile_word t.text)) || (is_kind kinds.TypeWord t.kind && not (bytes_eq t.text (codes "!transform.any_op")))

-- where a tensor's type is wanted: one with other elements
abbrev pub is_unsupported_shape : TokenShape → Bool
is_unsupported_shape t = is_kind kinds.Shaped t.kind && has_other_element t.text

-- where the type of a dense literal is wanted: a tensor's whose extents aren't fixed too
abbrev pub is_unsupported_literal : TokenShape → Bool
is_unsupported_literal t = is_kind kinds.Shaped t.kind && (has_other_element t.text || is_any_tensor t.text)

abbrev pub refusal : Class → TokenShape → Reason
refusal (Exactly l) t = Syntax
refusal (Name p l) t = reason_if (is_unsupported_name p t)
refusal Value t = Syntax
refusal NewValue t = Syntax
refusal (NewValueAt p) t = reason_if (is_unsupported_name p t)
refusal StepStart t = reason_if (is_unsupported_name ScriptStatement t)
refusal Alias t = Syntax
refusal Symbol t = Syntax
refusal TensorType t = reason_if (is_unsupported_shape t)
refusal ElementType t = reason_if (is_unsupported_element t)
refusal OperandType t = reason_if (is_unsupported_shape t || is_unsupported_element t)
refusal IntegerType t = reason_if (is_unsupported_element t)
refusal Number t = Syntax
refusal Boolean t = Syntax
refusal Iterator t = Syntax
refusal Predicate t = Syntax
refusal (BinaryName p) t = reason_if (is_unsupported_name p t)
refusal (CastName p) t = reason_if (is_unsupported_name p t)
refusal Quoted t = Syntax
refusal MapToken t = Syntax
refusal DenseToken t = Syntax
refusal DenseType t = reason_if (is_unsupported_literal t)
refusal ItemStart t = reason_if (is_unsupported_name Item t)

-- ---- what stands for a token that is missing: the simplest of the class

-- Of integer types it is the widest: a literal that stands before a type that is missing is out of its range only where no type has it.

abbrev pub simplest : Class → List ℕ
simplest (Exactly l) = lexeme_text l
simplest (Name p l) = lexeme_text l
simplest Value = codes "%a"
simplest NewValue = codes "%a"
simplest (NewValueAt p) = codes "%a"
simplest StepStart = codes "%a"
simplest Alias = codes "#a"
simplest Symbol = codes "@a"
simplest TensorType = codes "tensor<1xi1>"
simplest ElementType = codes "i1"
simplest OperandType = codes "tensor<1xi1>"
simplest IntegerType = codes "i64"
simplest Number = codes "0"
simplest Boolean = codes "true"
simplest Iterator = codes "\"parallel\""
simplest Predicate = codes "eq"
simplest (BinaryName p) = codes "arith.addi"
simplest (CastName p) = codes "arith.extsi"
simplest Quoted = codes "\"\""
simplest MapToken = codes "0"
simplest DenseToken = codes "0"
simplest DenseType = codes "tensor<1xi1>"
simplest ItemStart = codes "module"

abbrev pub missing : Class → ℕ → TokenShape
missing c at = record { kind = (main_part c).kind; start = at; text = simplest c }

-- ---- one class beside another

-- what passes the first test passes the second
abbrev pub is_stronger : Test → Test → Bool
is_stronger s Any = true
is_stronger Unnumbered Unnumbered = true
is_stronger Ranked Ranked = true
is_stronger Element Element = true
is_stronger Integer Integer = true
is_stronger s t = false

abbrev pub in_stronger : Kind → Test → Part → Bool
in_stronger k s p = is_kind p.kind k && is_stronger s p.test

abbrev pub in_some : Kind → Test → List Part → Bool
in_some k s [] = false
in_some k s (p ∷ ps) = in_stronger k s p || in_some k s ps

abbrev pub in_class : Kind → Test → Class → Bool
in_class k s d = in_some k s (other_parts d) || in_stronger k s (main_part d)

-- each token of this kind whose text passes is of the class
abbrev pub part_within : Kind → Test → Class → Bool
part_within k (Is l) d = holds d k (lexeme_text l)
part_within k (OneOf list) d = list_all (holds d k) (texts_of list)
part_within k s d = in_class k s d

abbrev pub parts_within : List Part → Class → Bool
parts_within [] d = true
parts_within (p ∷ ps) d = part_within p.kind p.test d && parts_within ps d

-- each token of the first class is of the second
abbrev pub within : Class → Class → Bool
within c d = parts_within (other_parts c) d && part_within (main_part c).kind (main_part c).test d

abbrev pub avoids_text : Kind → Test → Kind → List ℕ → Bool
avoids_text k s m text = not (in_part (part k s) m text)

-- no token of this kind whose text passes is of the part
abbrev pub avoids_test : Kind → Test → Kind → Test → Bool
avoids_test k s m (Is l) = avoids_text k s m (lexeme_text l)
avoids_test k s m (OneOf list) = list_all (avoids_text k s m) (texts_of list)
avoids_test k s m t = not (is_kind m k)

abbrev pub avoids_parts : Kind → Test → List Part → Bool
avoids_parts k s [] = true
avoids_parts k s (p ∷ ps) = avoids_test k s p.kind p.test && avoids_parts k s ps

abbrev pub avoids_class : Kind → Test → Class → Bool
avoids_class k s d = avoids_parts k s (other_parts d) && avoids_test k s (main_part d).kind (main_part d).test

abbrev pub lacks : Class → Kind → List ℕ → Bool
lacks d k text = not (holds d k text)

-- no token of this kind whose text passes is of the class
abbrev pub part_apart : Kind → Test → Class → Bool
part_apart k (Is l) d = lacks d k (lexeme_text l)
part_apart k (OneOf list) d = list_all (lacks d k) (texts_of list)
part_apart k s d = avoids_class k s d

abbrev pub parts_apart : List Part → Class → Bool
parts_apart [] d = true
parts_apart (p ∷ ps) d = part_apart p.kind p.test d && parts_apart ps d

-- no token of the first class is of the second
abbrev pub apart : Class → Class → Bool
apart c d = parts_apart (other_parts c) d && part_apart (main_part c).kind (main_part c).test d
