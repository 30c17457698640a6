-- What is read is what the text stands for, and the other way round.
use Rattle.std.proofs.Common.{◌≡◌, ◌<◌, ℕ, Bool, true, false, nat_lt, List, [], ◌∷◌, length, ◌⊎◌, inl, inr, Option, Some, None, Result, Ok, Err, IfOk, refl, sym, ap, subst, ◌∙◌}
use Rattle.std.proofs.lemmas.Bool.{ltb-true}
use Rattle.text_format.specs.declared.class.Class.{Class}
use Rattle.text_format.specs.Token.{TokenShape}
use Rattle.text_format.specs.declared.span.Span.{Span}
use Rattle.text_format.specs.Tokens as lexed
use Rattle.text_format.specs.Parsing.{tokens_in, end_of}
use Rattle.text_format.specs.Formats.{State, Stop, live}
use Rattle.text_format.specs.Formats.{Item as Spelled}
use Rattle.text_format.specs.Laws.{ConsumesFrom}
use Rattle.text_format.specs.Places.{is_found, is_read, is_fault}
use Rattle.mlir_lex.specs.declared.read_error.ReadError.{ReadError}
use Rattle.mlir_lex.specs.declared.read_error.ReadError.TheVariants as errors
use Rattle.mlir_syntax.specs.declared.tree.files.Text.{Text}
use Rattle.mlir_syntax.specs.Files.{text}
use Rattle.mlir_syntax.specs.FileLaws.{text-whole}
use Rattle.mlir_lex.specs.declared.fault.Fault.{Fault}
use Rattle.mlir_file.specs.declared.file.File.{File}
use Rattle.mlir_read.specs.Resolve.{resolve}
use Rattle.mlir_lex.specs.Faults.{reach_of, fault_error, stop_error, earlier, first_of, Reads}
use Rattle.mlir_read.specs.Reading.{StandsFor, behind, told, all_told, of_tree, of_tokens, of_lexed, reading, Gives, Stops, Leads, Finds, IsFaultBy, HasFault, Tells}

abbrev read_in : File → Result File ReadError → File
read_in d (Ok x) = x
read_in d (Err e) = d

read_same : (x m : File) → ◌≡◌ {A = Result File ReadError} (Ok x) (Ok m) → x ≡ m
read_same x m h = ap (read_in x) h

first_ok : (m : File) (a : Result File Fault) (s : Option Stop) → first_of a s ≡ Ok m → (a ≡ Ok m) × (s ≡ None)
first_ok m (Ok x) None h = (ap (λ (y : File). Ok y) (read_same x m h), refl)
first_ok m (Err e) None h = absurd (cc h)
first_ok m (Ok x) (Some p) h = absurd (cc h)
first_ok m (Err e) (Some p) h = absurd (cc h)

none_told : (t : Text) (o : Option Stop) → all_told t o ≡ None → o ≡ None
none_told t None h = refl
none_told t (Some p) h = absurd (cc h)

found_by : (source : List ℕ) (m : File) (o : Result (List Span) lexed.Fault) → lexed.tokens_of source ≡ o → of_lexed source o ≡ Ok m → StandsFor source m
unfolding of_tokens
found_by source m (Err (lexed.Byte at)) e h = absurd (cc h)
found_by source m (Err (lexed.Unclosed at)) e h = absurd (cc h)
found_by source m (Ok ts) e h =
    let r = text.read (live (length source) (tokens_in source ts)) in
    let k = first_ok m (resolve r.0) (all_told r.0 (end_of (behind r.0) r.1)) h in
    (r.0, (ts, e, is_found text text-whole (behind r.0) (length source) (tokens_in source ts) r.0 r.1 refl (none_told r.0 (end_of (behind r.0) r.1) k.1)), k.0)

found : (source : List ℕ) (m : File) → reading source ≡ Ok m → StandsFor source m
found source m h = found_by source m (lexed.tokens_of source) refl h

pub found_in : (source : List ℕ) (r : Result File ReadError) → Reads r (reading source) → IfOk r (λ f. StandsFor source f)
found_in source (Ok f) a = found source f a
found_in source (Err e) a = tt

only : (source : List ℕ) (m : File) → StandsFor source m → reading source ≡ Ok m
unfolding of_tokens end_of
only source m st =
    ap (of_lexed source) st.1.1 ∙ ap of_tree (is_read text text-whole (length source) st.0 (tokens_in source st.1.0) st.1.2) ∙ ap (λ (r : Result File Fault). first_of r None) st.2

pub gives : (source : List ℕ) (m : File) (r : Result File ReadError) → Reads r (reading source) → StandsFor source m → Gives m r
gives source m (Ok f) a st = read_same f m (sym a ∙ only source m st)
gives source m (Err errors.Memory) a st = refl
gives source m (Err (errors.Byte at)) a st = absurd (cc (sym a ∙ only source m st))
gives source m (Err (errors.Unclosed at)) a st = absurd (cc (sym a ∙ only source m st))
gives source m (Err (errors.Syntax at)) a st = absurd (cc (sym a ∙ only source m st))
gives source m (Err (errors.Unsupported at)) a st = absurd (cc (sym a ∙ only source m st))
gives source m (Err (errors.UnknownName at)) a st = absurd (cc (sym a ∙ only source m st))
gives source m (Err (errors.Twice at)) a st = absurd (cc (sym a ∙ only source m st))
gives source m (Err (errors.TypeDiffers at)) a st = absurd (cc (sym a ∙ only source m st))
gives source m (Err (errors.Number at)) a st = absurd (cc (sym a ∙ only source m st))
gives source m (Err (errors.Limit which)) a st = absurd (cc (sym a ∙ only source m st))

-- ---- faults

abbrev BeforeStop : ℕ → Option Stop → Type 0
BeforeStop at None = Unit {0}
BeforeStop at (Some p) = at < p.at

abbrev ByStop : Option Stop → ReadError → Type 0
ByStop s e = (p : Stop) × (s ≡ Some p) × (e ≡ stop_error p)

abbrev ByTree : Result File Fault → Option Stop → ReadError → Type 0
ByTree a s e = (x : Fault) × (a ≡ Err x) × (e ≡ fault_error x) × BeforeStop (reach_of x) s

abbrev error_in : ReadError → Result File ReadError → ReadError
error_in d (Ok m) = d
error_in d (Err e) = e

err_same : (x y : ReadError) → ◌≡◌ {A = Result File ReadError} (Err x) (Err y) → y ≡ x
err_same x y h = sym (ap (error_in x) h)

earlier_by : (b : Bool) (x : Fault) (p : Stop) (e : ReadError) → nat_lt (reach_of x) p.at ≡ b → ◌≡◌ {A = Result File ReadError} (Err (earlier b x p)) (Err e) → ByStop (Some p) e ⊎ ByTree (Err x) (Some p) e
earlier_by true x p e b h = inr (x, refl, err_same (fault_error x) e h, ltb-true (reach_of x) p.at b)
earlier_by false x p e b h = inl (p, refl, err_same (stop_error p) e h)

by_parts : (a : Result File Fault) (s : Option Stop) (e : ReadError) → first_of a s ≡ Err e → ByStop s e ⊎ ByTree a s e
by_parts (Ok m) None e h = absurd (cc h)
by_parts (Err x) None e h = inr (x, refl, err_same (fault_error x) e h, tt)
by_parts (Ok m) (Some p) e h = inl (p, refl, err_same (stop_error p) e h)
by_parts (Err x) (Some p) e h = earlier_by (nat_lt (reach_of x) p.at) x p e refl h

before_told : (t : Text) (at : ℕ) (o : Option Stop) → BeforeStop at (all_told t o) → BeforeStop at o
before_told t at None b = tt
before_told t at (Some p) b = b

abbrev ToldBy : Text → Option Stop → Stop → Type 0
ToldBy t o p = (q : Stop) × (o ≡ Some q) × (p ≡ told t q)

abbrev stop_in : Stop → Option Stop → Stop
stop_in d None = d
stop_in d (Some p) = p

some_told : (t : Text) (o : Option Stop) (p : Stop) → all_told t o ≡ Some p → ToldBy t o p
some_told t None p h = absurd (cc h)
some_told t (Some q) p h = (q, refl, sym (ap (stop_in q) h))

leads : (wanted : Class) (end : ℕ) (is : List Spelled) (ts : List TokenShape) (s : State) (at : ℕ) → ConsumesFrom end is ts s → BeforeStop at (end_of wanted s) → Leads ts is at
unfolding end_of
leads wanted end [] [] s at c b = tt
leads wanted end [] (t ∷ ts) s at c b = subst (λ (x : State). BeforeStop at (end_of wanted x)) c b
leads wanted end (i ∷ is) [] s at c b = tt
leads wanted end (i ∷ is) (t ∷ ts) s at (inl c) b = inr (c.0, leads wanted end is ts s at c.1 b)
leads wanted end (i ∷ is) (t ∷ ts) s at (inr c) b = inl (subst (λ (x : State). BeforeStop at (end_of wanted x)) c.2 b)

abbrev read_of : List ℕ → List Span → Text × State
read_of source ts = text.read (live (length source) (tokens_in source ts))

-- the tokens before the stop are spelled
led : (source : List ℕ) (ts : List Span) (at : ℕ) → BeforeStop at (end_of (behind (read_of source ts).0) (read_of source ts).1) → Leads (tokens_in source ts) (text.spell (read_of source ts).0) at
led source ts at b =
    let r = read_of source ts in
    leads (behind r.0) (length source) (text.spell r.0) (tokens_in source ts) r.1 at (text-whole.reads (live (length source) (tokens_in source ts))) b

tree_fault : (source : List ℕ) (ts : List Span) (e : ReadError) → of_tokens source ts ≡ Err e → Stops source ts e ⊎ Finds source ts e
unfolding of_tokens
tree_fault source ts e h =
    let r = read_of source ts in
    by (by_parts (resolve r.0) (all_told r.0 (end_of (behind r.0) r.1)) e h)
  where
    by : (let r = read_of source ts in ByStop (all_told r.0 (end_of (behind r.0) r.1)) e ⊎ ByTree (resolve r.0) (all_told r.0 (end_of (behind r.0) r.1)) e) → Stops source ts e ⊎ Finds source ts e
    by (inl k) =
        let r = read_of source ts in
        let q = some_told r.0 (end_of (behind r.0) r.1) k.0 k.1 in
        inl (
          r.0,
          q.0,
          is_fault text text-whole (behind r.0) (length source) (tokens_in source ts) r.0 r.1 q.0 refl q.1,
          λ at b. led source ts at (subst (λ (o : Option Stop). BeforeStop at o) (sym q.1) b),
          k.2 ∙ ap stop_error q.2,
        )
    by (inr k) =
        let r = read_of source ts in
        inr (r.0, k.0, k.1, k.2, led source ts (reach_of k.0) (before_told r.0 (reach_of k.0) (end_of (behind r.0) r.1) k.3))

fault_by : (source : List ℕ) (e : ReadError) (o : Result (List Span) lexed.Fault) → of_lexed source o ≡ Err e → IsFaultBy source e o
fault_by source e (Ok ts) h = tree_fault source ts e h
fault_by source e (Err (lexed.Byte at)) h = err_same (errors.Byte at) e h
fault_by source e (Err (lexed.Unclosed at)) h = err_same (errors.Unclosed at) e h

has_fault : (source : List ℕ) (e : ReadError) → reading source ≡ Err e → HasFault source e
has_fault source e h = fault_by source e (lexed.tokens_of source) h

pub tells : (source : List ℕ) (r : Result File ReadError) → Reads r (reading source) → Tells source r
tells source (Ok f) a = tt
tells source (Err errors.Memory) a = tt
tells source (Err (errors.Byte at)) a = has_fault source (errors.Byte at) a
tells source (Err (errors.Unclosed at)) a = has_fault source (errors.Unclosed at) a
tells source (Err (errors.Syntax at)) a = has_fault source (errors.Syntax at) a
tells source (Err (errors.Unsupported at)) a = has_fault source (errors.Unsupported at) a
tells source (Err (errors.UnknownName at)) a = has_fault source (errors.UnknownName at) a
tells source (Err (errors.Twice at)) a = has_fault source (errors.Twice at) a
tells source (Err (errors.TypeDiffers at)) a = has_fault source (errors.TypeDiffers at) a
tells source (Err (errors.Number at)) a = has_fault source (errors.Number at) a
tells source (Err (errors.Limit which)) a = has_fault source (errors.Limit which) a
