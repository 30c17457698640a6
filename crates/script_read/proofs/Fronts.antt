-- What is read is what the tokens stand for, and the other way round.
use Rattle.std.proofs.Common.{◌≡◌, ◌<◌, ◌≤◌, ℕ, ◌+◌, ◌-◌, suc, zero, Bool, true, false, nat_lt, List, [], ◌∷◌, ◌++◌, map, drop, length, ◌⊎◌, inl, inr, Option, Some, None, Result, Ok, Err, IfOk, All, refl, sym, ap, subst, ◌∙◌, arith}
use Rattle.std.proofs.lemmas.Bool.{ltb-true}
use Rattle.text_format.specs.Token.{TokenShape}
use Rattle.text_format.specs.declared.class.Class.TheVariants.{Exactly}
use Rattle.text_format.specs.declared.lexeme.Lexeme.TheVariants.{CloseBrace}
use Rattle.text_format.specs.declared.span.Span.{Span}
use Rattle.text_format.specs.Tokens.{IsSpan, InOrder}
use Rattle.text_format.specs.Parsing.{end_by, end_of}
use Rattle.text_format.specs.Formats.{State, Stop, Item, live}
use Rattle.text_format.specs.Laws.{Matches, ConsumesFrom, reason}
use Rattle.text_format.specs.Exact.{goes_forward}
use Rattle.text_format.specs.Ends.{exact-whole}
use Rattle.text_format.specs.Places as Places
use Rattle.text_format.specs.Places.{is_fault}
use Rattle.mlir_lex.specs.Lexed.{AreTokens}
use Rattle.mlir_lex.specs.declared.fault.Fault.{Fault}
use Rattle.mlir_lex.specs.declared.read_error.ReadError.{ReadError}
use Rattle.mlir_lex.specs.declared.read_error.ReadError.TheVariants as errors
use Rattle.mlir_lex.specs.Faults.{reach_of, fault_error, stop_error, earlier, first_of, Reads}
use Rattle.script_syntax.specs.declared.tree.lines.Sequence.{Sequence}
use Rattle.script_syntax.specs.Lines.{sequence}
use Rattle.script_syntax.specs.LineLaws.{sequence-exact}
use Rattle.script_read.specs.declared.script.Script.{Script}
use Rattle.script_read.specs.Resolve.{resolve}
use Rattle.script_read.specs.Reading.{tokens_behind, StandsFor, with_next, of_tree, reading, Gives, StopsAt, Stops, Leads, Finds, HasFault, Tells}

-- ---- tokens

few_from : (text : List ℕ) (at : ℕ) (ts : List Span) → InOrder at ts → All (IsSpan text) ts → at ≤ length text → length ts + at ≤ length text
few_from text at [] o a h = omega arith
few_from text at (t ∷ ts) o a h =
    let w = (a 0 t (omega arith)).within in
    let r = few_from text t.end ts o.2 (λ k d l. a (suc k) d (omega (arith, l))) w in
    omega (arith, r, o.0, o.1)

-- there are no more tokens than bytes
pub few_tokens : (text : List ℕ) (ts : List Span) → AreTokens text ts → length ts ≤ 4194304
few_tokens text ts a = let r = few_from text 0 ts a.ordered a.within (omega arith) in omega (arith, r, a.short)

-- ---- what was read

abbrev ok_in : {A B : Type 0} → A → Result A B → A
ok_in d (Ok x) = x
ok_in d (Err e) = d

ok_same : {A B : Type 0} (x y : A) → ◌≡◌ {A = Result A B} (Ok x) (Ok y) → x ≡ y
ok_same x y h = ap (ok_in x) h

abbrev err_in : {A B : Type 0} → B → Result A B → B
err_in d (Ok x) = d
err_in d (Err e) = e

err_same : {A B : Type 0} (x y : B) → ◌≡◌ {A = Result A B} (Err x) (Err y) → x ≡ y
err_same x y h = ap (err_in x) h

next_ok : (n : ℕ) (r : Result Script ReadError) (y : Script × ℕ) → with_next n r ≡ Ok y → (r ≡ Ok y.0) × (n ≡ y.1)
next_ok n (Ok s) y h = let e : (s, n) ≡ y = ok_same (s, n) y h in (ap (λ (z : Script × ℕ). Ok z.0) e, ap (λ (z : Script × ℕ). z.1) e)
next_ok n (Err e) y h = absurd (cc h)

first_ok : (s : Script) (a : Result Script Fault) (o : Option Stop) → first_of a o ≡ Ok s → (a ≡ Ok s) × (o ≡ None)
first_ok s (Ok x) None h = (ap (λ (y : Script). Ok y) (ok_same x s h), refl)
first_ok s (Err e) None h = absurd (cc h)
first_ok s (Ok x) (Some p) h = absurd (cc h)
first_ok s (Err e) (Some p) h = absurd (cc h)

-- where reading has not stopped, a front of the tokens was read
front_read : (end : ℕ) (is : List Item) (ts : List TokenShape) (s : State) → ConsumesFrom end is ts s → s.stop ≡ None → (before : List TokenShape) × (ts ≡ before ++ s.rest) × Matches is before
front_read end [] ts s c n = ([], ap (λ (x : State). x.rest) (sym c), tt)
front_read end (i ∷ is) [] s c n = absurd (cc (sym n ∙ ap (λ (x : State). x.stop) c.1))
front_read end (i ∷ is) (t ∷ ts) s (inl c) n =
    let r = front_read end is ts s c.1 n in
    (t ∷ r.0, ap (λ (x : List TokenShape). t ∷ x) r.1, (c.0, r.2))
front_read end (i ∷ is) (t ∷ ts) s (inr c) n = absurd (cc (sym n ∙ ap (λ (x : State). x.stop) c.2))

found : (source : List ℕ) (ts : List Span) (first : ℕ) (y : Script × ℕ) → reading source ts first ≡ Ok y → StandsFor source ts first y.0 y.1
unfolding reading
found source ts first y h =
    let r = sequence.read (live (length source) (tokens_behind source ts first)) in
    let n = next_ok (length ts - length r.1.rest) (first_of (resolve r.0) r.1.stop) y h in
    let k = first_ok y.0 (resolve r.0) r.1.stop n.0 in
    let b = front_read (length source) (sequence.spell r.0) (tokens_behind source ts first) r.1 (sequence-exact.reads (live (length source) (tokens_behind source ts first))) k.1 in
    record { tree = r.0; used = b.0; left = r.1.rest; parts = b.1; spelled = b.2; resolved = k.0; count = sym n.1 }

only : (source : List ℕ) (ts : List Span) (first : ℕ) (s : Script) (next : ℕ) → StandsFor source ts first s next → reading source ts first ≡ Ok (s, next)
unfolding reading
only source ts first s next st =
    ap (λ (us : List TokenShape). of_tree (length ts) (sequence.read (live (length source) us))) st.parts
    ∙ ap (of_tree (length ts)) (sequence-exact.again (length source) st.tree st.used st.left st.spelled)
    ∙ ap (λ (a : Result Script Fault). with_next (length ts - length st.left) (first_of a None)) st.resolved
    ∙ ap (λ (n : ℕ). Ok (s, n)) (sym st.count)

pub found_in : (source : List ℕ) (ts : List Span) (first : ℕ) (r : Result (Script × ℕ) ReadError) → Reads r (reading source ts first) → IfOk r (λ y. StandsFor source ts first y.0 y.1)
found_in source ts first (Ok y) a = found source ts first y a
found_in source ts first (Err e) a = tt

pub gives : (source : List ℕ) (ts : List Span) (first : ℕ) (s : Script) (next : ℕ) (r : Result (Script × ℕ) ReadError) → Reads r (reading source ts first) → StandsFor source ts first s next → Gives s next r
gives source ts first s next (Ok y) a st =
    let e = ok_same y (s, next) (sym a ∙ only source ts first s next st) in
    (ap (λ (z : Script × ℕ). z.0) e, ap (λ (z : Script × ℕ). z.1) e)
gives source ts first s next (Err errors.Memory) a st = refl
gives source ts first s next (Err (errors.Byte at)) a st = absurd (cc (sym a ∙ only source ts first s next st))
gives source ts first s next (Err (errors.Unclosed at)) a st = absurd (cc (sym a ∙ only source ts first s next st))
gives source ts first s next (Err (errors.Syntax at)) a st = absurd (cc (sym a ∙ only source ts first s next st))
gives source ts first s next (Err (errors.Unsupported at)) a st = absurd (cc (sym a ∙ only source ts first s next st))
gives source ts first s next (Err (errors.UnknownName at)) a st = absurd (cc (sym a ∙ only source ts first s next st))
gives source ts first s next (Err (errors.Twice at)) a st = absurd (cc (sym a ∙ only source ts first s next st))
gives source ts first s next (Err (errors.TypeDiffers at)) a st = absurd (cc (sym a ∙ only source ts first s next st))
gives source ts first s next (Err (errors.Number at)) a st = absurd (cc (sym a ∙ only source ts first s next st))
gives source ts first s next (Err (errors.Limit which)) a st = absurd (cc (sym a ∙ only source ts first s next st))

-- ---- faults

abbrev BeforeStop : ℕ → Option Stop → Type 0
BeforeStop at None = Unit {0}
BeforeStop at (Some p) = at < p.at

abbrev ByStop : Option Stop → ReadError → Type 0
ByStop s e = (p : Stop) × (s ≡ Some p) × (e ≡ stop_error p)

abbrev ByTree : Result Script Fault → Option Stop → ReadError → Type 0
ByTree a s e = (x : Fault) × (a ≡ Err x) × (e ≡ fault_error x) × BeforeStop (reach_of x) s

earlier_by : (b : Bool) (x : Fault) (p : Stop) (e : ReadError) → nat_lt (reach_of x) p.at ≡ b → ◌≡◌ {A = Result Script ReadError} (Err (earlier b x p)) (Err e) → ByStop (Some p) e ⊎ ByTree (Err x) (Some p) e
earlier_by true x p e b h = inr (x, refl, sym (err_same (fault_error x) e h), ltb-true (reach_of x) p.at b)
earlier_by false x p e b h = inl (p, refl, sym (err_same (stop_error p) e h))

by_parts : (a : Result Script Fault) (s : Option Stop) (e : ReadError) → first_of a s ≡ Err e → ByStop s e ⊎ ByTree a s e
by_parts (Ok m) None e h = absurd (cc h)
by_parts (Err x) None e h = inr (x, refl, sym (err_same (fault_error x) e h), tt)
by_parts (Ok m) (Some p) e h = inl (p, refl, sym (err_same (stop_error p) e h))
by_parts (Err x) (Some p) e h = earlier_by (nat_lt (reach_of x) p.at) x p e refl h

next_err : (n : ℕ) (r : Result Script ReadError) (e : ReadError) → with_next n r ≡ Err e → r ≡ Err e
next_err n (Ok s) e h = absurd (cc h)
next_err n (Err x) e h = ap (λ (z : ReadError). Err z) (err_same x e h)

leads : (end : ℕ) (is : List Item) (ts : List TokenShape) (s : State) (at : ℕ) → ConsumesFrom end is ts s → BeforeStop at s.stop → Leads ts is at
leads end [] [] s at c b = tt
leads end [] (t ∷ ts) s at c b = tt
leads end (i ∷ is) [] s at c b = tt
leads end (i ∷ is) (t ∷ ts) s at (inl c) b = inr (c.0, leads end is ts s at c.1 b)
leads end (i ∷ is) (t ∷ ts) s at (inr c) b = inl (subst (λ (x : State). BeforeStop at x.stop) c.2 b)

-- a whole script is no stop
stops_there : (end : ℕ) (us : List TokenShape) (q : Stop) → (sequence.read (live end us)).1.stop ≡ Some q → (before after : List TokenShape) → us ≡ before ++ after
    → Places.StopsAt sequence (Exactly CloseBrace) end before after q → StopsAt end before after q
stops_there end us q h before [] e p = p
stops_there end us q h before (t ∷ after) e p = (p.0, p.1, p.2, refused p.3)
  where
    refused : Places.Refuses sequence (Exactly CloseBrace) before t q.why
        → (x : Sequence) × (pre : List Item) × (i : Item) × (tail : List Item) × (sequence.spell x ≡ pre ++ i ∷ tail) × Matches pre before × (q.why ≡ reason i t)
    refused (inl r) = r
    refused (inr r) =
        let k = ap (λ (y : List TokenShape). (sequence.read (live end y)).1.stop) e ∙ ap (λ y. y.1.stop) (sequence-exact.again end r.0 before (t ∷ after) r.1) in
        absurd (cc (sym h ∙ k))

stopped : (source : List ℕ) (ts : List Span) (first : ℕ) (e : ReadError) → ByStop (sequence.read (live (length source) (tokens_behind source ts first))).1.stop e → Stops source ts first e
unfolding end_of
stopped source ts first e b =
    let us = tokens_behind source ts first in
    let r = sequence.read (live (length source) (tokens_behind source ts first)) in
    let f = is_fault sequence (exact-whole sequence-exact) (Exactly CloseBrace) (length source) (tokens_behind source ts first) r.0 r.1 b.0 refl (ap (λ (o : Option Stop). end_by (Exactly CloseBrace) o r.1.rest) b.1) in
    (b.0, f.0, f.1, f.2, stops_there (length source) (tokens_behind source ts first) b.0 b.1 f.0 f.1 f.2 f.3, b.2)

has_fault : (source : List ℕ) (ts : List Span) (first : ℕ) (e : ReadError) → reading source ts first ≡ Err e → HasFault source ts first e
unfolding reading
has_fault source ts first e h =
    let r = sequence.read (live (length source) (tokens_behind source ts first)) in
    by (by_parts (resolve r.0) r.1.stop e (next_err (length ts - length r.1.rest) (first_of (resolve r.0) r.1.stop) e h))
  where
    by : (let r = sequence.read (live (length source) (tokens_behind source ts first)) in ByStop r.1.stop e ⊎ ByTree (resolve r.0) r.1.stop e) → HasFault source ts first e
    by (inl k) = inl (stopped source ts first e k)
    by (inr k) =
        let r = sequence.read (live (length source) (tokens_behind source ts first)) in
        inr (r.0, k.0, k.1, k.2, leads (length source) (sequence.spell r.0) (tokens_behind source ts first) r.1 (reach_of k.0) (sequence-exact.reads (live (length source) (tokens_behind source ts first))) k.3)

pub tells : (source : List ℕ) (ts : List Span) (first : ℕ) (r : Result (Script × ℕ) ReadError) → Reads r (reading source ts first) → Tells source ts first r
tells source ts first (Ok y) a = tt
tells source ts first (Err errors.Memory) a = tt
tells source ts first (Err (errors.Byte at)) a = has_fault source ts first (errors.Byte at) a
tells source ts first (Err (errors.Unclosed at)) a = has_fault source ts first (errors.Unclosed at) a
tells source ts first (Err (errors.Syntax at)) a = has_fault source ts first (errors.Syntax at) a
tells source ts first (Err (errors.Unsupported at)) a = has_fault source ts first (errors.Unsupported at) a
tells source ts first (Err (errors.UnknownName at)) a = has_fault source ts first (errors.UnknownName at) a
tells source ts first (Err (errors.Twice at)) a = has_fault source ts first (errors.Twice at) a
tells source ts first (Err (errors.TypeDiffers at)) a = has_fault source ts first (errors.TypeDiffers at) a
tells source ts first (Err (errors.Number at)) a = has_fault source ts first (errors.Number at) a
tells source ts first (Err (errors.Limit which)) a = has_fault source ts first (errors.Limit which) a

-- reading goes forward
pub fewer_left : (s : State) (x : Sequence) (new : State) → (x, new) ≡ sequence.read s → length new.rest ≤ length s.rest
fewer_left s x new e = let h = goes_forward sequence sequence-exact s in omega (arith, h, ap (λ (y : Sequence × State). length y.1.rest) e)
