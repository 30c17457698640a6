-- A script that is read is printable, and has the numbers of its canonical text.
use Rattle.std.proofs.Common.{◌≡◌, ◌<◌, ◌≤◌, ◌-◌, ℕ, zero, suc, ◌+◌, Bool, true, false, List, [], ◌∷◌, ◌++◌, map, drop, length, length-append, Option, Some, None, Result, Ok, Err, refl, sym, ap, subst, ◌∙◌, arith, nat_lt}
use Rattle.std.specs.Prelude.{is_none}
use Rattle.std.proofs.lemmas.Bool.{ltb-true}
use Rattle.text_format.specs.Token.{TokenShape}
use Rattle.mlir_base.specs.declared.limit.Which.TheVariants as limits
use Rattle.mlir_lex.specs.declared.fault.Fault.{Fault}
use Rattle.mlir_lex.specs.declared.fault.Fault.TheVariants.{Twice, Number, Limit}
use Rattle.mlir_lex.specs.Chain.{and_then, demand, thread}
use Rattle.script_syntax.specs.declared.tree.results.NextResult.{NextResult}
use Rattle.script_syntax.specs.declared.tree.results.OneResult.{OneResult}
use Rattle.script_syntax.specs.declared.tree.results.OneResult.TheVariants as one
use Rattle.script_syntax.specs.declared.tree.results.TwoResults.{TwoResults}
use Rattle.script_syntax.specs.declared.tree.results.TwoResults.TheVariants as two
use Rattle.script_syntax.specs.declared.tree.results.ThreeResults.{ThreeResults}
use Rattle.script_syntax.specs.declared.tree.results.ThreeResults.TheVariants as three
use Rattle.script_syntax.specs.declared.tree.results.ManyResults.{ManyResults}
use Rattle.script_syntax.specs.declared.tree.results.ManyResults.TheVariants as any
use Rattle.script_syntax.specs.declared.tree.results.GroupTypes.{GroupTypes}
use Rattle.script_syntax.specs.declared.tree.results.GroupTypes.TheVariants as types
use Rattle.script_syntax.specs.declared.tree.results.GroupStep.{GroupStep}
use Rattle.script_syntax.specs.declared.tree.results.GroupStep.TheVariants as grouped
use Rattle.script_syntax.specs.declared.tree.results.Group.{Group}
use Rattle.script_syntax.specs.declared.tree.results.Further.{Further}
use Rattle.script_syntax.specs.declared.tree.results.BehindThird.{BehindThird}
use Rattle.script_syntax.specs.declared.tree.results.BehindThird.TheVariants as third_rest
use Rattle.script_syntax.specs.declared.tree.results.BehindSecond.{BehindSecond}
use Rattle.script_syntax.specs.declared.tree.results.BehindSecond.TheVariants as second_rest
use Rattle.script_syntax.specs.declared.tree.results.BehindFirst.{BehindFirst}
use Rattle.script_syntax.specs.declared.tree.results.BehindFirst.TheVariants as first_rest
use Rattle.script_syntax.specs.declared.tree.lines.Line.{Line}
use Rattle.script_syntax.specs.declared.tree.lines.Line.TheVariants as lines
use Rattle.script_syntax.specs.declared.tree.lines.Sequence.{Sequence}
use Rattle.script_read.specs.declared.script.HandleId.{HandleId}
use Rattle.script_read.specs.declared.script.StepKind.{StepKind}
use Rattle.script_read.specs.declared.script.StepKind.TheVariants as kinds
use Rattle.script_read.specs.declared.script.Step.{Step}
use Rattle.script_read.specs.declared.script.Script.{Script}
use Rattle.script_read.specs.declared.names.Scope.{Scope}
use Rattle.script_read.specs.Names.{Entry, find}
use Rattle.script_read.specs.Numbers.{number_of}
use Rattle.script_read.specs.Scope.{handle_id, fresh, with_handle, with_group, define, define_each}
use Rattle.script_read.specs.Kinds.{one_name, one_of, two_name, two_of, three_name, three_of, many_name, many_of, vectorize_of}
use Rattle.script_read.specs.Resolve.{room, ids, counted, finished, paired, further_of, behind_third_of, behind_second_of, group_name, group_count, group_step_of, is_count, group_of, behind_first_of, vectorized, line_of, resolve}
use Rattle.script_read.specs.Resolve as resolving
use Rattle.script_text.specs.declared.names.Row.{Row}
use Rattle.script_text.specs.Names.{start, parts, rows_of, next_of}
use Rattle.script_roundtrip.specs.Printable.{IsPrintableKind, HasResults, IsPrintableStep, ArePrintable, IsPrintable}
use Rattle.script_roundtrip.specs.Renumbered.{number_in, kind_renumbered, step_renumbered, steps_renumbered, renumbered}
use Rattle.script_roundtrip.proofs.Taken.{then_ok, ok_same, demanded, Numbered, numbered_append, KindRead, handle_taken, sized_step_taken, match_taken, fuse_taken, pad_taken, vectorize_taken, split_taken, tile_for_taken, tile_forall_taken}

-- ---- kinds, by the number of results

abbrev Right : List Row → ℕ → StepKind → Type 0
Right rows c k = KindRead rows k × HasResults k c

one_taken : (env : List Entry) (rows : List Row) (next : ℕ) (x : OneResult) (k : StepKind) → Numbered 0 rows → next ≡ length rows → one_of env next x ≡ Ok k → Right rows 1 k
one_taken env rows next (one.Match s) k n e h = match_taken env rows next s k n e h
one_taken env rows next (one.Split s) k n e h = split_taken env rows next 1 s k n e (omega arith) h
one_taken env rows next (one.Generalize s) k n e h = handle_taken env rows next s.target kinds.Generalize (Right rows 1) (λ i u. (record { printable = u.is_defined; number = ap (λ j. kinds.Generalize j) u.number }, refl)) k n e h
one_taken env rows next (one.TileFor s) k n e h = tile_for_taken env rows next 1 s k n e (omega arith) h
one_taken env rows next (one.Interchange s) k n e h = sized_step_taken env rows next s.target s.sizes (λ x. kinds.Interchange x.0 x.1) (Right rows 1) (λ x u z. (record { printable = (u.is_defined, z); number = ap (λ j. kinds.Interchange j x.1) u.number }, refl)) k n e h
one_taken env rows next (one.Pack s) k n e h = sized_step_taken env rows next s.target s.sizes (λ x. kinds.Pack x.0 x.1) (Right rows 1) (λ x u z. (record { printable = (u.is_defined, z); number = ap (λ j. kinds.Pack j x.1) u.number }, refl)) k n e h
one_taken env rows next (one.FuseElementwise s) k n e h = handle_taken env rows next s.target kinds.FuseElementwise (Right rows 1) (λ i u. (record { printable = u.is_defined; number = ap (λ j. kinds.FuseElementwise j) u.number }, refl)) k n e h

two_taken : (env : List Entry) (rows : List Row) (next : ℕ) (x : TwoResults) (k : StepKind) → Numbered 0 rows → next ≡ length rows → two_of env next x ≡ Ok k → Right rows 2 k
two_taken env rows next (two.Split s) k n e h = split_taken env rows next 2 s k n e (omega arith) h
two_taken env rows next (two.TileFor s) k n e h = tile_for_taken env rows next 2 s k n e (omega arith) h
two_taken env rows next (two.TileForall s) k n e h = tile_forall_taken env rows next s k n e h
two_taken env rows next (two.FuseInto s) k n e h = fuse_taken env rows next s k n e h

three_taken : (env : List Entry) (rows : List Row) (next : ℕ) (x : ThreeResults) (k : StepKind) → Numbered 0 rows → next ≡ length rows → three_of env next x ≡ Ok k → Right rows 3 k
three_taken env rows next (three.Split s) k n e h = split_taken env rows next 3 s k n e (omega arith) h
three_taken env rows next (three.TileFor s) k n e h = tile_for_taken env rows next 3 s k n e (omega arith) h
three_taken env rows next (three.Pad s) k n e h = pad_taken env rows next s k n e h

many_taken : (env : List Entry) (rows : List Row) (next c : ℕ) (x : ManyResults) (k : StepKind) → Numbered 0 rows → next ≡ length rows → 0 < c → many_of env next x ≡ Ok k → Right rows c k
many_taken env rows next c (any.Split s) k n e lt h = split_taken env rows next c s k n e lt h
many_taken env rows next c (any.TileFor s) k n e lt h = tile_for_taken env rows next c s k n e lt h

some_types : (t : GroupTypes) (s : ManyResults) → 0 < group_count (grouped.Many s t)
some_types (types.One t) s = omega arith
some_types (types.Several m) s = omega arith

group_taken : (env : List Entry) (rows : List Row) (next : ℕ) (g : GroupStep) (k : StepKind) → Numbered 0 rows → next ≡ length rows → group_step_of env next g ≡ Ok k → Right rows (group_count g) k
group_taken env rows next (grouped.TileForall s) k n e h = tile_forall_taken env rows next s k n e h
group_taken env rows next (grouped.FuseInto s) k n e h = fuse_taken env rows next s k n e h
group_taken env rows next (grouped.Pad s) k n e h = pad_taken env rows next s k n e h
group_taken env rows next (grouped.Many s t) k n e h = many_taken env rows next (group_count (grouped.Many s t)) s k n e (some_types t s) h

-- ---- how many results a line shows

abbrev shown_behind_third : BehindThird → ℕ
shown_behind_third (third_rest.Step s) = 3
shown_behind_third (third_rest.More f) = 4 + length f.names

abbrev shown_behind_second : BehindSecond → ℕ
shown_behind_second (second_rest.Step s) = 2
shown_behind_second (second_rest.More t) = shown_behind_third t.rest

abbrev shown_behind_first : BehindFirst → ℕ
shown_behind_first (first_rest.Step s) = 1
shown_behind_first (first_rest.More s) = shown_behind_second s.rest
shown_behind_first (first_rest.Group g) = group_count g.step

abbrev shown : Line → ℕ
shown (lines.Named n) = shown_behind_first n.rest
shown (lines.Vectorize v) = 0

-- ---- definitions

-- so many handles more
record Defined (s : Scope) (c : ℕ) (d : Scope) : Type 0 where
  next : d.next ≡ s.next + c
  steps : d.steps ≡ s.steps

define_taken : (s : Scope) (t : TokenShape) (d : Scope) → define s t ≡ Ok d → Defined s 1 d
define_taken s t d h =
    let x = then_ok (fresh s.env t) (λ _. Ok (with_handle s t.text)) d h in
    subst (λ (e : Scope). Defined s 1 e) (ok_same (with_handle s t.text) d x.2) (record { next = omega arith; steps = refl })

more_defined : (s d e : Scope) (c k : ℕ) → Defined s c d → Defined d k e → Defined s (c + k) e
more_defined s d e c k a b =
    let x = a.next in
    let y = b.next in
    record { next = omega (arith, x, y); steps = b.steps ∙ a.steps }

each_defined : (s : Scope) (ns : List NextResult) (d : Scope) → define_each s ns ≡ Ok d → Defined s (length ns) d
each_defined s [] d h = subst (λ (e : Scope). Defined s 0 e) (ok_same s d h) (record { next = omega arith; steps = refl })
each_defined s (n ∷ ns) d h =
    let x = then_ok (define s n.name) (λ d. define_each d ns) d h in
    let a = define_taken s n.name x.0 x.1 in
    let b = each_defined x.0 ns d x.2 in
    let c = a.next in
    let k = b.next in
    record { next = omega (arith, c, k); steps = b.steps ∙ a.steps }

-- ---- lines

-- a step with so many results, behind these handles
record LineRead (rows : List Row) (s : Scope) (c : ℕ) (r : Scope × Step) : Type 0 where
  next : r.0.next ≡ s.next + c
  steps : r.0.steps ≡ suc s.steps
  few : s.steps < 1024
  results : r.1.results ≡ ids s.next c
  has : HasResults r.1.kind c
  kind : KindRead rows r.1.kind

finished_taken : (rows : List Row) (s d : Scope) (c : ℕ) (name : TokenShape) (kind : Result StepKind Fault) (r : Scope × Step) → Defined s c d → ((k : StepKind) → kind ≡ Ok k → Right rows c k) → finished s.next d name kind ≡ Ok r → LineRead rows s c r
finished_taken rows s d c name kind r a f h =
    let x = then_ok (room d.steps name) (λ _. and_then kind (λ k. Ok (counted d, record { results = ids s.next (d.next - s.next); kind = k }))) r h in
    let y = then_ok kind (λ k. Ok (counted d, record { results = ids s.next (d.next - s.next); kind = k })) r x.2 in
    let q = f y.0 y.1 in
    let n = a.next in
    let t = a.steps in
    let lt = ltb-true d.steps 1024 (demanded (nat_lt d.steps 1024) (Limit limits.ScriptSteps name.start) x.0 x.1) in
    let e : d.next - s.next ≡ c = omega (arith, n) in
    subst (λ (z : Scope × Step). LineRead rows s c z) (ok_same (counted d, record { results = ids s.next (d.next - s.next); kind = y.0 }) r y.2)
    (record { next = a.next; steps = ap suc a.steps; few = omega (arith, t, lt); results = ap (ids s.next) e; has = q.1; kind = q.0 })

further_taken : (rows : List Row) (s d : Scope) (f : Further) (r : Scope × Step) → Numbered 0 rows → s.next ≡ length rows → Defined s 3 d → further_of s.next d f ≡ Ok r → LineRead rows s (4 + length f.names) r
further_taken rows s d f r n e a h =
    let x = then_ok (define d f.name) (λ c. and_then (define_each c f.names) (λ d. and_then (finished s.next d (many_name f.step) (many_of d.env s.next f.step)) (λ r. and_then (paired f.types.close f.names f.types.more) (λ _. Ok r)))) r h in
    let y = then_ok (define_each x.0 f.names) (λ d. and_then (finished s.next d (many_name f.step) (many_of d.env s.next f.step)) (λ r. and_then (paired f.types.close f.names f.types.more) (λ _. Ok r))) r x.2 in
    let z = then_ok (finished s.next y.0 (many_name f.step) (many_of y.0.env s.next f.step)) (λ r. and_then (paired f.types.close f.names f.types.more) (λ _. Ok r)) r y.2 in
    let w = then_ok (paired f.types.close f.names f.types.more) (λ _. Ok z.0) r z.2 in
    let b = more_defined s d x.0 3 1 a (define_taken d f.name x.0 x.1) in
    let c = more_defined s x.0 y.0 (3 + 1) (length f.names) b (each_defined x.0 f.names y.0 y.1) in
    let l = finished_taken rows s y.0 (4 + length f.names) (many_name f.step) (many_of y.0.env s.next f.step) z.0 c (λ k q. many_taken y.0.env rows s.next (4 + length f.names) f.step k n e (omega arith) q) z.1 in
    subst (λ (q : Scope × Step). LineRead rows s (4 + length f.names) q) (ok_same z.0 r w.2) l

third_taken : (rows : List Row) (s d : Scope) (b : BehindThird) (r : Scope × Step) → Numbered 0 rows → s.next ≡ length rows → Defined s 3 d → behind_third_of s.next d b ≡ Ok r → LineRead rows s (shown_behind_third b) r
third_taken rows s d (third_rest.Step x) r n e a h = finished_taken rows s d 3 (three_name x) (three_of d.env s.next x) r a (λ k q. three_taken d.env rows s.next x k n e q) h
third_taken rows s d (third_rest.More f) r n e a h = further_taken rows s d f r n e a h

second_taken : (rows : List Row) (s d : Scope) (b : BehindSecond) (r : Scope × Step) → Numbered 0 rows → s.next ≡ length rows → Defined s 2 d → behind_second_of s.next d b ≡ Ok r → LineRead rows s (shown_behind_second b) r
second_taken rows s d (second_rest.Step x) r n e a h = finished_taken rows s d 2 (two_name x) (two_of d.env s.next x) r a (λ k q. two_taken d.env rows s.next x k n e q) h
second_taken rows s d (second_rest.More t) r n e a h =
    let x = then_ok (define d t.name) (λ e. behind_third_of s.next e t.rest) r h in
    third_taken rows s x.0 t.rest r n e (more_defined s d x.0 2 1 a (define_taken d t.name x.0 x.1)) x.2

grouped_taken : (until : ℕ) (rows : List Row) (s : Scope) (name : TokenShape) (g : Group) (r : Scope × Step) → Numbered 0 rows → s.next ≡ length rows → group_of until s name g ≡ Ok r → LineRead rows s (group_count g.step) r
grouped_taken until rows s name g r n e h =
    let d = with_group s name.text (group_count g.step) in
    let x = then_ok (fresh s.env name) _ r h in
    let y = then_ok (demand (is_count until (number_of g.count.text) g.step) (Number g.count.start g.count.start)) _ r x.2 in
    finished_taken rows s (with_group s name.text (group_count g.step)) (group_count g.step) (group_name g.step) (group_step_of (with_group s name.text (group_count g.step)).env s.next g.step) r (record { next = refl; steps = refl }) (λ k q. group_taken (with_group s name.text (group_count g.step)).env rows s.next g.step k n e q) y.2

first_taken : (until : ℕ) (rows : List Row) (s : Scope) (name : TokenShape) (b : BehindFirst) (r : Scope × Step) → Numbered 0 rows → s.next ≡ length rows → behind_first_of until s name b ≡ Ok r → LineRead rows s (shown_behind_first b) r
first_taken until rows s name (first_rest.Step o) r n e h =
    let x = then_ok (define s name) (λ d. finished s.next d (one_name o) (one_of d.env s.next o)) r h in
    finished_taken rows s x.0 1 (one_name o) (one_of x.0.env s.next o) r (define_taken s name x.0 x.1) (λ k q. one_taken x.0.env rows s.next o k n e q) x.2
first_taken until rows s name (first_rest.More o) r n e h =
    let x = then_ok (define s name) (λ d. and_then (define d o.name) (λ e. behind_second_of s.next e o.rest)) r h in
    let y = then_ok (define x.0 o.name) (λ e. behind_second_of s.next e o.rest) r x.2 in
    second_taken rows s y.0 o.rest r n e (more_defined s x.0 y.0 1 1 (define_taken s name x.0 x.1) (define_taken x.0 o.name y.0 y.1)) y.2
first_taken until rows s name (first_rest.Group g) r n e h = grouped_taken until rows s name g r n e h

line_taken : (until : ℕ) (rows : List Row) (s : Scope) (l : Line) (r : Scope × Step) → Numbered 0 rows → s.next ≡ length rows → line_of until s l ≡ Ok r → LineRead rows s (shown l) r
line_taken until rows s (lines.Named x) r n e h = first_taken until rows s x.first x.rest r n e h
line_taken until rows s (lines.Vectorize v) r n e h =
    finished_taken rows s s 0 v.name (vectorize_of s.env s.next v) r (record { next = omega arith; steps = refl }) (λ k q. vectorize_taken s.env rows s.next v k n e q) h

-- ---- the handles behind a step

ids_long : (first c : ℕ) → length (ids first c) ≡ c
ids_long first zero = refl
ids_long first (suc c) = ap suc (ids_long (suc first) c)

parts_numbered : (n j first c : ℕ) → Numbered first (parts n j (ids first c))
parts_numbered n j first zero = tt
parts_numbered n j first (suc c) = (refl, parts_numbered n (j + 1) (suc first) c)

rows_numbered : (n first c : ℕ) → Numbered first (rows_of n (ids first c))
rows_numbered n first zero = tt
rows_numbered n first (suc zero) = (refl, tt)
rows_numbered n first (suc (suc c)) = parts_numbered n 0 first (suc (suc c))

parts_long : (n j : ℕ) (hs : List HandleId) → length (parts n j hs) ≡ length hs
parts_long n j [] = refl
parts_long n j (h ∷ hs) = ap suc (parts_long n (j + 1) hs)

rows_long : (n : ℕ) (hs : List HandleId) → length (rows_of n hs) ≡ length hs
rows_long n [] = refl
rows_long n (h ∷ []) = refl
rows_long n (h ∷ (g ∷ hs)) = parts_long n 0 (h ∷ (g ∷ hs))

-- ---- scripts

record LinesRead (rows : List Row) (n : ℕ) (s : Scope) (ss : List Step) : Type 0 where
  steps : ArePrintable rows n ss
  numbers : steps_renumbered rows n ss ≡ ss
  few : s.steps + length ss ≤ 1024

first_line : (rows : List Row) (n c : ℕ) (s : Scope) (r : Scope × Step) (ss : List Step) → s.next ≡ length rows → LineRead rows s c r → LinesRead (rows ++ rows_of n r.1.results) (next_of n r.1.results) r.0 ss → LinesRead rows n s (r.1 ∷ ss)
first_line rows n c s r ss e l m =
    let long : length r.1.results ≡ c = ap length l.results ∙ ids_long s.next c in
    let more = l.steps in
    let few = m.few in
    let same : ids (length rows) (length r.1.results) ≡ r.1.results = ap (ids (length rows)) long ∙ ap (λ (i : ℕ). ids i c) (sym e) ∙ sym l.results in
    let one : step_renumbered rows r.1 ≡ r.1 = ap (λ (hs : List HandleId). record { results = hs; kind = kind_renumbered (number_in rows) r.1.kind }) same ∙ ap (λ (k : StepKind). record { results = r.1.results; kind = k }) l.kind.number in
    record {
      steps = (record { count = subst (HasResults r.1.kind) (sym long) l.has; kind = l.kind.printable }, m.steps);
      numbers = ap (λ (xs : List Step). step_renumbered rows r.1 ∷ xs) m.numbers ∙ ap (λ (x : Step). x ∷ ss) one;
      few = omega (arith, more, few);
    }

lines_taken : (until : ℕ) (rows : List Row) (n : ℕ) (s : Scope) (ls : List Line) (r : Scope × List Step) → Numbered 0 rows → s.next ≡ length rows → s.steps ≤ 1024 → thread (line_of until) s ls ≡ Ok r → LinesRead rows n s r.1
lines_taken until rows n s [] r num e few h = subst (λ (q : Scope × List Step). LinesRead rows n s q.1) (ok_same (s, []) r h) (record { steps = tt; numbers = refl; few = omega (arith, few) })
lines_taken until rows n s (l ∷ ls) r num e few h =
    let x = then_ok (line_of until s l) (λ r. and_then (thread (line_of until) r.0 ls) (λ q. Ok (q.0, r.1 ∷ q.1))) r h in
    let y = then_ok (thread (line_of until) x.0.0 ls) (λ q. Ok (q.0, x.0.1 ∷ q.1)) r x.2 in
    let one = line_taken until rows s l x.0 num e x.1 in
    let next = one.next in
    let steps = one.steps in
    let below = one.few in
    let rs = one.results in
    let more : Numbered (length rows) (rows_of n x.0.1.results) = subst (λ (hs : List HandleId). Numbered (length rows) (rows_of n hs)) (sym one.results) (subst (λ (i : ℕ). Numbered (length rows) (rows_of n (ids i (shown l)))) (sym e) (rows_numbered n (length rows) (shown l))) in
    let z : length rows ≡ 0 + length rows = omega arith in
    let num2 = numbered_append 0 rows (rows_of n x.0.1.results) num (subst (λ (i : ℕ). Numbered i (rows_of n x.0.1.results)) z more) in
    let long : length (rows_of n x.0.1.results) ≡ shown l = rows_long n x.0.1.results ∙ ap length one.results ∙ ids_long s.next (shown l) in
    let e2 : x.0.0.next ≡ length (rows ++ rows_of n x.0.1.results) = omega (arith, next, long, e, length-append rows (rows_of n x.0.1.results)) in
    let rest = lines_taken until (rows ++ rows_of n x.0.1.results) (next_of n x.0.1.results) x.0.0 ls y.0 num2 e2 (omega (arith, steps, below)) y.1 in
    subst (λ (q : Scope × List Step). LinesRead rows n s q.1) (ok_same (y.0.0, x.0.1 ∷ y.0.1) r y.2) (first_line rows n (shown l) s x.0 y.0.1 e one rest)

-- a script that was read
pub record ScriptRead (s : Script) : Type 0 where
  pub printable : IsPrintable s
  pub number : renumbered s ≡ s

pub script_taken : (q : Sequence) (s : Script) → resolve q ≡ Ok s → ScriptRead s
script_taken q s h =
    let x = then_ok (thread (line_of q.end.start) (resolving.start q.root.text) q.lines) (λ r. Ok (record { root = handle_id 0; steps = r.1 })) s h in
    let l = lines_taken q.end.start (start (handle_id 0)) 0 (resolving.start q.root.text) q.lines x.0 (refl, tt) refl (omega arith) x.1 in
    let few = l.few in
    subst (λ (t : Script). ScriptRead t) (ok_same (record { root = handle_id 0; steps = x.0.1 }) s x.2)
    (record { printable = record { few = omega (arith, few); steps = l.steps }; number = ap (λ (ss : List Step). record { root = handle_id 0; steps = ss }) l.numbers })
