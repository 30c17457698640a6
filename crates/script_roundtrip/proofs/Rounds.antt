-- The tree of a printable script's canonical text stands for the script with the numbers of the text.
use Rattle.std.proofs.Common.{◌≡◌, ◌<◌, ◌≤◌, ◌^◌, ◌-◌, ℕ, zero, suc, ◌+◌, Bool, true, false, ◌&&◌, List, [], ◌∷◌, ◌++◌, map, length, take, drop, Option, Some, None, Result, Ok, Err, refl, sym, ap, subst, ◌∙◌, arith, codes, nat_eq, nat_le, nat_lt, length-append}
use Rattle.std.specs.Prelude.{ℤ, pos, negsuc, is_none}
use Rattle.std.specs.List.{AllByRecursion}
use Rattle.std.proofs.lemmas.Bool.{le-leb, lt-ltb, eq-eqb}
use Rattle.std.proofs.lemmas.List.{take_at, append-nil}
use Rattle.std.proofs.Math.Pow.{pow_mono}
use Rattle.std.proofs.Math.Nat.{one-le-pow}
use Rattle.mlir_base.specs.Types.{minus_one, least_signed}
use Rattle.text_format.specs.declared.front.Kind.TheVariants.{Value}
use Rattle.text_format.specs.Numerals.{numeral}
use Rattle.text_format.specs.Pieces.{bytes_of}
use Rattle.text_format.specs.Token.{TokenShape}
use Rattle.text_format.specs.Writers.{Writer, put, each_of, commas, after_comma}
use Rattle.text_format.specs.declared.class.Class.TheVariants.{Number}
use Rattle.text_format.specs.declared.front.Kind.TheVariants as tokens
use Rattle.mlir_lex.specs.declared.fault.Fault.{Fault}
use Rattle.mlir_lex.specs.Chain.{and_then, demand, each, thread}
use Rattle.script_syntax.specs.declared.tree.literals.Signed.{Signed}
use Rattle.script_syntax.specs.declared.tree.literals.PadValue.{PadValue}
use Rattle.script_syntax.specs.declared.tree.literals.QuotedName.{QuotedName}
use Rattle.script_syntax.specs.declared.tree.results.NextType.{NextType}
use Rattle.script_syntax.specs.declared.tree.results.OneResult.{OneResult}
use Rattle.script_syntax.specs.declared.tree.results.Group.{Group}
use Rattle.script_syntax.specs.declared.tree.results.BehindFirst.TheVariants as first_rest
use Rattle.script_read.specs.declared.script.HandleId.{HandleId}
use Rattle.script_read.specs.declared.script.PadArgs.{PadArgs}
use Rattle.script_read.specs.declared.script.StepKind.{StepKind}
use Rattle.script_read.specs.declared.script.StepKind.TheVariants as kinds
use Rattle.script_read.specs.declared.script.Step.{Step}
use Rattle.script_read.specs.declared.script.Script.{Script}
use Rattle.script_read.specs.declared.names.Scope.{Scope}
use Rattle.script_read.specs.declared.names.Meaning.TheVariants.{One}
use Rattle.script_read.specs.declared.names.Meaning.TheVariants as meanings
use Rattle.script_read.specs.Names.{Entry, entry, find}
use Rattle.script_read.specs.Numbers.{number_of, most_size, size_of, sizes_of, value_with, pad_value_of}
use Rattle.script_read.specs.Scope as scopes
use Rattle.script_read.specs.Scope.{handle_id, handle, with_handle, with_group, define}
use Rattle.script_read.specs.Kinds.{is_match_name, unquoted, name_of, sized, match_of, split_of, tile_for_of, tile_forall_of, fuse_of, pad_args_of, pad_of, vectorize_of, one_name, one_of, many_of}
use Rattle.script_read.specs.Resolve.{room, ids, counted, finished, is_count_by, is_count, group_count, group_end, group_name, group_step_of, behind_first_of, line_of, resolve}
use Rattle.script_read.specs.Resolve as resolving
use Rattle.script_text.specs.declared.names.Row.{Row}
use Rattle.script_text.specs.Names.{name_in, start, parts, rows_of, next_of}
use Rattle.script_text.specs.Texts.{new_line}
use Rattle.script_text.specs.Steps.{signed_at, number_at, numbers_at, pad_value_at, quoted_at, next_types_at, match_step_at, fuse_step_at, pad_step_at, vectorize_step_at, one_at, group_step_at}
use Rattle.script_text.specs.Canonical.{result_at, none_at, line_at, lines_at, sequence_at}
use Rattle.script_roundtrip.specs.Printable.{IsDefined, AreSizes, IsLiteral, IsPadValue, ArePadArgs, AreVectorSizes, IsPrintableKind, HasResults, IsPrintableStep, ArePrintable, IsPrintable}
use Rattle.script_roundtrip.specs.Renumbered.{number_in, kind_renumbered, step_renumbered, steps_renumbered, renumbered}
use Rattle.script_roundtrip.proofs.Rows.{number_read, numeral_read, width_read}
use Rattle.script_roundtrip.proofs.Found.{result_name, FoundFrom, found_more, found_append, handle_found, FreshAbove, fresh_start, fresh_next, single_stands, parts_found}
use Rattle.script_roundtrip.proofs.Fitting.{next_small}

-- ---- chains

then_is : {A B : Type 0} (r : Result A Fault) (f : A → Result B Fault) (x : A) (y : Result B Fault) → r ≡ Ok x → f x ≡ y → and_then r f ≡ y
then_is r f x y e h = ap (λ s. and_then s f) e ∙ h

holds : (b : Bool) (e : Fault) → b ≡ true → demand b e ≡ Ok tt
holds b e h = ap (λ c. demand c e) h

-- ---- lists

each_more : {A X : Type 0} (f : A → Result X Fault) (w : X → Writer A) (P : X → Type 0) → ((x : X) (at : ℕ) → P x → f ((w x).tree at) ≡ Ok x) → (xs : List X) (at : ℕ) → AllByRecursion P xs → each f ((each_of (map after_comma (map w xs))).tree at) ≡ Ok xs
each_more f w P one [] at p = refl
each_more f w P one (x ∷ xs) at p =
    then_is _ _ x _ (one x (at + 1 + 1) p.0) (then_is _ _ xs _ (each_more f w P one xs (at + length (bytes_of (after_comma (w x)).pieces)) p.1) refl)

each_written : {A X : Type 0} (f : A → Result X Fault) (w : X → Writer A) (P : X → Type 0) → ((x : X) (at : ℕ) → P x → f ((w x).tree at) ≡ Ok x) → (xs : List X) (at : ℕ) → AllByRecursion P xs → each f ((commas (map w xs)).tree at) ≡ Ok xs
each_written f w P one [] at p = refl
each_written f w P one (x ∷ xs) at p =
    then_is _ _ x _ (one x at p.0) (then_is _ _ xs _ (each_more f w P one xs (at + length (bytes_of (w x).pieces)) p.1) refl)

size_read : (n : ℕ) (at : ℕ) → n ≤ most_size → size_of ((number_at n).tree at) ≡ Ok n
size_read n at s =
    let e = number_read n (omega (arith, s)) in
    rw e (rw (le-leb n most_size s) refl)

sizes_read : (ns : List ℕ) (at : ℕ) → AreSizes ns → sizes_of ((numbers_at ns).tree at) ≡ Ok ns
sizes_read ns at p = each_written size_of number_at (λ n. n ≤ most_size) size_read ns (at + 1) p

one_below : (w : ℕ) → w ≤ 64 → (n : ℕ) → n ≤ minus_one w → n < 2 ^ 64
one_below w s n l = let p : 2 ^ w ≤ 2 ^ 64 = pow_mono s in omega (arith, l, one-le-pow w 2 (omega arith))

half_below : (w : ℕ) → w ≤ 64 → (n : ℕ) → n ≤ least_signed w → n < 2 ^ 64
half_below w s n l = let q : w - 1 ≤ 63 = omega arith in let p : 2 ^ (w - 1) ≤ 2 ^ 63 = pow_mono q in omega (arith, l)

literal_read : (v : ℤ) (w : ℕ) (at : ℕ) → 0 < w → w ≤ 64 → IsLiteral v w → value_with (Some w) ((pad_value_at (v, w)).tree at) ≡ Ok (v, w)
literal_read (pos n) w at lo hi l = rw (number_read n (one_below w hi n l)) (rw (le-leb n (minus_one w) l) refl)
literal_read (negsuc n) w at lo hi l = rw (number_read (suc n) (half_below w hi (suc n) l)) (rw (le-leb (suc n) (least_signed w) l) refl)

value_read : (v : ℤ × ℕ) (at : ℕ) → IsPadValue v → pad_value_of ((pad_value_at v).tree at) ≡ Ok v
value_read v at p = ap (λ (o : Option ℕ). value_with o ((pad_value_at v).tree at)) (width_read v.1 p.0 p.1) ∙ literal_read v.0 v.1 at p.0 p.1 p.2

unquoted_is : (n : List ℕ) → unquoted (codes "\"" ++ (n ++ codes "\"")) ≡ n
unquoted_is n = take_at n (codes "\"") (length (codes "\"" ++ (n ++ codes "\"")) - 2) (omega (arith, length-append n (codes "\"")))

name_read : (n : List ℕ) (at : ℕ) → is_match_name n ≡ true → name_of ((quoted_at n).tree at) ≡ Ok n
name_read n at h = rw (unquoted_is n) (rw h refl)

-- ---- kinds, where the rows' names stand for the handles of their places

abbrev Renamed : List Row → StepKind → Result StepKind Fault
Renamed rows k = Ok (kind_renumbered (number_in rows) k)

sized_read : (env : List Entry) (rows : List Row) (next : ℕ) (h : HandleId) (ns : List ℕ) (at there : ℕ) → FoundFrom env 0 rows → length rows ≡ next → IsDefined rows h → AreSizes ns
    → sized env next (record { kind = Value; start = at; text = name_in rows h }) ((numbers_at ns).tree there) ≡ Ok (number_in rows h, ns)
sized_read env rows next h ns at there f n d s =
    then_is _ _ (number_in rows h) _ (handle_found env rows next h at f n d) (then_is _ _ ns _ (sizes_read ns there s) refl)

pad_args_read : (env : List Entry) (rows : List Row) (next : ℕ) (h : HandleId) (a : PadArgs) (at : ℕ) → FoundFrom env 0 rows → length rows ≡ next → IsDefined rows h → ArePadArgs a
    → pad_of env next ((pad_step_at rows h a).tree at) ≡ Renamed rows (kinds.Pad h a)
pad_args_read env rows next h a at f n d p =
    then_is _ _ (number_in rows h) _ (handle_found env rows next h _ f n d)
    (then_is _ _ a _ (then_is _ _ a.values _ (each_written pad_value_of pad_value_at IsPadValue value_read a.values _ p.values)
    (then_is _ _ a.dims _ (sizes_read a.dims _ p.dims) (then_is _ _ a.multiples _ (sizes_read a.multiples _ p.multiples) refl))) refl)

match_read : (env : List Entry) (rows : List Row) (next : ℕ) (names : List (List ℕ)) (h : HandleId) (at : ℕ) → FoundFrom env 0 rows → length rows ≡ next → AllByRecursion (λ n. is_match_name n ≡ true) names → IsDefined rows h
    → match_of env next ((match_step_at rows names h).tree at) ≡ Renamed rows (kinds.Match names h)
match_read env rows next names h at f n p d =
    then_is _ _ names _ (each_written name_of quoted_at (λ m. is_match_name m ≡ true) name_read names _ p) (then_is _ _ (number_in rows h) _ (handle_found env rows next h _ f n d) refl)

fuse_read : (env : List Entry) (rows : List Row) (next : ℕ) (q h : HandleId) (at : ℕ) → FoundFrom env 0 rows → length rows ≡ next → IsDefined rows q → IsDefined rows h
    → fuse_of env next ((fuse_step_at rows q h).tree at) ≡ Renamed rows (kinds.FuseInto q h)
fuse_read env rows next q h at f n d e = then_is _ _ (number_in rows q) _ (handle_found env rows next q _ f n d) (then_is _ _ (number_in rows h) _ (handle_found env rows next h _ f n e) refl)

vectorize_read : (env : List Entry) (rows : List Row) (next : ℕ) (h : HandleId) (sizes : Option (List ℕ)) (at : ℕ) → FoundFrom env 0 rows → length rows ≡ next → IsDefined rows h → AreVectorSizes sizes
    → vectorize_of env next ((vectorize_step_at rows h sizes).tree at) ≡ Renamed rows (kinds.Vectorize h sizes)
vectorize_read env rows next h None at f n d p = then_is _ _ (number_in rows h) _ (handle_found env rows next h _ f n d) refl
vectorize_read env rows next h (Some ns) at f n d p =
    then_is _ _ (number_in rows h) _ (handle_found env rows next h _ f n d) (then_is _ _ (Some ns) _ (then_is _ _ ns _ (sizes_read ns _ p) refl) refl)

one_read : (env : List Entry) (rows : List Row) (next : ℕ) (k : StepKind) (at : ℕ) → FoundFrom env 0 rows → length rows ≡ next → HasResults k 1 → IsPrintableKind rows k → one_of env next ((one_at rows k).tree at) ≡ Renamed rows k
one_read env rows next (kinds.Match names h) at f n e p = match_read env rows next names h at f n p.0 p.1
one_read env rows next (kinds.Split h) at f n e p = then_is _ _ (number_in rows h) _ (handle_found env rows next h _ f n p) refl
one_read env rows next (kinds.Generalize h) at f n e p = then_is _ _ (number_in rows h) _ (handle_found env rows next h _ f n p) refl
one_read env rows next (kinds.Interchange h ns) at f n e p = then_is _ _ (number_in rows h, ns) _ (sized_read env rows next h ns _ _ f n p.0 p.1) refl
one_read env rows next (kinds.TileFor h ns) at f n e p = then_is _ _ (number_in rows h, ns) _ (sized_read env rows next h ns _ _ f n p.0 p.1) refl
one_read env rows next (kinds.Pack h ns) at f n e p = then_is _ _ (number_in rows h, ns) _ (sized_read env rows next h ns _ _ f n p.0 p.1) refl
one_read env rows next (kinds.FuseElementwise h) at f n e p = then_is _ _ (number_in rows h) _ (handle_found env rows next h _ f n p) refl
one_read env rows next (kinds.TileForall h ns) at f n e p = absurd (omega (arith, e))
one_read env rows next (kinds.FuseInto q h) at f n e p = absurd (omega (arith, e))
one_read env rows next (kinds.Pad h a) at f n e p = absurd (omega (arith, e))
one_read env rows next (kinds.Vectorize h ns) at f n e p = absurd (omega (arith, e))

group_read : (env : List Entry) (rows : List Row) (next m : ℕ) (k : StepKind) (at : ℕ) → FoundFrom env 0 rows → length rows ≡ next → HasResults k (suc (suc m)) → IsPrintableKind rows k → group_step_of env next ((group_step_at rows m k).tree at) ≡ Renamed rows k
group_read env rows next m (kinds.Split h) at f n e p = then_is _ _ (number_in rows h) _ (handle_found env rows next h _ f n p) refl
group_read env rows next m (kinds.TileFor h ns) at f n e p = then_is _ _ (number_in rows h, ns) _ (sized_read env rows next h ns _ _ f n p.0 p.1) refl
group_read env rows next m (kinds.TileForall h ns) at f n e p = then_is _ _ (number_in rows h, ns) _ (sized_read env rows next h ns _ _ f n p.0 p.1) refl
group_read env rows next m (kinds.FuseInto q h) at f n e p = fuse_read env rows next q h at f n p.0 p.1
group_read env rows next m (kinds.Pad h a) at f n e p = pad_args_read env rows next h a at f n p.0 p.1
group_read env rows next m (kinds.Match names h) at f n e p = absurd (omega (arith, e))
group_read env rows next m (kinds.Generalize h) at f n e p = absurd (omega (arith, e))
group_read env rows next m (kinds.Interchange h ns) at f n e p = absurd (omega (arith, e))
group_read env rows next m (kinds.Pack h ns) at f n e p = absurd (omega (arith, e))
group_read env rows next m (kinds.Vectorize h ns) at f n e p = absurd (omega (arith, e))
group_read env rows next m (kinds.FuseElementwise h) at f n e p = absurd (omega (arith, e))

-- ---- how many results a group shows

types_are : (m at : ℕ) → length ((each_of (next_types_at m)).tree at) ≡ m
types_are zero at = refl
types_are (suc m) at = ap suc (types_are m _)

count_is : (rows : List Row) (m : ℕ) (k : StepKind) (at : ℕ) → HasResults k (suc (suc m)) → group_count ((group_step_at rows m k).tree at) ≡ suc (suc m)
count_is rows m (kinds.Split h) at e = ap (λ (i : ℕ). suc (suc i)) (types_are m _)
count_is rows m (kinds.TileFor h ns) at e = ap (λ (i : ℕ). suc (suc i)) (types_are m _)
count_is rows m (kinds.TileForall h ns) at e = sym e
count_is rows m (kinds.FuseInto q h) at e = sym e
count_is rows m (kinds.Pad h a) at e = sym e
count_is rows m (kinds.Match names h) at e = absurd (omega (arith, e))
count_is rows m (kinds.Generalize h) at e = absurd (omega (arith, e))
count_is rows m (kinds.Interchange h ns) at e = absurd (omega (arith, e))
count_is rows m (kinds.Pack h ns) at e = absurd (omega (arith, e))
count_is rows m (kinds.Vectorize h ns) at e = absurd (omega (arith, e))
count_is rows m (kinds.FuseElementwise h) at e = absurd (omega (arith, e))

same_count : (b : Bool) (n : ℕ) → is_count_by b n n ≡ true
same_count true n = eq-eqb n n refl
same_count false n = le-leb n n (omega arith)

counts : (until n m : ℕ) (rows : List Row) (k : StepKind) (at : ℕ) → n ≡ suc (suc m) → HasResults k (suc (suc m)) → is_count until n ((group_step_at rows m k).tree at) ≡ true
counts until n m rows k at e h =
    let g = (group_step_at rows m k).tree at in
    let b = nat_lt (group_end ((group_step_at rows m k).tree at)).start until in
    let more : nat_lt 1 n ≡ true = lt-ltb 1 n (omega (arith, e)) in
    rw more (ap (λ (i : ℕ). is_count_by (nat_lt (group_end ((group_step_at rows m k).tree at)).start until) i n) (count_is rows m k at h ∙ sym e) ∙ same_count (nat_lt (group_end ((group_step_at rows m k).tree at)).start until) n)

-- ---- lines

-- the names of the text stand for the handles that the reader numbered
pub record Tied (rows : List Row) (n : ℕ) (s : Scope) : Type 0 where
  pub count : length rows ≡ s.next
  pub found : FoundFrom s.env 0 rows
  pub fresh : FreshAbove s.env n

-- the scope behind a step with these results
abbrev after : Scope → ℕ → List HandleId → Scope
after s n [] = s
after s n (h ∷ []) = with_handle s (result_name n)
after s n (h ∷ (g ∷ hs)) = with_group s (result_name n) (suc (suc (length hs)))

parts_are : (n j : ℕ) (hs : List HandleId) → length (parts n j hs) ≡ length hs
parts_are n j [] = refl
parts_are n j (h ∷ hs) = ap suc (parts_are n (j + 1) hs)

tied_after : (rows : List Row) (n : ℕ) (s : Scope) (hs : List HandleId) → n < 2 ^ 64 → Tied rows n s → Tied (rows ++ rows_of n hs) (next_of n hs) (counted (after s n hs))
tied_after rows n s [] a t = record { count = ap length (append-nil rows) ∙ t.count; found = subst (λ (rs : List Row). FoundFrom s.env 0 rs) (sym (append-nil rows)) t.found; fresh = t.fresh }
tied_after rows n s (h ∷ []) a t =
    let new = single_stands s.env n s.next a (t.fresh n (omega arith) a) in
    let z : s.next ≡ 0 + length rows = omega (arith, t.count) in
    record {
      count = length-append rows (rows_of n (h ∷ [])) ∙ omega (arith, t.count);
      found = found_append (after s n (h ∷ [])).env 0 rows (rows_of n (h ∷ [])) (found_more s.env _ 0 rows t.found) (new ∙ ap (λ (i : ℕ). Some (handle_id i)) z, tt);
      fresh = fresh_next s.env n (One s.next) a t.fresh;
    }
tied_after rows n s (h ∷ (g ∷ hs)) a t =
    let c = suc (suc (length hs)) in
    let new = parts_found s.env n 0 s.next (s.next + suc (suc (length hs))) (h ∷ (g ∷ hs)) a (omega arith) (t.fresh n (omega arith) a) in
    let z : s.next + 0 ≡ 0 + length rows = omega (arith, t.count) in
    record {
      count = length-append rows (rows_of n (h ∷ (g ∷ hs))) ∙ omega (arith, t.count, parts_are n 0 (h ∷ (g ∷ hs)));
      found = found_append (after s n (h ∷ (g ∷ hs))).env 0 rows (rows_of n (h ∷ (g ∷ hs))) (found_more s.env _ 0 rows t.found) (subst (λ (i : ℕ). FoundFrom (after s n (h ∷ (g ∷ hs))).env i (rows_of n (h ∷ (g ∷ hs)))) z new);
      fresh = fresh_next s.env n (meanings.Group s.next (s.next + suc (suc (length hs)))) a t.fresh;
    }

abbrev Step_of : List Row → List HandleId → StepKind → Step
Step_of rows hs k = step_renumbered rows (record { results = hs; kind = k })

finished_is : (first : ℕ) (d : Scope) (name : TokenShape) (kind : Result StepKind Fault) (k : StepKind) (c : ℕ) → d.steps < 1024 → kind ≡ Ok k → d.next - first ≡ c → finished first d name kind ≡ Ok (counted d, record { results = ids first c; kind = k })
finished_is first d name kind k c few e n =
    then_is _ _ tt _ (holds (nat_lt d.steps 1024) _ (lt-ltb d.steps 1024 few)) (then_is _ _ k _ e (ap (λ (i : ℕ). Ok (counted d, record { results = ids first i; kind = k })) n))

none_line : (until : ℕ) (rows : List Row) (n : ℕ) (s : Scope) (k : StepKind) (at : ℕ) → Tied rows n s → s.steps < 1024 → HasResults k 0 → IsPrintableKind rows k → line_of until s ((none_at rows k).tree at) ≡ Ok (counted s, Step_of rows [] k)
none_line until rows n s (kinds.Vectorize h ns) at t few e p =
    finished_is s.next s ((vectorize_step_at rows h ns).tree at).name (vectorize_of s.env s.next ((vectorize_step_at rows h ns).tree at)) (kind_renumbered (number_in rows) (kinds.Vectorize h ns)) 0 few (vectorize_read s.env rows s.next h ns at t.found t.count p.0 p.1) (omega arith)
none_line until rows n s (kinds.Match names h) at t few e p = absurd (omega (arith, e))
none_line until rows n s (kinds.Split h) at t few e p = absurd (omega (arith, e))
none_line until rows n s (kinds.Generalize h) at t few e p = absurd (omega (arith, e))
none_line until rows n s (kinds.Interchange h ns) at t few e p = absurd (omega (arith, e))
none_line until rows n s (kinds.TileFor h ns) at t few e p = absurd (omega (arith, e))
none_line until rows n s (kinds.TileForall h ns) at t few e p = absurd (omega (arith, e))
none_line until rows n s (kinds.FuseInto q h) at t few e p = absurd (omega (arith, e))
none_line until rows n s (kinds.Pad h a) at t few e p = absurd (omega (arith, e))
none_line until rows n s (kinds.Pack h ns) at t few e p = absurd (omega (arith, e))
none_line until rows n s (kinds.FuseElementwise h) at t few e p = absurd (omega (arith, e))

-- a step with one result, whose name is new
one_line : (until : ℕ) (s : Scope) (n : ℕ) (at : ℕ) (x : OneResult) (k : StepKind) → find s.env (result_name n) ≡ None → s.steps < 1024 → one_of (with_handle s (result_name n)).env s.next x ≡ Ok k
    → behind_first_of until s ((result_at n).tree at) (first_rest.Step x) ≡ Ok (counted (with_handle s (result_name n)), record { results = ids s.next 1; kind = k })
one_line until s n at x k new few e =
    let free : is_none (find s.env (result_name n)) ≡ true = ap is_none new in
    let one : suc s.next - s.next ≡ 1 = omega arith in
    then_is _ _ (with_handle s (result_name n)) _ (then_is _ _ tt _ (holds (is_none (find s.env (result_name n))) _ free) refl)
    (finished_is s.next (with_handle s (result_name n)) (one_name x) (one_of (with_handle s (result_name n)).env s.next x) k 1 few e one)

-- a step whose results have one name, which is new
group_line : (until : ℕ) (s : Scope) (n : ℕ) (at : ℕ) (g : Group) (c : ℕ) (k : StepKind) → find s.env (result_name n) ≡ None → s.steps < 1024 → is_count until (number_of g.count.text) g.step ≡ true → group_count g.step ≡ c → group_step_of (with_group s (result_name n) c).env s.next g.step ≡ Ok k
    → behind_first_of until s ((result_at n).tree at) (first_rest.Group g) ≡ Ok (counted (with_group s (result_name n) c), record { results = ids s.next c; kind = k })
group_line until s n at g c k new few right shown e =
    let free : is_none (find s.env (result_name n)) ≡ true = ap is_none new in
    let many : (s.next + c) - s.next ≡ c = omega arith in
    then_is _ _ tt _ (holds (is_none (find s.env (result_name n))) _ free)
    (then_is _ _ tt _ (holds (is_count until (number_of g.count.text) g.step) _ right)
    (ap (λ (i : ℕ). let d = with_group s (result_name n) i in finished s.next d (group_name g.step) (group_step_of d.env s.next g.step)) shown
    ∙ finished_is s.next (with_group s (result_name n) c) (group_name g.step) (group_step_of (with_group s (result_name n) c).env s.next g.step) k c few e many))

-- where a step stands, behind its result or results
abbrev behind_result : ℕ → ℕ → ℕ
behind_result n at = at + length (bytes_of (result_at n).pieces)

abbrev count_at : ℕ → Writer TokenShape
count_at c = put Number tokens.Number (numeral c)

abbrev behind_count : ℕ → ℕ → ℕ → ℕ
behind_count n c at = behind_result n at + 1 + length (bytes_of (count_at c).pieces) + 1 + 1 + 1

line_read : (until : ℕ) (rows : List Row) (n : ℕ) (s : Scope) (hs : List HandleId) (k : StepKind) (at : ℕ) → Tied rows n s → s.steps < 1024 → n < 2 ^ 64 → HasResults k (length hs) → IsPrintableKind rows k
    → line_of until s ((line_at rows n hs k).tree at) ≡ Ok (counted (after s n hs), Step_of rows hs k)
line_read until rows n s [] k at t few a e p = none_line until rows n s k at t few e p
line_read until rows n s (h ∷ []) k at t few a e p =
    let x = (one_at rows k).tree (behind_result n at + 1 + 1 + 1) in
    let r = one_read (after s n (h ∷ [])).env rows s.next k (behind_result n at + 1 + 1 + 1) (found_more s.env _ 0 rows t.found) t.count e p in
    one_line until s n at ((one_at rows k).tree (behind_result n at + 1 + 1 + 1)) (kind_renumbered (number_in rows) k) (t.fresh n (omega arith) a) few r
    ∙ ap (λ (i : ℕ). Ok (counted (after s n (h ∷ [])), record { results = ids i 1; kind = kind_renumbered (number_in rows) k })) (sym t.count)
line_read until rows n s (h ∷ (g ∷ hs)) k at t few a e p =
    let c = suc (suc (length hs)) in
    let there = behind_count n (suc (suc (length hs))) at in
    let r = group_read (after s n (h ∷ (g ∷ hs))).env rows s.next (length hs) k (behind_count n (suc (suc (length hs))) at) (found_more s.env _ 0 rows t.found) t.count e p in
    group_line until s n at
    (record { count = (count_at (suc (suc (length hs)))).tree (behind_result n at + 1); step = (group_step_at rows (length hs) k).tree (behind_count n (suc (suc (length hs))) at) })
    (suc (suc (length hs))) (kind_renumbered (number_in rows) k) (t.fresh n (omega arith) a) few
    (counts until (number_of (numeral (suc (suc (length hs))))) (length hs) rows k (behind_count n (suc (suc (length hs))) at) (numeral_read (suc (suc (length hs)))) e)
    (count_is rows (length hs) k (behind_count n (suc (suc (length hs))) at) e) r
    ∙ ap (λ (i : ℕ). Ok (counted (after s n (h ∷ (g ∷ hs))), record { results = ids i (suc (suc (length hs))); kind = kind_renumbered (number_in rows) k })) (sym t.count)

after_steps : (s : Scope) (n : ℕ) (hs : List HandleId) → (after s n hs).steps ≡ s.steps
after_steps s n [] = refl
after_steps s n (h ∷ []) = refl
after_steps s n (h ∷ (g ∷ hs)) = refl

lines_read : (until depth : ℕ) (rows : List Row) (n : ℕ) (s : Scope) (ss : List Step) (at : ℕ) → Tied rows n s → s.steps + length ss ≤ 1024 → n + length ss < 2 ^ 64 → ArePrintable rows n ss
    → (d : Scope) × (thread (line_of until) s ((each_of (lines_at depth rows n ss)).tree at) ≡ Ok (d, steps_renumbered rows n ss))
lines_read until depth rows n s [] at t few a p = (s, refl)
lines_read until depth rows n s (x ∷ ss) at t few a p =
    let small : n < 2 ^ 64 = omega arith in
    let k = after_steps s n x.results in
    let one = line_read until rows n s x.results x.kind (at + length (new_line depth)) t (omega arith) small p.0.count p.0.kind in
    let more = lines_read until depth (rows ++ rows_of n x.results) (next_of n x.results) (counted (after s n x.results)) ss _ (tied_after rows n s x.results small t) (omega (arith, k)) (next_small n x.results (length ss) a) p.1 in
    (more.0, then_is _ _ (counted (after s n x.results), Step_of rows x.results x.kind) _ one (then_is _ _ (more.0, steps_renumbered (rows ++ rows_of n x.results) (next_of n x.results) ss) _ more.1 refl))

-- ---- scripts

tied_start : (root : HandleId) → Tied (start root) 0 (resolving.start (codes "%arg0"))
tied_start root = record { count = refl; found = (refl, tt); fresh = fresh_start }

pub sequence_found : (depth : ℕ) (s : Script) → IsPrintable s → (at : ℕ) → resolve ((sequence_at depth s).tree at) ≡ Ok (renumbered s)
sequence_found depth s p at =
    let q = (sequence_at depth s).tree at in
    let r = lines_read ((sequence_at depth s).tree at).end.start (suc depth) (start s.root) 0 (resolving.start (codes "%arg0")) s.steps _ (tied_start s.root) (omega (arith, p.few)) (omega (arith, p.few)) p.steps in
    then_is _ _ (r.0, steps_renumbered (start s.root) 0 s.steps) _ r.1 refl
