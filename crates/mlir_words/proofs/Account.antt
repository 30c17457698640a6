-- `clap`'s account of the command's words is what the words ask for.
use Rattle.std.proofs.Common.{◌≡◌, ◌≢◌, ◌∙◌, ◌||◌, ◌==◌, Bool, cond, true, false, refl, sym, ap, ap₂, subst, inl, inr, true≢false, List, [], ◌∷◌, ◌++◌, map, drop, Option, Some, None, option_map, codes}
use Rattle.std.specs.Prelude.{find, option_and_then, slice_get, MatchOption}
use Rattle.std.specs.List.{fold}
use Rattle.std.specs.Str.{bytes_eq}
use Rattle.clap.specs.Words.{App, HasKind, Kinds, Row, Text, built, fault_of, first_of, is_simple, is_simple_and_free, kind_of, matches_of}
use Rattle.clap.specs.Kinds.{or_else}
use Rattle.clap.specs.Walk.{Held, Walk, finished, has_row, idle, more_values, reading_by, settled, with_default}
use Rattle.clap.specs.Faults.{check_fault, default_fault, defaults_fault, entered_fault, settle_fault, walk_fault}
use Rattle.clap.specs.declared.error.Error.{Error}
use Rattle.clap.specs.declared.error.kind.ErrorKind.TheVariants as kind
use Rattle.clap.specs.declared.parser.matches.ValueSource.TheVariants.{DefaultValue}
use Rattle.clap.proofs.OnLiterals.{clap_on_literals}
use Rattle.mlir_words.specs.Asked.{Item, Options, Part, transform_interpreter, lower, run, input, workers, sample, file, anything, asked, differ_after, has, is_of, items, options_by, options_once, place, value}
use Rattle.mlir_words.specs.App.{is_set, options_in, the_app}
use Rattle.mlir_words.proofs.Lookups.{id_of, rule_for, rules}
use Rattle.mlir_words.proofs.Rows.{at_row-absent, each, first_of-rows, has_row-rows, kept, rows_for}
use Rattle.mlir_words.proofs.Steps.{Agrees, end_of, fails, faults, held, top, walk_at}
use Rattle.mlir_words.proofs.Texts.{AllText}
use Rattle.mlir_words.proofs.Walks.{walk_agrees, wanted}

-- ---- faults after the walk

no_entry : (stop : Option (Text × List Text)) → entered_fault (built the_app) stop ≡ []
no_entry None = refl
no_entry (Some s) = refl

abbrev NoDefault : Part → Type 0
NoDefault p = (rows : List Row) → default_fault rows (rule_for p) ≡ []

or_true : (b : Bool) (k : Kinds) → cond (b || true) [] k ≡ []
or_true true k = refl
or_true false k = refl

or_nothing : (b : Bool) → cond (b || false) (let none : Kinds = [] in none) [] ≡ []
or_nothing true = refl
or_nothing false = refl

no_default : (p : Part) → NoDefault p
no_default = each NoDefault (λ rows. or_nothing (has_row (id_of transform_interpreter) rows)) (λ rows. or_true (has_row (id_of lower) rows) _)
    (λ rows. or_true (has_row (id_of run) rows) _) (λ rows. or_true (has_row (id_of input) rows) _) (λ rows. or_true (has_row (id_of workers) rows) _)
    (λ rows. or_true (has_row (id_of sample) rows) _) (λ rows. or_true (has_row (id_of file) rows) _)

no_defaults : (ps : List Part) (rows : List Row) → defaults_fault rows (map rule_for ps) ≡ []
unfolding defaults_fault
no_defaults [] rows = refl
no_defaults (p ∷ ps) rows = ap (λ k. or_else k (defaults_fault (with_default rows (rule_for p)) (map rule_for ps))) (no_default p rows) ∙ no_defaults ps (with_default rows (rule_for p))

no_check : (rows : List Row) (b : Bool) → check_fault top rows b ≡ []
no_check rows true = refl
no_check rows false = refl

or_none : (k : Kinds) → or_else k [] ≡ k
or_none [] = refl
or_none (k ∷ ks) = refl

abbrev parts : List Part
parts = transform_interpreter ∷ lower ∷ run ∷ input ∷ workers ∷ sample ∷ file ∷ []

abbrev start : Walk
start = walk_at (held [] None) idle 1 false

fault_as : (all : List Text) → fault_of the_app all ≡ faults start (drop 1 all)
fault_as all =
    let words = drop 1 all in
    let end : Held = end_of start words in
    let rows : List Row = (settled rules end).rows in
    let w : Kinds = walk_fault top [] start words in
    let checked : Bool → Kinds = λ b. check_fault top (finished rules end) b in
    ap₂ (λ (e : Kinds) (c : Kinds). or_else w (or_else e (or_else (settle_fault rules false end) (or_else (defaults_fault rows rules) c))))
    (no_entry _) (no_check (finished rules end) _)
    ∙ ap (λ (d : Kinds). or_else w (or_else (settle_fault rules false end) (or_else d []))) (no_defaults parts rows)
    ∙ ap (or_else w) (or_none (settle_fault rules false end))

-- ---- the matches

abbrev Keeps : Part → Type 0
Keeps p = (rows : List Row) → with_default rows (rule_for p) ≡ rows

same_rows : (b : Bool) (rows : List Row) → cond b rows rows ≡ rows
same_rows true rows = refl
same_rows false rows = refl

-- the flag's row where it isn't given
abbrev off : Row
off = record {
  id = id_of transform_interpreter;
  values = codes "false" ∷ [];
  count = None;
  source = Some DefaultValue;
  reading = reading_by (rule_for transform_interpreter);
}

abbrev with_off : Bool → List Row → List Row
with_off true rows = rows
with_off false rows = rows ++ off ∷ []

flag_default : (all : List Item) → with_default (rows_for all) (rule_for transform_interpreter) ≡ with_off (has transform_interpreter all) (rows_for all)
flag_default all = go (has transform_interpreter all) (has_row-rows transform_interpreter all)
  where
    go : (b : Bool) → has_row (id_of transform_interpreter) (rows_for all) ≡ b → with_default (rows_for all) (rule_for transform_interpreter) ≡ with_off b (rows_for all)
    go true is = rw is refl
    go false is = rw is (at_row-absent (id_of transform_interpreter) (more_values DefaultValue (codes "false" ∷ [])) (off ∷ []) (rows_for all) is)

finished_as : (h : Held) (all : List Item) → (settled rules h).rows ≡ rows_for all → finished rules h ≡ with_off (has transform_interpreter all) (rows_for all)
finished_as h all is =
    let kept_by : (id : Text) (rows : List Row) → cond (has_row id rows) rows rows ≡ rows = λ id rows. same_rows (has_row id rows) rows in
    ap (λ rows. fold with_default rows rules) is
    ∙ kept_by (id_of file) _ ∙ kept_by (id_of sample) _ ∙ kept_by (id_of workers) _ ∙ kept_by (id_of input) _ ∙ kept_by (id_of run) _ ∙ kept_by (id_of lower) _
    ∙ flag_default all

first_of-off : (p : Part) (rows : List Row) → bytes_eq (id_of transform_interpreter) (id_of p) ≡ false → first_of (id_of p) (rows ++ off ∷ []) ≡ first_of (id_of p) rows
first_of-off p [] isnt = rw isnt refl
first_of-off p (r ∷ rows) isnt = go (bytes_eq r.id (id_of p)) (first_of-off p rows isnt)
  where
    go : (b : Bool) → first_of (id_of p) (rows ++ off ∷ []) ≡ first_of (id_of p) rows
        → option_and_then (λ (x : Row). slice_get x.values 0) (cond b (Some r) (find (λ x. bytes_eq x.id (id_of p)) (rows ++ off ∷ [])))
        ≡ option_and_then (λ (x : Row). slice_get x.values 0) (cond b (Some r) (find (λ x. bytes_eq x.id (id_of p)) rows))
    go true rest = refl
    go false rest = rest

first_of-with : (p : Part) (b : Bool) (rows : List Row) → bytes_eq (id_of transform_interpreter) (id_of p) ≡ false → first_of (id_of p) (with_off b rows) ≡ first_of (id_of p) rows
first_of-with p true rows isnt = refl
first_of-with p false rows isnt = first_of-off p rows isnt

map_same : (o : Option Text) → option_map (λ text. text) o ≡ o
map_same None = refl
map_same (Some text) = refl

-- the flag is on where it is given
flag_given : (all : List Item) → has transform_interpreter all ≡ true → is_set (option_map (kept transform_interpreter) (value transform_interpreter all)) ≡ true
flag_given [] given = absurd (true≢false (sym given))
flag_given (u ∷ us) given = go (place u.0 == place transform_interpreter) given (flag_given us)
  where
    go : (b : Bool) → (b || has transform_interpreter us) ≡ true
        → (has transform_interpreter us ≡ true → is_set (option_map (kept transform_interpreter) (value transform_interpreter us)) ≡ true)
        → is_set (option_map (kept transform_interpreter) (option_map (λ item. item.1) (cond b (Some u) (find (is_of transform_interpreter) us)))) ≡ true
    go true is rest = refl
    go false is rest = rest is

flag_off : (rows : List Row) → has_row (id_of transform_interpreter) rows ≡ false → is_set (first_of (id_of transform_interpreter) (rows ++ off ∷ [])) ≡ false
flag_off [] none = refl
flag_off (r ∷ rows) none = go (bytes_eq r.id (id_of transform_interpreter)) none (flag_off rows)
  where
    go : (b : Bool) → (b || has_row (id_of transform_interpreter) rows) ≡ false
        → (has_row (id_of transform_interpreter) rows ≡ false → is_set (first_of (id_of transform_interpreter) (rows ++ off ∷ [])) ≡ false)
        → is_set (option_and_then (λ (x : Row). slice_get x.values 0) (cond b (Some r) (find (λ x. bytes_eq x.id (id_of transform_interpreter)) (rows ++ off ∷ [])))) ≡ false
    go true is rest = absurd (true≢false is)
    go false is rest = rest is

flag_value : (all : List Item) (b : Bool) → has transform_interpreter all ≡ b → is_set (first_of (id_of transform_interpreter) (with_off b (rows_for all))) ≡ b
flag_value all true is = ap is_set (first_of-rows transform_interpreter all) ∙ flag_given all is
flag_value all false is = flag_off (rows_for all) (has_row-rows transform_interpreter all ∙ is)

options_as : (all : List Item) → options_in (with_off (has transform_interpreter all) (rows_for all)) ≡ options_by all
options_as all =
    let b : Bool = has transform_interpreter all in
    let text : (p : Part) → bytes_eq (id_of transform_interpreter) (id_of p) ≡ false → first_of (id_of p) (with_off b (rows_for all)) ≡ option_map (kept p) (value p all) =
    λ p isnt. first_of-with p b (rows_for all) isnt ∙ first_of-rows p all in
    let flags = flag_value all b refl in
    let lowers = text lower refl ∙ map_same (value lower all) in
    let runs = text run refl ∙ map_same (value run all) in
    let inputs = text input refl ∙ map_same (value input all) in
    let counts = text workers refl ∙ map_same (value workers all) in
    let samples = text sample refl ∙ map_same (value sample all) in
    let files = text file refl ∙ map_same (value file all) in
    λ i. record { transform = flags i; lower = lowers i; run = runs i; input = inputs i; workers = counts i; sample = samples i; file = files i }

-- ---- the account

asked_as : (o : Option (List Item)) → option_and_then options_once o ≡ option_map options_by (wanted [] o)
asked_as None = refl
asked_as (Some more) = go (differ_after [] more)
  where
    go : (b : Bool) → cond b (Some (options_by more)) None ≡ option_map options_by (cond b (Some more) None)
    go true = refl
    go false = refl

rest_text : (all : List Text) → AllText all → AllText (drop 1 all)
rest_text [] text = tt
rest_text (program ∷ words) text = text.1

abbrev Accounts : List Text → Option Options → Type 0
Accounts all o = MatchOption o (fails (fault_of the_app all) ≡ true) (λ options. (fault_of the_app all ≡ []) × (options_in (matches_of the_app all) ≡ options))

-- `clap` has a fault exactly where the words ask for nothing, and has the options that they ask for
pub account : (all : List Text) → AllText all → Accounts all (asked (drop 1 all))
account all text = subst (Accounts all) (sym (asked_as (items (drop 1 all) anything))) (go (wanted [] (items (drop 1 all) anything)) (walk_agrees (drop 1 all) (rest_text all text)))
  where
    go : (o : Option (List Item)) → Agrees o start (drop 1 all) → Accounts all (option_map options_by o)
    go None h = ap fails (fault_as all) ∙ h
    go (Some items) h = (fault_as all ∙ h.0, ap options_in (finished_as (end_of start (drop 1 all)) items h.1) ∙ options_as items)

-- ---- what a parse says

is_free : is_simple_and_free the_app ≡ true
unfolding clap_on_literals
is_free = refl

is_plain : is_simple the_app ≡ true
unfolding clap_on_literals
is_plain = refl

taken : (all : List Text) (o : Option Options) (options : Options) → Accounts all o → fault_of the_app all ≡ [] → options ≡ options_in (matches_of the_app all) → o ≡ Some options
taken all None options h none is = absurd (true≢false (sym h ∙ ap fails none))
taken all (Some wanted) options h none is = ap Some (sym (is ∙ h.1))

pub asked_ok : (app : App) (all : List Text) (rows : List Row) (options : Options) → AllText all → app ≡ the_app → (is_simple_and_free app ≡ true → fault_of app all ≡ [])
    → (is_simple app ≡ true → rows ≡ matches_of app all) → options ≡ options_in rows → asked (drop 1 all) ≡ Some options
asked_ok app all rows options text same kinds found is =
    let none : fault_of the_app all ≡ [] = subst (λ (a : App). is_simple_and_free a ≡ true → fault_of a all ≡ []) same kinds is_free in
    let matched : rows ≡ matches_of the_app all = subst (λ (a : App). is_simple a ≡ true → rows ≡ matches_of a all) same found is_plain in
    taken all (asked (drop 1 all)) options (account all text) none (is ∙ ap options_in matched)

refused_by : (all : List Text) (o : Option Options) (e : Error) → Accounts all o → HasKind (fault_of the_app all) e → kind_of e ≢ kind.OutOfMemory → o ≡ None
refused_by all None e h fault other = refl
refused_by all (Some wanted) e h fault other = absurd (no_kind (subst (λ k. HasKind k e) h.0 fault))
  where
    no_kind : HasKind [] e → ⊥
    no_kind (inl memory) = other memory
    no_kind (inr none) = none

pub asked_none : (app : App) (all : List Text) (e : Error) → AllText all → app ≡ the_app → (is_simple_and_free app ≡ true → HasKind (fault_of app all) e) → kind_of e ≢ kind.OutOfMemory
    → asked (drop 1 all) ≡ None
asked_none app all e text same kinds other =
    let fault : HasKind (fault_of the_app all) e = subst (λ (a : App). is_simple_and_free a ≡ true → HasKind (fault_of a all) e) same kinds is_free in
    refused_by all (asked (drop 1 all)) e (account all text) fault other
