-- One word of `clap`'s walk.
use Rattle.std.proofs.Common.{◌≡◌, ◌∙◌, ◌&&◌, ℕ, Bool, cond, true, false, suc, refl, sym, ap, ap₂, true≢false, List, [], ◌∷◌, ◌++◌, length, Option, Some, None}
use Rattle.std.specs.Prelude.{slice_get}
use Rattle.std.specs.List.{fold}
use Rattle.std.specs.Option.{option_map_or}
use Rattle.std.specs.Str.{bytes_eq, chars}
use Rattle.clap.specs.Words.{Row, Rule, Shape, Text, built}
use Rattle.clap.specs.Lexer.{long_of, short_of}
use Rattle.clap.specs.Kinds.{Kinds, or_else}
use Rattle.clap.specs.Walk.{Held, Step, Waiting, Walk, done, idle, option, positional, waits, trailing, after_flag, after_step, arg_by_long, is_pending, long_met, long_or_other, plain_word, positional_held, pushed, reacted, settled, short_or_plain, subcommand_met, subcommand_or_other, used, used_by_id, walked, word_met}
use Rattle.clap.specs.Faults.{bundle_fault, bundle_step_fault, flag_word_fault, flags_fault, long_fault, other_fault, positional_fault, react_fault, settle_fault, step_fault, turn_fault, use_fault, walk_fault, word_fault}
use Rattle.mlir_words.specs.Asked.{Item, Part, transform_interpreter, lower, run, input, workers, sample, file, has}
use Rattle.mlir_words.specs.App.{the_app}
use Rattle.mlir_words.specs.Spelled.{is_option}
use Rattle.mlir_words.proofs.Lookups.{id_of, rule_for, rules, by_id}
use Rattle.mlir_words.proofs.Forms.{dashes}
use Rattle.mlir_words.proofs.Rows.{read_values, rows_for, twice_fault, used_first, use_fault-part}

-- ---- the walk, and what it comes to

abbrev pub top : Shape
top = (built the_app).top

abbrev pub held : List Item → Option (Text × List Text) → Held
held us pending = record { rows = rows_for us; pending = pending; skip = 0 }

abbrev pub walk_at : Held → Waiting → ℕ → Bool → Walk
walk_at h q n t = record { held = h; waiting = q; position = n; is_trailing = t; stopped = None }

abbrev pub end_of : Walk → List Text → Held
end_of w words = (fold (walked rules []) w words).held

abbrev pub faults : Walk → List Text → Kinds
faults w words = or_else (walk_fault top [] w words) (settle_fault rules false (end_of w words))

abbrev pub fails : Kinds → Bool
fails [] = false
fails (k ∷ ks) = true

-- the walk fails where nothing is wanted, and has the rows of what is
abbrev pub Agrees : Option (List Item) → Walk → List Text → Type 0
Agrees None w words = fails (faults w words) ≡ true
Agrees (Some all) w words = (faults w words ≡ []) × ((settled rules (end_of w words)).rows ≡ rows_for all)

pub fails_first : (a b : Kinds) → fails a ≡ true → fails (or_else a b) ≡ true
fails_first [] b h = absurd (true≢false (sym h))
fails_first (k ∷ ks) b h = refl

pub step_on : (x : Option (List Item)) (w after : Walk) (word : Text) (rest : List Text) → turn_fault top [] w word ≡ [] → walked rules [] w word ≡ after
    → Agrees x after rest → Agrees x w (word ∷ rest)
unfolding walk_fault
step_on x w after word rest none moved agrees = go x agrees
  where
    same : walk_fault top [] w (word ∷ rest) ≡ walk_fault top [] after rest
    same = ap (λ k. or_else k (walk_fault top [] (walked rules [] w word) rest)) none ∙ ap (λ v. walk_fault top [] v rest) moved

    ends : end_of w (word ∷ rest) ≡ end_of after rest
    ends = ap (λ v. end_of v rest) moved

    total : faults w (word ∷ rest) ≡ faults after rest
    total = ap₂ (λ a b. or_else a (settle_fault rules false b)) same ends

    go : (y : Option (List Item)) → Agrees y after rest → Agrees y w (word ∷ rest)
    go None h = ap fails total ∙ h
    go (Some all) h = (total ∙ h.0, ap (λ e. (settled rules e).rows) ends ∙ h.1)

pub stop : (w : Walk) (word : Text) (rest : List Text) → fails (turn_fault top [] w word) ≡ true → Agrees None w (word ∷ rest)
unfolding walk_fault
stop w word rest h = fails_first _ (settle_fault rules false (end_of w (word ∷ rest))) (fails_first (turn_fault top [] w word) (walk_fault top [] (walked rules [] w word) rest) h)

-- ---- a word, by what it is met as

pub turn_by : (h : Held) (q : Waiting) (n : ℕ) (word : Text) (k : Kinds) (m : Held × Step) → word_fault top [] false q word h ≡ k → word_met rules [] false q n word h ≡ m
    → turn_fault top [] (walk_at h q n false) word ≡ or_else k (step_fault top n m.0 m.1)
turn_by h q n word k m fault met = ap₂ (λ (a : Kinds) (b : Held × Step). or_else a (step_fault top n b.0 b.1)) fault met

pub walked_by : (h : Held) (q : Waiting) (n : ℕ) (word : Text) (m : Held × Step) → word_met rules [] false q n word h ≡ m
    → walked rules [] (walk_at h q n false) word ≡ after_step rules word (walk_at h q n false) m.0 m.1
unfolding walked
walked_by h q n word m met = ap (λ (b : Held × Step). after_step rules word (walk_at h q n false) b.0 b.1) met

no_subcommand : (q : Waiting) (word : Text) → subcommand_met [] q word ≡ None
no_subcommand idle word = refl
no_subcommand (option id) word = refl
no_subcommand positional word = refl

pub ends_fault : (h : Held) (q : Waiting) (word : Text) → bytes_eq word dashes ≡ true → word_fault top [] false q word h ≡ []
ends_fault h q word is = ap (λ s. other_fault top s word h) (no_subcommand q word) ∙ ap (λ b. cond b [] (flag_word_fault rules false (long_of word) word h)) is

pub ends_met : (h : Held) (q : Waiting) (n : ℕ) (word : Text) → bytes_eq word dashes ≡ true → word_met rules [] false q n word h ≡ (h, trailing n)
ends_met h q n word is =
    ap (λ s. subcommand_or_other rules s q n word h) (no_subcommand q word) ∙ ap (λ b. cond b (h, trailing n) (long_or_other rules q word (long_of word) h)) is

pub other_word_fault : (h : Held) (q : Waiting) (word : Text) (o : Option (Text × Option Text)) → bytes_eq word dashes ≡ false → long_of word ≡ o
    → word_fault top [] false q word h ≡ flag_word_fault rules false o word h
other_word_fault h q word o isnt long = ap (λ s. other_fault top s word h) (no_subcommand q word)
    ∙ ap₂ (λ b l. cond b [] (flag_word_fault rules false l word h)) isnt long

pub other_word_met : (h : Held) (q : Waiting) (n : ℕ) (word : Text) (o : Option (Text × Option Text)) → bytes_eq word dashes ≡ false → long_of word ≡ o
    → word_met rules [] false q n word h ≡ long_or_other rules q word o h
other_word_met h q n word o isnt long = ap (λ s. subcommand_or_other rules s q n word h) (no_subcommand q word)
    ∙ ap₂ (λ b l. cond b (h, trailing n) (long_or_other rules q word l h)) isnt long

-- a word that begins with one dash is unknown
pub short_fails : (h : Held) (q : Waiting) (word flags : Text) (x k : ℕ) → h.skip ≡ 0 → bytes_eq word dashes ≡ false → long_of word ≡ None → short_of word ≡ Some flags
    → length flags ≡ suc k → slice_get (chars flags) 0 ≡ Some x → fails (word_fault top [] false q word h) ≡ true
unfolding flags_fault
short_fails h q word flags x k unskipped isnt long short some first =
    ap fails (other_word_fault h q word None isnt long
    ∙ ap (λ s. option_map_or (λ fs. bundle_fault rules false fs h) s []) short
    ∙ ap₂ (λ l skip. flags_fault rules false l flags skip (record h { skip = 0 })) some unskipped
    ∙ ap (λ o. bundle_step_fault rules false o flags 0 (record h { skip = 0 }) (flags_fault rules false k)) first)

-- a word that is no option
pub plain_fault : (h : Held) (q : Waiting) (word : Text) → bytes_eq word dashes ≡ false → long_of word ≡ None → short_of word ≡ None → word_fault top [] false q word h ≡ []
plain_fault h q word isnt long short = other_word_fault h q word None isnt long ∙ ap (λ s. option_map_or (λ fs. bundle_fault rules false fs h) s []) short

pub plain_met : (h : Held) (q : Waiting) (n : ℕ) (word : Text) → bytes_eq word dashes ≡ false → long_of word ≡ None → short_of word ≡ None
    → word_met rules [] false q n word h ≡ plain_word rules q word h
plain_met h q n word isnt long short = other_word_met h q n word None isnt long ∙ ap (λ s. short_or_plain rules q word s h) short

-- ---- options

pub each_option : (P : Part → Type 0) → P lower → P run → P input → P workers → P sample → (p : Part) → is_option p ≡ true → P p
each_option P b c d e f transform_interpreter h = absurd (true≢false (sym h))
each_option P b c d e f lower h = b
each_option P b c d e f run h = c
each_option P b c d e f input h = d
each_option P b c d e f workers h = e
each_option P b c d e f sample h = f
each_option P b c d e f file h = absurd (true≢false (sym h))

pub long_word_fault : (h : Held) (q : Waiting) (word name : Text) (v : Option Text) (o : Option Rule) → bytes_eq word dashes ≡ false → long_of word ≡ Some (name, v)
    → arg_by_long rules name ≡ o → word_fault top [] false q word h ≡ long_fault rules false o v h
long_word_fault h q word name v o isnt long arg = other_word_fault h q word (Some (name, v)) isnt long ∙ ap (λ a. long_fault rules false a v h) arg

pub long_word_met : (h : Held) (q : Waiting) (n : ℕ) (word name : Text) (v : Option Text) (o : Option Rule) → bytes_eq word dashes ≡ false → long_of word ≡ Some (name, v)
    → arg_by_long rules name ≡ o → word_met rules [] false q n word h ≡ after_flag rules q word (long_met rules o v h).0 (long_met rules o v h).1
long_word_met h q n word name v o isnt long arg =
    other_word_met h q n word (Some (name, v)) isnt long ∙ ap (λ a. after_flag rules q word (long_met rules a v h).0 (long_met rules a v h).1) arg

abbrev Attached : Part → Type 0
Attached p = (v : Text) (h : Held) → (long_fault rules false (Some (rule_for p)) (Some v) h ≡ react_fault rules false (rule_for p) (read_values p v) h)
    × (long_met rules (Some (rule_for p)) (Some v) h ≡ (reacted rules (rule_for p) (read_values p v) h, done))

pub attached : (p : Part) → is_option p ≡ true → Attached p
attached = each_option Attached (λ v h. (refl, refl)) (λ v h. (refl, refl)) (λ v h. (refl, refl)) (λ v h. (refl, refl)) (λ v h. (refl, refl))

abbrev Awaits : Part → Type 0
Awaits p = (h : Held) → (long_fault rules false (Some (rule_for p)) None h ≡ settle_fault rules false h)
    × (long_met rules (Some (rule_for p)) None h ≡ (record (settled rules h) { pending = Some (id_of p, []) }, waits (id_of p)))

pub awaits : (p : Part) → is_option p ≡ true → Awaits p
awaits = each_option Awaits (λ h. (refl, refl)) (λ h. (refl, refl)) (λ h. (refl, refl)) (λ h. (refl, refl)) (λ h. (refl, refl))

-- ---- what is pending

-- an item that isn't the flag waits to be used
abbrev pub takes : Part → Bool
takes transform_interpreter = false
takes _ = true

pub option_takes : (p : Part) → is_option p ≡ true → takes p ≡ true
option_takes = each_option (λ p. takes p ≡ true) refl refl refl refl refl

pub read_taken : (p : Part) (v : Text) → takes p ≡ true → read_values p v ≡ v ∷ []
read_taken transform_interpreter v h = absurd (true≢false (sym h))
read_taken lower v h = refl
read_taken run v h = refl
read_taken input v h = refl
read_taken workers v h = refl
read_taken sample v h = refl
read_taken file v h = refl

pub pending_fault : (p : Part) (vs : List Text) (us : List Item) → settle_fault rules false (held us (Some (id_of p, vs))) ≡ use_fault false (rule_for p) vs (rows_for us)
pending_fault p vs us = ap (λ o. option_map_or (λ a. use_fault false a vs (rows_for us)) o []) (by_id p)

-- an option without a value
pub bare_fails : (p : Part) (us : List Item) → is_option p ≡ true → fails (settle_fault rules false (held us (Some (id_of p, [])))) ≡ true
bare_fails p us is = each_option (λ q. fails (settle_fault rules false (held us (Some (id_of q, [])))) ≡ true) refl refl refl refl refl p is

abbrev only_rows : List Row → Held
only_rows rows = record { rows = rows; pending = None; skip = 0 }

abbrev used_over : Part → Text → Held → Held
used_over p v h = record h { rows = used (rule_for p) (read_values p v) h.rows; pending = None }

-- what is held has no fault, and comes to the rows of these items
pub record Clears (h : Held) (us : List Item) : Type 0 where
  pub none : settle_fault rules false h ≡ []
  pub is : settled rules h ≡ held us None

pub clears_nothing : (us : List Item) → Clears (held us None) us
clears_nothing us = record { none = refl; is = refl }

pub clears_pending : (p : Part) (v : Text) (us : List Item) → takes p ≡ true → has p us ≡ false → Clears (held us (Some (id_of p, v ∷ []))) (us ++ (p, v) ∷ [])
clears_pending p v us takes first =
    let values : read_values p v ≡ v ∷ [] = read_taken p v takes in
    record {
      none = pending_fault p (v ∷ []) us ∙ sym (ap (λ vs. use_fault false (rule_for p) vs (rows_for us)) values) ∙ use_fault-part p v us ∙ ap twice_fault first;
      is = ap only_rows (ap (λ o. used_by_id o (v ∷ []) (rows_for us)) (by_id p)
          ∙ sym (ap (λ vs. used (rule_for p) vs (rows_for us)) values) ∙ used_first p v us first);
    }

-- a pending item of a part that was given
pub pending_twice : (p : Part) (v : Text) (us : List Item) → takes p ≡ true → has p us ≡ true → fails (settle_fault rules false (held us (Some (id_of p, v ∷ [])))) ≡ true
pending_twice p v us takes again =
    let values : read_values p v ≡ v ∷ [] = read_taken p v takes in
    ap fails (pending_fault p (v ∷ []) us ∙ sym (ap (λ vs. use_fault false (rule_for p) vs (rows_for us)) values) ∙ use_fault-part p v us ∙ ap twice_fault again)

-- a use of a part, over what is pending
pub react_fault-part : (p : Part) (v : Text) (h : Held) (us : List Item) → Clears h us → react_fault rules false (rule_for p) (read_values p v) h ≡ twice_fault (has p us)
react_fault-part p v h us clears = ap₂ (λ (k : Kinds) (g : Held). or_else k (use_fault false (rule_for p) (read_values p v) g.rows)) clears.none clears.is ∙ use_fault-part p v us

pub reacted-part : (p : Part) (v : Text) (h : Held) (us : List Item) → Clears h us → has p us ≡ false → reacted rules (rule_for p) (read_values p v) h ≡ held (us ++ (p, v) ∷ []) None
reacted-part p v h us clears first =
    ap (λ (g : Held). used_over p v g) clears.is ∙ ap only_rows (used_first p v us first)

-- ---- a file

and_false : (b : Bool) (x y : Kinds) → cond (b && false) x y ≡ y
and_false true x y = refl
and_false false x y = refl

and_false_held : (b : Bool) (x y : Held) → cond (b && false) x y ≡ y
and_false_held true x y = refl
and_false_held false x y = refl

pub file_fault : (h : Held) → positional_fault rules false (rule_for file) h ≡ settle_fault rules false h
file_fault h = and_false (is_pending (rule_for file) h.pending) [] (settle_fault rules false h)

pub file_held : (h : Held) (us : List Item) (word : Text) → Clears h us → positional_held rules (rule_for file) word h ≡ held us (Some (id_of file, word ∷ []))
file_held h us word clears =
    ap (λ g. pushed (id_of file) word g) (and_false_held (is_pending (rule_for file) h.pending) h (settled rules h) ∙ clears.is)
