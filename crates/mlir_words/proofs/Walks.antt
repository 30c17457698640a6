-- The walk of `clap` over words, beside what the words give.
use Rattle.std.proofs.Common.{◌≡◌, ◌∙◌, ◌&&◌, ◌||◌, ◌==◌, ℕ, Bool, cond, true, false, not, refl, sym, ap, ap₂, subst, true≢false, List, [], ◌∷◌, ◌++◌, append-nil, append_assoc, Option, Some, None, option_map, codes}
use Rattle.std.specs.Str.{bytes_eq, is_utf8}
use Rattle.clap.specs.Words.{Text}
use Rattle.clap.specs.Lexer.{long_of}
use Rattle.clap.specs.Walk.{Held, Step, Waiting, Walk, idle, option, next, trailing, after_flag, after_step, arg_by_index, arg_by_long, plain_word, reacted, settled, to_positional, value, walked, word_met}
use Rattle.clap.specs.Faults.{long_fault, react_fault, settle_fault, step_fault, turn_fault, walk_fault, word_fault}
use Rattle.mlir_words.specs.Asked.{Expects, Form, Item, Part, transform_interpreter, lower, run, input, workers, sample, file, anything, only_file, value_of, attached as attached_form, awaits as awaits_form, differ_after, form_of, gives, has, items, named_form, option_form, option_named, place, value_read, word_read}
use Rattle.mlir_words.specs.Spelled.{is_option}
use Rattle.mlir_words.proofs.Lookups.{id_of, rule_for, rules, by_long}
use Rattle.mlir_words.proofs.Forms.{Seen, sees_ends, sees_long, sees_plain, sees_short, dashes, seen}
use Rattle.mlir_words.proofs.Rows.{read_values, rows_for, twice_fault}
use Rattle.mlir_words.proofs.Steps.{Agrees, each_option, Clears, attached, awaits, bare_fails, clears_nothing, clears_pending, ends_fault, ends_met, fails, fails_first, file_fault, file_held, held, long_word_fault, long_word_met, option_takes, pending_twice, plain_fault, plain_met, react_fault-part, reacted-part, short_fails, step_on, stop, takes, top, turn_by, walk_at, walked_by}
use Rattle.mlir_words.proofs.Texts.{AllText}

-- ---- what is wanted behind what was given

abbrev pub wanted : List Item → Option (List Item) → Option (List Item)
wanted us None = None
wanted us (Some more) = cond (differ_after us more) (Some (us ++ more)) None

wanted_first : (us : List Item) (p : Part) (v : Text) (more : Option (List Item)) → has p us ≡ false → wanted us (gives p v more) ≡ wanted (us ++ (p, v) ∷ []) more
unfolding differ_after
wanted_first us p v None first = refl
wanted_first us p v (Some more) first =
    ap₂ (λ b all. cond (not b && differ_after (us ++ (p, v) ∷ []) more) (Some all) None) first (sym (append_assoc us ((p, v) ∷ []) more))

wanted_twice : (us : List Item) (p : Part) (v : Text) (more : Option (List Item)) → has p us ≡ true → wanted us (gives p v more) ≡ None
unfolding differ_after
wanted_twice us p v None again = refl
wanted_twice us p v (Some more) again = ap (λ b. cond (not b && differ_after (us ++ (p, v) ∷ []) more) (Some (us ++ (p, v) ∷ more)) None) again

-- a file takes the first place
abbrev pub place_after : Bool → ℕ
place_after true = 2
place_after false = 1

or_false : (b : Bool) → (b || false) ≡ b
or_false true = refl
or_false false = refl

pub has-append : (p : Part) (us more : List Item) → has p (us ++ more) ≡ (has p us || has p more)
has-append p [] more = refl
has-append p (u ∷ us) more = ap (λ b. (place u.0 == place p) || b) (has-append p us more) ∙ or_assoc (place u.0 == place p) (has p us) (has p more)
  where
    or_assoc : (a b c : Bool) → (a || (b || c)) ≡ ((a || b) || c)
    or_assoc true b c = refl
    or_assoc false b c = refl

no_file : (p : Part) → is_option p ≡ true → (place p == place file) ≡ false
no_file transform_interpreter is = refl
no_file lower is = refl
no_file run is = refl
no_file input is = refl
no_file workers is = refl
no_file sample is = refl
no_file file is = absurd (true≢false (sym is))

has_file-option : (us : List Item) (p : Part) (v : Text) → (place p == place file) ≡ false → has file (us ++ (p, v) ∷ []) ≡ has file us
has_file-option us p v isnt = has-append file us ((p, v) ∷ []) ∙ ap (λ b. has file us || (b || false)) isnt ∙ or_false (has file us)

has_file-file : (us : List Item) (v : Text) → has file us ≡ false → has file (us ++ (file, v) ∷ []) ≡ true
has_file-file us v first = has-append file us ((file, v) ∷ []) ∙ ap (λ b. b || (true || false)) first

-- no option's name gives the file
abbrev is_named : Option Part → Bool
is_named None = true
is_named (Some file) = false
is_named (Some _) = true

named : (name : Text) → is_named (option_named name) ≡ true
named name = go (bytes_eq (codes "transform-interpreter") name) (bytes_eq (codes "lower") name) (bytes_eq (codes "run") name)
    (bytes_eq (codes "input") name) (bytes_eq (codes "workers") name) (bytes_eq (codes "sample") name)
  where
    go : (a b c d e f : Bool)
        → is_named (cond a (Some transform_interpreter) (cond b (Some lower) (cond c (Some run) (cond d (Some input) (cond e (Some workers) (cond f (Some sample) None)))))) ≡ true
    go true b c d e f = refl
    go false true c d e f = refl
    go false false true d e f = refl
    go false false false true e f = refl
    go false false false false true f = refl
    go false false false false false true = refl
    go false false false false false false = refl

-- ---- where the walk stands

abbrev pending : Option Item → Option (Text × List Text)
pending None = None
pending (Some u) = Some (id_of u.0, u.1 ∷ [])

abbrev then_all : List Item → Option Item → List Item
then_all us None = us
then_all us (Some u) = us ++ u ∷ []

abbrev given : Option Item → Option (List Item) → Option (List Item)
given None more = more
given (Some u) more = gives u.0 u.1 more

abbrev Takes : Option Item → Type 0
Takes None = Unit {0}
Takes (Some u) = takes u.0 ≡ true

-- between two words, with an item that is read and not yet used, or an option that waits for its
-- value; and the same behind `--`
data Stand : Type 0 where
  free : List Item → Option Item → Stand
  waiting : List Item → Part → Stand
  behind : Waiting → List Item → Option Item → Stand
  stuck : Waiting → List Item → Part → Stand

abbrev IsStand : Stand → Type 0
IsStand (free us p) = Takes p
IsStand (waiting us p) = is_option p ≡ true
IsStand (behind q us p) = Takes p
IsStand (stuck q us p) = is_option p ≡ true

abbrev want : Stand → List Text → Option (List Item)
want (free us p) words = wanted us (given p (items words anything))
want (waiting us p) words = wanted us (items words (value_of p))
want (behind q us p) words = wanted us (given p (items words only_file))
want (stuck q us p) words = None

abbrev walk_of : Stand → Walk
walk_of (free us p) = walk_at (held us (pending p)) idle (place_after (has file (then_all us p))) false
walk_of (waiting us p) = walk_at (held us (Some (id_of p, []))) (option (id_of p)) (place_after (has file us)) false
walk_of (behind q us p) = walk_at (held us (pending p)) q (place_after (has file (then_all us p))) true
walk_of (stuck q us p) = walk_at (held us (Some (id_of p, []))) q (place_after (has file us)) true

abbrev Meets : Stand → List Text → Type 0
Meets s words = Agrees (want s words) (walk_of s) words

-- ---- the end of the words

end_clear : (h : Held) (q : Waiting) (n : ℕ) (t : Bool) (us : List Item) → Clears h us → Agrees (wanted us (Some [])) (walk_at h q n t) []
unfolding differ_after walk_fault
end_clear h q n t us clears = (clears.none, ap (λ (g : Held). g.rows) clears.is ∙ sym (ap rows_for (append-nil us)))

end_fails : (w : Walk) → fails (settle_fault rules false w.held) ≡ true → Agrees None w []
unfolding walk_fault
end_fails w h = h

-- ---- a file

value_fails : (b : Bool) (h : Held) → fails (settle_fault rules false h) ≡ true → fails (step_fault top (place_after b) h value) ≡ true
value_fails true h bad = refl
value_fails false h bad = ap fails (file_fault h) ∙ bad

value_step : (h : Held) (us : List Item) (q : Waiting) (n : ℕ) (t : Bool) (word : Text) (rest : List Text) (more : Option (List Item)) → Clears h us → n ≡ place_after (has file us)
    → turn_fault top [] (walk_at h q n t) word ≡ step_fault top n h value → walked rules [] (walk_at h q n t) word ≡ after_step rules word (walk_at h q n t) h value
    → (has file us ≡ false → Agrees (wanted us (gives file word more)) (walk_at (held us (Some (id_of file, word ∷ []))) idle 2 t) rest)
    → Agrees (wanted us (gives file word more)) (walk_at h q n t) (word ∷ rest)
value_step h us q n t word rest more clears at turn moved onward = go (has file us) refl
  where
    go : (b : Bool) → has file us ≡ b → Agrees (wanted us (gives file word more)) (walk_at h q n t) (word ∷ rest)
    go true is = subst (λ x. Agrees x (walk_at h q n t) (word ∷ rest)) (sym (wanted_twice us file word more is))
        (stop (walk_at h q n t) word rest (ap fails (turn ∙ ap (λ m. step_fault top m h value) (at ∙ ap place_after is))))
    go false is = step_on (wanted us (gives file word more)) (walk_at h q n t) (walk_at (held us (Some (id_of file, word ∷ []))) idle 2 t) word rest
        (turn ∙ ap (λ m. step_fault top m h value) (at ∙ ap place_after is) ∙ file_fault h ∙ clears.none)
        (moved ∙ ap (λ m. to_positional rules (arg_by_index rules m) word (walk_at h q m t) h) (at ∙ ap place_after is)
        ∙ ap₂ (λ g b. walk_at g idle 2 b) (file_held h us word clears) (or_false t))
        (onward is)

-- ---- a word that is refused

fault_stops : (h : Held) (q : Waiting) (n : ℕ) (word : Text) (rest : List Text) → fails (word_fault top [] false q word h) ≡ true → Agrees None (walk_at h q n false) (word ∷ rest)
fault_stops h q n word rest bad = stop (walk_at h q n false) word rest
    (fails_first (word_fault top [] false q word h) (step_fault top n (word_met rules [] false q n word h).0 (word_met rules [] false q n word h).1) bad)

-- an option ends the values of one whose use has a fault
option_fails : (p : Part) (v : Option Text) (h : Held) → is_option p ≡ true → fails (settle_fault rules false h) ≡ true → fails (long_fault rules false (Some (rule_for p)) v h) ≡ true
option_fails p None h is bad = ap fails (awaits p is h).0 ∙ bad
option_fails p (Some x) h is bad = ap fails (attached p is x h).0 ∙ fails_first (settle_fault rules false h) _ bad

part_fails : (o : Option Part) (v : Option Text) (h : Held) → is_named o ≡ true → fails (settle_fault rules false h) ≡ true → fails (long_fault rules false (option_map rule_for o) v h) ≡ true
part_fails None v h is bad = refl
part_fails (Some transform_interpreter) None h is bad = fails_first (settle_fault rules false h) _ bad
part_fails (Some transform_interpreter) (Some x) h is bad = refl
part_fails (Some lower) v h is bad = option_fails lower v h refl bad
part_fails (Some run) v h is bad = option_fails run v h refl bad
part_fails (Some input) v h is bad = option_fails input v h refl bad
part_fails (Some workers) v h is bad = option_fails workers v h refl bad
part_fails (Some sample) v h is bad = option_fails sample v h refl bad
part_fails (Some file) v h is bad = absurd (true≢false (sym is))

long_fails : (h : Held) (q : Waiting) (word name : Text) (v : Option Text) → bytes_eq word dashes ≡ false → long_of word ≡ Some (name, v)
    → fails (settle_fault rules false h) ≡ true → fails (word_fault top [] false q word h) ≡ true
long_fails h q word name v isnt long bad =
    ap fails (long_word_fault h q word name v (option_map rule_for (option_named name)) isnt long (by_long name)) ∙ part_fails (option_named name) v h (named name) bad

-- ---- a word where anything may stand

use_case : (h : Held) (us : List Item) (n : ℕ) (word : Text) (rest : List Text) (p : Part) (x : Text) (more : Option (List Item)) → Clears h us → n ≡ place_after (has file us)
    → (place p == place file) ≡ false → word_fault top [] false idle word h ≡ react_fault rules false (rule_for p) (read_values p x) h
    → word_met rules [] false idle n word h ≡ (reacted rules (rule_for p) (read_values p x) h, next idle)
    → ((all : List Item) → Agrees (wanted all more) (walk_at (held all None) idle (place_after (has file all)) false) rest)
    → Agrees (wanted us (gives p x more)) (walk_at h idle n false) (word ∷ rest)
use_case h us n word rest p x more clears at isnt_file fault met onward = go (has p us) refl
  where
    all : List Item
    all = us ++ (p, x) ∷ []

    go : (b : Bool) → has p us ≡ b → Agrees (wanted us (gives p x more)) (walk_at h idle n false) (word ∷ rest)
    go true is = subst (λ y. Agrees y (walk_at h idle n false) (word ∷ rest)) (sym (wanted_twice us p x more is))
        (fault_stops h idle n word rest (ap fails (fault ∙ react_fault-part p x h us clears ∙ ap twice_fault is)))
    go false is =
        let clear : word_fault top [] false idle word h ≡ [] = fault ∙ react_fault-part p x h us clears ∙ ap twice_fault is in
        let seen_as : word_met rules [] false idle n word h ≡ (held (us ++ (p, x) ∷ []) None, next idle) = met ∙ ap (λ g. (g, next idle)) (reacted-part p x h us clears is) in
        let spot : n ≡ place_after (has file (us ++ (p, x) ∷ [])) = at ∙ ap place_after (sym (has_file-option us p x isnt_file)) in
        subst (λ y. Agrees y (walk_at h idle n false) (word ∷ rest)) (sym (wanted_first us p x more is))
        (step_on (wanted (us ++ (p, x) ∷ []) more) (walk_at h idle n false) (walk_at (held (us ++ (p, x) ∷ []) None) idle (place_after (has file (us ++ (p, x) ∷ []))) false) word rest
        (turn_by h idle n word [] (held (us ++ (p, x) ∷ []) None, next idle) clear seen_as)
        (walked_by h idle n word (held (us ++ (p, x) ∷ []) None, next idle) seen_as ∙ ap (λ m. walk_at (held (us ++ (p, x) ∷ []) None) idle m false) spot)
        (onward (us ++ (p, x) ∷ [])))

awaits_case : (h : Held) (us : List Item) (n : ℕ) (word : Text) (rest : List Text) (p : Part) (x : Option (List Item)) → Clears h us → n ≡ place_after (has file us)
    → word_fault top [] false idle word h ≡ settle_fault rules false h
    → word_met rules [] false idle n word h ≡ (record (settled rules h) { pending = Some (id_of p, []) }, next (option (id_of p)))
    → Agrees x (walk_at (held us (Some (id_of p, []))) (option (id_of p)) (place_after (has file us)) false) rest
    → Agrees x (walk_at h idle n false) (word ∷ rest)
awaits_case h us n word rest p x clears at fault met onward =
    let seen_as : word_met rules [] false idle n word h ≡ (held us (Some (id_of p, [])), next (option (id_of p))) =
    met ∙ ap (λ (g : Held). let m : Held × Step = (record g { pending = Some (id_of p, []) }, next (option (id_of p))) in m) clears.is in
    step_on x (walk_at h idle n false) (walk_at (held us (Some (id_of p, []))) (option (id_of p)) (place_after (has file us)) false) word rest
    (turn_by h idle n word [] (held us (Some (id_of p, [])), next (option (id_of p))) (fault ∙ clears.none) seen_as)
    (walked_by h idle n word (held us (Some (id_of p, [])), next (option (id_of p))) seen_as ∙ ap (λ m. walk_at (held us (Some (id_of p, []))) (option (id_of p)) m false) at)
    onward

form_attached : (p : Part) (x : Text) → is_option p ≡ true → option_form p (Some x) ≡ attached_form p x
form_attached transform_interpreter x is = absurd (true≢false (sym is))
form_attached lower x is = refl
form_attached run x is = refl
form_attached input x is = refl
form_attached workers x is = refl
form_attached sample x is = refl
form_attached file x is = absurd (true≢false (sym is))

form_awaits : (p : Part) → is_option p ≡ true → option_form p None ≡ awaits_form p
form_awaits transform_interpreter is = absurd (true≢false (sym is))
form_awaits lower is = refl
form_awaits run is = refl
form_awaits input is = refl
form_awaits workers is = refl
form_awaits sample is = refl
form_awaits file is = absurd (true≢false (sym is))

-- what the rest of the words comes to, from each stand
abbrev Onward : List Text → Type 0
Onward rest = (s : Stand) → IsStand s → Meets s rest

module _ (h : Held) (us : List Item) (n : ℕ) (word : Text) (rest : List Text) (clears : Clears h us) (at : n ≡ place_after (has file us)) (onward : Onward rest) where
  abbrev After : Form → Type 0
  After form = Agrees (wanted us (word_read form word (items rest))) (walk_at h idle n false) (word ∷ rest)

  option_case : (p : Part) (v : Option Text) (name : Text) → is_option p ≡ true → bytes_eq word dashes ≡ false → long_of word ≡ Some (name, v)
      → arg_by_long rules name ≡ Some (rule_for p) → After (option_form p v)
  option_case p (Some x) name is isnt long arg = subst After (sym (form_attached p x is))
      (use_case h us n word rest p x (items rest anything) clears at (no_file p is)
      (long_word_fault h idle word name (Some x) (Some (rule_for p)) isnt long arg ∙ (attached p is x h).0)
      (long_word_met h idle n word name (Some x) (Some (rule_for p)) isnt long arg ∙ ap (λ m. after_flag rules idle word m.0 m.1) (attached p is x h).1)
      (λ all. onward (free all None) tt))
  option_case p None name is isnt long arg = subst After (sym (form_awaits p is))
      (awaits_case h us n word rest p (wanted us (items rest (value_of p))) clears at
      (long_word_fault h idle word name None (Some (rule_for p)) isnt long arg ∙ (awaits p is h).0)
      (long_word_met h idle n word name None (Some (rule_for p)) isnt long arg ∙ ap (λ m. after_flag rules idle word m.0 m.1) (awaits p is h).1)
      (onward (waiting us p) is))

  long_case : (o : Option Part) (v : Option Text) (name : Text) → is_named o ≡ true → bytes_eq word dashes ≡ false → long_of word ≡ Some (name, v)
      → arg_by_long rules name ≡ option_map rule_for o → After (named_form o v)
  long_case None v name is isnt long arg = fault_stops h idle n word rest (ap fails (long_word_fault h idle word name v None isnt long arg))
  long_case (Some transform_interpreter) None name is isnt long arg =
      use_case h us n word rest transform_interpreter [] (items rest anything) clears at refl
      (long_word_fault h idle word name None (Some (rule_for transform_interpreter)) isnt long arg)
      (long_word_met h idle n word name None (Some (rule_for transform_interpreter)) isnt long arg)
      (λ all. onward (free all None) tt)
  long_case (Some transform_interpreter) (Some x) name is isnt long arg =
      fault_stops h idle n word rest (ap fails (long_word_fault h idle word name (Some x) (Some (rule_for transform_interpreter)) isnt long arg))
  long_case (Some lower) v name is isnt long arg = option_case lower v name refl isnt long arg
  long_case (Some run) v name is isnt long arg = option_case run v name refl isnt long arg
  long_case (Some input) v name is isnt long arg = option_case input v name refl isnt long arg
  long_case (Some workers) v name is isnt long arg = option_case workers v name refl isnt long arg
  long_case (Some sample) v name is isnt long arg = option_case sample v name refl isnt long arg
  long_case (Some file) v name is isnt long arg = absurd (true≢false (sym is))

  free_case : (form : Form) → Seen word form → Agrees (wanted us (items rest only_file)) (walk_at h idle n true) rest → After form
  free_case form (sees_ends is eq) onto = subst After (sym is)
      (step_on (wanted us (items rest only_file)) (walk_at h idle n false) (walk_at h idle n true) word rest
      (turn_by h idle n word [] (h, trailing n) (ends_fault h idle word eq) (ends_met h idle n word eq))
      (walked_by h idle n word (h, trailing n) (ends_met h idle n word eq)) onto)
  free_case form (sees_long name v is isnt long) onto = subst After (sym is) (long_case (option_named name) v name (named name) isnt long (by_long name))
  free_case form (sees_short flags x k is isnt long short some first) onto = subst After (sym is)
      (fault_stops h idle n word rest (short_fails h idle word flags x k (ap (λ (g : Held). g.skip) clears.is) isnt long short some first))
  free_case form (sees_plain is isnt long short) onto = subst After (sym is)
      (value_step h us idle n false word rest (items rest anything) clears at
      (turn_by h idle n word [] (h, value) (plain_fault h idle word isnt long short) (plain_met h idle n word isnt long short))
      (walked_by h idle n word (h, value) (plain_met h idle n word isnt long short))
      (λ first. subst (λ m. Agrees (wanted us (gives file word (items rest anything))) (walk_at (held us (Some (id_of file, word ∷ []))) idle m false) rest)
      (ap place_after (has_file-file us word first)) (onward (free us (Some (file, word))) refl)))

-- ---- a word behind an item whose part was given before, or where an option waits for its value

doomed : (h : Held) (n : ℕ) (b : Bool) (word : Text) (rest : List Text) (form : Form) → Seen word form → h.skip ≡ 0 → n ≡ place_after b → fails (settle_fault rules false h) ≡ true
    → Agrees None (walk_at h idle n true) rest → Agrees None (walk_at h idle n false) (word ∷ rest)
doomed h n b word rest form (sees_ends is eq) unskipped at bad onto = step_on None (walk_at h idle n false) (walk_at h idle n true) word rest
    (turn_by h idle n word [] (h, trailing n) (ends_fault h idle word eq) (ends_met h idle n word eq))
    (walked_by h idle n word (h, trailing n) (ends_met h idle n word eq)) onto
doomed h n b word rest form (sees_long name v is isnt long) unskipped at bad onto = fault_stops h idle n word rest (long_fails h idle word name v isnt long bad)
doomed h n b word rest form (sees_short flags x k is isnt long short some first) unskipped at bad onto =
    fault_stops h idle n word rest (short_fails h idle word flags x k unskipped isnt long short some first)
doomed h n b word rest form (sees_plain is isnt long short) unskipped at bad onto = stop (walk_at h idle n false) word rest
    (ap fails (turn_by h idle n word [] (h, value) (plain_fault h idle word isnt long short) (plain_met h idle n word isnt long short) ∙ ap (λ m. step_fault top m h value) at)
    ∙ value_fails b h bad)

abbrev Valued : Part → Type 0
Valued p = (us : List Item) (word : Text) → plain_word rules (option (id_of p)) word (held us (Some (id_of p, []))) ≡ (held us (Some (id_of p, word ∷ [])), next idle)

valued : (p : Part) → is_option p ≡ true → Valued p
valued = each_option Valued (λ us word. refl) (λ us word. refl) (λ us word. refl) (λ us word. refl) (λ us word. refl)

no_value : (o : Option Part) (v : Option Text) (p : Part) (word : Text) (more : Expects → Option (List Item)) → value_read (named_form o v) p word more ≡ None
no_value None v p word more = refl
no_value (Some transform_interpreter) None p word more = refl
no_value (Some transform_interpreter) (Some x) p word more = refl
no_value (Some lower) None p word more = refl
no_value (Some lower) (Some x) p word more = refl
no_value (Some run) None p word more = refl
no_value (Some run) (Some x) p word more = refl
no_value (Some input) None p word more = refl
no_value (Some input) (Some x) p word more = refl
no_value (Some workers) None p word more = refl
no_value (Some workers) (Some x) p word more = refl
no_value (Some sample) None p word more = refl
no_value (Some sample) (Some x) p word more = refl
no_value (Some file) None p word more = refl
no_value (Some file) (Some x) p word more = refl

module _ (us : List Item) (p : Part) (word : Text) (rest : List Text) (is_opt : is_option p ≡ true) (onward : Onward rest) where
  abbrev bare : Held
  bare = held us (Some (id_of p, []))

  abbrev spot : ℕ
  spot = place_after (has file us)

  abbrev Valued_by : Form → Type 0
  Valued_by form = Agrees (wanted us (value_read form p word (items rest))) (walk_at bare (option (id_of p)) spot false) (word ∷ rest)

  waiting_case : (form : Form) → Seen word form → Valued_by form
  waiting_case form (sees_ends is eq) = subst Valued_by (sym is)
      (step_on None (walk_at bare (option (id_of p)) spot false) (walk_at bare (option (id_of p)) spot true) word rest
      (turn_by bare (option (id_of p)) spot word [] (bare, trailing spot) (ends_fault bare (option (id_of p)) word eq) (ends_met bare (option (id_of p)) spot word eq))
      (walked_by bare (option (id_of p)) spot word (bare, trailing spot) (ends_met bare (option (id_of p)) spot word eq))
      (onward (stuck (option (id_of p)) us p) is_opt))
  waiting_case form (sees_long name v is isnt long) = subst Valued_by (sym is)
      (subst (λ x. Agrees (wanted us x) (walk_at bare (option (id_of p)) spot false) (word ∷ rest)) (sym (no_value (option_named name) v p word (items rest)))
      (fault_stops bare (option (id_of p)) spot word rest (long_fails bare (option (id_of p)) word name v isnt long (bare_fails p us is_opt))))
  waiting_case form (sees_short flags x k is isnt long short some first) = subst Valued_by (sym is)
      (fault_stops bare (option (id_of p)) spot word rest (short_fails bare (option (id_of p)) word flags x k refl isnt long short some first))
  waiting_case form (sees_plain is isnt long short) =
      let met : word_met rules [] false (option (id_of p)) spot word bare ≡ (held us (Some (id_of p, word ∷ [])), next idle) =
      plain_met bare (option (id_of p)) spot word isnt long short ∙ valued p is_opt us word in
      subst Valued_by (sym is)
      (step_on (wanted us (gives p word (items rest anything))) (walk_at bare (option (id_of p)) spot false)
      (walk_at (held us (Some (id_of p, word ∷ []))) idle (place_after (has file (us ++ (p, word) ∷ []))) false) word rest
      (turn_by bare (option (id_of p)) spot word [] (held us (Some (id_of p, word ∷ [])), next idle) (plain_fault bare (option (id_of p)) word isnt long short) met)
      (walked_by bare (option (id_of p)) spot word (held us (Some (id_of p, word ∷ [])), next idle) met
      ∙ ap (λ m. walk_at (held us (Some (id_of p, word ∷ []))) idle m false) (ap place_after (sym (has_file-option us p word (no_file p is_opt)))))
      (onward (free us (Some (p, word))) (option_takes p is_opt)))

-- ---- the whole walk

pending_end : (us : List Item) (u : Item) (q : Waiting) (n : ℕ) (t : Bool) → takes u.0 ≡ true
    → Agrees (wanted us (gives u.0 u.1 (Some []))) (walk_at (held us (pending (Some u))) q n t) []
pending_end us u q n t is = go (has u.0 us) refl
  where
    go : (b : Bool) → has u.0 us ≡ b → Agrees (wanted us (gives u.0 u.1 (Some []))) (walk_at (held us (pending (Some u))) q n t) []
    go true again = subst (λ x. Agrees x (walk_at (held us (pending (Some u))) q n t) []) (sym (wanted_twice us u.0 u.1 (Some []) again))
        (end_fails (walk_at (held us (pending (Some u))) q n t) (pending_twice u.0 u.1 us is again))
    go false first = subst (λ x. Agrees x (walk_at (held us (pending (Some u))) q n t) []) (sym (wanted_first us u.0 u.1 (Some []) first))
        (end_clear (held us (pending (Some u))) q n t (us ++ u ∷ []) (clears_pending u.0 u.1 us is first))

at_end : (s : Stand) → IsStand s → Meets s []
unfolding items
at_end (free us None) is = end_clear (held us None) idle (place_after (has file us)) false us (clears_nothing us)
at_end (free us (Some u)) is = pending_end us u idle (place_after (has file (us ++ u ∷ []))) false is
at_end (waiting us p) is = end_fails (walk_of (waiting us p)) (bare_fails p us is)
at_end (behind q us None) is = end_clear (held us None) q (place_after (has file us)) true us (clears_nothing us)
at_end (behind q us (Some u)) is = pending_end us u q (place_after (has file (us ++ u ∷ []))) true is
at_end (stuck q us p) is = end_fails (walk_of (stuck q us p)) (bare_fails p us is)

free_pending : (us : List Item) (u : Item) (word : Text) (rest : List Text) (b : Bool) → has u.0 us ≡ b → is_utf8 word ≡ true → takes u.0 ≡ true → Onward rest
    → Meets (free us (Some u)) (word ∷ rest)
unfolding items
free_pending us u word rest true again text is onward =
    subst (λ x. Agrees x (walk_of (free us (Some u))) (word ∷ rest)) (sym (wanted_twice us u.0 u.1 (items (word ∷ rest) anything) again))
    (doomed (held us (pending (Some u))) (place_after (has file (us ++ u ∷ []))) (has file (us ++ u ∷ [])) word rest (form_of word) (seen word text) refl refl
    (pending_twice u.0 u.1 us is again)
    (subst (λ x. Agrees x (walk_of (behind idle us (Some u))) rest) (wanted_twice us u.0 u.1 (items rest only_file) again) (onward (behind idle us (Some u)) is)))
free_pending us u word rest false first text is onward =
    subst (λ x. Agrees x (walk_of (free us (Some u))) (word ∷ rest)) (sym (wanted_first us u.0 u.1 (items (word ∷ rest) anything) first))
    (free_case (held us (pending (Some u))) (us ++ u ∷ []) (place_after (has file (us ++ u ∷ []))) word rest (clears_pending u.0 u.1 us is first) refl onward (form_of word) (seen word text)
    (subst (λ x. Agrees x (walk_of (behind idle us (Some u))) rest) (wanted_first us u.0 u.1 (items rest only_file) first) (onward (behind idle us (Some u)) is)))

behind_step : (h : Held) (us : List Item) (q : Waiting) (word : Text) (rest : List Text) → Clears h us → Onward rest
    → Agrees (wanted us (items (word ∷ rest) only_file)) (walk_at h q (place_after (has file us)) true) (word ∷ rest)
unfolding items walked
behind_step h us q word rest clears onward = value_step h us q (place_after (has file us)) true word rest (items rest only_file) clears refl refl refl
    (λ first. subst (λ m. Agrees (wanted us (gives file word (items rest only_file))) (walk_at (held us (Some (id_of file, word ∷ []))) idle m true) rest)
    (ap place_after (has_file-file us word first)) (onward (behind idle us (Some (file, word))) refl))

behind_pending : (us : List Item) (u : Item) (q : Waiting) (word : Text) (rest : List Text) (b : Bool) → has u.0 us ≡ b → takes u.0 ≡ true → Onward rest
    → Meets (behind q us (Some u)) (word ∷ rest)
behind_pending us u q word rest true again is onward =
    subst (λ x. Agrees x (walk_of (behind q us (Some u))) (word ∷ rest)) (sym (wanted_twice us u.0 u.1 (items (word ∷ rest) only_file) again))
    (stop (walk_of (behind q us (Some u))) word rest (value_fails (has file (us ++ u ∷ [])) (held us (pending (Some u))) (pending_twice u.0 u.1 us is again)))
behind_pending us u q word rest false first is onward =
    subst (λ x. Agrees x (walk_of (behind q us (Some u))) (word ∷ rest)) (sym (wanted_first us u.0 u.1 (items (word ∷ rest) only_file) first))
    (behind_step (held us (pending (Some u))) (us ++ u ∷ []) q word rest (clears_pending u.0 u.1 us is first) onward)

one_word : (word : Text) (rest : List Text) → is_utf8 word ≡ true → Onward rest → (s : Stand) → IsStand s → Meets s (word ∷ rest)
unfolding items
one_word word rest text onward (free us None) is =
    free_case (held us None) us (place_after (has file us)) word rest (clears_nothing us) refl onward (form_of word) (seen word text) (onward (behind idle us None) tt)
one_word word rest text onward (free us (Some u)) is = free_pending us u word rest (has u.0 us) refl text is onward
one_word word rest text onward (waiting us p) is = waiting_case us p word rest is onward (form_of word) (seen word text)
one_word word rest text onward (behind q us None) is = behind_step (held us None) us q word rest (clears_nothing us) onward
one_word word rest text onward (behind q us (Some u)) is = behind_pending us u q word rest (has u.0 us) refl is onward
one_word word rest text onward (stuck q us p) is =
    stop (walk_of (stuck q us p)) word rest (value_fails (has file us) (held us (Some (id_of p, []))) (bare_fails p us is))

meets : (words : List Text) → AllText words → Onward words
meets [] text s is = at_end s is
meets (word ∷ rest) text s is = one_word word rest text.0 (meets rest text.1) s is

-- `clap`'s walk fails exactly where the words give nothing or a part twice, and has their rows
pub walk_agrees : (words : List Text) → AllText words → Agrees (wanted [] (items words anything)) (walk_at (held [] None) idle 1 false) words
walk_agrees words text = meets words text (free [] None) tt
