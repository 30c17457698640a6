-- Runs of bytes, and how much of a text its first item takes.
use Rattle.std.proofs.Common.{◌≡◌, ℕ, suc, ◌+◌, ◌-◌, ◌<◌, ◌≤◌, ◌&&◌, ◌||◌, ◌==◌, not, Bool, true, false, cond, List, [], ◌∷◌, length, get_or, drop, take, refl, sym, ap, subst, ◌∙◌, arith, nat_lt, nat_le, codes}
use Rattle.std.specs.Str.{bytes_eq}
use Rattle.std.proofs.Math.Seq.{drop-cons}
use Rattle.std.proofs.lemmas.List.{length-drop, take_all}
use Rattle.std.proofs.lemmas.Bool.{cond-true, cond-false, cond_both, ltb-false, and_parts, and_from, leb-true, ne_eqb}
use Rattle.text_format.specs.declared.front.Kind.TheVariants as kinds
use Rattle.text_format.specs.declared.front.ByteClass.{ByteClass}
use Rattle.text_format.specs.declared.front.ByteClass.TheVariants as classes
use Rattle.text_format.specs.declared.front.Front.{Front}
use Rattle.text_format.specs.declared.front.Front.TheVariants as fronts
use Rattle.text_format.specs.Bytes.{is_blank, is_digit, is_letter, belongs, run, is_mark, is_sign, next_is, letter_next, is_closed, is_shape_start, shaped_front, word_front, result_number, value_front, sign_front, quoted_front, mark_front, comment_front, front, Within}

run_at : (c : ByteClass) (bytes : List ℕ) (i : ℕ) → i < length bytes → run c (drop i bytes) ≡ cond (belongs c (get_or bytes i 0)) (suc (run c (drop (suc i) bytes))) 0
unfolding run
run_at c bytes i h = rw (drop-cons bytes i 0) refl

pub run_stops : (c : ByteClass) (bytes : List ℕ) (i : ℕ) → i < length bytes → belongs c (get_or bytes i 0) ≡ false → i + run c (drop i bytes) ≡ run c bytes → i ≡ run c bytes
run_stops c bytes i h e k = let j = run_at c bytes i h ∙ cond-false _ _ _ e in omega (arith, j, k)

pub run_goes : (c : ByteClass) (bytes : List ℕ) (i : ℕ) → i < length bytes → belongs c (get_or bytes i 0) ≡ true → i + run c (drop i bytes) ≡ run c bytes → (i + 1) + run c (drop (i + 1) bytes) ≡ run c bytes
run_goes c bytes i h e k =
    let j = run_at c bytes i h ∙ cond-true _ _ _ e in
    let l : run c (drop (i + 1) bytes) ≡ run c (drop (suc i) bytes) = let m : i + 1 ≡ suc i = omega arith in ap (λ n. run c (drop n bytes)) m in
    omega (arith, j, k, l)

pub run_ends : (c : ByteClass) (bytes : List ℕ) (i : ℕ) → length bytes ≤ i → i ≤ length bytes → i + run c (drop i bytes) ≡ run c bytes → length bytes ≡ run c bytes
unfolding run
run_ends c bytes i h l k =
    let j : run c (drop i bytes) ≡ 0 = none c (drop i bytes) (omega (arith, length-drop i bytes)) in omega (arith, j, k)
  where
    none : (c : ByteClass) (bytes : List ℕ) → length bytes ≡ 0 → run c bytes ≡ 0
    none c [] e = refl
    none c (b ∷ bs) e = absurd (omega arith)

-- ---- what an item takes

run_le_step : (b : Bool) (m n : ℕ) → m ≤ n → cond b (suc m) 0 ≤ suc n
run_le_step true m n h = omega arith
run_le_step false m n h = omega arith

pub run_le : (c : ByteClass) (bytes : List ℕ) → run c bytes ≤ length bytes
unfolding run
run_le c [] = omega arith
run_le c (b ∷ bs) = let k = run_le_step (belongs c b) (run c bs) (length bs) (run_le c bs) in omega (arith, k)

next_there : (c : ℕ) (bytes : List ℕ) → next_is c bytes ≡ true → 0 < length bytes
next_there c [] e = absurd cc
next_there c (b ∷ bs) e = omega arith

run_in : (c : ByteClass) (bytes : List ℕ) (d : ℕ) → next_is d (drop (run c bytes) bytes) ≡ true → run c bytes < length bytes
run_in c bytes d e = omega (arith, next_there d (drop (run c bytes) bytes) e, length-drop (run c bytes) bytes)

shape_long_step : (b c : Bool) → cond b false c ≡ true → b ≡ false
shape_long_step true c e = absurd cc
shape_long_step false c e = refl

word_starts : (b : ℕ) (rest : List ℕ) → is_letter b ≡ true → 0 < run classes.WordByte (b ∷ rest)
unfolding run
word_starts b rest e = rw e (omega arith)

shaped_within : (rest : List ℕ) (n : ℕ) → 7 + length rest ≤ n → Within (shaped_front rest) n
unfolding shaped_front is_closed
shaped_within rest n h =
    cond_both (is_closed 62 rest) (fronts.Token kinds.Shaped (7 + run (classes.LineBefore 62) rest + 1)) fronts.Unclosed (λ f. Within f n)
    (λ e. let k = run_in (classes.LineBefore 62) rest 62 e in (omega arith, omega (arith, k, h)))
    (λ e. tt)

word_within : (b : ℕ) (rest : List ℕ) → is_letter b ≡ true → Within (word_front (b ∷ rest)) (suc (length rest))
unfolding word_front
word_within b rest e =
    cond_both (is_shape_start (b ∷ rest)) (shaped_front (drop 7 (b ∷ rest))) (fronts.Token kinds.Word (run classes.WordByte (b ∷ rest))) (λ f. Within f (suc (length rest)))
    (λ t.
    let long : 7 ≤ length (b ∷ rest) = ltb-false (length (b ∷ rest)) 7 (shape_long_step (nat_lt (length (b ∷ rest)) 7) (bytes_eq (take 7 (b ∷ rest)) (codes "tensor<") || bytes_eq (take 7 (b ∷ rest)) (codes "vector<")) t) in
    shaped_within (drop 7 (b ∷ rest)) (suc (length rest)) (let l = length-drop 7 (b ∷ rest) in omega (arith, l, long)))
    (λ t. (word_starts b rest e, let k = run_le classes.WordByte (b ∷ rest) in omega (arith, k)))

result_number_le : (bytes : List ℕ) → result_number bytes ≤ length bytes
unfolding result_number
result_number_le bytes =
    cond_both (next_is 35 bytes && not (run classes.Digit (drop 1 bytes) == 0)) (run classes.Digit (drop 1 bytes) + 1) 0 (λ n. n ≤ length bytes)
    (λ e.
    let some = next_there 35 bytes (and_parts (next_is 35 bytes) (not (run classes.Digit (drop 1 bytes) == 0)) e).0 in
    omega (arith, some, run_le classes.Digit (drop 1 bytes), length-drop 1 bytes))
    (λ e. omega arith)

value_within : (rest : List ℕ) → Within (value_front rest) (suc (length rest))
unfolding value_front
value_within rest =
    let n = run classes.ValueByte rest in
    cond_both (run classes.ValueByte rest == 0) _ _ (λ f. Within f (suc (length rest)))
    (λ e. omega arith)
    (λ e. (omega arith, omega (arith, run_le classes.ValueByte rest, result_number_le (drop (run classes.ValueByte rest) rest), length-drop (run classes.ValueByte rest) rest)))

sign_within : (b : ℕ) (rest : List ℕ) → Within (sign_front b rest) (suc (length rest))
unfolding sign_front
sign_within b rest =
    cond_both (letter_next rest) _ _ (λ f. Within f (suc (length rest))) (λ e. (omega arith, omega (arith, run_le classes.WordByte rest))) (λ e. omega arith)

-- what may stand in a quoted text stands on its line, before the closing quote
run_more_step : (x y : Bool) (m n : ℕ) → (x ≡ true → y ≡ true) → m ≤ n → cond x (suc m) 0 ≤ cond y (suc n) 0
run_more_step true true m n f h = omega arith
run_more_step true false m n f h = absurd (cc (f refl))
run_more_step false y m n f h = omega arith

run_more : (c d : ByteClass) → ((b : ℕ) → belongs c b ≡ true → belongs d b ≡ true) → (bytes : List ℕ) → run c bytes ≤ run d bytes
unfolding run
run_more c d f [] = omega arith
run_more c d f (b ∷ bs) = run_more_step (belongs c b) (belongs d b) (run c bs) (run d bs) (f b) (run_more c d f bs)

printable_on_line : (b : ℕ) → belongs classes.Printable b ≡ true → belongs (classes.LineBefore 34) b ≡ true
printable_on_line b h =
    let p = and_parts (nat_le 32 b && nat_le b 126 && not (b == 34)) (not (b == 92)) h in
    let q = and_parts (nat_le 32 b && nat_le b 126) (not (b == 34)) p.0 in
    let lo = leb-true 32 b (and_parts (nat_le 32 b) (nat_le b 126) q.0).0 in
    and_from (not (b == 34)) (not (b == 10)) q.1 (ap not (ne_eqb b 10 (λ e. absurd (omega (arith, e, lo)))))

quoted_within : (rest : List ℕ) → Within (quoted_front rest) (suc (length rest))
unfolding quoted_front is_closed
quoted_within rest =
    cond_both (next_is 34 (drop (run classes.Printable rest) rest)) _ _ (λ f. Within f (suc (length rest)))
    (λ e. (omega arith, omega (arith, run_in classes.Printable rest 34 e)))
    (λ e. cond_both (is_closed 34 rest) _ _ (λ f. Within f (suc (length rest)))
    (λ d. omega (arith, run_more classes.Printable (classes.LineBefore 34) printable_on_line rest, run_in (classes.LineBefore 34) rest 34 d))
    (λ d. tt))

two_there : (x : Bool) (rest : List ℕ) → (x && next_is 62 rest) ≡ true → 2 ≤ suc (length rest)
two_there true rest e = let k = next_there 62 rest e in omega (arith, k)
two_there false rest e = absurd cc

mark_within : (b : ℕ) (rest : List ℕ) → Within (mark_front b rest) (suc (length rest))
unfolding mark_front
mark_within b rest =
    cond_both (b == 45 && next_is 62 rest) _ _ (λ f. Within f (suc (length rest)))
    (λ e. (omega arith, two_there (b == 45) rest e))
    (λ e. cond_both (is_mark b) _ _ (λ f. Within f (suc (length rest))) (λ d. (omega arith, omega arith)) (λ d. omega arith))

comment_within : (rest : List ℕ) → Within (comment_front rest) (suc (length rest))
unfolding comment_front
comment_within rest =
    cond_both (next_is 47 rest) _ _ (λ f. Within f (suc (length rest))) (λ e. (omega arith, omega (arith, run_le (classes.LineBefore 10) rest))) (λ e. omega arith)

pub front_within : (b : ℕ) (rest : List ℕ) → Within (front b rest) (suc (length rest))
unfolding front
front_within b rest =
    let n = suc (length rest) in
    let P : Front → Type 0 = λ f. Within f n in
    cond_both (is_blank b) _ _ P (λ e. (omega arith, omega arith)) (λ e.
    cond_both (b == 47) _ _ P (λ e. comment_within rest) (λ e.
    cond_both (is_letter b) _ _ P (λ e. word_within b rest e) (λ e.
    cond_both (is_digit b) _ _ P (λ e. let k = run_le classes.Digit rest in (omega arith, omega (arith, k))) (λ e.
    cond_both (b == 37) _ _ P (λ e. value_within rest) (λ e.
    cond_both (is_sign b) _ _ P (λ e. sign_within b rest) (λ e.
    cond_both (b == 34) _ _ P (λ e. quoted_within rest) (λ e. mark_within b rest)))))))

-- the first byte and the rest, as a slice's pattern gives them
pub first_within_parts : (bytes : List ℕ) (f : Front) → 1 ≤ length bytes → f ≡ front (get_or bytes 0 0) (take (length bytes - 1) (drop 1 bytes)) → Within f (length bytes)
first_within_parts [] f h e = absurd (omega arith)
first_within_parts (b ∷ rest) f h e = subst (λ g. Within g (suc (length rest))) (sym (e ∙ ap (front b) (take_all (length (b ∷ rest) - 1) rest (omega arith)))) (front_within b rest)
