-- Reading tokens one after the other, as a loop does.
use Rattle.std.proofs.Common.{◌≡◌, ℕ, zero, suc, ◌+◌, ◌<◌, ◌≤◌, List, [], ◌∷◌, ◌++◌, length, drop, Result, Ok, Err, Some, None, refl, sym, ap, ◌∙◌, append_assoc, arith}
use Rattle.std.proofs.lemmas.List.{append-nil, length-drop}
use Rattle.text_format.specs.declared.front.Kind.{Kind}
use Rattle.text_format.specs.declared.front.Front.{Front}
use Rattle.text_format.specs.declared.front.Front.TheVariants as fronts
use Rattle.text_format.specs.declared.span.Span.{Span}
use Rattle.text_format.specs.Bytes.{front, first_front, Within}
use Rattle.text_format.specs.Tokens.{Fault, Byte, Unclosed, before_others, by_front, tokens_from}
use Rattle.text_format.proofs.Runs.{front_within}

-- what was read before, and what is still read
abbrev pub with_front : List Span → Result (List Span) Fault → Result (List Span) Fault
with_front ts (Ok us) = Ok (ts ++ us)
with_front ts (Err e) = Err e

regroup : (ts : List Span) (t : Span) (read : Result (List Span) Fault) → with_front ts (before_others t read) ≡ with_front (ts ++ t ∷ []) read
regroup ts t (Ok us) = ap (λ (x : List Span). Ok x) (sym (append_assoc ts (t ∷ []) us))
regroup ts t (Err e) = refl

same_step : (at : ℕ) (go to : ℕ → Result (List Span) Fault) (f : Front) (size : ℕ) → Within f size → ((k : ℕ) → 0 < k → k ≤ size → go k ≡ to k) → by_front at go f ≡ by_front at to f
same_step at go to (fronts.Skip k) size w h = h k w.0 w.1
same_step at go to (fronts.Token kind k) size w h = ap (before_others (record { kind = kind; start = at; end = at + k })) (h k w.0 w.1)
same_step at go to (fronts.Byte k) size w h = refl
same_step at go to fronts.Unclosed size w h = refl

-- enough is enough
pub tokens_any : (n m at : ℕ) (bytes : List ℕ) → length bytes ≤ n → length bytes ≤ m → tokens_from n at bytes ≡ tokens_from m at bytes
unfolding tokens_from
tokens_any zero zero at bytes p q = refl
tokens_any zero (suc m) at [] p q = refl
tokens_any zero (suc m) at (b ∷ bs) p q = absurd (omega arith)
tokens_any (suc n) zero at [] p q = refl
tokens_any (suc n) zero at (b ∷ bs) p q = absurd (omega arith)
tokens_any (suc n) (suc m) at [] p q = refl
tokens_any (suc n) (suc m) at (b ∷ bs) p q =
    same_step at (λ k. tokens_from n (at + k) (drop k (b ∷ bs))) (λ k. tokens_from m (at + k) (drop k (b ∷ bs))) (front b bs) (suc (length bs)) (front_within b bs)
    (λ k lo hi. let l = length-drop k (b ∷ bs) in tokens_any n m (at + k) (drop k (b ∷ bs)) (omega (arith, l)) (omega (arith, l)))

pub skip_step : (b : ℕ) (bs : List ℕ) (n at k : ℕ) → front b bs ≡ fronts.Skip k → tokens_from (suc n) at (b ∷ bs) ≡ tokens_from n (at + k) (drop k (b ∷ bs))
unfolding tokens_from
skip_step b bs n at k e = ap (by_front at (λ k. tokens_from n (at + k) (drop k (b ∷ bs)))) e

pub token_step : (b : ℕ) (bs : List ℕ) (n at k : ℕ) (kind : Kind) → front b bs ≡ fronts.Token kind k → tokens_from (suc n) at (b ∷ bs) ≡ before_others (record { kind = kind; start = at; end = at + k }) (tokens_from n (at + k) (drop k (b ∷ bs)))
unfolding tokens_from
token_step b bs n at k kind e = ap (by_front at (λ k. tokens_from n (at + k) (drop k (b ∷ bs)))) e

byte_step : (b : ℕ) (bs : List ℕ) (n at k : ℕ) → front b bs ≡ fronts.Byte k → tokens_from (suc n) at (b ∷ bs) ≡ Err (Byte (at + k))
unfolding tokens_from
byte_step b bs n at k e = ap (by_front at (λ k. tokens_from n (at + k) (drop k (b ∷ bs)))) e

unclosed_step : (b : ℕ) (bs : List ℕ) (n at : ℕ) → front b bs ≡ fronts.Unclosed → tokens_from (suc n) at (b ∷ bs) ≡ Err (Unclosed at)
unfolding tokens_from
unclosed_step b bs n at e = ap (by_front at (λ k. tokens_from n (at + k) (drop k (b ∷ bs)))) e

goes_to : (b : ℕ) (bs : List ℕ) (at k : ℕ) → 0 < k → tokens_from (length bs) (at + k) (drop k (b ∷ bs)) ≡ tokens_from (length (drop k (b ∷ bs))) (at + k) (drop k (b ∷ bs))
goes_to b bs at k pos = let l = length-drop k (b ∷ bs) in tokens_any (length bs) (length (drop k (b ∷ bs))) (at + k) (drop k (b ∷ bs)) (omega (arith, l)) (omega arith)

-- ---- the loop's steps

skips : (b : ℕ) (bs : List ℕ) (at k : ℕ) (list : List Span) (total : Result (List Span) Fault) → fronts.Skip k ≡ front b bs → 0 < k
    → with_front list (tokens_from (suc (length bs)) at (b ∷ bs)) ≡ total → with_front list (tokens_from (length (drop k (b ∷ bs))) (at + k) (drop k (b ∷ bs))) ≡ total
skips b bs at k list total e pos so_far =
    let one = skip_step b bs (length bs) at k (sym e) ∙ goes_to b bs at k pos in
    sym (ap (with_front list) one) ∙ so_far

takes : (b : ℕ) (bs : List ℕ) (at : ℕ) (kind : Kind) (k : ℕ) (list : List Span) (total : Result (List Span) Fault) → fronts.Token kind k ≡ front b bs → 0 < k
    → with_front list (tokens_from (suc (length bs)) at (b ∷ bs)) ≡ total → with_front (list ++ record { kind = kind; start = at; end = at + k } ∷ []) (tokens_from (length (drop k (b ∷ bs))) (at + k) (drop k (b ∷ bs))) ≡ total
takes b bs at kind k list total e pos so_far =
    let t : Span = record { kind = kind; start = at; end = at + k } in
    let one = token_step b bs (length bs) at k kind (sym e) ∙ ap (before_others t) (goes_to b bs at k pos) in
    sym (regroup list t (tokens_from (length (drop k (b ∷ bs))) (at + k) (drop k (b ∷ bs)))) ∙ (sym (ap (with_front list) one) ∙ so_far)

meets_byte : (b : ℕ) (bs : List ℕ) (at k : ℕ) (list : List Span) (total : Result (List Span) Fault) → fronts.Byte k ≡ front b bs
    → with_front list (tokens_from (suc (length bs)) at (b ∷ bs)) ≡ total → total ≡ Err (Byte (at + k))
meets_byte b bs at k list total e so_far = sym so_far ∙ ap (with_front list) (byte_step b bs (length bs) at k (sym e))

meets_unclosed : (b : ℕ) (bs : List ℕ) (at : ℕ) (list : List Span) (total : Result (List Span) Fault) → fronts.Unclosed ≡ front b bs
    → with_front list (tokens_from (suc (length bs)) at (b ∷ bs)) ≡ total → total ≡ Err (Unclosed at)
meets_unclosed b bs at list total e so_far = sym so_far ∙ ap (with_front list) (unclosed_step b bs (length bs) at (sym e))

empty_end : (n at : ℕ) (bytes : List ℕ) → bytes ≡ [] → tokens_from n at bytes ≡ Ok []
unfolding tokens_from
empty_end zero at bytes e = refl
empty_end (suc n) at [] e = refl
empty_end (suc n) at (b ∷ bs) e = absurd cc

ends : (rest : List ℕ) (at : ℕ) (list : List Span) (total : Result (List Span) Fault) → rest ≡ [] → with_front list (tokens_from (length rest) at rest) ≡ total → total ≡ Ok list
ends rest at list total e so_far =
    sym so_far ∙ (ap (with_front list) (empty_end (length rest) at rest e) ∙ ap (λ (x : List Span). Ok x) (append-nil list))

-- ---- the same, as the loop has them

pub skips_at : (rest : List ℕ) (at k : ℕ) (list : List Span) (total : Result (List Span) Fault) → Some (fronts.Skip k) ≡ first_front rest → 0 < k
    → with_front list (tokens_from (length rest) at rest) ≡ total → with_front list (tokens_from (length (drop k rest)) (at + k) (drop k rest)) ≡ total
skips_at [] at k list total e pos so_far = absurd (cc e)
skips_at (b ∷ bs) at k list total e pos so_far = skips b bs at k list total (cc e) pos so_far

pub takes_at : (rest : List ℕ) (at : ℕ) (kind : Kind) (k : ℕ) (list : List Span) (total : Result (List Span) Fault) → Some (fronts.Token kind k) ≡ first_front rest → 0 < k
    → with_front list (tokens_from (length rest) at rest) ≡ total → with_front (list ++ record { kind = kind; start = at; end = at + k } ∷ []) (tokens_from (length (drop k rest)) (at + k) (drop k rest)) ≡ total
takes_at [] at kind k list total e pos so_far = absurd (cc e)
takes_at (b ∷ bs) at kind k list total e pos so_far = takes b bs at kind k list total (cc e) pos so_far

pub meets_byte_at : (rest : List ℕ) (at k : ℕ) (list : List Span) (total : Result (List Span) Fault) → Some (fronts.Byte k) ≡ first_front rest
    → with_front list (tokens_from (length rest) at rest) ≡ total → total ≡ Err (Byte (at + k))
meets_byte_at [] at k list total e so_far = absurd (cc e)
meets_byte_at (b ∷ bs) at k list total e so_far = meets_byte b bs at k list total (cc e) so_far

pub meets_unclosed_at : (rest : List ℕ) (at : ℕ) (list : List Span) (total : Result (List Span) Fault) → Some fronts.Unclosed ≡ first_front rest
    → with_front list (tokens_from (length rest) at rest) ≡ total → total ≡ Err (Unclosed at)
meets_unclosed_at [] at list total e so_far = absurd (cc e)
meets_unclosed_at (b ∷ bs) at list total e so_far = meets_unclosed b bs at list total (cc e) so_far

pub ends_at : (rest : List ℕ) (at : ℕ) (list : List Span) (total : Result (List Span) Fault) → None ≡ first_front rest → with_front list (tokens_from (length rest) at rest) ≡ total → total ≡ Ok list
ends_at [] at list total e so_far = ends [] at list total refl so_far
ends_at (b ∷ bs) at list total e so_far = absurd (cc e)
