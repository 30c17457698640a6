-- The tokens of a text, one after the other, as a loop reads them.
use Rattle.std.proofs.Common.{◌≡◌, ℕ, zero, suc, ◌+◌, ◌<◌, ◌≤◌, List, [], ◌∷◌, ◌++◌, length, drop, take, Some, None, refl, sym, ap, ◌∙◌, append_assoc, arith}
use Rattle.std.proofs.lemmas.List.{length-drop}
use Rattle.text_format.specs.declared.front.Kind.{Kind}
use Rattle.text_format.specs.declared.front.Front.{Front}
use Rattle.text_format.specs.declared.front.Front.TheVariants as fronts
use Rattle.text_format.specs.Bytes.{front, first_front, Within}
use Rattle.text_format.specs.Token.{TokenShape}
use Rattle.text_format.proofs.Runs.{front_within}
use Rattle.affine_text.specs.Faults.{Stream, ends_at, before_stream, stream_by, stream_from}

-- the stream behind these tokens
abbrev pub behind_all : List TokenShape → Stream → Stream
behind_all ts s = record { tokens = ts ++ s.tokens; end = s.end }

same_step : (at : ℕ) (bytes : List ℕ) (go to : ℕ → Stream) (f : Front) (size : ℕ) → Within f size → ((k : ℕ) → 0 < k → k ≤ size → go k ≡ to k) → stream_by at bytes go f ≡ stream_by at bytes to f
same_step at bytes go to (fronts.Skip k) size w h = h k w.0 w.1
same_step at bytes go to (fronts.Token kind k) size w h = ap (before_stream (record { kind = kind; start = at; text = take k bytes })) (h k w.0 w.1)
same_step at bytes go to (fronts.Byte k) size w h = refl
same_step at bytes go to fronts.Unclosed size w h = refl

-- enough is enough
stream_any : (n m at : ℕ) (bytes : List ℕ) → length bytes ≤ n → length bytes ≤ m → stream_from n at bytes ≡ stream_from m at bytes
unfolding stream_from
stream_any zero zero at bytes p q = refl
stream_any zero (suc m) at [] p q = refl
stream_any zero (suc m) at (b ∷ bs) p q = absurd (omega arith)
stream_any (suc n) zero at [] p q = refl
stream_any (suc n) zero at (b ∷ bs) p q = absurd (omega arith)
stream_any (suc n) (suc m) at [] p q = refl
stream_any (suc n) (suc m) at (b ∷ bs) p q =
    same_step at (b ∷ bs) (λ k. stream_from n (at + k) (drop k (b ∷ bs))) (λ k. stream_from m (at + k) (drop k (b ∷ bs))) (front b bs) (suc (length bs)) (front_within b bs)
    (λ k lo hi. let l = length-drop k (b ∷ bs) in stream_any n m (at + k) (drop k (b ∷ bs)) (omega (arith, l)) (omega (arith, l)))

front_step : (b : ℕ) (bs : List ℕ) (n at : ℕ) (f : Front) → f ≡ front b bs → stream_from (suc n) at (b ∷ bs) ≡ stream_by at (b ∷ bs) (λ k. stream_from n (at + k) (drop k (b ∷ bs))) f
unfolding stream_from
front_step b bs n at f e = ap (stream_by at (b ∷ bs) (λ k. stream_from n (at + k) (drop k (b ∷ bs)))) (sym e)

goes_to : (b : ℕ) (bs : List ℕ) (at k : ℕ) → 0 < k → stream_from (length bs) (at + k) (drop k (b ∷ bs)) ≡ stream_from (length (drop k (b ∷ bs))) (at + k) (drop k (b ∷ bs))
goes_to b bs at k pos = let l = length-drop k (b ∷ bs) in stream_any (length bs) (length (drop k (b ∷ bs))) (at + k) (drop k (b ∷ bs)) (omega (arith, l)) (omega arith)

-- what is left, where so much was read
abbrev pub left_at : ℕ → List ℕ → Stream
left_at at rest = stream_from (length rest) at rest

one_more : (ts : List TokenShape) (t : TokenShape) (s : Stream) → behind_all ts (before_stream t s) ≡ behind_all (ts ++ t ∷ []) s
one_more ts t s = ap (λ (us : List TokenShape). record { tokens = us; end = s.end }) (sym (append_assoc ts (t ∷ []) s.tokens))

pub skips : (rest : List ℕ) (at k : ℕ) (ts : List TokenShape) (all : Stream) → Some (fronts.Skip k) ≡ first_front rest → 0 < k → all ≡ behind_all ts (left_at at rest) → all ≡ behind_all ts (left_at (at + k) (drop k rest))
skips [] at k ts all e pos so_far = absurd (cc e)
skips (b ∷ bs) at k ts all e pos so_far = so_far ∙ ap (behind_all ts) (front_step b bs (length bs) at (fronts.Skip k) (cc e) ∙ goes_to b bs at k pos)

-- the next token
pub takes : (rest : List ℕ) (at : ℕ) (kind : Kind) (k : ℕ) (ts : List TokenShape) (all : Stream) → Some (fronts.Token kind k) ≡ first_front rest → 0 < k → all ≡ behind_all ts (left_at at rest)
    → all ≡ behind_all (ts ++ record { kind = kind; start = at; text = take k rest } ∷ []) (left_at (at + k) (drop k rest))
takes [] at kind k ts all e pos so_far = absurd (cc e)
takes (b ∷ bs) at kind k ts all e pos so_far =
    let t : TokenShape = record { kind = kind; start = at; text = take k (b ∷ bs) } in
    so_far ∙ ap (behind_all ts) (front_step b bs (length bs) at (fronts.Token kind k) (cc e) ∙ ap (before_stream t) (goes_to b bs at k pos))
    ∙ one_more ts t (left_at (at + k) (drop k (b ∷ bs)))

-- no token comes next
abbrev pub Ended : List TokenShape → ℕ → Stream → Type 0
Ended ts end all = (all.tokens ≡ ts ++ []) × (all.end ≡ end)

ended_from : (ts : List TokenShape) (end : ℕ) (all : Stream) → all ≡ behind_all ts (ends_at end) → Ended ts end all
ended_from ts end all e = (ap (λ (s : Stream). s.tokens) e, ap (λ (s : Stream). s.end) e)

pub meets_byte : (rest : List ℕ) (at k : ℕ) (ts : List TokenShape) (all : Stream) → Some (fronts.Byte k) ≡ first_front rest → all ≡ behind_all ts (left_at at rest) → Ended ts (at + k) all
meets_byte [] at k ts all e so_far = absurd (cc e)
meets_byte (b ∷ bs) at k ts all e so_far = ended_from ts (at + k) all (so_far ∙ ap (behind_all ts) (front_step b bs (length bs) at (fronts.Byte k) (cc e)))

pub meets_unclosed : (rest : List ℕ) (at : ℕ) (ts : List TokenShape) (all : Stream) → Some fronts.Unclosed ≡ first_front rest → all ≡ behind_all ts (left_at at rest) → Ended ts at all
meets_unclosed [] at ts all e so_far = absurd (cc e)
meets_unclosed (b ∷ bs) at ts all e so_far = ended_from ts at all (so_far ∙ ap (behind_all ts) (front_step b bs (length bs) at fronts.Unclosed (cc e)))

nothing_left : (at : ℕ) → left_at at [] ≡ ends_at at
unfolding stream_from
nothing_left at = refl

pub ends : (rest : List ℕ) (at : ℕ) (ts : List TokenShape) (all : Stream) → None ≡ first_front rest → all ≡ behind_all ts (left_at at rest) → Ended ts at all
ends [] at ts all e so_far = ended_from ts at all (so_far ∙ ap (behind_all ts) (nothing_left at))
ends (b ∷ bs) at ts all e so_far = absurd (cc e)
