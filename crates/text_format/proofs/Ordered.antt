-- The tokens of a text stand in order.
use Rattle.std.proofs.Common.{◌≡◌, ℕ, zero, suc, ◌+◌, ◌<◌, ◌≤◌, List, [], ◌∷◌, length, drop, subst, Result, Ok, Err, refl, arith}
use Rattle.text_format.specs.declared.front.Front.{Front}
use Rattle.text_format.specs.declared.front.Front.TheVariants as fronts
use Rattle.text_format.specs.declared.span.Span.{Span}
use Rattle.text_format.specs.Bytes.{front, Within}
use Rattle.text_format.specs.Tokens.{Fault, before_others, by_front, tokens_from, tokens_of, InOrder}
use Rattle.text_format.proofs.Runs.{front_within}

sooner : (a b : ℕ) (ts : List Span) → a ≤ b → InOrder b ts → InOrder a ts
sooner a b [] h o = tt
sooner a b (t ∷ ts) h o = (omega (arith, o.0), o.1, o.2)

abbrev nothing_read : Result (List Span) Fault
nothing_read = Ok []

none_in_order : (at : ℕ) (ts : List Span) → nothing_read ≡ Ok ts → InOrder at ts
none_in_order at [] e = tt
none_in_order at (t ∷ ts) e = absurd (cc e)

token_in_order : (at : ℕ) (t : Span) (read : Result (List Span) Fault) (ts : List Span) → at ≤ t.start → t.start < t.end → ((us : List Span) → read ≡ Ok us → InOrder t.end us) → before_others t read ≡ Ok ts → InOrder at ts
token_in_order at t (Ok us) [] lo some h e = absurd (cc e)
token_in_order at t (Ok us) (v ∷ vs) lo some h e =
    let o : InOrder at (t ∷ us) = (lo, some, h us refl) in
    let same : t ∷ us ≡ v ∷ vs = cc e in
    subst (InOrder at) same o
token_in_order at t (Err f) ts lo some h e = absurd (cc e)

step : (at size : ℕ) (go : ℕ → Result (List Span) Fault) (f : Front) (ts : List Span) → Within f size → ((k : ℕ) (us : List Span) → go k ≡ Ok us → InOrder (at + k) us) → by_front at go f ≡ Ok ts → InOrder at ts
step at size go (fronts.Skip k) ts w h e = sooner at (at + k) ts (omega arith) (h k ts e)
step at size go (fronts.Token kind k) ts w h e = token_in_order at (record { kind = kind; start = at; end = at + k }) (go k) ts (omega arith) (omega (arith, w.0)) (h k) e
step at size go (fronts.Byte k) ts w h e = absurd (cc e)
step at size go fronts.Unclosed ts w h e = absurd (cc e)

from_in_order : (n at : ℕ) (bytes : List ℕ) (ts : List Span) → tokens_from n at bytes ≡ Ok ts → InOrder at ts
unfolding tokens_from
from_in_order zero at bytes ts e = none_in_order at ts e
from_in_order (suc n) at [] ts e = none_in_order at ts e
from_in_order (suc n) at (b ∷ rest) ts e =
    step at (suc (length rest)) (λ k. tokens_from n (at + k) (drop k (b ∷ rest))) (front b rest) ts (front_within b rest) (λ k us g. from_in_order n (at + k) (drop k (b ∷ rest)) us g) e

pub tokens_in_order : (text : List ℕ) (ts : List Span) → tokens_of text ≡ Ok ts → InOrder 0 ts
tokens_in_order text ts e = from_in_order (length text) 0 text ts e
