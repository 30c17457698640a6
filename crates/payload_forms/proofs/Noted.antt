-- What arguments name, one after another.
use Rattle.std.proofs.Common.{◌≡◌, ℕ, ◌+◌, ◌&&◌, not, Bool, true, false, ℤ, List, [], ◌∷◌, ◌++◌, ◌<◌, map, take, get_or, length, refl, ap, sym, subst, ◌∙◌, arith, append_assoc, length-append}
use Rattle.std.specs.Prelude.{nat_lt, if◌then◌else◌}
use Rattle.std.proofs.lemmas.List.{append-nil, map_more}
use Rattle.payload_ops.specs.declared.step.Arg.{Arg}
use Rattle.payload_ops.specs.declared.step.Arg.TheVariants.{Step}
use Rattle.mlir_meaning.specs.Grids.{count_up}
use Rattle.mlir_meaning.specs.Points.{has}
use Rattle.payload_forms.specs.declared.placing.Uses.{Uses}
use Rattle.payload_forms.specs.Captured.{news_of, news}
use Rattle.payload_forms.specs.Uses.{Notes}
use Rattle.payload_forms.proofs.Tables.{count_append}

pub news_append : (c : ℕ) (seen : List ℕ) (args more : List Arg) → news c seen (args ++ more) ≡ news c seen args ++ news c (seen ++ news c seen args) more
news_append c seen [] more = ap (λ ns. news c ns more) (sym (append-nil seen))
news_append c seen (a ∷ args) more =
    ap (λ ns. news_of c seen a ++ ns) (news_append c (seen ++ news_of c seen a) args more)
    ∙ ap (λ ns. news_of c seen a ++ (news c (seen ++ news_of c seen a) args ++ news c ns more)) (append_assoc seen (news_of c seen a) (news c (seen ++ news_of c seen a) args))
    ∙ sym (append_assoc (news_of c seen a) (news c (seen ++ news_of c seen a) args) (news c (seen ++ (news_of c seen a ++ news c (seen ++ news_of c seen a) args)) more))

-- no captured value is named
pub notes_none : (u : Uses) (args : List Arg) → news u.captured u.seen args ≡ [] → Notes u args u
notes_none u args none =
    let zero_right : u.next ≡ u.next + 0 = omega arith in
    record {
      captured = refl;
      seen = sym (append-nil u.seen) ∙ ap (λ ns. u.seen ++ ns) (sym none);
      spots = sym (append-nil u.spots) ∙ ap (λ ns. u.spots ++ count_up u.next (length ns)) (sym none);
      others = refl;
      next = zero_right ∙ ap (λ ns. u.next + length ns) (sym none);
    }

-- some arguments, and then others
module _ (old mid new : Uses) (args more : List Arg) (a : Notes old args mid) (b : Notes mid more new) where
  abbrev here : List ℕ
  here = news old.captured old.seen args

  abbrev later : List ℕ
  later = news old.captured (old.seen ++ here) more

  same : news mid.captured mid.seen more ≡ later
  same = λ i. news (a.captured i) (a.seen i) more

  all : news old.captured old.seen (args ++ more) ≡ here ++ later
  all = news_append old.captured old.seen args more

  count : length (here ++ later) ≡ length here + length later
  count = length-append here later

  spots_then : new.spots ≡ old.spots ++ count_up old.next (length (news old.captured old.seen (args ++ more)))
  spots_then =
      b.spots
      ∙ (λ i. a.spots i ++ count_up (a.next i) (length (same i)))
      ∙ append_assoc old.spots (count_up old.next (length here)) (count_up (old.next + length here) (length later))
      ∙ ap (λ ns. old.spots ++ ns) (sym (count_append old.next (length here) (length later)))
      ∙ ap (λ n. old.spots ++ count_up old.next n) (sym (ap length all ∙ count))

  pub notes_then : Notes old (args ++ more) new
  notes_then = record {
    captured = b.captured ∙ a.captured;
    seen = b.seen ∙ (λ i. a.seen i ++ same i) ∙ append_assoc old.seen here later ∙ ap (λ ns. old.seen ++ ns) (sym all);
    spots = spots_then;
    others = b.others ∙ a.others;
    next = b.next ∙ (λ i. a.next i + length (same i)) ∙ omega (arith, ap length all, count);
  }

-- one captured value more, or none
abbrev pub is_new : Uses → ℕ → Bool
is_new u k = nat_lt k u.captured && not (has u.seen k)

news_one : (u : Uses) (k : ℕ) (b : Bool) → is_new u k ≡ b → news u.captured u.seen (Step k ∷ []) ≡ (if b then k ∷ [] else [])
news_one u k true e = λ i. (if e i then k ∷ [] else []) ++ []
news_one u k false e = λ i. (if e i then k ∷ [] else []) ++ []

pub notes_one : (old new : Uses) (k : ℕ) → is_new old k ≡ true → new.captured ≡ old.captured → new.seen ≡ old.seen ++ k ∷ [] →
    new.spots ≡ old.spots ++ old.next ∷ [] → new.others ≡ old.others → new.next ≡ old.next + 1 → Notes old (Step k ∷ []) new
notes_one old new k e captured seen spots others next =
    let one = news_one old k true e in
    record {
      captured = captured;
      seen = seen ∙ ap (λ ns. old.seen ++ ns) (sym one);
      spots = spots ∙ ap (λ ns. old.spots ++ count_up old.next (length ns)) (sym one);
      others = others;
      next = next ∙ ap (λ ns. old.next + length ns) (sym one);
    }

pub notes_old : (u : Uses) (k : ℕ) → is_new u k ≡ false → Notes u (Step k ∷ []) u
notes_old u k e = notes_none u (Step k ∷ []) (news_one u k false e)

-- the arguments of one term more
pub notes_more : (old mid new : Uses) (terms : List (Arg × ℤ)) (i : ℕ) (d : Arg × ℤ) → i < length terms →
    Notes old (map (λ (t : Arg × ℤ). t.0) (take i terms)) mid → Notes mid ((get_or terms i d).0 ∷ []) new →
    Notes old (map (λ (t : Arg × ℤ). t.0) (take (i + 1) terms)) new
notes_more old mid new terms i d l a b =
    subst (λ names. Notes old names new) (sym (map_more (λ (t : Arg × ℤ). t.0) terms i d l))
    (notes_then old mid new (map (λ (t : Arg × ℤ). t.0) (take i terms)) ((get_or terms i d).0 ∷ []) a b)
