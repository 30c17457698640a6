-- Tokens have one reading at most: a map with its length, or a first fault.
use Rattle.std.proofs.Common.{◌≡◌, ℕ, ◌+◌, Bool, List, [], ◌∷◌, ◌++◌, length, Some, Result, Ok, Err, ◌⊎◌, refl, sym, ap, subst, ◌∙◌, inl, inr, append_assoc}
use Rattle.std.proofs.lemmas.List.{append-nil}
use Rattle.text_format.specs.Token.{TokenShape}
use Rattle.affine_maps.specs.Shape.{MapShape}
use Rattle.affine_text.specs.declared.reading.fault.MapError.{MapError}
use Rattle.affine_text.specs.declared.reading.fault.MapError.TheVariants.{BadText, Form, Range, Memory}
use Rattle.affine_text.specs.declared.reading.place.Place.{Place}
use Rattle.affine_text.specs.declared.reading.place.Place.TheVariants as places
use Rattle.affine_text.specs.Grammar.{MapTree, map_tokens, IsMapTree}
use Rattle.affine_text.specs.Meaning.{meaning}
use Rattle.affine_text.specs.Faults.{Stream, Begins, AllHave, Stops, FaultWithin, FaultBehind, IsFirstFault, IsMapText, IsAnswer}
use Rattle.affine_text.specs.Reading.{Spot, spot_behind, first_spot}
use Rattle.affine_text.proofs.GoesOn.{RestAt, rest_tokens, RestFits, rest_means}
use Rattle.affine_text.proofs.Forward.{Onward, forward, IsWholeAt, begins}
use Rattle.affine_text.proofs.OneTree.{heads, tails, one_tree}
use Rattle.affine_text.proofs.HasRead.{Onto, first_read}

-- ---- from one spot

only_whole : (p : Place) → IsWholeAt p → p ≡ places.Whole
only_whole places.Whole w = refl
only_whole _ w = absurd w

ended : (p : Place) (n : ℕ) (r : RestAt p n) → IsWholeAt p → rest_tokens p n r ≡ []
ended p n r w = subst (λ (x : Place). (q : RestAt x n) → rest_tokens x n q ≡ []) (sym (only_whole p w)) (λ q. refl) r

some_same : {A : Type 0} (a b : A) → Some a ≡ Some b → a ≡ b
some_same a b e = cc

-- a token moves the reader to one spot
onto : (symbols : Bool) (t : TokenShape) (s next : Spot) (ts : List TokenShape) (r : RestAt s.place s.depth) → Onward symbols s t ts (rest_means s.place s.depth r s.names) → spot_behind symbols s t ≡ Some next
    → Onto symbols t s next ts (rest_means s.place s.depth r s.names)
onto symbols t s next ts r o e =
    subst (λ (n : Spot). Onto symbols t s n ts (rest_means s.place s.depth r s.names)) (some_same o.next next (sym o.moves ∙ e)) (record { rest = o.rest; fits = o.fits; spelled = o.spelled; same = o.same })

-- where tokens go on from a spot up to the end of a map, no longer ones do
one_rest : (symbols : Bool) (ts : List TokenShape) (s : Spot) (r q : RestAt s.place s.depth) (after : List TokenShape)
    → RestFits symbols s.place s.depth r s.names s.room → RestFits symbols s.place s.depth q s.names s.room → rest_tokens s.place s.depth r ≡ ts → rest_tokens s.place s.depth q ≡ ts ++ after → after ≡ []
one_rest symbols [] s r q after f g d e =
    elim (begins symbols s.place s.depth r s.names s.room f) [
      | inl w ↦ sym e ∙ ended s.place s.depth q w
      | inr b ↦ absurd (cc (sym d ∙ b.2))
    ]
one_rest symbols (t ∷ ts) s r q after f g d e =
    let o = forward symbols s r t ts f d in
    let p = onto symbols t s o.next (ts ++ after) q (forward symbols s q t (ts ++ after) g e) o.moves in
    one_rest symbols ts o.next o.rest p.rest after o.fits p.fits o.spelled p.spelled

-- ---- maps' texts

-- no map's text goes on behind another, and the same tokens are the same tree
one_map : (symbols : Bool) (x y : MapTree) (after : List TokenShape) → IsMapTree symbols x → IsMapTree symbols y → map_tokens y ≡ map_tokens x ++ after → (after ≡ []) × (x ≡ y)
one_map symbols x y after i j e =
    let r = (first_read symbols).on x (map_tokens x) i refl in
    let q = (first_read symbols).on y (map_tokens x ++ after) j e in
    let none = one_rest symbols (map_tokens x) first_spot r.0 q.0 after r.1 q.1 r.2 q.2 in
    (none, one_tree x y (sym (e ∙ ap (λ (ts : List TokenShape). map_tokens x ++ ts) none ∙ append-nil (map_tokens x))))

-- ---- two fronts of the same tokens

-- the one is the other, or goes on behind it
data Fronts (us vs ws xs : List TokenShape) : Type 0 where
  Longer : (zs : List TokenShape) → ws ≡ us ++ zs → vs ≡ zs ++ xs → Fronts us vs ws xs
  Shorter : (z : TokenShape) (zs : List TokenShape) → us ≡ ws ++ z ∷ zs → xs ≡ z ∷ (zs ++ vs) → Fronts us vs ws xs

one_more : (u w : TokenShape) (us vs ws xs : List TokenShape) → u ≡ w → Fronts us vs ws xs → Fronts (u ∷ us) vs (w ∷ ws) xs
one_more u w us vs ws xs e (Longer zs f g) = Longer zs (ap (λ (t : TokenShape). t ∷ ws) (sym e) ∙ ap (λ (ts : List TokenShape). u ∷ ts) f) g
one_more u w us vs ws xs e (Shorter z zs f g) = Shorter z zs (ap (λ (t : TokenShape). t ∷ us) e ∙ ap (λ (ts : List TokenShape). w ∷ ts) f) g

fronts_of : (us vs ws xs : List TokenShape) → us ++ vs ≡ ws ++ xs → Fronts us vs ws xs
fronts_of [] vs ws xs e = Longer ws refl e
fronts_of (u ∷ us) vs [] xs e = Shorter u us refl (sym e)
fronts_of (u ∷ us) vs (w ∷ ws) xs e = one_more u w us vs ws xs (heads u w (us ++ vs) (ws ++ xs) e) (fronts_of us vs ws xs (tails u w (us ++ vs) (ws ++ xs) e))

last_of : TokenShape → List TokenShape → TokenShape
last_of t [] = t
last_of t (u ∷ us) = last_of u us

last_is : (d : TokenShape) (ts : List TokenShape) (t : TokenShape) → last_of d (ts ++ t ∷ []) ≡ t
unfolding last_of
last_is d [] t = refl
last_is d (u ∷ us) t = last_is u us t

same_last : (ts us : List TokenShape) (t u : TokenShape) → ts ++ t ∷ [] ≡ us ++ u ∷ [] → t ≡ u
same_last ts us t u e = sym (last_is t ts t) ∙ ap (last_of t) e ∙ last_is t us u

-- ---- one answer

ok_same : (r : Result MapShape MapError) (m o : MapShape) → r ≡ Ok m → r ≡ Ok o → m ≡ o
ok_same r m o e f = cc

err_same : (r : Result MapShape MapError) (f g : MapError) → r ≡ Err f → r ≡ Err g → f ≡ g
err_same r f g d e = cc

both_maps : (symbols : Bool) (x y : MapTree) (ts us : List TokenShape) (t u : TokenShape) (after rest : List TokenShape) → IsMapTree symbols x → IsMapTree symbols y → map_tokens x ≡ ts ++ t ∷ [] → map_tokens y ≡ us ++ u ∷ []
    → (ts ++ t ∷ []) ++ after ≡ (us ++ u ∷ []) ++ rest → (t ≡ u) × (x ≡ y)
both_maps symbols x y ts us t u after rest i j d e h =
    elim (fronts_of (ts ++ t ∷ []) after (us ++ u ∷ []) rest h) [
      | Longer zs f g ↦
          let o = one_map symbols x y zs i j (e ∙ f ∙ ap (λ (ks : List TokenShape). ks ++ zs) (sym d)) in
          (same_last ts us t u (sym (f ∙ ap (λ (ks : List TokenShape). (ts ++ t ∷ []) ++ ks) o.0 ∙ append-nil (ts ++ t ∷ []))), o.1)
      | Shorter z zs f g ↦
          let o = one_map symbols y x (z ∷ zs) j i (d ∙ f ∙ ap (λ (ks : List TokenShape). ks ++ z ∷ zs) (sym e)) in
          absurd (cc o.0)
    ]

pub map_and_map : (symbols : Bool) (s : Stream) (m o : MapShape) (n k : ℕ) → IsMapText symbols s m n → IsMapText symbols s o k → (m ≡ o) × (n ≡ k)
map_and_map symbols s m o n k p q =
    let c = both_maps symbols p.0 q.0 p.1 q.1 p.2 q.2 p.3 q.3 p.4 q.4 p.5 q.5 (sym p.6 ∙ q.6) in
    (ok_same (meaning p.0) m o p.7 (ap meaning c.1 ∙ q.7), p.8 ∙ ap (λ (t : TokenShape). t.start + length t.text) c.0 ∙ sym q.8)

-- ---- a map and a fault

-- tokens with which some map's text begins are the front of the one that stands there
front_of_map : (symbols : Bool) (x : MapTree) (rest ts after : List TokenShape) → IsMapTree symbols x → map_tokens x ++ rest ≡ ts ++ after → Begins symbols ts → (zs : List TokenShape) × (map_tokens x ≡ ts ++ zs) × (after ≡ zs ++ rest)
front_of_map symbols x rest ts after i e b =
    elim (fronts_of ts after (map_tokens x) rest (sym e)) [
      | Longer zs f g ↦ (zs, f, g)
      | Shorter z zs f g ↦
          let o = one_map symbols x b.0 (z ∷ (zs ++ b.1)) i b.2 (b.3 ∙ ap (λ (ks : List TokenShape). ks ++ b.1) f ∙ append_assoc (map_tokens x) (z ∷ zs) b.1) in
          absurd (cc o.0)
    ]

longer : (ts : List TokenShape) (t : TokenShape) (after : List TokenShape) → (ts ++ t ∷ []) ++ after ≡ ts ++ t ∷ after
longer ts t after = append_assoc ts (t ∷ []) after

-- no text goes on with the token where they stop
stops_there : (symbols : Bool) (ts : List TokenShape) (t : TokenShape) (after : List TokenShape) (end : ℕ) (fault : MapError) → Stops symbols ts (t ∷ after) end fault → (x : MapTree) (zs : List TokenShape) → IsMapTree symbols x → map_tokens x ≡ ts ++ t ∷ zs → ⊥
stops_there symbols ts t after end fault s x zs i e = s.0 (x, zs, i, e ∙ sym (longer ts t zs))

not_behind : (symbols : Bool) (x : MapTree) (rest ts zs after : List TokenShape) (end : ℕ) (fault : MapError) → IsMapTree symbols x → map_tokens x ≡ ts ++ zs → after ≡ zs ++ rest → FaultBehind symbols ts after end fault → ⊥
not_behind symbols x rest ts [] after end fault i e g b = b.1 (x, i, e ∙ append-nil ts)
not_behind symbols x rest ts (z ∷ zs) after end fault i e g b = stops_there symbols ts z (zs ++ rest) end fault (subst (λ (ks : List TokenShape). Stops symbols ts ks end fault) g b.3) x zs i e

pub map_and_fault : (symbols : Bool) (s : Stream) (m : MapShape) (n : ℕ) (fault : MapError) → IsMapText symbols s m n → IsFirstFault symbols s fault → ⊥
map_and_fault symbols s m n fault p q =
    let same : map_tokens p.0 ++ p.3 ≡ q.0 ++ q.1 = ap (λ (ks : List TokenShape). ks ++ p.3) p.5 ∙ sym p.6 ∙ q.2 in
    elim q.3 [
      | inl w ↦
          let z = front_of_map symbols p.0 p.3 q.0 q.1 p.4 same w.0 in
          absurd (cc (sym p.7 ∙ w.1 p.0 z.0 p.4 z.1))
      | inr w ↦
          let z = front_of_map symbols p.0 p.3 q.0 q.1 p.4 same w.0 in
          not_behind symbols p.0 p.3 q.0 z.0 q.1 s.end fault p.4 z.1 z.2 w
    ]

-- ---- two faults

abbrev HasFault : Bool → List TokenShape → List TokenShape → ℕ → MapError → Type 0
HasFault symbols ts after end fault = FaultWithin symbols ts fault ⊎ FaultBehind symbols ts after end fault

all_longer : (symbols : Bool) (ts zs : List TokenShape) (fault : MapError) → AllHave symbols ts fault → AllHave symbols (ts ++ zs) fault
all_longer symbols ts zs fault a = λ x after i e. a x (zs ++ after) i (e ∙ append_assoc ts zs after)

stops_alike : (symbols : Bool) (ts after : List TokenShape) (end : ℕ) (f g : MapError) → Stops symbols ts after end f → Stops symbols ts after end g → f ≡ g
stops_alike symbols ts [] end f g p q = p ∙ sym q
stops_alike symbols ts (t ∷ after) end f g p q =
    elim p.1 [
      | inl a ↦ elim q.1 [ inl b ↦ a.1 ∙ sym b.1 | inr b ↦ absurd (b.0 a.0) ]
      | inr a ↦ elim q.1 [ inl b ↦ absurd (a.0 b.0) | inr b ↦ a.1 ∙ sym b.1 ]
    ]

-- one fault behind these tokens, and one as soon or later
behind_and_within : (symbols : Bool) (ts zs after : List TokenShape) (end : ℕ) (f g : MapError) → FaultBehind symbols ts (zs ++ after) end f → FaultWithin symbols (ts ++ zs) g → f ≡ g
behind_and_within symbols ts [] after end f g p q = absurd (p.2 g (λ x rest i e. q.1 x rest i (e ∙ ap (λ (ks : List TokenShape). ks ++ rest) (sym (append-nil ts)))))
behind_and_within symbols ts (z ∷ zs) after end f g p q = absurd (stops_there symbols ts z (zs ++ after) end f p.3 q.0.0 (zs ++ q.0.1) q.0.2 (q.0.3 ∙ append_assoc ts (z ∷ zs) q.0.1))

behind_and_behind : (symbols : Bool) (ts zs after : List TokenShape) (end : ℕ) (f g : MapError) → FaultBehind symbols ts (zs ++ after) end f → FaultBehind symbols (ts ++ zs) after end g → f ≡ g
behind_and_behind symbols ts [] after end f g p q = stops_alike symbols ts after end f g p.3 (subst (λ (ks : List TokenShape). Stops symbols ks after end g) (append-nil ts) q.3)
behind_and_behind symbols ts (z ∷ zs) after end f g p q = absurd (stops_there symbols ts z (zs ++ after) end f p.3 q.0.0 (zs ++ q.0.1) q.0.2 (q.0.3 ∙ append_assoc ts (z ∷ zs) q.0.1))

as_soon : (symbols : Bool) (ts zs after : List TokenShape) (end : ℕ) (f g : MapError) → HasFault symbols ts (zs ++ after) end f → HasFault symbols (ts ++ zs) after end g → f ≡ g
as_soon symbols ts zs after end f g (inl p) (inl q) = err_same (meaning q.0.0) f g (all_longer symbols ts zs f p.1 q.0.0 q.0.1 q.0.2 q.0.3) (q.1 q.0.0 q.0.1 q.0.2 q.0.3)
as_soon symbols ts zs after end f g (inl p) (inr q) = absurd (q.2 f (all_longer symbols ts zs f p.1))
as_soon symbols ts zs after end f g (inr p) (inl q) = behind_and_within symbols ts zs after end f g p q
as_soon symbols ts zs after end f g (inr p) (inr q) = behind_and_behind symbols ts zs after end f g p q

in_order : (symbols : Bool) (us vs ws xs : List TokenShape) (end : ℕ) (f g : MapError) → us ++ vs ≡ ws ++ xs → HasFault symbols us vs end f → HasFault symbols ws xs end g → f ≡ g
in_order symbols us vs ws xs end f g e p q =
    elim (fronts_of us vs ws xs e) [
      | Longer zs c d ↦ as_soon symbols us zs xs end f g (subst (λ (ks : List TokenShape). HasFault symbols us ks end f) d p) (subst (λ (ks : List TokenShape). HasFault symbols ks xs end g) c q)
      | Shorter z zs c d ↦ sym (as_soon symbols ws (z ∷ zs) vs end g f (subst (λ (ks : List TokenShape). HasFault symbols ws ks end g) d q) (subst (λ (ks : List TokenShape). HasFault symbols ks vs end f) c p))
    ]

pub fault_and_fault : (symbols : Bool) (s : Stream) (f g : MapError) → IsFirstFault symbols s f → IsFirstFault symbols s g → f ≡ g
fault_and_fault symbols s f g p q = in_order symbols p.0 p.1 q.0 q.1 s.end f g (sym p.2 ∙ q.2) p.3 q.3

-- ---- two answers

-- what an answer says
data Says (symbols : Bool) (s : Stream) (r : Result (MapShape × ℕ) MapError) : Type 0 where
  AMap : (m : MapShape × ℕ) → r ≡ Ok m → IsMapText symbols s m.0 m.1 → Says symbols s r
  AFault : (f : MapError) → r ≡ Err f → IsFirstFault symbols s f → Says symbols s r
  Nothing : r ≡ Err Memory → Says symbols s r

says : (symbols : Bool) (s : Stream) (r : Result (MapShape × ℕ) MapError) → IsAnswer symbols s r → Says symbols s r
says symbols s (Ok m) h = AMap m refl h
says symbols s (Err Memory) h = Nothing refl
says symbols s (Err (BadText at)) h = AFault (BadText at) refl h
says symbols s (Err (Form at)) h = AFault (Form at) refl h
says symbols s (Err (Range at)) h = AFault (Range at) refl h

abbrev IsOne : Result (MapShape × ℕ) MapError → Result (MapShape × ℕ) MapError → Type 0
IsOne r q = (r ≡ q) ⊎ ((r ≡ Err Memory) ⊎ (q ≡ Err Memory))

both_say : (symbols : Bool) (s : Stream) (r q : Result (MapShape × ℕ) MapError) → Says symbols s r → Says symbols s q → IsOne r q
both_say symbols s r q (Nothing d) b = inr (inl d)
both_say symbols s r q a (Nothing e) = inr (inr e)
both_say symbols s r q (AMap m d h) (AMap o e k) =
    let same = map_and_map symbols s m.0 o.0 m.1 o.1 h k in
    inl (d ∙ ap (λ (x : MapShape). Ok (x, m.1)) same.0 ∙ ap (λ (n : ℕ). Ok (o.0, n)) same.1 ∙ sym e)
both_say symbols s r q (AMap m d h) (AFault f e k) = absurd (map_and_fault symbols s m.0 m.1 f h k)
both_say symbols s r q (AFault f d h) (AMap m e k) = absurd (map_and_fault symbols s m.0 m.1 f k h)
both_say symbols s r q (AFault f d h) (AFault g e k) = inl (d ∙ ap (λ (x : MapError). Err x) (fault_and_fault symbols s f g h k) ∙ sym e)

pub two_answers : (symbols : Bool) (s : Stream) (r q : Result (MapShape × ℕ) MapError) → IsAnswer symbols s r → IsAnswer symbols s q → (r ≡ q) ⊎ ((r ≡ Err Memory) ⊎ (q ≡ Err Memory))
two_answers symbols s r q a b = both_say symbols s r q (says symbols s r a) (says symbols s q b)
