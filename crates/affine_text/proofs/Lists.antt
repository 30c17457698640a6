-- Reading a list of tokens as one map.
use Rattle.std.proofs.Common.{◌≡◌, ℕ, suc, ◌<◌, ◌≤◌, Bool, true, false, cond, List, [], ◌∷◌, ◌++◌, length, drop, get_or, Option, Some, None, Result, Ok, Err, ◌⊎◌, refl, sym, ap, subst, ◌∙◌, inl, inr, append_assoc}
use Rattle.std.proofs.Math.ListN.{drop_of_length-le}
use Rattle.std.proofs.Math.Seq.{drop-cons}
use Rattle.std.proofs.lemmas.List.{append-nil}
use Rattle.text_format.specs.Token.{TokenShape}
use Rattle.affine_maps.specs.Map.{IsMap}
use Rattle.affine_text.specs.declared.reading.fault.MapError.{MapError}
use Rattle.affine_text.specs.declared.reading.fault.MapError.TheVariants.{BadText, Form, Range, Memory}
use Rattle.affine_text.specs.declared.reading.place.Place.{Place}
use Rattle.affine_text.specs.declared.reading.place.Place.TheVariants as places
use Rattle.affine_text.specs.Grammar.{MapTree, IsMapTree, map_tokens}
use Rattle.affine_text.specs.Meaning.{and_then, meaning}
use Rattle.affine_text.specs.Faults.{Spells, IsFirstFault}
use Rattle.affine_text.specs.Reading.{Spot, Gathered, spot_behind, spot_by, gathered_with, step_of, sign_of}
use Rattle.affine_text.specs.Feeding.{ReaderShape, Answers, first_reader, read_with, is_whole, map_read, refusal, taken_by}
use Rattle.affine_text.specs.OfTokens.{last_start, read_all, whole_map, map_of_tokens, stream_with, IsBehindMap, IsReading, Gives}
use Rattle.affine_text.proofs.Feeds.{Read, read_on, fault_at}
use Rattle.affine_text.proofs.Fits.{meaning_is_map}
use Rattle.affine_text.proofs.Forward.{spot}
use Rattle.affine_text.proofs.HasRead.{HasRead, reads_on, fault_within, none_with, fault_at_end, whole_text, first_read}
use Rattle.affine_text.proofs.Parsing.{within_from, whole_read, whole_from}

longer : (ts : List TokenShape) (t : TokenShape) (after : List TokenShape) → (ts ++ t ∷ []) ++ after ≡ ts ++ t ∷ after
longer ts t after = append_assoc ts (t ∷ []) after

-- ---- a tree is read to its meaning

taken_means : (symbols : Bool) (done : List TokenShape) (s : Spot) (v : Gathered) (t : TokenShape) (rest : List TokenShape) (at : ℕ) (x : MapTree) (o : Option Spot) (g : Result Gathered MapError) (e : MapError) → HasRead symbols done s v
    → spot_behind symbols s t ≡ o → gathered_with s t v ≡ g → IsMapTree symbols x → map_tokens x ≡ (done ++ t ∷ []) ++ rest
    → ((next : ReaderShape) → next.symbols ≡ symbols → Read next (done ++ t ∷ []) → and_then (read_all rest next) (whole_map at) ≡ meaning x)
    → and_then (and_then (taken_by symbols o g e) (read_all rest)) (whole_map at) ≡ meaning x
taken_means symbols done s v t rest at x None g e h m k is f ih = absurd (none_with symbols done s v t h m (x, rest, is, f))
taken_means symbols done s v t rest at x (Some n) (Err fault) e h m k is f ih = sym ((fault_within symbols done s n v t fault h m k).1 x rest is f)
taken_means symbols done s v t rest at x (Some n) (Ok u) e h m k is f ih = ih (record { symbols = symbols; spot = n; gathered = u }) refl (reads_on symbols done s n v u t h m k)

at_end : (b : Bool) (r : ReaderShape) (done : List TokenShape) (at : ℕ) (x : MapTree) → is_whole r.spot.place ≡ b → Read r done → IsMapTree r.symbols x → map_tokens x ≡ done → cond b (Ok (map_read r)) (Err (BadText at)) ≡ meaning x
at_end true r done at x w h is f = whole_means r.symbols r.spot.names r.spot.depth r.spot.room r.gathered done x (whole_read r done w h) is f
  where
    whole_means : (symbols : Bool) (names : List (List ℕ)) (n room : ℕ) (v : Gathered) (done : List TokenShape) (x : MapTree) → HasRead symbols done (spot places.Whole names n room) v → IsMapTree symbols x → map_tokens x ≡ done
        → Ok (record { dims = length names; results = v.results }) ≡ meaning x
    whole_means symbols names n room v done x h is f = let o = h.on x [] is (f ∙ sym (append-nil done)) in sym o.3
at_end false r done at x w h is f =
    let b = fault_at_end r.symbols done r.spot r.gathered at h (within_from r.spot.place w) in
    absurd (b.1 (x, is, f))

reads_by : (ts : List TokenShape) (r : ReaderShape) (done : List TokenShape) (at : ℕ) (x : MapTree) → Read r done → IsMapTree r.symbols x → map_tokens x ≡ done ++ ts → and_then (read_all ts r) (whole_map at) ≡ meaning x
unfolding read_with spot_by gathered_with
reads_by [] r done at x h is f = at_end (is_whole r.spot.place) r done at x refl h is (f ∙ append-nil done)
reads_by (t ∷ ts) r done at x h is f =
    let g = f ∙ sym (longer done t ts) in
    taken_means r.symbols done r.spot r.gathered t ts at x (spot_behind r.symbols r.spot t) (gathered_with r.spot t r.gathered) (refusal (step_of r.spot.place (sign_of t)) t) h refl refl is g
    (λ next same q. reads_by ts next (done ++ t ∷ []) at x q (subst (λ (b : Bool). IsMapTree b x) (sym same) is) g)

pub reads_tree : (symbols : Bool) (ts : List TokenShape) (x : MapTree) → IsMapTree symbols x → map_tokens x ≡ ts → map_of_tokens symbols ts ≡ meaning x
unfolding map_of_tokens
reads_tree symbols ts x is f = reads_by ts (first_reader symbols) [] (last_start ts 0) x (first_read symbols) is f

-- ---- what is read

-- behind all the tokens
abbrev ReadOn : ReaderShape → ReaderShape → List TokenShape → Type 0
ReadOn r next ts = (next.symbols ≡ r.symbols) × Read next ts

on_by : (ts : List TokenShape) (r next : ReaderShape) (done : List TokenShape) (t : TokenShape) (m : Result ReaderShape MapError) → Read r done → read_with r t ≡ m
    → ((q : ReaderShape) → Read q (done ++ t ∷ []) → read_all ts q ≡ Ok next → ReadOn q next ((done ++ t ∷ []) ++ ts)) → and_then m (read_all ts) ≡ Ok next → ReadOn r next (done ++ t ∷ ts)
on_by ts r next done t (Err f) h k ih e = absurd (cc e)
on_by ts r next done t (Ok q) h k ih e =
    let one = read_on r done t q h k in
    let rest = ih q one.1 e in
    (rest.0 ∙ one.0, subst (Read next) (longer done t ts) rest.1)

read_all_on : (ts : List TokenShape) (r next : ReaderShape) (done : List TokenShape) → Read r done → read_all ts r ≡ Ok next → ReadOn r next (done ++ ts)
read_all_on [] r next done h e =
    let same : r ≡ next = cc in
    subst (λ (x : ReaderShape). ReadOn r x (done ++ [])) same (refl, subst (Read r) (sym (append-nil done)) h)
read_all_on (t ∷ ts) r next done h e = on_by ts r next done t (read_with r t) h refl (λ q g k. read_all_on ts q next (done ++ t ∷ []) g k) e

-- a token behind the map
whole_refuses : (symbols : Bool) (p : Place) (names : List (List ℕ)) (n room : ℕ) (v : Gathered) (t : TokenShape) → p ≡ places.Whole → read_with (record { symbols = symbols; spot = spot p names n room; gathered = v }) t ≡ Err (BadText t.start)
unfolding read_with
whole_refuses symbols p names n room v t e = ap (λ (q : Place). read_with (record { symbols = symbols; spot = spot q names n room; gathered = v }) t) e

err_same : (m : Result ReaderShape MapError) (a b : MapError) → m ≡ Err a → m ≡ Err b → a ≡ b
err_same m a b e f = cc

whole_spells : (r : ReaderShape) (done : List TokenShape) → is_whole r.spot.place ≡ true → Read r done → Spells r.symbols done
whole_spells r done w h =
    let x = whole_text r.symbols done r.spot.names r.spot.depth r.spot.room r.gathered (whole_read r done w h) in
    (x.0, x.1, x.2)

abbrev IsFault : Bool → List TokenShape → MapError → Type 0
IsFault symbols all fault = IsFirstFault symbols (stream_with all) fault ⊎ IsBehindMap symbols all fault

refused_by : (b : Bool) (r : ReaderShape) (done : List TokenShape) (t : TokenShape) (ts all : List TokenShape) (fault : MapError) → is_whole r.spot.place ≡ b → Read r done → all ≡ done ++ t ∷ ts → read_with r t ≡ Err fault → IsFault r.symbols all fault
refused_by true r done t ts all fault w h is e =
    inr (done, t, ts, is, whole_spells r done w h, err_same (read_with r t) fault (BadText t.start) e (whole_refuses r.symbols r.spot.place r.spot.names r.spot.depth r.spot.room r.gathered t (whole_from r.spot.place w)))
refused_by false r done t ts all fault w h is e =
    elim (fault_at r done t ts (last_start all 0) fault h (within_from r.spot.place w) e) [
      | inl f ↦ inl (done ++ t ∷ [], ts, is ∙ sym (longer done t ts), inl f)
      | inr f ↦ inl (done, t ∷ ts, is, inr f)
    ]

fault_by : (ts : List TokenShape) (r : ReaderShape) (done all : List TokenShape) (t : TokenShape) (fault : MapError) (m : Result ReaderShape MapError) → Read r done → all ≡ done ++ t ∷ ts → read_with r t ≡ m
    → ((q : ReaderShape) → q.symbols ≡ r.symbols → Read q (done ++ t ∷ []) → read_all ts q ≡ Err fault → IsFault q.symbols all fault) → and_then m (read_all ts) ≡ Err fault → IsFault r.symbols all fault
fault_by ts r done all t fault (Err f) h is k ih e =
    let same : f ≡ fault = cc in
    refused_by (is_whole r.spot.place) r done t ts all fault refl h is (k ∙ ap Err same)
fault_by ts r done all t fault (Ok q) h is k ih e =
    let one = read_on r done t q h k in
    subst (λ (b : Bool). IsFault b all fault) one.0 (ih q one.0 one.1 e)

fault_in : (ts : List TokenShape) (r : ReaderShape) (done all : List TokenShape) (fault : MapError) → Read r done → all ≡ done ++ ts → read_all ts r ≡ Err fault → IsFault r.symbols all fault
fault_in [] r done all fault h is e = absurd (cc e)
fault_in (t ∷ ts) r done all fault h is e =
    fault_by ts r done all t fault (read_with r t) h is refl (λ q same g k. fault_in ts q (done ++ t ∷ []) all fault g (is ∙ sym (longer done t ts)) k) e

ends_by : (b : Bool) (r : ReaderShape) (ts : List TokenShape) → is_whole r.spot.place ≡ b → Read r ts → IsReading r.symbols ts (cond b (Ok (map_read r)) (Err (BadText (last_start ts 0))))
ends_by true r ts w h =
    let x = whole_text r.symbols ts r.spot.names r.spot.depth r.spot.room r.gathered (whole_read r ts w h) in
    (x.0, x.1, x.2, x.3)
ends_by false r ts w h = inl (ts, [], sym (append-nil ts), inr (fault_at_end r.symbols ts r.spot r.gathered (last_start ts 0) h (within_from r.spot.place w)))

told_by : (symbols : Bool) (ts : List TokenShape) (m : Result ReaderShape MapError) → read_all ts (first_reader symbols) ≡ m → IsReading symbols ts (and_then m (whole_map (last_start ts 0)))
told_by symbols ts (Err fault) e = fault_in ts (first_reader symbols) [] ts fault (first_read symbols) refl e
told_by symbols ts (Ok r) e =
    let g = read_all_on ts (first_reader symbols) r [] (first_read symbols) e in
    subst (λ (b : Bool). IsReading b ts (whole_map (last_start ts 0) r)) g.0 (ends_by (is_whole r.spot.place) r ts refl g.1)

pub told : (symbols : Bool) (ts : List TokenShape) → IsReading symbols ts (map_of_tokens symbols ts)
unfolding map_of_tokens
told symbols ts = told_by symbols ts (read_all ts (first_reader symbols)) refl

-- ---- the loop

pub whole_is_map : (symbols : Bool) (ts : List TokenShape) (r : ReaderShape) → Ok r ≡ read_all ts (first_reader symbols) → is_whole r.spot.place ≡ true → IsMap (map_read r)
whole_is_map symbols ts r e w =
    let g = read_all_on ts (first_reader symbols) r [] (first_read symbols) (sym e) in
    let x = whole_text r.symbols ts r.spot.names r.spot.depth r.spot.room r.gathered (whole_read r ts w g.1) in
    meaning_is_map r.symbols x.0 (map_read r) x.1 x.3

pub whole_given : (symbols : Bool) (ts : List TokenShape) (r : ReaderShape) → Ok r ≡ read_all ts (first_reader symbols) → is_whole r.spot.place ≡ true → map_of_tokens symbols ts ≡ Ok (map_read r)
unfolding map_of_tokens
whole_given symbols ts r e w =
    ap (λ (m : Result ReaderShape MapError). and_then m (whole_map (last_start ts 0))) (sym e) ∙ ap (λ (b : Bool). cond b (Ok (map_read r)) (Err (BadText (last_start ts 0)))) w

pub end_given : (symbols : Bool) (ts : List TokenShape) (r : ReaderShape) (at : ℕ) → Ok r ≡ read_all ts (first_reader symbols) → at ≡ last_start ts 0 → is_whole r.spot.place ≡ false → map_of_tokens symbols ts ≡ Err (BadText at)
unfolding map_of_tokens
end_given symbols ts r at e l w =
    ap (λ (m : Result ReaderShape MapError). and_then m (whole_map (last_start ts 0))) (sym e) ∙ ap (λ (b : Bool). cond b (Ok (map_read r)) (Err (BadText (last_start ts 0)))) w ∙ ap (λ n. Err (BadText n)) (sym l)

pub none_left : (ts : List TokenShape) (i : ℕ) (r : ReaderShape) (all : Result ReaderShape MapError) → length ts ≤ i → read_all (drop i ts) r ≡ all → Ok r ≡ all
none_left ts i r all h e = sym (ap (λ (us : List TokenShape). read_all us r) (drop_of_length-le ts h)) ∙ e

pub last_left : (ts : List TokenShape) (i at last : ℕ) → length ts ≤ i → last_start (drop i ts) at ≡ last → at ≡ last
last_left ts i at last h e = sym (ap (λ (us : List TokenShape). last_start us at) (drop_of_length-le ts h)) ∙ e

refused_at : (symbols : Bool) (ts : List TokenShape) (i : ℕ) (r : ReaderShape) (t : TokenShape) (fault : MapError) → i < length ts → t ≡ get_or ts i t → read_all (drop i ts) r ≡ read_all ts (first_reader symbols) → read_with r t ≡ Err fault
    → map_of_tokens symbols ts ≡ Err fault
unfolding map_of_tokens
refused_at symbols ts i r t fault h e read w =
    let front : drop i ts ≡ t ∷ drop (suc i) ts = drop-cons ts i t h ∙ ap (λ (x : TokenShape). x ∷ drop (suc i) ts) (sym e) in
    let all : read_all ts (first_reader symbols) ≡ Err fault = sym read ∙ ap (λ (us : List TokenShape). read_all us r) front ∙ ap (λ (m : Result ReaderShape MapError). and_then m (read_all (drop (suc i) ts))) w in
    ap (λ (m : Result ReaderShape MapError). and_then m (whole_map (last_start ts 0))) all

pub err_given : (B : Type 0) (symbols : Bool) (ts : List TokenShape) (i : ℕ) (r now : ReaderShape) (t : TokenShape) (e : MapError) → i < length ts → t ≡ get_or ts i t → read_all (drop i ts) r ≡ read_all ts (first_reader symbols)
    → Answers {B = B} (read_with r t) (Err e) now → Gives (map_of_tokens symbols ts) (Err e)
err_given B symbols ts i r now t Memory h same read w = tt
err_given B symbols ts i r now t (BadText at) h same read w = refused_at symbols ts i r t (BadText at) h same read w
err_given B symbols ts i r now t (Form at) h same read w = refused_at symbols ts i r t (Form at) h same read w
err_given B symbols ts i r now t (Range at) h same read w = refused_at symbols ts i r t (Range at) h same read w
