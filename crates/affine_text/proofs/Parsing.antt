-- Reading the map at the front of a text.
use Rattle.std.proofs.Common.{◌≡◌, ℕ, ◌+◌, ◌<◌, ◌≤◌, Bool, true, false, List, [], ◌∷◌, ◌++◌, length, drop, take, Option, Some, None, Ok, Err, refl, sym, ap, subst, ◌∙◌, inl, inr, append_assoc, arith}
use Rattle.std.specs.Option.{IfSome}
use Rattle.std.proofs.lemmas.List.{length-drop, length-take}
use Rattle.text_format.specs.declared.front.Kind.{Kind}
use Rattle.text_format.specs.declared.front.Front.TheVariants as fronts
use Rattle.text_format.specs.Bytes.{first_front}
use Rattle.text_format.specs.Token.{TokenShape}
use Rattle.affine_maps.specs.Map.{IsMap}
use Rattle.affine_maps.specs.Shape.{MapShape}
use Rattle.affine_text.specs.declared.reading.fault.MapError.{MapError}
use Rattle.affine_text.specs.declared.reading.fault.MapError.TheVariants.{BadText, Form, Range, Memory}
use Rattle.affine_text.specs.declared.reading.place.Place.{Place}
use Rattle.affine_text.specs.declared.reading.place.Place.TheVariants as places
use Rattle.affine_text.specs.Faults.{Stream, stream_of, IsFirstFault, IsMapText, IsAnswer}
use Rattle.affine_text.specs.Feeding.{ReaderShape, Answers, read_with, first_reader, is_whole, map_read}
use Rattle.affine_text.proofs.Feeds.{Read, read_on, fault_at}
use Rattle.affine_text.proofs.Fits.{meaning_is_map}
use Rattle.affine_text.proofs.Forward.{spot}
use Rattle.affine_text.proofs.HasRead.{HasRead, IsWithin, first_read, fault_at_end, whole_text}
use Rattle.affine_text.proofs.Streams.{behind_all, left_at, skips, takes, Ended, meets_byte, meets_unclosed, ends}

-- the reader has read these tokens of the text, up to this place, and the map isn't whole
pub record Standing (text : List ℕ) (r : ReaderShape) (at : ℕ) (rest : List ℕ) : Type 0 where
  pub place : at + length rest ≡ length text
  pub symbols : r.symbols ≡ true
  pub within : IsWithin r.spot.place
  pub tokens : List TokenShape
  pub read : Read r tokens
  pub so_far : stream_of text ≡ behind_all tokens (left_at at rest)

nothing_read : (symbols : Bool) → Read (first_reader symbols) []
nothing_read symbols = first_read symbols

pub stands_first : (text : List ℕ) → Standing text (first_reader true) 0 text
stands_first text = record { place = omega arith; symbols = refl; within = tt; tokens = []; read = nothing_read true; so_far = refl }

pub stands_behind : (text : List ℕ) (r : ReaderShape) (at : ℕ) (rest : List ℕ) (k : ℕ) → Some (fronts.Skip k) ≡ first_front rest → 0 < k → k ≤ length rest → Standing text r at rest → Standing text r (at + k) (drop k rest)
stands_behind text r at rest k e lo hi s =
    let l = length-drop k rest in
    let p = s.place in record {
      place = omega (arith, l, p, hi);
      symbols = s.symbols;
      within = s.within;
      tokens = s.tokens;
      read = s.read;
      so_far = skips rest at k s.tokens (stream_of text) e lo s.so_far;
    }

abbrev token_at : Kind → ℕ → ℕ → List ℕ → TokenShape
token_at kind at k rest = record { kind = kind; start = at; text = take k rest }

pub within_from : (p : Place) → is_whole p ≡ false → IsWithin p
within_from places.Whole e = absurd cc
within_from places.Keyword e = tt
within_from places.Less e = tt
within_from places.DimensionsOpen e = tt
within_from places.FirstDimension e = tt
within_from places.NextDimension e = tt
within_from places.DimensionBehind e = tt
within_from places.DimensionsEnd e = tt
within_from places.FirstSymbol e = tt
within_from places.NextSymbol e = tt
within_from places.SymbolBehind e = tt
within_from places.SymbolsEnd e = tt
within_from places.ResultsOpen e = tt
within_from places.FirstResult e = tt
within_from places.Operand e = tt
within_from places.Operator e = tt
within_from places.ResultsEnd e = tt

pub whole_from : (p : Place) → is_whole p ≡ true → p ≡ places.Whole
whole_from places.Whole e = refl
whole_from places.Keyword e = absurd cc
whole_from places.Less e = absurd cc
whole_from places.DimensionsOpen e = absurd cc
whole_from places.FirstDimension e = absurd cc
whole_from places.NextDimension e = absurd cc
whole_from places.DimensionBehind e = absurd cc
whole_from places.DimensionsEnd e = absurd cc
whole_from places.FirstSymbol e = absurd cc
whole_from places.NextSymbol e = absurd cc
whole_from places.SymbolBehind e = absurd cc
whole_from places.SymbolsEnd e = absurd cc
whole_from places.ResultsOpen e = absurd cc
whole_from places.FirstResult e = absurd cc
whole_from places.Operand e = absurd cc
whole_from places.Operator e = absurd cc
whole_from places.ResultsEnd e = absurd cc

pub stands_on : (text : List ℕ) (r next : ReaderShape) (at : ℕ) (rest : List ℕ) (kind : Kind) (k : ℕ) → Some (fronts.Token kind k) ≡ first_front rest → 0 < k → k ≤ length rest → Standing text r at rest
    → read_with r (record { kind = kind; start = at; text = take k rest }) ≡ Ok next → is_whole next.spot.place ≡ false → Standing text next (at + k) (drop k rest)
stands_on text r next at rest kind k e lo hi s w n =
    let l = length-drop k rest in
    let p = s.place in
    let on = read_on r s.tokens (token_at kind at k rest) next s.read w in record {
      place = omega (arith, l, p, hi);
      symbols = on.0 ∙ s.symbols;
      within = within_from next.spot.place n;
      tokens = s.tokens ++ token_at kind at k rest ∷ [];
      read = on.1;
      so_far = takes rest at kind k s.tokens (stream_of text) e lo s.so_far;
    }

-- ---- the map is whole

pub whole_read : (r : ReaderShape) (ts : List TokenShape) → is_whole r.spot.place ≡ true → Read r ts → HasRead r.symbols ts (spot places.Whole r.spot.names r.spot.depth r.spot.room) r.gathered
whole_read r ts w h = subst (λ (p : Place). HasRead r.symbols ts (spot p r.spot.names r.spot.depth r.spot.room) r.gathered) (whole_from r.spot.place w) h

pub stands_whole : (text : List ℕ) (r next : ReaderShape) (at : ℕ) (rest : List ℕ) (kind : Kind) (k : ℕ) → Some (fronts.Token kind k) ≡ first_front rest → 0 < k → k ≤ length rest → Standing text r at rest
    → read_with r (record { kind = kind; start = at; text = take k rest }) ≡ Ok next → is_whole next.spot.place ≡ true → IsMapText true (stream_of text) (map_read next) (at + k)
stands_whole text r next at rest kind k e lo hi s w n =
    let t = token_at kind at k rest in
    let on = read_on r s.tokens t next s.read w in
    let x = whole_text next.symbols (s.tokens ++ t ∷ []) next.spot.names next.spot.depth next.spot.room next.gathered (whole_read next (s.tokens ++ t ∷ []) n on.1) in
    let so = takes rest at kind k s.tokens (stream_of text) e lo s.so_far in
    subst (λ (b : Bool). IsMapText b (stream_of text) (map_read next) (at + k)) (on.0 ∙ s.symbols)
    (x.0, s.tokens, t, (left_at (at + k) (drop k rest)).tokens, x.1, x.2, ap (λ (a : Stream). a.tokens) so, x.3, ap (λ n. at + n) (sym (taken k rest hi)))
  where
    taken : (k : ℕ) (rest : List ℕ) → k ≤ length rest → length (take k rest) ≡ k
    taken k rest h = omega (arith, length-take k rest)

map_of_text : (symbols : Bool) (s : Stream) (r : ReaderShape) (n : ℕ) → IsMapText symbols s (map_read r) n → IsMap (map_read r)
map_of_text symbols s r n x = meaning_is_map symbols x.0 (map_read r) x.4 x.7

pub read_is_map : (text : List ℕ) (r : ReaderShape) (n : ℕ) → IsMapText true (stream_of text) (map_read r) n → IsMap (map_read r)
read_is_map text r n x = map_of_text true (stream_of text) r n x

pub unwrapped : (o : Option MapShape) (m x : MapShape) → o ≡ Some m → IfSome o (λ (y : MapShape). y ≡ x) → m ≡ x
unwrapped None m x e h = absurd (cc e)
unwrapped (Some y) m x e h = let same : y ≡ m = cc in sym same ∙ h

-- ---- faults

pub stands_fault : (text : List ℕ) (r : ReaderShape) (at : ℕ) (rest : List ℕ) (kind : Kind) (k : ℕ) (fault : MapError) → Some (fronts.Token kind k) ≡ first_front rest → 0 < k → Standing text r at rest
    → read_with r (record { kind = kind; start = at; text = take k rest }) ≡ Err fault → IsFirstFault true (stream_of text) fault
stands_fault text r at rest kind k fault e lo s w =
    let t = token_at kind at k rest in
    let after = (left_at (at + k) (drop k rest)).tokens in
    let so : (stream_of text).tokens ≡ (s.tokens ++ t ∷ []) ++ after = ap (λ (a : Stream). a.tokens) (takes rest at kind k s.tokens (stream_of text) e lo s.so_far) in
    subst (λ (b : Bool). IsFirstFault b (stream_of text) fault) s.symbols
    (elim (fault_at r s.tokens t after (stream_of text).end fault s.read s.within w) [
      | inl f ↦ (s.tokens ++ t ∷ [], after, so, inl f)
      | inr f ↦ (s.tokens, t ∷ after, so ∙ append_assoc s.tokens (t ∷ []) after, inr f)
    ])

ended : (text : List ℕ) (r : ReaderShape) (at : ℕ) (rest : List ℕ) (end : ℕ) → Standing text r at rest → ((s : Standing text r at rest) → Ended s.tokens end (stream_of text)) → IsFirstFault true (stream_of text) (BadText end)
ended text r at rest end s f =
    let e = f s in
    let b = fault_at_end r.symbols s.tokens r.spot r.gathered end s.read s.within in
    subst (λ (b : Bool). IsFirstFault b (stream_of text) (BadText end)) s.symbols
    (s.tokens, [], e.0, inr (b.0, b.1, b.2, ap BadText (sym e.1)))

pub stands_byte : (text : List ℕ) (r : ReaderShape) (at : ℕ) (rest : List ℕ) (k : ℕ) → Some (fronts.Byte k) ≡ first_front rest → Standing text r at rest → IsFirstFault true (stream_of text) (BadText (at + k))
stands_byte text r at rest k e s = ended text r at rest (at + k) s (λ q. meets_byte rest at k q.tokens (stream_of text) e q.so_far)

pub stands_unclosed : (text : List ℕ) (r : ReaderShape) (at : ℕ) (rest : List ℕ) → Some fronts.Unclosed ≡ first_front rest → Standing text r at rest → IsFirstFault true (stream_of text) (BadText at)
stands_unclosed text r at rest e s = ended text r at rest at s (λ q. meets_unclosed rest at q.tokens (stream_of text) e q.so_far)

pub stands_end : (text : List ℕ) (r : ReaderShape) (at : ℕ) (rest : List ℕ) → None ≡ first_front rest → Standing text r at rest → IsFirstFault true (stream_of text) (BadText at)
stands_end text r at rest e s = ended text r at rest at s (λ q. ends rest at q.tokens (stream_of text) e q.so_far)

-- what is answered for a fault
pub stands_err : (B : Type 0) (text : List ℕ) (r now : ReaderShape) (at : ℕ) (rest : List ℕ) (kind : Kind) (k : ℕ) (t : TokenShape) (e : MapError) → Some (fronts.Token kind k) ≡ first_front rest → 0 < k → Standing text r at rest
    → t ≡ record { kind = kind; start = at; text = take k rest } → Answers {B = B} (read_with r t) (Err e) now → IsAnswer true (stream_of text) (Err e)
stands_err B text r now at rest kind k t Memory f lo s same w = tt
stands_err B text r now at rest kind k t (BadText n) f lo s same w = stands_fault text r at rest kind k (BadText n) f lo s (ap (read_with r) (sym same) ∙ w)
stands_err B text r now at rest kind k t (Form n) f lo s same w = stands_fault text r at rest kind k (Form n) f lo s (ap (read_with r) (sym same) ∙ w)
stands_err B text r now at rest kind k t (Range n) f lo s same w = stands_fault text r at rest kind k (Range n) f lo s (ap (read_with r) (sym same) ∙ w)
