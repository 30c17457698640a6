-- The canonical text of a map reads back to it.
use Rattle.std.proofs.Common.{◌≡◌, ℕ, ◌+◌, Bool, List, [], ◌∷◌, ◌++◌, length, codes, Result, Ok, Err, ◌⊎◌, inl, inr, sym, ap, subst, ◌∙◌, arith, length-append}
use Rattle.text_format.specs.declared.class.Class.{Class}
use Rattle.text_format.specs.declared.class.Class.TheVariants.{Value}
use Rattle.text_format.specs.declared.lexeme.Lexeme.TheVariants as lexemes
use Rattle.text_format.specs.Token.{TokenShape}
use Rattle.text_format.specs.Pieces.{Fixed, bytes_of, shapes_at}
use Rattle.affine_maps.specs.Shape.{MapShape}
use Rattle.affine_maps.specs.Map.{IsMap}
use Rattle.affine_text.specs.Grammar.{mark_at}
use Rattle.affine_text.specs.Text.{text_of_map}
use Rattle.affine_text.specs.Faults.{stream_of, IsMapText, IsAnswer}
use Rattle.affine_text.specs.Canonical.{map_front, map_pieces, map_tree}
use Rattle.affine_text.proofs.CanonicalBytes.{bytes_append, map_bytes}
use Rattle.affine_text.proofs.CanonicalSpaced.{map_spaced}
use Rattle.affine_text.proofs.CanonicalTokens.{map_front_spells, map_spelled}
use Rattle.affine_text.proofs.CanonicalMeaning.{map_means}
use Rattle.affine_text.proofs.CanonicalFits.{map_fits}
use Rattle.affine_text.specs.declared.reading.fault.MapError.{MapError}
use Rattle.affine_text.specs.declared.reading.fault.MapError.TheVariants.{Memory}
use Rattle.affine_text.proofs.OneReading.{two_answers}
use Rattle.affine_text.proofs.PieceTokens.{stream_of_pieces}

-- whatever stands behind it
pieces_read : (c : Class) (m : MapShape) (rest : List ℕ) (symbols : Bool) → IsMap m → IsMapText symbols (stream_of (bytes_of (map_pieces c m) ++ rest)) m (length (bytes_of (map_pieces c m)))
pieces_read c m rest symbols i =
    let front = bytes_of (map_front c m) in
    let last = mark_at (0 + length front) (codes ">") in
    let first = shapes_at 0 (map_front c m) in
    let e = map_front_spells c m 0 in
    let all = stream_of_pieces (map_pieces c m) rest (map_spaced c m i rest) in
    let n : length (bytes_of (map_pieces c m)) ≡ (0 + length front) + length (codes ">") = omega (arith, ap length (bytes_append (map_front c m) (Fixed lexemes.Greater ∷ [])), length-append front (codes ">")) in (
      map_tree c 0 m,
      first,
      last,
      all.0,
      map_fits c 0 m symbols i,
      e,
      all.1 ∙ ap (λ (ts : List TokenShape). ts ++ all.0) (sym (map_spelled c m 0) ∙ e),
      map_means c 0 m i,
      n,
    )

pub reads_back : (m : MapShape) (rest : List ℕ) (symbols : Bool) → IsMap m → IsMapText symbols (stream_of (text_of_map m ++ rest)) m (length (text_of_map m))
reads_back m rest symbols i = subst (λ (text : List ℕ). IsMapText symbols (stream_of (text ++ rest)) m (length text)) (map_bytes Value m) (pieces_read Value m rest symbols i)

only_one : (r : Result (MapShape × ℕ) MapError) (x : MapShape × ℕ) → (r ≡ Ok x) ⊎ ((r ≡ Err Memory) ⊎ (Ok x ≡ Err Memory)) → (r ≡ Ok x) ⊎ (r ≡ Err Memory)
only_one r x (inl e) = inl e
only_one r x (inr (inl e)) = inr e
only_one r x (inr (inr e)) = absurd (cc e)

-- what reading it answers
pub read_answers : (m : MapShape) (rest : List ℕ) (symbols : Bool) (r : Result (MapShape × ℕ) MapError) → IsMap m → IsAnswer symbols (stream_of (text_of_map m ++ rest)) r
    → (r ≡ Ok (m, length (text_of_map m))) ⊎ (r ≡ Err Memory)
read_answers m rest symbols r i a =
    only_one r (m, length (text_of_map m)) (two_answers symbols (stream_of (text_of_map m ++ rest)) r (Ok (m, length (text_of_map m))) a (reads_back m rest symbols i))
