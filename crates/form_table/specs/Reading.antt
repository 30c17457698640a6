-- Reading by a form, want by want: what is read is the part for the next want, and how many wants are left out behind it.
use Rattle.std.specs.Prelude.{◌≡◌, ℕ, zero, suc, Bool, true, false, List, [], ◌∷◌, ◌++◌, Option, Some, None, if◌then◌else◌, cond}
use Rattle.std.proofs.Common.{refl}
use Rattle.text_format.specs.declared.class.Class.TheVariants.{Exactly, DenseToken}
use Rattle.text_format.specs.declared.lexeme.Lexeme.TheVariants.{Comma}
use Rattle.text_format.specs.Formats.{State, sees, after_fixed, first_read, second_read, many_at}
use Rattle.form_table.specs.declared.part.DensePiece.{DensePiece}
use Rattle.form_table.specs.declared.part.Next.{Next}
use Rattle.form_table.specs.declared.part.Part.{Part}
use Rattle.form_table.specs.declared.part.Part.TheVariants.{More, Dense, There}
use Rattle.form_table.specs.declared.want.Element.TheVariants.{Leaf}
use Rattle.form_table.specs.declared.want.Want.{Want}
use Rattle.form_table.specs.declared.want.Want.TheVariants as wants
use Rattle.form_table.specs.Entries.{dense_piece, next}
use Rattle.form_table.specs.Parts.{one, listed, chosen_made, formats}

-- a part, behind which no want is left out
abbrev pub some_part : Part × State → (Option Part × ℕ) × State
some_part r = ((Some r.0, zero), r.1)

abbrev pub more_part : List Next × State → Part × State
more_part r = (More r.0, r.1)

abbrev pub dense_part : List DensePiece × State → Part × State
dense_part r = (Dense r.0, r.1)

-- what is read for a want
unfoldable pub part_at : Want → State → (Option Part × ℕ) × State
part_at (wants.Fixed l) s = ((None, zero), after_fixed l s)
part_at wants.Space s = ((None, zero), s)
part_at (wants.Kept l) s = some_part ((one (Leaf (Exactly l))).read s)
part_at (wants.One e r) s = some_part ((one e).read s)
part_at (wants.Listed e close r) s = some_part ((listed e close).read s)
part_at (wants.More e r) s = some_part (more_part (many_at (Exactly Comma) (next e) s))
part_at wants.Dense s = some_part (dense_part (many_at DenseToken dense_piece s))
part_at (wants.Maybe l n) s = if sees (Exactly l) s then ((Some (There true), zero), s) else ((Some (There false), n), s)
part_at (wants.Jump n) s = ((None, n), s)

-- the part before those behind it
abbrev pub onto_part : Option Part → List Part × State → List Part × State
onto_part None r = r
onto_part (Some p) r = (p ∷ r.0, r.1)

-- the parts so far before those behind them
abbrev pub behind : List Part → List Part × State → List Part × State
behind ps r = (ps ++ r.0, r.1)

chosen_if : (ws : List Want) (n : ℕ) (s : State) (b : Bool)
    → let r = cond b (first_read ((formats ws zero).read s)) (second_read ((formats ws n).read s)) in
    let x : (Option Part × ℕ) × State = cond b ((Some (There true), zero), s) ((Some (There false), n), s) in
    let y : List Part × State = (chosen_made r.0, r.1) in y ≡ onto_part x.0.0 ((formats ws x.0.1).read x.1)
chosen_if ws n s true = refl
chosen_if ws n s false = refl

-- the first want, and then the others
pub read_next : (w : Want) (ws : List Want) (s : State) → (formats (w ∷ ws) zero).read s ≡ onto_part (part_at w s).0.0 ((formats ws (part_at w s).0.1).read (part_at w s).1)
unfolding formats part_at
read_next (wants.Fixed l) ws s = refl
read_next wants.Space ws s = refl
read_next (wants.Kept l) ws s = refl
read_next (wants.One e r) ws s = refl
read_next (wants.Listed e close r) ws s = refl
read_next (wants.More e r) ws s = refl
read_next wants.Dense ws s = refl
read_next (wants.Maybe l n) ws s = chosen_if ws n s (sees (Exactly l) s)
read_next (wants.Jump n) ws s = refl

pub read_left_out : (w : Want) (ws : List Want) (k : ℕ) (s : State) → (formats (w ∷ ws) (suc k)).read s ≡ (formats ws k).read s
unfolding formats
read_left_out w ws k s = refl

pub read_none : (k : ℕ) (s : State) → (formats [] k).read s ≡ ([], s)
unfolding formats
read_none k s = refl
