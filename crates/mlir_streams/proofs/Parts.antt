-- A piece that is written in parts.
use Rattle.std.proofs.Common.{◌≡◌, ℕ, ◌+◌, ◌<◌, zero, suc, List, [], ◌∷◌, ◌++◌, length, take, drop, Option, Some, None, Ok, arith, sym, ◌∙◌, ap, subst, append_assoc}
use Rattle.std.proofs.Math.Seq.{take-append-add}
use Rattle.std.proofs.lemmas.List.{take-append-drop, append-nil}
use Rattle.std.specs.Io.KnownBytes.{Appends, Keeps}
use Rattle.std.proofs.KnownBytes.{Appends-trans}
use Rattle.mlir_streams.specs.Loops.{AppendsPart}
use Rattle.mlir_streams.specs.Sinks.{WriteCause}

-- a first part, and then a prefix of the rest, are a prefix of the whole
pub part_of_more : (old mid new : Option (List ℕ)) (bytes done rest : List ℕ) (n : ℕ) → bytes ≡ done ++ rest → Appends old mid done → Appends mid new (take n rest) → AppendsPart old new bytes
part_of_more old mid new bytes done rest n whole first more =
    (length done + n, subst (Appends old new) (sym (ap (take (length done + n)) whole ∙ take-append-add done rest n)) (Appends-trans old mid new done (take n rest) first more))

Appends_of_Keeps : (mid new : Option (List ℕ)) (rest : List ℕ) → Keeps mid new → Appends mid new (take 0 rest)
Appends_of_Keeps None new rest kept = tt
Appends_of_Keeps (Some x) None rest kept = absurd kept
Appends_of_Keeps (Some x) (Some y) rest kept = kept ∙ sym (append-nil x)

-- the same where nothing more was written
pub part_of_kept : (old mid new : Option (List ℕ)) (bytes done rest : List ℕ) → bytes ≡ done ++ rest → Appends old mid done → Keeps mid new → AppendsPart old new bytes
part_of_kept old mid new bytes done rest whole first kept =
    part_of_more old mid new bytes done rest 0 whole first (Appends_of_Keeps mid new rest kept)

-- the rest after n more bytes
pub whole_after : (bytes done rest : List ℕ) (n : ℕ) → bytes ≡ done ++ rest → bytes ≡ (done ++ take n rest) ++ drop n rest
whole_after bytes done rest n whole = whole ∙ ap (λ l. done ++ l) (sym (take-append-drop n rest)) ∙ sym (append_assoc done (take n rest) (drop n rest))

-- a write of some bytes leaves the count as it was
pub no_fault_of_some : (before now : ℕ) (bytes : List ℕ) (n : ℕ) → WriteCause before now bytes (Ok n) → 0 < n → now ≡ before
no_fault_of_some before now [] n cause some = cause
no_fault_of_some before now (byte ∷ bytes) zero cause some = absurd (omega arith)
no_fault_of_some before now (byte ∷ bytes) (suc n) cause some = cause
