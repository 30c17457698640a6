-- The pieces of a map's canonical text, one behind the other.
use Rattle.std.proofs.Common.{◌≡◌, ℕ, ◌+◌, List, ◌++◌, ◌∙◌, append_assoc, add-one}
use Rattle.affine_text.specs.Text.{dimensions_text, dimension_text, comma_before}

-- one more dimension
pub dimensions_next : (out : List ℕ) (n : ℕ) → ((out ++ dimensions_text n) ++ comma_before n) ++ dimension_text n ≡ out ++ dimensions_text (n + 1)
dimensions_next out n =
    rw add-one (append_assoc (out ++ dimensions_text n) (comma_before n) (dimension_text n) ∙ append_assoc out (dimensions_text n) (comma_before n ++ dimension_text n))
