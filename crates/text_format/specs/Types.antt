-- The types that a text writes: element types, and shaped types as `tensor<4xi32>`.
use Rattle.std.specs.Prelude.{ℕ, ◌+◌, ◌*◌, ◌-◌, Bool, true, false, not, ◌&&◌, ◌||◌, ◌==◌, List, [], ◌∷◌, length, take, drop, map, if◌then◌else◌, nat_lt, nat_le, codes, Option, Some, None}
use Rattle.std.specs.Str.{bytes_eq}
use Rattle.std.specs.List.{list_all}
use Rattle.mlir_base.specs.declared.types.ElemTy.{ElemTy}
use Rattle.mlir_base.specs.declared.types.ElemTy.TheVariants.{Int, Index}
use Rattle.text_format.specs.declared.types.Part.{Part}
use Rattle.text_format.specs.declared.types.Part.TheVariants.{Start, Number, Unknown}
use Rattle.text_format.specs.declared.types.Step.{Step}
use Rattle.text_format.specs.declared.types.Step.TheVariants.{Goes, Element, Fault}
use Rattle.text_format.specs.declared.types.Extent.{Extent}
use Rattle.text_format.specs.declared.types.Extent.TheVariants.{Fixed, TooLarge}
use Rattle.text_format.specs.declared.types.RankedShape.{RankedShape}
use Rattle.text_format.specs.Bytes.{is_digit, is_letter, is_word_byte}

abbrev pub is_some : {A : Type 0} → Option A → Bool
is_some None = false
is_some (Some x) = true

-- ---- element types (the LangRef's "Type System": IntegerType, IndexType)

abbrev pub one_digit : ℕ → Option ℕ
one_digit a = if nat_le 49 a && nat_le a 57 then Some (a - 48) else None

abbrev pub two_digits : ℕ → ℕ → Option ℕ
two_digits a b = if nat_le 49 a && nat_le a 57 && is_digit b && nat_le ((a - 48) * 10 + (b - 48)) 64 then Some ((a - 48) * 10 + (b - 48)) else None

-- the width of i1 to i64, which have no leading 0
abbrev pub width_of : List ℕ → Option ℕ
width_of [] = None
width_of (i ∷ []) = None
width_of (i ∷ a ∷ []) = if i == 105 then one_digit a else None
width_of (i ∷ a ∷ b ∷ []) = if i == 105 then two_digits a b else None
width_of (i ∷ a ∷ b ∷ c ∷ rest) = None

abbrev pub integer : Option ℕ → Option ElemTy
integer None = None
integer (Some w) = Some (Int w)

-- i1 to i64, or index
abbrev pub element_of : List ℕ → Option ElemTy
element_of text = if bytes_eq text (codes "index") then Some Index else integer (width_of text)

-- ---- shaped types (Builtin dialect, "RankedTensorType")

-- `tensor<` or the like at the front, and `>` at the end
abbrev pub is_shaped : List ℕ → List ℕ → Bool
is_shaped head text = if nat_lt (length text) 8 then false else bytes_eq (take 7 text) head && bytes_eq (drop (length text - 1) text) (codes ">")

-- what stands between
abbrev pub inside : List ℕ → List ℕ
inside text = take (length text - 8) (drop 7 text)

-- the number that the digits at the front go on to spell from n, and what comes after them
abbrev pub number_at : List ℕ → ℕ → ℕ × List ℕ
number_at [] n = (n, [])
number_at (b ∷ bs) n = if is_digit b then number_at bs (n * 10 + (b - 48)) else (n, b ∷ bs)

abbrev pub no_extents : Option ℕ → Option (List ℕ × ℕ)
no_extents None = None
no_extents (Some w) = Some ([], w)

abbrev pub extent_before : ℕ → Option (List ℕ × ℕ) → Option (List ℕ × ℕ)
extent_before n None = None
extent_before n (Some p) = Some (n ∷ p.0, p.1)

-- extents, each followed by `x`, and then an integer type. Where the digits before spell a part of an extent, it goes on from that
abbrev pub extents_in : List ℕ → Option ℕ → Option (List ℕ × ℕ)
extents_in [] part = None
extents_in (b ∷ bs) None = if is_digit b then extents_in bs (Some (b - 48)) else no_extents (width_of (b ∷ bs))
extents_in (b ∷ bs) (Some n) = if is_digit b then extents_in bs (Some (n * 10 + (b - 48))) else (if b == 120 then extent_before n (extents_in bs None) else None)

abbrev pub begins_with_digit : List ℕ → Bool
begins_with_digit [] = false
begins_with_digit (b ∷ bs) = is_digit b

abbrev pub begins_with_x : List ℕ → Bool
begins_with_x [] = false
begins_with_x (b ∷ bs) = b == 120

-- the extents and the width of a tensor's type of any rank with fixed extents, as `tensor<4x2xi32>` or `tensor<i32>`
unfoldable pub extents_of : List ℕ → Option (List ℕ × ℕ)
extents_of text = if is_shaped (codes "tensor<") text then extents_in (inside text) None else None

-- ---- shaped types with elements that the profile hasn't

abbrev pub is_word : List ℕ → Bool
is_word [] = false
is_word (b ∷ bs) = is_letter b && list_all is_word_byte bs

-- a word, or a dialect's type
abbrev pub is_type_word : List ℕ → Bool
is_type_word [] = false
is_type_word (b ∷ bs) = if b == 33 then is_word bs else is_word (b ∷ bs)

abbrev pub after_byte : Part → ℕ → Step
after_byte Start b = if is_digit b then Goes Number else (if b == 63 then Goes Unknown else Element)
after_byte Number b = if is_digit b then Goes Number else (if b == 120 then Goes Start else Fault)
after_byte Unknown b = if b == 120 then Goes Start else Fault

abbrev pub element_by : (Part → List ℕ) → List ℕ → Step → List ℕ
element_by go here (Goes part) = go part
element_by go here Element = here
element_by go here Fault = []

-- the element type behind a list of extents, each a number or `?` and then `x`. Empty: the extents are no such list
abbrev pub element_at : List ℕ → Part → List ℕ
element_at [] part = []
element_at (b ∷ bs) part = element_by (λ next. element_at bs next) (b ∷ bs) (after_byte part b)

abbrev pub is_other_element : List ℕ → Bool
is_other_element text = is_type_word text && not (is_some (width_of text))

-- a shaped type whose elements aren't i1 to i64
unfoldable pub has_other_element : List ℕ → Bool
has_other_element text = (is_shaped (codes "tensor<") text || is_shaped (codes "vector<") text) && is_other_element (element_at (inside text) Start)

-- a tensor's type whose extents may be `?`, with elements i1 to i64
unfoldable pub is_any_tensor : List ℕ → Bool
is_any_tensor text = is_shaped (codes "tensor<") text && is_some (width_of (element_at (inside text) Start))

-- ---- what is kept of a type

-- an extent up to this one is kept
abbrev pub most_extent : ℕ
most_extent = 1048576

-- a greater extent counts as this one
abbrev pub least_extent : ℕ → ℕ
least_extent n = if nat_le n most_extent then n else most_extent + 1

abbrev pub extent_of : ℕ → Extent
extent_of n = if nat_le n most_extent then Fixed n else TooLarge

abbrev pub ranked_from : Option (List ℕ × ℕ) → Option RankedShape
ranked_from None = None
ranked_from (Some p) = Some (record { extents = map extent_of p.0; width = p.1 })
