-- What is left of an elimination that keeps its place in a stack of forms.
use Rattle.std.specs.Prelude.{ℕ, ◌+◌, ◌<◌, Bool, true, ℤ, pos, int_lt, List, [], ◌∷◌, length, drop, Option, Some, None, if◌then◌else◌, ⊤}
use Rattle.std.specs.List.{fold}
use Rattle.index_forms.specs.declared.form.LinForm.{LinForm}
use Rattle.index_forms.specs.declared.form.Fact.{Fact}
use Rattle.index_forms.specs.declared.stack.Frame.{Frame}
use Rattle.index_forms.specs.declared.stack.Turn.{Turn}
use Rattle.index_forms.specs.declared.stack.Turn.TheVariants.{Form, Bound}
use Rattle.index_forms.specs.Forms.{form, plus}
use Rattle.index_forms.specs.Limit.{within, IsForm}
use Rattle.index_forms.specs.Bounds.{bound, forms_met, bounds_of, met_of, choices, fact_at, join, combined}

-- another form in the place of the first atom, if the numbers stay within the limit
abbrev pub replaced : ℤ → List (ℕ × ℤ) → LinForm → Option LinForm
replaced c [] g = None
replaced c (t ∷ ts) g = if within (plus (form c ts) t.1 g) then Some (plus (form c ts) t.1 g) else None

-- the choices that are left, joined to the bound of those before, if there are some
abbrev pub continued : Bool → Option (Option ℤ) → List (Option ℤ) → Option ℤ
continued one None xs = combined one xs
continued one (Some b) xs = fold (join one) b xs

abbrev pub gained : Bool → Option (Option ℤ) → Option ℤ → Option ℤ
gained one None x = x
gained one (Some b) x = join one b x

abbrev pub settled_at : List Fact → ℤ → List (ℕ × ℤ) → ℕ → Option (Option ℤ) → Option ℤ
settled_at facts c [] next best = None
settled_at facts c (t ∷ ts) next best =
    continued (int_lt (pos 0) t.1) best (bounds_of (bound facts t.0) c ts t.1 (drop next (choices (fact_at facts t.0) t.1)))

abbrev pub settled : List Fact → Frame → Option ℤ
settled facts fr = settled_at facts fr.form.constant fr.form.terms fr.next fr.best

abbrev pub one_is_enough : List (ℕ × ℤ) → Bool
one_is_enough [] = true
one_is_enough (t ∷ ts) = int_lt (pos 0) t.1

-- the bound of a frame's form, where that of the choice taken up last is `x`
abbrev pub after : List Fact → Frame → Option ℤ → Option ℤ
after facts fr x = settled_at facts fr.form.constant fr.form.terms fr.next (Some (gained (one_is_enough fr.form.terms) fr.best x))

-- the bound of the form at the bottom
abbrev pub finished : List Fact → List Frame → Option ℤ → Option ℤ
finished facts [] x = x
finished facts (fr ∷ frs) x = after facts fr (finished facts frs x)

-- how many forms are still to be met
abbrev pub unmet_at : List Fact → ℤ → List (ℕ × ℤ) → ℕ → ℕ
unmet_at facts c [] next = 0
unmet_at facts c (t ∷ ts) next = met_of (forms_met facts t.0) c ts t.1 (drop next (choices (fact_at facts t.0) t.1))

abbrev pub unmet : List Fact → Frame → ℕ
unmet facts fr = unmet_at facts fr.form.constant fr.form.terms fr.next

abbrev pub all_unmet : List Fact → List Frame → ℕ
all_unmet facts [] = 0
all_unmet facts (fr ∷ frs) = unmet facts fr + all_unmet facts frs

abbrev pub turn_bound : List Fact → Turn → Option ℤ
turn_bound facts (Form None) = None
turn_bound facts (Form (Some f)) = bound facts (length facts) f
turn_bound facts (Bound b) = b

abbrev pub turn_met : List Fact → Turn → ℕ
turn_met facts (Form None) = 1
turn_met facts (Form (Some f)) = forms_met facts (length facts) f
turn_met facts (Bound b) = 0

abbrev pub is_bound : Turn → ℕ
is_bound (Form f) = 0
is_bound (Bound b) = 1

abbrev pub IsFrame : List Fact → Frame → Type 0
IsFrame facts fr = IsForm (length facts) fr.form × (0 < length fr.form.terms)

abbrev pub AreFrames : List Fact → List Frame → Type 0
AreFrames facts [] = ⊤
AreFrames facts (fr ∷ frs) = IsFrame facts fr × AreFrames facts frs

abbrev pub IsTurn : List Fact → Turn → Type 0
IsTurn facts (Form None) = ⊤
IsTurn facts (Form (Some f)) = IsForm (length facts) f
IsTurn facts (Bound b) = ⊤
