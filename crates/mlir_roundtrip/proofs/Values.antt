-- A value that is used has a row, under the number of its place; the numbers of its function begin at `base`.
use Rattle.std.proofs.Common.{◌≡◌, ◌<◌, ◌⊎◌, inl, inr, subst, ℕ, ◌+◌, Bool, true, false, cond, List, [], ◌∷◌, ◌++◌, length, Option, Some, None, Ok, refl, sym, ap, ◌∙◌, length-append, arith, nat_eq}
use Rattle.std.specs.Prelude.{unwrap_or}
use Rattle.std.specs.Str.{bytes_eq}
use Rattle.std.proofs.lemmas.Bool.{eq-eqb, ne_eqb}
use Rattle.mlir_ir.specs.declared.tree.Ty.{Ty}
use Rattle.mlir_ir.specs.declared.tree.Ty.TheVariants.{Scalar, Tensor, Vector}
use Rattle.mlir_ir.specs.declared.tree.OpKind.{OpKind}
use Rattle.mlir_ir.specs.declared.tree.OpKind.TheVariants as kinds
use Rattle.text_format.specs.Token.{TokenShape}
use Rattle.mlir_scope.specs.declared.names.Meaning.{Meaning}
use Rattle.mlir_scope.specs.Names.{Entry, entry, find}
use Rattle.mlir_scope.specs.Types.{elem_of}
use Rattle.mlir_scope.specs.Scope.{held, value, IsHeld, IsOuter}
use Rattle.mlir_resolve.specs.Constants.{result_meaning}
use Rattle.mlir_print.specs.declared.names.Given.{Given}
use Rattle.mlir_print.specs.Names.{Row, look, spot, row_of}
use Rattle.mlir_print.specs.Renumbered.{number_in}
use Rattle.mlir_roundtrip.specs.Printable.{IsDefined, row_or, row_in, elem_in}
use Rattle.mlir_roundtrip.proofs.Rows.{look_last}
use Rattle.mlir_roundtrip.proofs.Spots.{spot_last}
use Rattle.mlir_roundtrip.proofs.ReadTypes.{ok_same}

-- what the name of a result stands for has its number and its type
pub meaning_held : (n : ℕ) (ty : Ty) (k : OpKind) (at : ℕ) → held at (Some (result_meaning n ty k)) ≡ Ok (n, ty)
meaning_held n (Scalar e) (kinds.Constant []) at = refl
meaning_held n (Scalar e) (kinds.Constant (v ∷ [])) at = refl
meaning_held n (Scalar e) (kinds.Constant (v ∷ (u ∷ vs))) at = refl
meaning_held n (Scalar e) k at = refl
meaning_held n (Tensor es w) k at = refl
meaning_held n (Vector ns w) k at = refl

outer_last : (env : List Entry) (q : List ℕ) (m : Meaning) → IsOuter env → IsHeld m → IsOuter (env ++ entry q m ∷ [])
outer_last [] q m h k = (k, tt)
outer_last (x ∷ env) q m h k = (h.0, outer_last env q m h.1 k)

last_if : (b : Bool) (at : ℕ) (x : ℕ × Ty) (y : Meaning) (o p : Option Meaning) (P : Type 0) → (held at p ≡ Ok x → (held at o ≡ Ok x) ⊎ P) → held at (cond b (Some y) p) ≡ Ok x → (held at (cond b (Some y) o) ≡ Ok x) ⊎ P
last_if true at x y o p P f h = inl h
last_if false at x y o p P f h = f h

new_if : (b : Bool) (at : ℕ) (x : ℕ × Ty) (m : Meaning) → held at (cond b (Some m) None) ≡ Ok x → held at (Some m) ≡ Ok x
new_if true at x m h = h
new_if false at x m h = absurd (cc h)

-- what is found is an earlier value, or the last one
held_last : (env : List Entry) (q name : List ℕ) (m : Meaning) (at : ℕ) (x : ℕ × Ty) → held at (find (env ++ entry name m ∷ []) q) ≡ Ok x → (held at (find env q) ≡ Ok x) ⊎ (held at (Some m) ≡ Ok x)
held_last [] q name m at x h = inr (new_if (bytes_eq name q) at x m h)
held_last (y ∷ env) q name m at x h = last_if (bytes_eq y.name q) at x y.means (find env q) (find (env ++ entry name m ∷ []) q) (held at (Some m) ≡ Ok x) (λ k. held_last env q name m at x k) h

module _ (base : ℕ) where
  -- the value's row, whose number is that of its place
  pub record HasRow (rows : List Row) (v : ℕ) (ty : Ty) : Type 0 where
    pub row : Row
    pub there : look rows v ≡ Some row
    pub typed : row.ty ≡ ty
    pub counted : spot base rows v ≡ Some v
    pub below : v < base + length rows

  pub record Reads (rows : List Row) (env : List Entry) : Type 0 where
    pub outer : IsOuter env
    pub values : (q : List ℕ) (at : ℕ) (x : ℕ × Ty) → held at (find env q) ≡ Ok x → HasRow rows x.0 x.1

  has_more : (rows : List Row) (r : Row) (v : ℕ) (ty : Ty) → r.value ≡ base + length rows → HasRow rows v ty → HasRow (rows ++ r ∷ []) v ty
  has_more rows r v ty e h =
      let b = h.below in
      let ne : nat_eq r.value v ≡ false = ne_eqb r.value v (λ q. absurd (omega (arith, e, q, b))) in
      record {
        row = h.row;
        there = look_last rows r v ∙ ap (λ c. cond c (Some r) (look rows v)) ne ∙ h.there;
        typed = h.typed;
        counted = spot_last base rows r v ∙ ap (λ c. cond c (Some (base + length rows)) (spot base rows v)) ne ∙ h.counted;
        below = omega (arith, length-append rows (r ∷ []));
      }

  has_last : (rows : List Row) (g : Given) (ty : Ty) → HasRow (rows ++ row_of (record { 0 = base + length rows }) g ty ∷ []) (base + length rows) ty
  has_last rows g ty =
      let r = row_of (record { 0 = base + length rows }) g ty in
      let e = eq-eqb (base + length rows) (base + length rows) refl in
      record {
        row = row_of (record { 0 = base + length rows }) g ty;
        there = look_last rows (row_of (record { 0 = base + length rows }) g ty) (base + length rows) ∙ ap (λ c. cond c (Some (row_of (record { 0 = base + length rows }) g ty)) (look rows (base + length rows))) e;
        typed = refl;
        counted = spot_last base rows (row_of (record { 0 = base + length rows }) g ty) (base + length rows) ∙ ap (λ c. cond c (Some (base + length rows)) (spot base rows (base + length rows))) e;
        below = omega (arith, length-append rows (row_of (record { 0 = base + length rows }) g ty ∷ []));
      }

  row_if : (rows : List Row) (env : List Entry) (q : List ℕ) (g : Given) (ty : Ty) (m : Meaning) (at : ℕ) (x : ℕ × Ty) → Reads rows env → held at (Some m) ≡ Ok (base + length rows, ty) → (held at (find env q) ≡ Ok x) ⊎ (held at (Some m) ≡ Ok x)
      → HasRow (rows ++ row_of (record { 0 = base + length rows }) g ty ∷ []) x.0 x.1
  row_if rows env q g ty m at x r e (inl k) = has_more rows (row_of (record { 0 = base + length rows }) g ty) x.0 x.1 refl (r.values q at x k)
  row_if rows env q g ty m at x r e (inr k) =
      let same : (base + length rows, ty) ≡ x = ok_same (base + length rows, ty) x (sym e ∙ k) in
      subst (λ (y : ℕ × Ty). HasRow (rows ++ row_of (record { 0 = base + length rows }) g ty ∷ []) y.0 y.1) same (has_last rows g ty)

  -- one more value, whose name stands for it
  pub reads_more : (rows : List Row) (env : List Entry) (name : List ℕ) (g : Given) (ty : Ty) (m : Meaning) → Reads rows env → IsHeld m → ((at : ℕ) → held at (Some m) ≡ Ok (base + length rows, ty))
      → Reads (rows ++ row_of (record { 0 = base + length rows }) g ty ∷ []) (env ++ entry name m ∷ [])
  reads_more rows env name g ty m r h e = record {
    outer = outer_last env name m r.outer h;
    values = λ q at x k. row_if rows env q g ty m at x r (e at) (held_last env q name m at x k);
  }

  pub value_row : (rows : List Row) (env : List Entry) → Reads rows env → (t : TokenShape) (x : ℕ × Ty) → value env t ≡ Ok x → HasRow rows x.0 x.1
  value_row rows env r t x h = r.values t.text t.start x h

  -- its number stays, and its elements are its type's
  pub row_defined : (rows : List Row) (v : ℕ) (ty : Ty) → HasRow rows v ty → IsDefined rows (record { 0 = v })
  row_defined rows v ty h = (h.row, h.there)

  pub row_number : (rows : List Row) (v : ℕ) (ty : Ty) → HasRow rows v ty → number_in base rows (record { 0 = v }) ≡ record { 0 = v }
  row_number rows v ty h = ap (λ o. record { 0 = unwrap_or o base }) h.counted

  pub row_elem : (rows : List Row) (v : ℕ) (ty : Ty) → HasRow rows v ty → elem_of ty ≡ elem_in rows (record { 0 = v })
  row_elem rows v ty h = ap elem_of (sym h.typed) ∙ ap (λ o. elem_of (row_or o).ty) (sym h.there)

  pub row_type : (rows : List Row) (v : ℕ) (ty : Ty) → HasRow rows v ty → ty ≡ (row_in rows (record { 0 = v })).ty
  row_type rows v ty h = sym h.typed ∙ ap (λ o. (row_or o).ty) (sym h.there)
