-- The canonical tree of an operation stands for the operation with the numbers of its text. The values of its function begin at `base`.
use Rattle.std.proofs.Common.{◌≡◌, ◌<◌, ◌≤◌, inr, subst, ℕ, ◌+◌, suc, Bool, true, false, cond, List, [], ◌∷◌, ◌++◌, map, length, Option, Some, None, Result as Answer, Ok, refl, sym, ap, ◌∙◌, length-append, arith, nat_eq, nat_lt}
use Rattle.std.specs.Prelude.{unwrap_or}
use Rattle.std.specs.List.{AllByRecursion}
use Rattle.std.proofs.lemmas.Bool.{le-leb, lt-ltb}
use Rattle.mlir_base.specs.declared.types.ElemTy.{ElemTy}
use Rattle.payload_ops.specs.Shape.{PayloadShape}
use Rattle.affine_maps.specs.Shape.{MapShape}
use Rattle.mlir_ir.specs.declared.tree.Ty.{Ty}
use Rattle.mlir_ir.specs.declared.tree.ValueId.{ValueId}
use Rattle.mlir_ir.specs.declared.tree.Iter.{Iter}
use Rattle.mlir_ir.specs.declared.tree.Iter.TheVariants.{Parallel, Reduction}
use Rattle.mlir_ir.specs.declared.tree.OpKind.{OpKind}
use Rattle.mlir_ir.specs.declared.tree.OpKind.TheVariants as kinds
use Rattle.text_format.specs.Token.{TokenShape}
use Rattle.text_format.specs.Pieces.{bytes_of}
use Rattle.mlir_syntax.specs.declared.tree.literals.SignedNumber.{SignedNumber}
use Rattle.mlir_syntax.specs.declared.tree.generics.IteratorType.{IteratorType}
use Rattle.mlir_syntax.specs.declared.tree.generics.NextInput.{NextInput}
use Rattle.mlir_syntax.specs.declared.tree.generics.NextType.{NextType}
use Rattle.mlir_syntax.specs.declared.tree.generics.Generic.{Generic}
use Rattle.mlir_scope.specs.declared.names.Meaning.{Meaning}
use Rattle.mlir_scope.specs.declared.names.Scope.{Scope}
use Rattle.mlir_lex.specs.declared.fault.Fault.{Fault}
use Rattle.mlir_scope.specs.Names.{Entry, entry, find}
use Rattle.mlir_lex.specs.Chain.{and_then, each}
use Rattle.mlir_scope.specs.Types.{type_at, elem_of}
use Rattle.mlir_scope.specs.Scope.{held, value, typed_as, value_id, type_of, operand_of}
use Rattle.mlir_payload.specs.Payload.{payload_of}
use Rattle.mlir_resolve.specs.Constants.{result_meaning}
use Rattle.mlir_scope.specs.Maps.{AliasShape, map_of}
use Rattle.mlir_resolve.specs.Generics.{iterator_of, iterators_from, more_inputs, more_types, typed_inputs, typed_output, operands_of, generic_of}
use Rattle.mlir_resolve.specs.Structured.{axis_of, typed_id, output_of, factors_of, moved_of}
use Rattle.mlir_resolve.specs.Operations.{kind_of, statement_of}
use Rattle.mlir_print.specs.declared.names.Given.TheVariants.{Result}
use Rattle.mlir_print.specs.Names.{Names, Row, look, spot, given_text, name_in, name_or, type_in, type_or, row_of}
use Rattle.text_format.specs.Writers.{commas}
use Rattle.mlir_print.specs.Maps.{use_at, steps_maps, maps_used}
use Rattle.mlir_print.specs.Generics.{iterator_at, next_input_at, next_type_at, inputs_at, output_at, operands_at, generic_at}
use Rattle.mlir_print.specs.Structured.{fill_at, factors_at, moved_at, axis_at, transpose_at, broadcast_at}
use Rattle.mlir_print.specs.Operations.{operation_at, line_at, names_after, inner_args, inner_results}
use Rattle.mlir_print.specs.Renumbered.{number_in, kind_renumbered, results_renumbered}
use Rattle.mlir_roundtrip.specs.Printable.{IsDefined, row_or, row_in, elem_in, IsPrintableMove, IsPrintableKind, IsPrintableLine}
use Rattle.mlir_roundtrip.proofs.Envs.{result_name, find_more, find_new, IsCanon, AreCanon, Small, fresh_result}
use Rattle.mlir_roundtrip.proofs.Spots.{spot_last}
use Rattle.mlir_roundtrip.proofs.Rows.{look_last, row_there, tensor_value, constant_type, Bound, bound_next, inner_few}
use Rattle.mlir_roundtrip.proofs.Readable.{readable}
use Rattle.mlir_roundtrip.proofs.Usable.{Usable, usable}
use Rattle.mlir_roundtrip.proofs.Values.{meaning_held}
use Rattle.mlir_roundtrip.proofs.Numbers.{Good, decimal_value}
use Rattle.mlir_roundtrip.proofs.Aliases.{MapRead}
use Rattle.mlir_roundtrip.proofs.MapUses.{MapsRead, uses_read}
use Rattle.mlir_roundtrip.proofs.ConstantsFound.{constant_found}
use Rattle.mlir_roundtrip.proofs.Regions.{Laid, each_laid, commas_laid, all_last, all_split, canon_more, region_found}

-- what was found is still found
held_more : (env more : List Entry) (q : List ℕ) (at : ℕ) (x : ℕ × Ty) → held at (find env q) ≡ Ok x → held at (find (env ++ more) q) ≡ Ok x
held_more env more q at x h = by (find env q) refl h
  where
    by : (o : Option Meaning) → find env q ≡ o → held at o ≡ Ok x → held at (find (env ++ more) q) ≡ Ok x
    by None e k = absurd (cc k)
    by (Some m) e k = ap (held at) (find_more env more q m e) ∙ k

module _ (base : ℕ) where
  -- ---- where a text stands

  abbrev pub number : List Row → ℕ → ℕ
  number rows v = unwrap_or (spot base rows v) base

  -- each value that was defined is found under its name
  abbrev pub Agrees : List Row → List Entry → Type 0
  Agrees rows env = (v : ℕ) (x : Row) → look rows v ≡ Some x → ((at : ℕ) → held at (find env (given_text x.name)) ≡ Ok (number rows v, x.ty)) × Usable x.ty

  pub record Standing (n : Names) (env : List Entry) : Type 0 where
    pub agrees : Agrees n.rows env
    pub canon : AreCanon n.args n.results env

  agree_if : (b : Bool) (rows : List Row) (r x : Row) (env : List Entry) (m : Meaning) (v : ℕ) → find env (given_text r.name) ≡ None → Usable r.ty → ((at : ℕ) → held at (Some m) ≡ Ok (base + length rows, r.ty))
      → ((look rows v ≡ Some x) → ((at : ℕ) → held at (find env (given_text x.name)) ≡ Ok (number rows v, x.ty)) × Usable x.ty) → cond b (Some r) (look rows v) ≡ Some x
      → ((at : ℕ) → held at (find (env ++ entry (given_text r.name) m ∷ []) (given_text x.name)) ≡ Ok (unwrap_or (cond b (Some (base + length rows)) (spot base rows v)) base, x.ty)) × Usable x.ty
  agree_if true rows r x env m v none rd k f h =
      let e : r ≡ x = cc h in
      subst (λ (y : Row). ((at : ℕ) → held at (find (env ++ entry (given_text r.name) m ∷ []) (given_text y.name)) ≡ Ok (base + length rows, y.ty)) × Usable y.ty) e
      ((λ at. ap (held at) (find_new env (given_text r.name) m none) ∙ k at), rd)
  agree_if false rows r x env m v none rd k f h = let o = f h in ((λ at. held_more env (entry (given_text r.name) m ∷ []) (given_text x.name) at (number rows v, x.ty) (o.0 at)), o.1)

  -- one more value, whose name stands for it
  pub agrees_more : (rows : List Row) (env : List Entry) (r : Row) (m : Meaning) → Agrees rows env → find env (given_text r.name) ≡ None → Usable r.ty → ((at : ℕ) → held at (Some m) ≡ Ok (base + length rows, r.ty)) → Agrees (rows ++ r ∷ []) (env ++ entry (given_text r.name) m ∷ [])
  agrees_more rows env r m ag none rd k v x h =
      let o = agree_if (nat_eq r.value v) rows r x env m v none rd k (λ q. ag v x q) (sym (look_last rows r v) ∙ h) in
      ((λ at. o.0 at ∙ ap (λ s. Ok (unwrap_or s base, x.ty)) (sym (spot_last base rows r v))), o.1)

  -- ---- values

  pub record Known (rows : List Row) (env : List Entry) (v : ValueId) : Type 0 where
    pub row : Row
    pub there : look rows v.0 ≡ Some row
    pub found : (at : ℕ) → held at (find env (given_text row.name)) ≡ Ok (number rows v.0, row.ty)
    pub usable : Usable row.ty

  pub known : (rows : List Row) (env : List Entry) → Agrees rows env → (v : ValueId) → IsDefined rows v → Known rows env v
  known rows env ag v d = let a = ag v.0 d.0 d.1 in record { row = d.0; there = d.1; found = a.0; usable = a.1 }

  value_found : (rows : List Row) (env : List Entry) (v : ValueId) (k : Known rows env v) (t : TokenShape) → t.text ≡ name_in rows v → value env t ≡ Ok (number rows v.0, k.row.ty)
  value_found rows env v k t e = ap (λ (q : List ℕ). held t.start (find env q)) (e ∙ ap name_or k.there) ∙ k.found t.start

  pub typed_found : (rows : List Row) (env : List Entry) (v : ValueId) → Known rows env v → (name ty : TokenShape) → name.text ≡ name_in rows v → ty.text ≡ type_in rows v → typed_as env name ty ≡ Ok tt
  typed_found rows env v k name ty e f = rw (value_found rows env v k name e) (k.usable.same ty (f ∙ ap type_or k.there))

  pub id_found : (rows : List Row) (env : List Entry) (v : ValueId) → Known rows env v → (t : TokenShape) → t.text ≡ name_in rows v → value_id env t ≡ Ok (number_in base rows v)
  id_found rows env v k t e = rw (value_found rows env v k t e) refl

  type_found : (rows : List Row) (env : List Entry) (v : ValueId) → Known rows env v → (t : TokenShape) → t.text ≡ name_in rows v → type_of env t ≡ Ok (row_in rows v).ty
  type_found rows env v k t e = rw (value_found rows env v k t e, k.there) refl

  typed_id_found : (rows : List Row) (env : List Entry) (v : ValueId) → Known rows env v → (name ty : TokenShape) → name.text ≡ name_in rows v → ty.text ≡ type_in rows v → typed_id env name ty ≡ Ok (number_in base rows v)
  typed_id_found rows env v k name ty e f = rw (id_found rows env v k name e, typed_found rows env v k name ty e f) refl

  output_found : (rows : List Row) (env : List Entry) → Agrees rows env → (out : ValueId) → IsDefined rows out → (at : ℕ) → output_of env ((output_at rows out).tree at) ≡ Ok (number_in base rows out)
  output_found rows env ag out d at = let o = (output_at rows out).tree at in typed_id_found rows env out (known rows env ag out d) o.name o.ty refl refl

  -- ---- operands of a generic operation

  abbrev operand : List Row → ValueId → ValueId × ElemTy
  operand rows v = (number_in base rows v, elem_in rows v)

  operand_found : (rows : List Row) (env : List Entry) (v : ValueId) → Known rows env v → (k : ℕ) → nat_lt k 64 ≡ true → (t : TokenShape) → t.text ≡ name_in rows v → operand_of env k t ≡ Ok (operand rows v)
  operand_found rows env v k j lt t e = rw (value_found rows env v k t e, lt, k.there) refl

  more_inputs_found : (rows : List Row) (env : List Entry) → Agrees rows env → (k : ℕ) (vs : List ValueId) (xs : List NextInput) → AllByRecursion (IsDefined rows) vs → k + length vs ≤ 64 → Laid (map (next_input_at rows) vs) xs → more_inputs env k xs ≡ Ok (map (operand rows) vs)
  more_inputs_found rows env ag k [] [] d le l = refl
  more_inputs_found rows env ag k [] (x ∷ xs) d le l = absurd l
  more_inputs_found rows env ag k (v ∷ vs) [] d le l = absurd l
  more_inputs_found rows env ag k (v ∷ vs) (x ∷ xs) d le l =
      let one = operand_found rows env v (known rows env ag v d.0) k (lt-ltb k 64 (omega arith)) x.name (ap (λ (y : NextInput). y.name.text) l.0.1) in
      rw (one, more_inputs_found rows env ag (suc k) vs xs d.1 (omega arith) l.1) refl

  more_types_found : (rows : List Row) (env : List Entry) → Agrees rows env → (close : TokenShape) (vs : List ValueId) (xs : List NextInput) (ys : List NextType) → AllByRecursion (IsDefined rows) vs → Laid (map (next_input_at rows) vs) xs → Laid (map (next_type_at rows) vs) ys → more_types close env xs ys ≡ Ok tt
  more_types_found rows env ag close [] [] [] d l m = refl
  more_types_found rows env ag close [] [] (y ∷ ys) d l m = absurd m
  more_types_found rows env ag close [] (x ∷ xs) ys d l m = absurd l
  more_types_found rows env ag close (v ∷ vs) [] ys d l m = absurd l
  more_types_found rows env ag close (v ∷ vs) (x ∷ xs) [] d l m = absurd m
  more_types_found rows env ag close (v ∷ vs) (x ∷ xs) (y ∷ ys) d l m =
      let one = typed_found rows env v (known rows env ag v d.0) x.name y.ty (ap (λ (z : NextInput). z.name.text) l.0.1) (ap (λ (z : NextType). z.ty.text) m.0.1) in
      rw one (more_types_found rows env ag close vs xs ys d.1 l.1 m.1)

  length_map : {A B : Type 0} (f : A → B) (xs : List A) → length (map f xs) ≡ length xs
  length_map f [] = refl
  length_map f (x ∷ xs) = ap suc (length_map f xs)

  typed_output_found : (rows : List Row) (env : List Entry) → Agrees rows env → (k : ℕ) → nat_lt k 64 ≡ true → (out : ValueId) → IsDefined rows out → (at : ℕ) → typed_output env k ((output_at rows out).tree at) ≡ Ok (operand rows out)
  typed_output_found rows env ag k lt out d at =
      let o = (output_at rows out).tree at in
      let z = known rows env ag out d in
      rw (operand_found rows env out z k lt o.name refl, typed_found rows env out z o.name o.ty refl refl) refl

  operands_found : (rows : List Row) (env : List Entry) → Agrees rows env → (ins : List ValueId) (out : ValueId) → AllByRecursion (IsDefined rows) ins → IsDefined rows out → length ins < 64
      → (at : ℕ) → operands_of env ((operands_at rows ins out).tree at) ≡ Ok (map (operand rows) ins, operand rows out)
  unfolding typed_inputs
  operands_found rows env ag [] out d dd le at = rw (typed_output_found rows env ag 0 refl out dd at) refl
  operands_found rows env ag (v ∷ vs) out d dd le at =
      let o = (operands_at rows (v ∷ vs) out).tree at in
      let i = (inputs_at rows v vs).tree at in
      let k = known rows env ag v d.0 in
      let first = operand_found rows env v k 0 refl i.first refl in
      let more = more_inputs_found rows env ag 1 vs i.more d.1 (omega arith) (each_laid (map (next_input_at rows) vs) _) in
      let ty = typed_found rows env v k i.first i.types.first refl refl in
      let tys = more_types_found rows env ag i.types.close vs i.more i.types.more d.1 (each_laid (map (next_input_at rows) vs) _) (each_laid (map (next_type_at rows) vs) _) in
      let few : nat_lt (length (map (operand rows) (v ∷ vs))) 64 ≡ true = lt-ltb (length (map (operand rows) (v ∷ vs))) 64 (omega (arith, length_map (operand rows) (v ∷ vs))) in
      rw (first, more, ty, tys, typed_output_found rows env ag (length (map (operand rows) (v ∷ vs))) few out dd) refl

  iterator_found : (k : ℕ) (i : Iter) (x : IteratorType) → nat_lt k 12 ≡ true → (at : ℕ) → x ≡ (iterator_at i).tree at → iterator_of k x ≡ Ok i
  iterator_found k Parallel x lt at e = rw (e, lt) refl
  iterator_found k Reduction x lt at e = rw (e, lt) refl

  iterators_found : (k : ℕ) (its : List Iter) (xs : List IteratorType) → k + length its ≤ 12 → Laid (map iterator_at its) xs → iterators_from k xs ≡ Ok its
  iterators_found k [] [] le l = refl
  iterators_found k [] (x ∷ xs) le l = absurd l
  iterators_found k (i ∷ is) [] le l = absurd l
  iterators_found k (i ∷ is) (x ∷ xs) le l = rw (iterator_found k i x (lt-ltb k 12 (omega arith)) l.0.0 l.0.1, iterators_found (suc k) is xs (omega arith) l.1) refl

  -- ---- operations

  row_good : (rows : List Row) (env : List Entry) → Agrees rows env → (v : ValueId) → IsDefined rows v → Good (elem_in rows v)
  row_good rows env ag v d = subst (λ o. Good (elem_of (row_or o).ty)) (sym d.1) (ag v.0 d.0 d.1).1.elem

  rows_good : (rows : List Row) (env : List Entry) → Agrees rows env → (vs : List ValueId) → AllByRecursion (IsDefined rows) vs → AllByRecursion Good (map (elem_in rows) vs)
  rows_good rows env ag [] d = tt
  rows_good rows env ag (v ∷ vs) d = (row_good rows env ag v d.0, rows_good rows env ag vs d.1)

  elems_of : (rows : List Row) (vs : List ValueId) → map (λ (o : ValueId × ElemTy). o.1) (map (operand rows) vs) ≡ map (elem_in rows) vs
  elems_of rows [] = refl
  elems_of rows (v ∷ vs) = ap (λ es. elem_in rows v ∷ es) (elems_of rows vs)

  ids_of : (rows : List Row) (vs : List ValueId) → map (λ (o : ValueId × ElemTy). o.0) (map (operand rows) vs) ≡ map (number_in base rows) vs
  ids_of rows [] = refl
  ids_of rows (v ∷ vs) = ap (λ ids. number_in base rows v ∷ ids) (ids_of rows vs)

  abbrev pub scope : Names → List Entry → ℕ → Scope
  scope n env ops = record { env = env; values = base + length n.rows; ops = ops }

  pub then_is : {A B : Type 0} (r : Answer A Fault) (x : A) (f : A → Answer B Fault) (y : Answer B Fault) → r ≡ Ok x → f x ≡ y → and_then r f ≡ y
  then_is r x f y e k = ap (λ s. and_then s f) e ∙ k

  -- the parts of a generic operation, and the operation
  generic_goes : (alias : List AliasShape) (rows : List Row) (env : List Entry) (g : Generic) (maps : List MapShape) (its : List Iter) (ins : List ValueId) (out : ValueId) (p : PayloadShape) (ty : Ty)
      → each (map_of alias) g.maps ≡ Ok maps → iterators_from 0 g.iterators ≡ Ok its → operands_of env g.operands ≡ Ok (map (operand rows) ins, operand rows out) → p.ins ≡ map (elem_in rows) ins → p.out ≡ elem_in rows out
      → payload_of alias env p.ins p.out g.region ≡ Ok p → type_at g.result_type ≡ Ok ty → generic_of alias env g ≡ Ok (ty, kinds.Generic maps its (map (number_in base rows) ins) (number_in base rows out) [] p)
  generic_goes alias rows env g maps its ins out p ty read iters ops ei eo pay rd =
      let es : map (λ (o : ValueId × ElemTy). o.1) (map (operand rows) ins) ≡ p.ins = elems_of rows ins ∙ sym ei in
      let here : payload_of alias env (map (λ (o : ValueId × ElemTy). o.1) (map (operand rows) ins)) (elem_in rows out) g.region ≡ Ok p =
      subst (λ (ts : List ElemTy). payload_of alias env ts (elem_in rows out) g.region ≡ Ok p) (sym es) (subst (λ e. payload_of alias env p.ins e g.region ≡ Ok p) eo pay)
      in
      rw (read, iters, ops) (then_is _ p _ _ here (rw (rd, ids_of rows ins) refl))

  axes_found : (axes : List ℕ) (xs : List SignedNumber) → AllByRecursion (λ n. n ≤ 1048576) axes → Laid (map axis_at axes) xs → each axis_of xs ≡ Ok axes
  axes_found [] [] h l = refl
  axes_found [] (x ∷ xs) h l = absurd l
  axes_found (n ∷ ns) [] h l = absurd l
  axes_found (n ∷ ns) (x ∷ xs) h l =
      let few = le-leb n 1048576 h.0 in
      let value = decimal_value n (omega (arith, h.0)) in
      rw (l.0.1, value, few, axes_found ns xs h.1 l.1) refl

  factors_found : (rows : List Row) (env : List Entry) → Agrees rows env → (ty : Ty) (a b out : ValueId) → IsDefined rows a → IsDefined rows b → IsDefined rows out
      → (at : ℕ) → factors_of env ((factors_at rows ty a b out).tree at) ≡ Ok (number_in base rows a, (number_in base rows b, number_in base rows out))
  factors_found rows env ag ty a b out da db dd at =
      let f = (factors_at rows ty a b out).tree at in
      let x = known rows env ag a da in
      let y = known rows env ag b db in
      rw (id_found rows env a x f.left refl, id_found rows env b y f.right refl, typed_found rows env a x f.left f.left_type refl refl, typed_found rows env b y f.right f.right_type refl refl, output_found rows env ag out dd) refl

  moved_found : (rows : List Row) (env : List Entry) → Agrees rows env → (a out : ValueId) → IsDefined rows a → IsDefined rows out
      → (at : ℕ) → moved_of env ((moved_at rows a out).tree at) ≡ Ok (number_in base rows a, (number_in base rows out, (row_in rows out).ty))
  moved_found rows env ag a out da dd at =
      let s = (moved_at rows a out).tree at in
      rw (typed_id_found rows env a (known rows env ag a da) s.source s.source_type refl refl, output_found rows env ag out dd, type_found rows env out (known rows env ag out dd) s.output.name refl) refl

  moved_usable : (rows : List Row) (env : List Entry) → Agrees rows env → (ty : Ty) (a out : ValueId) (axes : List ℕ) → IsPrintableMove rows ty a out axes → Usable ty
  moved_usable rows env ag ty a out axes h =
      let d = h.output.is_defined in
      let same : ty ≡ (h.output.is_defined).0.ty = h.result ∙ ap (λ (r : Row). r.ty) (row_there rows out d) in
      subst (λ (t : Ty). Usable t) (sym same) (ag out.0 d.0 d.1).1

  -- the type of the result is one of a value
  kind_usable : (rows : List Row) (env : List Entry) → Agrees rows env → (ty : Ty) (o : OpKind) → IsPrintableKind rows ty o → Usable ty
  kind_usable rows env ag ty (kinds.Constant cells) h = usable ty (constant_type ty cells h)
  kind_usable rows env ag ty (kinds.Empty sizes) h = usable ty (tensor_value ty h.1)
  kind_usable rows env ag ty (kinds.Generic maps its ins out captured p) h = usable ty (tensor_value ty h.result)
  kind_usable rows env ag ty (kinds.Fill v out) h = usable ty (tensor_value ty h.result)
  kind_usable rows env ag ty (kinds.Matmul a b out) h = usable ty (tensor_value ty h.result)
  kind_usable rows env ag ty (kinds.BatchMatmul a b out) h = usable ty (tensor_value ty h.result)
  kind_usable rows env ag ty (kinds.Transpose a out order) h = moved_usable rows env ag ty a out order h
  kind_usable rows env ag ty (kinds.Broadcast a out dims) h = moved_usable rows env ag ty a out dims h
  kind_usable rows env ag ty k h = absurd h

  -- where the region begins in a generic operation at a place
  abbrev region_place : List MapShape → List Row → List MapShape → List Iter → List ValueId → ValueId → ℕ → ℕ
  region_place al rows maps its ins out at = at + 14 + 1 + 1 + 13 + 1 + 1 + 1 + 1 + length (bytes_of (commas (map (use_at al) maps)).pieces) + 1 + 1 + 1 + 14 + 1 + 1 + 1 + 1 + length (bytes_of (commas (map iterator_at its)).pieces) + 1 + 1 + 1 + length (bytes_of (operands_at rows ins out).pieces) + 1 + 1 + 5

  kind_found : (alias : List AliasShape) (al : List MapShape) (n : Names) (env : List Entry) (k : ℕ) (ty : Ty) (o : OpKind) → Standing n env → AreCanon n.args (n.results + 1) env → Bound k n → k < 65535 → MapsRead alias al (maps_used o) → IsPrintableKind n.rows ty o
      → (at : ℕ) → kind_of alias env ((operation_at al n ty o).tree at) ≡ Ok (ty, kind_renumbered (number_in base n.rows) o)
  unfolding kind_of
  kind_found alias al n env k ty (kinds.Constant cells) s canon b lt ms h at = constant_found alias env ty cells h at
  kind_found alias al n env k ty (kinds.Empty []) s canon b lt ms h at = let rd = readable ty h.1 in rw rd.shaped refl
  kind_found alias al n env k ty (kinds.Empty (v ∷ vs)) s canon b lt ms h at = absurd (cc (h.0))
  kind_found alias al n env k ty (kinds.Generic maps its ins out (c ∷ cs) p) s canon b lt ms h at = absurd (cc (h.not_captured))
  kind_found alias al n env k ty (kinds.Generic maps its ins out [] p) s canon b lt ms h at =
      let g = (generic_at al n.rows n.args (n.results + 1) ty maps its ins out p).tree at in
      let ba = b.args in
      let br = b.results in
      let i = inner_few n.rows ty (kinds.Generic maps its ins out [] p) h in
      let gs = subst (λ (es : List ElemTy). AllByRecursion Good es) (sym h.ins_typed) (rows_good n.rows env s.agrees ins h.ins_defined) in
      let go = subst (λ e. Good e) (sym h.out_typed) (row_good n.rows env s.agrees out h.output.is_defined) in
      let names = all_split (MapRead alias al) maps (steps_maps p.steps) ms in
      let pay = region_found alias al env n.args (n.results + 1) p canon (omega (arith, i.0)) (omega (arith, i.1)) h.few_steps gs go h.payload h.steps names.1 in
      let rd = readable ty h.result in
      generic_goes alias n.rows env g maps its ins out p ty (uses_read alias al maps names.0 g.maps (commas_laid (map (use_at al) maps) _)) (iterators_found 0 its g.iterators (omega (arith, h.few_iterators)) (commas_laid (map iterator_at its) _))
      (operands_found n.rows env s.agrees ins out h.ins_defined h.output.is_defined h.few _) h.ins_typed h.out_typed (pay (region_place al n.rows maps its ins out at)) (rd.shaped _)
  kind_found alias al n env k ty (kinds.Fill v out) s canon b lt ms h at =
      let f = (fill_at n.rows ty v out).tree at in
      let rd = readable ty h.result in
      rw (typed_id_found n.rows env v (known n.rows env s.agrees v h.value.is_defined) f.value f.value_type refl refl, output_found n.rows env s.agrees out h.output.is_defined, rd.shaped) refl
  kind_found alias al n env k ty (kinds.Matmul x y out) s canon b lt ms h at =
      let rd = readable ty h.result in
      rw (factors_found n.rows env s.agrees ty x y out h.left.is_defined h.right.is_defined h.output.is_defined, rd.shaped) refl
  kind_found alias al n env k ty (kinds.BatchMatmul x y out) s canon b lt ms h at =
      let rd = readable ty h.result in
      rw (factors_found n.rows env s.agrees ty x y out h.left.is_defined h.right.is_defined h.output.is_defined, rd.shaped) refl
  kind_found alias al n env k ty (kinds.Transpose a out order) s canon b lt ms h at =
      let t = (transpose_at n.rows a out order).tree at in
      rw (moved_found n.rows env s.agrees a out h.source.is_defined h.output.is_defined, axes_found order t.axes h.near (commas_laid (map axis_at order) _)) (ap (λ (u : Ty). Ok (u, kinds.Transpose (number_in base n.rows a) (number_in base n.rows out) order)) (sym h.result))
  kind_found alias al n env k ty (kinds.Broadcast a out dims) s canon b lt ms h at =
      let t = (broadcast_at n.rows a out dims).tree at in
      rw (moved_found n.rows env s.agrees a out h.source.is_defined h.output.is_defined, axes_found dims t.axes h.near (commas_laid (map axis_at dims) _)) (ap (λ (u : Ty). Ok (u, kinds.Broadcast (number_in base n.rows a) (number_in base n.rows out) dims)) (sym h.result))
  kind_found alias al n env k ty o s canon b lt ms h at = absurd h

  -- ---- statements

  pub length_last : (rows : List Row) (r : Row) → length (rows ++ r ∷ []) ≡ suc (length rows)
  length_last rows r = length-append rows (r ∷ []) ∙ omega arith

  pub small_names : (k : ℕ) (n : Names) → Bound k n → k ≤ 65536 → Small n.args n.results
  small_names k n b le = let a = b.args in let r = b.results in record { args = omega arith; results = omega arith }

  abbrev meaning : Names → Ty → OpKind → Meaning
  meaning n ty o = result_meaning (base + length n.rows) ty (kind_renumbered (number_in base n.rows) o)

  abbrev defined : Names → List Entry → Ty → OpKind → List Entry
  defined n env ty o = env ++ entry (result_name n.results) (meaning n ty o) ∷ []

  line_found : (alias : List AliasShape) (al : List MapShape) (n : Names) (env : List Entry) (k : ℕ) (r : ValueId × Ty) (o : OpKind) → Standing n env → Bound k n → k < 65535 → MapsRead alias al (maps_used o) → IsPrintableKind n.rows r.1 o
      → (at : ℕ) → statement_of alias (scope n env k) ((line_at al n (r ∷ []) o).tree at) ≡ Ok (scope (names_after n (r ∷ []) o) (defined n env r.1 o) (suc k), record { id = record { 0 = k }; results = results_renumbered (length n.rows + base) (r ∷ []); kind = kind_renumbered (number_in base n.rows) o })
  line_found alias al n env k r o s b lt ms h at =
      let none = fresh_result n.args n.results env (small_names k n b (omega arith)) s.canon in
      let wide = canon_more n.args n.results n.args (n.results + 1) (omega arith) (omega arith) env s.canon in
      let room = lt-ltb k 65536 (omega arith) in
      let kind = kind_found alias al n env k r.1 o s wide b lt ms h in
      let len = length_last n.rows (row_of r.0 (Result n.results) r.1) in
      let y : base + length (n.rows ++ row_of r.0 (Result n.results) r.1 ∷ []) ≡ suc (base + length n.rows) = omega (arith, len) in
      let z : length n.rows + base ≡ base + length n.rows = omega arith in
      rw (none, room, kind, y, z) refl

  line_standing : (n : Names) (env : List Entry) (k : ℕ) (r : ValueId × Ty) (o : OpKind) → Standing n env → Bound k n → k ≤ 65536 → IsPrintableKind n.rows r.1 o → Standing (names_after n (r ∷ []) o) (defined n env r.1 o)
  line_standing n env k r o s b le h =
      let none = fresh_result n.args n.results env (small_names k n b le) s.canon in
      record {
        agrees = agrees_more n.rows env (row_of r.0 (Result n.results) r.1) (meaning n r.1 o) s.agrees none (kind_usable n.rows env s.agrees r.1 o h) (meaning_held (base + length n.rows) r.1 (kind_renumbered (number_in base n.rows) o));
        canon = all_last (λ e. IsCanon (n.args + inner_args o) (n.results + inner_results o + 1) e.name) env (entry (result_name n.results) (meaning n r.1 o))
            (canon_more n.args n.results (n.args + inner_args o) (n.results + inner_results o + 1) (omega arith) (omega arith) env s.canon) (inr (n.results, omega arith, refl));
      }

  -- an operation with one result, by its results
  pub by_results : (alias : List AliasShape) (al : List MapShape) (n : Names) (env : List Entry) (k : ℕ) (rs : List (ValueId × Ty)) (o : OpKind) → Standing n env → Bound k n → k < 65535 → MapsRead alias al (maps_used o) → IsPrintableLine n.rows rs o
      → (env2 : List Entry) × ((at : ℕ) → statement_of alias (scope n env k) ((line_at al n rs o).tree at) ≡ Ok (scope (names_after n rs o) env2 (suc k), record { id = record { 0 = k }; results = results_renumbered (length n.rows + base) rs; kind = kind_renumbered (number_in base n.rows) o }))
      × Standing (names_after n rs o) env2 × Bound (suc k) (names_after n rs o)
  by_results alias al n env k [] o s b lt ms h = absurd h
  by_results alias al n env k (r ∷ []) o s b lt ms h =
      let z : k + 1 ≡ suc k = omega arith in
      (defined n env r.1 o, line_found alias al n env k r o s b lt ms h, line_standing n env k r o s b (omega arith) h, subst (λ j. Bound j (names_after n (r ∷ []) o)) z (bound_next k n r o b h))
  by_results alias al n env k (r ∷ (q ∷ rs)) o s b lt ms h = absurd h
