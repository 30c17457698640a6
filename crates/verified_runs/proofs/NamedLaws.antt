-- A structured operation is its generic, which passes the verifier.
use Rattle.std.proofs.Common.{◌≡◌, ◌&&◌, Bool, true, false, not, List, [], ◌∷◌, Option, Some, None, refl, ap, sym, subst, ◌∙◌}
use Rattle.std.specs.List.{list_all}
use Rattle.std.proofs.lemmas.Bool.{and_parts}
use Rattle.std.proofs.lemmas.Option.{same_Some}
use Rattle.mlir_ir.specs.Count.{operands}
use Rattle.mlir_ir.specs.declared.tree.Ty.{Ty}
use Rattle.mlir_ir.specs.declared.tree.ValueId.{ValueId}
use Rattle.mlir_ir.specs.declared.tree.OpKind.{OpKind, Generic, Fill, Matmul, BatchMatmul, Transpose, Broadcast}
use Rattle.mlir_meaning.specs.Meaning.{kind_meaning}
use Rattle.mlir_verify.specs.Place.{Types, type_among}
use Rattle.mlir_verify.specs.Built.{is_built_type, is_built_kind, is_built}
use Rattle.mlir_verify.specs.Constants.{Constants}
use Rattle.mlir_verify.specs.Names.{in_scope}
use Rattle.mlir_verify.specs.Types.{is_typed, is_typed_generic}
use Rattle.mlir_verify.specs.Tensors.{result_type, is_alike}
use Rattle.mlir_verify.specs.Maps.{axes, breaks_maps, breaks_iterators}
use Rattle.mlir_verify.specs.Extents.{axes_agree, has_extents_of, keeps_extents, breaks_extents}
use Rattle.mlir_verify.specs.Windows.{breaks_windows}
use Rattle.verified_runs.specs.Typed.{types_of}
use Rattle.verified_runs.specs.Forms.{Structured, kind_of, structured_of, is_generic}
use Rattle.verified_runs.specs.Laws.{NamedMeansGeneric, GenericPasses}
use Rattle.verified_runs.proofs.Named.{same_kind}
use Rattle.verified_runs.proofs.NamedPasses.{KeepsRules, named_passes}

not_false : (b : Bool) → not b ≡ false → b ≡ true
not_false true e = refl
not_false false e = absurd cc

-- MEANING
-- a generic is its own
own_kind : (t : Types) (kind : OpKind) (g : Structured) → structured_of t kind ≡ Some g → is_generic kind ≡ true → kind_of g ≡ kind
unfolding structured_of
own_kind t (Generic maps iterators ins outs captured payload) g e b = ap kind_of (sym (same_Some _ g e))
own_kind t kind g e b = absurd cc

pub named_means_generic : NamedMeansGeneric
unfolding kind_meaning
named_means_generic scope wanted o g u passes e typed = by_kind (is_generic o.kind) refl where
  by_kind : (b : Bool) → is_generic o.kind ≡ b → kind_meaning (kind_of g) o.results u ≡ kind_meaning o.kind o.results u
  by_kind true b = ap (λ kind. kind_meaning kind o.results u) (own_kind (type_among scope) o.kind g e b)
  by_kind false b = let same = (same_kind scope u typed o.results o.results o.kind passes.constants wanted g passes.typed e b).1 in same.is ∙ sym same.was

-- TYPES
same_result : (rs qs : List (ValueId × Ty)) → types_of rs ≡ types_of qs → result_type rs ≡ result_type qs
same_result rs qs e = of_types rs ∙ ap one_of e ∙ sym (of_types qs) where
  one_of : List Ty → Option Ty
  one_of [] = None
  one_of (t ∷ []) = Some t
  one_of (t ∷ u ∷ ts) = None

  of_types : (rs : List (ValueId × Ty)) → result_type rs ≡ one_of (types_of rs)
  of_types [] = refl
  of_types (r ∷ []) = refl
  of_types (r ∷ s ∷ rs) = refl

built_types : (rs : List (ValueId × Ty)) → list_all (λ (r : ValueId × Ty). is_built_type r.1) rs ≡ list_all is_built_type (types_of rs)
built_types [] = refl
built_types (r ∷ rs) = ap (λ b. is_built_type r.1 && b) (built_types rs)

-- the operands of a generic are the operation's
same_operands : (t : Types) (kind : OpKind) (g : Structured) → structured_of t kind ≡ Some g → operands (kind_of g) ≡ operands kind
unfolding structured_of
same_operands t (Generic maps iterators ins outs captured payload) g e = ap (λ (x : Structured). operands (kind_of x)) (sym (same_Some _ g e))
same_operands t (Fill value outs) g e = ap (λ (x : Structured). operands (kind_of x)) (sym (same_Some _ g e))
same_operands t (Matmul a b outs) g e = ap (λ (x : Structured). operands (kind_of x)) (sym (same_Some _ g e))
same_operands t (BatchMatmul a b outs) g e = ap (λ (x : Structured). operands (kind_of x)) (sym (same_Some _ g e))
same_operands t (Transpose source outs order) g e = ap (λ (x : Structured). operands (kind_of x)) (sym (same_Some _ g e))
same_operands t (Broadcast source outs dims) g e = ap (λ (x : Structured). operands (kind_of x)) (sym (same_Some _ g e))
same_operands t kind g e = absurd cc

-- THE RULES
module _ (t : Types) (c : Constants) (wanted : List Ty) (rs qs : List (ValueId × Ty)) (same : result_type qs ≡ result_type rs) where
  -- a generic with other results of the same types
  generic_kept : (kind : OpKind) → is_generic kind ≡ true → is_typed t c wanted qs kind ≡ true → breaks_maps t kind ≡ false → breaks_iterators kind ≡ false →
      breaks_extents t wanted qs kind ≡ false → breaks_windows t kind ≡ false → KeepsRules t c wanted rs kind
  unfolding is_typed breaks_extents keeps_extents
  generic_kept (Generic maps iterators ins outs captured payload) b typed m i x w = record {
    typed = ap (λ r. is_typed_generic t c maps iterators ins outs captured payload && is_alike (t outs.0) r) (sym same) ∙ typed;
    maps = m;
    iterators = i;
    extents = ap (λ r. not (axes_agree (axes t maps ins outs) && has_extents_of (t outs.0) r)) (sym same) ∙ x;
    windows = w;
  }
  generic_kept kind b typed m i x w = absurd cc

pub generic_passes : GenericPasses
unfolding is_built breaks_extents
generic_passes scope wanted o g i results passes e types news =
    let t = type_among scope in
    let same = same_result o.results results (sym types) in
    let rules : KeepsRules t passes.constants wanted results (kind_of g) = by_kind (is_generic o.kind) refl same in
    let results_built = (and_parts (is_built_kind o.kind) _ passes.built).1 in
    record {
      constants = passes.constants;
      news = news;
      known = ap (in_scope t) (same_operands t o.kind g e) ∙ passes.known;
      built = built_types results ∙ ap (list_all is_built_type) types ∙ sym (built_types o.results) ∙ results_built;
      typed = rules.typed;
      maps = rules.maps;
      iterators = rules.iterators;
      extents = rules.extents;
      windows = rules.windows;
    } where
      by_kind : (b : Bool) → is_generic o.kind ≡ b → result_type o.results ≡ result_type results → KeepsRules (type_among scope) passes.constants wanted results (kind_of g)
      by_kind true b same =
          subst (KeepsRules (type_among scope) passes.constants wanted results) (sym (own_kind (type_among scope) o.kind g e b))
          (generic_kept (type_among scope) passes.constants wanted results o.results same o.kind b passes.typed passes.maps passes.iterators passes.extents passes.windows)
      by_kind false b same = named_passes (type_among scope) passes.constants wanted results o.results o.kind g same passes.typed (not_false _ passes.extents) e b
