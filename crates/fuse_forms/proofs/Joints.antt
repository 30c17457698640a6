-- What the code joins by is what is stated.
use Rattle.std.proofs.Common.{◌≡◌, ℕ, List, map, length, ap, ◌∙◌}
use Rattle.std.specs.Prelude.{[], slice_index_or}
use Rattle.std.proofs.lemmas.List.{length-map}
use Rattle.affine_maps.specs.declared.map.Expr.{Expr}
use Rattle.mlir_base.specs.declared.types.ElemTy.{ElemTy}
use Rattle.mlir_ir.specs.declared.tree.ValueId.{ValueId}
use Rattle.mlir_meaning.specs.Points.{place_of}
use Rattle.payload_ops.specs.Shape.{PayloadShape}
use Rattle.payload_ops.specs.declared.step.Arg.{Arg}
use Rattle.payload_ops.specs.declared.step.PayloadStep.{PayloadStep}
use Rattle.payload_forms.specs.Captured.{placed, used}
use Rattle.payload_forms.specs.Joined.{Joint, joined}
use Rattle.payload_forms.specs.Moved.{number_at}
use Rattle.payload_forms.specs.declared.placing.PlacedPayload.{PlacedPayload}
use Rattle.verified_runs.specs.Forms.{Structured}
use Rattle.pair_laws.specs.Pairs.{captured_of, joined_rest, numbers_of, value_at_place}
use Rattle.fuse_forms.specs.Captures.{value}
use Rattle.fuse_forms.specs.Forms.{formed_of, joint_by, placed_payload}
use Rattle.fuse_forms.proofs.Values.{values_there}

module _ (j : Joint) (p c : PayloadShape) where
  pub placed_same : (n : ℕ) (ins : List ElemTy) (out : ElemTy) (rest : List PayloadStep) (yielded : Arg) → n ≡ j.captured → ins ≡ (joined j p c).ins →
      out ≡ (joined j p c).out → rest ≡ joined_rest j p c → yielded ≡ (joined j p c).yielded →
      record { payload = placed n ins out rest yielded; used = used n [] rest } ≡ placed_payload j p c
  placed_same n ins out rest yielded a b d e f = λ i. record { payload = placed (a i) (b i) (d i) (e i) (f i); used = used (a i) [] (e i) }

module _ (p c : Structured) (k : ℕ) (exprs : List Expr) where
  abbrev all : List ValueId
  all = captured_of p c

  pub joint_same : (numbers of_producer of_consumer : List ℕ) (n : ℕ) → numbers ≡ numbers_of all →
      of_producer ≡ map (λ (v : ValueId). place_of v.0 0 numbers) p.captured →
      of_consumer ≡ map (λ (v : ValueId). place_of v.0 0 numbers) c.captured → n ≡ length numbers →
      record { input = k; exprs = exprs; captured = n; of_producer = number_at of_producer; of_consumer = number_at of_consumer } ≡ joint_by p c k exprs
  joint_same numbers of_producer of_consumer n e a b d = λ i. record {
    input = k;
    exprs = exprs;
    captured = (d ∙ ap length e ∙ length-map all (λ (v : ValueId). v.0)) i;
    of_producer = number_at ((a ∙ (λ j. map (λ (v : ValueId). place_of v.0 0 (e j)) p.captured)) i);
    of_consumer = number_at ((b ∙ (λ j. map (λ (v : ValueId). place_of v.0 0 (e j)) c.captured)) i);
  }

  pub formed_same : (numbers : List ℕ) (values : List ValueId) (placed : PlacedPayload) → numbers ≡ numbers_of all →
      placed ≡ placed_payload (joint_by p c k exprs) p.payload c.payload →
      values ≡ map (λ n. value (slice_index_or numbers n 0)) placed.used →
      record { captured = values; payload = placed.payload } ≡ formed_of p c k exprs
  formed_same numbers values placed e a b = λ i. record {
    captured = (b ∙ values_there all numbers placed.used e ∙ (λ j. map (value_at_place all) (a j).used)) i;
    payload = (a i).payload;
  }
