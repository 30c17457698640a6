-- Operations change no value but those that they define.
use Rattle.std.proofs.Common.{◌≡◌, ℕ, Bool, true, false, ℤ, List, [], ◌∷◌, Option, Some, None, refl, ◌∙◌, subst}
use Rattle.std.specs.Prelude.{⊤, if◌then◌else◌, Result, Ok, Err}
use Rattle.std.proofs.lemmas.Bool.{ne_eqb}
use Rattle.mlir_ir.specs.declared.tree.Op.{Op}
use Rattle.mlir_ir.specs.declared.tree.Ty.{Ty}
use Rattle.mlir_ir.specs.declared.tree.ValueId.{ValueId}
use Rattle.mlir_ir.specs.declared.tree.OpKind.{OpKind, Constant, Apply, Least, Empty, ExtractSlice, InsertSlice, Pad, Generic, Fill, Matmul, BatchMatmul, Transpose, Broadcast, Pack, Unpack, For', Forall', Yield, ParallelInsert, CreateMask, TransferRead, TransferWrite, Elementwise, MultiReduction, Return}
use Rattle.mlir_meaning.specs.declared.answer.Fault.{Fault}
use Rattle.mlir_meaning.specs.declared.answer.Fault.TheVariants.{Stuck}
use Rattle.mlir_meaning.specs.Grids.{Grid, Each}
use Rattle.mlir_meaning.specs.States.{Datum, Number, Insertion, State, Outcome, Goes, Ends, Fails, set, set_all, names_of, defines, made, is_index, indexed, then_goes, then_ends, then_made}
use Rattle.mlir_meaning.specs.Loops.{inserted_data, for_meaning, forall_meaning, insertion_noted}
use Rattle.mlir_meaning.specs.Meaning.{numbers_in, least_result, kind_meaning, run}
use Rattle.mlir_meaning.specs.Names.{DoesNotName}
use Rattle.mlir_meaning.specs.Laws.{RunsKeepOthers}

module _ (v : ℕ) where
  -- if the run goes on, v holds what it held
  Keeps : State → Outcome → Type 0
  Keeps s (Goes t) = (t.values v ≡ s.values v) × (t.shared ≡ s.shared)
  Keeps s (Ends ds) = ⊤
  Keeps s (Fails x) = ⊤

  set_all-other : (ws : List ValueId) (ds : List Datum) (e : ℕ → Datum) → DoesNotName v ws → set_all e ws ds v ≡ e v
  set_all-other [] ds e h = refl
  set_all-other (w ∷ ws) [] e h = refl
  set_all-other (w ∷ ws) (d ∷ ds) e h = set_all-other ws ds (set e w.0 d) h.1 ∙ (λ j. if ne_eqb v w.0 h.0 j then d else e v)

  module _ (rs : List (ValueId × Ty)) (s : State) (apart : DoesNotName v (names_of rs)) where
    defines-keeps : (ds : List Datum) → Keeps s (defines rs s ds)
    unfolding Keeps
    defines-keeps ds = (set_all-other (names_of rs) ds s.values apart, refl)

    one-keeps : (d : Datum) → Keeps s (defines rs s (d ∷ []))
    one-keeps d = defines-keeps (d ∷ [])

    made-keeps : (x : Option Datum) → Keeps s (made rs s x)
    unfolding Keeps
    made-keeps None = tt
    made-keeps (Some d) = defines-keeps (d ∷ [])

    held-keeps : (held : Bool) (ds : List Datum) → Keeps s (if held then defines rs s ds else Fails Stuck)
    unfolding Keeps
    held-keeps true ds = defines-keeps ds
    held-keeps false ds = tt

    indexed-keeps : (n : ℤ) → Keeps s (indexed rs s n)
    indexed-keeps n = held-keeps (is_index n) (Number n ∷ [])

    ends-keeps : (o : Outcome) → Keeps s (then_ends o (defines rs s))
    unfolding Keeps
    ends-keeps (Goes t) = tt
    ends-keeps (Ends ds) = defines-keeps ds
    ends-keeps (Fails x) = tt

    inserts-keep : (r : Result (List Insertion) Fault) (ds : List Datum) → Keeps s (then_made r (λ is. defines rs s (inserted_data is 0 ds)))
    unfolding Keeps
    inserts-keep (Ok is) ds = defines-keeps (inserted_data is 0 ds)
    inserts-keep (Err x) ds = tt

    noted-keeps : (o : Option ℕ) (tile : Grid) (offsets : List ℕ) → Keeps s (insertion_noted o tile offsets s)
    unfolding Keeps
    noted-keeps None tile offsets = tt
    noted-keeps (Some n) tile offsets = (refl, refl)

    ends_kept : (ds : List Datum) → Keeps s (Ends ds)
    unfolding Keeps
    ends_kept ds = tt

    kind-keeps : (kind : OpKind) → Keeps s (kind_meaning kind rs s)
    unfolding kind_meaning for_meaning forall_meaning
    kind-keeps (Constant cells) = one-keeps _
    kind-keeps (Apply m args) = indexed-keeps (least_result m (numbers_in s.values args))
    kind-keeps (Least m args) = indexed-keeps (least_result m (numbers_in s.values args))
    kind-keeps (Empty sizes) = one-keeps _
    kind-keeps (ExtractSlice source offsets sizes) = one-keeps _
    kind-keeps (InsertSlice source dest offsets sizes) = one-keeps _
    kind-keeps (Pad source high padding) = one-keeps _
    kind-keeps (Generic maps iterators ins outs captured payload) = made-keeps _
    kind-keeps (Fill x outs) = made-keeps _
    kind-keeps (Matmul a b outs) = made-keeps _
    kind-keeps (BatchMatmul a b outs) = made-keeps _
    kind-keeps (Transpose source outs order) = made-keeps _
    kind-keeps (Broadcast source outs dims) = made-keeps _
    kind-keeps (Pack source dest padding dims tiles) = one-keeps _
    kind-keeps (Unpack source dest dims tiles) = one-keeps _
    kind-keeps (For' var lower upper step carried shape row) = ends-keeps _
    kind-keeps (Forall' vars lower upper step shared shape row) = inserts-keep _ _
    kind-keeps (Yield vs) = ends_kept _
    kind-keeps (ParallelInsert source dest offsets sizes) = noted-keeps _ _ _
    kind-keeps (CreateMask sizes) = one-keeps _
    kind-keeps (TransferRead source offsets padding mask m) = one-keeps _
    kind-keeps (TransferWrite x dest offsets mask m) = one-keeps _
    kind-keeps (Elementwise op args) = made-keeps _
    kind-keeps (MultiReduction kind source acc dims) = one-keeps _
    kind-keeps (Return vs) = ends_kept _

  still : (s u : State) → Keeps s (Goes u) → (o : Outcome) → Keeps u o → Keeps s o
  unfolding Keeps
  still s u h (Goes t) k = (k.0 ∙ h.0, k.1 ∙ h.1)
  still s u h (Ends ds) k = tt
  still s u h (Fails x) k = tt

  then-keeps : (s : State) (o : Outcome) (k : State → Outcome) → Keeps s o → ((u : State) → Keeps u (k u)) → Keeps s (then_goes o k)
  unfolding Keeps
  then-keeps s (Goes u) k h rest = still s u h (k u) (rest u)
  then-keeps s (Ends ds) k h rest = tt
  then-keeps s (Fails x) k h rest = tt

  run-keeps : (os : List Op) (s : State) → Each (λ o. DoesNotName v (names_of o.results)) os → Keeps s (run os s)
  unfolding Keeps run
  run-keeps [] s h = (refl, refl)
  run-keeps (o ∷ os) s h = then-keeps s (kind_meaning o.kind o.results s) (run os) (kind-keeps o.results s h.0 o.kind) (λ u. run-keeps os u h.1)

pub keeps_others : RunsKeepOthers
unfolding Keeps
keeps_others v os s t h goes = let kept : Keeps v s (Goes t) = subst (Keeps v s) goes (run-keeps v os s h) in kept.0
