-- One fusion after the other.
use Rattle.std.proofs.Common.{◌≡◌, ℕ, suc, ◌+◌, ◌<◌, true, false, List, [], ◌∷◌, ◌++◌, length, Some, None, ap, sym, subst, ◌∙◌, arith, length-append}
use Rattle.std.specs.Prelude.{Result, Ok, Err, IfOk, get_or, if◌then◌else◌}
use Rattle.mlir_ir.specs.Shape.{FuncShape}
use Rattle.mlir_ir.specs.declared.tree.OpId.{OpId}
use Rattle.mlir_ir.specs.declared.tree.OpKind.{OpKind}
use Rattle.mlir_meaning.specs.Grids.{Each}
use Rattle.payload_laws.specs.Known.{may_trap}
use Rattle.verified_runs.specs.Forms.{kind_of}
use Rattle.verified_runs.specs.Passes.{FuncPasses}
use Rattle.pair_laws.specs.FuseAll.{first_pair, fuse_from, fuse_next, fuse_pair, fused_of, has_small_maps, Pair, Stop, MayTrap, LargeNumber}
use Rattle.pair_laws.proofs.Formed.{fused_passes}
use Rattle.pair_laws.proofs.Found.{IsFound, pair_found}
use Rattle.fuse_elementwise.specs.declared.found.Found.{Found}
use Rattle.fuse_elementwise.specs.Spots.{spot}
use Rattle.fuse_elementwise.specs.Turns.{fused_body}
use Rattle.fuse_elementwise.proofs.Bodies.{fused_body_is}

module _ (f : FuncShape) (x : Pair) (first : first_pair f ≡ Some x) where
  abbrev found : IsFound f.params f.body x
  found = pair_found f x first

  pub spot_below : (s : Found) → s ≡ spot x → s.producer < s.consumer
  spot_below s e = subst (λ (s : Found). s.producer < s.consumer) (sym e) (let l : length x.before < length x.before + suc (length x.mid) = omega arith in l)

  pub spot_within : (s : Found) → s ≡ spot x → s.consumer < length f.body
  spot_within s e =
      let long : length f.body ≡ length x.before + suc (length x.mid + suc (length x.after)) =
      ap length found.is ∙ length-append x.before (x.producer ∷ (x.mid ++ (x.consumer ∷ x.after)))
      ∙ ap (λ n. length x.before + suc n) (length-append x.mid (x.consumer ∷ x.after)) in
      let l : length x.before + suc (length x.mid) < length f.body = omega (arith, long) in
      subst (λ (s : Found). s.consumer < length f.body) (sym e) l

  pub pair_put : (s : Found) (kind : OpKind) → s ≡ spot x → kind ≡ kind_of (fused_of x) →
      record { name = f.name; params = f.params; results = f.results; body = fused_body s.producer s.consumer kind f.body } ≡ fuse_pair f x
  pair_put s kind e k =
      let body = (λ j. fused_body (e j).producer (e j).consumer (k j) f.body)
      ∙ fused_body_is x.before x.mid x.after x.producer x.consumer (kind_of (fused_of x)) f.body found.is in
      λ j. record { name = f.name; params = f.params; results = f.results; body = body j }

  -- FUSING GOES ON
  opens : (n : ℕ) → fuse_from (suc n) f ≡ (if may_trap x.p.payload then Err (MayTrap x.producer.id) else (if has_small_maps (fused_of x) then fuse_from n (fuse_pair f x) else Err LargeNumber))
  opens n = ap (fuse_next (fuse_from n) f) first

  pub goes : (m n : ℕ) (g : FuncShape) (whole : Result FuncShape Stop) → m ≡ suc n → may_trap x.p.payload ≡ false → has_small_maps (fused_of x) ≡ true → g ≡ fuse_pair f x →
      fuse_from m f ≡ whole → fuse_from n g ≡ whole
  goes m n g whole e trap small q h =
      ap (fuse_from n) q
      ∙ sym (opens n ∙ (λ j. if trap j then Err (MayTrap x.producer.id) else (if small j then fuse_from n (fuse_pair f x) else Err LargeNumber)))
      ∙ (λ j. fuse_from (sym e j) f) ∙ h

  pub traps : (m n : ℕ) (i : OpId) (whole : Result FuncShape Stop) → m ≡ suc n → may_trap x.p.payload ≡ true → i ≡ x.producer.id → fuse_from m f ≡ whole → whole ≡ Err (MayTrap i)
  traps m n i whole e trap q h =
      sym h ∙ (λ j. fuse_from (e j) f) ∙ opens n
      ∙ (λ j. if trap j then Err (MayTrap x.producer.id) else (if has_small_maps (fused_of x) then fuse_from n (fuse_pair f x) else Err LargeNumber))
      ∙ (λ j. Err (MayTrap (sym q j)))

  pub large : (m n : ℕ) (whole : Result FuncShape Stop) → m ≡ suc n → may_trap x.p.payload ≡ false → has_small_maps (fused_of x) ≡ false → fuse_from m f ≡ whole → whole ≡ Err LargeNumber
  large m n whole e trap small h =
      sym h ∙ (λ j. fuse_from (e j) f) ∙ opens n
      ∙ (λ j. if trap j then Err (MayTrap x.producer.id) else (if small j then fuse_from n (fuse_pair f x) else Err LargeNumber))

  pub passes_on : FuncPasses f → (g : FuncShape) → has_small_maps (fused_of x) ≡ true → g ≡ fuse_pair f x → FuncPasses g
  passes_on p g small q = subst FuncPasses (sym q) (fused_passes f x p first small)

pub stays : (f g : FuncShape) (m n : ℕ) (whole : Result FuncShape Stop) → m ≡ suc n → first_pair f ≡ None → g ≡ f → fuse_from m f ≡ whole → whole ≡ Ok g
stays f g m n whole e none q h = sym h ∙ (λ j. fuse_from (e j) f) ∙ ap (fuse_next (fuse_from n) f) none ∙ (λ j. Ok (sym q j))

pub nothing_left : (f : FuncShape) (m : ℕ) (whole : Result FuncShape Stop) → m ≡ 0 → fuse_from m f ≡ whole → whole ≡ Ok f
nothing_left f m whole e h = sym h ∙ (λ j. fuse_from (e j) f)
