-- A tile cuts what has a size.
use Rattle.std.proofs.Common.{◌≡◌, ℕ, zero, suc, ◌<◌, ◌==◌, not, true, false, List, [], ◌∷◌, length, get_or, refl, ap, sym, ◌∙◌, arith}
use Rattle.std.proofs.lemmas.Bool.{ne_eqb, true≢false, false≢true}
use Rattle.mlir_meaning.specs.Grids.{InBox}
use Rattle.point_laws.specs.Tiles.{tile_box, tile_offsets, tile_sizes, is_cut, Cut}
use Rattle.point_laws.proofs.Ragged.{tile_begins, tile_fits}

-- A TILE CUTS WHAT HAS A SIZE
suc_cut : (t : ℕ) → not (suc t == 0) ≡ true
suc_cut t = ap not (ne_eqb (suc t) 0 (λ e. omega arith))

still : (es ts q : List ℕ) (d : ℕ) → InBox (tile_box es ts) q → is_cut ts d ≡ false → (get_or (tile_offsets es ts q) d 0 ≡ 0) × (get_or (tile_sizes es ts q) d 0 ≡ get_or es d 0)
still [] ts q d b h = (refl, refl)
still (e ∷ es) [] q zero b h = (refl, refl)
still (e ∷ es) [] q (suc d) b h = still es [] q d b refl
still (e ∷ es) (zero ∷ ts) q zero b h = (refl, refl)
still (e ∷ es) (zero ∷ ts) q (suc d) b h = still es ts q d b h
still (e ∷ es) (suc t ∷ ts) (k ∷ q) zero b h = absurd (true≢false (sym (suc_cut t) ∙ h))
still (e ∷ es) (suc t ∷ ts) (k ∷ q) (suc d) b h = still es ts q d b.1 h
still (e ∷ es) (suc t ∷ ts) [] d b h = absurd b

filled : (es ts q : List ℕ) (d : ℕ) → InBox (tile_box es ts) q → is_cut ts d ≡ true → d < length es → 0 < get_or (tile_sizes es ts q) d 0
filled [] ts q d b h l = absurd (omega arith)
filled (e ∷ es) [] q d b h l = absurd (false≢true h)
filled (e ∷ es) (zero ∷ ts) q zero b h l = absurd (false≢true h)
filled (e ∷ es) (zero ∷ ts) q (suc d) b h l = filled es ts q d b h (omega arith)
filled (e ∷ es) (suc t ∷ ts) (k ∷ q) zero b h l = omega (arith, tile_begins e (suc t) k (omega arith) b.0)
filled (e ∷ es) (suc t ∷ ts) (k ∷ q) (suc d) b h l = filled es ts q d b.1 h (omega arith)
filled (e ∷ es) (suc t ∷ ts) [] d b h l = absurd b

pub tile_cut : (es ts q : List ℕ) → InBox (tile_box es ts) q → Cut (is_cut ts) es (tile_offsets es ts q) (tile_sizes es ts q)
tile_cut es ts q b = record { fits = tile_fits es ts q b; still = λ d h. still es ts q d b h; filled = λ d h l. filled es ts q d b h l }
