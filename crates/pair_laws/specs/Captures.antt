-- The captured values of a producer and a consumer stand among those of both.
use Rattle.std.specs.Prelude.{◌≡◌, ℕ, ◌<◌, length, slice_index_or}
use Rattle.mlir_meaning.specs.Meaning.{captured_in}
use Rattle.mlir_meaning.specs.States.{State}
use Rattle.verified_runs.specs.Forms.{Structured}
use Rattle.pair_laws.specs.Pairs.{captured_of, place_in}

pub record CapturedMeet (p c : Structured) (u : State) : Type 0 where
  pub of_producer : (i : ℕ) → i < length p.captured → place_in (captured_of p c) p.captured i < length (captured_of p c)
  pub of_consumer : (i : ℕ) → i < length c.captured → place_in (captured_of p c) c.captured i < length (captured_of p c)
  pub producer_outer : (i : ℕ) → i < length p.captured →
      slice_index_or (captured_in u.values (captured_of p c)) (place_in (captured_of p c) p.captured i) 0
      ≡ slice_index_or (captured_in u.values p.captured) i 0
  pub consumer_outer : (i : ℕ) → i < length c.captured →
      slice_index_or (captured_in u.values (captured_of p c)) (place_in (captured_of p c) c.captured i) 0
      ≡ slice_index_or (captured_in u.values c.captured) i 0
