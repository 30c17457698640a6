-- The laws of lanes as they are stated.
use Rattle.std.proofs.Common.{Some, ap, ◌∙◌}
use Rattle.mlir_meaning.specs.States.{element}
use Rattle.payload_laws.proofs.Traps.{never_traps}
use Rattle.lane_laws.specs.Laws.{LanesAreGeneric, ReducedLanesAreGeneric, MasksChoose}
use Rattle.lane_laws.specs.Lanes.{lane_vectors}
use Rattle.lane_laws.proofs.LaneSteps.{LaneResult, lanes_give}
use Rattle.lane_laws.proofs.LaneLaw.{TermRun, term_run, lanes_mean, terms_are, reduction_means}
use Rattle.lane_laws.proofs.LaneReductions.{ReducesAt, reduces_at, Chooses, mask_chooses}

pub lanes : LanesAreGeneric
lanes g N is o vector reads_out lane_payload are among =
    let ins = lane_vectors g.inputs in
    let r : LaneResult g.lanes g.payload N o ins vector are = lanes_give g.lanes g.payload N o ins vector are lane_payload (never_traps g.payload is.cannot.is is.cannot.never) in (
      r.all,
      r.runs,
      λ v w e wide back.
          lanes_mean g.box g.lanes is.grows g.inputs g.ds g.width g.out is.selects g.captured g.payload is.typed N is.inputs o vector reads_out among lane_payload v w wide
          (λ p b. r.gives p b ∙ ap (λ d. Some (element d p)) e) back,
    )

pub reduced : ReducedLanesAreGeneric
reduced g N is lane_payload are reds k t found par small =
    let ins = lane_vectors g.inputs in
    let j : ReducesAt N g.payload t = reduces_at N g.payload k t lane_payload found in
    let r : TermRun g.lanes g.payload ins j.y t = term_run g.lanes g.payload N ins are j.y t j.within j.steps j.here (never_traps g.payload is.cannot.is is.cannot.never) in (
      j.y,
      r.all,
      r.runs,
      λ T S A w e chosen acc back.
          reduction_means g.box g.lanes is.grows g.inputs g.ds g.width g.out is.selects g.captured g.payload is.typed N is.inputs reds k t is.cannot.is found par.once par.among par.among_back
          par.below T S A w chosen
          (terms_are g.box g.lanes is.grows g.inputs g.ds g.width g.out is.selects g.captured g.payload is.typed N is.inputs j.y t lane_payload j.later T
          (λ p b. r.gives p b ∙ ap (λ d. Some (element d p)) e)) acc small back,
    )

pub chosen : MasksChoose
chosen box vs width e T = let m : Chooses box vs width e T = mask_chooses box vs width e T in (m.grid, m.is, m.chosen)
