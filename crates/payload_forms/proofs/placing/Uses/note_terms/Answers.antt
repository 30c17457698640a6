use Rattle.payload_forms.proofs.Noted.{notes_more}
use Rattle.payload_forms.proofs.placing.Uses.note_terms.Goals as goal

pub loop-term-preserved : goal.loop-term-preserved
loop-term-preserved c =
    notes_more c.args.self.now c.loop-term.self c.note.new.self c.args.terms.now c.loop-term.term-index _ c.loop-term-test.true c.loop-term.invariant c.in_ok-note.ensures
