use Rattle.std.proofs.Common.{rules, ◌≡◌, ℕ, ◌++◌, sym, subst, List, length}
use Rattle.affine_text.specs.Faults.{stream_of, IsMapText}
use Rattle.affine_text.specs.Text.{text_of_map}
use Rattle.affine_text.proofs.ReadsBack.{reads_back}
use Rattle.affine_text.proofs.text.map_text.Goals as goal

pub returns-clause-reads_back : goal.returns-clause-reads_back
returns-clause-reads_back c = λ rest symbols.
    let written : c.from_vec.result ≡ text_of_map c.args.map.now = search rules in
    subst (λ (text : List ℕ). IsMapText symbols (stream_of (text ++ rest)) c.args.map.now (length text)) (sym written) (reads_back c.args.map.now rest symbols c.results.ensures.kept)
