use Rattle.affine_text.proofs.CanonicalBytes.{map_bytes}
use Rattle.affine_text.proofs.CanonicalSpaced.{map_spaced}
use Rattle.affine_text.proofs.CanonicalTokens.{map_spelled}
use Rattle.affine_text.proofs.CanonicalMeaning.{map_means}
use Rattle.affine_text.proofs.CanonicalFits.{map_fits}
use Rattle.affine_text.proofs.laws.canonical_pieces.Goals as goal

pub returns-clause-text : goal.returns-clause-text
returns-clause-text c = map_bytes

pub returns-clause-spaced : goal.returns-clause-spaced
returns-clause-spaced _ c m rest i = map_spaced c m i rest

pub returns-clause-tree : goal.returns-clause-tree
returns-clause-tree c = map_spelled

pub returns-clause-means : goal.returns-clause-means
returns-clause-means _ c m at symbols i = (map_fits c at m symbols i, map_means c at m i)
