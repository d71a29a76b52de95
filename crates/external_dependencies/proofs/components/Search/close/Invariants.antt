use Rattle.std.proofs.Common.{vec_len}
use Rattle.external_dependencies.proofs.components.Search.close.Given as goal

abbrev pub decreases-loop-last : goal.decreases-loop-last
decreases-loop-last l = vec_len l.self.open
