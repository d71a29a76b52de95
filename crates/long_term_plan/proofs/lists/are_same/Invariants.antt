use Rattle.std.proofs.Common.{ℕ, ◌≡◌, ◌<◌, get_or}
use Rattle.external_dependencies.specs.declared.links.Link.{Link}
use Rattle.long_term_plan.proofs.lists.are_same.Given as goal

-- the links so far
abbrev pub invariant-loop-place : goal.invariant-loop-place
invariant-loop-place l = (k : ℕ) (d : Link) → k < l.place → get_or l.links k d ≡ get_or l.others k d
