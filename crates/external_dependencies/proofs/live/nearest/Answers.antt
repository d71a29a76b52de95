use Rattle.std.proofs.Common.{◌∙◌, sym, subst, None}
use Rattle.std.specs.List.{Contains}
use Rattle.std.proofs.lemmas.Bool.{false≢true}
use Rattle.external_dependencies.specs.Nearest.{IsNearest, IsNearestArrival}
use Rattle.external_dependencies.proofs.NearestLemmas.{answer_close, answer_far}
use Rattle.external_dependencies.proofs.live.nearest.Goals as goal

pub returns-then-arrives_within : goal.returns-then-arrives_within
returns-then-arrives_within c =
    let live = c.args.live.now in
    let key = c.args.key.now in
    let app = c.args.app.now in
    let is : IsNearest (Contains live) key app None c.in-Some.last =
    subst (IsNearestArrival (Contains live) key app None) c.in-Some.is c.last_arrival.ensures in
    answer_close (Contains live) key app c.args.within c.in-Some.last is
    (c.arrives_within.ensures.0 c.if-arrives_within.true)

pub returns-else-arrives_within : goal.returns-else-arrives_within
returns-else-arrives_within c =
    let live = c.args.live.now in
    let key = c.args.key.now in
    let app = c.args.app.now in
    let is : IsNearest (Contains live) key app None c.in-Some.last =
    subst (IsNearestArrival (Contains live) key app None) c.in-Some.is c.last_arrival.ensures in
    answer_far (Contains live) key app c.args.within c.in-Some.last is
    (λ close. false≢true (sym c.if-arrives_within.false ∙ c.arrives_within.ensures.1 close))
