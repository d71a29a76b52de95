use Rattle.std.proofs.Common.{◌≡◌, ◌≢◌, ◌+◌, ◌∙◌, ◌⊎◌, ap, inl, inr, sym}
use Rattle.std.proofs.lemmas.Bool.{false≢true}
use Rattle.external_dependencies.proofs.NearestLemmas.{answer_close, answer_far}
use Rattle.planner_machine.specs.Pairs.{LiveAt}
use Rattle.plan_store.specs.Views.{with_hidden}
use Rattle.plan_store.proofs.ArrivalLemmas.{other_name, nearest_none, nearest_some, same_name}
use Rattle.plan_store.proofs.views.View.nearest.Goals as goal
use Rattle.plan_store.proofs.views.View.nearest.Goals.{then-eq, else-eq}

-- nothing arrives before it
pub returns-in_default : goal.returns-in_default
returns-in_default c hidden numbered part seen =
    let s = (with_hidden hidden c.args.self.now).sets in
    let key = c.args.key.now in
    let app = c.args.app.now in
    let limit = c.if-eq.limit in
    let is_limit : ((app ≡ key.app) × (limit ≡ key.ia)) ⊎ ((app ≢ key.app) × (limit ≡ key.ia + 1)) =
    elim c.if-eq.branch [
      | then-eq w ↦ inl (
        same_name app key.app (sym w.if-eq.ensures),
        w.limit-is
            ∙ c.number-arrival.ensures.value,
      )
      | else-eq w ↦ inr (
        other_name app key.app (sym w.if-eq.ensures),
        w.limit-is
            ∙ ap (λ n. n + 1) c.number-arrival.ensures.value,
      )
    ] in
    nearest_none s key app limit is_limit c.args.within
    (c.in_default.ensures hidden numbered part (seen limit is_limit))

-- the last that does is close enough
pub returns-then-arrives_within : goal.returns-then-arrives_within
returns-then-arrives_within c hidden numbered part seen =
    let s = (with_hidden hidden c.args.self.now).sets in
    let key = c.args.key.now in
    let app = c.args.app.now in
    let limit = c.if-eq.limit in
    let is_limit : ((app ≡ key.app) × (limit ≡ key.ia)) ⊎ ((app ≢ key.app) × (limit ≡ key.ia + 1)) =
    elim c.if-eq.branch [
      | then-eq w ↦ inl (
        same_name app key.app (sym w.if-eq.ensures),
        w.limit-is
            ∙ c.number-arrival.ensures.value,
      )
      | else-eq w ↦ inr (
        other_name app key.app (sym w.if-eq.ensures),
        w.limit-is
            ∙ ap (λ n. n + 1) c.number-arrival.ensures.value,
      )
    ] in
    answer_close (LiveAt s) key app c.args.within c.in-Some.near
    (nearest_some s key app limit is_limit c.in-Some.near
    (c.in-Some.ensures hidden numbered part (seen limit is_limit)))
    (c.arrives_within.ensures.0 c.if-arrives_within.true)

-- or too far
pub returns-else-arrives_within : goal.returns-else-arrives_within
returns-else-arrives_within c hidden numbered part seen =
    let s = (with_hidden hidden c.args.self.now).sets in
    let key = c.args.key.now in
    let app = c.args.app.now in
    let limit = c.if-eq.limit in
    let is_limit : ((app ≡ key.app) × (limit ≡ key.ia)) ⊎ ((app ≢ key.app) × (limit ≡ key.ia + 1)) =
    elim c.if-eq.branch [
      | then-eq w ↦ inl (
        same_name app key.app (sym w.if-eq.ensures),
        w.limit-is
            ∙ c.number-arrival.ensures.value,
      )
      | else-eq w ↦ inr (
        other_name app key.app (sym w.if-eq.ensures),
        w.limit-is
            ∙ ap (λ n. n + 1) c.number-arrival.ensures.value,
      )
    ] in
    answer_far (LiveAt s) key app c.args.within c.in-Some.near
    (nearest_some s key app limit is_limit c.in-Some.near
    (c.in-Some.ensures hidden numbered part (seen limit is_limit)))
    (λ close. false≢true (sym c.if-arrives_within.false ∙ c.arrives_within.ensures.1 close))
