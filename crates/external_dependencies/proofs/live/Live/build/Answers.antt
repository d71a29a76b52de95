use Rattle.std.proofs.Common.{◌≡◌, ◌↔◌, ◌+◌, ◌++◌, ◌∷◌, [], take, sym, ap, subst, arith, ◌∙◌}
use Rattle.std.specs.List.{Contains}
use Rattle.std.proofs.lemmas.Bool.{false≢true}
use Rattle.std.proofs.lemmas.List.{take_more, take_all}
use Rattle.external_dependencies.specs.Nearest.{IsLiveIn, arrival_of}
use Rattle.external_dependencies.proofs.NearestLemmas.{arrival_ties}
use Rattle.external_dependencies.proofs.PairLemmas.{live_more, live_skip}
use Rattle.external_dependencies.proofs.live.Live.build.Goals as goal
use Rattle.external_dependencies.proofs.live.Live.build.Goals.{then-is_live+in_ok-push, else-is_live}

-- one more row
pub loop-placed-preserved : goal.loop-placed-preserved
loop-placed-preserved c arrival =
    let rows = c.as_slice-placed-items.result.now in
    let placed = c.placed-item.result in
    let index = c.loop-placed.placed-index in
    let front : take (index + 1) rows ≡ take index rows ++ placed ∷ [] =
    take_more rows index placed c.loop-placed-test.true
    ∙ ap (λ x. take index rows ++ x ∷ []) (sym c.placed-item.is) in
    let more : Contains c.if-is_live.arrivals.items arrival ↔ IsLiveIn (take index rows ++ placed ∷ []) arrival =
    elim c.if-is_live.branch [
      | then-is_live+in_ok-push w ↦
          let pushed : w.push.new.self.items ≡ c.loop-placed.arrivals.items ++ arrival_of placed.row ∷ [] =
          w.in_ok-push.ensures.items in
          rw (w.arrivals-is, pushed)
          (live_more (take index rows) c.loop-placed.arrivals.items c.loop-placed.invariant placed
          (c.is_live.ensures.0 w.if-is_live.true) arrival)
      | else-is_live w ↦
          rw w.arrivals-is (live_skip (take index rows) c.loop-placed.arrivals.items c.loop-placed.invariant placed
          (λ is_live. false≢true (sym w.if-is_live.false ∙ c.is_live.ensures.1 is_live)) arrival)
    ] in
    subst (λ rs. Contains c.if-is_live.arrivals.items arrival ↔ IsLiveIn rs arrival) (sym front) more

pub into_rising-requires : goal.into_rising-requires
into_rising-requires c = arrival_ties

-- all rows
pub returns : goal.returns
returns c arrival =
    let whole : take c.loop-placed.placed-index c.as_slice-placed-items.result.now ≡ c.args.rows.now =
    take_all c.loop-placed.placed-index c.as_slice-placed-items.result.now (omega arith)
    ∙ c.as_slice-placed-items.ensures in
    let is : Contains c.loop-placed.arrivals.items arrival ↔ IsLiveIn c.args.rows.now arrival =
    subst (λ rs. Contains c.loop-placed.arrivals.items arrival ↔ IsLiveIn rs arrival) whole
    (c.loop-placed.invariant arrival) in
    let same = c.into_rising.ensures.same arrival in
    ((λ here. is.0 (same.0 here)), λ here. same.1 (is.1 here))
