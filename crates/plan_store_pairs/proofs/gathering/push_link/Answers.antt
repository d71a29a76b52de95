use Rattle.std.proofs.Common.{List, [], subst}
use Rattle.external_dependencies.specs.declared.rows.PlacedRow.{PlacedRow}
use Rattle.plan_store.specs.Views.{with_hidden}
use Rattle.plan_store_pairs.specs.Gathering.{AddsBetween, AddsEach, IsReachedAmong, IsReachedBy}
use Rattle.plan_store_pairs.proofs.EachLemmas.{adds_same}
use Rattle.plan_store_pairs.proofs.GatherLemmas.{by_rows}
use Rattle.plan_store_pairs.proofs.gathering.push_link.Goals as goal

pub returns : goal.returns
returns c h numbered =
    let s = (with_hidden h c.args.view.now).sets in
    let row = c.args.row.now in
    let link = c.args.link.now in
    let last = c.args.last.now in
    let rows = c.push_between.new.rows.items in
    let old = c.args.found.now.items in
    let new = c.push_reached.new.found.items in
    let both = c.in_ok-push_between.ensures h numbered in
    let adds : AddsBetween s link.app row.key.ia last [] rows =
    subst (λ (ps : List PlacedRow). AddsBetween s link.app row.key.ia last ps rows) c.new-rows.ensures.items both.0 in
    let each : AddsEach (IsReachedAmong row link.within) rows old new =
    subst (λ (ps : List PlacedRow). AddsEach (IsReachedAmong row link.within) ps old new) c.deref.ensures.value
    c.in_ok-push_reached.ensures in
    adds_same _ (IsReachedBy s row last link) old new (by_rows s row last link rows adds both.1) each
