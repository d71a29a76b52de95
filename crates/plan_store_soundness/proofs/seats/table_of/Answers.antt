use Rattle.std.proofs.Common.{◌≡◌, ◌+◌, ◌++◌, ◌∷◌, ◌∙◌, [], List, Option, arith, ap, subst, sym, take}
use Rattle.std.specs.Prelude.{MatchBool}
use Rattle.std.specs.List.{Contains}
use Rattle.std.proofs.lemmas.List.{take_all, take_more}
use Rattle.std.proofs.lemmas.List.Elements.{Contains-get_or}
use Rattle.external_dependencies.specs.declared.rows.PlacedRow.{PlacedRow}
use Rattle.plan_store_soundness.specs.Seats.{Puts}
use Rattle.plan_store_soundness.proofs.SeatLemmas.{Full, IsTableSoFar, Lacks, not_before, table_full, table_lacks}
use Rattle.plan_store_soundness.proofs.SeatLemmas.{table_more, table_refuses, taken_contains, told_full, told_lacks}
use Rattle.plan_store_soundness.proofs.seats.table_of.Goals as goal

pub returns-then-not-put : goal.returns-then-not-put
returns-then-not-put c =
    let all = c.args.all.now in
    let i = c.loop-placed.placed-index in
    let lt = c.loop-placed-test.true in
    let p = c.placed-item.result in
    let old = c.loop-placed.table.items in
    let new = c.put.new.table.items in
    let refused = subst (Puts p old new) c.if-not-put.true c.put.ensures in
    table_refuses c.args.issued all (take i all) p old new c.loop-placed.invariant (λ q. taken_contains all i q lt)
    (subst (Contains all) (sym c.placed-item.is) (Contains-get_or all i p lt))
    (λ before. not_before all i p c.requires lt (subst (Contains (take i all)) c.placed-item.is before)) refused

pub loop-placed-preserved : goal.loop-placed-preserved
loop-placed-preserved c =
    let all = c.args.all.now in
    let i = c.loop-placed.placed-index in
    let p = c.placed-item.result in
    let old = c.loop-placed.table.items in
    let new = c.put.new.table.items in
    let front : take (i + 1) all ≡ take i all ++ p ∷ [] =
    take_more all i p c.loop-placed-test.true ∙ ap (λ x. take i all ++ x ∷ []) (sym c.placed-item.is) in
    let puts = subst (Puts p old new) c.if-not-put.false c.put.ensures in
    subst (λ (seen : List PlacedRow). IsTableSoFar c.args.issued seen new) (sym front)
    (table_more c.args.issued (take i all) p old new c.loop-placed.invariant puts)

pub returns-then-is_full : goal.returns-then-is_full
returns-then-is_full c =
    let all = c.args.all.now in
    let table = c.loop-placed.table.items in
    let whole : take c.loop-placed.placed-index all ≡ all = take_all c.loop-placed.placed-index all (omega arith) in
    let end = subst (λ (seen : List PlacedRow). IsTableSoFar c.args.issued seen table) whole c.loop-placed.invariant in
    let told = subst (λ (l : List (Option PlacedRow)). MatchBool c.is_full.result (Full l)
    (Lacks l)) c.deref.ensures.value
    c.is_full.ensures in
    table_full c.args.issued all table end (told_full c.is_full.result table c.if-is_full.true told)

pub returns-else-is_full : goal.returns-else-is_full
returns-else-is_full c =
    let all = c.args.all.now in
    let table = c.loop-placed.table.items in
    let whole : take c.loop-placed.placed-index all ≡ all = take_all c.loop-placed.placed-index all (omega arith) in
    let end = subst (λ (seen : List PlacedRow). IsTableSoFar c.args.issued seen table) whole c.loop-placed.invariant in
    let told = subst (λ (l : List (Option PlacedRow)). MatchBool c.is_full.result (Full l)
    (Lacks l)) c.deref.ensures.value
    c.is_full.ensures in
    table_lacks c.args.issued all table end (told_lacks c.is_full.result table c.if-is_full.false told)
