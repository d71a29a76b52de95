use Rattle.std.proofs.Common.{Option, subst, sym}
use Rattle.planner_machine.specs.declared.content.Bounds.{Bounds}
use Rattle.plan_store.specs.Queries.{AddsQueries, ReadsEnd}
use Rattle.plan_store.proofs.QueryLemmas.{asks_end, no_end}
use Rattle.plan_store.proofs.queries.add_plan_end.Goals as goal

pub returns-in_default : goal.returns-in_default
returns-in_default c =
    let links = c.args.in_force.now.items in
    let all = c.args.definitions.now in
    let old = c.args.queries.now.items in
    subst (λ (b : Option Bounds). AddsQueries (ReadsEnd links all b) old old) (sym c.in_default.is)
    (no_end links all old)

pub returns : goal.returns
returns c =
    let links = c.args.in_force.now.items in
    let all = c.args.definitions.now in
    let old = c.args.queries.now.items in
    let new = c.add_all_defined.new.queries.items in
    let bounds = c.in-Some.bounds in
    subst (λ (b : Option Bounds). AddsQueries (ReadsEnd links all b) old new) (sym c.in-Some.is)
    (asks_end links all bounds old c.add_all_links.new.queries.items new c.in_ok-add_all_links.ensures
    c.in_ok-add_all_defined.ensures)
