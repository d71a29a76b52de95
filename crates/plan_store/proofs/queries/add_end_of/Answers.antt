use Rattle.std.proofs.Common.{◌+◌, List, Option, subst, sym}
use Rattle.planner_machine.specs.declared.content.Bounds.{Bounds}
use Rattle.plan_store.specs.Queries.{AddsQueries, ReadsEndOf}
use Rattle.plan_store.proofs.WindowLemmas.{on_ok}
use Rattle.plan_store.proofs.QueryLemmas.{asks_end_of, no_end_of}
use Rattle.plan_store.proofs.queries.add_end_of.Goals as goal

pub returns-in_default : goal.returns-in_default
returns-in_default c =
    let links = c.args.in_force.now.items in
    let all = c.args.definitions.now in
    let old = c.args.queries.now.items in
    subst (λ (b : Option Bounds). AddsQueries (ReadsEndOf links all b c.args.naming.now) old old) (sym c.in_default.is)
    (no_end_of links all c.args.naming.now old)

pub returns : goal.returns
returns c =
    let links = c.args.in_force.now.items in
    let all = c.args.definitions.now in
    let old = c.args.queries.now.items in
    let new = c.add_defined.new.queries.items in
    let bounds = c.in-Some.bounds in
    on_ok c.add_defined.result (λ defined. subst (λ (b : Option Bounds). AddsQueries
    (ReadsEndOf links all b c.args.naming.now) old new) (sym c.in-Some.is)
    (asks_end_of links all bounds c.args.naming.now old c.add_list.new.queries.items new c.in_ok-add_list.ensures
    defined)) c.add_defined.ensures
