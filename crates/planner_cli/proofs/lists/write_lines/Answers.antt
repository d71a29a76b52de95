use Rattle.std.proofs.Common.{◌≡◌, rules, subst, sym}
use Rattle.std.specs.Prelude.{option_copied}
use Rattle.plan_store.specs.Listings.{IsListing}
use Rattle.planner_cli.specs.Sinks.{WritesAll, WritesPart}
use Rattle.planner_cli.proofs.ListLemmas.{wrote_all, wrote_part}
use Rattle.planner_cli.proofs.StoreLemmas.{if_err, if_ok}
use Rattle.planner_cli.proofs.lists.write_lines.Goals as goal

pub returns-clause-all : goal.returns-clause-all
returns-clause-all g c honest =
    let hands = c.rows_to.ensures.all honest in
    let whole = IsListing c.args.what (option_copied c.args.app) (g.S.PlanStore.content c.args.store.now) in
    if_ok c.rows_to.result _ _ (λ count h.
    let (named, wrote) = wrote_all c.rows_to.new.sink (λ k. g.W.Write.contents k.writer.now) (λ k. k.writer.ghost_name)
    whole _ c.rows_to.new.sink count h in
    let same : c.rows_to.new.sink.writer.now ≡ c.writer-1.given.0 = search rules in
    subst (λ w. WritesAll whole (g.W.Write.contents c.args.writer.now) (g.W.Write.contents w) count) same wrote) hands

pub returns-clause-part : goal.returns-clause-part
returns-clause-part g c honest still =
    let hands = c.rows_to.ensures.part honest still in
    let whole = IsListing c.args.what (option_copied c.args.app) (g.S.PlanStore.content c.args.store.now) in
    if_err c.rows_to.result _ _ (λ fault h.
    let (named, wrote) = wrote_part c.rows_to.new.sink (λ k. g.W.Write.contents k.writer.now) (λ k. k.writer.ghost_name)
    whole _ c.rows_to.new.sink fault h in
    let same = sym (c.writer-1.given.1 (sym named)) in
    subst (λ w. WritesPart whole (g.W.Write.contents c.args.writer.now) (g.W.Write.contents w) fault) same wrote) hands
