-- A content that is made part by part.
use Rattle.std.proofs.Common.{◌≡◌, ◌∙◌, List, sym, ap, subst}
use Rattle.std.specs.List.{All}
use Rattle.app_definitions.specs.declared.definitions.Definitions.{Definitions}
use Rattle.external_dependencies.specs.Link.{link_cmp}
use Rattle.external_dependencies.specs.Pair.{pair_cmp}
use Rattle.external_dependencies.specs.Rising.{HaveSame, IsRising}
use Rattle.external_dependencies.specs.declared.pairs.Pair.{Pair}
use Rattle.planner_machine.specs.Content.{Content}
use Rattle.planner_machine.specs.declared.job.Job.{Job}
use Rattle.plan_store.specs.Room.{with_definitions, with_pairs_of}
use Rattle.plan_tables_content.specs.Content.{IsSmall}
use Rattle.plan_tables_loading.specs.Lists.{HasLists, HasRows, with_bounds, with_jobs, with_links}
use Rattle.plan_tables_loading.specs.Order.{job_number}
use Rattle.plan_tables_loading.specs.declared.lists.PlanLists.{PlanLists}
use Rattle.plan_tables_loading.proofs.ListLemmas.{holds_each}

module _ (definitions : Definitions) (lists : PlanLists) (first : Content) (has : HasRows lists.rows first.sets)
    (pairs : List Pair) where
  abbrev bounded : Content
  bounded = with_bounds lists.meta.bounds lists.meta.issued (with_definitions definitions first)

  abbrev whole : Content
  whole = with_jobs lists.jobs.items (with_pairs_of pairs (with_links lists.links bounded))

  whole_has : IsRising link_cmp lists.links → HaveSame pairs lists.pairs.items
      → IsRising pair_cmp pairs → All (λ (job : Job). IsSmall job.reply) lists.jobs.items
      → HasLists definitions lists whole
  whole_has rise same rise' small = record {
    defined = λ i. definitions;
    bounds = λ i. lists.meta.bounds;
    issued = λ i. lists.meta.issued;
    placed = record { ltp = has.ltp; cp = has.cp; history = has.history; deletions = has.deletions };
    in_force = λ i. lists.links;
    links_rise = rise;
    paired = same;
    pairs_rise = rise';
    kept = holds_each job_number lists.jobs.items lists.job_order;
    small = small;
  }

  pub made_has : (c1 c2 c3 c4 c5 : Content) → c1 ≡ with_definitions definitions first
      → c2 ≡ with_bounds lists.meta.bounds lists.meta.issued c1 → c3 ≡ with_links lists.links c2
      → c4 ≡ with_pairs_of pairs c3 → c5 ≡ with_jobs lists.jobs.items c4
      → IsRising link_cmp lists.links → HaveSame pairs lists.pairs.items
      → IsRising pair_cmp pairs → All (λ (job : Job). IsSmall job.reply) lists.jobs.items
      → HasLists definitions lists c5
  made_has c1 c2 c3 c4 c5 e1 e2 e3 e4 e5 rise same rise' small =
      let to_2 = e2 ∙ ap (with_bounds lists.meta.bounds lists.meta.issued) e1 in
      let to_3 = e3 ∙ ap (with_links lists.links) to_2 in
      let to_4 = e4 ∙ ap (with_pairs_of pairs) to_3 in
      let to_5 = e5 ∙ ap (with_jobs lists.jobs.items) to_4 in
      subst (HasLists definitions lists) (sym to_5) (whole_has rise same rise' small)
