use Rattle.std.proofs.Common.{◌∙◌, List, subst, sym}
use Rattle.std.specs.List.{All}
use Rattle.std.proofs.lemmas.Bool.{false≢true}
use Rattle.external_dependencies.specs.declared.links.Link.{Link}
use Rattle.planner_machine.specs.Sound.{IsLink}
use Rattle.plan_store_soundness.proofs.RangeLemmas.{links_from, links_to}
use Rattle.plan_store_soundness.proofs.ranges.has_ranges.Goals as goal

pub returns-then-not-definitions : goal.returns-then-not-definitions
returns-then-not-definitions c numbered = (
  (λ yes. absurd (false≢true yes)),
  λ ranges. absurd (false≢true (sym c.if-not-definitions.true ∙ c.in_ok-definitions.ensures.1 ranges.definitions)),
)

pub returns-then-not-has_days : goal.returns-then-not-has_days
returns-then-not-has_days c numbered = (
  (λ yes. absurd (false≢true yes)),
  λ ranges. absurd (false≢true (sym c.if-not-has_days.true ∙ c.has_days.ensures.1 ranges.days)),
)

pub returns-then-not-are_links : goal.returns-then-not-are_links
returns-then-not-are_links c numbered = (
  (λ yes. absurd (false≢true yes)),
  λ ranges. absurd (false≢true (sym c.if-not-are_links.true ∙ c.are_links.ensures.1
      (subst (λ (l : List Link). All IsLink l) (sym (c.as_slice.ensures.all ∙ c.in_ok-links.ensures))
      (links_to c.args.content.now.in_force.items ranges.links)))),
)

pub returns : goal.returns
returns c numbered =
    let kept = c.args.content.now in
    let tells = c.have_ranges.ensures numbered in (
      (λ yes. record {
        definitions = c.in_ok-definitions.ensures.0 c.if-not-definitions.false;
        rows = tells.0 yes;
        days = c.has_days.ensures.0 c.if-not-has_days.false;
        links = links_from kept.in_force.items (subst (λ (l : List Link). All IsLink l)
            (c.as_slice.ensures.all ∙ c.in_ok-links.ensures)
            (c.are_links.ensures.0 c.if-not-are_links.false));
      }),
      λ ranges. tells.1 ranges.rows,
    )
