use Rattle.std.proofs.Common.{◌≡◌, ◌↔◌, subst}
use Rattle.std.specs.List.{Contains}
use Rattle.external_dependencies.specs.declared.links.Link.{Link}
use Rattle.plan_store_lists.specs.LinkBlocks.{LinkList}
use Rattle.plan_store_lists.proofs.link_blocks.LinkBlocks.list.Goals as goal

pub returns-clause-all : goal.returns-clause-all
returns-clause-all c =
    subst (λ (v : LinkList). (link : Link) → Contains c.of_group.result.now link
    ↔ (Contains v.items link × (link.app ≡ c.args.app.now))) c.self.view_is c.of_group.ensures.all
