use Rattle.std.proofs.Common.{◌≡◌, ◌∙◌, take, take_all, subst, inl, inr, arith}
use Rattle.std.specs.Cmp.Lexicographic.{slice_cmp}
use Rattle.std.specs.Ordering.{nat_cmp}
use Rattle.external_dependencies.specs.declared.links.Link.{Link}
use Rattle.external_dependencies.proofs.OrderLemmas.{name_ties}
use Rattle.plan_store_lists.specs.Blocks.{HasRoomAt}
use Rattle.plan_store_lists.specs.LinkBlocks.{names_cmp, names_in}
use Rattle.plan_store_lists.specs.declared.namings.Naming.{Naming}
use Rattle.plan_store_lists.proofs.LinkBlockLemmas.{front_cases}
use Rattle.plan_store_lists.proofs.RunLemmas.{blocks_stay}
use Rattle.plan_store_lists.proofs.namings.reserve_namings.Goals as goal

pub reserve_group-requires-clause-ties : goal.reserve_group-requires-clause-ties
reserve_group-requires-clause-ties c = name_ties

pub returns-in_err-reserve_group-clause-blocks : goal.returns-in_err-reserve_group-clause-blocks
returns-in_err-reserve_group-clause-blocks c =
    blocks_stay (slice_cmp nat_cmp) names_cmp (λ (naming : Naming). naming.link.predecessor) names_in
    c.loop-link.namings.blocks.items c.reserve_group.new.list.blocks.items c.loop-link.invariant.blocks
    c.reserve_group.ensures.rise c.reserve_group.ensures.blocks

pub loop-link-preserved : goal.loop-link-preserved
loop-link-preserved c =
    let after = c.reserve_group.new.list.blocks.items in
    record {
      blocks = blocks_stay (slice_cmp nat_cmp) names_cmp (λ (naming : Naming). naming.link.predecessor) names_in
          c.loop-link.namings.blocks.items after c.loop-link.invariant.blocks c.reserve_group.ensures.rise
          c.reserve_group.ensures.blocks;
      same = c.reserve_group.ensures.same ∙ c.loop-link.invariant.same;
      room = λ x there. elim ((front_cases c.args.links.now c.loop-link.link-index c.link-item.result
          c.loop-link-test.true c.link-item.is x).0 there) [
            | inl early ↦ c.reserve_group.ensures.stays x.predecessor 1 (c.loop-link.invariant.room x early)
            | inr own ↦ subst (λ (l : Link). HasRoomAt after l.predecessor 1) own c.in_ok-reserve_group.ensures.room
          ];
    }

pub returns-clause-room : goal.returns-clause-room
returns-clause-room c =
    let whole : take c.loop-link.link-index c.args.links.now ≡ c.args.links.now = take_all c.loop-link.link-index
    c.args.links.now (omega arith) in
    rw whole at c.loop-link.invariant.room
