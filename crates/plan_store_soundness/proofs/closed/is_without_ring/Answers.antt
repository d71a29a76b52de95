use Rattle.std.proofs.Common.{List, refl, subst}
use Rattle.external_dependencies.specs.Loop.{IsLeastOnLoop}
use Rattle.external_dependencies.specs.declared.links.Link.{Link}
use Rattle.plan_store_soundness.proofs.EdgeLemmas.{HaveLinks, links_kept, loop_to_ring, ring_to_loop}
use Rattle.plan_store_soundness.proofs.closed.is_without_ring.Goals as goal

pub returns-in-None : goal.returns-in-None
returns-in-None c =
    let pairs = c.args.pairs.now in
    let links : List Link = c.from_vec-links.result in
    let are : HaveLinks pairs links =
    links_kept pairs c.in_ok-links_of.field-0.items links c.in_ok-links_of.ensures c.from_vec-links.ensures.kept in
    let none = subst (IsLeastOnLoop links) c.in-None.is c.in_ok-find_loop.ensures in (
      (λ yes serial ring. let (app, loop) = ring_to_loop pairs links are serial ring in none app loop),
      λ no. refl,
    )

pub returns : goal.returns
returns c =
    let pairs = c.args.pairs.now in
    let links : List Link = c.from_vec-links.result in
    let are : HaveLinks pairs links =
    links_kept pairs c.in_ok-links_of.field-0.items links c.in_ok-links_of.ensures c.from_vec-links.ensures.kept in
    let found = subst (IsLeastOnLoop links) c.in-Some.is c.in_ok-find_loop.ensures in
    let (serial, ring) = loop_to_ring pairs links are c.in-Some.field-0 found.0 in
    ((λ yes. cc), λ none. absurd (none serial ring))
