use Rattle.plan_store.specs.Contents.{content_of}
use Rattle.plan_tables_loading.proofs.MadeLemmas.{made_has}
use Rattle.plan_tables_loading.proofs.contents.content_of_lists.Goals as goal

pub returns : goal.returns
returns c = made_has c.args.definitions c.args.lists (content_of c.in_ok-content.content) c.in_ok-content.ensures
    c.in_ok-pairs.pairs (content_of c.put_definitions.new.content)
    (content_of c.put_bounds.new.content) (content_of c.put_links.new.content) (content_of c.put_pairs.new.content)
    (content_of c.put_jobs.new.content) c.put_definitions.ensures c.put_bounds.ensures (rw c.in_ok-in_force.ensures at c.put_links.ensures.kept)
    c.put_pairs.ensures.kept c.put_jobs.ensures.kept (rw c.in_ok-in_force.ensures at c.put_links.ensures.rising)
    c.in_ok-pairs.ensures.same c.in_ok-pairs.ensures.rising c.put_jobs.ensures.small
