use Rattle.plan_store_lists.proofs.LinkBlockLemmas.{with_list-rising}
use Rattle.plan_tables.proofs.answers.list_rises.Goals as goal

pub returns : goal.returns
returns c old rising =
    let list = c.args.list.now in
    with_list-rising list.app list.links.items old list.rising list.own rising
