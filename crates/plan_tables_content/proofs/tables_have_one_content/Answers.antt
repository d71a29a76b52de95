use Rattle.plan_tables_content.proofs.OneContent.{one_content}
use Rattle.plan_tables_content.proofs.tables_have_one_content.Goals as goal

pub returns : goal.returns
returns c = one_content c.rising_is_unique.ensures.pairs c.rising_is_unique.ensures.links
