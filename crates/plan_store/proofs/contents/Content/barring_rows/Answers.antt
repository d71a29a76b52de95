use Rattle.std.proofs.Common.{◌∙◌, sym}
use Rattle.plan_store.proofs.WindowLemmas.{none_bar}
use Rattle.plan_store.proofs.contents.Content.barring_rows.Goals as goal

pub returns-in-None : goal.returns-in-None
returns-in-None c =
    c.new.ensures.items ∙ sym (none_bar c.args.self.now.bounds c.in-None.is c.args.self.now.deletions.items)
