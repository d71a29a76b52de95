use Rattle.plan_store.specs.Contents.{content_of}
use Rattle.plan_store.proofs.contents.Content.apply.Goals as goal

pub returns-clause-ok : goal.returns-clause-ok
returns-clause-ok c = c.finish.ensures c.args.change (content_of c.args.self.now) c.in_ok-staged.ensures.staged
