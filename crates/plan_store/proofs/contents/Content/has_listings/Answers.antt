use Rattle.plan_store.specs.Contents.{content_of}
use Rattle.plan_store.specs.Parts.{rest_of}
use Rattle.plan_store.proofs.contents.Content.has_listings.Goals as goal

pub returns : goal.returns
returns c numbered = c.has_listings_with.ensures (rest_of (content_of c.args.self.now)) numbered
