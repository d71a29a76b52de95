use Rattle.plan_store.specs.Contents.{content_of}
use Rattle.plan_store.specs.Parts.{with_rest}
use Rattle.plan_store.proofs.SomeListing.{some_listing}
use Rattle.plan_store.proofs.contents.Content.has_listings_with.Goals as goal

pub returns : goal.returns
returns c rest numbered = some_listing (with_rest rest (content_of c.args.self.now)) numbered
    c.rise.ensures c.rise-2.ensures
