use Rattle.plan_tables.proofs.listing.list_pairs.Goals as goal

pub returns-in-Some : goal.returns-in-Some
returns-in-Some g c = rw c.in-Some.is c.list_app_pairs.ensures

pub returns-in-None : goal.returns-in-None
returns-in-None g c = rw c.in-None.is c.list_all_pairs.ensures
