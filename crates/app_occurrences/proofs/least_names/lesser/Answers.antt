use Rattle.app_occurrences.proofs.LeastLemmas.{at_most_itself, lesser_first, lesser_second}
use Rattle.app_occurrences.proofs.least_names.lesser.Goals as goal

pub returns-in-Some-clause-name : goal.returns-in-Some-clause-name
returns-in-Some-clause-name c = lesser_second c.in-Some.least c.args.app.now c.min.result c.min.ensures

pub returns-in-Some-clause-least : goal.returns-in-Some-clause-least
returns-in-Some-clause-least c = rw c.in-Some.is
    (lesser_first c.in-Some.least c.args.app.now c.min.result c.min.ensures)

pub returns-in-None-clause-name : goal.returns-in-None-clause-name
returns-in-None-clause-name c = at_most_itself c.args.app.now
