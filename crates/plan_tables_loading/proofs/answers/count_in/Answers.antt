use Rattle.std.proofs.Common.{◌∙◌}
use Rattle.std.proofs.lemmas.Fmt.{parse-decimal}
use Rattle.plan_tables_loading.proofs.answers.count_in.Goals as goal

pub returns : goal.returns
returns c n small is =
    let word = c.split.ensures.front ∙ is in
    let parsed = parse-decimal 64 n _ c.parse.result small small word c.parse.ensures.value.0 in
    let u = rw parsed at c.unwrap_or.ensures in
    cc
