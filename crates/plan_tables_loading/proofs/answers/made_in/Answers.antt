use Rattle.std.proofs.Common.{◌∙◌, Some, Ok, ap}
use Rattle.occurrences.specs.declared.reply.Reply.TheVariants.{Made}
use Rattle.plan_tables_loading.specs.Lines.{front}
use Rattle.plan_tables_loading.proofs.answers.made_in.Goals as goal

pub returns : goal.returns
returns c m w small_m small_w is_m is_w =
    let one = c.count_in.ensures m small_m is_m in
    let two = c.count_in-2.ensures w small_w (ap (λ l. front l) c.behind_two.ensures ∙ is_w) in
    λ i. Some (Ok (Made (one i) (two i)))
