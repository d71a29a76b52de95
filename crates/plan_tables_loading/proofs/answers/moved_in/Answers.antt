use Rattle.std.proofs.Common.{◌∙◌, Some, Ok, ap}
use Rattle.occurrences.specs.declared.reply.Reply.TheVariants.{Moved}
use Rattle.plan_tables_loading.specs.Lines.{behind_two, front}
use Rattle.plan_tables_loading.proofs.answers.moved_in.Goals as goal

pub returns : goal.returns
returns c m a k d small_m small_a small_k small_d is_m is_a is_k is_d =
    let completed = c.behind_two-completed.ensures ∙ ap (λ l. behind_two l) c.behind_two-carried.ensures in
    let deleted = c.behind_two-deleted.ensures ∙ ap (λ l. behind_two l) completed in
    let one = c.count_in.ensures m small_m is_m in
    let two = c.count_in-2.ensures a small_a (ap (λ l. front l) c.behind_two-carried.ensures ∙ is_a) in
    let three = c.count_in-3.ensures k small_k (ap (λ l. front l) completed ∙ is_k) in
    let four = c.count_in-4.ensures d small_d (ap (λ l. front l) deleted ∙ is_d) in
    λ i. Some (Ok (Moved (one i) (two i) (three i) (four i)))
