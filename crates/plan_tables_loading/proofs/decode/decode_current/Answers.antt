use Rattle.std.proofs.Common.{◌≡◌, ◌∙◌, ◌∷◌, [], ap, arith, length, refl}
use Rattle.sqlite.specs.declared.types.Value.TheVariants.{Text}
use Rattle.occurrences.specs.Status.{status_letter}
use Rattle.plan_tables_loading.proofs.CellLemmas.{current_from}
use Rattle.plan_tables_loading.proofs.decode.decode_current.Goals as goal

pub returns-clause-value : goal.returns-clause-value
returns-clause-value c =
    let letter : c.in_ok-letter.letter ≡ status_letter c.in_ok-status.status =
    (c.in_ok-status.ensures c.in_ok-status.status).0 refl in
    let size : length c.args.cells.now ≡ 6 = omega arith in
    current_from _ _ size c.in_ok-row.ensures.value (c.in_ok-letter.ensures.value ∙ ap (λ l. Text (l ∷ [])) letter)
