use Rattle.std.proofs.Common.{◌≡◌, ◌∙◌, ◌∷◌, [], ap, arith, length, refl}
use Rattle.sqlite.specs.declared.types.Value.TheVariants.{Text}
use Rattle.occurrences.specs.Place.{reason_letter}
use Rattle.plan_tables_loading.proofs.CellLemmas.{deletion_from}
use Rattle.plan_tables_loading.proofs.decode.decode_deletion.Goals as goal

pub returns-clause-value : goal.returns-clause-value
returns-clause-value c =
    let letter : c.in_ok-letter.letter ≡ reason_letter c.in_ok-reason.reason =
    (c.in_ok-reason.ensures c.in_ok-reason.reason).0 refl in
    let size : length c.args.cells.now ≡ 6 = omega arith in
    deletion_from _ _ size c.in_ok-row.ensures.value (c.in_ok-letter.ensures.value ∙ ap (λ l. Text (l ∷ [])) letter)
