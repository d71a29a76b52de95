use Rattle.std.proofs.Common.{◌≡◌, refl, rules, arith, length, None, Some}
use Rattle.std.specs.Prelude.{codes}
use Rattle.run_cycles.specs.declared.cycles.CycleType.TheVariants.{Normal, Negative}
use Rattle.app_definition_records.proofs.CycleLemmas.{no_bytes}
use Rattle.app_definition_records.proofs.FieldLemmas.{one_letter}
use Rattle.app_definition_records.proofs.cycle_records.type_of.Goals as goal

pub returns-in_ok-deadline_of-in-N-clause-valid : goal.returns-in_ok-deadline_of-in-N-clause-valid
returns-in_ok-deadline_of-in-N-clause-valid c =
    let e : c.args.letter.now ≡ codes "N" = grind (arith, one_letter) in
    (λ some. (Normal c.in_ok-deadline_of-in-N.field-0, (e, c.in_ok-deadline_of-in-N.ensures.value)), λ spelled. refl)

pub returns-in-X-clause-valid : goal.returns-in-X-clause-valid
returns-in-X-clause-valid c =
    let e : c.args.letter.now ≡ codes "X" = grind (arith, one_letter) in
    let day : length c.args.day.now ≡ 0 = search rules in
    let time : length c.args.time.now ≡ 0 = search rules in
    (λ some. (Negative None, (e, no_bytes c.args.day.now day, no_bytes c.args.time.now time)), λ spelled. refl)

pub returns-in-X-clause-value : goal.returns-in-X-clause-value
returns-in-X-clause-value c =
    let e : c.args.letter.now ≡ codes "X" = grind (arith, one_letter) in
    let day : length c.args.day.now ≡ 0 = search rules in
    let time : length c.args.time.now ≡ 0 = search rules in
    (e, no_bytes c.args.day.now day, no_bytes c.args.time.now time)

pub returns-in_ok-deadline_of-in-X-2-clause-valid : goal.returns-in_ok-deadline_of-in-X-2-clause-valid
returns-in_ok-deadline_of-in-X-2-clause-valid c =
    let e : c.args.letter.now ≡ codes "X" = grind (arith, one_letter) in (
      λ some. (Negative (Some c.in_ok-deadline_of-in-X-2.field-0), (e, c.in_ok-deadline_of-in-X-2.ensures.value)),
      λ spelled. refl,
    )
