use Rattle.std.proofs.Common.{◌≡◌, refl, arith, ◌<◌}
use Rattle.std.specs.Prelude.{codes}
use Rattle.app_definition_records.proofs.FieldLemmas.{three_letters}
use Rattle.app_definition_records.proofs.calendars.weekday_of.Goals as goal

pub returns-in-WED-clause-valid : goal.returns-in-WED-clause-valid
returns-in-WED-clause-valid c =
    let e : c.args.bytes.now ≡ codes "WED" = grind (arith, three_letters) in
    let in_week : 2 < 7 = omega arith in
    (λ some. (2, (in_week, e)), λ named. refl)

pub returns-in-THU-clause-valid : goal.returns-in-THU-clause-valid
returns-in-THU-clause-valid c =
    let e : c.args.bytes.now ≡ codes "THU" = grind (arith, three_letters) in
    let in_week : 3 < 7 = omega arith in
    (λ some. (3, (in_week, e)), λ named. refl)

pub returns-in-FRI-clause-valid : goal.returns-in-FRI-clause-valid
returns-in-FRI-clause-valid c =
    let e : c.args.bytes.now ≡ codes "FRI" = grind (arith, three_letters) in
    let in_week : 4 < 7 = omega arith in
    (λ some. (4, (in_week, e)), λ named. refl)

pub returns-in-SAT-clause-valid : goal.returns-in-SAT-clause-valid
returns-in-SAT-clause-valid c =
    let e : c.args.bytes.now ≡ codes "SAT" = grind (arith, three_letters) in
    let in_week : 5 < 7 = omega arith in
    (λ some. (5, (in_week, e)), λ named. refl)
