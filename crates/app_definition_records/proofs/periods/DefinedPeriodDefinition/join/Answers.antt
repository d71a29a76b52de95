use Rattle.std.proofs.Common.{◌≡◌, ◌∙◌, sym, refl, ap, true, false, List, ℕ, Bool, not, nat_eq}
use Rattle.std.specs.Prelude.{codes}
use Rattle.std.specs.Cmp.Lexicographic.{pointwise}
use Rattle.std.proofs.lemmas.Bool.{false≢true}
use Rattle.csv.specs.Records.{fields_of}
use Rattle.plan_periods.specs.declared.periods.Period.TheVariants.{Listed as ListedPeriod}
use Rattle.app_definition_records.specs.Fields.{field}
use Rattle.app_definition_records.specs.Periods.{IsPeriodOf}
use Rattle.app_definition_records.proofs.ByNameLemmas.{IfOk-both, same_name}
use Rattle.app_definition_records.proofs.PeriodLemmas.{goes_on-taken, GiveEntries-push, first-kept}
use Rattle.app_definition_records.proofs.periods.DefinedPeriodDefinition.join.Goals as goal
use Rattle.app_definition_records.specs.declared.columns.TheConstants.{PERIOD_TYPE}

letter_is : (a b : List ℕ) (r : Bool) → r ≡ false → r ≡ not (pointwise nat_eq a b) → b ≡ codes "N" → a ≡ codes "N"
letter_is a b r e is n = same_name a b (by (pointwise nat_eq a b) refl) ∙ n
  where
    by : (t : Bool) → pointwise nat_eq a b ≡ t → pointwise nat_eq a b ≡ true
    by true h = h
    by false h = absurd (false≢true (sym e ∙ is ∙ ap not h))

pub returns : goal.returns
returns c = λ before some of.
    let n : field (fields_of c.args.row.now) PERIOD_TYPE ≡ codes "N" =
    sym c.field_at.ensures
    ∙ letter_is c.field_at.result.now c.as_slice.result.now c.ne.result c.if-ne.false c.ne.ensures c.as_slice.ensures in
    let is : c.args.self.now ≡ ListedPeriod c.in-Listed.origins = sym c.self.view_is ∙ c.in-Listed.is in
    let listed : IsPeriodOf (ListedPeriod c.in-Listed.origins) before = rw is at of in
    IfOk-both c.push_later.result _ _ _ (λ b told pushed. record {
      fits = goes_on-taken before (fields_of c.args.row.now) c.in-Listed.origins c.in-Some.entry b some listed.0 n
          listed.1 c.in-Some.ensures.value told;
      made = λ yes. (
        rw (first-kept before (fields_of c.args.row.now) some) listed.0,
        rw (pushed yes) (GiveEntries-push before c.in-Listed.origins
            (fields_of c.args.row.now) c.in-Some.entry listed.1 c.in-Some.ensures.value),
      );
    }) c.push_later.ensures.later c.push_later.ensures.pushed

pub invariant_of-self : goal.invariant_of-self
invariant_of-self c = c.self.invariant
