use Rattle.std.proofs.Common.{subst, List}
use Rattle.std.specs.Prelude.{IfSome, IsSome}
use Rattle.std.proofs.lemmas.Option.{IfSome_then}
use Rattle.std.proofs.lemmas.Result.{IfOk-weaker}
use Rattle.sqlite.specs.Order.{Row as Values}
use Rattle.plan_tables_content.specs.Content.{AreEach, ByName, IsOfSome}
use Rattle.plan_tables_definitions.specs.Gathering.{Alike, AreRead, AreSound}
use Rattle.plan_tables_definitions.specs.Storing.{AreRowsOf}
use Rattle.plan_tables_definitions.proofs.GatherLemmas.{rows_alike}
use Rattle.plan_tables_definitions.proofs.gathering.gathered.Goals as goal

pub returns-in-Some-clause-made : goal.returns-in-Some-clause-made
returns-in-Some-clause-made g c =
    let rows = c.args.rows.now in
    let drafts = c.in-Some.drafts in
    let are = subst (λ o. IfSome o (AreRead g.D.Draft.IsRead rows)) c.in-Some.is c.in_ok-drafts.ensures.read in
    IfOk-weaker c.finish_all.result (λ found. IfSome found (λ all. Alike (IsOfSome g.D.Draft.IsRow all)
    (IsOfSome g.D.Draft.IsRead drafts))) _
    (λ found h. IfSome_then found h (λ all alike. rows_alike g.D.Draft.IsRow g.D.Draft.IsRead rows drafts all are
    alike)) c.finish_all.ensures.made

pub returns-in-Some-clause-told : goal.returns-in-Some-clause-told
returns-in-Some-clause-told g c =
    let rows = c.args.rows.now in
    let drafts = c.in-Some.drafts in
    let are = subst (λ o. IfSome o (AreRead g.D.Draft.IsRead rows)) c.in-Some.is c.in_ok-drafts.ensures.read in
    IfOk-weaker c.finish_all.result (λ found. IfSome found (λ all. (read : List Values)
    → AreRead g.D.Draft.IsRead read drafts → AreEach g.D.Draft.IsTold all)) _
    (λ found h. IfSome_then found h (λ all told. told rows are)) c.finish_all.ensures.told

pub returns-in-Some-clause-found : goal.returns-in-Some-clause-found
returns-in-Some-clause-found g c =
    let rows = c.args.rows.now in
    let drafts = c.in-Some.drafts in
    let are = subst (λ o. IfSome o (AreRead g.D.Draft.IsRead rows)) c.in-Some.is c.in_ok-drafts.ensures.read in
    IfOk-weaker c.finish_all.result (λ found. (all : ByName g.row.D-Of.Denot) (read : List Values)
    → AreSound g.D.Draft.IsSound all → AreRead g.D.Draft.IsRead read drafts → AreRowsOf g.D.Draft.IsRow read all
    → IsSome found) _ (λ found some all sound have. some all rows sound are have)
    c.finish_all.ensures.found
