use Rattle.std.proofs.Common.{◌↔◌, subst, sym}
use Rattle.std.specs.Prelude.{IfSome, IsSome}
use Rattle.std.proofs.lemmas.Option.{IfSome_then}
use Rattle.std.proofs.lemmas.Result.{IfOk-weaker}
use Rattle.app_definition_records.specs.ByName.{AreEntriesOf, HaveOwnNames}
use Rattle.plan_tables_definitions.specs.Gathering.{IsGathered, Paired}
use Rattle.plan_tables_definitions.proofs.GatherLemmas.{can_finish, made_alike, made_told, own_names}
use Rattle.plan_tables_definitions.proofs.gathering.finish_all.Goals as goal

pub returns-in-Some-clause-made : goal.returns-in-Some-clause-made
returns-in-Some-clause-made g c =
    let es = c.deref.result.now in
    let fs = c.in-Some.entries.items in
    let of = subst (λ l. AreEntriesOf l c.args.drafts) (sym c.deref.ensures.value) c.in_ok-drafts.ensures in
    let paired = subst (λ o. IfSome o (λ entries. Paired
    (λ name x d. IsGathered g.D.Draft.IsRow g.D.Draft.IsRead g.D.Draft.IsTold name x d) es entries.items)) c.in-Some.is
    c.in_ok-entries.ensures.made in
    IfOk-weaker c.from_vec.result (λ made. IfSome made (AreEntriesOf fs)) _
    (λ made h. IfSome_then made h (λ all are. made_alike g.D.Draft.IsRow g.D.Draft.IsRead g.D.Draft.IsSound
    g.met.D.Draft.named g.met.D.Draft.read_named g.D.Draft.IsTold es fs c.args.drafts all paired of are))
    c.from_vec.ensures.value

pub returns-in-Some-clause-told : goal.returns-in-Some-clause-told
returns-in-Some-clause-told g c =
    let es = c.deref.result.now in
    let fs = c.in-Some.entries.items in
    let of = subst (λ l. AreEntriesOf l c.args.drafts) (sym c.deref.ensures.value) c.in_ok-drafts.ensures in
    let paired = subst (λ o. IfSome o (λ entries. Paired
    (λ name x d. IsGathered g.D.Draft.IsRow g.D.Draft.IsRead g.D.Draft.IsTold name x d) es entries.items)) c.in-Some.is
    c.in_ok-entries.ensures.made in
    IfOk-weaker c.from_vec.result (λ made. IfSome made (AreEntriesOf fs)) _
    (λ made h. IfSome_then made h (λ all are read was. made_told g.D.Draft.IsRow g.D.Draft.IsRead g.D.Draft.IsSound
    g.met.D.Draft.named g.met.D.Draft.read_named g.D.Draft.IsTold es fs c.args.drafts all paired of are read was))
    c.from_vec.ensures.value

pub returns-in-Some-clause-found : goal.returns-in-Some-clause-found
returns-in-Some-clause-found g c =
    let es = c.deref.result.now in
    let fs = c.in-Some.entries.items in
    let of = subst (λ l. AreEntriesOf l c.args.drafts) (sym c.deref.ensures.value) c.in_ok-drafts.ensures in
    let paired = subst (λ o. IfSome o (λ entries. Paired
    (λ name x d. IsGathered g.D.Draft.IsRow g.D.Draft.IsRead g.D.Draft.IsTold name x d) es entries.items)) c.in-Some.is
    c.in_ok-entries.ensures.made in
    IfOk-weaker c.from_vec.result (λ made. IsSome made ↔ HaveOwnNames fs) _
    (λ made valid all read sound are rows. valid.1 (own_names
    (λ name x d. IsGathered g.D.Draft.IsRow g.D.Draft.IsRead g.D.Draft.IsTold name x d) es fs paired of.own_names))
    c.from_vec.ensures.valid

pub returns-clause-found : goal.returns-clause-found
returns-clause-found g c all read sound are rows =
    let es = c.deref.result.now in
    let of = subst (λ l. AreEntriesOf l c.args.drafts) (sym c.deref.ensures.value) c.in_ok-drafts.ensures in
    subst IsSome c.in-None.is (c.in_ok-entries.ensures.found (can_finish g.D.Draft.IsRow g.D.Draft.IsRead
    g.D.Draft.IsSound g.met.D.Draft.named g.met.D.Draft.read_named es c.args.drafts all read of sound are rows))
