use Rattle.std.proofs.Common.{◌↔◌, subst, sym}
use Rattle.std.specs.Prelude.{IsTrue}
use Rattle.std.specs.List.{All}
use Rattle.std.proofs.lemmas.Result.{IfOk-weaker}
use Rattle.app_definition_records.specs.ByName.{AreNamesOf}
use Rattle.app_definition_soundness.proofs.GivenLemmas.{IsTested, all_from, all_to}
use Rattle.app_definition_soundness.proofs.given.all_given.Goals as goal

pub returns : goal.returns
returns g c =
    let all = c.args.definitions.now in
    let names = c.deref.result.now in
    let are : AreNamesOf names all =
    subst (λ l. AreNamesOf l all) (sym c.deref.ensures.value) c.in_ok-names.ensures in
    IfOk-weaker c.names_are_given.result (λ b. IsTrue b ↔ All (IsTested g.D.Given.IsGiven all) names) _
    (λ b tells. (
      (λ yes. all_from g.D.Given.IsGiven all names are (tells.0 yes)),
      λ given. tells.1 (all_to g.D.Given.IsGiven all names given),
    )) c.names_are_given.ensures
