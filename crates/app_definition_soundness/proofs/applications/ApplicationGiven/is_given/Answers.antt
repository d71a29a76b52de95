use Rattle.app_definition_soundness.proofs.SimpleLemmas.{application_given, application_value}
use Rattle.app_definition_soundness.proofs.applications.ApplicationGiven.is_given.Goals as goal

pub returns : goal.returns
returns c =
    let name = c.args.name.now in
    let application = c.args.self.now in (
      λ yes. application_given name application (c.is_application.ensures.0 yes),
      λ given. c.is_application.ensures.1 (application_value name application given),
    )
