use Rattle.std.proofs.Common.{◌≡◌, ◌∙◌, ap, codes, Bor, Option, Some, None, refl}
use Rattle.std.specs.Prelude.{is_some, option_copied}
use Rattle.plan_tables_schema.specs.Named.{first_named}
use Rattle.plan_tables_schema.proofs.FoundLemmas.{named_is}
use Rattle.plan_tables_opening.proofs.standing.has_sequence.Goals as goal

copied_some : {T : Type 0} (o : Option (Bor T)) → is_some o ≡ is_some (option_copied o)
copied_some None = refl
copied_some (Some x) = refl

pub returns : goal.returns
returns c =
    let wanted = codes "sqlite_sequence" in
    c.is_some.ensures ∙ copied_some c.first_named.result ∙ ap is_some (c.first_named.ensures
    ∙ (ap (λ tables. first_named tables wanted) c.as_slice.ensures ∙ named_is c.args.schema.now wanted))
