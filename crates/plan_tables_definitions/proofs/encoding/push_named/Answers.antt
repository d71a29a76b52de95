use Rattle.std.proofs.Common.{suc, sym, ◌∙◌, ap}
use Rattle.std.specs.Option.{option_copied}
use Rattle.std.proofs.lemmas.Result.{on_ok_weaker}
use Rattle.plan_tables_definitions.proofs.AddLemmas.{adds_named}
use Rattle.plan_tables_definitions.proofs.encoding.push_named.Goals as goal

pub returns-in-Some : goal.returns-in-Some
returns-in-Some g c = on_ok_weaker c.push.result
    (adds_named (suc g.E.Encoding.cells) g.E.Encoding.IsRow c.args.definitions.now c.args.name.now c.in-Some.definition.now c.args.rows.now.items c.push.new.rows.items
    (sym c.get.ensures ∙ ap option_copied c.in-Some.is)) c.push.ensures
