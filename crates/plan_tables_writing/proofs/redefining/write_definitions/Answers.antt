use Rattle.std.proofs.Common.{◌≡◌, Some, rules, subst, sym}
use Rattle.app_definitions.specs.declared.kinds.Kind.TheVariants as kind
use Rattle.plan_tables_writing.specs.Redefining.{AreStorableMoves, moved_by}
use Rattle.plan_tables_writing.specs.Accepted.{AcceptsKind, WritesAccepted}
use Rattle.plan_tables_writing.proofs.TakingLemmas.{writes_weaker}
use Rattle.plan_tables_writing.proofs.redefining.write_definitions.Goals as goal

pub returns-in-Some-Options : goal.returns-in-Some-Options
returns-in-Some-Options g c =
    let content = c.args.content.now in
    let moves = c.args.moves.now in
    let is : moves.kind ≡ Some kind.Options = search rules in
    subst (λ which. WritesAccepted (λ _. AreStorableMoves moves) (λ all. AreStorableMoves moves × AcceptsKind which
    content.bounds content.issued content.definitions.options moves all) g.S.Store c.args.tx.now c.write_meta.new.tx
    c.write_meta.result (moved_by which content.bounds content.issued content.definitions.options moves))
    (sym is) (writes_weaker g.S.Store _ _ _ _ _ _ _ _ (λ all _. tt) (λ all t. t.1) c.write_meta.ensures)
