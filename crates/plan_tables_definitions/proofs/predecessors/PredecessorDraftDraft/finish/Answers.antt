use Rattle.std.proofs.Common.{◌∙◌, ap, map, subst, sym}
use Rattle.std.proofs.lemmas.Option.{IfSome_then}
use Rattle.app_definition_records.specs.Rising.{AreRising}
use Rattle.app_definition_records.specs.declared.predecessors.Predecessor.{Predecessor}
use Rattle.plan_tables_content.specs.Facts.{IsPredecessorRow}
use Rattle.plan_tables_definitions.specs.Drafted.{IsReadPredecessor, predecessor_of}
use Rattle.plan_tables_definitions.specs.Gathering.{Alike}
use Rattle.plan_tables_definitions.specs.Representable.{ArePredecessors}
use Rattle.plan_tables_definitions.proofs.PredecessorLemmas.{predecessors_alike, predecessors_rise}
use Rattle.plan_tables_definitions.proofs.TellLemmas.{predecessors_told}
use Rattle.plan_tables_definitions.proofs.predecessors.PredecessorDraftDraft.finish.Goals as goal

pub returns-clause-made : goal.returns-clause-made
returns-clause-made c =
    let app = c.args._name.now in
    let limits = c.args.self.now.limits in
    let names = c.in_ok-names.names.items in
    let made = c.in_ok-listed.ensures ∙ ap (map (predecessor_of limits)) c.deref.ensures.value in
    IfSome_then c.from_vec.result c.from_vec.ensures.value (λ d is.
    subst (λ l. Alike (IsPredecessorRow app l) (IsReadPredecessor app limits)) (sym (is ∙ made))
    (predecessors_alike app limits names c.in_ok-names.ensures))

pub returns-clause-told : goal.returns-clause-told
returns-clause-told c =
    let app = c.args._name.now in
    let limits = c.args.self.now.limits in
    let names = c.in_ok-names.names.items in
    let made = c.in_ok-listed.ensures ∙ ap (map (predecessor_of limits)) c.deref.ensures.value in
    IfSome_then c.from_vec.result c.from_vec.ensures.value (λ d is v read.
    subst ArePredecessors (sym (is ∙ made)) (predecessors_told app (map (predecessor_of limits) names) v
    (predecessors_rise app limits names c.in_ok-names.ensures)
    ((predecessors_alike app limits names c.in_ok-names.ensures v).1 read)))

pub returns-clause-found : goal.returns-clause-found
returns-clause-found c d sound finish =
    let limits = c.args.self.now.limits in
    let made = c.in_ok-listed.ensures ∙ ap (map (predecessor_of limits)) c.deref.ensures.value in
    c.from_vec.ensures.valid.1 (subst (AreRising (λ (p : Predecessor). p.name)) (sym made)
    (predecessors_rise c.args._name.now limits c.in_ok-names.names.items c.in_ok-names.ensures))
