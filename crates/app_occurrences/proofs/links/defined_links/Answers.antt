use Rattle.std.proofs.Common.{◌≡◌, ◌∙◌, ap, map, sym, subst, append_assoc, ℕ, List, [], ◌∷◌, ◌++◌}
use Rattle.std.proofs.lemmas.List.{append-nil}
use Rattle.app_definition_records.specs.declared.predecessors.Predecessor.{Predecessor}
use Rattle.app_definition_records.specs.ByName.{AreEntriesOf}
use Rattle.app_definition_records.specs.Rising.{AreRising}
use Rattle.app_occurrences.proofs.LinkLemmas.{link_of, links_are, links_of-push, own_links, rise_more}
use Rattle.app_occurrences.proofs.links.defined_links.Goals as goal

pub loop-app-preserved : goal.loop-app-preserved
loop-app-preserved c =
    let done = c.loop-app.invariant.0 in
    let app = c.in-Some.app.now in
    let names = c.in-Some.predecessors.now in
    let e : List ℕ × List Predecessor = (app, names) in
    let moved = ap (λ l. done ++ l) c.in-Some.ensures.steps ∙ sym (append_assoc done (e ∷ []) c.next.new.self) in
    let pushed : c.push_links.new.links.items ≡ c.loop-app.links.items ++ map (link_of app) names =
    rw (← c.as_slice.ensures.value) c.in_ok-push_links.ensures in (
      done ++ e ∷ [],
      subst (λ l. AreEntriesOf l c.args.all.now.predecessors) moved c.loop-app.invariant.1,
      pushed ∙ ap (λ l. l ++ map (link_of app) names) c.loop-app.invariant.2 ∙ sym (links_of-push done app names),
      rise_more done app names c.loop-app.invariant.3 (subst (AreRising (λ p. p.name)) c.as_slice.ensures.value
          c.as_slice.ensures.rising),
    )

pub returns-clause-exactly : goal.returns-clause-exactly
returns-clause-exactly c = λ app predecessor.
    let done = c.loop-app.invariant.0 in
    let all : AreEntriesOf done c.args.all.now.predecessors =
    subst (λ l. AreEntriesOf l c.args.all.now.predecessors)
    (ap (λ l. done ++ l) c.in-None.ensures.steps.0 ∙ append-nil done) c.loop-app.invariant.1 in
    rw c.loop-app.invariant.2 (links_are c.args.all.now done app predecessor all)

pub returns-clause-own_names : goal.returns-clause-own_names
returns-clause-own_names c =
    let done = c.loop-app.invariant.0 in
    let all : AreEntriesOf done c.args.all.now.predecessors =
    subst (λ l. AreEntriesOf l c.args.all.now.predecessors)
    (ap (λ l. done ++ l) c.in-None.ensures.steps.0 ∙ append-nil done) c.loop-app.invariant.1 in
    rw c.loop-app.invariant.2 (own_links c.args.all.now done all c.loop-app.invariant.3)
