use Rattle.std.proofs.Common.{◌≡◌, ◌∙◌, ◌++◌, rules, sym, subst}
use Rattle.indexmap.proofs.CallerLemmas.{insert_entry-new}
use Rattle.app_definition_records.specs.ByName.{AreEntriesOf}
use Rattle.app_definition_records.proofs.ByNameLemmas.{entries-more, entries-all}
use Rattle.app_definition_records.proofs.by_name.ByNameClone.clone.Goals as goal

pub loop-name-init : goal.loop-name-init
loop-name-init g c =
    let start : c.into_iter-name-iterator.result ≡ c.iter-name-items.result = search rules in
    subst (λ es. AreEntriesOf (es ++ c.into_iter-name-iterator.result) c.args.self.now)
    (sym c.new-by_name.ensures.empty)
    (subst (λ it. AreEntriesOf it c.args.self.now) (sym start) c.iter-name-items.ensures)

pub loop-name-preserved-in_ok-insert : goal.loop-name-preserved-in_ok-insert
loop-name-preserved-in_ok-insert g c =
    entries-more c.loop-name.by_name.entries c.insert.new.self.entries c.loop-name.name-iterator c.next.new.self
    c.in-Some.name.now c.in-Some.definition.now c.in_ok-copy.field-0 c.args.self.now
    c.loop-name.invariant c.in-Some.ensures.steps c.in_ok-copy.ensures.copied
    (λ none. c.in_ok-insert.ensures.entries
    ∙ insert_entry-new _ c.loop-name.by_name c.in-Some.name.now c.in_ok-copy.field-0 none)

pub loop-name-preserved : goal.loop-name-preserved
loop-name-preserved g c =
    entries-more c.loop-name.by_name.entries c.insert.new.self.entries c.loop-name.name-iterator c.next.new.self
    c.in-Some.name.now c.in-Some.definition.now c.in_ok-copy.field-0 c.args.self.now
    c.loop-name.invariant c.in-Some.ensures.steps c.in_ok-copy.ensures.copied
    (λ none. c.in_ok-insert.ensures.entries
    ∙ insert_entry-new _ c.loop-name.by_name c.in-Some.name.now c.in_ok-copy.field-0 none)

pub returns : goal.returns
returns g c = record {
  cases = entries-all c.loop-name.by_name.entries c.loop-name.name-iterator c.args.self.now
      c.loop-name.invariant c.in-None.ensures.steps.0;
}
