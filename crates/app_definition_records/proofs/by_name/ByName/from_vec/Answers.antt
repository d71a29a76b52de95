use Rattle.std.proofs.Common.{◌≡◌, ◌∙◌, sym, ap, refl, rules, length}
use Rattle.std.specs.Prelude.{is_some}
use Rattle.std.specs.Vec.Iter.{into_iter_items, into_iter_len}
use Rattle.std.proofs.lemmas.Bool.{false≢true}
use Rattle.indexmap.proofs.CallerLemmas.{insert_entry-new}
use Rattle.app_definition_records.proofs.EntryLemmas.{left-all, left-more, left-none, is_none, named_twice, are_made}
use Rattle.app_definition_records.proofs.by_name.ByName.from_vec.Goals as goal

pub loop-name-init : goal.loop-name-init
loop-name-init g c =
    let long : into_iter_len c.into_iter-name-iterator.result ≡ length c.args.entries.items = search rules in
    left-all c.args.entries.items c.new-by_name.result.entries (into_iter_items c.into_iter-name-iterator.result)
    (into_iter_len c.into_iter-name-iterator.result)
    c.new-by_name.ensures.empty c.into_iter-name-iterator.ensures.into_iter_gives.0 long c.new-by_name.ensures.unique

pub returns-then-is_some-clause-valid : goal.returns-then-is_some-clause-valid
returns-then-is_some-clause-valid g c = (
  λ no. absurd (false≢true no),
  λ own. absurd (named_twice c.args.entries.items c.loop-name.by_name.entries
      (into_iter_items c.loop-name.name-iterator) (into_iter_items c.next.new.self)
      c.in-Some.name c.in-Some.definition
      (into_iter_len c.loop-name.name-iterator) c.loop-name.invariant c.in-Some.ensures.steps.0
      (ap is_some (sym c.in_ok-insert.ensures.old) ∙ sym c.is_some.ensures ∙ c.if-is_some.true) own),
)

pub loop-name-preserved : goal.loop-name-preserved
loop-name-preserved g c =
    let none = sym c.in_ok-insert.ensures.old
    ∙ is_none c.in_ok-insert.field-0 (sym c.is_some.ensures ∙ c.if-is_some.false) in
    left-more c.args.entries.items c.loop-name.by_name.entries c.insert.new.self.entries
    (into_iter_items c.loop-name.name-iterator) (into_iter_items c.next.new.self)
    c.in-Some.name c.in-Some.definition (into_iter_len c.loop-name.name-iterator)
    (into_iter_len c.next.new.self) c.loop-name.invariant
    c.in-Some.ensures.steps.0 c.in-Some.ensures.steps.1
    (c.in_ok-insert.ensures.entries ∙ insert_entry-new _ c.loop-name.by_name c.in-Some.name c.in-Some.definition none)
    c.in_ok-insert.ensures.unique

pub returns-clause-valid : goal.returns-clause-valid
returns-clause-valid g c =
    let is = left-none c.args.entries.items c.loop-name.by_name.entries (into_iter_items c.loop-name.name-iterator)
    (into_iter_len c.loop-name.name-iterator)
    c.loop-name.invariant c.in-None.ensures.steps.0 in (
      λ some. (are_made c.args.entries.items c.loop-name.by_name.entries is c.loop-name.invariant.own_names).own_names,
      λ own. refl,
    )

pub returns-clause-value : goal.returns-clause-value
returns-clause-value g c =
    let is = left-none c.args.entries.items c.loop-name.by_name.entries (into_iter_items c.loop-name.name-iterator)
    (into_iter_len c.loop-name.name-iterator)
    c.loop-name.invariant c.in-None.ensures.steps.0 in
    are_made c.args.entries.items c.loop-name.by_name.entries is c.loop-name.invariant.own_names
