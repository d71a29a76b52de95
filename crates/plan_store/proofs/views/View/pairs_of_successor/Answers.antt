use Rattle.std.proofs.Common.{◌≡◌, ◌∙◌, true, sym, subst}
use Rattle.std.proofs.lemmas.Bool.{false≢true}
use Rattle.external_dependencies.specs.declared.pairs.Pair.{Pair}
use Rattle.plan_store_lists.proofs.KeyLemmas.{contains_filter, nothing}
use Rattle.plan_store_lists.specs.Rows.{look_up}
use Rattle.plan_store.specs.Views.{needs_pairs, row_serial, shown}
use Rattle.plan_store.proofs.views.View.pairs_of_successor.Goals as goal

pub returns-then-not-needs_pairs-clause-all : goal.returns-then-not-needs_pairs-clause-all
returns-then-not-needs_pairs-clause-all c pair =
    let view = c.args.self.now in
    let key = view.key.now in
    let s = (shown view).sets in
    let history = look_up row_serial view.history.now.items in (
      (λ there. absurd (nothing pair there)),
      λ both.
          let asked : needs_pairs key s.ltp s.cp history pair.successor ≡ true =
          (contains_filter (λ (p : Pair). needs_pairs key s.ltp s.cp history p.successor) view.pairs.now pair both.0).1 in
          absurd (false≢true (sym c.if-not-needs_pairs.true ∙ c.needs_pairs.ensures
          ∙ subst (λ n. needs_pairs key s.ltp s.cp history n ≡ true) both.1 asked)),
    )

pub asked_of-requires : goal.asked_of-requires
asked_of-requires c = sym c.needs_pairs.ensures ∙ c.if-not-needs_pairs.false
