use Rattle.std.proofs.Common.{◌≡◌, true, sym, subst}
use Rattle.external_dependencies.specs.declared.pairs.Pair.{Pair}
use Rattle.plan_store_lists.proofs.KeyLemmas.{contains_filter, filter_contains}
use Rattle.plan_store_lists.specs.Rows.{look_up}
use Rattle.plan_store.specs.Views.{needs_pairs, row_serial, shown}
use Rattle.plan_store.proofs.views.View.asked_of.Goals as goal

pub returns-clause-all : goal.returns-clause-all
returns-clause-all c pair =
    let view = c.args.self.now in
    let key = view.key.now in
    let s = (shown view).sets in
    let history = look_up row_serial view.history.now.items in
    let is = c.of_successor.ensures.all pair in (
      (λ there.
          let both = is.0 there in
          let asked : needs_pairs key s.ltp s.cp history pair.successor ≡ true =
          subst (λ n. needs_pairs key s.ltp s.cp history n ≡ true) (sym both.1) c.requires in (
            filter_contains (λ (p : Pair). needs_pairs key s.ltp s.cp history p.successor) view.pairs.now pair both.0 asked,
            both.1,
          )),
      λ both. is.1 (
        (contains_filter (λ (p : Pair). needs_pairs key s.ltp s.cp history p.successor) view.pairs.now pair both.0).0,
        both.1,
      ),
    )
