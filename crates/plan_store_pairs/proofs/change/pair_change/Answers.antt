use Rattle.std.specs.Prelude.{IfOk, Result, Ok, Err}
use Rattle.plan_store_pairs.proofs.TouchLemmas.{are_settled, led_on, pairs_led}
use Rattle.plan_store_pairs.proofs.change.pair_change.Goals as goal

weaker : {A E : Type 0} (r : Result A E) (P Q : A → Type 0) → ((a : A) → P a → Q a) → IfOk r P → IfOk r Q
weaker (Ok a) P Q f is = f a is
weaker (Err e) P Q f is = tt

pub returns : goal.returns
returns c = weaker c.resolve_touched.result _ _ (λ change leads s s' was_links all now old same are turn holds.
    let settled = are_settled s turn.was turn.before was_links old are in
    let exact = leads turn.was now was_links all old same turn.touches settled holds in (
      pairs_led s' now turn.after all old are.rising change exact,
      led_on change old _ exact,
    ))
    c.resolve_touched.ensures
