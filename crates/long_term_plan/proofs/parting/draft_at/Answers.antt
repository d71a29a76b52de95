use Rattle.std.proofs.Common.{◌≡◌, ◌<◌, ◌≤◌, ℕ, Result, get_or, length, rules, subst}
use Rattle.std.specs.Prelude.{IfErr, IfOk}
use Rattle.std.specs.List.{HoldsAt}
use Rattle.std.specs.List.Sorted.{IsPartitionPoint}
use Rattle.std.specs.declared.cmp.Ordering.TheVariants.{Less, Greater}
use Rattle.std.proofs.lemmas.List.Sorted.{answers_always}
use Rattle.occurrences.proofs.KeyLemmas.{key_cmp_total, key_equal, key_less}
use Rattle.occurrences.specs.Key.{key_cmp}
use Rattle.planner_machine.specs.declared.content.Draft.{Draft}
use Rattle.plan_store_lists.proofs.KeyLemmas.{found, missed, missed_all}
use Rattle.long_term_plan.proofs.parting.draft_at.Goals as goal

pub returns-in-Ok : goal.returns-in-Ok
returns-in-Ok c =
    let is = c.binary_search_by_key.ensures in
    let named = c.args.named.now in
    let key = c.args.key.now in
    let place = found key_cmp_total key_equal (λ (d : Draft). d.key) named key c.binary_search_by_key.result is.bound
    (is.position (λ (d : Draft). d.key) (answers_always _ _ _ (λ f a r q called. search rules))) in
    let here : (c.in-Ok.at < length named) × HoldsAt (λ (d : Draft). d.key ≡ key) named c.in-Ok.at =
    subst (λ (r : Result ℕ ℕ). IfOk r (λ i. (i < length named) × HoldsAt (λ (d : Draft). d.key ≡ key) named i))
    c.in-Ok.is place in
    record { within = here.0; is = λ order. here }

pub returns-in-Err-clause-is : goal.returns-in-Err-clause-is
returns-in-Err-clause-is c order =
    let is = c.binary_search_by_key.ensures in
    let named = c.args.named.now in
    let key = c.args.key.now in
    let at = c.in-Err.field-0 in
    let place = missed key_cmp_total key_equal (λ (d : Draft). d.key) named key c.binary_search_by_key.result is.bound
    (is.position (λ (d : Draft). d.key) (answers_always _ _ _ (λ f a r q called. search rules)))
    (λ i j d lt within. key_less (get_or named i d).key (get_or named j d).key (order i j d lt within)) in
    let here : (at ≤ length named) × IsPartitionPoint (λ (d : Draft). key_cmp d.key key ≡ Less)
    (λ (d : Draft). key_cmp d.key key ≡ Greater) named at =
    subst (λ (r : Result ℕ ℕ). IfErr r (λ i. (i ≤ length named)
    × IsPartitionPoint (λ (d : Draft). key_cmp d.key key ≡ Less) (λ (d : Draft). key_cmp d.key key ≡ Greater) named i))
    c.in-Err.is place in
    missed_all key_cmp_total key_equal (λ (d : Draft). d.key) named key at here.1
