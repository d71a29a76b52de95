use Rattle.std.proofs.Common.{◌≡◌, ◌++◌, ◌∷◌, ◌∙◌, List, [], Some, refl, subst, sym}
use Rattle.std.specs.List.{Contains}
use Rattle.std.proofs.lemmas.Bool.{false≢true}
use Rattle.external_dependencies.specs.declared.pairs.Pair.{Pair}
use Rattle.planner_machine.specs.Pairs.{pair_of}
use Rattle.plan_store.specs.Views.{shown}
use Rattle.plan_store_pairs.specs.Gathering.{AddsIf}
use Rattle.plan_store_pairs.specs.Withdrawals.{IsBackPair, IsLostPair}
use Rattle.plan_store_pairs.specs.declared.gathering.Reached.{Reached}
use Rattle.occurrences.specs.declared.row.Row.{Row}
use Rattle.plan_store_pairs.proofs.EachLemmas.{adds_nothing, adds_one}
use Rattle.plan_store_pairs.proofs.withdrawals.turn.Goals as goal

-- the pair with the row is added
lost : (pairs : List Pair) (row : Row) (x : Reached) (old new : List Pair)
    → Contains pairs (pair_of x.placed.row.serial row.serial)
    → new ≡ old ++ pair_of x.placed.row.serial row.serial ∷ [] → AddsIf (IsLostPair pairs row x) old new
lost pairs row x old new had is = subst (AddsIf (IsLostPair pairs row x) old) (sym is)
    (adds_one (IsLostPair pairs row x) old (pair_of x.placed.row.serial row.serial) (had, refl) (λ y lost. sym lost.1))

pub returns-in_ok-push-2-clause-removed : goal.returns-in_ok-push-2-clause-removed
returns-in_ok-push-2-clause-removed c = lost (shown c.args.view.now).pairs c.args.row.now c.args.x.now
    c.args.removed.now.items c.push.new.self.items (c.has_pair.ensures.0 c.if-has_pair.true) c.in_ok-push.ensures.items

pub returns-in_default-clause-removed : goal.returns-in_default-clause-removed
returns-in_default-clause-removed c = lost (shown c.args.view.now).pairs c.args.row.now c.args.x.now
    c.args.removed.now.items c.push.new.self.items (c.has_pair.ensures.0 c.if-has_pair.true) c.in_ok-push.ensures.items

pub returns-in_ok-push-2-clause-added : goal.returns-in_ok-push-2-clause-added
returns-in_ok-push-2-clause-added c =
    let x = c.args.x.now in
    let Back = IsBackPair (shown c.args.view.now).pairs c.args.row.now c.args.before.now x in
    let old = c.args.added.now.items in
    let predecessor = c.in-Some.predecessor in
    let pair = pair_of x.placed.row.serial predecessor in
    let back : Back pair = record {
      had = c.has_pair.ensures.0 c.if-has_pair.true;
      successor = refl;
      behind = (c.predecessor_of.ensures predecessor).0 c.in-Some.is;
    } in
    subst (AddsIf Back old) (sym c.in_ok-push-2.ensures.items) (adds_one Back old pair back (λ y is.
    let found = (c.predecessor_of.ensures y.predecessor).1 is.behind in
    let both : Some predecessor ≡ Some y.predecessor = sym c.in-Some.is ∙ found in
    let same : predecessor ≡ y.predecessor = cc in
    λ i. record { successor = sym is.successor i; predecessor = same i }))

-- it has no pair with the row
pub returns-else-has_pair-clause-removed : goal.returns-else-has_pair-clause-removed
returns-else-has_pair-clause-removed c =
    let pairs = (shown c.args.view.now).pairs in
    adds_nothing (IsLostPair pairs c.args.row.now c.args.x.now) c.args.removed.now.items (λ y is.
    false≢true (sym c.if-has_pair.false ∙ c.has_pair.ensures.1 (subst (Contains pairs) is.1 is.0)))
