use Rattle.std.proofs.Common.{◌↔◌, ◌⊎◌, ℕ, List, subst}
use Rattle.std.specs.List.{Contains}
use Rattle.std.proofs.lemmas.Result.{IfOk-weaker}
use Rattle.external_dependencies.specs.Reached.{AreAsked, HasSerialOf}
use Rattle.external_dependencies.specs.Touch.{HasRowOf}
use Rattle.external_dependencies.specs.declared.pairs.Pair.{Pair}
use Rattle.external_dependencies.specs.declared.links.Link.{Link}
use Rattle.external_dependencies.proofs.ExactLemmas.{AreFound, AreHad, had_from, leads_exactly}
use Rattle.external_dependencies.proofs.SameListLemmas.{asked_of_all, found_of_all}
use Rattle.external_dependencies.proofs.repair.resolve_touched.Goals as goal

pub returns : goal.returns
returns c = IfOk-weaker c.between.result _ _ (λ change leads was now was_links all old same touches settled holds.
    let asked : AreAsked c.args.touch.now all c.args.rows.now c.in_ok-asked.asked.items =
    asked_of_all c.args.rows.now c.args.links.now all same c.args.touch.now c.in_ok-asked.asked.items are_asked in
    leads_exactly c.args.touch.now was now was_links all touches old settled c.args.rows.now
    c.args.pairs.now holds c.in_ok-asked.asked.items asked c.in_ok-had.had (are_had all asked)
    c.in_ok-found.found (found_of_all c.args.rows.now c.args.links.now all same c.in_ok-asked.asked.items
    (λ q there. ((are_asked q).0 there).0) c.in_ok-found.found are_found)
    change leads) c.between.ensures
  where
    are_asked : AreAsked c.args.touch.now c.args.links.now c.args.rows.now c.in_ok-asked.asked.items
    are_asked = c.in_ok-asked.ensures c.args.touch.now c.in_ok-reach.ensures

    are_serials : (n : ℕ) → Contains c.in_ok-serials.serials.items n
        ↔ (HasSerialOf c.in_ok-asked.asked.items n ⊎ HasRowOf c.args.touch.now.withdrawn.items n)
    are_serials = subst (λ rows. (n : ℕ) → Contains c.in_ok-serials.serials.items n
        ↔ (HasSerialOf rows n ⊎ HasRowOf c.args.touch.now.withdrawn.items n)) c.deref.ensures.value
        (subst (λ gone. (n : ℕ) → Contains c.in_ok-serials.serials.items n
        ↔ (HasSerialOf c.deref.result.now n ⊎ HasRowOf gone n)) c.deref-2.ensures.value c.in_ok-serials.ensures)

    are_had : (links : List Link) → AreAsked c.args.touch.now links c.args.rows.now c.in_ok-asked.asked.items
        → AreHad c.args.touch.now links c.args.rows.now c.args.pairs.now c.in_ok-had.had
    are_had links asked = had_from c.args.touch.now links c.args.rows.now c.in_ok-asked.asked.items asked
        c.args.pairs.now c.in_ok-had.had c.in_ok-serials.serials.items are_serials
        (subst (λ serials. (pair : Pair) → Contains c.in_ok-had.had pair
        ↔ (Contains c.args.pairs.now pair × Contains serials pair.successor)) c.deref-3.ensures.value c.in_ok-had.ensures)

    are_found : AreFound c.args.rows.now c.in_ok-asked.asked.items c.args.links.now c.in_ok-found.found
    are_found = subst (λ rows. AreFound c.args.rows.now rows c.args.links.now c.in_ok-found.found)
        c.deref-4.ensures.value c.in_ok-found.ensures
