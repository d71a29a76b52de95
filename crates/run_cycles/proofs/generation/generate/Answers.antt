use Rattle.std.proofs.Common.{◌≤◌, List, length, sym, subst}
use Rattle.work_calendars.specs.Day.{last_kept_day}
use Rattle.work_calendars.specs.WorkIndex.{is_work_in}
use Rattle.std.specs.Prelude.{All}
use Rattle.run_cycles.specs.declared.namings.Naming.{Naming}
use Rattle.run_cycles.specs.Naming.{IsDecidedBefore}
use Rattle.run_cycles.specs.Occurrence.{ListsInOrder}
use Rattle.run_cycles.proofs.DecidedLemmas.{all_planned, lists_decided}
use Rattle.run_cycles.proofs.generation.generate.Goals as goal

pub all_decided-requires-clause-planned : goal.all_decided-requires-clause-planned
all_decided-requires-clause-planned c =
    let P : List Naming → Type 0 = λ l. All (λ x. x.day ≤ last_kept_day) l in
    subst P (sym c.deref.ensures.value) (all_planned c.args.from
    c.args.to last_kept_day c.requires.planned c.in_ok-namings.namings.items (λ x h. let n =
    (c.in_ok-namings.ensures.each x).0 h in (n.0, n.1)))

pub returns : goal.returns
returns c =
    let P : List Naming → Type 0 = λ l. ListsInOrder (IsDecidedBefore l (length l)) c.in_ok-list.list.items in
    lists_decided c.args.cycles.now c.args.periods.now (is_work_in c.args.index.now)
    c.args.from c.args.to c.in_ok-namings.namings.items c.in_ok-namings.ensures.order
    c.in_ok-namings.ensures.each c.requires.names c.in_ok-list.list.items
    (subst P c.deref.ensures.value c.in_ok-list.ensures)
