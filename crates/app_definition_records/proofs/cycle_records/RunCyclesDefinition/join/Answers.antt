use Rattle.std.proofs.Common.{refl, subst, rules}
use Rattle.std.proofs.lemmas.Bool.{false≢true}
use Rattle.csv.specs.Records.{fields_of}
use Rattle.run_cycles.specs.declared.cycles.RunCycle.{RunCycle}
use Rattle.app_definition_records.specs.CycleRecords.{SpellsRunCycle, AreRunCyclesOf}
use Rattle.app_definition_records.specs.Rising.{IsPlaceFor}
use Rattle.app_definition_records.proofs.CycleLemmas.{new-fits, old-no_fit, run_cycles-more}
use Rattle.app_definition_records.proofs.RisingLemmas.{rising-insert}
use Rattle.app_definition_records.proofs.cycle_records.RunCyclesDefinition.join.Goals as goal

pub returns-in-Ok : goal.returns-in-Ok
returns-in-Ok c = λ before some made.
    let s : SpellsRunCycle (fields_of c.args.row.now) c.in-Some.cycle = search rules in
    let are : AreRunCyclesOf c.deref.result.now before = rw (c.deref.ensures.value, c.self.view_is) made in
    record {
      fits = (
        λ no. absurd (false≢true no),
        λ fits. absurd (old-no_fit c.deref.result.now before c.in-Some.cycle
            (fields_of c.args.row.now) c.in-Ok.field-0 c.in-Ok.ensures.found.0 c.in-Ok.ensures.found.1 are s fits),
      );
      made = λ no. absurd (false≢true no);
    }

pub invariant_of-self-in-Err : goal.invariant_of-self-in-Err
invariant_of-self-in-Err c =
    let free : IsPlaceFor (λ (x : RunCycle). x.name) c.self.inside.cycles.items c.in-Some.cycle.name c.in-Err.place =
    subst (λ xs. IsPlaceFor
    (λ (x : RunCycle). x.name) xs c.in-Some.cycle.name c.in-Err.place) c.deref.ensures.value c.in-Err.ensures.free in
    rw c.in_ok-insert-in-Err.ensures.items (rising-insert
    (λ (x : RunCycle). x.name) c.self.inside.cycles.items c.in-Some.cycle c.in-Err.place free c.self.invariant)

pub returns-in_ok-insert-in-Err : goal.returns-in_ok-insert-in-Err
returns-in_ok-insert-in-Err c = λ before some made.
    let s : SpellsRunCycle (fields_of c.args.row.now) c.in-Some.cycle = search rules in
    let seen : AreRunCyclesOf c.deref.result.now before = rw (c.deref.ensures.value, c.self.view_is) made in
    let fits = new-fits c.deref.result.now before c.in-Some.cycle
    (fields_of c.args.row.now) c.in-Err.place c.in-Err.ensures.free seen s in
    let free : IsPlaceFor (λ (x : RunCycle). x.name) c.self.inside.cycles.items c.in-Some.cycle.name c.in-Err.place =
    subst (λ xs. IsPlaceFor
    (λ (x : RunCycle). x.name) xs c.in-Some.cycle.name c.in-Err.place) c.deref.ensures.value c.in-Err.ensures.free in
    let are : AreRunCyclesOf c.self.inside.cycles.items before = rw c.self.view_is made in
    record {
      fits = (λ yes. fits, λ f. refl);
      made = λ yes. rw c.in_ok-insert-in-Err.ensures.items (run_cycles-more c.self.inside.cycles.items before
          c.in-Some.cycle (fields_of c.args.row.now) c.in-Err.place free are s);
    }
