use Rattle.std.proofs.Common.{◌≡◌, refl, subst, rules}
use Rattle.std.proofs.lemmas.Bool.{false≢true}
use Rattle.csv.specs.Records.{fields_of}
use Rattle.app_definition_records.specs.Predecessors.{ArePredecessorsOf, IsPredecessorRecord, predecessor_of}
use Rattle.app_definition_records.specs.Rising.{IsPlaceFor}
use Rattle.app_definition_records.specs.declared.predecessors.Predecessor.{Predecessor}
use Rattle.app_definition_records.proofs.PredecessorLemmas.{predecessors-more, predecessors-fit, predecessors-no_fit}
use Rattle.app_definition_records.proofs.RisingLemmas.{rising-insert}
use Rattle.app_definition_records.proofs.predecessors.PredecessorsDefinition.join.Goals as goal

pub returns-in-Ok : goal.returns-in-Ok
returns-in-Ok c = λ before some made.
    let of : c.in-Some.predecessor ≡ predecessor_of (fields_of c.args.row.now) = search rules in
    let are : ArePredecessorsOf c.deref.result.now before = rw (c.deref.ensures.value, c.self.view_is) made in
    record {
      fits = (
        λ no. absurd (false≢true no),
        λ fits. absurd (predecessors-no_fit c.deref.result.now before c.in-Some.predecessor
            (fields_of c.args.row.now) c.in-Ok.field-0 of c.in-Ok.ensures.found.0 c.in-Ok.ensures.found.1 are fits),
      );
      made = λ no. absurd (false≢true no);
    }

pub invariant_of-self-in-Err : goal.invariant_of-self-in-Err
invariant_of-self-in-Err c =
    let free : IsPlaceFor (λ (x : Predecessor). x.name) c.self.inside.listed.items c.in-Some.predecessor.name
    c.in-Err.place =
    subst (λ xs. IsPlaceFor (λ (x : Predecessor). x.name) xs c.in-Some.predecessor.name c.in-Err.place)
    c.deref.ensures.value c.in-Err.ensures.free in
    rw c.in_ok-insert-in-Err.ensures.items (rising-insert (λ (x : Predecessor). x.name) c.self.inside.listed.items
    c.in-Some.predecessor c.in-Err.place free c.self.invariant)

pub returns-in_ok-insert-in-Err : goal.returns-in_ok-insert-in-Err
returns-in_ok-insert-in-Err c = λ before some made.
    let of : c.in-Some.predecessor ≡ predecessor_of (fields_of c.args.row.now) = search rules in
    let is : IsPredecessorRecord (fields_of c.args.row.now) = search rules in
    let seen : ArePredecessorsOf c.deref.result.now before = rw (c.deref.ensures.value, c.self.view_is) made in
    let fits = predecessors-fit c.deref.result.now before c.in-Some.predecessor (fields_of c.args.row.now)
    c.in-Err.place is of c.in-Err.ensures.free seen in
    let free : IsPlaceFor (λ (x : Predecessor). x.name) c.self.inside.listed.items c.in-Some.predecessor.name
    c.in-Err.place =
    subst (λ xs. IsPlaceFor (λ (x : Predecessor). x.name) xs c.in-Some.predecessor.name c.in-Err.place)
    c.deref.ensures.value c.in-Err.ensures.free in
    let are : ArePredecessorsOf c.self.inside.listed.items before = rw c.self.view_is made in
    record {
      fits = (λ yes. fits, λ f. refl);
      made = λ yes. rw c.in_ok-insert-in-Err.ensures.items (predecessors-more c.self.inside.listed.items before
          c.in-Some.predecessor (fields_of c.args.row.now) c.in-Err.place of free are);
    }
