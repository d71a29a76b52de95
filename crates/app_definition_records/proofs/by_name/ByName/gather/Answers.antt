use Rattle.std.proofs.Common.{◌∙◌, sym, ap, refl, true, false, Some, None, length, rules}
use Rattle.std.specs.Prelude.{is_some}
use Rattle.std.proofs.lemmas.Bool.{false≢true}
use Rattle.csv.specs.Records.{fields_of}
use Rattle.app_definition_records.proofs.ByNameLemmas.{begun-gathered, begun-taken, joined}
use Rattle.app_definition_records.proofs.ByNameLemmas.{written-view_of, seen-view_of}
use Rattle.app_definition_records.proofs.by_name.ByName.gather.Goals as goal

pub returns-in-Some-get_mut : goal.returns-in-Some-get_mut
returns-in-Some-get_mut g c = λ before given long.
    let row = fields_of c.args.row.now in
    let complete : g.D.Definition.HasFields (length row) = search rules in
    let seen = seen-view_of c.self.inside.by_name.entries c.args.self.now c.in-Some.name
    (Some c.in-Some-get_mut.definition.now) c.self.view_is c.in-Some-get_mut.ensures.value in
    let lent = c.get_mut.follows.holds c.join.new.self in
    let updates = lent.3 (ap is_some (sym c.in-Some-get_mut.ensures.value)) in
    joined g.D.Definition.HasFields g.D.Definition.FitsName g.D.Definition.IsMadeOf c.args.self.now _ c.in-Some.name
    c.in-Some-get_mut.definition.now c.join.new.self before row c.join.result
    (c.in-Some.ensures.value ∙ c.field_at.ensures) complete long
    (rw c.in-Some.ensures.value (c.in-Some.ensures.valid.0 refl)) seen
    (written-view_of c.self.inside.by_name.entries
    (c.get_mut.follows.lender c.join.new.self).entries c.args.self.now c.in-Some.name c.join.new.self c.self.view_is
    updates.0)
    given c.join.ensures

pub returns-in_default-2 : goal.returns-in_default-2
returns-in_default-2 g c = λ before given long.
    let row = fields_of c.args.row.now in
    let complete : g.D.Definition.HasFields (length row) = search rules in
    let seen = seen-view_of c.self.inside.by_name.entries c.args.self.now c.in-Some.name None c.self.view_is
    c.in_default-get_mut.ensures.value in
    record {
      fits = begun-taken g.D.Definition.HasFields g.D.Definition.FitsName g.D.Definition.IsMadeOf c.args.self.now
          c.in-Some.name before row false (c.in-Some.ensures.value ∙ c.field_at.ensures) complete long
          (rw c.in-Some.ensures.value (c.in-Some.ensures.valid.0 refl)) seen given
          (rw c.in_default-2.is at c.in_ok-definition.ensures.fits);
      made = λ no. absurd (false≢true no);
    }

pub returns : goal.returns
returns g c = λ before given long.
    let row = fields_of c.args.row.now in
    let complete : g.D.Definition.HasFields (length row) = search rules in
    let seen = seen-view_of c.self.inside.by_name.entries c.args.self.now c.in-Some.name None c.self.view_is
    c.in_default-get_mut.ensures.value in
    let kept = c.get_mut.follows.holds-at-none in
    record {
      fits = begun-taken g.D.Definition.HasFields g.D.Definition.FitsName g.D.Definition.IsMadeOf c.args.self.now
          c.in-Some.name before row true (c.in-Some.ensures.value ∙ c.field_at.ensures) complete long
          (rw c.in-Some.ensures.value (c.in-Some.ensures.valid.0 refl)) seen given
          (rw c.in-Some-2.is at c.in_ok-definition.ensures.fits);
      made = λ yes. begun-gathered g.D.Definition.IsMadeOf c.args.self.now _ c.in-Some.name c.in-Some-2.definition
          before row (c.in-Some.ensures.value ∙ c.field_at.ensures) seen
          (written-view_of c.self.inside.by_name.entries c.insert.new.self.entries c.args.self.now c.in-Some.name
          c.in-Some-2.definition c.self.view_is (rw kept at c.in_ok-insert.ensures.updates.0))
          given (rw c.in-Some-2.is at c.in_ok-definition.ensures.made);
    }
