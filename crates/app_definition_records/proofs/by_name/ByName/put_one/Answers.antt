use Rattle.std.proofs.Common.{◌∙◌, ap, sym}
use Rattle.std.proofs.lemmas.Bool.{false≢true}
use Rattle.std.specs.Prelude.{is_some}
use Rattle.app_definition_records.proofs.ByNameLemmas.{same_by_name, seen-view_of, written-view_of}
use Rattle.app_definition_records.proofs.ReplacedLemmas.{get-with_one}
use Rattle.app_definition_records.proofs.by_name.ByName.put_one.Goals as goal

pub returns-in-Some-get_mut : goal.returns-in-Some-get_mut
returns-in-Some-get_mut g c =
    let lent = c.get_mut.follows.holds c.in-Some.definition in
    let updates = lent.3 (ap is_some (sym c.in-Some-get_mut.ensures.value)) in
    rw c.in-Some.is (same_by_name _ _ (λ q.
    written-view_of c.self.inside.by_name.entries (c.get_mut.follows.lender c.in-Some.definition).entries
    c.args.self.now c.args.name.now c.in-Some.definition c.self.view_is updates.0 q
    ∙ sym (get-with_one c.args.self.now c.args.name.now _ q)))

pub returns-in_default : goal.returns-in_default
returns-in_default g c =
    let none = seen-view_of c.self.inside.by_name.entries c.args.self.now c.args.name.now _ c.self.view_is
    c.in_default.ensures.value in
    absurd (false≢true (sym (ap is_some none) ∙ c.requires))
