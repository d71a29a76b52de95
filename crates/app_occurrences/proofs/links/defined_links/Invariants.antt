-- the links of the entries so far, before those that are left
use Rattle.std.proofs.Common.{◌≡◌, ◌++◌, ℕ, List}
use Rattle.app_definition_records.specs.declared.predecessors.Predecessor.{Predecessor}
use Rattle.app_definition_records.specs.ByName.{AreEntriesOf}
use Rattle.app_occurrences.proofs.LinkLemmas.{ListsRise, links_of}
use Rattle.app_occurrences.proofs.links.defined_links.Given as goal

abbrev pub invariant-loop-app : goal.invariant-loop-app
invariant-loop-app l = (done : List (List ℕ × List Predecessor))
    × AreEntriesOf (done ++ l.app-iterator) l.all.predecessors × (l.links.items ≡ links_of done) × ListsRise done
