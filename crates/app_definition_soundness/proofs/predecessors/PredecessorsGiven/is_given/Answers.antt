use Rattle.std.proofs.Common.{List, subst, sym}
use Rattle.app_definition_records.specs.declared.predecessors.Predecessor.{Predecessor}
use Rattle.app_definition_records.specs.Rising.{AreRising}
use Rattle.app_definition_soundness.specs.Values.{ArePredecessorValues}
use Rattle.app_definition_soundness.proofs.SimpleLemmas.{predecessors_given, predecessors_value}
use Rattle.app_definition_soundness.proofs.predecessors.PredecessorsGiven.is_given.Goals as goal

pub returns : goal.returns
returns c =
    let name = c.args.name.now in
    let listed = c.args.self.now in
    let same = c.as_slice.ensures.value in (
      λ yes. predecessors_given name listed
          (subst (λ (l : List Predecessor). AreRising (λ p. p.name) l) same c.as_slice.ensures.rising)
          (subst (ArePredecessorValues name) same (c.are_predecessors.ensures.0 yes)),
      λ given. c.are_predecessors.ensures.1
          (subst (ArePredecessorValues name) (sym same) (predecessors_value name listed given)),
    )
