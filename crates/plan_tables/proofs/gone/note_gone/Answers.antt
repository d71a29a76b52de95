use Rattle.plan_tables.proofs.GoneLemmas.{noted_later}
use Rattle.plan_tables.proofs.gone.note_gone.Goals as goal
use Rattle.plan_tables.proofs.gone.note_gone.Goals.{in-Some, in-None}

pub returns-else-not-is_noted-clause-stay : goal.returns-else-not-is_noted-clause-stay
returns-else-not-is_noted-clause-stay c all had =
    elim c.match-gone.branch [
      | in-Some w ↦ rw w.gone-is (noted_later all w.in-Some.noted w.note.new.self w.note.ensures.stay
          (rw w.in-Some.is at had))
      | in-None w ↦ absurd (let h : ⊥ = cc w.is_noted-is in h)
    ]
