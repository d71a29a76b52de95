use Rattle.std.proofs.Common.{◌≡◌, ◌-◌, ◌<◌, ap, arith, drop, get_or, length, subst, sym, take, take_all}
use Rattle.std.proofs.lemmas.List.{get_or_default, length-drop}
use Rattle.occurrences.specs.declared.row.Row.{Row}
use Rattle.plan_store_pairs.specs.Later.{AreLater}
use Rattle.plan_store_pairs.proofs.LaterLemmas.{tail_later}
use Rattle.plan_store_pairs.proofs.later.tail_of.Goals as goal
use Rattle.plan_store_pairs.proofs.later.tail_of.Goals.{then-loop-start-test+else-number, else-loop-start-test}

pub returns : goal.returns
returns c =
    let rows = c.args.rows.now in
    let moment = c.args.moment in
    let start = c.loop-start.start in
    let cut = c.saturating_sub.result in
    let whole : take (length rows - cut) (drop cut rows) ≡ drop cut rows = take_all (length rows - cut) (drop cut rows)
    (omega (arith, length-drop cut rows)) in
    let before : (d : Row) → 0 < start → (get_or rows (start - 1) d).key.ia < moment = λ d some.
    elim c.loop-start-test.branch [
      | then-loop-start-test+else-number w ↦
          let same : (get_or rows (start - 1) w.index-rows-start.result).key.ia ≡ (get_or rows (start - 1) d).key.ia =
          ap (λ (r : Row). r.key.ia) (get_or_default rows (start - 1) w.index-rows-start.result d
          (omega (arith, some, c.loop-start.invariant.within))) in
          omega (arith, w.if-number.false, w.number.ensures.value, w.number-in-loop-start.ensures.value, same)
      | else-loop-start-test w ↦ absurd (let h : ⊥ = omega (arith, some, w.loop-start-test.false) in h)
    ] in
    let at : cut ≡ start - 1 = c.saturating_sub.ensures in
    rw whole (subst (λ n. AreLater rows moment (drop n rows)) (sym at) (tail_later rows c.requires.keyed c.requires.one moment
    start c.loop-start.invariant.within c.loop-start.invariant.after before))
