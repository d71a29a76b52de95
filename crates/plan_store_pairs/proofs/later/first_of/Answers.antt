use Rattle.std.proofs.Common.{◌≡◌, ◌≤◌, arith, inl, inr, subst, sym, take, take_all}
use Rattle.std.specs.List.{Contains}
use Rattle.occurrences.specs.declared.row.Row.{Row}
use Rattle.plan_store_lists.proofs.ArrivalBlockLemmas.{front_cases}
use Rattle.plan_store_pairs.proofs.later.first_of.Goals as goal
use Rattle.plan_store_pairs.proofs.later.first_of.Goals.{then-number, else-number}

-- one more row
pub loop-row-preserved : goal.loop-row-preserved
loop-row-preserved c row there =
    elim ((front_cases c.args.rows.now c.loop-row.row-index c.row-item.result c.loop-row-test.true c.row-item.is row).0
    there) [
      | inl early ↦
          let so = c.loop-row.invariant row early in
          elim c.if-number.branch [
            | then-number w ↦ rw w.first-is (omega (
              arith,
              so,
              w.if-number.true,
              c.number.ensures.value,
              c.number-in-loop-row.ensures.value,
            ))
            | else-number w ↦ rw w.first-is so
          ]
      | inr same ↦ subst (λ (r : Row). c.if-number.first ≤ r.key.ia) same (elim c.if-number.branch [
        | then-number w ↦ rw w.first-is (omega arith)
        | else-number w ↦ rw w.first-is (omega (
          arith,
          w.if-number.false,
          c.number.ensures.value,
          c.number-in-loop-row.ensures.value,
        ))
      ])
    ]

pub returns : goal.returns
returns c row there =
    let whole : take c.loop-row.row-index c.args.rows.now ≡ c.args.rows.now = take_all c.loop-row.row-index
    c.args.rows.now (omega arith) in
    c.loop-row.invariant row (subst (λ l. Contains l row) (sym whole) there)
