use Rattle.run_cycles.proofs.namings.all_namings.Goals as goal

pub returns-clause-each : goal.returns-clause-each
returns-clause-each c =
    λ x.
    let of = c.in_ok-list.ensures.each x in
    let all = c.in_ok-sources.ensures.each x in
    ((λ h. all.0 (of.0 h)), λ h. of.1 (all.1 h))
