use Rattle.std.proofs.Common.{List, subst, sym, ◌∙◌}
use Rattle.std.specs.Prelude.{IfSome, IsSome}
use Rattle.std.proofs.lemmas.Option.{IfSome_then}
use Rattle.std.proofs.lemmas.Result.{IfOk-weaker}
use Rattle.run_cycles.specs.declared.cycles.RunCycle.{RunCycle}
use Rattle.plan_tables_content.specs.Content.{ByName}
use Rattle.plan_tables_definitions.specs.Gathering.{AreSound}
use Rattle.plan_tables_definitions.specs.Storing.{AreRowsOf}
use Rattle.plan_tables_definitions.specs.WholeCycles.{AreSoundCycles, AreWide, IsEitherRow}
use Rattle.plan_tables_definitions.proofs.WholeLemmas.{cycle_rows, offset_rows, rows_of_both, wide_cycles, wide_offsets}
use Rattle.plan_tables_definitions.proofs.whole_cycles.read_cycles.Goals as goal

pub returns-then-not-are_wide-clause-found : goal.returns-then-not-are_wide-clause-found
returns-then-not-are_wide-clause-found c all sound are those =
    sym c.if-not-are_wide.true ∙ c.are_wide.ensures.1 (subst (AreWide 10) (sym c.deref.ensures.value)
    (wide_cycles c.args.rows.items all are))

pub returns-then-not-are_wide-2-clause-found : goal.returns-then-not-are_wide-2-clause-found
returns-then-not-are_wide-2-clause-found c all sound are those =
    sym c.if-not-are_wide-2.true ∙ c.are_wide-2.ensures.1 (subst (AreWide 4) (sym c.deref-2.ensures.value)
    (wide_offsets c.args.offsets.items all those))

pub returns-clause-cycles : goal.returns-clause-cycles
returns-clause-cycles c =
    let rows = c.args.rows.items in
    let offsets = c.args.offsets.items in
    let both = c.deref-3.result.now in
    let put = c.deref-3.ensures.value ∙ c.in_ok-append.ensures.items in
    let wide = subst (AreWide 10) c.deref.ensures.value (c.are_wide.ensures.0 c.if-not-are_wide.false) in
    let narrow = subst (AreWide 4) c.deref-2.ensures.value (c.are_wide-2.ensures.0 c.if-not-are_wide-2.false) in
    IfOk-weaker c.gathered.result (λ found. IfSome found (AreRowsOf IsEitherRow both)) _
    (λ found made. IfSome_then found made (λ all are. cycle_rows rows offsets both all put wide narrow are))
    c.gathered.ensures.made

pub returns-clause-offsets : goal.returns-clause-offsets
returns-clause-offsets c =
    let rows = c.args.rows.items in
    let offsets = c.args.offsets.items in
    let both = c.deref-3.result.now in
    let put = c.deref-3.ensures.value ∙ c.in_ok-append.ensures.items in
    let wide = subst (AreWide 10) c.deref.ensures.value (c.are_wide.ensures.0 c.if-not-are_wide.false) in
    let narrow = subst (AreWide 4) c.deref-2.ensures.value (c.are_wide-2.ensures.0 c.if-not-are_wide-2.false) in
    IfOk-weaker c.gathered.result (λ found. IfSome found (AreRowsOf IsEitherRow both)) _
    (λ found made. IfSome_then found made (λ all are. offset_rows rows offsets both all put wide narrow are))
    c.gathered.ensures.made

pub returns-clause-found : goal.returns-clause-found
returns-clause-found c =
    let rows = c.args.rows.items in
    let offsets = c.args.offsets.items in
    let both = c.deref-3.result.now in
    let put = c.deref-3.ensures.value ∙ c.in_ok-append.ensures.items in
    IfOk-weaker c.gathered.result (λ found. (all : ByName (List RunCycle)) → AreSound AreSoundCycles all
    → AreRowsOf IsEitherRow both all → IsSome found) _
    (λ found some all sound are those. some all sound (rows_of_both rows offsets both all put are those))
    c.gathered.ensures.found
