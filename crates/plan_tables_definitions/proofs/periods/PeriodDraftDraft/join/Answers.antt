use Rattle.std.proofs.Common.{List, ℕ, subst, sym}
use Rattle.std.specs.Prelude.{IsTrue}
use Rattle.std.proofs.lemmas.Result.{IfOk-weaker}
use Rattle.plan_periods.specs.declared.periods.Period.{Period}
use Rattle.plan_tables_content.specs.Facts.{IsPeriodRow}
use Rattle.plan_tables_definitions.specs.DraftedPeriods.{entries_of, lettered_values}
use Rattle.plan_tables_definitions.specs.Gathering.{Joins, Within}
use Rattle.plan_tables_definitions.specs.Placed.{IsRowOfList, IsPlaced}
use Rattle.plan_tables_definitions.proofs.PeriodLemmas.{period_listed, readable}
use Rattle.plan_tables_definitions.proofs.periods.PeriodDraftDraft.join.Goals as goal

pub returns-in_default-clause-refused : goal.returns-in_default-clause-refused
returns-in_default-clause-refused c d such is within =
    let name = c.args.name.now in
    let (place, x, at, told) = (period_listed name d c.args.row.now).0 is in
    let (fits, can) = readable name d place x such at in
    let read = c.entry_at.ensures.found place x fits can told in
    absurd (c.in_default.not-Some (place, x) read)

pub returns-clause-taken : goal.returns-clause-taken
returns-clause-taken c =
    let name = c.args.name.now in
    let old = c.args.self.now.entries in
    let new = c.list_entry.new.entries in
    IfOk-weaker c.list_entry.result (λ b. (name : List ℕ) → IsTrue b → Joins (IsPlaced (lettered_values name) old)
    (lettered_values name c.in-Some.place c.in-Some.entry) (IsPlaced (lettered_values name) new)) _
    (λ b taken is. subst (λ row. Joins (IsPlaced (lettered_values name) old) row (IsPlaced (lettered_values name) new))
    (sym c.in-Some.ensures.value) (taken name is)) c.list_entry.ensures.taken

pub returns-clause-refused : goal.returns-clause-refused
returns-clause-refused c =
    let name = c.args.name.now in
    let old = c.args.self.now.entries in
    IfOk-weaker c.list_entry.result (λ b. (d : Period) (name : List ℕ)
    → IsRowOfList (lettered_values name) (entries_of d) (lettered_values name c.in-Some.place c.in-Some.entry)
    → Within (IsPlaced (lettered_values name) old) (IsRowOfList (lettered_values name) (entries_of d))
    → IsTrue b) _
    (λ b refused d such is within. refused d name
    ((period_listed name d (lettered_values name c.in-Some.place c.in-Some.entry)).0
    (subst (IsPeriodRow name d) c.in-Some.ensures.value is))
    (λ v placed. (period_listed name d v).0 (within v placed))) c.list_entry.ensures.refused
