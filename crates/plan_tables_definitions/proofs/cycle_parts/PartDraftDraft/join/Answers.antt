use Rattle.std.proofs.Common.{List, ℕ, ℤ, ◌≡◌, inl, inr, length, subst, sym, ap, ◌∙◌}
use Rattle.std.specs.Prelude.{IsTrue}
use Rattle.std.proofs.lemmas.Result.{IfOk-weaker}
use Rattle.std.proofs.Common.{rules}
use Rattle.std.proofs.lemmas.Int.{to_z-of_z}
use mir.Syntax.{w16}
use mir.Val.{SFits, of_z, to_z}
use Rattle.plan_tables_definitions.specs.CycleParts.{IsReadRow, offset_tail}
use Rattle.plan_tables_definitions.specs.Gathering.{Joins, Within}
use Rattle.plan_tables_definitions.specs.Placed.{IsRowOfList, IsPlaced}
use Rattle.plan_tables_definitions.proofs.CycleLemmas.{joins_left, joins_right, nine_told, offset_can, other_listed}
use Rattle.plan_tables_definitions.proofs.CycleLemmas.{placed_listed}
use Rattle.plan_tables_definitions.proofs.cycle_parts.PartDraftDraft.join.Goals as goal

pub returns-then-len-eq9-clause-taken : goal.returns-then-len-eq9-clause-taken
returns-then-len-eq9-clause-taken c =
    let name = c.args.name.now in
    let old = c.args.self.now.row in
    let new = c.keep_row.new.kept in
    let row = c.args.row.now in
    IfOk-weaker c.keep_row.result (λ b. IsTrue b → Joins (IsReadRow name old) row (IsReadRow name new)) _
    (λ b taken is. joins_left (IsReadRow name old) (IsReadRow name new)
    (IsPlaced (offset_tail name) c.args.self.now.offsets) row (taken is)) c.keep_row.ensures.taken

pub returns-then-len-eq9-clause-refused : goal.returns-then-len-eq9-clause-refused
returns-then-len-eq9-clause-refused c =
    let name = c.args.name.now in
    let old = c.args.self.now.row in
    let row = c.args.row.now in
    let long = sym c.len.ensures ∙ c.if-len-eq9.true in
    IfOk-weaker c.keep_row.result (λ b. Within (IsReadRow name old) (λ v. v ≡ row) → IsTrue b) _
    (λ b refused d such is within. refused (λ v kept.
    nine_told name d v (ap length kept.0 ∙ kept.1) (within v (inl kept)) ∙ sym (nine_told name d row long is)))
    c.keep_row.ensures.refused

pub returns-in_default-clause-refused : goal.returns-in_default-clause-refused
returns-in_default-clause-refused c d such is within =
    let name = c.args.name.now in
    let row = c.args.row.now in
    let (place, k, at, told) =
    other_listed name d row (λ long. c.if-len-eq9.false (c.len.ensures ∙ long)) is in
    let (fits, can) = offset_can name d place k such at in
    absurd (c.in_default.not-Some (place, k) (c.offset_at.ensures.found place k fits can told))

pub returns-clause-taken : goal.returns-clause-taken
returns-clause-taken c =
    let name = c.args.name.now in
    let old = c.args.self.now.offsets in
    let new = c.list_offset.new.offsets in
    let fits : SFits w16 c.in-Some.k = search rules in
    let same = to_z-of_z w16 c.in-Some.k fits in
    IfOk-weaker c.list_offset.result (λ b. (name : List ℕ) → IsTrue b → Joins (IsPlaced (offset_tail name) old)
    (offset_tail name c.in-Some.place (to_z w16 (of_z w16 c.in-Some.k))) (IsPlaced (offset_tail name) new)) _
    (λ b taken is. joins_right (IsPlaced (offset_tail name) old) (IsPlaced (offset_tail name) new)
    (IsReadRow name c.args.self.now.row) c.args.row.now (subst (λ row. Joins (IsPlaced (offset_tail name) old) row
    (IsPlaced (offset_tail name) new)) (ap (offset_tail name c.in-Some.place) same ∙ sym c.in-Some.ensures.value)
    (taken name is))) c.list_offset.ensures.taken

pub returns-clause-refused : goal.returns-clause-refused
returns-clause-refused c =
    let name = c.args.name.now in
    let row = c.args.row.now in
    let old = c.args.self.now.offsets in
    let fits : SFits w16 c.in-Some.k = search rules in
    let same = to_z-of_z w16 c.in-Some.k fits in
    IfOk-weaker c.list_offset.result (λ b. (d : List ℤ) (name : List ℕ)
    → IsRowOfList (offset_tail name) d (offset_tail name c.in-Some.place (to_z w16 (of_z w16 c.in-Some.k)))
    → Within (IsPlaced (offset_tail name) old) (IsRowOfList (offset_tail name) d)
    → IsTrue b) _
    (λ b refused d such is within. refused d.offsets name
    (subst (IsRowOfList (offset_tail name) d.offsets)
    (c.in-Some.ensures.value ∙ sym (ap (offset_tail name c.in-Some.place) same)) (other_listed name d row
    (λ long. c.if-len-eq9.false (c.len.ensures ∙ long)) is))
    (λ v placed. placed_listed name d old v placed (within v (inr placed)))) c.list_offset.ensures.refused
