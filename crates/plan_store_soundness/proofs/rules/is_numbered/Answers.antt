use Rattle.std.proofs.Common.{◌∙◌, ap, length, refl, sym}
use Rattle.std.proofs.lemmas.Bool.{false≢true}
use Rattle.plan_store_soundness.proofs.SizeLemmas.{rows_count}
use Rattle.plan_store_soundness.proofs.TableLemmas.{list_differs, numbered_none, numbered_some}
use Rattle.plan_store_soundness.proofs.rules.is_numbered.Goals as goal

pub table_of-requires : goal.table_of-requires
table_of-requires c = list_differs c.args.content.now c.args.all.now c.requires

pub returns-in-Some : goal.returns-in-Some
returns-in-Some c =
    let all = c.requires in (
      (λ yes. numbered_some c.args.content.now c.args.all.now all c.in_ok-table.table c.in-Some.field-0
          c.in-Some.is
          c.in_ok-table.ensures),
      λ numbered. refl,
    )

pub returns : goal.returns
returns c =
    let all = c.requires in (
      (λ yes. absurd (false≢true yes)),
      λ numbered.
          absurd (numbered_none c.args.content.now c.args.all.now all c.in_ok-table.table c.in-None.is
          c.in_ok-table.ensures numbered),
    )

pub returns-then-not-is_count : goal.returns-then-not-is_count
returns-then-not-is_count c =
    let all = c.requires in (
      (λ yes. absurd (false≢true yes)),
      λ numbered.
          let many = c.is_count.ensures.1 (ap length all ∙ rows_count c.args.content.now numbered) in
          absurd (false≢true (sym c.if-not-is_count.true ∙ many)),
    )
