use Rattle.std.proofs.Common.{subst, sym}
use Rattle.std.proofs.lemmas.List.Sorted.{IsPermutation-trans}
use Rattle.plan_tables_opening.specs.Rowids.{AreRising}
use Rattle.plan_tables_opening.proofs.RowidLemmas.{rising_rowids, rowids_rise}
use Rattle.plan_tables_opening.proofs.rowids.are_rowids.Goals as goal

pub returns : goal.returns
returns c rows shown =
    let sorted = c.sort_rowids.ensures in (
      (λ rises. rising_rowids rows c.sort_rowids.new.rows.items (IsPermutation-trans _ _ _ shown sorted.same)
          (subst AreRising c.deref.ensures.value (c.are_rising.ensures.0 rises))),
      λ have. c.are_rising.ensures.1 (subst AreRising (sym c.deref.ensures.value) (rowids_rise rows
          c.args.shown.now.items c.sort_rowids.new.rows.items shown sorted.same sorted.sorted have)),
    )
