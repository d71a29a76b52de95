-- Rows that were read.
use Rattle.std.proofs.Common.{◌≡◌, ℕ, List, Option, Some, subst}
use Rattle.std.specs.Prelude.{IfSome}
use Rattle.sqlite.specs.Order.{Row as Values}
use Rattle.plan_tables_content.specs.Content.{ByName}
use Rattle.plan_tables_definitions.specs.Storing.{AreRowsOf}

pub got_rows : {D : Type 0} (IsRow : List ℕ → D → Values → Type 0) (lent rows : List Values)
    (found : Option (ByName D)) (all : ByName D) → lent ≡ rows → found ≡ Some all
    → IfSome found (AreRowsOf IsRow lent) → AreRowsOf IsRow rows all
got_rows {D} IsRow lent rows found all same is h = subst (λ l. AreRowsOf IsRow l all) same
    (subst (λ o. IfSome o (AreRowsOf IsRow lent)) is h)
