use Rattle.std.proofs.Common.{◌∙◌, sym}
use Rattle.sqlite_schema.specs.Code.{terms_in}
use Rattle.plan_tables_opening.proofs.TermLemmas.{said_of}
use Rattle.plan_tables_opening.proofs.same_schema.terms.TermsSame.is_same.Goals as goal

pub returns : goal.returns
returns c = said_of c.are_same_terms.ensures
    (sym c.self.view_is ∙ λ i. terms_in (sym c.as_slice.ensures i) (sym c.as_slice-2.ensures i))
    (sym c.other.view_is ∙ λ i. terms_in (sym c.as_slice-3.ensures i) (sym c.as_slice-4.ensures i))
