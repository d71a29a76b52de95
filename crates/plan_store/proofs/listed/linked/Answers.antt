use Rattle.std.proofs.Common.{◌∙◌, ap, sym}
use Rattle.std.specs.Prelude.{option_copied}
use Rattle.plan_store.specs.Listed.{link_of, row_at}
use Rattle.plan_store.proofs.ShownLemmas.{link_unknown}
use Rattle.plan_store.proofs.listed.linked.Goals as goal

pub returns-in_err-successor : goal.returns-in_err-successor
returns-in_err-successor c s numbered are =
    let app = option_copied c.args.app in
    let none = sym (c.in_err-successor.ensures s numbered are) in
    rw c.from_residual.ensures (sym (ap (λ o. link_of app o (row_at s c.args.pair.predecessor)) none))

pub returns-in_err-predecessor : goal.returns-in_err-predecessor
returns-in_err-predecessor c s numbered are =
    let app = option_copied c.args.app in
    let none = sym (c.in_err-predecessor.ensures s numbered are) in
    rw c.from_residual-in_err-predecessor.ensures (sym (ap (λ o. link_of app (row_at s c.args.pair.successor) o) none
    ∙ link_unknown app (row_at s c.args.pair.successor)))
