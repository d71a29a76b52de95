use Rattle.std.proofs.Common.{◌∙◌, ap, sym, Some}
use Rattle.plan_store.specs.AppPairs.{with_others}
use Rattle.plan_store.specs.Contents.{content_of}
use Rattle.plan_store.specs.Listed.{link_of, row_at}
use Rattle.plan_store.proofs.ShownLemmas.{link_unknown}
use Rattle.plan_store.proofs.contents.Content.known_link.Goals as goal

pub returns-in_err-successor : goal.returns-in_err-successor
returns-in_err-successor c are =
    let seen = with_others c.args.others.now (content_of c.args.self.now).sets in
    let app = Some c.args.app.now in
    let none = sym (c.in_err-successor.ensures are) in
    rw c.from_residual.ensures (sym (ap (λ o. link_of app o (row_at seen c.args.pair.predecessor)) none))

pub returns-in_err-predecessor : goal.returns-in_err-predecessor
returns-in_err-predecessor c are =
    let seen = with_others c.args.others.now (content_of c.args.self.now).sets in
    let app = Some c.args.app.now in
    let none = sym (c.in_err-predecessor.ensures are) in
    rw c.from_residual-in_err-predecessor.ensures (sym (ap (λ o. link_of app (row_at seen c.args.pair.successor) o) none
    ∙ link_unknown app (row_at seen c.args.pair.successor)))
