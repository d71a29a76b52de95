use Rattle.std.proofs.Common.{◌≡◌, ◌↔◌, ◌⊎◌, ◌+◌, ◌++◌, ◌∷◌, [], take, sym, ap, subst, arith, ◌∙◌, inl, inr}
use Rattle.std.specs.List.{Contains}
use Rattle.std.proofs.lemmas.List.{take_more, take_all}
use Rattle.external_dependencies.specs.Reached.{HasSerialOf}
use Rattle.external_dependencies.specs.Touch.{HasRowOf}
use Rattle.external_dependencies.proofs.GatherLemmas.{serials_more}
use Rattle.external_dependencies.proofs.MapLemmas.{serials_are}
use Rattle.external_dependencies.proofs.repair.serials_of.Goals as goal

-- none of the rows so far
pub loop-placed-init : goal.loop-placed-init
loop-placed-init c serial =
    let are = serials_are c.args.more.now _ c.in_ok-serials.ensures serial in (
      (λ there. inr (are.0 there)),
      λ is. elim is [ inl (q, nothing, same) ↦ absurd (let lt = nothing.1 in omega arith) | inr there ↦ are.1 there ],
    )

-- one more row
pub loop-placed-preserved : goal.loop-placed-preserved
loop-placed-preserved c =
    let rows = c.args.rows.now in
    let index = c.loop-placed.placed-index in
    let front : take (index + 1) rows ≡ take index rows ++ c.placed-item.result ∷ [] =
    take_more rows index c.placed-item.result c.loop-placed-test.true
    ∙ ap (λ x. take index rows ++ x ∷ []) (sym c.placed-item.is) in
    let pushed : c.push.new.self.items ≡ c.loop-placed.serials.items ++ c.placed-item.result.row.serial ∷ [] =
    c.in_ok-push.ensures.items in
    let more = serials_more (HasRowOf c.args.more.now) (take index rows) c.loop-placed.serials.items c.loop-placed.invariant
    c.placed-item.result in
    rw (pushed, front) more

-- all rows
pub returns : goal.returns
returns c serial =
    let whole : take c.loop-placed.placed-index c.args.rows.now ≡ c.args.rows.now =
    take_all c.loop-placed.placed-index c.args.rows.now (omega arith) in
    subst (λ rows. Contains c.loop-placed.serials.items serial
    ↔ (HasSerialOf rows serial ⊎ HasRowOf c.args.more.now serial)) whole (c.loop-placed.invariant serial)
