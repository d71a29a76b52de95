use Rattle.std.proofs.Common.{◌≡◌, ◌⊎◌, ◌+◌, ◌++◌, ◌∷◌, ◌∙◌, ℕ, List, [], true, arith, ap, inl, inr, rules, subst, sym, take}
use Rattle.std.specs.List.{Contains}
use Rattle.std.proofs.lemmas.List.{take_all, take_more}
use Rattle.std.proofs.lemmas.List.Elements.{Contains-append_left, Contains-push}
use Rattle.external_dependencies.specs.declared.links.Link.{Link}
use Rattle.plan_store_pairs.proofs.ListLemmas.{none}
use Rattle.plan_store_pairs.proofs.TouchedLemmas.{each_more}
use Rattle.plan_store_pairs.proofs.touches.push_beside.Goals as goal
use Rattle.plan_store_pairs.proofs.touches.push_beside.Goals.{then-not-contains+in_ok-push, else-not-contains}

-- none so far
pub loop-link-init : goal.loop-link-init
loop-link-init c = ((λ app there. there), λ link there. absurd (none link there))

-- one more link
pub loop-link-preserved : goal.loop-link-preserved
loop-link-preserved c =
    let links = c.args.links.now in
    let others = c.args.others.now.items in
    let first = c.args.apps.now.items in
    let link = c.link-item.result in
    let index = c.loop-link.link-index in
    let apps = c.loop-link.apps.items in
    let front : take (index + 1) links ≡ take index links ++ link ∷ [] =
    take_more links index link c.loop-link-test.true ∙ ap (λ x. take index links ++ x ∷ []) (sym c.link-item.is) in
    let Told : List (List ℕ) → Link → Type 0 = λ named x. Contains others x ⊎ Contains named x.app in
    let stay : (app : List ℕ) → Contains first app → Contains c.if-not-contains.apps.items app =
    elim c.if-not-contains.branch [
      | then-not-contains+in_ok-push w ↦
          let pushed : w.push.new.self.items ≡ apps ++ link.app ∷ [] = w.in_ok-push.ensures.items in
          rw (w.apps-is, pushed) (λ app there.
          Contains-append_left apps (link.app ∷ []) app (c.loop-link.invariant.0 app there))
      | else-not-contains w ↦ rw w.apps-is c.loop-link.invariant.0
    ] in
    let more : (x : Link) → Contains (take index links ++ link ∷ []) x → Told c.if-not-contains.apps.items x =
    elim c.if-not-contains.branch [
      | then-not-contains+in_ok-push w ↦
          let pushed : w.push.new.self.items ≡ apps ++ link.app ∷ [] = w.in_ok-push.ensures.items in
          rw (w.apps-is, pushed)
          (each_more (Told apps) (Told (apps ++ link.app ∷ [])) (take index links) link c.loop-link.invariant.1
          (λ x told. elim told [
            | inl there ↦ inl there
            | inr named ↦ inr (Contains-append_left apps (link.app ∷ []) x.app named)
          ]) (inr (Contains-push apps link.app)))
      | else-not-contains w ↦
          let present : c.contains.result ≡ true = search rules in
          rw w.apps-is (each_more (Told apps) (Told apps) (take index links) link c.loop-link.invariant.1
          (λ x told. told) (inl (c.contains.ensures.0 present)))
    ] in
    (stay, subst (λ ls. (x : Link) → Contains ls x → Told c.if-not-contains.apps.items x) (sym front) more)

pub returns-clause-stay : goal.returns-clause-stay
returns-clause-stay c = c.loop-link.invariant.0

-- all links
pub returns-clause-told : goal.returns-clause-told
returns-clause-told c =
    let whole = take_all c.loop-link.link-index c.args.links.now (omega arith) in
    subst (λ ls. (x : Link) → Contains ls x → Contains c.args.others.now.items x ⊎ Contains c.loop-link.apps.items x.app)
    whole c.loop-link.invariant.1
