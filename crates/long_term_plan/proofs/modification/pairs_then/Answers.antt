use Rattle.std.proofs.Common.{◌≡◌, ◌↔◌, ◌++◌, ◌∙◌, ℕ, List, inl, subst, sym, true, Result, Ok, Err}
use Rattle.std.proofs.lemmas.Bool.{false≢true}
use Rattle.std.specs.Prelude.{IfOk}
use Rattle.std.specs.List.{Contains, filter_map}
use Rattle.occurrences.specs.Place.{IsOpen}
use Rattle.occurrences.specs.declared.row.Row.{Row}
use Rattle.external_dependencies.specs.Link.{Lists}
use Rattle.external_dependencies.specs.Reached.{HaveSameLists, HoldsReached}
use Rattle.external_dependencies.specs.Touch.{MayReach}
use Rattle.external_dependencies.specs.declared.links.Link.{Link}
use Rattle.external_dependencies.specs.declared.rows.PlacedRow.{PlacedRow}
use Rattle.planner_machine.specs.declared.content.Draft.{Draft}
use Rattle.planner_machine.specs.Pairs.{ArePairs}
use Rattle.plan_store_lists.specs.Rows.{of_row}
use Rattle.plan_store_lists.specs.ListsThen.{links_then}
use Rattle.plan_store.specs.Changes.{LeadsOn, lists_after, pairs_after}
use Rattle.plan_store.specs.Views.{IsAny, ListsSet, shown, with_hidden}
use Rattle.plan_store_pairs.specs.ByApplications.{AreGathered}
use Rattle.plan_store_pairs.specs.Planned.{IsOpenOfOne}
use Rattle.plan_store_pairs.specs.Turns.{AreKnownLinks, IsInLists, IsTouchOf}
use Rattle.long_term_plan.specs.Drafting.{DraftsRise}
use Rattle.long_term_plan.specs.Modifying.{AreOf, outcome}
use Rattle.long_term_plan.proofs.HeldLemmas.{app_held, gathered_are, gone_held, held, may_held, turn_seen}
use Rattle.long_term_plan.proofs.modification.pairs_then.Goals as goal
use Rattle.long_term_plan.proofs.modification.pairs_then.Goals.{then-few+in_ok-planned+in_ok-live}
use Rattle.long_term_plan.proofs.modification.pairs_then.Goals.{else-few+in_ok-all+in_ok-kept+in_ok-live-2}
use Rattle.long_term_plan.proofs.modification.pairs_then.Goals.{then-few-2+in_ok-before, else-few-2+in_ok-before-2}
use Rattle.long_term_plan.proofs.modification.pairs_then.Goals.{then-few-3+in_ok-links, else-few-3+in_ok-links-2}

weaker : {A E : Type 0} (r : Result A E) (P Q : A → Type 0) → ((a : A) → P a → Q a) → IfOk r P → IfOk r Q
weaker (Ok a) P Q f is = f a is
weaker (Err e) P Q f is = tt

pub returns : goal.returns
returns c order lists of_new of_gone of_put = weaker c.pair_change.result _ _ (λ change led h sound sees told s plan have.
    let view = c.args.view.now in
    let content = with_hidden h view in
    let rows = c.args.rows.now.items in
    let only = c.args.only.now in
    let named = c.args.named.items in
    let stay = filter_map (outcome only named) rows in
    let gone = c.args.gone.now in
    let put = c.args.put.now in
    let links = links_then c.lists_then-lists.result in
    let same : links ≡ lists_after c.args.new.now content.in_force = c.lists_then-lists.ensures in
    let known = subst (λ (ls : List Link). AreKnownLinks content ls) (sym same) told in
    let touch = c.in_ok-touch.touch in
    let apps = c.in_ok-apps.apps.items in
    let reached = c.in_ok-apps.ensures in
    let current = c.cp-current.result.now.items in
    let lasts = c.lasts-lasts.result.now in
    let touches : IsTouchOf gone put content.in_force links touch =
    subst (λ (ls : List Link). IsTouchOf gone put content.in_force ls touch) (sym same) c.in_ok-touch.ensures.touched in
    let to = turn_seen only h view sound sees links known rows lists current c.cp-current.ensures.rows lasts
    c.lasts-lasts.ensures s stay gone put have plan touch touches in
    let app_pass = app_held only h view sound sees links known rows lists current c.cp-current.ensures.rows lasts
    c.lasts-lasts.ensures s stay gone put have plan touch touches apps reached in
    let gone_pass = gone_held only h view sound sees links known rows lists current c.cp-current.ensures.rows lasts
    c.lasts-lasts.ensures s stay gone put have plan touch touches apps reached in
    let within = may_held only h view sound sees links known rows lists current c.cp-current.ensures.rows lasts
    c.lasts-lasts.ensures s stay gone put have plan touch touches c.args.new.now same of_new of_gone of_put
    (c.in_ok-touch.ensures.lists only of_new) in
    let of_made : (row : Row) → Contains put row → Contains apps row.key.app = λ row there.
    (reached.touched row (inl (subst (λ rs. Contains rs row) (sym touches.comes) there))).0 in
    let with_rows : (OfRows : List ℕ → Type 0) (live : List PlacedRow)
    → ((p : PlacedRow) → Contains live p ↔ (IsInLists (stay ++ put) current lasts p × OfRows p.row.key.app))
    → ((q : PlacedRow) → Contains to.now q → IsOpen q.place → MayReach touch links q.row
    → OfRows q.row.key.app × ((app : List ℕ) → Lists links q.row.key.app app → OfRows app))
    → HoldsReached touch links to.now h.pairs live c.if-few-2.before = λ OfRows live are pass.
    held only h view sound sees links known rows lists current c.cp-current.ensures.rows lasts
    c.lasts-lasts.ensures s stay gone put have plan touch touches OfRows live are pass within (Contains apps) c.if-few-2.before
    (λ q there is_open reach. (app_pass q there is_open reach).0) gone_pass
    (elim c.if-few-2.branch [
      | then-few-2+in_ok-before w ↦ rw w.before-is (λ pair there. ((w.in_ok-before.ensures pair).0 there).0)
      | else-few-2+in_ok-before-2 w ↦ rw w.before-is (λ pair there. ((w.in_ok-before-2.ensures pair).0 there).0)
    ])
    (elim c.if-few-2.branch [
      | then-few-2+in_ok-before w ↦ rw w.before-is (λ pair there row is_open among same.
          (w.in_ok-before.ensures pair).1 (
            there,
            subst (λ (xs : List (List ℕ)). IsOpenOfOne (shown view).sets xs pair.successor)
                (sym w.deref-then-few-2-2.ensures.value) (row, is_open, among, same),
          ))
      | else-few-2+in_ok-before-2 w ↦ rw w.before-is (λ pair there row is_open among same.
          (w.in_ok-before-2.ensures pair).1 (there, (row, is_open, same)))
    ]) in
    let both : HoldsReached touch links to.now h.pairs c.if-few.live c.if-few-2.before
    × ((q : PlacedRow) → Contains c.if-few.live q → c.are_few-few.result ≡ true → Contains apps q.row.key.app) =
    elim c.if-few.branch [
      | then-few+in_ok-planned+in_ok-live w ↦
          let planned = w.in_ok-planned.planned.items in
          let are_planned : AreOf apps (stay ++ put) planned =
          subst (λ (ds : List Draft). DraftsRise ds → (rs : List Row)
          → ListsSet of_row content.sets.ltp IsAny rs → ((row : Row) → Contains put row → Contains apps row.key.app)
          → AreOf apps (filter_map (outcome only ds) rs ++ put) planned) w.deref-then-few-2.ensures.value
          (subst (λ (ys : List (List ℕ)). DraftsRise w.deref-then-few-2.result.now → (rs : List Row)
          → ListsSet of_row content.sets.ltp IsAny rs → ((row : Row) → Contains put row → Contains ys row.key.app)
          → AreOf ys (filter_map (outcome only w.deref-then-few-2.result.now) rs ++ put) planned)
          w.deref-then-few.ensures.value w.in_ok-planned.ensures) order rows lists of_made in
          let gathered : AreGathered (shown view).sets apps planned w.in_ok-live.live =
          subst (λ (l : List Row). AreGathered (shown view).sets apps l w.in_ok-live.live)
          w.deref-then-few-4.ensures.value
          (subst (λ (ys : List (List ℕ)). AreGathered (shown view).sets ys w.deref-then-few-4.result.now
          w.in_ok-live.live) w.deref-then-few-3.ensures.value w.in_ok-live.ensures) in
          let are_live = gathered_are apps (stay ++ put) planned current lasts _ are_planned
          (gathered current c.cp-current.ensures.rows lasts c.lasts-lasts.ensures) in (
            rw w.live-is (with_rows (Contains apps) _ are_live app_pass),
            rw w.live-is (λ q there yes. ((are_live q).0 there).1),
          )
      | else-few+in_ok-all+in_ok-kept+in_ok-live-2 w ↦
          let kept : w.deref-else-few-3.result.now ≡ stay =
          w.deref-else-few-3.ensures.value
          ∙ subst (λ (ds : List Draft). DraftsRise ds
          → w.in_ok-kept.kept.items ≡ filter_map (outcome only ds) rows) w.deref-else-few-2.ensures.value
          (subst (λ (rs : List Row). DraftsRise w.deref-else-few-2.result.now
          → w.in_ok-kept.kept.items ≡ filter_map (outcome only w.deref-else-few-2.result.now) rs)
          (w.deref-else-few.ensures.value ∙ w.in_ok-all.ensures) w.in_ok-kept.ensures) order in
          let listed : (p : PlacedRow) → Contains w.in_ok-live-2.live p ↔ IsInLists (stay ++ put) current lasts p =
          subst (λ (l : List Row). (p : PlacedRow) → Contains w.in_ok-live-2.live p
          ↔ IsInLists (l ++ put) current lasts p) kept w.in_ok-live-2.ensures.listed in (
            rw w.live-is (with_rows (λ app. Unit {0}) _
                (λ p. ((λ there. ((listed p).0 there, tt)), λ both. (listed p).1 both.0))
                (λ q there is_open reach. (tt, λ app names. tt))),
            λ q there yes. absurd (false≢true (sym w.if-few.false ∙ yes)),
          )
    ] in
    let same_lists : HaveSameLists c.if-few.live c.if-few-3.links links = elim c.if-few-3.branch [
      | then-few-3+in_ok-links w ↦
          let are : (link : Link) → Contains w.in_ok-links.links link ↔ (Contains links link × Contains apps link.app) =
          rw w.deref-then-few-3-2.ensures.value at w.in_ok-links.ensures in
          rw w.links-is (λ q there link same_app. (
            (λ here. ((are link).0 here).0),
            λ here. (are link).1 (here, subst (Contains apps) (sym same_app) (both.1 q there w.if-few-3.true)),
          ))
      | else-few-3+in_ok-links-2 w ↦
          rw (w.links-is, w.in_ok-links-2.ensures) (λ q there link same_app. ((λ here. here), λ here. here))
    ] in
    subst (λ (ls : List Link). ArePairs content.pairs ls s (pairs_after change content.pairs)
    × LeadsOn content.pairs change) same
    (led content.sets s content.in_force links to.now h.pairs same_lists sound.pairs.settled to.turn both.0)) c.pair_change.ensures
