use Rattle.std.proofs.Common.{◌≡◌, ◌⊎◌, ◌↔◌, ◌+◌, ◌++◌, ◌∙◌, [], List, None, Some, ap, length, refl, subst}
use Rattle.std.specs.List.{Contains}
use Rattle.external_dependencies.specs.declared.links.Link.{Link}
use Rattle.external_dependencies.specs.Touch.{HasRowOf}
use Rattle.external_dependencies.specs.declared.pairs.Pair.{Pair}
use Rattle.external_dependencies.specs.declared.rows.PlacedRow.{PlacedRow}
use Rattle.occurrences.specs.declared.reply.Reply.TheVariants.{Made}
use Rattle.occurrences.specs.declared.row.Row.{Row}
use Rattle.planner_machine.proofs.SoundLemmas.{rows_sound}
use Rattle.plan_store.specs.Views.{shown, with_hidden}
use Rattle.plan_store_pairs.specs.Planned.{IsWaitingAt}
use Rattle.plan_store_pairs.specs.Turns.{IsInLists, IsTouchOf}
use Rattle.long_term_plan.specs.Making.{numbered, planned_sets}
use Rattle.long_term_plan.specs.Modifying.{HavePlanned}
use Rattle.long_term_plan.proofs.HeldLemmas.{turn_seen}
use Rattle.long_term_plan.proofs.LaterLemmas.{later_held}
use Rattle.long_term_plan.proofs.MakingLemmas.{lists_then, making_is}
use Rattle.long_term_plan.proofs.TurnedLemmas.{rows_made}
use Rattle.long_term_plan.proofs.making.make_drafts.Goals as goal

pub pairs_of_rows-requires : goal.pairs_of_rows-requires
pairs_of_rows-requires c row there =
    ((c.ltp.ensures.rows.exactly row).0 (c.in_ok-planned.ensures.2.stand row
    (subst (λ (l : List Row). Contains l row) c.deref-4.ensures.value there))).0

pub returns : goal.returns
returns c h sound sees known keeps =
    let view = c.args.view.now in
    let content = with_hidden h view in
    let b = c.args.bounds.now in
    let links = c.args.links in
    let new = c.args.new.items in
    let s = planned_sets b new content.sets in
    let rows = c.ltp.result.now.items in
    let sound_rows = rows_sound content sound in
    let touch = c.in_ok-touch.touch in
    let made = numbered content.sets.issued new in
    let put : c.in_ok-rows.rows.items ≡ made =
    c.in_ok-rows.ensures ∙ ap (λ l. numbered c.issued.result l) c.as_slice.ensures.value
    ∙ ap (λ n. numbered n new) c.issued.ensures in
    let count : c.len-made.result ≡ length new = c.len-made.ensures ∙ c.args.new.ok.0 in
    let touches : IsTouchOf [] made content.in_force links touch =
    subst (λ (rs : List Row). IsTouchOf [] rs content.in_force links touch) (c.deref.ensures.value ∙ put)
    (subst (λ (was : List Link). IsTouchOf [] c.deref.result.now was links touch) c.in_force.ensures
    (subst (λ (ls : List Link). IsTouchOf [] c.deref.result.now c.in_force.result.now.items ls touch) c.in_ok-lists.ensures
    c.in_ok-touch.ensures)) in
    let have : HavePlanned content.sets (rows ++ made) s = λ cp cp_are history history_are.
    lists_then content.sets sound_rows new b keeps rows c.ltp.ensures.rows cp cp_are history history_are in
    let plan = rows_made content sound rows c.ltp.ensures.rows new in
    let to = turn_seen None h view sound sees links known rows c.ltp.ensures.rows c.cp.result.now.items c.cp.ensures.rows
    c.lasts.result.now c.lasts.ensures s rows [] made have plan touch touches in
    let enough = c.in_ok-planned.ensures in
    let later = c.in_ok-planned.planned.items in
    let listed : (p : PlacedRow) → Contains c.in_ok-live.live p
    ↔ IsInLists (later ++ made) c.cp.result.now.items c.lasts.result.now p =
    subst (λ (l : List Row). (p : PlacedRow) → Contains c.in_ok-live.live p
    ↔ IsInLists (later ++ l) c.cp.result.now.items c.lasts.result.now p) (c.deref-3.ensures.value ∙ put)
    (subst (λ (l : List Row). (p : PlacedRow) → Contains c.in_ok-live.live p
    ↔ IsInLists (l ++ c.deref-3.result.now) c.cp.result.now.items c.lasts.result.now p)
    c.deref-2.ensures.value c.in_ok-live.ensures.listed) in
    let before : (pair : Pair) → Contains c.in_ok-before.before pair ↔ (Contains (shown view).pairs pair
    × (HasRowOf later pair.successor ⊎ IsWaitingAt (shown view).sets pair.successor)) =
    subst (λ (l : List Row). (pair : Pair) → Contains c.in_ok-before.before pair ↔ (Contains (shown view).pairs pair
    × (HasRowOf l pair.successor ⊎ IsWaitingAt (shown view).sets pair.successor))) c.deref-4.ensures.value
    c.in_ok-before.ensures in
    let holds = later_held None h view sound sees links known rows c.ltp.ensures.rows c.cp.result.now.items
    c.cp.ensures.rows c.lasts.result.now c.lasts.ensures s made have plan touch touches (λ q there is_open reach. tt)
    later enough.0 enough.1 enough.2 c.in_ok-live.live listed c.in_ok-before.before before in
    let pairs = c.in_ok-pairs.ensures content.sets s content.in_force links to.now h.pairs (λ q there link same. ((λ here. here), λ here. here)) sound.pairs.settled to.turn holds in (
      making_is content sound b links new _ (record {
        gone = c.new.ensures.items;
        unchanged = c.new-2.ensures.items;
        put = put;
        cp = record { gone = c.none.ensures.gone; changed = c.none.ensures.changed; put = c.none.ensures.put };
        history = record {
          gone = c.none-2.ensures.gone;
          changed = c.none-2.ensures.changed;
          put = c.none-2.ensures.put;
        };
        deletions = record {
          gone = c.none-3.ensures.gone;
          changed = c.none-3.ensures.changed;
          put = c.none-3.ensures.put;
        };
        bounds = refl;
        issued = ap (λ n. Some (n + c.len-made.result)) c.issued-2.ensures
            ∙ ap (λ n. Some (content.sets.issued + n)) count;
        in_force = c.in_ok-lists.ensures;
        definitions = refl;
        job = refl;
        pairs = pairs.0;
        leads = pairs.1;
      }),
      ap (λ n. Made n 0) count,
    )
