use Rattle.std.proofs.Common.{◌≡◌, ◌≢◌, ◌+◌, ◌++◌, ◌∙◌, ℕ, List, ap, arith, filter, length, refl, sym, subst}
use Rattle.std.proofs.Common.{Bool, Option, Result, Ok, Err}
use Rattle.std.specs.Prelude.{IfOk, is_none}
use Rattle.std.specs.List.{AllPairs, Contains, filter_map}
use Rattle.std.proofs.lemmas.Bool.{false≢true}
use Rattle.occurrences.specs.declared.row.Row.{Row}
use Rattle.external_dependencies.specs.declared.links.Link.{Link}
use Rattle.planner_machine.specs.declared.content.Draft.{Draft}
use Rattle.planner_machine.specs.Content.{Content}
use Rattle.planner_machine.specs.Drafts.{AreDrafts, IsMade}
use Rattle.planner_machine.specs.Moves.{size}
use Rattle.planner_machine.specs.Plans.{HoldTooMany}
use Rattle.planner_machine.proofs.SoundLemmas.{rows_sound}
use Rattle.plan_store_lists.proofs.KeyLemmas.{contains_filter}
use Rattle.plan_store_lists.specs.Rows.{of_row}
use Rattle.plan_store.specs.Changes.{lists_after}
use Rattle.plan_store.specs.Views.{ListsSet, shown, with_hidden}
use Rattle.plan_store.specs.declared.changes.Verdict.{Verdict}
use Rattle.plan_store.specs.declared.changes.Verdict.TheVariants.{Done, Refused}
use Rattle.plan_store_pairs.specs.LiveRows.{HasLists}
use Rattle.plan_store_pairs.specs.Turns.{ArePlanned}
use Rattle.long_term_plan.specs.Drafting.{AreNew, ArePlannedKeys, DraftsRise}
use Rattle.long_term_plan.specs.Making.{numbered}
use Rattle.long_term_plan.specs.Modifying.{AreChanged, AreMet, AreParted, IsModifiedOrTooMany, Looks, ModifiesRows}
use Rattle.long_term_plan.specs.Modifying.{NamesThen, PartsPlan}
use Rattle.long_term_plan.specs.Modifying.{modified_sets, outcome}
use Rattle.long_term_plan.proofs.ChangedLemmas.{lists_then}
use Rattle.long_term_plan.proofs.DraftingLemmas.{named_late, new_are}
use Rattle.long_term_plan.proofs.MetLemmas.{keys_planned}
use Rattle.long_term_plan.proofs.ModifyPlanLemmas.{named_then, stays_sound, too_many}
use Rattle.long_term_plan.proofs.NumberLemmas.{numbered_length}
use Rattle.long_term_plan.proofs.PartingLemmas.{counts}
use Rattle.long_term_plan.proofs.LookedLemmas.{changed_same, gone_same}
use Rattle.long_term_plan.proofs.TurnedLemmas.{modifying_planned}
use Rattle.long_term_plan.proofs.ReachingLemmas.{named_look, numbered_of}
use Rattle.long_term_plan.specs.Reaching.{AreRowsOf}
use Rattle.long_term_plan.proofs.modification.modify.Goals as goal

weaker : {A E : Type 0} (r : Result A E) (P Q : A → Type 0) → ((a : A) → P a → Q a) → IfOk r P → IfOk r Q
weaker (Ok a) P Q f is = f a is
weaker (Err e) P Q f is = tt

pub named_drafts-requires-clause-apart : goal.named_drafts-requires-clause-apart
named_drafts-requires-clause-apart c =
    subst (λ (apps : List (List ℕ)). AllPairs (λ (a b : List ℕ). a ≢ b) apps) (sym c.as_slice.ensures.value)
    c.in_ok-apps.ensures.apart

pub unmet_drafts-requires : goal.unmet_drafts-requires
unmet_drafts-requires c =
    ap length c.deref-4.ensures.value ∙ c.in_ok-parted.ensures.count
    ∙ ap length (c.deref-2.ensures.value ∙ sym c.deref-3.ensures.value)

pub change_rows-requires : goal.change_rows-requires
change_rows-requires c =
    let few = c.are_too_many.ensures.serials c.if-are_too_many.false in
    let count : length c.in_ok-put.put.items ≡ length c.deref-6.result.now =
    ap length c.in_ok-put.ensures ∙ numbered_length c.issued.result c.deref-7.result.now
    ∙ ap length (c.deref-7.ensures.value ∙ sym c.deref-6.ensures.value) in
    omega (arith, few, count)

pub returns-then-are_too_many : goal.returns-then-are_too_many
returns-then-are_too_many c of_new h sound sees known planned deleted =
    let content = with_hidden h c.args.view.now in
    let only = c.args.only.now in
    let rows = c.ltp-rows.result.now.items in
    let looked = c.deref.result.now in
    let looked_are = subst (λ (l : List Row). ListsSet of_row (shown c.args.view.now).sets.ltp
    (λ (row : Row). Looks only row.key.app) l) (sym c.deref.ensures.value) c.in_ok-looked.ensures in
    let named = c.in_ok-named.named.items in
    let new = c.in_ok-made.made.items in
    let gone = c.in_ok-parted.parted.gone.items in
    let changed = c.in_ok-parted.parted.changed.items in
    let met = c.in_ok-parted.parted.met.items in
    let kept = filter_map (outcome only named) rows in
    let are_named = named_then content sound c.args.bounds.now planned only c.definitions-all.result.now
    c.definitions-all.ensures c.in_ok-apps.apps.items c.as_slice.result.now c.in_ok-apps.ensures
    c.as_slice.ensures.value
    c.last_planned-last.result c.last_planned-last.ensures.same named named c.in_ok-named.ensures refl in
    let are_met : AreMet looked named met =
    subst (λ (ds : List Draft). DraftsRise ds → AreMet looked ds met) c.deref-2.ensures.value
    c.in_ok-parted.ensures.met are_named.rising in
    let keys : ArePlannedKeys content.sets c.deref-3.result.now c.deref-4.result.now =
    subst (λ (ds : List Draft). ArePlannedKeys content.sets ds c.deref-4.result.now) (sym c.deref-3.ensures.value)
    (subst (λ (bs : List Bool). ArePlannedKeys content.sets named bs) (sym c.deref-4.ensures.value)
    (keys_planned content sound only c.args.bounds.now planned looked looked_are named are_named met
    are_met)) in
    let are_new : AreDrafts (IsMade (NamesThen content only) content.sets) new =
    new_are (NamesThen content only) content.sets named new are_named
    (subst (λ (ds : List Draft). AreNew content.sets ds new) c.deref-3.ensures.value
    (c.in_ok-made.ensures h (λ draft there. deleted draft.key (named_late content sound c.definitions-all.result.now
    c.definitions-all.ensures c.as_slice.result.now c.args.bounds.now.plan_end _ named c.deref-3.result.now
    c.in_ok-named.ensures c.deref-3.ensures.value draft there)) keys)) in
    let go : gone ≡ filter (λ (r : Row). is_none (outcome only named r)) rows =
    subst (λ (ds : List Draft). DraftsRise ds → gone ≡ filter (λ (r : Row). is_none (outcome only ds r)) looked)
    c.deref-2.ensures.value c.in_ok-parted.ensures.gone are_named.rising
    ∙ gone_same content.sets only named rows c.ltp-rows.ensures.rows looked looked_are in
    let counted : length kept + length c.deref-5.result.now ≡ size content.sets.ltp content.sets.issued =
    ap (λ (l : List Row). length kept + length l) (c.deref-5.ensures.value ∙ go) ∙ counts (outcome only named) rows
    ∙ c.ltp-rows.ensures.count h sound.serials in
    let tested = c.are_too_many.ensures.too_many h sound (length kept) counted in
    let change : AreChanged (outcome only named) rows changed =
    changed_same content.sets only named rows c.ltp-rows.ensures.rows looked looked_are changed
    (subst (λ (ds : List Draft). DraftsRise ds → AreChanged (outcome only ds) looked changed) c.deref-2.ensures.value
    c.in_ok-parted.ensures.changed are_named.rising) in
    let split : AreParted (outcome only named) rows kept gone changed =
    record { stay = refl; go = go; change = change } in
    let many = too_many content sound only named new rows c.ltp-rows.ensures.rows kept gone changed split (length kept)
    (length c.deref-6.result.now) refl (ap length c.deref-6.ensures.value) in
    record {
      named = named;
      are_named = are_named;
      new = new;
      are_new = are_new;
      outcome = (many.0 (tested.0 c.if-are_too_many.true), refl);
    }

done : (c : Content) (links : List Link) (only : Option (List ℕ)) (named new : List Draft) (verdict : Verdict)
    → (HoldTooMany (modified_sets only named new c.sets) → ⊥) → ModifiesRows c links only named new verdict
    → IsModifiedOrTooMany c links only named new verdict
done c links only named new (Done change reply) few made = (few, made)
done c links only named new (Refused refusal) few made = absurd made

pub returns : goal.returns
returns c of_new = weaker c.change_rows.result _ _ (λ verdict made h sound sees known planned deleted.
    let content = with_hidden h c.args.view.now in
    let only = c.args.only.now in
    let rows = c.ltp-rows.result.now.items in
    let looked = c.deref.result.now in
    let looked_are = subst (λ (l : List Row). ListsSet of_row (shown c.args.view.now).sets.ltp
    (λ (row : Row). Looks only row.key.app) l) (sym c.deref.ensures.value) c.in_ok-looked.ensures in
    let named = c.in_ok-named.named.items in
    let new = c.in_ok-made.made.items in
    let gone = c.in_ok-parted.parted.gone.items in
    let changed = c.in_ok-parted.parted.changed.items in
    let met = c.in_ok-parted.parted.met.items in
    let kept = filter_map (outcome only named) rows in
    let are_named = named_then content sound c.args.bounds.now planned only c.definitions-all.result.now
    c.definitions-all.ensures c.in_ok-apps.apps.items c.as_slice.result.now c.in_ok-apps.ensures
    c.as_slice.ensures.value
    c.last_planned-last.result c.last_planned-last.ensures.same named named c.in_ok-named.ensures refl in
    let are_met : AreMet looked named met =
    subst (λ (ds : List Draft). DraftsRise ds → AreMet looked ds met) c.deref-2.ensures.value
    c.in_ok-parted.ensures.met are_named.rising in
    let keys : ArePlannedKeys content.sets c.deref-3.result.now c.deref-4.result.now =
    subst (λ (ds : List Draft). ArePlannedKeys content.sets ds c.deref-4.result.now) (sym c.deref-3.ensures.value)
    (subst (λ (bs : List Bool). ArePlannedKeys content.sets named bs) (sym c.deref-4.ensures.value)
    (keys_planned content sound only c.args.bounds.now planned looked looked_are named are_named met
    are_met)) in
    let are_new : AreDrafts (IsMade (NamesThen content only) content.sets) new =
    new_are (NamesThen content only) content.sets named new are_named
    (subst (λ (ds : List Draft). AreNew content.sets ds new) c.deref-3.ensures.value
    (c.in_ok-made.ensures h (λ draft there. deleted draft.key (named_late content sound c.definitions-all.result.now
    c.definitions-all.ensures c.as_slice.result.now c.args.bounds.now.plan_end _ named c.deref-3.result.now
    c.in_ok-named.ensures c.deref-3.ensures.value draft there)) keys)) in
    let go : gone ≡ filter (λ (r : Row). is_none (outcome only named r)) rows =
    subst (λ (ds : List Draft). DraftsRise ds → gone ≡ filter (λ (r : Row). is_none (outcome only ds r)) looked)
    c.deref-2.ensures.value c.in_ok-parted.ensures.gone are_named.rising
    ∙ gone_same content.sets only named rows c.ltp-rows.ensures.rows looked looked_are in
    let counted : length kept + length c.deref-5.result.now ≡ size content.sets.ltp content.sets.issued =
    ap (λ (l : List Row). length kept + length l) (c.deref-5.ensures.value ∙ go) ∙ counts (outcome only named) rows
    ∙ c.ltp-rows.ensures.count h sound.serials in
    let tested = c.are_too_many.ensures.too_many h sound (length kept) counted in
    let change : AreChanged (outcome only named) rows changed =
    changed_same content.sets only named rows c.ltp-rows.ensures.rows looked looked_are changed
    (subst (λ (ds : List Draft). DraftsRise ds → AreChanged (outcome only ds) looked changed) c.deref-2.ensures.value
    c.in_ok-parted.ensures.changed are_named.rising) in
    let split : AreParted (outcome only named) rows kept gone changed =
    record { stay = refl; go = go; change = change } in
    let many = too_many content sound only named new rows c.ltp-rows.ensures.rows kept gone changed split (length kept)
    (length c.deref-6.result.now) refl (ap length c.deref-6.ensures.value) in
    let parts : PartsPlan content.sets only named kept gone changed =
    record {
      rows = rows;
      lists = c.ltp-rows.ensures.rows;
      parts = split;
    } in
    let s = modified_sets only named new content.sets in
    let put : c.in_ok-put.put.items ≡ numbered content.sets.issued new =
    c.in_ok-put.ensures ∙ ap (λ (l : List Draft). numbered c.issued.result l) c.deref-7.ensures.value
    ∙ ap (λ n. numbered n new) c.issued.ensures in
    let lists = lists_then content.definitions content.sets (rows_sound content sound) rows c.ltp-rows.ensures.rows only
    named kept gone changed parts.parts new (stays_sound content sound only named new c.args.bounds.now planned are_new)
    in
    let plan : ArePlanned rows kept c.deref-8.result.now c.deref-9.result.now =
    subst (λ (l : List Row). ArePlanned rows kept l c.deref-9.result.now) (sym c.deref-8.ensures.value)
    (subst (λ (l : List Row). ArePlanned rows kept gone l) (sym (c.deref-9.ensures.value ∙ put))
    (modifying_planned content.sets (rows_sound content sound) rows c.ltp-rows.ensures.rows only named kept gone changed
    parts.parts new)) in
    let from : gone ≡ filter (λ (r : Row). is_none (outcome only named r)) looked =
    subst (λ (ds : List Draft). DraftsRise ds → gone ≡ filter (λ (r : Row). is_none (outcome only ds r)) looked)
    c.deref-2.ensures.value c.in_ok-parted.ensures.gone are_named.rising in
    let of_gone : AreRowsOf only c.deref-8.result.now = subst (AreRowsOf only) (sym c.deref-8.ensures.value) (λ row there.
    ((looked_are.exactly row).0 (contains_filter (λ (r : Row). is_none (outcome only named r)) looked row
    (subst (λ (l : List Row). Contains l row) from there)).0).1) in
    let of_put : AreRowsOf only c.deref-9.result.now = subst (AreRowsOf only) (sym (c.deref-9.ensures.value ∙ put))
    (numbered_of only content.sets.issued new (λ draft there. named_look (Looks only) content.definitions
    content.sets.bounds draft ((are_new.exactly draft).0 there).named)) in
    let led = c.in_ok-pairs.ensures are_named.rising c.ltp-rows.ensures.rows of_new of_gone of_put h sound sees known s plan
    (λ cp cp_are history history_are. subst (λ (l : List Row). HasLists s (kept ++ l) cp history)
    (sym (c.deref-9.ensures.value ∙ put)) (lists cp cp_are history history_are)) in
    record {
      named = named;
      are_named = are_named;
      new = new;
      are_new = are_new;
      outcome = done content (lists_after c.args.new content.in_force) only named new verdict
          (λ over. false≢true (sym c.if-are_too_many.false ∙ tested.1 (many.1 over)))
          (made h sound only named new (record { planned = kept; parts = parts; come = put }) led.0 led.1);
    }) c.change_rows.ensures
