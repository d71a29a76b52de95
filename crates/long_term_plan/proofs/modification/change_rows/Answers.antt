use Rattle.std.proofs.Common.{◌≡◌, ◌+◌, ◌∙◌, Some, ap, length, map, refl}
use Rattle.occurrences.specs.declared.reply.Reply.TheVariants.{Made}
use Rattle.planner_machine.specs.Modify.{withdrawn}
use Rattle.planner_machine.proofs.SoundLemmas.{rows_sound}
use Rattle.plan_store.specs.Changes.{lists_after}
use Rattle.plan_store.specs.Views.{with_hidden}
use Rattle.long_term_plan.proofs.ChangedLemmas.{modifying_is}
use Rattle.long_term_plan.proofs.ModifyingLemmas.{count_gone}
use Rattle.long_term_plan.proofs.NumberLemmas.{numbered_length}
use Rattle.long_term_plan.proofs.modification.change_rows.Goals as goal

pub returns : goal.returns
returns c h sound only named made modifying pairs leads =
    let planned = modifying.planned in
    let parts = modifying.parts in
    let put = modifying.come in
    let content = with_hidden h c.args.view.now in
    let links = lists_after c.args.new content.in_force in
    let gone = c.args.gone.items in
    let changed = c.args.changed.items in
    let rows = rows_sound content sound in
    let count : c.len-made.result ≡ length made =
    c.len-made.ensures ∙ c.args.put.ok.0 ∙ ap length put ∙ numbered_length content.sets.issued made in (
      modifying_is content sound links parts.rows parts.lists only named made planned gone changed parts.parts _
          (record {
            gone = refl;
            changed = refl;
            put = put;
            none_back = c.new.ensures.items;
            none_changed = c.new-2.ensures.items;
            deleted = c.in_ok-deleted.ensures ∙ ap (map withdrawn) c.as_slice.ensures.value;
            cp = record { gone = c.none.ensures.gone; changed = c.none.ensures.changed; put = c.none.ensures.put };
            history = record {
              gone = c.none-2.ensures.gone;
              changed = c.none-2.ensures.changed;
              put = c.none-2.ensures.put;
            };
            bounds = refl;
            issued = ap (λ n. Some (n + c.len-made.result)) c.issued.ensures
                ∙ ap (λ n. Some (content.sets.issued + n)) count;
            in_force = refl;
            definitions = refl;
            job = refl;
            pairs = pairs;
            leads = leads;
          }),
      ap (λ n. Made n c.len.result) count
          ∙ ap (λ n. Made (length made) n)
          (c.len.ensures ∙ c.args.gone.ok.0 ∙ count_gone content.sets rows parts.rows parts.lists only named planned
          gone
          changed parts.parts),
    )
