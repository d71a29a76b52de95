use Rattle.std.proofs.Common.{ap, refl}
use Rattle.occurrences.specs.declared.reply.Reply.TheVariants.{Numbered}
use Rattle.planner_machine.specs.Delete.{delete_move}
use Rattle.planner_machine.specs.Moves.{each}
use Rattle.planner_machine.proofs.SoundLemmas.{rows_sound}
use Rattle.plan_store.specs.Views.{with_hidden}
use Rattle.long_term_plan.proofs.DeleteLemmas.{deletion_loses}
use Rattle.long_term_plan.proofs.deletion.delete_row.Goals as goal

pub returns : goal.returns
returns c h sound sees stands =
    let content = with_hidden h c.args.view.now in
    let s = each (delete_move c.args.row.now.key) content.sets in
    let loses = deletion_loses content.sets (rows_sound content sound) c.args.row.now stands in (
      record {
        gone = c.in_ok-gone.ensures;
        unchanged = c.new.ensures.items;
        nothing_put = c.new-2.ensures.items;
        none_gone = c.new-3.ensures.items;
        none_changed = c.new-4.ensures.items;
        put = c.in_ok-put.ensures;
        cp = record { gone = c.none.ensures.gone; changed = c.none.ensures.changed; put = c.none.ensures.put };
        history = record {
          gone = c.none-2.ensures.gone;
          changed = c.none-2.ensures.changed;
          put = c.none-2.ensures.put;
        };
        definitions = refl;
        bounds = refl;
        issued = refl;
        in_force = refl;
        job = refl;
        pairs = (c.in_ok-pairs.ensures h sound sees s loses).0;
        leads = (c.in_ok-pairs.ensures h sound sees s loses).1;
      },
      ap Numbered c.get-serial.ensures.number,
    )
