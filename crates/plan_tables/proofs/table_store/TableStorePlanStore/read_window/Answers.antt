use Rattle.std.proofs.Common.{◌≡◌, ◌∙◌, Err, Ok, ap, refl, subst, sym}
use Rattle.std.proofs.Math.Logic.{∥∥₁_map}
use Rattle.sqlite.specs.Held.{state}
use Rattle.planner_machine.specs.Content.{Content}
use Rattle.plan_store.specs.Contents.{content_of}
use Rattle.plan_store.specs.Views.{Shows}
use Rattle.plan_store.specs.declared.stores.StoreFault.TheVariants.{Device}
use Rattle.plan_store.proofs.WindowLemmas.{shows_sound}
use Rattle.plan_tables.specs.Kept.{IsKept, KeepsSound, kept_in}
use Rattle.plan_tables.specs.Stores.{kept_by}
use Rattle.plan_tables.proofs.LookLemmas.{kept_sure}
use Rattle.plan_tables.proofs.SoundLemmas.{kept_sound}
use Rattle.plan_tables.proofs.WindowLemmas.{window_kept}
use Rattle.plan_tables.proofs.table_store.TableStorePlanStore.read_window.Goals as goal

-- the lists have the content that they had
pub invariant_of-self : goal.invariant_of-self
invariant_of-self g c =
    let old = c.make_ready.new.self in
    record {
      jobless = ap (λ (k : Content). k.jobs) c.fill_window.ensures.same ∙ old.jobless;
      stored = ∥∥₁_map old.stored (λ h whole clean opens.
          subst (λ (k : Content). IsKept (state g.S.Store old.session.conn) k) (sym c.fill_window.ensures.same)
          (h whole clean opens));
      told = old.told;
      noted = old.noted;
      sound = subst (KeepsSound (state g.S.Store old.session.conn)) (sym c.fill_window.ensures.same) old.sound;
    }

pub returns : goal.returns
returns g c =
    let mid = c.make_ready.new.self in
    let s = state g.S.Store mid.session.conn in
    let reads = c.in_ok-make_ready.ensures.reads in (
      (
        refl,
        λ _. tt,
        record {
          right = λ honest. subst (Shows c.args.need c.window.result) (reads.same honest)
              (shows_sound c.args.need c.window.result (kept_by mid) (kept_sound mid honest)
              (window_kept c.args.need c.window.result s (content_of mid.lists) (content_of c.fill_window.new.self)
              c.fill_window.ensures.same c.window.ensures.shows c.window.ensures.parts
              (∥∥₁_map (kept_sure mid.session.in_doubt mid.session.failures c.in_ok-make_ready.ensures.whole.1
              c.in_ok-make_ready.ensures.whole.0 mid.stored) (λ h. h honest.0)) (reads.right honest)));
          same = λ honest. ap (kept_in s) c.fill_window.ensures.same ∙ reads.same honest;
          crash = reads.crash;
          blames = tt;
          broken = λ some. absurd (let no : Ok tt ≡ Err Device = reads.broken some in let h : ⊥ = cc no in h);
          counts = reads.counts;
          still = reads.still;
          steady = tt;
          caused = λ none clean. tt;
          honest = reads.honest;
          clean = reads.clean;
          stays_honest = λ was clean mild. reads.stays_honest was clean tt;
          whole = reads.whole;
        },
      ),
      tt,
    )
