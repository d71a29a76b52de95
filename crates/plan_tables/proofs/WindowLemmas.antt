-- A window of lists that keep a part of the tables is one of what the store keeps.
use Rattle.std.proofs.Common.{◌≡◌, subst}
use Rattle.std.proofs.Math.Logic.{∥∥₁_elim, ∥∥₁_map}
use Rattle.sqlite.specs.State.{State}
use Rattle.planner_machine.specs.Content.{Content}
use Rattle.planner_machine.specs.Sound.{AreNumbered}
use Rattle.plan_store.specs.Parts.{Rest, with_rest}
use Rattle.plan_store.specs.Views.{ShowsListed, TellsSizes}
use Rattle.plan_store.specs.declared.stores.Need.{Need}
use Rattle.plan_store.specs.declared.views.View.{View}
use Rattle.plan_tables_windows.specs.Windows.{IsReadyFor}
use Rattle.plan_tables_windows.proofs.WindowLemmas.{window_of_part}
use Rattle.plan_tables_schema.specs.Rows.{tables_of}
use Rattle.plan_tables_windows.specs.Fetching.{told_rest}
use Rattle.plan_tables.specs.Kept.{IsKept, kept_in}
use Rattle.plan_tables.proofs.SetLemmas.{size_set}

pub window_kept : (need : Need) (view : View) (s : State) (lists filled : Content) → filled ≡ lists
    → ShowsListed need view filled
    → ((rest : Rest) → AreNumbered (with_rest rest filled).sets → TellsSizes filled.sets view)
    → ∥ IsKept s lists ∥₁ → IsReadyFor (told_rest (tables_of s.now.trees)) need lists
    → ShowsListed need view (kept_in s lists)
window_kept need view s lists filled is shows sizes kept ready =
    let rest = told_rest (tables_of s.now.trees) in
    let tells = subst (λ (k : Content). (rest : Rest) → AreNumbered (with_rest rest k).sets → TellsSizes k.sets view) is
    sizes in
    window_of_part need view rest lists (subst (ShowsListed need view) is shows) (record {
      ltp = ∥∥₁_elim kept (size_set _ _) (λ (k : IsKept s lists). (tells rest k.sound.serials).ltp);
      cp = ∥∥₁_elim kept (size_set _ _) (λ (k : IsKept s lists). (tells rest k.sound.serials).cp);
    }) (∥∥₁_map kept (λ k. k.part)) ready (∥∥₁_map kept (λ k. k.sound))
