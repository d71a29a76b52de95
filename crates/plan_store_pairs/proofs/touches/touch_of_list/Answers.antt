use Rattle.std.proofs.Common.{◌∷◌, [], inl, inr, subst, sym}
use Rattle.std.specs.List.{Contains}
use Rattle.plan_store_pairs.proofs.ListLemmas.{here}
use Rattle.plan_store_pairs.proofs.ThenLemmas.{others_stay}
use Rattle.plan_store_pairs.proofs.TouchedLemmas.{same_or_not}
use Rattle.plan_store_pairs.proofs.touches.touch_of_list.Goals as goal

-- the list of the application may change, and no other
pub returns-clause-touched : goal.returns-clause-touched
returns-clause-touched c list before own =
    let rows = c.in_ok-touch.ensures.touched before in
    let app = c.args.app.now in
    record {
      comes = rows.comes;
      goes = rows.goes;
      none_opened = rows.none_opened;
      lists = λ other. elim (same_or_not other app) [
        | inl same ↦ inr (subst (λ xs. Contains xs other) (sym c.in_ok-touch-2.ensures)
            (subst (Contains (app ∷ [])) (sym same) (here app [])))
        | inr apart ↦ inl (others_stay app list before own other apart)
      ];
    }
