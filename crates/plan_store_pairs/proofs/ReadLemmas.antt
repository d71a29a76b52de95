-- What a statement on one key asks of history, as its window shows it.
use Rattle.std.proofs.Common.{◌≡◌, ◌≢◌, ℕ, ◌+◌, ◌<◌, Some, refl, sym, subst, inl, inr, arith}
use Rattle.std.proofs.lemmas.Bool.{cases_eq}
use Rattle.occurrences.specs.Place.{IsLive}
use Rattle.occurrences.specs.declared.key.Key.{Key}
use Rattle.occurrences.specs.declared.place.Place.TheVariants.{History}
use Rattle.occurrences.specs.declared.row.Row.{Row}
use Rattle.external_dependencies.specs.declared.rows.PlacedRow.{PlacedRow}
use Rattle.planner_machine.specs.Add.{IsLiveKey}
use Rattle.planner_machine.specs.Content.{Content, IsOnlyAt}
use Rattle.planner_machine.specs.Sound.{IsSound}
use Rattle.planner_machine.proofs.SeatLemmas.{one_place}
use Rattle.plan_store.specs.HistoryReads.{ReadsKey}
use Rattle.plan_store.specs.Views.{Hidden, Sees, ShowsLast, with_hidden}
use Rattle.plan_store.specs.declared.views.View.{View}
use Rattle.plan_store.proofs.PlaceLemmas.{stands_history}
use Rattle.plan_store_pairs.specs.Gathering.{ShowsList}

-- no row of history has the key
abbrev pub IsNotPast : Content → Key → Type 0
IsNotPast c key = (serial : ℕ) (row : Row) → c.sets.history serial ≡ Some row → row.key ≢ key

-- so it is where no live occurrence has the key
pub free_not_past : (c : Content) → IsSound c → (key : Key) → (IsLiveKey c.sets key → ⊥) → IsNotPast c key
free_not_past c sound key free serial row at same =
    free (serial, record { row = row; place = History }, stands_history c.sets sound.serials serial row at, tt, same)

-- and where the one that has it stands in a plan
pub live_not_past : (c : Content) → IsSound c → (p : PlacedRow) → IsOnlyAt c.sets p.row.serial p → IsLive p.place
    → p.place ≢ History → IsNotPast c p.row.key
live_not_past c sound p stands live planned serial row at same =
    let past : PlacedRow = record { row = row; place = History } in
    let there = stands_history c.sets sound.serials serial row at in
    let number = sound.keys serial p.row.serial past p there stands tt live same in
    let one : past ≡ p = one_place c.sets p.row.serial past p (subst (λ n. IsOnlyAt c.sets n past) number there) stands in
    planned (λ i. (sym one i).place)

module _ (h : Hidden) (view : View) (key : Key)
    (sees : Sees (Some key) (ReadsKey (with_hidden h view) key) h view) where
  pub shows_own : ShowsLast (with_hidden h view) view key.app (key.ia + 1)
  shows_own = sees.lasts.lasts key.app (key.ia + 1) (refl, inl refl)

  module _ (past : IsNotPast (with_hidden h view) key) where
    -- the last at the key's arrival or before it arrives before it, in its own application
    pub shows_earlier : ShowsLast (with_hidden h view) view key.app key.ia
    shows_earlier serial row at of_app lt =
        let (r, there, app, upto, later) = shows_own serial row at of_app (omega arith) in
        let stands = (sees.lasts.only r.serial r there).0 in
        (r, there, app, before r stands app upto, later)
      where
        before : (r : Row) → h.history r.serial ≡ Some r → r.key.app ≡ key.app → r.key.ia < key.ia + 1
            → r.key.ia < key.ia
        before r stands app upto = elim (cases_eq r.key.ia key.ia) [
          | inl same ↦ absurd (past r.serial r stands (λ i. record { ia = same i; app = app i }))
          | inr other ↦ omega (arith, upto, other)
        ]

-- of the key's own list
pub shows_list : (h : Hidden) (view : View) (row : Row)
    → Sees (Some row.key) (ReadsKey (with_hidden h view) row.key) h view → IsNotPast (with_hidden h view) row.key
    → ShowsList (with_hidden h view) view row
shows_list h view row sees past app listed minute (inl own) =
    subst (λ n. ShowsLast (with_hidden h view) view app n) (sym own.1)
    (subst (λ a. ShowsLast (with_hidden h view) view a row.key.ia) (sym own.0)
    (shows_earlier h view row.key sees past))
shows_list h view row sees past app listed minute (inr other) = sees.lasts.lasts app minute (other.1, inr listed)
