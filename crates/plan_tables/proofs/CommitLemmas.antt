-- A change that was made in the tables and in the lists, or in neither.
use Rattle.std.proofs.Common.{◌≡◌, ◌∙◌, ℕ, Bool, Err, IsTrue, List, Ok, Option, Some, false, ap, arith, subst, sym}
use Rattle.std.proofs.Math.Logic.{∥∥₁_elim, ∥∥₁_map}
use Rattle.std.specs.Prelude.{IfSome}
use Rattle.std.specs.List.{Contains}
use Rattle.sqlite.specs.Effect.{Database}
use Rattle.sqlite.specs.Held.{Held, state}
use Rattle.sqlite.specs.State.{HasCleanDisk, State, Survives}
use Rattle.sqlite.specs.Store.{Ghosts}
use Rattle.sqlite.specs.Tree.{Trees}
use Rattle.occurrences.specs.declared.place.Deletion.{Deletion}
use Rattle.external_dependencies.specs.Nearest.{arrival_of}
use Rattle.external_dependencies.specs.Pair.{pair_cmp}
use Rattle.external_dependencies.specs.Rising.{IsRising}
use Rattle.external_dependencies.specs.declared.live.Arrival.{Arrival}
use Rattle.planner_machine.specs.Content.{Content}
use Rattle.planner_machine.specs.Sound.{IsSound}
use Rattle.plan_store.specs.Changes.{Fits, after}
use Rattle.plan_store.specs.Contents.{content_of}
use Rattle.plan_store.specs.Parts.{Rest, with_rest}
use Rattle.plan_store.specs.Staged.{jobless}
use Rattle.plan_store.specs.declared.changes.Change.{Change}
use Rattle.plan_store.specs.declared.stores.StoreFault.{StoreFault}
use Rattle.plan_tables_schema.specs.Rows.{tables_of}
use Rattle.plan_tables_constraints.specs.Accepted.{FittingIsAccepted}
use Rattle.plan_tables_content.specs.Content.{HaveOneContent}
use Rattle.plan_tables_content.specs.DecodedSets.{AllRepresentSets}
use Rattle.plan_tables_opening.specs.Opened.{IsStored}
use Rattle.plan_tables_opening.specs.Stored.{AllHaveRowids}
use Rattle.plan_tables_windows.specs.Changes.{KnowsNamed}
use Rattle.plan_tables_windows.specs.Fetching.{told_rest}
use Rattle.plan_tables_writing.specs.Writing.{IsRepresentableChange}
use Rattle.plan_tables_writing.specs.declared.redefining.DefinitionMoves.{DefinitionMoves}
use Rattle.plan_tables.specs.Causes.{CanAccept, HasFailed}
use Rattle.plan_tables.specs.Found.{Tells}
use Rattle.plan_tables.specs.Gone.{NotesAll}
use Rattle.plan_tables.specs.Kept.{CanRead, IsKept, IsMet, KeepsSound, NotesIn}
use Rattle.plan_tables.specs.Representable.{BringMoves}
use Rattle.plan_tables.specs.Session.{IsWhole, doubt_after, failures_after, fault_of}
use Rattle.plan_tables.specs.Stored.{LeavesSound}
use Rattle.plan_tables.specs.Stores.{Commits, kept_by, state_of}
use Rattle.plan_tables.specs.declared.keeping.Unmade.{Unmade}
use Rattle.plan_tables.specs.declared.keeping.Unmade.TheVariants as unmade
use Rattle.plan_tables.specs.declared.table_store.TableStore.{TableStore}
use Rattle.plan_tables.proofs.CauseLemmas.{room_takes}
use Rattle.plan_tables.proofs.GoneLemmas.{noted_moved}
use Rattle.plan_tables.proofs.LookLemmas.{kept_sure}
use Rattle.plan_tables.proofs.MetLemmas.{keeps_after, kept_undone, met_so, own_rest}
use Rattle.plan_tables.proofs.SessionLemmas.{counts_device, counts_none, device_is, opens_if, sure_opens}
use Rattle.plan_tables.proofs.SetLemmas.{content_set, truth_prop}
use Rattle.plan_tables.proofs.StoredLemmas.{keeps_still, kept_after, leaves_either, leaves_one, leaves_sound, told_kept}
use Rattle.plan_tables.proofs.WhyLemmas.{memory_is}

-- what a crash leaves of it that was not there before
abbrev pub Leaves : State → Content → Change → DefinitionMoves → Trees → Type 0
Leaves old lists change moves db = (rest : Rest) → IsMet old lists change moves rest
    → Tells db (after change (with_rest rest lists)) × AllHaveRowids (tables_of db)

-- it was made
pub record Changed {S : Type 0} (g : Ghosts S) (old new : Held S) (was now : Content) (change : Change)
    (moves : DefinitionMoves) : Type 0 where
  pub lists : now ≡ after (jobless change) was
  pub done : HasCleanDisk (state g new) → (rest : Rest) → IsMet (state g old) was change moves rest
      → IsStored (state g new) (after change (with_rest rest was))
  pub schema : HasCleanDisk (state g new) → (rest : Rest) → IsMet (state g old) was change moves rest
      → (state g new).now.schema ≡ (state g old).now.schema
  pub crash : Survives (state g old) (state g new) (Leaves (state g old) was change moves)

-- it was not
pub record Unchanged {S : Type 0} (g : Ghosts S) (old new : Held S) (was now : Content) (change : Change)
    (moves : DefinitionMoves) (why : Unmade) : Type 0 where
  pub lists : now ≡ was
  pub undone : HasCleanDisk (state g new) → (rest : Rest) → IsMet (state g old) was change moves rest
      → IsTrue (state g new).is_open
      → ((state g new).now ≡ (state g old).now) × ((state g new).committed ≡ (state g old).committed)
  pub memory : HasCleanDisk (state g new) → (rest : Rest) → IsMet (state g old) was change moves rest
      → why ≡ unmade.Memory → IsTrue (state g new).is_open
  pub blames : HasCleanDisk (state g new) → (rest : Rest) → IsMet (state g old) was change moves rest
      → CanAccept (state g old) (with_rest rest was) change → why ≡ unmade.Device
      → HasFailed (state g old) (state g new)
  pub crash : Survives (state g old) (state g new) (Leaves (state g old) was change moves)

module _ {S : Type 0} {g : Ghosts S} (old : TableStore S g) (change : Change) (moves : DefinitionMoves)
    (whole : IsWhole old.session) (fits : CanRead (state_of old) → Fits change (kept_by old))
    (sound : CanRead (state_of old) → IsSound (after change (kept_by old)))
    (brings : BringMoves change.definitions moves) where
  abbrev from : State
  from = state_of old

  abbrev lists : Content
  lists = content_of old.lists

  abbrev goal : Content
  goal = after change (kept_by old)

  abbrev own : Rest
  own = own_rest from lists change moves fits sound brings

  kept : ∥ (HasCleanDisk from → IsKept from lists) ∥₁
  kept = kept_sure old.session.in_doubt old.session.failures whole.1 whole.0 old.stored

  met : HasCleanDisk from → IsKept from lists → IsMet from lists change moves own
  met = met_so from lists change moves fits sound brings

  made : ∥ (HasCleanDisk from → IsSound goal
      × ((db : Trees) → Leaves from lists change moves db → Tells db goal × AllHaveRowids (tables_of db))) ∥₁
  made = ∥∥₁_map kept (λ h calm. let k = h calm in (sound (calm, k.stored.is_open), λ db is. is own (met calm k)))

  module _ (new : Held S) where
    abbrev to : State
    to = state g new

    pub told_commit : Survives from to (Leaves from lists change moves) → ∥ (HasCleanDisk to → LeavesSound to) ∥₁
    told_commit crash = ∣ leaves_sound from to goal (Leaves from lists change moves) old.told made crash ∣₁

    module _ (now : Content) (knows : CanRead from → KnowsNamed (told_rest (tables_of from.now.trees)) change lists)
        (tell : AllRepresentSets) (did : Changed g old.session.conn new lists now change moves) where
      calm : HasCleanDisk to → HasCleanDisk from
      calm clean = omega (arith, did.crash.clean, clean)

      stored : HasCleanDisk to → IsKept from lists → IsStored to goal
      stored clean k = did.done clean own (met (calm clean) k)

      keeps : HasCleanDisk to → IsKept from lists → IsKept to now
      keeps clean k =
          let can : CanRead from = (calm clean, k.stored.is_open) in
          keeps_after from lists change moves fits sound brings tell to now did.lists k.part (knows can) (fits can)
          (stored clean k) (sound can)

      pub keeps_commit : (failures : ℕ) (in_doubt : Bool)
          → ∥ (failures ≡ 0 → HasCleanDisk to → (IsTrue in_doubt → IsTrue to.is_open) → IsKept to now) ∥₁
      keeps_commit failures in_doubt = ∥∥₁_map kept (λ h _ clean _. keeps clean (h (calm clean)))

      pub sound_commit : KeepsSound to now
      sound_commit = ∥∥₁_map kept (λ h can. (keeps can.0 (h (calm can.0))).sound)

      -- arrivals that were noted first, and those of the deletions that are put
      pub noted_commit : (gone : Option (List Arrival))
          → ((all : ℕ → Option Deletion) → NotesAll all old.gone → NotesAll all gone)
          → IfSome gone (λ noted. (d : Deletion) → Contains change.deletions.put.items d → Contains noted (arrival_of d.row))
          → NotesIn to gone
      noted_commit gone stay notes = ∥∥₁_elim kept squash₁ (λ h. ∥∥₁_map old.noted (λ n can.
          let was = calm can.0 in
          let k = h was in
          let before : CanRead from = (was, k.stored.is_open) in
          let told = told_kept tell to goal (stored can.0 k) in
          subst (λ (rest : Rest). NotesAll rest.deletions gone) (sym told)
          (noted_moved change.deletions own.deletions gone (fits before).deletions (stay own.deletions (n before)) notes)))

    module _ (now : Content) (why : Unmade) (failures : ℕ) (in_doubt : Bool)
        (did : Unchanged g old.session.conn new lists now change moves why)
        (counted : failures ≡ failures_after (Some why) 0) (doubted : in_doubt ≡ doubt_after (Some why) false) where
      still : HasCleanDisk to → HasCleanDisk from
      still clean = omega (arith, did.crash.clean, clean)

      pub keeps_undone : ∥ (failures ≡ 0 → HasCleanDisk to → (IsTrue in_doubt → IsTrue to.is_open)
          → IsKept to now) ∥₁
      keeps_undone = ∥∥₁_map kept (λ h none clean sure.
          let k = h (still clean) in
          let m = met (still clean) k in
          let opens = opens_if (Some why) failures in_doubt to.is_open counted doubted none sure
          (λ leaves. did.memory clean own m (memory_is why leaves)) in
          let same = did.undone clean own m opens in
          subst (IsKept to) (sym did.lists) (keeps_still from to lists k opens same.0 same.1))

      pub sound_undone : KeepsSound to now
      sound_undone = ∥∥₁_elim kept squash₁ (λ h. ∥∥₁_map old.sound (λ held can.
          let was = still can.0 in
          let k = h was in
          subst IsSound (sym (kept_undone from to lists now did.lists (did.undone can.0 own (met was k) can.1).0))
          (held (was, k.stored.is_open))))

      pub noted_undone : (gone : Option (List Arrival))
          → ((all : ℕ → Option Deletion) → NotesAll all old.gone → NotesAll all gone) → NotesIn to gone
      noted_undone gone stay = ∥∥₁_elim kept squash₁ (λ h. ∥∥₁_map old.noted (λ n can.
          let was = still can.0 in
          let k = h was in
          let same = did.undone can.0 own (met was k) can.1 in
          subst (λ (db : Database). NotesAll (told_rest (tables_of db.trees)).deletions gone) (sym same.0)
          (stay own.deletions (n (was, k.stored.is_open)))))

  module _ (now : TableStore S g) where
    abbrev last : State
    last = state_of now

    was_open : (HasCleanDisk last → HasCleanDisk from) → HasCleanDisk last → IsTrue from.is_open
    was_open calm clean = ∥∥₁_elim kept (truth_prop from.is_open) (λ h. (h (calm clean)).stored.is_open)

    pub commits : (knows : CanRead from → KnowsNamed (told_rest (tables_of from.now.trees)) change lists)
        → (tell : AllRepresentSets) → HaveOneContent
        → (law : (s : S) (db : Trees) → IsTrue (g.view s).is_open → g.recovers s db → db ≡ (g.view s).committed)
        → Changed g old.session.conn now.session.conn lists (content_of now.lists) change moves → IsWhole now.session
        → Commits old now change (Ok tt)
    commits knows tell one law did ends =
        let calm : HasCleanDisk last → HasCleanDisk from = λ clean. omega (arith, did.crash.clean, clean) in
        record {
          done = λ clean. ∥∥₁_elim kept (content_set _ _) (λ h. kept_after tell last own change lists
              (content_of now.lists) did.lists (did.done clean own (met (calm clean) (h (calm clean)))));
          same = λ _. tt;
          settled = λ clean left may. ∥∥₁_elim kept (content_set _ _) (λ h. leaves_one g law now.session.conn left
              (kept_by now) one (keeps now.session.conn (content_of now.lists) knows tell did clean
              (h (calm clean))).stored may);
          crash = λ clean left may. leaves_either from last left goal (Leaves from lists change moves) one made did.crash
              clean may;
          clean = calm;
          was_open = was_open calm;
          opens = λ clean. ∥∥₁_elim kept (truth_prop last.is_open) (λ h.
              (did.done clean own (met (calm clean) (h (calm clean)))).is_open);
          memory = λ _. tt;
          blames = tt;
          counts = let none = whole.0 in omega (arith, none);
          steady = tt;
          whole = ends;
          caused = λ _ _. tt;
          taken = λ _ _. tt;
          schema = λ clean. ∥∥₁_map kept (λ h. did.schema clean own (met (calm clean) (h (calm clean))));
        }

    pub commits_not : (fault : StoreFault) (why : Unmade) → fault ≡ fault_of why → HaveOneContent → FittingIsAccepted
        → IsRepresentableChange change → IsRising pair_cmp change.pairs.added
        → Unchanged g old.session.conn now.session.conn lists (content_of now.lists) change moves why
        → now.session.failures ≡ failures_after (Some why) 0 → now.session.in_doubt ≡ doubt_after (Some why) false
        → Commits old now change (Err fault)
    commits_not fault why is one taken told rising did counted doubted =
        let calm : HasCleanDisk last → HasCleanDisk from = λ clean. omega (arith, did.crash.clean, clean) in
        record {
          done = λ _. tt;
          same = λ (clean, opens). ∥∥₁_elim kept (content_set _ _) (λ h. kept_undone from last lists
              (content_of now.lists) did.lists (did.undone clean own (met (calm clean) (h (calm clean))) opens).0);
          settled = λ _. tt;
          crash = λ clean left may. leaves_either from last left goal (Leaves from lists change moves) one made did.crash
              clean may;
          clean = calm;
          was_open = was_open calm;
          opens = λ _. tt;
          memory = λ clean memory sure. ∥∥₁_elim kept (truth_prop last.is_open) (λ h.
              did.memory clean own (met (calm clean) (h (calm clean)))
              (memory_is why (sure_opens why now.session.in_doubt doubted (sym is ∙ memory) sure)));
          blames = λ device. counts_device why old.session.failures now.session.failures whole.0 counted (sym is ∙ device);
          counts = let none = whole.0 in omega (arith, none);
          steady = λ memory. counts_none why old.session.failures now.session.failures whole.0 counted (sym is ∙ memory);
          whole = tt;
          caused = λ clean can device. ∥∥₁_map kept (λ h. did.blames clean own (met (calm clean) (h (calm clean))) can
              (device_is why (sym is ∙ device)));
          taken = λ clean room device. ∥∥₁_map kept (λ h.
              let k = h (calm clean) in
              let can : CanRead from = (calm clean, k.stored.is_open) in
              did.blames clean own (met (calm clean) k) (room_takes taken from (kept_by old) change k.stored (fits can)
              (sound can) told rising room) (device_is why (sym is ∙ device)));
          schema = λ memory clean opens. ∥∥₁_map kept (λ h. ap (λ (db : Database). db.schema)
              (did.undone clean own (met (calm clean) (h (calm clean))) opens).0);
        }
