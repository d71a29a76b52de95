-- What a run over files leaves in them.
use Rattle.std.proofs.Common.{◌≡◌, ℕ, arith, refl, subst, sym}
use Rattle.std.proofs.Math.Logic.{∥∥₁_elim, ∥∥₁_map}
use Rattle.std.proofs.lemmas.Bool.{both_ways}
use Rattle.std.specs.Prelude.{Bool, Err, IfErr, IfOk, IsTrue, Ok, OnOk, Result, false, true}
use Rattle.sqlite.specs.Files.{file_state, over_files}
use Rattle.sqlite.specs.Held.{Held}
use Rattle.sqlite.specs.State.{HasCleanDisk, IsLive, State}
use Rattle.sqlite.specs.Tree.{Trees}
use Rattle.sqlite_disk.specs.declared.Disk as disk
use Rattle.sqlite_store.specs.Laws.{settled_at}
use Rattle.sqlite_store.specs.declared.store.FileStore.{FileStore}
use Rattle.sqlite_trees.specs.View.{doubt}
use Rattle.sqlite_wal.proofs.LogLemmas.{SeenMayStay}
use Rattle.sqlite_wal.specs.Files.{outcomes}
use Rattle.sqlite_wal.specs.Recovery.{Image}
use Rattle.planner_machine.specs.Content.{Content}
use Rattle.planner_machine.specs.Sound.{IsSound}
use Rattle.planner_machine.specs.Stream.{RunsByFate, RunsSound}
use Rattle.planner_cli.proofs.PlanLemmas.{stopped_leads}
use Rattle.planner_cli.specs.Plans.{CrashedPlan, RanPlan, RunsPlan, StoppedPlan}
use Rattle.planner_cli.specs.Runs.{Ends, with_last}
use Rattle.planner_cli.specs.Stores.{LeavesOnly}
use Rattle.planner_cli.specs.declared.faults.RunFault.{RunFault}
use Rattle.planner_cli.specs.declared.tally.Tally.{Tally}
use Rattle.plan_files_closing.specs.Closing.{HoldsLeft, HoldsLeftAlone}
use Rattle.plan_files_closing.specs.declared.closing.ClosedFiles.{ClosedFiles}
use Rattle.plan_tables_schema.specs.Rows.{tables_of}
use Rattle.plan_tables_content.specs.Content.{HaveOneContent}
use Rattle.plan_tables_opening.specs.Opened.{IsStored}
use Rattle.plan_tables.specs.Found.{Tells, TellsLeft}
use Rattle.plan_tables.proofs.FoundLemmas.{tells_kept}
use Rattle.plan_tables.specs.Stored.{LeavesSound, MayLeave, TellsSound}
use Rattle.plan_files.specs.FileRuns.{Leaves}
use Rattle.plan_files.specs.Left.{HoldsLed, HoldsLedAlone, TellsLed}
use Rattle.plan_files.specs.Over.{AreHonest, RunsFiles}
use Rattle.plan_files.proofs.LeftLemmas.{led_both}

abbrev may : State → Content → Type 0
may s c = HasCleanDisk s × MayLeave s c

-- a database that a crash may leave after a run tells what the run leads to
pub leaves : (ends : Ends) (outcome : Result Tally RunFault) (now : State) → HasCleanDisk now
    → OnOk outcome (LeavesOnly (may now) ends.after)
    → IfErr outcome (λ fault. (left : Content) → may now left → CrashedPlan ends fault left)
    → (db : Trees) (told : TellsLeft now db) → Leaves ends outcome told.content
leaves ends (Ok tally) now clean settled crash db told = settled told.content (clean, (db, told.left, told.told.content))
leaves ends (Err fault) now clean settled crash db told = crash told.content (clean, (db, told.left, told.told.content))

tells_left : (s : State) (db : Trees) → s.may_leave db → TellsSound db → TellsLeft s db
tells_left s db left tells = record {
  left = left;
  content = tells.0;
  sound = tells.1;
  told = tells.2;
  rowids = tells.3;
}

module _ (now : State) (Led : Content → Type 0)
    (led : HasCleanDisk now → (db : Trees) (told : TellsLeft now db) → Led told.content)
    (told : ∥ (HasCleanDisk now → LeavesSound now) ∥₁) where
  tells_led : HasCleanDisk now → (db : Trees) → now.may_leave db → ∥ TellsLed Led db ∥₁
  tells_led clean db may = ∥∥₁_elim told squash₁ (λ h. ∥∥₁_map (h clean db may) (λ tells.
      led_both now Led (led clean) db (tells_left now db may tells)))

  pub holds_led : (left : Image) → HasCleanDisk now → HoldsLeft left now → ∥ HoldsLed left Led ∥₁
  holds_led left clean held = ∥∥₁_map (tells_led clean held.db held.may) (λ tells. record {
    db = held.db;
    both = held.both;
    tells = tells;
  })

  pub holds_alone : (left : Image) → HasCleanDisk now → HoldsLeftAlone left now → ∥ HoldsLedAlone left Led ∥₁
  holds_alone left clean held = ∥∥₁_map (tells_led clean held.db held.may) (λ tells. record {
    held = record { db = held.db; both = held.both; tells = tells };
    alone = held.alone;
  })

-- the same, where that is told by what may not be named
holds_so : (now : State) (Led : Content → Type 0)
    → (HasCleanDisk now → (db : Trees) (told : TellsLeft now db) → ∥ Led told.content ∥₁)
    → ∥ (HasCleanDisk now → LeavesSound now) ∥₁ → (left : Image) → HasCleanDisk now → HoldsLeft left now
    → ∥ HoldsLed left Led ∥₁
holds_so now Led led told left clean held =
    ∥∥₁_elim told squash₁ (λ h. ∥∥₁_elim (h clean held.db held.may) squash₁ (λ tells.
    let it = tells_left now held.db held.may tells in
    ∥∥₁_map (led clean held.db it) (λ is. record {
      db = held.db;
      both = held.both;
      tells = record { content = it.content; sound = it.sound; told = it.told; rowids = it.rowids; led = is };
    })))

on_ok : {T E : Type 0} (r : Result T E) (P Q : Type 0) → (P → Q) → OnOk r P → OnOk r Q
on_ok (Ok x) P Q f h = f h
on_ok (Err e) P Q f h = tt

-- ---- a run over a store that was honest, and whose disk did what it was told

module _ {S : Type 0} {is_honest : S → Type 0} {failures : S → ℕ} {may_leave : S → Content → Type 0}
    {is_clean is_whole : S → Type 0} (before now : S) (ends : Ends) where
  -- where it came to its end, the store is honest still
  pub ran_honest : (outcome : Result Tally RunFault)
      → RunsPlan is_honest failures may_leave is_clean is_whole before now ends outcome
      → is_honest before → is_clean now → IfOk outcome (RanPlan ends)
  ran_honest (Ok tally) runs honest clean = runs.ran (runs.stays_honest honest clean tt)
  ran_honest (Err fault) runs honest clean = tt

  -- and where it is honest, the same holds of what it keeps after a fault
  pub still_honest : (outcome : Result Tally RunFault)
      → RunsPlan is_honest failures may_leave is_clean is_whole before now ends outcome
      → is_honest now → IfErr outcome (StoppedPlan ends)
  still_honest outcome runs honest = runs.fault honest

  pub settled_honest : (outcome : Result Tally RunFault)
      → RunsPlan is_honest failures may_leave is_clean is_whole before now ends outcome
      → is_honest before → is_clean now → LeavesOnly (may_leave before) ends.before
      → OnOk outcome (LeavesOnly (may_leave now) ends.after)
  settled_honest (Ok tally) runs honest clean alone = runs.settled (runs.stays_honest honest clean tt) alone
  settled_honest (Err fault) runs honest clean alone = tt

  -- where a fault ended it, some content is what such a run may leave
  pub stopped_somehow : RunsSound → RunsByFate → IsSound ends.before → (outcome : Result Tally RunFault)
      → RunsPlan is_honest failures may_leave is_clean is_whole before now ends outcome
      → is_honest before → is_clean now
      → IfErr outcome (λ fault. (last : Content) × StoppedPlan (with_last ends last) fault)
  stopped_somehow law fates sound (Ok tally) runs honest clean = tt
  stopped_somehow law fates sound (Err fault) runs honest clean =
      let replied = runs.replied honest clean in (
        replied.last,
        stopped_leads law fates ends.before replied.last ends.written_before ends.written_after ends.remaining fault sound
            replied.stopped,
      )

doubtless : doubt true ≡ 0
unfolding doubt
doubtless = refl

doubted : doubt false ≡ 0 → ⊥
unfolding doubt
doubted h = omega (arith, h)

-- of what the store has in the end it says nothing
crashed_with : (ends : Ends) (last : Content) (fault : RunFault) (left : Content) → CrashedPlan ends fault left
    → CrashedPlan (with_last ends last) fault left
crashed_with ends last fault left h = record {
  crashed = record { last = h.crashed.last; stopped = h.crashed.stopped; leaves = h.crashed.leaves };
  items = h.items;
  are_answered = h.are_answered;
  leads = h.leads;
}

-- where each database that a crash may leave tells one content, it has no other
kept_so : (ends : Ends) (now : State) → HaveOneContent → ((db : Trees) → now.may_leave db → ∥ Tells db ends.after ∥₁)
    → (db : Trees) (told : TellsLeft now db) → ∥ (told.content ≡ ends.after) ∥₁
kept_so ends now one tell db told =
    ∥∥₁_map (tell db told.left) (λ tells. one (tables_of db) told.content ends.after told.told.content tells.content)

-- what is said of a connection that was let go, is said of the same one
pub let_go_of : {D : Type 0} {g : disk.Ghosts D} (held own : Held (FileStore D g)) → held ≡ own → (go : ClosedFiles D)
    → (AreHonest g go.files → HasCleanDisk (file_state held))
    → (AreHonest g go.files → (left : Image) → outcomes g go.files.log go.files.db left → ∥ HoldsLeft left (file_state held) ∥₁)
    → OnOk go.copied (AreHonest g go.files → (left : Image) → outcomes g go.files.log go.files.db left
    → ∥ HoldsLeftAlone left (file_state held) ∥₁)
    → (let r : Type 0 = (AreHonest g go.files → HasCleanDisk (file_state own))
    × ((AreHonest g go.files → (left : Image) → outcomes g go.files.log go.files.db left → ∥ HoldsLeft left (file_state own) ∥₁)
    × OnOk go.copied (AreHonest g go.files → (left : Image) → outcomes g go.files.log go.files.db left
    → ∥ HoldsLeftAlone left (file_state own) ∥₁)) in r)
let_go_of {D} {g} held own same go honest holds alone =
    subst (λ (x : Held (FileStore D g)). (let r : Type 0 = (AreHonest g go.files → HasCleanDisk (file_state x))
    × ((AreHonest g go.files → (left : Image) → outcomes g go.files.log go.files.db left → ∥ HoldsLeft left (file_state x) ∥₁)
    × OnOk go.copied (AreHonest g go.files → (left : Image) → outcomes g go.files.log go.files.db left
    → ∥ HoldsLeftAlone left (file_state x) ∥₁)) in r)) same (honest, (holds, alone))

-- a run and the letting go of its files: the content after it is what the store has, or after a fault what such a run may
-- leave
module _ {D : Type 0} {g : disk.Ghosts D} (ends : Ends) (now : State) (is_whole : Bool) (go : ClosedFiles D)
    (known : IsTrue is_whole → AreHonest g go.files → IsTrue now.is_open × ((db : Trees) → now.may_leave db → ∥ Tells db ends.after ∥₁))
    (one : HaveOneContent)
    (honest : AreHonest g go.files → HasCleanDisk now)
    (holds : AreHonest g go.files → (left : Image) → outcomes g go.files.log go.files.db left → ∥ HoldsLeft left now ∥₁)
    (alone : OnOk go.copied (AreHonest g go.files → (left : Image) → outcomes g go.files.log go.files.db left
    → ∥ HoldsLeftAlone left now ∥₁))
    (told : ∥ (HasCleanDisk now → LeavesSound now) ∥₁) where
  runs_so : (outcome : Result Tally RunFault) (after : Content)
      → (HasCleanDisk now → IfOk outcome (RanPlan (with_last ends after)))
      → (HasCleanDisk now → IfErr outcome (StoppedPlan (with_last ends after)))
      → (HasCleanDisk now → (db : Trees) (told : TellsLeft now db) → Leaves (with_last ends after) outcome told.content)
      → (IsTrue is_whole → AreHonest g go.files → HasCleanDisk now → (db : Trees) (told : TellsLeft now db) → ∥ (told.content ≡ after) ∥₁)
      → RunsFiles g (with_last ends after) outcome is_whole go
  runs_so outcome after ran fault led same =
      let Led = Leaves (with_last ends after) outcome in
      record {
        ran = λ clean. ran (honest clean);
        fault = λ clean. fault (honest clean);
        holds = λ clean left out. ∥∥₁_elim (holds clean left out) squash₁ (holds_led now Led led told left (honest clean));
        settled = λ whole clean left out. ∥∥₁_elim (holds clean left out) squash₁ (λ held.
            holds_so now (λ c. c ≡ after) (same whole clean) told left (honest clean) held);
        alone = on_ok go.copied _ _ (λ h clean left out.
            ∥∥₁_elim (h clean left out) squash₁ (holds_alone now Led led told left (honest clean))) alone;
      }

  stopped_so : (fault : RunFault) → now.is_open ≡ false
      → (HasCleanDisk now → (last : Content) × StoppedPlan (with_last ends last) fault)
      → (HasCleanDisk now → (left : Content) → may now left → CrashedPlan ends fault left)
      → (is_clean : Bool) → is_clean ≡ now.is_clean
      → (after : Content) × RunsFiles g (with_last ends after) (Err fault) is_whole go
  stopped_so fault shut stopped crash true is =
      let clean : HasCleanDisk now = subst (λ b. doubt b ≡ 0) is doubtless in
      let (last, plan) = stopped clean in (
        last,
        runs_so (Err fault) last (λ clean. tt) (λ clean. plan)
            (λ clean. leaves (with_last ends last) (Err fault) now clean tt
            (λ left may_be. crashed_with ends last fault left (crash clean left may_be)))
            (λ whole honest' clean db told. absurd (both_ways now.is_open shut (known whole honest').0)),
      )
  stopped_so fault shut stopped crash false is =
      let never : HasCleanDisk now → ⊥ = λ clean. doubted (subst (λ b. doubt b ≡ 0) (sym is) clean) in (
        ends.after,
        runs_so (Err fault) ends.after (λ clean. tt) (λ clean. absurd (never clean)) (λ clean. absurd (never clean))
            (λ whole honest' clean. absurd (never clean)),
      )

  ended_so : (fault : RunFault) → (HasCleanDisk now → IsTrue now.is_open → StoppedPlan ends fault)
      → (HasCleanDisk now → (last : Content) × StoppedPlan (with_last ends last) fault)
      → (HasCleanDisk now → (left : Content) → may now left → CrashedPlan ends fault left)
      → (is_open : Bool) → is_open ≡ now.is_open
      → (after : Content) × RunsFiles g (with_last ends after) (Err fault) is_whole go
  ended_so fault still stopped crash true is = (
    ends.after,
    runs_so (Err fault) ends.after (λ clean. tt) (λ clean. still clean (sym is))
        (λ clean. leaves ends (Err fault) now clean tt (crash clean))
        (λ whole honest' clean. kept_so ends now one (known whole honest').1),
  )
  ended_so fault still stopped crash false is = stopped_so fault (sym is) stopped crash now.is_clean refl

  pub runs_files : (outcome : Result Tally RunFault)
      → (HasCleanDisk now → IfOk outcome (RanPlan ends))
      → (HasCleanDisk now → IsTrue now.is_open → IfErr outcome (StoppedPlan ends))
      → (HasCleanDisk now → IfErr outcome (λ fault. (last : Content) × StoppedPlan (with_last ends last) fault))
      → (HasCleanDisk now → OnOk outcome (LeavesOnly (may now) ends.after))
      → (HasCleanDisk now → IfErr outcome (λ fault. (left : Content) → may now left → CrashedPlan ends fault left))
      → (after : Content) × RunsFiles g (with_last ends after) outcome is_whole go
  runs_files (Ok tally) ran still stopped settled crash = (
    ends.after,
    runs_so (Ok tally) ends.after ran (λ clean. tt) (λ clean. leaves ends (Ok tally) now clean (settled clean) tt)
        (λ whole honest' clean. kept_so ends now one (known whole honest').1),
  )
  runs_files (Err fault) ran still stopped settled crash = ended_so fault still stopped crash now.is_open refl

-- a store that counted no failure, and whose connection was open, kept this, and each database that a crash may leave of it
-- tells it
pub known_of : {D : Type 0} {g : disk.Ghosts D} (own held : Held (FileStore D g)) (k : Content) (failures : ℕ) → held ≡ own
    → SeenMayStay g → failures ≡ 0
    → ∥ (let r : Type 0 = failures ≡ 0 → HasCleanDisk (file_state own) → IsTrue (file_state own).is_open → IsStored (file_state own) k in r) ∥₁
    → IsTrue (file_state own).is_open → HasCleanDisk (file_state held) → IsLive (file_state held)
    → (db : Trees) → (file_state own).may_leave db → ∥ Tells db k ∥₁
known_of {D} {g} own held k failures same stays none stored is_open clean live db may' =
    tells_kept over_files (λ s. settled_at s stays) own held k failures same none
    (∥∥₁_map stored (λ h none clean. h none clean is_open)) clean live db
    (subst (λ (x : Held (FileStore D g)). (file_state x).may_leave db) (sym same) may')
