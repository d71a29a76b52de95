-- Files whose plan was of schema 1, and files over which no stream is run.
use Rattle.std.proofs.Common.{◌≡◌, ◌⊎◌, ◌∙◌, Some, ap, arith, inl, inr, length, slice_get, subst, sym}
use Rattle.sqlite.specs.Change.{KeepsRows}
use Rattle.sqlite.specs.Effect.{Database}
use Rattle.sqlite.specs.Files.{AreFoundIn}
use Rattle.sqlite.specs.Schema.{Schema}
use Rattle.sqlite.specs.Start.{FindsIn}
use Rattle.sqlite.specs.State.{HasCleanDisk, IsLive, Opens, State, Survives}
use Rattle.sqlite.specs.Table.{Table as Described}
use Rattle.sqlite.specs.Tree.{Trees}
use Rattle.sqlite_wal.specs.Recovery.{Image}
use Rattle.planner_machine.specs.Content.{Content}
use Rattle.plan_tables_schema.specs.Free.{IsFree}
use Rattle.plan_tables_schema.specs.Rows.{tables_of}
use Rattle.plan_tables_schema.specs.Schema.{HasTables, table_at}
use Rattle.plan_tables_schema.specs.declared.tables.Table.TheVariants.{Predecessor}
use Rattle.plan_migrations_remaking.specs.FirstSchema.{HasFirstTables, first_table_at}
use Rattle.plan_tables_loading.specs.Reading.{HasPlan}
use Rattle.plan_tables_opening.specs.Held.{HoldSound, HoldsPlan}
use Rattle.plan_tables_opening.specs.Opened.{IsToldBy, MakesFirst}
use Rattle.plan_tables_opening.proofs.OpeningLemmas.{room_has_none}
use Rattle.plan_migrations.specs.Migrating.{IsRenewed, MayRenew}
use Rattle.plan_tables.specs.Found.{IsFoundIn}
use Rattle.plan_tables.proofs.FoundLemmas.{found_in}
use Rattle.plan_migrations.specs.Older.{IsCurrent}
use Rattle.plan_files.specs.Found.{IsFirstFoundIn, IsFirstToldBy, IsToldNow}
use Rattle.plan_files.specs.Unrun.{IsSpared}

-- what a crash may leave of a database that was asked, brought to the current schema, or given its first tables
abbrev pub MaySpare : State → Trees → Type 0
MaySpare s db = s.may_leave db ⊎ (MayRenew s db ⊎ MakesFirst s db)

renewed_has_plan : (old new : State) → IsRenewed old new → HasPlan new
unfolding HasPlan
renewed_has_plan old new h = h.plan.schema

first_since : (old mid : State) (db : Trees) → mid.now ≡ old.now → MakesFirst mid db → MakesFirst old db
first_since old mid db same h = record {
  room = subst (λ (d : Database). IsFree d.schema) same h.room;
  schema = h.schema;
  obeys = h.obeys;
  plan = h.plan;
  content = h.content;
  rowids = h.rowids;
  others = subst (λ (d : Database). KeepsRows d.schema.tables d.trees db) same h.others;
}

-- what a crash may leave of a database that was brought to the current schema and not adopted then
pub left_since : (old mid : State) → Survives old mid (MayRenew old) → (HasCleanDisk mid → IsCurrent old mid)
    → (db : Trees) → HasCleanDisk mid × (mid.may_leave db ⊎ MakesFirst mid db) → MaySpare old db
left_since old mid s current db (clean, inl may) = elim (s.crash clean db may) [ inl was ↦ inl was | inr new ↦ inr (inl new) ]
left_since old mid s current db (clean, inr first) =
    elim (current clean).current [
      | inl same ↦ inr (inr (first_since old mid db same.1 first))
      | inr renewed ↦ absurd (room_has_none mid first.room (renewed_has_plan old mid renewed))
    ]

-- what tables of schema 1 told, those that were renewed tell
pub first_told : (old new : State) (c : Content) → IsRenewed old new → IsToldBy new.now c → IsFirstToldBy old.now c
first_told old new c renewed told = (
  renewed.renewed.was,
  elim told [
    | inl is ↦ (renewed.renewed.content c).1 is.1
    | inr free ↦ absurd (room_has_none new free.0 (renewed_has_plan old new renewed))
  ],
)

pub told_now : (old new : State) (c : Content) → IsCurrent old new → IsToldBy new.now c → IsToldNow old c
told_now old new c current told =
    elim current.current [
      | inl same ↦ inl (subst (λ (d : Database). IsToldBy d c) same.1 told)
      | inr renewed ↦ inr (first_told old new c renewed told)
    ]

-- what is told of a database that was found in files, is found in them
pub found_any : (image : Image) (s : State) (c : Content) → Opens s → IsLive s → FindsIn image s → IsToldNow s c
    → IsFoundIn image c ⊎ IsFirstFoundIn image c
found_any image s c opens live found (inl told) = inl (found_in image s c opens live found told)
found_any image s c opens live found (inr first) = inr (record {
  found = s.now;
  obeys = (live opens.is_open).0;
  holds = λ db held. ap (λ (d : Database). d.trees) opens.clean ∙ found.holds db held;
  reads = subst (AreFoundIn image) (ap (λ (d : Database). d.trees) (sym opens.clean)) found.reads;
  told = first;
})

-- of a connection that is open, a crash leaves what is committed
pub spared : (s : State) → ((db : Trees) → s.may_leave db → db ≡ s.committed.trees) → (db : Trees)
    → MaySpare s db → IsSpared s db
spared s law db (inl may) = inl (law db may)
spared s law db (inr new) = inr new

-- tables of the current schema and of schema 1 don't stand in one schema
pub never_both : (s : Schema) → HasTables s → HasFirstTables s → ⊥
never_both s has first =
    let one : Some (has.at Predecessor) ≡ Some (first.at Predecessor) =
    sym (has.stands Predecessor).named ∙ (first.stands Predecessor).named in
    let at : has.at Predecessor ≡ first.at Predecessor = cc in
    let both : Some (table_at (has.trees Predecessor) Predecessor)
    ≡ Some (first_table_at (first.trees Predecessor) Predecessor) =
    sym (has.stands Predecessor).got ∙ ap (slice_get s.tables) at ∙ (first.stands Predecessor).got in
    let same : table_at (has.trees Predecessor) Predecessor ≡ first_table_at (first.trees Predecessor) Predecessor = cc in
    let columns = ap (λ (d : Described). length d.columns) same in
    omega (arith, columns)

-- a database that holds a plan of the current schema holds it still
pub still_holds : (old mid : State) → IsCurrent old mid → HoldsPlan old → HoldsPlan mid
unfolding HasPlan
still_holds old mid current holds =
    elim current.current [
      | inl same ↦ subst (λ (d : Database). HasTables d.schema × HoldSound (tables_of d.trees)) (sym same.1) holds
      | inr renewed ↦ absurd (never_both old.now.schema holds.0 renewed.renewed.was.has)
    ]
