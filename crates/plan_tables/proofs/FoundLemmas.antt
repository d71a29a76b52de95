-- What a store kept is found again.
use Rattle.std.proofs.Common.{◌≡◌, ◌∙◌, ◌+◌, ℕ, Bool, true, false, cond, List, [], ◌∷◌, Option, Some, None, inl, inr, ap, refl, subst, sym}
use Rattle.std.proofs.Common.{IsTrue, filter, true≢false}
use Rattle.std.specs.List.{position_from}
use Rattle.std.proofs.Math.Logic.{∥∥₁_elim, ∥∥₁_map}
use Rattle.sqlite.specs.Effect.{Database, IsDatabase}
use Rattle.sqlite.specs.Files.{AreFoundIn, HoldsDatabase, file_state}
use Rattle.sqlite.specs.Held.{AreDatabases, Held, state}
use Rattle.sqlite.specs.Schema.{Schema}
use Rattle.sqlite.specs.Start.{FindsIn}
use Rattle.sqlite.specs.State.{HasCleanDisk, IsLive, Opens, State}
use Rattle.sqlite.specs.Store.{Ghosts}
use Rattle.sqlite.specs.Tree.{Trees}
use Rattle.sqlite.proofs.Theorems.{opens_again}
use Rattle.sqlite.specs.Table.{Table as Described}
use Rattle.sqlite.specs.declared.types.Value.TheVariants.{Text}
use Rattle.sqlite_catalog.proofs.LayoutLemmas.{zipped_left, zipped_right}
use Rattle.sqlite_catalog.proofs.StepLemmas.{same_itself}
use Rattle.sqlite_catalog.specs.Change.{is_used}
use Rattle.sqlite_catalog.specs.Listing.{IsSound, IsTableRow, is_table_row}
use Rattle.sqlite_rules.proofs.ListLemmas.{has_got}
use Rattle.sqlite_rules.specs.Lists.{Has}
use Rattle.sqlite_schema.specs.Names.{same_name, table_named}
use Rattle.sqlite_disk.specs.declared.Disk as disk
use Rattle.sqlite_store.specs.declared.store.FileStore.{FileStore}
use Rattle.sqlite_store.specs.FileStore as files
use Rattle.sqlite_trees.specs.Objects.{catalog_tree}
use Rattle.sqlite_wal.specs.Recovery.{Image}
use Rattle.planner_machine.specs.Content.{Content}
use Rattle.plan_tables_schema.specs.Rows.{tables_of}
use Rattle.plan_tables_schema.specs.Free.{IsFree}
use Rattle.plan_tables_schema.specs.Schema.{HasTables, name, table, table_at}
use Rattle.plan_tables_schema.proofs.EachLemmas.{each}
use Rattle.plan_tables_schema.specs.declared.tables.Table.TheVariants.{Meta}
use Rattle.plan_tables_content.specs.Content.{HaveOneContent, IsContentOf}
use Rattle.plan_tables_opening.specs.Opened.{IsStored, IsToldBy}
use Rattle.plan_tables.specs.Found.{HoldsLeft, IsFoundIn, Tells, TellsLeft}
use Rattle.plan_tables.specs.Stored.{LeavesSound, MayLeave, TellsSound}
use Rattle.plan_tables.proofs.SetLemmas.{content_set}
use Rattle.plan_tables.proofs.StoredLemmas.{tells_stored}

-- where no name is alike, none of the list is
none_named : {X : Type 0} (p : X → Bool) (xs : List X) (start : ℕ) (x : X) → position_from p start xs ≡ None → Has xs x
    → p x ≡ false
none_named p [] start x none has = absurd has
none_named p (y ∷ ys) start x none has = go (p y) refl none has (none_named p ys (start + 1) x)
  where
    go : (b : Bool) → p y ≡ b → cond b (Some start) (position_from p (start + 1) ys) ≡ None → Has (y ∷ ys) x
        → (position_from p (start + 1) ys ≡ None → Has ys x → p x ≡ false) → p x ≡ false
    go true is none has later = absurd cc
    go false is none (inl same) later = ap p same ∙ is
    go false is none (inr has) later = later none has

-- the name of a table that stands in a schema is used there
name_used : (schema : Schema) (d : Described) → Has schema.tables d → is_used schema d.name ≡ true
name_used schema d has = go (table_named schema d.name) refl
  where
    go : (o : Option ℕ) → table_named schema d.name ≡ o → is_used schema d.name ≡ true
    go (Some at) named = rw named refl
    go None named = absurd (true≢false (sym (same_itself d.name) ∙ none_named (λ (t : Described). same_name t.name d.name)
        schema.tables 0 d named has))

-- two schemas that one database obeys have tables of the same names
never_free : (schema free : Schema) (db : Trees) → HasTables schema → IsSound schema db → IsFree free → IsSound free db → ⊥
never_free schema free db has sound room other =
    let mine = has_got schema.tables (has.at Meta) (table_at (has.trees Meta) Meta) (has.stands Meta).got in
    let row = zipped_left IsTableRow (filter is_table_row (db catalog_tree)) schema.tables _ sound.lists.listed.tables mine in
    let there = zipped_right IsTableRow (filter is_table_row (db catalog_tree)) free.tables row.0 other.lists.listed.tables row.1 in
    let named : Text there.0.name ≡ Text (name Meta) = sym there.2.described.name_is ∙ row.2.described.name_is in
    let same : there.0.name ≡ name Meta = cc in
    let unused : is_used free (name Meta) ≡ false =
    each table (λ (d : Described). is_used free d.name ≡ false) room.unused.tables Meta in
    true≢false (sym (subst (λ n. is_used free n ≡ true) same (name_used free there.0 there.1)) ∙ unused)

-- what a crash leaves of a database that keeps a content
pub tells_kept : {S : Type 0} (g : Ghosts S)
    (law : (s : S) (db : Trees) → IsTrue (g.view s).is_open → g.recovers s db → db ≡ (g.view s).committed)
    (own held : Held S) (k : Content) (failures : ℕ) → held ≡ own
    → failures ≡ 0 → ∥ (failures ≡ 0 → HasCleanDisk (state g own) → IsStored (state g own) k) ∥₁
    → HasCleanDisk (state g held) → IsLive (state g held) → (db : Trees) → g.recovers held.store db → ∥ Tells db k ∥₁
tells_kept {S} g law own held k failures same none stored clean live db left =
    ∥∥₁_map stored (λ h. (tells_stored g law held k (subst (λ (x : Held S). IsStored (state g x) k) (sym same)
    (h none (subst (λ (x : Held S). HasCleanDisk (state g x)) same clean))) live db left).0)

-- so it is of what is let go
pub told_left : {S : Type 0} (g : Ghosts S) (own held : Held S) → held ≡ own
    → ∥ (HasCleanDisk (state g own) → LeavesSound (state g own)) ∥₁ → HasCleanDisk (state g held) → (db : Trees)
    → g.recovers held.store db → ∥ TellsSound db ∥₁
told_left {S} g own held same told clean db left =
    ∥∥₁_elim told squash₁ (λ h. h (subst (λ (x : Held S). HasCleanDisk (state g x)) same clean) db
    (subst (λ (x : Held S). g.recovers x.store db) same left))

pub told_again : (found : Database) (k c : Content) → HaveOneContent → IsDatabase found → Tells found.trees k
    → IsToldBy found c → c ≡ k
told_again found k c one obeys tells (inl told) = one (tables_of found.trees) c k told.1 tells.content
told_again found k c one obeys tells (inr free) =
    absurd (never_free tells.schema found.schema found.trees tells.plan tells.obeys free.0 obeys)

-- what a crash leaves of files whose databases all tell the content tells it to whoever opens them
pub found_again : {D : Type 0} {g : disk.Ghosts D} (it : FileStore D g) (k : Content) → HaveOneContent
    → IsTrue (files.view it).is_numbered → AreDatabases (files.recovers it)
    → ((db : Trees) → files.recovers it db → ∥ Tells db k ∥₁)
    → (left : Image) → (files.state it).may_leave left → (c : Content) → IsFoundIn left c → c ≡ k
found_again it k one numbered sound tells left may c found =
    ∥∥₁_elim (opens_again it numbered sound left may) (content_set c k) (λ held.
    ∥∥₁_elim (tells held.0 held.1) (content_set c k) (λ told. told_again found.found k c one found.obeys
    (subst (λ db. Tells db k) (sym (found.holds held.0 held.2)) told) found.told))

-- a database that tells a sound content, of those that a crash leaves
pub tells_left : (s : State) (db : Trees) → s.may_leave db → TellsSound db → TellsLeft s db
tells_left s db may told = record {
  left = may;
  content = told.0;
  sound = told.1;
  told = told.2;
  rowids = told.3;
}

-- files whose databases all tell sound contents hold one that does
pub holds_left : {D : Type 0} {g : disk.Ghosts D} (conn : Held (FileStore D g)) (it : FileStore D g)
    → IsTrue (files.view it).is_numbered → AreDatabases (files.recovers it)
    → ((db : Trees) → files.recovers it db → files.recovers conn.store db)
    → ((db : Trees) → files.recovers it db → ∥ TellsSound db ∥₁)
    → (left : Image) → (files.state it).may_leave left → ∥ HoldsLeft left (file_state conn) ∥₁
holds_left conn it numbered sound outcomes tells left may =
    ∥∥₁_elim (opens_again it numbered sound left may) squash₁ (λ held. ∥∥₁_map (tells held.0 held.1) (λ told. record {
      db = held.0;
      holds = held.2;
      tells = tells_left (file_state conn) held.0 (outcomes held.0 held.1) told;
    }))

-- what is found where such a database is held is what this tells, which a crash might leave
pub found_told : (image : Image) (s : State) (db : Trees) (c : Content) → HaveOneContent → HoldsDatabase image db
    → TellsLeft s db → IsFoundIn image c → MayLeave s c
found_told image s db c one held tells found =
    let same : found.found.trees ≡ db = found.holds db held in
    let is : c ≡ tells.content = told_again found.found tells.content c one found.obeys
    (subst (λ t. Tells t tells.content) (sym same) tells.told) found.told in
    (db, tells.left, subst (IsContentOf (tables_of db)) (sym is) tells.told.content)

-- what is found again was a content that a crash might leave
pub found_left : {D : Type 0} {g : disk.Ghosts D} (conn : Held (FileStore D g)) (it : FileStore D g) → HaveOneContent
    → IsTrue (files.view it).is_numbered → AreDatabases (files.recovers it)
    → ((db : Trees) → files.recovers it db → files.recovers conn.store db)
    → ((db : Trees) → files.recovers it db → ∥ TellsSound db ∥₁)
    → (left : Image) → (files.state it).may_leave left → (c : Content) → IsFoundIn left c
    → ∥ MayLeave (file_state conn) c ∥₁
found_left conn it one numbered sound outcomes tells left may c found =
    ∥∥₁_map (holds_left conn it numbered sound outcomes tells left may) (λ held. found_told left (file_state conn)
    held.db c one held.holds held.tells found)

-- what the database tells that an open found
pub found_in : (image : Image) (s : State) (c : Content) → Opens s → IsLive s → FindsIn image s → IsToldBy s.now c
    → IsFoundIn image c
found_in image s c opens live found told = record {
  found = s.now;
  obeys = (live opens.is_open).0;
  holds = λ db held. ap (λ (d : Database). d.trees) opens.clean ∙ found.holds db held;
  reads = subst (AreFoundIn image) (ap (λ (d : Database). d.trees) (sym opens.clean)) found.reads;
  told = told;
}
