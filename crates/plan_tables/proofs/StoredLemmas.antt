-- A database keeps a content, before and after.
use Rattle.std.proofs.Common.{List, ◌≡◌, ◌∙◌, refl, sym, ap, subst, IsTrue, Result, Ok, Err, []}
use Rattle.std.specs.Prelude.{OnOk}
use Rattle.sqlite.specs.Tree.{Trees}
use Rattle.sqlite.specs.Effect.{Database, IsDatabase}
use Rattle.std.proofs.Common.{◌⊎◌, inl, inr, arith}
use Rattle.std.proofs.Math.Logic.{∥∥₁_elim}
use Rattle.sqlite.specs.Held.{Held, state}
use Rattle.sqlite.specs.Store.{Ghosts}
use Rattle.sqlite.specs.State.{HasCleanDisk, IsLive, State, Survives}
use Rattle.external_dependencies.specs.declared.pairs.Pair.{Pair}
use Rattle.planner_machine.specs.Content.{Content}
use Rattle.planner_machine.specs.Sound.{IsSound}
use Rattle.plan_tables_schema.specs.Rows.{tables_of}
use Rattle.app_definitions.specs.declared.definitions.Definitions.{Definitions}
use Rattle.plan_store.specs.Changes.{after, Fits, redefined}
use Rattle.plan_store.specs.Redefining.{half_redefined}
use Rattle.plan_store.specs.Parts.{IsPartOf, Rest, rest_of, with_rest}
use Rattle.plan_store.specs.Room.{with_definitions, with_pairs_of}
use Rattle.plan_store.specs.Staged.{jobless}
use Rattle.plan_store.specs.declared.changes.Change.{Change}
use Rattle.plan_store.specs.declared.changes.DefinitionChange.TheVariants.{AsBefore}
use Rattle.plan_tables_content.specs.Content.{HaveOneContent, IsContentOf}
use Rattle.plan_tables_content.specs.DecodedSets.{AllRepresentSets}
use Rattle.plan_tables_windows.specs.Fetching.{Grows, told_rest, told_with}
use Rattle.plan_tables_opening.specs.Opened.{IsStored}
use Rattle.plan_tables_opening.specs.Stored.{AllHaveRowids}
use Rattle.plan_tables.specs.Found.{Tells}
use Rattle.plan_tables.specs.Kept.{IsKept, LooksOn, StaysPut, kept_in}
use Rattle.plan_tables.specs.Stored.{LeavesSound, MayLeave}
use Rattle.plan_tables_writing.specs.Redefining.{AreMovesOf, definitions_moved, written}
use Rattle.plan_tables_writing.specs.Writing.{HoldsWritten, IsRepresentableChange}
use Rattle.plan_tables_writing.specs.declared.redefining.DefinitionMoves.{DefinitionMoves}
use Rattle.plan_tables.proofs.BegunLemmas.{same_options}
use Rattle.plan_tables_constraints.proofs.ContentAfter.{plans_after}
use Rattle.plan_tables_constraints.proofs.DefinitionFacts.{redefined_content}
use Rattle.plan_tables.proofs.SetLemmas.{content_set}
use Rattle.plan_tables_schema.specs.Rows.{Tables}
use Rattle.plan_tables_schema.proofs.StatementLemmas.{plan_still}

pub stored_still : (old new : State) (c : Content) → IsStored old c → IsTrue new.is_open → new.now ≡ old.now
    → new.committed ≡ old.committed → IsStored new c
stored_still old new c is opens now committed = record {
  is_open = opens;
  plan = plan_still old new now is.plan;
  settled = now ∙ is.settled ∙ sym committed;
  content = subst (λ (d : Database). IsContentOf (tables_of d.trees) c) (sym now) is.content;
}

-- of the definitions the tables are written from the options alone
written_alike : (c : Content) (a b : Definitions) (moves : DefinitionMoves) (change : Change) (all : Tables)
    → a.options ≡ b.options
    → written (with_definitions a c) moves change all ≡ written (with_definitions b c) moves change all
written_alike c a b moves change all same =
    λ i. written (with_definitions (record a { options = same i }) c) moves change all

module _ (c : Content) (change : Change) (moves : DefinitionMoves) (fits : Fits change c)
    (are : AreMovesOf change.definitions moves) (told : IsRepresentableChange change) where
  -- what is left of the change once the definitions are changed
  abbrev rest : Change
  rest = record change { definitions = AsBefore }

  abbrev now : Content
  now = with_definitions (redefined change.definitions c.definitions) c

  content_after : (all : Tables) → IsContentOf all c → IsContentOf (written now moves rest all) (after change c)
  content_after all is = plans_after now rest (definitions_moved c.sets.bounds c.sets.issued now.definitions.options
      moves all)
      (redefined_content c all is change.definitions moves are)
      (record { ltp = fits.ltp; cp = fits.cp; history = fits.history; deletions = fits.deletions; job = fits.job })
      refl (record { links = told.links; job = told.job })

  -- the pairs are out of the lists while the tables are written, and stand beside them
  pub tables_after : (left : Change) → left ≡ rest → (old : State) (db : Trees) (d : Content) (pairs : List Pair)
      → d ≡ with_definitions (half_redefined change.definitions c.definitions) (with_pairs_of [] c) → pairs ≡ c.pairs
      → IsStored old c
      → tables_of db ≡ written (with_pairs_of pairs d) moves left (tables_of old.now.trees)
      → IsContentOf (tables_of db) (after change c)
  tables_after left is_rest old db d pairs is out stored e =
      subst (λ all. IsContentOf all (after change c)) (sym (e ∙ (λ i. written (with_pairs_of (out i) (is i)) moves
      (is_rest i) (tables_of old.now.trees))
      ∙ written_alike c (half_redefined change.definitions c.definitions)
      (redefined change.definitions c.definitions) moves rest (tables_of old.now.trees)
      (same_options change.definitions c.definitions)))
      (content_after (tables_of old.now.trees) stored.content)

  -- what a crash leaves of the commit has the tables of the plan, and tells the content after the change
  pub tells_after : (left : Change) → left ≡ rest → (old : State) (db : Trees) (d : Content) (pairs : List Pair)
      → d ≡ with_definitions (half_redefined change.definitions c.definitions) (with_pairs_of [] c) → pairs ≡ c.pairs
      → IsStored old c
      → HoldsWritten old (written (with_pairs_of pairs d) moves left (tables_of old.now.trees)) db
      → Tells db (after change c) × AllHaveRowids (tables_of db)
  tells_after left is_rest old db d pairs is out stored h = (
    record {
      schema = old.now.schema;
      obeys = h.obeys stored.is_open;
      plan = stored.plan.schema;
      content = tables_after left is_rest old db d pairs is out stored h.rows_are;
    },
    h.rowids,
  )

-- what a crash leaves of a database that keeps a content is that content
pub leaves_one : {S : Type 0} (g : Ghosts S)
    (law : (s : S) (db : Trees) → IsTrue (g.view s).is_open → g.recovers s db
    → db ≡ (g.view s).committed) (held : Held S)
    (c d : Content) → HaveOneContent → IsStored (state g held) d → MayLeave (state g held) c → c ≡ d
leaves_one g law held c d one stored (db, left, is) =
    let same : db ≡ (state g held).now.trees =
    law held.store db stored.is_open left ∙ sym (ap (λ (b : Database). b.trees) stored.settled) in
    one (tables_of (state g held).now.trees) c d (subst (λ t. IsContentOf (tables_of t) c) same is) stored.content

-- a database that a crash leaves of one that keeps a content tells it
pub tells_stored : {S : Type 0} (g : Ghosts S)
    (law : (s : S) (db : Trees) → IsTrue (g.view s).is_open → g.recovers s db → db ≡ (g.view s).committed)
    (held : Held S) (k : Content) → IsStored (state g held) k → IsLive (state g held) → (db : Trees)
    → g.recovers held.store db → Tells db k × AllHaveRowids (tables_of db)
tells_stored g law held k stored live db left =
    let same : (state g held).now.trees ≡ db = ap (λ (b : Database). b.trees) stored.settled
    ∙ sym (law held.store db stored.is_open left) in (
      record {
        schema = held.schema;
        obeys = subst (λ t. IsDatabase (record { schema = held.schema; trees = t })) same (live stored.is_open).0;
        plan = stored.plan.schema;
        content = subst (λ t. IsContentOf (tables_of t) k) same stored.content;
      },
      subst (λ t. AllHaveRowids (tables_of t)) same stored.plan.rowids,
    )

-- so each of one that keeps a sound content tells a sound one
pub stored_sound : {S : Type 0} (g : Ghosts S)
    (law : (s : S) (db : Trees) → IsTrue (g.view s).is_open → g.recovers s db
    → db ≡ (g.view s).committed) (held : Held S) (c : Content) → IsStored (state g held) c → IsSound c
    → IsLive (state g held) → LeavesSound (state g held)
stored_sound g law held c stored sound live db left =
    let told = tells_stored g law held c stored live db left in
    ∣ (c, sound, told.0, told.1) ∣₁

-- so it is after a change that makes a sound content
pub leaves_sound : (old new : State) (goal : Content) (P : Trees → Type 0) → ∥ (HasCleanDisk old → LeavesSound old) ∥₁
    → ∥ (HasCleanDisk old → IsSound goal × ((db : Trees) → P db → Tells db goal × AllHaveRowids (tables_of db))) ∥₁
    → Survives old new P → HasCleanDisk new → LeavesSound new
leaves_sound old new goal P told made survives clean db left =
    let before : HasCleanDisk old = omega (arith, survives.clean, clean) in
    elim (survives.crash clean db left) [
      | inl earlier ↦ ∥∥₁_elim told squash₁ (λ h. h before db earlier)
      | inr is ↦ ∥∥₁_elim made squash₁ (λ h.
          let next = h before in
          let tells = next.1 db is in ∣ (goal, next.0, tells.0, tells.1) ∣₁)
    ]

-- what a crash leaves after a change is what it left before, or what the change makes
pub leaves_either : (old new : State) (c goal : Content) (P : Trees → Type 0) → HaveOneContent
    → ∥ (HasCleanDisk old → IsSound goal × ((db : Trees) → P db → Tells db goal × AllHaveRowids (tables_of db))) ∥₁
    → Survives old new P → HasCleanDisk new → MayLeave new c → MayLeave old c ⊎ (c ≡ goal)
leaves_either old new c goal P one made survives clean (db, left, is) = elim (survives.crash clean db left) [
  | inl earlier ↦ inl (db, earlier, is)
  | inr told ↦ inr (∥∥₁_elim made (content_set c goal) (λ h. one (tables_of db) c goal is ((h (omega
      (arith, survives.clean, clean))).1 db told).0.content))
]

-- a crash of a clean disk leaves one content
pub settled_so : {A E : Type 0} (r : Result A E) (IsClean : Type 0) (May : Content → Type 0) (d : Content)
    → (IsClean → OnOk r ((c : Content) → May c → c ≡ d)) → OnOk r ((c : Content) → IsClean × May c → c ≡ d)
settled_so (Ok a) IsClean May d h = λ c both. h both.0 c both.1
settled_so (Err e) IsClean May d h = tt

-- ---- lists beside tables

-- what the tables of a kept content tell beside lists is its own
pub told_kept : AllRepresentSets → (s : State) (c : Content) → IsStored s c
    → told_rest (tables_of s.now.trees) ≡ rest_of c
told_kept tell s c stored =
    let sets = tell (tables_of s.now.trees) c stored.content in
    λ i. record { history = sets.history i; deletions = sets.deletions i; jobs = sets.jobs i }

-- a store that keeps a part of a content that the tables keep, keeps it
pub kept_part : AllRepresentSets → (s : State) (c lists : Content) → with_rest (rest_of c) lists ≡ c → IsStored s c
    → kept_in s lists ≡ c
kept_part tell s c lists is stored = ap (λ (rest : Rest). with_rest rest lists) (told_kept tell s c stored) ∙ is

-- what is kept after a change: the lists have it without its job, and the tables have all of it
pub kept_after : AllRepresentSets → (s : State) (rest : Rest) (change : Change) (lists new : Content)
    → new ≡ after (jobless change) lists → IsStored s (after change (with_rest rest lists))
    → kept_in s new ≡ after change (with_rest rest lists)
kept_after tell s rest change lists new is stored =
    ap (kept_in s) is ∙ ap (λ (told : Rest). with_rest told (after (jobless change) lists))
    (told_kept tell s (after change (with_rest rest lists)) stored)

-- a connection that stays put sees what a kept content was committed as
pub put_still : (old new : State) (c : Content) → IsStored old c → StaysPut old new → IsTrue new.is_open
    → (new.now ≡ old.now) × (new.committed ≡ old.committed)
put_still old new c stored stays opens =
    let put = stays opens in (
      elim put.1 [ inl now ↦ now | inr back ↦ back ∙ sym stored.settled ],
      put.2,
    )

pub rest_still : (old new : State) → new.now ≡ old.now
    → told_rest (tables_of new.now.trees) ≡ told_rest (tables_of old.now.trees)
rest_still old new now = ap (λ (db : Database). told_rest (tables_of db.trees)) now

pub kept_still : (old new : State) (lists : Content) → new.now ≡ old.now → kept_in new lists ≡ kept_in old lists
kept_still old new lists now = ap (λ (db : Database). told_with (tables_of db.trees) lists) now

-- lists that have more of the rest are kept as these are
pub kept_more : (s : State) (was later : Content) → Grows was later → kept_in s later ≡ kept_in s was
kept_more s was later grows = (grows.more (told_rest (tables_of s.now.trees))).same

-- a store keeps what it kept, also with lists that have more of it
pub keeps_more : (old new : State) (was later : Content) → IsKept old was → IsTrue new.is_open → new.now ≡ old.now
    → new.committed ≡ old.committed → Grows was later → IsPartOf (told_rest (tables_of old.now.trees)) later
    → IsKept new later
keeps_more old new was later kept opens db committed grows part =
    let same : kept_in new later ≡ kept_in old was = kept_still old new later db ∙ kept_more old was later grows in
    record {
      stored = subst (IsStored new) (sym same) (stored_still old new (kept_in old was) kept.stored opens db committed);
      sound = subst IsSound (sym same) kept.sound;
      part = subst (λ (rest : Rest). IsPartOf rest later) (sym (rest_still old new db)) part;
    }

pub keeps_still : (old new : State) (lists : Content) → IsKept old lists → IsTrue new.is_open → new.now ≡ old.now
    → new.committed ≡ old.committed → IsKept new lists
keeps_still old new lists kept opens now committed =
    let same : kept_in new lists ≡ kept_in old lists = kept_still old new lists now in
    record {
      stored = subst (IsStored new) (sym same) (stored_still old new (kept_in old lists) kept.stored opens now committed);
      sound = subst IsSound (sym same) kept.sound;
      part = subst (λ (rest : Rest). IsPartOf rest lists) (sym (rest_still old new now)) kept.part;
    }

-- of a connection that was not asked
pub looks_same : (s : State) (lists : Content) → LooksOn s s lists lists
looks_same s lists = record {
  clean = λ clean. clean;
  opens = λ clean opens. opens;
  same = λ can. refl;
  crash = λ c both. both;
}
