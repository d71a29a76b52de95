-- A database that was opened.
use Rattle.std.proofs.Common.{◌≡◌, ◌∙◌, true, inl, inr, sym, subst, refl, ap, arith, IsTrue}
use Rattle.std.proofs.Common.{Result, Ok, Err, None}
use Rattle.std.specs.Prelude.{IfErr, IfOk, OnOk}
use Rattle.sqlite.specs.Effect.{Database}
use Rattle.sqlite.specs.Store.{Ghosts}
use Rattle.sqlite.specs.State.{HasCleanDisk, IsLive, State, Survives}
use Rattle.sqlite.specs.declared.error.Error.{Error}
use Rattle.sqlite_trees.specs.declared.error.StoreError.TheVariants as store
use Rattle.sqlite.proofs.StateLemmas.{survives_weaker}
use Rattle.app_definitions.specs.Options.{default_options}
use Rattle.planner_machine.specs.Content.{Content, nothing_known}
use Rattle.planner_machine.specs.Sound.{IsSound}
use Rattle.sqlite_trees.specs.Objects.{catalog_tree}
use Rattle.plan_tables_schema.specs.Made.{IsMadeWhole, IsReady}
use Rattle.plan_tables_schema.specs.Rows.{MayFail, Stands, Tables, tables_of, with_cells}
use Rattle.plan_tables_schema.specs.declared.tables.Table.TheVariants as table
use Rattle.plan_tables_content.specs.Content.{IsContentOf, meta_values}
use Rattle.plan_tables_schema.specs.Schema.{HasOnlyKeyIndexes}
use Rattle.plan_tables_schema.proofs.MadeLemmas.{key_indexes}
use Rattle.plan_tables_schema.proofs.InTurn.{may_fail}
use Rattle.plan_tables_schema.proofs.MakingLemmas.{begins_ready, others_kept}
use Rattle.plan_tables_schema.proofs.NamedLemmas.{tells}
use Rattle.plan_tables_schema.proofs.OnceLemmas.{IsOnce}
use Rattle.plan_tables_schema.proofs.StatementLemmas.{plan_still}
use Rattle.plan_tables_loading.specs.Reading.{HasPlan, Looks}
use Rattle.plan_tables_opening.specs.First.{IsBeside, IsMadeFirst, IsNewPlan, first_rows}
use Rattle.plan_tables_opening.specs.Kept.{IsKept}
use Rattle.plan_tables_opening.specs.Opened.{HasRoom, IsStored, IsToldBy, IsUnmade, MakesFirst}
use Rattle.plan_tables_opening.specs.Opening.{IsOpened, IsUnopened, IsUnread}
use Rattle.plan_tables_opening.specs.Faults.{fault_for}
use Rattle.plan_tables_opening.specs.Stored.{AllHaveRowids}
use Rattle.plan_tables_opening.specs.declared.faults.OpenFault.{OpenFault}
use Rattle.plan_tables_opening.specs.declared.faults.OpenFault.TheVariants.{Unopened}
use Rattle.plan_tables_opening.proofs.FirstRows.{first_content}

pub read_opened : (old new : State) (c : Content) → (IsTrue old.is_open → old.now ≡ old.committed) → IsLive old
    → Looks old new true → HasCleanDisk new → HasPlan old → AllHaveRowids (tables_of old.now.trees)
    → IsContentOf (tables_of old.now.trees) c → IsStored new c
unfolding HasPlan
read_opened old new c settled live look clean plan rowids content =
    let same = look.same clean plan refl in
    let now = same.0.now_is in
    let sound = (live same.0.was_open).0 in
    record {
      is_open = same.0.is_open;
      plan = plan_still old new now (record {
        schema = plan;
        told = tells old.now.schema plan (old.now.trees catalog_tree) sound.lists.listed;
        rowids = rowids;
      });
      settled = now ∙ settled same.0.was_open ∙ sym same.0.committed_is;
      content = subst (λ (d : Database). IsContentOf (tables_of d.trees) c) (sym now) content;
    }

pub first_told : (all : Tables) (c : Content) → all ≡ first_rows → c ≡ nothing_known → IsContentOf all c
first_told all c rows is =
    subst (IsContentOf all) (sym is) (subst (λ (a : Tables). IsContentOf a nothing_known) (sym rows) first_content)

-- what the transaction that makes them commits
makes_of : (old mid : State) → HasRoom old → IsMadeFirst old.now mid → MakesFirst old mid.now.trees
makes_of old mid room is = record {
  room = room;
  schema = mid.now.schema;
  obeys = is.obeys;
  plan = is.plan.schema;
  content = first_told (tables_of mid.now.trees) nothing_known is.rows_are refl;
  rowids = is.plan.rowids;
  others = is.beside.others;
}

pub makes_first : (old new : State) → HasRoom old → Survives old new (λ db. HasRoom old → MakesFirst old db)
    → Survives old new (MakesFirst old)
makes_first old new room = survives_weaker old new _ _ (λ clean db made. made room)

-- in one transaction
pub first_once : {S : Type 0} (g : Ghosts S) → IsOnce g IsReady IsMadeFirst (λ _. MayFail) HasRoom IsNewPlan MakesFirst
first_once g = record {
  starts = begins_ready g;
  cause = λ base. may_fail;
  mode = λ base s made. made.mode;
  leaves = λ old mid new room made is. record {
    beside = subst (IsBeside old.now) (sym is) made.beside;
    plan = plan_still mid new is made.plan;
    rows_are = ap (λ (db : Database). tables_of db.trees) is ∙ made.rows_are;
  };
  left = makes_of;
}

-- the first row makes the tables of which nothing is known
pub made_first : {A E : Type 0} (r : Result A E) (base : Database) (old new : State) → IsMadeWhole base old
    → OnOk r (Stands old new (with_cells table.Meta (meta_values None 0 default_options) (tables_of old.now.trees)))
    → OnOk r (IsMadeFirst base new)
made_first (Ok a) base old new begun stands = record {
  beside = record {
    schema = stands.schema ∙ begun.schema;
    others = others_kept base old new begun stands.others;
  };
  plan = stands.plan;
  rows_are = stands.rows_are
      ∙ ap (with_cells table.Meta (meta_values None 0 default_options)) begun.rows_are;
  obeys = stands.obeys begun.sound;
  mode = stands.mode;
}
made_first (Err e) base old new begun stands = tt

pub opened_of : {A : Type 0} (r : Result A OpenFault) (old new : State) (value : A → Content)
    → IfOk r (λ a. IsSound (value a)) → (HasCleanDisk new → IfOk r (λ a. IsStored new (value a)))
    → (HasCleanDisk new → IfOk r (λ a. IsToldBy old.now (value a)))
    → (HasRoom old → IfOk r (λ a. value a ≡ nothing_known))
    → (HasCleanDisk new → HasRoom old → IfOk r (λ _. IsBeside old.now new.now))
    → IfOk r (λ a. IsOpened old new (value a))
opened_of (Ok a) old new value sound stored told empty beside = record {
  sound = sound;
  stored = stored;
  told = told;
  empty = empty;
  beside = beside;
  own = λ clean room. subst HasOnlyKeyIndexes (sym (beside clean room).schema) (key_indexes old.now.schema room);
}
opened_of (Err e) old new value sound stored told empty beside = tt

-- ---- why it is not opened

pub unread_in : {A : Type 0} (r : Result A OpenFault) (old new : State) → HasPlan old
    → IfErr r (IsUnread old new) → IfErr r (IsUnopened old new)
unread_in (Ok a) old new plan h = tt
unread_in (Err fault) old new plan h = inr (inl (plan, h))

pub unmade_of : {A : Type 0} (r : Result A OpenFault) (old new : State) → HasRoom old
    → IfErr r (IsUnmade old new) → IfErr r (IsUnopened old new)
unmade_of (Ok a) old new room h = tt
unmade_of (Err fault) old new room h = inr (inr (inl (room, h)))

-- why the tables are not made, by the error of the call
pub unmade_by : (a b : State) (e : Error) → IsKept a b → MayFail a b e → IsUnmade a b (fault_for e Unopened)
unmade_by a b e kept (inl (store.OutOfMemory, is, h)) =
    subst (λ x. IsUnmade a b (fault_for x Unopened)) (sym is) kept
unmade_by a b e kept (inl (store.Io, is, h)) = subst (λ x. IsUnmade a b (fault_for x Unopened)) (sym is) (inl h)
unmade_by a b e kept (inl (store.Corrupt, is, h)) = subst (λ x. IsUnmade a b (fault_for x Unopened)) (sym is) (inl h)
unmade_by a b e kept (inl (store.Full, is, h)) = subst (λ x. IsUnmade a b (fault_for x Unopened)) (sym is) (inl h)
unmade_by a b e kept (inl (store.Broken, is, h)) = subst (λ x. IsUnmade a b (fault_for x Unopened)) (sym is) (inr h)
unmade_by a b e kept (inl (store.Unstorable, is, none)) = absurd none
unmade_by a b e kept (inr h) = subst (λ x. IsUnmade a b (fault_for x Unopened)) (sym h.0) h.1
