-- The two tables that change are made as those of schema 2.
use Rattle.std.proofs.Common.{◌≡◌, ◌∙◌, ◌+◌, ◌<◌, ◌≤◌, ℕ, IsErrAnd, true, false, [], ◌∷◌, Result, Ok, Err, append-nil, refl, sym, ap, subst, arith}
use Rattle.std.specs.List.{AllByRecursion, list_all}
use Rattle.std.proofs.lemmas.List.Elements.{All-from_recursion, recursion_from_All}
use Rattle.sqlite.specs.Change.{KeepsRows, created, next_tree}
use Rattle.sqlite.specs.Does.{lacks_sequence}
use Rattle.sqlite.specs.Effect.{Database}
use Rattle.sqlite.specs.Schema.{Schema}
use Rattle.sqlite.specs.State.{State, ExecutesInside}
use Rattle.sqlite.specs.Store.{Ghosts}
use Rattle.sqlite.specs.Table.{Table as Described}
use Rattle.sqlite.specs.declared.error.Error.{Error}
use Rattle.sqlite.specs.declared.transaction.Transaction.{Transaction}
use Rattle.sqlite_catalog.specs.Change.{is_used}
use Rattle.sqlite_schema.specs.declared.schema.Index.{Index}
use Rattle.sqlite_tied.specs.Compute.{everything}
use Rattle.plan_tables_schema.specs.Free.{AreAside, CanMake}
use Rattle.plan_tables_schema.specs.Rows.{MayFail}
use Rattle.plan_tables_schema.specs.Schema.{name, no_schema, table_at}
use Rattle.plan_tables_schema.specs.Texts.{create_sql}
use Rattle.plan_tables_schema.specs.Writes.{Makes, seen}
use Rattle.plan_tables_schema.specs.declared.tables.Table.{Table}
use Rattle.plan_tables_schema.specs.declared.tables.Table.TheVariants.{LinkInForce, Predecessor}
use Rattle.plan_tables_schema.proofs.CreatedLemmas.{front_all, is_clear, next_below, rest_all, stay_free, stays_uncounted}
use Rattle.plan_tables_schema.proofs.InTurn.{may_fail, turns_fail, turns_then, turns_weaker}
use Rattle.plan_tables_schema.proofs.MadeLemmas.{CanMakeEach}
use Rattle.plan_tables_schema.proofs.RefusalLemmas as plan
use Rattle.plan_tables_schema.proofs.ResultLemmas.{still_ok}
use Rattle.plan_migrations_remaking.specs.FirstSchema.{changed_schema}
use Rattle.plan_migrations_remaking.specs.Turns.{AreChangedMade, CanMakeChanged, CanMakeOne, IsOneMade, names_of}
use Rattle.plan_migrations_remaking.proofs.StepLemmas.{both_all}

-- ---- one table is made

can_each : (t : Table) (base : Database) (s : State) → CanMakeOne t base s → CanMakeEach base.schema (t ∷ [])
can_each t base s can = record {
  free = subst (AllByRecursion (λ n. is_used base.schema n ≡ false)) (sym (append-nil (names_of t))) can.free;
  room = let room = can.room in omega (arith, room);
  uncounted = can.uncounted;
}

module _ (t : Table) (base : Database) (old new : State) (can : CanMakeOne t base old) where
  same : old.now.schema ≡ base.schema
  same = ap (λ (db : Database). db.schema) can.is

  pub makes_one : (count : ℕ) → ExecutesInside 0 (create_sql t) [] old new (Ok count) → IsOneMade t base new
  makes_one count h =
      let step = plan.makes base.schema [] t (can_each t base old can) old new count same h.0 in
      record {
        schema = step.0;
        empty = step.1;
        others = subst (λ (db : Database). KeepsRows base.schema.tables db.trees new.now.trees) can.is step.2;
        obeys = step.3;
        mode = h.1.mode;
      }

  pub one_fails : (e : Error) → ExecutesInside 0 (create_sql t) [] old new (Err e) → MayFail old new e
  one_fails e h = plan.make_fails base.schema [] t (can_each t base old can) old new e same h

-- ---- both are made

module _ (schema : Schema) (can : CanMake schema changed_schema) where
  unused : AllByRecursion (λ (d : Described). is_used schema d.name ≡ false) changed_schema.tables
  unused = recursion_from_All (λ (d : Described). is_used schema d.name ≡ false) changed_schema.tables can.unused.tables

  unmarked : AllByRecursion (λ (i : Index). is_used schema i.name ≡ false) changed_schema.indexes
  unmarked = recursion_from_All (λ (i : Index). is_used schema i.name ≡ false) changed_schema.indexes can.unused.indexes

  pub free_one : AllByRecursion (λ n. is_used schema n ≡ false) (names_of Predecessor)
  unfolding everything
  free_one = (unused.0, (unmarked.0, tt))

  free_two : AllByRecursion (λ n. is_used schema n ≡ false) (names_of LinkInForce)
  unfolding everything
  free_two = (unused.1.0, (unmarked.1.0, tt))

  clear : (tree next : ℕ) → list_all (λ n. is_clear n (table_at tree Predecessor) next) (names_of LinkInForce) ≡ true
  unfolding everything
  clear tree next = refl

  abbrev pub one : Schema
  one = created schema (table_at 0 Predecessor)

  pub free_next : AllByRecursion (λ n. is_used one n ≡ false) (names_of LinkInForce)
  free_next = stay_free schema (table_at 0 Predecessor) (names_of LinkInForce) free_two
      (clear (next_tree schema) (next_tree schema + 1))

  pub room_one : next_tree schema + 4 ≤ 65536
  room_one = let room : next_tree schema + 2 + 2 ≤ 65536 = can.room in omega (arith, room)

  pub room_next : next_tree one + 2 ≤ 65536
  room_next =
      let next : next_tree one ≤ next_tree schema + 1 + 1 = next_below schema (table_at 0 Predecessor) in
      omega (arith, room_one, next)

begins_one : (base : Database) (s : State) → CanMakeChanged base s → CanMakeOne Predecessor base s
begins_one base s from = record {
  free = free_one base.schema from.can;
  room = let room = room_one base.schema from.can in omega (arith, room);
  uncounted = from.can.uncounted;
  is = from.is;
  mode = from.mode;
}

-- the first is made, and nothing is in the way of the second
record IsFirstMade (base : Database) (s : State) : Type 0 where
  can : CanMake base.schema changed_schema
  made : IsOneMade Predecessor base s

begins_two : (base : Database) (s : State) → IsFirstMade base s → CanMakeOne LinkInForce s.now s
begins_two base s from = record {
  free = subst (λ (schema : Schema). AllByRecursion (λ n. is_used schema n ≡ false) (names_of LinkInForce))
      (sym from.made.schema) (free_next base.schema from.can);
  room = subst (λ (schema : Schema). next_tree schema + 1 + 1 ≤ 65536) (sym from.made.schema)
      (let room = room_next base.schema from.can in omega (arith, room));
  uncounted = subst (λ (schema : Schema). lacks_sequence schema ≡ false) (sym from.made.schema)
      (stays_uncounted base.schema (table_at 0 Predecessor) refl from.can.uncounted);
  is = refl;
  mode = from.made.mode;
}

both_made : (base : Database) (mid new : State) → IsFirstMade base mid → IsOneMade LinkInForce mid.now new
    → AreChangedMade base new
both_made base mid new first second =
    let one = created base.schema (table_at 0 Predecessor) in
    let kept : KeepsRows one.tables mid.now.trees new.now.trees =
    subst (λ (schema : Schema). KeepsRows schema.tables mid.now.trees new.now.trees) first.made.schema second.others in
    let olds = front_all (λ (d : Described). new.now.trees d.tree ≡ mid.now.trees d.tree) base.schema.tables _ kept in
    let news = rest_all (λ (d : Described). new.now.trees d.tree ≡ mid.now.trees d.tree) base.schema.tables _ kept in
    record {
      schema = second.schema ∙ ap (λ (schema : Schema). created schema (table_at 0 LinkInForce)) first.made.schema;
      empty = (
        news.0 ∙ first.made.empty,
        (subst (λ (schema : Schema). new.now.trees (next_tree schema) ≡ []) first.made.schema second.empty, tt),
      );
      others = both_all (λ (d : Described). new.now.trees d.tree ≡ mid.now.trees d.tree) (λ d. mid.now.trees d.tree
          ≡ base.trees d.tree) (λ d. new.now.trees d.tree ≡ base.trees d.tree) (λ d same was. same ∙ was)
          base.schema.tables olds first.made.others;
      obeys = second.obeys;
      mode = second.mode;
    }

first_made : {S T : Type 0} {g : Ghosts S} {a b : Transaction S} {r : Result T Error}
    → Makes g a b r (CanMakeOne Predecessor) (IsOneMade Predecessor) → Makes g a b r CanMakeChanged IsFirstMade
first_made = turns_weaker begins_one (λ base s t (from : CanMakeChanged base s) made. record { can = from.can; made = made })
    (λ base s t e h. h)

pub then_makes : {S T U : Type 0} {g : Ghosts S} {a b c : Transaction S} {t : T} {r : Result U Error}
    → Makes g a b (Ok t) (CanMakeOne Predecessor) (IsOneMade Predecessor)
    → Makes g b c r (CanMakeOne LinkInForce) (IsOneMade LinkInForce) → Makes g a c r CanMakeChanged AreChangedMade
then_makes {g = g} {b = b} {c = c} {r = r} one two = turns_then (λ base. may_fail) (first_made one) (record {
  same_reference = two.same_reference;
  ok = λ clean base from. still_ok r _ _ (both_made base (seen g b) (seen g c) from)
      (two.ok clean (seen g b).now (begins_two base (seen g b) from));
  fails = λ clean base from. two.fails clean (seen g b).now (begins_two base (seen g b) from);
  stays_open = λ clean base from. two.stays_open clean (seen g b).now (begins_two base (seen g b) from);
  kept = two.kept;
  survives = two.survives;
})

-- where the first fails
pub first_stops : {S T U : Type 0} {g : Ghosts S} {a b : Transaction S} {e : Error} {r : Result U Error}
    → Makes {T = T} g a b (Err e) (CanMakeOne Predecessor) (IsOneMade Predecessor) → IsErrAnd r (λ x. x ≡ e)
    → Makes g a b r CanMakeChanged AreChangedMade
first_stops one is = turns_fail (first_made one) is

-- ---- in an empty database

pub nothing_in_the_way : CanMake no_schema changed_schema
unfolding everything
nothing_in_the_way = record {
  unused = record {
    tables = All-from_recursion (λ (d : Described). is_used no_schema d.name ≡ false) changed_schema.tables (refl, (refl, tt));
    indexes = All-from_recursion (λ (i : Index). is_used no_schema i.name ≡ false) changed_schema.indexes (refl, (refl, tt));
  };
  room = omega arith;
  aside = All-from_recursion (AreAside changed_schema.tables) [] tt;
  apart = tt;
  indexed = All-from_recursion (λ (i : Index). i.table < next_tree no_schema) [] tt;
  uncounted = refl;
}
