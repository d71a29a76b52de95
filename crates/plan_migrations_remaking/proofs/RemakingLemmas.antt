-- The two tables of schema 1 that change go, those of schema 2 come in their place, and rows are put in.
use Rattle.std.proofs.Common.{◌≡◌, ◌∙◌, ℕ, [], List, Option, Result, Ok, Err, IsErrAnd, inl, inr, refl, sym, ap, subst}
use Rattle.sqlite.specs.Change.{KeepsRows}
use Rattle.sqlite.specs.Effect.{Database, IsDatabase}
use Rattle.sqlite.specs.State.{State}
use Rattle.sqlite.specs.Store.{Ghosts}
use Rattle.sqlite.specs.Table.{Table as Described}
use Rattle.sqlite.specs.declared.error.Error.{Error}
use Rattle.sqlite.specs.declared.transaction.Transaction.{Transaction}
use Rattle.sqlite_rules.proofs.ListLemmas.{all_from}
use Rattle.sqlite.specs.Schema.{Schema}
use Rattle.plan_tables_schema.specs.Free.{CanMake, with_tables}
use Rattle.plan_tables_schema.specs.Made.{AllMade}
use Rattle.plan_tables_schema.specs.Rows.{tables_of}
use Rattle.plan_tables_schema.specs.Writes.{Makes, seen}
use Rattle.plan_tables_schema.proofs.InTurn.{turns_fail, turns_then, turns_weaker}
use Rattle.plan_tables_schema.proofs.OnceLemmas.{IsOnce}
use Rattle.plan_tables_schema.proofs.ResultLemmas.{if_err, still_ok}
use Rattle.plan_tables_schema.proofs.StatementLemmas.{plan_still}
use Rattle.plan_migrations_remaking.specs.FirstSchema.{CanRemake, changed, changed_schema, remade_schema, without}
use Rattle.plan_migrations_remaking.specs.Refusals.{FailsFor, RefusesToLose}
use Rattle.plan_migrations_remaking.specs.Remaking.{AreAllFirst, AreWhole, CanRefill, CanRemakeInside, CanRemakeOf, IsRefilled}
use Rattle.plan_migrations_remaking.specs.Remaking.{IsRemadeInside, IsRemadeOf, IsRemadeOnce, RefusesToFill, RefusesToRefill}
use Rattle.plan_migrations_remaking.specs.Remaking.{RefusesToRemake, RemakesTo, refilled}
use Rattle.plan_migrations_remaking.specs.Turns.{AreChangedMade, CanMakeChanged, IsLosing, TurnsUnless}
use Rattle.plan_migrations_remaking.specs.declared.rows.FirstRows.{FirstRows}
use Rattle.plan_migrations_remaking.proofs.AgainLemmas.{others_again, plan_again, rows_again}
use Rattle.plan_migrations_remaking.proofs.CauseLemmas.{refused_as, refusing}
use Rattle.plan_migrations_remaking.proofs.ShowAgain.{remade_again, remakes_to}
use Rattle.plan_migrations_remaking.proofs.StepLemmas.{both_all}
use Rattle.plan_migrations_remaking.proofs.WithoutLemmas.{none_gone}

-- ---- the two go

begins_losing : {reads : List FirstRows} (base : Database) (s : State) → CanRemakeInside reads base s
    → IsLosing [] base s
begins_losing base s begins = record {
  can = begins.from.can;
  schema = ap (λ (db : Database). db.schema) begins.is ∙ sym (none_gone base.schema begins.from.can.has.trees);
  others = subst (λ (db : Database). KeepsRows db.schema.tables base.trees db.trees) (sym begins.is)
      (all_from (λ (d : Described). base.trees d.tree ≡ base.trees d.tree) base.schema.tables (λ d has. refl));
  mode = begins.mode;
}

-- they are gone, of a database in which they can be remade
pub record HasLost (reads : List FirstRows) (base : Database) (s : State) : Type 0 where
  pub lost : IsLosing changed base s
  pub from : CanRemakeOf reads base
  pub typed : AreAllFirst reads

pub loses_both : {S T : Type 0} {g : Ghosts S} {a b : Transaction S} {r : Result T Error} {reads : List FirstRows}
    → TurnsUnless g a b r (IsLosing []) (IsLosing changed) RefusesToLose
    → TurnsUnless g a b r (CanRemakeInside reads) (HasLost reads) (λ limit. RefusesToRemake limit reads)
loses_both {reads = reads} = turns_weaker begins_losing
    (λ base s t (begins : CanRemakeInside reads base s) lost. record { lost = lost; from = begins.from; typed = begins.typed })
    (λ base s t e. refused_as (RefusesToLose s.step_limit base) (RefusesToRemake s.step_limit reads base) s t e inl)

-- ---- those of schema 2 come in their place

lost_ready : {reads : List FirstRows} (base : Database) (s : State) → HasLost reads base s → CanMakeChanged s.now s
lost_ready base s lost = record {
  can = subst (λ schema. CanMake schema changed_schema) (sym lost.lost.schema) lost.lost.can.free;
  is = refl;
  mode = lost.lost.mode;
}

-- what is made of the database that was left is made of that before it
made_since : (base : Database) (one new : State) (lost : IsLosing changed base one) → AreChangedMade one.now new
    → AreChangedMade (record { schema = without lost.can.has.trees changed base.schema; trees = base.trees }) new
made_since base one new lost made = record {
  schema = made.schema ∙ ap (λ schema. with_tables schema changed) lost.schema;
  empty = subst (λ schema. AllMade (λ (d : Described). new.now.trees d.tree ≡ []) schema changed) lost.schema made.empty;
  others = subst (λ (schema : Schema). KeepsRows schema.tables base.trees new.now.trees) lost.schema
      (both_all (λ (d : Described). new.now.trees d.tree ≡ one.now.trees d.tree) (λ d. one.now.trees d.tree
      ≡ base.trees d.tree) (λ d. new.now.trees d.tree ≡ base.trees d.tree) (λ d same was. same ∙ was)
      one.now.schema.tables made.others lost.others);
  obeys = made.obeys;
  mode = made.mode;
}

pub record HasMade (reads : List FirstRows) (base : Database) (s : State) : Type 0 where
  pub from : CanRemakeOf reads base
  pub can : CanRemake base.schema
  pub made : AreChangedMade (record { schema = without can.has.trees changed base.schema; trees = base.trees }) s
  pub typed : AreAllFirst reads

pub then_made : {S T U : Type 0} {g : Ghosts S} {a b c : Transaction S} {t : T} {r : Result U Error}
    {reads : List FirstRows} → TurnsUnless g a b (Ok t) (IsLosing []) (IsLosing changed) RefusesToLose
    → Makes g b c r CanMakeChanged AreChangedMade
    → TurnsUnless g a c r (CanRemakeInside reads) (HasMade reads) (λ limit. RefusesToRemake limit reads)
then_made {g = g} {b = b} {c = c} {r = r} {reads = reads} one two =
    turns_then (refusing (λ limit. RefusesToRemake limit reads)) (loses_both one) (record {
      same_reference = two.same_reference;
      ok = λ clean base from. still_ok r _ _ (λ made. record {
        from = from.from;
        can = from.lost.can;
        made = made_since base (seen g b) (seen g c) from.lost made;
        typed = from.typed;
      }) (two.ok clean (seen g b).now (lost_ready base (seen g b) from));
      fails = λ clean base from. if_err r _ _ (λ e h. inl h)
          (two.fails clean (seen g b).now (lost_ready base (seen g b) from));
      stays_open = λ clean base from. two.stays_open clean (seen g b).now (lost_ready base (seen g b) from);
      kept = two.kept;
      survives = two.survives;
    })

-- ---- and get their rows

made_ready : (reads : List FirstRows) (base : Database) (s : State) → HasMade reads base s → CanRefill reads s.now s
made_ready reads base s is = record {
  plan = plan_again base is.can is.from.obeys s is.made is.from.rowids;
  obeys = is.made.obeys;
  is = refl;
  typed = is.typed;
  mode = is.made.mode;
}

filled_remade : (base : Database) (one new : State) (reads : List FirstRows) → HasMade reads base one
    → IsRefilled reads one.now new → IsRemadeInside reads base new
filled_remade base one new reads is filled = record {
  remade = record {
    can = is.can;
    schema = filled.schema ∙ is.made.schema;
    others = others_again base is.can is.from.obeys one is.made new filled.others;
  };
  plan = filled.plan;
  rows_are = filled.rows_are ∙ ap (refilled reads) (rows_again base is.can is.from.obeys one is.made);
  obeys = filled.obeys;
  mode = filled.mode;
}

fill_refused : (limit : Option ℕ) (base : Database) (one : State) (reads : List FirstRows) (e : Error)
    → HasMade reads base one → RefusesToRefill reads limit one.now e → RefusesToRemake limit reads base e
fill_refused limit base one reads e is h = inr (
  is.can,
  subst (λ all. RefusesToFill limit (remade_schema is.can.has.trees base.schema) (refilled reads all) e) (rows_again base is.can is.from.obeys one is.made)
      (subst (λ schema. RefusesToFill limit schema (refilled reads (tables_of one.now.trees)) e) is.made.schema h),
)

pub then_refills : {S T U : Type 0} {g : Ghosts S} {a b c : Transaction S} {t : T} {r : Result U Error}
    {reads : List FirstRows}
    → TurnsUnless g a b (Ok t) (CanRemakeInside reads) (HasMade reads) (λ limit. RefusesToRemake limit reads)
    → TurnsUnless g b c r (CanRefill reads) (IsRefilled reads) (RefusesToRefill reads)
    → TurnsUnless g a c r (CanRemakeInside reads) (IsRemadeInside reads) (λ limit. RefusesToRemake limit reads)
then_refills {g = g} {b = b} {c = c} {r = r} {reads = reads} one two =
    turns_then (refusing (λ limit. RefusesToRemake limit reads)) one (record {
      same_reference = two.same_reference;
      ok = λ clean base from. still_ok r _ _ (filled_remade base (seen g b) (seen g c) reads from)
          (two.ok clean (seen g b).now (made_ready reads base (seen g b) from));
      fails = λ clean base from. if_err r _ _ (λ e. refused_as (RefusesToRefill reads (seen g b).step_limit (seen g b).now)
          (RefusesToRemake (seen g b).step_limit reads base) (seen g b) (seen g c) e
          (fill_refused (seen g b).step_limit base (seen g b) reads e from))
          (two.fails clean (seen g b).now (made_ready reads base (seen g b) from));
      stays_open = λ clean base from. two.stays_open clean (seen g b).now (made_ready reads base (seen g b) from);
      kept = two.kept;
      survives = two.survives;
    })

-- where one of the steps before fails
pub made_stops : {S T U : Type 0} {g : Ghosts S} {a b : Transaction S} {e : Error} {r : Result U Error}
    {reads : List FirstRows}
    → TurnsUnless {T = T} g a b (Err e) (CanRemakeInside reads) (HasMade reads) (λ limit. RefusesToRemake limit reads)
    → IsErrAnd r (λ x. x ≡ e)
    → TurnsUnless g a b r (CanRemakeInside reads) (IsRemadeInside reads) (λ limit. RefusesToRemake limit reads)
made_stops turns is = turns_fail turns is

-- ---- in one transaction

pub remade_once : {S : Type 0} (g : Ghosts S) (reads : List FirstRows) → AreWhole reads → AreAllFirst reads
    → IsOnce g (CanRemakeInside reads) (IsRemadeInside reads)
    (λ base old new. FailsFor (RefusesToRemake old.step_limit reads base) old new) (λ s. CanRemakeOf reads s.now)
    (IsRemadeOnce reads) (λ old. RemakesTo reads old.now)
remade_once g reads whole typed = record {
  starts = λ conn from. record { from = from; is = refl; typed = typed; mode = refl };
  cause = refusing (λ limit. RefusesToRemake limit reads);
  mode = λ base s made. made.mode;
  leaves = λ old mid new from made is. record {
    plan = plan_still mid new is made.plan;
    remade = subst (IsRemadeOf old.now) (sym is) made.remade;
    obeys = subst IsDatabase (sym is) made.obeys;
    rows = remade_again reads old.now whole typed from (tables_of new.now.trees)
        (ap (λ (db : Database). tables_of db.trees) is ∙ made.rows_are);
  };
  left = λ old mid from made. remakes_to reads old.now whole typed from mid made;
}
