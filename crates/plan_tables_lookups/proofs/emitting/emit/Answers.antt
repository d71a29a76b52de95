use Rattle.std.proofs.Common.{◌≡◌, ◌∙◌, [], ◌∷◌, ◌++◌, refl, subst, rules, arith, append_assoc}
use Rattle.std.proofs.lemmas.Result.{err_from_is_err_and}
use Rattle.sqlite.specs.State.{HasCleanDisk, Survives, CommitsShowing, FailsToQuery}
use Rattle.sqlite.specs.Held.{state}
use Rattle.sqlite.specs.Values.{bound}
use Rattle.sqlite.proofs.Callers.{unchanged_then}
use Rattle.sqlite.proofs.StateLemmas.{survives_then}
use Rattle.plan_tables_schema.specs.Rows.{MayFail, tables_of}
use Rattle.plan_tables_schema.specs.Schema.{HasTables}
use Rattle.plan_tables_lookups.specs.Looks.{look_sql, question}
use Rattle.plan_tables_lookups.specs.Question.{Answers}
use Rattle.plan_tables_lookups.proofs.AskLemmas.{failed, fails, quiet}
use Rattle.plan_tables_lookups.proofs.EmitLemmas.{fails_then, front, none_yet, takes_more, whole}
use Rattle.plan_tables_lookups.proofs.SomeAnswer.{some_answer}
use Rattle.plan_tables_lookups.proofs.emitting.emit.Goals as goal

pub returns-in_err-rows-clause-part : goal.returns-in_err-rows-clause-part
returns-in_err-rows-clause-part g c clean has =
    let some = some_answer (question c.args.look) (bound c.args.asked.now)
    (tables_of (state g.S.Store c.args.conn.now).now.trees) in
    let p = err_from_is_err_and c.from_residual.result c.from_residual.ensures.1 in
    rw (p.1, p.2) (record { done = []; rest = some.0; whole = some.1; ends = refl })

pub returns-in_err-rows-clause-fails : goal.returns-in_err-rows-clause-fails
returns-in_err-rows-clause-fails g c clean has given =
    let old = state g.S.Store c.args.conn.now in
    let new = state g.S.Store c.query.follows.lender-at-none in
    let held = c.query.follows.holds-at-none in
    let err : FailsToQuery c.look_text.result.now (bound c.args.asked.now) old new c.in_err-rows.field-0.0 = search rules in
    let p = err_from_is_err_and c.from_residual.result c.from_residual.ensures.1 in
    rw (p.1, p.2) (fails c.args.look (bound c.args.asked.now) old new has given c.in_err-rows.field-0.0
    (rw c.look_text.ensures at err))

pub returns-in_err-rows-clause-leaves : goal.returns-in_err-rows-clause-leaves
returns-in_err-rows-clause-leaves g c clean has =
    let old = state g.S.Store c.args.conn.now in
    let new = state g.S.Store c.query.follows.lender-at-none in
    let held = c.query.follows.holds-at-none in
    let err : FailsToQuery c.look_text.result.now (bound c.args.asked.now) old new c.in_err-rows.field-0.0 = search rules in
    failed c.args.look (bound c.args.asked.now) old new has c.in_err-rows.field-0.0 (rw c.look_text.ensures at err)

pub returns-in_err-rows-clause-survives : goal.returns-in_err-rows-clause-survives
returns-in_err-rows-clause-survives g c =
    let old = state g.S.Store c.args.conn.now in
    let new = state g.S.Store c.query.follows.lender-at-none in
    let held = c.query.follows.holds-at-none in
    let kept : Survives old new (CommitsShowing c.look_text.result.now (bound c.args.asked.now) old) = search rules in
    quiet c.args.look (bound c.args.asked.now) old new (rw c.look_text.ensures at kept)

pub rows-init : goal.rows-init
rows-init g c = (
  refl,
  quiet c.args.look (bound c.args.asked.now) (state g.S.Store c.args.conn.now) (state g.S.Store c.in_ok-rows.rows.conn.now)
      (rw c.look_text.ensures at c.in_ok-rows.ensures.survives),
  c.in_ok-rows.ensures.mode,
  (
    [],
    refl,
    λ clean has. none_yet g.S.Store c.args.look (bound c.args.asked.now) c.args.conn.now c.in_ok-rows.rows.conn.now has
        (rw c.look_text.ensures at (c.in_ok-rows.ensures.begun clean)),
  ),
)

pub returns-in_err-advance-clause-part : goal.returns-in_err-advance-clause-part
returns-in_err-advance-clause-part g c clean has =
    let late : HasCleanDisk (state g.S.Store c.advance.new.self.conn.now) = search rules in
    let before : HasCleanDisk (state g.S.Store c.rows.rows.conn.now) = omega
    (arith, late, c.advance.ensures.survives.clean) in
    let was = c.rows.invariant.3.2 before has in
    let given = c.rows.invariant.3.0 in
    let more = front g.S.Store c.args.look (bound c.args.asked.now)
    (state g.S.Store c.args.conn.now) c.rows.rows.conn.now has
    c.schema.ensures.live was.1 given was.0 in
    let p = err_from_is_err_and c.from_residual-in_err-advance.result c.from_residual-in_err-advance.ensures.1 in
    rw (p.1, p.2) (record { done = given; rest = more.0; whole = more.1; ends = c.rows.invariant.3.1 })

pub returns-in_err-advance-clause-fails : goal.returns-in_err-advance-clause-fails
returns-in_err-advance-clause-fails g c clean has asked =
    let late : HasCleanDisk (state g.S.Store c.advance.new.self.conn.now) = search rules in
    let before : HasCleanDisk (state g.S.Store c.rows.rows.conn.now) = omega
    (arith, late, c.advance.ensures.survives.clean) in
    let was = c.rows.invariant.3.2 before has in
    let err = c.in_err-advance.ensures.err late (look_sql c.args.look)
    (bound c.args.asked.now) c.rows.invariant.3.0 was.0 in
    let failed : MayFail (state g.S.Store c.args.conn.now)
    (state g.S.Store c.advance.new.self.conn.now) c.in_err-advance.field-0.0 =
    fails_then g.S.Store c.args.look (bound c.args.asked.now) (state g.S.Store c.args.conn.now) c.rows.rows.conn.now has
    c.schema.ensures.live was.1 (state g.S.Store c.advance.new.self.conn.now) c.in_err-advance.field-0.0
    c.rows.invariant.1.counts
    c.rows.invariant.1.limit asked err in
    search rules

pub returns-in_err-advance-clause-survives : goal.returns-in_err-advance-clause-survives
returns-in_err-advance-clause-survives g c =
    let all : Survives (state g.S.Store c.args.conn.now) (state g.S.Store c.advance.new.self.conn.now)
    (λ _. HasTables c.args.conn.now.schema → ⊥) = survives_then _ (state g.S.Store c.rows.rows.conn.now) _ _ (λ _. ⊥) _
    (λ _ _ h. h) (λ _ _ h. absurd h) c.rows.invariant.1 c.advance.ensures.survives in
    let same : c.advance.new.self.conn.now ≡ c.conn-in_err-advance-1.given.0 = search rules in
    subst (λ h. Survives (state g.S.Store c.args.conn.now) (state g.S.Store h)
    (λ _. HasTables c.args.conn.now.schema → ⊥)) same all

pub returns-in_default-clause-all : goal.returns-in_default-clause-all
returns-in_default-clause-all g c clean has =
    let late : HasCleanDisk (state g.S.Store c.advance.new.self.conn.now) = search rules in
    let before : HasCleanDisk (state g.S.Store c.rows.rows.conn.now) = omega
    (arith, late, c.advance.ensures.survives.clean) in
    let was = c.rows.invariant.3.2 before has in
    let given = c.rows.invariant.3.0 in
    let shown = (rw (← c.get.ensures, c.in_default.is) at (c.in_ok-advance.ensures.ok late)) (look_sql c.args.look)
    (bound c.args.asked.now) given was.0 in
    record {
      rows = given;
      whole = whole g.S.Store c.args.look (bound c.args.asked.now)
          (state g.S.Store c.args.conn.now) c.rows.rows.conn.now has
          c.schema.ensures.live was.1 (state g.S.Store c.advance.new.self.conn.now) given shown;
      taken = c.rows.invariant.3.1;
    }

pub returns-in_default-clause-survives : goal.returns-in_default-clause-survives
returns-in_default-clause-survives g c =
    let all : Survives (state g.S.Store c.args.conn.now) (state g.S.Store c.advance.new.self.conn.now)
    (λ _. HasTables c.args.conn.now.schema → ⊥) = survives_then _ (state g.S.Store c.rows.rows.conn.now) _ _ (λ _. ⊥) _
    (λ _ _ h. h) (λ _ _ h. absurd h) c.rows.invariant.1 c.advance.ensures.survives in
    let same : c.advance.new.self.conn.now ≡ c.conn-in_default-1.given.0 = search rules in
    subst (λ h. Survives (state g.S.Store c.args.conn.now) (state g.S.Store h)
    (λ _. HasTables c.args.conn.now.schema → ⊥)) same all

pub returns-in-Err-clause-part : goal.returns-in-Err-clause-part
returns-in-Err-clause-part g c clean has =
    let late : HasCleanDisk (state g.S.Store c.advance.new.self.conn.now) = search rules in
    let before : HasCleanDisk (state g.S.Store c.rows.rows.conn.now) = omega
    (arith, late, c.advance.ensures.survives.clean) in
    let was = c.rows.invariant.3.2 before has in
    let row = c.in-Some.row.now in
    let given = c.rows.invariant.3.0 in
    let has_given = (rw (← c.get.ensures, c.in-Some.is) at (c.in_ok-advance.ensures.ok late)) (look_sql c.args.look)
    (bound c.args.asked.now) given was.0 in
    let more = front g.S.Store c.args.look (bound c.args.asked.now)
    (state g.S.Store c.args.conn.now) c.advance.new.self.conn.now
    has c.schema.ensures.live (unchanged_then _ _ _ was.1 (c.in_ok-advance.ensures.same late))
    (given ++ row ∷ []) has_given in
    record {
      done = given;
      rest = row ∷ more.0;
      whole = subst (Answers (question c.args.look) (bound c.args.asked.now) _)
          (append_assoc given (row ∷ []) more.0) more.1;
      ends = (c.rows.sink, row, more.0, refl, c.rows.invariant.3.1, c.in-Err.ensures.refused);
    }

pub returns-in-Err-clause-survives : goal.returns-in-Err-clause-survives
returns-in-Err-clause-survives g c =
    let all : Survives (state g.S.Store c.args.conn.now) (state g.S.Store c.advance.new.self.conn.now)
    (λ _. HasTables c.args.conn.now.schema → ⊥) = survives_then _ (state g.S.Store c.rows.rows.conn.now) _ _ (λ _. ⊥) _
    (λ _ _ h. h) (λ _ _ h. absurd h) c.rows.invariant.1 c.advance.ensures.survives in
    let same : c.advance.new.self.conn.now ≡ c.conn-in-Err-1.given.0 = search rules in
    subst (λ h. Survives (state g.S.Store c.args.conn.now) (state g.S.Store h)
    (λ _. HasTables c.args.conn.now.schema → ⊥)) same all

pub rows-preserved : goal.rows-preserved
rows-preserved g c =
    let row = c.in-Some.row.now in
    let given = c.rows.invariant.3.0 in (
      c.advance.ensures.same_reference ∙ c.rows.invariant.0,
      survives_then _ (state g.S.Store c.rows.rows.conn.now) _ _ (λ _. ⊥) _ (λ _ _ h. h) (λ _ _ h. absurd h)
          c.rows.invariant.1 c.advance.ensures.survives,
      (λ out. c.advance.ensures.mode (c.rows.invariant.2 out)),
      (
        given ++ row ∷ [],
        takes_more g.K.ValuesSink.accepts c.args.sink.now given c.rows.sink row c.accept.new.self c.rows.invariant.3.1
            c.in_default-accept.ensures.taken,
        λ clean has.
            let before : HasCleanDisk (state g.S.Store c.rows.rows.conn.now) = omega
            (arith, clean, c.advance.ensures.survives.clean) in
            let was = c.rows.invariant.3.2 before has in (
              (rw (← c.get.ensures, c.in-Some.is) at (c.in_ok-advance.ensures.ok clean)) (look_sql c.args.look)
                  (bound c.args.asked.now) given was.0,
              unchanged_then _ _ _ was.1 (c.in_ok-advance.ensures.same clean),
            ),
      ),
    )

pub returns-clause-part : goal.returns-clause-part
returns-clause-part g c clean has =
    let before : HasCleanDisk (state g.S.Store c.rows.rows.conn.now) = search rules in
    let was = c.rows.invariant.3.2 before has in
    let given = c.rows.invariant.3.0 in
    let more = front g.S.Store c.args.look (bound c.args.asked.now)
    (state g.S.Store c.args.conn.now) c.rows.rows.conn.now has
    c.schema.ensures.live was.1 given was.0 in
    record { done = given; rest = more.0; whole = more.1; ends = c.rows.invariant.3.1 }
