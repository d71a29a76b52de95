use Rattle.std.proofs.Common.{◌≡◌, suc, ◌+◌, ◌∷◌, [], ◌++◌, ◌∙◌, ap, sym, subst, take, drop, map, Bor}
use Rattle.std.proofs.lemmas.List.{map_more}
use Rattle.plan_store.specs.Listed.{shown_as}
use Rattle.plan_store.specs.Listings.{AcceptsAll}
use Rattle.plan_store.proofs.ListedLemmas.{map_rest, map_split, refused_apart, takes_more}
use Rattle.plan_store.proofs.listed.emit_each.Goals as goal

pub loop-x-preserved : goal.loop-x-preserved
loop-x-preserved g c =
    let rows = c.args.rows.now in
    let i = c.loop-x.x-index in
    let x = c.x-item.result in
    let f = λ (b : Bor g.row.T.Denot). shown_as g.T.PlanRow.row_of g.T.Lettered.letter_of c.args.is_plain b.now in
    let more : map f (take (i + 1) rows) ≡ map f (take i rows) ++ f x ∷ [] = map_more f rows i x c.loop-x-test.true
    ∙ ap (λ b. map f (take i rows) ++ f b ∷ []) (sym c.x-item.is) in
    subst (λ l. AcceptsAll g.K.RowSink.accepts c.args.sink.now l c.emit.new.sink) (sym more)
    (takes_more g.K.RowSink.accepts c.args.sink.now (map f (take i rows)) c.loop-x.sink (f x) c.emit.new.sink
    c.loop-x.invariant c.in-Ok.ensures.taken)

pub returns-in-Err-clause-part : goal.returns-in-Err-clause-part
returns-in-Err-clause-part g c =
    let rows = c.args.rows.now in
    let i = c.loop-x.x-index in
    let x = c.x-item.result in
    let f = λ (b : Bor g.row.T.Denot). shown_as g.T.PlanRow.row_of g.T.Lettered.letter_of c.args.is_plain b.now in
    record {
      done = map f (take i rows);
      rest = map f (drop i rows);
      parts = map_split f i rows;
      ends = (
        c.loop-x.sink,
        f x,
        map f (drop (suc i) rows),
        map_rest f i rows x c.loop-x-test.true c.x-item.is,
        c.loop-x.invariant,
        c.in-Err.ensures.refused,
      );
    }

pub returns-in-Err-clause-blames : goal.returns-in-Err-clause-blames
returns-in-Err-clause-blames g c = refused_apart c.in-Err.fault
