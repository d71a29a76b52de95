use Rattle.std.proofs.Common.{◌≡◌, ◌+◌, ◌++◌, ◌∷◌, ◌∙◌, ℕ, List, Ok, [], ap, arith, subst, sym, take}
use Rattle.std.proofs.lemmas.List.{take_all, take_more}
use Rattle.plan_store.specs.Contents.{content_of}
use Rattle.plan_store.specs.Parts.{Knows, Rest}
use Rattle.planner_machine.specs.Content.{Content}
use Rattle.plan_tables_windows.specs.Fetching.{Fetches}
use Rattle.plan_tables_windows.proofs.EachLemmas.{Each, each_more, each_none, each_stops, knows_still}
use Rattle.plan_tables_windows.proofs.fetching.find_each_completed.Goals as goal

abbrev Is : ℕ → Rest → Content → Type 0
Is serial rest now = Knows rest now serial

pub loop-serial-init : goal.loop-serial-init
loop-serial-init g c = each_none g.S.Store Is c.args.conn.now (content_of c.args.lists.now)

-- one more serial
pub loop-serial-preserved : goal.loop-serial-preserved
loop-serial-preserved g c =
    let all = c.args.serials.now in
    let index = c.loop-serial.serial-index in
    let serial = c.serial-item.result in
    let front : take (index + 1) all ≡ take index all ++ serial ∷ [] =
    take_more all index serial c.loop-serial-test.true ∙ ap (λ x. take index all ++ x ∷ []) (sym c.serial-item.is) in
    subst (λ (l : List ℕ). Fetches {T = Unit {0}} g.S.Store c.args.conn.now c.find_completed.new.conn
    (content_of c.args.lists.now) (content_of c.find_completed.new.lists) (Ok tt) (Each Is l)) (sym front)
    (each_more g.S.Store Is knows_still c.args.conn.now c.loop-serial.conn c.find_completed.new.conn
    (content_of c.args.lists.now) (content_of c.loop-serial.lists) (content_of c.find_completed.new.lists)
    (take index all) serial c.loop-serial.invariant c.in_ok-find_completed.ensures)

pub returns-in_err-find_completed : goal.returns-in_err-find_completed
returns-in_err-find_completed g c =
    each_stops g.S.Store Is knows_still c.args.conn.now c.loop-serial.conn c.find_completed.new.conn
    (content_of c.args.lists.now) (content_of c.loop-serial.lists) (content_of c.find_completed.new.lists)
    (take c.loop-serial.serial-index c.args.serials.now) c.serial-item.result c.loop-serial.invariant c.in_err-find_completed.field-0.0
    (Each Is c.args.serials.now) c.in_err-find_completed.ensures c.from_residual.result
    c.from_residual.ensures.1

-- all serials
pub returns : goal.returns
returns g c =
    subst (λ (l : List ℕ). Fetches {T = Unit {0}} g.S.Store c.args.conn.now c.loop-serial.conn
    (content_of c.args.lists.now) (content_of c.loop-serial.lists) (Ok tt) (Each Is l))
    (take_all c.loop-serial.serial-index c.args.serials.now (omega arith)) c.loop-serial.invariant
