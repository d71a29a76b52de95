use Rattle.std.proofs.Common.{◌≡◌, ◌↔◌, ◌∙◌, ◌++◌, List, ap, subst, sym}
use Rattle.std.specs.List.{Contains}
use Rattle.std.proofs.lemmas.Result.{on_ok_weaker}
use Rattle.plan_store_lists.specs.Keyed.{AreApart}
use Rattle.plan_store_lists.proofs.RowBlockLemmas.{apart_as, keyed_from}
use Rattle.plan_store_lists.proofs.RowListLemmas.{keyed_apart, once_apart, same_room}
use Rattle.plan_store_lists.proofs.row_lists.reserve_any.Goals as goal

pub reserve_rows-requires-clause-sorted : goal.reserve_rows-requires-clause-sorted
reserve_rows-requires-clause-sorted g c =
    keyed_from g.T.PlanRow.row_of g.T.Key.Ord.cmp g.T.Keyed.key_of g.met.T.PlanRow.ordered c.args.rows.now
    (c.are_keyed.ensures.0 c.if-are_keyed.true)

pub reserve_rows-requires-2-clause-sorted : goal.reserve_rows-requires-2-clause-sorted
reserve_rows-requires-2-clause-sorted g c =
    let row_of = g.T.PlanRow.row_of in
    let rows = c.args.rows.now in
    let all : c.extend_from_slice.new.self.items ≡ rows = c.in_ok-extend_from_slice.ensures.items
    ∙ ap (λ (l : List g.row.T.Denot). l ++ rows) c.new-sorted.ensures.items in
    rw c.deref.ensures.value (keyed_from row_of g.T.Key.Ord.cmp g.T.Keyed.key_of g.met.T.PlanRow.ordered
    c.sort.new.list.items (c.sort.ensures.keyed (subst (AreApart g.T.Keyed.key_of) (sym all)
    (apart_as row_of g.T.Key.Ord.cmp g.T.Keyed.key_of g.met.T.PlanRow.ordered g.met.T.Key.Ord.total g.met.T.Keyed.ties
    rows (once_apart row_of rows c.requires.once)))))

pub returns-clause-room : goal.returns-clause-room
returns-clause-room g c =
    let row_of = g.T.PlanRow.row_of in
    let rows = c.args.rows.now in
    let sorted = c.sort.new.list.items in
    let all : c.extend_from_slice.new.self.items ≡ rows = c.in_ok-extend_from_slice.ensures.items
    ∙ ap (λ (l : List g.row.T.Denot). l ++ rows) c.new-sorted.ensures.items in
    let keyed = keyed_from row_of g.T.Key.Ord.cmp g.T.Keyed.key_of g.met.T.PlanRow.ordered sorted
    (c.sort.ensures.keyed (subst (AreApart g.T.Keyed.key_of) (sym all)
    (apart_as row_of g.T.Key.Ord.cmp g.T.Keyed.key_of g.met.T.PlanRow.ordered g.met.T.Key.Ord.total g.met.T.Keyed.ties
    rows (once_apart row_of rows c.requires.once)))) in
    let same : (x : g.row.T.Denot) → Contains sorted x ↔ Contains rows x =
    subst (λ (l : List g.row.T.Denot). (x : g.row.T.Denot) → Contains sorted x ↔ Contains l x) all
    c.sort.ensures.same in
    on_ok_weaker c.reserve_rows-2.result (same_room row_of rows sorted (once_apart row_of rows c.requires.once)
    (keyed_apart row_of sorted keyed) same c.reserve_rows-2.new.list.blocks.items)
    (rw c.deref.ensures.value at c.reserve_rows-2.ensures.room)
