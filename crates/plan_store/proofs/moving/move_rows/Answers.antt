use Rattle.plan_store_lists.proofs.RowBlockLemmas.{apart_as, keyed_from}
use Rattle.plan_store_lists.proofs.RowListLemmas.{keyed_apart, same_row_room}
use Rattle.plan_store.proofs.MoveLemmas.{apart_from_once, changed_stand, gone_stand, look_moved, one_new, put_new}
use Rattle.plan_store.proofs.moving.move_rows.Goals as goal

pub remove-requires-clause-sorted : goal.remove-requires-clause-sorted
remove-requires-clause-sorted g c =
    let cmp = g.T.Key.Ord.cmp in
    let key = g.T.Keyed.key_of in
    let row_of = g.T.PlanRow.row_of in
    let ordered = g.met.T.PlanRow.ordered in
    let gone = c.args.moves.gone.items in
    rw c.deref.ensures.value (keyed_from row_of cmp key ordered c.sort.new.list.items (c.sort.ensures.keyed
    (apart_as row_of cmp key ordered g.met.T.Key.Ord.total g.met.T.Keyed.ties gone
    (apart_from_once row_of gone c.requires.fits.gone_once))))

pub remove-requires-clause-stand : goal.remove-requires-clause-stand
remove-requires-clause-stand g c =
    let moves = c.args.moves in
    rw c.deref.ensures.value (gone_stand g.T.PlanRow.row_of moves c.args.list.now.items c.sort.new.list.items
    moves.changed.items c.sort-2.new.list.items c.requires.rows.one_each c.sort.ensures.same
    (λ x. ((λ there. there), λ there. there)) c.sort-2.ensures.same c.requires.fits)

pub replace-requires-clause-apart : goal.replace-requires-clause-apart
replace-requires-clause-apart g c =
    rw c.deref-2.ensures.value (apart_from_once g.T.PlanRow.row_of c.args.moves.changed.items
    c.requires.fits.changed_once)

pub replace-requires-clause-stand : goal.replace-requires-clause-stand
replace-requires-clause-stand g c =
    let moves = c.args.moves in
    rw c.deref-2.ensures.value (changed_stand g.T.PlanRow.row_of moves c.args.list.now.items c.sort.new.list.items
    moves.changed.items c.sort-2.new.list.items c.requires.rows.one_each c.sort.ensures.same
    (λ x. ((λ there. there), λ there. there)) c.sort-2.ensures.same c.requires.fits c.remove.new.self.items
    (rw c.deref.ensures.value at c.remove.ensures.removed))

pub insert-requires-clause-sorted : goal.insert-requires-clause-sorted
insert-requires-clause-sorted g c =
    let cmp = g.T.Key.Ord.cmp in
    let key = g.T.Keyed.key_of in
    let row_of = g.T.PlanRow.row_of in
    let ordered = g.met.T.PlanRow.ordered in
    let put = c.args.moves.put.items in
    rw c.deref-3.ensures.value (keyed_from row_of cmp key ordered c.sort-2.new.list.items (c.sort-2.ensures.keyed
    (apart_as row_of cmp key ordered g.met.T.Key.Ord.total g.met.T.Keyed.ties put
    (apart_from_once row_of put c.requires.fits.put_once))))

pub insert-requires-clause-new : goal.insert-requires-clause-new
insert-requires-clause-new g c =
    let moves = c.args.moves in
    rw c.deref-3.ensures.value (put_new g.T.PlanRow.row_of moves c.args.list.now.items c.sort.new.list.items
    moves.changed.items c.sort-2.new.list.items c.requires.rows.one_each c.sort.ensures.same
    (λ x. ((λ there. there), λ there. there)) c.sort-2.ensures.same c.requires.fits c.remove.new.self.items
    (rw c.deref.ensures.value at c.remove.ensures.removed) c.replace.new.self.items
    (rw c.deref-2.ensures.value at c.replace.ensures.replaced))

pub insert-requires-clause-room : goal.insert-requires-clause-room
insert-requires-clause-room g c =
    let cmp = g.T.Key.Ord.cmp in
    let key = g.T.Keyed.key_of in
    let row_of = g.T.PlanRow.row_of in
    let ordered = g.met.T.PlanRow.ordered in
    let put = c.args.moves.put.items in
    let sorted = c.sort-2.new.list.items in
    let apart = apart_from_once row_of put c.requires.fits.put_once in
    let keyed = keyed_from row_of cmp key ordered sorted (c.sort-2.ensures.keyed
    (apart_as row_of cmp key ordered g.met.T.Key.Ord.total g.met.T.Keyed.ties put apart)) in
    rw c.deref-3.ensures.value (same_row_room row_of sorted put (keyed_apart row_of sorted keyed) apart
    (λ x. ((c.sort-2.ensures.same x).1, (c.sort-2.ensures.same x).0)) c.replace.new.self
    (c.replace.ensures.stays put (c.remove.ensures.stays put c.requires.room)))

pub returns-clause-rows : goal.returns-clause-rows
returns-clause-rows g c =
    let moves = c.args.moves in
    record {
      keyed = c.insert.ensures.keyed;
      one_each = one_new g.T.PlanRow.row_of moves c.args.list.now.items c.sort.new.list.items moves.changed.items
          c.sort-2.new.list.items c.requires.rows.one_each c.sort.ensures.same
          (λ x. ((λ there. there), λ there. there)) c.sort-2.ensures.same c.requires.fits c.remove.new.self.items
          (rw c.deref.ensures.value at c.remove.ensures.removed) c.replace.new.self.items
          (rw c.deref-2.ensures.value at c.replace.ensures.replaced) c.insert.new.self.items
          (rw c.deref-3.ensures.value at c.insert.ensures.inserted);
    }

pub returns-clause-moved : goal.returns-clause-moved
returns-clause-moved g c =
    let moves = c.args.moves in
    look_moved g.T.PlanRow.row_of moves c.args.list.now.items c.sort.new.list.items moves.changed.items
    c.sort-2.new.list.items c.requires.rows.one_each c.sort.ensures.same (λ x. ((λ there. there), λ there. there))
    c.sort-2.ensures.same c.requires.fits c.remove.new.self.items
    (rw c.deref.ensures.value at c.remove.ensures.removed) c.replace.new.self.items
    (rw c.deref-2.ensures.value at c.replace.ensures.replaced) c.insert.new.self.items
    (rw c.deref-3.ensures.value at c.insert.ensures.inserted)
