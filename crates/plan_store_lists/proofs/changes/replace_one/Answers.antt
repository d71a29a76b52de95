use Rattle.plan_store_lists.proofs.KeyLemmas.{missed_all}
use Rattle.plan_store_lists.proofs.EditLemmas.{set_keyed, set_has, set_contains}
use Rattle.plan_store_lists.proofs.changes.replace_one.Goals as goal

pub returns-in-Ok-clause-keyed : goal.returns-in-Ok-clause-keyed
returns-in-Ok-clause-keyed g c =
    let taken = rw (c.as_slice.ensures.value, c.key.ensures) at c.in-Ok.ensures.taken in
    set_keyed g.met.T.Key.Ord.total g.met.T.Keyed.ties g.T.Keyed.key_of c.args.list.now.items c.requires.keyed
    c.args.item c.in-Ok.at taken.0 taken.1

pub returns-in-Ok-clause-stand : goal.returns-in-Ok-clause-stand
returns-in-Ok-clause-stand g c =
    let taken = rw (c.as_slice.ensures.value, c.key.ensures) at c.in-Ok.ensures.taken in
    set_has g.met.T.Key.Ord.total g.met.T.Keyed.ties g.T.Keyed.key_of c.args.list.now.items c.requires.keyed c.args.item
    c.in-Ok.at taken.0 taken.1

pub returns-in-Ok-clause-replaced : goal.returns-in-Ok-clause-replaced
returns-in-Ok-clause-replaced g c =
    let taken = rw (c.as_slice.ensures.value, c.key.ensures) at c.in-Ok.ensures.taken in
    set_contains g.met.T.Key.Ord.total g.met.T.Keyed.ties g.T.Keyed.key_of c.args.list.now.items c.requires.keyed
    c.args.item c.in-Ok.at taken.0 taken.1

pub returns-in-Err-clause-replaced : goal.returns-in-Err-clause-replaced
returns-in-Err-clause-replaced g c =
    let free = (rw (c.as_slice.ensures.value, c.key.ensures) at c.in-Err.ensures.free) c.requires.keyed in
    let has = c.requires.stands in
    absurd (missed_all g.met.T.Key.Ord.total g.met.T.Keyed.ties g.T.Keyed.key_of c.args.list.now.items
    (g.T.Keyed.key_of c.args.item) c.in-Err._at free.1 has.0 has.1 has.2)
