use Rattle.std.proofs.Common.{Ok, subst, sym}
use Rattle.plan_store.specs.Contents.{content_of}
use Rattle.plan_tables_windows.specs.Windows.{IsReadyFor}
use Rattle.plan_tables_windows.proofs.FetchLemmas.{gathers_none}
use Rattle.plan_tables_windows.proofs.needs.load_for_need.Goals as goal

pub returns-in-Definitions : goal.returns-in-Definitions
returns-in-Definitions g c =
    let lists = content_of c.args.lists.now in
    gathers_none g.S.Store c.args.conn.now lists (Ok tt) (λ rest l. IsReadyFor rest c.args.need.now l) tt
    (λ rest part sound. subst (λ n. IsReadyFor rest n lists) (sym c.in-Definitions.is) tt)

pub returns-in-Daily : goal.returns-in-Daily
returns-in-Daily g c =
    let lists = content_of c.args.lists.now in
    gathers_none g.S.Store c.args.conn.now lists (Ok tt) (λ rest l. IsReadyFor rest c.args.need.now l) tt
    (λ rest part sound. subst (λ n. IsReadyFor rest n lists) (sym c.in-Daily.is) tt)

pub returns-in-LongTerm : goal.returns-in-LongTerm
returns-in-LongTerm g c = rw c.in-LongTerm.is (rw c.in-LongTerm.is at c.find_asked.ensures)
