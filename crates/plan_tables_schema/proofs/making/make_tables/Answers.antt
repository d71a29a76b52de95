use Rattle.std.proofs.Common.{◌∙◌, ap, not, rules}
use Rattle.plan_tables_schema.proofs.MakingLemmas.{made_once}
use Rattle.plan_tables_schema.proofs.OnceLemmas.{ended_in, undone_in, unended_in}
use Rattle.plan_tables_schema.proofs.making.make_tables.Goals as goal

pub returns-in_err-make_all : goal.returns-in_err-make_all
returns-in_err-make_all g c =
    undone_in (made_once g.S.Store) c.args.conn.now c.transaction-tx.result c.make_all.new.tx
    c.transaction-tx.ensures.begun (c.is_autocommit-settled.ensures.settled (c.is_autocommit-settled.ensures.value
    ∙ ap not c.requires)) c.drop-tx.new.self.0 c.conn-1.given.0 (search rules) c.drop-tx.ensures.ended
    c.from_residual.result c.in_err-make_all.ensures c.drop-tx.ensures.survives c.drop-tx.ensures.undone
    c.from_residual.ensures.1

pub returns-in_err-commit : goal.returns-in_err-commit
returns-in_err-commit g c =
    unended_in (made_once g.S.Store) c.args.conn.now c.transaction-tx.result c.make_all.new.tx
    c.transaction-tx.ensures.begun (c.is_autocommit-settled.ensures.settled (c.is_autocommit-settled.ensures.value
    ∙ ap not c.requires)) c.commit.new.self.0 c.conn-2-1.given.0 (search rules) c.commit.ensures.ended
    c.from_residual-in_err-commit.result c.in_ok-make_all.ensures c.commit.ensures.survives c.in_err-commit.ensures.err
    c.from_residual-in_err-commit.ensures.1

pub returns : goal.returns
returns g c =
    ended_in (made_once g.S.Store) c.args.conn.now c.transaction-tx.result c.make_all.new.tx
    c.transaction-tx.ensures.begun (c.is_autocommit-settled.ensures.settled (c.is_autocommit-settled.ensures.value
    ∙ ap not c.requires)) c.commit.new.self.0 c.conn-2-1.given.0 (search rules) c.commit.ensures.ended
    _ c.in_ok-make_all.ensures c.commit.ensures.survives (λ clean. (c.in_ok-commit.ensures.ok clean).1)
