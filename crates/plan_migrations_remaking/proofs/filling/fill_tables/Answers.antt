use Rattle.std.proofs.Common.{◌∙◌, ap, not, rules}
use Rattle.plan_tables_schema.proofs.OnceLemmas.{ended_in, undone_in, unended_in}
use Rattle.plan_migrations_remaking.proofs.FillLemmas.{filled_once}
use Rattle.plan_migrations_remaking.proofs.filling.fill_tables.Goals as goal

pub returns-in_err-fill : goal.returns-in_err-fill
returns-in_err-fill g c =
    undone_in (filled_once g.S.Store c.args.reads.now c.requires.whole c.requires.typed) c.args.conn.now c.transaction-tx.result c.fill.new.tx c.transaction-tx.ensures.begun
    (c.is_autocommit-settled.ensures.settled (c.is_autocommit-settled.ensures.value ∙ ap not c.requires.mode))
    c.drop-tx.new.self.0 c.conn-1.given.0 (search rules) c.drop-tx.ensures.ended c.from_residual.result
    c.in_err-fill.ensures c.drop-tx.ensures.survives c.drop-tx.ensures.undone c.from_residual.ensures.1

pub returns-in_err-commit : goal.returns-in_err-commit
returns-in_err-commit g c =
    unended_in (filled_once g.S.Store c.args.reads.now c.requires.whole c.requires.typed) c.args.conn.now c.transaction-tx.result c.fill.new.tx c.transaction-tx.ensures.begun
    (c.is_autocommit-settled.ensures.settled (c.is_autocommit-settled.ensures.value ∙ ap not c.requires.mode))
    c.commit.new.self.0 c.conn-2-1.given.0 (search rules) c.commit.ensures.ended c.from_residual-in_err-commit.result
    c.in_ok-fill.ensures c.commit.ensures.survives c.in_err-commit.ensures.err c.from_residual-in_err-commit.ensures.1

pub returns : goal.returns
returns g c =
    ended_in (filled_once g.S.Store c.args.reads.now c.requires.whole c.requires.typed) c.args.conn.now c.transaction-tx.result c.fill.new.tx c.transaction-tx.ensures.begun
    (c.is_autocommit-settled.ensures.settled (c.is_autocommit-settled.ensures.value ∙ ap not c.requires.mode))
    c.commit.new.self.0 c.conn-2-1.given.0 (search rules) c.commit.ensures.ended _ c.in_ok-fill.ensures
    c.commit.ensures.survives (λ clean. (c.in_ok-commit.ensures.ok clean).1)
