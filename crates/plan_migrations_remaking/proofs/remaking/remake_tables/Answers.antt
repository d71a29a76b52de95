use Rattle.std.proofs.Common.{◌∙◌, ap, not, rules}
use Rattle.sqlite.specs.Held.{state}
use Rattle.plan_tables_schema.proofs.OnceLemmas.{ended_in, undone_in, unended_in}
use Rattle.plan_migrations_remaking.proofs.CauseLemmas.{remake_cause}
use Rattle.plan_migrations_remaking.proofs.RemakingLemmas.{remade_once}
use Rattle.plan_migrations_remaking.proofs.remaking.remake_tables.Goals as goal

pub returns-in_err-remake-clause-commits : goal.returns-in_err-remake-clause-commits
returns-in_err-remake-clause-commits g c =
    undone_in (remade_once g.S.Store c.args.reads.now c.requires.whole c.requires.typed) c.args.conn.now c.transaction-tx.result c.remake.new.tx c.transaction-tx.ensures.begun
    (c.is_autocommit-settled.ensures.settled (c.is_autocommit-settled.ensures.value ∙ ap not c.requires.mode))
    c.drop-tx.new.self.0 c.conn-1.given.0 (search rules) c.drop-tx.ensures.ended c.from_residual.result
    c.in_err-remake.ensures c.drop-tx.ensures.survives c.drop-tx.ensures.undone c.from_residual.ensures.1

pub returns-in_err-commit-clause-commits : goal.returns-in_err-commit-clause-commits
returns-in_err-commit-clause-commits g c =
    unended_in (remade_once g.S.Store c.args.reads.now c.requires.whole c.requires.typed) c.args.conn.now c.transaction-tx.result c.remake.new.tx c.transaction-tx.ensures.begun
    (c.is_autocommit-settled.ensures.settled (c.is_autocommit-settled.ensures.value ∙ ap not c.requires.mode))
    c.commit.new.self.0 c.conn-2-1.given.0 (search rules) c.commit.ensures.ended c.from_residual-in_err-commit.result
    c.in_ok-remake.ensures c.commit.ensures.survives c.in_err-commit.ensures.err c.from_residual-in_err-commit.ensures.1

pub returns-clause-commits : goal.returns-clause-commits
returns-clause-commits g c =
    ended_in (remade_once g.S.Store c.args.reads.now c.requires.whole c.requires.typed) c.args.conn.now c.transaction-tx.result c.remake.new.tx c.transaction-tx.ensures.begun
    (c.is_autocommit-settled.ensures.settled (c.is_autocommit-settled.ensures.value ∙ ap not c.requires.mode))
    c.commit.new.self.0 c.conn-2-1.given.0 (search rules) c.commit.ensures.ended _ c.in_ok-remake.ensures
    c.commit.ensures.survives (λ clean. (c.in_ok-commit.ensures.ok clean).1)

pub returns-in_err-remake-clause-device : goal.returns-in_err-remake-clause-device
returns-in_err-remake-clause-device g c clean can =
    remake_cause c.from_residual.result c.args.reads.now (state g.S.Store c.args.conn.now) (state g.S.Store c.conn-1.given.0)
    ((returns-in_err-remake-clause-commits g c).fails clean can)

pub returns-in_err-commit-clause-device : goal.returns-in_err-commit-clause-device
returns-in_err-commit-clause-device g c clean can =
    remake_cause c.from_residual-in_err-commit.result c.args.reads.now (state g.S.Store c.args.conn.now)
    (state g.S.Store c.conn-2-1.given.0) ((returns-in_err-commit-clause-commits g c).fails clean can)
