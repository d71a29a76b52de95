use Rattle.std.proofs.Common.{◌∙◌, ap, not, rules}
use Rattle.plan_tables_writing.proofs.TakingLemmas.{written_not, written_so, written_unended}
use Rattle.plan_tables_writing.proofs.writing.commit_change.Goals as goal

pub returns-in_err-write_change : goal.returns-in_err-write_change
returns-in_err-write_change g c =
    written_not g.S.Store c.args.conn.now c.transaction-tx.result c.write_change.new.tx c.transaction-tx.ensures.begun
    c.schema.ensures.live (c.is_autocommit-settled.ensures.settled (c.is_autocommit-settled.ensures.value
    ∙ ap not c.requires.mode)) (λ all. c.requires.storable) (λ all accepts. (c.requires.storable, accepts)) _
    c.drop-tx.new.self.0 c.conn-1.given.0 (search rules) c.drop-tx.ensures.ended c.from_residual.result
    c.in_err-write_change.ensures c.drop-tx.ensures.survives c.drop-tx.ensures.undone c.from_residual.ensures.1

pub returns-in_err-commit : goal.returns-in_err-commit
returns-in_err-commit g c =
    written_unended g.S.Store c.args.conn.now c.transaction-tx.result c.write_change.new.tx
    c.transaction-tx.ensures.begun c.schema.ensures.live (c.is_autocommit-settled.ensures.settled
    (c.is_autocommit-settled.ensures.value ∙ ap not c.requires.mode)) (λ all. c.requires.storable)
    (λ all accepts. (c.requires.storable, accepts)) _ c.commit.new.self.0 c.conn-2-1.given.0 (search rules)
    c.commit.ensures.ended c.in_ok-write_change.ensures c.commit.ensures.survives c.from_residual-in_err-commit.result
    c.in_err-commit.ensures.err c.from_residual-in_err-commit.ensures.1

pub returns : goal.returns
returns g c =
    written_so g.S.Store c.args.conn.now c.transaction-tx.result c.write_change.new.tx c.transaction-tx.ensures.begun
    c.schema.ensures.live (c.is_autocommit-settled.ensures.settled (c.is_autocommit-settled.ensures.value
    ∙ ap not c.requires.mode)) (λ all. c.requires.storable) (λ all accepts. (c.requires.storable, accepts)) _
    c.commit.new.self.0 c.conn-2-1.given.0 (search rules) c.commit.ensures.ended c.in_ok-write_change.ensures
    c.commit.ensures.survives _ (λ clean. (c.in_ok-commit.ensures.ok clean).1)
