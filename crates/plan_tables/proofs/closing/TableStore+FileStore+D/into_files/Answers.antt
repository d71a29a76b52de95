use Rattle.sqlite.specs.Files.{file_state}
use Rattle.plan_store.specs.Contents.{content_of}
use Rattle.plan_tables.specs.Kept.{kept_in}
use Rattle.plan_tables.proofs.FoundLemmas.{found_again, found_left, holds_left}
use Rattle.plan_tables.proofs.closing.TableStore+FileStore+D.into_files.Goals as goal

pub returns-clause-opens_again : goal.returns-clause-opens_again
returns-clause-opens_again g c clean =
    holds_left c.args.self.session.conn c.into_store.result (c.into_store.ensures.numbered clean)
    (c.into_store.ensures.sound clean) c.into_store.ensures.left (c.into_store.ensures.plans clean)

pub returns-clause-goes_on : goal.returns-clause-goes_on
returns-clause-goes_on g c clean =
    found_left c.args.self.session.conn c.into_store.result c.tables_have_one_content.ensures
    (c.into_store.ensures.numbered clean) (c.into_store.ensures.sound clean) c.into_store.ensures.left
    (c.into_store.ensures.plans clean)

pub returns-clause-found_again : goal.returns-clause-found_again
returns-clause-found_again g c none sure clean =
    found_again c.into_store.result (kept_in (file_state c.args.self.session.conn) (content_of c.args.self.lists)) c.tables_have_one_content.ensures
    (c.into_store.ensures.numbered clean) (c.into_store.ensures.sound clean) (c.into_store.ensures.tells none sure clean)
