use Rattle.std.proofs.Common.{◌≡◌, ◌∙◌, IsTrue, ap, subst}
use Rattle.std.proofs.Math.Logic.{∥∥₁_map}
use Rattle.sqlite.specs.Files.{file_state}
use Rattle.sqlite.specs.Held.{Held}
use Rattle.sqlite.specs.State.{HasCleanDisk}
use Rattle.sqlite_store.specs.declared.store.FileStore.{FileStore}
use Rattle.plan_store.specs.Contents.{content_of}
use Rattle.planner_cli.specs.Runs.{Ends, ends_of}
use Rattle.plan_tables.specs.Kept.{CanRead, kept_in}
use Rattle.plan_files.proofs.OverLemmas.{known_of, let_go_of, ran_honest, runs_files, settled_honest, still_honest, stopped_somehow}
use Rattle.plan_files.proofs.running.run_and_close.Goals as goal

pub returns-clause-honest : goal.returns-clause-honest
returns-clause-honest g c honest =
    let same : c.into_connection-conn.result ≡ c.run-outcome.new.store.session.conn = c.into_connection-conn.ensures ∙ ap (λ x. x.session.conn) c.is_unfailed-is_unfailed.ensures.same in
    c.run-outcome.ensures.clean (subst (λ (x : Held (FileStore _ _)). HasCleanDisk (file_state x)) same
    (c.close_connection-closed.ensures.honest honest))

pub returns-clause-runs : goal.returns-clause-runs
returns-clause-runs g c =
    let old = file_state c.args.store.session.conn in
    let now = file_state c.run-outcome.new.store.session.conn in
    let runs = c.run-outcome.ensures in
    let outcome = c.run-outcome.result in
    let last = c.run-outcome.new.store in
    let same : c.into_connection-conn.result ≡ last.session.conn = c.into_connection-conn.ensures ∙ ap (λ x. x.session.conn) c.is_unfailed-is_unfailed.ensures.same in
    let kept = kept_in now (content_of last.lists) in
    let ends : Ends = ends_of (kept_in old (content_of c.args.store.lists)) kept
    (g.W.Write.contents c.args.writer.now) (g.W.Write.contents c.run-outcome.new.writer)
    (g.R.Read.remaining c.args.reader.now) in
    let was : HasCleanDisk now → CanRead old =
    λ clean. let clean' = runs.clean clean in (clean', (c.requires.kept clean').stored.is_open) in
    let gone = let_go_of c.into_connection-conn.result last.session.conn same c.close_connection-closed.result c.close_connection-closed.ensures.honest
    c.close_connection-closed.ensures.holds c.close_connection-closed.ensures.alone in
    runs_files ends now _ c.close_connection-closed.result
    (λ whole honest.
    let both = c.are_both.ensures whole in
    let opened : IsTrue now.is_open = subst (λ (x : Held (FileStore _ _)). IsTrue (file_state x).is_open) same (c.close_connection-closed.ensures.open both.1 honest) in (
      opened,
      known_of last.session.conn c.into_connection-conn.result kept last.session.failures same g.met.D.Disk.seen_may_stay
          (c.is_unfailed-is_unfailed.ensures.unfailed both.0)
          (∥∥₁_map last.stored (λ h none clean still. (h none clean (λ _. still)).stored)) opened
          (c.close_connection-closed.ensures.honest honest) c.schema.ensures.live,
    ))
    c.tables_have_one_content.ensures gone.0 gone.1.0 gone.1.1 last.told outcome
    (λ clean. ran_honest _ _ ends outcome runs (was clean) clean)
    (λ clean still. still_honest _ _ ends outcome runs (clean, still))
    (λ clean. stopped_somehow _ _ ends c.streams.ensures.sound c.streams.ensures.by_fate
    (c.requires.kept (was clean).0).sound outcome runs (was clean) clean)
    (λ clean. settled_honest _ _ ends outcome runs (was clean) clean c.requires.alone)
    (λ clean. runs.crash (was clean) c.requires.alone)
