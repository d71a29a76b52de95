use Rattle.std.proofs.Common.{[], ◌∷◌, w64}
use Rattle.std.proofs.lemmas.Int.{to_z_pos}
use Rattle.sqlite.specs.declared.types.Value.TheVariants.{Blob, Int, Text}
use Rattle.plan_tables_schema.specs.declared.tables.Table.TheVariants.{Job as JobTable}
use Rattle.plan_tables_writing.proofs.KindLemmas.{job_storable}
use Rattle.plan_tables_writing.proofs.TakingLemmas.{put_by, writes_weaker}
use Rattle.plan_tables_writing.proofs.lone_rows.put_job.Goals as goal

pub returns : goal.returns
returns g c = writes_weaker g.S.Store _ _ _ _ _ _ _ _ (λ all _. job_storable c.args.job.now) (λ all t. t)
    (put_by g.S.Store c.args.tx.now c.insert.new.tx c.insert.result JobTable _ _
    (λ i. Int (to_z_pos w64 c.args.job.now.number c.requires.number i) ∷ Blob (c.as_slice.ensures i)
    ∷ Text (c.requires.line i) ∷ []) c.insert.ensures.writes c.insert.ensures.accepts)
