use Rattle.std.proofs.Common.{refl, subst, sym}
use Rattle.plan_tables_lookups.specs.declared.faults.TableFault.{TableFault}
use Rattle.plan_tables.specs.Whys.{IsWhyOf}
use Rattle.plan_tables.specs.declared.keeping.Unmade.TheVariants.{Device, Memory}
use Rattle.plan_tables.proofs.keeping.why_of.Goals as goal

pub returns-in-Memory : goal.returns-in-Memory
returns-in-Memory g c = subst (λ (f : TableFault). IsWhyOf g.S.Store c.args.conn.now c.args.conn.now f Memory)
    (sym c.in-Memory.is) (refl, refl)

pub returns-in-Malformed : goal.returns-in-Malformed
returns-in-Malformed g c = subst (λ (f : TableFault). IsWhyOf g.S.Store c.args.conn.now c.args.conn.now f Device)
    (sym c.in-Malformed.is) (refl, refl)

pub returns-in-Store : goal.returns-in-Store
returns-in-Store g c =
    subst (λ (f : TableFault). IsWhyOf g.S.Store c.args.conn.now c.cause_of.new.conn f c.cause_of.result)
    (sym c.in-Store.is) (record {
      exact = c.cause_of.ensures.exact;
      asked = c.cause_of.ensures.open;
      shut = c.cause_of.ensures.shut;
      stays = c.cause_of.ensures.stays;
      mode = c.cause_of.ensures.mode;
      survives = c.cause_of.ensures.survives;
    })
