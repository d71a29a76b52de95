use Rattle.std.specs.Prelude.{option_copied}
use Rattle.sqlite.specs.Held.{state}
use Rattle.plan_store.specs.Contents.{content_of}
use Rattle.plan_store.specs.Listings.{IsListing}
use Rattle.plan_tables.specs.Kept.{kept_in}
use Rattle.plan_tables.specs.Listing.{what_of}
use Rattle.plan_tables.proofs.ListLemmas.{handed_refused, handed_unread, listing_fails}
use Rattle.plan_tables.proofs.LookLemmas.{put_by}
use Rattle.plan_tables.proofs.WhyLemmas.{EndsFor, ends_for}
use Rattle.plan_tables.proofs.listing.list_kept.Given.{Over}
use Rattle.plan_tables.proofs.listing.list_kept.Goals as goal

pub returns-in-Ok-clause-asks : goal.returns-in-Ok-clause-asks
returns-in-Ok-clause-asks g c =
    let did = c.in-Ok.ensures in
    record {
      stays = λ clean kept. put_by (state g.S.Store c.args.conn.now) (state g.S.Store c.list_facts.new.conn)
          (did.leaves clean kept.stored.plan.schema);
      opens = λ clean kept _. (did.same clean kept.stored.plan.schema).0.is_open;
      failed = λ clean kept device. absurd (let h : ⊥ = cc device in h);
      mode = did.mode;
      survives = did.survives;
    }

pub returns-in-Err-Sink-clause-part : goal.returns-in-Err-Sink-clause-part
returns-in-Err-Sink-clause-part g c clean is numbered =
    handed_refused g.K.RowSink.accepts g.K.RowSink.refuses (IsListing (what_of c.args.asked) (option_copied c.args.app)
    (kept_in (state g.S.Store c.args.conn.now) (content_of c.args.lists.now))) c.args.sink.now c.list_facts.new.sink
    c.in-Err-Sink.field-0 c.in-Err-Sink.field-0-is (c.in-Err-Sink.ensures.part clean is numbered)

pub returns-in-Err-Sink-clause-asks : goal.returns-in-Err-Sink-clause-asks
returns-in-Err-Sink-clause-asks g c =
    let did = c.in-Err-Sink.ensures in
    record {
      stays = λ clean kept. put_by (state g.S.Store c.args.conn.now) (state g.S.Store c.list_facts.new.conn)
          (did.leaves clean kept.stored.plan.schema);
      opens = λ clean kept _.
          let stops = rw c.in-Err-Sink.field-0-is at (did.fails clean kept.stored.plan.schema) in stops.0.is_open;
      failed = λ clean kept device. absurd (let h : ⊥ = cc device in h);
      mode = did.mode;
      survives = did.survives;
    }

-- ---- what is left where the tables failed

left : (g : Over) (c : goal.After-why_of g) → EndsFor g.S.Store c.args.conn.now c.list_facts.new.conn c.why_of.new.conn
    (content_of c.args.lists.now) c.why_of.result
left g c = ends_for g.S.Store c.args.conn.now c.list_facts.new.conn (content_of c.args.lists.now) c.why_of.new.conn
    c.in-Err-Fault.fault c.why_of.result (listing_fails g.S.Store c.args.conn.now c.list_facts.new.conn
    (content_of c.args.lists.now) g.K.RowSink.accepts g.K.RowSink.refuses c.args.sink.now c.list_facts.new.sink
    c.args.asked (option_copied c.args.app) c.in-Err-Fault.field-0 c.in-Err-Fault.fault c.in-Err-Fault.field-0-is
    c.in-Err-Fault.ensures) c.why_of.ensures

pub returns-in-Err-Fault-clause-part : goal.returns-in-Err-Fault-clause-part
returns-in-Err-Fault-clause-part g c clean is numbered =
    handed_unread g.K.RowSink.accepts g.K.RowSink.refuses (IsListing (what_of c.args.asked) (option_copied c.args.app)
    (kept_in (state g.S.Store c.args.conn.now) (content_of c.args.lists.now))) c.args.sink.now c.list_facts.new.sink
    c.in-Err-Fault.field-0 c.in-Err-Fault.fault c.why_of.result c.in-Err-Fault.field-0-is
    (c.in-Err-Fault.ensures.part ((left g c).calm clean) is numbered)

pub returns-in-Err-Fault-clause-asks : goal.returns-in-Err-Fault-clause-asks
returns-in-Err-Fault-clause-asks g c = (left g c).asks
