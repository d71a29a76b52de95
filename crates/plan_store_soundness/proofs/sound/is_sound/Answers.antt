use Rattle.std.proofs.Common.{◌↔◌, ◌∙◌, sym}
use Rattle.std.specs.Prelude.{IsTrue}
use Rattle.std.proofs.lemmas.Bool.{false≢true}
use Rattle.std.proofs.lemmas.Result.{IfOk-weaker}
use Rattle.plan_store.specs.Contents.{content_of}
use Rattle.plan_store_soundness.specs.Pairs.{AreClosedPairs}
use Rattle.plan_store_soundness.proofs.RuleLemmas.{closed_of, pairs_of, rows_of, rows_sound_of}
use Rattle.plan_store_soundness.proofs.sound.is_sound.Goals as goal

pub has_sound_rows-requires : goal.has_sound_rows-requires
has_sound_rows-requires c = c.deref.ensures.value ∙ c.in_ok-all.ensures

pub has_ranges-requires : goal.has_ranges-requires
has_ranges-requires c = c.deref-2.ensures.value ∙ c.in_ok-all.ensures

pub has_closed_pairs-requires : goal.has_closed_pairs-requires
has_closed_pairs-requires c = c.deref-3.ensures.value ∙ c.in_ok-all.ensures

pub returns-then-not-rows : goal.returns-then-not-rows
returns-then-not-rows c = (
  (λ yes. absurd (false≢true yes)),
  λ sound. absurd (false≢true (sym c.if-not-rows.true ∙ c.in_ok-rows.ensures.1
      (rows_of (content_of c.args.content.now) sound))),
)

pub returns-then-not-ranges : goal.returns-then-not-ranges
returns-then-not-ranges c = (
  (λ yes. absurd (false≢true yes)),
  λ sound. absurd (false≢true (sym c.if-not-ranges.true
      ∙ (c.in_ok-ranges.ensures sound.serials).1 sound.ranges)),
)

pub returns-then-not-settled : goal.returns-then-not-settled
returns-then-not-settled c = (
  (λ yes. absurd (false≢true yes)),
  λ sound.
      let rows = rows_of (content_of c.args.content.now) sound in
      absurd (false≢true (sym c.if-not-settled.true
      ∙ (c.in_ok-settled.ensures (rows_sound_of (content_of c.args.content.now) rows)).1 sound.pairs.settled)),
)

pub returns : goal.returns
returns c =
    let content = content_of c.args.content.now in
    let rows = c.in_ok-rows.ensures.0 c.if-not-rows.false in
    IfOk-weaker c.has_closed_pairs.result (λ b. IsTrue b ↔ AreClosedPairs content.sets content.pairs) _
    (λ b tells. (
      (λ yes. record {
        ranges = (c.in_ok-ranges.ensures rows.serials).0 c.if-not-ranges.false;
        bounds = rows.bounds;
        serials = rows.serials;
        keys = rows.keys;
        arrivals = rows.arrivals;
        sizes = rows.sizes;
        lists = rows.lists;
        pairs = pairs_of content
            ((c.in_ok-settled.ensures (rows_sound_of content rows)).0 c.if-not-settled.false) (tells.0 yes);
        jobs = rows.jobs;
      }),
      λ sound. tells.1 (closed_of content sound.pairs),
    )) (c.has_closed_pairs.ensures rows.serials)
