use Rattle.std.proofs.Common.{◌≡◌, refl, rules, w16, to_z, of_z}
use Rattle.std.proofs.lemmas.Bool.{false≢true}
use Rattle.app_definition_records.specs.CycleRecords.{pieces_of, SpellsOffsets}
use Rattle.app_definition_records.proofs.CycleLemmas.{offset_at, offsets-more, offsets-all, some-spelled}
use Rattle.app_definition_records.proofs.cycle_records.offsets_of.Goals as goal

pub returns-in-None-clause-valid : goal.returns-in-None-clause-valid
returns-in-None-clause-valid c = (
  λ none. absurd (false≢true none),
  λ spelled. absurd (false≢true (c.in-None.ensures.valid.1
      (offset_at c.deref-piece-items.result.now
      (pieces_of c.args.bytes.now) c.loop-piece.piece-index _ c.loop-piece.invariant.0 c.loop-piece-test.true
      spelled.1.each))),
)

pub loop-piece-preserved : goal.loop-piece-preserved
loop-piece-preserved c =
    let more = offsets-more c.deref-piece-items.result.now
    (pieces_of c.args.bytes.now) c.loop-piece.piece-index _ c.in-Some.offset c.loop-piece.items.items
    c.loop-piece.invariant.0 c.loop-piece-test.true c.loop-piece.invariant.1 c.loop-piece.invariant.2
    (c.in-Some.ensures.valid.0 refl) c.in-Some.ensures.value in
    let back : to_z w16 (of_z w16 c.in-Some.offset) ≡ c.in-Some.offset = search rules in
    (c.loop-piece.invariant.0, more.0, rw (c.in_ok-push-in-Some.ensures.items, back) more.1)

pub returns-clause-valid : goal.returns-clause-valid
returns-clause-valid c =
    let all = offsets-all c.args.bytes.now c.deref-piece-items.result.now c.loop-piece.piece-index
    c.loop-piece.items.items
    c.loop-piece.invariant.0 c.loop-piece-test.false c.loop-piece.invariant.1 c.loop-piece.invariant.2 in (
      λ some. (c.loop-piece.items.items, all.0 (c.from_vec.ensures.valid.0 some)),
      λ spelled. c.from_vec.ensures.valid.1 (all.1 spelled),
    )

pub returns-clause-value : goal.returns-clause-value
returns-clause-value c =
    let all = offsets-all c.args.bytes.now c.deref-piece-items.result.now c.loop-piece.piece-index
    c.loop-piece.items.items
    c.loop-piece.invariant.0 c.loop-piece-test.false c.loop-piece.invariant.1 c.loop-piece.invariant.2 in
    some-spelled c.from_vec.result c.loop-piece.items.items
    (SpellsOffsets c.args.bytes.now) c.from_vec.ensures.valid c.from_vec.ensures.value all.0
