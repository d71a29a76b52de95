use Rattle.std.proofs.Common.{Bor, List, ℕ, ◌≡◌, ◌∙◌, sym, refl, arith, length-append, ◌+◌, inl, inr, true, false}
use Rattle.std.proofs.Common.{Some, ◌∷◌, [], ◌++◌}
use Rattle.csv.specs.Reading.{Reached, default_config, strip_bom}
use Rattle.csv.specs.Records.{fields_of}
use Rattle.csv.specs.declared.parser.State.TheVariants as st
use Rattle.std.proofs.lemmas.Bool.{false≢true}
use Rattle.csv.proofs.ReadFacts.{rows-end, rows-more}
use Rattle.app_definition_records.specs.ByName.{FitsKind, IsAsLong}
use Rattle.app_definition_records.proofs.LengthLemmas.{expected_long, expects_more, taken_long}
use Rattle.app_definition_records.proofs.RecordLemmas.{records-all, reader-took, few-records, first_faulty-at, AllGood-more}
use Rattle.app_definition_records.proofs.RecordLemmas.{error-faulty}
use Rattle.app_definition_records.proofs.records.collect_records.Goals as goal

pub loop-row-init : goal.loop-row-init
unfolding Reached
loop-row-init g c =
    let fr = c.from_reader-reader.ensures in
    let e = c.has_headers.ensures in
    let start = c.into_iter-row-iterator.ensures.into_iter_gives ∙ refl in
    let rdr = c.into_byte_records-row-items.ensures.rdr in
    let left = c.into_byte_records-row-items.ensures.left in
    rw (start, rdr) (
      rw (e) at fr.trim ∙ c.new.ensures.trim,
      inr (inr (rw e at fr.has_headers, fr.headers)),
      left,
      rw e at fr.config ∙ c.new.ensures.config,
      rw e at fr.flexible ∙ c.new.ensures.flexible,
      [],
      rw fr.expected refl,
      refl,
      λ k h. absurd (omega (arith, h)),
      c.requires.starts,
      strip_bom c.args.text.now,
      fr.source,
      (sym fr.state, refl),
    )

pub overflow_add-number : goal.overflow_add-number
overflow_add-number g c =
    let inv = c.loop-row.invariant in
    let few = few-records c.args.text.now inv.5 c.loop-row.row-iterator.rdr.state inv.10 262144 inv.12
    c.requires.short in
    omega (arith, few, inv.7)

pub returns-in-Ok-false-clause-faulty : goal.returns-in-Ok-false-clause-faulty
returns-in-Ok-false-clause-faulty g c =
    let inv = c.loop-row.invariant in
    let s = rw (c.in-Some.is, c.in-Ok.is) at ((c.next.ensures.steps inv.2 inv.0).0 inv.1) in
    let took = reader-took (λ (s : Bor (List ℕ)). Some s.now) c.loop-row.row-iterator.rdr c.next.new.self.rdr
    (fields_of c.in-Ok.record) default_config (strip_bom c.args.text.now) inv.10 inv.5 inv.3 inv.11 inv.12 s.0.0 in
    let keeps = s.0.5 refl inv.4 in
    let long : IsAsLong inv.5 (fields_of c.in-Ok.record) = taken_long inv.5 (fields_of c.in-Ok.record)
    c.loop-row.row-iterator.rdr.expected c.next.new.self.rdr.expected inv.6 keeps.0 keeps.1 in
    let joined = c.in-Ok-false.ensures inv.5 inv.9 long in
    let is_false : c.in-Ok-false.field-0 ≡ false = c.in-Ok-false.field-0-test in
    let bad : ¬ (FitsKind g.D.Definition.HasFields g.D.Definition.FitsName inv.5 (fields_of c.in-Ok.record)) =
    λ fits. false≢true (sym is_false ∙ joined.fits.1 fits) in
    first_faulty-at (FitsKind g.D.Definition.HasFields g.D.Definition.FitsName) _ inv.5 (fields_of c.in-Ok.record) took.0
    (c.loop-row.number + 1) took.1 inv.8 bad (omega (arith, inv.7))

pub loop-row-preserved : goal.loop-row-preserved
loop-row-preserved g c =
    let inv = c.loop-row.invariant in
    let steps = c.next.ensures.steps inv.2 inv.0 in
    let s = rw (c.in-Some.is, c.in-Ok.is) at (steps.0 inv.1) in
    let flexible = rw (c.in-Some.is, c.in-Ok.is) at steps.3 in
    let m = rows-more (λ (s : Bor (List ℕ)). Some s.now) c.loop-row.row-iterator.rdr c.next.new.self.rdr
    (fields_of c.in-Ok.record) default_config st.StartRecord
    (strip_bom c.args.text.now) inv.10 inv.5 inv.3 inv.11 inv.12 s.0 in
    let keeps = s.0.5 refl inv.4 in
    let long : IsAsLong inv.5 (fields_of c.in-Ok.record) = taken_long inv.5 (fields_of c.in-Ok.record)
    c.loop-row.row-iterator.rdr.expected c.next.new.self.rdr.expected inv.6 keeps.0 keeps.1 in
    let joined = c.in-Ok-true.ensures inv.5 inv.9 long in
    let is_true : c.in-Ok-true.field-0 ≡ true = c.in-Ok-true.field-0-test in
    let fits : FitsKind g.D.Definition.HasFields g.D.Definition.FitsName inv.5 (fields_of c.in-Ok.record) =
    joined.fits.0 is_true in (
      s.0.3 ∙ inv.0,
      inl s.1,
      s.2,
      s.0.2 ∙ inv.3,
      flexible ∙ inv.4,
      inv.5 ++ fields_of c.in-Ok.record ∷ [],
      expects_more inv.5 (fields_of c.in-Ok.record) c.loop-row.row-iterator.rdr.expected
          c.next.new.self.rdr.expected inv.6 keeps.0 keeps.1,
      omega (arith, inv.7, length-append inv.5 (fields_of c.in-Ok.record ∷ [])),
      AllGood-more (FitsKind g.D.Definition.HasFields g.D.Definition.FitsName) inv.5 (fields_of c.in-Ok.record) inv.8 fits,
      joined.made is_true,
      m.0,
      m.1,
      m.2,
    )

pub returns-in-Err-clause-faulty : goal.returns-in-Err-clause-faulty
returns-in-Err-clause-faulty g c =
    let inv = c.loop-row.invariant in
    let s = rw (c.in-Some.is, c.in-Err.is) at ((c.next.ensures.steps inv.2 inv.0).0 inv.1) in
    rw c.fault_of.ensures (error-faulty (λ (s : Bor
    (List ℕ)). Some s.now) c.loop-row.row-iterator.rdr c.next.new.self.rdr c.in-Err.error.kind
    (strip_bom c.args.text.now) inv.10 inv.5
    (FitsKind g.D.Definition.HasFields g.D.Definition.FitsName) (c.loop-row.number + 1)
    (λ row fits. expected_long inv.5 row c.loop-row.row-iterator.rdr.expected inv.6 fits.as_long) inv.3 inv.11 inv.12 inv.8 (omega (arith, inv.7)) s)

pub returns-clause-good : goal.returns-clause-good
returns-clause-good g c =
    let inv = c.loop-row.invariant in
    let s = rw c.in-None.is at ((c.next.ensures.steps inv.2 inv.0).0 inv.1) in
    let none = rows-end (λ
    (s : Bor (List ℕ)). Some s.now) c.loop-row.row-iterator.rdr c.next.new.self.rdr [] default_config inv.10 inv.3
    inv.11 s in
    rw (records-all default_config
    (strip_bom c.args.text.now) inv.5 c.loop-row.row-iterator.rdr.state inv.10 inv.12 none) inv.8

pub returns-clause-gathered : goal.returns-clause-gathered
returns-clause-gathered g c =
    let inv = c.loop-row.invariant in
    let s = rw c.in-None.is at ((c.next.ensures.steps inv.2 inv.0).0 inv.1) in
    let none = rows-end (λ
    (s : Bor (List ℕ)). Some s.now) c.loop-row.row-iterator.rdr c.next.new.self.rdr [] default_config inv.10 inv.3
    inv.11 s in
    rw (records-all default_config
    (strip_bom c.args.text.now) inv.5 c.loop-row.row-iterator.rdr.state inv.10 inv.12 none) inv.9
