use Rattle.std.proofs.Common.{◌≡◌, ◌∙◌, ap, ℕ, ◌+◌, ◌-◌, ◌*◌, ◌<◌, ◌≤◌, List, ◌∷◌, [], ◌++◌, take, drop, get_or}
use Rattle.std.proofs.Common.{length, arith, add-one, rules}
use Rattle.std.specs.Char.{IsAsciiDigit}
use Rattle.std.proofs.Math.Seq.{take-suc}
use Rattle.std.proofs.lemmas.List.{take-append-drop}
use Rattle.std.proofs.lemmas.List.Elements.{All-push}
use Rattle.std.proofs.lemmas.Bool.{false≢true}
use Rattle.app_definition_records.specs.Fields.{number_value}
use Rattle.app_definition_records.proofs.FieldLemmas.{number_value-more, number_value-le}
use Rattle.app_definition_records.proofs.fields.number_of.Goals as goal

-- the bytes up to the next one
next : (bytes : List ℕ) (i : ℕ) → i < length bytes → take (i + 1) bytes ≡ take i bytes ++ get_or bytes i 0 ∷ []
next bytes i h = rw add-one (take-suc bytes i 0 h)

next-value : (bytes : List ℕ) (i : ℕ) → i < length bytes
    → number_value (take (i + 1) bytes) ≡ number_value (take i bytes) * 10 + (get_or bytes i 0 - 48)
next-value bytes i h = ap number_value (next bytes i h) ∙ number_value-more (take i bytes) (get_or bytes i 0)

whole : (bytes : List ℕ) (i : ℕ) → number_value (take i bytes) ≤ number_value bytes
whole bytes i =
    let h = number_value-le (take i bytes) (drop i bytes) in
    let e = ap number_value (take-append-drop i bytes) in
    omega (arith, h, e)

pub returns-then-value-greatest-clause-valid : goal.returns-then-value-greatest-clause-valid
returns-then-value-greatest-clause-valid c =
    let step = next-value c.args.bytes.now c.loop-byte.byte-index c.loop-byte-test.true in
    let rest = whole c.args.bytes.now (c.loop-byte.byte-index + 1) in (
      λ none. absurd (false≢true none),
      λ fits. absurd
          (omega (arith, step, rest, fits.1, c.if-value-greatest.true, c.loop-byte.invariant.0)),
    )

pub loop-byte-preserved : goal.loop-byte-preserved
loop-byte-preserved c =
    let step = next-value c.args.bytes.now c.loop-byte.byte-index c.loop-byte-test.true in (
      omega (arith, step, c.loop-byte.invariant.0),
      omega arith,
      rw (next c.args.bytes.now c.loop-byte.byte-index c.loop-byte-test.true)
          (All-push IsAsciiDigit (take c.loop-byte.byte-index c.args.bytes.now)
          (get_or c.args.bytes.now c.loop-byte.byte-index 0) c.loop-byte.invariant.2 (search rules)),
    )
