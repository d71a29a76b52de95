use Rattle.std.proofs.Common.{◌≡◌, ◌+◌, ◌/◌, [], ◌∷◌, sym, subst}
use Rattle.std.proofs.lemmas.Bool.{false≢true}
use Rattle.std.specs.Str.{IsUtf8}
use Rattle.work_calendars.specs.Name.{IsName}
use Rattle.work_calendars.proofs.NameFacts.{IsUtf8-name}
use Rattle.plan_store_soundness.specs.Closed.{node_name}
use Rattle.plan_store_soundness.proofs.NodeLemmas.{node_named}
use Rattle.plan_store_soundness.proofs.closed.node_name.Goals as goal

pub unreachable-requires : goal.unreachable-requires
unreachable-requires c =
    let number = c.get-first.result in
    let text = c.in-Ok.ensures.cases.0 in
    let name : c.in-Ok.text.now ≡ node_name number = cc text in
    absurd (false≢true (c.in-None.ensures.valid.1
    (subst IsName (sym name) (node_named number c.get-first.ensures.range.1))))

pub unreachable-requires-in-Err : goal.unreachable-requires-in-Err
unreachable-requires-in-Err c =
    let number = c.get-first.result in
    let letters : c.letter.result ∷ c.letter-2.result ∷ c.letter-3.result ∷ c.letter-4.result ∷ c.letter-5.result
    ∷ c.letter-6.result ∷ (65 + number / 26 / 26 / 26 / 26 / 26 / 26) ∷ [] ≡ node_name number = cc in
    c.in-Err.ensures.cases.0 (subst IsUtf8 (sym letters)
    (IsUtf8-name 16 (node_name number) (node_named number c.get-first.ensures.range.1)))
