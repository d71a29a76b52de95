use Rattle.std.proofs.Common.{◌∙◌, ap, ◌++◌, append_assoc, arith, take}
use Rattle.std.proofs.Math.ListN.{replicate}
use Rattle.std.specs.Prelude.{◌-◌, ◌≤◌, length}
use Rattle.std.proofs.lemmas.List.{take-replicate}
use Rattle.plan_listings.proofs.line.append_right.Goals as goal

pub returns-clause-items : goal.returns-clause-items
returns-clause-items g c =
    let fits = c.requires.fits in
    let narrow = c.requires.narrow in
    let text = c.args.text.now in
    let before = c.args.line.now.items in
    let places = c.args.width - length text in
    let short : places ≤ 16 = omega arith in
    c.append-2.ensures.items ∙ ap (λ l. l ++ text) c.append.ensures.items
    ∙ append_assoc before (take places (replicate 16 32)) text
    ∙ ap (λ l. before ++ (l ++ text)) (take-replicate places 16 32 short)
