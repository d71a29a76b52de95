use Rattle.std.proofs.Common.{◌↔◌, IsTrue, inl, inr, refl, sym, subst, ◌∙◌}
use Rattle.std.proofs.lemmas.Bool.{false≢true}
use Rattle.external_dependencies.specs.Nearest.{IsCandidate, arrival_of}
use Rattle.external_dependencies.specs.Touch.{HasMovedByList}
use Rattle.external_dependencies.proofs.reach.Reach.has.Goals as goal

pub returns-then-names : goal.returns-then-names
returns-then-names c touch is = (
  (λ yes. elim ((c.names.ensures touch is).0 yes) [
    | inl anew ↦ inl anew
    | inr changed ↦ inr (inl changed)
  ]),
  λ _. c.if-names.true,
)

pub returns-else-names : goal.returns-else-names
returns-else-names c touch is = (
  (λ yes. inr (inr (by_list.0 yes))),
  λ reached. elim reached [
    | inl anew ↦ absurd (false≢true (sym c.if-names.false ∙ (c.names.ensures touch is).1 (inl anew)))
    | inr other ↦ elim other [
      | inl changed ↦ absurd (false≢true (sym c.if-names.false ∙ (c.names.ensures touch is).1 (inr changed)))
      | inr covered ↦ by_list.1 covered
    ]
  ],
)
  where
    by_list : IsTrue c.precedes_any.result ↔ HasMovedByList touch c.args.links.now c.args.row.now
    by_list = (
      (λ yes.
          let (link, there, (a, near, may)) = c.precedes_any.ensures.0 yes in
          let listed = (c.list.ensures.all link).0 there in
          let (row, moved, arrives) = (is.moved a).0 near in (
            link,
            listed.0,
            (
              listed.1,
              (
                row,
                moved,
                subst (IsCandidate c.args.row.now.key link.predecessor link.within)
                    (sym arrives) may,
              ),
            ),
          )),
      λ (link, there, (of_app, (row, moved, may))). c.precedes_any.ensures.1 (
        link,
        (c.list.ensures.all link).1 (there, of_app),
        (arrival_of row, (is.moved (arrival_of row)).1 (row, moved, refl), may),
      ),
    )
