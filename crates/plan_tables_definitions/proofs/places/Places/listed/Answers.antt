use Rattle.std.proofs.Common.{◌+◌, arith, sym, subst, ◌∙◌}
use Rattle.plan_tables_definitions.specs.Placed.{EndsAt}
use Rattle.plan_tables_definitions.proofs.PlaceLemmas.{AreFirst, first_all, first_more, none_left_out}
use Rattle.plan_tables_definitions.proofs.places.Places.listed.Goals as goal

pub returns-in-None-clause-found : goal.returns-in-None-clause-found
returns-in-None-clause-found g c xs order = absurd (none_left_out xs c.self.inside.end c.args.self.now
    c.loop-place.place (subst (λ m. EndsAt m c.self.inside.end) c.self.view_is c.self.invariant) order
    c.loop-place-test.true (sym c.get.ensures ∙ c.in-None.is))

pub loop-place-preserved : goal.loop-place-preserved
loop-place-preserved g c = subst (λ l. AreFirst l (c.loop-place.place + 1) c.args.self.now)
    (sym c.in_ok-push-in-Some.ensures.items)
    (first_more c.loop-place.xs.items c.loop-place.place c.args.self.now c.in-Some.x c.loop-place.invariant
    (sym c.get.ensures ∙ c.in-Some.is))

pub returns-clause-made : goal.returns-clause-made
returns-clause-made g c = first_all c.loop-place.xs.items c.self.inside.end c.args.self.now
    (subst (λ n. AreFirst c.loop-place.xs.items n c.args.self.now) (omega (
      arith,
      c.loop-place.auto.place-end,
      c.loop-place-test.false,
    )) c.loop-place.invariant)
    (subst (λ m. EndsAt m c.self.inside.end) c.self.view_is c.self.invariant)
