use Rattle.std.proofs.Common.{◌≡◌, ◌++◌, ◌∙◌, ap, map}
use Rattle.plan_store.proofs.listed.part_of.Goals as goal

pub returns-in_ok-push_rows-in-Some-clause-keyed : goal.returns-in_ok-push_rows-in-Some-clause-keyed
returns-in_ok-push_rows-in-Some-clause-keyed g c =
    let found : map (λ x. x.now) c.push_rows.new.found.items ≡ c.of_app.result.now = c.in_ok-push_rows-in-Some.ensures
    ∙ ap (λ l. map (λ x. x.now) l ++ c.of_app.result.now) c.new-found.ensures.items in
    rw found c.of_app.ensures.keyed

pub returns-in_ok-push_rows-in-Some-clause-all : goal.returns-in_ok-push_rows-in-Some-clause-all
returns-in_ok-push_rows-in-Some-clause-all g c =
    let found : map (λ x. x.now) c.push_rows.new.found.items ≡ c.of_app.result.now = c.in_ok-push_rows-in-Some.ensures
    ∙ ap (λ l. map (λ x. x.now) l ++ c.of_app.result.now) c.new-found.ensures.items in
    rw (found, c.in-Some.is) c.of_app.ensures.all

pub returns-in_ok-push_blocks-in-None-clause-keyed : goal.returns-in_ok-push_blocks-in-None-clause-keyed
returns-in_ok-push_blocks-in-None-clause-keyed g c =
    let list = c.args.list.now.items in
    let found : map (λ x. x.now) c.push_blocks.new.found.items ≡ list = c.in_ok-push_blocks-in-None.ensures
    ∙ ap (λ l. map (λ x. x.now) l ++ list) c.new-found.ensures.items in
    rw found c.rise.ensures

pub returns-in_ok-push_blocks-in-None-clause-all : goal.returns-in_ok-push_blocks-in-None-clause-all
returns-in_ok-push_blocks-in-None-clause-all g c =
    let list = c.args.list.now.items in
    let found : map (λ x. x.now) c.push_blocks.new.found.items ≡ list = c.in_ok-push_blocks-in-None.ensures
    ∙ ap (λ l. map (λ x. x.now) l ++ list) c.new-found.ensures.items in
    rw (found, c.in-None.is) (λ x. ((λ there. (there, tt)), λ both. both.0))
