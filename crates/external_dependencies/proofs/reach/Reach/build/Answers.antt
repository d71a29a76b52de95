use Rattle.std.proofs.Common.{◌≡◌, ◌↔◌, ℕ, List, subst}
use Rattle.std.specs.List.{Contains, each_same}
use Rattle.external_dependencies.proofs.OrderLemmas.{name_ties}
use Rattle.external_dependencies.proofs.reach.Reach.build.Goals as goal

pub into_rising-requires-2 : goal.into_rising-requires-2
into_rising-requires-2 c = name_ties

pub returns : goal.returns
returns c =
    let touch = c.args.touch.now in
    let lists : c.in_ok-clone.field-0.items ≡ touch.lists.items = each_same _ _ c.in_ok-clone.ensures.cases.0 in
    record {
      serials_rise = c.into_rising.ensures.rising;
      serials = λ serial.
          let same = c.into_rising.ensures.same serial in
          let is = c.in_ok-anew.ensures serial in
          ((λ there. is.0 (same.0 there)), λ here. same.1 (is.1 here));
      lists_rise = c.into_rising-2.ensures.rising;
      lists = λ app. subst (λ (xs : List (List ℕ)). Contains c.into_rising-2.result.items app ↔ Contains xs app) lists
          (c.into_rising-2.ensures.same app);
      moved = λ a.
          let same = c.from_arrivals.ensures a in
          let is = c.in_ok-moved.ensures a in
          ((λ there. is.0 (same.0 there)), λ here. same.1 (is.1 here));
    }
