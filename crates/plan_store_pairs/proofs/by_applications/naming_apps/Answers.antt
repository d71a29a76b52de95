use Rattle.std.proofs.Common.{◌≡◌, ◌++◌, ◌∷◌, List, [], inl, inr, subst, sym}
use Rattle.std.specs.List.{Contains}
use Rattle.std.specs.Prelude.{option_map}
use Rattle.std.proofs.lemmas.List.Elements.{Contains-append_left, Contains-push}
use Rattle.plan_store_lists.specs.ListsThen.{with_own}
use Rattle.plan_store_pairs.proofs.ThenLemmas.{listed_or_stood}
use Rattle.plan_store_pairs.proofs.by_applications.naming_apps.Goals as goal
use Rattle.plan_store_pairs.proofs.by_applications.naming_apps.Goals.{in-Some+in_ok-push, in_default}

pub returns : goal.returns
returns c link there of_one =
    let links = c.args.then.now.lists.now.items in
    let standing = c.in_ok-naming.naming.items in
    elim c.match-then.branch [
      | in-Some+in_ok-push w ↦
          let own = w.in-Some.own.now in
          let pushed : w.push.new.self.items ≡ standing ++ own.app ∷ [] = w.in_ok-push.ensures.items in
          let among = subst (λ o. Contains (with_own (option_map (λ list. list.now) o) links) link) w.in-Some.is there in
          let named : Contains (standing ++ own.app ∷ []) link.app =
          elim (listed_or_stood own.app own.links.items links link among) [
            | inl listed ↦ subst (Contains (standing ++ own.app ∷ [])) (sym (own.own link listed))
                (Contains-push standing own.app)
            | inr stood ↦ Contains-append_left standing (own.app ∷ []) link.app (c.in_ok-naming.ensures link stood of_one)
          ] in
          rw (w.naming-is, pushed) named
      | in_default w ↦
          let stood : Contains links link =
          subst (λ o. Contains (with_own (option_map (λ list. list.now) o) links) link) w.in_default.is there in
          rw w.naming-is (c.in_ok-naming.ensures link stood of_one)
    ]
