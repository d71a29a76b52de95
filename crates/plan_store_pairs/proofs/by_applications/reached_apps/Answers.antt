use Rattle.std.proofs.Common.{◌≡◌, ◌++◌, ◌∙◌, ℕ, List, ap, ap₂, subst, sym}
use Rattle.std.specs.List.{Contains}
use Rattle.std.proofs.lemmas.List.Elements.{Contains-append_left, Contains-append_right}
use Rattle.occurrences.specs.declared.row.Row.{Row}
use Rattle.external_dependencies.specs.Link.{Lists}
use Rattle.external_dependencies.specs.Touch.{IsMoved}
use Rattle.external_dependencies.specs.declared.links.Link.{Link}
use Rattle.external_dependencies.proofs.OrderLemmas.{name_ties}
use Rattle.plan_store_lists.specs.ListsThen.{links_then}
use Rattle.plan_store_pairs.specs.ByApplications.{HasWithList}
use Rattle.plan_store_pairs.proofs.by_applications.reached_apps.Goals as goal

pub in_order-touched-requires : goal.in_order-touched-requires
in_order-touched-requires c = name_ties

pub in_order-reached-requires : goal.in_order-reached-requires
in_order-reached-requires c = name_ties

pub in_order-requires : goal.in_order-requires
in_order-requires c = name_ties

pub returns : goal.returns
returns c = record { touched = of_moved; changed = in_lists; naming = in_naming }
  where
    links : List Link
    links = links_then c.args.then.now

    touched : List (List ℕ)
    touched = c.in_order-touched.result.items

    naming : List (List ℕ)
    naming = c.in_ok-reached.reached.items

    reached : List (List ℕ)
    reached = c.in_order-reached.result.items

    named : List (List ℕ)
    named = c.in_ok-apps.apps.items

    apps : List (List ℕ)
    apps = c.in_order.result.items

    two : c.extend_from_slice.new.self.items ≡ naming ++ touched
    two = c.in_ok-extend_from_slice.ensures.items ∙ ap (λ xs. naming ++ xs) c.deref-2.ensures.value

    three : c.extend_from_slice-2.new.self.items ≡ (naming ++ touched) ++ c.args.touch.now.lists.items
    three = c.in_ok-extend_from_slice-2.ensures.items ∙ ap₂ (λ xs ys. xs ++ ys) two c.deref-3.ensures.value

    whole : c.extend_from_slice-3.new.self.items ≡ named ++ reached
    whole = c.in_ok-extend_from_slice-3.ensures.items ∙ ap (λ xs. named ++ xs) c.deref-5.ensures.value

    -- one that is reached is told, with its list
    with_list : (app : List ℕ) → Contains reached app → HasWithList links apps app
    with_list app there = (
      (c.in_order.ensures.same app).1 (subst (λ xs. Contains xs app) (sym whole)
          (Contains-append_right named reached app there)),
      λ predecessor (within, listed). (c.in_order.ensures.same predecessor).1 (subst (λ xs. Contains xs predecessor) (sym whole)
          (Contains-append_left named reached predecessor
          (c.in_ok-apps.ensures
          (record { app = app; predecessor = predecessor; within = within }) listed
          (subst (λ xs. Contains xs app) (sym c.deref-4.ensures.value) there)))),
    )

    to_reached : (app : List ℕ) → Contains ((naming ++ touched) ++ c.args.touch.now.lists.items) app
        → Contains reached app
    to_reached app there = (c.in_order-reached.ensures.same app).1 (subst (λ xs. Contains xs app) (sym three) there)

    is_touched : (row : Row) → IsMoved c.args.touch.now row → Contains touched row.key.app
    is_touched row moved = (c.in_order-touched.ensures.same row.key.app).1 (c.in_ok-moved_apps.ensures row moved)

    of_moved : (row : Row) → IsMoved c.args.touch.now row → HasWithList links apps row.key.app
    of_moved row moved = with_list row.key.app (to_reached row.key.app
        (Contains-append_left (naming ++ touched) c.args.touch.now.lists.items row.key.app
        (Contains-append_right naming touched row.key.app (is_touched row moved))))

    in_lists : (app : List ℕ) → Contains c.args.touch.now.lists.items app → HasWithList links apps app
    in_lists app there = with_list app (to_reached app
        (Contains-append_right (naming ++ touched) c.args.touch.now.lists.items app there))

    in_naming : (row : Row) (app : List ℕ) → IsMoved c.args.touch.now row → Lists links app row.key.app
        → HasWithList links apps app
    in_naming row app moved (within, listed) =
        let link : Link = record { app = app; predecessor = row.key.app; within = within } in
        with_list app (to_reached app
        (Contains-append_left (naming ++ touched) c.args.touch.now.lists.items app
        (Contains-append_left naming touched app
        (c.in_ok-reached.ensures link listed
        (subst (λ xs. Contains xs row.key.app) (sym c.deref.ensures.value) (is_touched row moved))))))
