-- A modification of one application reaches occurrences of that one, and of those whose list in force names it.
use Rattle.std.proofs.Common.{◌≡◌, ◌≢◌, ◌++◌, ◌∷◌, ◌∙◌, ℕ, suc, List, [], Option, None, Some, inl, inr, subst, sym}
use Rattle.std.specs.List.{Contains}
use Rattle.app_definitions.specs.declared.definitions.Definitions.{Definitions}
use Rattle.occurrences.specs.declared.place.CurrentRow.{CurrentRow}
use Rattle.occurrences.specs.declared.row.Row.{Row}
use Rattle.external_dependencies.specs.Link.{Lists}
use Rattle.external_dependencies.specs.Settled.{IsOnce}
use Rattle.external_dependencies.specs.Touch.{IsMoved, MayReach}
use Rattle.external_dependencies.specs.declared.links.Link.{Link}
use Rattle.external_dependencies.specs.declared.rows.PlacedRow.{PlacedRow}
use Rattle.external_dependencies.specs.declared.touch.Touch.{Touch}
use Rattle.planner_machine.specs.Modify.{NamesAhead}
use Rattle.planner_machine.specs.Moves.{numbered_row}
use Rattle.planner_machine.specs.declared.content.Bounds.{Bounds}
use Rattle.planner_machine.specs.declared.content.Draft.{Draft}
use Rattle.plan_store_lists.proofs.LinkBlockLemmas.{with_list-contains}
use Rattle.plan_store_lists.specs.LinkBlocks.{LinkList}
use Rattle.plan_store_lists.specs.declared.app_lists.AppList.{AppList}
use Rattle.plan_store.specs.Changes.{lists_after}
use Rattle.plan_store.specs.HistoryReads.{ReachesApp}
use Rattle.plan_store.specs.declared.changes.NewLists.{NewLists}
use Rattle.plan_store.specs.declared.changes.NewLists.TheVariants as new_lists
use Rattle.plan_store_pairs.specs.Turns.{IsTouchOf}
use Rattle.plan_store_pairs.proofs.GatheredLemmas.{of_each}
use Rattle.plan_store_pairs.proofs.ListLemmas.{first_or_later, further, here, none, only_one}
use Rattle.plan_store_pairs.proofs.TouchedLemmas.{same_or_not}
use Rattle.plan_store_pairs.proofs.TurnLemmas.{AreListed}
use Rattle.long_term_plan.specs.Making.{numbered}
use Rattle.long_term_plan.specs.Modifying.{Looks}
use Rattle.long_term_plan.specs.Reaching.{AreRowsOf, IsNewOf}

-- ---- the lists that change are of applications that the statement looks at

pub all_lists : (only : Option (List ℕ)) (lists : LinkList) → IsNewOf only (Some (new_lists.All lists))
    → (app : List ℕ) → Looks only app
all_lists None lists of_new app = tt
all_lists (Some one) lists of_new app = absurd of_new

pub one_list : (only : Option (List ℕ)) (list : AppList) → IsNewOf only (Some (new_lists.One list)) → (app : List ℕ)
    → Contains (list.app ∷ []) app → Looks only app
one_list None list of_new app there = tt
one_list (Some one) list of_new app there = sym (only_one list.app app there) ∙ of_new

-- so the list of another application that names one stood in force
stood : (one : List ℕ) (new : Option NewLists) (was : List Link) → IsNewOf (Some one) new → (app name : List ℕ)
    → app ≢ one → Lists (lists_after new was) app name → Lists was app name
stood one None was of_new app name apart lists = lists
stood one (Some (new_lists.All all)) was of_new app name apart lists = absurd of_new
stood one (Some (new_lists.One list)) was of_new app name apart (within, there) =
    let link : Link = record { app = app; predecessor = name; within = within } in
    elim ((with_list-contains list.app list.links.items was link).0 there) [
      | inl mine ↦ absurd (apart (list.own link mine ∙ of_new))
      | inr other ↦ (within, other.0)
    ]

-- ---- what is made is of them if what is named is

pub named_look : (Is : List ℕ → Type 0) (all : Definitions) (o : Option Bounds) (draft : Draft)
    → NamesAhead Is all o draft → Is draft.key.app
named_look Is all None draft named = absurd named
named_look Is all (Some b) draft named = named.1

pub numbered_of : (only : Option (List ℕ)) (n : ℕ) (drafts : List Draft)
    → ((draft : Draft) → Contains drafts draft → Looks only draft.key.app) → AreRowsOf only (numbered n drafts)
numbered_of only n [] named row there = absurd (none row there)
numbered_of only n (draft ∷ more) named row there =
    elim (first_or_later (numbered_row (suc n) draft) row (numbered (suc n) more) there) [
      | inl same ↦ subst (λ (x : Row). Looks only x.key.app) same (named draft (here draft more))
      | inr later ↦ numbered_of only (suc n) more (λ d among. named d (further draft d more among)) row later
    ]

-- ---- what is reached

module _ (touch : Touch) (was links : List Link) (gone made stay : List Row) (current : List CurrentRow)
    (completed : List Row) (now : List PlacedRow) (is : IsTouchOf gone made was links touch)
    (listed : AreListed (stay ++ made) current completed now) (once : IsOnce now) where
  moved_app : (only : Option (List ℕ)) → AreRowsOf only gone → AreRowsOf only made → (row : Row) → IsMoved touch row
      → Looks only row.key.app
  moved_app only of_gone of_made row (inl comes) = of_made row (subst (λ rs. Contains rs row) is.comes comes)
  moved_app only of_gone of_made row (inr goes) = of_gone row (subst (λ rs. Contains rs row) is.goes goes)

  pub may_reach : (only : Option (List ℕ)) (new : Option NewLists) → links ≡ lists_after new was → IsNewOf only new
      → AreRowsOf only gone → AreRowsOf only made
      → ((app : List ℕ) → Contains touch.lists.items app → Looks only app) → (q : PlacedRow) → Contains now q
      → MayReach touch links q.row → ReachesApp only was q.row.key.app
  may_reach None new same of_new of_gone of_made of_lists q there reach = tt
  may_reach (Some one) new same of_new of_gone of_made of_lists q there reach =
      of_each touch was links gone made stay current completed now is listed once (ReachesApp (Some one) was)
      (λ row moved. inl (moved_app (Some one) of_gone of_made row moved)) (λ app named. inl (of_lists app named))
      (λ row app moved lists. elim (same_or_not app one) [
        | inl own ↦ inl own
        | inr apart ↦ inr (stood one new was of_new app one apart
            (subst (λ ls. Lists ls app one) same
            (subst (Lists links app) (moved_app (Some one) of_gone of_made row moved) lists)))
      ]) q there reach
