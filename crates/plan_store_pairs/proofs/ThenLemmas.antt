-- A list in the place of the one of its application.
use Rattle.std.proofs.Common.{◌≡◌, ◌≢◌, ◌⊎◌, ℕ, List, inl, inr}
use Rattle.std.specs.List.{Contains}
use Rattle.external_dependencies.specs.Touch.{HasSameList}
use Rattle.external_dependencies.specs.declared.links.Link.{Link}
use Rattle.plan_store_lists.specs.LinkBlocks.{with_list}
use Rattle.plan_store_lists.proofs.LinkBlockLemmas.{with_list-contains}

module _ (app : List ℕ) (list links : List Link) where
  -- a link is in the list, or stood
  pub listed_or_stood : (link : Link) → Contains (with_list app list links) link
      → Contains list link ⊎ Contains links link
  listed_or_stood link there = elim ((with_list-contains app list links link).0 there) [
    | inl listed ↦ inl listed
    | inr stood ↦ inr stood.0
  ]

  -- the lists of other applications stay
  pub others_stay : ((link : Link) → Contains list link → link.app ≡ app) → (other : List ℕ) → other ≢ app
      → HasSameList links (with_list app list links) other
  others_stay own other apart predecessor within =
      let link : Link = record { app = other; predecessor = predecessor; within = within } in
      let is = with_list-contains app list links link in (
        (λ stood. is.1 (inr (stood, apart))),
        λ there. elim (is.0 there) [
          | inl listed ↦ absurd (apart (own link listed))
          | inr stood ↦ stood.0
        ],
      )
