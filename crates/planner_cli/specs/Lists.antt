-- Listings that end before their last row.
use Rattle.std.specs.Prelude.{◌≡◌, ◌⊎◌, ℕ, List, [], ◌++◌, Option, Some, flat_map}
use Rattle.plan_listings.specs.Line.{AreLinesOf}
use Rattle.plan_store.specs.Listings.{IsListing, Shown}
use Rattle.plan_store.specs.declared.listings.What.{What}
use Rattle.planner_machine.specs.Content.{Content}
use Rattle.planner_cli_stream.specs.Items.{Item}
use Rattle.planner_cli.specs.Requests.{Asks, list_asked}
use Rattle.planner_cli.specs.Replies.{ended}
use Rattle.planner_cli.specs.Rows.{IsShownText}

-- the item is `list`, and these are the lines of the first things that it shows where the content is c
pub record BeginsList (c : Content) (item : Item) (lines : List (List ℕ)) : Type 0 where
  pub what : What
  pub app : Option (List ℕ)
  pub asks : Asks item (Some (list_asked what app))
  pub first : List Shown
  pub rest : List Shown
  pub whole : IsListing what app c (first ++ rest)
  pub are_lines : AreLinesOf IsShownText first lines

-- these are the lines of the first things that the item in progress lists
abbrev pub ListsInProgress : Content → Option Item → List (List ℕ) → Type 0
ListsInProgress c hand lines = (item : Item) × (hand ≡ Some item) × BeginsList c item lines

-- what is written of the item in progress before a fault: nothing, or the first lines of a listing
abbrev pub BeginsInProgress : Content → Option Item → List ℕ → Type 0
BeginsInProgress c hand front =
    (front ≡ []) ⊎ ((lines : List (List ℕ)) × ListsInProgress c hand lines × (front ≡ flat_map ended lines))
