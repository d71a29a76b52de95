-- For private contracts only: what a search through a graph has seen.
use Rattle.std.specs.Prelude.{◌≡◌, ◌≢◌, ℕ, ◌+◌, ◌<◌, ◌≤◌, ◌⊎◌, Bool, true, false, not, List, Contains}
use Rattle.std.specs.Prelude.{count_by, length, slice_index, slice_index_or}

-- the node is marked as reached
abbrev pub IsReached : List Bool → ℕ → Type 0
IsReached reached node = slice_index_or reached node false ≡ true

-- how many nodes are not marked
abbrev pub unreached : List Bool → ℕ
unreached reached = count_by not reached

-- the marks and the order of visits, before and after a visit to a node with these targets
pub record Visits (targets : List ℕ) (node start : ℕ) (reached : List Bool) (order : List ℕ)
    (reached' : List Bool) (order' : List ℕ) : Type 0 where
  pub same_length : length reached' ≡ length reached
  pub longer : length order ≤ length order'
  pub same_front : (j : ℕ) → j < length order → slice_index order' j ≡ slice_index order j
  pub all_reached : (w : ℕ) → Contains targets w → w ≢ node → IsReached reached' w
  pub grows : (w : ℕ) → IsReached reached w → IsReached reached' w
  pub are_targets : (w : ℕ) → IsReached reached' w
      → IsReached reached w ⊎ (Contains targets w × (w ≢ node) × (w ≢ start))
  pub are_listed : (w : ℕ) → IsReached reached' w → IsReached reached w ⊎ Contains order' w
  pub are_reached : (w : ℕ) → Contains order' w → Contains order w ⊎ (IsReached reached' w × (w < length reached))
  pub listed_grows : (w : ℕ) → Contains order w → Contains order' w
  pub work_left : unreached reached' + length order' ≡ unreached reached + length order
