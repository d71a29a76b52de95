-- Predecessor lists as links.
use Rattle.std.specs.Prelude.{ℕ, All, Contains, List}
use Rattle.app_definition_records.specs.declared.predecessors.Predecessor.{Predecessor}
use Rattle.external_dependencies.specs.declared.links.Link.{Link}

-- the link of an application and a predecessor in its list, with its limit
abbrev pub link_to : List ℕ → Predecessor → Link
link_to app p = record { app = app; predecessor = p.name; within = p.within }

abbrev pub link_of : List ℕ × Predecessor → Link
link_of listed = link_to listed.0 listed.1

-- the predecessors of the links are all among the names
abbrev pub AreListed : List (List ℕ) → List Link → Type 0
AreListed names links = All (λ (link : Link). Contains names link.predecessor) links
