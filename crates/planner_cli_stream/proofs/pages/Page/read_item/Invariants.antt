-- lines without an item were passed over, a byte at least each turn
use Rattle.std.specs.Prelude.{◌≡◌, ◌-◌, ◌≤◌, IfSome}
use Rattle.planner_cli_stream.specs.declared.pages.Held.TheVariants.{Nothing}
use Rattle.planner_cli_stream.specs.Pages.{KeepsRoom}
use Rattle.planner_cli_stream.specs.Readers.{Measures}
use Rattle.planner_cli_stream.proofs.Parts.{Skipped}
use Rattle.planner_cli_stream.proofs.pages.Page.read_item.Given as goal

abbrev pub invariant-loop-turn : goal.invariant-loop-turn
invariant-loop-turn g l =
    (l.self.held ≡ Nothing)
    × IfSome (g.R.Read.remaining l.initial.reader) (λ text. Skipped text (g.R.Read.remaining l.reader))
    × (l.self.left ≤ l.initial.self.left - l._turn)
    × Measures (g.R.Read.remaining l.initial.reader) (g.R.Read.remaining l.reader) l.initial.self.left l.self.left
    × KeepsRoom l.initial.self l.self
