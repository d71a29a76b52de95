-- The rows that a list or a trial prints.
use Rattle.std.specs.Prelude.{◌≡◌, ℕ, List, [], ◌∷◌}
use Rattle.std.specs.Str.{byte}
use Rattle.occurrences.specs.declared.reply.Reply.{Reply}
use Rattle.run_cycles.specs.declared.named.Named.{Named}
use Rattle.plan_listings.specs.Days.{IsDaysLine}
use Rattle.plan_listings.specs.Line.{AreLinesOf}
use Rattle.plan_listings.specs.Links.{link_text}
use Rattle.plan_listings.specs.Report.{IsSignedText, daily_sign, plan_sign}
use Rattle.plan_listings.specs.Row.{IsMarkedText, IsPairText, IsRowText}
use Rattle.plan_listings.specs.declared.report.Signed.{Signed}
use Rattle.plan_store.specs.Listings.{InForce, Linked, Marked, Plain, Shown}
use Rattle.planner_machine.specs.Content.{Content}
use Rattle.planner_machine.specs.Shown.{DailyChange, DailyMark, PlanChange, PlanMark, ShowsDaily, ShowsPlan, TrialShows}
use Rattle.planner_machine.specs.Shown.{WouldBeCarried, WouldBeDeleted, WouldBeHistory, WouldBeMade, WouldBeMoved}
use Rattle.planner_machine.specs.Shown.{WouldBeWithdrawn}
use Rattle.planner_machine.specs.Statement.{Change, Create, DailyExtend, DailyExtendBy, Extend, ModifyAll, ModifyOne}
use Rattle.planner_machine.specs.Statement.{Replan, decision_of}

-- each row is the line of the occurrence at its place
abbrev pub AreDaysLines : List Named → List (List ℕ) → Type 0
AreDaysLines [] [] = Unit {0}
AreDaysLines (x ∷ xs) (row ∷ rows) = IsDaysLine x row × AreDaysLines xs rows
AreDaysLines _ _ = ⊥

-- the mark of a row of a trial
abbrev pub plan_mark : PlanMark → ℕ
plan_mark WouldBeMade = byte "+"
plan_mark WouldBeWithdrawn = byte "-"

abbrev pub daily_mark : DailyMark → ℕ
daily_mark WouldBeMoved = byte ">"
daily_mark WouldBeCarried = byte "="
daily_mark WouldBeHistory = byte "H"
daily_mark WouldBeDeleted = byte "X"

-- the row after its mark, and in a trial of a daily plan the letter of its status after it
abbrev pub plan_signed : PlanChange → Signed
plan_signed change = plan_sign (plan_mark change.mark) change.row

abbrev pub daily_signed : DailyChange → Signed
daily_signed change = daily_sign (daily_mark change.mark) change.status change.row

-- the rows of an accepted trial are the way from the content to what the statement would leave
abbrev pub ShowsPlanTrial : Change → Content → Reply → List (List ℕ) → Type 0
ShowsPlanTrial change c reply rows = (shown : List PlanChange) × TrialShows ShowsPlan (decision_of change) c reply shown
    × AreLinesOf (λ x. IsSignedText (plan_signed x)) shown rows

abbrev pub ShowsDailyTrial : Change → Content → Reply → List (List ℕ) → Type 0
ShowsDailyTrial change c reply rows =
    (shown : List DailyChange) × TrialShows ShowsDaily (decision_of change) c reply shown
    × AreLinesOf (λ x. IsSignedText (daily_signed x)) shown rows

-- the planning statements and the daily plans are tried, and no others
abbrev pub ShowsTrial : Change → Content → Reply → List (List ℕ) → Type 0
ShowsTrial (Create from to) c reply rows = ShowsPlanTrial (Create from to) c reply rows
ShowsTrial (Extend to) c reply rows = ShowsPlanTrial (Extend to) c reply rows
ShowsTrial ModifyAll c reply rows = ShowsPlanTrial ModifyAll c reply rows
ShowsTrial (ModifyOne app) c reply rows = ShowsPlanTrial (ModifyOne app) c reply rows
ShowsTrial (DailyExtend to) c reply rows = ShowsDailyTrial (DailyExtend to) c reply rows
ShowsTrial (DailyExtendBy days count) c reply rows = ShowsDailyTrial (DailyExtendBy days count) c reply rows
ShowsTrial Replan c reply rows = ShowsDailyTrial Replan c reply rows
ShowsTrial change c reply rows = ⊥

-- the line of what a listing shows
abbrev pub IsShownText : Shown → List ℕ → Type 0
IsShownText (Plain row) line = IsRowText row line
IsShownText (Marked row letter) line = IsMarkedText row letter line
IsShownText (Linked successor predecessor) line = IsPairText successor predecessor line
IsShownText (InForce link) line = line ≡ link_text link.app link.predecessor link.within
