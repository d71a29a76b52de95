-- Runs one after another are one run.
use Rattle.std.proofs.Common.{◌≡◌, ◌⊎◌, ℕ, List, [], ◌∷◌, ◌++◌, refl, sym, ap, subst, inl, inr, Option, None, Some}
use Rattle.std.specs.Prelude.{All, ◌≤◌}
use Rattle.std.proofs.lemmas.List.Elements.{All-append, All-nil}
use Rattle.external_dependencies.specs.declared.rows.PlacedRow.{PlacedRow}
use Rattle.occurrences.specs.declared.place.Place.{Place}
use Rattle.occurrences.specs.declared.place.Place.TheVariants.{LongTerm, Current, History, Deleted}
use Rattle.occurrences.specs.declared.row.Row.{Row}
use Rattle.planner_machine.specs.Content.{Content, Seat, IsOnlyAt, alone, empty_seat, nothing_known}
use Rattle.planner_machine.specs.Sound.{IsSound}
use Rattle.planner_machine.specs.Statement.{Answer, Statement}
use Rattle.planner_machine.specs.Stream.{Goes, IsStatement, Lives, Runs, RunsByFate, RunsSound}
use Rattle.plan_files.specs.Life.{AreRuns, IsLived, Leads, LifeLeads, all_of}

joined : (first rest : List Statement) (c : Content) (before later : List Answer) (c1 c' : Content)
    → Runs first c before c1 → Runs rest c1 later c' → Runs (first ++ rest) c (before ++ later) c'
joined [] rest c [] later c1 c' r r' = subst (λ x. Runs rest x later c') r r'
joined [] rest c (a ∷ before) later c1 c' r r' = absurd r
joined (s ∷ first) rest c [] later c1 c' r r' = absurd r
joined (s ∷ first) rest c (a ∷ before) later c1 c' (next, d, r) r' =
    (next, d, joined first rest next before later c1 c' r r')

pub led_on : (first rest : List Statement) (c c1 c' : Content) → Leads first c c1 → Leads rest c1 c'
    → Leads (first ++ rest) c c'
led_on first rest c c1 c' one two = record {
  answers = one.answers ++ two.answers;
  well_formed = All-append IsStatement first rest one.well_formed two.well_formed;
  run = joined first rest c one.answers two.answers c1 c' one.run two.run;
}

pub all_led : (streams : List (List Statement)) (c c' : Content) → AreRuns streams c c' → Leads (all_of streams) c c'
all_led [] c c' is = record { answers = []; well_formed = All-nil IsStatement; run = is }
all_led (stream ∷ streams) c c' (between, one, more) =
    led_on stream (all_of streams) c between c' one (all_led streams between c' more)

never_empty : (row : Row) (place : Place) → empty_seat ≡ alone row place → ⊥
never_empty row LongTerm is = let none : None ≡ Some row = ap (λ (s : Seat). s.ltp) is in cc
never_empty row (Current status) is = let none = ap (λ (s : Seat). s.cp) is in cc
never_empty row History is = let none : None ≡ Some row = ap (λ (s : Seat). s.history) is in cc
never_empty row (Deleted reason) is = let none = ap (λ (s : Seat). s.deletions) is in cc

pub lived : IsSound nothing_known → RunsSound → RunsByFate → LifeLeads
lived empty stays by_fate streams c runs =
    let leads = all_led streams nothing_known c runs in
    record {
      leads = leads;
      sound = stays (all_of streams) leads.answers nothing_known c empty leads.well_formed leads.run;
      placed = λ serial low high.
          let (q, there, from) =
          by_fate (all_of streams) leads.answers nothing_known c empty leads.well_formed leads.run serial low high in (
            q,
            there,
            elim from [
              | inl stood ↦ absurd (never_empty stood.0.row stood.0.place stood.1)
              | inr lives ↦ lives
            ],
          );
    }
