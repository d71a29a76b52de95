use Rattle.std.proofs.Common.{rules, ◌≡◌, ◌+◌, ℕ, Bool, List, Option, ap, subst, ⊎_elim, option_map, ◌∙◌, arith}
use Rattle.work_calendars.specs.CountedIndex.{CountedStatuses}
use Rattle.work_calendars.specs.WorkDay.{work_days_before}
use Rattle.work_calendars.specs.WorkIndex.{is_work_in}
use Rattle.run_cycles.specs.declared.rules.Rule.TheVariants.{WorkDaysOnly}
use Rattle.run_cycles.specs.Offset.{Offset}
use Rattle.run_cycles.specs.Searches.{AddsDays, GivesIn, IsGivenAt, IsInWindow}
use Rattle.run_cycles.proofs.AddLemmas.{on_ok, window_empty, window_same}
use Rattle.run_cycles.proofs.JumpLemmas.{few_work_days, place_is_raw_day, rule_is}
use Rattle.run_cycles.proofs.jump.push_interval.Goals as goal

pub push_days-requires-clause-start : goal.push_days-requires-clause-start
push_days-requires-clause-start c =
    let few = few_work_days c.args.index.now.statuses c.args.interval.now.first in
    omega arith

pub returns-then-is_empty-clause-days : goal.returns-then-is_empty-clause-days
returns-then-is_empty-clause-days c = window_empty c.args.window.now.low c.args.window.now.high
    (GivesIn c.args.rule (is_work_in c.args.index.now.statuses) c.args.interval.now.first c.args.interval.now.last)
    c.args.offsets.now (search rules) c.args.days.now.items

pub returns-in-WorkDaysOnly-clause-days : goal.returns-in-WorkDaysOnly-clause-days
returns-in-WorkDaysOnly-clause-days c =
    let low = c.args.window.now.low in
    let high = c.args.window.now.high in
    let offsets = c.args.offsets.now in
    let s = c.args.index.now.statuses in
    let statuses : CountedStatuses → List Bool = λ s. s.statuses in
    let after : c.rank-start.new.self.statuses ≡ s = ap statuses c.rank-start.ensures.counted in
    let later : c.up_to-end.new.index.statuses ≡ s = c.up_to-end.ensures.asked.0 ∙ after in
    let start : c.rank-start.result ≡ work_days_before (is_work_in s) c.args.interval.now.first =
    c.rank-start.ensures.value in
    let end : c.up_to-end.result ≡ option_map (λ l. work_days_before (is_work_in s) (l + 1)) c.args.interval.now.last
    = c.up_to-end.ensures.value ∙ ap (λ t. option_map (λ l. work_days_before (is_work_in t) (l + 1))
    c.args.interval.now.last) after in
    let G : List Bool → ℕ → Option ℕ → Offset → ℕ → Type 0 = λ t a b. IsGivenAt c.args.rule (is_work_in t) a b in
    let H : Offset → ℕ → Type 0 = GivesIn c.args.rule (is_work_in s)
    c.args.interval.now.first c.args.interval.now.last in
    let same : G c.up_to-end.new.index.statuses c.rank-start.result c.up_to-end.result ≡ G s
    (work_days_before (is_work_in s) c.args.interval.now.first)
    (option_map (λ l. work_days_before (is_work_in s) (l + 1)) c.args.interval.now.last)
    = λ i. G (later i) (start i) (end i) in
    on_ok _ _ c.push_days.result
    (λ h. window_same low high (G s (work_days_before (is_work_in s) c.args.interval.now.first)
    (option_map (λ l. work_days_before (is_work_in s) (l + 1)) c.args.interval.now.last))
    H offsets c.args.days.now.items c.push_days.new.days.items
    (λ k d. rule_is c.args.rule (is_work_in s) c.args.interval.now.first
    c.args.interval.now.last k d c.in-WorkDaysOnly.is)
    (let Q : (Offset → ℕ → Type 0) → Type 0 = λ P. AddsDays (IsInWindow low high P offsets)
    c.args.days.now.items c.push_days.new.days.items in subst Q same h))
    c.push_days.ensures.days

pub returns-in-Before-clause-days : goal.returns-in-Before-clause-days
returns-in-Before-clause-days c =
    let low = c.args.window.now.low in
    let high = c.args.window.now.high in
    let offsets = c.args.offsets.now in
    let s = c.args.index.now.statuses in
    let other : ¬ (c.args.rule ≡ WorkDaysOnly) = λ e. ⊎_elim
    (λ p. cc) (λ q. ⊎_elim (λ p. cc) (λ r. ⊎_elim (λ p. cc) (λ p. cc) r) q) c.in-Before.is in
    let G : ℕ → Option ℕ → Offset → ℕ → Type 0 = λ a b. IsGivenAt c.args.rule (is_work_in s) a b in
    let H : Offset → ℕ → Type 0 = GivesIn c.args.rule (is_work_in s)
    c.args.interval.now.first c.args.interval.now.last in
    let same : G c.number-start.result c.end_of.result ≡ G c.args.interval.now.first
    (option_map (λ l. l + 1) c.args.interval.now.last)
    = λ i. G (c.number-start.ensures.value i) (c.end_of.ensures i) in
    on_ok _ _ c.push_days-in-Before.result
    (λ h. window_same low high (G c.args.interval.now.first (option_map (λ l. l + 1) c.args.interval.now.last))
    H offsets c.args.days.now.items c.push_days-in-Before.new.days.items
    (λ k d. place_is_raw_day c.args.rule (is_work_in s) k c.args.interval.now.first c.args.interval.now.last d other)
    (let Q : (Offset → ℕ → Type 0) → Type 0 = λ P. AddsDays (IsInWindow low high P offsets)
    c.args.days.now.items c.push_days-in-Before.new.days.items in subst Q same h))
    c.push_days-in-Before.ensures.days
