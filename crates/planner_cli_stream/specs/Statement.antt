-- The grammar of statements: which lines a statement is written as.
use Rattle.std.specs.Prelude.{◌≡◌, ◌∷◌, ◌||◌, ℕ, Bool, true, false, List, Option, Some, None, option_map}
use Rattle.std.specs.Prelude.{option_and_then, if◌then◌else◌, length, nat_le}
use Rattle.std.specs.List.{list_all}
use Rattle.planner_cli_stream.specs.Grammar.{Text, Use, reading_of}
use Rattle.planner_cli_stream.specs.Line.{is_line_byte, words_of}
use Rattle.work_calendars.specs.declared.names.TheConstants.{LONGEST_SHORT_NAME}
use Rattle.occurrences.specs.declared.key.Key.{Key}
use Rattle.planner_cli_stream.specs.Arguments.{HasArguments}
use Rattle.planner_cli_stream.specs.Verb.{layout_for, verb_text}
use Rattle.planner_cli_stream.specs.declared.arguments.Arguments.{Arguments}
use Rattle.planner_cli_stream.specs.declared.statements.ChangeStatement.{ChangeStatement}
use Rattle.planner_cli_stream.specs.declared.statements.ChangeStatement.TheVariants as change
use Rattle.planner_cli_stream.specs.declared.statements.DailyFunction.{DailyFunction}
use Rattle.planner_cli_stream.specs.declared.statements.DailyFunction.TheVariants as daily
use Rattle.planner_cli_stream.specs.declared.statements.KeyAct.{KeyAct}
use Rattle.planner_cli_stream.specs.declared.statements.PlanFunction.{PlanFunction}
use Rattle.planner_cli_stream.specs.declared.statements.PlanFunction.TheVariants as plan
use Rattle.planner_cli_stream.specs.declared.statements.Statement.{Statement}
use Rattle.planner_cli_stream.specs.declared.statements.Statement.TheVariants as statement
use Rattle.planner_cli_stream.specs.declared.verbs.Verb.{Verb}
use Rattle.planner_cli_stream.specs.declared.verbs.Verb.TheVariants as verb
use Rattle.planner_cli_stream.specs.declared.words.FunctionWord.{FunctionWord}
use Rattle.planner_cli_stream.specs.declared.words.FunctionWord.TheVariants as function
use Rattle.planner_cli_stream.specs.declared.words.KindWord.{KindWord}
use Rattle.planner_cli_stream.specs.declared.words.KindWord.TheVariants as kind

-- what is made of values that are all there; nothing, where one is missing
abbrev pub of_one : {A R : Type 0} → (A → R) → Option A → Option R
of_one f a = option_map f a

abbrev pub of_two : {A B R : Type 0} → (A → B → R) → Option A → Option B → Option R
of_two f a b = option_and_then (λ x. of_one (f x) b) a

abbrev pub of_three : {A B C R : Type 0} → (A → B → C → R) → Option A → Option B → Option C → Option R
of_three f a b c = option_and_then (λ x. of_two (f x) b c) a

-- only where a test says so
abbrev pub only_if : {R : Type 0} → Bool → Option R → Option R
only_if test o = if test then o else None

-- whether a name fits that kind of definition: a period's is short, and the options have none
abbrev pub fits_kind : KindWord → Text → Bool
fits_kind kind.Options name = false
fits_kind kind.Periods name = nat_le (length name) LONGEST_SHORT_NAME
fits_kind _ name = true

abbrev pub undefined : KindWord → Text → Option ChangeStatement
undefined kind name = only_if (fits_kind kind name) (Some (change.Undefine kind name))

abbrev pub undefine_of : Arguments → Option ChangeStatement
undefine_of a = option_and_then (λ kind. option_and_then (undefined kind) a.name) a.kind

-- what planning does to the long-term plan
abbrev pub create_of : Arguments → Option PlanFunction
create_of a = of_two plan.Create a.from a.to

abbrev pub extend_of : Arguments → Option PlanFunction
extend_of a = of_one plan.Extend a.to

abbrev pub modify_one_of : Arguments → Option PlanFunction
modify_one_of a = of_one plan.ModifyOne a.app

-- what a daily plan does: it extends to a moment or by days, and not by both
abbrev pub daily_extend_of : Arguments → Option DailyFunction
daily_extend_of a = if a.has_days || a.has_count
    then (if a.has_to then None else of_two daily.ExtendBy a.days a.count)
    else of_one daily.Extend a.to_moment

-- the occurrence that the values name
abbrev pub key_of : (ia : ℕ) (app : Text) → Key
key_of ia app = record { ia = ia; app = app }

abbrev pub key_in : Arguments → Option Key
key_in a = of_two key_of a.ia a.app

abbrev pub on_key_of : Arguments → KeyAct → Option ChangeStatement
on_key_of a act = of_one (λ key. change.OnKey key act) (key_in a)

-- the change of that name; none where the name is of no change
abbrev pub change_of : Verb → Arguments → Option ChangeStatement
change_of verb.Undefine a = undefine_of a
change_of verb.LtpCreate a = of_one change.Plan (create_of a)
change_of verb.LtpExtend a = of_one change.Plan (extend_of a)
change_of verb.LtpModifyAll a = Some (change.Plan plan.ModifyAll)
change_of verb.LtpModifyOne a = of_one change.Plan (modify_one_of a)
change_of verb.DpExtend a = of_one change.Daily (daily_extend_of a)
change_of verb.DpReplan a = Some (change.Daily daily.Replan)
change_of (verb.OnKey act) a = on_key_of a act
change_of _ a = None

-- a trial of each function, with the options that it accepts and no others
abbrev pub plan_trial_of : Arguments → FunctionWord → Option PlanFunction
plan_trial_of a function.Create = if a.has_app then None else create_of a
plan_trial_of a function.Extend = if a.has_from || a.has_app then None else extend_of a
plan_trial_of a function.ModifyAll = if a.has_from || a.has_to || a.has_app then None else Some plan.ModifyAll
plan_trial_of a function.ModifyOne = if a.has_from || a.has_to then None else modify_one_of a
plan_trial_of a function.Replan = None

abbrev pub daily_trial_of : Arguments → FunctionWord → Option DailyFunction
daily_trial_of a function.Extend = daily_extend_of a
daily_trial_of a function.Replan = if a.has_to || a.has_days || a.has_count then None else Some daily.Replan
daily_trial_of a _ = None

abbrev pub list_of : Arguments → Option Statement
list_of a = if a.has_app then of_two statement.ListApp a.what a.app else of_one statement.List a.what

-- the statement of that name which these values make, if they make one
abbrev pub statement_of : Verb → Arguments → Option Statement
statement_of verb.Define a = of_two statement.Define a.kind a.job
statement_of verb.Days a = of_three statement.Days a.app a.from a.to
statement_of verb.LtpTrial a = of_one statement.PlanTrial (option_and_then (plan_trial_of a) a.function)
statement_of verb.DpTrial a = of_one statement.DailyTrial (option_and_then (daily_trial_of a) a.function)
statement_of verb.List a = list_of a
statement_of verb a = of_two statement.Change (change_of verb a) a.job

-- the words are a statement's name and then words whose values make the statement
pub record IsWrittenIn (words : List Text) (s : Statement) : Type 0 where
  pub verb : Verb
  pub after : List Text
  pub uses : List Use
  pub arguments : Arguments
  pub name_first : words ≡ verb_text verb ∷ after
  pub reading : reading_of (layout_for verb) after ≡ Some uses
  pub values : HasArguments uses arguments
  pub says : statement_of verb arguments ≡ Some s

-- the line is this statement: printable ASCII and tabs, and the words are those of the statement
abbrev pub IsLineOf : Statement → List ℕ → Type 0
IsLineOf s line = (list_all is_line_byte line ≡ true) × IsWrittenIn (words_of line) s

-- the line is this statement, or none at all
abbrev pub Reads : List ℕ → Option Statement → Type 0
Reads line (Some s) = IsLineOf s line
Reads line None = (s : Statement) → ¬ (IsLineOf s line)
