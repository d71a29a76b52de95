-- The words without an option, and the word that says which days are counted.
use Rattle.std.specs.Prelude.{ℕ, List, codes}
use Rattle.planner_cli_stream.specs.declared.words.KindWord.{KindWord}
use Rattle.planner_cli_stream.specs.declared.words.KindWord.TheVariants as kind
use Rattle.planner_cli_stream.specs.declared.words.CountWord.{CountWord}
use Rattle.planner_cli_stream.specs.declared.words.CountWord.TheVariants as count
use Rattle.planner_cli_stream.specs.declared.words.FunctionWord.{FunctionWord}
use Rattle.planner_cli_stream.specs.declared.words.FunctionWord.TheVariants as function
use Rattle.planner_cli_stream.specs.declared.words.WhatWord.{WhatWord}
use Rattle.planner_cli_stream.specs.declared.words.WhatWord.TheVariants as what

abbrev pub kind_text : KindWord → List ℕ
kind_text kind.Calendars = codes "calendars"
kind_text kind.Periods = codes "periods"
kind_text kind.Applications = codes "applications"
kind_text kind.RunCycles = codes "run-cycles"
kind_text kind.Predecessors = codes "predecessors"
kind_text kind.Options = codes "options"

abbrev pub function_text : FunctionWord → List ℕ
function_text function.Create = codes "create"
function_text function.Extend = codes "extend"
function_text function.ModifyAll = codes "modify-all"
function_text function.ModifyOne = codes "modify-one"
function_text function.Replan = codes "replan"

abbrev pub count_text : CountWord → List ℕ
count_text count.AllDays = codes "A"
count_text count.WorkDays = codes "W"

abbrev pub what_text : WhatWord → List ℕ
what_text what.Ltp = codes "ltp"
what_text what.Cp = codes "cp"
what_text what.History = codes "history"
what_text what.Deletions = codes "deletions"
what_text what.Dependencies = codes "dependencies"
what_text what.Links = codes "links"
