-- The kind of definitions, the listing, and the days of an extension, that a statement names.
use Rattle.planner_cli_stream.specs.declared.words.KindWord.{KindWord}
use Rattle.planner_cli_stream.specs.declared.words.KindWord.TheVariants as word
use Rattle.planner_cli_stream.specs.declared.words.CountWord.{CountWord}
use Rattle.planner_cli_stream.specs.declared.words.CountWord.TheVariants as counts
use Rattle.planner_cli_stream.specs.declared.words.WhatWord.{WhatWord}
use Rattle.planner_cli_stream.specs.declared.words.WhatWord.TheVariants as words
use Rattle.plan_store.specs.declared.listings.What.{What}
use Rattle.plan_store.specs.declared.listings.What.TheVariants as what
use Rattle.app_definitions.specs.declared.kinds.Kind.{Kind}
use Rattle.app_definitions.specs.declared.kinds.Kind.TheVariants as kind
use Rattle.planner_machine.specs.declared.counts.Count.{Count}
use Rattle.planner_machine.specs.declared.counts.Count.TheVariants as count

abbrev pub definitions_kind : KindWord → Kind
definitions_kind word.Calendars = kind.Calendars
definitions_kind word.Periods = kind.Periods
definitions_kind word.Applications = kind.Applications
definitions_kind word.RunCycles = kind.RunCycles
definitions_kind word.Predecessors = kind.Predecessors
definitions_kind word.Options = kind.Options

abbrev pub what_of : WhatWord → What
what_of words.Ltp = what.Ltp
what_of words.Cp = what.Cp
what_of words.History = what.History
what_of words.Deletions = what.Deletions
what_of words.Dependencies = what.Dependencies
what_of words.Links = what.Links

abbrev pub count_of : CountWord → Count
count_of counts.AllDays = count.AllDays
count_of counts.WorkDays = count.WorkDays
