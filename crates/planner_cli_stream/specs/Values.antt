-- What the value of an option, or the word without one, has to be: the forms of values.
use Rattle.std.specs.Prelude.{◌≡◌, ℕ, List, Option, Some, None, codes}
use Rattle.std.specs.Fmt.{decimal}
use Rattle.planner_cli_stream.specs.Grammar.{Text, Use, value_in}
use Rattle.work_calendars.specs.Name.{IsName}
use Rattle.work_calendars.specs.Spelling.{SpellsDay, SpellsMoment}
use Rattle.planner_cli_stream.specs.ExtensionDays.{AreExtensionDays}
use Rattle.planner_cli_stream.specs.JobNumber.{IsJobNumber}
use Rattle.planner_cli_stream.specs.Words.{count_text, function_text, kind_text, what_text}
use Rattle.planner_cli_stream.specs.declared.words.CountWord.{CountWord}
use Rattle.planner_cli_stream.specs.declared.words.FunctionWord.{FunctionWord}
use Rattle.planner_cli_stream.specs.declared.words.KindWord.{KindWord}
use Rattle.planner_cli_stream.specs.declared.words.WhatWord.{WhatWord}

-- the value is this text
abbrev pub HasText : List Use → Text → Text → Type 0
HasText us key text = value_in us key ≡ Some text

-- the value of `--job` is this number, in decimal digits without a leading zero
abbrev pub HasJob : List Use → ℕ → Type 0
HasJob us n = HasText us (codes "job") (decimal n) × IsJobNumber n

-- the value of `--days` is this number, in decimal digits without a leading zero
abbrev pub HasDays : List Use → ℕ → Type 0
HasDays us n = HasText us (codes "days") (decimal n) × AreExtensionDays n

-- the value of `--count` is this word
abbrev pub HasCount : List Use → CountWord → Type 0
HasCount us count = HasText us (codes "count") (count_text count)

-- the value of `--app` is this name of an application
abbrev pub HasApp : List Use → Text → Type 0
HasApp us name = HasText us (codes "app") name × IsName name

-- the value of `--name` is this name
abbrev pub HasName : List Use → Text → Type 0
HasName us name = HasText us (codes "name") name × IsName name

-- the value of this option spells this day
abbrev pub HasDay : List Use → Text → ℕ → Type 0
HasDay us key day = (text : Text) × HasText us key text × SpellsDay text day

-- the value of this option spells this moment
abbrev pub HasMoment : List Use → Text → ℕ → Type 0
HasMoment us key moment = (text : Text) × HasText us key text × SpellsMoment text moment

-- the word without an option is this one
abbrev pub HasKind : List Use → KindWord → Type 0
HasKind us kind = HasText us (codes "KIND") (kind_text kind)

abbrev pub HasFunction : List Use → FunctionWord → Type 0
HasFunction us function = HasText us (codes "FUNCTION") (function_text function)

abbrev pub HasWhat : List Use → WhatWord → Type 0
HasWhat us what = HasText us (codes "WHAT") (what_text what)

-- the value of that form, or none where there is none of it
abbrev pub Reading : {A : Type 0} → (A → Type 0) → Option A → Type 0
Reading Has (Some value) = Has value
Reading {A} Has None = (value : A) → ¬ (Has value)
