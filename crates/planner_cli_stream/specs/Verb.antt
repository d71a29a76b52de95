-- The table of the statements: the name of each, and what follows it.
use Rattle.std.specs.Prelude.{ℕ, true, false, List, [], ◌∷◌, Option, Some, None, map, codes}
use Rattle.planner_cli_stream.specs.Grammar.{Layout, Text}
use Rattle.occurrences.specs.declared.status.Action.TheVariants as action
use Rattle.planner_cli_stream.specs.declared.statements.KeyAct.TheVariants as act
use Rattle.planner_cli_stream.specs.declared.verbs.Verb.{Verb}
use Rattle.planner_cli_stream.specs.declared.verbs.Verb.TheVariants as verb

abbrev pub verb_text : Verb → List ℕ
verb_text verb.Define = codes "define"
verb_text verb.Undefine = codes "undefine"
verb_text verb.Days = codes "days"
verb_text verb.LtpCreate = codes "ltp-create"
verb_text verb.LtpExtend = codes "ltp-extend"
verb_text verb.LtpModifyAll = codes "ltp-modify-all"
verb_text verb.LtpModifyOne = codes "ltp-modify-one"
verb_text verb.LtpTrial = codes "ltp-trial"
verb_text (verb.OnKey act.Add) = codes "ltp-add"
verb_text (verb.OnKey act.Delete) = codes "ltp-delete"
verb_text verb.DpExtend = codes "dp-extend"
verb_text verb.DpReplan = codes "dp-replan"
verb_text verb.DpTrial = codes "dp-trial"
verb_text (verb.OnKey act.AddCurrent) = codes "cp-add"
verb_text (verb.OnKey (act.Act action.Start)) = codes "cp-start"
verb_text (verb.OnKey (act.Act action.Complete)) = codes "cp-complete"
verb_text (verb.OnKey (act.Act action.Fail)) = codes "cp-fail"
verb_text (verb.OnKey (act.Act action.Reset)) = codes "cp-reset"
verb_text (verb.OnKey (act.Act action.Delete)) = codes "cp-delete"
verb_text verb.List = codes "list"

-- options of these names, each of which has to be there, and a word without an option
abbrev pub takes : List Text → Option Text → Layout
takes names word = record { options = map (λ name. (name, true)) names; word = word }

-- a word without an option, and options that may be there
abbrev pub may_take : List Text → Option Text → Layout
may_take names word = record { options = map (λ name. (name, false)) names; word = word }

-- `--job`, and a moment or a number of days with the word of which are counted
abbrev pub extension : Layout
extension = record {
  options = (codes "job", true) ∷ (codes "to", false) ∷ (codes "days", false) ∷ (codes "count", false) ∷ [];
  word = None;
}

-- the words that name one occurrence
abbrev pub occurrence_names : List Text
occurrence_names = codes "app" ∷ codes "ia" ∷ codes "job" ∷ []

-- the words after the name
abbrev pub layout_for : Verb → Layout
layout_for verb.Define = takes (codes "job" ∷ []) (Some (codes "KIND"))
layout_for verb.Undefine = takes (codes "name" ∷ codes "job" ∷ []) (Some (codes "KIND"))
layout_for verb.Days = takes (codes "app" ∷ codes "from" ∷ codes "to" ∷ []) None
layout_for verb.LtpCreate = takes (codes "from" ∷ codes "to" ∷ codes "job" ∷ []) None
layout_for verb.LtpExtend = takes (codes "to" ∷ codes "job" ∷ []) None
layout_for verb.LtpModifyAll = takes (codes "job" ∷ []) None
layout_for verb.LtpModifyOne = takes (codes "app" ∷ codes "job" ∷ []) None
layout_for verb.LtpTrial = may_take (codes "from" ∷ codes "to" ∷ codes "app" ∷ []) (Some (codes "FUNCTION"))
layout_for verb.DpExtend = extension
layout_for verb.DpReplan = takes (codes "job" ∷ []) None
layout_for verb.DpTrial = may_take (codes "to" ∷ codes "days" ∷ codes "count" ∷ []) (Some (codes "FUNCTION"))
layout_for (verb.OnKey act) = takes occurrence_names None
layout_for verb.List = may_take (codes "app" ∷ []) (Some (codes "WHAT"))
