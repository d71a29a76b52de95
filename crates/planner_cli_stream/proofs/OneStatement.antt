-- No line is two statements.
use Rattle.std.proofs.Common.{◌≡◌, ◌∙◌, ◌<◌, ◌^◌, ℕ, List, [], ◌∷◌, true, Option, Some, None, refl, sym, ap}
use Rattle.std.proofs.Common.{ap₂, subst, codes, arith}
use Rattle.std.specs.Fmt.{decimal}
use Rattle.std.specs.List.{list_all}
use Rattle.std.proofs.lemmas.Fmt.{decimal_injective}
use Rattle.planner_cli_stream.specs.Grammar.{Text, Use, reading_of}
use Rattle.planner_cli_stream.specs.Line.{is_line_byte, words_of}
use Rattle.occurrences.specs.declared.status.Action.TheVariants as action
use Rattle.work_calendars.proofs.SpellingFacts.{SpellsDay-one_day, SpellsMoment-one_moment}
use Rattle.work_calendars.specs.Spelling.{SpellsDay, SpellsMoment}
use Rattle.planner_cli_stream.specs.Arguments.{HasArguments}
use Rattle.planner_cli_stream.specs.Words.{count_text, function_text, kind_text, what_text}
use Rattle.planner_cli_stream.specs.Statement.{IsLineOf, IsWrittenIn, Reads, statement_of}
use Rattle.planner_cli_stream.specs.Values.{HasApp, HasCount, HasDay, HasDays, HasFunction, HasJob, HasKind, HasMoment, HasName}
use Rattle.planner_cli_stream.specs.Values.{HasText, HasWhat, Reading}
use Rattle.planner_cli_stream.specs.Verb.{layout_for, verb_text}
use Rattle.planner_cli_stream.proofs.Texts.{IsFound, same_text}
use Rattle.planner_cli_stream.specs.declared.arguments.Arguments.{Arguments}
use Rattle.planner_cli_stream.specs.declared.statements.KeyAct.TheVariants as act
use Rattle.planner_cli_stream.specs.declared.statements.Statement.{Statement}
use Rattle.planner_cli_stream.specs.declared.verbs.Verb.{Verb}
use Rattle.planner_cli_stream.specs.declared.verbs.Verb.TheVariants as verb
use Rattle.planner_cli_stream.specs.declared.words.CountWord.{CountWord}
use Rattle.planner_cli_stream.specs.declared.words.CountWord.TheVariants as count
use Rattle.planner_cli_stream.specs.declared.words.FunctionWord.{FunctionWord}
use Rattle.planner_cli_stream.specs.declared.words.FunctionWord.TheVariants as function
use Rattle.planner_cli_stream.specs.declared.words.KindWord.{KindWord}
use Rattle.planner_cli_stream.specs.declared.words.KindWord.TheVariants as kind
use Rattle.planner_cli_stream.specs.declared.words.WhatWord.{WhatWord}
use Rattle.planner_cli_stream.specs.declared.words.WhatWord.TheVariants as what

-- ---- names and words by their texts

abbrev verbs : List Verb
verbs =
    verb.Define ∷ verb.Undefine ∷ verb.Days ∷ verb.LtpCreate ∷ verb.LtpExtend ∷ verb.LtpModifyAll ∷ verb.LtpModifyOne
    ∷ verb.LtpTrial ∷ verb.DpExtend ∷ verb.DpReplan ∷ verb.DpTrial ∷ verb.OnKey act.Add ∷ verb.OnKey act.Delete
    ∷ verb.OnKey act.AddCurrent ∷ verb.OnKey (act.Act action.Start) ∷ verb.OnKey (act.Act action.Complete)
    ∷ verb.OnKey (act.Act action.Fail) ∷ verb.OnKey (act.Act action.Reset) ∷ verb.OnKey (act.Act action.Delete)
    ∷ verb.List ∷ []

abbrev kinds : List KindWord
kinds = kind.Calendars ∷ kind.Periods ∷ kind.Applications ∷ kind.RunCycles ∷ kind.Predecessors ∷ kind.Options ∷ []

abbrev functions : List FunctionWord
functions = function.Create ∷ function.Extend ∷ function.ModifyAll ∷ function.ModifyOne ∷ function.Replan ∷ []

abbrev counts : List CountWord
counts = count.AllDays ∷ count.WorkDays ∷ []

abbrev listings : List WhatWord
listings = what.Ltp ∷ what.Cp ∷ what.History ∷ what.Deletions ∷ what.Dependencies ∷ what.Links ∷ []

found_verb : (x : Verb) → IsFound verb_text verbs x
found_verb verb.Define = refl
found_verb (verb.OnKey act.Add) = refl
found_verb (verb.OnKey (act.Act action.Start)) = refl
found_verb _ = refl

found_kind : (x : KindWord) → IsFound kind_text kinds x
found_kind kind.Calendars = refl
found_kind _ = refl

found_function : (x : FunctionWord) → IsFound function_text functions x
found_function function.Create = refl
found_function _ = refl

found_count : (x : CountWord) → IsFound count_text counts x
found_count count.AllDays = refl
found_count _ = refl

found_what : (x : WhatWord) → IsFound what_text listings x
found_what what.Ltp = refl
found_what _ = refl

-- ---- values

one_text : (us : List Use) (key a b : Text) → HasText us key a → HasText us key b → a ≡ b
one_text us key a b p q = let same : Some a ≡ Some b = sym p ∙ q in cc

one_kind : (us : List Use) (x y : KindWord) → HasKind us x → HasKind us y → x ≡ y
one_kind us x y p q = same_text kind_text kinds found_kind x y (one_text us (codes "KIND") (kind_text x) (kind_text y) p q)

one_function : (us : List Use) (x y : FunctionWord) → HasFunction us x → HasFunction us y → x ≡ y
one_function us x y p q = same_text function_text functions found_function x y (one_text us (codes "FUNCTION") (function_text x) (function_text y) p q)

one_what : (us : List Use) (x y : WhatWord) → HasWhat us x → HasWhat us y → x ≡ y
one_what us x y p q = same_text what_text listings found_what x y (one_text us (codes "WHAT") (what_text x) (what_text y) p q)

one_job : (us : List Use) (m n : ℕ) → HasJob us m → HasJob us n → m ≡ n
one_job us m n p q =
    let small : m < 2 ^ 64 = omega (arith, p.1) in
    let low : n < 2 ^ 64 = omega (arith, q.1) in
    decimal_injective m n small low (one_text us (codes "job") (decimal m) (decimal n) p.0 q.0)

one_days : (us : List Use) (m n : ℕ) → HasDays us m → HasDays us n → m ≡ n
one_days us m n p q =
    let small : m < 2 ^ 64 = omega (arith, p.1) in
    let low : n < 2 ^ 64 = omega (arith, q.1) in
    decimal_injective m n small low (one_text us (codes "days") (decimal m) (decimal n) p.0 q.0)

one_count : (us : List Use) (x y : CountWord) → HasCount us x → HasCount us y → x ≡ y
one_count us x y p q = same_text count_text counts found_count x y (one_text us (codes "count") (count_text x) (count_text y) p q)

one_app : (us : List Use) (a b : Text) → HasApp us a → HasApp us b → a ≡ b
one_app us a b p q = one_text us (codes "app") a b p.0 q.0

one_name : (us : List Use) (a b : Text) → HasName us a → HasName us b → a ≡ b
one_name us a b p q = one_text us (codes "name") a b p.0 q.0

one_day : (us : List Use) (key : Text) (c d : ℕ) → HasDay us key c → HasDay us key d → c ≡ d
one_day us key c d p q =
    SpellsDay-one_day p.0 c d p.2 (subst (λ t. SpellsDay t d) (sym (one_text us key p.0 q.0 p.1 q.1)) q.2)

one_moment : (us : List Use) (key : Text) (c d : ℕ) → HasMoment us key c → HasMoment us key d → c ≡ d
one_moment us key c d p q =
    SpellsMoment-one_moment p.0 c d p.2 (subst (λ t. SpellsMoment t d) (sym (one_text us key p.0 q.0 p.1 q.1)) q.2)

-- what has at most one value is read in one way
one_reading : {A : Type 0} (Has : A → Type 0) → ((x y : A) → Has x → Has y → x ≡ y) → (o p : Option A) → Reading Has o
    → Reading Has p → o ≡ p
one_reading Has one None None r s = refl
one_reading Has one None (Some y) r s = absurd (r y s)
one_reading Has one (Some x) None r s = absurd (s x r)
one_reading Has one (Some x) (Some y) r s = ap Some (one x y r s)

one_arguments : (us : List Use) (a b : Arguments) → HasArguments us a → HasArguments us b → a ≡ b
one_arguments us a b p q i =
    record {
      job = one_reading (HasJob us) (one_job us) a.job b.job p.job q.job i;
      app = one_reading (HasApp us) (one_app us) a.app b.app p.app q.app i;
      from = one_reading (HasDay us (codes "from")) (one_day us (codes "from")) a.from b.from p.from q.from i;
      to = one_reading (HasDay us (codes "to")) (one_day us (codes "to")) a.to b.to p.to q.to i;
      to_moment =
          one_reading (HasMoment us (codes "to")) (one_moment us (codes "to")) a.to_moment b.to_moment p.to_moment
          q.to_moment i;
      ia = one_reading (HasMoment us (codes "ia")) (one_moment us (codes "ia")) a.ia b.ia p.ia q.ia i;
      days = one_reading (HasDays us) (one_days us) a.days b.days p.days q.days i;
      count = one_reading (HasCount us) (one_count us) a.count b.count p.count q.count i;
      name = one_reading (HasName us) (one_name us) a.name b.name p.name q.name i;
      kind = one_reading (HasKind us) (one_kind us) a.kind b.kind p.kind q.kind i;
      function = one_reading (HasFunction us) (one_function us) a.function b.function p.function q.function i;
      what = one_reading (HasWhat us) (one_what us) a.what b.what p.what q.what i;
      has_app = (p.has_app ∙ sym q.has_app) i;
      has_from = (p.has_from ∙ sym q.has_from) i;
      has_to = (p.has_to ∙ sym q.has_to) i;
      has_days = (p.has_days ∙ sym q.has_days) i;
      has_count = (p.has_count ∙ sym q.has_count) i;
    }

-- the name, the values and the arguments of words that are a statement

one_verb : (name : Text) (after words : List Text) (v : Verb) (s : Statement) → words ≡ name ∷ after
    → name ≡ verb_text v → (w : IsWrittenIn words s) → (w.verb ≡ v) × (w.after ≡ after)
one_verb name after words v s e named w =
    let both : verb_text w.verb ∷ w.after ≡ name ∷ after = sym w.name_first ∙ e in
    let first : verb_text w.verb ≡ name = cc in
    let rest : w.after ≡ after = cc in
    (same_text verb_text verbs found_verb w.verb v (first ∙ named), rest)

one_written : (words : List Text) (s t : Statement) → IsWrittenIn words s → IsWrittenIn words t → s ≡ t
one_written words s t p q =
    let (v, rest) = one_verb (verb_text q.verb) q.after words q.verb s q.name_first refl p in
    let read : Some p.uses ≡ Some q.uses =
    sym p.reading ∙ ap₂ (λ w after. reading_of (layout_for w) after) v rest ∙ q.reading in
    let uses : p.uses ≡ q.uses = cc in
    let arguments =
    one_arguments q.uses p.arguments q.arguments
    (subst (λ (us : List Use). HasArguments us p.arguments) uses p.values) q.values in
    let says : Some s ≡ Some t = sym p.says ∙ ap₂ statement_of v arguments ∙ q.says in
    cc

pub one_statement : (line : List ℕ) (s t : Statement) → IsLineOf s line → IsLineOf t line → s ≡ t
one_statement line s t p q = one_written (words_of line) s t p.1 q.1

-- words that aren't read as the name's layout says are no statement
pub no_values : (line name : Text) (after : List Text) (v : Verb) → words_of line ≡ name ∷ after → name ≡ verb_text v
    → reading_of (layout_for v) after ≡ None
    → (s : Statement) → ¬ (IsLineOf s line)
no_values line name after v e named none s p =
    let w = p.1 in
    let (same, rest) = one_verb name after (words_of line) v s e named w in
    let no : None ≡ Some w.uses =
    sym none ∙ sym (ap₂ (λ u words. reading_of (layout_for u) words) same rest) ∙ w.reading in cc

-- and those that are, are the statement that their values make, or none
pub read_values : (line name : Text) (after : List Text) (v : Verb) (us : List Use) (a : Arguments)
    (o : Option Statement)
    → list_all is_line_byte line ≡ true
    → words_of line ≡ name ∷ after → name ≡ verb_text v → reading_of (layout_for v) after ≡ Some us → HasArguments us a
    → o ≡ statement_of v a → Reads line o
read_values line name after v us a (Some s) printable e named read values made = (
  printable,
  record {
    verb = v;
    after = after;
    uses = us;
    arguments = a;
    name_first = e ∙ ap (λ n. n ∷ after) named;
    reading = read;
    values = values;
    says = sym made;
  },
)
read_values line name after v us a None printable e named read values made = λ s p.
    let w = p.1 in
    let (same, rest) = one_verb name after (words_of line) v s e named w in
    let both : Some w.uses ≡ Some us =
    sym w.reading ∙ ap₂ (λ u words. reading_of (layout_for u) words) same rest ∙ read in
    let uses : w.uses ≡ us = cc in
    let arguments =
    one_arguments us w.arguments a (subst (λ (u : List Use). HasArguments u w.arguments) uses w.values) values in
    let no : None ≡ Some s = made ∙ sym (ap₂ statement_of same arguments) ∙ w.says in cc
