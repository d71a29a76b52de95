use Rattle.std.proofs.Common.{◌≡◌, ◌∙◌, [], Bor, Bool, List, Some, ap, sym, subst, true, false, ⊎_elim}
use Rattle.std.specs.List.{list_any}
use Rattle.clap.specs.Words.{App, HasKind, HasMatchesOf, IsAmong, app_of, fault_of, is_simple, is_simple_and_free}
use Rattle.clap.specs.Words.{kind_of, matches_of}
use Rattle.clap.proofs.WalkLemmas.{list_any-map}
use Rattle.planner_cli_stream.specs.Command.{app_for}
use Rattle.planner_cli_stream.specs.Form.{layout_of, texts}
use Rattle.planner_cli_stream.specs.Grammar.{is_stray, Text}
use Rattle.planner_cli_stream.specs.WordValues.{all_have_values, uses_in}
use Rattle.planner_cli_stream.proofs.WordReading.{all_have_values-rows_for, reads_err, reads_ok, stray_refused}
use Rattle.planner_cli_stream.proofs.WordReading.{uses_in-rows_for}
use Rattle.planner_cli_stream.proofs.Rules.{simple, simple_and_free}
use Rattle.planner_cli_stream.proofs.form.Form.read.Goals as goal

stray_texts : (words : List (Bor Text)) (b found : Bool) → found ≡ list_any (λ w. is_stray w.now) words → found ≡ b
    → list_any is_stray (texts words) ≡ b
stray_texts words b found e is = sym (e ∙ list_any-map is_stray (λ (w : Bor Text). w.now) words) ∙ is

pub returns-then-has_stray : goal.returns-then-has_stray
returns-then-has_stray c =
    sym (stray_refused (layout_of c.args.self.now) (texts c.args.words.now)
    (stray_texts c.args.words.now true c.has_stray.result c.has_stray.ensures c.if-has_stray.true))

pub new-requires : goal.new-requires
new-requires c =
    let l = layout_of c.args.self.now in
    let words = texts c.args.words.now in
    let is : app_of c.in_ok-command.command ≡ app_for l = c.in_ok-command.ensures in
    let has : HasMatchesOf (app_of c.in_ok-command.command) words c.in-Ok.matches = c.in-Ok.ensures.matches in
    let clear : fault_of (app_of c.in_ok-command.command) words ≡ [] =
    c.in-Ok.ensures.kinds (ap is_simple_and_free is ∙ simple_and_free l) in
    let none = stray_texts c.args.words.now false c.has_stray.result c.has_stray.ensures c.if-has_stray.false in
    let p = reads_ok l words none (sym (ap (λ a. fault_of a words) is) ∙ clear) in
    ap all_have_values ((has (ap is_simple is ∙ simple l)).0 ∙ ap (λ a. matches_of a words) is ∙ p.2)
    ∙ all_have_values-rows_for p.0

pub returns-in-Ok : goal.returns-in-Ok
returns-in-Ok c =
    let l = layout_of c.args.self.now in
    let words = texts c.args.words.now in
    let is : app_of c.in_ok-command.command ≡ app_for l = c.in_ok-command.ensures in
    let has : HasMatchesOf (app_of c.in_ok-command.command) words c.in-Ok.matches = c.in-Ok.ensures.matches in
    let clear : fault_of (app_of c.in_ok-command.command) words ≡ [] =
    c.in-Ok.ensures.kinds (ap is_simple_and_free is ∙ simple_and_free l) in
    let none = stray_texts c.args.words.now false c.has_stray.result c.has_stray.ensures c.if-has_stray.false in
    let p = reads_ok l words none (sym (ap (λ a. fault_of a words) is) ∙ clear) in
    ap Some
    (c.new.ensures ∙ ap uses_in ((has (ap is_simple is ∙ simple l)).0 ∙ ap (λ a. matches_of a words) is ∙ p.2)
    ∙ uses_in-rows_for p.0)
    ∙ sym p.1

pub returns : goal.returns
returns c =
    let l = layout_of c.args.self.now in
    let words = texts c.args.words.now in
    let is : app_of c.in_ok-command.command ≡ app_for l = c.in_ok-command.ensures in
    let kinds : HasKind (fault_of (app_of c.in_ok-command.command) words) c.in-Err.error =
    c.in-Err.ensures.kinds (ap is_simple_and_free is ∙ simple_and_free l) in
    let none = stray_texts c.args.words.now false c.has_stray.result c.has_stray.ensures c.if-has_stray.false in
    ⊎_elim
    (λ memory. absurd (c.in_default.not-OutOfMemory (c.kind.ensures ∙ memory)))
    (λ among. sym
    (reads_err l words none (kind_of c.in-Err.error)
    (subst (λ (a : App). IsAmong (kind_of c.in-Err.error) (fault_of a words)) is among)))
    kinds
