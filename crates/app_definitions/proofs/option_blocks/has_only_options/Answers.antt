use Rattle.std.proofs.Common.{◌≢◌, ◌∙◌, sym, ap, refl, rules, inl, inr, [], ◌∷◌, ◌++◌, append_assoc, string_bytes}
use Rattle.std.specs.Prelude.{codes}
use Rattle.std.proofs.lemmas.Bool.{false≢true}
use Rattle.std.proofs.lemmas.List.{append-nil}
use Rattle.toml.proofs.Views.{Entry}
use Rattle.app_definitions.specs.Options.{IsOptionKey}
use Rattle.app_definitions.proofs.OptionLemmas.{OnlyKeys-last, only_members, another_key}
use Rattle.app_definitions.proofs.option_blocks.has_only_options.Goals.{else-ne-via-then-ne+else-ne-2}
use Rattle.app_definitions.proofs.option_blocks.has_only_options.Goals.{else-ne-via-else-ne}
use Rattle.app_definitions.proofs.option_blocks.has_only_options.Goals as goal

pub returns-then-ne-2 : goal.returns-then-ne-2
returns-then-ne-2 c =
    let done = c.loop-key.invariant.0 in
    let e : Entry = (c.in-Some.key.now, c.in-Some.field-0-1.now) in
    let is = c.loop-key.invariant.1 ∙ ap (λ es. done ++ es) c.in-Some.ensures.steps in
    let no_calendar : string_bytes c.in-Some.key.now ≢ codes "default_calendar" = search rules in
    let no_hours : string_bytes c.in-Some.key.now ≢ codes "max_extension_hours" = search rules in
    let other : ¬ (IsOptionKey (string_bytes e.0)) =
    λ option. elim option [ inl is ↦ no_calendar is | inr is ↦ no_hours is ] in (
      λ no. absurd (false≢true no),
      λ only. absurd
          (another_key c.args.table.now.entries done c.next.new.self e is other only),
    )

pub loop-key-preserved : goal.loop-key-preserved
loop-key-preserved c =
    let done = c.loop-key.invariant.0 in
    let e : Entry = (c.in-Some.key.now, c.in-Some.field-0-1.now) in
    let is = c.loop-key.invariant.1 ∙ ap (λ es. done ++ es) c.in-Some.ensures.steps in
    let option : IsOptionKey (string_bytes e.0) = elim c.else-ne.branch [
      | else-ne-via-then-ne+else-ne-2 w ↦ inr (search rules)
      | else-ne-via-else-ne w ↦ inl (search rules)
    ] in (
      done ++ e ∷ [],
      is ∙ sym (append_assoc done (e ∷ []) c.next.new.self),
      OnlyKeys-last done e c.loop-key.invariant.2 option,
    )

pub returns : goal.returns
returns c =
    let done = c.loop-key.invariant.0 in
    let is = c.loop-key.invariant.1 ∙ ap (λ es. done ++ es) c.in-None.ensures.steps.0 ∙ append-nil done in
    (λ yes. rw is (only_members done c.loop-key.invariant.2), λ only. refl)
