-- What the laws of the two modifications have in common.
use Rattle.std.proofs.Common.{List, None, Option, Some, ap, inl, length, subst, sym, ℕ, ◌+◌, ◌∙◌, ◌≡◌, ◌⊎◌}
use Rattle.std.specs.Prelude.{Bool, Contains, Ok}
use Rattle.app_definitions.specs.declared.definitions.Definitions.{Definitions}
use Rattle.external_dependencies.specs.Loop.{OnLoop}
use Rattle.external_dependencies.specs.declared.links.Link.{Link}
use Rattle.occurrences.specs.declared.place.Place.TheVariants.{LongTerm}
use Rattle.occurrences.specs.declared.reply.Reply.{Reply}
use Rattle.occurrences.specs.declared.row.Row.{Row}
use Rattle.planner_machine.specs.Content.{Content, IsOnlyAt, Sets, midnight}
use Rattle.planner_machine.specs.Drafts.{NamesDraft}
use Rattle.planner_machine.specs.Fate.{IsGenerated, ModifyFate}
use Rattle.planner_machine.specs.Fresh.{IsFresh, IsLeftOut, NamesInPlan, StandsSo, draft_of_row}
use Rattle.planner_machine.specs.InForce.{PutsLists}
use Rattle.planner_machine.specs.Laws.{Follows}
use Rattle.planner_machine.specs.Modify.{Modifies, NamesAhead, looks_at, taken}
use Rattle.planner_machine.specs.Plans.{ChangesPlans, WouldHoldTooMany}
use Rattle.planner_machine.specs.RowsSound.{RowsSound}
use Rattle.planner_machine.specs.Sound.{IsKeptReply, IsLink, IsSound}
use Rattle.planner_machine.specs.declared.content.Bounds.{Bounds}
use Rattle.planner_machine.specs.declared.content.Draft.{Draft}
use Rattle.planner_machine.proofs.AssembleLemmas.{Owes}
use Rattle.planner_machine.proofs.FollowLemmas.{modify_keeps_all}
use Rattle.planner_machine.proofs.FreshLemmas.{fresh_of}
use Rattle.planner_machine.proofs.FreshModifyLemmas.{modified_named, modified_stands}
use Rattle.planner_machine.proofs.JobLemmas.{shown_size}
use Rattle.planner_machine.proofs.ModifyLemmas.{Tests, between, modify_follows, modify_keeps}
use Rattle.planner_machine.proofs.OwesLemmas.{leaves_plan}
use Rattle.planner_machine.proofs.PlansLemmas.{shown_made}
use Rattle.planner_machine.proofs.SoundLemmas.{rows_sound}
use Rattle.planner_machine.proofs.StaysSoundLemmas.{days_fit, modified_row, modify_closes, modify_operator}
use Rattle.planner_machine.proofs.StaysSoundLemmas.{plan_of, sizes_of, within_ranges}

module _ (looks : List ℕ → Bool) (Looks : List ℕ → Type 0) (tests : Tests looks Looks) (Puts : PutsLists) (c : Content)
    (reply : Reply) (c' : Content) (sound : IsSound c) where
  pub modified_follows : (d : ChangesPlans (Modifies looks Looks) Puts c reply c')
      → Follows LongTerm (ModifyFate Looks c.definitions) d.rows.new c.sets c'.sets
  modified_follows d =
      let rows = d.rows in
      subst (λ (s : Sets). Follows LongTerm (ModifyFate Looks c.definitions) rows.new c.sets s)
      (sym rows.becomes) (unfold between in
      modify_follows looks Looks tests c.definitions c.sets (rows_sound c sound) rows.named rows.new rows.are_named)

  pub modified_kept : IsSound c' → ChangesPlans (Modifies looks Looks) Puts c reply c' → IsKeptReply (Ok reply)
  modified_kept sound' d = subst (λ r. IsKeptReply (Ok r)) (sym d.rows.replies) (
    shown_made c c' (length d.rows.new) sound' (ap (λ (s : Sets). s.issued) d.rows.becomes),
    shown_size c sound (λ serial. taken (looks_at looks) d.rows.named (c.sets.ltp serial)),
  )

  -- what the applications that it doesn't look at have was fresh
  pub modified_fresh : IsSound c' → ChangesPlans (Modifies looks Looks) Puts c reply c' → (b : Bounds)
      → c.sets.bounds ≡ Some b
      → ((serial : ℕ) (row : Row) → IsOnlyAt c.sets serial (record { row = row; place = LongTerm })
      → IsGenerated row.origin → (Looks row.key.app → ⊥) → NamesDraft c.definitions (draft_of_row row))
      → ((draft : Draft) → NamesInPlan c.definitions b draft → (Looks draft.key.app → ⊥)
      → StandsSo c.sets draft ⊎ IsLeftOut c.sets draft.key) → IsFresh c'
  modified_fresh sound' d b is rest_named rest_stands =
      let rows = d.rows in
      fresh_of c' sound' b (ap (λ (s : Sets). s.bounds) rows.becomes ∙ is)
      (λ serial row there generated. subst (λ (all : Definitions). NamesDraft all (draft_of_row row))
      (sym d.definitions)
      (modified_named looks Looks tests c.definitions c.sets c'.sets (rows_sound c sound) (rows_sound c' sound') b is
      rows.named rows.new rows.are_named rows.are_new (modified_follows d) rest_named rest_stands serial row there
      generated))
      (λ draft names. modified_stands looks Looks tests c.definitions c.sets c'.sets (rows_sound c sound)
      (rows_sound c' sound') b is rows.named rows.new rows.are_named rows.are_new (modified_follows d) rest_named
      rest_stands draft (subst (λ (all : Definitions). NamesInPlan all b draft) d.definitions names))

module _ (looks : List ℕ → Bool) (Looks : List ℕ → Type 0) (tests : Tests looks Looks) (Puts : PutsLists) where
  pub modify_owes : (c c' : Content) (reply : Reply) → IsSound c → (c.sets.bounds ≡ None → ⊥)
      → (WouldHoldTooMany (Modifies looks Looks) c → ⊥) → (d : ChangesPlans (Modifies looks Looks) Puts c reply c')
      → ((link : Link) → Contains c'.in_force link → IsLink link)
      → ((app : List ℕ) → OnLoop c'.in_force app → ⊥) → Owes LongTerm (ModifyFate Looks c.definitions) d.rows.new c c'
  unfolding between
  modify_owes c c' reply sound there few d links loops =
      let rows = d.rows in let sound' = rows_sound c sound in
      let (b, is) = plan_of c there in
      let fit = days_fit c sound b is in
      let bounds : c'.sets.bounds ≡ Some b = ap (λ (s : Sets). s.bounds) rows.becomes ∙ is in
      record {
        follows = modified_follows looks Looks tests Puts c reply c' sound d;
        rows = subst RowsSound (sym rows.becomes)
            (modify_keeps looks Looks tests c.definitions c.sets sound' rows.named b is rows.new rows.are_new);
        keeps = modify_keeps_all Looks c.definitions;
        opens = tt;
        closes = λ serial p q at goes live closed. inl (modify_closes Looks c.definitions p q goes live closed);
        plan = leaves_plan (Modifies looks Looks) Puts c c' reply d b bounds (sound.ranges.days b is).0;
        stays_row = λ serial p q at goes good. modified_row Looks c sound serial p q at goes good;
        drafts_in_range = λ draft at.
            let named : NamesAhead Looks c.definitions (Some b) draft =
            subst (λ (o : Option Bounds). NamesAhead Looks c.definitions o draft) is
            ((rows.are_new.exactly draft).0 at).named in
            within_ranges c.definitions sound.ranges.definitions b.plan_end
            (midnight (b.last_day + 1)) fit.0 fit.3 draft named.0;
        drafts_free = λ draft at generated. ((rows.are_new.exactly draft).0 at).not_deleted;
        by_operator = λ p q goes deleted. inl (modify_operator Looks c.definitions p q goes deleted);
        sizes = sizes_of (Modifies looks Looks) c c' reply few rows;
        links = links;
        no_loop = loops;
      }
