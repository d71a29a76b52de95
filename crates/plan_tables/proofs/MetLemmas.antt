-- What a change meets in the tables, and what is kept after it.
use Rattle.std.proofs.Common.{◌≡◌, ◌∙◌, None, ap, subst, sym}
use Rattle.sqlite.specs.State.{HasCleanDisk, State}
use Rattle.planner_machine.specs.Content.{Content}
use Rattle.planner_machine.specs.Sound.{IsSound}
use Rattle.plan_tables_windows.specs.Changes.{KnowsNamed}
use Rattle.plan_tables_windows.proofs.ChangeLemmas.{change_fits, change_part}
use Rattle.plan_store.specs.Changes.{Fits, after}
use Rattle.plan_store.specs.Parts.{IsPartOf, Rest, rest_of}
use Rattle.plan_store.specs.Room.{no_jobs}
use Rattle.plan_store.specs.Staged.{jobless}
use Rattle.plan_store.specs.declared.changes.Change.{Change}
use Rattle.plan_tables_schema.specs.Rows.{tables_of}
use Rattle.plan_tables_content.specs.DecodedSets.{AllRepresentSets}
use Rattle.plan_tables_windows.specs.Fetching.{told_rest}
use Rattle.plan_tables_opening.specs.Opened.{IsStored}
use Rattle.plan_tables_writing.specs.declared.redefining.DefinitionMoves.{DefinitionMoves}
use Rattle.plan_tables.specs.Kept.{CanRead, IsKept, IsMet, kept_in}
use Rattle.plan_tables.specs.Representable.{BringMoves}
use Rattle.plan_tables.proofs.StorableMoves.{told_moves}
use Rattle.plan_tables.proofs.StoredLemmas.{kept_after, kept_still, told_kept}
use Rattle.plan_tables.proofs.ToldLemmas.{told_by_tables}

-- the lists keep no job
pub still_jobless : (change : Change) (lists new : Content) → new ≡ after (jobless change) lists → lists.jobs ≡ no_jobs
    → new.jobs ≡ no_jobs
still_jobless change lists new is none = ap (λ (k : Content). k.jobs) is ∙ (λ i number. none i number)

-- a change that fits what is kept fits the lists, which know what it names and keep no job
pub fits_lists : (s : State) (lists : Content) (change : Change) → lists.jobs ≡ no_jobs
    → IsPartOf (told_rest (tables_of s.now.trees)) lists → KnowsNamed (told_rest (tables_of s.now.trees)) change lists
    → Fits change (kept_in s lists) → Fits change lists
fits_lists s lists change none part knows fits =
    change_fits (told_rest (tables_of s.now.trees)) lists change part knows fits none

module _ (s : State) (lists : Content) (change : Change) (moves : DefinitionMoves)
    (fits : CanRead s → Fits change (kept_in s lists)) (sound : CanRead s → IsSound (after change (kept_in s lists)))
    (brings : BringMoves change.definitions moves) where
  abbrev pub own_rest : Rest
  own_rest = told_rest (tables_of s.now.trees)

  pub met_so : HasCleanDisk s → IsKept s lists → IsMet s lists change moves own_rest
  met_so clean kept =
      let can : CanRead s = (clean, kept.stored.is_open) in
      record {
        stored = kept.stored;
        fits = fits can;
        told = told_moves change.definitions moves brings (told_by_tables change (kept_in s lists) (sound can)).0;
      }

  -- the tables have all of it, and the lists have it without its job, and a part of the rest
  pub keeps_after : AllRepresentSets → (t : State) (new : Content) → new ≡ after (jobless change) lists
      → IsPartOf own_rest lists → KnowsNamed own_rest change lists → Fits change (kept_in s lists)
      → IsStored t (after change (kept_in s lists)) → IsSound (after change (kept_in s lists)) → IsKept t new
  keeps_after tell t new is part knows fits' stored sound' =
      let same = kept_after tell t own_rest change lists new is stored in
      let told = told_kept tell t (after change (kept_in s lists)) stored in
      record {
        stored = subst (IsStored t) (sym same) stored;
        sound = subst IsSound (sym same) sound';
        part = subst (λ (rest : Rest). IsPartOf rest new) (sym told)
            (subst (IsPartOf (rest_of (after change (kept_in s lists)))) (sym is)
            (change_part own_rest lists change part knows fits' None));
      }

-- where nothing was changed
pub kept_undone : (old new : State) (lists now : Content) → now ≡ lists → new.now ≡ old.now
    → kept_in new now ≡ kept_in old lists
kept_undone old new lists now is same = ap (kept_in new) is ∙ kept_still old new lists same
