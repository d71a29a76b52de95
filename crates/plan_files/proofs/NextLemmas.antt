-- What the next run finds.
use Rattle.std.proofs.Common.{◌≡◌, ◌∙◌, ℕ, zero, suc, List, [], ◌∷◌, ap, inl, inr, refl, subst, sym}
use Rattle.std.proofs.Math.Logic.{∥∥₁_map}
use Rattle.std.specs.Prelude.{IfOk, IfSome, Ok, Result, Some}
use Rattle.sqlite.specs.Effect.{Database, IsDatabase}
use Rattle.sqlite.specs.Files.{AreFoundIn, HoldsDatabase, file_state}
use Rattle.sqlite.specs.Start.{FindsIn}
use Rattle.sqlite.specs.State.{IsLive, Opens, State}
use Rattle.sqlite.specs.Tree.{Trees}
use Rattle.sqlite_disk.specs.declared.Disk as disk
use Rattle.sqlite_wal.specs.Recovery.{Image}
use Rattle.planner_machine.specs.Content.{Content, nothing_known}
use Rattle.planner_machine.specs.Sound.{IsSound}
use Rattle.planner_cli_stream.specs.Items.{items_of}
use Rattle.planner_cli.specs.Plans.{RanPlan}
use Rattle.planner_cli.specs.Replies.{AnswerLines, prints}
use Rattle.planner_cli.specs.Reruns.{EndsAsOneRun}
use Rattle.planner_cli.specs.Runs.{Ends, Ran, ends_of}
use Rattle.planner_cli.specs.Steps.{Step}
use Rattle.planner_cli.specs.declared.faults.RunFault.{RunFault}
use Rattle.planner_cli.specs.declared.tally.Tally.{Tally}
use Rattle.plan_tables_schema.specs.Rows.{tables_of}
use Rattle.plan_tables_loading.specs.Reading.{HasPlan}
use Rattle.plan_tables_opening.proofs.OpeningLemmas.{room_has_none}
use Rattle.plan_tables_content.specs.Content.{HaveOneContent}
use Rattle.plan_migrations.specs.FirstContent.{IsFirstContentOf}
use Rattle.plan_migrations_remaking.specs.FirstSchema.{HasFirstTables}
use Rattle.plan_tables.specs.Found.{Tells}
use Rattle.plan_tables.specs.Stored.{HoldsSound}
use Rattle.plan_tables.proofs.AgainLemmas.{found_plan, moved_tables, same_tables}
use Rattle.plan_tables.proofs.FoundLemmas.{told_again}
use Rattle.plan_files.specs.Accounts.{Account, AreAllOver, AreRemembered, IsRemembered, Link, Refusal, Run, written_between}
use Rattle.plan_files.specs.FileRuns.{AreRunsOf, FilesRerun, Leaves}
use Rattle.plan_files.specs.Life.{LifeLeads}
use Rattle.plan_files.specs.Next.{AreLinks, BytesLive, BytesRerun, CarriesOn, FindsNext, GoesOn, HoldsNext, MayFind, PassesOn, WholeLife}
use Rattle.plan_files.specs.Unrun.{IsSpared}
use Rattle.plan_files.proofs.AccountLemmas.{appended, are_runs, remembered}
use Rattle.plan_files.proofs.FileRunLemmas.{ends_so}
use Rattle.plan_files.proofs.OlderLemmas.{found_any, never_both}

-- tables of schema 1 are not found in a database that tells a plan
never_first : (found : Database) (c : Content) → IsDatabase found → Tells found.trees c → HasFirstTables found.schema → ⊥
never_first found c obeys tells first =
    never_both found.schema
    (moved_tables tells.schema found.schema (same_tables tells.schema found.schema found.trees tells.obeys obeys) tells.plan)
    first

pub finds : HaveOneContent → FindsNext
finds one image ends outcome c held (inl found) =
    let tells = held.tells in
    let db : found.found.trees ≡ held.db = found.holds held.db held.both in
    subst (Leaves ends outcome) (sym (told_again found.found tells.content c one found.obeys
    (subst (λ (t : Trees). Tells t tells.content) (sym db) tells.told) found.told)) tells.led
finds one image ends outcome c held (inr found) =
    let tells = held.tells in
    let db : found.found.trees ≡ held.db = found.holds held.db held.both in
    absurd (never_first found.found tells.content found.obeys
    (subst (λ (t : Trees). Tells t tells.content) (sym db) tells.told) found.told.0.has)

pub holds_next : HoldsNext
holds_next image left run over =
    let held = over.holds in
    let tells = held.tells in (held.db, held.both, (tells.content, tells.sound, tells.told, tells.rowids))

pub goes_on : HaveOneContent → GoesOn
goes_on one image left run c over found = record {
  ends = over.ends;
  outcome = over.outcome;
  begins = refl;
  ran = over.ran;
  leaves = finds one left over.ends over.outcome c over.holds found;
}

pub carries_on : {D : Type 0} (g : disk.Ghosts D) → CarriesOn g
carries_on g image ends outcome is_whole go over honest left out = ∥∥₁_map (over.runs.holds honest left out) (λ held. record {
  ends = ends;
  outcome = outcome;
  is = refl;
  ran = over.runs.ran honest;
  found = over.found honest;
  sound = over.sound honest;
  holds = held;
})

-- ---- a run that was refused

-- what is found in the database that was found before is found there
same_found : (image after : Image) (s : State) → FindsIn image s → (db : Trees) → HoldsDatabase after db
    → db ≡ s.committed.trees → (c : Content) → MayFind after c → MayFind image c
same_found image after s found db held is c (inl there) =
    let same : there.found.trees ≡ s.committed.trees = there.holds db held ∙ is in
    inl (record {
      found = there.found;
      obeys = there.obeys;
      holds = λ d holds. same ∙ found.holds d holds;
      reads = subst (AreFoundIn image) (sym same) found.reads;
      told = there.told;
    })
same_found image after s found db held is c (inr there) =
    let same : there.found.trees ≡ s.committed.trees = there.holds db held ∙ is in
    inr (record {
      found = there.found;
      obeys = there.obeys;
      holds = λ d holds. same ∙ found.holds d holds;
      reads = subst (AreFoundIn image) (sym same) found.reads;
      told = there.told;
    })

-- files whose database tells a content have no other
found_tells : (after : Image) (db : Trees) (k c : Content) → HaveOneContent → HoldsDatabase after db → Tells db k
    → MayFind after c → c ≡ k
found_tells after db k c one held tells (inl there) =
    let same : there.found.trees ≡ db = there.holds db held in
    told_again there.found k c one there.obeys (subst (λ (t : Trees). Tells t k) (sym same) tells) there.told
found_tells after db k c one held tells (inr there) =
    let same : there.found.trees ≡ db = there.holds db held in
    absurd (never_first there.found k there.obeys (subst (λ (t : Trees). Tells t k) (sym same) tells) there.told.0.has)

-- what is found in what a refused run left was found before it
spared_found : HaveOneContent → (image after : Image) (s : State) → Opens s → IsLive s → FindsIn image s → (db : Trees)
    → HoldsDatabase after db → IsSpared s db → (c : Content) → MayFind after c → MayFind image c
spared_found one image after s opens live found db held (inl same) c there =
    same_found image after s found db held same c there
spared_found one image after s opens live found db held (inr (inl renewed)) c there =
    let (k, sound, first) = renewed.sound in
    let is : c ≡ k = found_tells after db k c one held (record {
      schema = renewed.schema;
      obeys = renewed.obeys;
      plan = renewed.plan;
      content = (renewed.content k).0 first;
    }) there in
    found_any image s c opens live found (inr (renewed.was, subst (IsFirstContentOf (tables_of s.now.trees)) (sym is) first))
spared_found one image after s opens live found db held (inr (inr made)) c there =
    let is : c ≡ nothing_known = found_tells after db nothing_known c one held (record {
      schema = made.schema;
      obeys = made.obeys;
      plan = made.plan;
      content = made.content;
    }) there in
    found_any image s c opens live found (inl (inr (made.room, is)))

-- and a sound plan that was there is there still
same_plan : (s : State) (image : Image) → Opens s → IsLive s → FindsIn image s → (held : HoldsSound image) → (db : Trees)
    → IsSpared s db → db ≡ held.0
unfolding HasPlan
same_plan s image opens live found held db spared =
    let committed : s.committed.trees ≡ held.0 = found.holds held.0 held.1 in
    let plan = found_plan image s opens live found held in
    elim spared [
      | inl same ↦ same ∙ committed
      | inr new ↦ elim new [
        | inl renewed ↦ absurd (never_both s.now.schema plan.0 renewed.was.has)
        | inr first ↦ absurd (room_has_none s first.room plan.0)
      ]
    ]

pub passes_on : {D : Type 0} (g : disk.Ghosts D) → HaveOneContent → PassesOn g
passes_on g one image fault it refused clean left may =
    let (opened, found) = refused.found clean in
    let s = file_state refused.conn in
    ∥∥₁_map (refused.images clean left may) (λ such.
    let spared = refused.spared clean such.db such.such in
    record {
      finds = λ c there. spared_found one image left s opened.0 opened.1 found such.db such.both spared c there;
      keeps = λ held.
          let same : such.db ≡ held.0 = same_plan s image opened.0 opened.1 found held such.db spared in
          (held.0, subst (HoldsDatabase left) same such.both, held.2);
    })

-- ---- any number of runs and refusals

pub bytes_live : HaveOneContent → BytesLive
bytes_live one [] first last c is found = (c, subst (λ (i : Image). MayFind i c) is found, [], refl)
bytes_live one (Run run ∷ links) first last c (between, over, more) found =
    let (was, before, streams, rest) = bytes_live one links between last c more found in
    let (stream, own) = remembered over.ends over.outcome over.ran was
    (finds one between over.ends over.outcome was over.holds before) in (
      over.ends.before,
      over.found,
      stream ∷ streams,
      (was, subst (λ (a : Account). IsRemembered a stream over.ends.before was) (sym over.is) own, rest),
    )
bytes_live one (Refusal ∷ links) first last c (between, refused, more) found =
    let (was, before, streams, rest) = bytes_live one links between last c more found in
    (was, refused.finds was before, streams, rest)

pub whole_life : LifeLeads → BytesLive → WholeLife
whole_life life bytes links first last c nothing are found =
    let (was, before, streams, rest) = bytes links first last c are found in
    let known = subst (λ (k : Content). AreRemembered links streams k c) (nothing was before) rest in
    (streams, known, life streams c (are_runs links streams nothing_known c known))

-- the runs over one text, from what was found before them to what is found after them
record RunsFound (first : Image) (text : List ℕ) (c : Content) : Type 0 where
  pub was : Content
  pub found : MayFind first was
  pub sound : IsSound was
  pub count : ℕ
  pub runs : AreRunsOf count text was c

runs_found : HaveOneContent → (links : List Link) (first left : Image) (text : List ℕ) (c : Content) → AreAllOver text links
    → AreLinks links first left → MayFind left c → IsSound c → RunsFound first text c
runs_found one [] first left text c all is found sound = record {
  was = c;
  found = subst (λ (i : Image). MayFind i c) is found;
  sound = sound;
  count = zero;
  runs = refl;
}
runs_found one (Run run ∷ links) first left text c (reads, all) (between, over, more) found sound =
    let rest = runs_found one links between left text c all more found sound in
    record {
      was = over.ends.before;
      found = over.found;
      sound = over.sound;
      count = suc rest.count;
      runs = (
        rest.was,
        (
          record {
            ends = over.ends;
            outcome = over.outcome;
            begins = refl;
            ran = over.ran;
            leaves = finds one between over.ends over.outcome rest.was over.holds rest.found;
          },
          sym (ap (λ (a : Account). a.text) over.is) ∙ reads,
        ),
        rest.runs,
      );
    }
runs_found one (Refusal ∷ links) first left text c all (between, refused, more) found sound =
    let rest = runs_found one links between left text c all more found sound in
    record {
      was = rest.was;
      found = refused.finds rest.was rest.found;
      sound = rest.sound;
      count = rest.count;
      runs = rest.runs;
    }

-- a run that came to its end over that
ends_as_one : FilesRerun → (ends : Ends) (tally : Tally) (first : Image) (text : List ℕ) → RanPlan ends tally
    → ends.remaining ≡ Some text → RunsFound first text ends.before
    → (was : Content) × MayFind first was × (replies : List AnswerLines)
    × IfSome (written_between ends.written_before ends.written_after) (λ bytes. bytes ≡ prints replies)
    × EndsAsOneRun (items_of text) was ends.after replies
ends_as_one law ends tally first text plan reads before =
    let again : Ran Step (ends_of ends.before ends.after ends.written_before ends.written_after (Some text)) tally =
    subst (λ e. Ran Step e tally) (ends_so ends ends.before text refl reads) plan.ran in (
      before.was,
      before.found,
      again.replies,
      appended ends.written_before ends.written_after (prints again.replies) again.written,
      law before.count text before.was ends.before ends.after ends.written_before ends.written_after tally before.sound
          before.runs again,
    )

pub bytes_rerun : HaveOneContent → FilesRerun → BytesRerun
bytes_rerun one law links first left last text again tally c all are over reads ok found =
    let outcome : over.outcome ≡ Ok tally = sym (ap (λ (a : Account). a.outcome) over.is) ∙ ok in
    let remaining : over.ends.remaining ≡ Some text = sym (ap (λ (a : Account). a.text) over.is) ∙ reads in
    let plan = subst (λ (r : Result Tally RunFault). IfOk r (RanPlan over.ends)) outcome over.ran in
    let last_is : c ≡ over.ends.after = subst (λ (r : Result Tally RunFault). Leaves over.ends r c) outcome
    (finds one last over.ends over.outcome c over.holds found) in
    let (was, before, replies, written, ends) = ends_as_one law over.ends tally first text plan remaining
    (runs_found one links first left text over.ends.before all are over.found over.sound) in (
      was,
      before,
      replies,
      subst (λ (a : Account). IfSome a.written (λ bytes. bytes ≡ prints replies)) (sym over.is) written,
      subst (λ (x : Content). EndsAsOneRun (items_of text) was x replies) (sym last_is) ends,
    )
