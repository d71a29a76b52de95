-- Sound content stays sound, where its rows, lists and ranges do.
use Rattle.std.proofs.Common.{◌≡◌, ◌≢◌, ℕ, ◌⊎◌, List, [], refl, sym, ap, subst, ◌∙◌, inl, inr, arith, Option, None}
use Rattle.std.proofs.Common.{Some}
use Rattle.std.specs.Prelude.{Contains}
use Rattle.work_calendars.specs.Day.{IsDay}
use Rattle.work_calendars.specs.Moment.{IsMoment}
use Rattle.occurrences.specs.Place.{IsLive, IsOpen}
use Rattle.occurrences.specs.declared.place.Deletion.{Deletion}
use Rattle.occurrences.specs.declared.place.Place.{Place}
use Rattle.occurrences.specs.declared.place.Place.TheVariants.{LongTerm, Current, History, Deleted}
use Rattle.occurrences.specs.declared.place.Reason.TheVariants.{Operator}
use Rattle.occurrences.specs.declared.row.Row.{Row}
use Rattle.external_dependencies.specs.Loop.{OnLoop}
use Rattle.external_dependencies.specs.declared.links.Link.{Link}
use Rattle.external_dependencies.specs.declared.rows.PlacedRow.{PlacedRow}
use Rattle.planner_machine.specs.declared.content.Bounds.{Bounds}
use Rattle.planner_machine.specs.declared.content.Draft.{Draft}
use Rattle.planner_machine.specs.declared.job.Job.{Job}
use Rattle.planner_machine.specs.Content.{Content, Seat, Sets, IsOnlyAt, alone}
use Rattle.planner_machine.specs.Fate.{Fate, IsGenerated}
use Rattle.planner_machine.specs.Laws.{Follows}
use Rattle.planner_machine.specs.Pairs.{ArePairs}
use Rattle.planner_machine.specs.Sound.{AreDefinitions, ArrivesIn, HaveSizes, IsJob, IsLink, IsRow, IsSound}
use Rattle.planner_machine.proofs.ClosedLemmas.{Starts, pairs_sound}
use Rattle.planner_machine.proofs.DeleteLemmas.{stands_in_ltp}
use Rattle.planner_machine.proofs.FollowLemmas.{FateKeeps, IsMadeAt, came}
use Rattle.planner_machine.proofs.RangeLemmas.{DraftRanges, is_moment, row_ranges}
use Rattle.planner_machine.specs.RowsSound.{IsPlacedIn, RowsSound}
use Rattle.planner_machine.proofs.SeatLemmas.{cases_issued, one_place}
use Rattle.planner_machine.proofs.SoundLemmas.{rows_sound}

deletion_place : (row : Row) (place : Place) (deletion : Deletion) → (alone row place).deletions ≡ Some deletion
    → alone row place ≡ alone deletion.row (Deleted deletion.reason)
deletion_place row LongTerm deletion is = cc
deletion_place row (Current status) deletion is = cc
deletion_place row History deletion is = cc
deletion_place row (Deleted reason) deletion is = let x : Deletion = record { row = row; reason = reason } in
    let same : x ≡ deletion = cc in ap (λ (d : Deletion). alone d.row (Deleted d.reason)) same

pub stands_in_deletions : (s : Sets) → RowsSound s → (serial : ℕ) (deletion : Deletion)
    → s.deletions serial ≡ Some deletion
    → IsOnlyAt s serial (record { row = deletion.row; place = Deleted deletion.reason })
stands_in_deletions s sound serial deletion is = elim (cases_issued s.issued serial) [
  | inl within ↦
      let (p, there) = sound.placed serial within.0 within.1 in
      there ∙ deletion_place p.row p.place deletion (ap (λ (x : Seat). x.deletions) (sym there) ∙ is)
  | inr past ↦ let none = ap (λ (x : Seat). x.deletions) (sound.unissued serial past) in absurd cc
]

pub in_ltp : (s : Sets) (serial : ℕ) (p : PlacedRow) → p.place ≡ LongTerm → IsOnlyAt s serial p → s.ltp serial ≡ Some p.row
in_ltp s serial p is there = ap (λ (x : Seat). x.ltp) (there ∙ ap (alone p.row) is)

pub in_deletions : (s : Sets) (serial : ℕ) (p : PlacedRow) → p.place ≡ Deleted Operator → IsOnlyAt s serial p
    → s.deletions serial ≡ Some (record { row = p.row; reason = Operator })
in_deletions s serial p is there = ap (λ (x : Seat). x.deletions) (there ∙ ap (alone p.row) is)

-- a change of plans leaves definitions and kept jobs, has the pairs that follow, and leaves a plan that begins on a day
pub record LeavesPlan (c c' : Content) : Type 0 where
  pub pairs : ArePairs c.pairs c'.in_force c'.sets c'.pairs
  pub definitions : c'.definitions ≡ c.definitions
  pub jobs : c'.jobs ≡ c.jobs
  pub planned : c'.sets.bounds ≡ None → ⊥
  pub first : (b : Bounds) → c'.sets.bounds ≡ Some b → IsDay b.first_day

-- what a statement owes so that sound content stays sound
pub record Owes (place : Place) (fate : Fate) (drafts : List Draft) (c c' : Content) : Type 0 where
  pub follows : Follows place fate drafts c.sets c'.sets
  pub rows : RowsSound c'.sets
  pub keeps : FateKeeps fate
  pub opens : IsOpen place
  pub closes : (serial : ℕ) (p q : PlacedRow) → IsOnlyAt c.sets serial p → fate p q → IsLive q.place
      → (IsOpen q.place → ⊥) → (IsLive p.place × (IsOpen p.place → ⊥)) ⊎ Starts c serial
  pub plan : LeavesPlan c c'
  pub stays_row : (serial : ℕ) (p q : PlacedRow) → IsOnlyAt c.sets serial p → fate p q → IsRow p.row → IsRow q.row
  pub drafts_in_range : (draft : Draft) → Contains drafts draft → DraftRanges draft
  pub drafts_free : (draft : Draft) → Contains drafts draft → IsGenerated draft.origin
      → (other : ℕ) (deletion : Deletion) → c.sets.deletions other ≡ Some deletion → deletion.reason ≡ Operator
      → deletion.row.key ≢ draft.key
  pub by_operator : (p q : PlacedRow) → fate p q → q.place ≡ Deleted Operator → (p.place ≡ Deleted Operator)
      ⊎ ((p.place ≡ LongTerm) × ((draft : Draft) → Contains drafts draft → IsGenerated draft.origin → ⊥))
  pub sizes : HaveSizes c'.sets
  pub links : (link : Link) → Contains c'.in_force link → IsLink link
  pub no_loop : (app : List ℕ) → OnLoop c'.in_force app → ⊥

module _ (place : Place) (fate : Fate) (drafts : List Draft) (c c' : Content) (sound : IsSound c)
    (owes : Owes place fate drafts c c') where
  rows : RowsSound c.sets
  rows = rows_sound c sound

  source : (serial : ℕ) (q : PlacedRow) → IsOnlyAt c'.sets serial q
      → ((p : PlacedRow) × IsOnlyAt c.sets serial p × fate p q) ⊎ IsMadeAt place drafts c.sets serial q
  source = came place fate drafts c.sets c'.sets rows owes.rows owes.follows

  row_at : (serial : ℕ) (q : PlacedRow) → IsOnlyAt c'.sets serial q → IsRow q.row
  row_at serial q there = elim (source serial q there) [
    | inl (p, was, goes) ↦ owes.stays_row serial p q was goes (sound.ranges.rows serial p was)
    | inr new ↦ subst (λ (x : PlacedRow). IsRow x.row) (sym new.is)
        (row_ranges serial new.draft (owes.drafts_in_range new.draft new.listed))
  ]

  days_of : (b : Bounds) → c'.sets.bounds ≡ Some b → IsDay b.first_day × IsDay b.last_day × IsMoment b.plan_end
  days_of b is =
      let are = owes.rows.bounds b is in let first = owes.plan.first b is in
      let low = first.0 in let days = are.days in let last = are.last in let begun = are.begun in let ended =
      are.ended in
      (first, (omega arith, omega arith), is_moment b.plan_end (omega arith) (omega arith))

  -- a generated row of the long-term plan, and one that an operator deleted
  not_both : (serial other : ℕ) (p q : PlacedRow) → IsOnlyAt c'.sets serial p → IsOnlyAt c'.sets other q
      → p.place ≡ LongTerm → q.place ≡ Deleted Operator → IsGenerated p.row.origin → q.row.key ≡ p.row.key → ⊥
  not_both serial other p q at_p at_q ltp deleted generated same = elim (source other q at_q) [
    | inr new ↦ not_open q deleted (subst (λ (x : PlacedRow). IsOpen x.place) (sym new.is) owes.opens)
    | inl (o, was, goes) ↦ elim (owes.by_operator o q goes deleted) [
      | inl before ↦ elim (source serial p at_p) [
        | inl (o', was', goes') ↦
            sound.arrivals.not_deleted serial o'.row (in_ltp c.sets serial o' (owes.keeps.ltp o' p goes' ltp) was')
            (owes.keeps.generated o' p goes' generated)
            other (record { row = o.row; reason = Operator }) (in_deletions c.sets other o before was) refl
            (sym (owes.keeps.key o q goes) ∙ same ∙ owes.keeps.key o' p goes')
        | inr new ↦
            owes.drafts_free new.draft new.listed (subst (λ (x : PlacedRow). IsGenerated x.row.origin) new.is generated)
            other (record { row = o.row; reason = Operator }) (in_deletions c.sets other o before was) refl
            (sym (owes.keeps.key o q goes) ∙ same ∙ ap (λ (x : PlacedRow). x.row.key) new.is)
      ]
      | inr now ↦ elim (source serial p at_p) [
        | inl (o', was', goes') ↦
            let one = sound.keys other serial o o' was was' (live_there o now.0)
            (live_there o' (owes.keeps.ltp o' p goes' ltp)) (sym (owes.keeps.key o q goes) ∙ same
            ∙ owes.keeps.key o' p goes') in
            apart p q ltp deleted (one_place c'.sets serial p q at_p (subst (λ n. IsOnlyAt c'.sets n q) one at_q))
        | inr new ↦ now.1 new.draft new.listed (subst (λ (x : PlacedRow). IsGenerated x.row.origin) new.is generated)
      ]
    ]
  ]
    where
      not_open : (x : PlacedRow) → x.place ≡ Deleted Operator → IsOpen x.place → ⊥
      not_open x is open' = subst IsOpen is open'

      live_there : (x : PlacedRow) → x.place ≡ LongTerm → IsLive x.place
      live_there x is = subst IsLive (sym is) tt

      apart : (x y : PlacedRow) → x.place ≡ LongTerm → y.place ≡ Deleted Operator → x ≡ y → ⊥
      apart x y is is' one = let no : LongTerm ≡ Deleted Operator = sym is ∙ ap (λ (z : PlacedRow). z.place) one
          ∙ is' in cc

  placed_in_bounds : (o : Option Bounds) → c'.sets.bounds ≡ o → (b : Bounds) → o ≡ Some b
      → (serial : ℕ) (p : PlacedRow) → IsOnlyAt c'.sets serial p → ArrivesIn b p.row.key.ia p.place
  placed_in_bounds o is b same serial p there =
      let P : Option Bounds → Type 0 = λ x. IsPlacedIn x p in subst P (is ∙ same) (owes.rows.arrivals serial p there)

  pub stays_sound : IsSound c'
  stays_sound = record {
    ranges = record {
      definitions = subst AreDefinitions (sym owes.plan.definitions) sound.ranges.definitions;
      rows = row_at;
      days = days_of;
      links = owes.links;
    };
    bounds = record { before = λ none. absurd (owes.plan.planned none); after = owes.rows.bounds };
    serials = record { placed = owes.rows.placed; unissued = owes.rows.unissued; numbered = owes.rows.numbered };
    keys = owes.rows.keys;
    arrivals = record {
      in_bounds = λ b is serial p there. placed_in_bounds c'.sets.bounds refl b is serial p there;
      not_deleted = λ serial row at generated other deletion at' operator same.
          not_both serial other (record { row = row; place = LongTerm }) (record {
            row = deletion.row;
            place = Deleted deletion.reason;
          })
          (stands_in_ltp c'.sets owes.rows serial row at)
          (stands_in_deletions c'.sets owes.rows other deletion at') refl (ap Deleted operator) generated same;
    };
    sizes = owes.sizes;
    lists = owes.no_loop;
    pairs = pairs_sound place fate drafts c c' sound owes.rows owes.keeps owes.follows owes.plan.pairs owes.opens
        owes.closes;
    jobs = subst (λ (jobs : ℕ → Option Job). (number : ℕ) (job : Job) → jobs number ≡ Some job
        → IsJob number job) (sym owes.plan.jobs) sound.jobs;
  }
