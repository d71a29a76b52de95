-- Planning statements: what each makes of the rows, and where it is refused.
use Rattle.std.proofs.Common.{◌≡◌, ℕ, ◌+◌, Bool, List, length, refl, sym}
use Rattle.std.proofs.Common.{subst, ◌∙◌, inl, inr, Option, None, Some}
use Rattle.work_calendars.specs.Day.{last_planning_day}
use Rattle.work_calendars.specs.Moment.{day_of_moment}
use Rattle.occurrences.specs.Key.{KeyBefore}
use Rattle.occurrences.specs.declared.place.Place.TheVariants.{LongTerm}
use Rattle.occurrences.specs.declared.refusal.Refusal.TheVariants.{NoPlan}
use Rattle.occurrences.specs.declared.reply.Reply.{Reply}
use Rattle.occurrences.specs.declared.reply.Reply.TheVariants.{Made}
use Rattle.occurrences.specs.declared.serial.TheConstants.{GREATEST_SERIAL}
use Rattle.occurrences.proofs.KeyLemmas.{key_strict}
use Rattle.external_dependencies.specs.Link.{AreNamedOnce}
use Rattle.external_dependencies.specs.declared.links.Link.{Link}
use Rattle.app_definitions.specs.declared.definitions.Definitions.{Definitions}
use Rattle.planner_machine.specs.declared.content.Bounds.{Bounds}
use Rattle.planner_machine.specs.declared.content.Draft.{Draft}
use Rattle.planner_machine.specs.declared.limits.TheConstants.{LONGEST_WINDOW, MOST_PLANNED_ROWS}
use Rattle.planner_machine.specs.Content.{Content, Sets, midnight}
use Rattle.planner_machine.specs.Create.{CreateRefused, Creates, IsCreated, create, first_bounds}
use Rattle.planner_machine.specs.Drafts.{AreDrafts, IsMade, NamesDraft}
use Rattle.planner_machine.specs.Extend.{ExtendRefused, Extends, IsAddedByExtension, IsBadLastDay, extend, later_bounds}
use Rattle.planner_machine.specs.InForce.{PutsAll, PutsLists, PutsOne}
use Rattle.planner_machine.specs.Modify.{Modifies, NamesAhead, looks_at, modify_move, taken}
use Rattle.planner_machine.specs.ModifyAll.{IsAnyApp, ModifiesAll, ModifyAllRefused, is_any_app, modify_all}
use Rattle.planner_machine.specs.ModifyOne.{IsThatApp, ModifiesOne, ModifyOneRefused, is_that_app, modify_one}
use Rattle.planner_machine.specs.Moves.{each, size, with_bounds, with_made}
use Rattle.planner_machine.specs.Plans.{ChangesPlans, HoldTooMany, MakesOfRows, WouldHoldTooMany, WouldLoop, planned}
use Rattle.planner_machine.specs.Sound.{AreDefinitions, IsSound}
use Rattle.planner_machine.specs.RowsSound.{RowsSound}
use Rattle.planner_machine.proofs.CreateLemmas.{create_does_one, extend_does_one}
use Rattle.planner_machine.proofs.LinkLemmas.{all_is_one, one_is_one}
use Rattle.planner_machine.proofs.ModifyLemmas.{any_tests, modify_does_one, that_tests}
use Rattle.planner_machine.proofs.SoundLemmas.{rows_sound}
use Rattle.planner_answers.proofs.Finite.{Decided, Finite, decided_either, decided_le, decided_lt, decided_not, decided_so}
use Rattle.planner_answers.proofs.Finite.{finite_if, finite_none}
use Rattle.planner_answers.proofs.Ordered.{Ranked, listing}
use Rattle.planner_answers.proofs.Orders.{key_ranked}
use Rattle.planner_answers.proofs.Equal.{decided_name}
use Rattle.planner_answers.proofs.Names.{decided_no_calendar, decided_no_period, decided_none, decided_planned, finite_drafts}
use Rattle.planner_answers.proofs.Names.{least_no_calendar, least_no_period, one_draft}
use Rattle.planner_answers.proofs.Rows.{IsEnded, each_ends, finite_new, made_ends, sound_ends}
use Rattle.planner_answers.proofs.Links.{decided_loop, puts_all, puts_one}
use Rattle.planner_answers.proofs.Pairs.{pairs_exist}
use Rattle.planner_answers.proofs.Decisions.{AreDecided, IsAnswered, answered}

-- what statements on the plans have in common

-- where the rows and the lists after a statement are known, so is the whole content
pub plans_done : (Makes : MakesOfRows) (Puts : PutsLists) (c : Content) (reply : Reply) (s : Sets) (last : ℕ)
    → Makes c.definitions c.sets reply s → IsEnded s last → (lists : List Link) → Puts c.definitions c.in_force lists
    → (reply : Reply) × (c' : Content) × ChangesPlans Makes Puts c reply c'
plans_done Makes Puts c reply s last makes ended lists puts =
    let (pairs, are) = pairs_exist s last ended c.pairs lists in (
      reply,
      record c { sets = s; in_force = lists; pairs = pairs },
      record { rows = makes; lists = puts; pairs = are; definitions = refl; jobs = refl },
    )

abbrev pub MakesOne : MakesOfRows → Type 0
MakesOne Makes = (all : Definitions) (s : Sets) (reply reply' : Reply) (s' s'' : Sets) → RowsSound s
    → Makes all s reply s' → Makes all s reply' s'' → (reply ≡ reply') × (s' ≡ s'')

-- where the rows after a statement are known, it is known whether they are too many
pub decided_too_many : (Makes : MakesOfRows) → MakesOne Makes → (c : Content) → IsSound c → (reply : Reply) (s : Sets)
    → Makes c.definitions c.sets reply s → Decided (WouldHoldTooMany Makes c)
decided_too_many Makes one c sound reply s makes =
    decided_so
    (λ over. (reply, s, makes, over))
    (λ (reply', s', makes', over).
    subst HoldTooMany (one c.definitions c.sets reply' reply s' s (rows_sound c sound) makes' makes).1 over)
    (decided_either (decided_lt MOST_PLANNED_ROWS (planned s)) (decided_lt GREATEST_SERIAL s.issued))

-- something about the bounds
pub decided_bounds : (o : Option Bounds) (P : Bounds → Type 0) → ((b : Bounds) → Decided (P b))
    → Decided ((b : Bounds) × (o ≡ Some b) × P b)
decided_bounds None P test = inr (λ (b, is, has). let no : None ≡ Some b = is in cc)
decided_bounds (Some b) P test =
    decided_so (λ has. (b, refl, has)) (λ (x, is, has). let same : x ≡ b = cc in subst P same has) (test b)

some_bounds : (o : Option Bounds) → (o ≡ None → ⊥) → (b : Bounds) × (o ≡ Some b)
some_bounds None there = absurd (there refl)
some_bounds (Some b) there = (b, refl)

pub plan_of : (c : Content) → (c.sets.bounds ≡ None → ⊥) → (b : Bounds) × (c.sets.bounds ≡ Some b)
plan_of c there = some_bounds c.sets.bounds there

-- drafts in order
pub drafts_listed : (all : Definitions) → AreDefinitions all → (Is : Draft → Type 0) → Finite Is
    → ((draft : Draft) → Is draft → NamesDraft all draft) → (drafts : List Draft) × AreDrafts Is drafts
drafts_listed all are Is f named =
    let list = listing (λ (a : Draft) (b : Draft). KeyBefore a.key b.key)
    (λ a b c. key_strict.transitive a.key b.key c.key) f (λ a b h k. ranked a b (named a h) (named b k)) in
    (list.list, record { rising = list.rising; exactly = list.exactly })
  where
    ranked : (a b : Draft) → NamesDraft all a → NamesDraft all b
        → Ranked (λ (x : Draft) (y : Draft). KeyBefore x.key y.key) a b
    ranked a b h k = elim (key_ranked a.key b.key) [
      | inl before ↦ inl before
      | inr (inl same) ↦ inr (inl (one_draft all are a b h k same))
      | inr (inr after) ↦ inr (inr after)
    ]

-- the lists of all applications
all_put : (c : Content) → IsSound c → (after : List Link) × PutsAll c.definitions c.in_force after
all_put c sound = puts_all c.definitions sound.ranges.definitions c.in_force

all_loop : (c : Content) → IsSound c → Decided ((app : List ℕ) × WouldLoop PutsAll c app)
all_loop c sound =
    let (lists, put) = all_put c sound in
    decided_loop PutsAll c lists put (λ other puts. all_is_one c.definitions c.in_force other lists puts put)

-- `ltp-create`

module _ (from to : ℕ) (c : Content) (sound : IsSound c) where
  created : (new : List Draft) × AreDrafts (IsCreated from to c.definitions c.sets) new
  created = drafts_listed c.definitions sound.ranges.definitions (IsCreated from to c.definitions c.sets)
      (finite_new c.sets c.sets.issued (sound_ends c sound)
      (finite_drafts c.definitions (midnight from) (midnight (to + 1))))
      (λ draft is. is.named.0)

  abbrev opened : Sets
  opened = with_bounds (first_bounds from to) c.sets

  creates : Creates from to c.definitions c.sets (Made (length created.0) 0) (with_made LongTerm created.0 opened)
  creates = record { new = created.0; are_new = created.1; replies = refl; becomes = refl }

  create_ends : IsEnded (with_made LongTerm created.0 opened) (c.sets.issued + length created.0)
  create_ends = made_ends LongTerm created.0 opened (sound_ends c sound)

  create_decided : AreDecided (CreateRefused from to c)
  create_decided = record {
    not_a_statement = inr (λ h. h);
    faulty_data = inr (λ h. h.1);
    another_text = inr (λ h. h);
    not_defined = inr (λ h. h);
    no_plan = inr (λ h. h);
    plan_exists = decided_not (decided_none c.sets.bounds);
    calendar = least_no_calendar c.definitions;
    period = least_no_period c.definitions;
    dates = decided_either (decided_lt to from)
        (decided_either (decided_lt last_planning_day to) (decided_lt (from + LONGEST_WINDOW) to));
    loop = all_loop c sound;
    no_application = inr (λ h. h);
    key_is_live = inr (λ h. h);
    no_occurrence = inr (λ h. h);
    status = inr (λ h. h);
    predecessor = inr (λ h. h.1);
    too_many = decided_too_many (Creates from to) (create_does_one from to) c sound _ _ creates;
    plan_end = inr (λ h. h);
  }

  pub create_answered : IsAnswered (create from to) c
  create_answered =
      answered (create from to) c create_decided (λ none. let (lists, put) = all_put c sound in
      plans_done (Creates from to) PutsAll c _ _ _ creates create_ends lists put)

-- `ltp-extend`

module _ (to : ℕ) (c : Content) (sound : IsSound c) where
  module _ (b : Bounds) (had : c.sets.bounds ≡ Some b) where
    extension : (new : List Draft) × AreDrafts (IsAddedByExtension b to c.definitions c.sets) new
    extension = drafts_listed c.definitions sound.ranges.definitions (IsAddedByExtension b to c.definitions c.sets)
        (finite_new c.sets c.sets.issued (sound_ends c sound)
        (finite_drafts c.definitions (midnight (b.last_day + 1)) (midnight (to + 1))))
        (λ draft is. is.named.0)

    abbrev longer : Sets
    longer = with_bounds (later_bounds b to) c.sets

    extends : Extends to c.definitions c.sets (Made (length extension.0) 0) (with_made LongTerm extension.0 longer)
    extends = record {
      bounds = b;
      had = had;
      new = extension.0;
      are_new = extension.1;
      replies = refl;
      becomes = refl;
    }

    extend_ends : IsEnded (with_made LongTerm extension.0 longer) (c.sets.issued + length extension.0)
    extend_ends = made_ends LongTerm extension.0 longer (sound_ends c sound)

  extend_too_many : (o : Option Bounds) → c.sets.bounds ≡ o → Decided (WouldHoldTooMany (Extends to) c)
  extend_too_many None is =
      inr (λ (reply, s, makes, over). let had = makes.had in
      let no : None ≡ Some makes.bounds = sym is ∙ had in absurd (let x : ⊥ = cc in x))
  extend_too_many (Some b) is = decided_too_many (Extends to) (extend_does_one to) c sound _ _ (extends b is)

  decided_last_day : (b : Bounds) → Decided (IsBadLastDay b to)
  decided_last_day b =
      decided_either (decided_le to b.last_day)
      (decided_either (decided_lt last_planning_day to) (decided_lt (day_of_moment b.plan_end + LONGEST_WINDOW) to))

  extend_decided : AreDecided (ExtendRefused to c)
  extend_decided = record {
    not_a_statement = inr (λ h. h);
    faulty_data = inr (λ h. h.1);
    another_text = inr (λ h. h);
    not_defined = inr (λ h. h);
    no_plan = decided_none c.sets.bounds;
    plan_exists = inr (λ h. h);
    calendar = least_no_calendar c.definitions;
    period = least_no_period c.definitions;
    dates = decided_bounds c.sets.bounds (λ b. IsBadLastDay b to) decided_last_day;
    loop = all_loop c sound;
    no_application = inr (λ h. h);
    key_is_live = inr (λ h. h);
    no_occurrence = inr (λ h. h);
    status = inr (λ h. h);
    predecessor = inr (λ h. h.1);
    too_many = extend_too_many c.sets.bounds refl;
    plan_end = inr (λ h. h);
  }

  pub extend_answered : IsAnswered (extend to) c
  extend_answered =
      answered (extend to) c extend_decided (λ none.
      let (b, had) = plan_of c (none NoPlan) in
      let (lists, put) = all_put c sound in
      plans_done (Extends to) PutsAll c _ _ _ (extends b had) (extend_ends b had) lists put)

-- `ltp-modify-all` and `ltp-modify-one`

module _ (looks : List ℕ → Bool) (Looks : List ℕ → Type 0) (test : (app : List ℕ) → Decided (Looks app)) (c : Content)
    (sound : IsSound c) where
  finite_ahead : (o : Option Bounds) → Finite (NamesAhead Looks c.definitions o)
  finite_ahead None = finite_none (λ draft h. h)
  finite_ahead (Some b) =
      finite_if (finite_drafts c.definitions b.plan_end (midnight (b.last_day + 1))) (λ draft h. test draft.key.app)

  ahead_named : (o : Option Bounds) (draft : Draft) → NamesAhead Looks c.definitions o draft → NamesDraft c.definitions draft
  ahead_named None draft h = absurd h
  ahead_named (Some b) draft h = h.0.0

  named_ahead : (named : List Draft) × AreDrafts (NamesAhead Looks c.definitions c.sets.bounds) named
  named_ahead = drafts_listed c.definitions sound.ranges.definitions (NamesAhead Looks c.definitions c.sets.bounds)
      (finite_ahead c.sets.bounds) (ahead_named c.sets.bounds)

  new_ahead : (new : List Draft) × AreDrafts (IsMade (NamesAhead Looks c.definitions c.sets.bounds) c.sets) new
  new_ahead = drafts_listed c.definitions sound.ranges.definitions
      (IsMade (NamesAhead Looks c.definitions c.sets.bounds) c.sets)
      (finite_new c.sets c.sets.issued (sound_ends c sound) (finite_ahead c.sets.bounds))
      (λ draft is. ahead_named c.sets.bounds draft is.named)

  abbrev kept_sets : Sets
  kept_sets = each (modify_move (looks_at looks) named_ahead.0) c.sets

  modifies : Modifies looks Looks c.definitions c.sets
      (Made (length new_ahead.0) (size (λ serial. taken (looks_at looks) named_ahead.0 (c.sets.ltp serial)) c.sets.issued))
      (with_made LongTerm new_ahead.0 kept_sets)
  modifies = record {
    named = named_ahead.0;
    are_named = named_ahead.1;
    new = new_ahead.0;
    are_new = new_ahead.1;
    replies = refl;
    becomes = refl;
  }

  modify_ends : IsEnded (with_made LongTerm new_ahead.0 kept_sets) (c.sets.issued + length new_ahead.0)
  modify_ends = made_ends LongTerm new_ahead.0 kept_sets
      (each_ends (modify_move (looks_at looks) named_ahead.0) c.sets c.sets.issued refl (sound_ends c sound))

module _ (c : Content) (sound : IsSound c) where
  decided_any_app : (app : List ℕ) → Decided (IsAnyApp app)
  decided_any_app app = inl tt

  modify_all_decided : AreDecided (ModifyAllRefused c)
  modify_all_decided = record {
    not_a_statement = inr (λ h. h);
    faulty_data = inr (λ h. h.1);
    another_text = inr (λ h. h);
    not_defined = inr (λ h. h);
    no_plan = decided_none c.sets.bounds;
    plan_exists = inr (λ h. h);
    calendar = least_no_calendar c.definitions;
    period = least_no_period c.definitions;
    dates = inr (λ h. h);
    loop = all_loop c sound;
    no_application = inr (λ h. h);
    key_is_live = inr (λ h. h);
    no_occurrence = inr (λ h. h);
    status = inr (λ h. h);
    predecessor = inr (λ h. h.1);
    too_many = decided_too_many ModifiesAll (modify_does_one is_any_app IsAnyApp any_tests) c sound _ _
        (modifies is_any_app IsAnyApp decided_any_app c sound);
    plan_end = inr (λ h. h);
  }

  pub modify_all_answered : IsAnswered modify_all c
  modify_all_answered =
      answered modify_all c modify_all_decided (λ none. let (lists, put) = all_put c sound in
      plans_done ModifiesAll PutsAll c _ _ _ (modifies is_any_app IsAnyApp decided_any_app c sound)
      (modify_ends is_any_app IsAnyApp decided_any_app c sound) lists put)

module _ (app : List ℕ) (c : Content) (sound : IsSound c) (once : AreNamedOnce c.in_force) where
  decided_that_app : (other : List ℕ) → Decided (IsThatApp app other)
  decided_that_app other = decided_name other app

  one_put : (after : List Link) × PutsOne app c.definitions c.in_force after
  one_put = puts_one c.definitions sound.ranges.definitions app c.in_force once

  modify_one_decided : AreDecided (ModifyOneRefused app c)
  modify_one_decided = record {
    not_a_statement = inr (λ h. h);
    faulty_data = inr (λ h. h.1);
    another_text = inr (λ h. h);
    not_defined = inr (λ h. h);
    no_plan = decided_none c.sets.bounds;
    plan_exists = inr (λ h. h);
    calendar = decided_so (λ h. (app, (refl, h))) (λ (least, both). both.1) (decided_no_calendar c.definitions app);
    period = decided_so (λ h. (app, (refl, h))) (λ (least, both). both.1) (decided_no_period c.definitions app);
    dates = inr (λ h. h);
    loop = decided_loop (PutsOne app) c one_put.0 one_put.1
        (λ other puts. one_is_one app c.definitions c.in_force other one_put.0 puts one_put.1);
    no_application = decided_not (decided_planned c.definitions app);
    key_is_live = inr (λ h. h);
    no_occurrence = inr (λ h. h);
    status = inr (λ h. h);
    predecessor = inr (λ h. h.1);
    too_many = decided_too_many (ModifiesOne app)
        (modify_does_one (is_that_app app) (IsThatApp app) (that_tests app)) c sound _ _
        (modifies (is_that_app app) (IsThatApp app) decided_that_app c sound);
    plan_end = inr (λ h. h);
  }

  pub modify_one_answered : IsAnswered (modify_one app) c
  modify_one_answered =
      answered (modify_one app) c modify_one_decided (λ none.
      plans_done (ModifiesOne app) (PutsOne app) c _ _ _
      (modifies (is_that_app app) (IsThatApp app) decided_that_app c sound)
      (modify_ends (is_that_app app) (IsThatApp app) decided_that_app c sound) one_put.0 one_put.1)
