-- Drafts that the calendars name, and those of them that are new.
use Rattle.std.proofs.Common.{◌≡◌, ◌≢◌, ◌↔◌, ℕ, ◌+◌, ◌≤◌, ◌++◌, Bool, true, false, List, [], ◌∷◌, length, filter}
use Rattle.std.proofs.Common.{map, get_or, refl, rules, sym, ap, append_assoc, subst, ◌∙◌, inl, inr, arith, Option}
use Rattle.std.proofs.Common.{None, Some}
use Rattle.std.specs.Prelude.{nat_le, not, IsSome, IsTrue, if◌then◌else◌}
use Rattle.std.specs.FinMap as map
use Rattle.std.specs.List.{Contains}
use Rattle.std.proofs.lemmas.Bool.{false≢true, le-leb, leb-true}
use Rattle.std.specs.Ordering.{is_ge, nat_cmp}
use Rattle.std.proofs.lemmas.List.{append-nil, map-append}
use Rattle.std.proofs.lemmas.List.Elements.{Contains-append_cases, Contains-append_left}
use Rattle.std.proofs.lemmas.List.Elements.{Contains-append_right, Contains-get_or, Contains-push, Contains-push_cases}
use Rattle.std.proofs.lemmas.List.Elements.{filter-append}
use Rattle.std.proofs.lemmas.List.Kept.{AllPairs-filter}
use Rattle.std.proofs.lemmas.List.Quantifiers.{all_pairs_push}
use Rattle.work_calendars.specs.Minute.{IsMinute}
use Rattle.work_calendars.specs.Moment.{day_of_moment, moment_of}
use Rattle.run_cycles.specs.Occurrence.{IsEarlier, IsOccurrence}
use Rattle.run_cycles.specs.declared.named.Named.{Named}
use Rattle.app_occurrences.specs.Active.{IsActive, cycles_of}
use Rattle.app_definition_records.specs.ByName.{AreNamesOf}
use Rattle.app_occurrences.specs.NamedOccurrences.{ListsNamed, work_of}
use Rattle.app_definition_records.specs.declared.applications.Application.{Application}
use Rattle.app_definitions.specs.declared.definitions.Definitions.{Definitions}
use Rattle.app_definition_records.proofs.RisingLemmas.{Contains-map, Contains-map_back}
use Rattle.occurrences.specs.Key.{KeyBefore}
use Rattle.occurrences.specs.declared.key.Key.{Key}
use Rattle.occurrences.specs.declared.row.Row.{Row}
use Rattle.planner_machine.specs.declared.content.Draft.{Draft}
use Rattle.planner_machine.specs.Content.{Content, Sets, midnight}
use Rattle.planner_machine.specs.Drafts.{AreDrafts, IsMade, IsNamed, NamesWithin, draft_of}
use Rattle.planner_machine.specs.Sound.{AreDefinitions, IsSound}
use Rattle.planner_machine.proofs.RangeLemmas.{cycle_ranges}
use Rattle.plan_store.specs.Views.{IsDeletedKey, IsPlannedRow}
use Rattle.plan_store_pairs.proofs.ListLemmas.{filter_has, filter_keeps, none}
use Rattle.long_term_plan.specs.Drafting.{AddsDrafts, AreCollected, AreDraftsOf, DraftsRise, AreNew, HaveOwnKeys}
use Rattle.long_term_plan.specs.Drafting.{IsNamedFrom, IsNewKey, NamesFor, drafts_from, is_from}
use Rattle.long_term_plan.proofs.PairwiseLemmas.{append_pairs, front_pairs, last_pairs, map_pairs}

-- ---- times of named occurrences

pub named_minute : (all : Definitions) → AreDefinitions all → (app : List ℕ) (x : Named) → IsNamed all app x
    → IsMinute x.time
named_minute all are app x (a, active, occurs) =
    let (k, cycle, within, at, gives) = occurs.given in
    let ranges = cycle_ranges all are app (map.get all.run_cycles app) refl cycle (k, within, at) in
    subst IsMinute gives.1.0 ranges.ia

-- ---- the drafts of one application

pub drafts_more : (app : List ℕ) (first : ℕ) (front : List Named) (x : Named)
    → drafts_from app first (front ++ x ∷ []) ≡ drafts_from app first front
    ++ (if is_from first (draft_of app x) then draft_of app x ∷ [] else [])
drafts_more app first front x =
    ap (filter (is_from first)) (map-append (draft_of app) front (x ∷ []))
    ∙ filter-append (is_from first) (map (draft_of app) front) (draft_of app x ∷ [])

-- one that arrives in time is added, and one that doesn't is not
pub drafts_kept : (app : List ℕ) (first : ℕ) (front : List Named) (x : Named) (old so_far : List Draft) (draft : Draft)
    → so_far ≡ old ++ drafts_from app first front → draft ≡ draft_of app x → is_from first (draft_of app x) ≡ true
    → so_far ++ draft ∷ [] ≡ old ++ drafts_from app first (front ++ x ∷ [])
drafts_kept app first front x old so_far draft before is from =
    ap (λ ds. ds ++ draft ∷ []) before
    ∙ ap (λ d. (old ++ drafts_from app first front) ++ d ∷ []) is
    ∙ append_assoc old (drafts_from app first front) (draft_of app x ∷ [])
    ∙ ap (λ (b : Bool). old ++ (drafts_from app first front ++ (if b then draft_of app x ∷ [] else []))) (sym from)
    ∙ ap (λ ds. old ++ ds) (sym (drafts_more app first front x))

pub drafts_left : (app : List ℕ) (first : ℕ) (front : List Named) (x : Named) (old so_far : List Draft)
    → so_far ≡ old ++ drafts_from app first front → is_from first (draft_of app x) ≡ false
    → so_far ≡ old ++ drafts_from app first (front ++ x ∷ [])
drafts_left app first front x old so_far before from =
    before
    ∙ ap (λ ds. old ++ ds) (sym (append-nil (drafts_from app first front)))
    ∙ ap (λ (b : Bool). old ++ (drafts_from app first front ++ (if b then draft_of app x ∷ [] else []))) (sym from)
    ∙ ap (λ ds. old ++ ds) (sym (drafts_more app first front x))

-- what `>=` answers
pub compared : (first ia : ℕ) (b : Bool) → is_ge (nat_cmp ia first) ≡ b → nat_le first ia ≡ b
compared first ia b is = search (rules, is)

module _ (all : Definitions) (app : List ℕ) (a : Application) (active : IsActive all app a) (first last : ℕ)
    (named : List Named) (lists : ListsNamed all app a (day_of_moment first) last named) where
  listed : (x : Named) → Contains named x → IsNamed all app x × (day_of_moment first ≤ x.day) × (x.day ≤ last)
  listed x there = let is = (lists.exactly x).0 there in ((a, active, is.2), is.0, is.1)

  has_drafts : (draft : Draft) → Contains (drafts_from app first named) draft
      → (draft.key.app ≡ app) × IsNamedFrom all app first last draft
  has_drafts draft there =
      let (mapped, from) = filter_has (is_from first) (map (draft_of app) named) draft there in
      let (x, at, is) = Contains-map_back (draft_of app) named draft mapped in
      let (names, begun, ended) = listed x at in (
        ap (λ (d : Draft). d.key.app) (sym is),
        record { occurrence = x; named = names; begun = begun; ended = ended; is = sym is; from = leb-true _ _ from },
      )

  -- the application is one
  same_application : (b : Application) → IsActive all app b → b ≡ a
  same_application b is = let both : Some b ≡ Some a = sym is.0 ∙ active.0 in cc

  lists_draft : (draft : Draft) → IsNamedFrom all app first last draft → Contains (drafts_from app first named) draft
  lists_draft draft is =
      let (b, active_b, occurs) = is.named in
      let occurs' : IsOccurrence (cycles_of all app) all.periods (work_of all a) is.occurrence =
      subst (λ z. IsOccurrence (cycles_of all app) all.periods (work_of all z) is.occurrence)
      (same_application b active_b) occurs in
      let at = (lists.exactly is.occurrence).1 (is.begun, is.ended, occurs') in
      filter_keeps (is_from first) (map (draft_of app) named) draft
      (subst (Contains (map (draft_of app) named)) (sym is.is) (Contains-map (draft_of app) named is.occurrence at))
      (le-leb _ _ is.from)

  earlier : (x y : Named) → IsMinute x.time → IsEarlier x y → (draft_of app x).key ≢ (draft_of app y).key
  earlier x y minute (inl day) same = let ia = ap (λ (k : Key). k.ia) same in omega (arith, ia, minute, day)
  earlier x y minute (inr (day, time)) same =
      let ia = ap (λ (k : Key). k.ia) same in omega (arith, ia, day, time)

  own_keys : AreDefinitions all → HaveOwnKeys (drafts_from app first named)
  own_keys are =
      AllPairs-filter (λ a b. a.key ≢ b.key) (is_from first) (map (draft_of app) named)
      (map_pairs (λ (a b : Draft). a.key ≢ b.key) (draft_of app) named (λ i j d lt within.
      earlier (get_or named i d) (get_or named j d)
      (named_minute all are app (get_or named i d) (listed (get_or named i d)
      (Contains-get_or named i d (omega (arith, lt, within)))).0)
      (lists.in_order i j d lt within)))

  pub drafts_are : AreDraftsOf all app first last (drafts_from app first named)
  drafts_are = record {
    exactly = λ draft. (has_drafts draft, λ is. lists_draft draft is.1);
    apart = own_keys;
  }

-- an application that isn't active has none
pub no_drafts : (all : Definitions) (app : List ℕ) (first last : ℕ)
    → ((a : Application) → IsActive all app a → ⊥) → AreDraftsOf all app first last []
no_drafts all app first last inactive = record {
  exactly = λ draft. (
    (λ there. absurd (none draft there)),
    λ is. let (b, active, occurs) = is.1.named in absurd (inactive b active),
  );
  apart = λ are i j d lt within. absurd (omega (arith, lt, within));
}

-- ---- the drafts of several applications

pub collected_none : (all : Definitions) (first last : ℕ) (drafts : List Draft) → drafts ≡ []
    → AreCollected all [] first last drafts
collected_none all first last drafts is = record {
  exactly = λ draft. (
    (λ there. absurd (none draft (subst (λ ds. Contains ds draft) is there))),
    λ both. absurd (none draft.key.app both.0),
  );
  apart = λ are i j d lt within. let short : length drafts ≡ 0 = ap length is in absurd (omega (arith, lt, within));
}

pub collected_more : (all : Definitions) (apps : List (List ℕ)) (app : List ℕ) (first last : ℕ) (old new : List Draft)
    → AreCollected all apps first last old → AddsDrafts all app first last old new → (Contains apps app → ⊥)
    → AreCollected all (apps ++ app ∷ []) first last new
collected_more all apps app first last old new before adds other = record {
  exactly = λ draft. (forward draft, backward draft);
  apart = λ are. subst HaveOwnKeys (sym adds.added)
      (append_pairs (λ (a b : Draft). a.key ≢ b.key) old adds.more (before.apart are) (adds.are.apart are) across);
}
  where
    across : (x y : Draft) → Contains old x → Contains adds.more y → x.key ≢ y.key
    across x y at_x at_y same =
        let here : x.key.app ≡ app = ap (λ (k : Key). k.app) same ∙ ((adds.are.exactly y).0 at_y).0 in
        other (subst (Contains apps) here ((before.exactly x).0 at_x).0)

    forward : (draft : Draft) → Contains new draft
        → Contains (apps ++ app ∷ []) draft.key.app × IsNamedFrom all draft.key.app first last draft
    forward draft there =
        elim (Contains-append_cases old adds.more draft (subst (λ ds. Contains ds draft) adds.added there)) [
          | inl was ↦ let is = (before.exactly draft).0 was in
              (Contains-append_left apps (app ∷ []) draft.key.app is.0, is.1)
          | inr more ↦ let is = (adds.are.exactly draft).0 more in (
            subst (Contains (apps ++ app ∷ [])) (sym is.0) (Contains-push apps app),
            subst (λ a. IsNamedFrom all a first last draft) (sym is.0) is.1,
          )
        ]

    backward : (draft : Draft)
        → Contains (apps ++ app ∷ []) draft.key.app × IsNamedFrom all draft.key.app first last draft
        → Contains new draft
    backward draft (there, is) = subst (λ ds. Contains ds draft) (sym adds.added)
        (elim (Contains-push_cases apps app draft.key.app there) [
          | inl was ↦ Contains-append_left old adds.more draft ((before.exactly draft).1 (was, is))
          | inr same ↦ Contains-append_right old adds.more draft
              ((adds.are.exactly draft).1 (sym same, subst (λ a. IsNamedFrom all a first last draft) (sym same) is))
        ])

-- in order they are the drafts that are named within the days
pub named_are : (all : Definitions) → AreDefinitions all → (apps : List (List ℕ)) (first last : ℕ)
    (drafts sorted : List Draft) → AreCollected all apps first last drafts → DraftsRise sorted
    → ((draft : Draft) → Contains sorted draft ↔ Contains drafts draft)
    → AreDrafts (NamesFor all apps first (midnight (last + 1))) sorted
named_are all are apps first last drafts sorted collected in_order same = record {
  rising = in_order;
  exactly = λ draft. (forward draft, backward draft);
}
  where
    forward : (draft : Draft) → Contains sorted draft → NamesFor all apps first (midnight (last + 1)) draft
    forward draft there =
        let (asked, is) = (collected.exactly draft).0 ((same draft).0 there) in
        let ia : draft.key.ia ≡ moment_of is.occurrence.day is.occurrence.time =
        ap (λ (d : Draft). d.key.ia) is.is in
        let minute = named_minute all are draft.key.app is.occurrence is.named in
        let ended = is.ended in
        (((draft.key.app, is.occurrence, is.named, is.is), is.from, omega (arith, ia, minute, ended)), asked)

    backward : (draft : Draft) → NamesFor all apps first (midnight (last + 1)) draft → Contains sorted draft
    backward draft (((app, x, named, is), from, before), asked) =
        let here : draft.key.app ≡ app = ap (λ (d : Draft). d.key.app) is in
        let ia : draft.key.ia ≡ moment_of x.day x.time = ap (λ (d : Draft). d.key.ia) is in
        let minute = named_minute all are app x named in
        let named_from : IsNamedFrom all app first last draft = record {
          occurrence = x;
          named = named;
          begun = omega (arith, ia, minute, from);
          ended = omega (arith, ia, before);
          is = is;
          from = from;
        } in
        (same draft).1 ((collected.exactly draft).1 (
          asked,
          subst (λ a. IsNamedFrom all a first last draft) (sym here) named_from,
        ))

-- ---- those that are new

pub new_none : (s : Sets) (new : List Draft) → new ≡ [] → AreNew s [] new
new_none s new is = record {
  in_order = λ order. subst DraftsRise (sym is) order;
  exactly = λ draft. (
    (λ there. absurd (none draft (subst (λ ds. Contains ds draft) is there))),
    λ both. absurd (none draft both.0),
  );
}

abbrev Before : Draft → Draft → Type 0
Before a b = KeyBefore a.key b.key

-- one more that isn't new
pub new_skip : (s : Sets) (named new : List Draft) (draft : Draft) → AreNew s named new
    → (IsNewKey s draft.key → ⊥) → AreNew s (named ++ draft ∷ []) new
new_skip s named new draft are old = record {
  in_order = λ order. are.in_order (front_pairs Before named draft order);
  exactly = λ d. (
    (λ there. let is = (are.exactly d).0 there in (Contains-append_left named (draft ∷ []) d is.0, is.1)),
    λ is. elim (Contains-push_cases named draft d is.0) [
      | inl was ↦ (are.exactly d).1 (was, is.1)
      | inr same ↦ absurd (old (subst (λ (x : Draft). IsNewKey s x.key) (sym same) is.1))
    ],
  );
}

-- one more that is new
pub new_more : (s : Sets) (named new : List Draft) (draft : Draft) → AreNew s named new → IsNewKey s draft.key
    → AreNew s (named ++ draft ∷ []) (new ++ draft ∷ [])
new_more s named new draft are is_new = record {
  in_order = λ order. all_pairs_push Before new draft (are.in_order (front_pairs Before named draft order))
      (λ k d lt. last_pairs Before named draft order (get_or new k d)
      ((are.exactly (get_or new k d)).0 (Contains-get_or new k d lt)).0);
  exactly = λ d. (
    (λ there. elim (Contains-push_cases new draft d there) [
      | inl was ↦ let is = (are.exactly d).0 was in (Contains-append_left named (draft ∷ []) d is.0, is.1)
      | inr same ↦ subst (λ (x : Draft). Contains (named ++ draft ∷ []) x × IsNewKey s x.key) same
          (Contains-push named draft, is_new)
    ]),
    λ is. elim (Contains-push_cases named draft d is.0) [
      | inl was ↦ Contains-append_left new (draft ∷ []) d ((are.exactly d).1 (was, is.1))
      | inr same ↦ subst (Contains (new ++ draft ∷ [])) same (Contains-push new draft)
    ],
  );
}

-- the tests of a key
pub new_key : (s : Sets) (key : Key) (row : Option Row) → IsPlannedRow s key row → row ≡ None → (deleted : Bool)
    → IsTrue deleted ↔ IsDeletedKey s key → IsTrue (not deleted) ↔ IsNewKey s key
new_key s key row planned absent deleted tested = (forward deleted tested, backward deleted tested)
  where
    forward : (b : Bool) → IsTrue b ↔ IsDeletedKey s key → IsTrue (not b) → IsNewKey s key
    forward true tested is = absurd (false≢true is)
    forward false tested is = record {
      not_planned = subst (IsPlannedRow s key) absent planned;
      not_deleted = λ serial deletion stands operator same.
          false≢true (tested.1 (serial, deletion, stands, operator, same));
    }

    backward : (b : Bool) → IsTrue b ↔ IsDeletedKey s key → IsNewKey s key → IsTrue (not b)
    backward true tested is =
        let (serial, deletion, stands, operator, same) = tested.0 refl in
        absurd (is.not_deleted serial deletion stands operator same)
    backward false tested is = refl

-- of named drafts those of new keys are made
pub new_are : (Names : Draft → Type 0) (s : Sets) (named new : List Draft) → AreDrafts Names named
    → AreNew s named new → AreDrafts (IsMade Names s) new
new_are Names s named new list are = record {
  rising = are.in_order list.rising;
  exactly = λ draft. (
    (λ there. let (at, key) = (are.exactly draft).0 there in record {
      named = (list.exactly draft).0 at;
      not_planned = key.not_planned;
      not_deleted = key.not_deleted;
    }),
    λ made. (are.exactly draft).1 (
      (list.exactly draft).1 made.named,
      record { not_planned = made.not_planned; not_deleted = made.not_deleted },
    ),
  );
}

-- drafts of another word for the same
pub same_drafts : (P Q : Draft → Type 0) → ((draft : Draft) → P draft ↔ Q draft) → (drafts : List Draft)
    → AreDrafts P drafts → AreDrafts Q drafts
same_drafts P Q same drafts list = record {
  rising = list.rising;
  exactly = λ draft. (
    (λ there. (same draft).0 ((list.exactly draft).0 there)),
    λ is. (list.exactly draft).1 ((same draft).1 is),
  );
}

-- what is named for all names of applications is what is named
pub named_for_all : (all : Definitions) (apps : List (List ℕ)) → AreNamesOf apps all.applications → (first end : ℕ)
    (draft : Draft) → NamesFor all apps first end draft ↔ NamesWithin all first end draft
named_for_all all apps are first end draft = (
  (λ is. is.0),
  λ is. let ((app, x, (a, active, occurs), same), from, before) = is in
      let defined : IsSome (map.get all.applications app) =
      subst (λ (o : Option Application). IsSome o) (sym active.0) refl in
      (is, subst (Contains apps) (ap (λ (d : Draft). d.key.app) (sym same)) ((are.exactly app).1 defined)),
)

-- what is named from a moment on arrives from it on
pub named_late : (c : Content) → IsSound c → (all : Definitions) → all ≡ c.definitions → (apps : List (List ℕ))
    (first end : ℕ) (drafts named : List Draft) → (AreDefinitions all
    → AreDrafts (NamesFor all apps first end) drafts) → named ≡ drafts → (draft : Draft) → Contains named draft
    → first ≤ draft.key.ia
named_late c sound all defined apps first end drafts named are same draft there =
    let listed = are (subst AreDefinitions (sym defined) sound.ranges.definitions) in
    ((listed.exactly draft).0 (subst (λ ds. Contains ds draft) same there)).0.1
