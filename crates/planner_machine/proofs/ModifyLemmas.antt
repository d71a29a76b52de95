-- A planning statement that withdraws, keeps and makes.
use Rattle.std.proofs.Common.{◌≡◌, ◌≢◌, ◌↔◌, ℕ, zero, suc, true, false, List, [], ◌∷◌, length, refl, sym, ap, ap₂}
use Rattle.std.proofs.Common.{subst, ◌∙◌, inl, inr, arith, Option, None, Some}
use Rattle.std.specs.Prelude.{Bool, ◌&&◌, Contains, IsTrue, option_map, if◌then◌else◌}
use Rattle.std.specs.Option.{option_and_then}
use Rattle.std.proofs.lemmas.Bool.{false≢true}
use Rattle.app_definitions.specs.declared.definitions.Definitions.{Definitions}
use Rattle.std.specs.Cmp.{Equal-is, tied_itself}
use Rattle.std.specs.Cmp.Lexicographic.{nat_list_cmp_total, slice_cmp}
use Rattle.std.specs.Ordering.{nat_cmp}
use Rattle.std.specs.declared.cmp.Ordering.TheVariants.{Equal}
use Rattle.occurrences.specs.Key.{ByteBefore, key_eq}
use Rattle.occurrences.proofs.OrderLemmas.{answer_means}
use Rattle.planner_machine.specs.ModifyAll.{IsAnyApp, is_any_app}
use Rattle.planner_machine.specs.ModifyOne.{IsThatApp, is_that_app}
use Rattle.occurrences.proofs.KeyLemmas.{byte_ranks, same_key, other_key}
use Rattle.occurrences.specs.Place.{IsLive}
use Rattle.occurrences.specs.declared.key.Key.{Key}
use Rattle.occurrences.specs.declared.place.Place.{Place}
use Rattle.occurrences.specs.declared.place.Place.TheVariants.{LongTerm, Current, History, Deleted}
use Rattle.occurrences.specs.declared.place.Reason.TheVariants.{Withdrawn}
use Rattle.occurrences.specs.declared.reply.Reply.{Reply}
use Rattle.occurrences.specs.declared.reply.Reply.TheVariants.{Made}
use Rattle.occurrences.specs.declared.row.Row.{Row}
use Rattle.external_dependencies.specs.declared.rows.PlacedRow.{PlacedRow}
use Rattle.planner_machine.specs.declared.content.Bounds.{Bounds}
use Rattle.planner_machine.specs.declared.content.Draft.{Draft}
use Rattle.planner_machine.specs.Content.{Seat, Sets, alone, seat}
use Rattle.occurrences.specs.declared.row.Origin.{Origin}
use Rattle.occurrences.specs.declared.row.Origin.TheVariants.{Added, Generated}
use Rattle.planner_machine.specs.Drafts.{AreDrafts, IsMade, NamesDraft}
use Rattle.planner_machine.specs.Fate.{IsGenerated, ModifyFate}
use Rattle.planner_machine.specs.Laws.{Follows}
use Rattle.planner_machine.specs.Modify.{Modifies, NamesAhead, draft_with, is_generated, looks_at, modified}
use Rattle.planner_machine.specs.Modify.{modify_move, stamped, taken}
use Rattle.planner_machine.specs.Moves.{each, size, with_made}
use Rattle.planner_machine.proofs.DraftLemmas.{one_plan}
use Rattle.planner_machine.proofs.MadeLemmas.{fresh, made_follows, made_sound}
use Rattle.planner_machine.specs.RowsSound.{IsPlacedIn, RowsSound}
use Rattle.planner_machine.proofs.SeatLemmas.{IsMove, move_follows, move_sound}

-- the draft that is found, or that there is none
draft_found : (key : Key) (drafts : List Draft) (draft : Draft) → draft_with key drafts ≡ Some draft
    → Contains drafts draft × (draft.key ≡ key)
draft_found key [] draft is = cc
draft_found key (d ∷ ds) draft is =
    elim (key_eq d.key key) as (λ b. key_eq d.key key ≡ b → (if b then Some d else draft_with key ds) ≡ Some draft
    → Contains (d ∷ ds) draft × (draft.key ≡ key)) [
      | true ↦ λ same is. let here : d ≡ draft = cc in
          ((zero, omega arith, here), ap (λ (x : Draft). x.key) (sym here) ∙ same_key d.key key same)
      | false ↦ λ _ is. let rest = draft_found key ds draft is in let (k, lt, at) = rest.0 in
          ((suc k, omega arith, at), rest.1)
    ] refl is

draft_missing : (key : Key) (drafts : List Draft) (draft : Draft) → draft_with key drafts ≡ None
    → Contains drafts draft → draft.key ≢ key
draft_missing key [] draft is (k, lt, at) = absurd (omega (arith, lt))
draft_missing key (d ∷ ds) draft is there =
    elim (key_eq d.key key) as (λ b. key_eq d.key key ≡ b → (if b then Some d else draft_with key ds) ≡ None
    → draft.key ≢ key) [
      | true ↦ λ _ is. cc
      | false ↦ λ other is. at_each (draft_missing key ds draft is) other there
    ] refl is
  where
    at_each : (Contains ds draft → draft.key ≢ key) → key_eq d.key key ≡ false → Contains (d ∷ ds) draft
        → draft.key ≢ key
    at_each rest other (zero, lt, at) same = other_key d.key key other (ap (λ (x : Draft). x.key) at ∙ same)
    at_each rest other (suc k, lt, at) same = rest (k, omega arith, at) same

-- where a row of L goes, by what it becomes there
abbrev going_on : Row → Option Row → PlacedRow
going_on row None = record { row = row; place = Deleted Withdrawn }
going_on row (Some row') = record { row = row'; place = LongTerm }

module _ (looked_at : Row → Bool) (named : List Draft) where
  abbrev go_at : Row → Place → PlacedRow
  go_at row LongTerm = going_on row (modified looked_at named row)
  go_at row place = record { row = row; place = place }

  abbrev go : PlacedRow → PlacedRow
  go p = go_at p.row p.place

  by_outcome : (row : Row) (o : Option Row) → modified looked_at named row ≡ o
      → modify_move looked_at named (alone row LongTerm) ≡ alone (going_on row o).row (going_on row o).place
  by_outcome row None is = rw is refl
  by_outcome row (Some row') is = rw is refl

  modify_alone : (row : Row) (was : Place)
      → modify_move looked_at named (alone row was) ≡ alone (go_at row was).row (go_at row was).place
  modify_alone row LongTerm = by_outcome row (modified looked_at named row) refl
  modify_alone row (Current status) = refl
  modify_alone row History = refl
  modify_alone row (Deleted reason) = refl

  -- a row that stays keeps its serial and its key
  Keeps : Row → PlacedRow → Type 0
  Keeps row q = (q.row.serial ≡ row.serial) × (q.row.key ≡ row.key)

  stamped_keeps : (row : Row) (o : Option Draft) → Keeps row (going_on row (option_map (λ draft. stamped draft row) o))
  unfolding Keeps
  stamped_keeps row None = (refl, refl)
  stamped_keeps row (Some draft) = (refl, refl)

  modified_keeps : (row : Row) (b : Bool)
      → Keeps row (going_on row
      (if b then option_map (λ draft. stamped draft row) (draft_with row.key named) else Some row))
  unfolding Keeps
  modified_keeps row true = stamped_keeps row (draft_with row.key named)
  modified_keeps row false = (refl, refl)

  go_keeps : (row : Row) (was : Place) → Keeps row (go_at row was)
  unfolding Keeps
  go_keeps row LongTerm = modified_keeps row (looked_at row)
  go_keeps row (Current status) = (refl, refl)
  go_keeps row History = (refl, refl)
  go_keeps row (Deleted reason) = (refl, refl)

  modify_is_move : IsMove (modify_move looked_at named) go
  unfolding Keeps
  modify_is_move = record {
    empty = refl;
    alone = λ p. modify_alone p.row p.place;
    serial = λ p. (go_keeps p.row p.place).0;
    key = λ p. (go_keeps p.row p.place).1;
  }

  outcome_arrives : (b : Bounds) (row : Row) (o : Option Row) → Keeps row (going_on row o)
      → IsPlacedIn (Some b) (record { row = row; place = LongTerm }) → IsPlacedIn (Some b) (going_on row o)
  unfolding Keeps
  outcome_arrives b row None keeps arrives = tt
  outcome_arrives b row (Some row') keeps arrives = let ia = ap (λ (k : Key). k.ia) keeps.1 in
      (omega (arith, ia, arrives.0), omega (arith, ia, arrives.1))

  modify_arrives : (o : Option Bounds) (row : Row) (was : Place) → IsPlacedIn o (record { row = row; place = was })
      → IsPlacedIn o (go_at row was)
  modify_arrives None row was arrives = absurd arrives
  modify_arrives (Some b) row LongTerm arrives =
      outcome_arrives b row (modified looked_at named row) (go_keeps row LongTerm) arrives
  modify_arrives (Some b) row (Current status) arrives = arrives
  modify_arrives (Some b) row History arrives = arrives
  modify_arrives (Some b) row (Deleted reason) arrives = arrives

  modify_live : (row : Row) (was : Place) → IsLive (go_at row was).place → IsLive was
  modify_live row LongTerm live = tt
  modify_live row (Current status) live = live
  modify_live row History live = live
  modify_live row (Deleted reason) live = live

  -- a row of L after the move was one before it, with the same key
  from_ltp : (s : Seat) (row : Row) → (modify_move looked_at named s).ltp ≡ Some row → (was : Row)
      × (s.ltp ≡ Some was) × (row.key ≡ was.key)
  unfolding Keeps
  from_ltp s row is = elim s.ltp as (λ o. s.ltp ≡ o → option_and_then (modified looked_at named) o ≡ Some row
      → (was : Row) × (s.ltp ≡ Some was) × (row.key ≡ was.key)) [
        | None ↦ λ _ is. cc
        | Some was ↦ λ at is. (was, at, subst (λ o. (going_on was o).row.key ≡ was.key) is (go_keeps was LongTerm).1)
      ] refl is

-- the test of applications says what the relation says
abbrev pub Tests : (List ℕ → Bool) → (List ℕ → Type 0) → Type 0
Tests looks Looks = (app : List ℕ) → IsTrue (looks app) ↔ Looks app

both_true : (a b : Bool) → (a && b) ≡ true → (a ≡ true) × (b ≡ true)
both_true true true is = (refl, refl)
both_true true false is = absurd (false≢true is)
both_true false b is = absurd (false≢true is)

generated : (o : Origin) → is_generated o ≡ true → IsGenerated o
generated (Generated name) is = tt
generated Added is = absurd (false≢true is)

generated_is : (o : Origin) → IsGenerated o → is_generated o ≡ true
generated_is (Generated name) is = refl
generated_is Added is = absurd is

ahead_named : (Looks : List ℕ → Type 0) (all : Definitions) (o : Option Bounds) (draft : Draft)
    → NamesAhead Looks all o draft → NamesDraft all draft
ahead_named Looks all None draft is = absurd is
ahead_named Looks all (Some b) draft is = is.0.0

module _ (looks : List ℕ → Bool) (Looks : List ℕ → Type 0) (tests : Tests looks Looks) (all : Definitions) where
  looked : (row : Row) → looks_at looks row ≡ true → IsGenerated row.origin × Looks row.key.app
  looked row is = let both = both_true (is_generated row.origin) (looks row.key.app) is in
      (generated row.origin both.0, (tests row.key.app).0 both.1)

  not_looked : (row : Row) → looks_at looks row ≡ false → IsGenerated row.origin → Looks row.key.app → ⊥
  not_looked row is gen look =
      let first = generated_is row.origin gen in let second : looks row.key.app ≡ true = (tests row.key.app).1 look in
      let both : (is_generated row.origin && looks row.key.app) ≡ true = rw (first, second) refl in
      false≢true (sym is ∙ both)

  -- a named draft of the key of a row that is looked at is among those that are named ahead
  is_ahead : (o : Option Bounds) (row : Row) → IsPlacedIn o (record { row = row; place = LongTerm })
      → Looks row.key.app → (draft : Draft) → NamesDraft all draft → draft.key ≡ row.key
      → NamesAhead Looks all o draft
  is_ahead None row arrives look draft named same = absurd arrives
  is_ahead (Some b) row arrives look draft named same =
      let ia = ap (λ (k : Key). k.ia) same in (
        (named, omega (arith, ia, arrives.0), omega (arith, ia, arrives.1)),
        subst Looks (sym (ap (λ (k : Key). k.app) same)) look,
      )

  module _ (o : Option Bounds) (named : List Draft) (list : AreDrafts (NamesAhead Looks all o) named) where
    stamped_fate : (row : Row) → IsPlacedIn o (record { row = row; place = LongTerm }) → IsGenerated row.origin
        × Looks row.key.app → (d : Option Draft) → draft_with row.key named ≡ d
        → ModifyFate Looks all (record {
          row = row;
          place = LongTerm;
        }) (going_on row (option_map (λ draft. stamped draft row) d))
    stamped_fate row arrives look None is = inl (
      (refl, look.0, look.1),
      inr (record {
        unnamed = λ draft names same. draft_missing row.key named draft is
            ((list.exactly draft).1 (is_ahead o row arrives look.1 draft names same)) same;
        goes = refl;
      }),
    )
    stamped_fate row arrives look (Some draft) is =
        let there = draft_found row.key named draft is in
        inl (
          (refl, look.0, look.1),
          inl (record {
            draft = draft;
            named = ahead_named Looks all o draft ((list.exactly draft).0 there.0);
            keyed = there.1;
            stays = refl;
          }),
        )

    looked_fate : (row : Row) → IsPlacedIn o (record { row = row; place = LongTerm }) → (b : Bool)
        → looks_at looks row ≡ b
        → ModifyFate Looks all (record {
          row = row;
          place = LongTerm;
        }) (going_on row
        (if b then option_map (λ draft. stamped draft row) (draft_with row.key named) else Some row))
    looked_fate row arrives true is = stamped_fate row arrives (looked row is) (draft_with row.key named) refl
    looked_fate row arrives false is = inr ((λ at. not_looked row is at.1 at.2), refl)

    go_fate : (row : Row) (was : Place) → IsPlacedIn o (record { row = row; place = was })
        → ModifyFate Looks all (record { row = row; place = was }) (go_at (looks_at looks) named row was)
    go_fate row LongTerm arrives = looked_fate row arrives (looks_at looks row) refl
    go_fate row (Current status) arrives = inr ((λ at. let is = at.0 in cc), refl)
    go_fate row History arrives = inr ((λ at. let is = at.0 in cc), refl)
    go_fate row (Deleted reason) arrives = inr ((λ at. let is = at.0 in cc), refl)

  pub modify_does_one : (c : Sets) (reply reply' : Reply) (c' c'' : Sets) → RowsSound c
      → Modifies looks Looks all c reply c' → Modifies looks Looks all c reply' c'' → (reply ≡ reply') × (c' ≡ c'')
  modify_does_one c reply reply' c' c'' sound a b =
      let named = one_plan (NamesAhead Looks all c.bounds) a.named b.named a.are_named b.are_named in
      let new = one_plan (IsMade (NamesAhead Looks all c.bounds) c) a.new b.new a.are_new b.are_new in (
        a.replies ∙ ap₂ (λ (n : List Draft) (l : List Draft). Made (length n)
            (size (λ serial. taken (looks_at looks) l (c.ltp serial)) c.issued)) new named ∙ sym b.replies,
        a.becomes ∙ ap₂ (λ n l. with_made LongTerm n (each (modify_move (looks_at looks) l) c)) new named
            ∙ sym b.becomes,
      )

  module _ (c : Sets) (sound : RowsSound c) (named : List Draft) where
    unfoldable pub between : Sets
    between = each (modify_move (looks_at looks) named) c

    pub between_sound : RowsSound between
    unfolding between
    between_sound = move_sound (modify_move (looks_at looks) named) (go (looks_at looks) named)
        (modify_is_move (looks_at looks) named) c sound c.bounds sound.bounds
        (λ p. modify_arrives (looks_at looks) named c.bounds p.row p.place)
        (λ p. modify_live (looks_at looks) named p.row p.place)

    pub modify_follows : (new : List Draft) → AreDrafts (NamesAhead Looks all c.bounds) named
        → Follows LongTerm (ModifyFate Looks all) new c (with_made LongTerm new between)
    unfolding between
    modify_follows new list = record {
      issues = refl;
      old = λ serial p there.
          let (q, is, stands) = (move_follows (modify_move (looks_at looks) named) (go (looks_at looks) named)
          (modify_is_move (looks_at looks) named) c sound c.bounds LongTerm).old serial p there in
          let (r, is', stands') = (made_follows LongTerm between between_sound new).old serial q stands in (
            r,
            subst (ModifyFate Looks all p) (sym (is'
                ∙ is)) (go_fate c.bounds named list p.row p.place (sound.arrivals serial p there)),
            stands',
          );
      new = (made_follows LongTerm between between_sound new).new;
    }

    pub modify_keeps : (b : Bounds) → c.bounds ≡ Some b → (new : List Draft)
        → AreDrafts (IsMade (NamesAhead Looks all c.bounds) c) new → RowsSound (with_made LongTerm new between)
    unfolding between
    modify_keeps b is new list = made_sound LongTerm between between_sound new b is
        (λ draft there.
        let news = (list.exactly draft).0 there in
        let ahead : NamesAhead Looks all (Some b) draft =
        subst (λ (o : Option Bounds). NamesAhead Looks all o draft) is news.named in (
          (ahead.0.1, ahead.0.2),
          fresh between between_sound b is draft.key ahead.0.1 (λ serial row at same. let (
            was,
            at',
            keys,
          ) = from_ltp (looks_at looks) named (seat c serial) row at in
              news.not_planned serial was at' (sym keys ∙ same)),
        ))
        list.rising

pub any_tests : Tests is_any_app IsAnyApp
any_tests app = ((λ is. tt), λ is. refl)

pub that_tests : (app : List ℕ) → Tests (is_that_app app) (IsThatApp app)
that_tests app other = (
  (λ is. answer_means (slice_cmp nat_cmp) ByteBefore byte_ranks other app Equal
      ((Equal-is (slice_cmp nat_cmp other app)).0 is)),
  λ is. (Equal-is (slice_cmp nat_cmp other app)).1 (ap (slice_cmp nat_cmp other) (sym is)
      ∙ tied_itself nat_list_cmp_total other),
)
