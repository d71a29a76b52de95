-- Open occurrences that a row may precede, link by link.
use Rattle.std.proofs.Common.{◌≡◌, ◌↔◌, ℕ, ◌≤◌, List, [], Option, Some, None, refl, sym, ap, subst}
use Rattle.std.proofs.Common.{◌∙◌, inl, inr, arith}
use Rattle.std.specs.List.{Contains}
use Rattle.occurrences.specs.Place.{IsLive, IsOpen}
use Rattle.occurrences.specs.declared.place.CurrentRow.{CurrentRow}
use Rattle.occurrences.specs.declared.place.Place.{Place}
use Rattle.occurrences.specs.declared.place.Place.TheVariants.{LongTerm, Current, History, Deleted}
use Rattle.occurrences.specs.declared.row.Row.{Row}
use Rattle.occurrences.specs.declared.status.Status.TheVariants.{W, D}
use Rattle.external_dependencies.specs.Link.{AreNamedOnce, Lists}
use Rattle.external_dependencies.specs.Nearest.{arrival_of}
use Rattle.external_dependencies.specs.declared.links.Link.{Link}
use Rattle.external_dependencies.specs.declared.live.Arrival.{Arrival}
use Rattle.external_dependencies.specs.declared.rows.PlacedRow.{PlacedRow}
use Rattle.planner_machine.specs.Content.{Content, Seat, Sets, IsOnlyAt, alone}
use Rattle.planner_machine.specs.Pairs.{LiveAt}
use Rattle.planner_machine.specs.Sound.{AreNumbered}
use Rattle.plan_store_lists.specs.Rows.{of_current, of_row}
use Rattle.plan_store_lists.specs.declared.namings.Naming.{Naming}
use Rattle.external_dependencies.specs.Touch.{IsWithin}
use Rattle.plan_store.specs.HistoryReads.{IsPlannedAt}
use Rattle.plan_store.specs.Slices.{HaveOneApp}
use Rattle.plan_store.specs.Spans.{IsNextPlanned}
use Rattle.plan_store.specs.Views.{ListsSet}
use Rattle.plan_store.proofs.PlaceLemmas.{stands_cp, stands_ltp}
use Rattle.plan_store_pairs.specs.Gathering.{AddsBetween, AddsLive, AreReached, IsOpenBetween, IsReachedAmong}
use Rattle.plan_store_pairs.specs.Gathering.{IsReachedBy, IsUpToNext, MayPrecede}
use Rattle.plan_store_pairs.specs.LiveRows.{AddsCurrent, AddsRows}
use Rattle.plan_store_pairs.specs.Spans.{ArrivesBetween}
use Rattle.plan_store_pairs.specs.declared.gathering.Reached.{Reached}
use Rattle.plan_store_pairs.proofs.ListLemmas.{none}

-- the rows of a window's list are of one application
pub one_app : {X : Type 0} (row_of : X → Row) (set : ℕ → Option X) (app : List ℕ) (xs : List X)
    → ListsSet row_of set (λ x. (row_of x).key.app ≡ app) xs → HaveOneApp row_of xs
one_app row_of set app xs lists x y at_x at_y = ((lists.exactly x).0 at_x).1 ∙ sym ((lists.exactly y).0 at_y).1

-- the list has the rows of a set that are of the application and arrive in the stretch
abbrev pub HasBetween : {X : Type 0} → (X → Row) → (ℕ → Option X) → List ℕ → ℕ → Option ℕ → List X → Type 0
HasBetween {X} row_of set app first last xs =
    (x : X) → Contains xs x ↔ ((set (row_of x).serial ≡ Some x) × ArrivesBetween app first last (row_of x))

pub has_between : {X : Type 0} (row_of : X → Row) (set : ℕ → Option X) (app : List ℕ) (first : ℕ) (last : Option ℕ)
    (xs part : List X) → ListsSet row_of set (λ x. (row_of x).key.app ≡ app) xs
    → ((x : X) → Contains part x
    ↔ (Contains xs x × (first ≤ (row_of x).key.ia) × IsWithin last (row_of x).key.ia))
    → HasBetween row_of set app first last part
has_between row_of set app first last xs part lists is x = (
  (λ there.
      let at = (is x).0 there in
      let stands = (lists.exactly x).0 at.0 in
      (stands.0, record { of_app = stands.1; begun = at.1; within = at.2 })),
  λ both. (is x).1 ((lists.exactly x).1 (both.0, both.1.of_app), both.1.begun, both.1.within),
)

-- the live rows of an application in a stretch
module _ (s : Sets) (numbered : AreNumbered s) (app : List ℕ) (first : ℕ) (last : Option ℕ) (planned : List Row)
    (current : List CurrentRow) (in_ltp : HasBetween of_row s.ltp app first last planned)
    (in_cp : HasBetween of_current s.cp app first last current)
    (old between new : List PlacedRow) (to_ltp : AddsRows planned LongTerm old between)
    (to_cp : AddsCurrent current between new) where
  between_adds : AddsLive s old new
  between_adds = record {
    stay = λ p there. (to_cp p).1 (inl ((to_ltp p).1 (inl there)));
    come = λ p there. elim ((to_cp p).0 there) [
      | inr now ↦
          let x : CurrentRow = record { row = p.row; status = now.status } in
          let at = stands_cp s numbered p.row.serial x ((in_cp x).0 now.listed).0 in
          inr (at ∙ ap (alone p.row) (sym now.placed), subst IsLive (sym now.placed) now.stays)
      | inl so_far ↦ elim ((to_ltp p).0 so_far) [
        | inl before ↦ inl before
        | inr planned' ↦
            let at = stands_ltp s numbered p.row.serial p.row ((in_ltp p.row).0 planned'.0).0 in
            inr (at ∙ ap (alone p.row) (sym planned'.1), subst IsLive (sym planned'.1) tt)
      ]
    ];
  }

  pub between_only : AddsBetween s app first last old new
  between_only = record {
    adds = between_adds;
    only = λ p there. elim ((to_cp p).0 there) [
      | inr now ↦ inr ((in_cp (record { row = p.row; status = now.status })).0 now.listed).1
      | inl so_far ↦ elim ((to_ltp p).0 so_far) [
        | inl before ↦ inl before
        | inr planned' ↦ inr ((in_ltp p.row).0 planned'.0).1
      ]
    ];
  }

  held : (row : Row) (place : Place) → IsOnlyAt s row.serial (record { row = row; place = place }) → IsOpen place
      → ArrivesBetween app first last row → Contains new (record { row = row; place = place })
  held row LongTerm stands waits arrives =
      let p : PlacedRow = record { row = row; place = LongTerm } in
      let listed = (in_ltp row).1 (ap (λ (x : Seat). x.ltp) stands, arrives) in
      (to_cp p).1 (inl ((to_ltp p).1 (inr (listed, refl))))
  held row (Current status) stands waits arrives =
      let p : PlacedRow = record { row = row; place = Current status } in
      let x : CurrentRow = record { row = row; status = status } in
      let listed = (in_cp x).1 (ap (λ (y : Seat). y.cp) stands, arrives) in
      (to_cp p).1 (inr (record {
        status = status;
        listed = listed;
        placed = refl;
        stays = λ deleted. let no : W ≡ D = sym waits ∙ deleted in cc;
      }))
  held row History stands waits arrives = absurd waits
  held row (Deleted reason) stands waits arrives = absurd waits

  pub between_holds : (p : PlacedRow) → IsOpenBetween s app first last p → Contains new p
  between_holds p is = held p.row p.place is.stands is.waits is.arrives

module _ (c : Content) where
  -- a link of the application's list
  pub lists_link : (app : List ℕ) (list : List Link)
      → ((link : Link) → Contains list link ↔ (Contains c.in_force link × (link.app ≡ app))) → (link : Link)
      → Contains list link → Lists c.in_force app link.predecessor
  lists_link app list is link there =
      let (listed, of_app) = (is link).0 there in (
        link.within,
        subst (Contains c.in_force)
            (λ i. record { app = of_app i; predecessor = link.predecessor; within = link.within }) listed,
      )

-- a live occurrence of the plans lives
pub planned_live : (s : Sets) → AreNumbered s → (app : List ℕ) (ia : ℕ) → IsPlannedAt s app ia
    → (n : Arrival) × LiveAt s n × (n.app ≡ app) × (n.ia ≡ ia)
planned_live s numbered app ia (inl (serial, row, at, of_app, is)) = (
  arrival_of row,
  (serial, record { row = row; place = LongTerm }, stands_ltp s numbered serial row at, tt, refl),
  of_app,
  is,
)
planned_live s numbered app ia (inr (serial, current, at, live, of_app, is)) = (
  arrival_of current.row,
  (
    serial,
    record { row = current.row; place = Current current.status },
    stands_cp s numbered serial current at,
    live,
    refl,
  ),
  of_app,
  is,
)

-- what arrives up to the next live one arrives up to the next one of the plans
pub within_next : (s : Sets) → AreNumbered s → (row : Row) (last : Option ℕ)
    → IsNextPlanned s row.key.app row.key.ia last → (ia : ℕ) → IsUpToNext s row ia → IsWithin last ia
within_next s numbered row None is ia up_to = tt
within_next s numbered row (Some next) (planned, later, least) ia up_to =
    let (n, live, of_app, at) = planned_live s numbered row.key.app next planned in
    let upto = up_to n live of_app (omega arith) in
    omega arith

-- the occurrence is reached by the link
abbrev pub IsReachedThere : Sets → Row → Option ℕ → Naming → Reached → Type 0
IsReachedThere s row last naming x = IsReachedBy s row last naming.link x

-- all links that name the row's application
module _ (c : Content) (numbered : AreNumbered c.sets) (row : Row) (last : Option ℕ)
    (next : IsNextPlanned c.sets row.key.app row.key.ia last) (once : AreNamedOnce c.in_force) where
  pub by_links : (namings : List Naming)
      → ((naming : Naming) → Contains namings naming
      ↔ (Contains c.in_force naming.link × (naming.link.predecessor ≡ row.key.app)))
      → (found : List Reached)
      → ((x : Reached) → Contains found x
      ↔ ((naming : Naming) × Contains namings naming × IsReachedThere c.sets row last naming x))
      → AreReached c row found
  by_links namings are_namings found are = record {
    once = once;
    only = λ x there.
        let (naming, at, is) = (are x).0 there in
        let (listed, of_row) = (are_namings naming).0 at in
        let whole : naming.link ≡ record { app = x.placed.row.key.app; predecessor = row.key.app; within = x.within } =
        λ i. record { app = sym is.of_app i; predecessor = of_row i; within = sym is.limit i } in
        record { stands = is.stands; waits = is.waits; listed = subst (Contains c.in_force) whole listed; may = is.may };
    all = λ x is up_to.
        let link : Link = record { app = x.placed.row.key.app; predecessor = row.key.app; within = x.within } in
        let naming : Naming = record { link = link } in
        (are x).1 (
          naming,
          (are_namings naming).1 (is.listed, refl),
          record {
            stands = is.stands;
            waits = is.waits;
            of_app = refl;
            limit = refl;
            may = is.may;
            by_last = within_next c.sets numbered row last next x.placed.row.key.ia up_to;
          },
        );
  }

-- the open ones of the rows of a link that the row may precede
pub by_rows : (s : Sets) (row : Row) (last : Option ℕ) (link : Link) (rows : List PlacedRow)
    → AddsBetween s link.app row.key.ia last [] rows
    → ((p : PlacedRow) → IsOpenBetween s link.app row.key.ia last p → Contains rows p) → (x : Reached)
    → ((p : PlacedRow) × Contains rows p × IsReachedAmong row link.within p x) ↔ IsReachedBy s row last link x
by_rows s row last link rows adds holds x = (forward, backward)
  where
    forward : (p : PlacedRow) × Contains rows p × IsReachedAmong row link.within p x → IsReachedBy s row last link x
    forward (p, there, (same, waits, may)) =
        let arrives : ArrivesBetween link.app row.key.ia last p.row = elim (adds.only p there) [
          | inl before ↦ absurd (none p before)
          | inr is ↦ is
        ] in
        let stands : IsOnlyAt s p.row.serial p = elim (adds.adds.come p there) [
          | inl before ↦ absurd (none p before)
          | inr live ↦ live.0
        ] in
        let at : IsReachedBy s row last link (record { placed = p; within = link.within }) = record {
          stands = stands;
          waits = waits;
          of_app = arrives.of_app;
          limit = refl;
          may = subst (MayPrecede row) same may;
          by_last = arrives.within;
        } in
        subst (IsReachedBy s row last link) (sym same) at

    backward : IsReachedBy s row last link x → (p : PlacedRow) × Contains rows p × IsReachedAmong row link.within p x
    backward is =
        let there = holds x.placed (record {
          stands = is.stands;
          waits = is.waits;
          arrives = record { of_app = is.of_app; begun = is.may.in_time; within = is.by_last };
        }) in
        (x.placed, there, (λ i. record { placed = x.placed; within = is.limit i }, is.waits, is.may))
