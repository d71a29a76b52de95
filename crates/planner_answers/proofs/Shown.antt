-- Statements that show something: days and lists.
use Rattle.std.proofs.Common.{◌≡◌, ℕ, ◌+◌, ◌≤◌, List, length, refl, sym, ap}
use Rattle.std.proofs.Common.{subst, ◌∙◌, inl, inr, arith, Option, None, Some, Less}
use Rattle.std.specs.List.{Contains}
use Rattle.work_calendars.specs.Day.{last_planning_day}
use Rattle.run_cycles.specs.Occurrence.{IsEarlier, IsOccurrenceBetween}
use Rattle.run_cycles.specs.declared.named.Named.{Named}
use Rattle.app_definition_records.specs.declared.applications.Application.{Application}
use Rattle.app_occurrences.specs.Active.{IsActive, cycles_of}
use Rattle.app_occurrences.specs.NamedOccurrences.{work_of}
use Rattle.occurrences.specs.Row.{RowBefore}
use Rattle.occurrences.specs.declared.place.Place.{Place}
use Rattle.occurrences.specs.declared.place.Place.TheVariants.{LongTerm, Current, History, Deleted}
use Rattle.occurrences.specs.declared.reply.Reply.TheVariants.{Rows}
use Rattle.occurrences.specs.declared.row.Row.{Row}
use Rattle.occurrences.proofs.RowLemmas.{row_strict}
use Rattle.external_dependencies.specs.Link.{AreNamedOnce, link_cmp}
use Rattle.external_dependencies.specs.declared.pairs.Pair.{Pair}
use Rattle.external_dependencies.specs.declared.rows.PlacedRow.{PlacedRow}
use Rattle.planner_machine.specs.declared.limits.TheConstants.{LONGEST_WINDOW}
use Rattle.planner_machine.specs.Content.{Content, IsOnlyAt, seat}
use Rattle.planner_machine.specs.Days.{DaysRefused, ListsDays, days}
use Rattle.planner_machine.specs.Drafts.{IsNamed}
use Rattle.planner_machine.specs.Shown.{CurrentPlan, InDeletions, InHistory, IsLinked, IsListed, IsOfApp}
use Rattle.planner_machine.specs.Shown.{IsPlaceOf, LinkedBefore, LinkedRows, Listed}
use Rattle.planner_machine.specs.Shown.{LongTermPlan, list_links, list_pairs, list_rows}
use Rattle.planner_machine.specs.Sound.{IsSound}
use Rattle.planner_machine.proofs.SeatLemmas.{one_place}
use Rattle.planner_answers.proofs.Finite.{Decided, Finite, decided_both, decided_either, decided_le, decided_lt, decided_not}
use Rattle.planner_answers.proofs.Finite.{decided_so, finite_if, finite_list, finite_made, finite_over}
use Rattle.planner_answers.proofs.Finite.{finite_so}
use Rattle.planner_answers.proofs.Ordered.{Ranked, listing}
use Rattle.planner_answers.proofs.Orders.{link_ranked, link_total, row_cases}
use Rattle.planner_answers.proofs.Equal.{decided_name}
use Rattle.planner_answers.proofs.Cycles.{finite_occurrences}
use Rattle.planner_answers.proofs.Names.{decided_no_calendar, decided_no_period, decided_planned, finite_active, one_named}
use Rattle.planner_answers.proofs.Rows.{finite_rows, finite_stands, sound_ends}
use Rattle.planner_answers.proofs.Decisions.{AreDecided, IsAnswered, answered}

decided_of_app : (only : Option (List ℕ)) (app : List ℕ) → Decided (IsOfApp only app)
decided_of_app None app = inl tt
decided_of_app (Some only) app = decided_name app only

-- nothing is refused
pub nothing_refused : AreDecided (λ r. ⊥)
nothing_refused = record {
  not_a_statement = inr (λ h. h);
  faulty_data = inr (λ h. h.1);
  another_text = inr (λ h. h);
  not_defined = inr (λ h. h);
  no_plan = inr (λ h. h);
  plan_exists = inr (λ h. h);
  calendar = inr (λ h. h.1);
  period = inr (λ h. h.1);
  dates = inr (λ h. h);
  loop = inr (λ h. h.1);
  no_application = inr (λ h. h);
  key_is_live = inr (λ h. h);
  no_occurrence = inr (λ h. h);
  status = inr (λ h. h);
  predecessor = inr (λ h. h.1);
  too_many = inr (λ h. h);
  plan_end = inr (λ h. h);
}

-- `days`

earlier_on : (x y z : Named) → IsEarlier x y → IsEarlier y z → IsEarlier x z
earlier_on x y z (inl a) (inl b) = inl (omega (arith, a, b))
earlier_on x y z (inl a) (inr b) = inl (let e = b.0 in omega (arith, a, e))
earlier_on x y z (inr a) (inl b) = inl (let e = a.0 in omega (arith, e, b))
earlier_on x y z (inr a) (inr b) = inr (a.0 ∙ b.0, (let e = a.1 in let f = b.1 in omega (arith, e, f)))

earlier_ranked : (x y : Named) → (x.day ≡ y.day → x.time ≡ y.time → x ≡ y) → Ranked IsEarlier x y
earlier_ranked x y same = elim (decided_lt x.day y.day) [
  | inl less ↦ inl (inl less)
  | inr not_less ↦ elim (decided_lt y.day x.day) [
    | inl more ↦ inr (inr (inl more))
    | inr not_more ↦ elim (decided_lt x.time y.time) [
      | inl less ↦ inl (inr (omega arith, less))
      | inr not_earlier ↦ elim (decided_lt y.time x.time) [
        | inl more ↦ inr (inr (inr (omega arith, more)))
        | inr not_later ↦ inr (inl (same (omega arith) (omega arith)))
      ]
    ]
  ]
]

module _ (app : List ℕ) (from to : ℕ) (c : Content) (sound : IsSound c) where
  abbrev IsShown : Named → Type 0
  IsShown x = IsNamed c.definitions app x × (from ≤ x.day) × (x.day ≤ to)

  finite_shown : Finite IsShown
  finite_shown =
      finite_so forward
      (λ x ((a, active, is), above, below). ((app, a), (active, refl), (above, below, is)))
      (finite_over
      (λ (e : List ℕ × Application). IsOccurrenceBetween
      (cycles_of c.definitions app) c.definitions.periods (work_of c.definitions e.1) from to)
      (finite_if (finite_active c.definitions) (λ e active. decided_name e.0 app))
      (λ e active. finite_occurrences c.definitions.periods (work_of c.definitions e.1) (cycles_of c.definitions app)
      from to))
    where
      forward : (x : Named)
          → ((e : List ℕ × Application) × (IsActive c.definitions e.0 e.1 × (e.0 ≡ app))
          × IsOccurrenceBetween (cycles_of c.definitions app) c.definitions.periods (work_of c.definitions e.1) from to x)
          → IsShown x
      forward x (e, (active, same), between) =
          ((e.1, subst (λ n. IsActive c.definitions n e.1) same active, between.2), between.0, between.1)

  shown : (list : List Named) × ListsDays c.definitions app from to list
  shown =
      let list = listing IsEarlier earlier_on finite_shown
      (λ x y h k. earlier_ranked x y (one_named c.definitions sound.ranges.definitions app x y h.0 k.0)) in
      (list.list, record { exactly = list.exactly; in_order = list.rising })

  days_decided : AreDecided (DaysRefused app from to c)
  days_decided = record {
    not_a_statement = inr (λ h. h);
    faulty_data = inr (λ h. h.1);
    another_text = inr (λ h. h);
    not_defined = inr (λ h. h);
    no_plan = inr (λ h. h);
    plan_exists = inr (λ h. h);
    calendar = decided_so (λ h. (app, (refl, h))) (λ (least, both). both.1) (decided_no_calendar c.definitions app);
    period = decided_so (λ h. (app, (refl, h))) (λ (least, both). both.1) (decided_no_period c.definitions app);
    dates = decided_either (decided_lt to from)
        (decided_either (decided_lt last_planning_day to) (decided_le (from + LONGEST_WINDOW) to));
    loop = inr (λ h. h.1);
    no_application = decided_not (decided_planned c.definitions app);
    key_is_live = inr (λ h. h);
    no_occurrence = inr (λ h. h);
    status = inr (λ h. h);
    predecessor = inr (λ h. h.1);
    too_many = inr (λ h. h);
    plan_end = inr (λ h. h);
  }

  pub days_answered : IsAnswered (days app from to) c
  days_answered = answered (days app from to) c days_decided
      (λ none. (Rows (length shown.0), c, (refl, (shown.0, shown.1, refl))))

-- `list` of a set

decided_place_of : (listed : Listed) (place : Place) → Decided (IsPlaceOf listed place)
decided_place_of LongTermPlan LongTerm = inl tt
decided_place_of CurrentPlan (Current status) = inl tt
decided_place_of InHistory History = inl tt
decided_place_of InDeletions (Deleted reason) = inl tt
decided_place_of listed place = inr (λ h. h)

module _ (app : Option (List ℕ)) (c : Content) (sound : IsSound c) where
  -- of one serial there is one row
  one_row : (m n : ℕ) (p q : PlacedRow) → IsOnlyAt c.sets m p → IsOnlyAt c.sets n q → p.row.serial ≡ q.row.serial → p ≡ q
  one_row m n p q at_p at_q serials =
      let same : n ≡ m = sym (sound.serials.numbered n q at_q) ∙ sym serials ∙ sound.serials.numbered m p at_p in
      one_place c.sets m p q at_p (subst (λ k. IsOnlyAt c.sets k q) same at_q)

  module _ (listed : Listed) where
    finite_listed : Finite (IsListed listed app c.sets)
    finite_listed =
        finite_so to
        (λ p (serial, stands, both, of_app). ((serial, p), (stands, (both, of_app)), refl))
        (finite_made (λ (e : ℕ × PlacedRow). e.1)
        (finite_if (finite_rows c.sets c.sets.issued (sound_ends c sound))
        (λ e stands. decided_both (decided_place_of listed e.1.place) (decided_of_app app e.1.row.key.app))))
      where
        to : (p : PlacedRow)
            → ((e : ℕ × PlacedRow)
            × (IsOnlyAt c.sets e.0 e.1 × (IsPlaceOf listed e.1.place × IsOfApp app e.1.row.key.app)) × (e.1 ≡ p))
            → IsListed listed app c.sets p
        to p (e, (stands, both), same) = subst (IsListed listed app c.sets) same (e.0, stands, both.0, both.1)

    rows_ranked : (p q : PlacedRow) → IsListed listed app c.sets p → IsListed listed app c.sets q
        → Ranked (λ (x : PlacedRow) (y : PlacedRow). RowBefore x.row y.row) p q
    rows_ranked p q (m, at_p, place_p, app_p) (n, at_q, place_q, app_q) = elim (row_cases p.row q.row) [
      | inl before ↦ inl before
      | inr (inl same) ↦ inr (inl (one_row m n p q at_p at_q same.1))
      | inr (inr after) ↦ inr (inr after)
    ]

    pub rows_answered : IsAnswered (list_rows listed app) c
    rows_answered =
        let list = listing (λ (x : PlacedRow) (y : PlacedRow). RowBefore x.row y.row)
        (λ x y z. row_strict.transitive x.row y.row z.row) finite_listed rows_ranked in
        answered (list_rows listed app) c nothing_refused
        (λ none. (
          Rows (length list.list),
          c,
          (
            refl,
            (
              list.list,
              record {
                rising = list.rising;
                exactly = list.exactly;
              },
              refl,
            ),
          ),
        ))

  -- `list` of the dependencies

  abbrev RowAt : ℕ → Row → Type 0
  RowAt serial row = (place : Place) × IsOnlyAt c.sets serial (record { row = row; place = place })

  finite_row_at : (serial : ℕ) → Finite (RowAt serial)
  finite_row_at serial =
      finite_so to (λ row (place, stands). (record { row = row; place = place }, stands, refl))
      (finite_made (λ (p : PlacedRow). p.row) (finite_stands (seat c.sets serial)))
    where
      to : (row : Row) → ((p : PlacedRow) × IsOnlyAt c.sets serial p × (p.row ≡ row)) → RowAt serial row
      to row (p, stands, same) = subst (RowAt serial) same (p.place, stands)

  abbrev linked_rows : Row → Row → LinkedRows
  linked_rows x y = record { successor = x; predecessor = y }

  finite_linked : Finite (IsLinked app c)
  finite_linked =
      finite_so to
      (λ l (pair, there, first, second, of_app). ((pair, there, (l.successor, first, (l.predecessor, second, refl))), of_app))
      (finite_if
      (finite_over
      (λ (pair : Pair) (l : LinkedRows). (x : Row) × RowAt pair.successor x
      × ((y : Row) × RowAt pair.predecessor y × (linked_rows x y ≡ l)))
      (finite_list c.pairs)
      (λ pair there. finite_over (λ (x : Row) (l : LinkedRows). (y : Row) × RowAt pair.predecessor y × (linked_rows x y ≡ l))
      (finite_row_at pair.successor)
      (λ x at. finite_made (linked_rows x) (finite_row_at pair.predecessor))))
      (λ l there. decided_of_app app l.successor.key.app))
    where
      to : (l : LinkedRows)
          → ((pair : Pair) × Contains c.pairs pair × ((x : Row) × RowAt pair.successor x
          × ((y : Row) × RowAt pair.predecessor y × (linked_rows x y ≡ l)))) × IsOfApp app l.successor.key.app
          → IsLinked app c l
      to l ((pair, there, (x, at_x, (y, at_y, same))), of_app) = (
        pair,
        there,
        subst (RowAt pair.successor) (ap (λ (k : LinkedRows). k.successor) same) at_x,
        subst (RowAt pair.predecessor) (ap (λ (k : LinkedRows). k.predecessor) same) at_y,
        of_app,
      )

  linked_on : (k l m : LinkedRows) → LinkedBefore k l → LinkedBefore l m → LinkedBefore k m
  linked_on k l m (inl a) (inl b) = inl (omega (arith, a, b))
  linked_on k l m (inl a) (inr b) = inl (let e = b.0 in omega (arith, a, e))
  linked_on k l m (inr a) (inl b) = inl (let e = a.0 in omega (arith, e, b))
  linked_on k l m (inr a) (inr b) = inr (a.0 ∙ b.0, (let e = a.1 in let f = b.1 in omega (arith, e, f)))

  rows_alike : (m n : ℕ) (x y : Row) → RowAt m x → RowAt n y → x.serial ≡ y.serial → x ≡ y
  rows_alike m n x y (place, at_x) (place', at_y) same =
      ap (λ (p : PlacedRow). p.row)
      (one_row m n (record { row = x; place = place }) (record { row = y; place = place' }) at_x at_y same)

  linked_ranked : (k l : LinkedRows) → IsLinked app c k → IsLinked app c l → Ranked LinkedBefore k l
  linked_ranked k l (pair, there, first, second, of_app) (pair', there', first', second', of_app') =
      elim (decided_lt k.successor.serial l.successor.serial) [
        | inl less ↦ inl (inl less)
        | inr not_less ↦ elim (decided_lt l.successor.serial k.successor.serial) [
          | inl more ↦ inr (inr (inl more))
          | inr not_more ↦ elim (decided_lt k.predecessor.serial l.predecessor.serial) [
            | inl less ↦ inl (inr (omega arith, less))
            | inr not_lower ↦ elim (decided_lt l.predecessor.serial k.predecessor.serial) [
              | inl more ↦ inr (inr (inr (omega arith, more)))
              | inr not_higher ↦ inr (inl (same (omega arith) (omega arith)))
            ]
          ]
        ]
      ]
    where
      same : k.successor.serial ≡ l.successor.serial → k.predecessor.serial ≡ l.predecessor.serial → k ≡ l
      same one two =
          let successors = rows_alike pair.successor pair'.successor k.successor l.successor first first' one in
          let predecessors = rows_alike pair.predecessor pair'.predecessor k.predecessor l.predecessor second second' two in
          λ i. record { successor = successors i; predecessor = predecessors i }

  pub pairs_answered : IsAnswered (list_pairs app) c
  pairs_answered =
      let list = listing LinkedBefore linked_on finite_linked linked_ranked in
      answered (list_pairs app) c nothing_refused
      (λ none. (
        Rows (length list.list),
        c,
        (
          refl,
          (
            list.list,
            record {
              rising = list.rising;
              exactly = list.exactly;
            },
            refl,
          ),
        ),
      ))

  -- `list` of the lists in force

  pub links_answered : AreNamedOnce c.in_force → IsAnswered (list_links app) c
  links_answered once =
      let list = listing (λ x y. link_cmp x y ≡ Less) (λ x y z. link_total.trans x y z)
      (finite_if (finite_list c.in_force) (λ link there. decided_of_app app link.app))
      (λ x y h k. link_ranked x y (once x y h.0 k.0)) in
      answered (list_links app) c nothing_refused
      (λ none. (
        Rows (length list.list),
        c,
        (
          refl,
          (
            list.list,
            record {
              rising = list.rising;
              exactly = list.exactly;
            },
            refl,
          ),
        ),
      ))
