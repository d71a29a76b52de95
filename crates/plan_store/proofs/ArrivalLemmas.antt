-- The greatest of some arrivals.
use Rattle.std.proofs.Common.{true, false, ◌≡◌, ◌≢◌, ◌↔◌, ℕ, ◌+◌, ◌<◌, ◌≤◌, ◌⊎◌, List, length, get_or, refl, sym, ap}
use Rattle.std.proofs.Common.{subst, ◌∙◌, inl, inr, arith, Some, None, Option, Ordering}
use Rattle.std.specs.Prelude.{nat_eq, if◌then◌else◌}
use Rattle.std.specs.declared.cmp.Ordering.TheVariants.{Less, Equal, Greater}
use Rattle.std.specs.List.{Contains}
use Rattle.std.specs.Cmp.Lexicographic.{bytes_decides, pointwise, slice_cmp}
use Rattle.std.specs.Ordering.{is_lt, nat_cmp, ordering_reverse, ordering_then}
use Rattle.std.proofs.lemmas.Bool.{cases_lt, cases_order, false≢true}
use Rattle.std.proofs.lemmas.Cmp.{nat_cmp_total, nat_list_cmp_total, ranked, tied_itself}
use Rattle.std.proofs.lemmas.List.{get_or_default}
use Rattle.occurrences.specs.Place.{IsLive}
use Rattle.occurrences.specs.declared.key.Key.{Key}
use Rattle.occurrences.specs.declared.place.CurrentRow.{CurrentRow}
use Rattle.occurrences.specs.declared.place.Place.{Place}
use Rattle.occurrences.specs.declared.place.Place.TheVariants.{LongTerm, Current, History, Deleted}
use Rattle.occurrences.specs.declared.row.Row.{Row}
use Rattle.occurrences.specs.declared.status.Status.TheVariants.{D}
use Rattle.external_dependencies.specs.Arrival.{arrival_cmp}
use Rattle.external_dependencies.specs.Nearest.{IsCandidate, IsNearest, IsNearestAnswer, arrival_of}
use Rattle.external_dependencies.specs.declared.live.Arrival.{Arrival}
use Rattle.planner_machine.specs.Content.{Seat, Sets, alone, seat}
use Rattle.planner_machine.specs.Pairs.{LiveAt}
use Rattle.planner_machine.specs.Sound.{AreNumbered}
use Rattle.plan_store_lists.specs.Keyed.{IsKeyed}
use Rattle.plan_store_lists.specs.Rows.{AreRows, look_up, of_current, of_row}
use Rattle.external_dependencies.proofs.NearestLemmas.{answer_none, arrival_ties}
use Rattle.plan_store.specs.Arrivals.{IsGreatestOf, arrives, arrives_live, later_of}
use Rattle.plan_store.specs.HistoryReads.{HasLast, IsNoLater}
use Rattle.plan_store.specs.Slices.{HaveOneApp}
use Rattle.plan_store.specs.Views.{IsLastBefore}
use Rattle.plan_store_lists.proofs.LookLemmas.{look_has, look_some}
use Rattle.plan_store.proofs.OrderLemmas.{arrival_total}
use Rattle.plan_store.proofs.PlaceLemmas.{stands_cp, stands_history, stands_ltp}

less_greater : (o : Ordering) → o ≡ Less → o ≡ Greater → ⊥
less_greater o l g = cc

equal_greater : (o : Ordering) → o ≡ Equal → o ≡ Greater → ⊥
equal_greater o l g = cc

turned : (a b : Arrival) → arrival_cmp a b ≡ Greater → arrival_cmp b a ≡ Less
turned a b is = arrival_total.antisymm b a ∙ ap ordering_reverse is

turned_back : (a b : Arrival) → arrival_cmp a b ≡ Less → arrival_cmp b a ≡ Greater
turned_back a b is = arrival_total.antisymm b a ∙ ap ordering_reverse is

-- below what is below is below
under : (x a b : Arrival) → arrival_cmp x a ≢ Greater → arrival_cmp a b ≡ Less → arrival_cmp x b ≢ Greater
under x a b not_above less above = not_above (turned_back a x (arrival_total.trans a b x less (turned x b above)))

-- of two greatest the later is the greatest of both
pub greatest_later : (P Q : Arrival → Type 0) (first second : Option Arrival) → IsGreatestOf P first
    → IsGreatestOf Q second → IsGreatestOf (λ x. P x ⊎ Q x) (later_of first second)
greatest_later P Q None None p q = λ x either. elim either [ inl one ↦ p x one | inr two ↦ q x two ]
greatest_later P Q None (Some b) p q =
    (inr q.0, λ x either. elim either [ inl one ↦ absurd (p x one) | inr two ↦ q.1 x two ])
greatest_later P Q (Some a) None p q =
    (inl p.0, λ x either. elim either [ inl one ↦ p.1 x one | inr two ↦ absurd (q x two) ])
greatest_later P Q (Some a) (Some b) p q = elim (arrival_cmp a b) as (λ o. arrival_cmp a b ≡ o
    → IsGreatestOf (λ x. P x ⊎ Q x) (if is_lt o then Some b else Some a)) [
      | Less ↦ λ is. (inr q.0, λ x either. elim either [ inl one ↦ under x a b (p.1 x one) is | inr two ↦ q.1 x two ])
      | Equal ↦ λ is. (
        inl p.0,
        λ x either. elim either [
          | inl one ↦ p.1 x one
          | inr two ↦
              subst (λ y. arrival_cmp x y ≢ Greater) (sym (arrival_ties a b is)) (q.1 x two)
        ],
      )
      | Greater ↦ λ is. (
        inl p.0,
        λ x either. elim either [
          | inl one ↦ p.1 x one
          | inr two ↦ under x b a (q.1 x two)
              (turned a b is)
        ],
      )
    ] refl

-- what stands no later in a list in rising order does not arrive later
pub not_later : {X : Type 0} (row_of : X → Row) (xs : List X) → IsKeyed arrival_cmp (λ x. arrival_of (row_of x)) xs
    → (i : ℕ) (d x : X) (k : ℕ) → k ≤ i → i < length xs → get_or xs k x ≡ x → arrival_cmp (arrival_of (row_of x))
    (arrival_of (row_of (get_or xs i d))) ≢ Greater
not_later row_of xs keyed i d x k le lt at above =
    let last : get_or xs i x ≡ get_or xs i d = get_or_default xs i x d lt in
    let here = subst (λ y. arrival_cmp (arrival_of (row_of x)) (arrival_of (row_of y)) ≡ Greater) (sym last) above in
    elim (cases_order k i) [
      | inl same ↦
          let is : x ≡ get_or xs i x = sym at ∙ ap (λ n. get_or xs n x) same in
          equal_greater (arrival_cmp (arrival_of (row_of x)) (arrival_of (row_of (get_or xs i x))))
          (subst (λ y. arrival_cmp (arrival_of (row_of x)) (arrival_of (row_of y)) ≡ Equal) is
          (tied_itself arrival_total (arrival_of (row_of x)))) here
      | inr (inl below) ↦
          let less = subst (λ y. arrival_cmp (arrival_of (row_of y)) (arrival_of (row_of (get_or xs i x))) ≡ Less) at
          (keyed k i x below lt) in
          less_greater (arrival_cmp (arrival_of (row_of x)) (arrival_of (row_of (get_or xs i x)))) less here
      | inr (inr past) ↦ absurd (omega arith)
    ]

-- the last row arrives last
pub last_greatest : (rows : List Row) → IsKeyed arrival_cmp arrival_of rows → (i : ℕ) (row : Row) (a : Arrival) → i + 1
    ≡ length rows → row ≡ get_or rows i row → a ≡ arrival_of row → IsGreatestOf (arrives rows) (Some a)
last_greatest rows keyed i row a end at is = (
  (row, (i, omega arith, sym at), sym is),
  λ b (x, (k, lt, at_x), same) above.
      let here : arrival_cmp (arrival_of x) (arrival_of row) ≡ Greater =
      subst (λ y. arrival_cmp (arrival_of x) y ≡ Greater) is (subst (λ y. arrival_cmp y a ≡ Greater) (sym same)
      above) in
      not_later of_row rows keyed i row x k (omega arith) (omega arith) at_x
      (subst (λ y. arrival_cmp (arrival_of x) (arrival_of y) ≡ Greater) at here),
)

-- the last row that is not deleted arrives last of those that aren't
pub live_greatest : (rows : List CurrentRow) → IsKeyed arrival_cmp (λ (x : CurrentRow). arrival_of x.row) rows
    → (i : ℕ) (current : CurrentRow) (a : Arrival) → i < length rows → current ≡ get_or rows i current
    → current.status ≢ D → ((k : ℕ) (d : CurrentRow) → i + 1 ≤ k → k < length rows → (get_or rows k d).status ≡ D) → a
    ≡ arrival_of current.row → IsGreatestOf (arrives_live rows) (Some a)
live_greatest rows keyed i current a in_range at live deleted is = (
  (current, (i, in_range, sym at), live, sym is),
  λ b (x, (k, lt, at_x), not_deleted, same) above.
      let here : arrival_cmp (arrival_of x.row) (arrival_of current.row) ≡ Greater =
      subst (λ y. arrival_cmp (arrival_of x.row) y ≡ Greater) is (subst (λ y. arrival_cmp y a ≡ Greater) (sym same)
      above) in
      elim (cases_lt i k) [
        | inl past ↦ not_deleted (ap (λ (y : CurrentRow). y.status) (sym at_x) ∙ deleted k x (omega arith) lt)
        | inr low ↦ not_later of_current rows keyed i current x k low in_range at_x
            (subst (λ (y : CurrentRow). arrival_cmp (arrival_of x.row) (arrival_of y.row) ≡ Greater) at here)
      ],
)

-- of one application, what does not arrive later
module _ (b a : Arrival) (one : b.app ≡ a.app) (not_above : arrival_cmp b a ≢ Greater) where
  apps_tie : slice_cmp nat_cmp b.app a.app ≡ Equal
  apps_tie = subst (λ y. slice_cmp nat_cmp b.app y ≡ Equal) one (tied_itself nat_list_cmp_total b.app)

  rest_not_above : ordering_then (nat_cmp b.ia a.ia) (nat_cmp b.serial a.serial) ≢ Greater
  rest_not_above above = not_above
      (ap (λ o. ordering_then o (ordering_then (nat_cmp b.ia a.ia) (nat_cmp b.serial a.serial))) apps_tie ∙ above)

  pub ia_below : b.ia ≤ a.ia
  ia_below = elim (nat_cmp b.ia a.ia) as (λ o. nat_cmp b.ia a.ia ≡ o → b.ia ≤ a.ia) [
    | Less ↦ λ e. let lt : b.ia < a.ia = ranked b.ia a.ia Less (sym e) in omega arith
    | Equal ↦ λ e. let is : b.ia ≡ a.ia = ranked b.ia a.ia Equal (sym e) in omega arith
    | Greater ↦ λ e. absurd (rest_not_above (ap (λ o. ordering_then o (nat_cmp b.serial a.serial)) e))
  ] refl

  pub serial_below : b.ia ≡ a.ia → b.serial ≤ a.serial
  serial_below same = elim (nat_cmp b.serial a.serial) as (λ o. nat_cmp b.serial a.serial ≡ o → b.serial ≤ a.serial) [
    | Less ↦ λ e. let lt : b.serial < a.serial = ranked b.serial a.serial Less (sym e) in omega arith
    | Equal ↦ λ e. let is : b.serial ≡ a.serial = ranked b.serial a.serial Equal (sym e) in omega arith
    | Greater ↦ λ e.
        let tie : nat_cmp b.ia a.ia ≡ Equal = subst (λ y. nat_cmp b.ia y ≡ Equal) same
        (tied_itself nat_cmp_total b.ia) in
        absurd (rest_not_above (ap (λ o. ordering_then o (nat_cmp b.serial a.serial)) tie ∙ e))
  ] refl

-- the last arrival before a minute, from the parts of three lists: of history those rows that are shown
module _ (s : Sets) (numbered : AreNumbered s) (app : List ℕ) (minute : ℕ)
    (ltp lasts : List Row) (cp : List CurrentRow)
    (ltp_rows : AreRows of_row ltp) (cp_rows : AreRows of_current cp) (last_rows : AreRows of_row lasts)
    (ltp_is : (serial : ℕ) → look_up (λ (row : Row). row.serial) ltp serial ≡ s.ltp serial)
    (cp_is : (serial : ℕ) → look_up (λ (current : CurrentRow). current.row.serial) cp serial ≡ s.cp serial)
    (part : (serial : ℕ) (row : Row) → look_up (λ (row : Row). row.serial) lasts serial ≡ Some row
    → s.history serial ≡ Some row)
    (last : HasLast s.history (look_up (λ (row : Row). row.serial) lasts) app minute)
    (ltp_part history_part : List Row) (cp_part : List CurrentRow)
    (of_ltp : (row : Row) → Contains ltp_part row ↔ (Contains ltp row × (row.key.app ≡ app) × (row.key.ia < minute)))
    (of_cp : (current : CurrentRow) → Contains cp_part current ↔ (Contains cp current × (current.row.key.app ≡ app)
    × (current.row.key.ia < minute)))
    (of_history : (row : Row) → Contains history_part row ↔ (Contains lasts row × (row.key.app ≡ app)
    × (row.key.ia < minute))) where
  abbrev pub Some_of : Arrival → Type 0
  Some_of a = arrives ltp_part a ⊎ (arrives_live cp_part a ⊎ arrives history_part a)

  -- what one of the parts has is live, of the application and in time
  fits : (a : Arrival) → Some_of a → LiveAt s a × (a.app ≡ app) × (a.ia < minute)
  fits a (inl (row, there, is)) =
      let at = (of_ltp row).0 there in (
        (
          row.serial,
          record { row = row; place = LongTerm },
          stands_ltp s numbered row.serial row
              (sym (ltp_is row.serial) ∙ look_has (λ (row : Row). row.serial) ltp ltp_rows.one_each row at.0),
          tt,
          is,
        ),
        ap (λ (b : Arrival). b.app) (sym is) ∙ at.1,
        subst (λ (b : Arrival). b.ia < minute) is at.2,
      )
  fits a (inr (inl (current, there, live, is))) =
      let at = (of_cp current).0 there in (
        (
          current.row.serial,
          record { row = current.row; place = Current current.status },
          stands_cp s numbered
              current.row.serial current (sym (cp_is current.row.serial)
              ∙ look_has (λ (current : CurrentRow). current.row.serial) cp cp_rows.one_each current at.0),
          live,
          is,
        ),
        ap (λ (b : Arrival). b.app) (sym is) ∙ at.1,
        subst (λ (b : Arrival). b.ia < minute) is at.2,
      )
  fits a (inr (inr (row, there, is))) =
      let at = (of_history row).0 there in (
        (
          row.serial,
          record { row = row; place = History },
          stands_history s numbered row.serial row
              (part row.serial row (look_has (λ (row : Row). row.serial) lasts last_rows.one_each row at.0)),
          tt,
          is,
        ),
        ap (λ (b : Arrival). b.app) (sym is) ∙ at.1,
        subst (λ (b : Arrival). b.ia < minute) is at.2,
      )

  -- one of the parts has an arrival that is no earlier
  record IsBehind (a b : Arrival) : Type 0 where
    some : Some_of b
    ia : a.ia ≤ b.ia
    serial : a.ia ≡ b.ia → a.serial ≤ b.serial

  itself : (a : Arrival) → Some_of a → IsBehind a a
  itself a among = record { some = among; ia = omega arith; serial = λ _. omega arith }

  -- so has it for what is live, of the application and in time
  found : (a : Arrival) → LiveAt s a → a.app ≡ app → a.ia < minute → (b : Arrival) × IsBehind a b
  found a (serial, p, stands, live, is) of_app in_time = by_place p.place p.row stands live is
    where
      in_ltp : (row : Row) → s.ltp serial ≡ Some row → arrival_of row ≡ a → (b : Arrival) × IsBehind a b
      in_ltp row at same = (
        a,
        itself a (inl (
          row,
          (of_ltp row).1 (
            (look_some (λ (row : Row). row.serial) ltp serial row (ltp_is serial ∙ at)).0,
            ap (λ (b : Arrival). b.app)
                same ∙ of_app,
            subst (λ (b : Arrival). b.ia < minute) (sym same) in_time,
          ),
          same,
        )),
      )

      in_cp : (current : CurrentRow) → s.cp serial ≡ Some current → current.status ≢ D → arrival_of current.row ≡ a
          → (b : Arrival) × IsBehind a b
      in_cp current at not_deleted same = (
        a,
        itself a (inr (inl (
          current,
          (of_cp current).1 (
            (look_some (λ (current : CurrentRow). current.row.serial) cp serial current (cp_is serial ∙ at)).0,
            ap
                (λ (b : Arrival). b.app) same ∙ of_app,
            subst (λ (b : Arrival). b.ia < minute) (sym same) in_time,
          ),
          not_deleted,
          same,
        ))),
      )

      later : (row r : Row) → arrival_of row ≡ a → row.serial ≡ a.serial → IsNoLater row r → Some_of (arrival_of r)
          → IsBehind a (arrival_of r)
      later row r same serials (inl earlier) among =
          let ia : row.key.ia ≡ a.ia = ap (λ (b : Arrival). b.ia) same in record {
            some = among;
            ia = omega (arith, ia, earlier);
            serial = λ tie. absurd (omega (arith, ia, earlier, tie));
          }
      later row r same serials (inr (tie, le)) among =
          let ia : row.key.ia ≡ a.ia = ap (λ (b : Arrival). b.ia) same in record {
            some = among;
            ia = omega (arith, ia, tie);
            serial = λ _. omega (arith, serials, le);
          }

      in_history : (row : Row) → s.history serial ≡ Some row → arrival_of row ≡ a → (b : Arrival) × IsBehind a b
      in_history row at same =
          let (r, there, of_one, early, no_later) = last serial row at (ap (λ (b : Arrival). b.app) same ∙ of_app)
          (subst (λ (b : Arrival). b.ia < minute) (sym same) in_time) in
          let listed = (look_some (λ (row : Row). row.serial) lasts r.serial r there).0 in (
            arrival_of r,
            later row r same (ap (λ (b : Arrival). b.serial) same) no_later
                (inr (inr (r, (of_history r).1 (listed, of_one, early), refl))),
          )

      by_place : (place : Place) (row : Row) → seat s serial ≡ alone row place → IsLive place → arrival_of row ≡ a
          → (b : Arrival) × IsBehind a b
      by_place LongTerm row stands live same = in_ltp row (ap (λ (x : Seat). x.ltp) stands) same
      by_place (Current status) row stands live same = in_cp (record { row = row; status = status })
          (ap (λ (x : Seat). x.cp) stands) live same
      by_place History row stands live same = in_history row (ap (λ (x : Seat). x.history) stands) same
      by_place (Deleted reason) row stands live same = absurd live

  pub last_is : (answer : Option Arrival) → IsGreatestOf Some_of answer → IsLastBefore s app minute answer
  last_is None none = λ other live of_app. elim (cases_lt other.ia minute) [
    | inl in_time ↦ let (b, behind) = found other live of_app in_time in absurd (none b behind.some)
    | inr late ↦ late
  ]
  last_is (Some near) is =
      let good = fits near is.0 in
      record {
        live = good.0;
        of_app = good.1;
        in_time = good.2;
        greatest = λ other live of_app in_time.
            let (b, behind) = found other live of_app in_time in
            let le = behind.ia in
            let below = ia_below b near ((fits b behind.some).1 ∙ sym good.1) (is.1 b behind.some) in
            omega (arith, le, below);
        last = λ other live of_app same.
            let (b, behind) = found other live of_app (subst (λ n. n < minute) (sym same) good.2) in
            let one : b.app ≡ near.app = (fits b behind.some).1 ∙ sym good.1 in
            let le = behind.ia in
            let below = ia_below b near one (is.1 b behind.some) in
            let tie : b.ia ≡ near.ia = omega (arith, le, below, same) in
            let serials = serial_below b near one (is.1 b behind.some) tie in
            let own = behind.serial (omega (arith, tie, same)) in
            omega (arith, serials, own);
      }

-- where no row that is shown has the key, none of history has it
pub unshown_key : (history shown : ℕ → Option Row) (key : Key) → HasLast history shown key.app (key.ia + 1)
    → ((serial : ℕ) (row : Row) → shown serial ≡ Some row → row.key ≢ key) → (serial : ℕ) (row : Row)
    → history serial ≡ Some row → row.key ≢ key
unshown_key history shown key last none serial row at keyed =
    let ia : row.key.ia ≡ key.ia = ap (λ (k : Key). k.ia) keyed in
    let (r, there, of_app, early, no_later) = last serial row at (ap (λ (k : Key). k.app) keyed) (omega (arith, ia)) in
    let tie : r.key.ia ≡ key.ia = elim no_later [
      | inl earlier ↦ absurd (omega (arith, earlier, early, ia))
      | inr both ↦ sym both.0 ∙ ia
    ] in
    none r.serial r there (λ i. record { ia = tie i; app = of_app i })

-- the rows of an application before a minute, of all rows
pub part_of : {X : Type 0} (row_of : X → Row) (xs rows part : List X) (app : List ℕ) (minute : ℕ)
    → ((x : X) → Contains rows x ↔ (Contains xs x × ((row_of x).key.app ≡ app)))
    → (HaveOneApp row_of rows → (x : X) → Contains part x ↔ (Contains rows x × ((row_of x).key.ia < minute)))
    → (x : X) → Contains part x ↔ (Contains xs x × ((row_of x).key.app ≡ app) × ((row_of x).key.ia < minute))
part_of row_of xs rows part app minute all front x =
    let is = front (λ y z at_y at_z. ((all y).0 at_y).1 ∙ sym ((all z).0 at_z).1) x in (
      (λ there. let both = is.0 there in let of_app = (all x).0 both.0 in (of_app.0, of_app.1, both.1)),
      λ both. is.1 ((all x).1 (both.0, both.1), both.2),
    )

-- names that compare as equal, or as unequal
pub same_name : (a b : List ℕ) → pointwise nat_eq a b ≡ true → a ≡ b
same_name a b e = (bytes_decides a b).0 e

pub other_name : (a b : List ℕ) → pointwise nat_eq a b ≡ false → a ≢ b
other_name a b e same = false≢true (sym e ∙ (bytes_decides a b).1 same)

-- the nearest, from the last before a limit: in its own application the arrival itself, else the minute after it
module _ (s : Sets) (key : Key) (app : List ℕ) (limit : ℕ) (is_limit : ((app ≡ key.app) × (limit ≡ key.ia))
    ⊎ ((app ≢ key.app) × (limit ≡ key.ia + 1))) where
  within : (a : Arrival) → a.app ≡ app → a.ia < limit → IsCandidate key app None a
  within a of_app early = elim is_limit [
    | inl own ↦ let at : limit ≡ key.ia = own.1 in record {
      of_app = of_app;
      in_time = omega arith;
      before_own =
          λ _. omega arith;
      close = tt;
    }
    | inr other ↦ let at : limit ≡ key.ia + 1 = other.1 in record {
      of_app = of_app;
      in_time = omega arith;
      before_own =
          λ same. absurd (other.0 same);
      close = tt;
    }
  ]

  reaches : (a : Arrival) → IsCandidate key app None a → a.ia < limit
  reaches a candidate = elim is_limit [
    | inl own ↦ let at : limit ≡ key.ia = own.1 in let lt : a.ia < key.ia = candidate.before_own own.0 in omega arith
    | inr other ↦ let at : limit ≡ key.ia + 1 = other.1 in let le : a.ia ≤ key.ia = candidate.in_time in omega arith
  ]

  -- where nothing arrives before it, nothing is nearest, whatever the limit
  pub nearest_none : (hours : Option ℕ) → IsLastBefore s app limit None → IsNearestAnswer (LiveAt s) key app hours None
  nearest_none hours none = answer_none (LiveAt s) key app hours (λ other live candidate.
      let late : limit ≤ other.ia = none other live candidate.of_app in
      let early : other.ia < limit = reaches other candidate in
      absurd (omega arith))

  -- the last that arrives before it is nearest, were there no limit
  pub nearest_some : (near : Arrival) → IsLastBefore s app limit (Some near) → IsNearest (LiveAt s) key app None near
  nearest_some near is = record {
    live = is.live;
    candidate = within near is.of_app is.in_time;
    greatest = λ other live candidate. is.greatest other live candidate.of_app (reaches other candidate);
    last = λ other live candidate same. is.last other live candidate.of_app same;
  }
