-- The rows of a content, and the serials that they stand under.
use Rattle.std.proofs.Common.{◌≡◌, ℕ, ◌<◌, ◌⊎◌, List, ◌++◌, refl, sym, ap, subst, ◌∙◌, inl, inr, arith}
use Rattle.std.proofs.Common.{None, Some}
use Rattle.std.specs.Prelude.{map}
use Rattle.std.specs.List.{Contains}
use Rattle.std.proofs.lemmas.List.Elements.{Contains-append_cases, Contains-append_left, Contains-append_right}
use Rattle.occurrences.specs.declared.place.CurrentRow.{CurrentRow}
use Rattle.occurrences.specs.declared.place.Deletion.{Deletion}
use Rattle.occurrences.specs.declared.place.Place.{Place}
use Rattle.occurrences.specs.declared.place.Place.TheVariants.{LongTerm, Current, History, Deleted}
use Rattle.occurrences.specs.declared.row.Row.{Row}
use Rattle.external_dependencies.specs.declared.rows.PlacedRow.{PlacedRow}
use Rattle.planner_machine.specs.Content.{Seat, Sets, IsOnlyAt, alone, seat}
use Rattle.planner_machine.specs.Sound.{AreNumbered}
use Rattle.planner_machine.proofs.SeatLemmas.{not_empty, one_place}
use Rattle.plan_store_lists.specs.Rows.{AreRows, of_current, of_deletion, of_row}
use Rattle.plan_store.specs.Contents.{content_of}
use Rattle.plan_store.specs.declared.contents.Content.{Content as Kept}
use Rattle.plan_store_lists.proofs.LookLemmas.{look_at, look_some}
use Rattle.plan_store.proofs.PlaceLemmas.{stands_cp, stands_deleted, stands_history, stands_ltp}
use Rattle.plan_store.proofs.ViewLemmas.{issued_from, once_from_rows}
use Rattle.plan_store_soundness.specs.Listing.{IsHeld, IsHeldIn, current_place, deleted_place, in_place, placed_list}
use Rattle.plan_store_soundness.specs.Seats.{AreSeated}
use Rattle.plan_store_soundness.proofs.DistinctLemmas.{Differ, contains_map, differ_append, differ_map, map_contains}
use Rattle.plan_store_soundness.proofs.DistinctLemmas.{not_some}

-- the four lists of a content are lists of rows
pub record HasRows (kept : Kept) : Type 0 where
  pub ltp : AreRows of_row kept.ltp.items
  pub cp : AreRows of_current kept.cp.items
  pub history : AreRows of_row kept.history.items
  pub deletions : AreRows of_deletion kept.deletions.items

pub has_rows : (kept : Kept) → HasRows kept
has_rows kept = record {
  ltp = kept.ltp_rows;
  cp = kept.cp_rows;
  history = kept.history_rows;
  deletions = kept.deletion_rows;
}

module _ (kept : Kept) (rows : HasRows kept) where
  abbrev s : Sets
  s = (content_of kept).sets

  abbrev all : List PlacedRow
  all = placed_list kept

  abbrev ltp_list : List PlacedRow
  ltp_list = map (in_place LongTerm) kept.ltp.items

  abbrev cp_list : List PlacedRow
  cp_list = map current_place kept.cp.items

  abbrev history_list : List PlacedRow
  history_list = map (in_place History) kept.history.items

  abbrev deletion_list : List PlacedRow
  deletion_list = map deleted_place kept.deletions.items

  -- in which part of the list a row stands
  at_ltp : (row : Row) → Contains kept.ltp.items row → Contains all (in_place LongTerm row)
  at_ltp row there = Contains-append_left ((ltp_list ++ cp_list) ++ history_list) deletion_list _
      (Contains-append_left (ltp_list ++ cp_list) history_list _
      (Contains-append_left ltp_list cp_list _ (map_contains (in_place LongTerm) kept.ltp.items row there)))

  at_cp : (current : CurrentRow) → Contains kept.cp.items current → Contains all (current_place current)
  at_cp current there = Contains-append_left ((ltp_list ++ cp_list) ++ history_list) deletion_list _
      (Contains-append_left (ltp_list ++ cp_list) history_list _
      (Contains-append_right ltp_list cp_list _ (map_contains current_place kept.cp.items current there)))

  at_history : (row : Row) → Contains kept.history.items row → Contains all (in_place History row)
  at_history row there = Contains-append_left ((ltp_list ++ cp_list) ++ history_list) deletion_list _
      (Contains-append_right (ltp_list ++ cp_list) history_list _
      (map_contains (in_place History) kept.history.items row there))

  at_deletion : (deletion : Deletion) → Contains kept.deletions.items deletion → Contains all (deleted_place deletion)
  at_deletion deletion there = Contains-append_right ((ltp_list ++ cp_list) ++ history_list) deletion_list _
      (map_contains deleted_place kept.deletions.items deletion there)

  -- each row of the list is held by the set of its place
  pub held : (p : PlacedRow) → Contains all p → IsHeld s p
  held p there = elim (Contains-append_cases ((ltp_list ++ cp_list) ++ history_list) deletion_list p there) [
    | inr last ↦
        let (x, at, same) = contains_map deleted_place kept.deletions.items p last in
        subst (IsHeld s) same
        (look_at (λ (d : Deletion). d.row.serial) kept.deletions.items rows.deletions.one_each x x.row.serial at refl)
    | inl more ↦ elim (Contains-append_cases (ltp_list ++ cp_list) history_list p more) [
      | inr third ↦
          let (x, at, same) = contains_map (in_place History) kept.history.items p third in
          subst (IsHeld s) same
          (look_at (λ (r : Row). r.serial) kept.history.items rows.history.one_each x x.serial at refl)
      | inl rest ↦ elim (Contains-append_cases ltp_list cp_list p rest) [
        | inl first ↦
            let (x, at, same) = contains_map (in_place LongTerm) kept.ltp.items p first in
            subst (IsHeld s) same (look_at (λ (r : Row). r.serial) kept.ltp.items rows.ltp.one_each x x.serial at refl)
        | inr second ↦
            let (x, at, same) = contains_map current_place kept.cp.items p second in
            subst (IsHeld s) same
            (look_at (λ (c : CurrentRow). c.row.serial) kept.cp.items rows.cp.one_each x x.row.serial at refl)
      ]
    ]
  ]

  -- and each that is held so stands in the list
  listed_in : (row : Row) (place : Place) → IsHeldIn s row place → Contains all (record { row = row; place = place })
  listed_in row LongTerm is = at_ltp row (look_some (λ (r : Row). r.serial) kept.ltp.items row.serial row is).0
  listed_in row (Current status) is =
      at_cp (record { row = row; status = status }) (look_some (λ
      (c : CurrentRow). c.row.serial) kept.cp.items row.serial _ is).0
  listed_in row History is = at_history row (look_some (λ (r : Row). r.serial) kept.history.items row.serial row is).0
  listed_in row (Deleted reason) is =
      at_deletion (record { row = row; reason = reason }) (look_some (λ
      (d : Deletion). d.row.serial) kept.deletions.items row.serial _ is).0

  pub listed : (p : PlacedRow) → IsHeld s p → Contains all p
  listed p is = listed_in p.row p.place is

  -- a row that stands under a serial has it
  has_serial : (serial : ℕ) (row : Row) (place : Place) → seat s serial ≡ alone row place → row.serial ≡ serial
  has_serial serial row LongTerm is =
      (look_some (λ (r : Row). r.serial) kept.ltp.items serial row (ap (λ (x : Seat). x.ltp) is)).1
  has_serial serial row (Current status) is =
      (look_some (λ (c : CurrentRow). c.row.serial) kept.cp.items serial (record { row = row; status = status })
      (ap (λ (x : Seat). x.cp) is)).1
  has_serial serial row History is =
      (look_some (λ (r : Row). r.serial) kept.history.items serial row (ap (λ (x : Seat). x.history) is)).1
  has_serial serial row (Deleted reason) is =
      (look_some (λ (d : Deletion). d.row.serial) kept.deletions.items serial (record { row = row; reason = reason })
      (ap (λ (x : Seat). x.deletions) is)).1

  held_there : (row : Row) (place : Place) → seat s row.serial ≡ alone row place → IsHeldIn s row place
  held_there row LongTerm is = ap (λ (x : Seat). x.ltp) is
  held_there row (Current status) is = ap (λ (x : Seat). x.cp) is
  held_there row History is = ap (λ (x : Seat). x.history) is
  held_there row (Deleted reason) is = ap (λ (x : Seat). x.deletions) is

  -- what stands under a serial stands in the list
  pub stands_listed : (serial : ℕ) (p : PlacedRow) → IsOnlyAt s serial p → Contains all p × (p.row.serial ≡ serial)
  stands_listed serial p stands =
      let same = has_serial serial p.row p.place stands in
      let here = subst (λ n. seat s n ≡ alone p.row p.place) (sym same) stands in
      (listed p (held_there p.row p.place here), same)

  -- under its serial alone, where the rows are numbered
  module _ (numbered : AreNumbered s) where
    held_stands : (row : Row) (place : Place) → IsHeldIn s row place
        → IsOnlyAt s row.serial (record { row = row; place = place })
    held_stands row LongTerm is = stands_ltp s numbered row.serial row is
    held_stands row (Current status) is = stands_cp s numbered row.serial (record { row = row; status = status }) is
    held_stands row History is = stands_history s numbered row.serial row is
    held_stands row (Deleted reason) is =
        stands_deleted s numbered row.serial (record { row = row; reason = reason }) is

    pub listed_stands : (p : PlacedRow) → Contains all p → IsOnlyAt s p.row.serial p
    listed_stands p there = held_stands p.row p.place (held p there)

    pub seated_from_numbered : AreSeated s.issued all
    seated_from_numbered = record {
      each = λ serial low high.
          let (p, stands) = numbered.placed serial low high in
          let is = stands_listed serial p stands in (p, is.0, is.1);
      within = λ p there.
          issued_from s numbered p.row.serial (not_empty s p.row.serial p (listed_stands p there));
      own = λ p q at_p at_q same.
          one_place s q.row.serial p q (subst (λ n. IsOnlyAt s n p) same (listed_stands p at_p)) (listed_stands q at_q);
    }

  -- where each serial stands once, it stands in no other set
  module _ (seated : AreSeated s.issued all) where
    no_ltp : (serial : ℕ) → ((row : Row) → Contains all (in_place LongTerm row) → row.serial ≡ serial → ⊥)
        → s.ltp serial ≡ None
    no_ltp serial none = not_some (s.ltp serial) (λ row is.
        let at = look_some (λ (r : Row). r.serial) kept.ltp.items serial row is in none row (at_ltp row at.0) at.1)

    no_cp : (serial : ℕ) → ((current : CurrentRow) → Contains all (current_place current) → current.row.serial ≡ serial
        → ⊥)
        → s.cp serial ≡ None
    no_cp serial none = not_some (s.cp serial) (λ current is.
        let at = look_some (λ (c : CurrentRow). c.row.serial) kept.cp.items serial current is in
        none current (at_cp current at.0) at.1)

    no_history : (serial : ℕ) → ((row : Row) → Contains all (in_place History row) → row.serial ≡ serial → ⊥)
        → s.history serial ≡ None
    no_history serial none = not_some (s.history serial) (λ row is.
        let at = look_some (λ (r : Row). r.serial) kept.history.items serial row is in
        none row (at_history row at.0) at.1)

    no_deletion : (serial : ℕ)
        → ((deletion : Deletion) → Contains all (deleted_place deletion) → deletion.row.serial ≡ serial → ⊥)
        → s.deletions serial ≡ None
    no_deletion serial none = not_some (s.deletions serial) (λ deletion is.
        let at = look_some (λ (d : Deletion). d.row.serial) kept.deletions.items serial deletion is in
        none deletion (at_deletion deletion at.0) at.1)

    apart : (p q : PlacedRow) → Contains all p → Contains all q → p.row.serial ≡ q.row.serial → p.place ≡ q.place
    apart p q at_p at_q same = ap (λ (x : PlacedRow). x.place) (seated.own p q at_p at_q same)

    abbrev IsHere : Row → Place → Type 0
    IsHere row place = seat s row.serial ≡ alone row place

    stands_alone : (row : Row) (place : Place) → Contains all (record { row = row; place = place }) → IsHere row place
    stands_alone row LongTerm there =
        let is : s.ltp row.serial ≡ Some row = held (in_place LongTerm row) there in
        let cp = no_cp row.serial (λ x at same.
        let e = apart (in_place LongTerm row) (current_place x) there at (sym same) in cc) in
        let history = no_history row.serial (λ x at same.
        let e = apart (in_place LongTerm row) (in_place History x) there at (sym same) in cc) in
        let deletions = no_deletion row.serial (λ x at same.
        let e = apart (in_place LongTerm row) (deleted_place x) there at (sym same) in cc) in
        λ i. record { ltp = is i; cp = cp i; history = history i; deletions = deletions i }
    stands_alone row (Current status) there =
        let p : PlacedRow = record { row = row; place = Current status } in
        let is : s.cp row.serial ≡ Some (record { row = row; status = status }) = held p there in
        let ltp = no_ltp row.serial (λ x at same.
        let e = apart p (in_place LongTerm x) there at (sym same) in cc) in
        let history = no_history row.serial (λ x at same.
        let e = apart p (in_place History x) there at (sym same) in cc) in
        let deletions = no_deletion row.serial (λ x at same.
        let e = apart p (deleted_place x) there at (sym same) in cc) in
        λ i. record { ltp = ltp i; cp = is i; history = history i; deletions = deletions i }
    stands_alone row History there =
        let is : s.history row.serial ≡ Some row = held (in_place History row) there in
        let ltp = no_ltp row.serial (λ x at same.
        let e = apart (in_place History row) (in_place LongTerm x) there at (sym same) in cc) in
        let cp = no_cp row.serial (λ x at same.
        let e = apart (in_place History row) (current_place x) there at (sym same) in cc) in
        let deletions = no_deletion row.serial (λ x at same.
        let e = apart (in_place History row) (deleted_place x) there at (sym same) in cc) in
        λ i. record { ltp = ltp i; cp = cp i; history = is i; deletions = deletions i }
    stands_alone row (Deleted reason) there =
        let p : PlacedRow = record { row = row; place = Deleted reason } in
        let is : s.deletions row.serial ≡ Some (record { row = row; reason = reason }) = held p there in
        let ltp = no_ltp row.serial (λ x at same.
        let e = apart p (in_place LongTerm x) there at (sym same) in cc) in
        let cp = no_cp row.serial (λ x at same.
        let e = apart p (current_place x) there at (sym same) in cc) in
        let history = no_history row.serial (λ x at same.
        let e = apart p (in_place History x) there at (sym same) in cc) in
        λ i. record { ltp = ltp i; cp = cp i; history = history i; deletions = is i }

    outside : (serial : ℕ) → (serial ≡ 0) ⊎ (s.issued < serial) → (p : PlacedRow) → Contains all p
        → p.row.serial ≡ serial → ⊥
    outside serial out p there same =
        let within = seated.within p there in
        elim out [ inl zero ↦ absurd (omega (arith, within.0)) | inr past ↦ absurd (omega (arith, within.1)) ]

    pub numbered_from_seated : AreNumbered s
    numbered_from_seated = record {
      placed = λ serial low high.
          let (p, there, same) = seated.each serial low high in
          (p, subst (λ n. IsOnlyAt s n p) same (stands_alone p.row p.place there));
      unissued = λ serial out.
          let ltp = no_ltp serial (λ x at same. outside serial out (in_place LongTerm x) at same) in
          let cp = no_cp serial (λ x at same. outside serial out (current_place x) at same) in
          let history = no_history serial (λ x at same. outside serial out (in_place History x) at same) in
          let deletions = no_deletion serial (λ x at same. outside serial out (deleted_place x) at same) in
          λ i. record { ltp = ltp i; cp = cp i; history = history i; deletions = deletions i };
      numbered = λ serial p stands. has_serial serial p.row p.place stands;
    }

  -- no row stands twice in the list
  pub rows_differ : Differ all
  rows_differ =
      differ_append ((ltp_list ++ cp_list) ++ history_list) deletion_list
      (differ_append (ltp_list ++ cp_list) history_list
      (differ_append ltp_list cp_list
      (differ_map (in_place LongTerm) (λ x y same. ap (λ (p : PlacedRow). p.row) same) kept.ltp.items
      (λ i j d below lt same. once_from_rows of_row kept.ltp.items rows.ltp i j d below lt (ap (λ
      (r : Row). r.serial) same)))
      (differ_map current_place (λ x y same. one_current x y same) kept.cp.items
      (λ i j d below lt same. once_from_rows of_current kept.cp.items rows.cp i j d below lt (ap (λ
      (c : CurrentRow). c.row.serial) same)))
      (λ p first second. two_kinds p first second))
      (differ_map (in_place History) (λ x y same. ap (λ (p : PlacedRow). p.row) same) kept.history.items
      (λ i j d below lt same. once_from_rows of_row kept.history.items rows.history i j d below lt (ap (λ
      (r : Row). r.serial) same)))
      (λ p first second. three_kinds p first second))
      (differ_map deleted_place (λ x y same. one_deletion x y same) kept.deletions.items
      (λ i j d below lt same. once_from_rows of_deletion kept.deletions.items rows.deletions i j d below lt (ap (λ
      (x : Deletion). x.row.serial) same)))
      (λ p first second. four_kinds p first second)
    where
      one_current : (x y : CurrentRow) → current_place x ≡ current_place y → x ≡ y
      one_current x y same =
          let places : Current x.status ≡ Current y.status = ap (λ (p : PlacedRow). p.place) same in
          let status : x.status ≡ y.status = cc in
          λ i. record { row = (same i).row; status = status i }

      one_deletion : (x y : Deletion) → deleted_place x ≡ deleted_place y → x ≡ y
      one_deletion x y same =
          let places : Deleted x.reason ≡ Deleted y.reason = ap (λ (p : PlacedRow). p.place) same in
          let reason : x.reason ≡ y.reason = cc in
          λ i. record { row = (same i).row; reason = reason i }

      two_kinds : (p : PlacedRow) → Contains ltp_list p → Contains cp_list p → ⊥
      two_kinds p first second =
          let (x, at_x, is_x) = contains_map (in_place LongTerm) kept.ltp.items p first in
          let (y, at_y, is_y) = contains_map current_place kept.cp.items p second in
          let e : LongTerm ≡ Current y.status = ap (λ (q : PlacedRow). q.place) (is_x ∙ sym is_y) in cc

      three_kinds : (p : PlacedRow) → Contains (ltp_list ++ cp_list) p → Contains history_list p → ⊥
      three_kinds p first second =
          let (y, at_y, is_y) = contains_map (in_place History) kept.history.items p second in
          elim (Contains-append_cases ltp_list cp_list p first) [
            | inl at ↦
                let (x, at_x, is_x) = contains_map (in_place LongTerm) kept.ltp.items p at in
                let e : LongTerm ≡ History = ap (λ (q : PlacedRow). q.place) (is_x ∙ sym is_y) in cc
            | inr at ↦
                let (x, at_x, is_x) = contains_map current_place kept.cp.items p at in
                let e : Current x.status ≡ History = ap (λ (q : PlacedRow). q.place) (is_x ∙ sym is_y) in cc
          ]

      four_kinds : (p : PlacedRow) → Contains ((ltp_list ++ cp_list) ++ history_list) p → Contains deletion_list p → ⊥
      four_kinds p first second =
          let (y, at_y, is_y) = contains_map deleted_place kept.deletions.items p second in
          elim (Contains-append_cases (ltp_list ++ cp_list) history_list p first) [
            | inr at ↦
                let (x, at_x, is_x) = contains_map (in_place History) kept.history.items p at in
                let e : History ≡ Deleted y.reason = ap (λ (q : PlacedRow). q.place) (is_x ∙ sym is_y) in cc
            | inl rest ↦ elim (Contains-append_cases ltp_list cp_list p rest) [
              | inl at ↦
                  let (x, at_x, is_x) = contains_map (in_place LongTerm) kept.ltp.items p at in
                  let e : LongTerm ≡ Deleted y.reason = ap (λ (q : PlacedRow). q.place) (is_x ∙ sym is_y) in cc
              | inr at ↦
                  let (x, at_x, is_x) = contains_map current_place kept.cp.items p at in
                  let e : Current x.status ≡ Deleted y.reason = ap (λ (q : PlacedRow). q.place) (is_x ∙ sym is_y) in cc
            ]
          ]
