-- What a change makes of the list of a set, and of its look-up.
use Rattle.std.proofs.Common.{◌≡◌, ◌≢◌, ◌↔◌, ℕ, ◌⊎◌, List, get_or, refl, sym, ap, ◌∙◌, inl, inr, Some, None}
use Rattle.std.specs.Prelude.{is_some, if◌then◌else◌}
use Rattle.std.specs.List.{Contains}
use Rattle.std.proofs.lemmas.Bool.{cases_order}
use Rattle.std.proofs.lemmas.List.{get_or_default}
use Rattle.occurrences.specs.declared.row.Row.{Row}
use Rattle.external_dependencies.specs.Nearest.{arrival_of}
use Rattle.external_dependencies.specs.declared.live.Arrival.{Arrival}
use Rattle.planner_machine.specs.Moves.{or_else}
use Rattle.plan_store_lists.specs.Keyed.{AreApart, HasKey, LacksKey}
use Rattle.plan_store_lists.specs.Rows.{HasEachOnce, OneEach, look_up}
use Rattle.plan_store.specs.Changes.{FitsSet, moved_set}
use Rattle.plan_store.specs.declared.changes.Moves.{Moves}
use Rattle.plan_store_lists.proofs.LookLemmas.{look_some, look_none, look_lacks, look_at}

module _ {X : Type 0} (row_of : X → Row) where
  abbrev serial_of : X → ℕ
  serial_of x = (row_of x).serial

  abbrev pub seat_of : X → Arrival
  seat_of x = arrival_of (row_of x)

  same_serial : (x y : X) → seat_of x ≡ seat_of y → serial_of x ≡ serial_of y
  same_serial x y same = ap (λ (a : Arrival). a.serial) same

  pub apart_from_once : (xs : List X) → HasEachOnce row_of xs → AreApart seat_of xs
  apart_from_once xs once i j d below lt same = once i j d below lt (same_serial (get_or xs i d) (get_or xs j d) same)

  pub one_each_from_once : (xs : List X) → HasEachOnce row_of xs → OneEach serial_of xs
  one_each_from_once xs once x y (i, lt_i, at_i) (j, lt_j, at_j) same =
      let at_j' : get_or xs j x ≡ y = get_or_default xs j x y lt_j ∙ at_j in
      let alike : serial_of (get_or xs i x) ≡ serial_of (get_or xs j x) = ap serial_of at_i ∙ same
      ∙ ap serial_of (sym at_j') in
      elim (cases_order i j) [
        | inl is ↦ sym at_i ∙ ap (λ n. get_or xs n x) is ∙ at_j'
        | inr (inl below) ↦ absurd (once i j x below lt_j alike)
        | inr (inr above) ↦ absurd (once j i x above lt_i (sym alike))
      ]

  module _ (moves : Moves X) (old gone changed put : List X) (one : OneEach serial_of old)
      (gone_is : (x : X) → Contains gone x ↔ Contains moves.gone.items x)
      (changed_is : (x : X) → Contains changed x ↔ Contains moves.changed.items x)
      (put_is : (x : X) → Contains put x ↔ Contains moves.put.items x)
      (fits : FitsSet row_of moves (look_up serial_of old)) where
    -- what changes stands under its key, and doesn't go
    stood : (x : X) → Contains changed x → (was : X) × Contains old was × (seat_of was ≡ seat_of x)
    stood x at_x =
        let is = fits.changes x ((changed_is x).0 at_x) in
        (is.0, (look_some serial_of old (serial_of x) is.0 is.1).0, is.2)

    kept : (x : X) → Contains changed x → LacksKey seat_of gone (seat_of x)
    kept x at_x y at_y same = look_none serial_of moves.gone.items (serial_of x) (fits.stays x ((changed_is x).0 at_x))
        y ((gone_is y).0 at_y) (same_serial y x same)

    -- what goes stands
    pub gone_stand : (x : X) → Contains gone x → HasKey seat_of old (seat_of x)
    gone_stand x at_x = (
      x,
      (look_some serial_of old (serial_of x) x (fits.goes x ((gone_is x).0 at_x))).0,
      refl,
    )

    module _ (rest : List X) (rest_is : (x : X) → Contains rest x
        ↔ (Contains old x × LacksKey seat_of gone (seat_of x))) where
      pub changed_stand : (x : X) → Contains changed x → HasKey seat_of rest (seat_of x)
      changed_stand x at_x =
          let is = stood x at_x in
          (is.0, (rest_is is.0).1 (is.1, λ y at_y same. kept x at_x y at_y (same ∙ is.2)), is.2)

      module _ (written : List X) (written_is : (x : X) → Contains written x
          ↔ (Contains changed x ⊎ (Contains rest x × LacksKey seat_of changed (seat_of x)))) where
        written_cases : (x : X) → Contains written x → Contains changed x
            ⊎ (Contains old x × LacksKey seat_of gone (seat_of x) × LacksKey seat_of changed (seat_of x))
        written_cases x there = elim ((written_is x).0 there) [
          | inl is ↦ inl is
          | inr both ↦ let stays = (rest_is x).0 both.0 in inr (stays.0, stays.1, both.1)
        ]

        -- nothing that was there has the serial of what is put
        not_there : (x y : X) → Contains put x → Contains written y → serial_of y ≢ serial_of x
        not_there x y at_x at_y same =
            let none = look_none serial_of old (serial_of x) (fits.new x ((put_is x).0 at_x)) in
            elim (written_cases y at_y) [
              | inl is ↦ let was = stood y is in none was.0 was.1 (same_serial was.0 y was.2 ∙ same)
              | inr stays ↦ none y stays.0 same
            ]

        pub put_new : (x : X) → Contains put x → LacksKey seat_of written (seat_of x)
        put_new x at_x y at_y same = not_there x y at_x at_y (same_serial y x same)

        module _ (new : List X) (new_is : (x : X) → Contains new x ↔ (Contains put x ⊎ Contains written x)) where
          changed_apart : (x y : X) → Contains changed x → Contains old y → LacksKey seat_of changed (seat_of y)
              → serial_of x ≢ serial_of y
          changed_apart x y at_x at_y lacks same =
              let was = stood x at_x in
              let one_row : was.0 ≡ y = one was.0 y was.1 at_y (same_serial was.0 x was.2 ∙ same) in
              lacks x at_x (sym was.2 ∙ ap seat_of one_row)

          one_written : (x y : X) → Contains written x → Contains written y → serial_of x ≡ serial_of y → x ≡ y
          one_written x y at_x at_y same = elim (written_cases x at_x) [
            | inl is_x ↦ elim (written_cases y at_y) [
              | inl is_y ↦ one_each_from_once moves.changed.items fits.changed_once x y ((changed_is x).0 is_x)
                  ((changed_is y).0 is_y) same
              | inr stays ↦ absurd (changed_apart x y is_x stays.0 stays.2 same)
            ]
            | inr stays_x ↦ elim (written_cases y at_y) [
              | inl is_y ↦ absurd (changed_apart y x is_y stays_x.0 stays_x.2 (sym same))
              | inr stays ↦ one x y stays_x.0 stays.0 same
            ]
          ]

          pub one_new : OneEach serial_of new
          one_new x y at_x at_y same = elim ((new_is x).0 at_x) [
            | inl put_x ↦ elim ((new_is y).0 at_y) [
              | inl put_y ↦ one_each_from_once moves.put.items fits.put_once x y ((put_is x).0 put_x)
                  ((put_is y).0 put_y) same
              | inr was ↦ absurd (not_there x y put_x was (sym same))
            ]
            | inr was_x ↦ elim ((new_is y).0 at_y) [
              | inl put_y ↦ absurd (not_there y x put_y was_x same)
              | inr was ↦ one_written x y was_x was same
            ]
          ]

          -- the look-up of the new list
          pub look_moved : (serial : ℕ) → look_up serial_of new serial ≡ moved_set row_of moves (look_up serial_of old)
              serial
          look_moved serial = elim (look_up serial_of moves.put.items serial) as
              (λ o. look_up serial_of moves.put.items serial ≡ o → look_up serial_of new serial
              ≡ or_else o (or_else (look_up serial_of moves.changed.items serial)
              (if is_some (look_up serial_of moves.gone.items serial) then None else look_up serial_of old serial))) [
                | Some p ↦ λ e. let there = look_some serial_of moves.put.items serial p e in
                    look_at serial_of new one_new
                    p serial ((new_is p).1 (inl ((put_is p).1 there.0))) there.1
                | None ↦ λ no_put. elim (look_up serial_of moves.changed.items serial) as
                    (λ o. look_up serial_of moves.changed.items serial ≡ o → look_up serial_of new serial
                    ≡ or_else o (if is_some (look_up serial_of moves.gone.items serial) then None else look_up serial_of
                    old
                    serial)) [
                      | Some x ↦ λ e. let there = look_some serial_of moves.changed.items serial x e in
                          look_at serial_of new one_new x serial
                          ((new_is x).1 (inr ((written_is x).1 (inl ((changed_is x).1 there.0))))) there.1
                      | None ↦ λ no_changed. elim (look_up serial_of moves.gone.items serial) as
                          (λ o. look_up serial_of moves.gone.items serial ≡ o → look_up serial_of new serial
                          ≡ (if is_some o then None else look_up serial_of old serial)) [
                            | Some g ↦ λ e. gone_none serial no_put no_changed g
                                (look_some serial_of moves.gone.items serial g e)
                            | None ↦ λ no_gone. elim (look_up serial_of old serial) as
                                (λ o. look_up serial_of old serial ≡ o
                                → look_up serial_of new serial ≡ o) [
                                  | Some x ↦ λ e. let there = look_some serial_of old serial x e in
                                      look_at serial_of new one_new x
                                      serial (stays serial no_changed no_gone x there.0 there.1) there.1
                                  | None ↦ λ no_old. look_lacks serial_of new serial
                                      (λ z at_z same. others serial no_put no_changed z
                                      at_z same (λ was. look_none serial_of old serial no_old z was.0 same))
                                ] refl
                          ] refl
                    ] refl
              ] refl
            where
              -- what is new under the serial was there, where it is neither put nor changed
              others : (serial : ℕ) → look_up serial_of moves.put.items serial ≡ None
                  → look_up serial_of moves.changed.items serial ≡ None → (z : X) → Contains new z → serial_of z
                  ≡ serial → (Contains old z × LacksKey seat_of gone (seat_of z) × LacksKey seat_of changed (seat_of z)
                  → ⊥) → ⊥
              others serial no_put no_changed z at_z same not_old = elim ((new_is z).0 at_z) [
                | inl put_z ↦ look_none serial_of moves.put.items serial no_put z ((put_is z).0 put_z) same
                | inr was ↦ elim (written_cases z was) [
                  | inl is ↦ look_none serial_of moves.changed.items serial no_changed z ((changed_is z).0 is) same
                  | inr stays ↦ not_old stays
                ]
              ]

              gone_none : (serial : ℕ) → look_up serial_of moves.put.items serial ≡ None
                  → look_up serial_of moves.changed.items serial ≡ None → (g : X) → Contains moves.gone.items g
                  × (serial_of g ≡ serial) → look_up serial_of new serial ≡ None
              gone_none serial no_put no_changed g there = look_lacks serial_of new serial
                  (λ z at_z same. others serial no_put no_changed z at_z same (λ was.
                  let stood_g = look_some serial_of old (serial_of g) g (fits.goes g there.0) in
                  let one_row : z ≡ g = one z g was.0 stood_g.0 (same ∙ sym there.1) in
                  was.1 g ((gone_is g).1 there.0) (ap seat_of (sym one_row))))

              stays : (serial : ℕ) → look_up serial_of moves.changed.items serial ≡ None
                  → look_up serial_of moves.gone.items serial ≡ None → (x : X) → Contains old x → serial_of x ≡ serial
                  → Contains new x
              stays serial no_changed no_gone x there is =
                  let lacks_gone : LacksKey seat_of gone (seat_of x) = λ y at_y same. look_none serial_of
                  moves.gone.items serial no_gone y ((gone_is y).0 at_y) (same_serial y x same ∙ is) in
                  let lacks_changed : LacksKey seat_of changed (seat_of x) = λ y at_y same. look_none serial_of
                  moves.changed.items serial no_changed y ((changed_is y).0 at_y) (same_serial y x same ∙ is) in
                  (new_is x).1 (inr ((written_is x).1 (inr ((rest_is x).1 (there, lacks_gone), lacks_changed))))
