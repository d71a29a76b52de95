-- A set after its moves is what its table shows.
use Rattle.std.proofs.Common.{◌≡◌, ◌↔◌, ◌==◌, ℕ, Bool, true, false, List, ◌⊎◌, inl, inr, get_or, refl, sym, ap, subst}
use Rattle.std.proofs.Common.{◌∙◌, Option, Some, None, arith}
use Rattle.std.specs.Prelude.{is_some, if◌then◌else◌}
use Rattle.std.specs.List.{Contains}
use Rattle.std.proofs.lemmas.Bool.{cases_lt, false≢true}
use Rattle.std.proofs.lemmas.List.{get_or_default}
use Rattle.sqlite.specs.Order.{Row as Values}
use Rattle.sqlite.specs.Rowids.TheVariants.{Chosen}
use Rattle.sqlite_rules.specs.Edit.{with_rowid}
use Rattle.occurrences.specs.declared.row.Row.{Row}
use Rattle.planner_machine.specs.Moves.{or_else}
use Rattle.plan_store_lists.specs.Rows.{HasEachOnce, OneEach, look_up}
use Rattle.plan_tables_schema.specs.Rows.{Tables, shown, stored}
use Rattle.plan_tables_schema.specs.Schema.{place}
use Rattle.plan_tables_schema.specs.declared.tables.Table.{Table}
use Rattle.plan_store.specs.Changes.{FitsSet, moved_set}
use Rattle.plan_store.specs.declared.changes.Moves.{Moves}
use Rattle.plan_store_lists.proofs.LookLemmas.{look_at, look_lacks, look_none, look_some}
use Rattle.plan_tables_content.specs.Content.{IsOfSet, IsUnderOwn}
use Rattle.plan_tables_writing.specs.Writing.{moved_in, with_each, without_each}
use Rattle.plan_tables_constraints.proofs.Held.{Shows, matched}
use Rattle.plan_tables_constraints.proofs.SetMoves.{shows_with, shows_without, with_other, without_other}
use Rattle.plan_tables_content.proofs.SameOptions.{is_some as same_some, none_some}

module _ {X : Type 0} (row_of : X → Row) where
  abbrev serial : X → ℕ
  serial x = (row_of x).serial

  pub one_each : (xs : List X) → HasEachOnce row_of xs → OneEach serial xs
  one_each xs once x y (i, lt, is) (j, under, are) e = elim (cases_lt i j) [
    | inl less ↦ absurd (once i j x less under (ap serial is ∙ e ∙ sym (ap serial (reads x))))
    | inr more ↦ elim (cases_lt j i) [
      | inl less ↦ absurd (once j i y less lt (ap serial are ∙ sym e ∙ sym (ap serial (get_or_default xs i y x lt
          ∙ is))))
      | inr other ↦ let one : i ≡ j = omega (arith, more, other) in sym is ∙ ap (λ k. get_or xs k x) one ∙ reads x
    ]
  ]
    where
      reads : (d : X) → get_or xs j d ≡ y
      reads d = get_or_default xs j d y under ∙ are

  module _ (moves : Moves X) (set : ℕ → Option X) (fits : FitsSet row_of moves set) (own : IsUnderOwn serial set) where
    abbrev put : ℕ → Option X
    put n = look_up serial moves.put.items n

    abbrev changed : ℕ → Option X
    changed n = look_up serial moves.changed.items n

    abbrev gone : ℕ → Option X
    gone n = look_up serial moves.gone.items n

    abbrev rest : ℕ → Option X
    rest n = if is_some (gone n) then None else set n

    pub is_put : (n : ℕ) (x : X) → put n ≡ Some x → moved_set row_of moves set n ≡ Some x
    is_put n x e = ap (λ o. or_else o (or_else (changed n) (rest n))) e

    pub is_changed : (n : ℕ) (x : X) → put n ≡ None → changed n ≡ Some x → moved_set row_of moves set n ≡ Some x
    is_changed n x e f = ap (λ o. or_else o (or_else (changed n) (rest n))) e ∙ ap (λ o. or_else o (rest n)) f

    pub is_rest : (n : ℕ) → put n ≡ None → changed n ≡ None → gone n ≡ None → moved_set row_of moves set n ≡ set n
    is_rest n e f g = ap (λ o. or_else o (or_else (changed n) (rest n))) e ∙ ap (λ o. or_else o (rest n)) f
        ∙ ap (λ o. if is_some o then None else set n) g

    -- what is put has serials of its own
    pub not_put : (n : ℕ) (was : X) → set n ≡ Some was → put n ≡ None
    not_put n was there = look_lacks serial moves.put.items n
        (λ y has same. none_some (set (serial y)) was (fits.new y has) (ap set same ∙ there))

    -- what stands under a number after the moves
    abbrev Stood : ℕ → X → Type 0
    Stood n x = (set n ≡ Some x) × (gone n ≡ None) × (changed n ≡ None)

    stands : (n : ℕ) (x : X) → moved_set row_of moves set n ≡ Some x
        → Contains moves.put.items x ⊎ (Contains moves.changed.items x ⊎ Stood n x)
    stands n x e = elim (put n) as (λ o. put n ≡ o → Contains moves.put.items x ⊎
        (Contains moves.changed.items x ⊎ Stood n x)) [
          | Some y ↦ λ p. inl (subst (Contains moves.put.items) (same_some y x (sym (is_put n y p)
              ∙ e)) (look_some serial moves.put.items n y p).0)
          | None ↦ λ p. elim (changed n) as (λ o. changed n ≡ o → Contains moves.put.items x ⊎
              (Contains moves.changed.items x ⊎ Stood n x)) [
                | Some y ↦ λ q. inr (inl (subst (Contains moves.changed.items) (same_some y x (sym (is_changed n y p q)
                    ∙ e)) (look_some serial moves.changed.items n y q).0))
                | None ↦ λ q. elim (gone n) as (λ o. gone n ≡ o → Contains moves.put.items x ⊎
                    (Contains moves.changed.items x ⊎ Stood n x)) [
                      | Some y ↦ λ r. none_some (moved_set row_of moves set n) x (ap (λ o. or_else o (or_else
                          (changed n)
                          (rest n))) p ∙ ap (λ o. or_else o (rest n)) q
                          ∙ ap (λ o. if is_some o then None else set n) r) e
                      | None ↦ λ r. inr (inr (sym (is_rest n p q r) ∙ e, r, q))
                    ] refl
              ] refl
        ] refl

    pub moved_own : IsUnderOwn serial (moved_set row_of moves set)
    moved_own n x e = elim (put n) as (λ o. put n ≡ o → serial x ≡ n) [
      | Some y ↦ λ p. ap serial (sym (same_some y x (sym (is_put n y p) ∙ e)))
          ∙ (look_some serial moves.put.items n y p).1
      | None ↦ λ p. elim (changed n) as (λ o. changed n ≡ o → serial x ≡ n) [
        | Some y ↦ λ q. ap serial (sym (same_some y x (sym (is_changed n y p q) ∙ e)))
            ∙ (look_some serial moves.changed.items n y q).1
        | None ↦ λ q. elim (gone n) as (λ o. gone n ≡ o → serial x ≡ n) [
          | Some y ↦ λ r. none_some (moved_set row_of moves set n) x (ap (λ o. or_else o (or_else (changed n)
              (rest n))) p ∙ ap (λ o. or_else o (rest n)) q
              ∙ ap (λ o. if is_some o then None else set n) r) e
          | None ↦ λ r. own n x (sym (is_rest n p q r) ∙ e)
        ] refl
      ] refl
    ] refl

    module _ (t : Table) (values_of key_of : X → Values)
        (told : (x y : X) → matched t (key_of x) (values_of y) ≡ true → serial x ≡ serial y)
        (tells : (x y : X) → serial x ≡ serial y → matched t (key_of x) (values_of y) ≡ true)
        (shows : (x : X) (rows : List Values) → shown t (with_rowid Chosen rows (stored t
        (values_of x))) ≡ values_of x) where
      -- no key of a list is that of the values
      lacks : (xs : List X) (n : ℕ) (x : X) → look_up serial xs n ≡ None → serial x ≡ n
          → (y : X) → Contains xs y → matched t (key_of y) (values_of x) ≡ false
      lacks xs n x none at y has = go (matched t (key_of y) (values_of x)) refl
        where
          go : (b : Bool) → matched t (key_of y) (values_of x) ≡ b → b ≡ false
          go true e = absurd (look_none serial xs n none y has (told y x e ∙ at))
          go false e = refl

      pub lacking : (xs : List X) (n : ℕ) (x : X) → serial x ≡ n
          → ((y : X) → Contains xs y → matched t (key_of y) (values_of x) ≡ false) → look_up serial xs n ≡ None
      lacking xs n x at none = look_lacks serial xs n
          (λ y has same. false≢true (sym (none y has) ∙ tells y x (same ∙ sym at)))

      abbrev a0 : Tables → Tables
      a0 all = without_each t key_of moves.gone.items all

      abbrev a1 : Tables → Tables
      a1 all = without_each t key_of moves.changed.items (a0 all)

      abbrev a2 : Tables → Tables
      a2 all = with_each t values_of moves.changed.items (a1 all)

      pub set_moved : (all : Tables) → ((v : Values) → Shows t (all t) v ↔ IsOfSet values_of set v) → (v : Values)
          → Shows t (moved_in t values_of key_of moves all t) v ↔ IsOfSet values_of (moved_set row_of moves set) v
      set_moved all held v = (forth, back)
        where
          forth : Shows t (moved_in t values_of key_of moves all t) v → IsOfSet values_of (moved_set row_of moves set) v
          forth there = elim ((shows_with t values_of shows moves.put.items (a2 all) v).0 there) [
            | inl new ↦ (
              serial new.0,
              new.0,
              is_put (serial new.0) new.0 (look_at serial moves.put.items
                  (one_each moves.put.items fits.put_once) new.0 (serial new.0) new.1 refl),
              new.2,
            )
            | inr old ↦ elim ((shows_with t values_of shows moves.changed.items (a1 all) v).0 old) [
              | inl turned ↦
                  let x = turned.0 in
                  let was = fits.changes x turned.1 in (
                    serial x,
                    x,
                    is_changed (serial x) x (not_put (serial x) was.0 was.1)
                        (look_at serial moves.changed.items (one_each moves.changed.items fits.changed_once) x
                        (serial x) turned.1 refl),
                    turned.2,
                  )
              | inr stood ↦
                  let k = (shows_without t key_of moves.changed.items (a0 all) v).0 stood in
                  let h = (shows_without t key_of moves.gone.items all v).0 k.0 in
                  let (n, x, at, is) = (held v).0 h.0 in
                  let number : serial x ≡ n = own n x at in
                  let no_change : changed n ≡ None = lacking moves.changed.items n x number (λ y has. subst
                  (λ w. matched t (key_of y) w ≡ false) is (k.1 y has)) in
                  let no_gone : gone n ≡ None = lacking moves.gone.items n x number (λ y has. subst
                  (λ w. matched t (key_of y) w ≡ false) is (h.1 y has)) in
                  (n, x, is_rest n (not_put n x at) no_change no_gone ∙ at, is)
            ]
          ]

          back : IsOfSet values_of (moved_set row_of moves set) v → Shows t (moved_in t values_of key_of moves all t) v
          back (n, x, e, is) = (shows_with t values_of shows moves.put.items (a2 all) v).1 (elim (stands n x e) [
            | inl new ↦ inl (x, new, is)
            | inr old ↦ inr ((shows_with t values_of shows moves.changed.items (a1 all) v).1 (elim old [
              | inl turned ↦ inl (x, turned, is)
              | inr stood ↦
                  let number : serial x ≡ n = own n x stood.0 in
                  inr ((shows_without t key_of moves.changed.items (a0 all) v).1 (
                    (shows_without t key_of moves.gone.items all v).1 (
                      (held v).1 (n, x, stood.0, is),
                      λ y has. subst (λ w. matched t (key_of y) w ≡ false) (sym is)
                          (lacks moves.gone.items n x stood.1 number y has),
                    ),
                    λ y has. subst (λ w. matched t (key_of y) w ≡ false) (sym is)
                        (lacks moves.changed.items n x stood.2 number y has),
                  ))
            ]))
          ])

-- other tables stay
pub moved_other : {X : Type 0} (t u : Table) (values_of key_of : X → Values) (moves : Moves X) (all : Tables)
    → (place u == place t) ≡ false → moved_in t values_of key_of moves all u ≡ all u
moved_other t u values_of key_of moves all apart =
    with_other t values_of u apart moves.put.items _ ∙ with_other t values_of u apart moves.changed.items _
    ∙ without_other t key_of u apart moves.changed.items _ ∙ without_other t key_of u apart moves.gone.items all
