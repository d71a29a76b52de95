-- Whether rows have a sound content, by tables of a plan in memory that have them.
use Rattle.std.proofs.Common.{◌≡◌, ◌↔◌, get_or, inl, inr, refl, List, map, subst, sym}
use Rattle.std.specs.List.{All, Contains}
use Rattle.std.specs.List.Sorted.{IsPermutation}
use Rattle.std.proofs.lemmas.List.Elements.{All-map}
use Rattle.std.proofs.lemmas.List.Sorted.{Contains-permutation, IsPermutation-sym, IsPermutation-trans}
use Rattle.sqlite.specs.Order.{Row as Values}
use Rattle.sqlite.specs.State.{State}
use Rattle.planner_machine.specs.Content.{Content}
use Rattle.planner_machine.specs.Sound.{IsSound}
use Rattle.plan_tables_schema.specs.Rows.{IsPlan, Tables, shown, tables_of}
use Rattle.plan_tables_schema.specs.declared.tables.Table.{Table}
use Rattle.plan_tables_content.specs.Content.{IsContentOf, IsFact}
use Rattle.plan_tables_loading.specs.Reading.{HasPlan}
use Rattle.plan_tables_opening.specs.Opened.{IsToldBy}
use Rattle.plan_tables_opening.specs.Opening.{IsUnopened}
use Rattle.plan_tables_opening.specs.declared.faults.OpenFault.{OpenFault}
use Rattle.plan_tables_opening.proofs.OpeningLemmas.{room_has_none}
use Rattle.plan_migrations_remaking.specs.Remaking.{AreRemade, AreWhole, remade_row}
use Rattle.plan_migrations_remaking.specs.declared.rows.FirstRows.{FirstRows}
use Rattle.plan_migrations.specs.Faults.{fault_in_memory}
use Rattle.plan_migrations.specs.Migrating.{FailToHold, HaveContent}
use Rattle.plan_migrations.specs.declared.faults.MigrateFault.{MigrateFault}
use Rattle.plan_migrations.proofs.ReadLemmas.{each}

module _ (reads : List FirstRows) (whole : AreWhole reads) (all other : Tables) (one : AreRemade reads all)
    (two : AreRemade reads other) where
  abbrev Alike : Table → Type 0
  Alike t = IsPermutation (map (shown t) (all t)) (map (shown t) (other t))

  -- tables that are made of the same rows show the same
  alike : (t : Table) → Alike t
  alike = each Alike (subst (All Alike) whole (All-map Alike (λ (read : FirstRows). read.table) reads (λ i d low.
      let read = get_or reads i d in
      let t = read.table in
      let rows = map (remade_row t) read.rows.items in
      IsPermutation-trans (map (shown t) (all t)) rows (map (shown t) (other t))
      (IsPermutation-sym rows (map (shown t) (all t)) (one i d low)) (two i d low))))

  -- and so they have the same content
  same_content : (c : Content) → IsContentOf all c → IsContentOf other c
  same_content c is = record { representable = is.representable; facts = λ t v. both t v }
    where
      both : (t : Table) (v : Values) → Contains (map (shown t) (other t)) v ↔ IsFact t c v
      both t v = (
        λ there. (is.facts t v).0 (Contains-permutation (map (shown t) (other t)) (map (shown t) (all t)) v
            (IsPermutation-sym (map (shown t) (all t)) (map (shown t) (other t)) (alike t)) there),
        λ fact. Contains-permutation (map (shown t) (all t)) (map (shown t) (other t)) v (alike t) ((is.facts t v).1 fact),
      )

module _ (reads : List FirstRows) (whole : AreWhole reads) (s : State) (plan : IsPlan s)
    (rows : AreRemade reads (tables_of s.now.trees)) where
  has_plan : HasPlan s
  unfolding HasPlan
  has_plan = plan.schema

  pub told_have : (c : Content) → IsToldBy s.now c → HaveContent reads c
  told_have c (inl told) all remade = same_content reads whole (tables_of s.now.trees) all rows remade c told.1
  told_have c (inr free) all remade = absurd (room_has_none s free.0 has_plan)

  -- what is refused for its rows has no sound content
  unsound : (new : State) → IsUnopened s new OpenFault.Rows → (c : Content) → HaveContent reads c → IsSound c → ⊥
  unsound new (inl (is, same)) c has sound = cc
  unsound new (inr (inl (p, h))) c has sound = (h.rows refl).1 (
    has_plan,
    record { content = c; told = has (tables_of s.now.trees) rows; sound = sound; rowids = plan.rowids },
  )
  unsound new (inr (inr (inl (room, h)))) c has sound = h
  unsound new (inr (inr (inr (others, h)))) c has sound = h

  pub unheld : (new : State) (fault : OpenFault) (told : MigrateFault) → told ≡ fault_in_memory fault
      → IsUnopened s new fault → FailToHold reads told
  unheld new OpenFault.Rows told is h = subst (FailToHold reads) (sym is) (unsound new h)
  unheld new OpenFault.Memory told is h = subst (FailToHold reads) (sym is) tt
  unheld new OpenFault.Device told is h = subst (FailToHold reads) (sym is) tt
  unheld new OpenFault.Unopened told is h = subst (FailToHold reads) (sym is) tt
  unheld new OpenFault.Tables told is h = subst (FailToHold reads) (sym is) tt
