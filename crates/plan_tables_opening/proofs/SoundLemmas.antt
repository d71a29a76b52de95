-- A sound plan is opened, but for the common causes.
use Rattle.std.proofs.Common.{◌≡◌, ◌↔◌, ◌∙◌, ap, inl, inr, refl, subst, sym, true, List, [], ◌∷◌}
use Rattle.std.specs.Prelude.{map, Result, Ok, Err, IfErr}
use Rattle.std.specs.List.{Contains}
use Rattle.std.specs.Ordering.{is_eq}
use Rattle.std.proofs.lemmas.Cmp.{tied_itself}
use Rattle.sqlite_value.proofs.OrderLemmas.{value_cmp_total}
use Rattle.plan_store_lists.proofs.KeyLemmas.{contains_first, contains_later, nothing}
use Rattle.sqlite.specs.Order.{Row as Values, column}
use Rattle.sqlite.specs.State.{State}
use Rattle.sqlite.specs.Tree.{rowid}
use Rattle.sqlite_value.specs.Order.{value_cmp}
use Rattle.plan_tables_schema.specs.Rows.{HaveRowids, Tables, shown}
use Rattle.plan_tables_schema.specs.declared.tables.Table.TheVariants as table
use Rattle.plan_tables_content.specs.Facts.{natural}
use Rattle.plan_tables_content.specs.Content.{meta_values}
use Rattle.plan_tables_opening.specs.Held.{AreKnown, HoldSound, HoldsPlan}
use Rattle.plan_tables_opening.specs.Opened.{IsCommon}
use Rattle.plan_tables_opening.specs.Opening.{IsUnopened, IsUnread}
use Rattle.plan_tables_opening.specs.declared.faults.OpenFault.{OpenFault}
use Rattle.plan_tables_opening.specs.declared.faults.OpenFault.TheVariants.{Memory, Device, Unopened, Rows, Tables as OtherTables}
use Rattle.plan_tables_opening.proofs.KeptLemmas.{kept_if_untouched}
use Rattle.plan_tables_opening.proofs.OpeningLemmas.{room_has_none}

-- where one value alone is shown, it is shown once
one_row : (rows : List Values) (w : Values) → ((v : Values) → Contains (map (shown table.Meta) rows) v ↔ (v ≡ w))
    → column w 0 ≡ natural 1 → HaveRowids rows → map (shown table.Meta) rows ≡ w ∷ []
one_row [] w exactly id have = absurd (nothing w ((exactly w).1 refl))
one_row (a ∷ []) w exactly id have =
    ap (λ (v : Values). v ∷ []) ((exactly (shown table.Meta a)).0 (contains_first (shown table.Meta a) []))
one_row (a ∷ b ∷ rs) w exactly id have =
    let later = map (shown table.Meta) (b ∷ rs) in
    let here = (exactly (shown table.Meta a)).0 (contains_first (shown table.Meta a) later) in
    let there = (exactly (shown table.Meta b)).0 (contains_later (shown table.Meta a) (shown table.Meta b) later
    (contains_first (shown table.Meta b) (map (shown table.Meta) rs))) in
    let one : rowid a ≡ natural 1 = ap (λ (v : Values). column v 0) here ∙ id in
    let other : rowid b ≡ natural 1 = ap (λ (v : Values). column v 0) there ∙ id in
    let tied : is_eq (value_cmp (rowid a) (rowid b)) ≡ true =
    (λ i. is_eq (value_cmp (one i) (other i))) ∙ ap is_eq (tied_itself value_cmp_total (natural 1)) in
    absurd (cc)

-- what tells a sound content is of a known version
pub sound_is_known : (all : Tables) → HoldSound all → AreKnown (map (shown table.Meta) (all table.Meta))
sound_is_known all h =
    let c = h.content in
    let w = meta_values c.sets.bounds c.sets.issued c.definitions.options in (
      w,
      one_row (all table.Meta) w (h.told.facts table.Meta) refl (h.rowids table.Meta),
      refl,
    )

unread : (old new : State) (fault : OpenFault) → HoldsPlan old → IsUnread old new fault → IsCommon old new fault
unread old new Memory holds h = h.caused
unread old new Device holds h = h.caused
unread old new OtherTables holds h = h.caused
unread old new Rows holds h = (h.rows refl).1 holds
unread old new Unopened holds h = h.version refl (holds.0, sound_is_known _ holds.1)

pub common : (old new : State) (fault : OpenFault) → HoldsPlan old → IsUnopened old new fault → IsCommon old new fault
common old new fault holds (inl (is, same)) =
    subst (IsCommon old new) (sym is) (kept_if_untouched old new same)
common old new fault holds (inr (inl (plan, h))) = unread old new fault holds h
common old new fault holds (inr (inr (inl (room, h)))) = absurd (room_has_none old room holds.0)
common old new fault holds (inr (inr (inr (others, h)))) = absurd (others.0 holds.0)

pub common_of : {A : Type 0} (r : Result A OpenFault) (old new : State) → HoldsPlan old → IfErr r (IsUnopened old new)
    → IfErr r (IsCommon old new)
common_of (Ok a) old new holds h = tt
common_of (Err fault) old new holds h = common old new fault holds h
