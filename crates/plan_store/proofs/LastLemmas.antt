-- The last rows of queries, as they are found and added to a list.
use Rattle.std.proofs.Common.{◌≡◌, ◌≢◌, ◌↔◌, ◌⊎◌, ℕ, ◌+◌, ◌<◌, ◌≤◌, Bool, true, false, List, [], ◌∷◌, ◌++◌, length}
use Rattle.std.proofs.Common.{get_or, refl, sym, ap, subst, ◌∙◌, inl, inr, arith}
use Rattle.std.proofs.Common.{Option, None, Some, Result, Ok, Err, OnOk}
use Rattle.std.specs.Prelude.{if◌then◌else◌, nat_eq}
use Rattle.std.specs.List.{Contains}
use Rattle.std.specs.declared.cmp.Ordering.TheVariants.{Greater}
use Rattle.std.proofs.lemmas.Bool.{cases_lt, eq-eqb, eqb-true, false≢true}
use Rattle.std.proofs.lemmas.List.Elements.{Contains-append_left, Contains-push, Contains-push_cases}
use Rattle.occurrences.specs.declared.row.Row.{Row}
use Rattle.external_dependencies.specs.Arrival.{arrival_cmp}
use Rattle.external_dependencies.specs.Nearest.{arrival_of}
use Rattle.external_dependencies.proofs.NearestLemmas.{arrival_ties}
use Rattle.planner_machine.specs.Moves.{or_else}
use Rattle.plan_store_lists.specs.Keyed.{IsKeyed, holds_key}
use Rattle.plan_store_lists.specs.Rows.{AreRows, look_up, of_row}
use Rattle.plan_store_lists.proofs.KeyLemmas.{holds_has, holds_none, nothing}
use Rattle.plan_store_lists.proofs.LookLemmas.{look_has, look_some}
use Rattle.plan_store.specs.Contents.{content_of}
use Rattle.plan_store.specs.HistoryReads.{HasLast, HasLasts, IsLastOf, IsNoLater}
use Rattle.plan_store.specs.Parts.{or_this}
use Rattle.plan_store.specs.Queries.{AddsLast, IsQueriedIn, LacksBefore}
use Rattle.plan_store.specs.Views.{Asks, IsPrepared, key_of, row_serial}
use Rattle.plan_store.specs.declared.contents.Content.{Content as Kept}
use Rattle.plan_store.specs.declared.queries.LastQuery.{LastQuery}
use Rattle.plan_store.specs.declared.stores.Need.{Need}
use Rattle.plan_store.proofs.ArrivalLemmas.{ia_below, not_later, serial_below}
use Rattle.plan_store.proofs.OrderLemmas.{arrival_total}
use Rattle.plan_store.proofs.PartLemmas.{new_key}

-- ---- found in history

-- of one application, what does not arrive later
no_later : (a b : Row) → a.key.app ≡ b.key.app → arrival_cmp (arrival_of a) (arrival_of b) ≢ Greater → IsNoLater a b
no_later a b one not_above = elim (cases_lt a.key.ia b.key.ia) [
  | inl lower ↦ inl lower
  | inr high ↦
      let low : a.key.ia ≤ b.key.ia = ia_below (arrival_of a) (arrival_of b) one not_above in
      let tie : a.key.ia ≡ b.key.ia = omega (arith, high, low) in
      inr (tie, serial_below (arrival_of a) (arrival_of b) one not_above tie)
]

-- among the rows of an application that arrive before a minute
module _ (history part : List Row) (app : List ℕ) (minute : ℕ)
    (is : (x : Row) → Contains part x ↔ (Contains history x × (x.key.app ≡ app) × (x.key.ia < minute))) where
  pub lacks_part : length part ≡ 0 → LacksBefore (look_up row_serial history) app minute
  lacks_part none serial row there of_app in_time =
      let (k, lt, at) = (is row).1 ((look_some row_serial history serial row there).0, of_app, in_time) in
      absurd (omega (arith, none, lt))

  pub last_part : AreRows of_row history → IsKeyed arrival_cmp arrival_of part → (i : ℕ) (row : Row)
      → i + 1 ≡ length part → row ≡ get_or part i row → IsLastOf (look_up row_serial history) app minute row
  last_part rows keyed i row end at =
      let own = (is row).0 (i, omega arith, sym at) in
      record {
        stands = look_has row_serial history rows.one_each row own.0;
        of_app = own.1;
        in_time = own.2;
        last = λ serial other there of_app in_time.
            let (k, lt, at_other) = (is other).1 ((look_some row_serial history serial other there).0, of_app, in_time)
            in
            no_later other row (of_app ∙ sym own.1)
            (subst (λ (y : Row). arrival_cmp (arrival_of other) (arrival_of y) ≢ Greater) (sym at)
            (not_later of_row part keyed i row other k (omega arith) (omega arith) at_other));
      }

-- ---- added to a list

-- a row of history that a list of some of its rows has, or of whose serial it has none
module _ (history lasts : List Row)
    (part : (serial : ℕ) (row : Row) → look_up row_serial lasts serial ≡ Some row
    → look_up row_serial history serial ≡ Some row)
    (row : Row) (stands : look_up row_serial history row.serial ≡ Some row) where
  pub there_held : holds_key arrival_cmp arrival_of lasts (arrival_of row) ≡ true
      → look_up row_serial lasts row.serial ≡ Some row
  there_held is = elim (look_up row_serial lasts row.serial) as (λ o. look_up row_serial lasts row.serial ≡ o
      → o ≡ Some row) [
        | None ↦ λ e. absurd (false≢true (sym (holds_none arrival_total arrival_ties arrival_of lasts (arrival_of row)
            (new_key of_row lasts row e)) ∙ is))
        | Some y ↦ λ e. sym (part row.serial y e) ∙ stands
      ] refl

  pub free_lacked : holds_key arrival_cmp arrival_of lasts (arrival_of row) ≡ false
      → look_up row_serial lasts row.serial ≡ None
  free_lacked is = elim (look_up row_serial lasts row.serial) as (λ o. look_up row_serial lasts row.serial ≡ o
      → o ≡ None) [
        | None ↦ λ _. refl
        | Some y ↦ λ e.
            let there : look_up row_serial lasts row.serial ≡ Some row = e ∙ sym (part row.serial y e) ∙ stands in
            absurd (false≢true (sym is ∙ holds_has arrival_total arrival_ties arrival_of lasts row
            (look_some row_serial lasts row.serial row there).0))
      ] refl

module _ (history : ℕ → Option Row) (app : List ℕ) (minute : ℕ) where
  -- there is none
  pub adds_none : (shown : ℕ → Option Row) → LacksBefore history app minute → AddsLast history app minute shown shown
  adds_none shown lacks = record {
    stay = λ serial row there. there;
    come = λ serial row there. inl there;
    held = λ serial row there of_app in_time. absurd (lacks serial row there of_app in_time);
  }

  module _ (row : Row) (last : IsLastOf history app minute row) where
    holds_last : (shown : ℕ → Option Row) → shown row.serial ≡ Some row → HasLast history shown app minute
    holds_last shown at serial other there of_app in_time =
        (row, at, last.of_app, last.in_time, last.last serial other there of_app in_time)

    -- it is there
    pub adds_held : (shown : ℕ → Option Row) → shown row.serial ≡ Some row → AddsLast history app minute shown shown
    adds_held shown at = record {
      stay = λ serial other there. there;
      come = λ serial other there. inl there;
      held = holds_last shown at;
    }

    by_test : (serial : ℕ) (other : Row) (b : Bool) → nat_eq row.serial serial ≡ b
        → (if b then Some row else None) ≡ Some other
        → (history serial ≡ Some other) × IsLastOf history app minute other
    by_test serial other true same is = (
      ap history (sym (eqb-true row.serial serial same)) ∙ last.stands ∙ is,
      let one : row ≡ other = cc in subst (IsLastOf history app minute) one last,
    )
    by_test serial other false same is = absurd (let no : ⊥ = cc in no)

    by_old : (old : ℕ → Option Row) (serial : ℕ) (other : Row) (o : Option Row) → old serial ≡ o
        → or_else o (if nat_eq row.serial serial then Some row else None) ≡ Some other
        → (old serial ≡ Some other) ⊎ ((history serial ≡ Some other) × IsLastOf history app minute other)
    by_old old serial other (Some x) was is = inl (was ∙ is)
    by_old old serial other None was is = inr (by_test serial other (nat_eq row.serial serial) refl is)

    -- it is put in
    pub adds_put : (old new : ℕ → Option Row) → old row.serial ≡ None
        → ((serial : ℕ) → new serial ≡ or_this old row.serial row serial) → AddsLast history app minute old new
    adds_put old new free is = record {
      stay = λ serial other there. is serial
          ∙ ap (λ o. or_else o (if nat_eq row.serial serial then Some row else None)) there;
      come = λ serial other there. by_old old serial other (old serial) refl (sym (is serial) ∙ there);
      held = holds_last new (is row.serial ∙ rw (free, eq-eqb row.serial row.serial refl) refl);
    }

-- ---- of all queries

-- no query
pub lasts_none : (history : ℕ → Option Row) → HasLasts (IsQueriedIn []) history (look_up row_serial [])
lasts_none history = record {
  only = λ serial row shown. absurd (no row shown);
  lasts = λ app minute (query, there, of_app, at). absurd (nothing query there);
}
  where
    no : (row : Row) → None ≡ Some row → ⊥
    no row is = cc

-- one query more
pub lasts_more : (history old new : ℕ → Option Row) (done : List LastQuery) (query : LastQuery)
    → HasLasts (IsQueriedIn done) history old → AddsLast history query.app (query.moment + 1) old new
    → HasLasts (IsQueriedIn (done ++ query ∷ [])) history new
lasts_more history old new done query has adds = record {
  only = λ serial row shown. elim (adds.come serial row shown) [
    | inl before ↦
        let (there, (app, minute, (q, among, of_app, at), last)) = has.only serial row before in
        (there, (app, minute, (q, Contains-append_left done (query ∷ []) q among, of_app, at), last))
    | inr one ↦ (one.0, (query.app, query.moment + 1, (query, Contains-push done query, refl, refl), one.1))
  ];
  lasts = λ app minute (q, there, is_app, is_minute). elim (Contains-push_cases done query q there) [
    | inl before ↦ λ serial row at of_app in_time.
        let (r, shown, of, early, late) =
        has.lasts app minute (q, before, is_app, is_minute) serial row at of_app in_time in
        (r, adds.stay r.serial r shown, of, early, late)
    | inr same ↦
        subst (λ a. HasLast history new a minute) (ap (λ (x : LastQuery). x.app) same ∙ is_app)
        (subst (HasLast history new query.app) (ap (λ (x : LastQuery). x.moment + 1) same ∙ sym is_minute) adds.held)
  ];
}

-- the last rows of queries that ask for what is read are those that are read
pub lasts_asked : (Asked : List ℕ → ℕ → Type 0) (history shown : ℕ → Option Row) (queries : List LastQuery)
    → ((app : List ℕ) (minute : ℕ) → Asked app minute → IsQueriedIn queries app minute)
    → ((query : LastQuery) → Contains queries query → Asked query.app (query.moment + 1))
    → HasLasts (IsQueriedIn queries) history shown → HasLasts Asked history shown
lasts_asked Asked history shown queries found only has = record {
  only = λ serial row at.
      let (there, (app, minute, (query, among, is_app, is_minute), last)) = has.only serial row at in
      let asked : Asked app minute =
      subst (λ a. Asked a minute) is_app (subst (Asked query.app) (sym is_minute) (only query among)) in
      (there, (app, minute, asked, last));
  lasts = λ app minute asked. has.lasts app minute (found app minute asked);
}

-- so what was filled in is what a need needs
pub prepared : (need : Need) (kept : Kept) (lasts : List Row) (queries : List LastQuery)
    → ((app : List ℕ) (minute : ℕ) → Asks need (content_of kept) app minute → IsQueriedIn queries app minute)
    → ((query : LastQuery) → Contains queries query → Asks need (content_of kept) query.app (query.moment + 1))
    → kept.buffer.key ≡ key_of need → AreRows of_row lasts
    → HasLasts (IsQueriedIn queries) (content_of kept).sets.history (look_up row_serial lasts)
    → IsPrepared need lasts kept
prepared need kept lasts queries found only key rows has = record {
  key = key;
  rows = rows;
  part = λ row there. (look_some row_serial kept.history.items row.serial row
      (has.only row.serial row (look_has row_serial lasts rows.one_each row there)).0).0;
  lasts = lasts_asked (Asks need (content_of kept)) (content_of kept).sets.history (look_up row_serial lasts) queries
      found only has;
}

-- where memory was not refused
pub has_asked : {T E : Type 0} (need : Need) (kept : Kept) (lasts : List Row) (queries : List LastQuery) (r : Result T E)
    → ((app : List ℕ) (minute : ℕ) → Asks need (content_of kept) app minute → IsQueriedIn queries app minute)
    → ((query : LastQuery) → Contains queries query → Asks need (content_of kept) query.app (query.moment + 1))
    → kept.buffer.key ≡ key_of need → OnOk r (AreRows of_row lasts)
    → OnOk r (HasLasts (IsQueriedIn queries) (content_of kept).sets.history (look_up row_serial lasts))
    → OnOk r (IsPrepared need lasts kept)
has_asked need kept lasts queries (Err e) found only key rows has = tt
has_asked need kept lasts queries (Ok t) found only key rows has =
    prepared need kept lasts queries found only key rows has
