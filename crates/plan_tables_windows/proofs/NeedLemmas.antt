-- What is found out for a need or a change is all that it needs.
use Rattle.std.proofs.Common.{◌≡◌, ◌+◌, ◌≤◌, ℕ, Bool, List, None, Option, Some, arith, false, refl, subst, sym, true}
use Rattle.std.specs.Prelude.{not, nat_lt}
use Rattle.std.proofs.lemmas.Bool.{le-ltb, ltb-false}
use Rattle.occurrences.specs.declared.place.Deletion.{Deletion}
use Rattle.occurrences.specs.declared.place.Reason.TheVariants.{Operator}
use Rattle.occurrences.specs.declared.key.Key.{Key}
use Rattle.planner_machine.specs.Content.{Content}
use Rattle.planner_machine.specs.declared.content.Bounds.{Bounds}
use Rattle.plan_store.specs.HistoryReads.{ReadsKey, HasLast}
use Rattle.plan_store.specs.Parts.{HasBars, IsPartOf, Knows, KnowsDeletion, Rest}
use Rattle.plan_store.specs.Views.{Asks, bars, bars_from, is_by_operator}
use Rattle.plan_store.specs.declared.stores.Need.{Need}
use Rattle.plan_store.specs.declared.stores.Need.TheVariants as need
use Rattle.plan_store.specs.Queries.{IsQueriedIn}
use Rattle.plan_tables_windows.specs.Unknown.{HasMore}
use Rattle.plan_tables_windows.specs.Windows.{HasLastsOf, IsReadyFor, KnowsLive}
use Rattle.plan_store.specs.declared.queries.LastQuery.{LastQuery}
use Rattle.plan_tables_windows.specs.Loading.{IsAnswered, KnowsAll, ends_by}
use Rattle.plan_tables_windows.proofs.BarLemmas.{bars_so}
use Rattle.plan_tables_windows.proofs.LoadLemmas.{last_still}
use Rattle.plan_tables_windows.proofs.EachLemmas.{Each, knows_still}

-- ---- the last rows

-- lists that have more ask for the same
asks_back : (n : Need) (rest : Rest) (was now : Content) → HasMore rest was now → (app : List ℕ) (minute : ℕ)
    → Asks n now app minute → Asks n was app minute
asks_back need.Definitions rest was now more app minute asked = asked
asks_back (need.Key key) rest was now more app minute asked =
    subst (λ (c : Content). Asks (need.Key key) c app minute) more.same asked
asks_back (need.LongTerm only) rest was now more app minute asked =
    subst (λ (c : Content). Asks (need.LongTerm only) c app minute) more.same asked
asks_back (need.Daily t) rest was now more app minute asked = asked

pub answered_still : (ask : LastQuery) (rest : Rest) (a b : Content) → IsPartOf rest b → HasMore rest a b
    → IsAnswered ask rest a → IsAnswered ask rest b
answered_still ask rest a b part more = last_still rest a b ask.app (ask.moment + 1) more

pub asked_found : (n : Need) (rest : Rest) (was now : Content) (asks : List LastQuery)
    → ((app : List ℕ) (minute : ℕ) → Asks n was app minute → IsQueriedIn asks app minute) → HasMore rest was now
    → Each IsAnswered asks rest now → HasLastsOf (Asks n now) rest now
asked_found n rest was now asks found more answered app minute asked =
    let (ask, there, is_app, is_minute) = found app minute (asks_back n rest was now more app minute asked) in
    subst (λ a. HasLast rest.history now.sets.history a minute) is_app
    (subst (HasLast rest.history now.sets.history ask.app) (sym is_minute) (answered ask there))

pub lasts_still : (n : Need) (rest : Rest) (a b : Content) → HasMore rest a b → HasLastsOf (Asks n a) rest a
    → HasLastsOf (Asks n b) rest b
lasts_still n rest a b more has app minute asked =
    last_still rest a b app minute more (has app minute (asks_back n rest a b more app minute asked))

-- ---- a key, and the long-term plan

pub key_ready : (key : Key) (rest : Rest) (a b : Content) → HasMore rest a b
    → HasLastsOf (Asks (need.Key key) a) rest a → (HasLastsOf (ReadsKey a key) rest a → KnowsLive rest key b)
    → IsReadyFor rest (need.Key key) b
key_ready key rest a b more has knows = (lasts_still (need.Key key) rest a b more has, knows has)

-- what keeps keys from being made they have still
pub bars_still : (bounds : Option Bounds) (rest : Rest) (a b : Content) → HasMore rest a b → HasBars bounds rest a
    → HasBars bounds rest b
bars_still bounds rest a b more has serial deletion at barred = more.deletions serial deletion
    (has serial deletion at barred)

not_so : (b : Bool) → not b ≡ true → b ≡ false
not_so false is = refl
not_so true is = absurd (let h : ⊥ = cc is in h)

bars_late : (moment : ℕ) (deletion : Deletion) → deletion.reason ≡ Operator → moment ≤ deletion.row.key.ia
    → bars_from moment deletion ≡ true
bars_late moment deletion reason late =
    let after : nat_lt deletion.row.key.ia moment ≡ false = le-ltb deletion.row.key.ia moment late in
    let by : is_by_operator deletion.reason ≡ true = subst (λ r. is_by_operator r ≡ true) (sym reason) refl in
    rw (after, by) refl

-- what keeps keys from being made from a moment on does so from an earlier one on
bars_earlier : (earlier moment : ℕ) (deletion : Deletion) → earlier ≤ moment → bars_from moment deletion ≡ true
    → bars_from earlier deletion ≡ true
bars_earlier earlier moment deletion le barred =
    let so = bars_so moment deletion barred in
    bars_late earlier deletion so.0 (omega (arith, le, so.1))

-- where a plan doesn't end later, the lists have what keeps keys from being made
pub bars_by : (o : Option Bounds) (bounds : Bounds) (rest : Rest) (c : Content) → ends_by o bounds.plan_end ≡ true
    → HasBars o rest c → HasBars (Some bounds) rest c
bars_by None bounds rest c is has = absurd (let h : ⊥ = cc is in h)
bars_by (Some known) bounds rest c is has = λ serial deletion at barred. has serial deletion at
    (bars_earlier known.plan_end bounds.plan_end deletion
    (ltb-false bounds.plan_end known.plan_end (not_so (nat_lt bounds.plan_end known.plan_end) is)) barred)

-- and nothing does where no plan end is set
pub no_bars : (o : Option Bounds) (rest : Rest) (c : Content) → o ≡ None → HasBars o rest c
no_bars o rest c is serial deletion at barred =
    let no = subst (λ b. bars b deletion ≡ true) is barred in absurd (let h : ⊥ = cc no in h)

-- ---- what is unknown

pub all_known : (completed deleted : List ℕ) (rest : Rest) (a b : Content) → IsPartOf rest b → HasMore rest a b
    → Each (λ serial r c. Knows r c serial) completed rest a
    → Each (λ serial r c. KnowsDeletion r c serial) deleted rest b
    → KnowsAll completed deleted rest b
all_known completed deleted rest a b part more one two = record {
  history = λ serial there. knows_still serial rest a b part more (one serial there);
  deletions = two;
}
