-- Lists and the links that make them.
use Rattle.std.proofs.Common.{◌↔◌, Bool, true, false, ℕ, ◌<◌, List, [], None, length, map, refl, subst}
use Rattle.std.specs.Prelude.{IsTrue}
use Rattle.std.specs.Bool.{MatchBool}
use Rattle.std.specs.List.{All, AllWithin, Contains, HoldsAt}
use Rattle.std.proofs.lemmas.Bool.{false≢true}
use Rattle.std.proofs.lemmas.List.Elements.{All-contains, All-contains_itself, All-from_all_within, All-weaker}
use Rattle.sqlite.specs.Order.{Row as Values}
use Rattle.app_definition_records.proofs.RisingLemmas.{Contains-map, Contains-map_back}
use Rattle.external_dependencies.specs.Link.{AreNamedOnce, KeepsNames}
use Rattle.external_dependencies.specs.Rising.{HaveSame}
use Rattle.external_dependencies.specs.declared.links.Link.{Link}
use Rattle.external_dependencies.proofs.OrderLemmas.{keeps_all}
use Rattle.plan_tables_schema.specs.Rows.{Tables}
use Rattle.plan_tables_schema.specs.declared.tables.Table.{Table}
use Rattle.plan_tables_schema.specs.declared.tables.Table.TheVariants as table
use Rattle.plan_tables_content.specs.Facts.{link_values}
use Rattle.plan_tables_loading.specs.Readable.{ShowsLinks}
use Rattle.plan_tables_loading.specs.Tables.{IsOneOf, ShowsOnly}

nothing_named : Link
nothing_named = record { app = []; predecessor = []; within = None }

-- what a search for one that does not stand in the lists answers
pub all_listed : (lists links : List Link) (r : Bool) → MatchBool r (AllWithin (Contains lists) links 0 (length links))
    ((k : ℕ) × (k < length links) × HoldsAt (λ x. Contains lists x → ⊥) links k) → IsTrue r ↔ All (Contains lists) links
all_listed lists links true all = (λ _. All-from_all_within (Contains lists) links all, λ _. refl)
all_listed lists links false (k, lt, stands) = (
  (λ is. absurd (false≢true is)),
  λ all. absurd (stands nothing_named (all k nothing_named lt)),
)

pub listed_same : (links lists : List Link) → KeepsNames links lists → All (Contains lists) links → HaveSame lists links
listed_same links lists keeps all x = (keeps.only x, All-contains (Contains lists) links x all)

-- where no two that differ have the same names, all stand in the lists
pub once_listed : (links lists : List Link) → KeepsNames links lists → AreNamedOnce links → All (Contains lists) links
once_listed links lists keeps once = All-weaker (Contains links) (Contains lists)
    (λ x there. (keeps_all links lists once keeps x).1 there) links (All-contains_itself links)

-- what is listed in other words
pub shows_same : {X : Type 0} (values_of : X → Values) (xs ys : List X) (all : Tables) (t : Table) → HaveSame ys xs
    → ShowsOnly all t (IsOneOf values_of xs) → ShowsOnly all t (IsOneOf values_of ys)
shows_same values_of xs ys all t same shows = record {
  exactly = λ v. (
    (λ there.
        let back = Contains-map_back values_of xs v ((shows.exactly v).0 there) in
        subst (Contains (map values_of ys)) back.2 (Contains-map values_of ys back.0 ((same back.0).1 back.1))),
    λ there.
        let back = Contains-map_back values_of ys v there in
        (shows.exactly v).1
        (subst (Contains (map values_of xs)) back.2 (Contains-map values_of xs back.0 ((same back.0).0 back.1))),
  );
}

-- the links whose rows are shown
pub shown_once : (all : Tables) (links : List Link) → ShowsOnly all table.LinkInForce (IsOneOf link_values links)
    → ShowsLinks all → AreNamedOnce links
shown_once all links shows readable a b at_a at_b same =
    readable.once a b ((shows.exactly (link_values a)).1 (Contains-map link_values links a at_a))
    ((shows.exactly (link_values b)).1 (Contains-map link_values links b at_b)) same
