-- A block gives no more names than its text has bytes, and one.
use Rattle.std.proofs.Common.{◌≡◌, ◌∙◌, ◌+◌, ◌≤◌, ℕ, zero, suc, List, [], ◌∷◌, length, refl, sym, ap, arith, Bool, true}
use Rattle.std.proofs.Common.{false, nat_eq}
use Rattle.std.specs.Prelude.{◌-◌, None, Option, Some, cond}
use Rattle.std.specs.Cmp.Lexicographic.{pointwise, slice_cmp, nat_list_cmp_total}
use Rattle.std.specs.FinMap as finite
use Rattle.std.specs.FinMap.{get-empty, len-empty, len-remove}
use Rattle.app_definition_records.proofs.ByNameLemmas.{get-removed, same_by_name}
use Rattle.std.specs.Ordering.{nat_cmp}
use Rattle.app_definition_records.specs.Applications.{FitsApplication, IsApplicationOf}
use Rattle.app_definitions.specs.Blocks.{Gives, ReadsAs}
use Rattle.app_definition_records.specs.ByName.{AreGivenBy, IsDefinedBy, records_of}
use Rattle.app_definition_records.specs.Calendars.{FitsCalendar, IsCalendarOf}
use Rattle.app_definition_records.specs.CycleRecords.{FitsRunCycle, AreRunCyclesOf}
use Rattle.app_definition_records.specs.Periods.{FitsPeriod, IsPeriodOf}
use Rattle.app_definition_records.specs.Predecessors.{FitsPredecessors, ArePredecessorsOf}
use Rattle.app_definitions.specs.Definitions.{names_given}
use Rattle.app_definition_records.specs.Fields.{field}
use Rattle.app_definition_records.specs.Records.{block_records}
use Rattle.app_definitions.specs.declared.kinds.Block.{Block}
use Rattle.app_definitions.specs.declared.kinds.Block.TheVariants as block
use Rattle.app_definitions.specs.declared.kinds.Kind.{Kind}
use Rattle.app_definitions.specs.declared.kinds.Kind.TheVariants as kind
use Rattle.app_definition_records.specs.FieldCounts.{HasApplicationFields, HasCalendarFields, HasCycleFields}
use Rattle.app_definition_records.specs.FieldCounts.{HasPeriodFields, HasPredecessorFields}
use Rattle.csv.specs.Machine.{Read, next_record}
use Rattle.csv.specs.Reading.{default_config, is_bom, records_from, records_next, strip_bom}
use Rattle.csv.specs.declared.parser.Config.{Config}
use Rattle.csv.specs.declared.parser.State.{State}
use Rattle.csv.specs.declared.parser.State.TheVariants.{StartRecord as start}

-- a text has no more records than it was cut for
next_few : (more : State → List ℕ → List (List (List ℕ))) (n : ℕ) → ((s : State) (xs : List ℕ) → length (more s xs) ≤ n)
    → (o : Option Read) → length (records_next more o) ≤ n + 1
next_few more n few None = omega arith
next_few more n few (Some p) = let h = few p.1 p.2 in omega (arith, h)

from_few : (cfg : Config) (n : ℕ) (s : State) (xs : List ℕ) → length (records_from cfg n s xs) ≤ n
unfolding records_from
from_few cfg zero s xs = omega arith
from_few cfg (suc n) s xs =
    let h = next_few (records_from cfg n) n (from_few cfg n) (next_record cfg s [] [] xs) in omega (arith, h)

stripped : (xs : List ℕ) → length (strip_bom xs) ≤ length xs
unfolding strip_bom
stripped [] = omega arith
stripped (a ∷ []) = omega arith
stripped (a ∷ b ∷ []) = omega arith
stripped (a ∷ b ∷ c ∷ rest) = cut (is_bom a b c)
  where
    cut : (t : Bool) → length (cond t rest (a ∷ b ∷ c ∷ rest)) ≤ length (a ∷ b ∷ c ∷ rest)
    cut true = omega arith
    cut false = omega arith

pub few_records : (text : List ℕ) → length (block_records text) ≤ length text + 1
few_records text =
    let short = stripped text in
    let few = from_few default_config (length (strip_bom text) + 1) start (strip_bom text) in
    omega (arith, few, short)

-- the definitions by name that a block has
abbrev ByName : Type 0 → Type 0
ByName D = finite.FinMap (slice_cmp nat_cmp) D

-- names that have records each are no more than the records
few_names : {D : Type 0} (rows : List (List (List ℕ))) (m : ByName D)
    → ((name : List ℕ) → records_of name rows ≡ [] → finite.get m name ≡ None) → finite.len m ≤ length rows
few_names {D} [] m none =
    let no_names : m ≡ finite.empty =
    same_by_name m finite.empty (λ q. none q refl ∙ sym (get-empty {X = D} (slice_cmp nat_cmp) q)) in
    let no : finite.len m ≡ 0 = ap finite.len no_names ∙ len-empty (slice_cmp nat_cmp) D in
    omega (arith, no)
few_names {D} (row ∷ rest) m none =
    let k = field row 0 in
    let fewer = few_names rest (finite.remove m k) (λ name absent. gone name absent (pointwise nat_eq k name) refl) in
    taken (finite.contains_key m k) (len-remove nat_list_cmp_total m k) fewer
  where
    gone : (name : List ℕ) → records_of name rest ≡ [] → (b : Bool) → pointwise nat_eq (field row 0) name ≡ b
        → finite.get (finite.remove m (field row 0)) name ≡ None
    gone name absent true e = get-removed m (field row 0) name ∙ ap (λ b. cond b None (finite.get m name)) e
    gone name absent false e =
        get-removed m (field row 0) name ∙ ap (λ b. cond b None (finite.get m name)) e
        ∙ none name (ap (λ b. cond b (row ∷ records_of name rest) (records_of name rest)) e ∙ absent)

    taken : (b : Bool) → finite.len (finite.remove m (field row 0)) ≡ cond b (finite.len m - 1) (finite.len m)
        → finite.len (finite.remove m (field row 0)) ≤ length rest → finite.len m ≤ length (row ∷ rest)
    taken true e few = omega (arith, e, few)
    taken false e few = omega (arith, e, few)

given_absent : {D : Type 0} (IsMadeOf : D → List (List (List ℕ)) → Type 0) (o : Option D) (rows : List (List (List ℕ)))
    → IsDefinedBy IsMadeOf o rows → rows ≡ [] → o ≡ None
given_absent IsMadeOf None rows h e = refl
given_absent IsMadeOf (Some d) rows h e = absurd (h.0 e)

given_few : {D : Type 0} (IsMadeOf : D → List (List (List ℕ)) → Type 0) (m : ByName D) (rows : List (List (List ℕ)))
    → AreGivenBy IsMadeOf m rows → finite.len m ≤ length rows
given_few IsMadeOf m rows given =
    few_names rows m (λ name. given_absent IsMadeOf (finite.get m name) (records_of name rows) (given name))

gives_few : {D : Type 0} (of : ByName D → Block) (HasFields : ℕ → Type 0) (FitsName : List (List (List ℕ)) → List (List ℕ) → Type 0)
    (IsMadeOf : D → List (List (List ℕ)) → Type 0) (text : List ℕ) (b : Block)
    → ((m : ByName D) → names_given (of m) ≡ finite.len m)
    → Gives of HasFields FitsName IsMadeOf (block_records text) b → names_given b ≤ length text + 1
gives_few of HasFields FitsName IsMadeOf text b counts gives =
    let names : names_given b ≡ finite.len gives.definitions =
    ap names_given gives.is ∙ counts gives.definitions in
    let few = given_few IsMadeOf gives.definitions (block_records text) gives.given in
    let records = few_records text in
    omega (arith, names, few, records)

-- a block has no more names than its text has bytes, and one
pub names_few : (k : Kind) (text : List ℕ) (b : Block) → ReadsAs k text b → names_given b ≤ length text + 1
names_few kind.Applications text b h =
    gives_few block.Applications HasApplicationFields FitsApplication IsApplicationOf text b (λ m. refl) h
names_few kind.Calendars text b h =
    gives_few block.Calendars HasCalendarFields FitsCalendar IsCalendarOf text b (λ m. refl) h
names_few kind.Periods text b h = gives_few block.Periods HasPeriodFields FitsPeriod IsPeriodOf text b (λ m. refl) h
names_few kind.Predecessors text b h =
    gives_few block.Predecessors HasPredecessorFields FitsPredecessors ArePredecessorsOf text b (λ m. refl) h
names_few kind.RunCycles text b h =
    gives_few block.RunCycles HasCycleFields FitsRunCycle AreRunCyclesOf text b (λ m. refl) h
names_few kind.Options text b h = let one : names_given b ≡ 1 = ap names_given h.1 in omega (arith, one)
