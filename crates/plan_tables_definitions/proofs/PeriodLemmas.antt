-- Periods as lists of entries.
use Rattle.std.proofs.Common.{◌≡◌, ℕ, zero, suc, ◌+◌, ◌<◌, ◌≤◌, ◌^◌, List, [], ◌∷◌, Option, Some, None}
use Rattle.std.proofs.Common.{length, refl, sym, ap, ◌∙◌, subst, arith, get_or}
use Rattle.std.specs.Prelude.{slice_get, map, IfSome, option_map}
use Rattle.std.specs.Str.{byte}
use Rattle.std.proofs.lemmas.Option.{get_or_from_slice_get, slice_get-map, slice_get_within}
use Rattle.sqlite.specs.Order.{Row as Values, column}
use Rattle.work_calendars.specs.Day.{IsDay}
use Rattle.plan_periods.specs.Period.{Entry, HasRisingOrigins}
use Rattle.plan_periods.specs.declared.periods.Period.{Period}
use Rattle.plan_periods.specs.declared.periods.Period.TheVariants as period
use Rattle.plan_tables_content.specs.Facts.{IsPeriodRow}
use Rattle.plan_tables_content.specs.Decoded.{nat_in, or_nat, text_in}
use Rattle.plan_tables_content.proofs.Decoded.{nat_back}
use Rattle.plan_tables_definitions.specs.DraftedPeriods.{AreOfDays, IsReadable, IsSoundPeriodOfDays, LetteredEntry}
use Rattle.plan_tables_definitions.specs.DraftedPeriods.{entries_of, lettered_values, listed_entry}
use Rattle.plan_tables_definitions.specs.Gathering.{Alike}
use Rattle.plan_tables_definitions.specs.Placed.{HoldsPlaces, ByPlace, IsRowOfList, IsPlaced}
use Rattle.plan_tables_definitions.proofs.PlaceLemmas.{in_order_listed, listed_in_order, some_is}

abbrev first_letter : List ℕ → ℕ
first_letter [] = 0
first_letter (n ∷ rest) = n

pub lettered_back : (name : List ℕ) (k l : ℕ) (x y : LetteredEntry)
    → lettered_values name k x ≡ lettered_values name l y → (k ≡ l) × (x ≡ y)
lettered_back name k l x y e = (ap (λ (v : Values). nat_in (column v 1)) e, λ i. (letter i, origin i, second i))
  where
    letter : x.0 ≡ y.0
    letter = ap (λ (v : Values). first_letter (text_in (column v 2))) e

    origin : x.1 ≡ y.1
    origin = ap (λ (v : Values). nat_in (column v 3)) e

    second : x.2 ≡ y.2
    second = sym (nat_back x.2) ∙ ap (λ (v : Values). or_nat (column v 4)) e ∙ nat_back y.2

-- ---- the rows of a period are those of its entries

mapped_at : (es : List Entry) (place : ℕ) (x : LetteredEntry) → slice_get (map listed_entry es) place ≡ Some x
    → (e : Entry) × (slice_get es place ≡ Some e) × (listed_entry e ≡ x)
mapped_at [] place x at = absurd (let h : ⊥ = cc in h)
mapped_at (e ∷ es) zero x at = (e, refl, some_is (listed_entry e) x at)
mapped_at (e ∷ es) (suc place) x at = mapped_at es place x at

only_one : (e : LetteredEntry) (place : ℕ) (x : LetteredEntry) → slice_get (e ∷ []) place ≡ Some x
    → (place ≡ 0) × (e ≡ x)
only_one e zero x at = (refl, some_is e x at)
only_one e (suc place) x at = absurd (let h : ⊥ = cc in h)

one_row : (name : List ℕ) (e : LetteredEntry)
    → Alike (λ v. v ≡ lettered_values name 0 e) (IsRowOfList (lettered_values name) (e ∷ []))
one_row name e v = (
  λ is. (0, e, refl, is),
  λ (place, x, at, is). let (first, same) = only_one e place x at in
      is ∙ sym (λ i. lettered_values name (sym first i) (same i)),
)

pub period_listed : (name : List ℕ) (p : Period)
    → Alike (IsPeriodRow name p) (IsRowOfList (lettered_values name) (entries_of p))
period_listed name (period.All origin interval) = one_row name (byte "A", origin, Some interval)
period_listed name (period.Work origin interval) = one_row name (byte "W", origin, Some interval)
period_listed name (period.Listed entries) = λ v. (
  λ (place, e, at, is). (
    place,
    listed_entry e,
    slice_get-map listed_entry entries place ∙ ap (option_map listed_entry) at,
    is,
  ),
  λ (place, x, at, is). let (e, here, same) = mapped_at entries place x at in
      (place, e, here, is ∙ ap (lettered_values name place) (sym same)),
)

-- ---- a period has the entries of no other

abbrev letter_of : List LetteredEntry → ℕ
letter_of [] = 0
letter_of (e ∷ es) = e.0

abbrev origin_of : List LetteredEntry → ℕ
origin_of [] = 0
origin_of (e ∷ es) = e.1

abbrev number_or : Option ℕ → ℕ
number_or None = 0
number_or (Some n) = n

abbrev second_of : List LetteredEntry → ℕ
second_of [] = 0
second_of (e ∷ es) = number_or e.2

abbrev unlisted : LetteredEntry → Entry
unlisted e = (e.1, e.2)

all_back : (es : List Entry) → map unlisted (map listed_entry es) ≡ es
all_back [] = refl
all_back (e ∷ es) = ap (λ (l : List Entry). e ∷ l) (all_back es)

not_listed : (letter : ℕ) (x : LetteredEntry) (es : List Entry) → x.0 ≡ letter → 0 < letter → (letter ≡ byte "N" → ⊥)
    → x ∷ [] ≡ map listed_entry es → ⊥
not_listed letter x [] is some other e = let h : x.0 ≡ 0 = ap letter_of e in absurd (omega (arith, is, h, some))
not_listed letter x (f ∷ es) is some other e = other (sym is ∙ ap letter_of e)

pub same_period : (p q : Period) → entries_of p ≡ entries_of q → p ≡ q
same_period (period.All o m) (period.All k n) e = λ i. period.All (ap origin_of e i) (ap second_of e i)
same_period (period.Work o m) (period.Work k n) e = λ i. period.Work (ap origin_of e i) (ap second_of e i)
same_period (period.Listed es) (period.Listed fs) e = ap period.Listed (sym (all_back es) ∙ ap (map unlisted) e
    ∙ all_back fs)
same_period (period.All o m) (period.Work k n) e =
    let h : byte "A" ≡ byte "W" = ap letter_of e in absurd (omega (arith, h))
same_period (period.Work o m) (period.All k n) e =
    let h : byte "W" ≡ byte "A" = ap letter_of e in absurd (omega (arith, h))
same_period (period.All o m) (period.Listed fs) e =
    absurd (not_listed (byte "A") (byte "A", o, Some m) fs refl (omega arith) (λ h. omega (arith, h)) e)
same_period (period.Work o m) (period.Listed fs) e =
    absurd (not_listed (byte "W") (byte "W", o, Some m) fs refl (omega arith) (λ h. omega (arith, h)) e)
same_period (period.Listed es) (period.All k n) e =
    absurd (not_listed (byte "A") (byte "A", k, Some n) es refl (omega arith) (λ h. omega (arith, h)) (sym e))
same_period (period.Listed es) (period.Work k n) e =
    absurd (not_listed (byte "W") (byte "W", k, Some n) es refl (omega arith) (λ h. omega (arith, h)) (sym e))

-- ---- entries that rows can tell

module _ (es : List Entry) (rising : HasRisingOrigins es) where
  -- an origin is not before its place
  origin_from : (place : ℕ) → place < length es → place ≤ (get_or es place (0, None)).0
  origin_from zero less = omega arith
  origin_from (suc place) less =
      let before : place ≤ (get_or es place (0, None)).0 = origin_from place (omega (arith, less)) in
      let step : (get_or es place (0, None)).0 < (get_or es (place + 1) (0, None)).0 =
      rising place (0, None) (omega (arith, less)) in
      let same : place + 1 ≡ suc place = omega arith in
      subst (λ n. n ≤ (get_or es n (0, None)).0) same (omega (arith, before, step))

day_fits : (n : ℕ) → IsDay n → n < 2 ^ 32
day_fits n (first, last) = omega (arith, last)

end_fits : (o : Option ℕ) → IfSome o IsDay → IfSome o (λ n. n < 2 ^ 32)
end_fits None is = tt
end_fits (Some n) is = day_fits n is

pub readable : (name : List ℕ) (p : Period) (place : ℕ) (x : LetteredEntry) → IsSoundPeriodOfDays name p
    → slice_get (entries_of p) place ≡ Some x → (place < 2 ^ 32) × IsReadable x
readable name (period.All o m) place x is at = let (first, same) = only_one (byte "A", o, Some m) place x at in (
  omega (arith, first),
  subst IsReadable same (is.days, let (low, high) = is.sound in omega (arith, high)),
)
readable name (period.Work o m) place x is at = let (first, same) = only_one (byte "W", o, Some m) place x at in (
  omega (arith, first),
  subst IsReadable same (is.days, let (low, high) = is.sound in omega (arith, high)),
)
readable name (period.Listed es) place x is at = let (e, here, same) = mapped_at es place x at in
    let (day, end) = is.days place e here in
    let (some, ends, rising) = is.sound in
    let from : place ≤ (get_or es place (0, None)).0 =
    origin_from es rising place (slice_get_within es place e here) in
    let it : get_or es place (0, None) ≡ e = get_or_from_slice_get es place e (0, None) here in
    let bound : place ≤ e.0 = subst (λ (f : Entry). place ≤ f.0) it from in
    let fits : e.0 < 2 ^ 32 = day_fits e.0 day in
    (omega (arith, bound, fits), subst IsReadable same (day, end_fits e.1 end))

-- ---- from entries at places

through : {P Q R : Values → Type 0} → Alike P Q → Alike Q R → Alike P R
through first then v = (λ is. (then v).0 ((first v).0 is), λ is. (first v).1 ((then v).1 is))

back : {P Q : Values → Type 0} → Alike P Q → Alike Q P
back alike v = ((alike v).1, (alike v).0)

pub period_alike : (name : List ℕ) (p : Period) (m : ByPlace LetteredEntry) (entries : List LetteredEntry)
    → entries_of p ≡ entries → HoldsPlaces entries m → Alike (IsPeriodRow name p) (IsPlaced (lettered_values name) m)
period_alike name p m entries same order = through {Q = IsRowOfList (lettered_values name) (entries_of p)}
    (period_listed name p)
    (in_order_listed (lettered_values name) (lettered_back name) (entries_of p) m
    (subst (λ l. HoldsPlaces l m) (sym same) order))

pub period_in_order : (name : List ℕ) (p : Period) (m : ByPlace LetteredEntry)
    → Alike (IsPeriodRow name p) (IsPlaced (lettered_values name) m) → HoldsPlaces (entries_of p) m
period_in_order name p m alike = listed_in_order (lettered_values name) (lettered_back name) (entries_of p) m
    (through {Q = IsPeriodRow name p} (back {P = IsPeriodRow name p} (period_listed name p)) alike)

-- an entry of origins that are days
pub origin_at : (es : List Entry) (place : ℕ) (xs : List LetteredEntry) (x : LetteredEntry) → AreOfDays es
    → map listed_entry es ≡ xs → slice_get xs place ≡ Some x → (e : Entry) × IfSome e.1 IsDay × (x ≡ listed_entry e)
origin_at es place xs x days same at =
    let (e, here, is) = mapped_at es place x (ap (λ l. slice_get l place) same ∙ at) in
    (e, (days place e here).1, sym is)
