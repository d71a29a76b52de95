-- What is spelled is read, and only that.
use Rattle.std.proofs.Common.{true, false, ◌≡◌, inl, sym, ap, subst, ◌∙◌, refl, ℕ, ◌+◌, ◌-◌, ◌*◌, ◌/◌, ◌%◌, ◌<◌, ◌≤◌}
use Rattle.std.proofs.Common.{List, [], ◌∷◌, ◌++◌, take, drop, length, slice_index, ℤ, pos, negsuc, ◌≤ℤ◌, arith}
use Rattle.std.specs.Prelude.{nat_eq}
use Rattle.std.specs.Cmp.Lexicographic.{pointwise, bytes_decides}
use Rattle.std.proofs.lemmas.Int.{by_lt_z}
use Rattle.jiff_core.specs.declared.civil.date.Date.{Date}
use Rattle.jiff_core.specs.Date.{epoch_day, IsYmd}
use Rattle.jiff_core.specs.Calendar.{IsDate}
use Rattle.jiff_core.proofs.CalendarLemmas.{days_in_month_bounds}
use Rattle.jiff_core.proofs.SignedLemmas.{signed_arith}
use Rattle.jiff_core.proofs.StandardFacts.{known_days}
use Rattle.jiff_core.proofs.DateLemmas.{epoch_day-lt, epoch_day_injective, epoch_day_same}
use Rattle.work_calendars.specs.Day.{IsDay, first_day, last_day}
use Rattle.std.proofs.Common.{length-append}
use Rattle.std.proofs.Common.{append_assoc, slice_set, length-drop}
use Rattle.std.proofs.Math.ListN.{drop_of_length-le}
use Rattle.std.proofs.Math.Seq.{take-append_seam, take-append-add, drop-append-add, get_or-append_seam}
use Rattle.std.proofs.Math.Seq.{set-append_seam, drop-cons, take-length}
use Rattle.std.proofs.lemmas.List.{take-append-drop, append-nil}
use Rattle.work_calendars.specs.Moment.{day_of_moment, minute_of_moment}
use Rattle.work_calendars.specs.Spelling.{digit, date_spelling, clock_spelling, SpellsDay, SpellsMinute, SpellsMoment}

epoch : Date
epoch =
    record {
      year = pos 1970;
      month = 1;
      day = 1;
      year_in = omega (arith, signed_arith);
      month_in = omega arith;
      day_in = omega arith;
    }

-- a date on or after the epoch has a year that is no negative number
pub natural_year : (date : Date) (day : ℕ) → epoch_day date ≡ pos day → pos 0 ≤ℤ date.year
unfolding epoch
natural_year date day e =
    by_lt_z date.year (pos 0) (λ lt.
    let before = epoch_day-lt date epoch (inl (omega (arith, signed_arith))) in
    let zero : epoch_day epoch ≡ pos 0 = known_days.0 in
    absurd (omega (arith, signed_arith))) (λ ge. ge)

-- a number of the range is a day number
pub day_number : (z : ℤ) → pos first_day ≤ℤ z → z ≤ℤ pos last_day → (d : ℕ) × IsDay d × (z ≡ pos d)
day_number (pos n) a b =
    (n, (omega (arith, signed_arith), omega (arith, signed_arith)), refl)
day_number (negsuc n) a b = absurd (omega (arith, signed_arith))

pub day_number-epoch_day : (date : Date) (z : ℤ) → pos first_day ≤ℤ z →
    z ≤ℤ pos last_day → z ≡ epoch_day date → (d : ℕ) × IsDay d × (epoch_day date ≡ pos d)
day_number-epoch_day date z a b e =
    let n = day_number z a b in
    (n.0, n.1, sym e ∙ n.2)

pub same_natural : (m n : ℕ) → pos m ≡ pos n → m ≡ n
same_natural m n e = omega (arith, signed_arith)

-- ---- one day has one text, and one text spells one day

year_fits : (text : List ℕ) (day : ℕ) (s : SpellsDay text day) → s.year < 10000
year_fits text day s =
    let year = s.date.year_in in
    let e = s.is_year in
    omega (arith, signed_arith)

days_fit : (text : List ℕ) (day : ℕ) (s : SpellsDay text day) → (s.date.month < 100) × (s.date.day < 100)
days_fit text day s =
    let month = s.date.month_in in
    let d = s.date.day_in in
    let bound = days_in_month_bounds s.date.year s.date.month in
    (omega arith, omega arith)

pub SpellsDay-one_text : (s t : List ℕ) (day : ℕ) → SpellsDay s day → SpellsDay t day → s ≡ t
SpellsDay-one_text s t day p q =
    let same = epoch_day_injective p.date q.date (p.number ∙ sym q.number) in
    let year : p.year ≡ q.year = same_natural p.year q.year (sym p.is_year ∙ same.0 ∙ q.is_year) in
    p.text_is
    ∙ ap (λ y. date_spelling y p.date.month p.date.day) year
    ∙ ap (λ m. date_spelling q.year m p.date.day) same.1
    ∙ ap (λ d. date_spelling q.year q.date.month d) same.2
    ∙ sym q.text_is

same_two : (m n : ℕ) → m < 100 → n < 100 → digit (m / 10) ≡ digit (n / 10) → digit (m % 10) ≡ digit (n % 10) → m ≡ n
same_two m n a b tens ones = omega arith

same_four : (m n : ℕ) → m < 10000 → n < 10000 → digit (m / 1000) ≡ digit (n / 1000) →
    digit (m / 100 % 10) ≡ digit (n / 100 % 10) → digit (m / 10 % 10) ≡ digit (n / 10 % 10) →
    digit (m % 10) ≡ digit (n % 10) → m ≡ n
same_four m n a b p q r s = omega arith

pub SpellsDay-one_day : (text : List ℕ) (c d : ℕ) → SpellsDay text c → SpellsDay text d → c ≡ d
SpellsDay-one_day text c d p q =
    let e : date_spelling p.year p.date.month p.date.day ≡ date_spelling q.year q.date.month q.date.day
    = sym p.text_is ∙ q.text_is in
    let pf = days_fit text c p in
    let qf = days_fit text d q in
    let at : (k : ℕ) → slice_index (date_spelling p.year p.date.month p.date.day) k ≡ slice_index
    (date_spelling q.year q.date.month q.date.day) k
    = λ k. ap (λ s. slice_index s k) e in
    let year : p.year ≡ q.year = same_four p.year q.year (year_fits text c p)
    (year_fits text d q) (at 0) (at 1) (at 2) (at 3) in
    let month : p.date.month ≡ q.date.month = same_two _ _ pf.0 qf.0 (at 5) (at 6) in
    let day : p.date.day ≡ q.date.day = same_two _ _ pf.1 qf.1 (at 8) (at 9) in
    let number : epoch_day p.date ≡ epoch_day q.date
    = epoch_day_same p.date q.date (p.is_year ∙ ap pos year ∙ sym q.is_year) month day in
    same_natural c d (sym p.number ∙ number ∙ q.number)

pub length-SpellsDay : (text : List ℕ) (day : ℕ) → SpellsDay text day → length text ≡ 10
length-SpellsDay text day s = ap length s.text_is

-- ---- what is read of a text that spells a day

-- v is the number that the two digits at that place spell, if they do
abbrev pub ReadsTwo : List ℕ → ℕ → ℕ → Type 0
ReadsTwo text at v = (n : ℕ) → n < 100 → slice_index text at ≡ digit (n / 10) →
    slice_index text (at + 1) ≡ digit (n % 10) → v ≡ n

pub record ReadsDate (text : List ℕ) (century rest month day : ℕ) : Type 0 where
  pub century_is : ReadsTwo text 0 century
  pub rest_is : ReadsTwo text 2 rest
  pub month_is : ReadsTwo text 5 month
  pub day_is : ReadsTwo text 8 day

pub record HasParts (date : Date) (century rest month day : ℕ) : Type 0 where
  pub year_is : date.year ≡ pos (century * 100 + rest)
  pub month_is : date.month ≡ month
  pub day_is : date.day ≡ day

pub parts_read : (text : List ℕ) (d century rest month day : ℕ) (s : SpellsDay text d) →
    ReadsDate text century rest month day → HasParts s.date century rest month day
parts_read text d century rest month day s r =
    let at : (k : ℕ) → slice_index text k ≡ slice_index (date_spelling s.year s.date.month s.date.day) k
    = λ k. ap (λ t. slice_index t k) s.text_is in
    let year_fit = year_fits text d s in
    let fit = days_fit text d s in
    let y = s.year in
    let thousands : digit (y / 1000) ≡ digit (y / 100 / 10) = ap digit (omega arith) in
    let tens : digit (y / 10 % 10) ≡ digit (y % 100 / 10) = ap digit (omega arith) in
    let ones : digit (y % 10) ≡ digit (y % 100 % 10) = ap digit (omega arith) in
    let c : century ≡ y / 100 = r.century_is (y / 100) (omega arith) (at 0 ∙ thousands) (at 1) in
    let e : rest ≡ y % 100 = r.rest_is (y % 100) (omega arith) (at 2 ∙ tens) (at 3 ∙ ones) in
    let whole : y ≡ century * 100 + rest = omega arith in
    record {
      year_is = s.is_year ∙ ap pos whole;
      month_is = sym (r.month_is s.date.month fit.0 (at 5) (at 6));
      day_is = sym (r.day_is s.date.day fit.1 (at 8) (at 9));
    }

-- the numbers are those of a date
pub IsDate-parts : (date : Date) (century rest month day : ℕ) →
    HasParts date century rest month day → IsDate (pos (century * 100 + rest)) (pos month) (pos day)
IsDate-parts date century rest month day h =
    let whole : IsDate date.year (pos date.month) (pos date.day)
    = (
      date.year_in,
      (omega (arith, signed_arith, date.month_in), omega (arith, signed_arith, date.month_in)),
      (omega (arith, signed_arith, date.day_in), omega (arith, signed_arith, date.day_in)),
    ) in
    rw (h.year_is, h.month_is, h.day_is) at whole

-- and the date of those numbers has the same day number
pub epoch_day-parts : (date other : Date) (century rest month day : ℕ) →
    HasParts date century rest month day → IsYmd (pos (century * 100 + rest)) (pos month) (pos day) other →
    epoch_day other ≡ epoch_day date
epoch_day-parts date other century rest month day h y =
    epoch_day_same other date (y.0 ∙ sym h.year_is) (same_natural _ _ y.1 ∙
    sym h.month_is) (same_natural _ _ y.2 ∙ sym h.day_is)

pub impossible : {P : Type 0} → false ≡ true → P
impossible e = absurd (cc)

pub same_text : (s t : List ℕ) → true ≡ pointwise nat_eq s t → s ≡ t
same_text s t e = (bytes_decides s t).0 (sym e)

-- two texts that differ are not the same
pub no_same_text : {P : Type 0} (s t : List ℕ) → false ≡ pointwise nat_eq s t → s ≡ t → P
no_same_text s t e same = impossible (e ∙ (bytes_decides s t).1 same)

-- ---- minutes

pub SpellsMinute-one_text : (s t : List ℕ) (minute : ℕ) → SpellsMinute s minute → SpellsMinute t minute → s ≡ t
SpellsMinute-one_text s t minute p q = p.text_is ∙ sym q.text_is

pub SpellsMinute-one_minute : (text : List ℕ) (c d : ℕ) → SpellsMinute text c → SpellsMinute text d → c ≡ d
SpellsMinute-one_minute text c d p q =
    let e : clock_spelling (c / 60) (c % 60) ≡ clock_spelling (d / 60) (d % 60) = sym p.text_is ∙ q.text_is in
    let at : (k : ℕ) → slice_index (clock_spelling (c / 60) (c % 60)) k ≡ slice_index
    (clock_spelling (d / 60) (d % 60)) k
    = λ k. ap (λ s. slice_index s k) e in
    let below : (c < 1440) × (d < 1440) = (p.in_range, q.in_range) in
    let hour : c / 60 ≡ d / 60 = same_two _ _ (omega arith) (omega arith) (at 0) (at 1) in
    let minute : c % 60 ≡ d % 60 = same_two _ _ (omega arith) (omega arith) (at 3) (at 4) in
    omega arith

pub length-SpellsMinute : (text : List ℕ) (minute : ℕ) → SpellsMinute text minute → length text ≡ 5
length-SpellsMinute text minute s = ap length s.text_is

-- ---- moments

pub SpellsMoment-one_text : (s t : List ℕ) (moment : ℕ) → SpellsMoment s moment → SpellsMoment t moment → s ≡ t
SpellsMoment-one_text s t moment p q =
    let day = SpellsDay-one_text _ _ _ p.spells_day q.spells_day in
    let minute = SpellsMinute-one_text _ _ _ p.spells_minute q.spells_minute in
    p.text_is
    ∙ ap (λ d. d ++ 47 ∷ p.minute_text) day
    ∙ ap (λ m. q.day_text ++ 47 ∷ m) minute
    ∙ sym q.text_is

-- the parts of a text that spells a moment
pub record HasMomentParts (text : List ℕ) (moment : ℕ) : Type 0 where
  pub len : length text ≡ 16
  pub between : slice_index text 10 ≡ 47
  pub day : SpellsDay (take 10 text) (day_of_moment moment)
  pub minute : SpellsMinute (drop 11 text) (minute_of_moment moment)

pub moment_parts : (text : List ℕ) (moment : ℕ) → SpellsMoment text moment → HasMomentParts text moment
moment_parts text moment s =
    let ten = length-SpellsDay _ _ s.spells_day in
    let five = length-SpellsMinute _ _ s.spells_minute in
    let front : take 10 (s.day_text ++ 47 ∷ s.minute_text) ≡ s.day_text
    = subst (λ n. take n (s.day_text ++ 47 ∷ s.minute_text) ≡ s.day_text) ten (take-append_seam s.day_text _) in
    let seam : slice_index (s.day_text ++ 47 ∷ s.minute_text) 10 ≡ 47
    = subst (λ n. slice_index (s.day_text ++ 47 ∷ s.minute_text) n ≡ 47) ten
    (get_or-append_seam s.day_text 47 s.minute_text 0) in
    let back : drop 11 (s.day_text ++ 47 ∷ s.minute_text) ≡ s.minute_text
    = subst (λ n. drop (n + 1) (s.day_text ++ 47 ∷ s.minute_text) ≡ s.minute_text) ten
    (drop-append-add s.day_text (47 ∷ s.minute_text) 1) in
    record {
      len = ap length s.text_is ∙ length-append s.day_text (47 ∷ s.minute_text) ∙ (omega arith);
      between = ap (λ t. slice_index t 10) s.text_is ∙ seam;
      day = subst (λ t. SpellsDay t (day_of_moment moment)) (sym (ap (take 10) s.text_is ∙ front)) s.spells_day;
      minute = subst (λ t. SpellsMinute t (minute_of_moment moment))
          (sym (ap (drop 11) s.text_is ∙ back)) s.spells_minute;
    }

pub SpellsMoment-from_parts : (text : List ℕ) (moment : ℕ) → HasMomentParts text moment → SpellsMoment text moment
SpellsMoment-from_parts text moment h =
    let len = h.len in
    let within : 10 < length text = omega arith in
    record {
      day_text = take 10 text;
      minute_text = drop 11 text;
      spells_day = h.day;
      spells_minute = h.minute;
      text_is = sym (take-append-drop 10 text) ∙ ap (λ s. take 10 text ++ s) (drop-cons text 10 0 within ∙
          ap (λ b. b ∷ drop 11 text) h.between);
    }

pub SpellsMoment-one_moment : (text : List ℕ) (c d : ℕ) → SpellsMoment text c → SpellsMoment text d → c ≡ d
SpellsMoment-one_moment text c d p q =
    let a = moment_parts text c p in
    let b = moment_parts text d q in
    let day = SpellsDay-one_day _ _ _ a.day b.day in
    let minute = SpellsMinute-one_minute _ _ _ a.minute b.minute in
    omega arith

-- the text of a moment, as it is put together from those of its day and minute
pub moment_written : (day rest minute : List ℕ) → length day ≡ 10 →
    length rest ≡ 6 → take 11 (slice_set (day ++ rest) 10 47) ++
    (minute ++ drop 5 (drop 11 (slice_set (day ++ rest) 10 47))) ≡ day ++ 47 ∷ minute
moment_written day [] minute ten six = absurd (omega arith)
moment_written day (x ∷ rest) minute ten six =
    let whole : slice_set (day ++ x ∷ rest) 10 47 ≡ day ++ 47 ∷ rest
    = subst (λ n. slice_set (day ++ x ∷ rest) n 47 ≡ day ++ 47 ∷ rest) ten (set-append_seam day x rest 47) in
    let front : take 11 (day ++ 47 ∷ rest) ≡ day ++ 47 ∷ []
    = subst (λ n. take (n + 1) (day ++ 47 ∷ rest) ≡ day ++ 47 ∷ []) ten (take-append-add day (47 ∷ rest) 1) in
    let back : drop 11 (day ++ 47 ∷ rest) ≡ rest
    = subst (λ n. drop (n + 1) (day ++ 47 ∷ rest) ≡ rest) ten (drop-append-add day (47 ∷ rest) 1) in
    let five : length rest ≤ 5 = omega arith in
    let none : drop 5 rest ≡ [] = drop_of_length-le rest five in
    ap (λ t. take 11 t ++ (minute ++ drop 5 (drop 11 t))) whole
    ∙ ap (λ t. t ++ (minute ++ drop 5 (drop 11 (day ++ 47 ∷ rest)))) front
    ∙ ap (λ t. (day ++ 47 ∷ []) ++ (minute ++ t)) (ap (drop 5) back ∙ none)
    ∙ append_assoc day (47 ∷ []) (minute ++ [])
    ∙ ap (λ t. day ++ 47 ∷ t) (append-nil minute)

-- the part from n on, as a range of a slice gives it
pub take-rest : (n : ℕ) (text : List ℕ) → take (length text - n) (drop n text) ≡ drop n text
take-rest n text =
    ap (λ k. take k (drop n text)) (sym (length-drop n text)) ∙ take-length (drop n text)
