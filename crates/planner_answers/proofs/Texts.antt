-- What a field of a record spells can be decided.
use Rattle.std.proofs.Common.{◌≡◌, ◌⊎◌, ℕ, suc, ◌/◌, ◌%◌, ◌<◌, ◌≤◌, List, [], ◌∷◌, not, length, refl, sym}
use Rattle.std.proofs.Common.{subst, inl, inr, arith, Option, None, Some}
use Rattle.std.specs.Prelude.{slice_index}
use Rattle.std.specs.Char.{is_ascii_digit}
use Rattle.std.specs.Str.{byte}
use Rattle.work_calendars.specs.Day.{first_day, last_day}
use Rattle.work_calendars.specs.Minute.{minutes_per_day}
use Rattle.work_calendars.specs.Name.{IsNameWithin, is_name_byte}
use Rattle.work_calendars.specs.Spelling.{SpellsDay, clock_spelling}
use Rattle.work_calendars.proofs.SpellingFacts.{SpellsDay-one_text}
use Rattle.app_definition_records.specs.Fields.{IsDayText, IsEmptyOr, IsMinuteText, IsNumber, IsNumberUpTo, SpellsOptionalDay}
use Rattle.app_definition_records.specs.Fields.{number_value}
use Rattle.app_definition_soundness.proofs.TextLemmas.{day_spelled, day_text}
use Rattle.planner_answers.proofs.Finite.{Decided, decided_any, decided_both, decided_either, decided_if, decided_le}
use Rattle.planner_answers.proofs.Finite.{decided_lt, decided_number, decided_so, decided_three, finite_below, finite_from}
use Rattle.planner_answers.proofs.Equal.{decided_all_in, decided_name, decided_true}

pub decided_nil : {X : Type 0} (xs : List X) → Decided (xs ≡ [])
decided_nil [] = inl refl
decided_nil (x ∷ xs) = inr (λ h. cc)

pub decided_named : (longest : ℕ) (name : List ℕ) → Decided (IsNameWithin longest name)
decided_named longest name =
    decided_so
    (λ (both, more). record { not_empty = both.0; fits = both.1; alphabet = more.0; start = more.1 })
    (λ h. ((h.not_empty, h.fits), (h.alphabet, h.start)))
    (decided_both (decided_both (decided_lt 0 (length name)) (decided_le (length name) longest))
    (decided_both (decided_all_in name (λ b. decided_true (is_name_byte b)))
    (decided_true (not (is_ascii_digit (slice_index name 0))))))

pub decided_empty_or : (P : List ℕ → Type 0) (text : List ℕ) → Decided (P text) → Decided (IsEmptyOr P text)
decided_empty_or P text test = decided_either (decided_nil text) test

pub decided_number_text : (text : List ℕ) → Decided (IsNumber text)
decided_number_text text =
    decided_so
    (λ (not_empty, digits, no_zero). record { not_empty = not_empty; digits = digits; no_leading_zero = no_zero })
    (λ h. (h.not_empty, h.digits, h.no_leading_zero))
    (decided_three (decided_lt 0 (length text))
    (decided_all_in text (λ b. decided_both (decided_le 48 b) (decided_le b 57)))
    (decided_if (decided_number (slice_index text 0) (byte "0")) (decided_number (length text) 1)))

pub decided_up_to : (greatest : ℕ) (text : List ℕ) → Decided (IsNumberUpTo greatest text)
decided_up_to greatest text = decided_both (decided_number_text text) (decided_le (number_value text) greatest)

pub decided_day_text : (text : List ℕ) → Decided (IsDayText text)
decided_day_text text =
    decided_so to back
    (decided_any (finite_from first_day (suc last_day)) (λ day within. decided_name text (day_text day)))
  where
    to : ((day : ℕ) × ((day < suc last_day) × (first_day ≤ day)) × (text ≡ day_text day)) → IsDayText text
    to (day, within, same) =
        let below = within.0 in
        (day, subst (λ t. SpellsDay t day) (sym same) (day_spelled day (within.1, omega (arith, below))))

    back : IsDayText text → (day : ℕ) × ((day < suc last_day) × (first_day ≤ day)) × (text ≡ day_text day)
    back (day, spells) =
        let top = spells.in_range.1 in (
          day,
          (omega (arith, top), spells.in_range.0),
          SpellsDay-one_text text (day_text day) day spells (day_spelled day spells.in_range),
        )

pub decided_minute_text : (text : List ℕ) → Decided (IsMinuteText text)
decided_minute_text text =
    decided_so
    (λ (minute, lt, same). (minute, record { in_range = lt; text_is = same }))
    (λ (minute, spells). (minute, spells.in_range, spells.text_is))
    (decided_any (finite_below minutes_per_day)
    (λ minute lt. decided_name text (clock_spelling (minute / 60) (minute % 60))))

pub decided_optional_day : (text : List ℕ) → Decided ((day : Option ℕ) × SpellsOptionalDay text day)
decided_optional_day text = decided_so to back (decided_either (decided_nil text) (decided_day_text text))
  where
    to : (text ≡ []) ⊎ IsDayText text → (day : Option ℕ) × SpellsOptionalDay text day
    to (inl none) = (None, none)
    to (inr (day, spells)) = (Some day, spells)

    back : ((day : Option ℕ) × SpellsOptionalDay text day) → (text ≡ []) ⊎ IsDayText text
    back (None, none) = inl none
    back (Some day, spells) = inr (day, spells)
