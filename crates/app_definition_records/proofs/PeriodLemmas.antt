-- What a period is after a record more.
use Rattle.std.proofs.Common.{◌≡◌, ◌≢◌, ◌⊎◌, inl, inr, ap, refl, ◌∙◌, ℕ, ◌-◌, ◌<◌, ◌≤◌, List, [], ◌∷◌, ◌++◌}
use Rattle.std.proofs.Common.{length, Bool, Option, Some, None, arith, length-append}
use Rattle.std.specs.Prelude.{IsTrue, ◌↔◌, IfSome, codes}
use Rattle.std.specs.List.{slice_index_or}
use Rattle.std.proofs.lemmas.Bool.{cases_lt}
use Rattle.std.proofs.lemmas.List.{get_or_append_left}
use Rattle.std.proofs.Math.Seq.{get_or-append_seam}
use Rattle.plan_periods.specs.Period.{Entry}
use Rattle.work_calendars.specs.Spelling.{SpellsDay}
use Rattle.work_calendars.proofs.SpellingFacts.{SpellsDay-one_day, length-SpellsDay}
use Rattle.app_definition_records.specs.Fields.{field, SpellsOptionalDay}
use Rattle.app_definition_records.specs.Periods.{GivesEntry, GiveEntries, IsLaterThan, IsLater, FitsPeriod}
use Rattle.app_definition_records.specs.Records.{Record, Records}
use Rattle.app_definition_records.specs.declared.columns.TheConstants.{PERIOD_TYPE, PERIOD_ORIGIN, PERIOD_LENGTH}

-- a field spells one end or none
pub one_end : (text : List ℕ) (a b : Option ℕ) → SpellsOptionalDay text a → SpellsOptionalDay text b → a ≡ b
one_end text None None p q = refl
one_end text None (Some e) p q = let ten = length-SpellsDay text e q in let none : length text ≡ 0 = ap length p in
    absurd (omega (arith, ten, none))
one_end text (Some e) None p q = let ten = length-SpellsDay text e p in let none : length text ≡ 0 = ap length q in
    absurd (omega (arith, ten, none))
one_end text (Some d) (Some e) p q = ap Some (SpellsDay-one_day text d e p q)

-- the end that a record spells is not before its origin, where it gives an entry
pub entry-ends : (row : Record) (origin : ℕ) (end : Option ℕ) → SpellsDay (field row PERIOD_ORIGIN) origin
    → SpellsOptionalDay (field row PERIOD_LENGTH) end
    → (e : Entry) → GivesEntry row e → IfSome end (λ last. origin ≤ last)
entry-ends row origin end a b e gives =
    let same_origin : e.0 ≡ origin = SpellsDay-one_day (field row PERIOD_ORIGIN) e.0 origin gives.0 a in
    let same_end : e.1 ≡ end = one_end (field row PERIOD_LENGTH) e.1 end gives.1 b in
    rw (← same_origin, ← same_end) gives.2

either_end : (before : Records) (entries : List Entry) (row : Record) (e : Entry) (k : ℕ)
    → length before ≡ length entries
    → (k < length before → GivesEntry (slice_index_or before k []) (slice_index_or entries k (0, None)))
    → GivesEntry row e
    → k < length (before ++ row ∷ []) → (k < length before) ⊎ (length before ≤ k)
    → GivesEntry (slice_index_or (before ++ row ∷ []) k []) (slice_index_or (entries ++ e ∷ []) k (0, None))
either_end before entries row e k same each gives h (inl lt) =
    let lt2 : k < length entries = omega (arith, same) in
    rw (get_or_append_left before (row ∷ []) [] k lt, get_or_append_left entries (e ∷ []) (0, None) k lt2) (each lt)
either_end before entries row e k same each gives h (inr ge) =
    let long = length-append before (row ∷ []) in
    let at : k ≡ length before = omega (arith, long, h, ge) in
    let there : slice_index_or (before ++ row ∷ []) k [] ≡ row =
    ap (λ n. slice_index_or (before ++ row ∷ []) n []) at ∙ get_or-append_seam before row [] [] in
    let here : slice_index_or (entries ++ e ∷ []) k (0, None) ≡ e =
    ap (λ n. slice_index_or (entries ++ e ∷ []) n (0, None)) (at ∙ same)
    ∙ get_or-append_seam entries e [] (0, None) in
    rw (there, here) gives

-- a record and its entry more
pub GiveEntries-push : (before : Records) (entries : List Entry) (row : Record) (e : Entry)
    → GiveEntries before entries → GivesEntry row e → GiveEntries (before ++ row ∷ []) (entries ++ e ∷ [])
GiveEntries-push before entries row e all gives =
    record {
      same_length = omega (arith, all.same_length, length-append before (row ∷ []), length-append entries (e ∷ []));
      each = λ k h. either_end before entries row e k all.same_length (all.each k) gives h (cases_lt k (length before));
    }

-- later than the last entry is later than the last record
pub later-records : (first : Record) (more : Records) (entries : List Entry) (e : Entry)
    → GiveEntries (first ∷ more) entries → IsLater entries e ↔ IsLaterThan (first ∷ more) e.0
later-records first more entries e all =
    let some : 0 < length entries = omega (arith, all.same_length) in
    let last = all.each (length more) (omega arith) in
    let at : length entries - 1 ≡ length more = omega (arith, all.same_length) in
    let at2 : length (first ∷ more) - 1 ≡ length more = omega arith in (
      λ later origin spelled.
          let h = rw at at (later some) in
          let same = SpellsDay-one_day (field (slice_index_or (first ∷ more) (length more) []) PERIOD_ORIGIN) origin
          (slice_index_or entries (length more) (0, None)).0 (rw at2 at spelled) last.0 in
          omega (arith, h, same),
      λ later _. rw at (later (slice_index_or entries (length more) (0, None)).0 (rw at2 last.0)),
    )

-- a further record is good exactly where its entry is later
pub goes_on-taken : (before : Records) (row : Record) (entries : List Entry) (e : Entry) (b : Bool)
    → before ≢ [] → field (slice_index_or before 0 []) PERIOD_TYPE ≡ codes "N" → field row PERIOD_TYPE ≡ codes "N"
    → GiveEntries before entries → GivesEntry row e
    → (IsTrue b ↔ IsLater entries e) → IsTrue b ↔ FitsPeriod before row
goes_on-taken [] row entries e b some first n all gives told = absurd (some refl)
goes_on-taken (first ∷ more) row entries e b some is n all gives told =
    let later = later-records first more entries e all in (
      λ yes. (is, n, (e, gives, later.0 (told.0 yes))),
      λ fits. told.1 (later.1 (λ origin spelled. let h = fits.2.2 origin spelled in
          let same = SpellsDay-one_day (field row PERIOD_ORIGIN) fits.2.0.0 e.0 fits.2.1.0 gives.0 in
          omega (arith, h, same))),
    )

-- the first record stays the first
pub first-kept : (before : Records) (row : Record) → before ≢ []
    → slice_index_or (before ++ row ∷ []) 0 [] ≡ slice_index_or before 0 []
first-kept [] row some = absurd (some refl)
first-kept (first ∷ more) row some = refl
