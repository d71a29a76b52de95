-- Records of run cycles.
use Rattle.std.proofs.Common.{◌≡◌, ◌≢◌, ℕ, ℤ, pos, neg_ℤ, zero, suc, ◌+◌, ◌<◌, ◌≤◌, Bool, true, false, cond}
use Rattle.std.specs.Prelude.{◌==◌}
use Rattle.std.proofs.Common.{List, [], ◌∷◌, length, get_or, take, map, refl, sym, ap, subst, ◌∙◌, arith, drop}
use Rattle.std.proofs.Common.{None, Some}
use Rattle.std.specs.Prelude.{codes}
use Rattle.std.specs.List.{All, Any, Contains}
use Rattle.std.proofs.lemmas.List.{get_or-map, get_or_default, length-map, take-map}
use Rattle.std.proofs.lemmas.List.Elements.{All-contains, All-map, All-weaker}
use Rattle.std.proofs.lemmas.List.Splits.{length-slice_split}
use Rattle.run_cycles.specs.Offset.{IsOffset, IsOffsets}
use Rattle.run_cycles.specs.declared.cycles.CycleType.{CycleType}
use Rattle.run_cycles.specs.declared.cycles.CycleType.TheVariants.{Normal, Negative}
use Rattle.run_cycles.specs.declared.cycles.Deadline.{Deadline}
use Rattle.run_cycles.specs.declared.cycles.RunCycle.{RunCycle}
use Rattle.work_calendars.specs.Name.{IsName, IsShort}
use Rattle.app_definition_records.specs.CycleRecords.{AreRunCyclesOf, FitsRunCycle, IsOffsetText, SpellsDeadline}
use Rattle.app_definition_records.specs.CycleRecords.{SpellsOffsets}
use Rattle.app_definition_records.specs.CycleRecords.{SpellsRunCycle, SpellsType, cycle_names_of, has_minus}
use Rattle.app_definition_records.specs.CycleRecords.{offset_value, pieces_of, rule_text}
use Rattle.app_definition_records.specs.Fields.{field, number_value}
use Rattle.app_definition_records.specs.Records.{Record}
use Rattle.app_definition_records.specs.Rising.{AreRising, IsBelow}
use Rattle.app_definition_records.specs.declared.columns.TheConstants.{CYCLE_FIELDS}
use Rattle.app_definition_records.specs.FieldCounts.{HasCycleFields}
use Rattle.app_definition_records.specs.declared.columns.TheConstants.{CYCLE_OUT_EFFECT}
use Rattle.app_definition_records.proofs.RisingLemmas.{Contains-map_back, not_itself}
use Rattle.app_definition_soundness.specs.Given.{IsGiven}
use Rattle.app_definition_soundness.specs.Values.{AreCycleValues, HasDeadline, IsCycleValue, IsDeadlineValue}
use Rattle.app_definition_soundness.proofs.NumberLemmas.{join, minute_spelled, minute_text, number_spelled, number_text}
use Rattle.app_definition_soundness.proofs.NumberLemmas.{offsets_spelled}
use Rattle.app_definition_soundness.proofs.PeriodRecords.{end_days, end_spelled, end_text}
use Rattle.app_definition_soundness.proofs.RecordLemmas.{about, begun, given, rows_of}
use Rattle.app_definition_soundness.proofs.TextLemmas.{day_spelled, day_text}

-- the three fields of a type
type_text : CycleType → List ℕ
type_text (Normal deadline) = codes "N"
type_text (Negative deadline) = codes "X"

day_field : CycleType → List ℕ
day_field (Normal deadline) = number_text deadline.days
day_field (Negative (Some deadline)) = number_text deadline.days
day_field (Negative None) = []

time_field : CycleType → List ℕ
time_field (Normal deadline) = minute_text deadline.time
time_field (Negative (Some deadline)) = minute_text deadline.time
time_field (Negative None) = []

deadline_spelled : (deadline : Deadline) → IsDeadlineValue deadline
    → SpellsDeadline (number_text deadline.days) (minute_text deadline.time) deadline
deadline_spelled deadline is =
    let spells = number_spelled deadline.days (omega (arith, is.days)) in
    record {
      day_text = (spells.number, omega (arith, spells.value, is.days));
      days = sym spells.value;
      clock = minute_spelled deadline.time is.clock;
    }

type_spelled : (kind : CycleType) → HasDeadline kind
    → SpellsType (type_text kind) (day_field kind) (time_field kind) kind
unfolding type_text day_field time_field
type_spelled (Normal deadline) is = (refl, deadline_spelled deadline is)
type_spelled (Negative (Some deadline)) is = (refl, deadline_spelled deadline is)
type_spelled (Negative None) is = (refl, refl, refl)

-- the fields of a run cycle, after its application
cycle_rest : RunCycle → List (List ℕ)
cycle_rest cycle =
    cycle.name ∷ type_text cycle.kind ∷ cycle.period ∷ rule_text cycle.rule ∷ join cycle.offsets
    ∷ day_text cycle.in_effect ∷ end_text cycle.out_effect ∷ minute_text cycle.ia ∷ day_field cycle.kind
    ∷ time_field cycle.kind ∷ []

cycle_spelled : (name : List ℕ) (cycle : RunCycle) → IsCycleValue cycle
    → SpellsRunCycle (about name (cycle_rest cycle)) cycle
unfolding cycle_rest
cycle_spelled name cycle is = record {
  short_name = is.name;
  name = refl;
  kind = type_spelled cycle.kind is.kind;
  short_period = is.period;
  period = refl;
  rule = refl;
  offsets = offsets_spelled cycle.offsets is.offsets;
  in_effect = day_spelled cycle.in_effect is.in_effect;
  out_effect = end_spelled cycle.out_effect is.out_effect;
  ia = minute_spelled cycle.ia is.ia;
}

-- and back: what a record spells has the ranges
deadline_value : (day time : List ℕ) (deadline : Deadline) → SpellsDeadline day time deadline → IsDeadlineValue deadline
deadline_value day time deadline is =
    record { days = omega (arith, is.day_text.1, is.days); clock = is.clock.in_range }

type_value : (letter day time : List ℕ) (kind : CycleType) → SpellsType letter day time kind → HasDeadline kind
type_value letter day time (Normal deadline) is = deadline_value day time deadline is.1
type_value letter day time (Negative (Some deadline)) is = deadline_value day time deadline is.1
type_value letter day time (Negative None) is = tt

minus_is : (n : ℕ) → 1 ≤ n → n ≤ 1999 → IsOffset (neg_ℤ (pos n))
minus_is zero low high = absurd (omega arith)
minus_is (suc m) low high = (omega arith, omega arith)

offset_is : (text : List ℕ) → IsOffsetText text → IsOffset (offset_value text)
offset_is text is = by (has_minus text) is.1 is.0.1
  where
    by : (b : Bool) → 1 ≤ number_value (cond b (drop 1 text) text)
        → number_value (cond b (drop 1 text) text) ≤ 1999
        → IsOffset (cond b (neg_ℤ (pos (number_value (cond b (drop 1 text) text))))
        (pos (number_value (cond b (drop 1 text) text))))
    by true low high = minus_is (number_value (drop 1 text)) low high
    by false low high = (low, high)

offsets_are : (text : List ℕ) (ks : List ℤ) → SpellsOffsets text ks → IsOffsets ks
offsets_are text ks is =
    let long : length ks ≡ length (pieces_of text) = ap length is.values ∙ length-map (pieces_of text) offset_value in
    let some = length-slice_split (λ b. b == 32) text in (
      omega (arith, long, some),
      omega (arith, long, is.few),
      subst (All IsOffset) (sym is.values) (All-map IsOffset offset_value (pieces_of text)
          (All-weaker IsOffsetText (λ t. IsOffset (offset_value t)) offset_is (pieces_of text) is.each)),
    )

cycle_value : (row : Record) (cycle : RunCycle) → SpellsRunCycle row cycle → IsCycleValue cycle
cycle_value row cycle is = record {
  name = subst IsShort (sym is.name) is.short_name;
  kind = type_value _ _ _ cycle.kind is.kind;
  period = subst IsShort (sym is.period) is.short_period;
  offsets = offsets_are _ cycle.offsets is.offsets;
  in_effect = is.in_effect.in_range;
  out_effect = end_days (field row CYCLE_OUT_EFFECT) cycle.out_effect is.out_effect;
  ia = is.ia.in_range;
}

module _ (name : List ℕ) (cycles : List RunCycle) where
  rests : List (List (List ℕ))
  rests = map cycle_rest cycles

  name_of : RunCycle → List ℕ
  name_of cycle = cycle.name

  -- the records name the run cycles
  names_of : (xs : List RunCycle) → cycle_names_of (rows_of name (map cycle_rest xs)) ≡ map name_of xs
  unfolding cycle_rest name_of
  names_of [] = refl
  names_of (x ∷ xs) = ap (λ (l : List (List ℕ)). x.name ∷ l) (names_of xs)

  -- no run cycle before a place has the name of the one there
  not_before : AreRising (λ cycle. cycle.name) cycles → (k : ℕ) (d : RunCycle) → k < length cycles
      → Contains (map name_of (take k cycles)) (get_or cycles k d).name → ⊥
  unfolding name_of
  not_before rising k d lt has =
      let (x, (j, below, at), same) = Contains-map_back name_of (take k cycles) (get_or cycles k d).name has in
      let (under, place) = taken cycles k j x below lt in
      let e : RunCycle = get_or cycles k x in
      let here : get_or cycles j x ≡ x = sym place ∙ at in
      let there : get_or cycles k x ≡ get_or cycles k d = get_or_default cycles k x d lt in
      not_itself (get_or cycles k d).name
      (subst (λ y. IsBelow y (get_or cycles k d).name) (ap name_of here ∙ same)
      (subst (λ (y : RunCycle). IsBelow (get_or cycles j x).name y.name) there (rising j k x under lt)))
    where
      taken : (xs : List RunCycle) (i j : ℕ) (d : RunCycle) → j < length (take i xs) → i < length xs
          → (j < i) × (get_or (take i xs) j d ≡ get_or xs j d)
      taken [] i j d below lt = absurd (omega (arith, lt))
      taken (x ∷ xs) zero j d below lt = absurd (omega (arith, below))
      taken (x ∷ xs) (suc i) zero d below lt = (omega arith, refl)
      taken (x ∷ xs) (suc i) (suc j) d below lt =
          let rest = taken xs i j d (omega (arith, below)) (omega (arith, lt)) in (omega (arith, rest.0), rest.1)

  module _ (rising : AreRising (λ cycle. cycle.name) cycles) (are : All IsCycleValue cycles) where
    fits_at : (k : ℕ) (d : RunCycle) → k < length cycles
        → (length (get_or rests k []) + 1 ≡ CYCLE_FIELDS)
        × FitsRunCycle (rows_of name (take k rests)) (about name (get_or rests k []))
    unfolding rests cycle_rest
    fits_at k d lt =
        let here : get_or (map cycle_rest cycles) k [] ≡ cycle_rest (get_or cycles k d) =
        get_or-map cycle_rest cycles k d [] lt in
        let front : take k (map cycle_rest cycles) ≡ map cycle_rest (take k cycles) = take-map cycle_rest k cycles in (
          omega (arith, ap length here),
          subst (λ (r : List (List ℕ)). FitsRunCycle (rows_of name (take k (map cycle_rest cycles))) (about name r))
              (sym here)
              (subst (λ (l : List (List (List ℕ))). FitsRunCycle (rows_of name l)
              (about name (cycle_rest (get_or cycles k d)))) (sym front) (
                (get_or cycles k d, cycle_spelled name (get_or cycles k d) (are k d lt)),
                λ has. not_before rising k d lt
                    (subst (λ (l : List (List ℕ)). Contains l (get_or cycles k d).name) (names_of (take k cycles)) has),
              )),
        )

    made_of : AreRunCyclesOf cycles (rows_of name rests)
    unfolding rests
    made_of = record {
      rising = rising;
      each = λ k d lt.
          let cycle : RunCycle = get_or cycles k d in
          let row : Record = about name (cycle_rest cycle) in
          let long = length-map cycles cycle_rest in
          let at : get_or (rows_of name (map cycle_rest cycles)) k row ≡ row =
          get_or-map (about name) (map cycle_rest cycles) k (cycle_rest cycle) row (omega (arith, long))
          ∙ ap (about name) (get_or-map cycle_rest cycles k d (cycle_rest cycle) lt) in (
            k,
            row,
            omega (arith, long, length-map (map cycle_rest cycles) (about name)),
            at,
            cycle_spelled name cycle (are k d lt),
          );
      all = All-map (λ row. Any (SpellsRunCycle row) cycles) (about name) (map cycle_rest cycles)
          (All-map (λ rest. Any (SpellsRunCycle (about name rest)) cycles) cycle_rest cycles
          (λ k d lt. (
            k,
            get_or cycles k d,
            lt,
            get_or_default cycles k (get_or cycles k d) d lt,
            cycle_spelled name (get_or cycles k d) (are k d lt),
          )));
    }

    first_of : (xs : List RunCycle) → xs ≢ [] → RunCycle
    first_of [] some = absurd (some refl)
    first_of (x ∷ xs) some = x

    none_of : (xs : List RunCycle) → length xs ≡ 0 → xs ≡ []
    none_of [] none = refl
    none_of (x ∷ xs) none = absurd (omega (arith, none))

    pub cycles_given : IsName name → cycles ≢ [] → IsGiven HasCycleFields FitsRunCycle AreRunCyclesOf name cycles
    unfolding rests
    cycles_given named some =
        given name HasCycleFields CYCLE_FIELDS refl FitsRunCycle AreRunCyclesOf cycles named rests
        (λ none. let empty : length (rows_of name rests) ≡ 0 = ap length none in
        some (none_of cycles
        (omega (arith, empty, length-map rests (about name), length-map cycles cycle_rest))))
        (λ k lt. fits_at k (first_of cycles some) (omega (arith, length-map cycles cycle_rest)))
        made_of

  pub cycles_value : IsGiven HasCycleFields FitsRunCycle AreRunCyclesOf name cycles → AreCycleValues name cycles
  cycles_value is =
      let begins = begun name HasCycleFields CYCLE_FIELDS refl FitsRunCycle AreRunCyclesOf cycles is in
      let spelled = All-contains (λ row. Any (SpellsRunCycle row) cycles) begins.rows begins.row begins.made.all
      begins.there in
      record {
        named = begins.named;
        some = λ none.
            let empty : List RunCycle = [] in
            let below : spelled.0 < length empty = subst (λ (l : List RunCycle). spelled.0 < length l) none spelled.2 in
            omega (arith, below);
        cycles = All-weaker (λ cycle. Any (λ row. SpellsRunCycle row cycle) begins.rows) IsCycleValue
            (λ cycle any. cycle_value any.1 cycle any.4) cycles begins.made.each;
      }
