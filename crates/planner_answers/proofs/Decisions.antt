-- Where each refusal can be decided, a decision is answered.
use Rattle.std.proofs.Common.{◌⊎◌, ℕ, ◌≤◌, List, refl, inl, inr, arith, Ok, Err, Result}
use Rattle.occurrences.specs.Refusal.{refusal_number}
use Rattle.occurrences.specs.declared.refusal.Refusal.{Refusal}
use Rattle.occurrences.specs.declared.refusal.Refusal.TheVariants.{NotAStatement, FaultyData, JobWithAnotherText}
use Rattle.occurrences.specs.declared.refusal.Refusal.TheVariants.{NotDefined, NoPlan, PlanExists, CalendarUndefined}
use Rattle.occurrences.specs.declared.refusal.Refusal.TheVariants.{PeriodUndefined, DatesOutOfRange, Loop}
use Rattle.occurrences.specs.declared.refusal.Refusal.TheVariants.{NoActiveApplication, KeyIsLive, NoSuchOccurrence}
use Rattle.occurrences.specs.declared.refusal.Refusal.TheVariants.{StatusForbids, PredecessorUncompleted, TooManyRows}
use Rattle.occurrences.specs.declared.refusal.Refusal.TheVariants.{PlanEndOutOfRange}
use Rattle.occurrences.specs.declared.reply.Reply.{Reply}
use Rattle.planner_machine.specs.Decision.{Decides, Decision, IsLeastRefusal}
use Rattle.planner_answers.proofs.Finite.{Decided}

-- whether each refusal holds, of those with a detail at some detail
pub record AreDecided (Holds : Refusal → Type 0) : Type 0 where
  pub not_a_statement : Decided (Holds NotAStatement)
  pub faulty_data : Decided ((n : ℕ) × Holds (FaultyData n))
  pub another_text : Decided (Holds JobWithAnotherText)
  pub not_defined : Decided (Holds NotDefined)
  pub no_plan : Decided (Holds NoPlan)
  pub plan_exists : Decided (Holds PlanExists)
  pub calendar : Decided ((app : List ℕ) × Holds (CalendarUndefined app))
  pub period : Decided ((app : List ℕ) × Holds (PeriodUndefined app))
  pub dates : Decided (Holds DatesOutOfRange)
  pub loop : Decided ((app : List ℕ) × Holds (Loop app))
  pub no_application : Decided (Holds NoActiveApplication)
  pub key_is_live : Decided (Holds KeyIsLive)
  pub no_occurrence : Decided (Holds NoSuchOccurrence)
  pub status : Decided (Holds StatusForbids)
  pub predecessor : Decided ((n : ℕ) × Holds (PredecessorUncompleted n))
  pub too_many : Decided (Holds TooManyRows)
  pub plan_end : Decided (Holds PlanEndOutOfRange)

module _ (Holds : Refusal → Type 0) where
  -- the least one is found, or none is below the number
  abbrev FoundBelow : ℕ → Type 0
  FoundBelow n = ((r : Refusal) × IsLeastRefusal Holds r) ⊎ ((q : Refusal) → Holds q → n ≤ refusal_number q)

  go_on : (m n : ℕ) → FoundBelow m → (((q : Refusal) → Holds q → m ≤ refusal_number q) → FoundBelow n) → FoundBelow n
  go_on m n (inl found) next = inl found
  go_on m n (inr low) next = next low

  after_not_a_statement : Decided (Holds NotAStatement) → ((q : Refusal) → Holds q → 10 ≤ refusal_number q) → FoundBelow 11
  after_not_a_statement (inl h) low = inl (NotAStatement, (h, low))
  after_not_a_statement (inr never) low = inr more
    where
      more : (q : Refusal) → Holds q → 11 ≤ refusal_number q
      more NotAStatement h = absurd (never h)
      more (FaultyData n) h = omega arith
      more JobWithAnotherText h = omega arith
      more NotDefined h = omega arith
      more NoPlan h = omega arith
      more PlanExists h = omega arith
      more (CalendarUndefined app) h = omega arith
      more (PeriodUndefined app) h = omega arith
      more DatesOutOfRange h = omega arith
      more (Loop app) h = omega arith
      more NoActiveApplication h = omega arith
      more KeyIsLive h = omega arith
      more NoSuchOccurrence h = omega arith
      more StatusForbids h = omega arith
      more (PredecessorUncompleted n) h = omega arith
      more TooManyRows h = omega arith
      more PlanEndOutOfRange h = omega arith

  after_faulty_data : Decided ((n : ℕ) × Holds (FaultyData n)) → ((q : Refusal) → Holds q → 11 ≤ refusal_number q) → FoundBelow 12
  after_faulty_data (inl (n, h)) low = inl (FaultyData n, (h, low))
  after_faulty_data (inr never) low = inr more
    where
      more : (q : Refusal) → Holds q → 12 ≤ refusal_number q
      more NotAStatement h = let l = low NotAStatement h in absurd (omega (arith, l))
      more (FaultyData n) h = absurd (never (n, h))
      more JobWithAnotherText h = omega arith
      more NotDefined h = omega arith
      more NoPlan h = omega arith
      more PlanExists h = omega arith
      more (CalendarUndefined app) h = omega arith
      more (PeriodUndefined app) h = omega arith
      more DatesOutOfRange h = omega arith
      more (Loop app) h = omega arith
      more NoActiveApplication h = omega arith
      more KeyIsLive h = omega arith
      more NoSuchOccurrence h = omega arith
      more StatusForbids h = omega arith
      more (PredecessorUncompleted n) h = omega arith
      more TooManyRows h = omega arith
      more PlanEndOutOfRange h = omega arith

  after_another_text : Decided (Holds JobWithAnotherText) → ((q : Refusal) → Holds q → 12 ≤ refusal_number q) → FoundBelow 13
  after_another_text (inl h) low = inl (JobWithAnotherText, (h, low))
  after_another_text (inr never) low = inr more
    where
      more : (q : Refusal) → Holds q → 13 ≤ refusal_number q
      more NotAStatement h = let l = low NotAStatement h in absurd (omega (arith, l))
      more (FaultyData n) h = let l = low (FaultyData n) h in absurd (omega (arith, l))
      more JobWithAnotherText h = absurd (never h)
      more NotDefined h = omega arith
      more NoPlan h = omega arith
      more PlanExists h = omega arith
      more (CalendarUndefined app) h = omega arith
      more (PeriodUndefined app) h = omega arith
      more DatesOutOfRange h = omega arith
      more (Loop app) h = omega arith
      more NoActiveApplication h = omega arith
      more KeyIsLive h = omega arith
      more NoSuchOccurrence h = omega arith
      more StatusForbids h = omega arith
      more (PredecessorUncompleted n) h = omega arith
      more TooManyRows h = omega arith
      more PlanEndOutOfRange h = omega arith

  after_not_defined : Decided (Holds NotDefined) → ((q : Refusal) → Holds q → 13 ≤ refusal_number q) → FoundBelow 20
  after_not_defined (inl h) low = inl (NotDefined, (h, low))
  after_not_defined (inr never) low = inr more
    where
      more : (q : Refusal) → Holds q → 20 ≤ refusal_number q
      more NotAStatement h = let l = low NotAStatement h in absurd (omega (arith, l))
      more (FaultyData n) h = let l = low (FaultyData n) h in absurd (omega (arith, l))
      more JobWithAnotherText h = let l = low JobWithAnotherText h in absurd (omega (arith, l))
      more NotDefined h = absurd (never h)
      more NoPlan h = omega arith
      more PlanExists h = omega arith
      more (CalendarUndefined app) h = omega arith
      more (PeriodUndefined app) h = omega arith
      more DatesOutOfRange h = omega arith
      more (Loop app) h = omega arith
      more NoActiveApplication h = omega arith
      more KeyIsLive h = omega arith
      more NoSuchOccurrence h = omega arith
      more StatusForbids h = omega arith
      more (PredecessorUncompleted n) h = omega arith
      more TooManyRows h = omega arith
      more PlanEndOutOfRange h = omega arith

  after_no_plan : Decided (Holds NoPlan) → ((q : Refusal) → Holds q → 20 ≤ refusal_number q) → FoundBelow 21
  after_no_plan (inl h) low = inl (NoPlan, (h, low))
  after_no_plan (inr never) low = inr more
    where
      more : (q : Refusal) → Holds q → 21 ≤ refusal_number q
      more NotAStatement h = let l = low NotAStatement h in absurd (omega (arith, l))
      more (FaultyData n) h = let l = low (FaultyData n) h in absurd (omega (arith, l))
      more JobWithAnotherText h = let l = low JobWithAnotherText h in absurd (omega (arith, l))
      more NotDefined h = let l = low NotDefined h in absurd (omega (arith, l))
      more NoPlan h = absurd (never h)
      more PlanExists h = omega arith
      more (CalendarUndefined app) h = omega arith
      more (PeriodUndefined app) h = omega arith
      more DatesOutOfRange h = omega arith
      more (Loop app) h = omega arith
      more NoActiveApplication h = omega arith
      more KeyIsLive h = omega arith
      more NoSuchOccurrence h = omega arith
      more StatusForbids h = omega arith
      more (PredecessorUncompleted n) h = omega arith
      more TooManyRows h = omega arith
      more PlanEndOutOfRange h = omega arith

  after_plan_exists : Decided (Holds PlanExists) → ((q : Refusal) → Holds q → 21 ≤ refusal_number q) → FoundBelow 22
  after_plan_exists (inl h) low = inl (PlanExists, (h, low))
  after_plan_exists (inr never) low = inr more
    where
      more : (q : Refusal) → Holds q → 22 ≤ refusal_number q
      more NotAStatement h = let l = low NotAStatement h in absurd (omega (arith, l))
      more (FaultyData n) h = let l = low (FaultyData n) h in absurd (omega (arith, l))
      more JobWithAnotherText h = let l = low JobWithAnotherText h in absurd (omega (arith, l))
      more NotDefined h = let l = low NotDefined h in absurd (omega (arith, l))
      more NoPlan h = let l = low NoPlan h in absurd (omega (arith, l))
      more PlanExists h = absurd (never h)
      more (CalendarUndefined app) h = omega arith
      more (PeriodUndefined app) h = omega arith
      more DatesOutOfRange h = omega arith
      more (Loop app) h = omega arith
      more NoActiveApplication h = omega arith
      more KeyIsLive h = omega arith
      more NoSuchOccurrence h = omega arith
      more StatusForbids h = omega arith
      more (PredecessorUncompleted n) h = omega arith
      more TooManyRows h = omega arith
      more PlanEndOutOfRange h = omega arith

  after_calendar : Decided ((app : List ℕ) × Holds (CalendarUndefined app)) → ((q : Refusal) → Holds q → 22 ≤ refusal_number q) → FoundBelow 23
  after_calendar (inl (app, h)) low = inl (CalendarUndefined app, (h, low))
  after_calendar (inr never) low = inr more
    where
      more : (q : Refusal) → Holds q → 23 ≤ refusal_number q
      more NotAStatement h = let l = low NotAStatement h in absurd (omega (arith, l))
      more (FaultyData n) h = let l = low (FaultyData n) h in absurd (omega (arith, l))
      more JobWithAnotherText h = let l = low JobWithAnotherText h in absurd (omega (arith, l))
      more NotDefined h = let l = low NotDefined h in absurd (omega (arith, l))
      more NoPlan h = let l = low NoPlan h in absurd (omega (arith, l))
      more PlanExists h = let l = low PlanExists h in absurd (omega (arith, l))
      more (CalendarUndefined app) h = absurd (never (app, h))
      more (PeriodUndefined app) h = omega arith
      more DatesOutOfRange h = omega arith
      more (Loop app) h = omega arith
      more NoActiveApplication h = omega arith
      more KeyIsLive h = omega arith
      more NoSuchOccurrence h = omega arith
      more StatusForbids h = omega arith
      more (PredecessorUncompleted n) h = omega arith
      more TooManyRows h = omega arith
      more PlanEndOutOfRange h = omega arith

  after_period : Decided ((app : List ℕ) × Holds (PeriodUndefined app)) → ((q : Refusal) → Holds q → 23 ≤ refusal_number q) → FoundBelow 24
  after_period (inl (app, h)) low = inl (PeriodUndefined app, (h, low))
  after_period (inr never) low = inr more
    where
      more : (q : Refusal) → Holds q → 24 ≤ refusal_number q
      more NotAStatement h = let l = low NotAStatement h in absurd (omega (arith, l))
      more (FaultyData n) h = let l = low (FaultyData n) h in absurd (omega (arith, l))
      more JobWithAnotherText h = let l = low JobWithAnotherText h in absurd (omega (arith, l))
      more NotDefined h = let l = low NotDefined h in absurd (omega (arith, l))
      more NoPlan h = let l = low NoPlan h in absurd (omega (arith, l))
      more PlanExists h = let l = low PlanExists h in absurd (omega (arith, l))
      more (CalendarUndefined app) h = let l = low (CalendarUndefined app) h in absurd (omega (arith, l))
      more (PeriodUndefined app) h = absurd (never (app, h))
      more DatesOutOfRange h = omega arith
      more (Loop app) h = omega arith
      more NoActiveApplication h = omega arith
      more KeyIsLive h = omega arith
      more NoSuchOccurrence h = omega arith
      more StatusForbids h = omega arith
      more (PredecessorUncompleted n) h = omega arith
      more TooManyRows h = omega arith
      more PlanEndOutOfRange h = omega arith

  after_dates : Decided (Holds DatesOutOfRange) → ((q : Refusal) → Holds q → 24 ≤ refusal_number q) → FoundBelow 25
  after_dates (inl h) low = inl (DatesOutOfRange, (h, low))
  after_dates (inr never) low = inr more
    where
      more : (q : Refusal) → Holds q → 25 ≤ refusal_number q
      more NotAStatement h = let l = low NotAStatement h in absurd (omega (arith, l))
      more (FaultyData n) h = let l = low (FaultyData n) h in absurd (omega (arith, l))
      more JobWithAnotherText h = let l = low JobWithAnotherText h in absurd (omega (arith, l))
      more NotDefined h = let l = low NotDefined h in absurd (omega (arith, l))
      more NoPlan h = let l = low NoPlan h in absurd (omega (arith, l))
      more PlanExists h = let l = low PlanExists h in absurd (omega (arith, l))
      more (CalendarUndefined app) h = let l = low (CalendarUndefined app) h in absurd (omega (arith, l))
      more (PeriodUndefined app) h = let l = low (PeriodUndefined app) h in absurd (omega (arith, l))
      more DatesOutOfRange h = absurd (never h)
      more (Loop app) h = omega arith
      more NoActiveApplication h = omega arith
      more KeyIsLive h = omega arith
      more NoSuchOccurrence h = omega arith
      more StatusForbids h = omega arith
      more (PredecessorUncompleted n) h = omega arith
      more TooManyRows h = omega arith
      more PlanEndOutOfRange h = omega arith

  after_loop : Decided ((app : List ℕ) × Holds (Loop app)) → ((q : Refusal) → Holds q → 25 ≤ refusal_number q) → FoundBelow 26
  after_loop (inl (app, h)) low = inl (Loop app, (h, low))
  after_loop (inr never) low = inr more
    where
      more : (q : Refusal) → Holds q → 26 ≤ refusal_number q
      more NotAStatement h = let l = low NotAStatement h in absurd (omega (arith, l))
      more (FaultyData n) h = let l = low (FaultyData n) h in absurd (omega (arith, l))
      more JobWithAnotherText h = let l = low JobWithAnotherText h in absurd (omega (arith, l))
      more NotDefined h = let l = low NotDefined h in absurd (omega (arith, l))
      more NoPlan h = let l = low NoPlan h in absurd (omega (arith, l))
      more PlanExists h = let l = low PlanExists h in absurd (omega (arith, l))
      more (CalendarUndefined app) h = let l = low (CalendarUndefined app) h in absurd (omega (arith, l))
      more (PeriodUndefined app) h = let l = low (PeriodUndefined app) h in absurd (omega (arith, l))
      more DatesOutOfRange h = let l = low DatesOutOfRange h in absurd (omega (arith, l))
      more (Loop app) h = absurd (never (app, h))
      more NoActiveApplication h = omega arith
      more KeyIsLive h = omega arith
      more NoSuchOccurrence h = omega arith
      more StatusForbids h = omega arith
      more (PredecessorUncompleted n) h = omega arith
      more TooManyRows h = omega arith
      more PlanEndOutOfRange h = omega arith

  after_no_application : Decided (Holds NoActiveApplication) → ((q : Refusal) → Holds q → 26 ≤ refusal_number q) → FoundBelow 27
  after_no_application (inl h) low = inl (NoActiveApplication, (h, low))
  after_no_application (inr never) low = inr more
    where
      more : (q : Refusal) → Holds q → 27 ≤ refusal_number q
      more NotAStatement h = let l = low NotAStatement h in absurd (omega (arith, l))
      more (FaultyData n) h = let l = low (FaultyData n) h in absurd (omega (arith, l))
      more JobWithAnotherText h = let l = low JobWithAnotherText h in absurd (omega (arith, l))
      more NotDefined h = let l = low NotDefined h in absurd (omega (arith, l))
      more NoPlan h = let l = low NoPlan h in absurd (omega (arith, l))
      more PlanExists h = let l = low PlanExists h in absurd (omega (arith, l))
      more (CalendarUndefined app) h = let l = low (CalendarUndefined app) h in absurd (omega (arith, l))
      more (PeriodUndefined app) h = let l = low (PeriodUndefined app) h in absurd (omega (arith, l))
      more DatesOutOfRange h = let l = low DatesOutOfRange h in absurd (omega (arith, l))
      more (Loop app) h = let l = low (Loop app) h in absurd (omega (arith, l))
      more NoActiveApplication h = absurd (never h)
      more KeyIsLive h = omega arith
      more NoSuchOccurrence h = omega arith
      more StatusForbids h = omega arith
      more (PredecessorUncompleted n) h = omega arith
      more TooManyRows h = omega arith
      more PlanEndOutOfRange h = omega arith

  after_key_is_live : Decided (Holds KeyIsLive) → ((q : Refusal) → Holds q → 27 ≤ refusal_number q) → FoundBelow 28
  after_key_is_live (inl h) low = inl (KeyIsLive, (h, low))
  after_key_is_live (inr never) low = inr more
    where
      more : (q : Refusal) → Holds q → 28 ≤ refusal_number q
      more NotAStatement h = let l = low NotAStatement h in absurd (omega (arith, l))
      more (FaultyData n) h = let l = low (FaultyData n) h in absurd (omega (arith, l))
      more JobWithAnotherText h = let l = low JobWithAnotherText h in absurd (omega (arith, l))
      more NotDefined h = let l = low NotDefined h in absurd (omega (arith, l))
      more NoPlan h = let l = low NoPlan h in absurd (omega (arith, l))
      more PlanExists h = let l = low PlanExists h in absurd (omega (arith, l))
      more (CalendarUndefined app) h = let l = low (CalendarUndefined app) h in absurd (omega (arith, l))
      more (PeriodUndefined app) h = let l = low (PeriodUndefined app) h in absurd (omega (arith, l))
      more DatesOutOfRange h = let l = low DatesOutOfRange h in absurd (omega (arith, l))
      more (Loop app) h = let l = low (Loop app) h in absurd (omega (arith, l))
      more NoActiveApplication h = let l = low NoActiveApplication h in absurd (omega (arith, l))
      more KeyIsLive h = absurd (never h)
      more NoSuchOccurrence h = omega arith
      more StatusForbids h = omega arith
      more (PredecessorUncompleted n) h = omega arith
      more TooManyRows h = omega arith
      more PlanEndOutOfRange h = omega arith

  after_no_occurrence : Decided (Holds NoSuchOccurrence) → ((q : Refusal) → Holds q → 28 ≤ refusal_number q) → FoundBelow 29
  after_no_occurrence (inl h) low = inl (NoSuchOccurrence, (h, low))
  after_no_occurrence (inr never) low = inr more
    where
      more : (q : Refusal) → Holds q → 29 ≤ refusal_number q
      more NotAStatement h = let l = low NotAStatement h in absurd (omega (arith, l))
      more (FaultyData n) h = let l = low (FaultyData n) h in absurd (omega (arith, l))
      more JobWithAnotherText h = let l = low JobWithAnotherText h in absurd (omega (arith, l))
      more NotDefined h = let l = low NotDefined h in absurd (omega (arith, l))
      more NoPlan h = let l = low NoPlan h in absurd (omega (arith, l))
      more PlanExists h = let l = low PlanExists h in absurd (omega (arith, l))
      more (CalendarUndefined app) h = let l = low (CalendarUndefined app) h in absurd (omega (arith, l))
      more (PeriodUndefined app) h = let l = low (PeriodUndefined app) h in absurd (omega (arith, l))
      more DatesOutOfRange h = let l = low DatesOutOfRange h in absurd (omega (arith, l))
      more (Loop app) h = let l = low (Loop app) h in absurd (omega (arith, l))
      more NoActiveApplication h = let l = low NoActiveApplication h in absurd (omega (arith, l))
      more KeyIsLive h = let l = low KeyIsLive h in absurd (omega (arith, l))
      more NoSuchOccurrence h = absurd (never h)
      more StatusForbids h = omega arith
      more (PredecessorUncompleted n) h = omega arith
      more TooManyRows h = omega arith
      more PlanEndOutOfRange h = omega arith

  after_status : Decided (Holds StatusForbids) → ((q : Refusal) → Holds q → 29 ≤ refusal_number q) → FoundBelow 30
  after_status (inl h) low = inl (StatusForbids, (h, low))
  after_status (inr never) low = inr more
    where
      more : (q : Refusal) → Holds q → 30 ≤ refusal_number q
      more NotAStatement h = let l = low NotAStatement h in absurd (omega (arith, l))
      more (FaultyData n) h = let l = low (FaultyData n) h in absurd (omega (arith, l))
      more JobWithAnotherText h = let l = low JobWithAnotherText h in absurd (omega (arith, l))
      more NotDefined h = let l = low NotDefined h in absurd (omega (arith, l))
      more NoPlan h = let l = low NoPlan h in absurd (omega (arith, l))
      more PlanExists h = let l = low PlanExists h in absurd (omega (arith, l))
      more (CalendarUndefined app) h = let l = low (CalendarUndefined app) h in absurd (omega (arith, l))
      more (PeriodUndefined app) h = let l = low (PeriodUndefined app) h in absurd (omega (arith, l))
      more DatesOutOfRange h = let l = low DatesOutOfRange h in absurd (omega (arith, l))
      more (Loop app) h = let l = low (Loop app) h in absurd (omega (arith, l))
      more NoActiveApplication h = let l = low NoActiveApplication h in absurd (omega (arith, l))
      more KeyIsLive h = let l = low KeyIsLive h in absurd (omega (arith, l))
      more NoSuchOccurrence h = let l = low NoSuchOccurrence h in absurd (omega (arith, l))
      more StatusForbids h = absurd (never h)
      more (PredecessorUncompleted n) h = omega arith
      more TooManyRows h = omega arith
      more PlanEndOutOfRange h = omega arith

  after_predecessor : Decided ((n : ℕ) × Holds (PredecessorUncompleted n)) → ((q : Refusal) → Holds q → 30 ≤ refusal_number q) → FoundBelow 31
  after_predecessor (inl (n, h)) low = inl (PredecessorUncompleted n, (h, low))
  after_predecessor (inr never) low = inr more
    where
      more : (q : Refusal) → Holds q → 31 ≤ refusal_number q
      more NotAStatement h = let l = low NotAStatement h in absurd (omega (arith, l))
      more (FaultyData n) h = let l = low (FaultyData n) h in absurd (omega (arith, l))
      more JobWithAnotherText h = let l = low JobWithAnotherText h in absurd (omega (arith, l))
      more NotDefined h = let l = low NotDefined h in absurd (omega (arith, l))
      more NoPlan h = let l = low NoPlan h in absurd (omega (arith, l))
      more PlanExists h = let l = low PlanExists h in absurd (omega (arith, l))
      more (CalendarUndefined app) h = let l = low (CalendarUndefined app) h in absurd (omega (arith, l))
      more (PeriodUndefined app) h = let l = low (PeriodUndefined app) h in absurd (omega (arith, l))
      more DatesOutOfRange h = let l = low DatesOutOfRange h in absurd (omega (arith, l))
      more (Loop app) h = let l = low (Loop app) h in absurd (omega (arith, l))
      more NoActiveApplication h = let l = low NoActiveApplication h in absurd (omega (arith, l))
      more KeyIsLive h = let l = low KeyIsLive h in absurd (omega (arith, l))
      more NoSuchOccurrence h = let l = low NoSuchOccurrence h in absurd (omega (arith, l))
      more StatusForbids h = let l = low StatusForbids h in absurd (omega (arith, l))
      more (PredecessorUncompleted n) h = absurd (never (n, h))
      more TooManyRows h = omega arith
      more PlanEndOutOfRange h = omega arith

  after_too_many : Decided (Holds TooManyRows) → ((q : Refusal) → Holds q → 31 ≤ refusal_number q) → FoundBelow 32
  after_too_many (inl h) low = inl (TooManyRows, (h, low))
  after_too_many (inr never) low = inr more
    where
      more : (q : Refusal) → Holds q → 32 ≤ refusal_number q
      more NotAStatement h = let l = low NotAStatement h in absurd (omega (arith, l))
      more (FaultyData n) h = let l = low (FaultyData n) h in absurd (omega (arith, l))
      more JobWithAnotherText h = let l = low JobWithAnotherText h in absurd (omega (arith, l))
      more NotDefined h = let l = low NotDefined h in absurd (omega (arith, l))
      more NoPlan h = let l = low NoPlan h in absurd (omega (arith, l))
      more PlanExists h = let l = low PlanExists h in absurd (omega (arith, l))
      more (CalendarUndefined app) h = let l = low (CalendarUndefined app) h in absurd (omega (arith, l))
      more (PeriodUndefined app) h = let l = low (PeriodUndefined app) h in absurd (omega (arith, l))
      more DatesOutOfRange h = let l = low DatesOutOfRange h in absurd (omega (arith, l))
      more (Loop app) h = let l = low (Loop app) h in absurd (omega (arith, l))
      more NoActiveApplication h = let l = low NoActiveApplication h in absurd (omega (arith, l))
      more KeyIsLive h = let l = low KeyIsLive h in absurd (omega (arith, l))
      more NoSuchOccurrence h = let l = low NoSuchOccurrence h in absurd (omega (arith, l))
      more StatusForbids h = let l = low StatusForbids h in absurd (omega (arith, l))
      more (PredecessorUncompleted n) h = let l = low (PredecessorUncompleted n) h in absurd (omega (arith, l))
      more TooManyRows h = absurd (never h)
      more PlanEndOutOfRange h = omega arith

  after_plan_end : Decided (Holds PlanEndOutOfRange) → ((q : Refusal) → Holds q → 32 ≤ refusal_number q) → FoundBelow 33
  after_plan_end (inl h) low = inl (PlanEndOutOfRange, (h, low))
  after_plan_end (inr never) low = inr more
    where
      more : (q : Refusal) → Holds q → 33 ≤ refusal_number q
      more NotAStatement h = let l = low NotAStatement h in absurd (omega (arith, l))
      more (FaultyData n) h = let l = low (FaultyData n) h in absurd (omega (arith, l))
      more JobWithAnotherText h = let l = low JobWithAnotherText h in absurd (omega (arith, l))
      more NotDefined h = let l = low NotDefined h in absurd (omega (arith, l))
      more NoPlan h = let l = low NoPlan h in absurd (omega (arith, l))
      more PlanExists h = let l = low PlanExists h in absurd (omega (arith, l))
      more (CalendarUndefined app) h = let l = low (CalendarUndefined app) h in absurd (omega (arith, l))
      more (PeriodUndefined app) h = let l = low (PeriodUndefined app) h in absurd (omega (arith, l))
      more DatesOutOfRange h = let l = low DatesOutOfRange h in absurd (omega (arith, l))
      more (Loop app) h = let l = low (Loop app) h in absurd (omega (arith, l))
      more NoActiveApplication h = let l = low NoActiveApplication h in absurd (omega (arith, l))
      more KeyIsLive h = let l = low KeyIsLive h in absurd (omega (arith, l))
      more NoSuchOccurrence h = let l = low NoSuchOccurrence h in absurd (omega (arith, l))
      more StatusForbids h = let l = low StatusForbids h in absurd (omega (arith, l))
      more (PredecessorUncompleted n) h = let l = low (PredecessorUncompleted n) h in absurd (omega (arith, l))
      more TooManyRows h = let l = low TooManyRows h in absurd (omega (arith, l))
      more PlanEndOutOfRange h = absurd (never h)

  none_left : ((q : Refusal) → Holds q → 33 ≤ refusal_number q) → (q : Refusal) → Holds q → ⊥
  none_left low NotAStatement h = let l = low NotAStatement h in omega (arith, l)
  none_left low (FaultyData n) h = let l = low (FaultyData n) h in omega (arith, l)
  none_left low JobWithAnotherText h = let l = low JobWithAnotherText h in omega (arith, l)
  none_left low NotDefined h = let l = low NotDefined h in omega (arith, l)
  none_left low NoPlan h = let l = low NoPlan h in omega (arith, l)
  none_left low PlanExists h = let l = low PlanExists h in omega (arith, l)
  none_left low (CalendarUndefined app) h = let l = low (CalendarUndefined app) h in omega (arith, l)
  none_left low (PeriodUndefined app) h = let l = low (PeriodUndefined app) h in omega (arith, l)
  none_left low DatesOutOfRange h = let l = low DatesOutOfRange h in omega (arith, l)
  none_left low (Loop app) h = let l = low (Loop app) h in omega (arith, l)
  none_left low NoActiveApplication h = let l = low NoActiveApplication h in omega (arith, l)
  none_left low KeyIsLive h = let l = low KeyIsLive h in omega (arith, l)
  none_left low NoSuchOccurrence h = let l = low NoSuchOccurrence h in omega (arith, l)
  none_left low StatusForbids h = let l = low StatusForbids h in omega (arith, l)
  none_left low (PredecessorUncompleted n) h = let l = low (PredecessorUncompleted n) h in omega (arith, l)
  none_left low TooManyRows h = let l = low TooManyRows h in omega (arith, l)
  none_left low PlanEndOutOfRange h = let l = low PlanEndOutOfRange h in omega (arith, l)

  least_number : (q : Refusal) → Holds q → 10 ≤ refusal_number q
  least_number NotAStatement h = omega arith
  least_number (FaultyData n) h = omega arith
  least_number JobWithAnotherText h = omega arith
  least_number NotDefined h = omega arith
  least_number NoPlan h = omega arith
  least_number PlanExists h = omega arith
  least_number (CalendarUndefined app) h = omega arith
  least_number (PeriodUndefined app) h = omega arith
  least_number DatesOutOfRange h = omega arith
  least_number (Loop app) h = omega arith
  least_number NoActiveApplication h = omega arith
  least_number KeyIsLive h = omega arith
  least_number NoSuchOccurrence h = omega arith
  least_number StatusForbids h = omega arith
  least_number (PredecessorUncompleted n) h = omega arith
  least_number TooManyRows h = omega arith
  least_number PlanEndOutOfRange h = omega arith

  all_tried : AreDecided Holds → FoundBelow 33
  all_tried are =
      go_on 32 33 (go_on 31 32 (go_on 30 31 (go_on 29 30 (go_on 28 29 (go_on 27 28 (go_on 26 27 (go_on 25 26 (go_on 24 25 (go_on 23 24 (go_on 22 23 (go_on 21 22 (go_on 20 21 (go_on 13 20 (go_on 12 13 (go_on 11 12 (after_not_a_statement are.not_a_statement least_number) (after_faulty_data are.faulty_data)) (after_another_text are.another_text)) (after_not_defined are.not_defined)) (after_no_plan are.no_plan)) (after_plan_exists are.plan_exists)) (after_calendar are.calendar)) (after_period are.period)) (after_dates are.dates)) (after_loop are.loop)) (after_no_application are.no_application)) (after_key_is_live are.key_is_live)) (after_no_occurrence are.no_occurrence)) (after_status are.status)) (after_predecessor are.predecessor)) (after_too_many are.too_many)) (after_plan_end are.plan_end)

  pub least_refusal : AreDecided Holds → ((r : Refusal) × IsLeastRefusal Holds r) ⊎ ((q : Refusal) → Holds q → ⊥)
  least_refusal are = elim (all_tried are) [
    | inl found ↦ inl found
    | inr low ↦ inr (none_left low)
  ]

-- some reply, and what is left after it
abbrev pub IsAnswered : {State : Type 0} → Decision State → State → Type 0
IsAnswered {State} d c = (a : Result Reply Refusal) × (c' : State) × Decides d c a c'

-- refused with the least refusal, or done
pub answered : {State : Type 0} (d : Decision State) (c : State) → AreDecided (d.Refuses c)
    → (((q : Refusal) → d.Refuses c q → ⊥) → (reply : Reply) × (c' : State) × d.Does c reply c') → IsAnswered d c
answered d c are does = elim (least_refusal (d.Refuses c) are) [
  | inl found ↦ (Err found.0, c, (found.1, refl))
  | inr none ↦ let (reply, c', done) = does none in (Ok reply, c', (none, done))
]

-- what never holds
pub never : {A : Type 0} → (A → ⊥) → Decided A
never h = inr h
