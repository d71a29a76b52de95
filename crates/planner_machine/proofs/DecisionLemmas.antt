-- Decisions in general.
use Rattle.std.proofs.Common.{◌≡◌, ℕ, List, refl, sym, ap, subst, ◌∙◌, arith, Option, None, Some}
use Rattle.std.specs.Prelude.{nat_eq, if◌then◌else◌, Ok, Err}
use Rattle.occurrences.specs.Refusal.{refusal_number}
use Rattle.occurrences.specs.declared.refusal.Refusal.{Refusal}
use Rattle.occurrences.specs.declared.refusal.Refusal.TheVariants.{NotAStatement, FaultyData, JobWithAnotherText}
use Rattle.occurrences.specs.declared.refusal.Refusal.TheVariants.{NotDefined, NoPlan, PlanExists, CalendarUndefined}
use Rattle.occurrences.specs.declared.refusal.Refusal.TheVariants.{PeriodUndefined, DatesOutOfRange, Loop}
use Rattle.occurrences.specs.declared.refusal.Refusal.TheVariants.{NoActiveApplication, KeyIsLive, NoSuchOccurrence}
use Rattle.occurrences.specs.declared.refusal.Refusal.TheVariants.{StatusForbids, PredecessorUncompleted, TooManyRows}
use Rattle.occurrences.specs.declared.refusal.Refusal.TheVariants.{PlanEndOutOfRange}
use Rattle.occurrences.specs.declared.reply.Reply.{Reply}
use Rattle.planner_machine.specs.Decision.{Decision, DecidesOne, Detail, nothing, number, name, DoesOne}
use Rattle.planner_machine.specs.Decision.{HasOneDetail, IsLeastRefusal, KeepsSound, detail_of}

-- a refusal is its number and its detail
with_number : Detail → (ℕ → Refusal) → Option Refusal
with_number (number n) f = Some (f n)
with_number _ f = None

with_name : Detail → (List ℕ → Refusal) → Option Refusal
with_name (name app) f = Some (f app)
with_name _ f = None

refusal_of : ℕ → Detail → Option Refusal
refusal_of n d =
    if nat_eq n 10 then Some NotAStatement else
    if nat_eq n 11 then with_number d FaultyData else
    if nat_eq n 12 then Some JobWithAnotherText else
    if nat_eq n 13 then Some NotDefined else
    if nat_eq n 20 then Some NoPlan else
    if nat_eq n 21 then Some PlanExists else
    if nat_eq n 22 then with_name d CalendarUndefined else
    if nat_eq n 23 then with_name d PeriodUndefined else
    if nat_eq n 24 then Some DatesOutOfRange else
    if nat_eq n 25 then with_name d Loop else
    if nat_eq n 26 then Some NoActiveApplication else
    if nat_eq n 27 then Some KeyIsLive else
    if nat_eq n 28 then Some NoSuchOccurrence else
    if nat_eq n 29 then Some StatusForbids else
    if nat_eq n 30 then with_number d PredecessorUncompleted else
    if nat_eq n 31 then Some TooManyRows else
    Some PlanEndOutOfRange

back : (r : Refusal) → refusal_of (refusal_number r) (detail_of r) ≡ Some r
unfolding refusal_of with_number with_name
back NotAStatement = refl
back (FaultyData _) = refl
back JobWithAnotherText = refl
back NotDefined = refl
back NoPlan = refl
back PlanExists = refl
back (CalendarUndefined _) = refl
back (PeriodUndefined _) = refl
back DatesOutOfRange = refl
back (Loop _) = refl
back NoActiveApplication = refl
back KeyIsLive = refl
back NoSuchOccurrence = refl
back StatusForbids = refl
back (PredecessorUncompleted _) = refl
back TooManyRows = refl
back PlanEndOutOfRange = refl

pub one_refusal : (q r : Refusal) → refusal_number q ≡ refusal_number r → detail_of q ≡ detail_of r → q ≡ r
one_refusal q r numbers details = let at_q = back q in let at_r = back r in cc

module _ {State : Type 0} (Sound : State → Type 0) (d : Decision State) where
  one_least : HasOneDetail Sound d → (c : State) (q r : Refusal) → Sound c → IsLeastRefusal (d.Refuses c) q
      → IsLeastRefusal (d.Refuses c) r → q ≡ r
  one_least one c q r sound a b =
      let up = a.1 r b.0 in let down = b.1 q a.0 in
      let same : refusal_number q ≡ refusal_number r = omega arith in
      one_refusal q r same (one c q r sound a.0 b.0 same)

  pub decides_one : DoesOne Sound d → HasOneDetail Sound d → DecidesOne Sound d
  decides_one does one c (Ok x) (Ok y) c' c'' sound a b = let same = does c x y c' c'' sound a.1 b.1 in
      (ap Ok same.0, same.1)
  decides_one does one c (Ok x) (Err r) c' c'' sound a b = absurd (a.0 r b.0.0)
  decides_one does one c (Err q) (Ok y) c' c'' sound a b = absurd (b.0 q a.0.0)
  decides_one does one c (Err q) (Err r) c' c'' sound a b = (ap Err (one_least one c q r sound a.0 b.0), a.1 ∙ sym b.1)

  pub keeps_sound : ((c : State) (reply : Reply) (c' : State) → Sound c → ((q : Refusal) → d.Refuses c q → ⊥)
      → d.Does c reply c' → Sound c') → KeepsSound Sound d
  keeps_sound does c (Ok reply) c' sound a = does c reply c' sound a.0 a.1
  keeps_sound does c (Err r) c' sound a = subst Sound (sym a.1) sound

-- each refusal that shows a detail shows one
pub record ShowsOne (Holds : Refusal → Type 0) : Type 0 where
  pub data_at : (m n : ℕ) → Holds (FaultyData m) → Holds (FaultyData n) → m ≡ n
  pub calendar : (a b : List ℕ) → Holds (CalendarUndefined a) → Holds (CalendarUndefined b) → a ≡ b
  pub period : (a b : List ℕ) → Holds (PeriodUndefined a) → Holds (PeriodUndefined b) → a ≡ b
  pub loop : (a b : List ℕ) → Holds (Loop a) → Holds (Loop b) → a ≡ b
  pub predecessor : (m n : ℕ) → Holds (PredecessorUncompleted m) → Holds (PredecessorUncompleted n) → m ≡ n

named_refusal : (f : List ℕ → Refusal) (d : Detail) (r : Refusal) → with_name d f ≡ Some r → (b : List ℕ) × (f b ≡ r)
unfolding with_name
named_refusal f (name b) r is = let same : f b ≡ r = cc in (b, same)
named_refusal f nothing r is = cc
named_refusal f (number n) r is = cc

numbered_refusal : (f : ℕ → Refusal) (d : Detail) (r : Refusal) → with_number d f ≡ Some r → (n : ℕ) × (f n ≡ r)
unfolding with_number
numbered_refusal f (number n) r is = let same : f n ≡ r = cc in (n, same)
numbered_refusal f nothing r is = cc
numbered_refusal f (name b) r is = cc

from_number : (q r : Refusal) → refusal_number q ≡ refusal_number r
    → refusal_of (refusal_number q) (detail_of r) ≡ Some r
from_number q r same = ap (λ n. refusal_of n (detail_of r)) same ∙ back r

plain_one : (q r : Refusal) → Some q ≡ Some r → detail_of q ≡ detail_of r
plain_one q r is = let same : q ≡ r = cc in ap detail_of same

module _ (Holds : Refusal → Type 0) (one : ShowsOne Holds) where
  with_app : (f : List ℕ → Refusal) → ((a b : List ℕ) → Holds (f a) → Holds (f b) → a ≡ b)
      → (a : List ℕ) (r : Refusal) → Holds (f a) → Holds r → with_name (detail_of r) f ≡ Some r
      → detail_of (f a) ≡ detail_of r
  with_app f unique a r hq hr is =
      let (b, same) = named_refusal f (detail_of r) r is in
      let apps = unique a b hq (subst Holds (sym same) hr) in ap (λ x. detail_of (f x)) apps ∙ ap detail_of same

  with_nat : (f : ℕ → Refusal) → ((a b : ℕ) → Holds (f a) → Holds (f b) → a ≡ b) → (a : ℕ) (r : Refusal) → Holds (f a)
      → Holds r → with_number (detail_of r) f ≡ Some r → detail_of (f a) ≡ detail_of r
  with_nat f unique a r hq hr is =
      let (b, same) = numbered_refusal f (detail_of r) r is in
      let numbers = unique a b hq (subst Holds (sym same) hr) in ap (λ x. detail_of (f x)) numbers ∙ ap detail_of same

  pub shows_one : (q r : Refusal) → Holds q → Holds r → refusal_number q ≡ refusal_number r → detail_of q ≡ detail_of r
  unfolding refusal_of
  shows_one NotAStatement r hq hr same = plain_one NotAStatement r (from_number NotAStatement r same)
  shows_one (FaultyData n) r hq hr same = with_nat FaultyData one.data_at n r hq hr (from_number (FaultyData n) r same)
  shows_one JobWithAnotherText r hq hr same = plain_one JobWithAnotherText r (from_number JobWithAnotherText r same)
  shows_one NotDefined r hq hr same = plain_one NotDefined r (from_number NotDefined r same)
  shows_one NoPlan r hq hr same = plain_one NoPlan r (from_number NoPlan r same)
  shows_one PlanExists r hq hr same = plain_one PlanExists r (from_number PlanExists r same)
  shows_one (CalendarUndefined a) r hq hr same =
      with_app CalendarUndefined one.calendar a r hq hr (from_number (CalendarUndefined a) r same)
  shows_one (PeriodUndefined a) r hq hr same =
      with_app PeriodUndefined one.period a r hq hr (from_number (PeriodUndefined a) r same)
  shows_one DatesOutOfRange r hq hr same = plain_one DatesOutOfRange r (from_number DatesOutOfRange r same)
  shows_one (Loop a) r hq hr same = with_app Loop one.loop a r hq hr (from_number (Loop a) r same)
  shows_one NoActiveApplication r hq hr same = plain_one NoActiveApplication r (from_number NoActiveApplication r same)
  shows_one KeyIsLive r hq hr same = plain_one KeyIsLive r (from_number KeyIsLive r same)
  shows_one NoSuchOccurrence r hq hr same = plain_one NoSuchOccurrence r (from_number NoSuchOccurrence r same)
  shows_one StatusForbids r hq hr same = plain_one StatusForbids r (from_number StatusForbids r same)
  shows_one (PredecessorUncompleted n) r hq hr same =
      with_nat PredecessorUncompleted one.predecessor n r hq hr (from_number (PredecessorUncompleted n) r same)
  shows_one TooManyRows r hq hr same = plain_one TooManyRows r (from_number TooManyRows r same)
  shows_one PlanEndOutOfRange r hq hr same = plain_one PlanEndOutOfRange r (from_number PlanEndOutOfRange r same)
