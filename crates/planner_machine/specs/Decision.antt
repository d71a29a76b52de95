-- Decisions: why a statement is refused, and what it does where it isn't.
use Rattle.std.specs.Prelude.{◌≡◌, ℕ, ◌≤◌, Result, Ok, Err, List}
use Rattle.occurrences.specs.Refusal.{refusal_number}
use Rattle.occurrences.specs.declared.refusal.Refusal.{Refusal}
use Rattle.occurrences.specs.declared.refusal.Refusal.TheVariants.{FaultyData, CalendarUndefined, PeriodUndefined, Loop}
use Rattle.occurrences.specs.declared.refusal.Refusal.TheVariants.{PredecessorUncompleted}
use Rattle.occurrences.specs.declared.reply.Reply.{Reply}

-- why a statement is refused, and its reply and what it leaves, over a content or whatever else it changes
pub record Decision (State : Type 0) : Type 1 where
  pub Refuses : State → Refusal → Type 0
  pub Does : State → Reply → State → Type 0

-- of the refusals that hold, the one of the least number
abbrev pub IsLeastRefusal : (Refusal → Type 0) → Refusal → Type 0
IsLeastRefusal Holds r = Holds r × ((q : Refusal) → Holds q → refusal_number r ≤ refusal_number q)

-- the reply is the least refusal that holds, and nothing changes; or none holds, and the statement does what it does
abbrev pub Decides : {State : Type 0} → Decision State → State → Result Reply Refusal → State → Type 0
Decides d c (Err r) c' = IsLeastRefusal (d.Refuses c) r × (c' ≡ c)
Decides d c (Ok reply) c' = ((q : Refusal) → d.Refuses c q → ⊥) × d.Does c reply c'

-- the reply to a trial of a statement: what the reply to the statement would be; and nothing changes
abbrev pub trial : {State : Type 0} → Decision State → Decision State
trial {State} d = record { Refuses = d.Refuses; Does = λ c reply c'. (c' ≡ c) × ((left : State) × d.Does c reply left) }

-- what a refusal's line shows after its number
pub data Detail : Type 0 where
  nothing : Detail
  number : ℕ → Detail
  name : List ℕ → Detail

abbrev pub detail_of : Refusal → Detail
detail_of (FaultyData record_number) = number record_number
detail_of (CalendarUndefined app) = name app
detail_of (PeriodUndefined app) = name app
detail_of (Loop app) = name app
detail_of (PredecessorUncompleted serial) = number serial
detail_of _ = nothing

module _ {State : Type 0} (Sound : State → Type 0) (d : Decision State) where
  -- two refusals of one number that hold have one detail
  abbrev pub HasOneDetail : Type 0
  HasOneDetail = (c : State) (q r : Refusal) → Sound c → d.Refuses c q → d.Refuses c r
      → refusal_number q ≡ refusal_number r → detail_of q ≡ detail_of r

  -- if nothing is refused, exactly one thing is done
  abbrev pub DoesOne : Type 0
  DoesOne = (c : State) (reply reply' : Reply) (c' c'' : State) → Sound c → d.Does c reply c' → d.Does c reply' c''
      → (reply ≡ reply') × (c' ≡ c'')

  -- one reply, and one content after it
  abbrev pub DecidesOne : Type 0
  DecidesOne = (c : State) (a a' : Result Reply Refusal) (c' c'' : State) → Sound c → Decides d c a c'
      → Decides d c a' c'' → (a ≡ a') × (c' ≡ c'')

  -- sound content stays sound, whatever the reply
  abbrev pub KeepsSound : Type 0
  KeepsSound = (c : State) (a : Result Reply Refusal) (c' : State) → Sound c → Decides d c a c' → Sound c'
