-- An answer is told by its line.
use Rattle.std.proofs.Common.{◌≡◌, ℕ, ◌+◌, ◌<◌, ◌^◌, ◌%◌, List, [], ◌∷◌, ◌++◌, false, cond, Result, Ok, Err, refl}
use Rattle.std.proofs.Common.{sym, ap, ap₂, ◌∙◌, arith, get_or, drop, append_assoc}
use Rattle.std.specs.Prelude.{codes, nat_eq}
use Rattle.std.specs.Fmt.{decimal}
use Rattle.std.specs.List.{AllByRecursion}
use Rattle.std.specs.Str.Parse.{digits_value}
use Rattle.std.proofs.lemmas.Bool.Decides.{nat_tests}
use Rattle.std.proofs.lemmas.List.{append-nil}
use Rattle.std.proofs.lemmas.Fmt.{decimal_by_steps, decimal_is_IsNumeral}
use Rattle.occurrences.specs.Status.{status_letter}
use Rattle.occurrences.specs.declared.refusal.Refusal.{Refusal}
use Rattle.occurrences.specs.declared.refusal.Refusal.TheVariants as refusal
use Rattle.occurrences.specs.declared.reply.Reply.{Reply}
use Rattle.occurrences.specs.declared.reply.Reply.TheVariants as reply
use Rattle.plan_listings.specs.Reply.{counted, refusal_text, reply_text}
use Rattle.plan_tables_content.specs.Decoded.{answer_in, before, behind, moved_in, number_in, occurrence_in, refusal_in, refusal_of, reply_in}
use Rattle.plan_tables_content.specs.Content.{answer_text, IsSmall}
use Rattle.plan_tables_content.proofs.Decoded.{status_back}

abbrev IsSolid : List ℕ → Type 0
IsSolid ds = AllByRecursion (λ b. nat_eq b 32 ≡ false) ds

before_blank : (ds rest : List ℕ) → IsSolid ds → before (ds ++ 32 ∷ rest) ≡ ds
unfolding before
before_blank [] rest all = refl
before_blank (d ∷ ds) rest all = rw (all.0) (ap (λ l. d ∷ l) (before_blank ds rest all.1))

before_end : (ds : List ℕ) → IsSolid ds → before ds ≡ ds
unfolding before
before_end [] all = refl
before_end (d ∷ ds) all = rw (all.0) (ap (λ l. d ∷ l) (before_end ds all.1))

behind_blank : (ds rest : List ℕ) → IsSolid ds → behind (ds ++ 32 ∷ rest) ≡ rest
unfolding behind
behind_blank [] rest all = refl
behind_blank (d ∷ ds) rest all = rw (all.0) (behind_blank ds rest all.1)

behind_end : (ds : List ℕ) → IsSolid ds → behind ds ≡ []
unfolding behind
behind_end [] all = refl
behind_end (d ∷ ds) all = rw (all.0) (behind_end ds all.1)

solid_more : (ds : List ℕ) (b : ℕ) → IsSolid ds → nat_eq b 32 ≡ false → IsSolid (ds ++ b ∷ [])
solid_more [] b all is = (is, tt)
solid_more (d ∷ ds) b all is = (all.0, solid_more ds b all.1 is)

not_blank : (k : ℕ) → nat_eq (48 + k) 32 ≡ false
not_blank k = grind (arith, nat_tests)

solid : (n : ℕ) → n < 2 ^ 64 → IsSolid (decimal n)
solid n small = decimal_by_steps (λ m ds. IsSolid ds) (λ m low. (not_blank m, tt))
    (λ m ds high all. solid_more ds (48 + m % 10) all (not_blank (m % 10))) n small

value_back : (n : ℕ) → n < 2 ^ 64 → digits_value 10 (decimal n) ≡ n
value_back n small = (decimal_is_IsNumeral n small).1

number_blank : (n : ℕ) (rest : List ℕ) → n < 2 ^ 64 → number_in (decimal n ++ 32 ∷ rest) ≡ n
number_blank n rest small = ap (digits_value 10) (before_blank (decimal n) rest (solid n small)) ∙ value_back n small

number_end : (n : ℕ) → n < 2 ^ 64 → number_in (decimal n) ≡ n
number_end n small = ap (digits_value 10) (before_end (decimal n) (solid n small)) ∙ value_back n small

rest_blank : (n : ℕ) (rest : List ℕ) → n < 2 ^ 64 → behind (decimal n ++ 32 ∷ rest) ≡ rest
rest_blank n rest small = behind_blank (decimal n) rest (solid n small)

-- ---- replies

joined : (a b c d : List ℕ) → a ++ b ++ c ++ d ≡ a ++ (b ++ (c ++ d))
joined a b c d = append_assoc (a ++ b) c d ∙ append_assoc a b (c ++ d)

moved_back : (moved carried completed deleted : ℕ) → IsSmall (Ok (reply.Moved moved carried completed deleted))
    → moved_in (decimal moved ++ (counted (codes " carried") carried ++ (counted (codes " completed") completed
    ++ counted (codes " deleted") deleted))) ≡ reply.Moved moved carried completed deleted
unfolding moved_in
moved_back moved carried completed deleted small =
    let third = codes "deleted" ++ 32 ∷ decimal deleted in
    let second = codes "completed" ++ 32 ∷ (decimal completed ++ 32 ∷ third) in
    let first = codes "carried" ++ 32 ∷ (decimal carried ++ 32 ∷ second) in
    let one = rest_blank moved first small.0 in
    let two = rest_blank carried second small.1 in
    let three = rest_blank completed third small.2 in
    let c = ap (λ u. number_in (drop 8 u)) one ∙ number_blank carried second small.1 in
    let k = ap (λ u. number_in (drop 10 (behind (drop 8 u)))) one ∙ ap (λ u. number_in (drop 10 u)) two
    ∙ number_blank completed third small.2 in
    let d = ap (λ u. number_in (drop 8 (behind (drop 10 (behind (drop 8 u)))))) one
    ∙ ap (λ u. number_in (drop 8 (behind (drop 10 u)))) two ∙ ap (λ u. number_in (drop 8 u)) three
    ∙ number_end deleted small.3 in
    λ i. reply.Moved (number_blank moved first small.0 i) (c i) (k i) (d i)

reply_back : (r : Reply) → IsSmall (Ok r) → reply_in (reply_text r) ≡ r
unfolding occurrence_in
reply_back (reply.Defined names) small = ap reply.Defined (number_end names small)
reply_back reply.Undefined small = refl
reply_back (reply.Rows rows) small = ap reply.Rows (number_end rows small)
reply_back (reply.Numbered serial) small =
    ap₂ occurrence_in (number_end serial small) (behind_end (decimal serial) (solid serial small))
reply_back (reply.Changed serial status) small =
    let rest = codes "status " ++ status_letter status ∷ [] in
    ap (λ t. occurrence_in (number_in t) (behind t)) (append_assoc (decimal serial) (codes " status ")
    (status_letter status ∷ []))
    ∙ ap₂ occurrence_in (number_blank serial rest small) (rest_blank serial rest small)
    ∙ ap (reply.Changed serial) (status_back status)
reply_back (reply.Made made withdrawn) small =
    let rest = codes "withdrawn" ++ 32 ∷ decimal withdrawn in
    ap₂ reply.Made (number_blank made rest small.0)
    (ap (λ t. number_in (drop 10 t)) (rest_blank made rest small.0) ∙ number_end withdrawn small.1)
reply_back (reply.Moved moved carried completed deleted) small =
    ap moved_in (joined (decimal moved) (counted (codes " carried") carried) (counted (codes " completed") completed)
    (counted (codes " deleted") deleted)) ∙ moved_back moved carried completed deleted small

-- ---- refusals

bare : (n : ℕ) → n < 2 ^ 64 → refusal_of (number_in (decimal n ++ [])) (behind (decimal n ++ [])) ≡ refusal_of n []
bare n small = ap (λ t. refusal_of (number_in t) (behind t)) (append-nil (decimal n))
    ∙ ap₂ refusal_of (number_end n small) (behind_end (decimal n) (solid n small))

detailed : (n : ℕ) (rest : List ℕ) → n < 2 ^ 64
    → refusal_of (number_in (decimal n ++ 32 ∷ rest)) (behind (decimal n ++ 32 ∷ rest)) ≡ refusal_of n rest
detailed n rest small = ap₂ refusal_of (number_blank n rest small) (rest_blank n rest small)

refusal_back : (r : Refusal) → IsSmall (Err r) → refusal_in (refusal_text r) ≡ r
unfolding refusal_of
refusal_back refusal.NotAStatement small = bare 10 (omega arith)
refusal_back (refusal.FaultyData n) small =
    detailed 11 (decimal n) (omega arith) ∙ ap refusal.FaultyData (value_back n small)
refusal_back refusal.JobWithAnotherText small = bare 12 (omega arith)
refusal_back refusal.NotDefined small = bare 13 (omega arith)
refusal_back refusal.NoPlan small = bare 20 (omega arith)
refusal_back refusal.PlanExists small = bare 21 (omega arith)
refusal_back (refusal.CalendarUndefined app) small = detailed 22 app (omega arith)
refusal_back (refusal.PeriodUndefined app) small = detailed 23 app (omega arith)
refusal_back refusal.DatesOutOfRange small = bare 24 (omega arith)
refusal_back (refusal.Loop app) small = detailed 25 app (omega arith)
refusal_back refusal.NoActiveApplication small = bare 26 (omega arith)
refusal_back refusal.KeyIsLive small = bare 27 (omega arith)
refusal_back refusal.NoSuchOccurrence small = bare 28 (omega arith)
refusal_back refusal.StatusForbids small = bare 29 (omega arith)
refusal_back (refusal.PredecessorUncompleted n) small =
    detailed 30 (decimal n) (omega arith) ∙ ap refusal.PredecessorUncompleted (value_back n small)
refusal_back refusal.TooManyRows small = bare 31 (omega arith)
refusal_back refusal.PlanEndOutOfRange small = bare 32 (omega arith)

-- ---- answers

begins_ok : (r : Reply) → get_or (reply_text r) 0 0 ≡ 111
begins_ok (reply.Defined names) = refl
begins_ok reply.Undefined = refl
begins_ok (reply.Rows rows) = refl
begins_ok (reply.Numbered serial) = refl
begins_ok (reply.Changed serial status) = refl
begins_ok (reply.Made made withdrawn) = refl
begins_ok (reply.Moved moved carried completed deleted) = refl

pub answer_back : (a : Result Reply Refusal) → IsSmall a → answer_in (answer_text a) ≡ a
answer_back (Ok r) small = ap (λ n. cond (nat_eq n 111) (Ok (reply_in (reply_text r))) (Err (refusal_in
    (reply_text r)))) (begins_ok r)
    ∙ ap Ok (reply_back r small)
answer_back (Err r) small = ap Err (refusal_back r small)

pub one_answer : (a b : Result Reply Refusal) → IsSmall a → IsSmall b → answer_text a ≡ answer_text b → a ≡ b
one_answer a b low small e = sym (answer_back a low) ∙ ap answer_in e ∙ answer_back b small
