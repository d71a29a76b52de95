-- Numbers and words of a line.
use Rattle.std.proofs.Common.{◌≡◌, ◌∙◌, ℕ, ◌+◌, ◌<◌, ◌^◌, ◌%◌, List, [], ◌∷◌, ◌++◌, refl, ap, arith, eqb, false, suc}
use Rattle.std.proofs.Common.{Bool, true, Result, Ok, Err, subst, cond, take, drop, append_assoc}
use Rattle.std.specs.Str.{IsAscii, IsUtf8}
use Rattle.std.proofs.lemmas.Str.Ascii.{IsAscii-cons, IsAscii-nil}
use Rattle.std.proofs.lemmas.Fmt.{IsAscii-decimal}
use Rattle.std.proofs.lemmas.Str.{IsUtf8-append, IsUtf8-from_ascii, IsUtf8-nil}
use Rattle.work_calendars.proofs.NameFacts.{IsUtf8-name}
use Rattle.occurrences.specs.Status.{status_letter}
use Rattle.occurrences.specs.declared.refusal.Refusal.{Refusal}
use Rattle.occurrences.specs.declared.refusal.Refusal.TheVariants as refusal
use Rattle.occurrences.specs.declared.reply.Reply.{Reply}
use Rattle.occurrences.specs.declared.reply.Reply.TheVariants as reply
use Rattle.occurrences.specs.declared.status.Status.{Status}
use Rattle.occurrences.specs.declared.status.Status.TheVariants as status
use Rattle.plan_tables_content.specs.Content.{answer_text}
use Rattle.planner_machine.specs.Sound.{IsKeptReply, IsShown}
use Rattle.plan_listings.specs.Reply.{counted, refusal_text, reply_text}
use Rattle.std.specs.Prelude.{codes, nat_lt, not, ◌&&◌}
use Rattle.std.specs.Fmt.{decimal}
use Rattle.std.specs.List.{AllByRecursion, position_or_len}
use Rattle.std.proofs.lemmas.Bool.Decides.{nat_tests}
use Rattle.std.proofs.lemmas.Fmt.{decimal_by_steps}
use Rattle.plan_tables_loading.specs.Lines.{back, behind_two, front}

abbrev IsSolid : List ℕ → Type 0
IsSolid ds = AllByRecursion (λ b. eqb b 32 ≡ false) ds

solid_more : (ds : List ℕ) (b : ℕ) → IsSolid ds → eqb b 32 ≡ false → IsSolid (ds ++ b ∷ [])
solid_more [] b all is = (is, tt)
solid_more (d ∷ ds) b all is = (all.0, solid_more ds b all.1 is)

not_blank : (k : ℕ) → eqb (48 + k) 32 ≡ false
not_blank k = grind (arith, nat_tests)

solid : (n : ℕ) → n < 2 ^ 64 → IsSolid (decimal n)
solid n small = decimal_by_steps (λ m ds. IsSolid ds) (λ m low. (not_blank m, tt))
    (λ m ds high all. solid_more ds (48 + m % 10) all (not_blank (m % 10))) n small

front_step : (d : ℕ) (xs : List ℕ) → eqb d 32 ≡ false → front (d ∷ xs) ≡ d ∷ front xs
front_step d xs h =
    let q = position_or_len (λ b. eqb b 32) xs in
    let one : 1 + q ≡ suc q = omega arith in
    (λ i. take (cond (not (h i)) (1 + q) 0) (d ∷ xs)) ∙ ap (λ n. take n (d ∷ xs)) one

back_step : (d : ℕ) (xs : List ℕ) → eqb d 32 ≡ false → back (d ∷ xs) ≡ back xs
back_step d xs h =
    let q = position_or_len (λ b. eqb b 32) xs in
    let one : 1 + q + 1 ≡ suc (q + 1) = omega arith in
    (λ i. drop (cond (not (h i)) (1 + q) 0 + 1) (d ∷ xs)) ∙ ap (λ n. drop n (d ∷ xs)) one

front_solid : (ds rest : List ℕ) → IsSolid ds → front (ds ++ 32 ∷ rest) ≡ ds
front_solid [] rest all = refl
front_solid (d ∷ ds) rest all =
    front_step d (ds ++ 32 ∷ rest) all.0 ∙ ap (λ l. d ∷ l) (front_solid ds rest all.1)

front_whole : (ds : List ℕ) → IsSolid ds → front ds ≡ ds
front_whole [] all = refl
front_whole (d ∷ ds) all = front_step d ds all.0 ∙ ap (λ l. d ∷ l) (front_whole ds all.1)

back_solid : (ds rest : List ℕ) → IsSolid ds → back (ds ++ 32 ∷ rest) ≡ rest
back_solid [] rest all = refl
back_solid (d ∷ ds) rest all = back_step d (ds ++ 32 ∷ rest) all.0 ∙ back_solid ds rest all.1

back_whole : (ds : List ℕ) → IsSolid ds → back ds ≡ []
back_whole [] all = refl
back_whole (d ∷ ds) all = back_step d ds all.0 ∙ back_whole ds all.1

-- a number, and what stands behind it
pub number_first : (text : List ℕ) (n : ℕ) (rest : List ℕ) → n < 2 ^ 64 → text ≡ decimal n ++ 32 ∷ rest
    → front text ≡ decimal n
number_first text n rest small is = ap front is ∙ front_solid (decimal n) rest (solid n small)

pub number_alone : (text : List ℕ) (n : ℕ) → n < 2 ^ 64 → text ≡ decimal n → front text ≡ decimal n
number_alone text n small is = ap front is ∙ front_whole (decimal n) (solid n small)

behind_number : (text : List ℕ) (n : ℕ) (rest : List ℕ) → n < 2 ^ 64 → text ≡ decimal n ++ 32 ∷ rest
    → back text ≡ rest
behind_number text n rest small is = ap back is ∙ back_solid (decimal n) rest (solid n small)

pub behind_alone : (text : List ℕ) (n : ℕ) → n < 2 ^ 64 → text ≡ decimal n → back text ≡ []
behind_alone text n small is = ap back is ∙ back_whole (decimal n) (solid n small)

-- what stands behind a number and a word
pub behind_word : (text : List ℕ) (n : ℕ) (rest : List ℕ) → n < 2 ^ 64 → text ≡ decimal n ++ 32 ∷ rest
    → behind_two text ≡ back rest
behind_word text n rest small is = ap (λ l. back l) (behind_number text n rest small is)

pub shown_small : (n : ℕ) → IsShown n → n < 2 ^ 64
shown_small n is = omega (arith, is)

-- ---- lines are text

abbrev are_low : List ℕ → Bool
are_low [] = true
are_low (b ∷ bs) = nat_lt b 128 && are_low bs

both_true : (a b : Bool) → (a && b) ≡ true → (a ≡ true) × (b ≡ true)
both_true true b h = (refl, h)
both_true false b h = cc

below : (b : ℕ) → nat_lt b 128 ≡ true → b < 128
below b h = grind (arith, nat_tests)

ascii_word : (bs : List ℕ) → are_low bs ≡ true → IsAscii bs
ascii_word [] h = IsAscii-nil
ascii_word (b ∷ bs) h =
    let two = both_true (nat_lt b 128) (are_low bs) h in
    IsAscii-cons b bs (below b two.0) (ascii_word bs two.1)

utf8_word : (bs : List ℕ) → are_low bs ≡ true → IsUtf8 bs
utf8_word bs h = IsUtf8-from_ascii bs (ascii_word bs h)

utf8_number : (n : ℕ) → n < 2 ^ 64 → IsUtf8 (decimal n)
utf8_number n small = IsUtf8-from_ascii (decimal n) (IsAscii-decimal n small)

utf8_counted : (word : List ℕ) (n : ℕ) → IsUtf8 (word ++ 32 ∷ []) → n < 2 ^ 64 → IsUtf8 (counted word n)
utf8_counted word n is small = subst IsUtf8 (append_assoc word (32 ∷ []) (decimal n))
    (IsUtf8-append (word ++ 32 ∷ []) (decimal n) is (utf8_number n small))

utf8_letter : (s : Status) → IsUtf8 (status_letter s ∷ [])
utf8_letter status.W = utf8_word _ refl
utf8_letter status.S = utf8_word _ refl
utf8_letter status.E = utf8_word _ refl
utf8_letter status.C = utf8_word _ refl
utf8_letter status.D = utf8_word _ refl

utf8_reply : (r : Reply) → IsKeptReply (Ok r) → IsUtf8 (reply_text r)
utf8_reply (reply.Defined n) kept = utf8_counted (codes "ok defined") n (utf8_word _ refl) (shown_small n kept)
utf8_reply reply.Undefined kept = utf8_word _ refl
utf8_reply (reply.Made m w) kept = IsUtf8-append (counted (codes "ok made") m) (counted (codes " withdrawn") w)
    (utf8_counted (codes "ok made") m (utf8_word _ refl) (shown_small m kept.0))
    (utf8_counted (codes " withdrawn") w (utf8_word _ refl) (shown_small w kept.1))
utf8_reply (reply.Numbered n) kept =
    utf8_counted (codes "ok serial") n (utf8_word _ refl) (shown_small n kept)
utf8_reply (reply.Changed n s) kept =
    IsUtf8-append (counted (codes "ok serial") n ++ codes " status ") (status_letter s ∷ [])
    (IsUtf8-append (counted (codes "ok serial") n) (codes " status ")
    (utf8_counted (codes "ok serial") n (utf8_word _ refl) (shown_small n kept))
    (utf8_word _ refl))
    (utf8_letter s)
utf8_reply (reply.Moved m f k g) kept =
    let one = counted (codes "ok moved") m in
    let two = counted (codes " carried") f in
    let three = counted (codes " completed") k in
    let four = counted (codes " deleted") g in
    IsUtf8-append (one ++ two ++ three) four
    (IsUtf8-append (one ++ two) three
    (IsUtf8-append one two (utf8_counted (codes "ok moved") m (utf8_word _ refl) (shown_small m kept.0))
    (utf8_counted (codes " carried") f (utf8_word _ refl) (shown_small f kept.1)))
    (utf8_counted (codes " completed") k (utf8_word _ refl) (shown_small k kept.2)))
    (utf8_counted (codes " deleted") g (utf8_word _ refl) (shown_small g kept.3))
utf8_reply (reply.Rows n) kept = absurd kept

utf8_refused : (k : ℕ) (detail : List ℕ) → k < 2 ^ 64 → IsUtf8 detail
    → IsUtf8 (counted (codes "refused") k ++ detail)
utf8_refused k detail small is = IsUtf8-append (counted (codes "refused") k) detail
    (utf8_counted (codes "refused") k (utf8_word _ refl) small) is

utf8_nothing : IsUtf8 []
utf8_nothing = IsUtf8-nil

utf8_blank : (word : List ℕ) → IsUtf8 word → IsUtf8 (32 ∷ word)
utf8_blank word is = IsUtf8-append (32 ∷ []) word (utf8_word _ refl) is

utf8_refusal : (r : Refusal) → IsKeptReply (Err r) → IsUtf8 (refusal_text r)
utf8_refusal refusal.NotAStatement kept = utf8_refused 10 [] (omega arith) utf8_nothing
utf8_refusal (refusal.FaultyData n) kept = absurd (omega (arith, kept))
utf8_refusal refusal.JobWithAnotherText kept = utf8_refused 12 [] (omega arith) utf8_nothing
utf8_refusal refusal.NotDefined kept = utf8_refused 13 [] (omega arith) utf8_nothing
utf8_refusal refusal.NoPlan kept = utf8_refused 20 [] (omega arith) utf8_nothing
utf8_refusal refusal.PlanExists kept = utf8_refused 21 [] (omega arith) utf8_nothing
utf8_refusal (refusal.CalendarUndefined app) kept =
    utf8_refused 22 (32 ∷ app) (omega arith) (utf8_blank app (IsUtf8-name _ app kept))
utf8_refusal (refusal.PeriodUndefined app) kept =
    utf8_refused 23 (32 ∷ app) (omega arith) (utf8_blank app (IsUtf8-name _ app kept))
utf8_refusal refusal.DatesOutOfRange kept = utf8_refused 24 [] (omega arith) utf8_nothing
utf8_refusal (refusal.Loop app) kept =
    utf8_refused 25 (32 ∷ app) (omega arith) (utf8_blank app (IsUtf8-name _ app kept))
utf8_refusal refusal.NoActiveApplication kept = utf8_refused 26 [] (omega arith) utf8_nothing
utf8_refusal refusal.KeyIsLive kept = utf8_refused 27 [] (omega arith) utf8_nothing
utf8_refusal refusal.NoSuchOccurrence kept = utf8_refused 28 [] (omega arith) utf8_nothing
utf8_refusal refusal.StatusForbids kept = utf8_refused 29 [] (omega arith) utf8_nothing
utf8_refusal (refusal.PredecessorUncompleted n) kept =
    utf8_refused 30 (32 ∷ decimal n) (omega arith) (utf8_blank (decimal n) (utf8_number n (shown_small n kept)))
utf8_refusal refusal.TooManyRows kept = utf8_refused 31 [] (omega arith) utf8_nothing
utf8_refusal refusal.PlanEndOutOfRange kept = utf8_refused 32 [] (omega arith) utf8_nothing

-- the line of an answer that is kept is text
pub utf8_line : (a : Result Reply Refusal) → IsKeptReply a → IsUtf8 (answer_text a)
utf8_line (Ok r) kept = utf8_reply r kept
utf8_line (Err r) kept = utf8_refusal r kept
