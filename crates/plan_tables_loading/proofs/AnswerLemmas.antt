-- Answers that are kept are what the words of their lines choose.
use Rattle.std.proofs.Common.{◌≡◌, ◌∙◌, List, [], ◌∷◌, ◌++◌, ℕ, Option, Some, Result, Ok, Err, ap, arith, refl}
use Rattle.std.proofs.Common.{append_assoc}
use Rattle.std.specs.Fmt.{decimal, digits}
use Rattle.std.specs.Prelude.{codes}
use Rattle.occurrences.specs.Status.{status_letter}
use Rattle.occurrences.specs.declared.refusal.Refusal.{Refusal}
use Rattle.occurrences.specs.declared.refusal.Refusal.TheVariants as refusal
use Rattle.occurrences.specs.declared.reply.Reply.{Reply}
use Rattle.occurrences.specs.declared.reply.Reply.TheVariants as reply
use Rattle.planner_machine.specs.Sound.{IsKeptReply}
use Rattle.plan_tables_content.specs.Content.{answer_text}
use Rattle.plan_listings.specs.Reply.{counted, refusal_text, reply_text}
use Rattle.plan_tables_loading.specs.Lines.{IsChosen, back, behind_two, front}
use Rattle.plan_tables_loading.proofs.LineLemmas.{behind_alone, behind_word, number_alone, number_first, shown_small}

of_reply : (found : Option (Result Reply Refusal)) (r : Reply) → IsKeptReply (Ok r)
    → IsChosen (front (back (reply_text r))) (behind_two (reply_text r)) found → found ≡ Some (Ok r)
of_reply found (reply.Defined n) kept by =
    by.defined n (shown_small n kept) refl (number_alone _ n (shown_small n kept) refl)
of_reply found reply.Undefined kept by = by.undefined refl
of_reply found (reply.Made m w) kept by =
    let small_m = shown_small m kept.0 in
    let small_w = shown_small w kept.1 in
    let rest = codes "withdrawn" ++ 32 ∷ decimal w in
    by.made refl m w small_m small_w (number_first _ m rest small_m refl)
    (number_alone _ w small_w (behind_word _ m rest small_m refl))
of_reply found (reply.Numbered n) kept by =
    let small = shown_small n kept in
    (by.serial refl).numbered n kept (number_alone _ n small refl) (ap (λ l. back l) (behind_alone _ n small refl))
of_reply found (reply.Changed n s) kept by =
    let small = shown_small n kept in
    let rest = codes "status" ++ 32 ∷ (status_letter s ∷ []) in
    let is = append_assoc (decimal n) (codes " status ") (status_letter s ∷ []) in
    (by.serial refl).changed n s kept (number_first _ n rest small is) (behind_word _ n rest small is)
of_reply found (reply.Moved m f k g) kept by =
    let one = counted (codes " carried") f in
    let two = counted (codes " completed") k in
    let three = counted (codes " deleted") g in
    let rest_g = codes "deleted" ++ 32 ∷ decimal g in
    let rest_k = codes "completed" ++ 32 ∷ (decimal k ++ 32 ∷ rest_g) in
    let rest_f = codes "carried" ++ 32 ∷ (decimal f ++ 32 ∷ rest_k) in
    let small_m = shown_small m kept.0 in
    let small_f = shown_small f kept.1 in
    let small_k = shown_small k kept.2 in
    let small_g = shown_small g kept.3 in
    let at_m : behind_two (reply_text (reply.Moved m f k g)) ≡ decimal m ++ 32 ∷ rest_f =
    append_assoc (decimal m ++ one) two three ∙ append_assoc (decimal m) one (two ++ three) in
    let at_f = behind_word _ m rest_f small_m at_m in
    let at_k = behind_word _ f rest_k small_f at_f in
    by.moved refl m f k g small_m small_f small_k small_g (number_first _ m rest_f small_m at_m)
    (number_first _ f rest_k small_f at_f) (number_first _ k rest_g small_k at_k)
    (number_alone _ g small_g (behind_word _ k rest_g small_k at_k))
of_reply found (reply.Rows n) kept by = absurd kept

of_refusal : (found : Option (Result Reply Refusal)) (r : Refusal) → IsKeptReply (Err r)
    → IsChosen (front (back (refusal_text r))) (behind_two (refusal_text r)) found → found ≡ Some (Err r)
unfolding digits
of_refusal found refusal.NotDefined kept by = by.not_defined refl
of_refusal found refusal.NoPlan kept by = by.no_plan refl
of_refusal found refusal.PlanExists kept by = by.plan_exists refl
of_refusal found (refusal.CalendarUndefined app) kept by = by.calendar kept refl
of_refusal found (refusal.PeriodUndefined app) kept by = by.period kept refl
of_refusal found refusal.DatesOutOfRange kept by = by.dates refl
of_refusal found (refusal.Loop app) kept by = by.loops kept refl
of_refusal found refusal.NoActiveApplication kept by = by.inactive refl
of_refusal found refusal.KeyIsLive kept by = by.live refl
of_refusal found refusal.NoSuchOccurrence kept by = by.no_occurrence refl
of_refusal found refusal.StatusForbids kept by = by.status refl
of_refusal found (refusal.PredecessorUncompleted n) kept by =
    by.uncompleted n kept refl (number_alone _ n (shown_small n kept) refl)
of_refusal found refusal.TooManyRows kept by = by.too_many refl
of_refusal found refusal.PlanEndOutOfRange kept by = by.plan_end refl
of_refusal found _ kept by = absurd (omega (arith, kept))

-- what the words of a line choose is the answer that has this line
pub chosen : (line word text : List ℕ) (found : Option (Result Reply Refusal)) → word ≡ front (back line)
    → text ≡ behind_two line → IsChosen word text found
    → (a : Result Reply Refusal) → IsKeptReply a → answer_text a ≡ line → found ≡ Some a
chosen line word text found w t by (Ok r) kept is =
    let own = rw (w, t, ← is) at by in
    of_reply found r kept own
chosen line word text found w t by (Err r) kept is =
    let own = rw (w, t, ← is) at by in
    of_refusal found r kept own
