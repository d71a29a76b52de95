-- Lemmas on what answers print.
use Rattle.std.proofs.Common.{◌≡◌, ℕ, List, ◌++◌, refl, true, false}
use Rattle.std.specs.Prelude.{flat_map}
use Rattle.occurrences.specs.declared.reply.Reply.{Reply as Outcome}
use Rattle.occurrences.specs.declared.reply.Reply.TheVariants.{Defined, Undefined, Made, Numbered, Changed, Moved, Rows}
use Rattle.occurrences.specs.declared.refusal.Refusal.{Refusal}
use Rattle.plan_listings.specs.Reply.{refusal_text, reply_text}
use Rattle.planner_cli.specs.Replies.{ended, printed, is_accepted, is_refused, Prints}

-- the line of each accepted statement begins with `ok`
pub accepted_prints : (outcome : Outcome) (rows : List (List ℕ)) (text : List ℕ)
    → text ≡ flat_map ended rows ++ ended (reply_text outcome)
    → Prints (record { rows = rows; line = reply_text outcome }) text true
unfolding printed is_accepted is_refused
accepted_prints (Defined names) rows text e = record { text_is = e; accepted_is = refl; refused_is = refl }
accepted_prints Undefined rows text e = record { text_is = e; accepted_is = refl; refused_is = refl }
accepted_prints (Made made withdrawn) rows text e = record { text_is = e; accepted_is = refl; refused_is = refl }
accepted_prints (Numbered serial) rows text e = record { text_is = e; accepted_is = refl; refused_is = refl }
accepted_prints (Changed serial status) rows text e = record { text_is = e; accepted_is = refl; refused_is = refl }
accepted_prints (Moved moved carried completed deleted) rows text e =
    record { text_is = e; accepted_is = refl; refused_is = refl }
accepted_prints (Rows rows') rows text e = record { text_is = e; accepted_is = refl; refused_is = refl }

-- the line of each refused statement begins with `refused`
pub refused_prints : (refusal : Refusal) (rows : List (List ℕ)) (text : List ℕ)
    → text ≡ flat_map ended rows ++ ended (refusal_text refusal)
    → Prints (record { rows = rows; line = refusal_text refusal }) text false
unfolding printed is_accepted is_refused
refused_prints refusal rows text e = record { text_is = e; accepted_is = refl; refused_is = refl }
