-- All statements are lawful; what follows from it for each statement, whichever it is.
use Rattle.std.proofs.Common.{ap, refl, ◌≡◌}
use Rattle.std.specs.Prelude.{Err, Ok, Result}
use Rattle.occurrences.specs.declared.place.Place.TheVariants.{Current, LongTerm}
use Rattle.occurrences.specs.declared.refusal.Refusal.{Refusal}
use Rattle.occurrences.specs.declared.reply.Reply.{Reply}
use Rattle.occurrences.specs.declared.status.Status.TheVariants.{W}
use Rattle.planner_machine.specs.Content.{Content}
use Rattle.planner_machine.specs.Decision.{Decides}
use Rattle.planner_machine.specs.Fresh.{IsFresh, RedefinesBy}
use Rattle.planner_machine.specs.Laws.{AnswersOnce, FollowsFate, IsWellFormed, KeepsItself, StaysSound}
use Rattle.planner_machine.specs.Sound.{IsKeptReply, IsSound}
use Rattle.planner_machine.specs.Statement.{Act, Add, AddCurrent, Change, Create, DailyExtend, DailyExtendBy, Define}
use Rattle.planner_machine.specs.Statement.{Delete, Extend, ModifyAll, ModifyOne, Replan, Undefine, decision_of}
use Rattle.planner_machine.specs.Statement.{meaning_of}
use Rattle.planner_machine.proofs.DecisionLemmas.{decides_one, keeps_sound, shows_one}
use Rattle.planner_machine.proofs.DetailLemmas.{details_kept, details_one}
use Rattle.planner_machine.proofs.Lawful.{Lawful}
use Rattle.planner_machine.proofs.statements.Act.{act_lawful}
use Rattle.planner_machine.proofs.statements.Add.{add_lawful}
use Rattle.planner_machine.proofs.statements.Create.{create_lawful}
use Rattle.planner_machine.proofs.statements.DailyExtend.{daily_extend_lawful}
use Rattle.planner_machine.proofs.statements.DailyExtendBy.{daily_extend_by_lawful}
use Rattle.planner_machine.proofs.statements.Define.{define_lawful, undefine_lawful}
use Rattle.planner_machine.proofs.statements.Delete.{delete_lawful}
use Rattle.planner_machine.proofs.statements.Extend.{extend_lawful}
use Rattle.planner_machine.proofs.statements.ModifyAll.{modify_all_lawful}
use Rattle.planner_machine.proofs.statements.ModifyOne.{modify_one_lawful}
use Rattle.planner_machine.proofs.statements.Replan.{replan_lawful}

-- the only list of all statements in the proofs
pub lawful_of : (change : Change) → Lawful (meaning_of change)
lawful_of (Define block) = define_lawful block
lawful_of (Undefine kind name) = undefine_lawful kind name
lawful_of (Create from to) = create_lawful from to
lawful_of (Extend to) = extend_lawful to
lawful_of ModifyAll = modify_all_lawful
lawful_of (ModifyOne app) = modify_one_lawful app
lawful_of (Add key) = add_lawful LongTerm tt key
lawful_of (Delete key) = delete_lawful key
lawful_of (DailyExtend to) = daily_extend_lawful to
lawful_of (DailyExtendBy n count) = daily_extend_by_lawful n count
lawful_of Replan = replan_lawful
lawful_of (AddCurrent key) = add_lawful (Current W) refl key
lawful_of (Act action key) = act_lawful key action

-- each statement has one answer, and leaves one content
pub change_once : (change : Change) → AnswersOnce change
change_once change =
    let l = lawful_of change in
    decides_one IsSound (decision_of change) l.does_one
    (λ c q r sound. shows_one ((decision_of change).Refuses c) (details_one _ (l.details c sound)) q r)

-- it leaves each occurrence where its fate puts it, and makes what its definition says
pub change_follows : (change : Change) → FollowsFate change
change_follows change = (lawful_of change).follows

-- sound content stays sound, whatever it answers
pub change_sound : (change : Change) → IsWellFormed change → StaysSound change
change_sound change fine = keeps_sound IsSound (decision_of change) ((lawful_of change).sound fine)

-- what it answers can be kept
pub kept_reply : (change : Change) → IsWellFormed change → (c : Content) (a : Result Reply Refusal) (c' : Content)
    → IsSound c → IsSound c' → Decides (decision_of change) c a c' → IsKeptReply a
kept_reply change fine c (Ok reply) c' sound sound' d = (lawful_of change).replies fine c reply c' sound sound' d.1
kept_reply change fine c (Err q) c' sound sound' d =
    details_kept _ ((lawful_of change).details c sound) q d.0.0

-- it touches no kept job
pub jobs_stay : (change : Change) (c : Content) (a : Result Reply Refusal) (c' : Content)
    → Decides (decision_of change) c a c' → c'.jobs ≡ c.jobs
jobs_stay change c (Err r) c' d = ap (λ (x : Content). x.jobs) d.1
jobs_stay change c (Ok reply) c' d = (lawful_of change).jobs c reply c' d.1

-- key, serial and kind of origin stay
pub keeps_itself : (change : Change) → KeepsItself change
keeps_itself change all bounds p q goes = let keeps = (lawful_of change).keeps all bounds in record {
  key = keeps.key p q goes;
  serial = keeps.serial p q goes;
  generated = (keeps.generated p q goes, keeps.added p q goes);
}

-- accepted, and where it leaves the definitions, it keeps fresh content fresh
pub accepted_fresh : (change : Change) → (RedefinesBy change → ⊥) → (c : Content) (reply : Reply) (c' : Content)
    → IsSound c → IsSound c' → Decides (decision_of change) c (Ok reply) c' → IsFresh c → IsFresh c'
accepted_fresh change = (lawful_of change).fresh
