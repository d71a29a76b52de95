-- The laws of one statement, over its meaning. Each statement's file ends in a value of this record.
use Rattle.std.proofs.Common.{List, Option, ◌≡◌}
use Rattle.std.specs.Prelude.{Ok}
use Rattle.app_definitions.specs.declared.definitions.Definitions.{Definitions}
use Rattle.external_dependencies.specs.Link.{AreNamedOnce}
use Rattle.occurrences.specs.declared.refusal.Refusal.{Refusal}
use Rattle.occurrences.specs.declared.reply.Reply.{Reply}
use Rattle.planner_machine.specs.Content.{Content}
use Rattle.planner_machine.specs.Decision.{Decides, DoesOne}
use Rattle.planner_machine.specs.Fresh.{IsFresh}
use Rattle.planner_machine.specs.Laws.{Follows}
use Rattle.planner_machine.specs.Meaning.{Meaning}
use Rattle.planner_machine.specs.Sound.{IsKeptReply, IsSound}
use Rattle.planner_machine.specs.declared.content.Bounds.{Bounds}
use Rattle.planner_machine.specs.declared.content.Draft.{Draft}
use Rattle.planner_machine.proofs.DetailLemmas.{Details}
use Rattle.planner_machine.proofs.FollowLemmas.{FateKeeps}

pub record Lawful (m : Meaning) : Type 0 where
  -- where nothing is refused, exactly one thing is done; and each refusal shows one detail, such as can be kept
  pub does_one : DoesOne IsSound m.decision
  pub details : (c : Content) → IsSound c → Details (m.decision.Refuses c)
  -- where it is accepted, it makes what its definition says, and leaves each occurrence where its fate puts it
  pub follows : (c : Content) (reply : Reply) (c' : Content) → IsSound c → Decides m.decision c (Ok reply) c'
      → (drafts : List Draft) × m.makes c.definitions c.sets drafts
      × Follows m.place (m.fate c.definitions c.sets.bounds) drafts c.sets c'.sets
  -- under its fate key, serial and kind of origin stay
  pub keeps : (all : Definitions) (bounds : Option Bounds) → FateKeeps (m.fate all bounds)
  -- sound content stays sound, and kept jobs stay as they are
  pub sound : m.fits → (c : Content) (reply : Reply) (c' : Content) → IsSound c
      → ((q : Refusal) → m.decision.Refuses c q → ⊥) → m.decision.Does c reply c' → IsSound c'
  pub jobs : (c : Content) (reply : Reply) (c' : Content) → m.decision.Does c reply c' → c'.jobs ≡ c.jobs
  -- where no list in force names a predecessor twice, none does so afterwards
  pub once : (c : Content) (reply : Reply) (c' : Content) → m.decision.Does c reply c' → AreNamedOnce c.in_force
      → AreNamedOnce c'.in_force
  -- its reply can be kept
  pub replies : m.fits → (c : Content) (reply : Reply) (c' : Content) → IsSound c → IsSound c'
      → m.decision.Does c reply c' → IsKeptReply (Ok reply)
  -- unless it changes definitions, fresh content stays fresh
  pub fresh : (m.redefines → ⊥) → (c : Content) (reply : Reply) (c' : Content) → IsSound c → IsSound c'
      → Decides m.decision c (Ok reply) c' → IsFresh c → IsFresh c'
