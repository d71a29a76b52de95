use Rattle.std.proofs.Common.{Ok, take}
use Rattle.plan_store.specs.Contents.{content_of}
use Rattle.plan_store.specs.Parts.{KnowsDeletion}
use Rattle.plan_tables_windows.specs.Fetching.{Fetches}
use Rattle.plan_tables_windows.proofs.EachLemmas.{Each}
use Rattle.plan_tables_windows.proofs.fetching.find_each_deleted.Given as goal

-- those of the serials so far
abbrev pub invariant-loop-serial : goal.invariant-loop-serial
invariant-loop-serial g l = Fetches {T = Unit {0}} g.S.Store l.initial.conn l.conn (content_of l.initial.lists)
    (content_of l.lists) (Ok tt)
    (Each (λ serial rest now. KnowsDeletion rest now serial) (take l.serial-index l.serials))
