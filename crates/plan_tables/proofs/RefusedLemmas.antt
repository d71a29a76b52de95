-- Lemmas on files that are not opened as a plan.
use Rattle.std.proofs.Common.{◌≡◌, IsTrue, inl, inr, arith}
use Rattle.sqlite.specs.Files.{IsOpened, file_state, over_files}
use Rattle.sqlite.specs.Held.{Held, IsNew, state}
use Rattle.sqlite.specs.Start.{FindsIn}
use Rattle.sqlite.specs.State.{HasCleanDisk}
use Rattle.sqlite.specs.Store.{Ghosts}
use Rattle.sqlite.specs.Tree.{Trees}
use Rattle.sqlite_disk.specs.declared.Disk as disk
use Rattle.sqlite_store.specs.FileStore.{view}
use Rattle.sqlite_store.specs.declared.store.FileStore.{FileStore}
use Rattle.sqlite_trees.specs.View.{IsClean, IsQuiet}
use Rattle.sqlite_wal.specs.Recovery.{Image}
use Rattle.plan_tables_opening.specs.declared.faults.OpenFault.{OpenFault}
use Rattle.plan_tables.specs.Adopted.{ComesBack}
use Rattle.plan_tables.specs.Refused.{HoldsNoPlan, IsGivenBack}
use Rattle.plan_tables.proofs.AgainLemmas.{found_plan}

-- what is let go of a connection that came back
pub given_back : {S : Type 0} (g : Ghosts S)
    (law : (s : S) (db : Trees) → IsTrue (g.view s).is_open → g.recovers s db → db ≡ (g.view s).committed)
    (conn back : Held S) (fault : OpenFault) (left : S) → ComesBack g conn (fault, back)
    → IsQuiet g.view g.faults g.recovers g.is_shielded back.store left → IsGivenBack g conn (fault, left)
given_back g law conn back fault left comes quiet = record {
  back = back;
  comes = comes;
  quiet = quiet;
  stays = λ clean opens db may.
      let last : HasCleanDisk (state g back) = omega (arith, quiet.clean, clean) in
      elim (comes.crash.crash last db (quiet.outcomes db may)) [
        | inl was ↦ inl (law conn.store db opens was)
        | inr made ↦ inr made
      ];
}

pub no_plan : {D : Type 0} {g : disk.Ghosts D} (image : Image) (fault : OpenFault) (conn : Held (FileStore D g))
    (left : FileStore D g) → IsNew conn → (HasCleanDisk (file_state conn) → IsOpened conn)
    → (HasCleanDisk (file_state conn) → FindsIn image (file_state conn)) → IsGivenBack over_files conn (fault, left)
    → HoldsNoPlan image fault left
no_plan image fault conn left new opened found given = record {
  conn = conn;
  back = given.back;
  fresh = new;
  found = λ clean. (opened (first clean), found (first clean));
  unopened = λ clean. given.comes.unopened (last clean);
  common = λ clean held. let it = opened (first clean) in given.comes.holds (last clean) (found_plan image
      (file_state conn) it.0 it.1 (found (first clean)) held);
  quiet = given.quiet;
  stays = λ clean db may. given.stays clean (opened (first clean)).0.is_open db may;
}
  where
    last : IsClean (view left) → HasCleanDisk (file_state given.back)
    last clean = omega (arith, given.quiet.clean, clean)

    first : IsClean (view left) → HasCleanDisk (file_state conn)
    first clean = let l = last clean in omega (arith, given.comes.crash.clean, l)
