-- A listing of what could not be fetched.
use Rattle.std.proofs.Common.{◌≡◌, ◌∙◌, ℕ, List, Err, Option, arith, inl, inr, sym}
use Rattle.planner_machine.specs.Sound.{AreNumbered}
use Rattle.plan_store.specs.Listings.{IsListing, Shown}
use Rattle.plan_store.specs.declared.listings.ListFault.{ListFault}
use Rattle.plan_store.specs.declared.listings.What.{What}
use Rattle.plan_store.specs.declared.stores.PlanStore.{Ghosts}
use Rattle.plan_store.specs.declared.stores.StoreFault.{StoreFault}
use Rattle.plan_tables.specs.Applied.{ListsBy, ReadsBy}
use Rattle.plan_tables.specs.Listing.{listing_fault}
use Rattle.plan_tables.proofs.ListLemmas.{emits_none, mild_listed, store_device, store_memory}

module _ {S K T : Type 0} (g : Ghosts S) (before now : S) (Accepts Refuses : K → Shown → K → Type 0) (old : K)
    (what : What) (app : Option (List ℕ)) (IsRight : T → Type 0) where
  pub lists_unread : (fault : StoreFault) → ReadsBy g before now (Err fault) IsRight → g.failures before ≡ 0
      → (told : ListFault) → told ≡ listing_fault fault
      → (AreNumbered (g.content before).sets → (items : List Shown) × IsListing what app (g.content before) items)
      → ListsBy g before now Accepts Refuses old old what app (Err told)
  lists_unread fault reads none told is some = record {
    all = λ honest numbered. tt;
    part = λ was either numbered. let (items, listed) = some numbered in
        emits_none Accepts Refuses (IsListing what app (g.content before)) old items fault told is listed;
    same = reads.same;
    crash = reads.crash;
    blames = λ device. elim (reads.blames (store_device fault (sym is ∙ device))) [
      | inl more ↦ more
      | inr some ↦ absurd (let h : ⊥ = omega (arith, none, some) in h)
    ];
    counts = reads.counts;
    still = tt;
    steady = λ memory. reads.steady (store_memory fault (sym is ∙ memory));
    caused = λ clean device. reads.caused none clean (store_device fault (sym is ∙ device));
    honest = reads.honest;
    clean = reads.clean;
    stays_honest = λ was clean mild. reads.stays_honest was clean (mild_listed fault told _ is mild);
    whole = tt;
  }
