-- Lemmas on answers that are written.
use Rattle.std.proofs.Common.{◌≡◌, ℕ, ◌∙◌, List, refl, sym, ap, subst, inl, inr, arith}
use Rattle.std.specs.Prelude.{Bool, Err, IfErr, IfOk, Ok, Option, Result}
use Rattle.std.specs.Io.KnownBytes.{Appends}
use Rattle.plan_store.specs.declared.stores.PlanStore.{Ghosts}
use Rattle.plan_store.specs.declared.stores.StoreFault.{StoreFault}
use Rattle.plan_store.specs.declared.stores.StoreFault.TheVariants as Stores
use Rattle.planner_cli_stream.specs.Items.{Item}
use Rattle.planner_cli.specs.Faults.{store_cause}
use Rattle.planner_cli.specs.Replies.{Answered, printed}
use Rattle.planner_cli.specs.Runs.{IsFrontOf, ItemBreaks}
use Rattle.planner_cli.specs.Steps.{Step}
use Rattle.planner_cli.specs.Stores.{AnswersBy}
use Rattle.planner_cli.specs.Writes.{AnswersItem, IsUnwritten, IsWritten}
use Rattle.planner_cli.specs.declared.answers.Printed.{Printed}
use Rattle.planner_cli.specs.declared.faults.Cause.{Cause}
use Rattle.planner_cli.specs.declared.faults.Cause.TheVariants.{Device, Memory}
use Rattle.planner_cli.specs.declared.faults.FaultSource.TheVariants.{Store, Writer}
use Rattle.planner_cli.proofs.Progress.{memory_breaks, store_breaks, writer_breaks}

module _ {S : Type 0} (g : Ghosts S) (before now : S) (old new : Option (List ℕ)) (item : Item) where
  -- the answer was made, and is written
  wrote_ok : (printed : Printed) (accepted : Bool)
      → AnswersBy g before now (Ok printed) (Step (g.content before) item)
      → Appends old new printed.text.items × (accepted ≡ printed.is_accepted)
      → AnswersItem g before now old new item (Ok accepted)
  wrote_ok printed accepted a (appended, is) = record {
    ok = λ honest. (
      printed.text.items,
      subst (Answered (Step (g.content before) item) (g.content now) printed.text.items) (sym is) (a.answers honest),
      appended,
    );
    err = λ honest. tt;
    replied = λ honest clean. tt;
    settled = a.settled;
    crash = λ honest clean own. tt;
    blames = tt;
    counts = a.counts;
    honest = a.honest;
    clean = a.clean;
    stays_honest = λ honest clean fine. a.stays_honest honest clean tt;
    stays_whole = a.stays_whole;
  }

  -- it was made, and the writer failed
  wrote_part : (printed : Printed) (cause : Cause)
      → AnswersBy g before now (Ok printed) (Step (g.content before) item)
      → IsUnwritten (Ok printed) old new cause
      → AnswersItem g before now old new item (Err cause)
  wrote_part printed cause a (is, (front, begins, appended)) = record {
    ok = λ honest. tt;
    err = breaks;
    replied = λ honest clean. (g.content now, breaks (a.stays_honest honest clean tt));
    settled = λ honest own. tt;
    crash = λ honest clean own c leaves.
        let still = a.stays_honest honest clean tt in
        let made = a.answers still in
        inr (
          made.reply,
          subst (Step (g.content before) item made.reply) (sym (a.settled still own c leaves)) made.gives,
        );
    blames = λ store. absurd (let no : Device Writer ≡ Device Store = sym is ∙ store in let h : ⊥ = cc no in h);
    counts = a.counts;
    honest = a.honest;
    clean = a.clean;
    stays_honest = λ honest clean fine. a.stays_honest honest clean tt;
    stays_whole = tt;
  }
    where
      breaks : g.is_honest now → ItemBreaks Step cause (g.content before) (g.content now) old new item
      breaks honest =
          let made = a.answers honest in
          writer_breaks Step cause (g.content before) (g.content now) old new item made.reply front is made.gives
          (subst (IsFrontOf front) made.prints.text_is begins) appended

  device_store : (fault : StoreFault) (cause : Cause) → cause ≡ store_cause fault → cause ≡ Device Store
      → fault ≡ Stores.Device
  device_store Stores.Memory cause is store = absurd
      (let no : Memory ≡ Device Store = sym is ∙ store in let h : ⊥ = cc no in h)
  device_store Stores.Device cause is store = refl

  store_device : (fault : StoreFault) (cause : Cause) → cause ≡ store_cause fault → fault ≡ Stores.Device
      → cause ≡ Device Store
  store_device fault cause is device = is ∙ ap store_cause device

  -- none was made
  wrote_none : (fault : StoreFault) (cause : Cause)
      → AnswersBy g before now (Err fault) (Step (g.content before) item)
      → IsUnwritten (Err fault) old new cause
      → AnswersItem g before now old new item (Err cause)
  wrote_none fault cause a (is, kept) = record {
    ok = λ honest. tt;
    err = λ honest.
        store_breaks Step fault cause (g.content before) (g.content now) old new item is kept (a.unchanged honest)
        (a.whole honest);
    replied = λ honest clean. (
      g.content before,
      store_breaks Step fault cause (g.content before) (g.content before) old new item is kept (λ memory. refl) (inl refl),
    );
    settled = λ honest own. tt;
    crash = a.crash;
    blames = λ store. a.blames (device_store fault cause is store);
    counts = a.counts;
    honest = a.honest;
    clean = a.clean;
    stays_honest = λ honest clean mild. a.stays_honest honest clean (
      λ device. mild.0 (store_device fault cause is device),
      λ memory. mild.1 (is ∙ ap store_cause memory),
    );
    stays_whole = tt;
  }

  -- an answer on its way to the writer
  pub wrote : (answered : Result Printed StoreFault) (result : Result Bool Cause)
      → AnswersBy g before now answered (Step (g.content before) item)
      → IfOk result (IsWritten answered old new) → IfErr result (IsUnwritten answered old new)
      → AnswersItem g before now old new item result
  wrote (Ok printed) (Ok accepted) a ok err = wrote_ok printed accepted a ok
  wrote (Ok printed) (Err cause) a ok err = wrote_part printed cause a err
  wrote (Err fault) (Ok accepted) a ok err = absurd ok
  wrote (Err fault) (Err cause) a ok err = wrote_none fault cause a err

-- memory is refused, and nothing was asked of the store
pub wrote_nothing : {S : Type 0} (g : Ghosts S) (store : S) (w : Option (List ℕ)) (item : Item)
    → AnswersItem g store store w w item (Err Memory)
wrote_nothing g store w item = record {
  ok = λ honest. tt;
  err = λ honest. memory_breaks Step (g.content store) w item;
  replied = λ honest clean. (g.content store, memory_breaks Step (g.content store) w item);
  settled = λ honest own. tt;
  crash = λ honest clean own c leaves. inl (own c leaves);
  blames = λ store. absurd (let h : ⊥ = cc store in h);
  counts = omega arith;
  honest = λ honest. honest;
  clean = λ clean. clean;
  stays_honest = λ honest clean fine. honest;
  stays_whole = tt;
}
