-- Lemmas on listings that are written while they are read.
use Rattle.std.proofs.Common.{◌≡◌, ◌⊎◌, ℕ, ◌+◌, ◌≤◌, ◌∙◌, List, [], ◌∷◌, ◌++◌, length, take, refl, sym, ap, subst}
use Rattle.std.proofs.Common.{inl, inr, arith, append_assoc, append-nil}
use Rattle.std.specs.Prelude.{Bool, Err, IfErr, IfOk, Ok, Option, Result, Some, flat_map}
use Rattle.std.specs.Io.KnownBytes.{Appends}
use Rattle.std.proofs.KnownBytes.{Appends-nil, Appends-trans, Appends-kept}
use Rattle.std.proofs.Math.Seq.{take-append-add}
use Rattle.std.proofs.lemmas.List.{length-append, length-map}
use Rattle.occurrences.specs.declared.reply.Reply.TheVariants.{Rows}
use Rattle.plan_listings.specs.Line.{AreLinesOf}
use Rattle.plan_store.specs.Faults.{IsMildListing}
use Rattle.plan_store.specs.Listings.{EndsSo, EmitsAll, EmitsPart, IsListing, Shown, ShowLinks, ShowPairs, ShowRows}
use Rattle.plan_store.specs.Listings.{AcceptsAll, in_force_shown, link_shown, row_shown}
use Rattle.plan_store.specs.declared.listings.ListFault.{ListFault}
use Rattle.plan_store.specs.declared.listings.ListFault.TheVariants as Faults
use Rattle.plan_store.specs.declared.listings.What.{What}
use Rattle.plan_store.specs.declared.listings.What.TheVariants as Whats
use Rattle.plan_store.specs.declared.stores.PlanStore.{Ghosts}
use Rattle.plan_store.specs.declared.stores.StoreFault.{StoreFault}
use Rattle.plan_store.specs.declared.stores.StoreFault.TheVariants as Stores
use Rattle.planner_machine.specs.Content.{Content}
use Rattle.planner_machine.specs.Shown.{CurrentPlan, InDeletions, InHistory, Listed, LongTermPlan}
use Rattle.planner_machine.specs.Statement.{ListLinks, ListPairs, ListRows}
use Rattle.planner_cli_stream.specs.Items.{Item}
use Rattle.planner_cli.specs.Requests.{Asks, list_asked}
use Rattle.planner_cli.specs.Faults.{store_cause}
use Rattle.planner_cli.specs.Lists.{BeginsInProgress, BeginsList}
use Rattle.planner_cli.specs.Outcomes.{answer_text, answering}
use Rattle.planner_cli.specs.Replies.{Prints, AnswerLines, ended, is_accepted, is_refused, printed}
use Rattle.planner_cli.specs.Rows.{IsShownText}
use Rattle.planner_cli.specs.Runs.{IsFrontOf, ItemBreaks}
use Rattle.planner_cli.specs.Sinks.{AcceptsFront, AcceptsLine, AcceptsLines, WritesAll, WritesPart}
use Rattle.planner_cli.specs.Steps.{Serves, Step}
use Rattle.planner_cli.specs.Stores.{IsBlamed, LeavesOwn}
use Rattle.planner_cli.specs.Writes.{AnswersItem, IsUnwritten, IsWritten}
use Rattle.planner_cli.specs.declared.answers.Printed.{Printed}
use Rattle.planner_cli.specs.declared.faults.Cause.{Cause}
use Rattle.planner_cli.specs.declared.faults.Cause.TheVariants.{Device, Memory}
use Rattle.planner_cli.specs.declared.faults.FaultSource.TheVariants.{Store, Writer}
use Rattle.planner_cli.proofs.Progress.{writer_breaks}
use Rattle.planner_cli.proofs.RowLemmas.{flat_map_more}

-- ---- fronts and lines

-- a front of the second text, behind the whole first one
pub front_behind : (xs ys front : List ℕ) → IsFrontOf front ys → IsFrontOf (xs ++ front) (xs ++ ys)
front_behind xs ys front (n, fits, is) = (
  length xs + n,
  (let whole = length-append xs ys in omega (arith, fits)),
  ap (λ l. xs ++ l) is ∙ sym (take-append-add xs ys n),
)

-- a line is written, and a front of the line feed that ends it
pub front_of_ended : (w m w' : Option (List ℕ)) (line : List ℕ) → Appends w m line
    → ((n : ℕ) × (n ≤ 1) × Appends m w' (take n (10 ∷ [])))
    → (front : List ℕ) × IsFrontOf front (ended line) × Appends w w' front
unfolding ended
front_of_ended w m w' line first (n, fits, more) = (
  line ++ take n (10 ∷ []),
  front_behind line (10 ∷ []) (take n (10 ∷ [])) (n, fits, refl),
  Appends-trans w m w' _ _ first more,
)

-- one more line
lines_more : (items : List Shown) (lines : List (List ℕ)) (item : Shown) (line : List ℕ)
    → AreLinesOf IsShownText items lines → IsShownText item line
    → AreLinesOf IsShownText (items ++ item ∷ []) (lines ++ line ∷ [])
lines_more [] [] item line are is = (is, tt)
lines_more [] (l ∷ lines) item line are is = absurd are
lines_more (x ∷ items) [] item line are is = absurd are
lines_more (x ∷ items) (l ∷ lines) item line are is = (are.0, lines_more items lines item line are.1 is)

-- ---- what a sink that writes lines took

module _ {K N : Type 0} (some : K) (contents : K → Option (List ℕ)) (name : K → N) where
  abbrev pub Accepts : K → Shown → K → Type 0
  Accepts old item new = (name new ≡ name old) × AcceptsLine (contents old) item (contents new)

  abbrev pub Refuses : K → Shown → K → Type 0
  Refuses old item new = (name new ≡ name old) × AcceptsFront (contents old) item (contents new)

  took : (items : List Shown) (old new : K) → AcceptsAll Accepts old items new → (name new ≡ name old)
      × AcceptsLines (contents old) items (contents new)
  took [] old new is =
      (ap name is, ([], tt, subst (λ k. Appends (contents old) (contents k) []) (sym is) (Appends-nil (contents old))))
  took (item ∷ items) old new (next, (named, (line, is, appended)), later) =
      let (named', (lines, are, appended')) = took items next new later in (
        named' ∙ named,
        (
          line ∷ lines,
          (is, are),
          Appends-trans (contents old) (contents next) (contents new) _ _
              appended appended',
        ),
      )

  module _ (IsWhole : List Shown → Type 0) (old new : K) where
    pub wrote_all : (count : ℕ) → EmitsAll Accepts IsWhole old new count → (name new ≡ name old)
        × WritesAll IsWhole (contents old) (contents new) count
    wrote_all count h =
        let (named, lines) = took h.items old new h.taken in
        (named, record { items = h.items; whole = h.whole; taken = lines; counted = h.counted })

    -- the lines before, and a front of the next
    cut_off : (done rest : List Shown) (last : K) (item : Shown) (later : List Shown) (fault : ListFault)
        → IsWhole (done ++ rest) → rest ≡ item ∷ later
        → AcceptsAll Accepts old done last → Refuses last item new
        → (name new ≡ name old) × ((first : List Shown) × (others : List Shown) × IsWhole (first ++ others)
        × ((lines : List (List ℕ)) × AreLinesOf IsShownText first lines
        × ((front : List ℕ) × IsFrontOf front (flat_map ended lines) × Appends (contents old) (contents new) front)))
    cut_off done rest last item later fault whole is taken (named, (line, text, (front, begins, appended))) =
        let (named', (lines, are, written)) = took done old last taken in (
          named ∙ named',
          (
            done ++ item ∷ [],
            later,
            subst IsWhole (ap (λ l. done ++ l) is ∙ sym (append_assoc done (item ∷ []) later)) whole,
            (
              lines ++ line ∷ [],
              lines_more done lines item line are text,
              (
                flat_map ended lines ++ front,
                subst (IsFrontOf (flat_map ended lines ++ front)) (sym (flat_map_more lines line))
                    (front_behind (flat_map ended lines) (ended line) front begins),
                Appends-trans (contents old) (contents last) (contents new) _ _ written appended,
              ),
            ),
          ),
        )

    wrote_first : (fault : ListFault) (done rest : List Shown) → IsWhole (done ++ rest)
        → EndsSo Accepts Refuses old done rest new fault
        → (name new ≡ name old) × WritesPart IsWhole (contents old) (contents new) fault
    wrote_first Faults.Memory done rest whole taken =
        let (named, lines) = took done old new taken in
        (named, record { first = done; rest = rest; whole = whole; ends = lines })
    wrote_first Faults.Device done rest whole taken =
        let (named, lines) = took done old new taken in
        (named, record { first = done; rest = rest; whole = whole; ends = lines })
    wrote_first (Faults.Sink f) done rest whole (last, item, later, is, taken, refused) =
        let (named, (first, others, all, ends)) = cut_off done rest last item later (Faults.Sink f) whole is taken
        refused in
        (named, record { first = first; rest = others; whole = all; ends = ends })

    pub wrote_part : (fault : ListFault) → EmitsPart Accepts Refuses IsWhole old new fault
        → (name new ≡ name old) × WritesPart IsWhole (contents old) (contents new) fault
    wrote_part fault h = wrote_first fault h.done h.rest h.whole h.ends

-- ---- the step of a listing

-- what a listing of these items answers
abbrev listing : List Shown → List (List ℕ) → AnswerLines
listing items lines = record { rows = lines; line = answer_text (Ok (Rows (length items))) }

rows_served : (listed : Listed) (app : Option (List ℕ)) (c : Content) (items : List Shown) (lines : List (List ℕ))
    → ShowRows listed app c items
    → AreLinesOf IsShownText items lines → Serves (ListRows listed app) c (listing items lines) c
rows_served listed app c items lines (rows, lists, is) are = record {
  answer = Ok (Rows (length items));
  steps = (λ r refused. refused, (refl, (rows, lists, ap Rows (ap length is ∙ length-map rows row_shown))));
  rows = (items, (rows, lists, is), are);
  line = refl;
  well_formed = tt;
}

pairs_served : (app : Option (List ℕ)) (c : Content) (items : List Shown) (lines : List (List ℕ))
    → ShowPairs app c items
    → AreLinesOf IsShownText items lines → Serves (ListPairs app) c (listing items lines) c
pairs_served app c items lines (links, lists, is) are = record {
  answer = Ok (Rows (length items));
  steps = (λ r refused. refused, (refl, (links, lists, ap Rows (ap length is ∙ length-map links link_shown))));
  rows = (items, (links, lists, is), are);
  line = refl;
  well_formed = tt;
}

links_served : (app : Option (List ℕ)) (c : Content) (items : List Shown) (lines : List (List ℕ))
    → ShowLinks app c items
    → AreLinesOf IsShownText items lines → Serves (ListLinks app) c (listing items lines) c
links_served app c items lines (links, lists, is) are = record {
  answer = Ok (Rows (length items));
  steps = (λ r refused. refused, (refl, (links, lists, ap Rows (ap length is ∙ length-map links in_force_shown))));
  rows = (items, (links, lists, is), are);
  line = refl;
  well_formed = tt;
}

list_served : (what : What) (app : Option (List ℕ)) (c : Content) (items : List Shown) (lines : List (List ℕ))
    → IsListing what app c items
    → AreLinesOf IsShownText items lines → Serves (list_asked what app) c (listing items lines) c
list_served Whats.Ltp app c items lines whole are = rows_served LongTermPlan app c items lines whole are
list_served Whats.Cp app c items lines whole are = rows_served CurrentPlan app c items lines whole are
list_served Whats.History app c items lines whole are = rows_served InHistory app c items lines whole are
list_served Whats.Deletions app c items lines whole are = rows_served InDeletions app c items lines whole are
list_served Whats.Dependencies app c items lines whole are = pairs_served app c items lines whole are
list_served Whats.Links app c items lines whole are = links_served app c items lines whole are

-- rows before a line that is printed
printed_behind : (rows : List (List ℕ)) (line text : List ℕ) → text ≡ printed (record { rows = []; line = line })
    → flat_map ended rows ++ text ≡ printed (record { rows = rows; line = line })
unfolding printed
printed_behind rows line text is = ap (λ l. flat_map ended rows ++ l) is

prints_behind : (rows : List (List ℕ)) (line text : List ℕ) (accepted : Bool)
    → Prints (record { rows = []; line = line }) text accepted
    → Prints (record { rows = rows; line = line }) (flat_map ended rows ++ text) accepted
unfolding is_accepted is_refused
prints_behind rows line text accepted h = record {
  text_is = printed_behind rows line text h.text_is;
  accepted_is = h.accepted_is;
  refused_is = h.refused_is;
}

-- the cause of a run's end, by the fault of the listing
abbrev pub list_cause : ListFault → Cause
list_cause Faults.Memory = Memory
list_cause Faults.Device = Device Store
list_cause (Faults.Sink f) = Device Writer

store_list : (fault : ListFault) → list_cause fault ≡ Device Store → fault ≡ Faults.Device
store_list Faults.Memory store = absurd (let h : ⊥ = cc store in h)
store_list Faults.Device store = refl
store_list (Faults.Sink f) store = absurd (let h : ⊥ = cc store in h)

module _ {S : Type 0} (g : Ghosts S) (before now : S) (old mid new : Option (List ℕ)) (item : Item)
    (what : What) (app : Option (List ℕ))
    (asks : Asks item (Some (list_asked what app)))
    (same : g.is_honest now → g.content now ≡ g.content before)
    (left : (c : Content) → g.may_leave now c → g.may_leave before c)
    (counts : g.failures before ≤ g.failures now) (honest' : g.is_honest now → g.is_honest before)
    (clean' : g.is_clean now → g.is_clean before) where
  -- nothing changes, so neither does what a crash leaves
  still_own : LeavesOwn g before → (c : Content) → g.may_leave now c → c ≡ g.content before
  still_own own c leaves = own c (left c leaves)

  begins : (c : Content) (first rest : List Shown) (lines : List (List ℕ)) → IsListing what app c (first ++ rest)
      → AreLinesOf IsShownText first lines
      → BeginsList c item lines
  begins c first rest lines whole are = record {
    what = what;
    app = app;
    asks = asks;
    first = first;
    rest = rest;
    whole = whole;
    are_lines = are;
  }

  -- the first lines, before a fault
  lines_begun : (c : Content) (new' : Option (List ℕ)) (first rest : List Shown) → IsListing what app c (first ++ rest)
      → AcceptsLines old first new'
      → (front : List ℕ) × BeginsInProgress c (Some item) front × Appends old new' front
  lines_begun c new' first rest whole (lines, are, appended) =
      (flat_map ended lines, inr (lines, (item, refl, begins c first rest lines whole are), refl), appended)

  module _ (count : ℕ) (all : g.is_honest now → WritesAll (IsListing what app (g.content before)) old mid count)
      (stays_honest' : g.is_honest before → g.is_clean now → g.is_honest now)
      (stays : g.is_whole before → g.is_whole now) where
    -- the reply of the listing, where its last line is printed so
    abbrev IsAnswered : Printed → Type 0
    IsAnswered printed = Prints (answering (Ok (Rows count))) printed.text.items printed.is_accepted

    abbrev Whole : Printed → Type 0
    Whole printed = (reply : AnswerLines) × (lines : List (List ℕ)) × Step (g.content before) item reply (g.content now)
        × Prints reply (flat_map ended lines ++ printed.text.items) printed.is_accepted
        × Appends old mid (flat_map ended lines)

    whole_reply : (printed : Printed) → IsAnswered printed → g.is_honest now → Whole printed
    whole_reply printed tells honest =
        let a = all honest in
        let (lines, are, appended) = a.taken in (
          listing a.items lines,
          lines,
          subst (Step (g.content before) item (listing a.items lines)) (sym (same honest))
              (Some (list_asked what app), asks, list_served what app (g.content before) a.items lines a.whole are),
          prints_behind lines (answer_text (Ok (Rows (length a.items)))) printed.text.items printed.is_accepted
              (subst (λ n. Prints (answering (Ok (Rows n))) printed.text.items printed.is_accepted) a.counted tells),
          appended,
        )

    list_ok : (printed : Printed) (accepted : Bool) → IsAnswered printed → Appends mid new printed.text.items
        × (accepted ≡ printed.is_accepted)
        → AnswersItem g before now old new item (Ok accepted)
    list_ok printed accepted tells (appended, is) = record {
      ok = λ honest.
          let (reply, lines, step, prints, rows) = whole_reply printed tells honest in (
            flat_map ended lines ++ printed.text.items,
            record {
              reply = reply;
              gives = step;
              prints = subst (Prints reply (flat_map ended lines ++ printed.text.items)) (sym is) prints;
            },
            Appends-trans old mid new _ _ rows appended,
          );
      err = λ honest. tt;
      replied = λ honest clean. tt;
      settled = λ honest own c leaves. still_own own c leaves ∙ sym (same honest);
      crash = λ honest clean own. tt;
      blames = tt;
      counts = counts;
      honest = honest';
      clean = clean';
      stays_honest = λ honest clean fine. stays_honest' honest clean;
      stays_whole = stays;
    }

    list_part : (printed : Printed) (cause : Cause) → IsAnswered printed → IsUnwritten (Ok printed) mid new cause
        → AnswersItem g before now old new item (Err cause)
    list_part printed cause tells (is, (front, fronts, appended)) = record {
      ok = λ honest. tt;
      err = breaks;
      replied = λ honest clean. (g.content now, breaks (stays_honest' honest clean));
      settled = λ honest own. tt;
      crash = λ honest clean own c leaves. inl (still_own own c leaves);
      blames = λ store. absurd (let no : Device Writer ≡ Device Store = sym is ∙ store in let h : ⊥ = cc no in h);
      counts = counts;
      honest = honest';
      clean = clean';
      stays_honest = λ honest clean fine. stays_honest' honest clean;
      stays_whole = tt;
    }
      where
        breaks : g.is_honest now → ItemBreaks Step cause (g.content before) (g.content now) old new item
        breaks honest =
            let (reply, lines, step, prints, rows) = whole_reply printed tells honest in
            writer_breaks Step cause (g.content before) (g.content now) old new item reply
            (flat_map ended lines ++ front) is step
            (subst (IsFrontOf (flat_map ended lines ++ front)) prints.text_is
            (front_behind (flat_map ended lines) printed.text.items front fronts))
            (Appends-trans old mid new _ _ rows appended)

    list_unwritten : (fault : StoreFault) (cause : Cause) → fault ≡ Stores.Memory → IsUnwritten (Err fault) mid new cause
        → AnswersItem g before now old new item (Err cause)
    list_unwritten fault cause memory (is, kept) =
        subst (λ x. AnswersItem g before now old new item (Err x))
        (sym (is ∙ ap store_cause memory)) (record {
          ok = λ honest. tt;
          err = breaks;
          replied = λ honest clean. (g.content now, breaks (stays_honest' honest clean));
          settled = λ honest own. tt;
          crash = λ honest clean own c leaves. inl (still_own own c leaves);
          blames = λ store. absurd (let h : ⊥ = cc store in h);
          counts = counts;
          honest = honest';
          clean = clean';
          stays_honest = λ honest clean fine. stays_honest' honest clean;
          stays_whole = tt;
        })
      where
        breaks : g.is_honest now → ItemBreaks Step Memory (g.content before) (g.content now) old new item
        breaks honest =
            let a = all honest in
            let (lines, are, appended) = a.taken in (
              same honest,
              lines_begun (g.content before) new a.items []
                  (subst (IsListing what app (g.content before)) (sym (append-nil a.items)) a.whole)
                  (lines, are, Appends-kept old mid new (flat_map ended lines) appended kept),
            )

    -- all rows are written, and the last line is on its way
    pub list_written : (answered : Result Printed StoreFault) (result : Result Bool Cause)
        → IfOk answered (λ printed. Prints (answering (Ok (Rows count))) printed.text.items printed.is_accepted)
        → IfErr answered (λ fault. fault ≡ Stores.Memory)
        → IfOk result (IsWritten answered mid new) → IfErr result (IsUnwritten answered mid new)
        → AnswersItem g before now old new item result
    list_written (Ok printed) (Ok accepted) tells memory ok err = list_ok printed accepted tells ok
    list_written (Ok printed) (Err cause) tells memory ok err = list_part printed cause tells err
    list_written (Err fault) (Ok accepted) tells memory ok err = absurd ok
    list_written (Err fault) (Err cause) tells memory ok err = list_unwritten fault cause memory err

  list_breaks : (fault : ListFault) (c : Content) → c ≡ g.content before
      → WritesPart (IsListing what app (g.content before)) old new fault
      → ItemBreaks Step (list_cause fault) (g.content before) c old new item
  list_breaks Faults.Memory c stays part = (stays, lines_begun (g.content before) new part.first part.rest part.whole part.ends)
  list_breaks Faults.Device c stays part =
      (inl stays, lines_begun (g.content before) new part.first part.rest part.whole part.ends)
  list_breaks (Faults.Sink f) c stays part =
      let (lines, are, (front, fronts, appended)) = part.ends in (
        front,
        inr (
          stays,
          (lines, (item, refl, begins (g.content before) part.first part.rest lines part.whole are), fronts),
        ),
        appended,
      )

  -- the rows are written in part
  pub list_stopped : (fault : ListFault) (cause : Cause) → list_cause fault ≡ cause
      → (g.is_honest before → g.is_honest now ⊎ g.is_clean now
      → WritesPart (IsListing what app (g.content before)) old new fault)
      → (fault ≡ Faults.Device → IsBlamed (g.failures before) (g.failures now))
      → (g.is_honest before → g.is_clean now → IsMildListing (g.is_whole now) fault → g.is_honest now)
      → AnswersItem g before now old new item (Err cause)
  list_stopped fault cause is part blames stays = subst (λ x. AnswersItem g before now old new item (Err x)) is (record {
    ok = λ honest. tt;
    err = λ honest. list_breaks fault (g.content now) (same honest) (part (honest' honest) (inl honest));
    replied = λ honest clean. (g.content before, list_breaks fault (g.content before) refl (part honest (inr clean)));
    settled = λ honest own. tt;
    crash = λ honest clean own c leaves. inl (still_own own c leaves);
    blames = λ store. blames (store_list fault store);
    counts = counts;
    honest = honest';
    clean = clean';
    stays_honest = λ honest clean mild.
        stays honest clean (λ device. mild.0 (ap list_cause device), λ memory. mild.1 (ap list_cause memory));
    stays_whole = tt;
  })
