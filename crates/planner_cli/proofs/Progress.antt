-- Lemmas on a run that has answered some items.
use Rattle.std.proofs.Common.{◌≡◌, ◌⊎◌, inl, inr, ℕ, ◌+◌, ◌≤◌, List, [], ◌∷◌, ◌++◌, length, take, refl, sym, ap, subst}
use Rattle.std.proofs.Common.{◌∙◌, arith, append_assoc, append-nil, zero-add}
use Rattle.std.specs.Prelude.{Option, None, Some, IfSome, Bool, true, false, not, count_by, sum_by, cond, if◌then◌else◌}
use Rattle.std.specs.Io.KnownBytes.{Appends, Keeps}
use Rattle.std.specs.Io.Iter.{u64_saturate}
use Rattle.std.proofs.lemmas.List.Sums.{sum_by-append}
use Rattle.std.proofs.KnownBytes.{Appends-nil, Appends-trans, Appends-kept}
use Rattle.planner_machine.specs.Content.{Content}
use Rattle.planner_cli_stream.specs.Items.{Item, items_of}
use Rattle.planner_cli_stream.specs.Pages.{ItemRead}
use Rattle.planner_cli.specs.Replies.{Answered, AnswerLines, printed, prints, is_accepted, is_refused}
use Rattle.planner_cli.specs.Meaning.{Answers, StepOf, tally_after, tally_of}
use Rattle.plan_store.specs.declared.stores.StoreFault.{StoreFault}
use Rattle.plan_store.specs.declared.stores.StoreFault.TheVariants as Stores
use Rattle.planner_cli.specs.Faults.{cause_of, read_cause, store_cause, tally_in, fault_line}
use Rattle.planner_cli.specs.Lists.{BeginsInProgress}
use Rattle.planner_cli.specs.Runs.{Crashed, EndsBy, IsFrontOf, ItemBreaks, LeavesInProgress, Stopped, WritesFault}
use Rattle.planner_cli.specs.Runs.{ends_of, with_hand}
use Rattle.planner_cli.specs.declared.tally.Tally.{Tally}
use Rattle.planner_cli_stream.specs.declared.lines.ReadFault.{ReadFault}
use Rattle.planner_cli_stream.specs.declared.lines.ReadFault.TheVariants as Reads
use Rattle.planner_cli.specs.declared.faults.FaultSource.TheVariants.{Store, Reader, Writer}
use Rattle.planner_cli.specs.declared.faults.Cause.{Cause}
use Rattle.planner_cli.specs.declared.faults.Cause.TheVariants.{Memory, Device}
use Rattle.planner_cli.specs.declared.faults.RunFault.{RunFault}
use Rattle.planner_cli_stream.proofs.Kept.{take_short}

-- more items are answered after the first ones
pub answers_more : {S : Type 0} (Step : StepOf S) (s m t : S) (xs : List Item) (rs : List AnswerLines) (y : Item) (r : AnswerLines)
    → Answers Step s xs rs m → Step m y r t → Answers Step s (xs ++ y ∷ []) (rs ++ r ∷ []) t
answers_more Step s m t [] rs y r a step =
    (r, [], t, ap (λ l. l ++ r ∷ []) a.0, subst (λ s'. Step s' y r t) a.1 step, (refl, refl))
answers_more Step s m t (x ∷ xs) rs y r a step =
    let (reply, rest, between, e, first, later) = a in (
      reply,
      rest ++ r ∷ [],
      between,
      ap (λ l. l ++ r ∷ []) e,
      first,
      answers_more Step between m t xs rest y r later step,
    )

pub prints-append : (xs ys : List AnswerLines) → prints (xs ++ ys) ≡ prints xs ++ prints ys
unfolding prints
prints-append [] ys = refl
prints-append (x ∷ xs) ys = ap (λ l. printed x ++ l) (prints-append xs ys)
    ∙ sym (append_assoc (printed x) (prints xs) (prints ys))

pub prints-one : (reply : AnswerLines) → prints (reply ∷ []) ≡ printed reply
unfolding prints
prints-one reply = append-nil (printed reply)

nothing_printed : prints [] ≡ []
unfolding prints
nothing_printed = refl

nothing_counted : tally_of [] ≡ record { accepted = 0; refused = 0 }
unfolding tally_of tally_after
nothing_counted = refl

count_by-more : (p : AnswerLines → Bool) (rs : List AnswerLines) (r : AnswerLines)
    → count_by p (rs ++ r ∷ []) ≡ count_by p rs + (if p r then 1 else 0)
count_by-more p rs r = sum_by-append (λ x. cond (p x) 1 0) rs (r ∷ [])
    ∙ ap (λ k. sum_by (λ x. cond (p x) 1 0) rs + k) (zero-add (cond (p r) 1 0))

-- a tally is its two counts
tally_eta : (m n : Tally) → m.accepted ≡ n.accepted → m.refused ≡ n.refused → m ≡ n
tally_eta m n e f = ap (λ k. let t : Tally = record { accepted = k; refused = m.refused } in t) e
    ∙ ap (λ k. let t : Tally = record { accepted = n.accepted; refused = k } in t) f

other_way : (b : Bool) → let one : ℕ = 1 in let none : ℕ = 0 in
    (if b then none else one) ≡ (if not b then one else none)
other_way true = refl
other_way false = refl

-- a count that stays at the greatest number, after one more
saturates : (a b c k n : ℕ) → a ≡ u64_saturate (0 + b) → n ≡ u64_saturate (a + k) → c ≡ b + k → n ≡ u64_saturate (0 + c)
saturates a b c k n e f g = omega arith

-- the tally of one more reply
pub tally_of-more : (rs : List AnswerLines) (r : AnswerLines) (met : Bool) (m n : Tally) → m ≡ tally_of rs → met ≡ is_accepted r
    → not met ≡ is_refused r
    → n.accepted ≡ u64_saturate (m.accepted + (if met then 1 else 0))
    → n.refused ≡ u64_saturate (m.refused + (if met then 0 else 1)) → n ≡ tally_of (rs ++ r ∷ [])
unfolding tally_of tally_after
tally_of-more rs r met m n e accepted refused more_accepted more_refused =
    tally_eta n (tally_of (rs ++ r ∷ []))
    (saturates m.accepted (count_by is_accepted rs) _ (if met then 1 else 0) n.accepted (ap (λ t. t.accepted) e)
    more_accepted
    (count_by-more is_accepted rs r ∙ ap (λ b. count_by is_accepted rs + (if b then 1 else 0)) (sym accepted)))
    (saturates m.refused (count_by is_refused rs) _ (if met then 0 else 1) n.refused (ap (λ t. t.refused) e)
    more_refused
    (count_by-more is_refused rs r ∙ ap (λ b. count_by is_refused rs + (if b then 1 else 0)) (sym refused)
    ∙ ap (λ k. count_by is_refused rs + k) (sym (other_way met))))

-- what the reader has left, where its bytes are known: the items in `done` come before
abbrev pub IsLeft : List Item → Option (List ℕ) → List ℕ → Type 0
IsLeft done now text = (left : List ℕ) × (now ≡ Some left) × (items_of text ≡ done ++ items_of left)

-- how far a run has come: the items in `done` are answered
pub record Progress {S : Type 0} (Step : StepOf S) (s0 s : S) (w0 w remaining now : Option (List ℕ)) (tally : Tally) : Type 0
  where
    pub done : List Item
    pub replies : List AnswerLines
    pub read : IfSome remaining (IsLeft done now)
    pub answers : Answers Step s0 done replies s
    pub written : Appends w0 w (prints replies)
    pub tally_is : tally ≡ tally_of replies

nothing_read : (remaining : Option (List ℕ)) → IfSome remaining (IsLeft [] remaining)
nothing_read None = tt
nothing_read (Some text) = (text, refl, refl)

pub progress_starts : {S : Type 0} (Step : StepOf S) (s : S) (w remaining : Option (List ℕ)) (tally : Tally)
    → tally.accepted ≡ 0 → tally.refused ≡ 0
    → Progress Step s s w w remaining remaining tally
progress_starts Step s w remaining tally e f =
    record {
      done = [];
      replies = [];
      read = nothing_read remaining;
      answers = (refl, refl);
      written = subst (Appends w w) (sym nothing_printed) (Appends-nil w);
      tally_is = ap (λ n. record { accepted = n; refused = tally.refused }) e
          ∙ ap (λ n. record { accepted = 0; refused = n }) f ∙ sym nothing_counted;
    }

-- an item is read, and the next one is in hand
one_read : (remaining b c : Option (List ℕ)) (done : List Item) (one : Option Item) (item : Item)
    → IfSome remaining (IsLeft done b)
    → IfSome b (λ zs. ItemRead zs one c) → one ≡ Some item
    → IfSome remaining (λ text. (left : List ℕ) × (c ≡ Some left) × (items_of text ≡ done ++ item ∷ items_of left))
one_read None b c done one item so_far read met_it = tt
one_read (Some text) b c done one item so_far read met_it =
    let (left, now, items) = so_far in
    let (ys, now', items') = subst (λ o. ItemRead left o c) met_it
    (subst (λ o. IfSome o (λ zs. ItemRead zs one c)) now read) in
    (ys, now', items ∙ ap (λ l. done ++ l) items')

left_more : (remaining c : Option (List ℕ)) (done : List Item) (item : Item)
    → IfSome remaining (λ text. (left : List ℕ) × (c ≡ Some left) × (items_of text ≡ done ++ item ∷ items_of left))
    → IfSome remaining (IsLeft (done ++ item ∷ []) c)
left_more None c done item h = tt
left_more (Some text) c done item h =
    let (left, now, items) = h in
    (left, now, items ∙ sym (append_assoc done (item ∷ []) (items_of left)))

-- one more item is answered
pub progress_answers : {S : Type 0} (Step : StepOf S) (s0 s s' : S) (w0 w w' remaining b c : Option (List ℕ)) (m n : Tally)
    (one : Option Item) (item : Item) (met : Bool)
    → Progress Step s0 s w0 w remaining b m → IfSome b (λ zs. ItemRead zs one c) → one ≡ Some item
    → ((out : List ℕ) × Answered (Step s item) s' out met × Appends w w' out)
    → n.accepted ≡ u64_saturate (m.accepted + (if met then 1 else 0))
    → n.refused ≡ u64_saturate (m.refused + (if met then 0 else 1))
    → Progress Step s0 s' w0 w' remaining c n
progress_answers Step s0 s s' w0 w w' remaining b c m n one item met p read met_it answered more_accepted more_refused =
    let (out, r, wrote) = answered in
    record {
      done = p.done ++ item ∷ [];
      replies = p.replies ++ r.reply ∷ [];
      read = left_more remaining c p.done item (one_read remaining b c p.done one item p.read read met_it);
      answers = answers_more Step s0 s s' p.done p.replies item r.reply p.answers r.gives;
      written = subst (Appends w0 w')
          (sym (prints-append _ _ ∙ ap (λ l. prints p.replies ++ l) (prints-one _ ∙ sym r.prints.text_is)))
          (Appends-trans w0 w w' _ _ p.written wrote);
      tally_is = tally_of-more p.replies r.reply met m n p.tally_is r.prints.accepted_is r.prints.refused_is
          more_accepted more_refused;
    }

kept_appends : (w w' : Option (List ℕ)) → Keeps w w' → Appends w w' []
kept_appends w w' kept = Appends-kept w w w' [] (Appends-nil w) kept

nothing_front : (ys : List ℕ) → IsFrontOf [] ys
nothing_front ys = (0, omega arith, refl)

-- a fault of reading writes no more than its line, and changes nothing
pub read_ends : (Step : StepOf Content) (f : ReadFault) (s : Content) → EndsBy Step (read_cause f) [] s s None []
read_ends Step Reads.Memory s = (refl, ([], [], refl, inl refl, nothing_front []))
read_ends Step Reads.Reader s = (refl, nothing_front [])

none_in_hand : (remaining b : Option (List ℕ)) (done : List Item) → IfSome remaining (IsLeft done b)
    → IfSome remaining (λ text. (rest : List Item) × (items_of text ≡ done ++ with_hand None rest))
none_in_hand None b done h = tt
none_in_hand (Some text) b done h = (items_of h.0, h.2)

-- a fault between two items
pub halts_between : (Step : StepOf Content) (s0 s : Content) (w0 w remaining b : Option (List ℕ)) (tally : Tally)
    (f : ReadFault) (fault : RunFault) → Progress Step s0 s w0 w remaining b tally
    → cause_of fault ≡ read_cause f → tally_in fault ≡ tally → Stopped Step (λ _. []) (ends_of s0 s w0 w remaining) fault
halts_between Step s0 s w0 w remaining b tally f fault p e tallied =
    record {
      done = p.done;
      hand = None;
      replies = p.replies;
      between = s;
      tail = [];
      read = none_in_hand remaining b p.done p.read;
      answers = p.answers;
      written = subst (Appends w0 w) (sym (append-nil _)) p.written;
      ending = subst (λ c. EndsBy Step c [] s s None []) (sym e) (read_ends Step f s);
      tally_is = tallied ∙ p.tally_is;
    }

one_in_hand : (remaining c : Option (List ℕ)) (done : List Item) (item : Item)
    → IfSome remaining (λ text. (left : List ℕ) × (c ≡ Some left) × (items_of text ≡ done ++ item ∷ items_of left))
    → IfSome remaining (λ text. (rest : List Item) × (items_of text ≡ done ++ with_hand (Some item) rest))
one_in_hand None c done item h = tt
one_in_hand (Some text) c done item h = (items_of h.0, h.2)

-- the first rows of a listing, and no line of a fault
rows_begun : (s : Content) (item : Item) (front : List ℕ) → BeginsInProgress s (Some item) front
    → WritesFault s (Some item) [] front
rows_begun s item front begins = (front, [], sym (append-nil front), begins, nothing_front [])

-- how it ends where one item was not answered
breaks_end : (Step : StepOf Content) (cause : Cause) (s s' : Content) (w w' : Option (List ℕ)) (item : Item)
    → ItemBreaks Step cause s s' w w' item
    → (tail : List ℕ) × EndsBy Step cause [] s s' (Some item) tail × Appends w w' tail
breaks_end Step Memory s s' w w' item (same, (front, begins, appended)) =
    (front, (same, rows_begun s item front begins), appended)
breaks_end Step (Device Store) s s' w w' item (whole, (front, begins, appended)) =
    (front, (whole, rows_begun s item front begins), appended)
breaks_end Step (Device Reader) s s' w w' item h = absurd h
breaks_end Step (Device Writer) s s' w w' item h = h

-- a fault in the answer to an item
pub halts_within : (Step : StepOf Content) (s0 s s' : Content) (w0 w w' remaining b c : Option (List ℕ)) (tally : Tally)
    (one : Option Item) (item : Item) (cause : Cause) (fault : RunFault)
    → Progress Step s0 s w0 w remaining b tally → IfSome b (λ zs. ItemRead zs one c) → one ≡ Some item
    → cause_of fault ≡ cause → tally_in fault ≡ tally
    → ItemBreaks Step cause s s' w w' item → Stopped Step (λ _. []) (ends_of s0 s' w0 w' remaining) fault
halts_within Step s0 s s' w0 w w' remaining b c tally one item cause fault p read met_it e tallied breaks =
    let (tail, ending, appended) = breaks_end Step cause s s' w w' item breaks in
    record {
      done = p.done;
      hand = Some item;
      replies = p.replies;
      between = s;
      tail = tail;
      read = one_in_hand remaining c p.done item (one_read remaining b c p.done one item p.read read met_it);
      answers = p.answers;
      written = Appends-trans w0 w w' _ _ p.written appended;
      ending = subst (λ c'. EndsBy Step c' [] s s' (Some item) tail) (sym e) ending;
      tally_is = tallied ∙ p.tally_is;
    }

-- and what a crash may leave then
pub crashes_between : (Step : StepOf Content) (s0 s : Content) (w0 w remaining b : Option (List ℕ)) (tally : Tally)
    (f : ReadFault) (fault : RunFault) → Progress Step s0 s w0 w remaining b tally
    → cause_of fault ≡ read_cause f → tally_in fault ≡ tally → (c : Content) → c ≡ s
    → Crashed Step (λ _. []) (ends_of s0 s w0 w remaining) fault c
unfolding halts_between
crashes_between Step s0 s w0 w remaining b tally f fault p e tallied c same =
    record { last = s; stopped = halts_between Step s0 s w0 w remaining b tally f fault p e tallied; leaves = inl same }

-- what stays, or that after the item in hand
in_hand : (Step : StepOf Content) (s t : Content) (item : Item) → (t ≡ s) ⊎ ((reply : AnswerLines) × Step s item reply t)
    → (t ≡ s) ⊎ LeavesInProgress Step s (Some item) t
in_hand Step s t item (inl same) = inl same
in_hand Step s t item (inr did) = inr (item, refl, did)

pub crashes_within : (Step : StepOf Content) (s0 s s' : Content) (w0 w w' remaining b c : Option (List ℕ)) (tally : Tally)
    (one : Option Item) (item : Item) (cause : Cause) (fault : RunFault)
    → Progress Step s0 s w0 w remaining b tally → IfSome b (λ zs. ItemRead zs one c) → one ≡ Some item
    → cause_of fault ≡ cause → tally_in fault ≡ tally
    → ItemBreaks Step cause s s' w w' item → (t left : Content)
    → (left ≡ s) ⊎ ((reply : AnswerLines) × Step s item reply left)
    → Crashed Step (λ _. []) (ends_of s0 t w0 w' remaining) fault left
unfolding halts_within
crashes_within Step s0 s s' w0 w w' remaining b c tally one item cause fault p read met_it e tallied breaks t left leaves =
    record {
      last = s';
      stopped =
          halts_within Step s0 s s' w0 w w' remaining b c tally one item cause fault p read met_it e tallied breaks;
      leaves = in_hand Step s left item leaves;
    }

-- a front of nothing is nothing
front_of_nothing : (xs : List ℕ) → IsFrontOf xs [] → xs ≡ []
front_of_nothing xs front = front.2 ∙ take_short front.0 [] (omega arith)

-- and once a front of the fault's line is written
rows_written : (s : Content) (hand : Option Item) (line tail : List ℕ) (n : ℕ) → n ≤ length line
    → WritesFault s hand [] tail
    → WritesFault s hand line (tail ++ take n line)
rows_written s hand line tail n fits (front, last, is, begins, ends) = (
  front,
  take n line,
  ap (λ l. l ++ take n line) (is ∙ ap (λ l. front ++ l) (front_of_nothing last ends) ∙ append-nil front),
  begins,
  (n, fits, refl),
)

-- how a run ended, once a front of the fault's line is written
ending_written : (Step : StepOf Content) (cause : Cause) (between t : Content) (hand : Option Item) (tail : List ℕ) (n : ℕ)
    → n ≤ length (fault_line cause)
    → EndsBy Step cause [] between t hand tail
    → EndsBy Step cause (fault_line cause) between t hand (tail ++ take n (fault_line cause))
unfolding fault_line
ending_written Step Memory between t hand tail n fits h = (h.0, rows_written between hand (fault_line Memory) tail n fits h.1)
ending_written Step (Device Store) between t hand tail n fits h =
    (h.0, rows_written between hand (fault_line (Device Store)) tail n fits h.1)
ending_written Step (Device Reader) between t hand tail n fits h =
    (h.0, (n, fits, ap (λ l. l ++ take n (fault_line (Device Reader))) (front_of_nothing tail h.1)))
ending_written Step (Device Writer) between t hand tail n fits h =
    subst (EndsBy Step (Device Writer) [] between t hand)
    (sym (ap (λ l. tail ++ l) (take_short n [] (omega arith)) ∙ append-nil tail)) h

-- the line of a fault is written
pub fault_written : (Step : StepOf Content) (s t : Content) (w0 w w' read : Option (List ℕ)) (fault : RunFault) (cause : Cause)
    → Stopped Step (λ _. []) (ends_of s t w0 w read) fault → cause ≡ cause_of fault
    → ((n : ℕ) × (n ≤ length (fault_line cause)) × Appends w w' (take n (fault_line cause)))
    → Stopped Step fault_line (ends_of s t w0 w' read) fault
fault_written Step s t w0 w w' read fault cause p e appended =
    let (n, fits, more) = subst (λ c. (n : ℕ) × (n ≤ length (fault_line c)) × Appends w w' (take n (fault_line c))) e
    appended in
    let line = fault_line (cause_of fault) in
    record {
      done = p.done;
      hand = p.hand;
      replies = p.replies;
      between = p.between;
      tail = p.tail ++ take n line;
      read = p.read;
      answers = p.answers;
      written = subst (Appends w0 w') (append_assoc (prints p.replies) p.tail (take n line))
          (Appends-trans w0 w w' _ _ p.written more);
      ending = ending_written Step (cause_of fault) p.between t p.hand p.tail n fits p.ending;
      tally_is = p.tally_is;
    }

pub crash_written : (Step : StepOf Content) (s t : Content) (w0 w w' read : Option (List ℕ)) (fault : RunFault)
    (cause : Cause) (c : Content)
    → Crashed Step (λ _. []) (ends_of s t w0 w read) fault c → cause ≡ cause_of fault
    → ((n : ℕ) × (n ≤ length (fault_line cause)) × Appends w w' (take n (fault_line cause)))
    → Crashed Step fault_line (ends_of s t w0 w' read) fault c
unfolding fault_written
crash_written Step s t w0 w w' read fault cause c h e appended =
    record {
      last = h.last;
      stopped = fault_written Step s h.last w0 w w' read fault cause h.stopped e appended;
      leaves = h.leaves;
    }

-- nothing is written of the item in hand
nothing_begun : (s : Content) (w w' : Option (List ℕ)) (item : Item) → Keeps w w'
    → (front : List ℕ) × BeginsInProgress s (Some item) front × Appends w w' front
nothing_begun s w w' item kept = ([], inl refl, kept_appends w w' kept)

-- a store fails within an item
pub store_breaks : (Step : StepOf Content) (fault : StoreFault) (cause : Cause) (s s' : Content)
    (w w' : Option (List ℕ)) (item : Item)
    → cause ≡ store_cause fault → Keeps w w' → (fault ≡ Stores.Memory → s' ≡ s)
    → ((s' ≡ s) ⊎ ((reply : AnswerLines) × Step s item reply s')) → ItemBreaks Step cause s s' w w' item
store_breaks Step Stores.Memory cause s s' w w' item is kept unchanged whole =
    subst (λ c. ItemBreaks Step c s s' w w' item) (sym is) (unchanged refl, nothing_begun s w w' item kept)
store_breaks Step Stores.Device cause s s' w w' item is kept unchanged whole =
    subst (λ c. ItemBreaks Step c s s' w w' item) (sym is)
    (in_hand Step s s' item whole, nothing_begun s w w' item kept)

-- memory is refused before anything is asked of the store
pub memory_breaks : (Step : StepOf Content) (s : Content) (w : Option (List ℕ)) (item : Item)
    → ItemBreaks Step Memory s s w w item
memory_breaks Step s w item = (refl, ([], inl refl, Appends-nil w))

-- a writer fails within an answer
pub writer_breaks : (Step : StepOf Content) (cause : Cause) (s s' : Content) (w w' : Option (List ℕ)) (item : Item)
    (reply : AnswerLines) (front : List ℕ)
    → cause ≡ Device Writer → Step s item reply s' → IsFrontOf front (printed reply) → Appends w w' front
    → ItemBreaks Step cause s s' w w' item
writer_breaks Step cause s s' w w' item reply front is step begins appended =
    subst (λ c. ItemBreaks Step c s s' w w' item) (sym is) (front, inl (item, refl, (reply, step, begins)), appended)
