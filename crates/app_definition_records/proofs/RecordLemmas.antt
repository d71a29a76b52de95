-- What the records that a reader has given are of all that the text has.
use Rattle.std.proofs.Common.{◌≡◌, ◌∙◌, sym, refl, ap, subst, ℕ, suc, ◌+◌, ◌-◌, ◌<◌, ◌≤◌, List, [], ◌∷◌, ◌++◌, length}
use Rattle.std.proofs.Common.{Bool, true, false, Option, Some, None, arith, length-append, zero-add, suc-add, inl}
use Rattle.std.proofs.Common.{inr}
use Rattle.std.specs.Prelude.{IfSome, if◌then◌else◌, ◌==◌}
use Rattle.std.proofs.lemmas.Bool.{false≢true, cases_lt}
use Rattle.std.proofs.lemmas.List.{take-append-le, get_or_append_left, append-nil}
use Rattle.std.proofs.Math.Seq.{take-append_seam, get_or-append_seam}
use Rattle.csv.specs.Machine.{Read, next_record, step, is_end, fields_after, field_after, ends_at_end, after_end}
use Rattle.csv.specs.Machine.{in_field, start_field, start_record, ends_with, carriage_return}
use Rattle.csv.specs.declared.parser.Config.{Config}
use Rattle.csv.specs.declared.parser.State.{State}
use Rattle.csv.specs.declared.parser.State.TheVariants as st
use Rattle.csv.specs.declared.parser.Action.{Action}
use Rattle.csv.specs.declared.parser.Action.TheVariants as act
use Rattle.csv.specs.declared.parser.Terminator.{Terminator}
use Rattle.csv.specs.declared.parser.Terminator.TheVariants as term
use Rattle.csv.specs.declared.reader.Reader.{Reader}
use Rattle.csv.specs.Reading.{Reached, records_from, records, default_config, strip_bom, is_bom, NextIs, ReadsNext}
use Rattle.csv.specs.Reading.{TookRecord, ExplainsRead, source_of, pending_of}
use Rattle.csv.specs.declared.error.ErrorKind.{ErrorKind}
use Rattle.csv.specs.declared.error.ErrorKind.TheVariants as kind
use Rattle.app_definition_records.specs.Records.{Record, Records, IsGoodAt, AllGood, FirstFaulty, IsFirstFaulty}
use Rattle.app_definition_records.specs.Records.{fault_of_kind}

-- a step that ends a record leaves the machine between two records
EndsBetween : State × Action → Type 0
EndsBetween a = is_end a.1 ≡ true → ends_at_end a.0 ≡ false

after_end-between : (t : Terminator) (c : ℕ) → ends_at_end (after_end t c) ≡ false
after_end-between term.CRLF c = elim (c == carriage_return) as
    (λ b. ends_at_end (if b then st.AfterCr else st.StartRecord) ≡ false) [ true ↦ refl | false ↦ refl ]
after_end-between (term.Any t) c = refl

in_field-between : (cfg : Config) (c : ℕ) → EndsBetween (in_field cfg c)
unfolding EndsBetween
in_field-between cfg c =
    elim (c == cfg.delimiter) as (λ b. EndsBetween
    (if b then (st.StartField, act.EndField) else if ends_with cfg.terminator c then
    (after_end cfg.terminator c, act.EndRecord) else (st.InField, act.Copy))) [
      | true ↦ λ h. absurd (false≢true h)
      | false ↦ elim (ends_with cfg.terminator c) as
          (λ b. EndsBetween (if b then (after_end cfg.terminator c, act.EndRecord) else (st.InField, act.Copy))) [
            | true ↦ λ h. after_end-between cfg.terminator c
            | false ↦ λ h. absurd (false≢true h)
          ]
    ]

pick-between : (b : Bool) (x y : State × Action) → EndsBetween x → EndsBetween y → EndsBetween (if b then x else y)
pick-between true x y p q = p
pick-between false x y p q = q

inside-between : (s : State) (a : Action) → is_end a ≡ false → EndsBetween (s, a)
unfolding EndsBetween
inside-between s a e = λ h. absurd (false≢true (sym e ∙ h))

start_field-between : (cfg : Config) (c : ℕ) → EndsBetween (start_field cfg c)
start_field-between cfg c = pick-between _ _ _ (inside-between st.InQuoted act.Skip refl) (in_field-between cfg c)

start_record-between : (cfg : Config) (c : ℕ) → EndsBetween (start_record cfg c)
start_record-between cfg c =
    pick-between _ _ _ (inside-between st.StartRecord act.Skip refl)
    (pick-between _ _ _ (inside-between st.InComment act.Skip refl) (start_field-between cfg c))

step-between : (cfg : Config) (s : State) (c : ℕ) → EndsBetween (step cfg s c)
step-between cfg st.StartRecord c = start_record-between cfg c
step-between cfg st.StartField c = start_field-between cfg c
step-between cfg st.InField c = in_field-between cfg c
step-between cfg st.InQuoted c =
    pick-between _ _ _ (inside-between st.AfterQuote act.Skip refl)
    (pick-between _ _ _ (inside-between st.InEscape act.Skip refl) (inside-between st.InQuoted act.Copy refl))
step-between cfg st.InEscape c = inside-between st.InQuoted act.Copy refl
step-between cfg st.AfterQuote c = pick-between _ _ _ (inside-between st.InQuoted act.Copy refl)
    (in_field-between cfg c)
step-between cfg st.InComment c = pick-between _ _ _ (inside-between st.StartRecord act.Skip refl)
    (inside-between st.InComment act.Skip refl)
step-between cfg st.AfterCr c = pick-between _ _ _ (inside-between st.StartRecord act.Skip refl)
    (start_record-between cfg c)

-- what the next record of n bytes leaves: a machine between two records, and fewer bytes
Leaves : ℕ → Option Read → Type 0
Leaves n o = IfSome o (λ r. (ends_at_end r.1 ≡ false) × (length r.2 ≤ n))

leaves-more : (n m : ℕ) (o : Option Read) → n ≤ m → Leaves n o → Leaves m o
unfolding Leaves
leaves-more n m None h l = tt
leaves-more n m (Some r) h l = (l.0, omega arith)

-- one byte more: it ends the record, or the rest does
byte-leaves : (cfg : Config) (s : State) (f : List (List ℕ)) (p : List ℕ) (c : ℕ) (rest : List ℕ) (more : Option Read)
    (b : Bool)
    → is_end (step cfg s c).1 ≡ b → Leaves (length rest) more
    → Leaves (length rest) (if b then Some (fields_after (step cfg s c).1 f p, (step cfg s c).0, rest) else more)
unfolding EndsBetween Leaves
byte-leaves cfg s f p c rest more true e h = (step-between cfg s c e, omega arith)
byte-leaves cfg s f p c rest more false e h = h

next_record-leaves : (cfg : Config) (s : State) (f : List (List ℕ)) (p xs : List ℕ)
    → Leaves (length xs) (next_record cfg s f p xs)
unfolding next_record Leaves
next_record-leaves cfg s f p [] =
    elim (ends_at_end s) as (λ b. Leaves 0 (if b then Some (f ++ (p ∷ []), st.StartRecord, []) else None)) [
      | true ↦
          (refl, omega arith)
      | false ↦ tt
    ]
next_record-leaves cfg s f p (c ∷ rest) =
    leaves-more (length rest) _ _ (omega arith)
    (byte-leaves cfg s f p c rest _ (is_end (step cfg s c).1) refl
    (next_record-leaves cfg (step cfg s c).0 (fields_after (step cfg s c).1 f p)
    (field_after (step cfg s c).1 c p) rest))

-- from between two records, a record takes a byte at least
next_record-takes : (cfg : Config) (s : State) (xs : List ℕ) (r : Read) → ends_at_end s ≡ false
    → next_record cfg s [] [] xs ≡ Some r
    → (ends_at_end r.1 ≡ false) × (length r.2 < length xs)
unfolding next_record Leaves
next_record-takes cfg s [] r b e = absurd (none-some (rw b at e))
  where
    none-some : {A : Type 0} {x : A} → ◌≡◌ {A = Option A} None (Some x) → ⊥
    none-some h = cc
next_record-takes cfg s (c ∷ rest) r b e =
    let h = byte-leaves cfg s [] [] c rest _ (is_end (step cfg s c).1) refl
    (next_record-leaves cfg (step cfg s c).0 (fields_after (step cfg s c).1 [] [])
    (field_after (step cfg s c).1 c []) rest) in
    let P : Option Read → Type 0 = Leaves (length rest) in
    let k : Leaves (length rest) (Some r) = subst P e h in
    (k.0, omega (arith, k.1))

-- the records reached take a byte each, and leave the machine between two records
pub reached-takes : (cfg : Config) (s : State) (xs : List ℕ) (rows : Records) (s2 : State) (ys : List ℕ)
    → ends_at_end s ≡ false
    → Reached cfg s xs rows s2 ys → (ends_at_end s2 ≡ false) × (length rows + length ys ≤ length xs)
unfolding Reached
reached-takes cfg s xs [] s2 ys b h = (rw (← h.0) b, rw h.1 (omega arith))
reached-takes cfg s xs (r ∷ rs) s2 ys b h =
    let t = next_record-takes cfg s xs h.0 b h.1 in
    let m = reached-takes cfg h.0.1 h.0.2 rs s2 ys t.0 h.3 in
    (m.0, omega (arith, m.1, t.1))

-- the records of a text from where some were reached
pub reached-records : (cfg : Config) (n : ℕ) (s : State) (xs : List ℕ) (rows : Records) (s2 : State) (ys : List ℕ)
    → Reached cfg s xs rows s2 ys → records_from cfg (length rows + n) s xs ≡ rows ++ records_from cfg n s2 ys
unfolding Reached records_from
reached-records cfg n s xs [] s2 ys h = rw (zero-add, h.0, h.1) refl
reached-records cfg n s xs (r ∷ rs) s2 ys h =
    rw (suc-add, h.1, h.2, reached-records cfg n h.0.1 h.0.2 rs s2 ys h.3) refl

-- the turns that are left after the records reached
turns-left : (xs : List ℕ) (rows : Records) → length rows ≤ length xs → (n : ℕ) × (length xs + 1 ≡ length rows + suc n)
turns-left xs rows h = (length xs - length rows, omega arith)

-- where no record comes after those reached, they are all the records of the text
pub records-all : (cfg : Config) (xs : List ℕ) (rows : Records) (s2 : State) (ys : List ℕ)
    → Reached cfg st.StartRecord xs rows s2 ys → next_record cfg s2 [] [] ys ≡ None → records cfg xs ≡ rows
unfolding records_from
records-all cfg xs rows s2 ys h e =
    let t = reached-takes cfg st.StartRecord xs rows s2 ys refl h in
    let n = turns-left xs rows (omega (arith, t.1)) in
    rw (n.1, reached-records cfg (suc n.0) st.StartRecord xs rows s2 ys h, e) (append-nil rows)

-- where a record comes after those reached, it is the next of the text's
pub records-more : (cfg : Config) (xs : List ℕ) (rows : Records) (s2 : State) (ys : List ℕ) (p : Read)
    → Reached cfg st.StartRecord xs rows s2 ys → next_record cfg s2 [] [] ys ≡ Some p
    → (later : Records) × (records cfg xs ≡ rows ++ (p.0 ∷ later))
unfolding records_from
records-more cfg xs rows s2 ys p h e =
    let t = reached-takes cfg st.StartRecord xs rows s2 ys refl h in
    let n = turns-left xs rows (omega (arith, t.1)) in
    (records_from cfg n.0 p.1 p.2, rw (n.1, reached-records cfg (suc n.0) st.StartRecord xs rows s2 ys h, e) refl)

-- a record's goodness reads nothing after it
pub IsGoodAt-append : (Fits : Records → Record → Type 0) (rows more : Records) (k : ℕ) → k < length rows
    → IsGoodAt Fits rows k → IsGoodAt Fits (rows ++ more) k
IsGoodAt-append Fits rows more k h good =
    let le : k ≤ length rows = omega arith in
    rw (take-append-le k rows more le, get_or_append_left rows more [] k h) good

pub IsGoodAt-seam : (Fits : Records → Record → Type 0) (rows : Records) (r : Record) (more : Records)
    → Fits rows r → IsGoodAt Fits (rows ++ r ∷ more) (length rows)
IsGoodAt-seam Fits rows r more good = rw (take-append_seam rows (r ∷ more), get_or-append_seam rows r more []) good

pub seam-fits : (Fits : Records → Record → Type 0) (rows : Records) (r : Record) (more : Records)
    → IsGoodAt Fits (rows ++ r ∷ more) (length rows) → Fits rows r
seam-fits Fits rows r more good = rw (take-append_seam rows (r ∷ more), get_or-append_seam rows r more []) at good

-- one more good record
pub AllGood-more : (Fits : Records → Record → Type 0) (rows : Records) (r : Record)
    → AllGood Fits rows → Fits rows r → AllGood Fits (rows ++ r ∷ [])
AllGood-more Fits rows r all good k h =
    elim (cases_lt k (length rows)) [
      | inl lt ↦ IsGoodAt-append Fits rows (r ∷ []) k lt (all k lt)
      | inr ge ↦ rw (same k (length rows) ge (length-append rows (r ∷ [])) h) (IsGoodAt-seam Fits rows r [] good)
    ]
  where
    same : (k n : ℕ) → n ≤ k → length (rows ++ r ∷ []) ≡ n + 1 → k < length (rows ++ r ∷ []) → k ≡ n
    same k n a b c = omega arith

-- the record after good ones is the first faulty one
pub first_faulty-at : (Fits : Records → Record → Type 0) (all rows : Records) (r : Record) (later : Records)
    (number : ℕ)
    → all ≡ rows ++ r ∷ later → AllGood Fits rows → ¬ (Fits rows r) → number ≡ length rows + 1
    → FirstFaulty Fits all number
first_faulty-at Fits all rows r later number e good bad n =
    let at : number - 1 ≡ length rows = omega (arith, n) in
    let there : length all ≡ length rows + suc (length later) = ap length e ∙ length-append rows (r ∷ later) in
    record {
      counted = omega (arith, n);
      there = omega (arith, there, n);
      faulty = rw (at, e) (λ h. bad (seam-fits Fits rows r later h));
      before = λ k h. let lt : k < length rows = omega (arith, n, h) in
          rw e (IsGoodAt-append Fits rows (r ∷ later) k lt (good k lt));
    }

-- a read that took a record took the next of the text's
took-next : (o : Option Read) (f : List (List ℕ)) (s : State) (z : List ℕ) → NextIs o true f s z → (p : Read)
    × (o ≡ Some p) × (p.0 ≡ f)
took-next None f s z n = absurd (false≢true (sym n))
took-next (Some p) f s z n = (p, refl, sym n.1)

took-more : (cfg : Config) (xs : List ℕ) (rows : Records) (s s2 : State) (y : List ℕ) (k : Option (List ℕ))
    (f : List (List ℕ))
    → Reached cfg st.StartRecord xs rows s y → ReadsNext cfg s (Some y) k true f s2 → (later : Records)
    × (records cfg xs ≡ rows ++ f ∷ later)
took-more cfg xs rows s s2 y None f h r = absurd r
took-more cfg xs rows s s2 y (Some z) f h r =
    let n = took-next _ f s2 z r in
    let m = records-more cfg xs rows s y n.0 h n.1 in
    (m.0, m.1 ∙ ap (λ (x : List (List ℕ)). rows ++ x ∷ m.0) n.2)

-- the same of a reader
pub reader-took : {R : Type 0} (rem : R → Option (List ℕ)) (a b : Reader R) (f : List (List ℕ)) (cfg : Config)
    (xs y : List ℕ) (rows : Records)
    → a.config ≡ cfg → source_of rem a ≡ Some y → Reached cfg st.StartRecord xs rows a.state y → TookRecord rem a b f
    → (later : Records) × (records cfg xs ≡ rows ++ f ∷ later)
reader-took rem a b f cfg xs y rows ec ex h r =
    took-more cfg xs rows a.state b.state y (pending_of (rem b.rdr) b) f h (rw (ec, ex) at r)

-- a byte order mark is no part of the text
pub length-strip_bom : (xs : List ℕ) → length (strip_bom xs) ≤ length xs
unfolding strip_bom
length-strip_bom [] = omega arith
length-strip_bom (a ∷ []) = omega arith
length-strip_bom (a ∷ b ∷ []) = omega arith
length-strip_bom (a ∷ b ∷ c ∷ rest) =
    elim (is_bom a b c) as (λ v. length (if v then rest else a ∷ b ∷ c ∷ rest) ≤ length
    (a ∷ b ∷ c ∷ rest)) [ true ↦ omega arith | false ↦ omega arith ]

-- a short text has few records
pub few-records : (text : List ℕ) (rows : Records) (s : State) (y : List ℕ) (limit : ℕ)
    → Reached default_config st.StartRecord (strip_bom text) rows s y → length text ≤ limit → length rows ≤ limit
few-records text rows s y limit h le =
    let t = reached-takes default_config st.StartRecord (strip_bom text) rows s y refl h in
    omega (arith, t.1, length-strip_bom text)

-- an error at the record after good ones tells it as the first faulty one, or is want of memory
pub error-faulty : {R : Type 0} (rem : R → Option (List ℕ)) (a b : Reader R) (why : ErrorKind) (xs y : List ℕ)
    (rows : Records)
    (Fits : Records → Record → Type 0) (number : ℕ)
    → ((row : Record) → Fits rows row → IfSome a.expected (λ n. length row ≡ n))
    → a.config ≡ default_config → source_of rem a ≡ Some y → Reached default_config st.StartRecord xs rows a.state y
    → AllGood Fits rows → number ≡ length rows + 1
    → ExplainsRead rem a b false why
    → IsFirstFaulty Fits (records default_config xs) (fault_of_kind why number)
error-faulty rem a b (kind.UnequalLengths pos wanted len) xs y rows Fits number fixed ec ex h good n e =
    let took = reader-took rem a b e.3 default_config xs y rows ec ex h e.4 in
    let long : (row : Record) → Fits rows row → length row ≡ wanted = rw e.1 at fixed in
    let bad : ¬ (Fits rows e.3) = λ t. e.2 (sym (long e.3 t) ∙ e.5) in
    first_faulty-at Fits _ rows e.3 took.0 number took.1 good bad n
error-faulty rem a b (kind.Io x) xs y rows Fits number fixed ec ex h good n e = tt
error-faulty rem a b (kind.Utf8 pos err) xs y rows Fits number fixed ec ex h good n e = tt
error-faulty rem a b kind.OutOfMemory xs y rows Fits number fixed ec ex h good n e = tt
error-faulty rem a b (kind.Serialize text) xs y rows Fits number fixed ec ex h good n e = tt
error-faulty rem a b (kind.Deserialize pos err) xs y rows Fits number fixed ec ex h good n e = tt
