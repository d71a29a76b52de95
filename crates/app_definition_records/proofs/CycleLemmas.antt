-- What the records of run cycles spell.
use Rattle.std.proofs.Common.{◌≡◌, ◌∙◌, sym, refl, ap, subst, inl, inr, ℕ, zero, suc, ◌+◌, ◌<◌, ◌≤◌, ℤ, pos, List, []}
use Rattle.std.proofs.Common.{◌∷◌, ◌++◌, length, get_or, take, map, Bool, true, false, Option, Some, None, Bor, arith}
use Rattle.std.proofs.Common.{length-append}
use Rattle.std.specs.Prelude.{All, Any, Contains, IsSome, IfSome, ◌↔◌, ◌==◌, neg_ℤ, if◌then◌else◌}
use Rattle.std.proofs.lemmas.List.{get_or-map, get_or_append_left, length-map, map_more, take_all, take_more}
use Rattle.std.proofs.lemmas.List.Elements.{All-contains, All-map, All-push, Contains-get_or, Contains-push_cases}
use Rattle.std.proofs.lemmas.List.Quantifiers.{Any-push}
use Rattle.std.proofs.lemmas.List.Splits.{length-slice_split}
use Rattle.run_cycles.specs.declared.cycles.RunCycle.{RunCycle}
use Rattle.run_cycles.specs.declared.offsets.TheConstants.{MAX_OFFSET}
use Rattle.run_cycles.specs.Offset.{IsOffset, IsOffsets}
use Rattle.std.specs.List.{HoldsAt, insert}
use Rattle.app_definition_records.specs.Fields.{field, number_value}
use Rattle.app_definition_records.specs.Rising.{IsPlaceFor}
use Rattle.app_definition_records.proofs.RisingLemmas.{none_named, only, rising-insert, Contains-insert_cases}
use Rattle.app_definition_records.proofs.RisingLemmas.{Contains-insert_new, Contains-insert_old, Contains-map}
use Rattle.app_definition_records.proofs.RisingLemmas.{Contains-map_back}
use Rattle.app_definition_records.specs.CycleRecords.{has_minus, offset_digits, offset_value, pieces_of, IsOffsetText}
use Rattle.app_definition_records.specs.CycleRecords.{SpellsOffsets, SpellsRunCycle, cycle_names_of, FitsRunCycle}
use Rattle.app_definition_records.specs.CycleRecords.{AreRunCyclesOf}
use Rattle.app_definition_records.specs.Records.{Record, Records}
use Rattle.app_definition_records.specs.declared.columns.TheConstants.{CYCLE_NAME}

-- an offset that is spelled is in range
signed-in_range : (b : Bool) (n : ℕ) → 1 ≤ n → n ≤ MAX_OFFSET → IsOffset (if b then neg_ℤ (pos n) else pos n)
signed-in_range true zero l u = absurd (omega (arith, l))
signed-in_range true (suc m) l u = (omega arith, omega (arith, u))
signed-in_range false n l u = (l, u)

offset-in_range : (text : List ℕ) → IsOffsetText text → IsOffset (offset_value text)
offset-in_range text h = signed-in_range (has_minus text) (number_value (offset_digits text)) h.1 h.0.1

-- the piece at a place
piece_at : (xs : List (Bor (List ℕ))) (ps : List (List ℕ)) (i : ℕ) (d : Bor (List ℕ))
    → map (λ piece. piece.now) xs ≡ ps → i < length xs
    → (i < length ps) × (get_or ps i [] ≡ (get_or xs i d).now)
piece_at xs ps i d e h =
    let long : length ps ≡ length (map (λ piece. piece.now) xs) = ap length (sym e) in
    let mapped : length (map (λ piece. piece.now) xs) ≡ length xs = length-map xs (λ piece. piece.now) in
    (omega (arith, long, mapped, h), ap (λ l. get_or l i []) (sym e) ∙ get_or-map (λ piece. piece.now) xs i d [] h)

pub offset_at : (xs : List (Bor (List ℕ))) (ps : List (List ℕ)) (i : ℕ) (d : Bor (List ℕ))
    → map (λ piece. piece.now) xs ≡ ps → i < length xs
    → All IsOffsetText ps → IsOffsetText (get_or xs i d).now
offset_at xs ps i d e h all = let at = piece_at xs ps i d e h in subst IsOffsetText at.1 (all i [] at.0)

-- one piece more
pub offsets-more : (xs : List (Bor (List ℕ))) (ps : List (List ℕ)) (i : ℕ) (d : Bor (List ℕ)) (k : ℤ) (items : List ℤ)
    → map (λ piece. piece.now) xs ≡ ps → i < length xs
    → All IsOffsetText (take i ps) → items ≡ map offset_value (take i ps) → IsOffsetText (get_or xs i d).now
    → k ≡ offset_value (get_or xs i d).now
    → All IsOffsetText (take (i + 1) ps) × (items ++ k ∷ [] ≡ map offset_value (take (i + 1) ps))
offsets-more xs ps i d k items e h all of fits is =
    let at = piece_at xs ps i d e h in
    let P : List (List ℕ) → Type 0 = λ l. All IsOffsetText l in (
      subst P (sym (take_more ps i [] at.0)) (All-push IsOffsetText (take i ps) (get_or ps i []) all
          (subst IsOffsetText (sym at.1) fits)),
      ap (λ l. l ++ k ∷ []) of ∙ ap (λ x. map offset_value (take i ps) ++ x ∷ []) (is ∙ ap offset_value (sym at.1))
          ∙ sym (map_more offset_value ps i [] at.0),
    )

-- all pieces
pub offsets-all : (text : List ℕ) (xs : List (Bor (List ℕ))) (i : ℕ) (items : List ℤ)
    → map (λ piece. piece.now) xs ≡ pieces_of text → length xs ≤ i
    → All IsOffsetText (take i (pieces_of text)) → items ≡ map offset_value (take i (pieces_of text))
    → (IsOffsets items → SpellsOffsets text items) × (((ks : List ℤ) × SpellsOffsets text ks) → IsOffsets items)
offsets-all text xs i items e h all of =
    let same : length (pieces_of text) ≡ length (map (λ piece. piece.now) xs) = ap length (sym e) in
    let mapped : length (map (λ piece. piece.now) xs) ≡ length xs = length-map xs (λ piece. piece.now) in
    let whole : take i (pieces_of text) ≡ pieces_of text =
    take_all i (pieces_of text) (omega (arith, same, mapped, h)) in
    let P : List (List ℕ) → Type 0 = λ l. All IsOffsetText l in
    let each : All IsOffsetText (pieces_of text) = subst P whole all in
    let is : items ≡ map offset_value (pieces_of text) = of ∙ ap (λ l. map offset_value l) whole in
    let long : length items ≡ length (pieces_of text) = ap length is ∙ length-map (pieces_of text) offset_value in
    let some = length-slice_split (λ b. b == 32) text in
    let Q : List ℤ → Type 0 = λ l. All IsOffset l in
    let in_range : All IsOffset items = subst Q (sym is)
    (All-map IsOffset offset_value (pieces_of text)
    (λ k d within. offset-in_range (get_or (pieces_of text) k d) (each k d within))) in (
      λ valid. record { each = each; few = omega (arith, long, valid.1); values = is },
      λ spelled. (omega (arith, long, some), omega (arith, long, spelled.1.few), in_range),
    )

pub some-spelled : (o : Option (List ℤ)) (items : List ℤ) (P : List ℤ → Type 0) → (IsSome o ↔ IsOffsets items)
    → IfSome o (λ ks. ks ≡ items) → (IsOffsets items → P items) → IfSome o P
some-spelled None items P told is f = tt
some-spelled (Some ks) items P told is f = subst P (sym is) (f (told.0 refl))

-- ---- the run cycles of an application, with one record more

any_more : {X : Type 0} (P : X → Type 0) (xs ys : List X) → Any P xs → Any P (xs ++ ys)
any_more P xs ys (k, x, lt, is, holds) =
    (k, x, omega (arith, lt, length-append xs ys), get_or_append_left xs ys x k lt ∙ is, holds)

any_of : {X : Type 0} (P : X → Type 0) (xs : List X) (x : X) → Contains xs x → P x → Any P xs
any_of P xs x (k, lt, is) holds = (k, x, lt, is, holds)

all_of : {X : Type 0} (P : X → Type 0) (xs : List X) → ((x : X) → Contains xs x → P x) → All P xs
all_of P xs f k d lt = f (get_or xs k d) (Contains-get_or xs k d lt)

-- the first record
pub run_cycles-one : (row : Record) (cycle : RunCycle) → SpellsRunCycle row cycle
    → AreRunCyclesOf (cycle ∷ []) (row ∷ [])
run_cycles-one row cycle s =
    record {
      rising = λ i j d lt within. absurd (omega (arith, lt, within));
      each = all_of (λ c. Any (λ r. SpellsRunCycle r c) (row ∷ [])) (cycle ∷ [])
          (λ c has. (0, row, omega arith, refl, subst (SpellsRunCycle row) (only cycle c has) s));
      all = all_of (λ r. Any (SpellsRunCycle r) (cycle ∷ [])) (row ∷ [])
          (λ r has. (0, cycle, omega arith, refl, subst (λ x. SpellsRunCycle x cycle) (only row r has) s));
    }

-- a further record at its place
pub run_cycles-more : (cycles : List RunCycle) (rows : Records) (cycle : RunCycle) (row : Record) (place : ℕ)
    → IsPlaceFor (λ c. c.name) cycles cycle.name place → AreRunCyclesOf cycles rows → SpellsRunCycle row cycle
    → AreRunCyclesOf (insert cycles place cycle) (rows ++ row ∷ [])
run_cycles-more cycles rows cycle row place free are s =
    record {
      rising = rising-insert (λ c. c.name) cycles cycle place free are.rising;
      each = all_of (λ c. Any (λ r. SpellsRunCycle r c) (rows ++ row ∷ [])) (insert cycles place cycle)
          (λ c has. elim (Contains-insert_cases cycles place cycle c has) [
            | inl old ↦ any_more (λ r. SpellsRunCycle r c) rows (row ∷ [])
                (All-contains (λ x. Any (λ r. SpellsRunCycle r x) rows) cycles c are.each old)
            | inr new ↦ Any-push (λ r. SpellsRunCycle r c) rows row (subst (SpellsRunCycle row) (sym new) s)
          ]);
      all = all_of (λ r. Any (SpellsRunCycle r) (insert cycles place cycle)) (rows ++ row ∷ [])
          (λ r has. elim (Contains-push_cases rows row r has) [
            | inl old ↦ let (k, x, lt, is, spelled) =
                All-contains (λ y. Any (SpellsRunCycle y) cycles) rows r are.all old in
                any_of (SpellsRunCycle r) (insert cycles place cycle) x
                (Contains-insert_old cycles place cycle x (k, lt, is)) spelled
            | inr new ↦ any_of (SpellsRunCycle r) (insert cycles place cycle) cycle
                (Contains-insert_new cycles place cycle) (subst (λ x. SpellsRunCycle x cycle) new s)
          ]);
    }

-- a record with a new name is good
pub new-fits : (cycles : List RunCycle) (before : Records) (cycle : RunCycle) (row : Record) (place : ℕ)
    → IsPlaceFor (λ c. c.name) cycles cycle.name place → AreRunCyclesOf cycles before → SpellsRunCycle row cycle
    → FitsRunCycle before row
new-fits cycles before cycle row place free are s =
    ((cycle, s), λ has. none_named (λ c. c.name) cycles cycle.name place free (named has))
  where
    named : Contains (cycle_names_of before) (field row CYCLE_NAME) → Any (λ c. c.name ≡ cycle.name) cycles
    named has =
        let (r, there, same) = Contains-map_back (λ r. field r CYCLE_NAME) before (field row CYCLE_NAME) has in
        let (k, c, lt, is, spelled) = All-contains (λ y. Any (SpellsRunCycle y) cycles) before r are.all there in
        (k, c, lt, is, spelled.name ∙ same ∙ sym s.name)

-- one with a name that is there is not
pub old-no_fit : (cycles : List RunCycle) (before : Records) (cycle : RunCycle) (row : Record) (k : ℕ)
    → k < length cycles → HoldsAt (λ c. c.name ≡ cycle.name) cycles k
    → AreRunCyclesOf cycles before → SpellsRunCycle row cycle → FitsRunCycle before row → ⊥
old-no_fit cycles before cycle row k lt named are s fits =
    let other = get_or cycles k cycle in
    let (j, r, below, is, spelled) = are.each k cycle lt in
    let same : field r CYCLE_NAME ≡ field row CYCLE_NAME = sym spelled.name ∙ named cycle ∙ s.name in
    fits.1 (subst (Contains (cycle_names_of before)) same
    (Contains-map (λ r. field r CYCLE_NAME) before r (j, below, is)))

pub no_bytes : (bytes : List ℕ) → length bytes ≡ 0 → bytes ≡ []
no_bytes [] h = refl
no_bytes (b ∷ bytes) h = absurd (omega (arith, h))
