-- Texts that spell numbers, offsets and minutes.
use Rattle.std.proofs.Common.{◌≡◌, ℕ, ℤ, pos, negsuc, neg_ℤ, zero, suc, ◌+◌, ◌/◌, ◌%◌, ◌<◌, ◌≤◌, List, [], ◌∷◌}
use Rattle.std.proofs.Common.{◌++◌, length, drop, map, refl, sym, ap, subst, ◌∙◌, inl, inr, arith, false, cond}
use Rattle.std.specs.Prelude.{◌==◌}
use Rattle.std.specs.Char.{IsAsciiDigit}
use Rattle.std.specs.List.{All}
use Rattle.std.proofs.lemmas.Bool.{cases_lt}
use Rattle.std.proofs.lemmas.Bool.Decides.{nat_tests}
use Rattle.std.proofs.lemmas.List.{length-map}
use Rattle.std.proofs.lemmas.List.Elements.{All-from_recursion, All-map, All-weaker}
use Rattle.std.proofs.lemmas.List.Splits.{slice_split_at, slice_split_none}
use Rattle.run_cycles.specs.Offset.{IsOffset, IsOffsets}
use Rattle.work_calendars.specs.Minute.{IsMinute}
use Rattle.work_calendars.specs.Spelling.{SpellsMinute, clock_spelling}
use Rattle.app_definition_records.specs.Fields.{IsNumber, number_value}
use Rattle.app_definition_records.specs.CycleRecords.{IsOffsetText, SpellsOffsets, has_minus, offset_digits, offset_value}
use Rattle.app_definition_records.specs.CycleRecords.{pieces_of}

-- the text is the number in decimal
pub record SpellsNumber (text : List ℕ) (n : ℕ) : Type 0 where
  pub number : IsNumber text
  pub value : number_value text ≡ n

digit_is : (n : ℕ) → n < 10 → IsAsciiDigit (48 + n)
digit_is n below = (omega arith, omega arith)

one : (n : ℕ) → n < 10 → SpellsNumber ((48 + n) ∷ []) n
one n below = record {
  number = record {
    not_empty = omega arith;
    digits = All-from_recursion IsAsciiDigit ((48 + n) ∷ []) (digit_is n below, tt);
    no_leading_zero = λ is. refl;
  };
  value = omega arith;
}

two : (n : ℕ) → 10 ≤ n → n < 100 → SpellsNumber ((48 + n / 10) ∷ (48 + n % 10) ∷ []) n
two n above below = record {
  number = record {
    not_empty = omega arith;
    digits = All-from_recursion IsAsciiDigit ((48 + n / 10) ∷ (48 + n % 10) ∷ [])
        (digit_is (n / 10) (omega arith), (digit_is (n % 10) (omega arith), tt));
    no_leading_zero = λ is. absurd (omega arith);
  };
  value = omega arith;
}

three : (n : ℕ) → 100 ≤ n → n ≤ 999 → SpellsNumber ((48 + n / 100) ∷ (48 + n / 10 % 10) ∷ (48 + n % 10) ∷ []) n
three n above below = record {
  number = record {
    not_empty = omega arith;
    digits = All-from_recursion IsAsciiDigit ((48 + n / 100) ∷ (48 + n / 10 % 10) ∷ (48 + n % 10) ∷ []) (
      digit_is (n / 100) (omega arith),
      (digit_is (n / 10 % 10) (omega arith), (digit_is (n % 10) (omega arith), tt)),
    );
    no_leading_zero = λ is. absurd (omega arith);
  };
  value = omega arith;
}

four : (n : ℕ) → 1000 ≤ n → n ≤ 9999
    → SpellsNumber ((48 + n / 1000) ∷ (48 + n / 100 % 10) ∷ (48 + n / 10 % 10) ∷ (48 + n % 10) ∷ []) n
four n above below = record {
  number = record {
    not_empty = omega arith;
    digits = All-from_recursion IsAsciiDigit
        ((48 + n / 1000) ∷ (48 + n / 100 % 10) ∷ (48 + n / 10 % 10) ∷ (48 + n % 10) ∷ []) (
          digit_is (n / 1000) (omega arith),
          (digit_is (n / 100 % 10) (omega arith), (digit_is (n / 10 % 10) (omega arith), (digit_is (n % 10) (omega arith), tt))),
        );
    no_leading_zero = λ is. absurd (omega arith);
  };
  value = omega arith;
}

spelled : (n : ℕ) → (text : List ℕ) × (n ≤ 9999 → SpellsNumber text n)
spelled n = elim (cases_lt n 10) [
  | inl below ↦ ((48 + n) ∷ [], λ within. one n below)
  | inr above ↦ elim (cases_lt n 100) [
    | inl below ↦ ((48 + n / 10) ∷ (48 + n % 10) ∷ [], λ within. two n above below)
    | inr more ↦ elim (cases_lt n 1000) [
      | inl below ↦
          ((48 + n / 100) ∷ (48 + n / 10 % 10) ∷ (48 + n % 10) ∷ [], λ within. three n more (omega (arith, below)))
      | inr most ↦ (
        (48 + n / 1000) ∷ (48 + n / 100 % 10) ∷ (48 + n / 10 % 10) ∷ (48 + n % 10) ∷ [],
        λ within. four n most (omega (arith, within)),
      )
    ]
  ]
]

pub number_text : ℕ → List ℕ
number_text n = (spelled n).0

pub hours_spelled : (n : ℕ) → n ≤ 9999 → SpellsNumber (number_text n) n
unfolding number_text
hours_spelled n within = (spelled n).1 within

pub number_spelled : (n : ℕ) → n ≤ 1999 → SpellsNumber (number_text n) n
number_spelled n within = hours_spelled n (omega (arith, within))

-- offsets

pub offset_text : ℤ → List ℕ
offset_text (pos n) = number_text n
offset_text (negsuc m) = 45 ∷ number_text (suc m)

no_minus : (text : List ℕ) → All IsAsciiDigit text → has_minus text ≡ false
no_minus [] digits = refl
no_minus (b ∷ text) digits =
    let digit : IsAsciiDigit b = digits 0 b (omega arith) in not_equal b 45 (omega (arith, digit.0))
  where
    not_equal : (a b : ℕ) → b < a → (a == b) ≡ false
    not_equal a b below = grind (arith, nat_tests)

pub offset_spelled : (k : ℤ) → IsOffset k → IsOffsetText (offset_text k) × (offset_value (offset_text k) ≡ k)
unfolding offset_text
offset_spelled (pos n) is =
    let spells = number_spelled n is.1 in
    let plain = no_minus (number_text n) spells.number.digits in
    let digits : offset_digits (number_text n) ≡ number_text n =
    ap (λ b. cond b (drop 1 (number_text n)) (number_text n)) plain in
    let value : number_value (offset_digits (number_text n)) ≡ n = ap number_value digits ∙ spells.value in (
      ((subst IsNumber (sym digits) spells.number, omega (arith, is.1)), omega (arith, is.0)),
      ap (λ b. cond b (neg_ℤ (pos (number_value (offset_digits (number_text n)))))
          (pos (number_value (offset_digits (number_text n))))) plain ∙ ap pos value,
    )
offset_spelled (negsuc m) is =
    let within : suc m ≤ 1999 = omega (arith, is.1) in
    let spells = number_spelled (suc m) within in
    let value : number_value (number_text (suc m)) ≡ suc m = spells.value in (
      ((spells.number, omega arith), omega arith),
      ap (λ n. neg_ℤ (pos n)) value,
    )

no_blank : (b : ℕ) → IsAsciiDigit b → (b == 32) ≡ false
no_blank b digit = let above = digit.0 in grind (arith, nat_tests)

pub join : List ℤ → List ℕ
join [] = []
join (k ∷ []) = offset_text k
join (k ∷ l ∷ ks) = offset_text k ++ 32 ∷ join (l ∷ ks)

blanks : (k : ℤ) → IsOffset k → All (λ b. (b == 32) ≡ false) (offset_text k)
unfolding offset_text
blanks (pos n) is =
    All-weaker IsAsciiDigit (λ b. (b == 32) ≡ false) no_blank (number_text n) (number_spelled n is.1).number.digits
blanks (negsuc m) is =
    let within : suc m ≤ 1999 = omega (arith, is.1) in
    more 45 (number_text (suc m)) refl
    (All-weaker IsAsciiDigit (λ b. (b == 32) ≡ false) no_blank (number_text (suc m))
    (number_spelled (suc m) within).number.digits)
  where
    more : (a : ℕ) (text : List ℕ) → (a == 32) ≡ false → All (λ b. (b == 32) ≡ false) text
        → All (λ b. (b == 32) ≡ false) (a ∷ text)
    more a text first rest zero d lt = first
    more a text first rest (suc k) d lt = rest k d (omega arith)

pieces : (k : ℤ) (ks : List ℤ) → All IsOffset (k ∷ ks) → pieces_of (join (k ∷ ks)) ≡ map offset_text (k ∷ ks)
unfolding join
pieces k [] are = slice_split_none (λ b. b == 32) (offset_text k) (blanks k (are 0 k (omega arith)))
pieces k (l ∷ ks) are =
    slice_split_at (λ b. b == 32) (offset_text k) 32 (join (l ∷ ks)) (blanks k (are 0 k (omega arith))) refl
    ∙ ap (λ (r : List (List ℕ)). offset_text k ∷ r)
    (pieces l ks (λ j d lt. are (suc j) d (omega arith)))

values : (ks : List ℤ) → All IsOffset ks → ks ≡ map offset_value (map offset_text ks)
values [] are = refl
values (k ∷ ks) are =
    ap (λ (x : ℤ). x ∷ ks) (sym (offset_spelled k (are 0 k (omega arith))).1)
    ∙ ap (λ (r : List ℤ). offset_value (offset_text k) ∷ r) (values ks (λ j d lt. are (suc j) d (omega arith)))

pub offsets_spelled : (ks : List ℤ) → IsOffsets ks → SpellsOffsets (join ks) ks
offsets_spelled [] is = absurd (omega (arith, is.0))
offsets_spelled (k ∷ ks) is =
    let same = pieces k ks is.2 in
    record {
      each = subst (All IsOffsetText) (sym same)
          (All-map IsOffsetText offset_text (k ∷ ks)
          (All-weaker IsOffset (λ x. IsOffsetText (offset_text x)) (λ x of. (offset_spelled x of).0) (k ∷ ks) is.2));
      few = omega (arith, is.1, ap length same, length-map (k ∷ ks) offset_text);
      values = values (k ∷ ks) is.2 ∙ ap (map offset_value) (sym same);
    }

-- minutes

pub minute_text : ℕ → List ℕ
minute_text minute = clock_spelling (minute / 60) (minute % 60)

pub minute_spelled : (minute : ℕ) → IsMinute minute → SpellsMinute (minute_text minute) minute
unfolding minute_text
minute_spelled minute in_range = record { in_range = in_range; text_is = refl }
