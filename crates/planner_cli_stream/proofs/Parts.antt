-- Lemmas on items that are read line by line.
use Rattle.std.proofs.Common.{◌≡◌, ◌≢◌, ℕ, ◌+◌, ◌-◌, ◌<◌, ◌≤◌, inl, inr, List, [], ◌∷◌, ◌++◌, length, take, refl, sym}
use Rattle.std.proofs.Common.{ap, subst, ◌∙◌, arith, append_assoc, append-nil, length-take-le, true≢false}
use Rattle.std.proofs.lemmas.Bool.{lt-leb}
use Rattle.std.proofs.Math.Seq.{take-append_seam}
use Rattle.std.specs.Prelude.{Option, None, Some, IfSome, IsTrue, ◌↔◌, Bool, true, false, not, nat_le, ◌==◌}
use Rattle.std.specs.Prelude.{if◌then◌else◌}
use Rattle.std.specs.Option.{option_map}
use Rattle.std.specs.Io.BufRead.{take_through, drop_through, DropsThrough}
use Rattle.planner_cli_stream.specs.Buffers.{kept}
use Rattle.planner_cli_stream.specs.Lines.{raw_lines, line_of, longest_line, line_room, opens_data, ends_data, kind_of}
use Rattle.planner_cli_stream.specs.Items.{Item, Alone, WithBlock, Whole, TooLong, Unended, bytes_before_end, block_of}
use Rattle.planner_cli_stream.specs.Items.{statement_item, items_of_line, items_of_lines, items_of, longest_block, block_room}
use Rattle.planner_cli_stream.specs.Items.{end_room}
use Rattle.planner_cli_stream.specs.Blocks.{BlockRead, block_held, ending_of}
use Rattle.planner_cli_stream.specs.Pages.{ItemRead, PartRead, held_alone, held_with_data, item_held, listed}
use Rattle.planner_cli_stream.specs.declared.line_kinds.LineKind.{LineKind}
use Rattle.planner_cli_stream.specs.declared.line_kinds.LineKind.TheVariants as Kinds
use Rattle.planner_cli_stream.specs.declared.blocks.Ending.{Ending}
use Rattle.planner_cli_stream.specs.declared.blocks.Ending.TheVariants as Endings
use Rattle.planner_cli_stream.specs.declared.pages.Held.{Held}
use Rattle.planner_cli_stream.specs.declared.pages.Held.TheVariants as Helds
use Rattle.planner_cli_stream.proofs.Kept.{take_short, take_parts}
use Rattle.planner_cli_stream.proofs.Text.{Holds, holds_front, raw_lines-first, ends_data-held, opens_data-held, kind_of-held}
use Rattle.planner_cli_stream.proofs.Text.{statement-held, le_or_lt}

-- a line of data that ends them
before_end-ends : (raw : List ℕ) (rest : List (List ℕ)) → ends_data (line_of raw) ≡ true
    → bytes_before_end (raw ∷ rest) ≡ Some []
unfolding bytes_before_end
before_end-ends raw rest e =
    ap (λ b. if b then Some [] else option_map (λ bytes. raw ++ bytes) (bytes_before_end rest)) e

-- and one that doesn't
before_end-more : (raw : List ℕ) (rest : List (List ℕ)) → ends_data (line_of raw) ≡ false
    → bytes_before_end (raw ∷ rest) ≡ option_map (λ bytes. raw ++ bytes) (bytes_before_end rest)
unfolding bytes_before_end
before_end-more raw rest e =
    ap (λ b. if b then Some [] else option_map (λ bytes. raw ++ bytes) (bytes_before_end rest)) e

items-in_data : (raw : List ℕ) (rest : List (List ℕ)) (b : Bool) → ends_data (line_of raw) ≡ b
    → items_of_lines true (raw ∷ rest) ≡ items_of_lines (not b) rest
unfolding items_of_lines
items-in_data raw rest b e = ap (λ t. items_of_lines (not t) rest) e

-- bytes that come in two parts before the end
option_map-parts : (xs ys : List ℕ) (o : Option (List ℕ))
    → option_map (λ b. xs ++ b) (option_map (λ b. ys ++ b) o) ≡ option_map (λ b. (xs ++ ys) ++ b) o
option_map-parts xs ys None = refl
option_map-parts xs ys (Some b) = ap Some (sym (append_assoc xs ys b))

option_map-nothing : (o : Option (List ℕ)) → o ≡ option_map (λ b. [] ++ b) o
option_map-nothing None = refl
option_map-nothing (Some b) = refl

-- past its first line a text is shorter, if it has a byte
pub drop_through_shorter : (xs : List ℕ) → length (drop_through 10 xs) ≤ length xs - 1
drop_through_shorter [] = omega arith
drop_through_shorter (x ∷ xs) = at (x == 10) (drop_through_shorter xs)
  where
    at : (b : Bool) → length (drop_through 10 xs) ≤ length xs - 1
        → length (if b then xs else drop_through 10 xs) ≤ length (x ∷ xs) - 1
    at true h = omega arith
    at false h = omega arith

-- how far data have been read: `seen` are their bytes so far, of which `held` are kept
pub record Reading (xs : List ℕ) (now : Option (List ℕ)) (held : List ℕ) : Type 0 where
  pub seen : List ℕ
  pub left : List ℕ
  pub now_is : now ≡ Some left
  pub held_is : held ≡ take block_room seen
  pub block : bytes_before_end (raw_lines xs) ≡ option_map (λ b. seen ++ b) (bytes_before_end (raw_lines left))
  pub items : items_of_lines true (raw_lines xs) ≡ items_of_lines true (raw_lines left)
  pub shorter : length left ≤ length xs

pub reading_starts : (a : Option (List ℕ)) (held : List ℕ) → held ≡ [] → IfSome a (λ xs. Reading xs a held)
reading_starts None held e = tt
reading_starts (Some xs) held e =
    record {
      seen = [];
      left = xs;
      now_is = refl;
      held_is = e ∙ sym (take_short block_room [] (omega arith));
      block = option_map-nothing _;
      items = refl;
      shorter = omega arith;
    }

-- what is known of a line whose front of so many bytes is held
pub record FrontLine (room : ℕ) (zs : List ℕ) (line : List ℕ) : Type 0 where
  pub some : 0 < length zs
  pub line_is : line ≡ line_of (take room (take_through 10 zs))

pub front_line : (b : Option (List ℕ)) (room : ℕ) (any : Bool) (old head line : List ℕ) → any ≡ true → old ≡ []
    → IfSome b (λ zs. IsTrue any ↔ (0 < length zs))
    → IfSome b (λ zs. head ≡ kept room old (take_through 10 zs)) → line ≡ line_of head
    → IfSome b (λ zs. FrontLine room zs line)
front_line None room any old head line met clear some kept_is trimmed = tt
front_line (Some zs) room any old head line met clear some kept_is trimmed =
    record {
      some = some.0 met;
      line_is =
          trimmed
          ∙ ap line_of
          (kept_is ∙ ap (λ l. kept room l (take_through 10 zs)) clear
          ∙ ap (λ n. take n (take_through 10 zs)) {x = room - 0} {y = room} (omega arith));
    }

ends_as_held : (zs line : List ℕ) (b : Bool) → FrontLine end_room zs line → ends_data line ≡ b
    → ends_data (line_of (take_through 10 zs)) ≡ b
ends_as_held zs line b d e = sym (ends_data-held _ _ (holds_front 2 zs)) ∙ sym (ap ends_data d.line_is) ∙ e

pub reading_on : (xs : List ℕ) (b c : Option (List ℕ)) (held held' line : List ℕ) → Reading xs b held
    → IfSome b (λ zs. FrontLine end_room zs line)
    → IfSome b (λ zs. held' ≡ kept block_room held (take_through 10 zs)) → DropsThrough b c 10 → ends_data line ≡ false
    → Reading xs c held'
reading_on xs b c held held' line r here grown rest e =
    let zs = r.left in
    let raw = take_through 10 zs in
    let d : FrontLine end_room zs line = subst (λ o. IfSome o (λ ys. FrontLine end_room ys line)) r.now_is here in
    let lines = raw_lines-first zs d.some in
    let more = ends_as_held zs line false d e in
    record {
      seen = r.seen ++ raw;
      left = drop_through 10 zs;
      now_is = subst (λ o. IfSome o (λ ys. c ≡ Some (drop_through 10 ys))) r.now_is rest;
      held_is = subst (λ o. IfSome o (λ ys. held' ≡ kept block_room held (take_through 10 ys))) r.now_is grown
          ∙ ap (λ h. kept block_room h raw) r.held_is ∙ sym (take_parts block_room r.seen raw);
      block =
          r.block ∙ ap (option_map (λ b. r.seen ++ b)) (ap bytes_before_end lines ∙ before_end-more _ _ more)
          ∙ option_map-parts r.seen raw _;
      items = r.items ∙ ap (items_of_lines true) lines ∙ items-in_data _ _ false more;
      shorter = omega (arith, r.shorter, drop_through_shorter zs);
    }

-- what a front of one byte more than n tells of all bytes
whole_or_long : (n : ℕ) (seen held : List ℕ) → held ≡ take (n + 1) seen
    → (if nat_le (length seen) n then Whole seen else TooLong)
    ≡ block_held (if nat_le (length held) n then Endings.Whole else Endings.TooLong) held
whole_or_long n seen held h = elim (le_or_lt (length seen) n) [
  | inl short ↦
      let same : held ≡ seen = h ∙ take_short (n + 1) seen (omega arith) in
      subst
      (λ l. (if nat_le (length seen) n then Whole seen else TooLong)
      ≡ block_held (if nat_le (length l) n then Endings.Whole else Endings.TooLong) l)
      (sym same) (alike (nat_le (length seen) n))
  | inr long ↦
      let size : length held ≡ n + 1 = ap length h ∙ length-take-le (n + 1) seen (omega arith) in
      let over : nat_le (length held) n ≡ false = lt-leb (length held) n (omega arith) in
      ap (λ b. if b then Whole seen else TooLong) (lt-leb (length seen) n long)
      ∙ sym (ap (λ b. block_held (if b then Endings.Whole else Endings.TooLong) held) over)
]
  where
    alike : (b : Bool)
        → (if b then Whole seen else TooLong) ≡ block_held (if b then Endings.Whole else Endings.TooLong) seen
    alike true = refl
    alike false = refl

block_of-some : (seen : List ℕ)
    → block_of (Some seen) ≡ (if nat_le (length seen) longest_block then Whole seen else TooLong)
unfolding block_of
block_of-some seen = refl

items_of-lines : (ys : List ℕ) → items_of_lines false (raw_lines ys) ≡ items_of ys
unfolding items_of
items_of-lines ys = refl

pub reading_ends : (xs : List ℕ) (b c : Option (List ℕ)) (held held' line : List ℕ) → Reading xs b held
    → IfSome b (λ zs. FrontLine end_room zs line)
    → IfSome b (λ zs. held' ≡ kept block_room held (take_through 10 zs)) → DropsThrough b c 10 → ends_data line ≡ true
    → BlockRead xs (ending_of (length held)) (take (length held) held') c
reading_ends xs b c held held' line r here grown rest e =
    let zs = r.left in
    let raw = take_through 10 zs in
    let d : FrontLine end_room zs line = subst (λ o. IfSome o (λ ys. FrontLine end_room ys line)) r.now_is here in
    let lines = raw_lines-first zs d.some in
    let last = ends_as_held zs line true d e in
    let grown' : held' ≡ kept block_room held raw =
    subst (λ o. IfSome o (λ ys. held' ≡ kept block_room held (take_through 10 ys))) r.now_is grown in
    let back : take (length held) held' ≡ held = ap (take (length held)) grown' ∙ take-append_seam held _ in
    let before : bytes_before_end (raw_lines xs) ≡ Some r.seen =
    r.block ∙ ap (option_map (λ bs. r.seen ++ bs)) (ap bytes_before_end lines ∙ before_end-ends _ _ last)
    ∙ ap Some (append-nil r.seen) in
    record {
      left = drop_through 10 zs;
      rest_is = subst (λ o. IfSome o (λ ys. c ≡ Some (drop_through 10 ys))) r.now_is rest;
      block =
          ap block_of before ∙ block_of-some r.seen ∙ whole_or_long longest_block r.seen held r.held_is
          ∙ ap (block_held (ending_of (length held))) (sym back);
      items = r.items ∙ ap (items_of_lines true) lines ∙ items-in_data _ _ true last ∙ items_of-lines _;
      shorter = omega (arith, r.shorter, drop_through_shorter zs);
    }

no_end : block_of (bytes_before_end (raw_lines [])) ≡ Unended
unfolding block_of bytes_before_end raw_lines
no_end = refl

no_items : (b : Bool) → items_of_lines b (raw_lines []) ≡ []
unfolding items_of_lines raw_lines
no_items b = refl

pub items_of-nil : items_of [] ≡ []
items_of-nil = sym (items_of-lines []) ∙ no_items false

no_block : bytes_before_end (raw_lines []) ≡ None
unfolding bytes_before_end raw_lines
no_block = refl

-- the text has no byte where a read of a line found none
nothing_left : (zs : List ℕ) (any : Bool) → (IsTrue any ↔ (0 < length zs)) → any ≡ false → zs ≡ []
nothing_left [] any h e = refl
nothing_left (z ∷ zs) any h e = absurd (true≢false (sym (h.1 (omega arith)) ∙ e))

pub reading_missing : (xs : List ℕ) (b c : Option (List ℕ)) (held held' : List ℕ) (any : Bool) → Reading xs b held
    → IfSome b (λ zs. IsTrue any ↔ (0 < length zs)) → DropsThrough b c 10 → any ≡ false
    → BlockRead xs Endings.Unended held' c
reading_missing xs b c held held' any r some rest e =
    let zs = r.left in
    let none : zs ≡ [] =
    nothing_left zs any (subst (λ o. IfSome o (λ ys. IsTrue any ↔ (0 < length ys))) r.now_is some) e in
    let before : bytes_before_end (raw_lines xs) ≡ None =
    r.block ∙ ap (λ ys. option_map (λ bs. r.seen ++ bs) (bytes_before_end (raw_lines ys))) none
    ∙ ap (option_map (λ bs. r.seen ++ bs)) no_block in
    record {
      left = [];
      rest_is =
          subst (λ o. IfSome o (λ ys. c ≡ Some (drop_through 10 ys))) r.now_is rest
          ∙ ap (λ ys. Some (drop_through 10 ys)) none;
      block = ap block_of (before ∙ sym no_block) ∙ no_end;
      items =
          r.items ∙ ap (λ ys. items_of_lines true (raw_lines ys)) none ∙ no_items true ∙ sym (no_items false)
          ∙ items_of-lines [];
      shorter = omega arith;
    }

items_of-first : (xs : List ℕ) → 0 < length xs →
    let line = line_of (take_through 10 xs) in
    let rest = raw_lines (drop_through 10 xs) in
    items_of xs ≡ items_of_line (kind_of line) line rest ++ items_of_lines (opens_data line) rest
unfolding items_of items_of_lines
items_of-first xs some = ap (items_of_lines false) (raw_lines-first xs some)

statement-alone : (line : List ℕ) (rest : List (List ℕ)) → opens_data line ≡ false
    → statement_item line rest ≡ Alone line
unfolding statement_item
statement-alone line rest e = ap (λ b. if b then WithBlock line (block_of (bytes_before_end rest)) else Alone line) e

statement-data : (line : List ℕ) (rest : List (List ℕ)) → opens_data line ≡ true
    → statement_item line rest ≡ WithBlock line (block_of (bytes_before_end rest))
unfolding statement_item
statement-data line rest e = ap (λ b. if b then WithBlock line (block_of (bytes_before_end rest)) else Alone line) e

line-alone : (kind : LineKind) (held line block : List ℕ) (rest : List (List ℕ))
    → (kind ≡ Kinds.Statement → held ≡ line) → opens_data line ≡ false
    → items_of_line kind line rest ≡ listed (item_held (held_alone kind) held block)
unfolding items_of_line
line-alone Kinds.Skipped held line block rest whole e = refl
line-alone Kinds.NoStatement held line block rest whole e = refl
line-alone Kinds.Statement held line block rest whole e =
    ap (λ item. item ∷ []) (statement-alone line rest e ∙ ap Alone (sym (whole refl)))

line-data : (kind : LineKind) (held line block : List ℕ) (end : Ending) (rest : List (List ℕ))
    → (kind ≡ Kinds.Statement → held ≡ line) → opens_data line ≡ true
    → block_of (bytes_before_end rest) ≡ block_held end block
    → items_of_line kind line rest ≡ listed (item_held (held_with_data kind end) held block)
unfolding items_of_line
line-data Kinds.Skipped held line block end rest whole e b = refl
line-data Kinds.NoStatement held line block end rest whole e b = refl
line-data Kinds.Statement held line block end rest whole e b =
    ap (λ item. item ∷ [])
    (statement-data line rest e ∙ ap (WithBlock line) b
    ∙ ap (λ l. WithBlock l (block_held end block)) (sym (whole refl)))

-- no line: the text has ended
pub part_end : (a c : Option (List ℕ)) (any : Bool) → IfSome a (λ xs. IsTrue any ↔ (0 < length xs))
    → DropsThrough a c 10 → any ≡ false
    → IfSome a (λ xs. PartRead xs None c) × IfSome a (λ xs. xs ≡ [])
part_end None c any some rest e = (tt, tt)
part_end (Some xs) c any some rest e =
    let none = nothing_left xs any some e in (
      record {
        left = drop_through 10 xs;
        rest_is = rest;
        items = ap items_of none ∙ sym (ap (λ ys. items_of (drop_through 10 ys)) none);
        shorter = drop_through_shorter xs;
      },
      none,
    )

holds_line : (xs line : List ℕ) → FrontLine line_room xs line → Holds longest_line line (line_of (take_through 10 xs))
holds_line xs line h =
    subst (λ l. Holds longest_line l (line_of (take_through 10 xs))) (sym h.line_is) (holds_front longest_line xs)

pub part_alone : (a c : Option (List ℕ)) (line block : List ℕ) → IfSome a (λ xs. FrontLine line_room xs line)
    → DropsThrough a c 10 → opens_data line ≡ false
    → IfSome a (λ xs. PartRead xs (item_held (held_alone (kind_of line)) line block) c)
part_alone None c line block first rest e = tt
part_alone (Some xs) c line block first rest e =
    let whole = line_of (take_through 10 xs) in
    let later = raw_lines (drop_through 10 xs) in
    let one = λ (k : LineKind). listed (item_held (held_alone k) line block) in
    let h = holds_line xs line first in
    let closed : opens_data whole ≡ false = sym (opens_data-held line whole h) ∙ e in
    let found = line-alone (kind_of whole) line whole block later (statement-held line whole h) closed in
    record {
      left = drop_through 10 xs;
      rest_is = rest;
      items =
          items_of-first xs first.some
          ∙ ap (λ l. l ++ items_of_lines (opens_data whole) later) (found ∙ ap one (sym (kind_of-held line whole h)))
          ∙ ap (λ b. one (kind_of line) ++ items_of_lines b later) closed
          ∙ ap (λ l. one (kind_of line) ++ l) (items_of-lines (drop_through 10 xs));
      shorter = drop_through_shorter xs;
    }

pub part_with_data : (a b c : Option (List ℕ)) (line block : List ℕ) (end : Ending)
    → IfSome a (λ xs. FrontLine line_room xs line) → DropsThrough a b 10 → opens_data line ≡ true
    → IfSome b (λ zs. BlockRead zs end block c)
    → IfSome a (λ xs. PartRead xs (item_held (held_with_data (kind_of line) end) line block) c)
part_with_data None b c line block end first rest e read = tt
part_with_data (Some xs) b c line block end first rest e read =
    let whole = line_of (take_through 10 xs) in
    let later = raw_lines (drop_through 10 xs) in
    let one = λ (k : LineKind). listed (item_held (held_with_data k end) line block) in
    let h = holds_line xs line first in
    let opened : opens_data whole ≡ true = sym (opens_data-held line whole h) ∙ e in
    let data' = subst (λ o. IfSome o (λ zs. BlockRead zs end block c)) rest read in
    let found = line-data (kind_of whole) line whole block end later (statement-held line whole h) opened data'.block in
    record {
      left = data'.left;
      rest_is = data'.rest_is;
      items =
          items_of-first xs first.some
          ∙ ap (λ l. l ++ items_of_lines (opens_data whole) later) (found ∙ ap one (sym (kind_of-held line whole h)))
          ∙ ap (λ b. one (kind_of line) ++ items_of_lines b later) opened
          ∙ ap (λ l. one (kind_of line) ++ l) data'.items;
      shorter = omega (arith, data'.shorter, drop_through_shorter xs);
    }

-- ---- lines without an item before it

-- so far no item was met, and the reader has `left`
pub record Skipped (text : List ℕ) (now : Option (List ℕ)) : Type 0 where
  pub left : List ℕ
  pub now_is : now ≡ Some left
  pub items : items_of text ≡ items_of left

-- then an item
item_met : (text : List ℕ) (b c : Option (List ℕ)) (one : Item) → Skipped text b
    → IfSome b (λ zs. PartRead zs (Some one) c) → ItemRead text (Some one) c
item_met text b c one s read =
    let part = subst (λ o. IfSome o (λ zs. PartRead zs (Some one) c)) s.now_is read in
    (part.left, part.rest_is, s.items ∙ part.items)

-- or the end
end_met : (text : List ℕ) (b c : Option (List ℕ)) → Skipped text b → IfSome b (λ zs. PartRead zs None c)
    → IfSome b (λ zs. zs ≡ []) → ItemRead text None c
end_met text b c s read end =
    let part = subst (λ o. IfSome o (λ zs. PartRead zs None c)) s.now_is read in
    let none : s.left ≡ [] = subst (λ o. IfSome o (λ zs. zs ≡ [])) s.now_is end in
    let short : length part.left ≤ 0 = omega (arith, part.shorter, ap length none) in
    (s.items ∙ ap items_of none ∙ items_of-nil, part.rest_is ∙ ap Some (empty part.left short))
  where
    empty : (xs : List ℕ) → length xs ≤ 0 → xs ≡ []
    empty [] h = refl
    empty (x ∷ xs) h = absurd (omega arith)

-- what is held is no skipped line: an item was met, or the end
pub skipping_ends : (text : List ℕ) (b c : Option (List ℕ)) (held : Held) (line block : List ℕ) → held ≢ Helds.Skipped
    → Skipped text b
    → IfSome b (λ zs. PartRead zs (item_held held line block) c) → (held ≡ Helds.Nothing → IfSome b (λ zs. zs ≡ []))
    → ItemRead text (item_held held line block) c
skipping_ends text b c Helds.Nothing line block other s read end = end_met text b c s read (end refl)
skipping_ends text b c Helds.Skipped line block other s read end = absurd (other refl)
skipping_ends text b c Helds.NoStatement line block other s read end = item_met text b c _ s read
skipping_ends text b c Helds.Alone line block other s read end = item_met text b c _ s read
skipping_ends text b c (Helds.WithBlock ending) line block other s read end = item_met text b c _ s read
