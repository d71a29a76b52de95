-- The links of lists, block after block, on their way to a sink.
use Rattle.std.proofs.Common.{◌≡◌, ℕ, suc, ◌+◌, ◌<◌, List, [], ◌∷◌, ◌++◌, length, get_or, take, drop, map}
use Rattle.std.proofs.Common.{sym, ap, subst, ◌∙◌, append_assoc}
use Rattle.std.proofs.Math.Seq.{drop-cons}
use Rattle.std.proofs.lemmas.List.{length-append, map-append, take-append-drop}
use Rattle.external_dependencies.specs.declared.links.Link.{Link}
use Rattle.plan_store_lists.specs.Blocks.{items_in}
use Rattle.plan_store_lists.specs.declared.blocks.Block.{Block}
use Rattle.plan_store_lists.proofs.BlockLemmas.{items_append}
use Rattle.plan_store_lists.proofs.RunLemmas.{items_more}
use Rattle.plan_store.specs.Listed.{EndsWithin}
use Rattle.plan_store.specs.Listings.{AcceptsAll, EndsSo, Shown, in_force_shown}
use Rattle.plan_store.specs.declared.listings.ListFault.{ListFault}
use Rattle.plan_store.specs.declared.listings.ListFault.TheVariants as Faults

module _ {K : Type 0} (Accepts Refuses : K → Shown → K → Type 0) where
  -- the sink accepts some items, and then others
  takes_both : (old : K) (items : List Shown) (mid : K) (more : List Shown) (new : K) → AcceptsAll Accepts old items mid
      → AcceptsAll Accepts mid more new → AcceptsAll Accepts old (items ++ more) new
  takes_both old [] mid more new all rest = subst (λ k. AcceptsAll Accepts k more new) all rest
  takes_both old (item ∷ items) mid more new all rest =
      let (next, first, later) = all in
      (next, first, takes_both next items mid more new later rest)

  -- and where it accepts only the first of the others
  ends_on : (old : K) (items : List Shown) (mid : K) (done rest more : List Shown) (new : K) (fault : ListFault)
      → AcceptsAll Accepts old items mid → EndsSo Accepts Refuses mid done rest new fault
      → EndsSo Accepts Refuses old (items ++ done) (rest ++ more) new fault
  ends_on old items mid done rest more new Faults.Memory all ends = takes_both old items mid done new all ends
  ends_on old items mid done rest more new Faults.Device all ends = takes_both old items mid done new all ends
  ends_on old items mid done rest more new (Faults.Sink refused) all ends =
      let (last, item, later, is, taken, refuses) = ends in (
        last,
        item,
        later ++ more,
        ap (λ (l : List Shown). l ++ more) is,
        takes_both old items mid done last all taken,
        refuses,
      )

  module _ (blocks : List (Block (List ℕ) Link)) (index : ℕ) where
    abbrev front : List Link
    front = items_in (take index blocks)

    -- memory is refused before a block
    pub ends_before : (old new : K) → AcceptsAll Accepts old (map in_force_shown front) new
        → EndsWithin Accepts Refuses old (map in_force_shown (items_in blocks)) new Faults.Memory
    ends_before old new taken = record {
      done = map in_force_shown front;
      rest = map in_force_shown (items_in (drop index blocks));
      parts = ap (λ (bs : List (Block (List ℕ) Link)). map in_force_shown (items_in bs))
          (sym (take-append-drop index blocks))
          ∙ ap (map in_force_shown) (items_append (take index blocks) (drop index blocks))
          ∙ map-append in_force_shown front (items_in (drop index blocks));
      ends = taken;
    }

    module _ (block : Block (List ℕ) Link) (lt : index < length blocks) (at : block ≡ get_or blocks index block)
        (part : List Link) (is_part : part ≡ block.items.items) where
      abbrev after : List Link
      after = items_in (drop (suc index) blocks)

      around : items_in blocks ≡ front ++ (part ++ after)
      around = ap (λ (bs : List (Block (List ℕ) Link)). items_in bs) (sym (take-append-drop index blocks))
          ∙ items_append (take index blocks) (drop index blocks)
          ∙ ap (λ (bs : List (Block (List ℕ) Link)). front ++ items_in bs) (drop-cons blocks index block lt)
          ∙ ap (λ (b : Block (List ℕ) Link). front ++ (b.items.items ++ after)) (sym at)
          ∙ ap (λ (l : List Link). front ++ (l ++ after)) (sym is_part)

      -- one block more
      pub taken_more : (count sum : ℕ) → sum ≡ count + length part → (old mid new : K)
          → (count ≡ length front) × AcceptsAll Accepts old (map in_force_shown front) mid
          → AcceptsAll Accepts mid (map in_force_shown part) new
          → (sum ≡ length (items_in (take (index + 1) blocks)))
          × AcceptsAll Accepts old (map in_force_shown (items_in (take (index + 1) blocks))) new
      taken_more count sum is_sum old mid new has taken =
          let more : items_in (take (index + 1) blocks) ≡ front ++ part = items_more blocks index block lt at
          ∙ ap (λ (l : List Link). front ++ l) (sym is_part) in
          subst (λ (l : List Link). (sum ≡ length l) × AcceptsAll Accepts old (map in_force_shown l) new) (sym more) (
            is_sum ∙ ap (λ (n : ℕ). n + length part) has.0 ∙ sym (length-append front part),
            subst (λ (l : List Shown). AcceptsAll Accepts old l new) (sym (map-append in_force_shown front part))
                (takes_both old (map in_force_shown front) mid (map in_force_shown part) new has.1 taken),
          )

      -- the sink doesn't accept a whole block
      pub ends_in : (old mid new : K) (fault : ListFault) → AcceptsAll Accepts old (map in_force_shown front) mid
          → EndsWithin Accepts Refuses mid (map in_force_shown part) new fault
          → EndsWithin Accepts Refuses old (map in_force_shown (items_in blocks)) new fault
      ends_in old mid new fault taken h = record {
        done = map in_force_shown front ++ h.done;
        rest = h.rest ++ map in_force_shown after;
        parts = ap (map in_force_shown) around ∙ map-append in_force_shown front (part ++ after)
            ∙ ap (λ (l : List Shown). map in_force_shown front ++ l) (map-append in_force_shown part after
            ∙ ap (λ (l : List Shown). l ++ map in_force_shown after) h.parts
            ∙ append_assoc h.done h.rest (map in_force_shown after))
            ∙ sym (append_assoc (map in_force_shown front) h.done (h.rest ++ map in_force_shown after));
        ends = ends_on old (map in_force_shown front) mid h.done h.rest (map in_force_shown after) new fault taken h.ends;
      }
