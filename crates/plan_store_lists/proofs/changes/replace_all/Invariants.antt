use Rattle.std.proofs.Common.{◌≡◌, ◌⊎◌, ◌↔◌, take, vec_len, vec_capacity}
use Rattle.std.specs.List.{Contains}
use Rattle.plan_store_lists.specs.Keyed.{IsKeyed, HasKey, LacksKey}
use Rattle.plan_store_lists.proofs.changes.replace_all.Given as goal

-- the first items are written, and the list has its keys
abbrev pub invariant-loop-item : goal.invariant-loop-item
invariant-loop-item g l = record {
  length : vec_len l.list ≡ vec_len l.fn.list;
  capacity : vec_capacity l.list ≡ vec_capacity l.fn.list;
  keyed : IsKeyed g.T.Key.Ord.cmp g.T.Keyed.key_of l.list.items;
  has : (k : g.row.T-Key.Denot) → HasKey g.T.Keyed.key_of l.fn.list.items k → HasKey g.T.Keyed.key_of l.list.items k;
  replaced : (x : g.row.T.Denot) → Contains l.list.items x ↔ (Contains (take l.item-index l.items) x
      ⊎ (Contains l.fn.list.items x × LacksKey g.T.Keyed.key_of (take l.item-index l.items) (g.T.Keyed.key_of x)));
}
