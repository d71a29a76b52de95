use Rattle.std.proofs.Common.{inl}
use Rattle.plan_store_pairs.proofs.touches.touch_of_rows.Goals as goal

pub returns-clause-touched : goal.returns-clause-touched
returns-clause-touched c links = record {
  comes = c.in_ok-from_slice.ensures.items;
  goes = c.in_ok-from_slice-2.ensures.items;
  none_opened = c.new.ensures.items;
  lists = λ app. inl (λ predecessor within. ((λ there. there), λ there. there));
}
