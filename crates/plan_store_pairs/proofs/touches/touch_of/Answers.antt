use Rattle.plan_store_pairs.proofs.touches.touch_of.Goals as goal

pub returns : goal.returns
returns c =
    let rows = c.in_ok-touch.ensures.touched c.args.before.now.items in
    record { comes = rows.comes; goes = rows.goes; none_opened = rows.none_opened; lists = c.in_ok-touch-2.ensures }
