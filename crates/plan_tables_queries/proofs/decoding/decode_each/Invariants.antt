use Rattle.std.proofs.Common.{◌≡◌, map, take}
use Rattle.plan_tables_queries.proofs.decoding.decode_each.Given as goal

abbrev pub invariant-loop-row : goal.invariant-loop-row
invariant-loop-row g l = map g.X.Decode.values l.xs.items ≡ take l.row-index l.rows
