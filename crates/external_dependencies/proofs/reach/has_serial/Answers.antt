use Rattle.std.specs.Cmp.{nat_cmp_total}
use Rattle.std.specs.FinMap.{nat_cmp-IsAntisymmetric}
use Rattle.std.specs.Bool.{IsTrue}
use Rattle.std.proofs.Common.{◌↔◌, Contains, sym, subst}
use Rattle.external_dependencies.proofs.PlaceLemmas.{search_tells}
use Rattle.external_dependencies.proofs.reach.has_serial.Goals as goal

pub returns : goal.returns
returns c rising = subst (λ b. IsTrue b ↔ Contains c.args.serials.now c.args.serial) (sym c.is_ok.ensures.value)
    (search_tells nat_cmp_total nat_cmp-IsAntisymmetric c.args.serials.now rising c.args.serial
    c.binary_search.result c.binary_search.ensures.bound c.binary_search.ensures.position)
