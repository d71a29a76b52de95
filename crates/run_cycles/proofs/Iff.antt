-- Steps between facts that say the same.
use Rattle.std.proofs.Common.{◌↔◌, List}
use Rattle.std.specs.Prelude.{Any}

pub and_so : (A B C : Type 0) → A ↔ B → B ↔ C → A ↔ C
and_so A B C p q = ((λ a. q.0 (p.0 a)), λ c. p.1 (q.1 c))

-- some element has Q where some element has P, which gives Q
pub Any-weaker : {X : Type 0} (P Q : X → Type 0) (xs : List X) → ((k : X) → P k → Q k) → Any P xs → Any Q xs
Any-weaker P Q xs gives h = (h.0, h.1, h.2, h.3, gives h.1 h.4)
