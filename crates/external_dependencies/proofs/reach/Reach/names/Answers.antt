use Rattle.std.proofs.Common.{◌↔◌, ℕ, List, IsTrue, inl, inr, sym, subst, ◌∙◌}
use Rattle.std.specs.List.{Contains}
use Rattle.std.proofs.lemmas.Bool.{false≢true}
use Rattle.std.specs.Cmp.Lexicographic.{slice_cmp}
use Rattle.std.specs.Ordering.{nat_cmp}
use Rattle.external_dependencies.specs.Rising.{IsRising}
use Rattle.external_dependencies.proofs.reach.Reach.names.Goals as goal

pub returns-then-has_serial : goal.returns-then-has_serial
returns-then-has_serial c touch is = (
  (λ yes. inl ((is.serials c.args.row.now.serial).0 (tells.0 yes))),
  λ _. c.if-has_serial.true,
)
  where
    tells : IsTrue c.has_serial.result ↔ Contains c.args.self.now.serials.items c.args.row.now.serial
    tells = subst (λ (xs : List ℕ). IsRising nat_cmp xs → IsTrue c.has_serial.result
        ↔ Contains xs c.args.row.now.serial) c.deref.ensures.value c.has_serial.ensures is.serials_rise

pub returns-else-has_serial : goal.returns-else-has_serial
returns-else-has_serial c touch is = (
  (λ yes. inr ((is.lists c.args.row.now.key.app).0 (listed.0 yes))),
  λ named. elim named [
    | inl anew ↦ absurd (false≢true (sym c.if-has_serial.false
        ∙ tells.1 ((is.serials c.args.row.now.serial).1 anew)))
    | inr changed ↦ listed.1 ((is.lists c.args.row.now.key.app).1 changed)
  ],
)
  where
    tells : IsTrue c.has_serial.result ↔ Contains c.args.self.now.serials.items c.args.row.now.serial
    tells = subst (λ (xs : List ℕ). IsRising nat_cmp xs → IsTrue c.has_serial.result
        ↔ Contains xs c.args.row.now.serial) c.deref.ensures.value c.has_serial.ensures is.serials_rise

    listed : IsTrue c.has_app.result ↔ Contains c.args.self.now.lists.items c.args.row.now.key.app
    listed = subst (λ (xs : List (List ℕ)). IsRising (slice_cmp nat_cmp) xs → IsTrue c.has_app.result
        ↔ Contains xs c.args.row.now.key.app) c.deref-else-has_serial.ensures.value c.has_app.ensures is.lists_rise
