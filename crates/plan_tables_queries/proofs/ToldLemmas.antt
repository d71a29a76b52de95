-- What a row tells is told by what was found in it.
use Rattle.std.proofs.Common.{◌≡◌, Option, None, Some, Result, Ok, Err, refl, subst, sym}
use Rattle.std.specs.Prelude.{IfErr, IfOk, IfSome}
use Rattle.sqlite.specs.Order.{Row}
use Rattle.plan_tables_queries.specs.Decoding.{TellsNone, told_by}
use Rattle.plan_tables_lookups.specs.declared.faults.TableFault.{TableFault}

found_is : {X E : Type 0} (values_of : X → Row) (row : Row) (found : Result (Option X) E)
    → IfOk found (λ f. IfSome f (λ x. values_of x ≡ row)) → IfOk (told_by found) (λ x. values_of x ≡ row)
found_is values_of row (Ok (Some x)) h = h
found_is values_of row (Ok None) h = tt
found_is values_of row (Err e) h = tt

pub row_told : {X E : Type 0} (values_of : X → Row) (row : Row) (found : Result (Option X) E) (result : Result X TableFault)
    → result ≡ told_by found → IfOk found (λ f. IfSome f (λ x. values_of x ≡ row)) → IfOk result (λ x. values_of x ≡ row)
row_told values_of row found result is h =
    subst (λ r. IfOk r (λ x. values_of x ≡ row)) (sym is) (found_is values_of row found h)

none_is : {X E : Type 0} (Is : X → Type 0) (values_of : X → Row) (row : Row) (found : Result (Option X) E)
    → IfOk found (λ f. f ≡ None → (x : X) → Is x → values_of x ≡ row → ⊥)
    → IfErr (told_by found) (TellsNone Is values_of row)
none_is Is values_of row (Ok (Some x)) h = tt
none_is Is values_of row (Ok None) h = h refl
none_is Is values_of row (Err e) h = tt

pub row_untold : {X E : Type 0} (Is : X → Type 0) (values_of : X → Row) (row : Row) (found : Result (Option X) E)
    (result : Result X TableFault) → result ≡ told_by found
    → IfOk found (λ f. f ≡ None → (x : X) → Is x → values_of x ≡ row → ⊥)
    → IfErr result (TellsNone Is values_of row)
row_untold Is values_of row found result is h =
    subst (λ r. IfErr r (TellsNone Is values_of row)) (sym is) (none_is Is values_of row found h)
