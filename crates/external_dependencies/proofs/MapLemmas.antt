-- What is in a list whose items are mapped.
use Rattle.std.proofs.Common.{zero, suc, ◌≡◌, ◌↔◌, ℕ, List, [], ◌∷◌, map, refl, sym, ap, subst, arith}
use Rattle.std.specs.List.{Contains}
use Rattle.occurrences.specs.declared.row.Row.{Row}
use Rattle.external_dependencies.specs.Touch.{HasRowOf}

pub map_has : {X Y : Type 0} (f : X → Y) (xs : List X) (x : X) → Contains xs x → Contains (map f xs) (f x)
map_has f [] x (k, lt, at) = absurd (omega (arith, lt))
map_has f (first ∷ xs) x (zero, lt, at) = (zero, omega arith, ap f at)
map_has f (first ∷ xs) x (suc k, lt, at) =
    let (place, in_range, same) = map_has f xs x (k, omega arith, at) in
    (suc place, omega arith, same)

pub map_back : {X Y : Type 0} (f : X → Y) (xs : List X) (y : Y) → Contains (map f xs) y → (x : X) × Contains xs x
    × (f x ≡ y)
map_back f [] y (k, lt, at) = absurd (omega (arith, lt))
map_back f (first ∷ xs) y (zero, lt, at) = (first, (zero, omega arith, refl), at)
map_back f (first ∷ xs) y (suc k, lt, at) =
    let (x, (place, in_range, same), is) = map_back f xs y (k, omega arith, at) in
    (x, (suc place, omega arith, same), is)

-- the serials of rows
pub serials_are : (rows : List Row) (serials : List ℕ) → serials ≡ map (λ (row : Row). row.serial) rows → (serial : ℕ)
    → Contains serials serial ↔ HasRowOf rows serial
serials_are rows serials are serial = (
  (λ there. map_back (λ (row : Row). row.serial) rows serial (subst (λ ns. Contains ns serial) are there)),
  λ (row, there, same). subst (λ ns. Contains ns serial) (sym are)
      (subst (Contains (map (λ (r : Row). r.serial) rows)) same (map_has (λ (r : Row). r.serial) rows row there)),
)
