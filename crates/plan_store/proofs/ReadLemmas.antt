-- Keys that compare as equal, and what is kept of a row.
use Rattle.std.proofs.Common.{◌≡◌, ◌≢◌, ◌∙◌, ◌&&◌, Bool, true, false, Some, None, refl, sym, ap}
use Rattle.std.specs.Prelude.{if◌then◌else◌, is_some, nat_eq}
use Rattle.std.specs.Cmp.Lexicographic.{bytes_decides, pointwise}
use Rattle.std.proofs.lemmas.Bool.{and_from, and_parts, eq-eqb, eqb-true, false≢true}
use Rattle.occurrences.specs.Key.{key_eq}
use Rattle.occurrences.specs.declared.key.Key.{Key}
use Rattle.occurrences.proofs.KeyLemmas.{key_other, key_same}

-- keys that compare as equal, or as unequal
same_keys : (a b : Key) (r : Bool) → r ≡ (nat_eq a.ia b.ia && pointwise nat_eq a.app b.app) → r ≡ true → a ≡ b
same_keys a b r is equal =
    let both = and_parts (nat_eq a.ia b.ia) (pointwise nat_eq a.app b.app) (sym is ∙ equal) in
    let ia : a.ia ≡ b.ia = eqb-true a.ia b.ia both.0 in
    let app : a.app ≡ b.app = (bytes_decides a.app b.app).0 both.1 in
    λ i. record { ia = ia i; app = app i }

other_keys : (a b : Key) (r : Bool) → r ≡ (nat_eq a.ia b.ia && pointwise nat_eq a.app b.app) → r ≡ false → a ≢ b
other_keys a b r is unequal same = false≢true (sym unequal ∙ is
    ∙ and_from (nat_eq a.ia b.ia) (pointwise nat_eq a.app b.app) (eq-eqb a.ia b.ia (ap (λ (k : Key). k.ia) same)) ((bytes_decides a.app b.app).1 (ap (λ (k : Key). k.app) same)))

pub keys_test : (a b : Key) (r : Bool) → r ≡ (nat_eq a.ia b.ia && pointwise nat_eq a.app b.app) → r ≡ key_eq a b
keys_test a b true is = sym (key_same a b (same_keys a b true is refl))
keys_test a b false is = sym (key_other a b (other_keys a b false is refl))

-- what is kept of a row tells whether it passes
pub some_kept : {X : Type 0} (b : Bool) (x : X) → b ≡ is_some (if b then Some x else None)
some_kept true x = refl
some_kept false x = refl
