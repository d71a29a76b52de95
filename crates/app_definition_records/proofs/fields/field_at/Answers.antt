use Rattle.std.proofs.Common.{◌≡◌, ◌∙◌, ap, refl, List, [], ◌∷◌, ℕ, zero, suc, Bor, Option, Some, None}
use Rattle.std.specs.Prelude.{unwrap_or, option_map}
use Rattle.csv.specs.Records.{field_at, fields_of}
use Rattle.app_definition_records.specs.Fields.{field}
use Rattle.app_definition_records.proofs.fields.field_at.Goals as goal

-- the field that a record has at a place, or no bytes
or_empty : (fields : List (List ℕ)) (place : ℕ) → unwrap_or (field_at fields place) [] ≡ field fields place
unfolding field_at
or_empty [] place = refl
or_empty (f ∷ fs) zero = refl
or_empty (f ∷ fs) (suc place) = or_empty fs place

-- what a reference shows, or the bytes of the other
shown : (o : Option (Bor (List ℕ))) (d r : Bor (List ℕ)) → r ≡ unwrap_or o d
    → r.now ≡ unwrap_or (option_map (λ s. s.now) o) d.now
shown None d r e = ap (λ s. s.now) e
shown (Some x) d r e = ap (λ s. s.now) e

pub returns : goal.returns
returns c = shown c.get.result _ _ c.unwrap_or.ensures ∙ ap (λ o. unwrap_or o []) c.get.ensures.value
    ∙ or_empty (fields_of c.args.row.now) c.args.place
