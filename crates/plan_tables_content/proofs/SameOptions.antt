-- What is told by its facts.
use Rattle.std.proofs.Common.{◌≡◌, ℕ, List, Option, Some, None, refl, sym, ap, ◌∙◌, subst}
use Rattle.std.specs.Prelude.{Contains}
use Rattle.std.specs.FinMap as maps
use Rattle.sqlite.specs.Order.{Row as Values}
use Rattle.app_definition_records.proofs.ByNameLemmas.{same_by_name}
use Rattle.plan_tables_content.specs.Content.{AreEach, ByName, IsOfSet, IsUnderOwn, IsOfList}

pub is_some : {X : Type 0} (a b : X) → Some a ≡ Some b → a ≡ b
is_some a b e = cc

pub none_some : {X : Type 0} {A : Type 0} (o : Option X) (x : X) → o ≡ None → o ≡ Some x → A
none_some o x e h = absurd (let k : ⊥ = cc in k)

pub same_options : {X : Type 0} (a b : Option X) → ((x : X) → a ≡ Some x → b ≡ Some x)
    → ((x : X) → b ≡ Some x → a ≡ Some x) → a ≡ b
same_options None None h k = refl
same_options None (Some y) h k = k y refl
same_options (Some x) b h k = sym (h x refl)

-- ---- sets, each element under its number

module _ {X : Type 0} (values_of : X → Values) (number_of : X → ℕ) (Is : X → Type 0)
    (own : (x y : X) → Is x → Is y → values_of x ≡ values_of y → x ≡ y) where
  abbrev AreSuch : (ℕ → Option X) → Type 0
  AreSuch f = (n : ℕ) (x : X) → f n ≡ Some x → Is x

  there : (f g : ℕ → Option X) → AreSuch f → AreSuch g → IsUnderOwn number_of f → IsUnderOwn number_of g
      → ((v : Values) → IsOfSet values_of f v → IsOfSet values_of g v) → (n : ℕ) (x : X) → f n ≡ Some x → g n ≡ Some x
  there f g good fine up vp into n x e =
      let (m, y, at, is) = into (values_of x) (n, x, e, refl) in
      let same : x ≡ y = own x y (good n x e) (fine m y at) is in
      let number : m ≡ n = sym (vp m y at) ∙ ap number_of (sym same) ∙ up n x e in
      ap g (sym number) ∙ at ∙ ap Some (sym same)

  pub one_such_set : (f g : ℕ → Option X) → AreSuch f → AreSuch g → IsUnderOwn number_of f → IsUnderOwn number_of g
      → ((v : Values) → IsOfSet values_of f v → IsOfSet values_of g v)
      → ((v : Values) → IsOfSet values_of g v → IsOfSet values_of f v) → f ≡ g
  one_such_set f g good fine up vp into back =
      λ i n. same_options (f n) (g n) (there f g good fine up vp into n) (there g f fine good vp up back n) i

pub one_set : {X : Type 0} (values_of : X → Values) (number_of : X → ℕ)
    → ((x y : X) → values_of x ≡ values_of y → x ≡ y) → (f g : ℕ → Option X) → IsUnderOwn number_of f
    → IsUnderOwn number_of g → ((v : Values) → IsOfSet values_of f v → IsOfSet values_of g v)
    → ((v : Values) → IsOfSet values_of g v → IsOfSet values_of f v) → f ≡ g
one_set values_of number_of own f g up vp into back =
    one_such_set values_of number_of (λ _. Unit {0}) (λ x y _ _ e. own x y e) f g (λ _ _ _. tt)
    (λ _ _ _. tt) up vp into back

-- ---- lists

module _ {X : Type 0} (values_of : X → Values) (own : (x y : X) → values_of x ≡ values_of y → x ≡ y) where
  pub has_same : (xs ys : List X) → ((v : Values) → IsOfList values_of xs v → IsOfList values_of ys v)
      → (x : X) → Contains xs x → Contains ys x
  has_same xs ys into x has =
      let (y, there, is) = into (values_of x) (x, has, refl) in
      subst (Contains ys) (sym (own x y is)) there

-- ---- definitions by name

module _ {D W : Type 0} (IsRow : List ℕ → D → W → Type 0) (name_in : W → List ℕ)
    (named : (name : List ℕ) (d : D) (w : W) → IsRow name d w → name_in w ≡ name)
    (Is : D → Type 0) (some : (name : List ℕ) (d : D) → Is d → (w : W) × IsRow name d w)
    (one : (name : List ℕ) (d e : D) → Is d → Is e → ((w : W) → IsRow name d w → IsRow name e w)
    → ((w : W) → IsRow name e w → IsRow name d w) → d ≡ e) where
  abbrev IsOf : ByName D → W → Type 0
  IsOf m w = (name : List ℕ) × (d : D) × (maps.get m name ≡ Some d) × IsRow name d w

  rows_go : (m n : ByName D) → ((w : W) → IsOf m w → IsOf n w) → (name : List ℕ) (d e : D)
      → maps.get m name ≡ Some d → maps.get n name ≡ Some e → (w : W) → IsRow name d w → IsRow name e w
  rows_go m n into name d e at there w is =
      let (name', d', at', is') = into w (name, d, at, is) in
      let same : name' ≡ name = sym (named name' d' w is') ∙ named name d w is in
      let first : IsRow name d' w = subst (λ q. IsRow q d' w) same is' in
      let got : maps.get n name ≡ Some d' = ap (maps.get n) (sym same) ∙ at' in
      let equal : d' ≡ e = is_some d' e (sym got ∙ there) in
      subst (λ z. IsRow name z w) equal first

  goes : (m n : ByName D) → AreEach Is m → AreEach Is n → ((w : W) → IsOf m w → IsOf n w)
      → ((w : W) → IsOf n w → IsOf m w) → (name : List ℕ) (d : D) → maps.get m name ≡ Some d
      → maps.get n name ≡ Some d
  goes m n good fine into back name d at =
      let (w, is) = some name d (good name d at) in
      let (name', e, at', is') = into w (name, d, at, is) in
      let same : name' ≡ name = sym (named name' e w is') ∙ named name d w is in
      let got : maps.get n name ≡ Some e = ap (maps.get n) (sym same) ∙ at' in
      let equal : d ≡ e = one name d e (good name d at) (fine name e got) (rows_go m n into name d e at got)
      (rows_go n m back name e d got at) in
      got ∙ ap Some (sym equal)

  pub one_by_name : (m n : ByName D) → AreEach Is m → AreEach Is n → ((w : W) → IsOf m w → IsOf n w)
      → ((w : W) → IsOf n w → IsOf m w) → m ≡ n
  one_by_name m n good fine into back = same_by_name m n (λ name. same_options (maps.get m name) (maps.get n name)
      (goes m n good fine into back name) (goes n m fine good back into name))
