-- What a statement needs of the long-term plan that only makes rows: those from a moment on, and of each application the
-- last one before it.
use Rattle.std.specs.Prelude.{◌≡◌, ◌⊎◌, ℕ, ◌<◌, ◌≤◌, List, [], Contains}
use Rattle.occurrences.specs.declared.row.Row.{Row}
use Rattle.external_dependencies.specs.declared.touch.Touch.{Touch}

-- of the same application, before the moment too, and no earlier
pub record IsLaterBefore (moment : ℕ) (row b : Row) : Type 0 where
  pub app : b.key.app ≡ row.key.app
  pub before : b.key.ia < moment
  pub ia : row.key.ia ≤ b.key.ia
  pub serial : row.key.ia ≡ b.key.ia → row.serial ≤ b.serial

-- some of the rows: all that arrive at the moment or later, and one that is no earlier for each that arrives before it
pub record AreLater (rows : List Row) (moment : ℕ) (later : List Row) : Type 0 where
  pub stand : (row : Row) → Contains later row → Contains rows row
  pub late : (row : Row) → Contains rows row → moment ≤ row.key.ia → Contains later row
  pub last : (row : Row) → Contains rows row → row.key.ia < moment
      → (b : Row) × Contains later b × IsLaterBefore moment row b

-- no list changes, and what is made arrives at the moment or later
pub record MakesFrom (touch : Touch) (moment : ℕ) : Type 0 where
  pub lists : touch.lists.items ≡ []
  pub made : (row : Row) → Contains touch.made.items row → moment ≤ row.key.ia

-- the rows from the moment on are all that the touch reaches, if it withdraws and opens none
abbrev pub ReachesFrom : Touch → ℕ → Type 0
ReachesFrom touch moment = (moment ≡ 0) ⊎ MakesFrom touch moment

-- these of the rows are enough where this is touched
abbrev pub AreEnough : Touch → List Row → List Row → Type 0
AreEnough touch rows later = (moment : ℕ) × ReachesFrom touch moment × AreLater rows moment later
