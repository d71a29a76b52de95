-- The replies to an item, and what they print.
use Rattle.std.specs.Prelude.{◌≡◌, ℕ, List, [], ◌∷◌, ◌++◌, Bool, not, codes, nat_eq, flat_map}
use Rattle.std.specs.List.{starts_with}

-- a reply: the rows that are printed first, and its reply line, each without its line feed
pub record AnswerLines : Type 0 where
  pub rows : List (List ℕ)
  pub line : List ℕ

unfoldable pub is_accepted : AnswerLines → Bool
is_accepted reply = starts_with nat_eq reply.line (codes "ok")

unfoldable pub is_refused : AnswerLines → Bool
is_refused reply = starts_with nat_eq reply.line (codes "refused")

unfoldable pub ended : List ℕ → List ℕ
ended line = line ++ 10 ∷ []

-- the bytes of one answer
unfoldable pub printed : AnswerLines → List ℕ
printed reply = flat_map ended reply.rows ++ ended reply.line

-- the bytes of all answers, one after the other
unfoldable pub prints : List AnswerLines → List ℕ
prints replies = flat_map printed replies

-- these bytes are what the reply prints, and this is whether it is accepted
pub record Prints (reply : AnswerLines) (text : List ℕ) (accepted : Bool) : Type 0 where
  pub text_is : text ≡ printed reply
  pub accepted_is : accepted ≡ is_accepted reply
  pub refused_is : not accepted ≡ is_refused reply

-- what a step returns: a reply that it may give, with what is known after it, and the bytes that the reply prints
pub record Answered {S : Type 0} (Gives : AnswerLines → S → Type 0) (after : S)
    (text : List ℕ) (accepted : Bool) : Type 0 where
  pub reply : AnswerLines
  pub gives : Gives reply after
  pub prints : Prints reply text accepted
