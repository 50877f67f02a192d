-- When two protocols are equal.
use Rattle.std.specs.Prelude.{◌≡◌, ℕ, ◌≤◌, List}
use Rattle.ipdl_term.specs.Terms.{Channel, Protocol, Context}
use Rattle.ipdl_term.specs.Interpretations.{Signature, Interpretation, Interprets}
use Rattle.ipdl_term.specs.Protocols.{coins}
use Rattle.ipdl_term.specs.Typing.{Scope, Typed}
use Rattle.ipdl_term.specs.Contexts.{plugged, Closes}
use Rattle.ipdl_term.specs.Counts.{History, history_count}

-- typed alike, and under every interpretation and in every closing context each history comes on
-- equally many tapes that are long enough for both
pub record Equal (sig : Signature) (scope : Scope) (written : List Channel) (p q : Protocol) : Type 0 where
  pub left : Typed sig scope p written
  pub right : Typed sig scope q written
  pub counts : (J : Interpretation) → Interprets sig J → (C : Context) → Closes sig scope written C →
      (n : ℕ) → coins (plugged C p) ≤ n → coins (plugged C q) ≤ n →
      (h : History) → history_count J (plugged C p) n h ≡ history_count J (plugged C q) n h
