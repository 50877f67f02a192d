-- Terms as plain data. Every definition and law speaks of these; they hold no boxes.
use Rattle.std.specs.Prelude.{ℕ, Bool, List}

-- a value: a list of bits, the first on the left
abbrev pub Value : Type 0
Value = List Bool

-- a channel: the bytes of its name
abbrev pub Channel : Type 0
Channel = List ℕ

pub data Expression : Type 0 where
  literal : (bits : Value) → Expression
  variable : (number : ℕ) → Expression
  outer : (number : ℕ) → Expression
  application : (symbol : ℕ) → Expression → Expression
  exclusive : Expression → Expression → Expression
  conjunction : Expression → Expression → Expression
  negation : Expression → Expression
  concatenation : Expression → Expression → Expression
  segment : (from count : ℕ) → Expression → Expression
  equality : Expression → Expression → Expression
  selection : Expression → Expression → Expression → Expression

pub data Reaction : Type 0 where
  returning : Expression → Reaction
  flipping : (width : ℕ) → Reaction
  reading : (channel : Channel) → Reaction
  branching : Expression → Reaction → Reaction → Reaction
  binding : (width : ℕ) → Reaction → Reaction → Reaction

pub data Protocol : Type 0 where
  nil : Protocol
  assignment : (channel : Channel) → Reaction → Protocol
  parallel : Protocol → Protocol → Protocol
  hiding : (channel : Channel) → (width : ℕ) → Protocol → Protocol

-- a protocol with one hole in it
pub data Context : Type 0 where
  hole : Context
  in_left : Context → Protocol → Context
  in_right : Protocol → Context → Context
  in_hiding : (channel : Channel) → (width : ℕ) → Context → Context

-- a term of one of the three kinds
pub data Term : Type 0 where
  protocol_term : Protocol → Term
  reaction_term : Reaction → Term
  expression_term : Expression → Term
