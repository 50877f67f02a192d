-- What the neighbours of a chain are to each other: equal, or one context around the two sides of an assumption.
use Rattle.std.specs.Prelude.{◌≡◌, ℕ, ◌<◌, ◌++◌, List, Option, Some}
use Rattle.std.specs.List.{AllByRecursion}
use Rattle.std.specs.Map.{keys_of}
use Rattle.ipdl_chain.specs.Chains.{Mark, by_rule, by_theorem, by_assumption, Link, Chain, EachTwo, count_of, terms_of}
use Rattle.ipdl_embed.specs.Completing.{channels_of}
use Rattle.ipdl_embed.specs.Pairs.{Pairs}
use Rattle.ipdl_term.specs.Contexts.{plugged}
use Rattle.ipdl_term.specs.Equality.{Equal}
use Rattle.ipdl_term.specs.Interpretations.{Signature}
use Rattle.ipdl_term.specs.Renaming.{CapturesNone, renamed, renaming_of}
use Rattle.ipdl_term.specs.Steps.{lr, rl}
use Rattle.ipdl_term.specs.Terms.{Protocol, Context}
use Rattle.ipdl_term.specs.Typing.{HasInterface, scope_of, port_names}
use Rattle.ipdl_term.specs.declared.interface.Interface.{Interface}

-- equal at an interface
abbrev pub AreEqualAt : Signature → Interface → Protocol → Protocol → Type 0
AreEqualAt sig i p q = Equal sig (scope_of (i.inputs ++ i.outputs)) (port_names i.outputs) p q

-- ---- assumptions

-- the interface of an assumption, and its two protocols
pub record Sides : Type 0 where
  pub interface : Interface
  pub left : Protocol
  pub right : Protocol

-- both protocols have the interface
pub record AreTypedSides (sig : Signature) (sides : Sides) : Type 0 where
  pub left : HasInterface sig sides.interface sides.left
  pub right : HasInterface sig sides.interface sides.right

-- The two protocols are one context around the two sides, under pairs for the channels of the interface, of whose new names
-- none is captured in a side.
pub record AreSidesIn (sides : Sides) (pairs : Pairs) (C : Context) (from to : Protocol) : Type 0 where
  pub named : keys_of pairs ≡ channels_of sides.interface
  pub left : from ≡ plugged C (renamed (renaming_of pairs) sides.left)
  pub right : to ≡ plugged C (renamed (renaming_of pairs) sides.right)
  pub none_left : CapturesNone (keys_of pairs) (renaming_of pairs) sides.left
  pub none_right : CapturesNone (keys_of pairs) (renaming_of pairs) sides.right

-- of the assumption of a name, whose two protocols have its interface
pub record IsAssumed (sig : Signature) (assumed : List ℕ → Option Sides) (name : List ℕ) (pairs : Pairs) (C : Context) (from to : Protocol) : Type 0 where
  pub sides : Sides
  pub there : assumed name ≡ Some sides
  pub typed : AreTypedSides sig sides
  pub around : AreSidesIn sides pairs C from to

-- ---- marks

-- what a mark means for its two neighbours, given the sides of each assumption
abbrev pub MeansMark : Signature → Interface → (assumed : List ℕ → Option Sides) → Mark → (upper lower : Protocol) → Type 0
MeansMark sig i assumed (by_rule direction word place) upper lower = AreEqualAt sig i upper lower
MeansMark sig i assumed (by_theorem direction name place pairs) upper lower = AreEqualAt sig i upper lower
MeansMark sig i assumed (by_assumption lr name place pairs C) upper lower = IsAssumed sig assumed name pairs C upper lower
MeansMark sig i assumed (by_assumption rl name place pairs C) upper lower = IsAssumed sig assumed name pairs C lower upper

-- each assumption that some links count has equal sides
abbrev pub AreTrue : Signature → (assumed : List ℕ → Option Sides) → List Link → Type 0
AreTrue sig assumed links =
    (name : List ℕ) (sides : Sides) → 0 < count_of name links → assumed name ≡ Some sides →
    AreEqualAt sig sides.interface sides.left sides.right

-- all that is known of a chain: its terms have the interface, its marks mean what they say, and where the assumptions that
-- it counts are true each two neighbours are equal
pub record ChainMeans (sig : Signature) (i : Interface) (assumed : List ℕ → Option Sides) (chain : Chain) : Type 0 where
  pub typed : AllByRecursion (HasInterface sig i) (terms_of chain)
  pub marks : EachTwo (MeansMark sig i assumed) chain.first chain.links
  pub equal : AreTrue sig assumed chain.links → EachTwo (λ mark. AreEqualAt sig i) chain.first chain.links
