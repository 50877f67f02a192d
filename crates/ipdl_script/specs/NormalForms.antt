-- The rules of normal forms: `shape` at a protocol and `tidy` at a reaction, whose right sides are the normal forms of their
-- left sides.
use Rattle.std.specs.Prelude.{◌≡◌, Option, None}
use Rattle.ipdl_norm.specs.Repeated.{first_repeated_name}
use Rattle.ipdl_norm.specs.Shaped.{shaped}
use Rattle.ipdl_norm.specs.Tidied.{tidied}
use Rattle.ipdl_term.specs.Rules.{Rule}
use Rattle.ipdl_term.specs.Rules as R
use Rattle.ipdl_term.specs.Terms.{Protocol, Reaction}

-- the rule is `shape`, no name repeats in the first protocol, and the second one is its shape
abbrev pub IsShaping : Rule → (left right : Protocol) → Type 0
IsShaping R.shape left right = (first_repeated_name left ≡ None) × (right ≡ shaped left)
IsShaping _ _ _ = ⊥

-- the rule is `tidy`, and the second reaction is the tidy form of the first
abbrev pub IsTidying : Rule → (left right : Reaction) → Type 0
IsTidying R.tidy left right = right ≡ tidied left
IsTidying _ _ _ = ⊥
