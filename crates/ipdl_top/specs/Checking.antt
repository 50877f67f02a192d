-- The request `check`: which documents it refuses, and what it answers to the others.
use Rattle.std.specs.Prelude.{◌≡◌, ℕ, List, Some}
use Rattle.ipdl_forms.specs.Documents.{Document}
use Rattle.ipdl_top.specs.Chains.{proved_text}
use Rattle.ipdl_top.specs.Scripts.{script_refusal, IsProvedDocument, HasShortChains}
use Rattle.ipdl_top.specs.Statuses.{Refusal}
use Rattle.ipdl_top.specs.Typed.{IsTypedDocument}

-- a test of a theorem fails, and this is the first one
abbrev pub IsCheckRefusal : Document → Refusal → Type 0
IsCheckRefusal d r = script_refusal d ≡ Some r

-- all items are well typed, all theorems are proved by their scripts, and these are their chains
pub record IsCheckAnswer (d : Document) (text : List ℕ) : Type 0 where
  pub typed : IsTypedDocument d
  pub proved : IsProvedDocument d
  pub short : HasShortChains d
  pub written : text ≡ proved_text d
