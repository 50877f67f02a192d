-- Books of earlier chains, and which theorems are ready to be checked against one.
use Rattle.std.specs.Prelude.{◌≡◌, ℕ, ◌+◌, ◌≤◌, List, [], ◌∷◌, length, map, Some, All}
use Rattle.ipdl_base.specs.Limits.{limit_number}
use Rattle.ipdl_base.specs.declared.limit.Limit.TheVariants.{Chain as ChainLimit}
use Rattle.ipdl_chain.specs.Chains.{neighbour_count}
use Rattle.ipdl_chain.specs.Views.{chain_of}
use Rattle.ipdl_chain.specs.declared.chain.Chain.{Chain}
use Rattle.ipdl_forms.specs.Documents.{document_of}
use Rattle.ipdl_forms.specs.Lookups.{protocol_named}
use Rattle.ipdl_forms.specs.declared.document.Document.{Document}
use Rattle.ipdl_forms.specs.declared.document.ProtocolItem.{ProtocolItem}
use Rattle.ipdl_forms.specs.declared.document.TheoremItem.{TheoremItem}
use Rattle.ipdl_script.specs.Fitting.{StepFits}
use Rattle.ipdl_script.specs.Scripts.{Theorem}
use Rattle.ipdl_script.specs.Steps.{Setting, KeepsLimits}
use Rattle.ipdl_script.specs.Views.{proved_of}
use Rattle.ipdl_script.specs.declared.theorem.Book.{Book}
use Rattle.ipdl_term.specs.Steps.{step_of}
use Rattle.ipdl_term.specs.Terms.{Protocol}
use Rattle.ipdl_term.specs.Typing.{HasInterface}
use Rattle.ipdl_term.specs.Views.{protocol_of}
use Rattle.ipdl_term.specs.Within.{IsProtocolWithin}
use Rattle.ipdl_term.specs.declared.interface.Interface.{Interface}
use Rattle.ipdl_uses.specs.Views.{IsKept}
use Rattle.ipdl_typing.specs.Signatures.{signature_of}

-- the neighbours of some chains together
abbrev pub neighbours_in : List Chain → ℕ
neighbours_in [] = 0
neighbours_in (chain ∷ chains) = neighbour_count (chain_of chain).links + neighbours_in chains

-- the theorem between two protocols, as plain data
abbrev pub theorem_between : TheoremItem → (left right : Protocol) → Theorem
theorem_between theorem left right =
    record { left = left; right = right; lefts = map step_of theorem.left_steps; rights = map step_of theorem.right_steps }

-- what its steps are checked against: the document, these chains of earlier theorems, and the interface of its left protocol
abbrev pub setting_at : Document → List Chain → Interface → Setting
setting_at document chains interface =
    record {
      sig = signature_of document.sig;
      entries = (document_of document).entries;
      theorems = map proved_of chains;
      interface = interface;
    }

-- The sides of the theorem fit: both protocols have the interface of the setting within the limits, and so has each step.
pub record HasFitSides (x : Setting) (theorem : TheoremItem) (left right : Protocol) : Type 0 where
  pub left_limits : KeepsLimits left
  pub right_limits : KeepsLimits right
  pub left_typed : HasInterface x.sig x.interface left
  pub right_typed : HasInterface x.sig x.interface right
  pub left_steps : All (λ step. StepFits (step_of step)) theorem.left_steps
  pub right_steps : All (λ step. StepFits (step_of step)) theorem.right_steps

-- The document has both protocols, the sides fit, and the earlier chains are not too long together. The protocols of the
-- document and the earlier chains can be printed.
pub record IsReady (book : Book) (theorem : TheoremItem) : Type 0 where
  pub left : ProtocolItem
  pub right : ProtocolItem
  pub has_left : protocol_named book.document.now.items theorem.left ≡ Some left
  pub has_right : protocol_named book.document.now.items theorem.right ≡ Some right
  pub sides : HasFitSides (setting_at book.document.now book.chains left.interface) theorem (protocol_of left.body) (protocol_of right.body)
  pub short : neighbours_in book.chains ≤ limit_number ChainLimit
  pub bodies : (name : List ℕ) (p : ProtocolItem) → protocol_named book.document.now.items name ≡ Some p → IsProtocolWithin (length book.document.now.sig) (protocol_of p.body)
  pub kept : All (IsKept (length book.document.now.sig)) book.chains
