-- What a step adds to a trail: further whole terms, each with its mark. And which settings the calls take.
use Rattle.std.specs.Prelude.{◌≡◌, ℕ, List, [], ◌∷◌, ◌++◌, length, All, Option, Some}
use Rattle.ipdl_chain.specs.Chains.{Chain, last_of}
use Rattle.ipdl_chain.specs.Views.{IsMarkWithin, links_of}
use Rattle.ipdl_chain.specs.declared.chain.Mark.{Mark as HeldMark}
use Rattle.ipdl_embed.specs.Pairs.{Pairs}
use Rattle.ipdl_forms.specs.Lookups.{protocol_named}
use Rattle.ipdl_forms.specs.declared.document.Document.{Document}
use Rattle.ipdl_forms.specs.declared.document.ProtocolItem.{ProtocolItem}
use Rattle.ipdl_script.specs.Fitting.{WholeFits}
use Rattle.ipdl_script.specs.Scripts.{links_of_step}
use Rattle.ipdl_script.specs.Steps.{Setting, Refusal, after_step, extent_tests, further_terms, type_test}
use Rattle.ipdl_script.specs.declared.setting.Setting.{Setting as HeldSetting}
use Rattle.ipdl_term.specs.Contexts.{plugged}
use Rattle.ipdl_term.specs.Renaming.{renamed, renaming_of}
use Rattle.ipdl_term.specs.Steps.{Step}
use Rattle.ipdl_term.specs.Terms.{Protocol, Context}
use Rattle.ipdl_term.specs.Views.{protocol_of}
use Rattle.ipdl_term.specs.Within.{IsProtocolWithin}
use Rattle.ipdl_term.specs.declared.protocol.Proto.{Proto}
use Rattle.ipdl_uses.specs.Lemmas.{right_of}
use Rattle.ipdl_uses.specs.Uses.{Use}
use Rattle.ipdl_uses.specs.Views.{IsKept}

-- These terms and marks are the links of the step from the whole term before it. All can be printed, and the last term,
-- to which the step leads, fits.
pub record IsAdded (x : Setting) (before : Protocol) (step : Step) (further : List Proto) (by : List HeldMark) : Type 0 where
  pub paired : length further ≡ length by
  pub links : links_of by further ≡ links_of_step x before step (after_step x before step)
  pub leads : last_of before (links_of by further) ≡ after_step x before step
  pub end : WholeFits x (after_step x before step)
  pub terms : All (λ term. IsProtocolWithin (length x.sig) (protocol_of term)) further
  pub marks : All (λ mark. IsMarkWithin (length x.sig) mark) by

-- The symbols are those of the document, whose protocols can be printed, and so can the earlier chains.
pub record IsKeptSetting (setting : HeldSetting) : Type 0 where
  pub symbols : setting.sig.now ≡ setting.document.now.sig
  pub bodies : (name : List ℕ) (p : ProtocolItem) → protocol_named setting.document.now.items name ≡ Some p → IsProtocolWithin (length setting.sig.now) (protocol_of p.body)
  pub kept : All (IsKept (length setting.sig.now)) setting.chains.now

-- the protocols of a document can be printed
abbrev pub HasKeptBodies : Document → Type 0
HasKeptBodies document =
    (name : List ℕ) (p : ProtocolItem) → protocol_named document.items name ≡ Some p → IsProtocolWithin (length document.sig) (protocol_of p.body)

-- ---- what a use adds

-- the use of the name at the place, with this context around it
abbrev pub use_in : Context → (name place : List ℕ) → Pairs → Use
use_in C name place pairs = record { name = name; place = place; around = C; pairs = pairs }

-- the whole term of a protocol in the new names
abbrev pub whole_in : Context → Pairs → Proto → Protocol
whole_in C pairs term = plugged C (renamed (renaming_of pairs) (protocol_of term))

-- the last of some terms, or the one before them where there is none
abbrev pub last_among : Protocol → List Protocol → Protocol
last_among before [] = before
last_among before (term ∷ terms) = last_among term terms

-- the tests of the terms that a chain adds
abbrev pub added_tests : Setting → Chain → List (Option Refusal)
added_tests x chain = extent_tests (further_terms chain) ++ type_test x (right_of chain) ∷ []

-- These terms and marks are the links of the chain. All can be printed, and the last term fits.
pub record AreLinksOf (x : Setting) (before : Protocol) (chain : Chain) (further : List Proto) (by : List HeldMark) : Type 0 where
  pub paired : length further ≡ length by
  pub links : links_of by further ≡ chain.links
  pub leads : last_of before (links_of by further) ≡ right_of chain
  pub end : WholeFits x (right_of chain)
  pub terms : All (λ term. IsProtocolWithin (length x.sig) (protocol_of term)) further
  pub marks : All (λ mark. IsMarkWithin (length x.sig) mark) by
