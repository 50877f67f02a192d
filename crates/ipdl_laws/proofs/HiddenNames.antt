-- Protocols that differ in the names of their hidden channels alone: each free channel stands for itself.
use Rattle.std.proofs.Common.{◌≡◌, Bool, List, [], ◌∷◌, refl, sym, ap, ap₂, ◌∙◌}
use mathlib.Core.Path.{fun_ext}
use Rattle.ipdl_term.specs.Channels.{same_channel, has, outputs}
use Rattle.ipdl_term.specs.Interpretations.{Signature, Interpretation}
use Rattle.ipdl_term.specs.Protocols.{protocol_valuation}
use Rattle.ipdl_term.specs.Terms.{Channel, Protocol}
use Rattle.ipdl_term.specs.Typing.{Scope, Typed}
use Rattle.ipdl_term.specs.Valuations.{Valuation}
use Rattle.ipdl_laws.specs.Alike.{Alike}
use Rattle.ipdl_laws.proofs.Pairings.{Pairing, IsOneToOne, SameNames}
use Rattle.ipdl_laws.proofs.Mirrors.{Mirrors, SameNames-outputs, coins-mirrored, protocol_valuation-mirrored, IsTyped-mirrored}
use Rattle.ipdl_laws.proofs.Structure.{alike_of_same_valuations}

-- each channel stands for itself
abbrev pub itself : Pairing
itself c c' = c ≡ c'

IsOneToOne-itself : IsOneToOne itself
IsOneToOne-itself c c' d d' h k = ap₂ same_channel h k

same_list : (cs cs' : List Channel) → SameNames itself cs cs' → cs ≡ cs'
same_list [] [] h = refl
same_list (c ∷ cs) (c' ∷ cs') h = ap₂ ◌∷◌ h.0 (same_list cs cs' h.1)
same_list _ _ h = absurd h

module _ (p p' : Protocol) (mirrored : Mirrors itself p p') where
  same_outputs : outputs p ≡ outputs p'
  same_outputs = same_list (outputs p) (outputs p') (SameNames-outputs itself IsOneToOne-itself p p' mirrored)

  same_valuations : (J : Interpretation) (t : List Bool) (i : Valuation) → protocol_valuation J p t i ≡ protocol_valuation J p' t i
  same_valuations J t i =
      fun_ext (λ c. protocol_valuation-mirrored J itself IsOneToOne-itself p p' mirrored t i i (λ d d' k. ap i k) c c refl)

  pub alike_but_hidden : (J : Interpretation) (scope : Scope) → Alike J scope p p'
  alike_but_hidden J scope =
      alike_of_same_valuations J scope p p' (λ c. ap (λ cs. has cs c) same_outputs) (coins-mirrored itself p p' mirrored) (λ t enough i. same_valuations J t i)

  pub Typed_but_hidden : (sig : Signature) (scope : Scope) (written : List Channel) → Typed sig scope p written → Typed sig scope p' written
  Typed_but_hidden sig scope written t = record {
    typed = IsTyped-mirrored sig itself IsOneToOne-itself p p' mirrored scope scope (λ c c' w k e. sym (ap scope k) ∙ e) t.typed;
    writes = λ c. ap (λ cs. has cs c) (sym same_outputs) ∙ t.writes c;
  }
