-- Refusals of a use, one test after the other.
use Rattle.std.proofs.Common.{◌≡◌, Option, Some, None, refl, sym, ap, ◌∙◌, subst}
use Rattle.std.specs.Option.{option_or}
use Rattle.ipdl_embed.specs.Completing.{completed}
use Rattle.ipdl_embed.specs.Pairs.{Pairs}
use Rattle.ipdl_term.specs.Renaming.{renamed, renaming_of}
use Rattle.ipdl_term.specs.Steps.{Direction}
use Rattle.ipdl_term.specs.Terms.{Protocol}
use Rattle.ipdl_term.specs.Typing.{Scope}
use Rattle.ipdl_uses.proofs.TestsOfUse.{neither_refuses}
use Rattle.ipdl_uses.specs.Lemmas.{Lemma}
use Rattle.ipdl_uses.specs.Usable.{UseRefusal, channel_refusal, clash_refusal, capture_refusal, side_refusal, port_refusal, use_refusal}
use Rattle.ipdl_uses.specs.Uses.{from_side}
use Rattle.ipdl_uses.specs.Views.{TellsUse}
use Rattle.ipdl_uses.specs.declared.fault.UseFault.{UseFault}

-- where the first test passes, the other one decides
told_after : (fault : UseFault) (first rest : Option UseRefusal) → first ≡ None → TellsUse fault rest → TellsUse fault (option_or first rest)
told_after fault first rest passed told = subst (λ o. TellsUse fault (option_or o rest)) (sym passed) told

grouped : (first second rest : Option UseRefusal) → option_or (option_or first second) rest ≡ option_or first (option_or second rest)
grouped None second rest = refl
grouped (Some refusal) second rest = refl

-- ---- the tests of a use, in their order

module _ (lemma : Lemma) (direction : Direction) (part : Option Protocol) (scope : Scope) (pairs renaming : Pairs) (made : renaming ≡ completed lemma.interface pairs) where
  abbrev names : Option UseRefusal
  names = option_or (channel_refusal lemma.interface pairs) (clash_refusal (completed lemma.interface pairs))

  abbrev side : Pairs → Option UseRefusal
  side all = side_refusal part (renamed (renaming_of all) (from_side direction lemma.chain))

  -- those after the tests of the names
  abbrev others : Pairs → Option UseRefusal
  others all = option_or (capture_refusal lemma all) (option_or (side all) (port_refusal lemma.interface scope all))

  whole : option_or names (others renaming) ≡ use_refusal lemma direction part scope pairs
  whole =
      ap (λ all. option_or names (others all)) made
      ∙ grouped (channel_refusal lemma.interface pairs) (clash_refusal (completed lemma.interface pairs)) (others (completed lemma.interface pairs))

  told_of_others : (fault : UseFault) → names ≡ None → TellsUse fault (others renaming) → TellsUse fault (use_refusal lemma direction part scope pairs)
  told_of_others fault passed told = subst (TellsUse fault) whole (told_after fault names (others renaming) passed told)

  pub told_of_ports : (fault : UseFault) → names ≡ None → capture_refusal lemma renaming ≡ None → side renaming ≡ None → TellsUse fault (port_refusal lemma.interface scope renaming) → TellsUse fault (use_refusal lemma direction part scope pairs)
  told_of_ports fault passed free sides told =
      told_of_others fault passed
      (told_after fault (capture_refusal lemma renaming) _ free (told_after fault (side renaming) _ sides told))

  pub all_pass : names ≡ None → capture_refusal lemma renaming ≡ None → side renaming ≡ None → port_refusal lemma.interface scope renaming ≡ None → use_refusal lemma direction part scope pairs ≡ None
  all_pass passed free sides ports =
      sym whole ∙ neither_refuses names (others renaming) passed
      (neither_refuses (capture_refusal lemma renaming) _ free (neither_refuses (side renaming) _ sides ports))
