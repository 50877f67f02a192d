-- The context around a use is a site of what is used there, and no new name is hidden in a term of its chain.
use Rattle.std.proofs.Common.{◌≡◌, ℕ, List, [], ◌∷◌, ◌++◌, Some, sym, ap, ◌∙◌}
use Rattle.std.specs.List.{AllByRecursion}
use Rattle.std.specs.Map.{keys_of, values_of}
use Rattle.ipdl_embed.proofs.Completions.{keys_of-named}
use Rattle.ipdl_embed.proofs.PairLaws.{or_false_left, or_false_right}
use Rattle.ipdl_embed.proofs.SeenPorts.{visible_where_fit}
use Rattle.ipdl_embed.specs.Completing.{channels_of, completed}
use Rattle.ipdl_embed.specs.Pairs.{Pairs}
use Rattle.ipdl_instances.proofs.Instances.{site_at_place}
use Rattle.ipdl_instances.specs.Sites.{IsSite}
use Rattle.ipdl_term.proofs.ChannelSets.{has-append}
use Rattle.ipdl_term.specs.Channels.{has, IsWithin, AreDisjoint}
use Rattle.ipdl_term.specs.Interpretations.{Signature}
use Rattle.ipdl_term.specs.Places.{term_at, context_at}
use Rattle.ipdl_term.specs.Renaming.{renaming_of, hidden_channels}
use Rattle.ipdl_term.specs.Steps.{Direction}
use Rattle.ipdl_term.specs.Surroundings.{around, outermost}
use Rattle.ipdl_term.specs.Terms.{Channel, Protocol, Context, protocol_term}
use Rattle.ipdl_term.specs.Typing.{HasInterface, scope_of, port_names}
use Rattle.ipdl_term.specs.declared.interface.Interface.{Interface}
use Rattle.ipdl_uses.specs.Lemmas.{Lemma, hidden_in_terms}
use Rattle.ipdl_uses.specs.Usable.{IsUsable}
use Rattle.ipdl_uses.specs.Uses.{from_side}

-- names of which none is hidden in some terms are hidden in none of them
pub hidden_in_none : (cs : List Channel) (terms : List Protocol) → AreDisjoint cs (hidden_in_terms terms) → AllByRecursion (λ term. AreDisjoint cs (hidden_channels term)) terms
hidden_in_none cs [] apart = tt
hidden_in_none cs (term ∷ terms) apart = (
  λ c h. or_false_left (has (hidden_channels term) c) (has (hidden_in_terms terms) c) (sym (has-append (hidden_channels term) (hidden_in_terms terms) c) ∙ apart c h),
  hidden_in_none cs terms (λ c h. or_false_right (has (hidden_channels term) c) (has (hidden_in_terms terms) c) (sym (has-append (hidden_channels term) (hidden_in_terms terms) c) ∙ apart c h)),
)

-- each channel of an interface has a pair
pub named_all : (i : Interface) (pairs : Pairs) → IsWithin (port_names (i.inputs ++ i.outputs)) (keys_of (completed i pairs))
named_all i pairs c h = ap (λ cs. has cs c) (keys_of-named (renaming_of pairs) (channels_of i)) ∙ h

-- where something may be used at a place, the context there is a site
pub site_of_use : (sig : Signature) (i : Interface) (before : Protocol) → HasInterface sig i before →
    (place : List ℕ) (part : Protocol) (C : Context) → term_at (protocol_term before) place ≡ Some (protocol_term part) → context_at before place ≡ Some C →
    (lemma : Lemma) (direction : Direction) (pairs : Pairs) → HasInterface sig lemma.interface (from_side direction lemma.chain) → AreDisjoint (values_of (completed lemma.interface pairs)) (hidden_channels (from_side direction lemma.chain)) →
    IsUsable lemma direction part (around (outermost (scope_of (i.inputs ++ i.outputs))) (protocol_term before) place).scope pairs →
    IsSite sig lemma.interface (completed lemma.interface pairs) C (scope_of (i.inputs ++ i.outputs)) (port_names i.outputs)
site_of_use sig i before typed place part C there around_it lemma direction pairs has_interface apart usable =
    let scope = scope_of (i.inputs ++ i.outputs) in
    let j = lemma.interface in
    let all = completed j pairs in
    let seen = (around (outermost scope) (protocol_term before) place).scope in
    site_at_place sig j all (named_all j pairs) usable.distinct scope (port_names i.outputs) before place C typed around_it
    (from_side direction lemma.chain) (there ∙ ap (λ p. Some (protocol_term p)) usable.side) has_interface apart
    (visible_where_fit seen (renaming_of all) (j.inputs ++ j.outputs) usable.fits)
