-- Terms with a new name for one channel: below a `new` of the channel nothing changes, and the nodes are as many.
use Rattle.std.proofs.Common.{◌≡◌, true, false, refl, sym, ap, ap₂, ◌∙◌}
use mathlib.Core.Path.{fun_ext}
use Rattle.ipdl_laws.proofs.Sets.{by_test, if-true, if-false, at_same_channel}
use Rattle.ipdl_term.proofs.ChannelSets.{same_channel_comm}
use Rattle.ipdl_term.specs.Channels.{same_channel}
use Rattle.ipdl_term.specs.Renaming.{Renaming, keeping, renaming_one, renamed_reaction, renamed}
use Rattle.ipdl_term.specs.Sizes.{reaction_nodes, protocol_nodes}
use Rattle.ipdl_term.specs.Terms.{Channel, Reaction, returning, flipping, reading, branching, binding, Protocol, nil, assignment, parallel, hiding}

-- ---- a renaming that changes no name

abbrev ChangesNothing : Renaming → Type 0
ChangesNothing f = (c : Channel) → f c ≡ c

reaction_stays : (f : Renaming) (r : Reaction) → ChangesNothing f → renamed_reaction f r ≡ r
reaction_stays f (returning e) same = refl
reaction_stays f (flipping w) same = refl
reaction_stays f (reading c) same = ap reading (same c)
reaction_stays f (branching e r s) same = ap₂ (λ x y. branching e x y) (reaction_stays f r same) (reaction_stays f s same)
reaction_stays f (binding w r s) same = ap₂ (λ x y. binding w x y) (reaction_stays f r same) (reaction_stays f s same)

protocol_stays : (f : Renaming) (p : Protocol) → ChangesNothing f → renamed f p ≡ p
protocol_stays f nil same = refl
protocol_stays f (assignment c r) same = ap₂ (λ x y. assignment x y) (same c) (reaction_stays f r same)
protocol_stays f (parallel p q) same = ap₂ (λ x y. parallel x y) (protocol_stays f p same) (protocol_stays f q same)
protocol_stays f (hiding c w p) same = ap (λ x. hiding c w x) (protocol_stays (keeping c f) p (λ e. by_test (same_channel c e) (λ h. if-true (same_channel c e) _ _ h) (λ h. if-false (same_channel c e) _ _ h ∙ same e)))

-- ---- below a `new`

-- of the channel itself
pub renamed_below_itself : (c d b : Channel) (p : Protocol) → same_channel c b ≡ true → renamed (keeping b (renaming_one c d)) p ≡ p
renamed_below_itself c d b p same = protocol_stays (keeping b (renaming_one c d)) p (λ e. by_test (same_channel b e)
    (λ h. if-true (same_channel b e) _ _ h)
    (λ h. if-false (same_channel b e) _ _ h ∙ if-false (same_channel c e) _ _ (at_same_channel (λ x. same_channel x e ≡ false) b c (same_channel_comm b c ∙ same) h)))

-- of another one
pub renamed_below_other : (c d b : Channel) (p : Protocol) → same_channel c b ≡ false → renamed (keeping b (renaming_one c d)) p ≡ renamed (renaming_one c d) p
renamed_below_other c d b p other = ap (λ f. renamed f p) (fun_ext (λ e. by_test (same_channel b e)
    (λ h. if-true (same_channel b e) _ _ h ∙ sym (if-false (same_channel c e) _ _ (at_same_channel (λ x. same_channel c x ≡ false) b e h other)))
    (λ h. if-false (same_channel b e) _ _ h)))

pub ruleset renamed_below = (renamed_below_itself, renamed_below_other)

-- ---- nodes

reaction_nodes-renamed : (f : Renaming) (r : Reaction) → reaction_nodes (renamed_reaction f r) ≡ reaction_nodes r
reaction_nodes-renamed f (returning e) = refl
reaction_nodes-renamed f (flipping w) = refl
reaction_nodes-renamed f (reading c) = refl
reaction_nodes-renamed f (branching e r s) = rw (reaction_nodes-renamed f r, reaction_nodes-renamed f s)
reaction_nodes-renamed f (binding w r s) = rw (reaction_nodes-renamed f r, reaction_nodes-renamed f s)

pub protocol_nodes-renamed : (f : Renaming) (p : Protocol) → protocol_nodes (renamed f p) ≡ protocol_nodes p
protocol_nodes-renamed f nil = refl
protocol_nodes-renamed f (assignment c r) = rw (reaction_nodes-renamed f r)
protocol_nodes-renamed f (parallel p q) = rw (protocol_nodes-renamed f p, protocol_nodes-renamed f q)
protocol_nodes-renamed f (hiding c w p) = rw (protocol_nodes-renamed (keeping c f) p)

pub ruleset renamed_sizes = (protocol_nodes-renamed)
