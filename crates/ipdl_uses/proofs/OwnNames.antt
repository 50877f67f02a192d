-- The one link of an assumption where it is used: its own names are followed by those of the use, and nothing is around it.
use Rattle.std.proofs.Common.{◌≡◌, ℕ, Bool, true, false, ◌||◌, if◌then◌else◌, List, [], ◌∷◌, refl, sym, ap, ap₂, ◌∙◌, append-nil}
use Rattle.std.proofs.lemmas.Bool.{false≢true}
use Rattle.ipdl_chain.specs.Chains.{by_assumption, turned_mark}
use Rattle.ipdl_embed.specs.Completing.{channels_of, completed}
use Rattle.ipdl_embed.specs.Following.{followed}
use Rattle.ipdl_embed.specs.Pairs.{Pairs, named}
use Rattle.ipdl_term.proofs.ChannelSets.{same_channel-sound, same_channel-itself}
use Rattle.ipdl_term.specs.Channels.{same_channel, has}
use Rattle.ipdl_term.specs.Contexts.{nested}
use Rattle.ipdl_term.specs.Renaming.{Renaming, renaming_of}
use Rattle.ipdl_term.specs.Steps.{Direction, lr, rl}
use Rattle.ipdl_term.specs.Terms.{Channel, Protocol, Context, hole, in_left, in_right, in_hiding}
use Rattle.ipdl_term.specs.declared.interface.Interface.{Interface}
use Rattle.ipdl_uses.specs.Lemmas.{assumed_chain}
use Rattle.ipdl_uses.specs.Uses.{Use, instance_of, instance_mark, used, to_side}

renaming_of-there : (f : Renaming) (cs : List Channel) (c : Channel) → has cs c ≡ true → renaming_of (named f cs) c ≡ f c
renaming_of-there f [] c there = absurd (false≢true there)
renaming_of-there f (d ∷ cs) c there = go (same_channel d c) refl there (renaming_of-there f cs c)
  where
    go : (b : Bool) → same_channel d c ≡ b → (b || has cs c) ≡ true → (has cs c ≡ true → renaming_of (named f cs) c ≡ f c) → (if b then f d else renaming_of (named f cs) c) ≡ f c
    go true e h rest = ap f (same_channel-sound d c e)
    go false e h rest = rest h

named-alike : (f g : Renaming) (cs : List Channel) → ((c : Channel) → has cs c ≡ true → f c ≡ g c) → named f cs ≡ named g cs
named-alike f g [] same = refl
named-alike f g (c ∷ cs) same =
    ap₂ (λ d pairs. (c, d) ∷ pairs) (same c (ap (λ b. b || has cs c) (same_channel-itself c))) (named-alike f g cs (λ d h. same d (later (same_channel c d) (has cs d) h)))
  where
    later : (p q : Bool) → q ≡ true → (p || q) ≡ true
    later true q h = refl
    later false q h = h

own_names_followed : (outer : Pairs) (cs : List Channel) → followed [] outer (named (renaming_of []) cs) ≡ named (renaming_of outer) cs
own_names_followed outer [] = refl
own_names_followed outer (c ∷ cs) = ap (λ pairs. (c, renaming_of outer c) ∷ pairs) (own_names_followed outer cs)

-- the pairs of an interface's channels, each under its own name, are followed by the pairs
completed_followed : (i : Interface) (outer given : Pairs) → outer ≡ completed i given → followed [] outer (completed i []) ≡ outer
completed_followed i outer given is =
    let cs = channels_of i in
    own_names_followed outer cs
    ∙ ap (λ pairs. named (renaming_of pairs) cs) is
    ∙ named-alike (renaming_of (named (renaming_of given) cs)) (renaming_of given) cs (renaming_of-there (renaming_of given) cs)
    ∙ sym is

nested-hole : (C : Context) → nested C hole ≡ C
nested-hole hole = refl
nested-hole (in_left C q) = ap (λ D. in_left D q) (nested-hole C)
nested-hole (in_right q C) = ap (λ D. in_right q D) (nested-hole C)
nested-hole (in_hiding c w C) = ap (λ D. in_hiding c w D) (nested-hole C)

assumed_mark : (u : Use) (i : Interface) (given : Pairs) → u.pairs ≡ completed i given → (upper : Protocol) (name : List ℕ) →
    instance_mark u upper (by_assumption lr name [] (completed i []) hole) ≡ by_assumption lr name u.place u.pairs u.around
assumed_mark u i given is upper name =
    ap (λ place. by_assumption lr name place (followed [] u.pairs (completed i [])) (nested u.around hole)) (append-nil u.place)
    ∙ ap₂ (λ pairs C. by_assumption lr name u.place pairs C) (completed_followed i u.pairs given is) (nested-hole u.around)

-- the one link of an assumption
pub links_of_assumption : (u : Use) (i : Interface) (given : Pairs) → u.pairs ≡ completed i given → (direction : Direction) (name : List ℕ) (left right : Protocol) →
    (used direction u (assumed_chain name i left right)).links
    ≡ record { mark = by_assumption direction name u.place u.pairs u.around; term = instance_of u (to_side direction (assumed_chain name i left right)) } ∷ []
links_of_assumption u i given is lr name left right =
    ap (λ mark. record { mark = mark; term = instance_of u right } ∷ []) (assumed_mark u i given is left name)
links_of_assumption u i given is rl name left right =
    ap (λ mark. record { mark = turned_mark mark; term = instance_of u left } ∷ []) (assumed_mark u i given is left name)
