-- References to terms: the terms among which they are, and what holds of them.
use Rattle.std.proofs.Common.{◌≡◌, ℕ, ◌<◌, List, [], ◌∷◌, length, map, take, drop, get_or, All, Contains, refl, sym, subst, arith}
use Rattle.std.proofs.lemmas.List.Elements.{All-cons, All-nil, All-head, All-tail, All-same, All-weaker, All-contains, All-drop, All-take}
use Rattle.std.proofs.lemmas.List.{get_or_default}
use Rattle.std.specs.Borrow.{Bor}
use Rattle.std.specs.List.{AllByRecursion}
use Rattle.ipdl_chain.proofs.Views.{seen_whole}
use Rattle.ipdl_chain.specs.Chains.{terms_of}
use Rattle.ipdl_chain.specs.Views.{HasOneTermMore, chain_of}
use Rattle.ipdl_chain.specs.declared.chain.Chain.{Chain as Held}
use Rattle.ipdl_term.specs.Channels.{AreDisjoint}
use Rattle.ipdl_term.specs.Renaming.{hidden_channels}
use Rattle.ipdl_term.specs.Steps.{Direction, lr, rl}
use Rattle.ipdl_term.specs.Terms.{Channel}
use Rattle.ipdl_term.specs.Views.{protocol_of}
use Rattle.ipdl_term.specs.declared.interface.Interface.{Interface}
use Rattle.ipdl_term.specs.declared.protocol.Proto.{Proto}
use Rattle.ipdl_uses.proofs.Sites.{hidden_in_none}
use Rattle.ipdl_uses.specs.Adding.{lent_terms, AreAmong, far_of}
use Rattle.ipdl_uses.specs.Lemmas.{assumed_chain, hidden_in_chain}

-- ---- references

-- what holds of the terms that references are to
pub all_lent : (P : Proto → Type 0) (references : List (Bor Proto)) → All P (lent_terms references) → All (λ reference. P reference.now) references
all_lent P [] all = All-nil (λ reference. P reference.now)
all_lent P (r ∷ references) all =
    All-cons (λ reference. P reference.now) r references (All-head P r.now (lent_terms references) all) (all_lent P references (All-tail P r.now (lent_terms references) all))

-- what holds of all terms holds of some of them
pub all_among : (P : Proto → Type 0) (terms : List Proto) (references : List (Bor Proto)) → All P terms → AreAmong terms references → All (λ reference. P reference.now) references
all_among P terms references all among =
    All-weaker (λ (reference : Bor Proto). Contains terms reference.now) (λ reference. P reference.now) (λ reference there. All-contains P terms reference.now all there) references among

all_contained : (terms : List Proto) → All (Contains terms) terms
all_contained terms = λ k d within. (k, within, get_or_default terms k (get_or terms k d) d within)

pub among_drop : (terms : List Proto) (n : ℕ) (references : List (Bor Proto)) → lent_terms references ≡ drop n terms → AreAmong terms references
among_drop terms n references lent =
    all_lent (Contains terms) references (All-same (Contains terms) (lent_terms references) (drop n terms) lent (All-drop (Contains terms) n terms (all_contained terms)))

pub among_take : (terms : List Proto) (n : ℕ) (references : List (Bor Proto)) → lent_terms references ≡ take n terms → AreAmong terms references
among_take terms n references lent =
    all_lent (Contains terms) references (All-same (Contains terms) (lent_terms references) (take n terms) lent (All-take (Contains terms) n terms (all_contained terms)))

pub contained_at : (terms : List Proto) (k : ℕ) (term : Proto) → k < length terms → term ≡ get_or terms k term → Contains terms term
contained_at terms k term within is = (k, within, sym is)

pub among_one : (terms : List Proto) (references : List (Bor Proto)) (term : Proto) → lent_terms references ≡ term ∷ [] → Contains terms term → AreAmong terms references
among_one terms references term lent there =
    all_lent (Contains terms) references (All-same (Contains terms) (lent_terms references) (term ∷ []) lent (All-cons (Contains terms) term [] there (All-nil (Contains terms))))

-- ---- the end to which a use leads

pub far_among : (direction : Direction) (terms : List Proto) (left right : Proto) → Contains terms left → Contains terms right → Contains terms (far_of direction left right)
far_among lr terms left right l r = r
far_among rl terms left right l r = l

pub far_of_two : (direction : Direction) (left right : Proto) → Contains (left ∷ right ∷ []) (far_of direction left right)
far_of_two lr left right = (1, omega arith, refl)
far_of_two rl left right = (0, omega arith, refl)

-- ---- what holds of the terms

pub both : (P : Proto → Type 0) (left right : Proto) → P left → P right → All P (left ∷ right ∷ [])
both P left right l r = All-cons P left (right ∷ []) l (All-cons P right [] r (All-nil P))

-- nor in either side of an assumption
pub free_sides : (names : List Channel) (name : List ℕ) (i : Interface) (left right : Proto) → AreDisjoint names (hidden_in_chain (assumed_chain name i (protocol_of left) (protocol_of right))) → All (λ term. AreDisjoint names (hidden_channels (protocol_of term))) (left ∷ right ∷ [])
free_sides names name i left right apart =
    let free = hidden_in_none names (protocol_of left ∷ protocol_of right ∷ []) apart in
    both (λ term. AreDisjoint names (hidden_channels (protocol_of term))) left right free.0 free.1.0

-- no name is hidden in any of the terms that is not so in the chain
pub free_terms : (names : List Channel) (chain : Held) → HasOneTermMore chain → AreDisjoint names (hidden_in_chain (chain_of chain)) → All (λ term. AreDisjoint names (hidden_channels (protocol_of term))) chain.terms
free_terms names chain paired apart =
    let free = hidden_in_none names (terms_of (chain_of chain)) apart in
    unmapped chain.terms (subst (AllByRecursion (λ term. AreDisjoint names (hidden_channels term))) (seen_whole chain paired).0 free)
  where
    unmapped : (terms : List Proto) → AllByRecursion (λ term. AreDisjoint names (hidden_channels term)) (map protocol_of terms) → All (λ term. AreDisjoint names (hidden_channels (protocol_of term))) terms
    unmapped [] all = All-nil (λ term. AreDisjoint names (hidden_channels (protocol_of term)))
    unmapped (t ∷ terms) all =
        All-cons (λ term. AreDisjoint names (hidden_channels (protocol_of term))) t terms all.0 (unmapped terms all.1)
