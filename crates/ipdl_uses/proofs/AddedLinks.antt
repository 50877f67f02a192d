-- The links that a use adds: the one of a theorem that rests on no assumption, and those of a whole chain.
use Rattle.std.proofs.Common.{◌≡◌, ℕ, zero, suc, ◌+◌, ◌<◌, Bool, true, false, if◌then◌else◌, nat_eq, List, [], ◌∷◌, ◌++◌, length, map, take, drop, get_or, refl, sym, ap, ap₂, ◌∙◌, arith}
use Rattle.std.proofs.lemmas.Bool.{false≢true, eqb-true, eq-eqb}
use Rattle.std.specs.Borrow.{Bor}
use Rattle.ipdl_chain.proofs.Counts.{neighbour_count-sum}
use Rattle.ipdl_chain.specs.Chains.{Mark, by_rule, by_theorem, by_assumption, Link, Chain, last_of, turned_mark, turned_links, neighbour_count, exact_count, assumed_count}
use Rattle.ipdl_chain.specs.Views.{HasOneTermMore, mark_of, first_of, others_of, links_of, chain_of}
use Rattle.ipdl_chain.specs.declared.chain.Chain.{Chain as Held}
use Rattle.ipdl_chain.specs.declared.chain.Mark.{Mark as HeldMark}
use Rattle.ipdl_embed.specs.Pairs.{Pairs}
use Rattle.ipdl_term.specs.Steps.{Direction, lr, rl}
use Rattle.ipdl_term.specs.Terms.{Protocol, Context}
use Rattle.ipdl_term.specs.Views.{protocol_of}
use Rattle.ipdl_term.specs.declared.interface.Interface.{Interface}
use Rattle.ipdl_term.specs.declared.protocol.Proto.{Proto}
use Rattle.ipdl_uses.specs.Adding.{lent_terms, far_of, terms_at, links_by, directed, carried_marks, links_back}
use Rattle.ipdl_uses.specs.Lemmas.{assumed_chain, is_exact}
use Rattle.ipdl_uses.specs.Uses.{Use, instance_of, instance_mark, instance_links, all_neighbours, one_neighbour, used, to_side}

-- ---- all links of a chain

links_carried : (u : Use) (upper : Protocol) (marks : List HeldMark) (terms : List Proto) (made : List HeldMark) → length terms ≡ length marks →
    map mark_of made ≡ carried_marks u upper (links_of marks terms) → links_by made (terms_at u terms) ≡ instance_links u upper (links_of marks terms)
links_carried u upper [] [] [] paired is = refl
links_carried u upper [] [] (m ∷ made) paired is = cc
links_carried u upper [] (t ∷ terms) made paired is = absurd (omega arith)
links_carried u upper (m ∷ marks) [] made paired is = absurd (omega arith)
links_carried u upper (m ∷ marks) (t ∷ terms) [] paired is = cc
links_carried u upper (m ∷ marks) (t ∷ terms) (n ∷ made) paired is =
    let first : mark_of n ≡ instance_mark u upper (mark_of m) = cc in
    let rest : map mark_of made ≡ carried_marks u (protocol_of t) (links_of marks terms) = cc in
    ap₂ (λ mark links. record { mark = mark; term = instance_of u (protocol_of t) } ∷ links) first (links_carried u (protocol_of t) marks terms made (omega arith) rest)

links_turned : (u : Use) (upper : Proto) (marks : List HeldMark) (terms : List Proto) (made : List HeldMark) → length terms ≡ length marks →
    map mark_of made ≡ carried_marks u (protocol_of upper) (links_of marks terms) →
    links_back made (terms_at u (take (length marks) (upper ∷ terms))) ≡ turned_links (instance_of u (protocol_of upper)) (instance_links u (protocol_of upper) (links_of marks terms))
links_turned u upper [] [] [] paired is = refl
links_turned u upper [] [] (m ∷ made) paired is = cc
links_turned u upper [] (t ∷ terms) made paired is = absurd (omega arith)
links_turned u upper (m ∷ marks) [] made paired is = absurd (omega arith)
links_turned u upper (m ∷ marks) (t ∷ terms) [] paired is = cc
links_turned u upper (m ∷ marks) (t ∷ terms) (n ∷ made) paired is =
    let first : mark_of n ≡ instance_mark u (protocol_of upper) (mark_of m) = cc in
    let rest : map mark_of made ≡ carried_marks u (protocol_of t) (links_of marks terms) = cc in
    ap₂ (λ mark links. links ++ record { mark = turned_mark mark; term = instance_of u (protocol_of upper) } ∷ []) first (links_turned u t marks terms made (omega arith) rest)

pub others_are : (terms : List Proto) → drop 1 terms ≡ others_of terms
others_are [] = refl
others_are (t ∷ terms) = refl

module _ (u : Use) (chain : Held) (paired : HasOneTermMore chain) (made : List HeldMark) (carried : map mark_of made ≡ carried_marks u (chain_of chain).first (chain_of chain).links) where
  pub chain_links_carried : links_by made (terms_at u (others_of chain.terms)) ≡ (directed lr (all_neighbours u (chain_of chain))).links
  chain_links_carried =
      links_carried u (first_of chain.terms) chain.marks (others_of chain.terms) made (others chain.terms paired) carried
    where
      others : (terms : List Proto) → length terms ≡ suc (length chain.marks) → length (others_of terms) ≡ length chain.marks
      others [] h = absurd (omega arith)
      others (t ∷ terms) h = omega arith

  pub chain_links_turned : links_back made (terms_at u (take (length chain.marks) chain.terms)) ≡ (directed rl (all_neighbours u (chain_of chain))).links
  chain_links_turned = go chain.terms paired carried
    where
      go : (terms : List Proto) → length terms ≡ suc (length chain.marks) → map mark_of made ≡ carried_marks u (first_of terms) (links_of chain.marks (others_of terms)) →
          links_back made (terms_at u (take (length chain.marks) terms)) ≡ turned_links (instance_of u (first_of terms)) (instance_links u (first_of terms) (links_of chain.marks (others_of terms)))
      go [] h is = absurd (omega arith)
      go (t ∷ terms) h is = links_turned u t chain.marks terms made (omega arith) is

-- the name of what is used stands in no link
mark_of_any : (u : Use) (name : List ℕ) (upper : Protocol) (mark : Mark) → instance_mark u upper mark ≡ instance_mark (record { name = name; place = u.place; around = u.around; pairs = u.pairs }) upper mark
mark_of_any u name upper (by_rule direction word place) = refl
mark_of_any u name upper (by_theorem direction theorem place pairs) = refl
mark_of_any u name upper (by_assumption direction other place pairs C) = refl

links_of_any : (u : Use) (name : List ℕ) (upper : Protocol) (links : List Link) → instance_links u upper links ≡ instance_links (record { name = name; place = u.place; around = u.around; pairs = u.pairs }) upper links
links_of_any u name upper [] = refl
links_of_any u name upper (link ∷ links) =
    ap₂ (λ mark rest. record { mark = mark; term = instance_of u link.term } ∷ rest) (mark_of_any u name upper link.mark) (links_of_any u name link.term links)

pub all_of_any : (u : Use) (name : List ℕ) (direction : Direction) (chain : Chain) →
    (directed direction (all_neighbours u chain)).links ≡ (directed direction (all_neighbours (record { name = name; place = u.place; around = u.around; pairs = u.pairs }) chain)).links
all_of_any u name direction chain =
    ap (λ links. (directed direction (record { first = instance_of u chain.first; links = links })).links) (links_of_any u name chain.first chain.links)

-- ---- one link

pub links_of_theorem : (u : Use) (direction : Direction) (chain : Chain) → (directed direction (one_neighbour u chain)).links
    ≡ record { mark = by_theorem direction u.name u.place u.pairs; term = instance_of u (to_side direction chain) } ∷ []
links_of_theorem u lr chain = refl
links_of_theorem u rl chain = refl

pub assumption_alike : (direction : Direction) (name name' place place' : List ℕ) (pairs pairs' : Pairs) (C C' : Context) → name ≡ name' → place ≡ place' → pairs ≡ pairs' → C ≡ C' → by_assumption direction name place pairs C ≡ by_assumption direction name' place' pairs' C'
assumption_alike direction name name' place place' pairs pairs' C C' e₁ e₂ e₃ e₄ = cc

pub theorem_alike : (direction : Direction) (name name' place place' : List ℕ) (pairs pairs' : Pairs) → name ≡ name' → place ≡ place' → pairs ≡ pairs' → by_theorem direction name place pairs ≡ by_theorem direction name' place' pairs'
theorem_alike direction name name' place place' pairs pairs' e₁ e₂ e₃ = cc

pub links_of_one : (u : Use) (references : List (Bor Proto)) (marks : List HeldMark) (term : Proto) (mark : HeldMark) (plain : Mark) (side : Protocol) → lent_terms references ≡ term ∷ [] → marks ≡ mark ∷ [] → mark_of mark ≡ plain → protocol_of term ≡ side →
    links_by marks (terms_at u (lent_terms references)) ≡ record { mark = plain; term = instance_of u side } ∷ []
links_of_one u references marks term mark plain side lent is stands there =
    ap₂ (λ ms ts. links_by ms (terms_at u ts)) is lent
    ∙ ap₂ (λ (m : Mark) (t : Protocol). record { mark = m; term = instance_of u t } ∷ []) stands there

-- ---- the end to which a use leads

pub far_of_assumption : (direction : Direction) (name : List ℕ) (i : Interface) (left right : Proto) → protocol_of (far_of direction left right) ≡ to_side direction (assumed_chain name i (protocol_of left) (protocol_of right))
far_of_assumption lr name i left right = refl
far_of_assumption rl name i left right = refl

last_is : (marks : List HeldMark) (terms : List Proto) (k : ℕ) (d : Proto) → length terms ≡ suc (length marks) → k ≡ length marks → protocol_of (get_or terms k d) ≡ last_of (first_of terms) (links_of marks (others_of terms))
last_is [] [] k d h e = absurd (omega arith)
last_is [] (t ∷ []) zero d h e = refl
last_is [] (t ∷ []) (suc k) d h e = absurd (omega arith)
last_is [] (t ∷ u ∷ us) k d h e = absurd (omega arith)
last_is (m ∷ ms) [] k d h e = absurd (omega arith)
last_is (m ∷ ms) (t ∷ []) k d h e = absurd (omega arith)
last_is (m ∷ ms) (t ∷ u ∷ us) zero d h e = absurd (omega arith)
last_is (m ∷ ms) (t ∷ u ∷ us) (suc k) d h e =
    let paired : length (u ∷ us) ≡ suc (length ms) = omega arith in
    let at : k ≡ length ms = omega arith in last_is ms (u ∷ us) k d paired at

first_is : (terms : List Proto) (d : Proto) → 0 < length terms → protocol_of (get_or terms 0 d) ≡ first_of terms
first_is [] d h = absurd (omega arith)
first_is (t ∷ terms) d h = refl

pub far_of_chain : (direction : Direction) (chain : Held) (left right : Proto) (k : ℕ) → HasOneTermMore chain → left ≡ get_or chain.terms 0 left → right ≡ get_or chain.terms k right → k ≡ length chain.marks →
    protocol_of (far_of direction left right) ≡ to_side direction (chain_of chain)
far_of_chain lr chain left right k paired at_left at_right is = ap protocol_of at_right ∙ last_is chain.marks chain.terms k right paired is
far_of_chain rl chain left right k paired at_left at_right is = ap protocol_of at_left ∙ first_is chain.terms left (omega (arith, paired))

-- ---- whether the chain rests on an assumption

pub exact_test : (chain : Chain) → nat_eq (exact_count chain.links) (neighbour_count chain.links) ≡ is_exact chain
exact_test chain = alike (nat_eq (exact_count chain.links) (neighbour_count chain.links)) (is_exact chain) refl refl
  where
    sum : neighbour_count chain.links ≡ exact_count chain.links + assumed_count chain.links
    sum = neighbour_count-sum chain.links

    alike : (p q : Bool) → nat_eq (exact_count chain.links) (neighbour_count chain.links) ≡ p → nat_eq (assumed_count chain.links) 0 ≡ q → p ≡ q
    alike true true h k = refl
    alike true false h k =
        let none : assumed_count chain.links ≡ 0 = omega (arith, eqb-true (exact_count chain.links) (neighbour_count chain.links) h, sum) in
        absurd (false≢true (sym k ∙ eq-eqb (assumed_count chain.links) 0 none))
    alike false true h k =
        let same : exact_count chain.links ≡ neighbour_count chain.links = omega (arith, eqb-true (assumed_count chain.links) 0 k, sum) in
        absurd (false≢true (sym h ∙ eq-eqb (exact_count chain.links) (neighbour_count chain.links) same))
    alike false false h k = refl

pub used_exact : (direction : Direction) (u : Use) (chain : Chain) → is_exact chain ≡ true → used direction u chain ≡ directed direction (one_neighbour u chain)
used_exact lr u chain exact = ap (λ b. if b then one_neighbour u chain else all_neighbours u chain) exact
used_exact rl u chain exact = ap (λ b. directed rl (if b then one_neighbour u chain else all_neighbours u chain)) exact

pub used_all : (direction : Direction) (u : Use) (chain : Chain) → is_exact chain ≡ false → used direction u chain ≡ directed direction (all_neighbours u chain)
used_all lr u chain counts = ap (λ b. if b then one_neighbour u chain else all_neighbours u chain) counts
used_all rl u chain counts = ap (λ b. directed rl (if b then one_neighbour u chain else all_neighbours u chain)) counts
