-- Links that are turned round, and turned round again.
use Rattle.std.proofs.Common.{◌≡◌, List, [], ◌∷◌, ◌++◌, refl, sym, ap, ap₂, ◌∙◌, append_assoc, append-nil}
use Rattle.ipdl_term.specs.Steps.{Direction, lr, rl}
use Rattle.ipdl_term.specs.Terms.{Protocol}
use Rattle.ipdl_chain.specs.Chains.{Mark, by_rule, by_theorem, by_assumption, Link, last_of, turned_direction, turned_mark, turned_links}

turned_direction-turned : (direction : Direction) → turned_direction (turned_direction direction) ≡ direction
turned_direction-turned lr = refl
turned_direction-turned rl = refl

pub turned_mark-turned : (mark : Mark) → turned_mark (turned_mark mark) ≡ mark
turned_mark-turned (by_rule direction word place) = ap (λ d. by_rule d word place) (turned_direction-turned direction)
turned_mark-turned (by_theorem direction name place pairs) =
    ap (λ d. by_theorem d name place pairs) (turned_direction-turned direction)
turned_mark-turned (by_assumption direction name place pairs C) =
    ap (λ d. by_assumption d name place pairs C) (turned_direction-turned direction)

last_of-append : (term : Protocol) (links later : List Link) → last_of term (links ++ later) ≡ last_of (last_of term links) later
last_of-append term [] later = refl
last_of-append term (link ∷ links) later = last_of-append link.term links later

turned_links-append : (term : Protocol) (links later : List Link) → turned_links term (links ++ later) ≡ turned_links (last_of term links) later ++ turned_links term links
turned_links-append term [] later = sym (append-nil (turned_links term later))
turned_links-append term (link ∷ links) later =
    ap (λ ls. ls ++ record { mark = turned_mark link.mark; term = term } ∷ []) (turned_links-append link.term links later)
    ∙ append_assoc (turned_links (last_of link.term links) later) (turned_links link.term links) (record { mark = turned_mark link.mark; term = term } ∷ [])

pub last_of-turned : (term : Protocol) (links : List Link) → last_of (last_of term links) (turned_links term links) ≡ term
last_of-turned term [] = refl
last_of-turned term (link ∷ links) =
    last_of-append (last_of link.term links) (turned_links link.term links) (record { mark = turned_mark link.mark; term = term } ∷ [])

pub turned_links-turned : (term : Protocol) (links : List Link) → turned_links (last_of term links) (turned_links term links) ≡ links
turned_links-turned term [] = refl
turned_links-turned term (link ∷ links) =
    let last = last_of link.term links in
    let back : Link = record { mark = turned_mark link.mark; term = term } in
    turned_links-append last (turned_links link.term links) (back ∷ [])
    ∙ ap₂ (λ first others. turned_links first (back ∷ []) ++ others) (last_of-turned link.term links) (turned_links-turned link.term links)
    ∙ ap (λ mark. record { mark = mark; term = link.term } ∷ links) (turned_mark-turned link.mark)
