-- What a use adds to a chain, as the program holds it: terms of the chain that is used, and the marks of their whole terms.
use Rattle.std.specs.Borrow.{Bor}
use Rattle.std.specs.Prelude.{List, [], ◌∷◌, ◌++◌, map, All, Contains}
use Rattle.ipdl_chain.specs.Chains.{Mark, Link, Chain, turned_mark, turned}
use Rattle.ipdl_chain.specs.Views.{mark_of}
use Rattle.ipdl_chain.specs.declared.chain.Mark.{Mark as HeldMark}
use Rattle.ipdl_term.specs.Steps.{Direction, lr, rl}
use Rattle.ipdl_term.specs.Terms.{Protocol}
use Rattle.ipdl_term.specs.Views.{protocol_of}
use Rattle.ipdl_term.specs.declared.protocol.Proto.{Proto}
use Rattle.ipdl_uses.specs.Uses.{Use, instance_of, instance_mark}

-- the terms that references are to
abbrev pub lent_terms : List (Bor Proto) → List Proto
lent_terms references = map (λ (reference : Bor Proto). reference.now) references

-- these are among the terms
abbrev pub AreAmong : List Proto → List (Bor Proto) → Type 0
AreAmong terms references = All (λ (reference : Bor Proto). Contains terms reference.now) references

-- the one of two sides to which a use leads
abbrev pub far_of : Direction → (left right : Proto) → Proto
far_of lr left right = right
far_of rl left right = left

-- the whole terms of some terms where they are used
abbrev pub terms_at : Use → List Proto → List Protocol
terms_at u terms = map (λ term. instance_of u (protocol_of term)) terms

-- each mark with the whole term that comes by it
abbrev pub links_by : List HeldMark → List Protocol → List Link
links_by [] terms = []
links_by (mark ∷ marks) [] = []
links_by (mark ∷ marks) (term ∷ terms) = record { mark = mark_of mark; term = term } ∷ links_by marks terms

-- the chain, or for `rl` the chain from its last term back to its first one
abbrev pub directed : Direction → Chain → Chain
directed lr chain = chain
directed rl chain = turned chain

-- ---- all neighbours of a chain

-- the marks of some links where they are used, the first of which has this term above it
abbrev pub carried_marks : Use → (upper : Protocol) → List Link → List Mark
carried_marks u upper [] = []
carried_marks u upper (link ∷ links) = instance_mark u upper link.mark ∷ carried_marks u link.term links

-- from the last one back to the first one: each mark turned, with the term above it
abbrev pub links_back : List HeldMark → List Protocol → List Link
links_back [] uppers = []
links_back (mark ∷ marks) [] = []
links_back (mark ∷ marks) (upper ∷ uppers) =
    links_back marks uppers ++ record { mark = turned_mark (mark_of mark); term = upper } ∷ []
