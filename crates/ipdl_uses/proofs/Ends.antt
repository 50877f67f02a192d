-- The ends of chains of the program.
use Rattle.std.proofs.Common.{◌≡◌, ℕ, zero, suc, List, [], ◌∷◌, length, get_or, refl, ap, ◌∙◌, arith}
use Rattle.ipdl_chain.specs.Chains.{last_of}
use Rattle.ipdl_chain.specs.Views.{first_of, links_of, others_of}
use Rattle.ipdl_chain.specs.declared.chain.Mark.{Mark as HeldMark}
use Rattle.ipdl_term.specs.Views.{protocol_of}
use Rattle.ipdl_term.specs.declared.protocol.Proto.{Proto}

last_there : (marks : List HeldMark) (term : Proto) (terms : List Proto) (n : ℕ) (x : Proto) → length terms ≡ length marks → n ≡ length terms → protocol_of (get_or (term ∷ terms) n x) ≡ last_of (protocol_of term) (links_of marks terms)
last_there [] term [] zero x same is = refl
last_there [] term [] (suc n) x same is = absurd (omega arith)
last_there [] term (next ∷ terms) n x same is = absurd (omega arith)
last_there (mark ∷ marks) term [] n x same is = absurd (omega arith)
last_there (mark ∷ marks) term (next ∷ terms) zero x same is = absurd (omega arith)
last_there (mark ∷ marks) term (next ∷ terms) (suc n) x same is = last_there marks next terms n x (omega arith) (omega arith)

-- the last term
pub last_end : (terms : List Proto) (marks : List HeldMark) (n : ℕ) (x : Proto) → length terms ≡ suc (length marks) → suc n ≡ length terms → x ≡ get_or terms n x → protocol_of x ≡ last_of (first_of terms) (links_of marks (others_of terms))
last_end [] marks n x more last is = absurd (omega arith)
last_end (term ∷ terms) marks n x more last is =
    ap protocol_of is ∙ last_there marks term terms n x (omega arith) (omega arith)
