use Rattle.std.proofs.Common.{◌≡◌, ◌++◌, ℕ, List, length, All, vec_len}
use Rattle.ipdl_chain.specs.Views.{IsMarkWithin}
use Rattle.ipdl_term.specs.declared.protocol.Proto.{Proto}
use Rattle.ipdl_uses.specs.Adding.{AreAmong, lent_terms, links_back, links_by, terms_at}
use Rattle.ipdl_uses.specs.Uses.{Use}
use Rattle.ipdl_uses.proofs.adding.turned_back.Given as goal

abbrev pub invariant-loop-mark : goal.invariant-loop-mark
invariant-loop-mark l = record {
  paired : length l.uppers.items ≡ length l.marks.items;
  same : length l.lower.items ≡ length l.turned.items;
  links : (u : Use) → links_by l.turned.items (terms_at u (lent_terms l.lower.items)) ++ links_back l.marks.items (terms_at u (lent_terms l.uppers.items))
      ≡ links_back l.initial.marks.items (terms_at u (lent_terms l.initial.uppers.items));
  marks : (symbols : ℕ) → All (λ mark. IsMarkWithin symbols mark) l.initial.marks.items →
      All (λ mark. IsMarkWithin symbols mark) l.marks.items × All (λ mark. IsMarkWithin symbols mark) l.turned.items;
  terms : (terms : List Proto) → AreAmong terms l.initial.uppers.items → AreAmong terms l.uppers.items × AreAmong terms l.lower.items;
}

abbrev pub decreases-loop-mark : goal.decreases-loop-mark
decreases-loop-mark l = vec_len l.marks
