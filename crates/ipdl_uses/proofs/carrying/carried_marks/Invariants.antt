use Rattle.std.proofs.Common.{◌≡◌, ◌++◌, [], ℕ, length, map, drop, All}
use Rattle.ipdl_chain.specs.Views.{IsMarkWithin, IsWithin, chain_of, first_of, links_of, mark_of, others_of}
use Rattle.ipdl_term.specs.Views.{context_of}
use Rattle.ipdl_term.specs.Within.{IsContextWithin}
use Rattle.ipdl_uses.specs.Adding.{carried_marks}
use Rattle.ipdl_uses.specs.Views.{use_at}
use Rattle.ipdl_uses.proofs.carrying.carried_marks.Given as goal

abbrev pub invariant-loop-index : goal.invariant-loop-index
invariant-loop-index l = record {
  value : map mark_of l.made.items ++ carried_marks (use_at [] l.site) (first_of (drop l.index l.chain.terms)) (links_of (drop l.index l.chain.marks) (others_of (drop l.index l.chain.terms)))
      ≡ carried_marks (use_at [] l.site) (chain_of l.chain).first (chain_of l.chain).links;
  count : length l.made.items ≡ l.index;
  within : (symbols : ℕ) → IsWithin symbols l.chain → IsContextWithin symbols (context_of l.site.ctx.now) → All (λ mark. IsMarkWithin symbols mark) l.made.items;
}
