use Rattle.std.proofs.Common.{◌≡◌, ◌<◌, ◌++◌, length, get_or, ap, ◌∙◌, arith, subst}
use Rattle.ipdl_tree.specs.declared.tree.Tree.{Tree}
use Rattle.ipdl_tree.specs.Spelling.{tree_text}
use Rattle.ipdl_tree.specs.Views.{located}
use Rattle.ipdl_tree.specs.WellFormed.{IsWellFormed}
use Rattle.ipdl_tree.proofs.Writing.{forest_text-more, text-joined, AreWellFormed-more}
use Rattle.ipdl_tree.proofs.write.+write.Goals as goal

pub push_group-loop-i-preserved : goal.push_group-loop-i-preserved
push_group-loop-i-preserved t c =
    let below : c.loop-i.i < length c.args.parts.now = omega arith in
    let part = c.index-parts-i.result in
    let more = forest_text-more c.args.parts.now c.loop-i.i part below in
    let written : c.push_tree.new.text.items ≡ c.push_blank_before.new.text.items ++ tree_text (located (get_or c.args.parts.now c.loop-i.i part)) =
    c.in_ok-push_tree.ensures.text ∙ ap (λ (u : Tree). c.push_blank_before.new.text.items ++ tree_text (located u)) c.index-parts-i.is in
    let Q : Tree → Type 0 = λ u. IsWellFormed (located u) in
    record {
      written = text-joined _ _ _ _ _ _ _ _ c.loop-i.invariant.written c.in_ok-push_blank_before.ensures written more;
      well_formed = AreWellFormed-more c.args.parts.now c.loop-i.i part below c.loop-i.invariant.well_formed (subst Q c.index-parts-i.is c.in_ok-push_tree.ensures.well_formed);
    }
